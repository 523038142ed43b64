use Rattle.std.proofs.Common.{◌≡◌, ◌∙◌, ap, rules}
use Rattle.std.proofs.lemmas.Iterator.{YieldsList-from_slice}
use Rattle.std.proofs.lemmas.Iterator.Search.{find_from_yields_List}
use Rattle.std.specs.Option.{option_map}
use Rattle.std.specs.Result.{result_ok}
use Rattle.std.specs.Str.{bytes_eq}
use Rattle.script.specs.Words.{word_text}
use Rattle.script.proofs.Tables.{all, named, kept}
use Rattle.script.proofs.word.WordTryFromRefSliceU8.try_from.Goals as goal

pub returns : goal.returns
returns c =
    let e = find_from_yields_List {v = λ x. x.now} (λ w. bytes_eq c.args.text.now (word_text w)) c.find.new.self _ c.find.result c.find.ensures.ran (YieldsList-from_slice all c.iter.ensures.rest) (λ x b q e. search rules) in
    let f : c.copied.result ≡ option_map (λ x. x.now) c.find.result = search rules in
    ap result_ok c.ok_or.ensures.value ∙ kept c.copied.result _ ∙ f ∙ e ∙ named c.args.text.now
