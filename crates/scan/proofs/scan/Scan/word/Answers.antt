use Rattle.std.proofs.Common.{take, drop, not, ap, ◌∙◌, rules}
use Rattle.scan.proofs.Parts.{split_is, turned}
use Rattle.scan.specs.Words.{blank, letters}
use Rattle.scan.proofs.scan.Scan.word.Goals as goal

pub returns : goal.returns
returns c =
    let text = c.args.self.now.rest.now in
    let a = split_is (λ b. not (blank b)) (λ b r e. search rules) c.split_before.ensures.same c.split_before.ensures.before c.split_before.ensures.stop in
    let b = split_is blank (λ b r e. search rules) c.split_before-2.ensures.same c.split_before-2.ensures.before c.split_before-2.ensures.stop in
    let t = a.1 ∙ ap (λ n. drop n text) (turned blank text) in
    record { value = b.0 ∙ ap (λ r. take (letters r) r) t; after = b.1 ∙ ap (λ r. drop (letters r) r) t }
