use Rattle.std.proofs.Common.{◌≡◌, ℕ, List, [], ◌∷◌, ◌++◌, ◌==◌, ◌&&◌, ap, subst, refl, ◌∙◌, rules, bit_or}
use Rattle.std.specs.List.{list_all}
use Rattle.std.proofs.lemmas.Fn.{fold_over, slice_gives, fronts}
use Rattle.tables.specs.Limits.{is_empty}
use Rattle.tables.specs.declared.row.TradeRow.{TradeRow}
use Rattle.tables.proofs.Alls.{list_all_push}
use Rattle.tables.proofs.Bits.{or_zero}
use Rattle.tables.proofs.checking.all_empty.Goals as goal

-- no bit is set exactly where all places are empty
abbrev none_set : List TradeRow → ℕ → Type 0
none_set ps bits = (bits == 0) ≡ list_all is_empty ps

one_more : (ps : List TradeRow) (p : TradeRow) (bits more : ℕ) → none_set ps bits → (more == 0) ≡ is_empty p → none_set (ps ++ (p ∷ [])) (bit_or bits more)
one_more ps p bits more all one =
    or_zero bits more ∙ ap (λ b. bits == 0 && b) one ∙ list_all_push is_empty ps p (bits == 0) all

pub returns : goal.returns
returns c = subst (λ ps. none_set ps c.fold.result) c.iter.ensures.rest
    (fold_over fronts (λ y. y.now) _ none_set _ (λ ps bits x b f' all k. let more = one_more ps x.now bits in search rules)
    _ _ _ _ (slice_gives c.iter.result) refl c.fold.ensures.ran)
