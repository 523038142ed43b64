use Rattle.std.proofs.Common.{◌≡◌, subst, refl, rules, nat_le}
use Rattle.std.proofs.lemmas.Fn.{fold_over, slice_gives, fronts}
use Rattle.tables.specs.Limits.{lots_keep}
use Rattle.tables.proofs.Alls.{list_all_push}
use Rattle.tables.proofs.limits.lots_keep.Goals as goal

pub returns : goal.returns
returns c = subst (λ ls. c.fold.result ≡ lots_keep ls) c.iter.ensures.rest
    (fold_over fronts (λ y. y.now) _ (λ ls all. all ≡ lots_keep ls) _ (λ ls all x b f' e k. let more = list_all_push (λ n. nat_le n 1000000) ls x.now all in search rules)
    _ _ _ _ (slice_gives c.iter.result) refl c.fold.ensures.ran)
