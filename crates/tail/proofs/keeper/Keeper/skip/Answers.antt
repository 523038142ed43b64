use Rattle.std.proofs.Common.{◌≡◌, true, false, IsSomeAnd, inl, inr, sym, subst, rules}
use Rattle.std.specs.List.{AllByRecursion}
use Rattle.std.proofs.ByRecursion.{All-weaker}
use Rattle.tail.proofs.Thresholds.{holds_with}
use Rattle.tail.proofs.keeper.Keeper.skip.Goals as goal

pub returns-in-Some-default : goal.returns-in-Some-default
returns-in-Some-default g c =
    let l = c.in-Some-default.ensures in
    let gone = c.skip_to.ensures in
    let ge = g.T.Ranked.reaches in (
      gone.0,
      gone.1,
      inr (λ xs h. holds_with g.met.T.Ranked.orders xs gone.0 c.args.self.now.places.now c.args.self.now.filled c.in-Some-default.lowest l.1 l.0 l.2
          (All-weaker _ (λ z. ge c.in-Some-default.lowest z ≡ true) (λ z k. search rules) gone.0 gone.2) h),
    )

pub returns-in-None-Some : goal.returns-in-None-Some
returns-in-None-Some g c =
    let gone = c.skip_to-in-None-Some.ensures in
    let ge = g.T.Ranked.reaches in
    let none = All-weaker _ (λ z. ge z c.in-None-Some.bar ≡ false) (λ z k. search rules) gone.0 gone.2 in
    (gone.0, gone.1, inl (subst (λ o. IsSomeAnd o (λ t. AllByRecursion (λ y. ge y t ≡ false) gone.0)) (sym c.in-None-Some.is-1) none))
