-- The knots rise, and so the finder answers one place. Assumes nothing.
--   rises, step_up         so many knots are each below the next; all are
--   ap_le                  the same knot is no smaller
--   climbs                 a later knot is no smaller
--   knot_most              no knot is past 120
--   not_below              of two such places none is below the other
--   one_last               a residual has one last place whose knot is not past it
--   on_low, between_low    that place of a knot, and of a residual between two
use Rattle.std.proofs.Common.{◌≡◌, ℕ, zero, suc, ◌+◌, ◌<◌, ◌≤◌, Bool, true, ◌&&◌, ltb, refl, ap, subst, ⊎_elim, arith}
use Rattle.std.proofs.lemmas.Bool.{cases_order, cases_lt}
use Rattle.std.proofs.lemmas.Bool.Decides.{Decides-below_and, Decides-ltb}
use Rattle.std.proofs.lemmas.List.{get_or_past}
use Rattle.knots.specs.Knots.{knots, knot, Last, low_place, low_last}

-- the knots rise
abbrev rises : ℕ → Bool
rises zero = true
rises (suc n) = ltb (knot n) (knot (n + 1)) && rises n

step_up : (i : ℕ) → i < 11 → knot i < knot (i + 1)
step_up = (Decides-below_and (λ i. ltb (knot i) (knot (i + 1))) (λ i. knot i < knot (i + 1)) rises (λ i. Decides-ltb _ _) refl (λ _. refl) 11).0 refl

ap_le : (i k : ℕ) → i ≡ k → knot i ≤ knot k
ap_le i k e = let f : knot i ≡ knot k = ap knot e in omega arith

pub climbs : (i k : ℕ) → i ≤ k → k ≤ 11 → knot i ≤ knot k
climbs i zero h most = let e : i ≡ 0 = omega arith in ap_le i 0 e
climbs i (suc k) h most =
    ⊎_elim
    (λ lt. let a = climbs i k (omega arith) (omega arith) in
    let e : k + 1 ≡ suc k = omega arith in
    let b : knot k < knot (suc k) = subst (λ (z : ℕ). knot k < knot z) e (step_up k (omega arith)) in omega arith)
    (λ (ge : suc k ≤ i). let e : i ≡ suc k = omega arith in ap_le i (suc k) e)
    (cases_lt i (suc k))

pub knot_most : (k : ℕ) → knot k ≤ 120
knot_most k =
    ⊎_elim (λ lt. climbs k 11 (omega arith) (omega arith))
    (λ (ge : 12 ≤ k). let e : knot k ≡ 0 = get_or_past knots k 0 ge in omega arith) (cases_lt k 12)

not_below : (m p q : ℕ) → Last m p → Last m q → p < q → ⊥
not_below m p q a b lt =
    let up = climbs (p + 1) q (omega arith) b.0 in
    let next = a.2 (omega (arith, b.0)) in
    omega (arith, b.1)

pub one_last : (m p q : ℕ) → Last m p → Last m q → p ≡ q
one_last m p q a b =
    ⊎_elim (λ e. e) (⊎_elim (λ lt. absurd (not_below m p q a b lt)) (λ lt. absurd (not_below m q p b a lt))) (cases_order p q)

pub on_low : (i : ℕ) → i < 12 → low_place (knot i) ≡ i
on_low i h = one_last (knot i) _ i (low_last (knot i)) (omega arith, omega arith, λ lt. step_up i lt)

pub between_low : (i m : ℕ) → i < 11 → knot i < m → m < knot (i + 1) → low_place m ≡ i
between_low i m h a b = one_last m _ i (low_last m) (omega arith, omega arith, λ _. b)
