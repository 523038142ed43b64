-- Where the knots next to a residual are found. Assumes nothing.
use Rattle.std.proofs.Common.{◌≡◌, ℕ, ◌+◌, ◌-◌, ◌<◌, ◌≤◌, sym, ap, ◌∙◌, subst, ⊎_elim, arith, eq-eqb, ne_eqb, true, false, leb, leb-true, leb-false}
use Rattle.std.specs.List.Sorted.{IsPartitionedBy, IsPartitionPoint}
use Rattle.std.proofs.lemmas.Bool.{cases_lt}
use Rattle.std.proofs.lemmas.List.Sorted.{IsPartitionedBy-leb, IsNonDecreasingBy-from_default}
use Rattle.knots.specs.Knots.{knots, knot, low_place, high_place, low_last, Neighbours, neighbours_are}
use Rattle.knots.specs.Rising.{climbs, knot_most, one_last}

-- what halving asks of the knots
pub parted : (m : ℕ) → IsPartitionedBy (λ k. leb k m) knots
parted m = IsPartitionedBy-leb (λ k. k) knots m (IsNonDecreasingBy-from_default (λ k. k) knots 0 (λ i j h lt. climbs i j h (omega arith)))

-- what it finds is past the last place whose knot is not past m
pub last_found : (m r : ℕ) → IsPartitionPoint (λ k. leb k m ≡ true) (λ k. leb k m ≡ false) knots r → r ≤ 12 → (1 ≤ r) × (r - 1 ≡ low_place m)
last_found m r h most =
    let some : 1 ≤ r =
    ⊎_elim (λ (none : r < 1). absurd (let out : m < 0 = leb-false 0 m (h.1 0 0 (omega arith) (omega arith)) in omega arith)) (λ g. g) (cases_lt r 1)
    in
    let at : knot (r - 1) ≤ m = leb-true (knot (r - 1)) m (h.0 (r - 1) 0 (omega arith) (omega arith)) in
    let next : r - 1 < 11 → m < knot ((r - 1) + 1) =
    λ lt. let e : (r - 1) + 1 ≡ r = omega arith in subst (λ (z : ℕ). m < knot z) (sym e) (leb-false (knot r) m (h.1 r 0 (omega arith) (omega arith)))
    in
    (some, one_last m (r - 1) (low_place m) (omega arith, at, next) (low_last m))

as_places : (m p q : ℕ) → m ≤ 120 → p ≡ low_place m → q ≡ high_place m → Neighbours m p q
as_places m p q most e h =
    subst (λ (z : ℕ). Neighbours m z q) (sym e) (subst (λ (z : ℕ). Neighbours m (low_place m) z) (sym h) (neighbours_are m most))

pub same_place : (m p : ℕ) → m ≤ 120 → p ≡ low_place m → knot p ≡ m → Neighbours m p p × (p ≡ high_place m)
same_place m p most e k =
    let t = eq-eqb (knot (low_place m)) m (ap knot (sym e) ∙ k) in
    let h : p ≡ high_place m = simp t e in
    (as_places m p p most e h, h)

pub next_place : (m p : ℕ) → m ≤ 120 → p ≡ low_place m → (knot p ≡ m → ⊥) → Neighbours m p (p + 1) × (p + 1 ≡ high_place m)
next_place m p most e k =
    let t = ne_eqb (knot (low_place m)) m (λ s. k (ap knot e ∙ s)) in
    let h : p + 1 ≡ high_place m = simp t (ap (λ z. z + 1) e) in
    (as_places m p (p + 1) most e h, h)

pub parts_of : (m p q : ℕ) → Neighbours m p q → (p ≡ q → ⊥) → (m - knot p ≤ knot q - knot p) × (1 ≤ knot q - knot p) × (knot q - knot p ≤ 120)
parts_of m p q n ne =
    let apart : (knot p < m) × (m < knot q) = ⊎_elim (λ e. absurd (ne e)) (λ a. (a.1, a.2)) n.3 in
    let most = knot_most q in
    (omega arith, omega arith, omega arith)
