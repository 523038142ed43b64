-- The residuals at which a model has numbers, and the two that stand next to a residual. Assumes nothing.
--   knots, knot            the twelve knots, and the one at a place from 0 to 11
--   Neighbours             the places of the two knots next to a residual
--   climb                  up from a place, while the next knot is not past a residual
--   low_place, high_place  the places that the knot finder answers
--   Last                   the last place whose knot is not past a residual
--   climb_last, low_last   the finder's low place is that place
--   below_top, last_next   a residual past that knot has a knot after it, and stands between the two
--   neighbours_are         the finder's places are those of the knots next to a residual
use Rattle.std.specs.Prelude.{◌≡◌, ℕ, zero, suc, ◌+◌, ◌<◌, ◌≤◌, Bool, true, false, cond, ◌⊎◌, List, [], ◌∷◌, ◌==◌, nat_le, slice_index, refl}
use Rattle.std.proofs.Common.{ap, inl, inr, arith, leb-true, leb-false, eqb-true}
use Rattle.std.proofs.lemmas.Bool.{eqb-false}

abbrev pub knots : List ℕ
knots = 0 ∷ 1 ∷ 3 ∷ 6 ∷ 9 ∷ 12 ∷ 24 ∷ 36 ∷ 48 ∷ 60 ∷ 84 ∷ 120 ∷ []

abbrev pub knot : ℕ → ℕ
knot i = slice_index knots i

-- p and q are the places of the knots next to m: one place where m is a knot, else two in a row, with m between
abbrev pub Neighbours : ℕ → ℕ → ℕ → Type 0
Neighbours m p q = (q ≤ 11) × (knot p ≤ m) × (m ≤ knot q) × ((p ≡ q) ⊎ ((q ≡ p + 1) × (knot p < m) × (m < knot q)))

-- at most f places
abbrev pub climb : ℕ → ℕ → ℕ → ℕ
climb zero p m = p
climb (suc f) p m = cond (nat_le (knot (p + 1)) m) (climb f (p + 1) m) p

unfoldable pub low_place : ℕ → ℕ
low_place m = climb 11 0 m

abbrev pub high_place : ℕ → ℕ
high_place m = cond (knot (low_place m) == m) (low_place m) (low_place m + 1)

abbrev pub Last : ℕ → ℕ → Type 0
Last m p = (p ≤ 11) × (knot p ≤ m) × (p < 11 → m < knot (p + 1))

pub climb_last : (f p m : ℕ) → f + p ≡ 11 → knot p ≤ m → Last m (climb f p m)
climb_last zero p m e h = (omega arith, h, λ lt. absurd (omega arith))
climb_last (suc f) p m e h =
    let by : (b : Bool) → nat_le (knot (p + 1)) m ≡ b → Last m (cond b (climb f (p + 1) m) p) =
    λ b. elim b as (λ v. nat_le (knot (p + 1)) m ≡ v → Last m (cond v (climb f (p + 1) m) p)) [
      | true ↦ λ t. climb_last f (p + 1) m (omega arith) (leb-true (knot (p + 1)) m t)
      | false ↦ λ t. (omega arith, h, λ lt. leb-false (knot (p + 1)) m t)
    ]
    in
    by (nat_le (knot (p + 1)) m) refl

pub low_last : (m : ℕ) → Last m (low_place m)
unfolding low_place
low_last m = climb_last 11 0 m refl (omega arith)

below_top : (m p : ℕ) → m ≤ 120 → p ≤ 11 → knot p < m → p < 11
below_top m p most l h =
    let not_top : p ≡ 11 → ⊥ = λ e. let k : knot p ≡ 120 = ap knot e in omega arith in
    omega arith

last_next : (m p : ℕ) → m ≤ 120 → Last m p → Neighbours m p (cond (knot p == m) p (p + 1))
last_next m p most l =
    let by : (b : Bool) → (knot p == m) ≡ b → Neighbours m p (cond b p (p + 1)) =
    λ b. elim b as (λ v. (knot p == m) ≡ v → Neighbours m p (cond v p (p + 1))) [
      | true ↦ λ t. let e = eqb-true (knot p) m t in (l.0, l.1, omega arith, inl refl)
      | false ↦ λ t.
          let ne = eqb-false (knot p) m t in
          let strict : knot p < m = omega (arith, l.1) in
          let low = below_top m p most l.0 strict in
          let next = l.2 low in
          (omega arith, l.1, omega arith, inr (refl, strict, next))
    ]
    in
    by (knot p == m) refl

pub neighbours_are : (m : ℕ) → m ≤ 120 → Neighbours m (low_place m) (high_place m)
neighbours_are m most = last_next m (low_place m) most (low_last m)
