-- Numbers between knots as 32 bits hold them. Assumes nothing.
use Rattle.std.proofs.Common.{◌≡◌, ℕ, ◌+◌, ◌*◌, ◌≤◌, List, get_or, ℤ, pos, negsuc, ◌+ℤ◌, ◌-ℤ◌, ◌*ℤ◌, nat_abs, ap, ◌∙◌, mul-le-mul, arith, w32, SFits, to_z, of_z}
use Rattle.std.proofs.lemmas.Int.{ints, to_z-of_z, to_z_pos}
use Rattle.knots.specs.Interpolation.{floor, interpolated, value_at}
use Rattle.knots.specs.Knots.{low_place, high_place}
use Rattle.knots.specs.KnotTable.{number_at, shock_at}
use Rattle.knots.specs.InterpolationLaws.{size_times, interpolated_most}

abbrev pub cast : ℤ → ℤ
cast z = to_z w32 (of_z w32 z)

pub fits_32 : (z : ℤ) → nat_abs z ≤ 2000000000 → SFits w32 z
fits_32 (pos n) h = record { sfits = omega arith }
fits_32 (negsuc n) h = record { sfits = omega arith }

pub same : (z : ℤ) → nat_abs z ≤ 2000000000 → cast z ≡ z
same z h = to_z-of_z w32 z (fits_32 z h)

module _ (low high : ℤ) (part whole : ℕ) (a : nat_abs low ≤ 200000) (b : nat_abs high ≤ 200000) (less : part ≤ whole) (some : 1 ≤ whole) (most : whole ≤ 120) where
  gap : nat_abs (high -ℤ low) ≤ 400000
  gap = omega (arith, ints)

  pub cast_gap : cast (cast high -ℤ cast low) ≡ high -ℤ low
  cast_gap = let l = same low (omega arith) in let h = same high (omega arith) in let d = same (high -ℤ low) (omega (arith, gap)) in simp (l, h, d)

  pub scaled_most : nat_abs (pos part *ℤ cast (cast high -ℤ cast low)) ≤ 2000000000
  scaled_most =
      let m : part * nat_abs (high -ℤ low) ≤ 48000000 = mul-le-mul (let p : part ≤ 120 = omega arith in p) gap in
      simp cast_gap (rw (size_times part (high -ℤ low)) (omega arith))

  pub interpolation_is : (x y : ℤ) → SFits w32 x → x ≡ pos part *ℤ cast (cast high -ℤ cast low) → y ≡ floor (cast x) whole → low +ℤ y ≡ interpolated low high part whole
  interpolation_is x y fx ex ey =
      let e : x ≡ pos part *ℤ (high -ℤ low) = simp cast_gap at ex in
      ap (λ z. low +ℤ z) (ey ∙ ap (λ z. floor z whole) (to_z-of_z w32 x fx ∙ e))

  pub sum_is : (x y : ℤ) → SFits w32 x → SFits w32 y → x ≡ pos part *ℤ cast (cast high -ℤ cast low) → y ≡ floor (cast x) whole
      → SFits w32 (cast low +ℤ cast y) × (cast (cast low +ℤ cast y) ≡ interpolated low high part whole)
  sum_is x y fx fy ex ey =
      let l = same low (omega arith) in
      let v = to_z-of_z w32 y fy in
      let is = interpolation_is x y fx ex ey in
      let size : nat_abs (low +ℤ y) ≤ 200000 = rw is (interpolated_most low high part whole 200000 less some a b) in
      let back = same (low +ℤ y) (omega arith) in
      (simp (l, v) (fits_32 (low +ℤ y) (omega arith)), simp (l, v, back) is)

pub number_is : (xs : List ℕ) (row m p q r : ℕ) (v : ℤ) → ((k : ℕ) → get_or xs k 0 ≤ 200000) → p ≡ low_place m → q ≡ high_place m
    → v ≡ value_at (to_z w32 (get_or xs (row + p) 0)) (to_z w32 (get_or xs (row + q) 0)) m p q → SFits w32 v → r ≡ nat_abs (cast v) → r ≡ nat_abs (number_at xs row m)
number_is xs row m p q r v ok ep eq ev fits er =
    let a = to_z_pos w32 (get_or xs (row + p) 0) (omega (arith, ok (row + p))) in
    let b = to_z_pos w32 (get_or xs (row + q) 0) (omega (arith, ok (row + q))) in
    let e : v ≡ value_at (pos (get_or xs (row + p) 0)) (pos (get_or xs (row + q) 0)) m p q = simp (a, b) at ev in
    er ∙ ap nat_abs (to_z-of_z w32 v fits ∙ e) ∙ simp (ep, eq)

pub shock_is : (xs : List ℤ) (row runs j m p q : ℕ) (v : ℤ) → ((k : ℕ) → nat_abs (get_or xs k (pos 0)) ≤ 20000) → p ≡ low_place m → q ≡ high_place m
    → v ≡ value_at (cast (get_or xs ((row + p) * runs + j) (pos 0))) (cast (get_or xs ((row + q) * runs + j) (pos 0))) m p q → v ≡ shock_at xs row runs j m
shock_is xs row runs j m p q v ok ep eq ev =
    let a = same (get_or xs ((row + p) * runs + j) (pos 0)) (omega (arith, ok ((row + p) * runs + j))) in
    let b = same (get_or xs ((row + q) * runs + j) (pos 0)) (omega (arith, ok ((row + q) * runs + j))) in
    let e : v ≡ value_at (get_or xs ((row + p) * runs + j) (pos 0)) (get_or xs ((row + q) * runs + j) (pos 0)) m p q = simp (a, b) at ev in
    e ∙ simp (ep, eq)
