-- Changes times a weight, added to losses: one by one, and four at a time, as vectors have them.
use Rattle.std.proofs.Common.{◌≡◌, ℕ, zero, suc, ◌+◌, ◌-◌, ◌*◌, ◌%◌, ◌^◌, ◌<◌, ◌≤◌, List, [], ◌∷◌, ◌++◌, length, map, get_or, take, drop, ℤ, pos, ◌+ℤ◌, ◌*ℤ◌, nat_abs, refl, sym, ap, ◌∙◌, ⊎_elim, mul-le-mul, mod-lt, arith, w32, w64, SFits, to_z, of_z}
use borrow.Rule.Slice.PartMut.{mid_of, put_mid}
use Rattle.std.specs.Int.{int_wrap}
use Rattle.std.specs.Simd.Lanes.{zip2, chunk, put_chunk}
use Rattle.std.proofs.Math.Facts.{Fits-of_z}
use Rattle.std.proofs.lemmas.Bool.{cases_lt}
use Rattle.std.proofs.lemmas.Int.{to_z-of_z, unsigned_abs-mul, wrapping_add-bits, wrapping_mul-bits, int_wrap_fits}
use Rattle.std.proofs.lemmas.List.{get_or-append-add, get_or_append_left, get_or-replicate, get_or-take, get_or-drop, length-map, length-take-le, length-drop}
use Rattle.std.proofs.lemmas.Simd.{get_or-chunk, get_or-put_chunk_below, get_or-put_chunk_at, get_or-put_chunk_above}
use Rattle.risk.proofs.Adds.{sum_fits, added}
use Rattle.risk.proofs.Signs.{fits_money, size_add}
use Rattle.risk.proofs.Sizes.{fits_32}

-- a number of 32 bits, in 64
abbrev wide : ℤ → ℕ
wide z = of_z w64 (to_z w32 (of_z w32 z))

wide_is : (z : ℤ) → nat_abs z ≤ 2000000 → wide z ≡ of_z w64 z
wide_is z h = ap (of_z w64) (to_z-of_z w32 z (fits_32 z h))

wide_back : (z : ℤ) → nat_abs z ≤ 2000000 → to_z w64 (wide z) ≡ z
wide_back z h = ap (to_z w64) (wide_is z h) ∙ to_z-of_z w64 z (fits_money z (omega (arith, h)))

wide_below : (z : ℤ) → nat_abs z ≤ 2000000 → wide z < 2 ^ 64
wide_below z h = rw (wide_is z h) (Fits-of_z {w = w64} {z = z} (fits_money z (omega (arith, h)))).fits

-- a loss, a weight and a change
module _ (a w c : ℤ) (ha : nat_abs a ≤ 126000000000000) (hw : nat_abs w ≤ 1000000) (hc : nat_abs c ≤ 2000000) where
  small : nat_abs (w *ℤ c) ≤ 2000000000000
  small = let most = mul-le-mul hw hc in omega (arith, unsigned_abs-mul w c, most)

  pub sum_small : nat_abs (a +ℤ w *ℤ c) ≤ 128000000000000
  sum_small = omega (arith, size_add a (w *ℤ c), small)

  product_is : to_z w64 (wide w) *ℤ to_z w64 (wide c) ≡ w *ℤ c
  product_is = (λ i. wide_back w (omega (arith, hw)) i *ℤ wide_back c hc i)

  product_small : nat_abs (to_z w64 (wide w) *ℤ to_z w64 (wide c)) ≤ 2000000000000
  product_small = rw product_is small

  -- one by one
  pub loss_fits : SFits w64 (to_z w64 (of_z w64 a) +ℤ to_z w64 (of_z w64 (to_z w64 (wide w) *ℤ to_z w64 (wide c))))
  loss_fits = sum_fits a (to_z w64 (wide w) *ℤ to_z w64 (wide c)) ha product_small

  pub loss_is : to_z w64 (of_z w64 (to_z w64 (of_z w64 a) +ℤ to_z w64 (of_z w64 (to_z w64 (wide w) *ℤ to_z w64 (wide c))))) ≡ a +ℤ w *ℤ c
  loss_is = added a (to_z w64 (wide w) *ℤ to_z w64 (wide c)) ha product_small ∙ ap (λ z. a +ℤ z) product_is

  -- in a vector, which keeps sums and products modulo 2 ^ 64
  product_wraps : to_z w64 ((wide w * wide c) % 2 ^ 64) ≡ w *ℤ c
  product_wraps =
      wrapping_mul-bits w64 (wide w) (wide c) (wide_below w (omega (arith, hw))) (wide_below c hc)
      ∙ ap (int_wrap w64) product_is
      ∙ int_wrap_fits w64 (w *ℤ c) (fits_money (w *ℤ c) (omega (arith, small)))

  sum_wraps : to_z w64 ((of_z w64 a + (wide w * wide c) % 2 ^ 64) % 2 ^ 64) ≡ a +ℤ w *ℤ c
  sum_wraps =
      let fits = fits_money a (omega (arith, ha)) in
      wrapping_add-bits w64 (of_z w64 a) ((wide w * wide c) % 2 ^ 64) (Fits-of_z {w = w64} {z = a} fits).fits (mod-lt (wide w * wide c) (omega arith))
      ∙ ap (int_wrap w64) (λ i. to_z-of_z w64 a fits i +ℤ product_wraps i)
      ∙ int_wrap_fits w64 (a +ℤ w *ℤ c) (fits_money (a +ℤ w *ℤ c) (omega (arith, sum_small)))

-- the lanes of a vector of losses, each with a product added
abbrev lanes : List ℤ → List ℤ → List ℤ → List ℤ
lanes ls ws cs = map (to_z w64) (zip2 (λ m n. (m + n) % 2 ^ 64) (map (of_z w64) ls) (zip2 (λ m n. (m * n) % 2 ^ 64) (map (λ n. of_z w64 (to_z w32 n)) (map (of_z w32) ws)) (map (λ n. of_z w64 (to_z w32 n)) (map (of_z w32) cs))))

pub lanes_long : (ls ws cs : List ℤ) → length ls ≡ length ws → length ls ≡ length cs → length (lanes ls ws cs) ≡ length ls
lanes_long [] ws cs p q = refl
lanes_long (a ∷ ls) [] cs p q = absurd (omega arith)
lanes_long (a ∷ ls) (w ∷ ws) [] p q = absurd (omega arith)
lanes_long (a ∷ ls) (w ∷ ws) (c ∷ cs) p q = ap suc (lanes_long ls ws cs (omega arith) (omega arith))

pub lane_is : (ls ws cs : List ℤ) (j : ℕ) → length ls ≡ length ws → length ls ≡ length cs → j < length ls
    → nat_abs (get_or ls j (pos 0)) ≤ 126000000000000 → nat_abs (get_or ws j (pos 0)) ≤ 1000000 → nat_abs (get_or cs j (pos 0)) ≤ 2000000
    → get_or (lanes ls ws cs) j (pos 0) ≡ get_or ls j (pos 0) +ℤ get_or ws j (pos 0) *ℤ get_or cs j (pos 0)
lane_is [] ws cs j p q lt ha hw hc = absurd (omega arith)
lane_is (a ∷ ls) [] cs j p q lt ha hw hc = absurd (omega arith)
lane_is (a ∷ ls) (w ∷ ws) [] j p q lt ha hw hc = absurd (omega arith)
lane_is (a ∷ ls) (w ∷ ws) (c ∷ cs) zero p q lt ha hw hc = sum_wraps a w c ha hw hc
lane_is (a ∷ ls) (w ∷ ws) (c ∷ cs) (suc j) p q lt ha hw hc = lane_is ls ws cs j (omega arith) (omega arith) (omega arith) ha hw hc

-- numbers that go into a vector and come out of it
same_64 : (xs : List ℤ) (j : ℕ) → nat_abs (get_or xs j (pos 0)) ≤ 128000000000000 → get_or (map (to_z w64) (map (of_z w64) xs)) j (pos 0) ≡ get_or xs j (pos 0)
same_64 [] j h = refl
same_64 (x ∷ xs) zero h = to_z-of_z w64 x (fits_money x (omega (arith, h)))
same_64 (x ∷ xs) (suc j) h = same_64 xs j h

same_32 : (xs : List ℤ) (j : ℕ) → nat_abs (get_or xs j (pos 0)) ≤ 2000000 → get_or (map (to_z w32) (map (of_z w32) xs)) j (pos 0) ≡ get_or xs j (pos 0)
same_32 [] j h = refl
same_32 (x ∷ xs) zero h = to_z-of_z w32 x (fits_32 x h)
same_32 (x ∷ xs) (suc j) h = same_32 xs j h

-- four numbers, read from place i on
module _ (xs : List ℤ) (i j : ℕ) (lt : j < 4) where
  at : get_or (chunk i 4 xs) j (pos 0) ≡ get_or xs (i + j) (pos 0)
  at = get_or-chunk i 4 xs j (pos 0) lt

  pub read_64 : nat_abs (get_or xs (i + j) (pos 0)) ≤ 126000000000000 → get_or (map (to_z w64) (map (of_z w64) (chunk i 4 xs))) j (pos 0) ≡ get_or xs (i + j) (pos 0)
  read_64 h = same_64 (chunk i 4 xs) j (omega (arith, h, ap nat_abs at)) ∙ at

  pub read_32 : nat_abs (get_or xs (i + j) (pos 0)) ≤ 2000000 → get_or (map (to_z w32) (map (of_z w32) (chunk i 4 xs))) j (pos 0) ≡ get_or xs (i + j) (pos 0)
  read_32 h = same_32 (chunk i 4 xs) j (omega (arith, h, ap nat_abs at)) ∙ at

-- four times the same weight
pub weight_is : (w : ℤ) (j : ℕ) → j < 4 → get_or (w ∷ w ∷ w ∷ w ∷ []) j (pos 0) ≡ w
weight_is w j lt = get_or-replicate 4 j w (pos 0) lt

-- Four sums are written at place i. xs are the losses before the loop, ys those before this turn of it.
module _ (xs ys row sums : List ℤ) (w : ℤ) (i : ℕ) (room : i + 4 ≤ length ys) (four : length sums ≡ 4) where
  abbrev four_sums : List ℤ
  four_sums = map (to_z w64) (map (of_z w64) sums)

  long : length four_sums ≡ 4
  long = length-map (map (of_z w64) sums) (to_z w64) ∙ length-map sums (of_z w64) ∙ four

  pub fours_below : ((j : ℕ) → j < 4 → get_or sums j (pos 0) ≡ get_or ys (i + j) (pos 0) +ℤ w *ℤ get_or row (i + j) (pos 0))
      → ((j : ℕ) → j < 4 → nat_abs (get_or sums j (pos 0)) ≤ 128000000000000)
      → ((j : ℕ) → j < i → get_or ys j (pos 0) ≡ get_or xs j (pos 0) +ℤ w *ℤ get_or row j (pos 0))
      → ((j : ℕ) → i ≤ j → get_or ys j (pos 0) ≡ get_or xs j (pos 0))
      → (j : ℕ) → j < i + 4 → get_or (put_chunk i ys four_sums) j (pos 0) ≡ get_or xs j (pos 0) +ℤ w *ℤ get_or row j (pos 0)
  fours_below is near below above j lt =
      ⊎_elim
      (λ before. get_or-put_chunk_below i ys four_sums j (pos 0) before ∙ below j before)
      (λ here.
      let k = j - i in
      let back : i + k ≡ j = omega arith in
      let few : k < 4 = omega arith in
      ap (λ n. get_or (put_chunk i ys four_sums) n (pos 0)) (sym back)
      ∙ get_or-put_chunk_at i ys four_sums k (pos 0) (omega (arith, long)) (omega (arith, long))
      ∙ same_64 sums k (near k few)
      ∙ is k few
      ∙ ap (λ n. get_or ys n (pos 0) +ℤ w *ℤ get_or row n (pos 0)) back
      ∙ ap (λ z. z +ℤ w *ℤ get_or row j (pos 0)) (above j here))
      (cases_lt j i)

  pub fours_above : ((j : ℕ) → i ≤ j → get_or ys j (pos 0) ≡ get_or xs j (pos 0)) → (j : ℕ) → i + 4 ≤ j → get_or (put_chunk i ys four_sums) j (pos 0) ≡ get_or xs j (pos 0)
  fours_above above j le = get_or-put_chunk_above i ys four_sums j (pos 0) (omega (arith, long)) ∙ above j (omega arith)

-- From place i on the losses are put back as zs. xs are the losses before the loop, ys those after it.
module _ (xs ys row zs : List ℤ) (w : ℤ) (i : ℕ) (within : i ≤ length ys) (same : length row ≡ length ys) (whole : length zs ≡ length (mid_of i (length ys - i) ys)) where
  part : (ls : List ℤ) (m : ℕ) → m < length ls - i → get_or (mid_of i (length ls - i) ls) m (pos 0) ≡ get_or ls (i + m) (pos 0)
  part ls m few = get_or-take (length ls - i) (drop i ls) m (pos 0) few ∙ get_or-drop i ls m (pos 0)

  left : length zs ≡ length ys - i
  left = whole ∙ length-take-le (length ys - i) (drop i ys) (omega (arith, length-drop i ys))

  pub all_added : ((j : ℕ) → j < i → get_or ys j (pos 0) ≡ get_or xs j (pos 0) +ℤ w *ℤ get_or row j (pos 0))
      → ((j : ℕ) → i ≤ j → get_or ys j (pos 0) ≡ get_or xs j (pos 0))
      → ((j : ℕ) → j < length (mid_of i (length ys - i) ys) → get_or zs j (pos 0) ≡ get_or (mid_of i (length ys - i) ys) j (pos 0) +ℤ w *ℤ get_or (mid_of i (length row - i) row) j (pos 0))
      → (j : ℕ) → j < length ys → get_or (put_mid i (length ys - i) ys zs) j (pos 0) ≡ get_or xs j (pos 0) +ℤ w *ℤ get_or row j (pos 0)
  all_added below above last j lt =
      let front = length-take-le i ys within in
      let after = drop (length ys - i) (drop i ys) in
      ⊎_elim
      (λ before. get_or_append_left (take i ys) (zs ++ after) (pos 0) j (omega (arith, front)) ∙ get_or-take i ys j (pos 0) before ∙ below j before)
      (λ here.
      let m = j - i in
      let back : length (take i ys) + m ≡ j = omega (arith, front) in
      let at : i + m ≡ j = omega arith in
      ap (λ n. get_or (put_mid i (length ys - i) ys zs) n (pos 0)) (sym back)
      ∙ get_or-append-add (take i ys) (zs ++ after) m (pos 0)
      ∙ get_or_append_left zs after (pos 0) m (omega (arith, left))
      ∙ last m (omega (arith, whole, left))
      ∙ (λ k. part ys m (omega arith) k +ℤ w *ℤ part row m (omega (arith, same)) k)
      ∙ ap (λ n. get_or ys n (pos 0) +ℤ w *ℤ get_or row n (pos 0)) at
      ∙ ap (λ z. z +ℤ w *ℤ get_or row j (pos 0)) (above j here))
      (cases_lt j i)
