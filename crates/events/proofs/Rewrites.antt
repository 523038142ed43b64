-- Encoding again what was read.
use Rattle.std.proofs.Common.{◌≡◌, ℕ, zero, suc, ◌+◌, ◌*◌, ◌/◌, ◌%◌, ◌<◌, ◌≤◌, List, [], ◌∷◌, length, get_or, drop, sym, refl, ap, ◌∙◌, arith}
use Rattle.std.proofs.lemmas.List.{get_or_past, drop_more}
use Rattle.std.specs.List.{All, AllByRecursion}
use Rattle.std.proofs.lemmas.List.Elements.{recursion_from_All}
use Rattle.events.specs.Numbers.{u8_at, u16_at, u32_at, u64_at}
use Rattle.events.specs.Kinds.{code_of, length_of}
use Rattle.events.specs.Record.{event_at}
use Rattle.events.specs.Encoded.{bytes_2, bytes_4, bytes_8, encoded, Fits}
use Rattle.events.specs.declared.event.Kind.{Kind}
use Rattle.events.specs.declared.event.Kind.TheVariants as kinds

cut_2 : (x y : ℕ) → x < 256 → y < 256 → ((x + 256 * y) % 256 ≡ x) × ((x + 256 * y) / 256 % 256 ≡ y)
cut_2 x y a b = (omega arith, omega arith)

cut_4 : (x y z w : ℕ) → x < 256 → y < 256 → z < 256 → w < 256
    → ((x + 256 * y + 65536 * (z + 256 * w)) % 256 ≡ x) × ((x + 256 * y + 65536 * (z + 256 * w)) / 256 % 256 ≡ y)
    × ((x + 256 * y + 65536 * (z + 256 * w)) / 65536 % 256 ≡ z) × ((x + 256 * y + 65536 * (z + 256 * w)) / 16777216 % 256 ≡ w)
cut_4 x y z w a b c d = (omega arith, omega arith, omega arith, omega arith)

cut_8 : (x y : ℕ) → x < 4294967296 → y < 4294967296 → ((x + 4294967296 * y) % 4294967296 ≡ x) × ((x + 4294967296 * y) / 4294967296 ≡ y)
cut_8 x y a b = (omega arith, omega arith)

-- the k bytes from i + j on, before what follows
abbrev window : List ℕ → ℕ → ℕ → ℕ → List ℕ → List ℕ
window bs i j zero r = r
window bs i j (suc k) r = get_or bs (i + j) 0 ∷ window bs i (j + 1) k r

unrolled : (bs : List ℕ) (i j k : ℕ) → i + j + k ≤ length bs → drop (i + j) bs ≡ window bs i j k (drop (i + j + k) bs)
unrolled bs i j zero le = let e : i + j + 0 ≡ i + j = omega arith in sym (ap (λ z. drop z bs) e)
unrolled bs i j (suc k) le =
    let e : i + j + 1 ≡ i + (j + 1) = omega arith in
    let d : i + (j + 1) + k ≡ i + j + suc k = omega arith in
    let m = unrolled bs i (j + 1) k (omega arith) in
    drop_more bs (i + j) 0 (omega arith) ∙ ap (λ z. get_or bs (i + j) 0 ∷ drop z bs) e ∙ ap (λ z. get_or bs (i + j) 0 ∷ z) m
    ∙ ap (λ z. get_or bs (i + j) 0 ∷ window bs i (j + 1) k (drop z bs)) d

each : (bs : List ℕ) → AllByRecursion (λ b. b < 256) bs → (k : ℕ) → get_or bs k 0 < 256
each [] h k = omega (arith, get_or_past {X = ℕ} [] k 0 (omega arith))
each (b ∷ bs) h zero = h.0
each (b ∷ bs) h (suc k) = each bs h.1 k

pub each_byte : (bs : List ℕ) → All (λ b. b < 256) bs → (k : ℕ) → get_or bs k 0 < 256
each_byte bs h = each bs (recursion_from_All (λ b. b < 256) bs h)

module _ (bs : List ℕ) (i : ℕ) (byte : (k : ℕ) → get_or bs k 0 < 256) where
  wide_2 : (j : ℕ) → u16_at bs j < 65536
  wide_2 j = omega (arith, byte j, byte (j + 1))

  wide_4 : (j : ℕ) → u32_at bs j < 4294967296
  wide_4 j = omega (arith, wide_2 j, wide_2 (j + 2))

  wide_8 : (j : ℕ) → u64_at bs j < 18446744073709551616
  wide_8 j = omega (arith, wide_4 j, wide_4 (j + 4))

  wrote_1 : (j : ℕ) (r s : List ℕ) → r ≡ s → u8_at bs (i + j) % 256 ∷ r ≡ window bs i j 1 s
  wrote_1 j r s h =
      let e : u8_at bs (i + j) % 256 ≡ get_or bs (i + j) 0 = omega (arith, byte (i + j)) in
      cc

  wrote_2 : (j : ℕ) (r s : List ℕ) → r ≡ s → bytes_2 (u16_at bs (i + j)) r ≡ window bs i j 2 s
  wrote_2 j r s h =
      let e : i + j + 1 ≡ i + (j + 1) = omega arith in
      let c = cut_2 (get_or bs (i + j) 0) (get_or bs (i + j + 1) 0) (byte (i + j)) (byte (i + j + 1)) in
      let a = c.0 in
      let b = c.1 in
      cc

  wrote_4 : (j : ℕ) (r s : List ℕ) → r ≡ s → bytes_4 (u32_at bs (i + j)) r ≡ window bs i j 4 s
  wrote_4 j r s h =
      let e : i + j + 1 ≡ i + (j + 1) = omega arith in
      let f : i + j + 2 ≡ i + (j + 1 + 1) = omega arith in
      let g : i + j + 2 + 1 ≡ i + (j + 1 + 1 + 1) = omega arith in
      let c = cut_4 (get_or bs (i + j) 0) (get_or bs (i + j + 1) 0) (get_or bs (i + j + 2) 0) (get_or bs (i + j + 2 + 1) 0) (byte (i + j)) (byte (i + j + 1)) (byte (i + j + 2)) (byte (i + j + 2 + 1)) in
      let x = c.0 in
      let y = c.1 in
      let z = c.2 in
      let w = c.3 in
      cc

  wrote_8 : (j : ℕ) (r s : List ℕ) → r ≡ s → bytes_8 (u64_at bs (i + j)) r ≡ window bs i j 4 (window bs i (j + 4) 4 s)
  wrote_8 j r s h =
      let e : i + j + 4 ≡ i + (j + 4) = omega arith in
      let c = cut_8 (u32_at bs (i + j)) (u32_at bs (i + j + 4)) (wide_4 (i + j)) (wide_4 (i + j + 4)) in
      ap (λ z. bytes_4 z (bytes_4 (u64_at bs (i + j) / 4294967296) r)) c.0
      ∙ ap (λ z. bytes_4 (u32_at bs (i + j)) (bytes_4 z r)) (c.1 ∙ ap (u32_at bs) e)
      ∙ wrote_4 j _ _ (wrote_4 (j + 4) r s h)

  stood_2 : (j v : ℕ) (r s : List ℕ) → u16_at bs (i + j) ≡ v → r ≡ s → bytes_2 v r ≡ window bs i j 2 s
  stood_2 j v r s e h = ap (λ z. bytes_2 z r) (sym e) ∙ wrote_2 j r s h

  again : (k : Kind) (r : List ℕ) → u16_at bs (i + 0) ≡ length_of k → u16_at bs (i + 2) ≡ code_of k → encoded (event_at bs i k) r ≡ window bs i 0 (length_of k) r
  again kinds.Open r l c = stood_2 0 7 _ _ l (stood_2 2 1 _ _ c (wrote_1 4 _ _ (wrote_2 5 _ _ refl)))
  again kinds.Trade r l c =
      stood_2 0 21 _ _ l (stood_2 2 10 _ _ c (wrote_1 4 _ _ (wrote_4 5 _ _ (wrote_1 9 _ _ (wrote_1 10 _ _ (wrote_2 11 _ _ (wrote_4 13 _ _ (wrote_4 17 _ _ refl))))))))
  again kinds.LodgeCash r l c = stood_2 0 13 _ _ l (stood_2 2 12 _ _ c (wrote_1 4 _ _ (wrote_8 5 _ _ refl)))
  again kinds.DrawCash r l c = stood_2 0 13 _ _ l (stood_2 2 13 _ _ c (wrote_1 4 _ _ (wrote_8 5 _ _ refl)))

  pub fits_at : (k : Kind) → Fits (event_at bs i k)
  fits_at kinds.Open = (byte (i + 4), wide_2 (i + 5))
  fits_at kinds.Trade = (byte (i + 4), wide_4 (i + 5), byte (i + 9), byte (i + 10), wide_2 (i + 11), wide_4 (i + 13), wide_4 (i + 17))
  fits_at kinds.LodgeCash = (byte (i + 4), wide_8 (i + 5))
  fits_at kinds.DrawCash = (byte (i + 4), wide_8 (i + 5))

  -- a record that stands at i is the encoding of its event
  pub record_again : (k : Kind) → u16_at bs i ≡ length_of k → u16_at bs (i + 2) ≡ code_of k → i + length_of k ≤ length bs
      → drop i bs ≡ encoded (event_at bs i k) (drop (i + length_of k) bs)
  record_again k l c le =
      let z : i + 0 ≡ i = omega arith in
      let e : i + 0 + length_of k ≡ i + length_of k = omega arith in
      let u = unrolled bs i 0 (length_of k) (omega arith) in
      let a = again k (drop (i + length_of k) bs) (ap (u16_at bs) z ∙ l) c in
      ap (λ x. drop x bs) (sym z) ∙ u ∙ ap (λ x. window bs i 0 (length_of k) (drop x bs)) e ∙ sym a
