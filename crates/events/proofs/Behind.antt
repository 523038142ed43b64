-- What stands at a place of a file, where the bytes from there on are known.
use Rattle.std.proofs.Common.{◌≡◌, ℕ, ◌+◌, ◌-◌, ◌≤◌, Bool, ltb, List, length, get_or, drop, Some, None, Option, sym, refl, ap, ◌∙◌, arith, length-drop}
use Rattle.std.proofs.lemmas.List.{get_or-drop}
use Rattle.events.specs.Numbers.{u8_at, u16_at, u32_at, u64_at}
use Rattle.events.specs.Kinds.{kind_of, length_of}
use Rattle.events.specs.Record.{event_at}
use Rattle.events.specs.Steps.{head_by, head_at}
use Rattle.events.specs.declared.event.Kind.{Kind}
use Rattle.events.specs.declared.event.Kind.TheVariants as kinds

-- what stands behind a place, where the bytes from there on are known
module _ (bs xs : List ℕ) (i : ℕ) (h : drop i bs ≡ xs) where
  pub at_1 : (k : ℕ) → u8_at bs (i + k) ≡ u8_at xs k
  at_1 k = sym (get_or-drop i bs k 0) ∙ ap (λ l. get_or l k 0) h

  pub at_2 : (k : ℕ) → u16_at bs (i + k) ≡ u16_at xs k
  at_2 k =
      let e : i + k + 1 ≡ i + (k + 1) = omega arith in
      let a = at_1 k in
      let b = at_1 (k + 1) in
      cc

  pub at_4 : (k : ℕ) → u32_at bs (i + k) ≡ u32_at xs k
  at_4 k =
      let e : i + k + 2 ≡ i + (k + 2) = omega arith in
      let a = at_2 k in
      let b = at_2 (k + 2) in
      cc

  pub at_8 : (k : ℕ) → u64_at bs (i + k) ≡ u64_at xs k
  at_8 k =
      let e : i + k + 4 ≡ i + (k + 4) = omega arith in
      let a = at_4 k in
      let b = at_4 (k + 4) in
      cc

  pub at_start : u16_at bs i ≡ u16_at xs 0
  at_start =
      let e : i + 0 ≡ i = omega arith in
      let a = at_2 0 in
      cc

  pub event_behind : (k : Kind) → event_at xs 0 k ≡ event_at bs i k
  event_behind kinds.Open = sym (simp (at_1 4, at_2 5))
  event_behind kinds.Trade = sym (simp (at_1 4, at_4 5, at_1 9, at_1 10, at_2 11, at_4 13, at_4 17))
  event_behind kinds.LodgeCash = sym (simp (at_1 4, at_8 5))
  event_behind kinds.DrawCash = sym (simp (at_1 4, at_8 5))

  shorter : (m : ℕ) → i ≤ length bs → ltb (length xs) (0 + m) ≡ ltb (length bs) (i + m)
  shorter m le = let e : length xs ≡ length bs - i = sym (ap length h) ∙ length-drop i bs in grind arith

  by_kind : (first : Bool) (o : Option Kind) → i ≤ length bs → head_by xs 0 first o ≡ head_by bs i first o
  by_kind first None le = refl
  by_kind first (Some k) le =
      let a = at_start in
      let s = shorter (length_of k) le in
      simp (a, s)

  pub head_behind : (first : Bool) → i ≤ length bs → head_at xs 0 first ≡ head_at bs i first
  head_behind first le =
      let a = at_2 2 in
      let s = shorter 4 le in
      simp (a, s, by_kind first (kind_of (u16_at xs 2)) le)
