-- Trades of one benchmark and residual, netted: the losses are their net times the changes.
use Rattle.std.proofs.Common.{◌≡◌, ℕ, zero, suc, ◌+◌, ◌-◌, ◌*◌, ◌<◌, ◌≤◌, true, leb, List, [], ◌∷◌, length, map, get_or, ℤ, pos, negsuc, ◌+ℤ◌, ◌*ℤ◌, neg_ℤ, nat_abs, fold, refl, sym, ap, w64, of_z, ◌∙◌, ⊎_elim, arith}
use Rattle.std.specs.Prelude.{int_le, ◌==◌}
use Rattle.std.specs.List.{All, list_all}
use Rattle.std.proofs.Math.IntN.{+ℤ_assoc, +ℤ_idr, +ℤ-suc_ℤ, +ℤ-pred_ℤ, zero-*ℤ, *ℤ-zero, suc_ℤ-*ℤ, pred_ℤ-*ℤ}
use Rattle.std.proofs.Math.Nat.{mul-le-mul_left, le_of_mul-le-mul_left}
use Rattle.std.proofs.lemmas.Bool.{cases_Bool, cases_lt, leb-true, leb-false, le-leb, lt-leb, and_parts, eqb-true}
use Rattle.std.proofs.lemmas.List.Elements.{All-head, All-tail}
use Rattle.std.proofs.lemmas.List.{get_or-map, length-map}
use Rattle.std.proofs.Math.ListN.{get_or-map as get_or_map}
use Rattle.tail.specs.Tail.{ranked, reaches_loss}
use Rattle.tail.proofs.Maps.{ranked_map}
use Rattle.tables.specs.Codes.{side_of}
use Rattle.tables.specs.declared.codes.Side.TheVariants.{Pay}
use Rattle.tables.specs.declared.row.TradeRow.{TradeRow}
use Rattle.tables.proofs.Alls.{all_from}
use Rattle.models.specs.Meaning.{Meaning}
use Rattle.market.specs.declared.day.Day.{Day}
use Rattle.market.specs.Days.{residual_of}
use Rattle.risk.specs.Groups.{alike}
use Rattle.risk.specs.Signs.{signed_sum, negated_for, gain_of}
use Rattle.risk.specs.Losses.{leg_of, loss_of, losses_of, tail_size, tail_loss, var_of}
use Rattle.risk.proofs.Adds.{losses_are}
use Rattle.risk.proofs.Legs.{signed_times}
use Rattle.risk.proofs.Risks.{tail_from, var_from, var_nought}

-- products of signed numbers
times_next : (a z k c : ℤ) → (a +ℤ z) *ℤ c ≡ a *ℤ c +ℤ z *ℤ c → ((a +ℤ z) *ℤ c) +ℤ k ≡ a *ℤ c +ℤ (z *ℤ c +ℤ k)
times_next a z k c e = ap (λ u. u +ℤ k) e ∙ +ℤ_assoc (a *ℤ c) (z *ℤ c) k

add_nought : (a c : ℤ) → (a +ℤ pos zero) *ℤ c ≡ a *ℤ c +ℤ pos zero *ℤ c
add_nought a c =
    ap (λ z. z *ℤ c) (+ℤ_idr a) ∙ sym (ap (λ z. a *ℤ c +ℤ z) (zero-*ℤ c) ∙ +ℤ_idr (a *ℤ c))

add_up : (a c : ℤ) (n : ℕ) → (a +ℤ pos n) *ℤ c ≡ a *ℤ c +ℤ pos n *ℤ c
add_up a c zero = add_nought a c
add_up a c (suc n) =
    ap (λ z. z *ℤ c) (+ℤ-suc_ℤ a (pos n))
    ∙ suc_ℤ-*ℤ (a +ℤ pos n) c
    ∙ times_next a (pos n) c c (add_up a c n)
    ∙ ap (λ z. a *ℤ c +ℤ z) (sym (suc_ℤ-*ℤ (pos n) c))

add_down : (a c : ℤ) (n : ℕ) → (a +ℤ negsuc n) *ℤ c ≡ a *ℤ c +ℤ negsuc n *ℤ c
add_down a c zero =
    ap (λ z. z *ℤ c) (+ℤ-pred_ℤ a (pos zero))
    ∙ pred_ℤ-*ℤ (a +ℤ pos zero) c
    ∙ times_next a (pos zero) (neg_ℤ c) c (add_nought a c)
    ∙ ap (λ z. a *ℤ c +ℤ z) (sym (pred_ℤ-*ℤ (pos zero) c))
add_down a c (suc n) =
    ap (λ z. z *ℤ c) (+ℤ-pred_ℤ a (negsuc n))
    ∙ pred_ℤ-*ℤ (a +ℤ negsuc n) c
    ∙ times_next a (negsuc n) (neg_ℤ c) c (add_down a c n)
    ∙ ap (λ z. a *ℤ c +ℤ z) (sym (pred_ℤ-*ℤ (negsuc n) c))

times_add : (a b c : ℤ) → (a +ℤ b) *ℤ c ≡ a *ℤ c +ℤ b *ℤ c
times_add a (pos n) c = add_up a c n
times_add a (negsuc n) c = add_down a c n

leb_same : (a b c d : ℕ) → (a ≤ b → c ≤ d) → (c ≤ d → a ≤ b) → leb a b ≡ leb c d
leb_same a b c d h k =
    ⊎_elim
    (λ t. le-leb a b (k (leb-true c d t)) ∙ sym t)
    (λ f. lt-leb a b (⊎_elim (λ (l : b < a). l) (λ (l : a ≤ b). absurd (let u = h l in let v = leb-false c d f in omega arith)) (cases_lt b a)) ∙ sym f)
    (cases_Bool (leb c d))

leb_times : (n a b : ℕ) → leb (suc n * a) (suc n * b) ≡ leb a b
leb_times n a b = leb_same (suc n * a) (suc n * b) a b (λ h. le_of_mul-le-mul_left {m = a} {n = b} {k = suc n} h (omega arith)) (λ h. mul-le-mul_left (suc n) h)

product_suc : (n k : ℕ) → suc n * suc k ≡ suc (k + n * suc k)
product_suc n k = grind arith

-- a factor above 0 keeps the order
times_keeps : (n : ℕ) (x y : ℤ) → reaches_loss (pos (suc n) *ℤ x) (pos (suc n) *ℤ y) ≡ reaches_loss x y
times_keeps n (pos a) (pos b) = leb_times n b a
times_keeps n (pos a) (negsuc b) = ap (λ k. int_le (neg_ℤ (pos k)) (pos (suc n * a))) (product_suc n b)
times_keeps n (negsuc a) (pos b) = ap (λ k. int_le (pos (suc n * b)) (neg_ℤ (pos k))) (product_suc n a)
times_keeps n (negsuc a) (negsuc b) =
    ap (λ k. int_le (neg_ℤ (pos k)) (pos (suc n) *ℤ negsuc a)) (product_suc n b)
    ∙ ap (λ k. int_le (negsuc (b + n * suc b)) (neg_ℤ (pos k))) (product_suc n a)
    ∙ leb_same (a + n * suc a) (b + n * suc b) a b
    (λ h. let p = product_suc n a in let q = product_suc n b in let le = le_of_mul-le-mul_left {m = suc a} {n = suc b} {k = suc n} (omega arith) (omega arith) in omega arith)
    (λ h. let p = product_suc n a in let q = product_suc n b in let le = mul-le-mul_left {m = suc a} {n = suc b} (suc n) (omega arith) in omega arith)

-- a sum of multiples of one number
module _ {X : Type 0} (f w : X → ℤ) (c : ℤ) where
  net_from : (a : ℤ) (xs : List X) → All (λ x. f x ≡ w x *ℤ c) xs → fold (λ b x. b +ℤ f x) (a *ℤ c) xs ≡ fold (λ b x. b +ℤ w x) a xs *ℤ c
  net_from a [] h = refl
  net_from a (x ∷ xs) h =
      let here : a *ℤ c +ℤ f x ≡ (a +ℤ w x) *ℤ c = ap (λ z. a *ℤ c +ℤ z) (All-head (λ y. f y ≡ w y *ℤ c) x xs h) ∙ sym (times_add a (w x) c) in
      ap (λ z. fold (λ b y. b +ℤ f y) z xs) here ∙ net_from (a +ℤ w x) xs (All-tail (λ y. f y ≡ w y *ℤ c) x xs h)

  net_sum : (xs : List X) → All (λ x. f x ≡ w x *ℤ c) xs → fold (λ b x. b +ℤ f x) (pos 0) xs ≡ fold (λ b x. b +ℤ w x) (pos 0) xs *ℤ c
  net_sum xs h = ap (λ z. fold (λ b x. b +ℤ f x) z xs) (sym (zero-*ℤ c)) ∙ net_from (pos 0) xs h

gain_times : (n : ℕ) (z : ℤ) → gain_of z * n ≡ gain_of (pos n *ℤ z)
gain_times n (pos k) = grind arith
gain_times zero (negsuc k) = let none : 0 * suc k ≡ 0 = omega arith in sym (ap (λ u. gain_of (neg_ℤ (pos u))) none)
gain_times (suc n) (negsuc k) = let none : 0 * suc n ≡ 0 = omega arith in none ∙ sym (ap (λ u. gain_of (neg_ℤ (pos u))) (product_suc n k))

-- a net that the code finds to be 0, and one that it does not
pub bits_nought : (w : ℤ) → nat_abs w ≤ 64000000 → of_z w64 w ≡ 0 → w ≡ pos 0
bits_nought (pos n) small e = ap pos e
bits_nought (negsuc n) small e = absurd (omega arith)

bits_some : (w : ℤ) → (of_z w64 w ≡ 0 → ⊥) → 0 < nat_abs w
bits_some (pos zero) ne = absurd (ne refl)
bits_some (pos (suc n)) ne = omega arith
bits_some (negsuc n) ne = omega arith

-- what one trade adds to the net of its group
abbrev flow_of : TradeRow → ℤ
flow_of t = negated_for Pay (side_of t.side) (pos t.notional *ℤ pos 1)

module _ (m : Meaning) (d : Day) (f : TradeRow) (ts : List TradeRow) (same : list_all (alike d f) ts ≡ true) where
  abbrev change : ℕ → ℤ
  change j = m.change d.set f.benchmark (residual_of d f) j

  leg_net : (j : ℕ) (t : TradeRow) → alike d f t ≡ true → leg_of m d j t ≡ flow_of t *ℤ change j
  leg_net j t h =
      let both = and_parts (t.benchmark == f.benchmark) (residual_of d t == residual_of d f) h in
      ap (λ k. negated_for Pay (side_of t.side) (pos t.notional *ℤ m.change d.set k (residual_of d t) j)) (eqb-true t.benchmark f.benchmark both.0)
      ∙ ap (λ k. negated_for Pay (side_of t.side) (pos t.notional *ℤ m.change d.set f.benchmark k j)) (eqb-true (residual_of d t) (residual_of d f) both.1)
      ∙ sym (signed_times (side_of t.side) t.notional (change j))

  loss_net : (j : ℕ) → loss_of m d j ts ≡ signed_sum flow_of ts *ℤ change j
  loss_net j = net_sum (leg_of m d j) flow_of (change j) ts (all_from (alike d f) (λ t. leg_of m d j t ≡ flow_of t *ℤ change j) (λ t h. leg_net j t h) ts same)

  module _ (w : ℤ) (is : w ≡ signed_sum flow_of ts) where
    loss_is : (j : ℕ) → loss_of m d j ts ≡ w *ℤ change j
    loss_is j = loss_net j ∙ ap (λ z. z *ℤ change j) (sym is)

    pub net_nought : w ≡ pos 0 → 0 ≡ var_of m d ts
    net_nought nought = sym (var_nought m d ts (λ j. let e = ap nat_abs (loss_is j ∙ ap (λ z. z *ℤ change j) nought ∙ zero-*ℤ (change j)) in omega arith))

    -- cs are the changes, negated where w is below 0, and x is the lowest of their tail
    module _ (n : ℕ) (cs : List ℤ) (x : ℤ) (len : length cs ≡ m.scenarios) (each : (j : ℕ) → j < m.scenarios → pos (suc n) *ℤ get_or cs j (pos 0) ≡ w *ℤ change j) (read : x ≡ get_or (ranked reaches_loss cs) (tail_size (length cs) - 1) (pos 0)) where
      abbrev times : ℤ → ℤ
      times z = pos (suc n) *ℤ z

      times_losses : map times cs ≡ losses_of m d ts
      times_losses =
          losses_are m d ts (map times cs) (length-map cs times ∙ len)
          (λ j h. get_or-map times cs j (pos 0) (pos 0) (omega arith) ∙ each j h ∙ sym (loss_is j))

      times_tail : times x ≡ tail_loss m d ts
      times_tail =
          let k = tail_size (length cs) - 1 in
          tail_from m d ts (map times cs) (times x) times_losses
          (ap times read
          ∙ sym (get_or_map times (ranked reaches_loss cs) k (pos 0))
          ∙ ap (λ z. get_or (map times (ranked reaches_loss cs)) k z) (*ℤ-zero (pos (suc n)))
          ∙ sym (ap (λ zs. get_or zs k (pos 0)) (ranked_map reaches_loss reaches_loss times (times_keeps n) cs))
          ∙ sym (ap (λ l. get_or (ranked reaches_loss (map times cs)) (tail_size l - 1) (pos 0)) (length-map cs times)))

      net_var : (y : ℤ) (g : ℕ) → y ≡ x → g ≡ gain_of y → g * suc n ≡ var_of m d ts
      net_var y g passed got =
          var_from m d ts (times x) (times x) (g * suc n) refl times_tail (ap (λ u. u * suc n) (got ∙ ap gain_of passed) ∙ gain_times (suc n) x)

    sized : (u : ℕ) (cs : List ℤ) (x y : ℤ) (g : ℕ) → 0 < u → length cs ≡ m.scenarios → ((j : ℕ) → j < m.scenarios → pos u *ℤ get_or cs j (pos 0) ≡ w *ℤ change j) → x ≡ get_or (ranked reaches_loss cs) (tail_size (length cs) - 1) (pos 0) → y ≡ x → g ≡ gain_of y → g * u ≡ var_of m d ts
    sized zero cs x y g some len each read passed got = absurd (omega arith)
    sized (suc n) cs x y g some len each read passed got = net_var n cs x len each read y g passed got

    -- v is the net as it was passed, and u its size
    pub net_var_of : (v : ℤ) (u : ℕ) (cs : List ℤ) (x y : ℤ) (g : ℕ) → v ≡ w → (of_z w64 w ≡ 0 → ⊥) → u ≡ nat_abs v → length cs ≡ m.scenarios → ((j : ℕ) → j < m.scenarios → pos (nat_abs v) *ℤ get_or cs j (pos 0) ≡ v *ℤ change j) → x ≡ get_or (ranked reaches_loss cs) (tail_size (length cs) - 1) (pos 0) → y ≡ x → g ≡ gain_of y → g * u ≡ var_of m d ts
    net_var_of v u cs x y g same-net ne abs len each read passed got =
        sized u cs x y g (omega (arith, bits_some w ne, ap nat_abs same-net)) len
        (λ j h. ap (λ i. pos i *ℤ get_or cs j (pos 0)) abs ∙ each j h ∙ ap (λ z. z *ℤ change j) same-net)
        read passed got
