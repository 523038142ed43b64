-- A row of losses, one trade more.
use Rattle.std.proofs.Common.{◌≡◌, ℕ, ◌+◌, ◌*◌, ◌<◌, ◌≤◌, List, length, get_or, take, set, ℤ, pos, ◌+ℤ◌, nat_abs, refl, sym, ap, ◌∙◌, ⊎_elim, arith, w64, SFits, to_z, of_z}
use Rattle.std.specs.List.{All}
use Rattle.std.proofs.Math.IntN.{+ℤ_assoc}
use Rattle.std.proofs.lemmas.Int.{to_z-of_z}
use Rattle.std.proofs.lemmas.Bool.{cases_eq, cases_lt}
use Rattle.std.proofs.lemmas.List.{get_or-set_same, get_or-set_other, get_or_past, length-take-le}
use Rattle.std.proofs.lemmas.List.Elements.{All-take}
use Rattle.std.proofs.lemmas.List.FromFn.{fill_by_all}
use Rattle.models.specs.Meaning.{Meaning, Lawful}
use Rattle.tables.specs.declared.row.TradeRow.{TradeRow}
use Rattle.market.specs.declared.day.Day.{Day}
use Rattle.tables.specs.Limits.{no_trade}
use Rattle.risk.specs.Groups.{TradeFits}
use Rattle.risk.specs.Losses.{leg_of, loss_of, losses_of}
use Rattle.risk.proofs.Signs.{fits_money, size_add, sum_next}
use Rattle.risk.proofs.Risks.{loss_most}

module _ (a b : ℤ) (ha : nat_abs a ≤ 126000000000000) (hb : nat_abs b ≤ 2000000000000) where
  pub sum_is : to_z w64 (of_z w64 a) +ℤ to_z w64 (of_z w64 b) ≡ a +ℤ b
  sum_is =
      let p = to_z-of_z w64 a (fits_money a (omega arith)) in
      let q = to_z-of_z w64 b (fits_money b (omega arith)) in
      simp (p, q)

  pub sum_fits : SFits w64 (to_z w64 (of_z w64 a) +ℤ to_z w64 (of_z w64 b))
  sum_fits = simp sum_is (fits_money (a +ℤ b) (omega (arith, size_add a b)))

  pub added : to_z w64 (of_z w64 (to_z w64 (of_z w64 a) +ℤ to_z w64 (of_z w64 b))) ≡ a +ℤ b
  added = to_z-of_z w64 _ sum_fits ∙ sum_is

module _ (f : ℕ → ℤ) (xs ys : List ℤ) (j : ℕ) (v : ℤ) where
  pub adds_below : j < length ys → ((k : ℕ) → k < j → get_or ys k (pos 0) ≡ get_or xs k (pos 0) +ℤ f k) → v ≡ get_or xs j (pos 0) +ℤ f j → (k : ℕ) → k < j + 1 → get_or (set ys j v) k (pos 0) ≡ get_or xs k (pos 0) +ℤ f k
  adds_below lt so_far is k h =
      ⊎_elim
      (λ same. ap (λ i. get_or (set ys j v) i (pos 0)) same ∙ get_or-set_same ys j v (pos 0) lt ∙ is ∙ ap (λ i. get_or xs i (pos 0) +ℤ f i) (sym same))
      (λ other. get_or-set_other ys j k v (pos 0) other ∙ so_far k (omega arith))
      (cases_eq k j)

  pub adds_above : ((k : ℕ) → j ≤ k → get_or ys k (pos 0) ≡ get_or xs k (pos 0)) → (k : ℕ) → j + 1 ≤ k → get_or (set ys j v) k (pos 0) ≡ get_or xs k (pos 0)
  adds_above so_far k h = get_or-set_other ys j k v (pos 0) (λ e. omega arith) ∙ so_far k (omega arith)

module _ (m : Meaning) (d : Day) (ts : List TradeRow) (ys : List ℤ) where
  -- before a trade more is added, no loss is far from 0
  pub losses_small : (xs : List ℤ) (i : ℕ) → Lawful m → All TradeFits ts → i < length ts → ((j : ℕ) → nat_abs (get_or xs j (pos 0)) + 2000000000000 * length ts ≤ 128000000000000) → ((j : ℕ) → j < length ys → get_or ys j (pos 0) ≡ get_or xs j (pos 0) +ℤ loss_of m d j (take i ts)) → (j : ℕ) → nat_abs (get_or ys j (pos 0)) ≤ 126000000000000
  losses_small xs i law fits lt space is j =
      ⊎_elim
      (λ in'. let size = loss_most m d j (take i ts) law (All-take TradeFits i ts fits) in let e = ap nat_abs (is j in') in omega (arith, space j, size_add (get_or xs j (pos 0)) (loss_of m d j (take i ts)), length-take-le i ts (omega arith)))
      (λ past. let e = ap nat_abs (get_or_past ys j (pos 0) past) in omega arith)
      (cases_lt j (length ys))

  -- a trade more: x is a loss at first, y before the trade, and z after it
  pub loss_more : (i j : ℕ) (t : TradeRow) (x y z : ℤ) → i < length ts → t ≡ get_or ts i no_trade → y ≡ x +ℤ loss_of m d j (take i ts) → z ≡ y +ℤ leg_of m d j t → z ≡ x +ℤ loss_of m d j (take (i + 1) ts)
  loss_more i j t x y z lt one so_far is =
      is
      ∙ ap (λ u. u +ℤ leg_of m d j t) so_far
      ∙ +ℤ_assoc x (loss_of m d j (take i ts)) (leg_of m d j t)
      ∙ ap (λ u. x +ℤ u) (sum_next (leg_of m d j) ts i no_trade (loss_of m d j (take i ts)) (leg_of m d j t) lt refl (ap (leg_of m d j) one))

  pub losses_are : length ys ≡ m.scenarios → ((j : ℕ) → j < m.scenarios → get_or ys j (pos 0) ≡ loss_of m d j ts) → ys ≡ losses_of m d ts
  unfolding losses_of
  losses_are len is = fill_by_all (λ j. loss_of m d j ts) ys m.scenarios (pos 0) len is
