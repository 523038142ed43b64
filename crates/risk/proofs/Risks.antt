-- The losses over the scenarios, their tail and its size.
use Rattle.std.proofs.Common.{◌≡◌, ℕ, ◌-◌, ◌*◌, ◌<◌, ◌≤◌, Bool, true, List, [], length, get_or, ℤ, Some, None, Option, MatchOption, unwrap_or, pos, ◌*ℤ◌, nat_abs, sym, refl, ap, ◌∙◌, subst, ⊎_elim, mul-zero, arith}
use Rattle.std.specs.List.{ContainsAt, All}
use Rattle.std.proofs.lemmas.Int.{ints}
use Rattle.std.proofs.lemmas.Bool.{cases_lt}
use Rattle.std.proofs.lemmas.List.{get_or_default, get_or_past}
use Rattle.std.proofs.lemmas.List.Elements.{All-weaker, All-get_or, All-contains, All-from_get_or, All-from_recursion, Contains-from_at}
use Rattle.std.proofs.lemmas.List.FromFn.{length-map-range_with_len, get_or-map-range_with_len}
use Rattle.tail.specs.Tail.{Short, ranked, reaches_loss}
use Rattle.tail.proofs.Kths.{kth_from_ranked, among_ranked, length_ranked}
use Rattle.tail.proofs.Orders.{loss_orders}
use Rattle.models.specs.Meaning.{Meaning, Lawful}
use Rattle.risk.proofs.Sizes.{size_neg, size_times, times_most}
use Rattle.tables.specs.declared.row.TradeRow.{TradeRow}
use Rattle.market.specs.declared.day.Day.{Day}
use Rattle.risk.specs.Groups.{TradeFits}
use Rattle.tables.specs.Codes.{side_of}
use Rattle.tables.specs.Limits.{no_trade}
use Rattle.tables.specs.declared.codes.Side.{Side}
use Rattle.tables.specs.declared.codes.Side.TheVariants.{Pay, Receive}
use Rattle.market.specs.Days.{residual_of}
use Rattle.risk.specs.Signs.{gain_of, negated_for}
use Rattle.risk.specs.Losses.{leg_of, loss_of, losses_of, tail_size, tail_loss, var_of, AtRisk}
use Rattle.risk.proofs.Signs.{sum_most, gain_le}

-- the k-th highest, or what is said for none
pub kth_or : {X : Type 0} (ge : X → X → Bool) (xs : List X) (k : ℕ) (nil : X) (o : Option X) → 1 ≤ k → MatchOption o (Short k xs) (λ l. (d : X) → l ≡ get_or (ranked ge xs) (k - 1) d) → unwrap_or o nil ≡ get_or (ranked ge xs) (k - 1) nil
kth_or ge xs k nil None some short =
    sym (get_or_past (ranked ge xs) (k - 1) nil (⊎_elim (λ none. omega arith) (λ few. omega (arith, length_ranked ge xs)) short))
kth_or ge xs k nil (Some l) some is = is nil

module _ (m : Meaning) (d : Day) (ts : List TradeRow) where
  length_losses : length (losses_of m d ts) ≡ m.scenarios
  unfolding losses_of
  length_losses = length-map-range_with_len (λ j. loss_of m d j ts) 0 m.scenarios

  pub get_or_losses : (j : ℕ) (e : ℤ) → j < m.scenarios → get_or (losses_of m d ts) j e ≡ loss_of m d j ts
  unfolding losses_of
  get_or_losses j e h = get_or-map-range_with_len (λ i. loss_of m d i ts) 0 m.scenarios j j e h (omega arith)

  -- the lowest of the tail, out of losses that a loop filled
  pub tail_from : (xs : List ℤ) (x : ℤ) → xs ≡ losses_of m d ts → x ≡ get_or (ranked reaches_loss xs) (tail_size (length xs) - 1) (pos 0) → x ≡ tail_loss m d ts
  unfolding tail_loss
  tail_from xs x filled is = let n = length_losses in cc

  -- the value at risk is what its words say
  pub at_risk : Lawful m → AtRisk m d ts (var_of m d ts)
  unfolding tail_loss var_of
  at_risk law =
      let some = law.some_scenario in
      let n = length_losses in
      record {
        loss = tail_loss m d ts;
        kth = kth_from_ranked loss_orders (losses_of m d ts) (tail_size m.scenarios) (tail_loss m d ts) (omega arith) (omega arith)
            (get_or_default (ranked reaches_loss (losses_of m d ts)) (tail_size m.scenarios - 1) (pos 0) (tail_loss m d ts) (omega (arith, length_ranked reaches_loss (losses_of m d ts))));
        is = refl;
      }

  -- what holds of 0 and of each loss holds of the lowest of the tail
  tail_has : (P : ℤ → Type 0) → P (pos 0) → All P (losses_of m d ts) → P (tail_loss m d ts)
  unfolding tail_loss
  tail_has P nil each =
      let rs = ranked reaches_loss (losses_of m d ts) in
      let k = tail_size m.scenarios - 1 in
      let all : All P rs = All-weaker (ContainsAt (losses_of m d ts)) P (λ z h. All-contains P (losses_of m d ts) z each (Contains-from_at (losses_of m d ts) z h)) rs (All-from_recursion (ContainsAt (losses_of m d ts)) rs (among_ranked reaches_loss (losses_of m d ts))) in
      ⊎_elim (λ lt. All-get_or P rs k (pos 0) lt all) (λ past. subst P (sym (get_or_past rs k (pos 0) past)) nil) (cases_lt k (length rs))

  each_loss : (P : ℤ → Type 0) → ((j : ℕ) → P (loss_of m d j ts)) → All P (losses_of m d ts)
  each_loss P h = All-from_get_or P (losses_of m d ts) (pos 0) (λ j lt. subst P (sym (get_or_losses j (pos 0) (omega (arith, length_losses)))) (h j))

side_size : (s : Side) (z : ℤ) → nat_abs (negated_for Pay s z) ≡ nat_abs z
side_size Pay z = size_neg z
side_size Receive z = refl

pub leg_most : (m : Meaning) (d : Day) (j : ℕ) (t : TradeRow) → Lawful m → TradeFits t → nat_abs (leg_of m d j t) ≤ 2000000000000
leg_most m d j t law fit =
    let z = m.change d.set t.benchmark (residual_of d t) j in
    let e = side_size (side_of t.side) (pos t.notional *ℤ z) in
    omega (arith, e, times_most t.notional z fit.0, law.change_most d.set t.benchmark (residual_of d t) j)

pub loss_most : (m : Meaning) (d : Day) (j : ℕ) (ts : List TradeRow) → Lawful m → All TradeFits ts → nat_abs (loss_of m d j ts) ≤ 2000000000000 * length ts
loss_most m d j ts law fits =
    sum_most (leg_of m d j) 2000000000000 ts (All-weaker TradeFits (λ t. nat_abs (leg_of m d j t) ≤ 2000000000000) (λ t fit. leg_most m d j t law fit) ts fits)

pub var_most : (m : Meaning) (d : Day) (ts : List TradeRow) → Lawful m → All TradeFits ts → var_of m d ts ≤ 2000000000000 * length ts
unfolding var_of
var_most m d ts law fits =
    let size : nat_abs (tail_loss m d ts) ≤ 2000000000000 * length ts = tail_has m d ts (λ z. nat_abs z ≤ 2000000000000 * length ts) (omega arith) (each_loss m d ts (λ z. nat_abs z ≤ 2000000000000 * length ts) (λ j. loss_most m d j ts law fits)) in
    omega (arith, gain_le (tail_loss m d ts))

pub losses_most : (m : Meaning) (d : Day) (j : ℕ) (ts : List TradeRow) → Lawful m → All TradeFits ts → nat_abs (get_or (losses_of m d ts) j (pos 0)) ≤ 2000000000000 * length ts
losses_most m d j ts law fits =
    ⊎_elim
    (λ lt. let e = ap nat_abs (get_or_losses m d ts j (pos 0) lt) in omega (arith, loss_most m d j ts law fits))
    (λ past. let e = ap nat_abs (get_or_past (losses_of m d ts) j (pos 0) (omega (arith, length_losses m d ts))) in omega arith)
    (cases_lt j m.scenarios)

-- losses of 0 put nothing at risk
pub var_nought : (m : Meaning) (d : Day) (ts : List TradeRow) → ((j : ℕ) → nat_abs (loss_of m d j ts) ≤ 0) → var_of m d ts ≡ 0
unfolding var_of
var_nought m d ts nought =
    let size : nat_abs (tail_loss m d ts) ≤ 0 = tail_has m d ts (λ z. nat_abs z ≤ 0) (omega arith) (each_loss m d ts (λ z. nat_abs z ≤ 0) nought) in
    omega (arith, gain_le (tail_loss m d ts))

-- no trades put nothing at risk
pub var_none : (m : Meaning) (d : Day) → var_of m d [] ≡ 0
var_none m d = var_nought m d [] (λ j. omega arith)

-- y is the lowest of the tail as it was passed
pub var_from : (m : Meaning) (d : Day) (ts : List TradeRow) (x y : ℤ) (r : ℕ) → y ≡ x → x ≡ tail_loss m d ts → r ≡ gain_of y → r ≡ var_of m d ts
unfolding var_of
var_from m d ts x y r passed is got = got ∙ ap gain_of (passed ∙ is)

both_reach : (x y : ℤ) → reaches_loss x y ≡ true → reaches_loss y x ≡ true → x ≡ y
both_reach x y h k = grind (arith, ints)

-- no other number is what the words say
pub at_risk_one : (m : Meaning) (d : Day) (ts : List TradeRow) (r s : ℕ) → AtRisk m d ts r → AtRisk m d ts s → r ≡ s
at_risk_one m d ts r s a b =
    a.is
    ∙ ap gain_of (both_reach a.loss b.loss (a.kth.greatest b.loss b.kth.enough) (b.kth.greatest a.loss a.kth.enough))
    ∙ sym b.is

-- a model whose changes are 0 puts nothing at risk
leg_still : (m : Meaning) (d : Day) (j : ℕ) (t : TradeRow) → ((s b r i : ℕ) → m.change s b r i ≡ pos 0) → nat_abs (leg_of m d j t) ≤ 0
leg_still m d j t still =
    let z = m.change d.set t.benchmark (residual_of d t) j in
    let none : nat_abs z ≡ 0 = ap nat_abs (still d.set t.benchmark (residual_of d t) j) in
    let e = side_size (side_of t.side) (pos t.notional *ℤ z) in
    let nought : t.notional * nat_abs z ≡ 0 = ap (λ n. t.notional * n) none ∙ mul-zero t.notional in
    omega (arith, e, size_times t.notional z)

pub var_still : (m : Meaning) (d : Day) (ts : List TradeRow) → ((s b r i : ℕ) → m.change s b r i ≡ pos 0) → var_of m d ts ≡ 0
var_still m d ts still =
    var_nought m d ts (λ j. omega (arith, sum_most (leg_of m d j) 0 ts (All-from_get_or (λ t. nat_abs (leg_of m d j t) ≤ 0) ts no_trade (λ i lt. leg_still m d j (get_or ts i no_trade) still))))
