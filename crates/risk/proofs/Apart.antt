-- The groups of one grouping are apart, so that together they have no more trades than there are.
use Rattle.std.proofs.Common.{◌≡◌, ℕ, zero, suc, ◌+◌, ◌*◌, ◌≤◌, true, List, [], ◌∷◌, length, pos, count_by, filter, sym, refl, ap, ◌∙◌, subst, arith, rules}
use Rattle.std.specs.Prelude.{◌==◌, nat_lt, nat_le, if◌then◌else◌}
use Rattle.std.proofs.lemmas.Bool.Decides.{nat_tests}
use Rattle.std.proofs.lemmas.Bool.{le-ltb, le-leb, leb-true, and_parts, and_from}
use Rattle.std.proofs.lemmas.List.Sums.{length-filter, count_by-le-length}
use Rattle.std.proofs.lemmas.List.Elements.{All-filter}
use Rattle.tail.proofs.Kths.{count_cons}
use Rattle.tables.specs.Limits.{trade_keeps, trades_stand}
use Rattle.std.specs.List.{list_all}
use Rattle.tables.proofs.Alls.{all_from, list_all_kept}
use Rattle.models.specs.Meaning.{Meaning, Lawful}
use Rattle.tables.specs.declared.row.TradeRow.{TradeRow}
use Rattle.market.specs.declared.day.Day.{Day}
use Rattle.risk.specs.declared.grouping.Grouping.{Grouping}
use Rattle.risk.specs.declared.grouping.Grouping.TheVariants.{ByResidual, ByHalfYear, ByBenchmark}
use Rattle.risk.specs.Groups.{TradeFits, Standing, key_of, groups_of, in_group, group_trades}
use Rattle.tables.specs.Numbers.{sum_below, rounded_up}
use Rattle.tables.proofs.Numbers.{sum_le, sum_more, sum_nil}
use Rattle.risk.specs.declared.figures.RiskFigures.{RiskFigures}
use Rattle.risk.specs.Losses.{var_of, AtRisk}
use Rattle.risk.specs.Initial.{grouped_risk, stepped_up, minimum_of, risk_from, risk_of}
use Rattle.risk.proofs.Risks.{var_most, var_none, var_still, at_risk}

one_more : (k n : ℕ) → (if nat_lt k (suc n) then 1 else 0) ≡ (if nat_lt k n then 1 else 0) + (if k == n then 1 else 0)
one_more k n = grind (arith, nat_tests)

module _ {X : Type 0} (key : X → ℕ) where
  count_nought : (xs : List X) → count_by (λ x. nat_lt (key x) 0) xs ≡ 0
  count_nought [] = refl
  count_nought (x ∷ xs) = omega (arith, count_cons (λ y. nat_lt (key y) 0) x xs, count_nought xs, ap {B = ℕ} (λ b. if b then 1 else 0) (le-ltb (key x) 0 (omega arith)))

  count_upto : (n : ℕ) (xs : List X) → count_by (λ x. nat_lt (key x) (suc n)) xs ≡ count_by (λ x. nat_lt (key x) n) xs + count_by (λ x. key x == n) xs
  count_upto n [] = refl
  count_upto n (x ∷ xs) =
      omega (arith, count_cons (λ y. nat_lt (key y) (suc n)) x xs, count_cons (λ y. nat_lt (key y) n) x xs, count_cons (λ y. key y == n) x xs, count_upto n xs, one_more (key x) n)

  apart : (n : ℕ) (xs : List X) → sum_below (λ k. length (filter (λ x. key x == k) xs)) n ≡ count_by (λ x. nat_lt (key x) n) xs
  unfolding sum_below
  apart zero xs = sym (count_nought xs)
  apart (suc n) xs = omega (arith, apart n xs, count_upto n xs, length-filter (λ x. key x == n) xs)

  apart_le : (n : ℕ) (xs : List X) → sum_below (λ k. length (filter (λ x. key x == k) xs)) n ≤ length xs
  apart_le n xs = omega (arith, apart n xs, count_by-le-length (λ x. nat_lt (key x) n) xs)

group_standing : (l : Grouping) (d : Day) (k : ℕ) (ts : List TradeRow) → Standing ts → Standing (group_trades l d k ts)
unfolding group_trades
group_standing l d k ts h = record {
  few = omega (arith, h.few, length-filter (in_group l d k) ts, count_by-le-length (in_group l d k) ts);
  each = All-filter (in_group l d k) TradeFits ts h.each;
}

pub groups_few : (l : Grouping) (d : Day) (ts : List TradeRow) (n : ℕ) → sum_below (λ k. length (group_trades l d k ts)) n ≤ length ts
unfolding group_trades
groups_few l d ts n = apart_le (key_of l d) n ts

-- the values at risk of the first n groups
pub groups_most : (m : Meaning) (d : Day) (l : Grouping) (ts : List TradeRow) (n : ℕ) → Lawful m → Standing ts → sum_below (λ k. var_of m d (group_trades l d k ts)) n ≤ 2000000000000 * length ts
groups_most m d l ts n law h =
    omega (
      arith,
      groups_few l d ts n,
      sum_le (λ k. var_of m d (group_trades l d k ts)) (λ k. length (group_trades l d k ts)) n (λ k. var_most m d (group_trades l d k ts) law (group_standing l d k ts h).each),
    )

-- two groups, one after the other
pub pair_few : (l : Grouping) (d : Day) (ts : List TradeRow) (k : ℕ) → length (group_trades l d k ts) + length (group_trades l d (k + 1) ts) ≤ length ts
pair_few l d ts k =
    omega (arith, groups_few l d ts (k + 1 + 1), sum_more (λ i. length (group_trades l d i ts)) (k + 1), sum_more (λ i. length (group_trades l d i ts)) k)

pub benchmarks_few : (d : Day) (ts : List TradeRow) → length (group_trades ByBenchmark d 0 ts) + length (group_trades ByBenchmark d 1 ts) + length (group_trades ByBenchmark d 2 ts) + length (group_trades ByBenchmark d 3 ts) ≤ length ts
unfolding sum_below
benchmarks_few d ts = omega (arith, groups_few ByBenchmark d ts 4)

-- the Bool form of the limits
fits : (t : TradeRow) → trade_keeps t ≡ true → TradeFits t
fits t h = search rules

pub standing : (ts : List TradeRow) → trades_stand ts ≡ true → Standing ts
standing ts h =
    let both = and_parts (nat_le (length ts) 64) (list_all trade_keeps ts) h in
    record { few = leb-true (length ts) 64 both.0; each = all_from trade_keeps TradeFits fits ts both.1 }

-- what the code works out as the value at risk is what the rule's words say, and within bounds
module _ (m : Meaning) (d : Day) (ts : List TradeRow) (r : ℕ) (law : Lawful m) (is : r ≡ var_of m d ts) where
  pub var_words : AtRisk m d ts r
  var_words = subst (AtRisk m d ts) (sym is) (at_risk m d ts law)

  pub var_bound : trades_stand ts ≡ true → r ≤ 2000000000000 * length ts
  var_bound h = omega (arith, is, var_most m d ts law (standing ts h).each)

pub group_stands : (g : Grouping) (d : Day) (k : ℕ) (ts : List TradeRow) → trades_stand ts ≡ true → trades_stand (group_trades g d k ts) ≡ true
unfolding group_trades
group_stands g d k ts h =
    let both = and_parts (nat_le (length ts) 64) (list_all trade_keeps ts) h in
    and_from (nat_le (length (filter (in_group g d k) ts)) 64) (list_all trade_keeps (filter (in_group g d k) ts))
    (le-leb _ 64 (omega (arith, leb-true (length ts) 64 both.0, length-filter (in_group g d k) ts, count_by-le-length (in_group g d k) ts)))
    (list_all_kept trade_keeps (in_group g d k) ts both.1)

pub grouped_still : (m : Meaning) (d : Day) (g : Grouping) (ts : List TradeRow) → ((s b r i : ℕ) → m.change s b r i ≡ pos 0) → grouped_risk m d g ts ≡ 0
unfolding grouped_risk
grouped_still m d g ts still = sum_nil (λ k. var_of m d (group_trades g d k ts)) (groups_of g) (λ k. var_still m d (group_trades g d k ts) still)

pub grouped_none : (m : Meaning) (d : Day) (g : Grouping) → grouped_risk m d g [] ≡ 0
unfolding grouped_risk group_trades
grouped_none m d g = sum_nil (λ k. var_of m d []) (groups_of g) (λ k. var_none m d)

nought_stepped : (s : ℕ) → 0 ≡ stepped_up s 0
nought_stepped s =
    let none : 0 * s ≡ 0 = omega arith in
    sym (ap (λ n. 0 + rounded_up n 100) none)

risk_none : (m : Meaning) (d : Day) (s : ℕ) → risk_from s 0 0 0 0 ≡ risk_of m d s []
unfolding risk_of minimum_of
risk_none m d s =
    ap (λ x. risk_from s x 0 0 0) (sym (grouped_none m d ByResidual))
    ∙ ap (λ z. risk_from s (grouped_risk m d ByResidual []) z 0 0) (sym (grouped_none m d ByHalfYear))
    ∙ ap (λ y. risk_from s (grouped_risk m d ByResidual []) (grouped_risk m d ByHalfYear []) y 0) (sym (var_none m d))

abbrev figures : ℕ → ℕ → ℕ → ℕ → ℕ → ℕ → RiskFigures
figures x z y spread minimum initial = record { residuals = x; halfyears = z; whole = y; spread = spread; minimum = minimum; initial = initial }

all_nought : (x z y s k i : ℕ) → (x ≡ 0) × ((z ≡ 0) × ((y ≡ 0) × ((s ≡ 0) × ((k ≡ 0) × (i ≡ 0))))) → figures x z y s k i ≡ figures 0 0 0 0 0 0
all_nought x z y s k i h = cc

pub risk_nought : (m : Meaning) (d : Day) (s : ℕ) (ts : List TradeRow) → ts ≡ [] → (f : RiskFigures) → (f.residuals ≡ 0) × ((f.halfyears ≡ 0) × ((f.whole ≡ 0) × ((f.spread ≡ 0) × ((f.minimum ≡ 0) × (f.initial ≡ 0))))) → f ≡ risk_of m d s ts
risk_nought m d s ts none f h =
    all_nought f.residuals f.halfyears f.whole f.spread f.minimum f.initial h
    ∙ ap (figures 0 0 0 0 0) (nought_stepped s)
    ∙ risk_none m d s
    ∙ ap (risk_of m d s) (sym none)
