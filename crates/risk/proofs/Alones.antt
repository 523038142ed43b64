-- Trades that are all of one benchmark and residual: one group has all of them, and every other group has none.
use Rattle.std.proofs.Common.{◌≡◌, ℕ, zero, suc, ◌/◌, ◌<◌, ◌≤◌, min, Bool, true, false, cond, ◌⊎◌, inl, inr, List, [], ◌∷◌, Option, Some, None, IfSome, MatchOption, unwrap_or, length, get_or, take, replicate, filter, refl, sym, ap, subst, true≢false, ◌∙◌, ⊎_elim, arith}
use Rattle.std.specs.Prelude.{◌==◌, nat_le}
use Rattle.std.specs.List.{All, list_all}
use Rattle.std.proofs.lemmas.Bool.{cases_Bool, false_from_ne_true, cases_eq, cases_lt, and_parts, eqb-true, eq-eqb, ne_eqb, leb-true}
use Rattle.std.proofs.lemmas.List.{get_or_past, get_or-replicate, length-replicate, take_all}
use Rattle.std.proofs.lemmas.List.Elements.{All-head, All-tail, All-weaker, All-get_or, filter_passes}
use Rattle.tables.specs.Limits.{trade_keeps, trades_stand, no_trade}
use Rattle.tables.specs.Numbers.{sum_below}
use Rattle.tables.specs.declared.row.TradeRow.{TradeRow}
use Rattle.tables.proofs.Alls.{all_from, list_all_at}
use Rattle.models.specs.Meaning.{Meaning}
use Rattle.market.specs.declared.day.Day.{Day}
use Rattle.market.specs.Days.{residual_of}
use Rattle.risk.specs.declared.grouping.Grouping.{Grouping}
use Rattle.risk.specs.declared.grouping.Grouping.TheVariants.{ByResidual, ByHalfYear, ByBenchmark}
use Rattle.risk.specs.Groups.{alike, key_of, groups_of, group_trades, LoneTrade}
use Rattle.risk.specs.Losses.{var_of}
use Rattle.risk.specs.Initial.{KnownRisks, KnownLone, grouped_risk}
use Rattle.risk.proofs.Risks.{var_none}

-- filters
module _ {X : Type 0} (p : X → Bool) where
  pub filter_all : (xs : List X) → All (λ x. p x ≡ true) xs → filter p xs ≡ xs
  filter_all [] h = refl
  filter_all (x ∷ xs) h =
      ap (λ b. cond b (x ∷ filter p xs) (filter p xs)) (All-head (λ y. p y ≡ true) x xs h)
      ∙ ap (λ u. x ∷ u) (filter_all xs (All-tail (λ y. p y ≡ true) x xs h))

  pub filter_none : (xs : List X) → All (λ x. p x ≡ false) xs → filter p xs ≡ []
  filter_none [] h = refl
  filter_none (x ∷ xs) h =
      ap (λ b. cond b (x ∷ filter p xs) (filter p xs)) (All-head (λ y. p y ≡ false) x xs h)
      ∙ filter_none xs (All-tail (λ y. p y ≡ false) x xs h)

-- a test that passes only what another passes, and all that the other keeps, keeps the same
module _ {X : Type 0} (p q : X → Bool) (finer : (x : X) → q x ≡ true → p x ≡ true) where
  finer_more : (x : X) (xs : List X) → All (λ y. q y ≡ true) (filter p (x ∷ xs)) → (All (λ y. q y ≡ true) (filter p xs) → filter q xs ≡ filter p xs) → (p x ≡ true) ⊎ (p x ≡ false) → filter q (x ∷ xs) ≡ filter p (x ∷ xs)
  finer_more x xs h rest (inl e) =
      let kept : filter p (x ∷ xs) ≡ x ∷ filter p xs = ap (λ b. cond b (x ∷ filter p xs) (filter p xs)) e in
      let all : All (λ y. q y ≡ true) (x ∷ filter p xs) = subst (All (λ y. q y ≡ true)) kept h in
      ap (λ b. cond b (x ∷ filter q xs) (filter q xs)) (All-head (λ y. q y ≡ true) x (filter p xs) all)
      ∙ ap (λ u. x ∷ u) (rest (All-tail (λ y. q y ≡ true) x (filter p xs) all))
      ∙ sym kept
  finer_more x xs h rest (inr e) =
      let kept : filter p (x ∷ xs) ≡ filter p xs = ap (λ b. cond b (x ∷ filter p xs) (filter p xs)) e in
      let out : q x ≡ false = false_from_ne_true (q x) (λ f. true≢false (sym (finer x f) ∙ e)) in
      ap (λ b. cond b (x ∷ filter q xs) (filter q xs)) out ∙ rest (subst (All (λ y. q y ≡ true)) kept h) ∙ sym kept

  filter_finer : (xs : List X) → All (λ x. q x ≡ true) (filter p xs) → filter q xs ≡ filter p xs
  filter_finer [] h = refl
  filter_finer (x ∷ xs) h = finer_more x xs h (filter_finer xs) (cases_Bool (p x))

-- an answer that may be missing
value_or_nought : (o : Option ℕ) (P : Type 0) (v : ℕ) → (P → v ≡ 0) → MatchOption o P (λ u. u ≡ v) → unwrap_or o 0 ≡ v
value_or_nought None P v none h = sym (none h)
value_or_nought (Some u) P v none h = h

abbrev pub nothing : Option ℕ
nothing = None

pub nothing_known : (n k : ℕ) → get_or (replicate n nothing) k nothing ≡ nothing
nothing_known n k = ⊎_elim (λ lt. get_or-replicate n k nothing nothing lt) (λ past. get_or_past (replicate n nothing) k nothing (omega (arith, length-replicate n nothing))) (cases_lt k n)

-- what is known of each group after some of the elements: its value, or nothing yet, as none of them is in it
module _ {X : Type 0} (key : X → ℕ) (value : ℕ → ℕ) where
  abbrev pub Known : List (Option ℕ) → List X → ℕ → Type 0
  Known vs xs k = MatchOption (get_or vs k None) (filter (λ x. key x == k) xs ≡ []) (λ v. v ≡ value k)

  pub known_first : (n k : ℕ) → Known (replicate n None) [] k
  known_first n k = subst (λ o. MatchOption o (filter (λ x. key x == k) [] ≡ []) (λ v. v ≡ value k)) (sym (nothing_known n k)) refl

  pub known_all : (vs : List (Option ℕ)) (xs : List X) (i k : ℕ) → length xs ≤ i → (filter (λ x. key x == k) xs ≡ [] → value k ≡ 0) → Known vs (take i xs) k → unwrap_or (get_or vs k None) 0 ≡ value k
  known_all vs xs i k all none h =
      value_or_nought (get_or vs k None) (filter (λ x. key x == k) (take i xs) ≡ []) (value k)
      (λ e. none (sym (ap (filter (λ x. key x == k)) (take_all i xs all)) ∙ e)) h

-- a sum of which one term alone may be above 0
module _ (f : ℕ → ℕ) (a : ℕ) (none : (k : ℕ) → (k ≡ a → ⊥) → f k ≡ 0) where
  sum_before : (n : ℕ) → n ≤ a → sum_below f n ≡ 0
  unfolding sum_below
  sum_before zero le = refl
  sum_before (suc n) le = omega (arith, sum_before n (omega arith), none n (λ e. omega arith))

  sum_one : (n : ℕ) → a < n → sum_below f n ≡ f a
  unfolding sum_below
  sum_one zero lt = absurd (omega arith)
  sum_one (suc n) lt =
      ⊎_elim
      (λ same. omega (arith, sum_before n (omega arith), ap f same))
      (λ other. omega (arith, sum_one n (omega arith), none n other))
      (cases_eq n a)

residual_same : (d : Day) (f t : TradeRow) → alike d f t ≡ true → residual_of d t ≡ residual_of d f
residual_same d f t h = eqb-true (residual_of d t) (residual_of d f) (and_parts (t.benchmark == f.benchmark) (residual_of d t == residual_of d f) h).1

key_same : (g : Grouping) (d : Day) (f t : TradeRow) → alike d f t ≡ true → key_of g d t ≡ key_of g d f
key_same ByResidual d f t h = residual_same d f t h
key_same ByHalfYear d f t h = ap (λ r. min (r / 6) 19) (residual_same d f t h)
key_same ByBenchmark d f t h = eqb-true t.benchmark f.benchmark (and_parts (t.benchmark == f.benchmark) (residual_of d t == residual_of d f) h).0

key_below : (g : Grouping) (d : Day) (t : TradeRow) → t.benchmark ≤ 3 → key_of g d t < groups_of g
key_below ByResidual d t low = omega arith
key_below ByHalfYear d t low = omega arith
key_below ByBenchmark d t low = omega arith

pub groups_within : (g : Grouping) → groups_of g ≤ 121
groups_within ByResidual = omega arith
groups_within ByHalfYear = omega arith
groups_within ByBenchmark = omega arith

keeps_low : (t : TradeRow) → trade_keeps t ≡ true → t.benchmark ≤ 3
keeps_low t h = leb-true t.benchmark 3 (and_parts (nat_le t.benchmark 3) _ h).0

first_low : (ts : List TradeRow) → trades_stand ts ≡ true → 0 < length ts → (get_or ts 0 no_trade).benchmark ≤ 3
first_low ts h some = keeps_low (get_or ts 0 no_trade) (list_all_at trade_keeps ts 0 no_trade some (and_parts (nat_le (length ts) 64) (list_all trade_keeps ts) h).1)

module _ (m : Meaning) (d : Day) (g : Grouping) (f : TradeRow) (ts : List TradeRow) (same : list_all (alike d f) ts ≡ true) where
  keys : All (λ t. key_of g d t ≡ key_of g d f) ts
  keys = all_from (alike d f) (λ t. key_of g d t ≡ key_of g d f) (λ t h. key_same g d f t h) ts same

  has_all : group_trades g d (key_of g d f) ts ≡ ts
  unfolding group_trades
  has_all = filter_all (λ t. key_of g d t == key_of g d f) ts (All-weaker (λ t. key_of g d t ≡ key_of g d f) (λ t. (key_of g d t == key_of g d f) ≡ true) (λ t e. eq-eqb (key_of g d t) (key_of g d f) e) ts keys)

  has_none : (k : ℕ) → (k ≡ key_of g d f → ⊥) → group_trades g d k ts ≡ []
  unfolding group_trades
  has_none k other = filter_none (λ t. key_of g d t == k) ts (All-weaker (λ t. key_of g d t ≡ key_of g d f) (λ t. (key_of g d t == k) ≡ false) (λ t e. ne_eqb (key_of g d t) k (λ same. other (sym same ∙ e))) ts keys)

  lone_grouped : f.benchmark ≤ 3 → var_of m d ts ≡ grouped_risk m d g ts
  unfolding grouped_risk
  lone_grouped low =
      sym (sum_one (λ k. var_of m d (group_trades g d k ts)) (key_of g d f) (λ k other. ap (var_of m d) (has_none k other) ∙ var_none m d) (groups_of g) (key_below g d f low)
      ∙ ap (var_of m d) has_all)

pub lone_of : (m : Meaning) (d : Day) (g : Grouping) (f : TradeRow) (ts : List TradeRow) → trades_stand ts ≡ true → LoneTrade d f ts → var_of m d ts ≡ grouped_risk m d g ts
lone_of m d g f ts h lone = lone_grouped m d g f ts lone.2 (let low = first_low ts h lone.0 in let e = ap (λ (t : TradeRow). t.benchmark) lone.1 in omega arith)

pub group_none : (m : Meaning) (d : Day) (g : Grouping) (ts : List TradeRow) (k : ℕ) → filter (λ t. key_of g d t == k) ts ≡ [] → var_of m d (group_trades g d k ts) ≡ 0
unfolding group_trades
group_none m d g ts k none = ap (var_of m d) none ∙ var_none m d

-- residuals that are the same are in one bucket
residual_key : (d : Day) (t u : TradeRow) → residual_of d t ≡ residual_of d u → key_of ByHalfYear d t ≡ key_of ByHalfYear d u
residual_key d t u e = ap (λ r. min (r / 6) 19) e

-- a bucket whose trades are all of one residual is the group of that residual
module _ (m : Meaning) (d : Day) (k : ℕ) (ts : List TradeRow) where
  lone_group : (f : TradeRow) → LoneTrade d f (group_trades ByHalfYear d k ts) → group_trades ByResidual d (residual_of d f) ts ≡ group_trades ByHalfYear d k ts
  unfolding group_trades
  lone_group f lone =
      let p : TradeRow → Bool = λ t. key_of ByHalfYear d t == k in
      let here : key_of ByHalfYear d f ≡ k = ap (key_of ByHalfYear d) lone.1 ∙ eqb-true (key_of ByHalfYear d (get_or (filter p ts) 0 no_trade)) k (All-get_or (λ t. p t ≡ true) (filter p ts) 0 no_trade lone.0 (filter_passes p ts)) in
      filter_finer p (λ t. residual_of d t == residual_of d f)
      (λ t e. eq-eqb (key_of ByHalfYear d t) k (residual_key d t f (eqb-true (residual_of d t) (residual_of d f) e) ∙ here))
      ts
      (all_from (alike d f) (λ t. (residual_of d t == residual_of d f) ≡ true) (λ t h. (and_parts (t.benchmark == f.benchmark) (residual_of d t == residual_of d f) h).1) (filter p ts) lone.2)

  pub known_lone : (vs : List (Option ℕ)) (h : List TradeRow) → h ≡ group_trades ByHalfYear d k ts → KnownRisks m d ByResidual ts vs → KnownLone m d h vs
  known_lone vs h is known f lone =
      let here : group_trades ByResidual d (residual_of d f) ts ≡ h = lone_group f (subst (LoneTrade d f) is lone) ∙ sym is in
      subst (λ r. IfSome (get_or vs (residual_of d f) None) (λ v. v ≡ r)) (ap (var_of m d) here) (known (residual_of d f))
