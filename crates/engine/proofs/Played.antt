-- Lists of events: one more event, and the isolation of a run.
use Rattle.std.proofs.Common.{◌≡◌, ℕ, ◌+◌, ◌<◌, ◌≤◌, min, true, ⊎_elim, List, [], ◌∷◌, ◌++◌, length, get_or, take, set, sym, ap, ◌∙◌, subst, ap₂, arith}
use Rattle.std.proofs.lemmas.Bool.{cond-true, cases_lt}
use Rattle.std.proofs.lemmas.List.{take_more, take_more_set}
use Rattle.models.specs.Meaning.{Meaning}
use Rattle.tables.specs.declared.row.AccountRow.{AccountRow}
use Rattle.tables.specs.declared.row.TradeRow.{TradeRow}
use Rattle.tables.specs.Limits.{tables_keep}
use Rattle.market.specs.declared.state.MarketState.{MarketState}
use Rattle.rules.specs.declared.call.Event.{Event}
use Rattle.rules.specs.declared.call.Reply.{Reply}
use Rattle.rules.specs.Opening.{opened_market, opened_rows, opened_trades}
use Rattle.rules.specs.Stands.{Stand, standing}
use Rattle.house.proofs.Lent.{rows_stand, trades_stand}
use Rattle.isolation.specs.Runs.{after, reply, run, replies, opened}
use Rattle.isolation.specs.Isolation.{Isolated}
use Rattle.isolation.proofs.Unwinding.{run_append, replies_append}
use Rattle.isolation.proofs.Law.{isolation}
use Rattle.engine.specs.Promises.{first_stand, IsolatedRun, HeldBy, Replays, Day}

-- tables that keep their limits hold the stand that they are read as
pub held_by : (k : MarketState) (n : ℕ) (rs : List AccountRow) (ts : List TradeRow) → 1 ≤ n → tables_keep n rs ts ≡ true → HeldBy n (standing k rs ts)
held_by k n rs ts some h =
    let r = rows_stand k n rs ts some h in
    let t = trades_stand k n rs ts some h in
    record { keeps = ap₂ (tables_keep n) r t ∙ h; stands = ap₂ (standing k) r t }

-- what holds up to i and at i + 1 holds up to i + 1
pub up_to_more : (P : ℕ → Type 0) (i : ℕ) → ((j : ℕ) → j ≤ i → P j) → P (i + 1) → (j : ℕ) → j ≤ i + 1 → P j
up_to_more P i below here j le =
    ⊎_elim (λ lt. below j (omega arith)) (λ ge. let e : i + 1 ≡ j = omega arith in subst P e here) (cases_lt j (i + 1))

-- one event more
module _ (m : Meaning) (s : Stand) (es : List Event) (i : ℕ) (d : Event) (lt : i < length es) where
  pub run_more : (t u : Stand) → t ≡ run m s (take i es) → u ≡ after m t (get_or es i d) → u ≡ run m s (take (i + 1) es)
  run_more t u e f =
      f ∙ ap (λ (x : Stand). after m x (get_or es i d)) e ∙ sym (run_append m s (take i es) (get_or es i d ∷ [])) ∙ ap (run m s) (sym (take_more es i d lt))

  pub replies_more : (t : Stand) (os : List Reply) (o : Reply) → i < length os → t ≡ run m s (take i es) → take i os ≡ replies m s (take i es) → o ≡ reply m t (get_or es i d)
      → take (i + 1) (set os i o) ≡ replies m s (take (i + 1) es)
  replies_more t os o la e so_far said =
      take_more_set os i o la
      ∙ ap₂ (λ (l : List Reply) (y : Reply). l ++ y ∷ []) so_far (said ∙ ap (λ (x : Stand). reply m x (get_or es i d)) e)
      ∙ sym (replies_append m s (take i es) (get_or es i d ∷ []))
      ∙ ap (replies m s) (sym (take_more es i d lt))

-- what was answered and left is what the rules make of the list
pub isolated_day : (m : Meaning) (month n : ℕ) → 1 ≤ n → (es : List Event) (os : List Reply) (t : Stand) → os ≡ replies m (opened month n) es → t ≡ run m (opened month n) es → Isolated m month n es os t
isolated_day m month n some es os t eo et =
    subst (λ (x : List Reply). Isolated m month n es x t) (sym eo) (subst (Isolated m month n es (replies m (opened month n) es)) (sym et) (isolation m month n some es))

pub isolated_run : (m : Meaning) (s : Stand) (es : List Event) (os : List Reply) (t : Stand) → os ≡ replies m s es → t ≡ run m s es → IsolatedRun m s es os t
isolated_run m s es os t eo et p =
    let first = first_stand p in
    let said : replies m first p.events ++ os ≡ replies m first (p.events ++ es) =
    ap (λ (x : List Reply). replies m first p.events ++ x) (eo ∙ ap (λ (x : Stand). replies m x es) (sym p.leads)) ∙ sym (replies_append m first p.events es) in
    let whole : t ≡ run m first (p.events ++ es) = et ∙ ap (λ (x : Stand). run m x es) (sym p.leads) ∙ sym (run_append m first p.events es) in
    isolated_day m p.month p.accounts p.some (p.events ++ es) (replies m first p.events ++ os) t said whole

-- a replay from the tables that an opening leaves
day_opened : (m : Meaning) (month n : ℕ) (l : MarketState) (us : List AccountRow) (vs : List TradeRow) (es : List Event) (os ps : List Reply) (r : ℕ) → 1 ≤ n
    → tables_keep n (opened_rows n) (opened_trades n) ≡ true → Replays m (opened_market month) l n (opened_rows n) us (opened_trades n) vs es os ps r → Day m month n l us vs es os ps r
unfolding opened
day_opened m month n l us vs es os ps r some h p = record {
  played = p.played ∙ cond-true (tables_keep n (opened_rows n) (opened_trades n)) (min (length es) (length os)) 0 h;
  replied = p.replied;
  rest = p.rest;
  stands = p.stands;
  rows = (p.tables h).0;
  trades = (p.tables h).1;
  keeps = p.keeps ∙ h;
  throughout = p.throughout h;
  isolated = isolated_day m month n some (take r es) (take r ps) (standing l us vs) p.replied p.stands;
}

pub day_from : (m : Meaning) (month n : ℕ) (k l : MarketState) (a : ℕ) (rs us : List AccountRow) (ts vs : List TradeRow) (es : List Event) (os ps : List Reply) (r : ℕ) → 1 ≤ n
    → k ≡ opened_market month → a ≡ n → rs ≡ opened_rows n → ts ≡ opened_trades n → tables_keep n rs ts ≡ true → Replays m k l a rs us ts vs es os ps r → Day m month n l us vs es os ps r
day_from m month n k l a rs us ts vs es os ps r some ek ea er et h p =
    day_opened m month n l us vs es os ps r some (ap₂ (tables_keep n) (sym er) (sym et) ∙ h)
    (subst (λ (x : MarketState). Replays m x l n (opened_rows n) us (opened_trades n) vs es os ps r) ek
    (subst (λ (x : ℕ). Replays m k l x (opened_rows n) us (opened_trades n) vs es os ps r) ea
    (subst (λ (x : List AccountRow). Replays m k l a x us (opened_trades n) vs es os ps r) er
    (subst (λ (x : List TradeRow). Replays m k l a rs us x vs es os ps r) et p))))
