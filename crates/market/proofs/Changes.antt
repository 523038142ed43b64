-- A market call whose questions are answered yes can be made, and leaves a market within its limits.
use Rattle.std.proofs.Common.{◌≡◌, ℕ, ◌+◌, ◌≤◌, min, max, Bool, true, false, cond, ◌&&◌, eqb, ltb, leb, List, Some, None, Ok, Option, refl, arith}
use Rattle.std.proofs.lemmas.Bool.{and_parts, and_from, leb-true, le-leb}
use Rattle.refusals.specs.Refusals.{first_no}
use Rattle.refusals.proofs.Facts.{all_yes}
use Rattle.tables.specs.declared.codes.Family.{Family}
use Rattle.tables.specs.declared.codes.Family.TheVariants.{Overnight, Forward}
use Rattle.tables.specs.Codes.{family_of}
use Rattle.tables.specs.Limits.{security_keeps}
use Rattle.tables.proofs.Alls.{list_all_set}
use Rattle.market.specs.declared.call.MarketCall.{MarketCall}
use Rattle.market.specs.declared.call.MarketCall.TheVariants.{Set, Price, StepUp, Averages, Thresholds, Volatility, Close, Month}
use Rattle.market.specs.declared.call.Quote.{Quote}
use Rattle.market.specs.declared.state.Averages.{Averages as AverageFigures}
use Rattle.market.specs.declared.state.Thresholds.{Thresholds as Marks}
use Rattle.market.specs.declared.state.FamilyState.{FamilyState}
use Rattle.market.specs.declared.state.MarketState.{MarketState}
use Rattle.market.specs.States.{averages_keep, thresholds_keep, family_keeps, family_state, market_keeps}
use Rattle.market.proofs.Facts.{family_parts, family_from, market_parts, market_from}
use Rattle.market.specs.Volatility.{charged, exceeding}
use Rattle.market.specs.Calls.{with_family, with_averages, with_thresholds, checked_by, closed_family, quoted, quote_fits, slot_fits, market_questions, market_changed, can_change}

family_kept : (k : MarketState) (f : Family) → market_keeps k ≡ true → family_keeps (family_state k f) ≡ true
family_kept k Overnight h = (market_parts k h).overnight
family_kept k Forward h = (market_parts k h).forward

put_keeps : (k : MarketState) (f : Family) (x : FamilyState) → market_keeps k ≡ true → family_keeps x ≡ true → market_keeps (with_family f x k) ≡ true
put_keeps k Overnight x h e =
    let p = market_parts k h in
    market_from (with_family Overnight x k) (record { month = p.month; percent = p.percent; overnight = e; forward = p.forward; securities = p.securities })
put_keeps k Forward x h e =
    let p = market_parts k h in
    market_from (with_family Forward x k) (record { month = p.month; percent = p.percent; overnight = p.overnight; forward = e; securities = p.securities })

averages_kept : (f : FamilyState) (a : AverageFigures) → family_keeps f ≡ true → averages_keep (Some a) ≡ true → family_keeps (with_averages a f) ≡ true
averages_kept f a h e =
    let p = family_parts f h in
    family_from (with_averages a f) (record { volatility = p.volatility; slot = p.slot; checks = p.checks; averages = e; thresholds = p.thresholds })

thresholds_kept : (f : FamilyState) (t : Marks) → family_keeps f ≡ true → thresholds_keep (Some t) ≡ true → family_keeps (with_thresholds t f) ≡ true
thresholds_kept f t h e =
    let p = family_parts f h in
    family_from (with_thresholds t f) (record { volatility = p.volatility; slot = p.slot; checks = p.checks; averages = p.averages; thresholds = e })

at_most : (b : Bool) (x n : ℕ) → x ≤ n → cond b 0 x ≤ n
at_most true x n h = omega arith
at_most false x n h = h

-- a check gives at most 100 per cent
charged_most : (ts rs : List ℕ) → charged ts rs ≤ 1000
unfolding charged
charged_most ts rs = at_most (ltb (exceeding ts rs) 2) _ 1000 (omega arith)

checked_kept : (t : Option Marks) (slot : ℕ) (rs : List ℕ) (f : FamilyState) → family_keeps f ≡ true → slot_fits f slot ≡ true → family_keeps (checked_by t slot rs f) ≡ true
checked_kept None slot rs f h e = h
checked_kept (Some t) slot rs f h e =
    let p = family_parts f h in
    let a = and_parts (leb 1 slot) (leb slot 4 && ltb f.slot slot) e in
    let b = and_parts (leb slot 4) (ltb f.slot slot) a.1 in
    let old : f.volatility ≤ 1000 = leb-true _ _ p.volatility in
    family_from (checked_by (Some t) slot rs f) (record {
      volatility = le-leb (max f.volatility (charged t.triggers rs)) 1000 (omega (arith, charged_most t.triggers rs));
      slot = b.0;
      checks = le-leb (min (f.checks + 1) 4) 4 (omega arith);
      averages = p.averages;
      thresholds = p.thresholds;
    })

after_day : (b : Bool) (x : ℕ) → leb x 1000 ≡ true → leb (cond b 0 x) 1000 ≡ true
after_day true x h = refl
after_day false x h = h

closed_kept : (f : FamilyState) → family_keeps f ≡ true → family_keeps (closed_family f) ≡ true
closed_kept f h =
    let p = family_parts f h in
    family_from (closed_family f) (record { volatility = after_day (eqb f.checks 4 && f.calm) f.volatility p.volatility; slot = refl; checks = refl; averages = p.averages; thresholds = p.thresholds })

priced_keeps : (q : Quote) → quote_fits q ≡ true → security_keeps (quoted q) ≡ true
priced_keeps q e =
    let a = and_parts (leb 1 q.price) _ e in
    let b = and_parts (leb q.price 30000) _ a.1 in
    let c = and_parts (leb q.haircut 100) (leb q.listed 1) b.1 in
    and_from _ _ b.0 c.0

-- the limits after an accepted call
pub changed_keeps : (sets : ℕ) (k : MarketState) (c : MarketCall) → market_keeps k ≡ true → first_no (market_questions sets k c) ≡ Ok tt → market_keeps (market_changed c k) ≡ true
changed_keeps sets k (Set s) h e = h
changed_keeps sets k (Price q) h e =
    let p = market_parts k h in
    let y = all_yes (market_questions sets k (Price q)) e in
    market_from (market_changed (Price q) k) (record {
      month = p.month;
      percent = p.percent;
      overnight = p.overnight;
      forward = p.forward;
      securities = list_all_set security_keeps k.securities q.security (quoted q) (priced_keeps q y.1.0) p.securities;
    })
changed_keeps sets k (StepUp n) h e =
    let p = market_parts k h in
    market_from (market_changed (StepUp n) k) (record { month = p.month; percent = (all_yes (market_questions sets k (StepUp n)) e).0; overnight = p.overnight; forward = p.forward; securities = p.securities })
changed_keeps sets k (Averages family a) h e =
    put_keeps k (family_of family) _ h (averages_kept (family_state k (family_of family)) a (family_kept k (family_of family) h) (all_yes (market_questions sets k (Averages family a)) e).1.0)
changed_keeps sets k (Thresholds family t) h e =
    put_keeps k (family_of family) _ h (thresholds_kept (family_state k (family_of family)) t (family_kept k (family_of family) h) (all_yes (market_questions sets k (Thresholds family t)) e).1.0)
changed_keeps sets k (Volatility c) h e =
    let f = family_state k (family_of c.family) in
    put_keeps k (family_of c.family) _ h (checked_kept f.thresholds c.slot c.returns f (family_kept k (family_of c.family) h) (all_yes (market_questions sets k (Volatility c)) e).1.1.1.0)
changed_keeps sets k Close h e =
    put_keeps (with_family Forward (closed_family k.forward) k) Overnight (closed_family k.overnight)
    (put_keeps k Forward (closed_family k.forward) h (closed_kept k.forward (market_parts k h).forward))
    (closed_kept k.overnight (market_parts k h).overnight)
changed_keeps sets k (Month month) h e =
    let p = market_parts k h in
    let y = all_yes (market_questions sets k (Month month)) e in
    market_from (market_changed (Month month) k) (record { month = (and_parts (ltb k.day.month month) (leb month 1199) y.0).1; percent = p.percent; overnight = p.overnight; forward = p.forward; securities = p.securities })

pub changeable : (sets : ℕ) (k : MarketState) (c : MarketCall) → market_keeps k ≡ true → first_no (market_questions sets k c) ≡ Ok tt → can_change c k ≡ true
changeable sets k (Set s) h e = refl
changeable sets k (Price q) h e = let y = all_yes (market_questions sets k (Price q)) e in and_from _ _ y.0 (priced_keeps q y.1.0)
changeable sets k (StepUp n) h e = refl
changeable sets k (Averages family a) h e = refl
changeable sets k (Thresholds family t) h e = refl
changeable sets k (Volatility c) h e =
    let f = family_state k (family_of c.family) in
    let p = family_parts f (family_kept k (family_of c.family) h) in
    let a = and_parts (leb 1 c.slot) (leb c.slot 4 && ltb f.slot c.slot) (all_yes (market_questions sets k (Volatility c)) e).1.1.1.0 in
    and_from _ _ (and_parts (leb c.slot 4) (ltb f.slot c.slot) a.1).0 p.checks
changeable sets k Close h e = refl
changeable sets k (Month month) h e = refl
