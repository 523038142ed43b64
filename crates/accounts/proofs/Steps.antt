-- A book that a call changes stays within its limits.
use Rattle.std.proofs.Common.{◌≡◌, ℕ, suc, ◌+◌, ◌-◌, ◌<◌, ◌≤◌, Bool, true, ◌&&◌, nat_le, List, [], ◌∷◌, ◌++◌, length, take, drop, slice_set, sym, refl, ap, ◌∙◌, arith, length-take, length-take-le, take-append-drop, take_at, drop_at}
use Rattle.std.specs.List.{remove}
use Rattle.std.proofs.lemmas.List.{take_more_set, drop-set-lt, drop-drop, append_assoc}
use Rattle.std.proofs.lemmas.List.Edits.{length-remove, remove-append_left}
use Rattle.std.proofs.lemmas.Bool.{and_parts, and_from, leb-true, le-leb, ltb-true}
use Rattle.tables.specs.declared.row.AccountRow.{AccountRow}
use Rattle.tables.specs.declared.row.TradeRow.{TradeRow}
use Rattle.tables.specs.Books.{Book, standing_of}
use Rattle.tables.specs.Limits.{holdings_keep, levels_keep, lots_keep, places_keep, trade_keeps, is_empty, no_trade}
use Rattle.std.specs.List.{list_all}
use Rattle.tables.proofs.Alls.{list_all_set, list_all_append, list_all_drop, list_all_take}
use Rattle.market.specs.declared.state.MarketState.{MarketState}
use Rattle.models.specs.Meaning.{Meaning}
use Rattle.rules.specs.Settling.{settled_row}
use Rattle.rules.specs.Rows.{with_lots, with_trades}
use Rattle.rules.specs.Changes.{closed, holds, place_of}

-- a record with one part changed
pub held_trades : (r : AccountRow) (n : ℕ) → holdings_keep r ≡ true → n ≤ 64 → holdings_keep (with_trades r n) ≡ true
held_trades r n h le =
    let p = and_parts (nat_le r.cash 100000000000000) _ h in
    and_from _ _ p.0 (and_from _ _ (le-leb n 64 le) (and_parts (nat_le r.trades 64) _ p.1).1)

pub held_lots : (r : AccountRow) (s n : ℕ) → holdings_keep r ≡ true → n ≤ 1000000 → holdings_keep (with_lots r (slice_set r.lots s n)) ≡ true
held_lots r s n h le =
    let p = and_parts (nat_le r.cash 100000000000000) _ h in
    let q = and_parts (nat_le r.trades 64) _ p.1 in
    let o = and_parts (levels_keep r.overnight) _ q.1 in
    let f = and_parts (levels_keep r.forward) (lots_keep r.lots) o.1 in
    and_from _ _ p.0 (and_from _ _ q.0 (and_from _ _ o.0 (and_from _ _ f.0 (list_all_set (λ x. nat_le x 1000000) r.lots s n (le-leb n 1000000 le) f.1))))

-- a trade more
pub added : (n : ℕ) (ps : List TradeRow) (t : TradeRow) → n < 64 → length ps ≡ 64 → trade_keeps t ≡ true → places_keep n ps ≡ true → places_keep (n + 1) (slice_set ps n t) ≡ true
added n ps t few long fits h =
    let p = and_parts (nat_le n 64) (list_all trade_keeps (take n ps) && list_all is_empty (drop n ps)) h in
    let q = and_parts (list_all trade_keeps (take n ps)) (list_all is_empty (drop n ps)) p.1 in
    let lt : n < length ps = omega arith in
    let front = take_more_set ps n t lt in
    let rest : drop (n + 1) (slice_set ps n t) ≡ drop (n + 1) ps = drop-set-lt (n + 1) ps n t (omega arith) in
    let behind : drop 1 (drop n ps) ≡ drop (n + 1) ps = drop-drop 1 n ps in
    and_from _ _ (le-leb (n + 1) 64 (omega arith))
    (and_from _ _
    (ap (list_all trade_keeps) front ∙ list_all_append trade_keeps (take n ps) (t ∷ []) q.0 (and_from (trade_keeps t) true fits refl))
    (ap (list_all is_empty) (rest ∙ sym behind) ∙ list_all_drop is_empty 1 (drop n ps) q.1))

-- a trade less
all_removed : {X : Type 0} (p : X → Bool) (xs : List X) (k : ℕ) → list_all p xs ≡ true → list_all p (remove xs k) ≡ true
all_removed p xs k h = list_all_append p (take k xs) (drop (suc k) xs) (list_all_take p k xs h) (list_all_drop p (suc k) xs h)

pub shorter : (n k : ℕ) (ps : List TradeRow) → k < n → length ps ≡ 64 → places_keep n ps ≡ true → places_keep (n - 1) (closed k ps) ≡ true
shorter n k ps lt long h =
    let p = and_parts (nat_le n 64) (list_all trade_keeps (take n ps) && list_all is_empty (drop n ps)) h in
    let q = and_parts (list_all trade_keeps (take n ps)) (list_all is_empty (drop n ps)) p.1 in
    let few = leb-true n 64 p.0 in
    let a = take n ps in
    let b = drop n ps in
    let z : List TradeRow = no_trade ∷ [] in
    let long-a : length a ≡ n = length-take-le n ps (omega arith) in
    let in-a : k < length a = omega arith in
    let e : closed k ps ≡ remove a k ++ (b ++ z) =
    ap (λ (l : List TradeRow). remove l k ++ z) (sym (take-append-drop n ps))
    ∙ ap (λ (l : List TradeRow). l ++ z) (remove-append_left a b k in-a)
    ∙ append_assoc (remove a k) b z in
    let len : length (remove a k) ≡ n - 1 = omega (arith, length-remove a k in-a) in
    and_from _ _ (le-leb (n - 1) 64 (omega arith))
    (and_from _ _
    (ap (λ (l : List TradeRow). list_all trade_keeps (take (n - 1) l)) e ∙ ap (list_all trade_keeps) (take_at (remove a k) (b ++ z) (n - 1) len) ∙ all_removed trade_keeps a k q.0)
    (ap (λ (l : List TradeRow). list_all is_empty (drop (n - 1) l)) e ∙ ap (list_all is_empty) (drop_at (remove a k) (b ++ z) (n - 1) len) ∙ list_all_append is_empty b z q.1 refl))

-- the trade that ends stands among the trades
pub ending_at : (n : ℕ) (b : Book) → holds n (standing_of b) ≡ true → place_of n (standing_of b) < b.row.trades
ending_at n b h = omega (arith, ltb-true (place_of n (standing_of b)) (length (standing_of b)) h, length-take b.row.trades b.places)

-- settling leaves the number of trades
pub settled_count : (m : Meaning) (k : MarketState) (cover : ℕ) (r : AccountRow) (ts : List TradeRow) (q : AccountRow) → q ≡ settled_row m k cover r ts → q.trades ≡ r.trades
unfolding settled_row
settled_count m k cover r ts q e = ap (λ (x : AccountRow). x.trades) e
