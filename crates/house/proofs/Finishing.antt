-- What the tables hold when they are settled is what the rules make of the stand that they held.
use Rattle.std.proofs.Common.{◌≡◌, ℕ, suc, ◌+◌, ◌-◌, ◌*◌, ◌≤◌, Bool, true, false, List, [], ◌∷◌, ◌++◌, map, length, get_or, take, drop, set, sum_by, sym, refl, ap, ◌∙◌, subst, ap₂, append-nil, arith, take_all}
use lib.ListN.{length-map}
use borrow.Rule.Slice.PartMut.{put_mid}
use Rattle.std.specs.List.{All, fold, list_all}
use Rattle.std.proofs.lemmas.List.Elements.{All-nil, All-map}
use mathlib.Core.List.{map-map}
use Rattle.std.proofs.lemmas.List.{drop_all}
use Rattle.std.proofs.lemmas.List.Folds.{fold-map}
use Rattle.models.specs.Meaning.{Meaning}
use Rattle.tables.specs.declared.row.AccountRow.{AccountRow}
use Rattle.tables.specs.declared.row.TradeRow.{TradeRow}
use Rattle.tables.specs.Books.{Book, book, books_of, no_row, places_at, rows_in, places_in}
use Rattle.tables.specs.Limits.{holdings_keep, figures_keep, places_keep, constituent_keeps, tables_keep}
use Rattle.tables.proofs.Alls.{list_all_map, all_from}
use Rattle.tables.proofs.Books.{kept, keeps_from, rows_back, places_back}
use Rattle.tables.proofs.Facts.{booked, booked_from, figured}
use Rattle.market.specs.declared.state.MarketState.{MarketState}
use Rattle.rules.specs.Rows.{with_second}
use Rattle.rules.specs.Settling.{settled_row, house_settled, row_reflagged, reflagged}
use Rattle.rules.specs.Stands.{standing, finish, rows_of, trades_of, shortfalls}
use Rattle.accounts.proofs.Steps.{settled_count}

-- the cover, out of the records
sum_books : (cs : List AccountRow) (us : List TradeRow) (n : ℕ) → fold (λ (x : ℕ) (r : AccountRow). x + r.shortfall) n cs ≡ fold (λ (x : ℕ) (b : Book). x + b.row.shortfall) n (books_of cs us)
sum_books cs us n =
    ap (fold (λ (x : ℕ) (r : AccountRow). x + r.shortfall) n) (sym (rows_back cs us)) ∙ fold-map (λ (x : ℕ) (r : AccountRow). x + r.shortfall) (λ (b : Book). b.row) n (books_of cs us)

pub rows_reflagged : (r : Bool) (cs : List AccountRow) (us : List TradeRow) → rows_in (map (reflagged r) (books_of cs us)) ≡ map (row_reflagged r) cs
rows_reflagged r cs us =
    map-map (λ (b : Book). b.row) (reflagged r) (books_of cs us) ∙ sym (map-map (row_reflagged r) (λ (b : Book). b.row) (books_of cs us)) ∙ ap (map (row_reflagged r)) (rows_back cs us)

pub books_reflagged : (r : Bool) (cs : List AccountRow) (us : List TradeRow) → books_of (map (row_reflagged r) cs) us ≡ map (reflagged r) (books_of cs us)
books_reflagged r [] us = refl
books_reflagged r (c ∷ cs) us = ap (λ (l : List Book). reflagged r (book c (take 64 us)) ∷ l) (books_reflagged r cs (drop 64 us))

places_reflagged : (r : Bool) (bs : List Book) → places_in (map (reflagged r) bs) ≡ places_in bs
places_reflagged r [] = refl
places_reflagged r (b ∷ bs) = ap (λ (l : List TradeRow). b.places ++ l) (places_reflagged r bs)

-- settling leaves the trades
pub trades_finished : (m : Meaning) (k : MarketState) (rs : List AccountRow) (ts : List TradeRow) → 1 ≤ length rs → length ts ≡ 64 * length rs → trades_of (finish m (standing k rs ts)) ≡ ts
trades_finished m k [] ts some long = absurd (omega arith)
trades_finished m k (h ∷ cs) ts some long =
    ap (λ (l : List TradeRow). take 64 ts ++ l) (places_reflagged (finish m (standing k (h ∷ cs) ts)).house.row.own (books_of cs (drop 64 ts)))
    ∙ places_back (h ∷ cs) ts long

put_rest : (h : AccountRow) (cs ys : List AccountRow) → put_mid 1 (length (h ∷ cs) - 1) (h ∷ cs) ys ≡ h ∷ ys
put_rest h cs ys = ap (λ (l : List AccountRow). h ∷ l) (ap (λ (l : List AccountRow). ys ++ l) (drop_all (length (h ∷ cs) - 1) cs (omega arith)) ∙ append-nil ys)

-- a constituent's shortfall is within its limit
short_fits : (b : Book) → constituent_keeps b ≡ true → b.row.shortfall ≤ 3000000000000000
short_fits b h = (figured 3000000000000000 b.row (booked 3000000000000000 b h).figures).shortfall

pub shortfalls_fit : (n : ℕ) (rs : List AccountRow) (ts : List TradeRow) → tables_keep n rs ts ≡ true → All (λ r. r.shortfall ≤ 3000000000000000) (drop 1 rs)
shortfalls_fit n [] ts h = All-nil (λ (r : AccountRow). r.shortfall ≤ 3000000000000000)
shortfalls_fit n (r ∷ rs) ts h =
    let fits : AccountRow → Type 0 = λ q. q.shortfall ≤ 3000000000000000 in
    let bs = books_of rs (drop 64 ts) in
    subst (All fits) (rows_back rs (drop 64 ts))
    (All-map fits (λ (b : Book). b.row) bs (all_from constituent_keeps (λ b. b.row.shortfall ≤ 3000000000000000) short_fits bs (kept n (r ∷ rs) ts h).constituents))

pub finished : (m : Meaning) (k : MarketState) (n cover : ℕ) (rs ys : List AccountRow) (ts : List TradeRow) (own : AccountRow) → 1 ≤ length rs → tables_keep n rs ts ≡ true
    → cover ≡ sum_by (λ r. r.shortfall) (drop 1 rs)
    → own ≡ with_second (settled_row m k cover (get_or rs 0 no_row) (take (get_or rs 0 no_row).trades (places_at ts 0))) false
    → holdings_keep own ≡ true → figures_keep 96000000000000000 own ≡ true
    → ys ≡ map (row_reflagged own.own) (take (length (set rs 0 own) - 1) (drop 1 (set rs 0 own)))
    → (put_mid 1 (length (set rs 0 own) - 1) (set rs 0 own) ys ≡ rows_of (finish m (standing k rs ts)))
    × (tables_keep n (put_mid 1 (length (set rs 0 own) - 1) (set rs 0 own) ys) ts ≡ true)
finished m k n cover [] ys ts own some h ec eo held fits ey = absurd (omega arith)
finished m k n cover (r ∷ cs) ys ts own some h ec eo held fits ey =
    let s = kept n (r ∷ cs) ts h in
    let e : put_mid 1 (length (own ∷ cs) - 1) (own ∷ cs) ys ≡ own ∷ map (row_reflagged own.own) cs =
    put_rest own cs ys ∙ ap (λ (l : List AccountRow). own ∷ l) (ey ∙ ap (map (row_reflagged own.own)) (take_all (length (own ∷ cs) - 1) cs (omega arith))) in
    let c : cover ≡ shortfalls (books_of cs (drop 64 ts)) = ec ∙ sum_books cs (drop 64 ts) 0 in
    let settled : own ≡ (house_settled m k (shortfalls (books_of cs (drop 64 ts))) (book r (take 64 ts))).row =
    eo ∙ ap (λ (x : ℕ). (house_settled m k x (book r (take 64 ts))).row) c in
    let count : own.trades ≡ r.trades = ap (λ (q : AccountRow). q.trades) eo ∙ settled_count m k cover r (take r.trades (take 64 ts)) _ refl in (
      e
          ∙ ap₂ (λ (q : AccountRow) (l : List AccountRow). q ∷ l) settled (sym (rows_reflagged own.own cs (drop 64 ts)))
          ∙ ap (λ (q : AccountRow). (house_settled m k (shortfalls (books_of cs (drop 64 ts))) (book r (take 64 ts))).row ∷ rows_in (map (reflagged q.own) (books_of cs (drop 64 ts)))) settled,
      ap (λ (l : List AccountRow). tables_keep n l ts) e
          ∙ keeps_from n (own ∷ map (row_reflagged own.own) cs) ts
          (ap suc (length-map cs (row_reflagged own.own)) ∙ s.rows) s.places
          (booked_from 96000000000000000 (book own (take 64 ts)) (record {
            holdings = held;
            figures = fits;
            places = ap (λ (x : ℕ). places_keep x (take 64 ts)) count ∙ (booked 96000000000000000 (book r (take 64 ts)) s.house).places;
          }))
          (ap (list_all constituent_keeps) (books_reflagged own.own cs (drop 64 ts))
          ∙ list_all_map constituent_keeps constituent_keeps (reflagged own.own) (λ b p. p) (books_of cs (drop 64 ts)) s.constituents),
    )

-- the cover, out of the records
pub cover_books : (rs : List AccountRow) (ts : List TradeRow) → sum_by (λ (r : AccountRow). r.shortfall) (drop 1 rs) ≡ shortfalls (drop 1 (books_of rs ts))
cover_books [] ts = refl
cover_books (r ∷ rs) ts = sum_books rs (drop 64 ts) 0
