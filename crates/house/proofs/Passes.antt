-- A pass over the accounts: one more book is what it should be.
use Rattle.std.proofs.Common.{◌≡◌, ℕ, zero, suc, ◌+◌, ◌<◌, ◌≤◌, true, List, ◌∷◌, ◌++◌, map, length, get_or, take, drop, set, sym, refl, ap, ◌∙◌, ap₂, arith}
use Rattle.std.proofs.lemmas.List.Edits.{map_over_more}
use Rattle.tables.specs.declared.row.AccountRow.{AccountRow}
use Rattle.tables.specs.declared.row.TradeRow.{TradeRow}
use Rattle.tables.specs.Books.{Book, book, books_of, no_row, places_at, put_places}
use Rattle.tables.specs.Limits.{tables_keep, book_keeps, holdings_keep, places_keep}
use Rattle.tables.proofs.Books.{kept, most_of, book_at, books_put, put_keeps}
use Rattle.tables.proofs.Facts.{booked, booked_from, figured_from}
use Rattle.models.specs.Meaning.{Meaning}
use Rattle.market.specs.declared.state.MarketState.{MarketState}
use Rattle.rules.specs.Settling.{settled_row, settled}
use Rattle.accounts.proofs.Steps.{settled_count}

module _ (n : ℕ) (f : Book → Book) (rs us : List AccountRow) (ts vs : List TradeRow) (i : ℕ) (h : tables_keep n rs ts ≡ true) (l : i < n) where
  abbrev own : Book
  own = book (get_or rs i no_row) (places_at ts i)

  module _ (long : length (f own).places ≡ 64) (er : us ≡ set rs i (f own).row) (et : vs ≡ put_places ts i (f own).places) where
    books_now : books_of us vs ≡ set (books_of rs ts) i (f own)
    books_now =
        ap₂ books_of er et ∙ books_put rs ts i (f own).row (f own).places (omega (arith, (kept n rs ts h).rows)) (omega (arith, (kept n rs ts h).rows, (kept n rs ts h).places)) long

    pub keeps_more : book_keeps (most_of i) (f own) ≡ true → tables_keep n us vs ≡ true
    keeps_more fits = ap₂ (tables_keep n) er et ∙ put_keeps n rs ts i (f own).row (f own).places h l long fits

    -- the first i accounts are done
    pub all_more : (bs : List Book) → i < length bs → books_of rs ts ≡ map f (take i bs) ++ drop i bs → books_of us vs ≡ map f (take (i + 1) bs) ++ drop (i + 1) bs
    all_more bs lt e =
        books_now ∙ map_over_more f bs (books_of rs ts) i own lt e (sym (book_at rs ts i no_row own (omega (arith, (kept n rs ts h).rows))))

    -- the constituents before account i are done; b is the house's book
    pub constituents_more : (b : Book) (cs : List Book) (j : ℕ) → i ≡ suc j → j < length cs → books_of rs ts ≡ (b ∷ (map f (take j cs) ++ drop j cs)) → books_of us vs ≡ (b ∷ (map f (take (j + 1) cs) ++ drop (j + 1) cs))
    constituents_more b cs j is lt e =
        let ys = map f (take j cs) ++ drop j cs in
        let here : own ≡ get_or ys j own =
        sym (book_at rs ts i no_row own (omega (arith, (kept n rs ts h).rows))) ∙ ap₂ (λ (bs : List Book) (x : ℕ). get_or bs x own) e is in
        books_now ∙ ap₂ (λ (bs : List Book) (x : ℕ). set bs x (f own)) e is ∙ ap (λ (l : List Book). b ∷ l) (map_over_more f cs ys j own lt refl here)

constituent_fits : (i : ℕ) (b : Book) → 1 ≤ i → book_keeps 3000000000000000 b ≡ true → book_keeps (most_of i) b ≡ true
constituent_fits zero b some h = absurd (omega arith)
constituent_fits (suc j) b some h = h

-- a constituent's book, settled, is within its limits
pub settled_fits : (m : Meaning) (k : MarketState) (i : ℕ) (r : AccountRow) (ps : List TradeRow) (q : AccountRow) → 1 ≤ i → book_keeps (most_of i) (book r ps) ≡ true → q ≡ settled_row m k 0 r (take r.trades ps)
    → holdings_keep q ≡ true → q.obligation ≤ 3000000000000000 → q.available ≤ 3000000000000000 → q.shortfall ≤ 3000000000000000 → book_keeps (most_of i) (settled m k 0 (book r ps)) ≡ true
settled_fits m k i r ps q some h value holds owed had short =
    let places = ap (λ (n : ℕ). places_keep n ps) (settled_count m k 0 r (take r.trades ps) q value) ∙ (booked (most_of i) (book r ps) h).places in
    ap (λ (x : AccountRow). book_keeps (most_of i) (book x ps)) (sym value)
    ∙ constituent_fits i (book q ps) some (booked_from 3000000000000000 (book q ps) (record { holdings = holds; figures = figured_from 3000000000000000 q owed had short; places = places }))
