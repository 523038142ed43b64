-- An account call on the tables, and by the rules.
use Rattle.std.proofs.Common.{◌≡◌, ℕ, zero, suc, ◌*◌, ◌<◌, ◌≤◌, true, false, cond, eqb, ltb, List, map, length, get_or, drop, set, sym, ap, ◌∙◌, arith, length-drop, length-set}
use lib.ListN.{length-map}
use Rattle.std.proofs.lemmas.List.{get_or-map}
use Rattle.std.proofs.lemmas.Bool.{lt-ltb, le-ltb, ne_eqb, cond-true, cond-false}
use Rattle.models.specs.Meaning.{Meaning}
use Rattle.tables.specs.declared.row.AccountRow.{AccountRow}
use Rattle.tables.specs.declared.row.TradeRow.{TradeRow}
use Rattle.tables.specs.Books.{Book, book, books_of, no_book, no_row, places_at, put_places}
use Rattle.tables.specs.Limits.{tables_keep, book_keeps}
use Rattle.tables.proofs.Books.{Kept, kept, most_of, length_books, book_at, books_put, length_put}
use Rattle.tables.proofs.Facts.{booked_from, figured_from}
use Rattle.market.specs.declared.state.MarketState.{MarketState}
use Rattle.rules.specs.declared.call.AccountCall.{AccountCall}
use Rattle.refusals.specs.declared.refusal.Refusal.{Refusal}
use Rattle.refusals.specs.declared.refusal.Refusal.TheVariants.{NoAccount}
use Rattle.refusals.specs.Refusals.{number_of}
use Rattle.rules.specs.Settling.{reflagged}
use Rattle.rules.specs.Stands.{Stand, Verdict, refused, granted, standing, stand_of, books_in, rows_of, trades_of, shortfalls, ordered, finish, verdict, concluded, after_account}
use Rattle.rules.specs.Outcomes.{answer_of, blank_answer, verdict_number, account_reply, account_outcome}
use Rattle.accounts.specs.declared.book.HeldBook.{HeldBook}
use Rattle.accounts.specs.Changing.{book_in, Within}
use Rattle.house.proofs.Finishing.{trades_finished}
use Rattle.house.proofs.Resting.{standing_finished}
use Rattle.house.proofs.Lent.{books_stand, rows_stand, trades_stand}

module _ (m : Meaning) (k : MarketState) (n : ℕ) (rs : List AccountRow) (ts : List TradeRow) (i : ℕ) (c : AccountCall) (some : 1 ≤ n) (h : tables_keep n rs ts ≡ true) where
  abbrev s : Stand
  s = standing k rs ts

  facts : Kept n rs ts
  facts = kept n rs ts h

  whole : books_in s ≡ books_of rs ts
  whole = books_stand k n rs ts some h

  many : length (books_in s) ≡ n
  many = ap length whole ∙ length_books rs ts ∙ facts.rows

  -- what an unchanged stand holds
  rows_same : rows_of s ≡ rs
  rows_same = rows_stand k n rs ts some h

  trades_same : trades_of s ≡ ts
  trades_same = trades_stand k n rs ts some h

  -- the row of account i, out of a stand
  row_at : (t : Stand) → i < length (books_in t) → get_or (rows_of t) i no_row ≡ (get_or (books_in t) i no_book).row
  row_at t l = get_or-map (λ (b : Book). b.row) (books_in t) i no_book no_row l

  -- no such account
  pub absent : n ≤ i → (account_reply m s i c ≡ blank_answer (number_of NoAccount)) × (rows_of (after_account m s i c) ≡ rs) × (trades_of (after_account m s i c) ≡ ts) × (s ≡ after_account m s i c)
  absent out =
      let no_one : ltb i (length (books_in s)) ≡ false = le-ltb i (length (books_in s)) (omega (arith, many)) in
      let stays : after_account m s i c ≡ s = cond-false (ltb i (length (books_in s))) _ s no_one in
      (cond-false (ltb i (length (books_in s))) _ _ no_one, ap rows_of stays ∙ rows_same, ap trades_of stays ∙ trades_same, sym stays)

  module _ (l : i < n) where
    there : ltb i (length (books_in s)) ≡ true
    there = lt-ltb i (length (books_in s)) (omega (arith, many))

    pub book_is : get_or (books_in s) i no_book ≡ book (get_or rs i no_row) (places_at ts i)
    book_is = ap (λ (bs : List Book). get_or bs i no_book) whole ∙ book_at rs ts i no_row no_book (omega (arith, facts.rows))

    after_is : after_account m s i c ≡ concluded m s i (verdict m s i c)
    after_is = cond-true (ltb i (length (books_in s))) _ s there

    reply_is : account_reply m s i c ≡ answer_of (verdict_number (verdict m s i c)) (get_or (books_in (after_account m s i c)) i no_book).row
    reply_is = cond-true (ltb i (length (books_in s))) _ _ there

    -- what the call comes to, from the account's own record and places
    abbrev pub own_verdict : ℕ → Verdict Book
    own_verdict cover = ordered m k (eqb i 0) cover (book (get_or rs i no_row) (places_at ts i)) c

    pub verdict_is : (cover : ℕ) → cover ≡ cond (eqb i 0) (shortfalls (drop 1 (books_of rs ts))) 0 → verdict m s i c ≡ own_verdict cover
    verdict_is cover e =
        ap (λ (b : Book). ordered m k (eqb i 0) (cond (eqb i 0) (shortfalls (drop 1 (books_of rs ts))) 0) b c) book_is
        ∙ ap (λ (x : ℕ). own_verdict x) (sym e)

    pub refused_is : (e : Refusal) → verdict m s i c ≡ refused e → (answer_of (number_of e) (get_or rs i no_row) ≡ account_reply m s i c) × (rs ≡ rows_of (after_account m s i c)) × (ts ≡ trades_of (after_account m s i c)) × (s ≡ after_account m s i c)
    refused_is e v =
        let stays : after_account m s i c ≡ s = after_is ∙ ap (concluded m s i) v in (
          sym (reply_is ∙ ap (λ (w : Verdict Book). answer_of (verdict_number w) (get_or (books_in (after_account m s i c)) i no_book).row) v
              ∙ ap (λ (t : Stand). answer_of (number_of e) (get_or (books_in t) i no_book).row) stays
              ∙ ap (λ (b : Book). answer_of (number_of e) b.row) book_is),
          sym (ap rows_of stays ∙ rows_same),
          sym (ap trades_of stays ∙ trades_same),
          sym stays,
        )

    pub granted_is : (q : AccountRow) (ps : List TradeRow) (us : List AccountRow) → verdict m s i c ≡ granted (book q ps) → length ps ≡ 64
        → us ≡ rows_of (finish m (standing k (set rs i q) (put_places ts i ps)))
        → (answer_of 0 (get_or us i no_row) ≡ account_reply m s i c) × (us ≡ rows_of (after_account m s i c)) × (put_places ts i ps ≡ trades_of (after_account m s i c)) × (standing k us (put_places ts i ps) ≡ after_account m s i c)
    granted_is q ps us v long e =
        let w : 64 * length rs ≤ length ts = omega (arith, facts.rows, facts.places) in
        let put : books_of (set rs i q) (put_places ts i ps) ≡ set (books_in s) i (book q ps) =
        books_put rs ts i q ps (omega (arith, facts.rows)) w long ∙ ap (λ (bs : List Book). set bs i (book q ps)) (sym whole) in
        let ended : finish m (standing k (set rs i q) (put_places ts i ps)) ≡ after_account m s i c =
        ap (λ (bs : List Book). finish m (stand_of k bs)) put ∙ sym (after_is ∙ ap (concluded m s i) v) in
        let rows : us ≡ rows_of (after_account m s i c) = e ∙ ap rows_of ended in
        let count : length (books_in (after_account m s i c)) ≡ n =
        sym (length-map (books_in (after_account m s i c)) (λ (b : Book). b.row)) ∙ ap length (sym rows) ∙ ap length e ∙ finished_length q ps long in
        let lt : i < length (books_in (after_account m s i c)) = omega arith in (
          sym (reply_is ∙ ap (λ (x : Verdict Book). answer_of (verdict_number x) (get_or (books_in (after_account m s i c)) i no_book).row) v
              ∙ ap (answer_of 0) (sym (row_at (after_account m s i c) lt) ∙ ap (λ (xs : List AccountRow). get_or xs i no_row) (sym rows))),
          rows,
          sym (trades_finished m k (set rs i q) (put_places ts i ps) (omega (arith, length-set rs i q, facts.rows)) (omega (arith, length_put ts i ps (omega (arith, facts.rows, facts.places)) long, length-set rs i q, facts.rows, facts.places))) ∙ ap trades_of ended,
          ap (λ (xs : List AccountRow). standing k xs (put_places ts i ps)) e ∙ standing_finished m k (set rs i q) (put_places ts i ps) (omega (arith, length-set rs i q, facts.rows)) ∙ ended,
        )
      where
        finished_length : (q : AccountRow) (ps : List TradeRow) → length ps ≡ 64 → length (rows_of (finish m (standing k (set rs i q) (put_places ts i ps)))) ≡ n
        finished_length q ps long =
            let bs = books_of (set rs i q) (put_places ts i ps) in
            let r = (finish m (stand_of k bs)).house.row.own in
            omega (arith, length-map (map (reflagged r) (drop 1 bs)) (λ (b : Book). b.row), length-map (drop 1 bs) (reflagged r), length-drop 1 bs, length_books (set rs i q) (put_places ts i ps), length-set rs i q, facts.rows)

-- a previewed book is within the limits of its account
pub after_keeps : (cover i : ℕ) (h : HeldBook) (x : ℕ) → cover ≡ cond (eqb i 0) x 0 → cover ≤ 93000000000000000 → Within cover h.row → book_keeps (most_of i) (book_in h) ≡ true
after_keeps cover zero h x e few k =
    booked_from 96000000000000000 (book_in h) (record { holdings = h.holdings; figures = figured_from 96000000000000000 h.row (omega (arith, k.obligation)) k.available (omega (arith, k.shortfall)); places = h.trades })
after_keeps cover (suc j) h x e few k =
    let nil : cover ≡ 0 = e ∙ cond-false (eqb (suc j) 0) x 0 (ne_eqb (suc j) 0 (λ z. omega arith)) in
    booked_from 3000000000000000 (book_in h) (record { holdings = h.holdings; figures = figured_from 3000000000000000 h.row (omega (arith, k.obligation)) k.available (omega (arith, k.shortfall)); places = h.trades })

-- the outcome on tables that keep their limits
pub outcome_kept : (m : Meaning) (k : MarketState) (n : ℕ) (rs : List AccountRow) (ts : List TradeRow) (i : ℕ) (c : AccountCall) → tables_keep n rs ts ≡ true
    → account_outcome m k n rs ts i c ≡ record { answer = account_reply m (standing k rs ts) i c; rows = rows_of (after_account m (standing k rs ts) i c); trades = trades_of (after_account m (standing k rs ts) i c) }
outcome_kept m k n rs ts i c h = cond-true (tables_keep n rs ts) _ _ h
