-- What an account call leaves in the tables of the accounts that it does not name.
use Rattle.std.proofs.Common.{◌≡◌, ℕ, suc, ◌<◌, ◌≤◌, Bool, true, false, eqb, List, get_or, sym, refl, ap, ◌∙◌, ap₂, arith, length-drop}
use Rattle.models.specs.Meaning.{Meaning}
use Rattle.tables.specs.declared.row.AccountRow.{AccountRow}
use Rattle.tables.specs.declared.row.TradeRow.{TradeRow}
use Rattle.tables.specs.Books.{Book, book, books_of, no_book, no_row, places_at}
use Rattle.tables.specs.Limits.{tables_keep}
use Rattle.tables.proofs.Books.{kept, book_at, length_books}
use Rattle.market.specs.declared.state.MarketState.{MarketState}
use Rattle.rules.specs.declared.call.AccountCall.{AccountCall}
use Rattle.rules.specs.declared.call.Answer.{Answer}
use Rattle.rules.specs.Stands.{Stand, standing, cover_of, after_account}
use Rattle.rules.specs.Outcomes.{account_reply, left_alone, house_left, OthersLeft}
use Rattle.isolation.specs.Isolation.{book_of}
use Rattle.isolation.proofs.Others.{left_book, others_left, left_house, house_kept}
use Rattle.house.proofs.Lent.{books_stand}

left_row : (a r : Bool) (b : Book) → ((left_book a r b).row ≡ left_alone a r b.row) × ((left_book a r b).places ≡ b.places)
left_row true r b = (refl, refl)
left_row false r b = (refl, refl)

kept_row : (m : Meaning) (k : MarketState) (a : Bool) (cover : ℕ) (b : Book) → ((left_house m k a cover b).row ≡ house_left m k a cover b) × ((left_house m k a cover b).places ≡ b.places)
kept_row m k true cover b = (refl, refl)
kept_row m k false cover b = (refl, refl)

module _ (k : MarketState) (n : ℕ) (some : 1 ≤ n) where
  -- account i of the stand that tables hold
  held_at : (rs : List AccountRow) (ts : List TradeRow) (i : ℕ) → tables_keep n rs ts ≡ true → i < n → book_of (standing k rs ts) i ≡ book (get_or rs i no_row) (places_at ts i)
  held_at rs ts i h l = ap (λ (bs : List Book). get_or bs i no_book) (books_stand k n rs ts some h) ∙ book_at rs ts i no_row no_book (omega (arith, (kept n rs ts h).rows))

  others_rows : (m : Meaning) (rs us : List AccountRow) (ts vs : List TradeRow) (i : ℕ) (c : AccountCall) (a : Answer) → tables_keep n rs ts ≡ true → tables_keep n us vs ≡ true
      → standing k us vs ≡ after_account m (standing k rs ts) i c → a ≡ account_reply m (standing k rs ts) i c → (j : ℕ) → suc j < n → (suc j ≡ i → ⊥)
      → (get_or us (suc j) no_row ≡ left_alone (eqb a.number 0) (get_or us 0 no_row).own (get_or rs (suc j) no_row)) × (places_at vs (suc j) ≡ places_at ts (suc j))
  others_rows m rs us ts vs i c a h h' stands is j l ne =
      let s = standing k rs ts in
      let before = held_at rs ts (suc j) h l in
      let after' = held_at us vs (suc j) h' l in
      let flag : (get_or us 0 no_row).own ≡ (after_account m s i c).house.row.own = ap (λ (b : Book). b.row.own) (sym (held_at us vs 0 h' (omega arith))) ∙ ap (λ (t : Stand). t.house.row.own) stands in
      let yes' = eqb a.number 0 in
      let left : book_of (standing k us vs) (suc j) ≡ left_book yes' (get_or us 0 no_row).own (book (get_or rs (suc j) no_row) (places_at ts (suc j))) =
      ap (λ (t : Stand). book_of t (suc j)) stands
      ∙ others_left m s i c j (omega (arith, length-drop 1 (books_of rs ts), length_books rs ts, (kept n rs ts h).rows)) ne
      ∙ ap (λ (x : Answer). left_book (eqb x.number 0) (after_account m s i c).house.row.own (book_of s (suc j))) (sym is)
      ∙ ap₂ (λ (r : Bool) (b : Book). left_book yes' r b) (sym flag) before in
      let parts = left_row yes' (get_or us 0 no_row).own (book (get_or rs (suc j) no_row) (places_at ts (suc j))) in
      (ap (λ (b : Book). b.row) (sym after' ∙ left) ∙ parts.0, ap (λ (b : Book). b.places) (sym after' ∙ left) ∙ parts.1)

  house_row : (m : Meaning) (rs us : List AccountRow) (ts vs : List TradeRow) (i : ℕ) (c : AccountCall) (a : Answer) → tables_keep n rs ts ≡ true → tables_keep n us vs ≡ true
      → standing k us vs ≡ after_account m (standing k rs ts) i c → a ≡ account_reply m (standing k rs ts) i c → (0 ≡ i → ⊥)
      → (get_or us 0 no_row ≡ house_left m k (eqb a.number 0) (cover_of (standing k us vs)) (book (get_or rs 0 no_row) (places_at ts 0))) × (places_at vs 0 ≡ places_at ts 0)
  house_row m rs us ts vs i c a h h' stands is ne =
      let s = standing k rs ts in
      let before = held_at rs ts 0 h (omega arith) in
      let after' = held_at us vs 0 h' (omega arith) in
      let yes' = eqb a.number 0 in
      let b = book (get_or rs 0 no_row) (places_at ts 0) in
      let left : book_of (standing k us vs) 0 ≡ left_house m k yes' (cover_of (standing k us vs)) b =
      ap (λ (t : Stand). t.house) stands
      ∙ house_kept m s i c ne
      ∙ ap₂ (λ (x : Answer) (t : Stand). left_house m k (eqb x.number 0) (cover_of t) s.house) (sym is) (sym stands)
      ∙ ap (left_house m k yes' (cover_of (standing k us vs))) before in
      let parts = kept_row m k yes' (cover_of (standing k us vs)) b in
      (ap (λ (x : Book). x.row) (sym after' ∙ left) ∙ parts.0, ap (λ (x : Book). x.places) (sym after' ∙ left) ∙ parts.1)

  pub others_kept : (m : Meaning) (rs us : List AccountRow) (ts vs : List TradeRow) (i : ℕ) (c : AccountCall) (a : Answer) → tables_keep n rs ts ≡ true → tables_keep n us vs ≡ true
      → standing k us vs ≡ after_account m (standing k rs ts) i c → a ≡ account_reply m (standing k rs ts) i c → OthersLeft m k n rs us ts vs i a
  others_kept m rs us ts vs i c a h h' stands is =
      record { constituents = others_rows m rs us ts vs i c a h h' stands is; house = house_row m rs us ts vs i c a h h' stands is }
