-- Reading and writing one account's book in the tables.
use Rattle.std.proofs.Common.{◌≡◌, ℕ, zero, suc, ◌+◌, ◌-◌, ◌*◌, ◌<◌, ◌≤◌, true, ◌&&◌, eqb, ◌≢◌, ◌⊎◌, List, [], ◌∷◌, ◌++◌, length, get_or, take, drop, set, sym, refl, ap, ◌∙◌, subst, ap₂, inl, inr, append_assoc, arith, length-append, length-drop, length-set, take-append-drop, length-take, length-take-le, get_or-set_other, get_or-set_same, drop-drop, take_at, ext_get_or, drop_at}
use lib.Seq.{drop-append-le, drop-append-add, take-append-le}
use Rattle.std.proofs.lemmas.List.{get_or-drop}
use Rattle.std.proofs.lemmas.Bool.{cases_order, cases_eq, and_parts, and_from, eqb-true, eq-eqb}
use Rattle.tables.specs.declared.row.AccountRow.{AccountRow}
use Rattle.tables.specs.declared.row.TradeRow.{TradeRow}
use Rattle.tables.specs.Books.{Book, book, books_of, no_book, no_row, places_at, rows_in, places_in, put_places}
use Rattle.tables.specs.Limits.{book_keeps, house_keeps, constituent_keeps, tables_keep}
use Rattle.std.specs.List.{list_all}
use Rattle.tables.proofs.Alls.{list_all_at, list_all_set}

pub length_books : (rs : List AccountRow) (ts : List TradeRow) → length (books_of rs ts) ≡ length rs
length_books [] ts = refl
length_books (r ∷ rs) ts = ap suc (length_books rs (drop 64 ts))

-- the places of the account after next are those that stand 64 further on
pub further : (ts : List TradeRow) (i : ℕ) → places_at (drop 64 ts) i ≡ places_at ts (suc i)
further ts i = ap (take 64) (drop-drop (64 * i) 64 ts ∙ ap (λ (n : ℕ). drop n ts) (omega arith))

-- one account's book, read out of the list of all
pub book_at : (rs : List AccountRow) (ts : List TradeRow) (i : ℕ) (d : AccountRow) (e : Book) → i < length rs → get_or (books_of rs ts) i e ≡ book (get_or rs i d) (places_at ts i)
book_at [] ts i d e h = absurd (omega arith)
book_at (r ∷ rs) ts zero d e h = refl
book_at (r ∷ rs) ts (suc i) d e h = book_at rs (drop 64 ts) i d e (omega arith) ∙ ap (book (get_or rs i d)) (further ts i)

-- the tables back out of the books that they hold
pub rows_back : (rs : List AccountRow) (ts : List TradeRow) → rows_in (books_of rs ts) ≡ rs
rows_back [] ts = refl
rows_back (r ∷ rs) ts = ap (λ (l : List AccountRow). r ∷ l) (rows_back rs (drop 64 ts))

pub places_back : (rs : List AccountRow) (ts : List TradeRow) → length ts ≡ 64 * length rs → places_in (books_of rs ts) ≡ ts
places_back [] [] h = refl
places_back [] (t ∷ ts) h = absurd (omega arith)
places_back (r ∷ rs) ts h =
    ap (λ (l : List TradeRow). take 64 ts ++ l) (places_back rs (drop 64 ts) (simp length-drop (omega arith))) ∙ take-append-drop 64 ts

pub length_places_at : (ts : List TradeRow) (i : ℕ) → 64 * i + 64 ≤ length ts → length (places_at ts i) ≡ 64
length_places_at ts i h = length-take-le 64 (drop (64 * i) ts) (simp length-drop (omega arith))

-- a list of books that reads as another with account i replaced
books_replaced : (rs qs : List AccountRow) (ts us : List TradeRow) (i : ℕ) (d : AccountRow) → i < length rs → length qs ≡ length rs
    → ((j : ℕ) → j < length rs → j ≢ i → get_or qs j d ≡ get_or rs j d) → ((j : ℕ) → j < length rs → j ≢ i → places_at us j ≡ places_at ts j)
    → books_of qs us ≡ set (books_of rs ts) i (book (get_or qs i d) (places_at us i))
books_replaced rs qs ts us i d hi n hr hp =
    ext_get_or no_book _ _ (length_books qs us ∙ n ∙ sym (length_books rs ts) ∙ sym (length-set (books_of rs ts) i _)) λ j h.
    let lq : j < length qs = subst (λ (k : ℕ). j < k) (length_books qs us) h in
    let l : j < length rs = subst (λ (k : ℕ). j < k) n lq in
    book_at qs us j d no_book lq ∙ go j l (cases_eq j i)
  where
    a : Book
    a = book (get_or qs i d) (places_at us i)

    go : (j : ℕ) → j < length rs → (j ≡ i) ⊎ (j ≡ i → ⊥) → book (get_or qs j d) (places_at us j) ≡ get_or (set (books_of rs ts) i a) j no_book
    go j l (inl e) =
        ap (λ (k : ℕ). book (get_or qs k d) (places_at us k)) e
        ∙ sym (get_or-set_same (books_of rs ts) i a no_book (subst (λ (k : ℕ). i < k) (sym (length_books rs ts)) hi))
        ∙ ap (λ (k : ℕ). get_or (set (books_of rs ts) i a) k no_book) (sym e)
    go j l (inr ne) =
        ap₂ book (hr j l ne) (hp j l ne) ∙ sym (book_at rs ts j d no_book l) ∙ sym (get_or-set_other (books_of rs ts) i j a no_book ne)

places_put_same : (ts : List TradeRow) (i : ℕ) (ps : List TradeRow) → 64 * i + 64 ≤ length ts → length ps ≡ 64 → places_at (put_places ts i ps) i ≡ ps
places_put_same ts i ps h e =
    ap (take 64) (drop_at (take (64 * i) ts) (ps ++ drop (64 * i + 64) ts) (64 * i) (length-take-le (64 * i) ts (omega arith)))
    ∙ take_at ps (drop (64 * i + 64) ts) 64 e

-- places that stand in the front part are read there, and those behind it behind it
in_front : (xs ys : List TradeRow) (j : ℕ) → 64 * j + 64 ≤ length xs → places_at (xs ++ ys) j ≡ places_at xs j
in_front xs ys j h =
    ap (take 64) (drop-append-le (64 * j) xs ys (omega arith))
    ∙ take-append-le 64 (drop (64 * j) xs) ys (simp length-drop (omega arith))

behind : (xs ys : List TradeRow) (j n : ℕ) → length xs + n ≡ 64 * j → places_at (xs ++ ys) j ≡ take 64 (drop n ys)
behind xs ys j n h = ap (λ (k : ℕ). take 64 (drop k (xs ++ ys))) (sym h) ∙ ap (take 64) (drop-append-add xs ys n)

places_put_other : (ts : List TradeRow) (i j : ℕ) (ps : List TradeRow) → 64 * i + 64 ≤ length ts → length ps ≡ 64 → j ≢ i
    → places_at (put_places ts i ps) j ≡ places_at ts j
places_put_other ts i j ps h e n = go (cases_order j i)
  where
    front : length (take (64 * i) ts) ≡ 64 * i
    front = length-take-le (64 * i) ts (omega arith)

    go : (j ≡ i) ⊎ ((j < i) ⊎ (i < j)) → places_at (put_places ts i ps) j ≡ places_at ts j
    go (inl q) = absurd (n q)
    go (inr (inl l)) =
        in_front (take (64 * i) ts) (ps ++ drop (64 * i + 64) ts) j (omega (arith, front))
        ∙ sym (in_front (take (64 * i) ts) (drop (64 * i) ts) j (omega (arith, front)))
        ∙ ap (λ (us : List TradeRow). places_at us j) (take-append-drop (64 * i) ts)
    go (inr (inr l)) =
        let m : ℕ = 64 * j - (64 * i + 64) in
        let whole : length (take (64 * i + 64) ts) ≡ 64 * i + 64 = length-take-le (64 * i + 64) ts h in
        ap (λ (us : List TradeRow). places_at us j) (sym (append_assoc (take (64 * i) ts) ps (drop (64 * i + 64) ts)))
        ∙ behind (take (64 * i) ts ++ ps) (drop (64 * i + 64) ts) j m (omega (arith, front, length-append (take (64 * i) ts) ps))
        ∙ sym (behind (take (64 * i + 64) ts) (drop (64 * i + 64) ts) j m (omega arith))
        ∙ ap (λ (us : List TradeRow). places_at us j) (take-append-drop (64 * i + 64) ts)

-- the row and the places of account i written
pub books_put : (rs : List AccountRow) (ts : List TradeRow) (i : ℕ) (r : AccountRow) (ps : List TradeRow) → i < length rs → 64 * length rs ≤ length ts → length ps ≡ 64
    → books_of (set rs i r) (put_places ts i ps) ≡ set (books_of rs ts) i (book r ps)
books_put rs ts i r ps h w e =
    books_replaced rs (set rs i r) ts (put_places ts i ps) i r h (length-set rs i r)
    (λ j l ne. get_or-set_other rs i j r r ne) (λ j l ne. places_put_other ts i j ps (omega arith) e ne)
    ∙ ap₂ (λ (q : AccountRow) (us : List TradeRow). set (books_of rs ts) i (book q us)) (get_or-set_same rs i r r h) (places_put_same ts i ps (omega arith) e)

-- the places of account i written over themselves
pub put_same : (ts : List TradeRow) (i : ℕ) → put_places ts i (places_at ts i) ≡ ts
put_same ts i =
    ap (λ (l : List TradeRow). take (64 * i) ts ++ (places_at ts i ++ l)) (sym (drop-drop 64 (64 * i) ts))
    ∙ ap (λ (l : List TradeRow). take (64 * i) ts ++ l) (take-append-drop 64 (drop (64 * i) ts))
    ∙ take-append-drop (64 * i) ts

-- the most that obligation and shortfall of account i may be
abbrev pub most_of : ℕ → ℕ
most_of zero = 96000000000000000
most_of (suc j) = 3000000000000000

-- what question 1 tells of the tables
pub record Kept (n : ℕ) (rs : List AccountRow) (ts : List TradeRow) : Type 0 where
  pub rows : length rs ≡ n
  pub places : length ts ≡ 64 * n
  pub house : house_keeps (get_or (books_of rs ts) 0 no_book) ≡ true
  pub constituents : list_all constituent_keeps (drop 1 (books_of rs ts)) ≡ true
  pub each : (i : ℕ) → i < n → book_keeps (most_of i) (book (get_or rs i no_row) (places_at ts i)) ≡ true

pub kept : (n : ℕ) (rs : List AccountRow) (ts : List TradeRow) → tables_keep n rs ts ≡ true → Kept n rs ts
kept n rs ts h =
    let bs = books_of rs ts in
    let a = and_parts (eqb (length rs) n) (eqb (length ts) (64 * n) && (house_keeps (get_or bs 0 no_book) && list_all constituent_keeps (drop 1 bs))) h in
    let b = and_parts (eqb (length ts) (64 * n)) (house_keeps (get_or bs 0 no_book) && list_all constituent_keeps (drop 1 bs)) a.1 in
    let c = and_parts (house_keeps (get_or bs 0 no_book)) (list_all constituent_keeps (drop 1 bs)) b.1 in
    let long : length rs ≡ n = eqb-true (length rs) n a.0 in
    let one : (i : ℕ) → i < n → book_keeps (most_of i) (book (get_or rs i no_row) (places_at ts i)) ≡ true =
    λ i. elim i as (λ j. j < n → book_keeps (most_of j) (book (get_or rs j no_row) (places_at ts j)) ≡ true) [
      | zero ↦ λ l. ap house_keeps (sym (book_at rs ts 0 no_row no_book (omega arith))) ∙ c.0
      | suc j ↦ λ l.
          let lb : j < length (drop 1 bs) = omega (arith, length-drop 1 bs, length_books rs ts) in
          ap constituent_keeps (sym (book_at rs ts (suc j) no_row no_book (omega arith)) ∙ sym (get_or-drop 1 bs j no_book ∙ ap (λ (x : ℕ). get_or bs x no_book) (omega arith)))
          ∙ list_all_at constituent_keeps (drop 1 bs) j no_book lb c.1
    ] in
    record { rows = long; places = eqb-true (length ts) (64 * n) b.0; house = c.0; constituents = c.1; each = one }

-- and back
pub keeps_from : (n : ℕ) (rs : List AccountRow) (ts : List TradeRow) → length rs ≡ n → length ts ≡ 64 * n → house_keeps (get_or (books_of rs ts) 0 no_book) ≡ true → list_all constituent_keeps (drop 1 (books_of rs ts)) ≡ true → tables_keep n rs ts ≡ true
keeps_from n rs ts a b h k = and_from _ _ (eq-eqb (length rs) n a) (and_from _ _ (eq-eqb (length ts) (64 * n) b) (and_from _ _ h k))

pub length_put : (ts : List TradeRow) (i : ℕ) (ps : List TradeRow) → 64 * i + 64 ≤ length ts → length ps ≡ 64 → length (put_places ts i ps) ≡ length ts
length_put ts i ps h e = simp (length-append, length-take, length-drop) (omega arith)

-- every book, the first and the rest
pub books_whole : (bs : List Book) → 1 ≤ length bs → (get_or bs 0 no_book ∷ drop 1 bs) ≡ bs
books_whole [] h = absurd (omega arith)
books_whole (b ∷ bs) h = refl

-- a book within its limits, written in its place
pub put_keeps : (n : ℕ) (rs : List AccountRow) (ts : List TradeRow) (i : ℕ) (q : AccountRow) (ps : List TradeRow) → tables_keep n rs ts ≡ true → i < n → length ps ≡ 64 → book_keeps (most_of i) (book q ps) ≡ true → tables_keep n (set rs i q) (put_places ts i ps) ≡ true
put_keeps n rs ts i q ps h l e fits =
    let s = kept n rs ts h in
    let bs = books_of rs ts in
    let b = book q ps in
    let is : books_of (set rs i q) (put_places ts i ps) ≡ set bs i b = books_put rs ts i q ps (omega (arith, s.rows)) (omega (arith, s.rows, s.places)) e in
    let both = go bs i b (omega (arith, s.rows, length_books rs ts)) s.house s.constituents fits in
    keeps_from n (set rs i q) (put_places ts i ps) (length-set rs i q ∙ s.rows) (length_put ts i ps (omega (arith, s.places)) e ∙ s.places)
    (ap (λ (l : List Book). house_keeps (get_or l 0 no_book)) is ∙ both.0)
    (ap (λ (l : List Book). list_all constituent_keeps (drop 1 l)) is ∙ both.1)
  where
    go : (bs : List Book) (i : ℕ) (b : Book) → i < length bs → house_keeps (get_or bs 0 no_book) ≡ true → list_all constituent_keeps (drop 1 bs) ≡ true → book_keeps (most_of i) b ≡ true
        → (house_keeps (get_or (set bs i b) 0 no_book) ≡ true) × (list_all constituent_keeps (drop 1 (set bs i b)) ≡ true)
    go [] i b l h k f = absurd (omega arith)
    go (a ∷ bs) zero b l h k f = (f, k)
    go (a ∷ bs) (suc j) b l h k f = (h, list_all_set constituent_keeps bs j b f k)
