use Rattle.std.proofs.Common.{◌≡◌, ◌&&◌, List, ◌∷◌, ◌++◌, length, Bool, true, false, sym, ap, ap₂, ◌∙◌, arith, take_at, drop_at, length-append}
use Rattle.std.specs.List.{list_all}
use Rattle.tables.specs.declared.row.AccountRow.{AccountRow}
use Rattle.tables.specs.declared.row.TradeRow.{TradeRow}
use Rattle.tables.specs.Books.{book, books_of}
use Rattle.tables.specs.Limits.{constituent_keeps}
use Rattle.tables.proofs.checking.constituents_keep.Goals as goal

-- the first book and the rest, of what is left
first_book : (rs qs : List AccountRow) (ts us ps : List TradeRow) (r : AccountRow) → rs ≡ r ∷ qs → ts ≡ ps ++ us → length ps ≡ 64 → books_of rs ts ≡ (book r ps ∷ books_of qs us)
first_book rs qs ts us ps r e f long =
    ap₂ books_of e f ∙ ap₂ (λ l m. book r l ∷ books_of qs m) (take_at ps us 64 long) (drop_at ps us 64 long)

-- the test of what is left, by the test of its first book
step : (rs qs : List AccountRow) (ts us ps : List TradeRow) (r : AccountRow) (b : Bool) → rs ≡ r ∷ qs → ts ≡ ps ++ us → length ps ≡ 64 → b ≡ constituent_keeps (book r ps)
    → list_all constituent_keeps (books_of rs ts) ≡ (b && list_all constituent_keeps (books_of qs us))
step rs qs ts us ps r b e f long is =
    ap (list_all constituent_keeps) (first_book rs qs ts us ps r e f long)
    ∙ ap (λ (t : Bool). t && list_all constituent_keeps (books_of qs us)) (sym is)

pub returns-then-not-book_keeps : goal.returns-then-not-book_keeps
returns-then-not-book_keeps c =
    let s = c.in-Some.ensures.steps in
    sym (c.loop-row.invariant.decides ∙ step _ _ _ _ _ _ false s.0 s.1.1.0 (s.1.1.1 ∙ c.loop-row.invariant.size) c.if-not-book_keeps.ensures)

pub loop-row-preserved : goal.loop-row-preserved
loop-row-preserved c =
    let s = c.in-Some.ensures.steps in
    record {
      size = s.1.0 ∙ c.loop-row.invariant.size;
      long = omega (arith, c.loop-row.invariant.long, ap length s.0, ap length s.1.1.0, s.1.1.1, c.loop-row.invariant.size, length-append c.in-Some.places.now c.next.new.self.b.rest.now);
      decides = c.loop-row.invariant.decides ∙ step _ _ _ _ _ _ true s.0 s.1.1.0 (s.1.1.1 ∙ c.loop-row.invariant.size) c.if-not-book_keeps.ensures;
    }
