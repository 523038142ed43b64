use Rattle.std.proofs.Common.{◌≡◌, ℕ, suc, ◌+◌, ◌-◌, ◌<◌, ◌≤◌, ◌∷◌, ◌++◌, map, length, get_or, take, drop, set, sym, ap, ap₂, ◌∙◌, append-nil, arith, length-drop, take_all}
use Rattle.std.proofs.lemmas.List.{drop_all}
use Rattle.tables.specs.Books.{Book, books_of, no_row, no_book, places_at}
use Rattle.tables.proofs.Books.{kept, length_books, length_places_at, books_whole, put_same}
use Rattle.rules.specs.Settling.{settled_row, settled}
use Rattle.house.proofs.Passes.{keeps_more, constituents_more, settled_fits}
use Rattle.house.proofs.settle.settle_constituents.Goals as goal

pub loop-i-init : goal.loop-i-init
loop-i-init g c =
    let rs = c.args.records.now in
    let ts = c.args.trades.now in
    let n = c.args.house.now.accounts in
    (c.requires, omega arith, sym (books_whole (books_of rs ts) (omega (arith, length_books rs ts, (kept n rs ts c.requires).rows, c.args.house.now.some))))

pub loop-i-preserved : goal.loop-i-preserved
loop-i-preserved g c =
    let m = g.M.MarginModel.meaning c.args.model.now in
    let k = c.args.house.now.market.state in
    let n = c.args.house.now.accounts in
    let rs = c.loop-i.records in
    let ts = c.args.trades.now in
    let bs = books_of c.args.records.now ts in
    let i = c.loop-i.i in
    let j : ℕ = i - 1 in
    let h = c.loop-i.invariant.0 in
    let s = kept n rs ts h in
    let first = kept n c.args.records.now ts c.requires in
    let lt : i < n = omega (arith, s.rows, first.rows, c.loop-i-test.true) in
    let is : i ≡ suc j = omega (arith, c.loop-i.invariant.1) in
    let more : i + 1 - 1 ≡ j + 1 = omega (arith, c.loop-i.invariant.1) in
    let r = get_or rs i no_row in
    let ps = places_at ts i in
    let f : Book → Book = settled m k 0 in
    let own = c.settled_row in
    let q = own.result in
    let w = own.ensures.bound in
    let value : q ≡ settled_row m k 0 r (take r.trades ps) =
    own.ensures.value ∙ ap₂ (λ (x : ℕ) (b : Book). (settled m k x b).row) c.none.ensures c.read_book-held.ensures in
    let er = ap (set rs i) value in
    let et = sym (put_same ts i) in
    let long = length_places_at ts i (omega (arith, s.places, lt)) in
    let fits = settled_fits m k i r ps q (omega (arith, c.loop-i.invariant.1)) (s.each i lt) value own.ensures.keeps (omega (arith, w.obligation, c.none.ensures)) w.available (omega (arith, w.shortfall, c.none.ensures)) in
    let past : length (drop 1 bs) ≡ n - 1 = omega (arith, length-drop 1 bs, length_books c.args.records.now ts, first.rows) in (
      keeps_more n f rs (set rs i q) ts ts i h lt long er et fits,
      omega arith,
      constituents_more n f rs (set rs i q) ts ts i h lt long er et (get_or bs 0 no_book) (drop 1 bs) j is (omega (arith, past, is)) c.loop-i.invariant.2
          ∙ ap (λ (x : ℕ). get_or bs 0 no_book ∷ (map f (take x (drop 1 bs)) ++ drop x (drop 1 bs))) (sym more),
    )

pub returns-clause-books : goal.returns-clause-books
returns-clause-books g c =
    let ts = c.args.trades.now in
    let n = c.args.house.now.accounts in
    let bs = books_of c.args.records.now ts in
    let i = c.loop-i.i in
    let end : length (drop 1 bs) ≤ i - 1 = omega (arith, length-drop 1 bs, length_books c.args.records.now ts, (kept n c.args.records.now ts c.requires).rows, c.loop-i-test.false) in
    c.loop-i.invariant.2 ∙ simp (take_all (i - 1) (drop 1 bs) end, drop_all (i - 1) (drop 1 bs) end, append-nil)
