use Rattle.std.proofs.Common.{◌≡◌, ℕ, ◌+◌, ◌-◌, ◌*◌, ◌<◌, List, ◌++◌, length, get_or, take, drop, set, ap, ◌∙◌, append-nil, arith, take_all}
use borrow.Rule.Slice.PartMut.{put_mid}
use Rattle.std.proofs.lemmas.List.{drop_all, drop-drop}
use Rattle.tables.specs.declared.row.TradeRow.{TradeRow}
use Rattle.tables.specs.Books.{book, books_of, no_row, places_at}
use Rattle.tables.proofs.Books.{kept, most_of, length_books, length_places_at}
use Rattle.tables.proofs.Facts.{booked, held}
use Rattle.rules.specs.MarketCalls.{matured_out}
use Rattle.house.proofs.Matured.{matured_long, matured_keeps}
use Rattle.house.proofs.Passes.{keeps_more, all_more}
use Rattle.house.proofs.maturing.mature_all.Goals as goal

pub mature_account-requires : goal.mature_account-requires
mature_account-requires c =
    let n = c.args.house.now.accounts in
    let rs = c.loop-i.records in
    let ts = c.loop-i.trades in
    let i = c.loop-i.i in
    let s = kept n rs ts c.loop-i.invariant.0 in
    let lt : i < n = omega (arith, s.rows, (kept n c.args.records.now c.args.trades.now c.requires).rows, c.loop-i-test.true) in
    let w : 64 * i + 64 - 64 * i ≡ 64 = omega arith in
    (ap (λ (k : ℕ). length (take k (drop (64 * i) ts))) w ∙ length_places_at ts i (omega (arith, s.places, lt)), (held (get_or rs i no_row) (booked (most_of i) (book (get_or rs i no_row) (places_at ts i)) (s.each i lt)).holdings).trades)

pub loop-i-preserved : goal.loop-i-preserved
loop-i-preserved c =
    let n = c.args.house.now.accounts in
    let rs = c.loop-i.records in
    let ts = c.loop-i.trades in
    let i = c.loop-i.i in
    let m = 64 * i in
    let w : m + 64 - m ≡ 64 = omega arith in
    let bs = books_of c.args.records.now c.args.trades.now in
    let f = matured_out c.args.month in
    let h = c.loop-i.invariant.0 in
    let s = kept n rs ts h in
    let first = kept n c.args.records.now c.args.trades.now c.requires in
    let lt : i < n = omega (arith, s.rows, first.rows, c.loop-i-test.true) in
    let r = get_or rs i no_row in
    let b = book r (places_at ts i) in
    let whole : length (places_at ts i) ≡ 64 = length_places_at ts i (omega (arith, s.places, lt)) in
    let long = matured_long c.args.month b whole in
    let new = c.mature_account.new in
    let er = ap (set rs i) (c.mature_account.ensures.row ∙ ap (λ (k : ℕ). (f (book r (take k (drop m ts)))).row) w) in
    let et =
    ap (λ (k : ℕ). put_mid m k ts new.places) w
    ∙ ap (λ (l : List TradeRow). take m ts ++ (new.places ++ l)) (drop-drop 64 m ts)
    ∙ ap (λ (l : List TradeRow). take m ts ++ (l ++ drop (m + 64) ts)) (c.mature_account.ensures.places ∙ ap (λ (k : ℕ). (f (book r (take k (drop m ts)))).places) w) in (
      keeps_more n f rs (set rs i new.row) ts (put_mid m (m + 64 - m) ts new.places) i h lt long er et (matured_keeps (most_of i) c.args.month b whole (s.each i lt)),
      all_more n f rs (set rs i new.row) ts (put_mid m (m + 64 - m) ts new.places) i h lt long er et bs (omega (arith, length_books c.args.records.now c.args.trades.now, first.rows)) c.loop-i.invariant.1,
    )

pub returns-clause-books : goal.returns-clause-books
returns-clause-books c =
    let bs = books_of c.args.records.now c.args.trades.now in
    let i = c.loop-i.i in
    c.loop-i.invariant.1 ∙ simp (take_all i bs (omega (arith, length_books c.args.records.now c.args.trades.now, c.loop-i-test.false)), drop_all i bs (omega (arith, length_books c.args.records.now c.args.trades.now, c.loop-i-test.false)), append-nil)
