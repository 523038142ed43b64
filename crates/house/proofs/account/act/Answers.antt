use Rattle.std.proofs.Common.{ℕ, eqb, List, get_or, drop, sym, ap, ◌∙◌, ap₂}
use Rattle.tables.specs.declared.row.AccountRow.{AccountRow}
use Rattle.tables.specs.declared.row.TradeRow.{TradeRow}
use Rattle.tables.specs.Books.{Book, books_of, no_row}
use Rattle.tables.specs.Limits.{tables_keep}
use Rattle.tables.proofs.Books.{put_keeps}
use Rattle.refusals.proofs.Facts.{refusal_some}
use Rattle.rules.specs.Stands.{ordered, shortfalls, standing, finish, rows_of}
use Rattle.rules.specs.Outcomes.{answer_of}
use Rattle.rules.specs.declared.call.Answer.{Answer}
use Rattle.house.proofs.Acting.{verdict_is, refused_is, granted_is, after_keeps}
use Rattle.house.proofs.account.act.Goals as goal

pub finish_settling-requires : goal.finish_settling-requires
finish_settling-requires g c =
    let n = c.args.house.now.accounts in
    let rs = c.args.records.now in
    let ts = c.args.trades.now in
    let i = c.args.account in
    let h = c.in-Ok.tried in
    ap₂ (tables_keep n) c.write_book.ensures.rows c.write_book.ensures.trades
    ∙ put_keeps n rs ts i h.row h.places c.requires.tables c.requires.there c.write_book.ensures.len
    (after_keeps c.cover_for-cover.result.paise i h (shortfalls (drop 1 (books_of rs ts))) c.cover_for-cover.ensures.value c.cover_for-cover.result.most c.in-Ok.ensures.1)

pub returns-in-Err : goal.returns-in-Err
returns-in-Err g c =
    let n = c.args.house.now.accounts in
    let rs = c.args.records.now in
    let ts = c.args.trades.now in
    let i = c.args.account in
    let k = c.args.house.now.market.state in
    let m = g.M.MarginModel.meaning c.args.model.now in
    let cover = c.cover_for-cover.result.paise in
    let v = verdict_is m k n rs ts i c.args.call c.args.house.now.some c.requires.tables c.requires.there cover c.cover_for-cover.ensures.value
    ∙ ap (λ (b : Book). ordered m k (eqb i 0) cover b c.args.call) (sym c.read_book-held.ensures)
    ∙ c.in-Err.ensures in
    let o = refused_is m k n rs ts i c.args.call c.args.house.now.some c.requires.tables c.requires.there c.in-Err.refusal v in
    record {
      answer = c.answered.ensures ∙ ap (λ (x : ℕ). answer_of x (get_or rs i no_row)) c.number.ensures ∙ o.0;
      rows = o.1;
      trades = o.2;
      keeps = c.requires.tables;
      stands = o.3;
      rests = λ nil. absurd (refusal_some c.in-Err.refusal (sym (ap (λ (a : Answer). a.number) c.answered.ensures ∙ c.number.ensures) ∙ nil));
    }

pub returns-in-Ok : goal.returns-in-Ok
returns-in-Ok g c =
    let n = c.args.house.now.accounts in
    let rs = c.args.records.now in
    let ts = c.args.trades.now in
    let i = c.args.account in
    let k = c.args.house.now.market.state in
    let m = g.M.MarginModel.meaning c.args.model.now in
    let cover = c.cover_for-cover.result.paise in
    let h = c.in-Ok.tried in
    let v = verdict_is m k n rs ts i c.args.call c.args.house.now.some c.requires.tables c.requires.there cover c.cover_for-cover.ensures.value
    ∙ ap (λ (b : Book). ordered m k (eqb i 0) cover b c.args.call) (sym c.read_book-held.ensures)
    ∙ c.in-Ok.ensures.0 in
    let done = c.finish_settling.ensures.rows ∙ ap₂ (λ (us : List AccountRow) (xs : List TradeRow). rows_of (finish m (standing k us xs))) c.write_book.ensures.rows c.write_book.ensures.trades in
    let o = granted_is m k n rs ts i c.args.call c.args.house.now.some c.requires.tables c.requires.there h.row h.places c.finish_settling.new.records v c.write_book.ensures.len done in
    record {
      answer = c.answered-in-Ok.ensures ∙ o.0;
      rows = o.1;
      trades = c.write_book.ensures.trades ∙ o.2;
      keeps = c.finish_settling.ensures.keeps;
      stands = ap (standing k c.finish_settling.new.records) c.write_book.ensures.trades ∙ o.3;
      rests = λ _. c.finish_settling.ensures.rests;
    }
