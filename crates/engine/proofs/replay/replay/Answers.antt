use Rattle.std.proofs.Common.{◌≡◌, min, true, false, length, take, sym, refl, ap, ◌∙◌, true≢false}
use Rattle.std.proofs.lemmas.Bool.{cond-true, cond-false}
use Rattle.tables.specs.Limits.{tables_keep}
use Rattle.rules.specs.Stands.{Stand, standing, rows_of, trades_of}
use Rattle.house.proofs.Lent.{rows_stand, trades_stand}
use Rattle.engine.proofs.Played.{isolated_run}
use Rattle.engine.proofs.replay.replay.Goals as goal

pub returns-then-not-tables_keep : goal.returns-then-not-tables_keep
returns-then-not-tables_keep g c =
    let m = g.M.MarginModel.meaning c.args.model.now in
    let n = c.args.house.now.accounts in
    let rs = c.args.records.now in
    let ts = c.args.trades.now in
    let s : Stand = standing c.args.house.now.market.state rs ts in
    let h : tables_keep n rs ts ≡ false = sym c.if-not-tables_keep.ensures in
    record {
      accounts = refl;
      replays = record {
        played = sym (cond-false (tables_keep n rs ts) (min (length c.args.events.now) (length c.args.answers.now)) 0 h);
        replied = refl;
        rest = refl;
        stands = refl;
        tables = λ yes'. absurd (true≢false (sym yes' ∙ h));
        wrong = λ _. (refl, refl, refl);
        keeps = refl;
        throughout = λ yes'. absurd (true≢false (sym yes' ∙ h));
        isolated = isolated_run m s (take 0 c.args.events.now) (take 0 c.args.answers.now) s refl refl;
      };
    }

pub returns : goal.returns
returns g c =
    let m = g.M.MarginModel.meaning c.args.model.now in
    let n = c.args.house.now.accounts in
    let rs = c.args.records.now in
    let ts = c.args.trades.now in
    let s : Stand = standing c.args.house.now.market.state rs ts in
    let h : tables_keep n rs ts ≡ true = sym c.if-not-tables_keep.ensures in
    let e = c.play_events.ensures in
    let r = c.play_events.result in
    let l = c.play_events.new.house.market.state in
    let us = c.play_events.new.records in
    let vs = c.play_events.new.trades in
    let some = c.args.house.now.some in
    record {
      accounts = e.accounts;
      replays = record {
        played = e.value ∙ sym (cond-true (tables_keep n rs ts) (min (length c.args.events.now) (length c.args.answers.now)) 0 h);
        replied = e.answers;
        rest = e.rest;
        stands = e.stands;
        tables = λ _. (sym (rows_stand l n us vs some e.keeps) ∙ ap rows_of e.stands, sym (trades_stand l n us vs some e.keeps) ∙ ap trades_of e.stands);
        wrong = λ no'. absurd (true≢false (sym h ∙ no'));
        keeps = e.keeps ∙ sym h;
        throughout = λ _. e.throughout;
        isolated = isolated_run m s (take r c.args.events.now) (take r c.play_events.new.answers) (standing l us vs) e.answers e.stands;
      };
    }
