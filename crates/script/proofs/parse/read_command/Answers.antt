use Rattle.std.proofs.Common.{◌≡◌, length, refl, ◌∙◌, rules}
use Rattle.script.proofs.Chains.{none, makes, makes_none, thresholds_are, check_is}
use Rattle.script.specs.declared.word.Word.TheVariants.{Open, Model, Trade, End, LodgeCash, DrawCash, LodgeSecurity, DrawSecurity, Show, Set, Price, StepUp, Averages, Thresholds, Check, Close, Month, Report}
use Rattle.script.proofs.parse.read_command.Goals as goal

pub returns-in_err-accounts-in-Open : goal.returns-in_err-accounts-in-Open
returns-in_err-accounts-in-Open c = makes_none _ Open _ _ _ _ c.in-Open.is c.from_residual.ensures.1 c.in_err-accounts-in-Open.ensures

pub returns-in_ok-accounts-in-Open : goal.returns-in_ok-accounts-in-Open
returns-in_ok-accounts-in-Open c = makes _ Open _ _ _ _ c.in-Open.is c.in_ok-accounts-in-Open.ensures refl

pub returns-in_err-read-in-Model : goal.returns-in_err-read-in-Model
returns-in_err-read-in-Model c = makes_none _ Model _ _ _ _ c.in-Model.is c.from_residual-in_err-read-in-Model.ensures.1 c.in_err-read-in-Model.ensures

pub returns-in_ok-read-in-Model : goal.returns-in_ok-read-in-Model
returns-in_ok-read-in-Model c = makes _ Model _ _ _ _ c.in-Model.is c.in_ok-read-in-Model.ensures refl

pub returns-in_err-account-in-Trade : goal.returns-in_err-account-in-Trade
returns-in_err-account-in-Trade c = makes_none _ Trade _ _ _ _ c.in-Trade.is c.from_residual-in_err-account-in-Trade.ensures.1 c.in_err-account-in-Trade.ensures

pub returns-in_ok-account-in-Trade : goal.returns-in_ok-account-in-Trade
returns-in_ok-account-in-Trade c = makes _ Trade _ _ _ _ c.in-Trade.is c.in_ok-account-in-Trade.ensures c.on_account.ensures

pub returns-in_err-account-in-End : goal.returns-in_err-account-in-End
returns-in_err-account-in-End c = makes_none _ End _ _ _ _ c.in-End.is c.from_residual-in_err-account-in-End.ensures.1 c.in_err-account-in-End.ensures

pub returns-in_ok-account-in-End : goal.returns-in_ok-account-in-End
returns-in_ok-account-in-End c = makes _ End _ _ _ _ c.in-End.is c.in_ok-account-in-End.ensures c.on_account-in-End.ensures

pub returns-in_err-account-in-LodgeCash : goal.returns-in_err-account-in-LodgeCash
returns-in_err-account-in-LodgeCash c = makes_none _ LodgeCash _ _ _ _ c.in-LodgeCash.is c.from_residual-in_err-account-in-LodgeCash.ensures.1 c.in_err-account-in-LodgeCash.ensures

pub returns-in_ok-account-in-LodgeCash : goal.returns-in_ok-account-in-LodgeCash
returns-in_ok-account-in-LodgeCash c = makes _ LodgeCash _ _ _ _ c.in-LodgeCash.is c.in_ok-account-in-LodgeCash.ensures c.on_account-in-LodgeCash.ensures

pub returns-in_err-account-in-DrawCash : goal.returns-in_err-account-in-DrawCash
returns-in_err-account-in-DrawCash c = makes_none _ DrawCash _ _ _ _ c.in-DrawCash.is c.from_residual-in_err-account-in-DrawCash.ensures.1 c.in_err-account-in-DrawCash.ensures

pub returns-in_ok-account-in-DrawCash : goal.returns-in_ok-account-in-DrawCash
returns-in_ok-account-in-DrawCash c = makes _ DrawCash _ _ _ _ c.in-DrawCash.is c.in_ok-account-in-DrawCash.ensures c.on_account-in-DrawCash.ensures

pub returns-in_err-account-in-LodgeSecurity : goal.returns-in_err-account-in-LodgeSecurity
returns-in_err-account-in-LodgeSecurity c = makes_none _ LodgeSecurity _ _ _ _ c.in-LodgeSecurity.is c.from_residual-in_err-account-in-LodgeSecurity.ensures.1 c.in_err-account-in-LodgeSecurity.ensures

pub returns-in_ok-account-in-LodgeSecurity : goal.returns-in_ok-account-in-LodgeSecurity
returns-in_ok-account-in-LodgeSecurity c = makes _ LodgeSecurity _ _ _ _ c.in-LodgeSecurity.is c.in_ok-account-in-LodgeSecurity.ensures c.on_account-in-LodgeSecurity.ensures

pub returns-in_err-account-in-DrawSecurity : goal.returns-in_err-account-in-DrawSecurity
returns-in_err-account-in-DrawSecurity c = makes_none _ DrawSecurity _ _ _ _ c.in-DrawSecurity.is c.from_residual-in_err-account-in-DrawSecurity.ensures.1 c.in_err-account-in-DrawSecurity.ensures

pub returns-in_ok-account-in-DrawSecurity : goal.returns-in_ok-account-in-DrawSecurity
returns-in_ok-account-in-DrawSecurity c = makes _ DrawSecurity _ _ _ _ c.in-DrawSecurity.is c.in_ok-account-in-DrawSecurity.ensures c.on_account-in-DrawSecurity.ensures

pub returns-in_err-account-in-Show : goal.returns-in_err-account-in-Show
returns-in_err-account-in-Show c = makes_none _ Show _ _ _ _ c.in-Show.is c.from_residual-in_err-account-in-Show.ensures.1 c.in_err-account-in-Show.ensures

pub returns-in_ok-account-in-Show : goal.returns-in_ok-account-in-Show
returns-in_ok-account-in-Show c = makes _ Show _ _ _ _ c.in-Show.is c.in_ok-account-in-Show.ensures c.on_account-in-Show.ensures

pub returns-in_err-set-in-Set : goal.returns-in_err-set-in-Set
returns-in_err-set-in-Set c = makes_none _ Set _ _ _ _ c.in-Set.is c.from_residual-in_err-set-in-Set.ensures.1 c.in_err-set-in-Set.ensures

pub returns-in_ok-set-in-Set : goal.returns-in_ok-set-in-Set
returns-in_ok-set-in-Set c = makes _ Set _ _ _ _ c.in-Set.is c.in_ok-set-in-Set.ensures c.of_market.ensures

pub returns-in_err-quote-in-Price : goal.returns-in_err-quote-in-Price
returns-in_err-quote-in-Price c = makes_none _ Price _ _ _ _ c.in-Price.is c.from_residual-in_err-quote-in-Price.ensures.1 c.in_err-quote-in-Price.ensures

pub returns-in_ok-quote-in-Price : goal.returns-in_ok-quote-in-Price
returns-in_ok-quote-in-Price c = makes _ Price _ _ _ _ c.in-Price.is c.in_ok-quote-in-Price.ensures c.of_market-in-Price.ensures

pub returns-in_err-percent-in-StepUp : goal.returns-in_err-percent-in-StepUp
returns-in_err-percent-in-StepUp c = makes_none _ StepUp _ _ _ _ c.in-StepUp.is c.from_residual-in_err-percent-in-StepUp.ensures.1 c.in_err-percent-in-StepUp.ensures

pub returns-in_ok-percent-in-StepUp : goal.returns-in_ok-percent-in-StepUp
returns-in_ok-percent-in-StepUp c = makes _ StepUp _ _ _ _ c.in-StepUp.is c.in_ok-percent-in-StepUp.ensures c.of_market-in-StepUp.ensures

pub returns-in_err-family-in-Averages : goal.returns-in_err-family-in-Averages
returns-in_err-family-in-Averages c = makes_none _ Averages _ _ _ _ c.in-Averages.is c.from_residual-in_err-family-in-Averages.ensures.1 c.in_err-family-in-Averages.ensures

pub returns-in_ok-family-in-Averages : goal.returns-in_ok-family-in-Averages
returns-in_ok-family-in-Averages c = makes _ Averages _ _ _ _ c.in-Averages.is c.in_ok-family-in-Averages.ensures c.of_market-in-Averages.ensures

pub returns-in_err-family-in-Thresholds : goal.returns-in_err-family-in-Thresholds
returns-in_err-family-in-Thresholds c = makes_none _ Thresholds _ _ _ _ c.in-Thresholds.is c.from_residual-in_err-family-in-Thresholds.ensures.1 c.in_err-family-in-Thresholds.ensures

pub returns-in_ok-family-in-Thresholds : goal.returns-in_ok-family-in-Thresholds
returns-in_ok-family-in-Thresholds c =
    let t = c.in_ok-family-in-Thresholds.thresholds in
    let a : length t.triggers ≡ 5 = search rules in
    let b : length t.calm ≡ 5 = search rules in
    makes _ Thresholds _ _ _ _ c.in-Thresholds.is c.in_ok-family-in-Thresholds.ensures (c.of_market-in-Thresholds.ensures ∙ thresholds_are c.in_ok-family-in-Thresholds.family t.triggers t.calm a b)

pub returns-in_err-check-in-Check : goal.returns-in_err-check-in-Check
returns-in_err-check-in-Check c = makes_none _ Check _ _ _ _ c.in-Check.is c.from_residual-in_err-check-in-Check.ensures.1 c.in_err-check-in-Check.ensures

pub returns-in_ok-check-in-Check : goal.returns-in_ok-check-in-Check
returns-in_ok-check-in-Check c =
    let k = c.in_ok-check-in-Check.check in
    let a : length k.returns ≡ 5 = search rules in
    makes _ Check _ _ _ _ c.in-Check.is c.in_ok-check-in-Check.ensures (c.of_market-in-Check.ensures ∙ check_is k.family k.slot k.returns a)

pub returns-in_err-month-in-Month : goal.returns-in_err-month-in-Month
returns-in_err-month-in-Month c = makes_none _ Month _ _ _ _ c.in-Month.is c.from_residual-in_err-month-in-Month.ensures.1 c.in_err-month-in-Month.ensures

pub returns-in_ok-month-in-Month : goal.returns-in_ok-month-in-Month
returns-in_ok-month-in-Month c = makes _ Month _ _ _ _ c.in-Month.is c.in_ok-month-in-Month.ensures c.of_market-in-Month.ensures

pub returns-in-Report : goal.returns-in-Report
returns-in-Report c = makes _ Report _ _ _ _ c.in-Report.is (none _) refl

pub returns-in-Close : goal.returns-in-Close
returns-in-Close c = makes _ Close _ _ _ _ c.in-Close.is (none _) c.of_market-in-Close.ensures
