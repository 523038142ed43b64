use Rattle.std.proofs.Common.{◌≡◌, ◌≤◌, ℕ, List, sym, ◌∙◌}
use Rattle.std.specs.Prelude.{Option, Some, None, MatchOption}
use Rattle.std.proofs.lemmas.Bool.{lt-ltb, le-ltb, cond-true, cond-false}
use Rattle.tail.specs.declared.ratio.Ratio.{Ratio}
use Rattle.market.specs.Volatility.{charged, tenths_of, RatioFound}
use Rattle.market.proofs.Ratios.{highest_tenths}
use Rattle.market.proofs.volatility.check_tenths.Goals as goal

-- what a ratio gives, or 0, is what the check charges
either : (ts rs : List ℕ) (found : Option Ratio) (n : ℕ) → RatioFound ts rs found → MatchOption found (n ≡ 0) (λ q. (n ≡ tenths_of q.num q.den) × (n ≤ 1000)) → n ≡ charged ts rs
unfolding charged
either ts rs None n few is = is ∙ sym (cond-true _ _ _ (lt-ltb _ 2 few))
either ts rs (Some q) n h is = is.0 ∙ highest_tenths ts rs q h.1 ∙ sym (cond-false _ _ _ (le-ltb _ 2 h.0))

pub returns-clause-value : goal.returns-clause-value
returns-clause-value c = either c.args.thresholds.now.triggers c.args.returns c.highest_ratio.result c.map_or.result c.highest_ratio.ensures c.map_or.ensures
