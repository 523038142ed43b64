use Rattle.std.proofs.Common.{◌≡◌, ◌∙◌, arith, rules}
use Rattle.market.specs.Volatility.{exceeding}
use Rattle.market.proofs.Ratios.{Is, five, counts, found}
use Rattle.market.proofs.volatility.highest_ratio.Goals as goal

pub returns : goal.returns
returns c =
    let ts = c.args.thresholds.now.triggers in
    let rs = c.args.returns in
    let xs = c.from_fn-ratios.result in
    let each = five (Is ts rs) xs (λ z. search rules) (λ z. search rules) (λ z. search rules) (λ z. search rules) (λ z. search rules) in
    let count : c.count_exceeding.result ≡ exceeding ts rs = c.count_exceeding.ensures ∙ counts ts rs (search rules) (search rules) in
    found ts rs xs each c.kth_highest.result c.from_fn-ratios.ensures.items.long (omega (arith, count)) c.kth_highest.ensures.words
