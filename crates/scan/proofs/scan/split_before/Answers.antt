use Rattle.std.proofs.Common.{rules, true, false, refl, ap, ◌∙◌, take, drop}
use Rattle.std.proofs.lemmas.Iterator.{IsFirst-from_position, YieldsList-from_slice}
use Rattle.std.specs.Fn.{FnReturnsAt}
use Rattle.scan.proofs.Parts.{parts}
use Rattle.scan.proofs.scan.split_before.Goals as goal

pub returns : goal.returns
returns g c =
    let p = parts (λ b. FnReturnsAt g.F.Fn c.args.stops b true) (λ b. FnReturnsAt g.F.Fn c.args.stops b false) c.args.text.now c.split_at.result.0.now c.split_at.result.1.now c.position.result
    (IsFirst-from_position {v = λ x. x.now} c.position.new.self c.args.stops c.position.result (λ b. FnReturnsAt g.F.Fn c.args.stops b true) (λ b. FnReturnsAt g.F.Fn c.args.stops b false) c.position.ensures.ran (YieldsList-from_slice c.args.text.now (search rules)) (λ x q e. record { shown = x; shows = refl; says = record { met = search rules } }) (λ x q e. search rules))
    (c.split_at.ensures.front ∙ ap (λ n. take n c.args.text.now) c.unwrap_or.ensures)
    (c.split_at.ensures.back ∙ ap (λ n. drop n c.args.text.now) c.unwrap_or.ensures) in
    record { same = p.0; before = p.1; stop = p.2 }
