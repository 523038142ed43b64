use Rattle.std.proofs.Common.{◌≡◌, ◌+◌, ◌-◌, ◌<◌, length, length-append, length-drop, sym, drop, ap, ◌∙◌, rules, arith}
use Rattle.std.specs.Prelude.{◌==◌}
use Rattle.scan.proofs.Parts.{split_is}
use Rattle.script.proofs.lines.Lines.next_line.Goals as goal

pub returns-clause-value : goal.returns-clause-value
returns-clause-value c =
    let l : 0 < length c.args.self.now.rest.now = search rules in
    let p = split_is (λ b. b == 10) (λ b r e. search rules) c.split_before.ensures.same c.split_before.ensures.before c.split_before.ensures.stop in
    let e : length c.split_before.result.0.now + length c.split_before.result.1.now ≡ length c.args.self.now.rest.now =
    sym (length-append c.split_before.result.0.now c.split_before.result.1.now) ∙ ap length c.split_before.ensures.same in
    let m : length c.past_first-self.result.now ≡ length c.split_before.result.1.now - 1 = ap length c.past_first-self.ensures ∙ length-drop 1 c.split_before.result.1.now in
    (p.0, (c.past_first-self.ensures ∙ ap (drop 1) p.1, omega (arith, e, l, m)))
