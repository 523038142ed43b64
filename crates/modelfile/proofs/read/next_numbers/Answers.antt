use Rattle.std.proofs.Common.{vec_items, rules, ap, ◌∙◌}
use Rattle.modelfile.proofs.Takes.{goes_on, stops, is_full}
use Rattle.modelfile.proofs.read.next_numbers.Goals as goal
use Rattle.modelfile.proofs.read.next_numbers.Goals.{else-loop-scan-test, then-loop-scan-test+in-None-1}

pub loop-scan-preserved : goal.loop-scan-preserved
loop-scan-preserved g c =
    goes_on g.T.Hold.held c.args.most (vec_items c.loop-scan.found) c.loop-scan.scan.rest.now c.next_number.new.scan.rest.now _ _ c.loop-scan.invariant.0 c.loop-scan.invariant.1
    (search rules) c.in-Some.n (search rules) c.next_number.ensures.after (vec_items c.push.new.self) (search rules)

pub returns : goal.returns
returns g c = elim c.loop-scan-test.branch [
  | else-loop-scan-test w ↦
      let e = is_full g.T.Hold.held c.args.most (vec_items c.loop-scan.found) c.loop-scan.scan.rest.now c.loop-scan.scan.rest.now _ _ c.loop-scan.invariant.0 c.loop-scan.invariant.1 (search rules) in
      (e.0, ap (λ s. s.rest.now) w.scan-is ∙ e.1)
  | then-loop-scan-test+in-None-1 w ↦
      let e = stops g.T.Hold.held c.args.most (vec_items c.loop-scan.found) c.loop-scan.scan.rest.now w.next_number.new.scan.rest.now _ _ c.loop-scan.invariant.0 c.loop-scan.invariant.1 (search rules) (search rules) w.next_number.ensures.after in
      (e.0, ap (λ s. s.rest.now) w.scan-is ∙ e.1)
]
