use Rattle.std.proofs.Common.{◌≡◌, ◌-◌, ◌++◌, map, length, vec_items}
use Rattle.modelfile.specs.Taken.{taken, left}
use Rattle.modelfile.proofs.read.next_numbers.Given as goal

-- the numbers so far and those that are still to come are the numbers that stood first
abbrev pub invariant-loop-scan : goal.invariant-loop-scan
invariant-loop-scan g l =
    let more = l.most - length (vec_items l.found) in
    (vec_items l.found ++ map g.T.Hold.held (taken more l.scan.rest.now) ≡ map g.T.Hold.held (taken l.most l.initial.scan.rest.now))
    × (left more l.scan.rest.now ≡ left l.most l.initial.scan.rest.now)

abbrev pub decreases-loop-scan : goal.decreases-loop-scan
decreases-loop-scan g l = l.most - length (vec_items l.found)
