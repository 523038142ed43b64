use Rattle.std.proofs.Common.{rules}
use Rattle.scan.proofs.Steps.{read_go}
use Rattle.scan.proofs.number.magnitude.Goals as goal

pub loop-b-preserved : goal.loop-b-preserved
loop-b-preserved c = let e = read_go c.loop-b.n c.args.word.now c.loop-b.b-index (search rules) (search rules) in search rules
