use Rattle.std.proofs.Common.{rules}
use Rattle.std.specs.Prelude.{◌==◌}
use Rattle.scan.proofs.Parts.{split_is}
use Rattle.script.proofs.lines.without_comment.Goals as goal

pub returns : goal.returns
returns c = (split_is (λ b. b == 35) (λ b r e. search rules) c.split_before.ensures.same c.split_before.ensures.before c.split_before.ensures.stop).0
