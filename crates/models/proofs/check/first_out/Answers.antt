use Rattle.models.specs.Lent.{lent}
use Rattle.models.specs.Sound.{marks}
use Rattle.models.proofs.Marks.{first_false}
use Rattle.models.proofs.check.first_out.Goals as goal

pub returns : goal.returns
returns c = first_false (marks c.args.limit (lent c.args.numbers)) _ c.first_mark.ensures
