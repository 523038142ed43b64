use Rattle.std.proofs.Common.{sym, ap, ◌∙◌, eq-eqb, ne_eqb}
use Rattle.std.proofs.lemmas.Bool.{cond-true, cond-false}
use Rattle.models.specs.Meaning.{Meaning}
use Rattle.models.specs.Table.{table}
use Rattle.knots.specs.KnotTable.{knot_table}
use Rattle.ccalls.specs.Meanings.{joined_meaning}
use Rattle.ccalls.proofs.Moved.{moved}
use Rattle.ccalls.proofs.calls.answer_made.Goals as goal

pub returns-then-model-eq0-clause-answered : goal.returns-then-model-eq0-clause-answered
returns-then-model-eq0-clause-answered c =
    let first = ap table c.laid-first.ensures ∙ sym (cond-true _ _ _ (eq-eqb _ _ c.if-model-eq0.true)) in
    moved (ap (λ (x : Meaning). joined_meaning x c.args.model) first) c.answer_joined.ensures.answered

pub returns-else-model-eq0-clause-answered : goal.returns-else-model-eq0-clause-answered
returns-else-model-eq0-clause-answered c =
    let first = ap knot_table c.laid-first-else-model-eq0.ensures ∙ sym (cond-false _ _ _ (ne_eqb _ _ c.if-model-eq0.false)) in
    moved (ap (λ (x : Meaning). joined_meaning x c.args.model) first) c.answer_joined-else-model-eq0.ensures.answered
