use Rattle.std.proofs.Common.{sym, ap, ap₂, ◌∙◌, eq-eqb, ne_eqb}
use Rattle.std.proofs.lemmas.Bool.{cond-true, cond-false}
use Rattle.models.specs.Joined.{joint}
use Rattle.models.specs.Lent.{lent}
use Rattle.models.specs.Table.{table}
use Rattle.knots.specs.KnotTable.{knot_table}
use Rattle.ccalls.proofs.Moved.{moved, through}
use Rattle.ccalls.proofs.calls.answer_joined.Goals as goal

pub returns-then-model-eq0-2-clause-answered : goal.returns-then-model-eq0-2-clause-answered
returns-then-model-eq0-2-clause-answered g c =
    let second = ap table c.laid.ensures ∙ sym (cond-true _ _ _ (eq-eqb _ _ c.if-model-eq0-2.true)) in
    moved
    (ap₂ joint (ap g.F.MarginModel.meaning c.new-joined.ensures.same.0) (through c.new-joined.ensures.same.1 (λ t. table (lent t.sound.numbers)) second)
    ∙ sym (cond-false _ _ _ (ne_eqb _ _ c.if-model-eq0.false)))
    c.answer-then-model-eq0-2.ensures.answered

pub returns-else-model-eq0-2-clause-answered : goal.returns-else-model-eq0-2-clause-answered
returns-else-model-eq0-2-clause-answered g c =
    let second = ap knot_table c.laid-else-model-eq0-2.ensures ∙ sym (cond-false _ _ _ (ne_eqb _ _ c.if-model-eq0-2.false)) in
    moved
    (ap₂ joint (ap g.F.MarginModel.meaning c.new-joined-else-model-eq0-2.ensures.same.0) (through c.new-joined-else-model-eq0-2.ensures.same.1 (λ t. knot_table (lent t.sound.numbers)) second)
    ∙ sym (cond-false _ _ _ (ne_eqb _ _ c.if-model-eq0.false)))
    c.answer-else-model-eq0-2.ensures.answered
