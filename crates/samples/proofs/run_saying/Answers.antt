use Rattle.std.proofs.Common.{ℕ, List, ◌++◌, string_bytes, ap, ◌∙◌}
use Rattle.samples.proofs.Listed.{prints_one, stepped, ends}
use Rattle.samples.proofs.run_saying.Goals as goal

pub loop-name-preserved : goal.loop-name-preserved
loop-name-preserved g c =
    stepped string_bytes _ _ _ c.loop-name.invariant c.loop-name-test.true _ c.name-item.is _ (prints_one c.in_ok-verdict.verdict)
    _ _ c.as_str-in-loop-name.ensures.value
    (c.in_ok-push_str.ensures.bytes ∙ ap (λ (x : List ℕ). string_bytes c.loop-name.text ++ x) (c.as_str-in-loop-name-2.ensures.value ∙ c.in_ok-line.ensures))

pub returns : goal.returns
returns g c = ends string_bytes _ _ _ c.loop-name.invariant c.loop-name-test.false
