use Rattle.std.proofs.Common.{◌≡◌, ◌+◌, ◌++◌, drop, length, string_bytes}
use Rattle.eventrun.specs.Lines.{answer_lines}
use Rattle.eventrun.proofs.lines.write_answers.Given as goal

-- the lines so far and those of what is left are all the lines
pub record Left (l : goal.Live-loop-place) : Type 0 where
  pub place : l.place-iterator.count + length l.place-iterator.iter.a.iter.rest.now + 1 ≡ length l.records + l.place-iterator.iter.a.n
  pub lines : string_bytes l.text ++ answer_lines (l.place-iterator.count + 2) (drop l.place-iterator.iter.a.n l.place-iterator.iter.a.iter.rest.now) l.place-iterator.iter.b.rest.now ≡ string_bytes l.fn.text ++ answer_lines 2 (drop 1 l.records) l.answers

abbrev pub invariant-loop-place : goal.invariant-loop-place
invariant-loop-place l = Left l
