use Rattle.std.proofs.Common.{◌+◌, ◌≤◌, length, string_bytes}
use Rattle.std.specs.Iterator.Adapters.{enumerate_source, enumerate_count}
use Rattle.session.specs.Held.{held}
use Rattle.scriptrun.proofs.Played.{SoFar}
use Rattle.scriptrun.proofs.run.transcript.Given as goal

pub record Played (l : goal.Live-loop-place) : Type 0 where
  pub few : enumerate_count l.place-iterator + length (enumerate_source l.place-iterator).rest.now ≤ length l.bytes
  pub so_far : SoFar l.bytes (enumerate_count l.place-iterator) (enumerate_source l.place-iterator).rest.now (held l.session) (string_bytes l.text)

abbrev pub invariant-loop-place : goal.invariant-loop-place
invariant-loop-place l = Played l
