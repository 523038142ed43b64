use Rattle.std.proofs.Common.{◌<◌, length, arith}
use Rattle.scriptrun.proofs.Played.{stepped, ends}
use Rattle.scriptrun.proofs.run.transcript.Goals as goal

pub loop-place-preserved : goal.loop-place-preserved
loop-place-preserved c =
    let kept = c.loop-place.invariant in
    let s = c.in-Some.ensures.steps in
    let fewer : length c.next.new.self.iter.rest.now < length c.loop-place.place-iterator.iter.rest.now = (c.in-Some.ensures.goes.on tt).2 in
    record {
      few = omega (arith, kept.few, s.2, fewer);
      so_far = stepped _ _ _ _ _ kept.so_far _ _ _ _ s.1 s.2 s.0.0 s.0.1 kept.few fewer _ _ c.play-said.ensures _ c.in_ok-write_said.ensures;
    }

pub returns : goal.returns
returns c = ends _ _ _ _ _ c.loop-place.invariant.so_far c.in-None.ensures.steps.0
