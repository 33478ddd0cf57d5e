-- One line a turn: the answers so far stand in `out`, and each takes at most `longest_told` places.
use Prim.Native.Nat.{◌<◌, ◌+◌}
use native.Mathlib.Omega.{arith}
use lib.ListN.{length, length-take, length-drop}
use Rattle.stream_pending.specs.Ends.{longest_told}
use Rattle.stream.proofs.Tells.{tells_none, tells_next, moves}
use Rattle.stream.proofs.tell_part.Goals as goal

pub loop-line-init : goal.loop-line-init
loop-line-init c = record { room = omega arith; each = omega arith; inside = omega arith; ready = c.requires.1; tells = λ xs h. tells_none h }

pub loop-line-preserved : goal.loop-line-preserved
loop-line-preserved c =
    let g = c.goes_on.ensures.0 c.loop-line-test.true in
    let i = c.loop-line.invariant in
    let e = c.tell_next-next.ensures in
    record {
      room = omega (arith, e.2, i.room);
      each = omega (arith, e.0, e.2, i.each);
      inside = omega (arith, simp (length-take, length-drop) at e.1);
      ready = e.3;
      tells = λ xs h. tells_next (omega (arith, i.room)) (i.tells xs h) e.4;
    }

pub returns : goal.returns
returns c =
    let g = c.goes_on.ensures.1 c.loop-line-test.false in
    let i = c.loop-line.invariant in
    let ends : c.loop-line.told.taken < length c.args.chunk.now → length c.args.out.now < c.loop-line.told.count + longest_told =
    λ l. let h = g l in omega arith in
    (moves _ _ _ _ i.each c.requires.2 c.requires.0 ends, i.inside, i.room, ends, i.ready, i.tells)
