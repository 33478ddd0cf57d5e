-- Turn by turn what was read is told, held or left, and at the end of the input all of it is told.
use Rattle.std.proofs.Common.{refl, true, ◌≡◌}
use native.Mathlib.Omega.{arith}
use Rattle.stream_pending.proofs.Holds.{held_none, differ}
use Rattle.contact.proofs.Runs.{Stands, stands_more, nothing_yet, sure, whole}
use Rattle.contact.proofs.run.Goals.{else-loop-test, then-loop-test+then-is_last}
use Rattle.contact.proofs.run.Goals as goal

pub loop-init : goal.loop-init
loop-init g c = (
  record {
    chunk_room = refl;
    out_room = refl;
    fits = record { left = omega arith; read = omega arith; ready = record { room = c.requires.0; most = omega arith } };
    sofar = nothing_yet _ _ _ _ _ refl refl refl (held_none _);
  },
  refl,
)

pub loop-preserved : goal.loop-preserved
loop-preserved g c = let i = c.loop.invariant in let t = c.turn_once-s in (
  stands_more _ _ i.0 i.1 t.ensures.turned t.ensures.arrives t.ensures.leaves t.auto.chunk t.auto.out,
  sure _ (λ e. differ (c.is_last.ensures.1 e) c.if-is_last.false),
)

pub finish-last-requires : goal.finish-last-requires
finish-last-requires g c =
    let i = c.loop.invariant in
    let stands : Stands (g.R.Read.remaining c.args.input.now) (g.W.Write.contents c.args.output.now) (g.R.Read.remaining c.loop-test.input)
    (g.W.Write.contents c.loop-test.output) c.args.chunk.now c.args.out.now c.loop-test.chunk c.loop-test.line c.loop-test.out c.loop-test.s =
    elim c.loop-test.branch [
      | else-loop-test w ↦ rw (w.input-is, w.output-is, w.chunk-is, w.line-is, w.out-is, w.s-is) i.0
      | then-loop-test+then-is_last w ↦ rw (w.input-is, w.output-is, w.chunk-is, w.line-is, w.out-is, w.s-is)
          (let t = w.turn_once-s in stands_more _ _ i.0 i.1 t.ensures.turned t.ensures.arrives t.ensures.leaves t.auto.chunk t.auto.out)
    ] in
    (stands.fits.ready, omega (arith, stands.out_room, c.requires.1))

pub returns-clause-whole : goal.returns-clause-whole
returns-clause-whole g c = λ r a.
    let i = c.loop.invariant in
    let stands : Stands (g.R.Read.remaining c.args.input.now) (g.W.Write.contents c.args.output.now) (g.R.Read.remaining c.loop-test.input)
    (g.W.Write.contents c.loop-test.output) c.args.chunk.now c.args.out.now c.loop-test.chunk c.loop-test.line c.loop-test.out c.loop-test.s =
    elim c.loop-test.branch [
      | else-loop-test w ↦ rw (w.input-is, w.output-is, w.chunk-is, w.line-is, w.out-is, w.s-is) i.0
      | then-loop-test+then-is_last w ↦ rw (w.input-is, w.output-is, w.chunk-is, w.line-is, w.out-is, w.s-is)
          (let t = w.turn_once-s in stands_more _ _ i.0 i.1 t.ensures.turned t.ensures.arrives t.ensures.leaves t.auto.chunk t.auto.out)
    ] in
    let w = c.ended_well.ensures.0 a in
    let f = c.finish-last.ensures in
    let ok : c.loop-test.s.ok ≡ true = sure _ (λ e. differ w.2 (f.told.2 e)) in
    whole _ _ _ _ _ _ _ _ _ _ _ stands.sofar ok w.0 w.1 (omega (arith, r, stands.chunk_room)) (f.told.0 ok) (f.leaves w.2)
