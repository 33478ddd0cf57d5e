-- The walk round the ring keeps `Spreading`.
use Rattle.std.proofs.Common.{◌<◌, arith}
use Rattle.hull_marks.specs.inner.Marks.{mark_of}
use Rattle.hull_shell.proofs.Flood.{Marked, begins, few, twin_in, face_in, goes, shorter, all_in, ends}
use Rattle.hull_shell.proofs.Marking.{marked}
use Rattle.hull_shell.proofs.Entered.spread.Goals as goal
use Rattle.hull_shell.proofs.Entered.spread.Goals.{After-twin_of-across, After-face_of-f, After-mark_anew}

-- ---- one turn: the half-edge across and its face are in range, and the face is marked then
twin_low : (c : After-twin_of-across) → c.twin_of-across.result < c.args.hull.now.size.half_edges
twin_low c = twin_in _ _ c.requires.0 c.requires.1 _ _ c.loop-self.invariant.0.here.low c.twin_of-across.ensures

face_low : (c : After-face_of-f) → c.face_of-f.result < c.args.hull.now.size.faces
face_low c = face_in _ _ c.requires.0 c.requires.1 _ _ _ c.loop-self.invariant.0.here.low c.twin_of-across.ensures c.face_of-f.ensures

few_in : (c : After-face_of-f) → c.loop-self.self.count < 129
few_in c = omega (arith, c.requires.0.fits.f_high, few _ _ _ _ _ c.loop-self.invariant.0.flooded)

marks : (c : After-mark_anew) → c.face_of-f.result < c.args.hull.now.size.faces
    → Marked (mark_of c.loop-self.self.seen) c.face_of-f.result (mark_of c.mark_anew.new.marks)
marks c low = marked c.loop-self.self.seen c.mark_anew.new.marks _ _ c.loop-self.invariant.1 c.requires.0.fits.f_high low c.mark_anew.ensures.1

pub loop-self-init : goal.loop-self-init
loop-self-init c = let p = c.requires in
    (begins _ _ p.0 p.1 _ _ _ _ p.3 p.4 p.2, p.5)

pub face_of-f-requires : goal.face_of-f-requires
face_of-f-requires c = (c.requires.0.fits, twin_low (goal.at.face_of-f-requires c).After-twin_of-across)

pub overflow_cast-self : goal.overflow_cast-self
overflow_cast-self c = omega (arith, c.requires.0.fits.h_high, twin_low (goal.at.overflow_cast-self c).After-twin_of-across)

pub bounds-self-self : goal.bounds-self-self
bounds-self-self c = few_in (goal.at.bounds-self-self c).After-face_of-f

pub overflow_add-self : goal.overflow_add-self
overflow_add-self c = omega (arith, few_in (goal.at.overflow_add-self c).After-face_of-f)

pub mark_anew-requires : goal.mark_anew-requires
mark_anew-requires c = omega (arith, c.requires.0.fits.f_high, face_low (goal.at.mark_anew-requires c).After-face_of-f)

pub returns-then-self-all : goal.returns-then-self-all
returns-then-self-all c =
    let p = c.requires in
    let w = goal.at.returns-then-self-all c in (
      all_in _ _ p.0 p.1 _ _ _ _ _ _ _ _ _ _ _ _ c.loop-self.invariant.0 c.twin_of-across.ensures c.face_of-f.ensures c.mark_anew.ensures.0
          (marks w.After-mark_anew (face_low w.After-face_of-f)) c.if-self-all.true,
      omega (arith, c.mark_anew.array_long),
    )

pub returns-then-ahead-start : goal.returns-then-ahead-start
returns-then-ahead-start c =
    let p = c.requires in
    let w = goal.at.returns-then-ahead-start c in (
      ends _ _ p.0 p.1 _ _ _ _ _ _ _ _ _ _ _ _ _ c.loop-self.invariant.0 c.twin_of-across.ensures c.face_of-f.ensures c.mark_anew.ensures.0
          (marks w.After-mark_anew (face_low w.After-face_of-f)) c.next_of-ahead.ensures p.3 c.if-ahead-start.true,
      omega (arith, c.mark_anew.array_long),
    )

pub loop-self-smaller : goal.loop-self-smaller
loop-self-smaller c =
    let p = c.requires in
    let w = goal.at.loop-self-smaller c in
    shorter _ _ p.0 p.1 _ _ _ _ _ _ _ _ _ _ _ _ _ c.loop-self.invariant.0 c.twin_of-across.ensures c.face_of-f.ensures c.mark_anew.ensures.0
    (marks w.After-mark_anew (face_low w.After-face_of-f)) c.next_of-ahead.ensures c.if-ahead-start.false

pub loop-self-preserved : goal.loop-self-preserved
loop-self-preserved c =
    let p = c.requires in
    let w = goal.at.loop-self-preserved c in (
      goes _ _ p.0 p.1 _ _ _ _ _ _ _ _ _ _ _ _ _ c.loop-self.invariant.0 c.twin_of-across.ensures c.face_of-f.ensures c.mark_anew.ensures.0
          (marks w.After-mark_anew (face_low w.After-face_of-f)) c.next_of-ahead.ensures c.if-ahead-start.false,
      omega (arith, c.mark_anew.array_long),
    )
