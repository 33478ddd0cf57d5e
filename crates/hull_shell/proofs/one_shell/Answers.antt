-- The queue's loop keeps `Flooding`; in the end all faces are entered, or nothing is left in the queue.
use Rattle.std.proofs.Common.{sym, ℕ, ◌<◌, arith, replicate}
use lib.ListN.{length-replicate}
use Rattle.hull_links.proofs.Facts.{edge_in}
use Rattle.hull_shell.proofs.Theorem.{shell_tested, not_one_shell}
use Rattle.hull_shell.proofs.Flood.{few, flood_begins, start_reached, start_lt, flood_goes, all_reached, not_all_reached}
use Rattle.hull_shell.proofs.Marking.{marked, none, marks_long, none_long}
use Rattle.hull_shell.proofs.one_shell.Goals as goal
use Rattle.hull_shell.proofs.one_shell.Goals.{After-face_of, In-loop-done}

-- fewer than all faces are gone round while one is left in the queue
under_way : (c : In-loop-done) → c.loop-done.done < c.args.hull.now.size.faces
under_way c = omega (arith, few _ _ _ _ _ c.loop-done.invariant.0.flooded, c.loop-done-test.true)

-- the face of half-edge 0 is in range
first_low : (c : After-face_of) → c.face_of.result < c.args.hull.now.size.faces
first_low c = let p = c.requires.0 in
    omega (arith, c.face_of.ensures, (edge_in _ _ p.r2 0 (omega (arith, p.fits.h_low))).face_in)

pub returns-then-sides-edges : goal.returns-then-sides-edges
returns-then-sides-edges c = let p = c.requires.0 in
    sym (not_one_shell _ _ p.fits p.r2 (λ o. c.if-sides-edges.true o.euler))

pub mark_anew-requires : goal.mark_anew-requires
mark_anew-requires c = omega (arith, c.requires.0.fits.f_high, first_low (goal.at.mark_anew-requires c).After-face_of)

pub overflow_sub-flood : goal.overflow_sub-flood
overflow_sub-flood c = omega (arith, c.mark_anew.ensures.0, none _ c.no_marks.ensures c.face_of.result)

pub loop-done-init : goal.loop-done-init
loop-done-init c =
    let e = c.no_marks.ensures in
    let p = c.requires in
    let f = (goal.at.loop-done-init c).After-face_of in
    let k = marked c.no_marks.result _ _ _ (none_long _ e) p.0.fits.f_high (first_low f) c.mark_anew.ensures.1 in (
      flood_begins _ _ p.0 p.1 _ _ (replicate 129 0) _ _ (length-replicate {A = ℕ} 129 0) (none _ e) c.face_of.ensures
          c.mark_anew.ensures.0 k,
      marks_long _ _ _ (none_long _ e) c.mark_anew.ensures.1,
    )

pub bounds-flood-done : goal.bounds-flood-done
bounds-flood-done c = omega (arith, c.requires.0.fits.f_high, few _ _ _ _ _ c.loop-done.invariant.0.flooded)

pub spread-requires : goal.spread-requires
spread-requires c =
    let p = c.requires in
    let l = c.loop-done in (
      p.0,
      p.1,
      l.invariant.0.flooded,
      start_lt _ _ p.0 p.1 _ _ _ _ l.invariant.0 _ c.loop-done-test.true c.from-start.ensures,
      start_reached _ _ p.0 p.1 _ _ _ _ l.invariant.0 _ c.loop-done-test.true c.from-start.ensures,
      l.invariant.1,
    )

pub returns-then-flood-faces : goal.returns-then-flood-faces
returns-then-flood-faces c =
    let p = c.requires in
    let r = all_reached _ _ p.0 p.1 _ _ _ c.spread.ensures.0.flooded c.if-flood-faces.true in
    sym (shell_tested _ _ p.0.fits p.0.r2 (record { reached = r; euler = c.if-sides-edges.false }))

pub loop-done-smaller : goal.loop-done-smaller
loop-done-smaller c = omega (arith, under_way (goal.at.loop-done-smaller c).In-loop-done)

pub loop-done-preserved : goal.loop-done-preserved
loop-done-preserved c =
    let s = c.spread.ensures in
    let p = c.requires in
    (flood_goes _ _ p.0 p.1 _ _ _ _ c.loop-done.invariant.0 _ c.loop-done-test.true c.from-start.ensures _ _ _ s.0 c.if-flood-faces.false, s.1)

pub returns : goal.returns
returns c = let p = c.requires in
    sym (not_one_shell _ _ p.0.fits p.0.r2
    (λ o. not_all_reached _ _ p.0 p.1 _ _ _ _ c.loop-done.invariant.0 c.loop-done-test.false o.reached))

pub overflow_add-done : goal.overflow_add-done
overflow_add-done c = omega (arith, c.requires.0.fits.f_high, under_way (goal.at.overflow_add-done c).In-loop-done)
