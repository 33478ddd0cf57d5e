-- The rings of the faces before the one at hand were walked, and their half-edges counted.
use Rattle.std.proofs.Common.{refl, arith}
use borrow.Author.Tests.{eqb-true, eq-eqb}
use Rattle.hull_links.proofs.Tours.{sets_off, one_walk, all_walks, enough, nothing_left}
use Rattle.hull_tours.proofs.Lengths.{long_enough, well_started}
use Rattle.hull_tours.proofs.rings_toured.Goals as goal

pub loop-f-init : goal.loop-f-init
loop-f-init c = (omega arith, sets_off _ _ _ _ _)

pub returns-then-start-h : goal.returns-then-start-h
returns-then-start-h c = (
  λ z. absurd (cc z),
  λ w. absurd (omega (arith, c.if-start-h.true, (well_started _ _ _ _ _ _ w _ _ c.loop-f-test.true c.face_edge-start.ensures).low)),
)

pub returns-in_default : goal.returns-in_default
returns-in_default c = (
  λ z. absurd (cc z),
  λ w. absurd (omega (
    arith,
    long_enough _ _ _ _ _ _ w _ _ c.loop-f-test.true c.face_edge-start.ensures _ _
        (enough _ _ _ _ _ _ _ _ c.loop-f.invariant.1 c.loop-f-test.true w) c.in_default.ensures,
  )),
)

pub returns-then-n-lt3 : goal.returns-then-n-lt3
returns-then-n-lt3 c = (
  λ z. absurd (cc z),
  λ w. absurd (omega (
    arith,
    c.if-n-lt3.true,
    long_enough _ _ _ _ _ _ w _ _ c.loop-f-test.true c.face_edge-start.ensures _ _
        (enough _ _ _ _ _ _ _ _ c.loop-f.invariant.1 c.loop-f-test.true w) c.in-Some.ensures.0,
  )),
)

pub loop-f-preserved : goal.loop-f-preserved
loop-f-preserved c =
    let r = c.in-Some.ensures.0 in (
      omega (arith, r.low),
      one_walk _ _ _ _ _ _ _ _ _ _ c.loop-f.invariant.1 c.face_edge-start.ensures (omega (arith, r.low))
          c.if-n-lt3.false (r.found (omega (arith, c.if-n-lt3.false))) refl,
    )

pub returns : goal.returns
returns c = let l = c.loop-f in (
  λ z. all_walks _ _ _ _ _ _ _ _ l.invariant.1 l.auto.f-end c.loop-f-test.false (eqb-true _ _ z),
  λ w. eq-eqb _ _ (nothing_left _ _ _ _ _ _ _ _ l.invariant.1 l.auto.f-end c.loop-f-test.false w),
)
