-- The fans of the vertices before the one at hand were walked, and their half-edges counted.
use Rattle.std.proofs.Common.{arith}
use borrow.Author.Tests.{eqb-true, eq-eqb}
use Rattle.hull_links.proofs.Tours.{sets_off, one_walk, all_walks, nothing_left}
use Rattle.hull_tours.proofs.Lengths.{long_enough, well_started}
use Rattle.hull_tours.proofs.fans_toured.Goals as goal

pub loop-v-init : goal.loop-v-init
loop-v-init c = (omega arith, sets_off _ _ _ _ _)

pub returns-then-start-h : goal.returns-then-start-h
returns-then-start-h c = (
  λ z. absurd (cc z),
  λ w. absurd (omega (arith, c.if-start-h.true, (well_started _ _ _ _ _ _ w _ _ c.loop-v-test.true c.vertex_edge-start.ensures).low)),
)

pub returns-in_default : goal.returns-in_default
returns-in_default c = (
  λ z. absurd (cc z),
  λ w. absurd (omega (
    arith,
    long_enough _ _ _ _ _ _ w _ _ c.loop-v-test.true c.vertex_edge-start.ensures _ _
        (w.walked.short _ c.loop-v-test.true) c.in_default.ensures,
  )),
)

pub loop-v-preserved : goal.loop-v-preserved
loop-v-preserved c =
    let r = c.in-Some.ensures in (
      omega (arith, r.0.low, c.requires.0.h_high, c.loop-v.invariant.0, r.1),
      one_walk _ _ _ _ _ _ _ _ _ _ c.loop-v.invariant.1
          c.vertex_edge-start.ensures r.0.low (omega (arith, r.1)) (r.0.found (omega (arith, r.1))) (omega (arith, r.1)),
    )

pub returns : goal.returns
returns c = let l = c.loop-v in (
  λ z. all_walks _ _ _ _ _ _ _ _ l.invariant.1 l.auto.v-end c.loop-v-test.false (eqb-true _ _ z),
  λ w. eq-eqb _ _ (nothing_left _ _ _ _ _ _ _ _ l.invariant.1 l.auto.v-end c.loop-v-test.false w),
)
