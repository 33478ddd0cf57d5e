-- The walk is under way: n - fanned steps are done, all from vertex v and with the right twin, and it is not back at its start; so fewer than H are done.
use Rattle.std.proofs.Common.{◌≡◌, ◌∙◌, ℕ, ◌-◌, ◌<◌, sym, ap, subst, arith}
use Rattle.std.specs.Int.Bits.{bit_xor}
use Rattle.hull_links.specs.Links.{next, turn}
use Rattle.hull_links.proofs.Orbits.{sets_out, goes_on, arrives}
use Rattle.hull_tours.specs.inner.Found.{OnVertex}
use Rattle.hull_tours.proofs.Lengths.{counted_length, counted_on}
use Rattle.hull_tours.proofs.Accept.{ringed_next, mate_lt, under_way}
use Rattle.hull_tours.proofs.fan_counted.Goals as goal
use Rattle.hull_tours.proofs.fan_counted.Goals.{After-next_of-turned}

pub loop-v-init : goal.loop-v-init
loop-v-init c = (omega arith, counted_on _ _ 0 (omega arith) (sets_out _ _ _), c.requires.2)

-- the half-edge at hand starts at v and has the right twin, which is a byte
fits_here : (c : After-next_of-turned) → OnVertex c.args.hull.now.size c.args.hull.now.links.now c.args.v c.loop-v.e
fits_here c =
    let q = c.twin_and_origin.ensures in
    let low : bit_xor c.loop-v.e 1 < 256 = omega (arith, c.requires.0.h_high, mate_lt _ c.requires.0.h_even _ c.loop-v.invariant.2) in record {
      on = omega (arith, c.if-twin_and_origin-mate.false, q.0, q.1, c.from-from_v.ensures, low);
      low = c.loop-v.invariant.2;
      mate = omega (arith, c.if-twin_and_origin-mate.false, q.0, q.1, c.from-from_v.ensures, low);
    }

-- the half-edge that comes next round the corner is the next of the twin
turned : (c : After-next_of-turned) → c.next_of-turned.result ≡ turn c.args.hull.now.size c.args.hull.now.links.now c.loop-v.e
turned c = c.next_of-turned.ensures ∙ ap (next c.args.hull.now.size c.args.hull.now.links.now) (sym (fits_here c).mate)

few : (c : After-next_of-turned) → c.loop-v.n - c.args.fanned < c.args.hull.now.size.half_edges
few c = under_way _ _ c.requires.0 c.requires.1 _ _ _ _ c.requires.2 c.loop-v.invariant.1

pub overflow_add-n : goal.overflow_add-n
overflow_add-n c = omega (arith, few (goal.at.overflow_add-n c).After-next_of-turned, c.requires.0.h_high, c.loop-v.invariant.0)

pub returns-then-turned-start : goal.returns-then-turned-start
returns-then-turned-start c = let b = (goal.at.returns-then-turned-start c).After-next_of-turned in (
  counted_length _ _ _ _ _ _ c.loop-v.invariant.0 (few b)
      (arrives _ _ _ _ _ c.loop-v.invariant.1 _ (fits_here b) (turned b) c.if-turned-start.true),
  omega arith,
)

pub loop-v-smaller : goal.loop-v-smaller
loop-v-smaller c = omega (arith, few (goal.at.loop-v-smaller c).After-next_of-turned, c.loop-v.invariant.0)

pub loop-v-preserved : goal.loop-v-preserved
loop-v-preserved c = let b = (goal.at.loop-v-preserved c).After-next_of-turned in (
  omega arith,
  counted_on _ _ _ (omega arith) (goes_on _ _ _ _ _ c.loop-v.invariant.1 _ (fits_here b) (turned b) c.if-turned-start.false),
  subst (λ (x : ℕ). x < c.args.hull.now.size.half_edges) (sym c.next_of-turned.ensures)
      (ringed_next _ _ c.requires.1 _ (mate_lt _ c.requires.0.h_even _ c.loop-v.invariant.2)),
)
