-- The loop keeps the least of each lane over the groups so far. It is finite, and its number is that of a lane.
use mathlib.Core.Path.{◌≡◌, ◌∙◌, sym, subst}
use Prim.Native.Nat.{ℕ, ◌+◌, ◌*◌, ◌/◌, ◌<◌}
use native.Mathlib.Omega.{arith}
use Rattle.hull_links.specs.Links.{padded}
use Rattle.axis_faces.specs.Support.{group_of}
use Rattle.axis_faces.proofs.Lanes.{lanes_finite, group_finite, support_in, no_group, one_group, all_groups}
use Rattle.axis_faces.proofs.support.get_support_wide.Goals as goal

pub loop-g-init : goal.loop-g-init
loop-g-init c = c.splat-least.ensures ∙ no_group _ _ _ _ _ c.huge.ensures

pub min_w-least-requires : goal.min_w-least-requires
min_w-least-requires c =
    let p = c.requires in (
      lanes_finite p c.loop-g.g _ (omega (arith, c.loop-g-test.true)) c.loop-g.invariant,
      group_finite p (4 * c.loop-g.g) _ (omega (arith, c.loop-g-test.true)) c.group.ensures,
    )

pub loop-g-preserved : goal.loop-g-preserved
loop-g-preserved c =
    let a = c.args in
    let h = a.hull.now in
    let l = c.loop-g in
    let four : c.group.result ≡ group_of a.bias a.d h.size h.numbers.now (4 * l.g) = c.group.ensures in
    one_group _ _ _ _ l.g _ _ _ l.invariant four c.min_w-least.ensures

pub min_index_w-requires : goal.min_index_w-requires
min_index_w-requires c = lanes_finite c.requires _ _ (omega (arith, c.loop-g.auto.g-end)) c.loop-g.invariant

pub returns : goal.returns
returns c =
    let l = c.loop-g in
    let all : l.g ≡ (c.args.hull.now.size.vertices + 3) / 4 = omega (arith, l.auto.g-end, c.loop-g-test.false) in
    let e = all_groups c.args.bias c.args.d c.args.hull.now.size c.args.hull.now.numbers.now l.g c.min_index_w.result _ all l.invariant
    c.min_index_w.ensures in
    (e, subst (λ (i : ℕ). i < padded c.args.hull.now.size) (sym e) (support_in c.requires))
