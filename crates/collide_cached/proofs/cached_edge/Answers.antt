-- `cached_edge`: the edges pass by each other, or the axis across both is far enough, or what is built anew decides.
use mathlib.Core.Path.{refl}
use native.Mathlib.Omega.{arith}
use Rattle.collide_cached.proofs.Cases.{pass_by, edge_far, edge_close}
use Rattle.collide_outcome.specs.Told.{number_of}
use Rattle.collide_cached.proofs.cached_edge.Goals as goal

pub returns-then-not-crosses : goal.returns-then-not-crosses
returns-then-not-crosses c = let past = c.if-not-crosses.true in
    pass_by _ _ _ _ _ _ _ _ _ c.ridge_of-ridge_a.ensures _ c.carried_ridge-ridge_b.ensures _ c.crosses.ensures
    past _ refl

pub returns-then-dot-speculative_distance : goal.returns-then-dot-speculative_distance
returns-then-dot-speculative_distance c = let meet = c.if-not-crosses.false in
    edge_far _ _ _ _ _ _ _ _ _ c.ridge_of-ridge_a.ensures _ c.carried_ridge-ridge_b.ensures _ c.crosses.ensures meet
    _ c.axis_between-axis.ensures _ c.sub.ensures _ c.dot.ensures _ c.speculative_distance.ensures
    c.if-dot-speculative_distance.true _ c.empty_contact.ensures _ refl

pub build_edge_contact-built-requires : goal.build_edge_contact-built-requires
build_edge_contact-built-requires c = let p =
    c.requires in
    (p.0, p.1, omega (arith, p.2), omega (arith, p.3))

pub returns : goal.returns
returns c = let meet = c.if-not-crosses.false in
    edge_close _ _ _ _ _ _ _ _ _ c.ridge_of-ridge_a.ensures _ c.carried_ridge-ridge_b.ensures _ c.crosses.ensures meet
    _ c.axis_between-axis.ensures _ c.sub.ensures _ c.dot.ensures _ c.speculative_distance.ensures
    c.if-dot-speculative_distance.false _ c.neg.ensures _ c.build_edge_contact-built.ensures _ (c.served.ensures number_of)
