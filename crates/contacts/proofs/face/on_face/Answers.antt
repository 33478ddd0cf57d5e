-- `on_face`: as the definition has it, of the candidates that stand there.
use Prim.Native.Nat.{ℕ}
use mathlib.Core.Path.{ap, ◌∙◌}
use Rattle.clip_corners.specs.Places.{corners_in}
use Rattle.clip_corners.proofs.Reading.{length_in}
use Rattle.collide_outcome.specs.Builds.{touched_of}
use Rattle.contacts.proofs.Cases.{builds_none, builds_one}
use Rattle.contacts.proofs.face.on_face.Goals as goal

pub returns-then-not-touching : goal.returns-then-not-touching
returns-then-not-touching c =
    let g = c.args in
    let corners = g.corners.now in
    let candidates = corners_in corners.numbers corners.tags g.kept.from g.kept.count in
    let sized = length_in corners.numbers corners.tags g.kept.from g.kept.count in
    c.missed.ensures ∙ builds_none g.unit candidates g.kept.count sized c.requires.1 g.normal g.face g.vertex
    _ c.least_separation-least.ensures _ c.speculative_distance.ensures _ c.touching.ensures c.if-not-touching.true

pub returns : goal.returns
returns c =
    let g = c.args in
    let corners = g.corners.now in
    let candidates = corners_in corners.numbers corners.tags g.kept.from g.kept.count in
    let sized = length_in corners.numbers corners.tags g.kept.from g.kept.count in
    builds_one g.unit candidates g.kept.count sized c.requires.1 g.normal g.face g.vertex
    _ c.least_separation-least.ensures _ c.speculative_distance.ensures _ c.touching.ensures c.if-not-touching.false
    _ c.reduce_manifold_points-contact.ensures
    _ (c.touched.ensures ∙ ap (λ (kind : ℕ). touched_of c.reduce_manifold_points-contact.result c.least_separation-least.result kind g.face g.vertex)
    c.from.ensures)
