-- The loop keeps `Round` and `Ahead`: what the cuts so far leave, cut by the sides that are left, is what all cuts leave; and the sides that come
-- next stand in the batch.
use mathlib.Core.Path.{refl}
use Rattle.hull_links.specs.Links.{face_ring}
use Rattle.clip_corners.specs.Places.{corners_in}
use Rattle.clip.specs.Candidates.{cut_round}
use Rattle.clip.specs.inner.Batches.{sides_from}
use Rattle.clip.proofs.Batches.{ahead_filled, ahead_here, ahead_next}
use Rattle.clip.proofs.Rings.{Turned, begun, left_of_built, round_begins, round_cut, round_full, round_few, round_back}
use Rattle.clip.proofs.Rings.{round_goes, round_shorter}
use Rattle.clip.proofs.clip_to_face.Goals as goal
use Rattle.clip.proofs.clip_to_face.Goals.{After-cut_side-kept}

-- what the loop knows behind a cut
abbrev Turned-at : After-cut_side-kept → Type 0
Turned-at k =
    let a = k.args in
    let built = k.build_polygon-n in
    Turned a.a.now.size a.a.now.numbers.now a.a.now.links.now a.face k.face_edge-start.result
    (cut_round a.a.now.size a.a.now.numbers.now a.a.now.links.now a.face (face_ring a.a.now.size a.a.now.links.now a.face)
    (corners_in built.new.corners.numbers built.new.corners.tags 0 built.result))
    k.cut_side-kept.new.corners.numbers k.cut_side-kept.new.corners.tags k.cut_side-kept.result k.loop-reference.e

turned : (k : After-cut_side-kept) → Turned-at k
turned k = let i = k.loop-reference.invariant in
    round_cut _ _ _ k.requires.0 _ k.requires.2 _ k.face_edge-start.ensures _ _ _ _ _ _ i.0 _ _
    k.plane_at-reference.ensures (ahead_here _ _ _ _ _ _ i.1) _ _ _ k.cut_side-kept.ensures

pub loop-reference-init : goal.loop-reference-init
unfolding sides_from
loop-reference-init c = (
  round_begins _ _ _ c.requires.0 _ c.requires.2 _ c.face_edge-start.ensures _ _ _ _
      (begun _ _ _ _ _ _ _ _ _ _ _ c.args.corners.now.room c.build_polygon-n.ensures),
  ahead_filled _ _ _ _ _ _ refl c.fill_sides.ensures,
)

pub returns-then-kept-gt64 : goal.returns-then-kept-gt64
returns-then-kept-gt64 c = let k = (goal.at.returns-then-kept-gt64 c).After-cut_side-kept in
    left_of_built _ _ _ _ _ _ _ _ _ _ _ _ _ _
    (begun _ _ _ _ _ _ _ _ _ _ _ k.args.corners.now.room k.build_polygon-n.ensures) k.plane_at-reference.ensures _ _ _
    (round_full _ _ _ k.requires.0 _ k.requires.2 _ k.face_edge-start.ensures _ _ _ _ _ (turned k) c.if-kept-gt64.true)

pub returns-then-kept-lt3 : goal.returns-then-kept-lt3
returns-then-kept-lt3 c = let k = (goal.at.returns-then-kept-lt3 c).After-cut_side-kept in
    left_of_built _ _ _ _ _ _ _ _ _ _ _ _ _ _
    (begun _ _ _ _ _ _ _ _ _ _ _ k.args.corners.now.room k.build_polygon-n.ensures) k.plane_at-reference.ensures _ _ _
    (round_few _ _ _ k.requires.0 _ k.requires.2 _ k.face_edge-start.ensures _ _ _ _ _ (turned k) c.if-kept-lt3.true)

pub returns-then-e-start : goal.returns-then-e-start
returns-then-e-start c = let k = (goal.at.returns-then-e-start c).After-cut_side-kept in
    left_of_built _ _ _ _ _ _ _ _ _ _ _ _ _ _
    (begun _ _ _ _ _ _ _ _ _ _ _ k.args.corners.now.room k.build_polygon-n.ensures) k.plane_at-reference.ensures _ _ _
    (round_back _ _ _ k.requires.0 _ k.requires.2 _ k.face_edge-start.ensures _ _ _ _ _ (turned k)
    c.if-kept-gt64.false c.if-kept-lt3.false _ c.next_of-e.ensures c.if-e-start.true)

pub loop-reference-smaller : goal.loop-reference-smaller
loop-reference-smaller c = let k = (goal.at.loop-reference-smaller c).After-cut_side-kept in
    round_shorter _ _ _ k.requires.0 _ k.requires.2 _ k.face_edge-start.ensures _ _ _ _ _ (turned k)
    c.if-kept-gt64.false c.if-kept-lt3.false _
    c.next_of-e.ensures c.if-e-start.false

pub loop-reference-preserved : goal.loop-reference-preserved
unfolding sides_from
loop-reference-preserved c = let k = (goal.at.loop-reference-preserved c).After-cut_side-kept in (
  round_goes _ _ _ k.requires.0 _ k.requires.2 _ k.face_edge-start.ensures _ _ _ _ _ (turned k)
      c.if-kept-gt64.false c.if-kept-lt3.false _
      c.next_of-e.ensures c.if-e-start.false,
  ahead_next _ _ _ _ _ _ k.loop-reference.invariant.1 _ c.next_of-e.ensures
      c.if-e-start.false _ _ c.next_side-k.ensures,
)
