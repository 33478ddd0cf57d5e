-- The loop keeps `Round` and `Ahead`: what the cuts so far leave, cut by the sides that are left, is what all cuts leave; and the sides that come
-- next stand in the batch.
use lib.ListN.{length}
use Rattle.hull_links.specs.Links.{next, face_ring}
use Rattle.clip_corners.specs.Places.{corners_in}
use Rattle.clip.specs.Candidates.{side_plane_of, cut_round}
use Rattle.clip.proofs.Batches.{Ahead}
use Rattle.clip.proofs.Rings.{left_of, Round}
use Rattle.clip.proofs.clip_to_face.Given as goal

abbrev pub invariant-loop-reference : goal.invariant-loop-reference
invariant-loop-reference l =
    Round l.a.size l.a.numbers.now l.a.links.now l.face l.start
    (cut_round l.a.size l.a.numbers.now l.a.links.now l.face (face_ring l.a.size l.a.links.now l.face)
    (corners_in l.initial.corners.numbers l.initial.corners.tags 0 l.initial.n))
    l.corners.numbers l.corners.tags l.p l.n l.e
    × Ahead (side_plane_of l.a.size l.a.numbers.now l.a.links.now l.reference.normal) (next l.a.size l.a.links.now) l.start l.sides l.k l.e

abbrev pub decreases-loop-reference : goal.decreases-loop-reference
decreases-loop-reference l =
    length (left_of l.a.size l.a.links.now l.start l.e)
