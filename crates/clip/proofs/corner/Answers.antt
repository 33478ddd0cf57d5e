-- The origin of the next half-edge, carried over and tagged.
use Rattle.clip.specs.Candidates.{tagged_of, corner_of}
use Rattle.clip.proofs.corner.Goals as goal

pub returns : goal.returns
unfolding corner_of tagged_of
returns c = simp (
  c.make_feature_pair.ensures,
  c.plane_separation.ensures,
  c.add-position.ensures,
  c.mul_mv.ensures,
  c.vertex_at.ensures,
  c.origin_of-end.ensures,
  c.next_of-ahead.ensures,
)
