-- `along`: no point outside the segments, else the one point.
use mathlib.Core.Path.{◌≡◌, sym, ◌∙◌}
use mathlib.Core.Bool.{true, false}
use Rattle.vector.specs.Awaited.{is_within_segments_of}
use Rattle.contacts.specs.EdgePairs.{edge_point, along_of}
use Rattle.contacts.proofs.edge.along.Goals as goal

pub returns-then-not-is_within_segments : goal.returns-then-not-is_within_segments
unfolding along_of
returns-then-not-is_within_segments c = let out : is_within_segments_of c.args.nearest ≡ false = sym c.is_within_segments.ensures
    ∙ c.if-not-is_within_segments.true in
    simp (out, c.missed.ensures)

pub returns : goal.returns
unfolding edge_point along_of
returns c = let within : is_within_segments_of c.args.nearest ≡ true =
    sym c.is_within_segments.ensures ∙ c.if-not-is_within_segments.false in
    simp (
      within,
      c.touched.ensures,
      c.from.ensures,
      c.one_point.ensures,
      c.point_of.ensures,
      c.make_feature_pair.ensures,
      c.mul_sv.ensures,
      c.add.ensures,
      c.dot-separation.ensures,
      c.sub.ensures,
    )
