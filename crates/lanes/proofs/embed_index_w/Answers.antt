-- `embed_index_w`: each call answers its own definition, and together they are this one.
use Rattle.lanes.specs.Lanes.{embed_w_of}
use Rattle.lanes.proofs.embed_index_w.Goals as goal

pub returns : goal.returns
unfolding embed_w_of
returns c = simp (
  c.embed_index-4.ensures,
  c.embed_index-3.ensures,
  c.embed_index-2.ensures,
  c.embed_index.ensures,
)
