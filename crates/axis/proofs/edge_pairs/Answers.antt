-- `edge_pairs`: acceptance gives lists that fit and links in range.
use Rattle.axis.specs.Search.{pairs_of}
use Rattle.axis.proofs.edge_pairs.Goals as goal

pub returns : goal.returns
unfolding pairs_of
returns c = simp (c.search_edges.ensures, c.requires.2)
