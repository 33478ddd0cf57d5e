-- `make_feature_pair`: each call answers its own definition, and together they are this one.
use Rattle.manifold.specs.Pairs.{pair_of}
use Rattle.manifold.proofs.pairs.make_feature_pair.Goals as goal

pub returns : goal.returns
unfolding pair_of
returns c = simp (c.from-2.ensures, c.from.ensures)
