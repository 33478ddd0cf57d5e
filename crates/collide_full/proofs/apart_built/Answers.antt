-- `apart_built`: the axis apart, as document 01 leaves it in the cache.
use Rattle.collide_full.specs.Full.{apart_built}
use Rattle.axis.specs.Meaning.{cache_of}
use Rattle.collide_full.proofs.apart_built.Goals as goal

pub returns : goal.returns
unfolding apart_built cache_of
returns c = simp (c.from.ensures, c.bits_of.ensures)
