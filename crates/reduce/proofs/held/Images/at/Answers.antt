-- The candidate as it stands, with the position that is held.
use Rattle.reduce.proofs.Holding.{held_at}
use Rattle.reduce.proofs.held.Images.at.Goals as goal

pub returns-clause-image : goal.returns-clause-image
returns-clause-image c h low = rw (c.at.ensures, c.corner_at.ensures) (held_at _ h _ low)
