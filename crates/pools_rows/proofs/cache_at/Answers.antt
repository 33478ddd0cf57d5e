-- Two words.
use Rattle.pools_rows.specs.Rows.{cache_in}
use Rattle.pools_rows.proofs.cache_at.Goals as goal

pub returns : goal.returns
unfolding cache_in
returns c = c.cache_from.ensures
