-- The record written out.
use mathlib.Core.Path.{refl}
use Rattle.pools_rows.specs.Rows.{transform_in}
use Rattle.pools_rows.proofs.transform_at.Goals as goal

pub returns : goal.returns
unfolding transform_in
returns c = refl
