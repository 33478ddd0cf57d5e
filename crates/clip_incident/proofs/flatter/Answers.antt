-- A new least is strictly less.
use mathlib.Core.Path.{◌≡◌}
use mathlib.Core.Bool.{true, false}
use lib.Ieee.{lt}
use Rattle.clip_incident.specs.Incident.{flatter_of}
use Rattle.clip_incident.proofs.flatter.Goals as goal

pub returns-then-projection-best : goal.returns-then-projection-best
unfolding flatter_of
returns-then-projection-best c =
    let a = c.args in
    let less : lt a.projection a.best.projection ≡ true = c.if-projection-best.true in
    simp less

pub returns : goal.returns
unfolding flatter_of
returns c =
    let a = c.args in
    let no_less : lt a.projection a.best.projection ≡ false = c.if-projection-best.false in
    simp no_less
