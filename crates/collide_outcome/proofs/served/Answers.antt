-- `served`: each case of what was built is its case of the definition.
use mathlib.Core.Path.{◌∙◌, sym}
use Rattle.collide_outcome.proofs.Told.{served_refused, served_near, served_off}
use Rattle.collide_outcome.proofs.served.Goals as goal

pub returns-in-Err : goal.returns-in-Err
returns-in-Err g c = λ number. rw c.in-Err.is (served_refused number c.args.unit c.args.cache c.in-Err.refusal)

pub returns-then-near : goal.returns-then-near
returns-then-near g c = λ number.
    rw c.in-Ok.is (served_near number c.args.unit c.args.cache c.in-Ok.build (sym c.near.ensures ∙ c.if-near.true))

pub returns-else-near : goal.returns-else-near
returns-else-near g c = λ number. rw c.in-Ok.is (served_off number c.args.unit c.args.cache c.in-Ok.build (sym c.near.ensures ∙ c.if-near.false))
