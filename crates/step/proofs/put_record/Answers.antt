-- Three bytes, a 0, and the names behind them.
use mathlib.Core.Path.{refl}
use Rattle.lists.proofs.Written.{then}
use Rattle.step.proofs.put_record.Goals as goal

pub returns : goal.returns
returns c = then (then c.put_status.ensures
    c.write.ensures refl) c.put_names.ensures refl
