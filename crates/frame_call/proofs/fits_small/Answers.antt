-- The sum of what stands before the planes and the planes is how many numbers there are.
use mathlib.Core.Path.{ap}
use Prim.Native.Nat.{◌+◌, ◌*◌}
use lib.Dec.{leb}
use Rattle.frame_call.proofs.fits_small.Goals as goal

pub returns : goal.returns
returns c = ap (λ n. leb (n + 4 * c.args.s.faces) 256) c.planes_from.ensures
