-- The core is called on a copy of the cache, and its cache is stored.
use Rattle.std.proofs.Math.Facts.{to_z-of_z}
use Rattle.contactlib.proofs.Keeps.{called}
use Rattle.contactlib.proofs.lent.contact_collide.Goals as goal

pub returns : goal.returns
returns c = called _ _ _ _ _ _ _ (to_z-of_z c.ranges.capacity) c.collide_core-answer.ensures
