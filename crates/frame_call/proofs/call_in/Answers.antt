-- The frame's own numbers, links and fields go to the call.
use mathlib.Core.Path.{◌∙◌}
use native.Mathlib.Omega.{arith}
use mir.Syntax.{w32}
use mir.ValLaws.{to_z-of_z}
use Rattle.lists.proofs.Written.{wrote_length}
use Rattle.frame_call.proofs.Calls.{taken_inside, taken_first, taken_long, links_at, a_inside, head_inside, call_is}
use Rattle.frame_call.proofs.call_in.Goals as goal

pub returns : goal.returns
returns c =
    c.collide_core.ensures
    ∙ call_is c.requires.0 (taken_first c.take_numbers-count_a.ensures c.requires.1)
    (links_at _ _ _ c.links_from.ensures c.planes_at.ensures)
    (taken_first c.take_numbers-count_b.ensures c.requires.2) (links_at _ _ _ c.links_from-2.ensures c.planes_at-2.ensures)
    c.transform_at.ensures
    (to_z-of_z w32 c.capacity_at.result (record { sfits = c.capacity_at.type_inv }) ∙ c.capacity_at.ensures)
    c.cache_at.ensures
