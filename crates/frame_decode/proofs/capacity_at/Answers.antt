-- The number with a sign.
use mir.Syntax.{w32}
use mir.ValLaws.{to_z-of_z}
use mathlib.Core.Path.{ap, ◌∙◌}
use Rattle.frame_decode.specs.Fields.{signed}
use Rattle.frame_decode.proofs.Signs.{signed_is}
use Rattle.frame_decode.proofs.capacity_at.Goals as goal

pub returns : goal.returns
returns c =
    to_z-of_z w32 c.cast_signed.result (record { sfits = c.cast_signed.type_inv })
    ∙ (c.cast_signed.ensures ∙ (signed_is _ ∙ ap signed c.number32_at.ensures))
