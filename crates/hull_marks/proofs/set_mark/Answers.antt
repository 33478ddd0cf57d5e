-- The word of i or the bit of i.
use Rattle.hull_marks.proofs.Marks.{bit_shifted}
use Rattle.hull_marks.proofs.set_mark.Goals as goal

pub returns : goal.returns
returns c = bit_shifted _ _
