-- Two digits of a line that has digits only.
use Rattle.frame_hex.specs.Hex.{byte_of}
use Rattle.frame_hex.proofs.Digits.{line_digit}
use borrow.Author.Rules.{rules}
use Rattle.frame_hex.proofs.byte_of.Goals as goal

pub value_of-high-requires : goal.value_of-high-requires
value_of-high-requires c = line_digit _ c.requires.0 _ (search rules)

pub value_of-low-requires : goal.value_of-low-requires
value_of-low-requires c = line_digit _ c.requires.0 _ (search rules)

pub returns : goal.returns
unfolding byte_of
returns c = simp (c.value_of-low.ensures.0, c.value_of-high.ensures.0)
