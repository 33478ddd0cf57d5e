-- A numeral or a letter.
use native.Mathlib.Omega.{arith}
use Rattle.hull_links.specs.Tests.{◌&◌, ◌or◌}
use Rattle.frame_hex.specs.Hex.{hex_digit, digit_value_of}
use Rattle.frame_hex.proofs.value_of.Goals as goal

pub overflow_sub-result : goal.overflow_sub-result
unfolding hex_digit ◌&◌ ◌or◌
overflow_sub-result c = grind arith

pub overflow_sub-result-else-c-le57 : goal.overflow_sub-result-else-c-le57
unfolding hex_digit ◌&◌ ◌or◌
overflow_sub-result-else-c-le57 c = grind arith

pub returns-then-c-le57 : goal.returns-then-c-le57
unfolding hex_digit digit_value_of ◌&◌ ◌or◌
returns-then-c-le57 c = grind arith

pub returns-else-c-le57 : goal.returns-else-c-le57
unfolding hex_digit digit_value_of ◌&◌ ◌or◌
returns-else-c-le57 c = grind arith
