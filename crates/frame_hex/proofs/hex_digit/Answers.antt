-- Digits case by case.
use native.Mathlib.Omega.{arith}
use Rattle.hull_links.specs.Tests.{◌&◌, ◌or◌}
use Rattle.frame_hex.specs.Hex.{hex_digit}
use Rattle.frame_hex.proofs.hex_digit.Goals as goal

pub returns-in-48-to-57 : goal.returns-in-48-to-57
unfolding hex_digit ◌&◌ ◌or◌
returns-in-48-to-57 c = grind arith

pub returns-in-48-to-57-2 : goal.returns-in-48-to-57-2
unfolding hex_digit ◌&◌ ◌or◌
returns-in-48-to-57-2 c = grind arith

pub returns-in_default : goal.returns-in_default
unfolding hex_digit ◌&◌ ◌or◌
returns-in_default c = grind arith

pub returns-in_default-2 : goal.returns-in_default-2
unfolding hex_digit ◌&◌ ◌or◌
returns-in_default-2 c = grind arith

pub returns-in_default-3 : goal.returns-in_default-3
unfolding hex_digit ◌&◌ ◌or◌
returns-in_default-3 c = grind arith
