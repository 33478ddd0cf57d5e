-- A numeral or a letter.
use native.Mathlib.Omega.{arith}
use Rattle.frame_hex.specs.Hex.{digit_of}
use Rattle.frame_hex.proofs.digit_of.Goals as goal

pub returns-then-v-lt10 : goal.returns-then-v-lt10
unfolding digit_of
returns-then-v-lt10 c = grind arith

pub returns-else-v-lt10 : goal.returns-else-v-lt10
unfolding digit_of
returns-else-v-lt10 c = grind arith
