-- The four characters, and behind them what was there.
use mathlib.Core.Path.{refl}
use borrow.Author.Rules.{rules}
use Rattle.frame_hex.specs.Hex.{hex_of, digit_of}
use Rattle.stream.proofs.put_long.Goals as goal

pub returns : goal.returns
unfolding hex_of digit_of
returns c = record { count = refl; bytes = search rules }
