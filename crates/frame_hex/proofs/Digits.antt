-- The test of a whole line. Assumes nothing.
use Prim.Native.Nat.{ℕ, ◌%◌, ◌<◌, ◌≤◌}
use mathlib.Core.Path.{◌≡◌, refl, sym, ◌∙◌}
use mathlib.Core.Bool.{Bool, true, false}
use mathlib.Core.List.{List}
use lib.Dec.{eqb}
use lib.ListN.{length}
use Rattle.hull_links.specs.Tests.{all}
use Rattle.hull_links.proofs.Tests.{and_left, and_last, and_false_left, all_at, all_end}
use Rattle.frame_hex.specs.Hex.{hex_digit, character_at, hex_at, hex_line}

module _ (line : List ℕ) {i : ℕ} {digits : Bool} (e : digits ≡ all (hex_at line) i) (l : i ≤ length line) (g : length line ≤ i) where
  at_end : digits ≡ all (hex_at line) (length line)
  at_end = all_end (hex_at line) (length line) i digits l g e

  -- all characters are digits
  pub line_digits : digits ≡ true → eqb (length line % 2) 0 ≡ hex_line line
  unfolding hex_line
  line_digits t = and_last (all (hex_at line) (length line)) (eqb (length line % 2) 0) _ (sym at_end ∙ t) refl

  -- a character was no digit
  pub line_bad : digits ≡ false → digits ≡ hex_line line
  unfolding hex_line
  line_bad f = f ∙ sym (and_false_left (all (hex_at line) (length line)) (eqb (length line % 2) 0) (sym at_end ∙ f))

-- a line of hexadecimal has digits only
pub line_digit : (line : List ℕ) → hex_line line ≡ true → (i : ℕ) → i < length line → hex_digit (character_at line i) ≡ true
unfolding hex_line hex_at
line_digit line h i l = all_at (hex_at line) (length line) (and_left (all (hex_at line) (length line)) (eqb (length line % 2) 0) h) i l
