-- Lowercase hexadecimal: characters by their codes, two to a byte, the high digit first. Definitions only.
use Rattle.std.specs.Prelude.{ℕ, ◌+◌, ◌*◌, ◌-◌, ◌/◌, ◌%◌, Bool, cond, List, [], ◌∷◌, eqb, leb, ltb, length, get_or}
use Rattle.hull_links.specs.Tests.{◌&◌, ◌or◌, all}
use Rattle.lists.specs.Written.{table}

-- 0 to 9 have the codes 48 to 57, a to f the codes 97 to 102
unfoldable pub hex_digit : ℕ → Bool
hex_digit c = leb 48 c & leb c 57 or leb 97 c & leb c 102

-- the number that a digit stands for, and the digit that stands for a number below 16
unfoldable pub digit_value_of : ℕ → ℕ
digit_value_of c = cond (leb c 57) (c - 48) (c - 87)

unfoldable pub digit_of : ℕ → ℕ
digit_of v = cond (ltb v 10) (v + 48) (v + 87)

abbrev pub character_at : List ℕ → ℕ → ℕ
character_at line i = get_or line i 0

unfoldable pub hex_at : List ℕ → ℕ → Bool
hex_at line i = hex_digit (character_at line i)

-- digits only, and an even number of them
unfoldable pub hex_line : List ℕ → Bool
hex_line line = all (hex_at line) (length line) & eqb (length line % 2) 0

-- the bytes of such a line
unfoldable pub byte_of : List ℕ → ℕ → ℕ
byte_of line i = 16 * digit_value_of (character_at line (2 * i)) + digit_value_of (character_at line (2 * i + 1))

abbrev pub bytes_of : List ℕ → List ℕ
bytes_of line = table (byte_of line) (length line / 2)

-- the line of these bytes
unfoldable pub hex_of : List ℕ → List ℕ
hex_of [] = []
hex_of (b ∷ bs) = digit_of (b / 16) ∷ digit_of (b % 16) ∷ hex_of bs
