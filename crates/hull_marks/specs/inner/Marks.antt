-- Inner: marks of the numbers below 256 in four words of 64 bits: the mark of i is bit i % 64 of word i / 64. Definitions only.
use Rattle.std.specs.Prelude.{Bool, List, ◌≡◌, ℕ, ◌/◌, ◌%◌, ◌^◌, eqb, length, get_or, set, replicate}
use Rattle.std.specs.Int.Bits.{bit_or}
use Rattle.hull_links.specs.Walks.{has}

-- bit k of a word
unfoldable pub bit_of : ℕ → ℕ → ℕ
bit_of word k = word / 2 ^ k % 2

-- the mark of i, 1 or 0, and whether i is marked
unfoldable pub mark_of : List ℕ → ℕ → ℕ
mark_of words i = bit_of (get_or words (i / 64) 0) (i % 64)

abbrev pub is_marked : List ℕ → ℕ → Bool
is_marked words i = eqb (mark_of words i) 1

-- nothing is marked
unfoldable pub no_marks : List ℕ
no_marks = replicate 4 0

-- the same words with the bit of i set
unfoldable pub with_mark : List ℕ → ℕ → List ℕ
with_mark words i = set words (i / 64) (bit_or (get_or words (i / 64) 0) (2 ^ (i % 64)))

-- four words in which the numbers of a list are marked, and no others
pub record Marks (words list : List ℕ) : Type 0 where
  pub long : length words ≡ 4
  pub tells : (i : ℕ) → is_marked words i ≡ has i list
