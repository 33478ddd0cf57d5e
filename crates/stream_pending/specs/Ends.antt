-- Where a line ends, and how much room one answer takes with its line end. Definitions only.
use Rattle.std.specs.Prelude.{ℕ, suc, cond, List, [], ◌∷◌, eqb}

-- the code of the line end
abbrev pub line_end : ℕ
line_end = 10

-- how many characters stand before the first line end: all of them where there is none
unfoldable pub to_end : List ℕ → ℕ
to_end [] = 0
to_end (c ∷ cs) = cond (eqb c line_end) 0 (suc (to_end cs))

-- what is told of one line at the most: the longest answer in characters, and its line end
abbrev pub longest_told : ℕ
longest_told = 217
