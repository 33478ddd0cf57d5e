-- What the program tells: "reads standard input, one frame a line of lowercase hexadecimal (the last may lack its line end), and prints one line for
-- each" (document 01, "The hex program"). The input comes in parts, cut anywhere: xs are always the characters that were read since the last line
-- end. Definitions only.
use Rattle.std.specs.Prelude.{ℕ, cond, List, [], ◌∷◌, ◌++◌, eqb}
use Rattle.stream_pending.specs.Ends.{line_end}
use Rattle.frame.specs.Lines.{line_answer}

-- "one line for each": its answer, and a line end
abbrev pub line_told : List ℕ → List ℕ
line_told xs = line_answer xs ++ (line_end ∷ [])

-- what is told of the lines that end in a part of the input
unfoldable pub told : List ℕ → List ℕ → List ℕ
told xs [] = []
told xs (c ∷ cs) = cond (eqb c line_end) (line_told xs ++ told [] cs) (told (xs ++ (c ∷ [])) cs)

-- the characters since the last line end, once the part is read
unfoldable pub held_after : List ℕ → List ℕ → List ℕ
held_after xs [] = xs
held_after xs (c ∷ cs) = cond (eqb c line_end) (held_after [] cs) (held_after (xs ++ (c ∷ [])) cs)

-- "(the last may lack its line end)": what is told at the end of the input. One that ends behind a line end has no further line.
unfoldable pub told_last : List ℕ → List ℕ
told_last [] = []
told_last (c ∷ cs) = line_told (c ∷ cs)
