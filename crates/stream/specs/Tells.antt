-- What is told of characters that were read, where the characters xs were held before them. Definitions only.
use Rattle.std.specs.Prelude.{ℕ, List, take}
use Rattle.stream_pending.specs.Held.{Held}
use Rattle.frame.specs.Answers.{Answers}
use Rattle.stream.specs.declared.Part.{Part}
use Rattle.stream.specs.Told.{told, held_after}

-- the first r .taken characters of `rest` are told: o and o' are the list for the answers before and after, line' the list that holds characters, after
pub record Tells (xs rest o : List ℕ) (r : Part) (line' o' : List ℕ) : Type 0 where
  -- what is held then: the characters since the last line end
  pub held : Held (held_after xs (take r.taken rest)) line' r.held
  -- what is told: the answers to the lines that end in them, in the first r .count places
  pub puts : Answers (told xs (take r.taken rest)) o r.count o'
