-- How the characters since the last line end are held. "ff24 over 20,000 characters": of a longer line nothing but
-- that is known. Definitions only.
use Rattle.std.specs.Prelude.{ℕ, ◌≤◌, ◌<◌, ◌≡◌, Bool, false, List, eqb, length, take, Option, None, Some, IfSome, IfNone}
use Rattle.stream_pending.specs.declared.Pending.{Pending}

-- the room for a line, of which no more is used than there is
pub record Ready (line : List ℕ) (p : Pending) : Type 0 where
  pub room : length line ≡ 20000
  pub most : IfSome p.kept (λ len. len ≤ 20000)

-- the characters xs are held: they stand first in the line, or they are too many
pub record Held (xs line : List ℕ) (p : Pending) : Type 0 where
  pub kept : IfSome p.kept (λ len. xs ≡ take len line)
  pub long : IfNone p.kept (20000 < length xs)

abbrev pub none_kept : Option ℕ → Bool
none_kept None = false
none_kept (Some len) = eqb len 0

-- there are none
abbrev pub nothing : Pending → Bool
nothing p = none_kept p.kept
