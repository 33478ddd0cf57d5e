-- How the program goes through what it reads, turn by turn, and how it ends. Definitions only.
use Rattle.std.specs.Prelude.{ℕ, ◌+◌, ◌-◌, ◌≤◌, ◌<◌, ◌≡◌, Bool, true, false, cond, List, [], ◌++◌, ltb, length, take, drop}
use Rattle.std.specs.declared.option.Option.{Option}
use Rattle.std.specs.Io.KnownBytes.{Keeps, Consumes, IsAtEnd}
use Rattle.stream_pending.specs.Held.{Ready}
use Rattle.stream.specs.Told.{told, held_after, told_last}
use Rattle.contact.specs.declared.State.{State}
use Rattle.contact.specs.declared.End.{End}

-- the room: what was read and is not told yet lies in the chunk, and what is held in the line
pub record Fits (chunk line : List ℕ) (s : State) : Type 0 where
  pub left : s.from ≤ s.to
  pub read : s.to ≤ length chunk
  pub ready : Ready line s.part.held

-- where in the chunk a turn begins: at what is left, or else at the first place, with a new read
abbrev pub begins : State → ℕ
begins s = cond (ltb s.from s.to) s.from 0

-- what there is to tell in the turn from s to s': the characters of the chunk from there up to the end of what was read
abbrev pub unread : State → State → List ℕ → List ℕ
unread s s' chunk = take (s'.to - begins s) (drop (begins s) chunk)

-- what an input has left, where that is known, before and after a turn in which the characters `from` up to `to` are left to tell: to' is where what was
-- read ends then, and ok says whether no read failed
pub record Arrives (before after : Option (List ℕ)) (from to to' : ℕ) (ok : Bool) (chunk : List ℕ) : Type 0 where
  -- nothing is read while characters are left
  pub left : from < to → Keeps before after
  -- what a read brings stands first in the chunk, and the input has it no longer
  pub came : to ≤ from → Consumes before after (take to' chunk)
  -- a read that brings nothing, and does not fail, found the end
  pub last : to ≤ from → to' ≡ 0 → ok ≡ true → 0 < length chunk → IsAtEnd after

-- the turn from s to s' leaves out no character that was read
pub record Turned (s : State) (chunk : List ℕ) (s' : State) (chunk' : List ℕ) : Type 0 where
  -- nothing is read while characters are left
  pub kept : s.from < s.to → chunk' ≡ chunk
  pub same : s.from < s.to → s'.to ≡ s.to
  -- where there are characters, at least one is told
  pub moves : begins s < s'.to → 0 < s'.part.taken
  -- the next turn begins right behind those that are told
  pub next : s'.from ≡ begins s + s'.part.taken

-- what is told of an input whose characters are xs, from the first to the last
abbrev pub told_of : List ℕ → List ℕ
told_of xs = told [] xs ++ told_last (held_after [] xs)

-- the end, where the characters xs are held
pub record Ended (xs : List ℕ) (e : End) (out : List ℕ) : Type 0 where
  -- what is told of them stands first, and that much is handed to the last write
  pub count : e.ok ≡ true → e.count ≡ length (told_last xs)
  pub told : e.ok ≡ true → take e.count out ≡ told_last xs
  -- where a write failed nothing further is told, and the end is no good one
  pub failed : e.ok ≡ false → e.count ≡ 0
  pub lost : e.ok ≡ false → e.all ≡ false
