-- Where a turn begins, and what it hands to the write. Assumes nothing.
use Prim.Native.Nat.{ℕ, ◌-◌, ◌≤◌, ◌<◌}
use mathlib.Core.Path.{◌≡◌, refl, sym}
use mathlib.Core.Bool.{Bool, true, false, cond}
use mathlib.Core.List.{List}
use borrow.Author.Tests.{ltb-true, ltb-false}
use lib.Dec.{ltb}
use lib.ListN.{take, drop}
use Rattle.stream.specs.declared.Part.{Part}
use Rattle.stream.specs.Tells.{Tells}
use Rattle.contact.specs.declared.State.{State}
use Rattle.contact.specs.Turns.{begins}

-- what there is to tell is found where the turn begins
pub begins_at : (s : State) {from : ℕ} → (s.from < s.to → from ≡ s.from) → (s.to ≤ s.from → from ≡ 0) → from ≡ begins s
begins_at s {from} l n = pick (ltb s.from s.to) refl
  where
    pick : (t : Bool) → ltb s.from s.to ≡ t → from ≡ cond t s.from 0
    pick true e = l (ltb-true s.from s.to e)
    pick false e = n (ltb-false s.from s.to e)

-- as many places as were told are handed to the write
pub tells_written : (chunk : List ℕ) (to : ℕ) {xs o line' o' : List ℕ} {from at count : ℕ} {t : Part} → from ≡ at → count ≡ t.count
    → Tells xs (take (to - from) (drop from chunk)) o t line' o'
    → Tells xs (take (to - at) (drop at chunk)) o (record { taken = t.taken; held = t.held; count = count }) line' o'
tells_written chunk to e f t = rw (sym e, f) t
