-- One line a turn: the answers so far stand in `out`, and each takes at most `longest_told` places.
use Prim.Native.Nat.{ℕ, ◌≤◌, ◌-◌, ◌*◌}
use mathlib.Core.List.{List}
use lib.ListN.{length}
use Rattle.stream_pending.specs.Ends.{longest_told}
use Rattle.stream_pending.specs.Held.{Ready, Held}
use Rattle.stream.specs.Tells.{Tells}
use Rattle.stream.proofs.tell_part.Given as goal

abbrev pub invariant-loop-line : goal.invariant-loop-line
invariant-loop-line l = record {
  room : l.told.count ≤ length l.initial.out;
  each : l.told.count ≤ longest_told * l.told.taken;
  inside : l.told.taken ≤ length l.chunk;
  ready : Ready l.line l.told.held;
  tells : (xs : List ℕ) → Held xs l.initial.line l.initial.told.held → Tells xs l.chunk l.initial.out l.told l.line l.out;
}

abbrev pub decreases-loop-line : goal.decreases-loop-line
decreases-loop-line l = length l.chunk - l.told.taken
