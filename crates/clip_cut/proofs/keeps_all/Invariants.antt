-- The loop keeps `Keeping`: the corners so far are kept, so those that are left decide.
use Rattle.clip_cut.proofs.Keeping.{Keeping}
use Rattle.clip_cut.proofs.keeps_all.Given as goal

abbrev pub invariant-loop-i : goal.invariant-loop-i
invariant-loop-i l = Keeping l.numbers l.p l.n l.plane l.i
