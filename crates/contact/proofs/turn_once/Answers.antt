-- Nothing to tell, or a part of what was read and its write.
use Rattle.std.proofs.Common.{◌≡◌}
use native.Mathlib.Omega.{arith}
use lib.ListN.{length-take}
use Rattle.stream.proofs.Tells.{tells_none}
use Rattle.contact.specs.Turns.{begins}
use Rattle.contact.proofs.Turns.{begins_at, tells_written}
use Rattle.contact.proofs.turn_once.Goals as goal

pub returns-then-from-to-clause-turned : goal.returns-then-from-to-clause-turned
returns-then-from-to-clause-turned g c = let f = c.refill-from.ensures.left in let s = c.args.s in
    let b : c.refill-from.result.from ≡ begins s = begins_at s (λ l. (f.2 l).1) f.3 in (
      record { left = f.0; read = f.1; ready = c.requires.0.ready },
      record { kept = λ l. (f.2 l).0; same = λ l. (f.2 l).2; moves = λ l. absurd (omega (arith, b, l, c.if-from-to.true)); next = omega (arith, b) },
      λ xs h. tells_none h,
    )

pub returns-clause-turned : goal.returns-clause-turned
returns-clause-turned g c = let f = c.refill-from.ensures.left in let s = c.args.s in let t = c.tell_part-part.ensures in
    let b : c.refill-from.result.from ≡ begins s = begins_at s (λ l. (f.2 l).1) f.3 in (
      record { left = omega (arith, f.0, simp length-take at t.1); read = f.1; ready = t.4 },
      record { kept = λ l. (f.2 l).0; same = λ l. (f.2 l).2; moves = λ l. t.0; next = omega (arith, b) },
      λ xs h. tells_written _ _ b c.write_answers-written.ensures.count (t.5 xs h),
    )
