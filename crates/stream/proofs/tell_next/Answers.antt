-- A line that ends, or what there is of it.
use native.Mathlib.Omega.{arith}
use Rattle.stream_pending.proofs.Scans.{to_end_most}
use Rattle.stream.proofs.Tells.{tells_line, tells_rest}
use Rattle.stream.proofs.tell_next.Goals as goal

pub returns-then-n-rest : goal.returns-then-n-rest
returns-then-n-rest c = (
  omega arith,
  omega arith,
  omega arith,
  record { room = omega arith; most = omega arith },
  λ xs h. tells_line c.line_end-n.ensures
      c.if-n-rest.true (c.tell_line-count.ensures.1 xs h),
)

pub returns : goal.returns
returns c = (
  omega arith,
  omega (arith, to_end_most c.args.rest.now),
  omega arith,
  c.hold.ensures.0,
  λ xs h. tells_rest c.line_end-n.ensures
      c.if-n-rest.false (c.hold.ensures.1 xs h),
)
