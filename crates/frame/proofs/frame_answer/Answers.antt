-- The answer that was tried, or the fault in its place.
use Rattle.frame.proofs.Puts.{told}
use Rattle.frame.proofs.frame_answer.Goals as goal

pub returns : goal.returns
returns c = told _ c.try_frame-tried.result c.try_frame-tried.ensures c.or_fault.ensures
