-- Kind by kind.
use native.Mathlib.Omega.{arith}
use mathlib.Core.Path.{refl, sym, ap, ◌∙◌}
use Rattle.frame.specs.inner.Faults.{number_of, byte_of_kind}
use Rattle.frame.specs.Frames.{fault_of}
use Rattle.frame.proofs.Puts.{tried_same, tried_err, frame_none, frame_root, frame_flip, frame_call_lem, frame_other}
use Rattle.frame.proofs.try_frame.Goals as goal

pub returns-then-is_empty : goal.returns-then-is_empty
returns-then-is_empty c = (sym (frame_none _ (grind arith)), refl)

pub returns-in_err-try_from : goal.returns-in_err-try_from
returns-in_err-try_from c = let e = c.in_err-try_from.ensures in
    tried_err _ c.from_residual.result _ c.from_residual.ensures.1
    (sym (frame_other c.args.frame.now (λ z. grind arith) e.1 e.2 e.3) ∙ ap (λ x. fault_of (number_of x)) (sym e.0))

pub returns-in-Root : goal.returns-in-Root
returns-in-Root c = tried_same _ _ c.root_answer.result c.root_answer.ensures
    (frame_root _ (λ z. grind arith) (c.in_ok-try_from.ensures ∙ ap byte_of_kind c.in-Root.is))

pub returns-in-Flip : goal.returns-in-Flip
returns-in-Flip c = tried_same _ _ c.flip_answer.result c.flip_answer.ensures
    (frame_flip _ (λ z. grind arith) (c.in_ok-try_from.ensures ∙ ap byte_of_kind c.in-Flip.is))

pub returns-in-Call : goal.returns-in-Call
returns-in-Call c = tried_same _ _ c.call_answer.result c.call_answer.ensures
    (frame_call_lem _ (λ z. grind arith) (c.in_ok-try_from.ensures ∙ ap byte_of_kind c.in-Call.is))
