-- The frame is too short to hold the sizes, has another length, or asks for a call.
use mathlib.Core.Path.{refl, sym, ap, ◌∙◌}
use Prim.Native.Nat.{◌+◌}
use Rattle.frame_encode.specs.Bytes.{answer_bytes}
use Rattle.frame.proofs.Puts.{put, answers_same}
use Rattle.frame.proofs.Lengths.{answer_length}
use Rattle.frame.proofs.Calls.{too_short, too_short_b, other_length, right_length}
use borrow.Author.Rules.{rules}
use Rattle.frame.proofs.call_answer.Goals as goal

pub returns-then-frame-lt49 : goal.returns-then-frame-lt49
returns-then-frame-lt49 c = (sym (too_short _ c.if-frame-lt49.true), refl)

pub returns-then-frame-at : goal.returns-then-frame-at
returns-then-frame-at c = (
  sym (too_short_b _ c.size_at-size_a.ensures.0
      (ap (λ k. 41 + k) c.hull_length-at.ensures) c.if-frame-at.true),
  refl,
)

pub returns-then-frame-at-2 : goal.returns-then-frame-at-2
returns-then-frame-at-2 c = (
  sym (other_length _ c.size_at-size_a.ensures.0
      (ap (λ k. 41 + k) c.hull_length-at.ensures)
      c.size_at-size_b.ensures.0
      (λ z. c.if-frame-at-2.true
      (z ∙ ap (λ k. 41 + c.hull_length-at.result + k)
      (sym c.hull_length.ensures)))),
  refl,
)

pub returns : goal.returns
returns c = answers_same (put c.put_answer.ensures
    (let l = answer_length c.call_of.result in
    search rules) (sym (answer_length c.call_of.result)))
    (ap answer_bytes c.call_of.ensures
    ∙ right_length _ c.size_at-size_a.ensures.0
    (ap (λ k. 41 + k) c.hull_length-at.ensures)
    c.size_at-size_b.ensures.0
    (c.if-frame-at-2.false
    ∙ ap (λ k. 41 + c.hull_length-at.result + k)
    c.hull_length.ensures))
