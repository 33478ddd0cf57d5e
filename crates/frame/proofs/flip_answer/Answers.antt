-- The wrong length, refusal 8, or the pair.
use mathlib.Core.Path.{refl, sym, ap, ◌∙◌}
use borrow.Author.Rules.{rules}
use native.Mathlib.Omega.{arith}
use Rattle.std.specs.Prelude.{None, Some}
use Rattle.lists.proofs.Written.{then}
use Rattle.manifold.specs.Pairs.{flipped_of, flip_of}
use Rattle.frame.specs.Frames.{flipped_answer}
use Rattle.frame.proofs.Puts.{put, answers_same, flip_short, flip_whole, flip_refused, flip_done}
use Rattle.frame.proofs.flip_answer.Goals as goal

pub returns-then-frame-ne5 : goal.returns-then-frame-ne5
returns-then-frame-ne5 c = (sym (flip_short _ c.if-frame-ne5.true), refl)

pub returns-in-None : goal.returns-in-None
returns-in-None c =
    let same = ap flipped_of (sym c.in-None.is) ∙ (c.flip_pair.ensures ∙ ap flip_of c.pair_at.ensures) in
    (sym (flip_refused (flipped_of None) (λ z. absurd (omega (arith, z))) ∙ (ap flipped_answer same ∙ flip_whole _ c.if-frame-ne5.false)), refl)

pub returns-in-Some : goal.returns-in-Some
returns-in-Some c =
    let same = ap flipped_of (sym c.in-Some.is) ∙ (c.flip_pair.ensures ∙ ap flip_of c.pair_at.ensures) in
    answers_same (put (then c.write.ensures c.put_pair.ensures refl) (search rules) refl)
    (flip_done (flipped_of (Some _)) refl ∙ (ap flipped_answer same ∙ flip_whole _ c.if-frame-ne5.false))
