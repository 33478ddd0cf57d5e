-- The wrong length, or the root.
use mathlib.Core.Path.{refl, sym, ap, ◌∙◌}
use mathlib.Core.List.{◌∷◌}
use Rattle.root.specs.Root.{root_of}
use Rattle.frame_encode.specs.Bytes.{float_bytes}
use Rattle.lists.proofs.Written.{then}
use Rattle.frame.proofs.Puts.{put, answers_same, root_short, root_whole}
use borrow.Author.Rules.{rules}
use Rattle.frame.proofs.root_answer.Goals as goal

pub returns-then-frame-ne5 : goal.returns-then-frame-ne5
returns-then-frame-ne5 c = (sym (root_short _ c.if-frame-ne5.true), refl)

pub returns : goal.returns
returns c = answers_same (put (then c.write.ensures
    c.put_float.ensures refl) (search rules) refl)
    (ap (λ x. 0x90 ∷ float_bytes x) (c.root.ensures.worked
    ∙ ap root_of c.float_at.ensures)
    ∙ root_whole _ c.if-frame-ne5.false)
