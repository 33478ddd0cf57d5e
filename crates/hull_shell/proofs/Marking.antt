-- The marks of the flood are those of `hull_marks`. Assumes nothing.
use mathlib.Core.Path.{◌≡◌, ap, ◌∙◌}
use mathlib.Core.List.{List}
use Prim.Native.Nat.{ℕ, ◌/◌, ◌≤◌, ◌<◌}
use native.Mathlib.Omega.{arith}
use lib.ListN.{length, length-set, length-replicate}
use Rattle.hull_marks.specs.inner.Marks.{mark_of, no_marks, with_mark}
use Rattle.hull_marks.proofs.Marks.{not_marked, mark_new, mark_kept}
use Rattle.hull_shell.proofs.Flood.{Marked}

pub marked : (words after : List ℕ) (f k : ℕ) → length words ≡ 4 → k ≤ 128 → f < k → after ≡ with_mark words f
    → Marked (mark_of words) f (mark_of after)
marked words after f k long high l q =
    let h : f < 256 = omega arith in
    rw q (record { new = mark_new words f long h; others = λ g nay. mark_kept words f g long h nay })

pub none : (words : List ℕ) → words ≡ no_marks → (f : ℕ) → mark_of words f ≡ 0
none words q f = ap (λ (w : List ℕ). mark_of w f) q ∙ not_marked f

pub marks_long : (words after : List ℕ) (f : ℕ) → length words ≡ 4 → after ≡ with_mark words f → length after ≡ 4
unfolding with_mark
marks_long words after f long q = ap length q ∙ length-set words (f / 64) _ ∙ long

pub none_long : (words : List ℕ) → words ≡ no_marks → length words ≡ 4
unfolding no_marks
none_long words q = ap length q ∙ length-replicate {A = ℕ} 4 0
