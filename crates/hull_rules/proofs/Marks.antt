-- The loop of H5: the nexts of the half-edges before the one at hand are marked, so the mark of its next tells whether that next has come before.
-- Assumes nothing.
use mathlib.Core.Path.{◌≡◌, sym, ap, ◌∙◌}
use mathlib.Core.Bool.{true, false, not}
use mathlib.Core.List.{List}
use Prim.Native.Nat.{ℕ, ◌+◌, ◌<◌}
use native.Mathlib.Numerals.{add-one}
use native.Mathlib.Omega.{arith}
use Rattle.hull_links.specs.declared.HullSize.{HullSize}
use Rattle.hull_links.specs.Walks.{firsts}
use Rattle.hull_links.specs.Links.{next, LinksFit}
use Rattle.hull_links.specs.Rules.{h2, new_next}
use Rattle.hull_links.proofs.Facts.{next_lt}
use Rattle.hull_marks.specs.inner.Marks.{is_marked, with_mark, no_marks, Marks}
use Rattle.hull_marks.proofs.Marks.{none_marked, one_marked}

pub next_small : (s : HullSize) (l : List ℕ) (i t : ℕ) → LinksFit s l → h2 s l ≡ true → i < s.half_edges → t ≡ next s l i → t < 256
next_small s l i t f r h q = omega (arith, next_lt s l r i h, f.h_high)

-- ---- the marks before the first turn, and after one more
pub nexts_none : (f : ℕ → ℕ) (m : List ℕ) → m ≡ no_marks → Marks m (firsts f 0)
unfolding firsts
nexts_none f m q = rw q none_marked

pub nexts_more : (f : ℕ → ℕ) (i t : ℕ) (m after : List ℕ) → t < 256 → t ≡ f i → Marks m (firsts f i) → after ≡ with_mark m t
    → Marks after (firsts f (i + 1))
unfolding firsts
nexts_more f i t m after low e q w = rw (w, add-one i, sym e) (one_marked m (firsts f i) t low q)

-- ---- what the mark of the next says
module _ (s : HullSize) (l : List ℕ) (i t : ℕ) (m : List ℕ) (e : t ≡ next s l i) (q : Marks m (firsts (next s l) i)) where
  pub not_new : is_marked m t ≡ true → new_next s l i ≡ false
  unfolding new_next
  not_new p = rw e at (ap not (sym (q.tells t) ∙ p))

  pub is_new : is_marked m t ≡ false → new_next s l i ≡ true
  unfolding new_next
  is_new p = rw e at (ap not (sym (q.tells t) ∙ p))
