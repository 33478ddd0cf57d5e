-- A loop that makes a state of a list's corners in turn. Assumes nothing.
use Prim.Native.Nat.{ℕ, ◌+◌, ◌≤◌}
use mathlib.Core.Path.{◌≡◌, ap, ◌∙◌}
use mathlib.Core.List.{List}
use native.Mathlib.Omega.{arith}
use lib.ListN.{length, get_or}
use Rattle.manifold.specs.declared.ClipVertex.{ClipVertex}
use Rattle.manifold.specs.Records.{past_vertex}
use Rattle.manifold.specs.Polygons.{turns}
use Rattle.manifold.proofs.Polygons.{no_turn, one_turn}

-- what f makes of a state, a place and the corner there, over the first n places of l
abbrev pub over : {S : Type 0} → (S → ℕ → ClipVertex → S) → S → List ClipVertex → ℕ → S
over {S} f start l = turns (λ (s : S) (i : ℕ). f s i (get_or l i past_vertex)) start

module _ {S : Type 0} (f : S → ℕ → ClipVertex → S) (start : S) (l : List ClipVertex) where
  pub start_over : start ≡ over f start l 0
  start_over = no_turn (λ (s : S) (i : ℕ). f s i (get_or l i past_vertex)) start

  pub turn_over : (s next : S) (i : ℕ) (v : ClipVertex) → s ≡ over f start l i → v ≡ get_or l i past_vertex → next ≡ f s i v → next ≡ over f start l (i + 1)
  turn_over s next i v p q r = one_turn (λ (s : S) (i : ℕ). f s i (get_or l i past_vertex)) start s next i p (r ∙ ap (f s i) q)

  pub end_over : (s : S) (i n : ℕ) → length l ≡ n → i ≤ n → n ≤ i → s ≡ over f start l i → s ≡ over f start l (length l)
  end_over s i n e h k p = let m : i ≡ length l = omega (arith, e) in p ∙ ap (over f start l) m
