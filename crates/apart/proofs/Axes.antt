-- The question is answered by yes exactly where some axis is farther apart than the speculative distance, in hulls of one unit. Assumes nothing.
use mathlib.Core.Path.{◌≡◌, sym, ◌∙◌}
use mathlib.Core.Bool.{Bool, true}
use mathlib.Core.List.{List}
use Prim.Native.Nat.{ℕ, ◌/◌}
use lib.Ieee.{Float}
use Rattle.vector.specs.declared.Transform.{Transform}
use Rattle.hull_links.specs.declared.HullSize.{HullSize}
use Rattle.hull_links.specs.Tests.{◌or◌}
use Rattle.hull_links.proofs.Tests.{or_left, or_right, or_use, any_some, any_one}
use Rattle.apart.specs.Every.{apart_by_every}
use Rattle.apart.specs.Axes.{FarAxis, of_a, of_b, of_edges}
use Rattle.apart.proofs.Early.{some_of_a, some_of_b, some_of_edges, every_is}

module _ (s : HullSize) (n : List Float) (l : List ℕ) (t : HullSize) (m : List Float) (k : List ℕ) (x : Transform) (e : s.unit ≡ t.unit) where
  abbrev sides : Bool
  sides = some_of_a s n l t m k x or some_of_b s n l t m k x

  abbrev edges : Bool
  edges = some_of_edges s n l t m k x

  pub far_is_yes : FarAxis s n l t m k x → apart_by_every s n l t m k x ≡ true
  far_is_yes axis = every_is s n l t m k x e ∙ one_is axis
    where
      one_is : FarAxis s n l t m k x → (sides or edges) ≡ true
      one_is (of_a f h p) = or_left sides edges (or_left _ _ (any_one _ s.faces f h p))
      one_is (of_b f h p) = or_left sides edges (or_right _ _ (any_one _ t.faces f h p))
      one_is (of_edges i j h g p) = or_right sides edges (any_one _ (t.half_edges / 2) j g (any_one _ (s.half_edges / 2) i h p))

  pub yes_is_far : apart_by_every s n l t m k x ≡ true → FarAxis s n l t m k x
  yes_is_far h =
      or_use sides edges (sym (every_is s n l t m k x e) ∙ h)
      (λ side. or_use (some_of_a s n l t m k x) (some_of_b s n l t m k x) side
      (λ q. let f = any_some _ s.faces q in of_a f.0 f.1 f.2)
      (λ q. let f = any_some _ t.faces q in of_b f.0 f.1 f.2))
      (λ q.
      let j = any_some _ (t.half_edges / 2) q in
      let i = any_some _ (s.half_edges / 2) j.2 in
      of_edges i.0 j.0 i.1 j.1 i.2)
