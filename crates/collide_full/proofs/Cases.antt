-- The definitions of this crate at each of their cases, for the code that comes through it. Assumes nothing.
use Prim.Native.Nat.{ℕ, ◌<◌}
use mathlib.Core.Bool.{true, false, cond}
use mathlib.Core.List.{List}
use mathlib.Core.Path.{◌≡◌, sym, ap, subst, ◌∙◌}
use lib.Dec.{eqb}
use lib.Ieee as Ieee
use lib.Ieee.{Float}
use borrow.Author.Tests.{eq-eqb, ne_eqb}
use Rattle.vector.specs.declared.Transform.{Transform}
use Rattle.vector.specs.Rounded.{◌⊕◌, float}
use Rattle.units.specs.Limits.{slop}
use Rattle.hull_links.specs.declared.HullSize.{HullSize}
use Rattle.hull.specs.Accepted.{Accepted}
use Rattle.axis.specs.declared.Axis.{Axis}
use Rattle.std.specs.Prelude.{Option, Some}
use Rattle.axis.specs.declared.Found.{Found}
use Rattle.axis.specs.declared.Search.{Search}
use Rattle.axis.specs.Ranges.{EdgeInRange, InRange}
use Rattle.axis.specs.Search.{search_of}
use Rattle.axis.proofs.Ranges.{in_range}
use Rattle.collide_outcome.specs.Builds.{Built}
use Rattle.collide_full.specs.Full.{tries_edge, pair_contact, contact_a, contact_b, winner_contact, instead_of, with_edge, found_contact}

-- ---- the pair of edges beside what the face made
module _ (unit : ℕ) (built : Built) (e : Axis) where
  pub tried_empty : built.contact.count ≡ 0 → true ≡ tries_edge unit built e
  unfolding tries_edge
  tried_empty h = rw (eq-eqb _ _ h)

  pub tried_above : (built.contact.count ≡ 0 → ⊥) → Ieee.lt (float built.cache.separation ⊕ slop unit) e.separation ≡ tries_edge unit built e
  unfolding tries_edge
  tried_above h = rw (ne_eqb _ _ h)

module _ (s : HullSize) (n : List Float) (l : List ℕ) (t : HullSize) (m : List Float) (k : List ℕ) (x : Transform) where
  module _ (a b : Axis) where
    pub a_wins : Ieee.lt b.separation a.separation ≡ true → contact_a s n l t m k x a ≡ winner_contact s n l t m k x a b
    unfolding winner_contact
    a_wins h = rw h

    pub b_wins : Ieee.lt b.separation a.separation ≡ false → contact_b s n l t m k x b ≡ winner_contact s n l t m k x a b
    unfolding winner_contact
    b_wins h = rw h

    module _ (edge : Option Axis) (built : Built) (q : built ≡ winner_contact s n l t m k x a b) where
      -- what comes of a face contact
      abbrev goes_on : Built → Built
      goes_on w = cond (eqb w.status 0) (with_edge s n l t m k x w edge) w

      same : goes_on built ≡ found_contact s n l t m k x a b edge
      unfolding found_contact
      same = ap goes_on q

      pub face_refused : (built.status ≡ 0 → ⊥) → built ≡ found_contact s n l t m k x a b edge
      face_refused h = at_refused ∙ same
        where
          at_refused : built ≡ goes_on built
          at_refused = rw (ne_eqb _ _ h)

      pub face_built : built.status ≡ 0 → with_edge s n l t m k x built edge ≡ found_contact s n l t m k x a b edge
      face_built h = at_built ∙ same
        where
          at_built : with_edge s n l t m k x built edge ≡ goes_on built
          at_built = rw (eq-eqb _ _ h)

  module _ (built : Built) (e : Axis) where
    pub not_tried : tries_edge s.unit built e ≡ false → built ≡ instead_of s n l t m k x built e
    unfolding instead_of
    not_tried h = rw h

    module _ (pair : Built) (q : pair ≡ pair_contact s n l t m k x e) (h : tries_edge s.unit built e ≡ true) where
      abbrev replaced : Built → Built
      replaced w = cond (tries_edge s.unit built e) (cond w.touching w built) built

      pair_same : replaced pair ≡ instead_of s n l t m k x built e
      unfolding instead_of
      pair_same = ap replaced q

      pub pair_instead : pair.touching ≡ true → pair ≡ instead_of s n l t m k x built e
      pair_instead p = at_touching ∙ pair_same
        where
          at_touching : pair ≡ replaced pair
          at_touching = rw (h, p)

      pub pair_missed : pair.touching ≡ false → built ≡ instead_of s n l t m k x built e
      pair_missed p = at_missed ∙ pair_same
        where
          at_missed : built ≡ replaced pair
          at_missed = rw (h, p)

-- ---- the numbers of what was found are in range
module _ {s t : HullSize} {n m : List Float} {l k : List ℕ} (x : Transform) (a : Accepted s n l) (b : Accepted t m k) where
  pub found_in : (f : Found) → Search.Found f ≡ search_of s n l t m k x
      → (f.face_a.index_a < s.faces) × (f.face_b.index_b < t.faces) × EdgeInRange s t f.edge
  unfolding InRange
  found_in f q = subst (InRange s t) (sym q) (in_range x a b)

pub pair_in : (s t : HullSize) (e : Axis) (edge : Option Axis) → edge ≡ Some e → EdgeInRange s t edge → (e.index_a < s.half_edges)
    × (e.index_b < t.half_edges)
unfolding EdgeInRange
pair_in s t e edge q r = subst (EdgeInRange s t) q r
