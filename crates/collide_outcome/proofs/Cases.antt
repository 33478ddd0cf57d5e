-- The definitions of this crate at each of their cases, for the code that comes through it. Assumes nothing.
use Prim.Native.Nat.{ℕ, ◌<◌, ◌≤◌}
use mathlib.Core.Path.{◌≡◌}
use mathlib.Core.Bool.{true, false}
use lib.Dec.{eqb}
use native.Mathlib.Omega.{arith}
use borrow.Author.Tests.{eq-eqb, ne_eqb, le-leb, lt-leb}
use Rattle.manifold.specs.declared.SatCache.{SatCache}
use Rattle.collide_outcome.specs.Builds.{Built}
use Rattle.collide_outcome.specs.Answers.{retired_of, accepted, refused_of, answer_of}
use Rattle.collide_outcome.specs.Served.{hit_with, no_hit, near_of, served_of}

-- ---- the mark of a type
pub marked : (kind : ℕ) → 6 ≤ kind → kind ≤ 8 → 1 ≡ retired_of kind
unfolding retired_of
marked kind low high = rw (le-leb 6 kind low, le-leb kind 8 high)

pub unmarked_below : (kind : ℕ) → kind < 6 → 0 ≡ retired_of kind
unfolding retired_of
unmarked_below kind h = rw (lt-leb 6 kind h)

pub unmarked_above : (kind : ℕ) → 8 < kind → 0 ≡ retired_of kind
unfolding retired_of
unmarked_above kind h = rw (le-leb 6 kind (omega arith), lt-leb kind 8 h)

-- ---- what was built, or the refusal that the work met
module _ (c : SatCache) (built : Built) where
  pub built_refused : (built.status ≡ 0 → ⊥) → refused_of built.status c ≡ answer_of c built
  unfolding answer_of
  built_refused h = rw (ne_eqb _ _ h)

  pub built_accepted : built.status ≡ 0 → accepted (retired_of c.kind) built.contact built.cache ≡ answer_of c built
  unfolding answer_of
  built_accepted h = rw (eq-eqb _ _ h)

-- ---- the four cases of `served_of`
module _ (unit : ℕ) (cache : SatCache) (b : Built) where
  pub stays_refused : eqb b.status 0 ≡ false → no_hit b.status ≡ served_of unit cache b
  unfolding served_of
  stays_refused h = rw h

  module _ (ok : eqb b.status 0 ≡ true) where
    pub not_touching : b.touching ≡ false → no_hit 0 ≡ served_of unit cache b
    unfolding served_of
    not_touching h = rw (ok, h)

    module _ (yes : b.touching ≡ true) where
      pub still_near : near_of unit cache b.cache ≡ true → hit_with b.contact ≡ served_of unit cache b
      unfolding served_of
      still_near h = rw (ok, yes, h)

      pub moved_off : near_of unit cache b.cache ≡ false → no_hit 0 ≡ served_of unit cache b
      unfolding served_of
      moved_off h = rw (ok, yes, h)
