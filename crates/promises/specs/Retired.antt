-- Document 02, request j: "Types 6, 7 and 8 served a viewer that we withdrew .. such a cache now acts as type 0, and the answer carries a mark that a
-- retired type was read". Definitions only.
use Rattle.std.specs.Prelude.{ℕ, ◌≤◌, ◌≡◌}
use Rattle.manifold.specs.declared.SatCache.{SatCache}
use Rattle.manifold.specs.declared.Outcome.{Outcome}

-- the types that are retired
abbrev pub Retired : ℕ → Type 0
Retired kind = (6 ≤ kind) × (kind ≤ 8)

-- the types that name no axis: 0, 1 and 5 to 255
pub record NoAxis (kind : ℕ) : Type 0 where
  pub not_2 : kind ≡ 2 → ⊥
  pub not_3 : kind ≡ 3 → ⊥
  pub not_4 : kind ≡ 4 → ⊥

-- a cache of type 0 with the same other bits
abbrev pub of_type0 : SatCache → SatCache
of_type0 c = record { separation = c.separation; kind = 0; index_a = c.index_a; index_b = c.index_b; hit = c.hit }

-- an outcome, its mark aside
abbrev pub mark_aside : Outcome → Outcome
mark_aside r = record { status = r.status; contact = r.contact; retired = 0 }
