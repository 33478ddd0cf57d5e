-- The answer of a call: accepted, or refused; and what becomes of what was built. Definitions only.
use Rattle.std.specs.Prelude.{ℕ, cond, eqb, leb}
use Rattle.manifold.specs.declared.SatCache.{SatCache}
use Rattle.manifold.specs.declared.Contact.{Contact}
use Rattle.manifold.specs.declared.Answer.{Answer}
use Rattle.manifold.specs.Records.{empty_contact}
use Rattle.collide_outcome.specs.Builds.{Built}

-- document 02, j: the mark of a type that was read, 1 for the retired types 6, 7 and 8
unfoldable pub retired_of : ℕ → ℕ
retired_of kind = cond (leb 6 kind) (cond (leb kind 8) 1 0) 0

-- accepted, with this mark, this contact and this next cache
abbrev pub accepted : ℕ → Contact → SatCache → Answer
accepted retired contact cache = record { outcome = record { status = 0; contact = contact; retired = retired }; cache = cache }

-- "Refusals .. return an empty contact and leave the cache's bits, hit included."; the mark "is set only on accepted calls"
abbrev pub refused_of : ℕ → SatCache → Answer
refused_of number cache = record { outcome = record { status = number; contact = empty_contact; retired = 0 }; cache = cache }

-- what was built, with the mark of the type that was read; or the refusal that the work met, with the cache as it was lent
unfoldable pub answer_of : SatCache → Built → Answer
answer_of cache built = cond (eqb built.status 0) (accepted (retired_of cache.kind) built.contact built.cache) (refused_of built.status cache)
