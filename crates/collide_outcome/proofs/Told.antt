-- What the code hands on, at each case of the definitions that tell it by a status. Assumes nothing.
use Prim.Native.Nat.{ℕ}
use mathlib.Core.Path.{◌≡◌, refl, ap, ◌∙◌}
use mathlib.Core.Bool.{Bool, true, false}
use lib.Dec.{eqb}
use borrow.Author.Tests.{eqb-true, eqb-false}
use Rattle.std.specs.Option.{is_some}
use Rattle.std.specs.Prelude.{Option, Some, None, Result, Ok, Err, MatchOption, MatchResult}
use Rattle.manifold.specs.declared.SatCache.{SatCache}
use Rattle.manifold.specs.declared.Contact.{Contact}
use Rattle.manifold.specs.Records.{empty_contact}
use Rattle.collide_outcome.specs.declared.Refusal.{Refusal}
use Rattle.collide_outcome.specs.declared.Build.{Build}
use Rattle.collide_outcome.specs.Builds.{refused_at}
use Rattle.collide_outcome.specs.Answers.{retired_of, accepted, refused_of, answer_of}
use Rattle.collide_outcome.specs.Told.{number_of, contact_or_empty, touches, built_by, built_of, cached_by, cached_of, answer_to}
use Rattle.collide_outcome.specs.Served.{hit_with, no_hit, near_of, served_of}
use Rattle.collide_outcome.proofs.Cases.{built_accepted, stays_refused, not_touching, still_near, moved_off}

-- no refusal has the number 0
pub is_refusal : (r : Refusal) → eqb (number_of r) 0 ≡ false
is_refusal Refusal.HullA = refl
is_refusal Refusal.HullB = refl
is_refusal Refusal.Transform = refl
is_refusal Refusal.Cache = refl
is_refusal Refusal.Vertex = refl
is_refusal Refusal.Corners = refl
is_refusal Refusal.Units = refl

-- what an answer in two layers is told as
pub hit_is : (cached : Result (Option Contact) Refusal) (k : Option Contact) (contact : Contact) → cached ≡ Ok k → k ≡ Some contact
    → cached_of cached ≡ hit_with contact
hit_is cached k contact e f = rw (e, f)

pub none_is : (cached : Result (Option Contact) Refusal) (k : Option Contact) → cached ≡ Ok k → k ≡ None → cached_of cached ≡ no_hit 0
none_is cached k e f = rw (e, f)

pub contact_is : (k : Option Contact) (contact : Contact) → MatchOption k (contact ≡ empty_contact) (λ held. contact ≡ held)
    → contact ≡ contact_or_empty k
contact_is (Some held) contact e = e
contact_is None contact e = e

pub accepted_built : (cache : SatCache) (b : Build) → accepted (retired_of cache.kind) (contact_or_empty b.contact) b.cache ≡ answer_of cache (built_of (Ok b))
accepted_built cache b = built_accepted cache (built_of (Ok b)) refl

pub refused_built : (cache : SatCache) (r : Refusal) → refused_of (number_of r) cache ≡ answer_of cache (built_of (Err r))
unfolding answer_of
refused_built cache r = rw (is_refusal r)

pub refusal_is_told : (r : Refusal) → (built_of (Err r)).status ≡ 0 → ⊥
refusal_is_told r e = eqb-false (number_of r) 0 (is_refusal r) e

pub touches_some : (k : Option Contact) → touches k ≡ is_some k
touches_some (Some contact) = refl
touches_some None = refl

-- what was built, its refusal by its number, has the answer that what it is told as has
pub answer_is : (cache : SatCache) (built : Result Build Refusal) (numbered : Result Build ℕ)
    → MatchResult built (λ build. numbered ≡ Ok build) (λ refusal. numbered ≡ Err (number_of refusal))
    → answer_to cache numbered ≡ answer_of cache (built_of built)
answer_is cache (Ok build) numbered e = rw e
answer_is cache (Err refusal) numbered e = rw e (refused_built cache refusal)

module _ {R : Type 0} (number : R → ℕ) (unit : ℕ) (cache : SatCache) where
  pub served_refused : (r : R) → cached_by number (Err r) ≡ served_of unit cache (built_by number (Err r))
  served_refused r = go (number r) (eqb (number r) 0) refl where
    go : (n : ℕ) (b : Bool) → eqb n 0 ≡ b → no_hit n ≡ served_of unit cache (refused_at n)
    go n false e = stays_refused unit cache (refused_at n) e
    go n true e = ap no_hit (eqb-true n 0 e) ∙ not_touching unit cache (refused_at n) e refl

  pub served_near : (b : Build) → near_of unit cache b.cache ≡ true → cached_by number (Ok b.contact) ≡ served_of unit cache (built_by number (Ok b))
  served_near b near = go b.contact b.cache near where
    go : (k : Option Contact) (fresh : SatCache) → near_of unit cache fresh ≡ true
        → cached_by number (Ok k) ≡ served_of unit cache (built_by number (Ok (record { contact = k; cache = fresh })))
    go (Some k) fresh h = still_near unit cache (built_by number (Ok (record { contact = Some k; cache = fresh }))) refl refl h
    go None fresh h = not_touching unit cache (built_by number (Ok (record { contact = None; cache = fresh }))) refl refl

  pub served_off : (b : Build) → near_of unit cache b.cache ≡ false → no_hit 0 ≡ served_of unit cache (built_by number (Ok b))
  served_off b off = go b.contact b.cache off where
    go : (k : Option Contact) (fresh : SatCache) → near_of unit cache fresh ≡ false
        → no_hit 0 ≡ served_of unit cache (built_by number (Ok (record { contact = k; cache = fresh })))
    go (Some k) fresh h = moved_off unit cache (built_by number (Ok (record { contact = Some k; cache = fresh }))) refl refl h
    go None fresh h = not_touching unit cache (built_by number (Ok (record { contact = None; cache = fresh }))) refl refl
