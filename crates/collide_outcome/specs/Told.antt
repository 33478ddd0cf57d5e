-- The refusals of a call by their numbers, and what the code hands on as document 01 tells it: a status of 0, or the number of a refusal. Definitions
-- only.
use Rattle.std.specs.Prelude.{ℕ, Bool, true, false, Option, Some, None, Result, Ok, Err}
use Rattle.manifold.specs.declared.Contact.{Contact}
use Rattle.manifold.specs.declared.SatCache.{SatCache}
use Rattle.manifold.specs.declared.Answer.{Answer}
use Rattle.manifold.specs.Records.{empty_contact}
use Rattle.collide_outcome.specs.declared.Refusal.{Refusal}
use Rattle.collide_outcome.specs.declared.Build.{Build}
use Rattle.collide_outcome.specs.Builds.{Built, refused_at}
use Rattle.collide_outcome.specs.Answers.{refused_of, answer_of}
use Rattle.collide_outcome.specs.Served.{Cached, hit_with, no_hit}

abbrev pub number_of : Refusal → ℕ
number_of Refusal.HullA = 1
number_of Refusal.HullB = 2
number_of Refusal.Transform = 3
number_of Refusal.Cache = 4
number_of Refusal.Vertex = 5
number_of Refusal.Corners = 6
number_of Refusal.Units = 17

-- 0 where nothing is refused
abbrev pub refusal_number : Result Unit Refusal → ℕ
refusal_number (Ok done) = 0
refusal_number (Err refusal) = number_of refusal

-- the contact, if there is one
abbrev pub contact_or_empty : Option Contact → Contact
contact_or_empty (Some contact) = contact
contact_or_empty None = empty_contact

abbrev pub touches : Option Contact → Bool
touches (Some contact) = true
touches None = false

-- whatever a refusal is, with the number that it is told by
abbrev pub built_by : {R : Type 0} → (R → ℕ) → Result Build R → Built
built_by number (Ok build) = record { contact = contact_or_empty build.contact; cache = build.cache; status = 0; touching = touches build.contact }
built_by number (Err refusal) = refused_at (number refusal)

abbrev pub cached_by : {R : Type 0} → (R → ℕ) → Result (Option Contact) R → Cached
cached_by number (Ok (Some contact)) = hit_with contact
cached_by number (Ok None) = no_hit 0
cached_by number (Err refusal) = no_hit (number refusal)

abbrev pub built_of : Result Build Refusal → Built
built_of = built_by number_of

abbrev pub cached_of : Result (Option Contact) Refusal → Cached
cached_of = cached_by number_of

-- the answer to what was built, or to the number of a refusal
abbrev pub answer_to : SatCache → Result Build ℕ → Answer
answer_to cache (Ok build) = answer_of cache (built_of (Ok build))
answer_to cache (Err status) = refused_of status cache
