-- "Refusals .. leave the cache's bits, hit included", and give an empty contact. Assumes nothing.
use Prim.Native.Nat.{ℕ}
use mathlib.Core.List.{List}
use mathlib.Core.Path.{◌≡◌, refl, ap, ◌∙◌}
use lib.Dec.{eqb}
use lib.IntN.{ℤ, pos}
use lib.Signed.{lt_z}
use lib.Ieee.{Float}
use Rattle.bounds.proofs.Laws.{picked}
use Rattle.vector.specs.declared.Transform.{Transform}
use Rattle.manifold.specs.declared.SatCache.{SatCache}
use Rattle.manifold.specs.declared.Contact.{Contact}
use Rattle.manifold.specs.declared.Answer.{Answer}
use Rattle.manifold.specs.Records.{empty_contact, hit_set}
use Rattle.hull_links.specs.declared.HullSize.{HullSize}
use Rattle.collide_outcome.specs.Builds.{Built}
use Rattle.collide_outcome.specs.Served.{Cached}
use Rattle.collide_refusals.specs.Refusals.{refusal_of}
use Rattle.collide_outcome.specs.Answers.{retired_of, accepted, refused_of, answer_of}
use Rattle.collide.specs.Call.{after_cached, worked_of, collide_of}
use Rattle.contactlib.specs.Lent.{Called}

-- an answer that refuses has an empty contact and this cache
pub record Keeps (c : SatCache) (a : Answer) : Type 0 where
  pub empty : (a.outcome.status ≡ 0 → ⊥) → a.outcome.contact ≡ empty_contact
  pub same : (a.outcome.status ≡ 0 → ⊥) → a.cache ≡ c

module _ (c : SatCache) where
  keeps_accepted : (mark : ℕ) (contact : Contact) (next : SatCache) → Keeps c (accepted mark contact next)
  keeps_accepted mark contact next = record { empty = λ h. absurd (h refl); same = λ h. absurd (h refl) }

  keeps_refused : (number : ℕ) → Keeps c (refused_of number c)
  keeps_refused number = record { empty = λ h. refl; same = λ h. refl }

  keeps_answer : (built : Built) → Keeps c (answer_of c built)
  unfolding answer_of
  keeps_answer built =
      picked (Keeps c) (eqb built.status 0) (keeps_accepted (retired_of c.kind) built.contact built.cache) (keeps_refused built.status)

  module _ (s : HullSize) (n : List Float) (l : List ℕ) (t : HullSize) (m : List Float) (k : List ℕ) (x : Transform) where
    keeps_cached : (cached : Cached) → Keeps c (after_cached s n l t m k x c cached)
    unfolding after_cached
    keeps_cached cached =
        picked (Keeps c) (eqb cached.status 0)
        (picked (Keeps c) cached.hit (keeps_accepted 0 cached.contact (hit_set 1 c)) (keeps_answer _)) (keeps_refused cached.status)

    keeps_worked : Keeps c (worked_of s n l t m k x c)
    unfolding worked_of
    keeps_worked =
        picked (Keeps c) (eqb c.kind 2) (keeps_cached _)
        (picked (Keeps c) (eqb c.kind 3) (keeps_cached _)
        (picked (Keeps c) (eqb c.kind 4) (keeps_cached _) (keeps_answer _)))

    pub keeps_call : (capacity : ℤ) → Keeps c (collide_of s n l t m k x capacity c)
    unfolding collide_of
    keeps_call capacity =
        picked (Keeps c) (lt_z capacity (pos 4)) (keeps_accepted 0 empty_contact c)
        (picked (Keeps c) (eqb (refusal_of s n l t m k x c) 0) keeps_worked (keeps_refused (refusal_of s n l t m k x c)))

-- the outcome and the cache of the core's answer are what the lent call says
pub called : (s : HullSize) (n : List Float) (l : List ℕ) (t : HullSize) (m : List Float) (k : List ℕ) (x : Transform) {capacity read : ℤ} {c : SatCache}
    {r : Answer} → read ≡ capacity → r ≡ collide_of s n l t m k x read c → Called (collide_of s n l t m k x capacity c) c r.outcome r.cache
called s n l t m k x {capacity} {read} {c} {r} same e = let a = e ∙ ap (λ (i : ℤ). collide_of s n l t m k x i c) same in record {
  answers = ap (λ (b : Answer). b.outcome) a;
  updates = ap (λ (b : Answer). b.cache) a;
  keeps = λ h. ap (λ (b : Answer). b.cache) a ∙ (keeps_call c s n l t m k x capacity).same (λ z. h (ap (λ (b : Answer). b.outcome.status) a ∙ z));
}
