-- The definitions of the call at each of their cases, for the code that comes through it. Assumes nothing.
use Prim.Native.Nat.{ℕ, ◌<◌}
use mathlib.Core.Bool.{Bool, true, false, cond}
use mathlib.Core.List.{List}
use mathlib.Core.Path.{◌≡◌, refl, sym, ap, ◌∙◌}
use native.Mathlib.Omega.{arith}
use lib.ListN.{replicate, length-replicate}
use lib.IntN.{ℤ, pos}
use lib.Signed.{lt_z}
use lib.Dec.{eqb}
use lib.Ieee.{Float}
use borrow.Author.Tests.{eq-eqb, ne_eqb}
use Rattle.vector.specs.declared.Transform.{Transform}
use Rattle.vector.specs.Rounded.{float}
use Rattle.manifold.specs.declared.SatCache.{SatCache}
use Rattle.manifold.specs.Records.{empty_contact, hit_set}
use Rattle.hull_links.specs.declared.HullSize.{HullSize}
use Rattle.clip_corners.specs.Places.{Roomy}
use Rattle.collide_outcome.specs.Served.{Cached}
use Rattle.collide_cached.specs.Again.{cached_face_a_of, cached_face_b_of, cached_edge_of}
use Rattle.collide_full.specs.Full.{full_of}
use Rattle.hull_limits.specs.Transform.{Placed}
use Rattle.hull.specs.Rule8.{broken_rule}
use Rattle.hull.specs.Accepted.{Accepted}
use Rattle.collide_refusals.specs.Refusals.{cache_right, later_refusal_of, refusal_of}
use Rattle.collide_refusals.proofs.Cases.{refuses_1, refuses_2, refuses_later, unrefused}
use Rattle.collide_outcome.specs.Served.{no_hit}
use Rattle.collide_outcome.specs.Answers.{accepted, refused_of, answer_of}
use Rattle.collide.specs.Call.{after_cached, worked_of, collide_of}
use Rattle.collide.specs.inner.Retried.{retried_of}

-- a function of a choice is the choice of its values
under : {A B : Type 0} (f : A → B) (b : Bool) (x y : A) → f (cond b x y) ≡ cond b (f x) (f y)
under f true x y = refl
under f false x y = refl

-- ---- the work
module _ (s : HullSize) (n : List Float) (l : List ℕ) (t : HullSize) (m : List Float) (k : List ℕ) (x : Transform) (c : SatCache) where
  module _ (cached : Cached) where
    pub cached_refused : (cached.status ≡ 0 → ⊥) → refused_of cached.status c ≡ after_cached s n l t m k x c cached
    unfolding after_cached
    cached_refused h = rw (ne_eqb _ _ h)

    pub cached_hit : cached.status ≡ 0 → cached.hit ≡ true → accepted 0 cached.contact (hit_set 1 c) ≡ after_cached s n l t m k x c cached
    unfolding after_cached
    cached_hit h p = rw (eq-eqb _ _ h, p)

    pub cached_missed : cached.status ≡ 0 → cached.hit ≡ false → answer_of c (full_of s n l t m k x) ≡ after_cached s n l t m k x c cached
    unfolding after_cached
    cached_missed h p = rw (eq-eqb _ _ h, p)

  pub at_2 : c.kind ≡ 2 → after_cached s n l t m k x c (cached_face_a_of s n l t m k x c) ≡ worked_of s n l t m k x c
  unfolding worked_of
  at_2 q = rw q

  pub at_3 : c.kind ≡ 3 → after_cached s n l t m k x c (cached_face_b_of s n l t m k x c) ≡ worked_of s n l t m k x c
  unfolding worked_of
  at_3 q = rw q

  pub at_4 : c.kind ≡ 4 → after_cached s n l t m k x c (cached_edge_of s n l t m k x c) ≡ worked_of s n l t m k x c
  unfolding worked_of
  at_4 q = rw q

  pub at_rest : (c.kind ≡ 2 → ⊥) → (c.kind ≡ 3 → ⊥) → (c.kind ≡ 4 → ⊥) → answer_of c (full_of s n l t m k x) ≡ worked_of s n l t m k x c
  unfolding worked_of
  at_rest p2 p3 p4 = rw (ne_eqb _ _ p2, ne_eqb _ _ p3, ne_eqb _ _ p4)

  pub retried_2 : c.kind ≡ 2 → cached_face_a_of s n l t m k x c ≡ retried_of s n l t m k x c
  unfolding retried_of
  retried_2 q = rw q

  pub retried_3 : c.kind ≡ 3 → cached_face_b_of s n l t m k x c ≡ retried_of s n l t m k x c
  unfolding retried_of
  retried_3 q = rw q

  pub retried_4 : c.kind ≡ 4 → cached_edge_of s n l t m k x c ≡ retried_of s n l t m k x c
  unfolding retried_of
  retried_4 q = rw q

  pub retried_none : (c.kind ≡ 2 → ⊥) → (c.kind ≡ 3 → ⊥) → (c.kind ≡ 4 → ⊥) → no_hit 0 ≡ retried_of s n l t m k x c
  unfolding retried_of
  retried_none p2 p3 p4 = rw (ne_eqb _ _ p2, ne_eqb _ _ p3, ne_eqb _ _ p4)

  -- what comes after the axis was tried is the work
  pub after_retried : after_cached s n l t m k x c (retried_of s n l t m k x c) ≡ worked_of s n l t m k x c
  unfolding retried_of worked_of
  after_retried =
      let after = after_cached s n l t m k x c in
      under after (eqb c.kind 2) _ _ ∙ ap (cond (eqb c.kind 2) _)
      (under after (eqb c.kind 3) _ _ ∙ ap (cond (eqb c.kind 3) _)
      (under after (eqb c.kind 4) _ _ ∙ ap (cond (eqb c.kind 4) _) (sym (cached_missed (no_hit 0) refl refl))))

  -- ---- the call
  module _ (capacity : ℤ) where
    pub too_small : lt_z capacity (pos 4) ≡ true → accepted 0 empty_contact c ≡ collide_of s n l t m k x capacity c
    unfolding collide_of
    too_small h = rw h

    pub call_refused : lt_z capacity (pos 4) ≡ false → (refusal_of s n l t m k x c ≡ 0 → ⊥) → refused_of (refusal_of s n l t m k x c) c ≡ collide_of
        s n l t m k x capacity c
    unfolding collide_of
    call_refused h q = rw (h, ne_eqb _ _ q)

    pub call_worked : lt_z capacity (pos 4) ≡ false → refusal_of s n l t m k x c ≡ 0 → worked_of s n l t m k x c ≡ collide_of s n l t m k x capacity c
    unfolding collide_of
    call_worked h q = rw (h, eq-eqb _ _ q)

  -- of two hulls that break no rule, and with room for four points: what is left to be refused, or the work
  module _ (a : broken_rule s n l ≡ 0) (b : broken_rule t m k ≡ 0) {later : ℕ} (e : later ≡ later_refusal_of s t x c) where
    refusal_is : later ≡ refusal_of s n l t m k x c
    refusal_is = e ∙ refuses_later s n l t m k x c a b

    pub judged_refused : (later ≡ 0 → ⊥) → refused_of later c ≡ collide_of s n l t m k x (pos 4) c
    judged_refused h = ap (λ (number : ℕ). refused_of number c) refusal_is ∙ call_refused (pos 4) refl (λ q. h (refusal_is ∙ q))

    pub judged_may : later ≡ 0 → Accepted s n l × Accepted t m k × Placed x × (cache_right s t c ≡ true)
    judged_may z = unrefused s n l t m k x c (sym refusal_is ∙ z)

    pub judged_worked : later ≡ 0 → worked_of s n l t m k x c ≡ collide_of s n l t m k x (pos 4) c
    judged_worked z = call_worked (pos 4) refl (sym refusal_is ∙ z)

  -- a capacity of 4 or more is no other than 4
  pub wide_same : (capacity : ℤ) → lt_z capacity (pos 4) ≡ false → collide_of s n l t m k x (pos 4) c ≡ collide_of s n l t m k x capacity c
  unfolding collide_of
  wide_same capacity h = rw h

  -- "1, 2: hull A, hull B breaks a rule"
  module _ (capacity : ℤ) (wide : lt_z capacity (pos 4) ≡ false) where
    refused_by : (number : ℕ) → number ≡ refusal_of s n l t m k x c → 0 < number → refused_of number c ≡ collide_of s n l t m k x capacity c
    refused_by number e some =
        ap (λ (given : ℕ). refused_of given c) e ∙ call_refused capacity wide (λ q. let z : number ≡ 0 = e ∙ q in omega (arith, z, some))

    pub broken_a : (broken_rule s n l ≡ 0 → ⊥) → refused_of 1 c ≡ collide_of s n l t m k x capacity c
    broken_a h = refused_by 1 (refuses_1 s n l t m k x c h) (omega arith)

    pub broken_b : broken_rule s n l ≡ 0 → (broken_rule t m k ≡ 0 → ⊥) → refused_of 2 c ≡ collide_of s n l t m k x capacity c
    broken_b a h = refused_by 2 (refuses_2 s n l t m k x c a h) (omega arith)

-- lists of zeros have the room
pub cleared : Roomy (replicate 512 (float 0)) (replicate 512 0)
cleared = record { numbers_room = length-replicate 512 (float 0); tags_room = length-replicate {A = ℕ} 512 0 }
