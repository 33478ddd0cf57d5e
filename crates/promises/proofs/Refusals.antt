-- Demand 1, the refusals. "Input is refused exactly when it breaks a rule of document 01, never on the caller's word; a refusal gives its number and
-- an empty contact, and the lent cache keeps every bit." Of every call, whatever is lent. Assumes nothing.
use Prim.Native.Nat.{ℕ, ◌≤◌, ◌<◌}
use mathlib.Core.Bool.{Bool, true, false, cond}
use mathlib.Core.List.{List}
use mathlib.Core.Logic.{◌⊎◌, inl, inr, ⊎_elim}
use mathlib.Core.Path.{◌≡◌, sym, ap, subst, ◌∙◌}
use native.Mathlib.Omega.{arith}
use lib.Dec.{eqb}
use lib.IntN.{ℤ, pos}
use lib.Signed.{lt_z}
use lib.Ieee.{Float}
use borrow.Author.Tests.{eqb-true, eqb-false, eq-eqb, ne_eqb}
use Rattle.bounds.proofs.Laws.{picked}
use Rattle.vector.specs.declared.Transform.{Transform}
use Rattle.manifold.specs.declared.SatCache.{SatCache}
use Rattle.manifold.specs.declared.Outcome.{Outcome}
use Rattle.manifold.specs.declared.Answer.{Answer}
use Rattle.manifold.specs.Records.{empty_contact}
use Rattle.hull_links.specs.declared.HullSize.{HullSize}
use Rattle.hull_links.proofs.Tests.{cases}
use Rattle.hull_limits.specs.Transform.{transform_right}
use Rattle.hull.specs.Rule8.{broken_rule}
use Rattle.axis.specs.Search.{search_of}
use Rattle.collide_refusals.specs.Refusals.{cache_right, refusal_of}
use Rattle.collide_outcome.specs.Answers.{accepted}
use Rattle.collide.specs.Call.{collide_of}
use Rattle.contactlib.specs.Lent.{Called}
use Rattle.contactlib.proofs.Keeps.{keeps_call}
use Rattle.collide_refusals.proofs.Cases.{refuses_1, refuses_2, refuses_17, refuses_3, refuses_4, means_1, means_2, means_17, means_3, means_4, refusal_early}
use Rattle.promises.specs.Numbers.{Exactly, first_given, full_meets, padding_won, cached_meets, hits, work_meets, number_of}
use Rattle.promises.proofs.Statuses.{call_status}
use Rattle.promises.proofs.Later.{work_late, work_up_to_6, cached_never_5, full_5}

-- hull A is (s, n, l), hull B is (t, m, k), and x places B in A's frame
module _ (s : HullSize) (n : List Float) (l : List ℕ) (t : HullSize) (m : List Float) (k : List ℕ) (x : Transform) (capacity : ℤ) (was : SatCache) where
  -- ---- what the client would say
  -- the capacity is 4 or more, so that the call looks at anything else
  abbrev Wide : Type 0
  Wide = lt_z capacity (pos 4) ≡ false

  abbrev BrokenA : Type 0
  BrokenA = broken_rule s n l ≡ 0 → ⊥

  abbrev RightA : Type 0
  RightA = broken_rule s n l ≡ 0

  abbrev BrokenB : Type 0
  BrokenB = broken_rule t m k ≡ 0 → ⊥

  abbrev RightB : Type 0
  RightB = broken_rule t m k ≡ 0

  abbrev OneUnit : Type 0
  OneUnit = s.unit ≡ t.unit

  abbrev TransformRight : Bool
  TransformRight = transform_right s.unit x

  -- ---- a number that the work does not meet, which are 5 and 6, is one that is given before any work
  abbrev early : ℕ
  early = refusal_of s n l t m k x was

  given_early : (i : ℕ) → 0 < i → ((w : ℕ) → 4 < w → w ≤ 6 → w ≡ i → ⊥) → number_of s n l t m k x capacity was ≡ i → Wide × (early ≡ i)
  unfolding number_of first_given
  given_early i low other q =
      cases (lt_z capacity (pos 4))
      (λ small. absurd (omega (arith, low, sym (ap (λ (z : Bool). cond z 0 later) small) ∙ q)))
      (λ wide. (
        wide,
        cases (eqb early 0) (λ none. absurd (too_late none (at_wide wide ∙ q))) (λ some. sym (ap (λ (z : Bool). cond z work early) some)
            ∙ (at_wide wide ∙ q)),
      ))
    where
      work : ℕ
      work = work_meets s n l t m k x was

      later : ℕ
      later = cond (eqb early 0) work early

      at_wide : lt_z capacity (pos 4) ≡ false → later ≡ cond (lt_z capacity (pos 4)) 0 later
      at_wide wide = sym (ap (λ (z : Bool). cond z 0 later) wide)

      too_late : eqb early 0 ≡ true → later ≡ i → ⊥
      too_late none e =
          let work_is : work ≡ i = sym (ap (λ (z : Bool). cond z work early) none) ∙ e in
          let some : work ≡ 0 → ⊥ = λ z. absurd (omega (arith, low, work_is, z)) in
          other work (work_late s n l t m k x was some) (work_up_to_6 s n l t m k x was) work_is

  -- and one that is given before any work is the number
  early_given : (i : ℕ) → 0 < i → Wide → early ≡ i → number_of s n l t m k x capacity was ≡ i
  unfolding number_of first_given
  early_given i low wide q = let some : early ≡ 0 → ⊥ = λ z. absurd (omega (arith, low, q, z)) in
      rw (wide, ne_eqb _ _ some) q

  -- ---- the demand, of what the lent call gives: was is the cache at entry, is at exit
  module _ (r : Outcome) (is : SatCache) (called : Called (collide_of s n l t m k x capacity was) was r is) where
    -- its number, by the table and in its order
    pub number : r.status ≡ number_of s n l t m k x capacity was
    number = ap (λ (o : Outcome). o.status) called.answers ∙ call_status s n l t m k x capacity was

    -- what is given before any work
    exactly : (this : Type 0) (i : ℕ) → 0 < i → ((w : ℕ) → 4 < w → w ≤ 6 → w ≡ i → ⊥) → (this → Wide × (early ≡ i)) → (Wide → early ≡ i → this)
        → Exactly this i r.status
    exactly this i low other to from =
        record {
          given = λ h. number ∙ early_given i low (to h).0 (to h).1;
          only = λ q. let e = given_early i low other (sym number ∙ q) in from e.0 e.1;
        }

    -- "1: hull A breaks a rule"
    pub hull_a : Exactly (Wide × BrokenA) 1 r.status
    hull_a =
        exactly (Wide × BrokenA) 1 (omega arith) (λ w low high e. absurd (omega (arith, low, e)))
        (λ h. (h.0, sym (refuses_1 s n l t m k x was h.1))) (λ wide q. (wide, means_1 s n l t m k x was q))

    -- "2: hull B breaks a rule"
    pub hull_b : Exactly (Wide × RightA × BrokenB) 2 r.status
    hull_b =
        exactly (Wide × RightA × BrokenB) 2 (omega arith) (λ w low high e. absurd (omega (arith, low, e)))
        (λ h. (h.0, sym (refuses_2 s n l t m k x was h.1 h.2))) (λ wide q. let w = means_2 s n l t m k x was q in (wide, w.0, w.1))

    -- document 02, i: "17, units differ, after 2 and before 3"
    pub units_differ : Exactly (Wide × RightA × RightB × (OneUnit → ⊥)) 17 r.status
    units_differ =
        exactly (Wide × RightA × RightB × (OneUnit → ⊥)) 17 (omega arith) (λ w low high e. absurd (omega (arith, high, e)))
        (λ h. (h.0, sym (refuses_17 s n l t m k x was h.1 h.2 h.3))) (λ wide q. let w = means_17 s n l t m k x was q in (wide, w.0, w.1, w.2))

    -- "3: the transform breaks a rule"
    pub transform : Exactly (Wide × RightA × RightB × OneUnit × (TransformRight ≡ false)) 3 r.status
    transform =
        exactly (Wide × RightA × RightB × OneUnit × (TransformRight ≡ false)) 3 (omega arith) (λ w low high e. absurd (omega (arith, low, e)))
        (λ h. (h.0, sym (refuses_3 s n l t m k x was h.1 h.2 h.3 h.4)))
        (λ wide q. let w = means_3 s n l t m k x was q in (wide, w.0, w.1, w.2, w.3))

    -- "4: the cache's type is 2 and index_a >= F of A; 3 and index_b >= F of B; 4 and either index is odd or not below its hull's H"
    pub cache : Exactly (Wide × RightA × RightB × OneUnit × (TransformRight ≡ true) × (cache_right s t was ≡ false)) 4 r.status
    cache =
        exactly (Wide × RightA × RightB × OneUnit × (TransformRight ≡ true) × (cache_right s t was ≡ false)) 4 (omega arith)
        (λ w low high e. absurd (omega (arith, low, e)))
        (λ h. (h.0, sym (refuses_4 s n l t m k x was h.1 h.2 h.3 h.4 h.5)))
        (λ wide q. let w = means_4 s n l t m k x was q in (wide, w.0, w.1, w.2, w.3, w.4))

    -- what passes 1, 2, 17, 3 and 4 is accepted, or the work met a number: 5 or 6, by `work_meets`
    pub passed : Wide → early ≡ 0 → r.status ≡ work_meets s n l t m k x was
    unfolding number_of first_given
    passed wide q = number ∙ rw (wide, eq-eqb _ _ q)

    -- a call that looks at its input and accepts it found no rule broken
    pub none_given : Wide → r.status ≡ 0 → refusal_of s n l t m k x was ≡ 0
    unfolding number_of first_given
    none_given wide q =
        cases (eqb early 0) (λ none. eqb-true _ _ none)
        (λ some. let is_early : r.status ≡ early = number ∙ rw (wide, some) in absurd (eqb-false _ _ some (sym is_early ∙ q)))

    -- 5 and 6 are not given before any work
    not_early : (i : ℕ) → 4 < i → i ≤ 6 → early ≡ i → ⊥
    not_early i low high q =
        ⊎_elim (λ few. absurd (omega (arith, few, low, q))) (λ far. absurd (omega (arith, far, high, q))) (refusal_early s n l t m k x was)

    -- ---- 5 and 6 are numbers that the work meets: round the cached face, or in the full search, which is made where the cached axis neither
    -- serves nor meets a number
    abbrev Searches : Type 0
    Searches = (cached_meets s n l t m k x was ≡ 0) × (hits s n l t m k x was ≡ false)

    abbrev Met : ℕ → Type 0
    Met i = (cached_meets s n l t m k x was ≡ i) ⊎ (Searches × (full_meets s n l t m k x ≡ i))

    met_given : (i : ℕ) → 0 < i → Wide → early ≡ 0 → Met i → r.status ≡ i
    unfolding number_of first_given work_meets
    met_given i low wide none (inl met) =
        let some : cached_meets s n l t m k x was ≡ 0 → ⊥ = λ z. absurd (omega (arith, low, met, z)) in
        number ∙ rw (wide, eq-eqb _ _ none, ne_eqb _ _ some) met
    met_given i low wide none (inr met) = number ∙ rw (wide, eq-eqb _ _ none, eq-eqb _ _ met.0.0, met.0.1) met.1

    given_met : (i : ℕ) → 4 < i → i ≤ 6 → r.status ≡ i → Wide × (early ≡ 0) × Met i
    unfolding number_of first_given work_meets
    given_met i high top z =
        let q = sym number ∙ z in
        cases (lt_z capacity (pos 4)) (λ small. absurd (omega (arith, high, rw small at q)))
        (λ wide. cases (eqb early 0)
        (λ none. (
          wide,
          eqb-true _ _ none,
          cases (eqb (cached_meets s n l t m k x was) 0)
              (λ quiet. cases (hits s n l t m k x was) (λ hit. absurd (omega (arith, high, rw (wide, none, quiet, hit) at q)))
              (λ miss. inr ((eqb-true _ _ quiet, miss), rw (wide, none, quiet, miss) at q)))
              (λ met. inl (rw (wide, none, met) at q)),
        ))
        (λ some. absurd (not_early i high top (rw (wide, some) at q))))

    -- "5: the face a full .. search picks for a contact has a support vertex not below V (a padding lane won)": no cached face is refused by 5
    pub padding : Exactly (Wide × (early ≡ 0) × Searches × (padding_won s n l t m k x (search_of s n l t m k x) ≡ true)) 5 r.status
    padding =
        record {
          given = λ h. met_given 5 (omega arith) h.0 h.1 (inr (h.2, (full_5 s n l t m k x).given h.3));
          only = λ q. let g = given_met 5 (omega arith) (omega arith) q in let w = won g.2 in (g.0, g.1, w.0, w.1);
        }
      where
        won : Met 5 → Searches × (padding_won s n l t m k x (search_of s n l t m k x) ≡ true)
        won (inl met) = absurd (cached_never_5 s n l t m k x was met)
        won (inr met) = (met.0, (full_5 s n l t m k x).only met.1)

    -- "6: a cut would put out a 65th vertex": round the cached face, or round the face that the full search picks
    pub overfull : Exactly (Wide × (early ≡ 0) × Met 6) 6 r.status
    overfull = record { given = λ h. met_given 6 (omega arith) h.0 h.1 h.2; only = given_met 6 (omega arith) (omega arith) }

    -- no number is given but 0 to 6 and 17
    pub no_other_number : (r.status ≤ 6) ⊎ (r.status ≡ 17)
    unfolding number_of first_given
    no_other_number =
        let Known : ℕ → Type 0 = λ z. (z ≤ 6) ⊎ (z ≡ 17) in
        let before : Known early = ⊎_elim (λ few. inl (omega (arith, few))) (λ far. inr far) (refusal_early s n l t m k x was) in
        subst Known (sym number)
        (picked Known (lt_z capacity (pos 4)) (inl (omega arith)) (picked Known (eqb early 0) (inl (work_up_to_6 s n l t m k x was)) before))

    -- a refusal gives an empty contact
    pub empty_contact_lem : (r.status ≡ 0 → ⊥) → r.contact ≡ empty_contact
    empty_contact_lem h =
        ap (λ (o : Outcome). o.contact) called.answers
        ∙ (keeps_call was s n l t m k x capacity).empty (λ z. h (ap (λ (o : Outcome). o.status) called.answers ∙ z))

    -- and the lent cache keeps every bit
    pub cache_kept : (r.status ≡ 0 → ⊥) → is ≡ was
    cache_kept = called.keeps

    -- "capacity below 4 comes first and is accepted, with no points, the cache untouched, nothing else looked at"
    pub small_capacity : lt_z capacity (pos 4) ≡ true → (r.status ≡ 0) × (r.contact ≡ empty_contact) × (is ≡ was)
    unfolding collide_of
    small_capacity small =
        let untouched : collide_of s n l t m k x capacity was ≡ accepted 0 empty_contact was = rw small in (
          ap (λ (o : Outcome). o.status) called.answers ∙ ap (λ (a : Answer). a.outcome.status) untouched,
          ap (λ (o : Outcome). o.contact) called.answers ∙ ap (λ (a : Answer). a.outcome.contact) untouched,
          called.updates ∙ ap (λ (a : Answer). a.cache) untouched,
        )
