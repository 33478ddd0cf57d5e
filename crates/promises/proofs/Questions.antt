-- Document 02, request b: "Its yes is the same as that of a search that goes through every axis and then looks at the largest separation .. Refusals: 1, 2,
-- 3 only, in their old order", with 17 in its place. Of every question, whatever is lent. Assumes nothing.
use Prim.Native.Nat.{ℕ, ◌≤◌}
use mathlib.Core.Bool.{Bool, true, false, cond, true≢false}
use mathlib.Core.List.{List}
use mathlib.Core.Logic.{◌⊎◌, inl, inr, ⊎_elim}
use mathlib.Core.Path.{◌≡◌, refl, sym, ap, ◌∙◌}
use native.Mathlib.Omega.{arith}
use lib.Dec.{eqb}
use lib.IntN.{ℤ, pos}
use lib.Signed.{lt_z}
use lib.Ieee as Ieee
use lib.Ieee.{Float}
use borrow.Author.Tests.{eqb-true, eqb-false, eq-eqb, ne_eqb}
use Rattle.bounds.proofs.Laws.{picked}
use Rattle.vector.specs.declared.Transform.{Transform}
use Rattle.manifold.specs.declared.SatCache.{SatCache}
use Rattle.manifold.specs.Records.{empty_contact, empty_cache}
use Rattle.hull_links.specs.declared.HullSize.{HullSize}
use Rattle.hull_links.proofs.Tests.{cases}
use Rattle.hull_limits.specs.Transform.{transform_right}
use Rattle.hull.specs.Rule8.{broken_rule}
use Rattle.axis.specs.declared.Axis.{Axis}
use Rattle.std.specs.Prelude.{Option, Some, None}
use Rattle.axis.specs.declared.Found.{Found}
use Rattle.axis.specs.declared.Search.{Search}
use Rattle.axis.specs.Search.{search_of}
use Rattle.axis.specs.Meaning.{cache_of}
use Rattle.collide_refusals.specs.Refusals.{refusal_of, question_refusal_of}
use Rattle.collide_refusals.proofs.Cases.{names_none, as_the_call, unrefused_question}
use Rattle.collide_refusals.proofs.Cases.{refuses_1, refuses_2, refuses_17, refuses_3, means_1, means_2, means_17, means_3, means_4, refusal_early}
use Rattle.collide_outcome.specs.Answers.{retired_of, accepted}
use Rattle.collide.specs.Call.{collide_of}
use Rattle.apart.specs.declared.Apart.{Apart}
use Rattle.apart.specs.Every.{is_far, largest_separation, apart_by_every}
use Rattle.apart.specs.Axes.{FarAxis}
use Rattle.apart.specs.Question.{refused_question, answered_question, question_of}
use Rattle.apart.specs.inner.Ends.{ends_apart}
use Rattle.apart.proofs.Axes.{far_is_yes, yes_is_far}
use Rattle.apart.proofs.Early.{same_yes, axis_is_far}
use Rattle.promises.specs.Numbers.{Exactly}
use Rattle.promises.specs.Retired.{NoAxis}
use Rattle.promises.specs.Sources.{Source, from_face_a, from_face_b, edges, none, small_capacity, refused, apart, not_touching, touches, if_touching}
use Rattle.promises.specs.OneCall.{winner_of, tried_over, or_pair, search_source, full_source}
use Rattle.promises.specs.Questions.{StopsApart, ComesToItsEnd}
use Rattle.promises.proofs.Steps.{full_search, apart_left}

-- ---- the reason that a call has no candidates
unfoldable says_apart : Source → Bool
says_apart (from_face_a f v) = false
says_apart (from_face_b f v) = false
says_apart (edges normal a b) = false
says_apart (none small_capacity) = false
says_apart (none refused) = false
says_apart (none apart) = true
says_apart (none not_touching) = false

of_a_face : (z : Bool) (f v g w : ℕ) → says_apart (cond z (from_face_a f v) (from_face_b g w)) ≡ false
unfolding says_apart
of_a_face true f v g w = refl
of_a_face false f v g w = refl

winner_not_apart : (a b : Axis) → says_apart (winner_of a b) ≡ false
unfolding winner_of
winner_not_apart a b = of_a_face (Ieee.lt b.separation a.separation) a.index_a a.index_b b.index_b b.index_a

-- what a search finds is never called apart
found_not_apart : (s : HullSize) (n : List Float) (l : List ℕ) (t : HullSize) (m : List Float) (k : List ℕ) (x : Transform) (f : Found)
    → says_apart (search_source s n l t m k x (Search.Found f)) ≡ false
unfolding search_source if_touching or_pair says_apart
found_not_apart s n l t m k x f =
    let winner = winner_of f.face_a f.face_b in
    with_pair (if_touching s n l t m k x winner) f.edge
    (if_touching_lem (touches s n l t m k x winner) winner (winner_not_apart f.face_a f.face_b))
  where
    Not : Source → Type 0
    Not source = says_apart source ≡ false

    if_touching_lem : (z : Bool) (source : Source) → Not source → Not (cond z source (none not_touching))
    if_touching_lem true source h = h
    if_touching_lem false source h = refl

    with_pair : (face : Source) (e : Option Axis) → Not face → Not (or_pair s n l t m k x face e)
    with_pair face (Some e) h =
        picked Not (tried_over s n l t m k x face e)
        (picked Not (touches s n l t m k x (edges e.normal e.index_a e.index_b)) refl h) h
    with_pair face None h = h

-- hull A is (s, n, l), hull B is (t, m, k), x places B in A's frame, and r is what `contact_apart` gives
module _ (s : HullSize) (n : List Float) (l : List ℕ) (t : HullSize) (m : List Float) (k : List ℕ) (x : Transform) (r : Apart)
    (asked : r ≡ question_of s n l t m k x) where
  -- ---- the refusals
  abbrev refusal : ℕ
  refusal = question_refusal_of s n l t m k x

  status_is : r.status ≡ refusal
  unfolding question_of answered_question refused_question
  status_is =
      ap (λ (a : Apart). a.status) asked ∙ cases (eqb refusal 0) (λ none. rw none (sym (eqb-true _ _ none))) (λ some. rw some)

  -- a question is refused as a call whose cache names no axis, before any work
  pub refused_as_a_call : r.status ≡ refusal_of s n l t m k x empty_cache
  refused_as_a_call =
      status_is
      ∙ as_the_call s n l t m k x empty_cache (sym (names_none s t empty_cache (λ q. omega (arith, q)) (λ q. omega (arith, q)) (λ q. omega (arith, q))))

  exactly : (this : Type 0) (i : ℕ) → (this → i ≡ refusal_of s n l t m k x empty_cache) → (refusal_of s n l t m k x empty_cache ≡ i → this)
      → Exactly this i r.status
  exactly this i to from = record { given = λ h. refused_as_a_call ∙ sym (to h); only = λ q. from (sym refused_as_a_call ∙ q) }

  abbrev RightA : Type 0
  RightA = broken_rule s n l ≡ 0

  abbrev RightB : Type 0
  RightB = broken_rule t m k ≡ 0

  pub refused_1 : Exactly (RightA → ⊥) 1 r.status
  refused_1 = exactly (RightA → ⊥) 1 (refuses_1 s n l t m k x empty_cache) (means_1 s n l t m k x empty_cache)

  pub refused_2 : Exactly (RightA × (RightB → ⊥)) 2 r.status
  refused_2 = exactly (RightA × (RightB → ⊥)) 2 (λ h. refuses_2 s n l t m k x empty_cache h.0 h.1) (means_2 s n l t m k x empty_cache)

  pub refused_17 : Exactly (RightA × RightB × (s.unit ≡ t.unit → ⊥)) 17 r.status
  refused_17 =
      exactly (RightA × RightB × (s.unit ≡ t.unit → ⊥)) 17 (λ h. refuses_17 s n l t m k x empty_cache h.0 h.1 h.2)
      (means_17 s n l t m k x empty_cache)

  pub refused_3 : Exactly (RightA × RightB × (s.unit ≡ t.unit) × (transform_right s.unit x ≡ false)) 3 r.status
  refused_3 =
      exactly (RightA × RightB × (s.unit ≡ t.unit) × (transform_right s.unit x ≡ false)) 3
      (λ h. refuses_3 s n l t m k x empty_cache h.0 h.1 h.2 h.3) (means_3 s n l t m k x empty_cache)

  -- no other number is given
  pub no_other_number : (r.status ≤ 3) ⊎ (r.status ≡ 17)
  no_other_number = ⊎_elim (λ few. inl (up_to_3 _ refused_as_a_call few)) (λ q. inr (refused_as_a_call ∙ q)) (refusal_early s n l t m k x empty_cache)
    where
      not_4 : r.status ≡ 4 → ⊥
      not_4 q = true≢false
          (names_none s t empty_cache (λ e. omega (arith, e)) (λ e. omega (arith, e)) (λ e. omega (arith, e))
          ∙ (means_4 s n l t m k x empty_cache (sym refused_as_a_call ∙ q)).4)

      up_to_3 : (given : ℕ) → r.status ≡ given → given ≤ 4 → r.status ≤ 3
      up_to_3 given e few =
          cases (eqb given 4) (λ four. absurd (not_4 (e ∙ eqb-true given 4 four)))
          (λ other. let not_four = eqb-false given 4 other in omega (arith, few, e, not_four))

  -- a refusal is no yes
  pub refused_says_no : (r.status ≡ 0 → ⊥) → r.apart ≡ 0
  unfolding question_of refused_question
  refused_says_no h = ap (λ (a : Apart). a.apart) asked ∙ rw (ne_eqb _ _ (λ z. h (status_is ∙ z)))

  -- ---- the answer, where nothing is refused
  module _ (is_accepted : r.status ≡ 0) where
    passed : refusal ≡ 0
    passed = sym status_is ∙ is_accepted

    one_unit : s.unit ≡ t.unit
    one_unit = (unrefused_question s n l t m k x passed).3

    answer_is : r.apart ≡ cond (apart_by_every s n l t m k x) 1 0
    unfolding question_of answered_question
    answer_is = ap (λ (a : Apart). a.apart) asked ∙ rw (eq-eqb _ _ passed)

    -- 1 is yes, 0 is no
    yes : apart_by_every s n l t m k x ≡ true → r.apart ≡ 1
    yes h = answer_is ∙ rw h

    no : apart_by_every s n l t m k x ≡ false → r.apart ≡ 0
    no h = answer_is ∙ rw h

    is_yes : r.apart ≡ 1 → apart_by_every s n l t m k x ≡ true
    is_yes q = cases (apart_by_every s n l t m k x) (λ h. h) (λ h. absurd (omega (arith, q, no h)))

    is_no : r.apart ≡ 0 → apart_by_every s n l t m k x ≡ false
    is_no q = cases (apart_by_every s n l t m k x) (λ h. absurd (omega (arith, q, yes h))) (λ h. h)

    pub yes_or_no : (r.apart ≡ 1) ⊎ (r.apart ≡ 0)
    yes_or_no = cases (apart_by_every s n l t m k x) (λ h. inl (yes h)) (λ h. inr (no h))

    -- "a search that goes through every axis and then looks at the largest separation"
    pub largest_decides : Exactly (is_far s.unit (largest_separation s n l t m k x) ≡ true) 1 r.apart
    unfolding apart_by_every
    largest_decides = record { given = yes; only = is_yes }

    -- in other words: some face of A, face of B or pair of edges is farther apart than the speculative distance
    pub some_axis_is_far : Exactly (FarAxis s n l t m k x) 1 r.apart
    some_axis_is_far = record {
      given = λ axis. yes (far_is_yes s n l t m k x one_unit axis);
      only = λ q. yes_is_far s n l t m k x one_unit (is_yes q);
    }

    -- ---- the search that stops early, which is that of a call
    told : (answer : Search) → answer ≡ search_of s n l t m k x → StopsApart s n l t m k x ⊎ ComesToItsEnd s n l t m k x
    told (Search.Apart a) e = inl (record { axis = a; is = e })
    told (Search.Found f) e = inr (record { found = f; is = e })

    stops_yes : StopsApart s n l t m k x → r.apart ≡ 1
    unfolding ends_apart
    stops_yes w = yes (sym (same_yes s n l t m k x one_unit) ∙ ap ends_apart (sym w.is))

    ends_no : ComesToItsEnd s n l t m k x → r.apart ≡ 0
    unfolding ends_apart
    ends_no w = no (sym (same_yes s n l t m k x one_unit) ∙ ap ends_apart (sym w.is))

    -- stopping early changes no yes: a yes is where the full search of a call stops at an axis apart
    pub stopping_changes_no_yes : Exactly (StopsApart s n l t m k x) 1 r.apart
    stopping_changes_no_yes = record {
      given = stops_yes;
      only = λ q. ⊎_elim (λ w. w) (λ w. absurd (omega (arith, q, ends_no w))) (told (search_of s n l t m k x) refl);
    }

    -- and a no is where it does not
    pub no_comes_to_its_end : Exactly (ComesToItsEnd s n l t m k x) 0 r.apart
    no_comes_to_its_end = record {
      given = ends_no;
      only = λ q. ⊎_elim (λ w. absurd (omega (arith, q, stops_yes w))) (λ w. w) (told (search_of s n l t m k x) refl);
    }

    -- the axis at which it stops is that far apart
    pub stops_far : (w : StopsApart s n l t m k x) → is_far s.unit w.axis.separation ≡ true
    stops_far w = axis_is_far s n l t m k x one_unit w.axis w.is

    -- ---- the call, with a capacity of 4 or more and a cache that names no axis
    module _ (capacity : ℤ) (wide : lt_z capacity (pos 4) ≡ false) (cache : SatCache) (names : NoAxis cache.kind) where
      unrefused_call : refusal_of s n l t m k x cache ≡ 0
      unrefused_call = sym (as_the_call s n l t m k x cache (sym (names_none s t cache names.not_2 names.not_3 names.not_4))) ∙ passed

      -- after a yes it is accepted, with no points and that axis in its cache
      pub call_after_a_yes : (w : StopsApart s n l t m k x) → collide_of s n l t m k x capacity cache
          ≡ accepted (retired_of cache.kind) empty_contact (cache_of w.axis)
      call_after_a_yes w =
          full_search s n l t m k x capacity cache wide unrefused_call names ∙ apart_left s n l t m k x capacity cache wide unrefused_call w.axis w.is

    -- a call that comes to the full search has no points because the hulls are apart exactly where the question says yes
    pub reason_is_apart : Exactly (full_source s n l t m k x ≡ none apart) 1 r.apart
    unfolding full_source search_source says_apart
    reason_is_apart = record {
      given = λ e. ⊎_elim stops_yes (λ w. absurd (true≢false (sym (ap says_apart e) ∙ ap (λ (z : Search). says_apart (search_source s n l t m k x z)) (sym w.is)
          ∙ found_not_apart s n l t m k x w.found))) (told (search_of s n l t m k x) refl);
      only = λ q. let w = stopping_changes_no_yes.only q in ap (search_source s n l t m k x) (sym w.is);
    }
