-- Walks from k starts, told apart by a key that all of a walk have: they list no number twice; where they are h long together they list every number
-- below h, and where they hold every number below h they list each exactly once. Assumes nothing.
use mathlib.Core.Path.{◌≡◌, refl, sym, ap, ◌∙◌, subst}
use mathlib.Core.Bool.{true}
use mathlib.Core.List.{List}
use Prim.Native.Nat.{ℕ, suc, ◌+◌, ◌-◌, ◌≤◌, ◌<◌}
use native.Mathlib.Numerals.{add-one}
use native.Mathlib.Omega.{arith}
use lib.Dec.{eqb}
use lib.ListN.{length, length-append}
use borrow.Author.Count.{below_more}
use borrow.Author.Tests.{eqb-true, eqb-false}
use Rattle.hull_links.specs.Walks.{bit, count, has, joined, ring, steps, Once}
use Rattle.hull_links.specs.inner.Tours.{Walk, Walked, Toured}
use Rattle.hull_links.proofs.Tests.{cases}
use Rattle.hull_links.proofs.Counting.{sum_same, sum_mono, sum_bit, sum_hit, sum_less, sum_one, count_joined, has_count, unhad, length_sum}
use Rattle.hull_links.proofs.Counting.{has_joined, joined_part}
use Rattle.hull_links.proofs.Orbits.{steps_out, ring_length, place, placed, no_twice}

module _ (step key start : ℕ → ℕ) (P : ℕ → ℕ → Type 0) (least h k : ℕ) (keyed : (f e : ℕ) → P f e → key e ≡ f) (low : (f e : ℕ) → P f e → e < h) where
  abbrev R : ℕ → List ℕ
  R f = ring step h (start f)

  module _ (w : Walked step start P least h k) where
    place_in : (f e : ℕ) → f < k → has e (R f) ≡ true → (i : ℕ) × (i < length (R f)) × (steps step i (start f) ≡ e)
    place_in f e l = place step (P f) h (start f) (length (R f)) (w.walks f l) (w.short f l) e

    placed_in : (f i : ℕ) → f < k → i < length (R f) → has (steps step i (start f)) (R f) ≡ true
    placed_in f i l = placed step (P f) h (start f) (length (R f)) (w.walks f l) (w.short f l) i

    holds : (f e : ℕ) → f < k → has e (R f) ≡ true → P f e
    holds f e l q = let p = place_in f e l q in subst (P f) p.2 ((w.walks f l).each p.0 p.1)

    start_in : (f : ℕ) → f < k → has (start f) (R f) ≡ true
    unfolding steps
    start_in f l = placed_in f 0 l (w.walks f l).some

    -- each start has what its walk asks
    pub start_has : (f : ℕ) → f < k → P f (start f)
    start_has f l = holds f (start f) l (start_in f l)

    once : (e f : ℕ) → f < k → count e (R f) ≤ bit (eqb (key e) f)
    once e f l =
        cases (eqb (key e) f)
        (λ u. rw u (no_twice step (P f) h (start f) (length (R f)) (w.walks f l) (w.short f l) e))
        (λ u. rw u (cases (has e (R f)) (λ z. absurd (eqb-false (key e) f u (keyed f e (holds f e l z)))) (λ z. omega (arith, unhad e (R f) z))))

    all_once : (e : ℕ) → count e (joined R k) ≤ 1
    all_once e = omega (arith, count_joined e R k, sum_mono (λ f. count e (R f)) (λ f. bit (eqb (key e) f)) k (λ f l. once e f l), sum_bit (key e) k)

    none_above : (e : ℕ) → h ≤ e → count e (joined R k) ≡ 0
    none_above e g =
        cases (has e (joined R k))
        (λ z. let p = has_joined e R k z in absurd (omega (arith, low p.0 e (holds p.0 e p.1 p.2))))
        (λ z. unhad e (joined R k) z)

    -- where every number below h is in the walk of its key, the walks list each exactly once
    module _ (held : (e : ℕ) → e < h → (key e < k) × (has e (R (key e)) ≡ true)) where
      counted : (e f : ℕ) → e < h → f < k → count e (R f) ≡ bit (eqb (key e) f)
      counted e f le lf =
          cases (eqb (key e) f)
          (λ u. rw u (omega (arith, rw u at (once e f lf), has_count e (R f) (subst (λ (x : ℕ). has e (R x) ≡ true) (eqb-true (key e) f u) (held e le).1))))
          (λ u. rw u (omega (arith, rw u at (once e f lf))))

      each_listed : (e : ℕ) → e < h → count e (joined R k) ≡ 1
      each_listed e le =
          count_joined e R k ∙ sum_same (λ f. count e (R f)) (λ f. bit (eqb (key e) f)) k (λ f lf. counted e f le lf) ∙ sum_hit (key e) k (held e le).0

      pub listed_once : Once h (joined R k)
      listed_once = record {
        size = length_sum (joined R k) h none_above ∙ sum_one (λ e. count e (joined R k)) h each_listed;
        each = each_listed;
        none = none_above;
      }

  -- where the walks are h long together, they hold every number below h
  module _ (t : Toured step start P least h k) where
    abbrev w : Walked step start P least h k
    w = t.walked

    covered : (e : ℕ) → e < h → has e (joined R k) ≡ true
    covered e l =
        cases (has e (joined R k)) (λ z. z)
        (λ z. absurd (omega (
          arith,
          t.whole,
          length_sum (joined R k) h (none_above w),
          sum_less (λ x. count x (joined R k)) h e (λ x p. all_once w x) l (unhad e (joined R k) z),
        )))

    -- every number is in the walk of its key, and has what that walk asks
    pub home : (e : ℕ) → e < h → (key e < k) × (has e (R (key e)) ≡ true)
    home e l =
        let p = has_joined e R k (covered e l) in
        let q : p.0 ≡ key e = sym (keyed p.0 e (holds w p.0 e p.1 p.2)) in
        (subst (λ (x : ℕ). x < k) q p.1, subst (λ (x : ℕ). has e (R x) ≡ true) q p.2)

    pub at_home : (e : ℕ) → e < h → P (key e) e
    at_home e l = let p = home e l in holds w (key e) e p.0 p.1

    -- the step of a number is in the same walk
    after : (e : ℕ) → e < h → has (step e) (R (key e)) ≡ true
    after e l =
        let m = home e l in
        let p = place_in w (key e) e m.0 m.1 in
        let g = w.walks (key e) m.0 in
        let z : steps step (suc p.0) (start (key e)) ≡ step e = steps_out step p.0 (start (key e)) ∙ ap step p.2 in
        cases (eqb (suc p.0) (length (R (key e))))
        (λ u.
        let b : start (key e) ≡ step e = sym g.back ∙ ap (λ (x : ℕ). steps step x (start (key e))) (sym (eqb-true _ _ u)) ∙ z in
        subst (λ (x : ℕ). has x (R (key e)) ≡ true) b (start_in w (key e) m.0))
        (λ u.
        let b = p.1 in
        subst (λ (x : ℕ). has x (R (key e)) ≡ true) z
        (placed_in w (key e) (suc p.0) m.0 (omega (arith, eqb-false (suc p.0) (length (R (key e))) u))))

    pub keeps : (e : ℕ) → e < h → key (step e) ≡ key e
    keeps e l = keyed (key e) (step e) (holds w (key e) (step e) (home e l).0 (after e l))

    -- every number is the step of one
    pub from : (e : ℕ) → e < h → (a : ℕ) × (a < h) × (step a ≡ e)
    unfolding steps
    from e l =
        let m = home e l in
        let p = place_in w (key e) e m.0 m.1 in
        let g = w.walks (key e) m.0 in
        cases (eqb p.0 0)
        (λ u.
        let n : suc (length (R (key e)) - 1) ≡ length (R (key e)) = omega (arith, g.some) in
        let q : start (key e) ≡ e = subst (λ (x : ℕ). steps step x (start (key e)) ≡ e) (eqb-true p.0 0 u) p.2 in (
          steps step (length (R (key e)) - 1) (start (key e)),
          low (key e) _ (g.each (length (R (key e)) - 1) (omega (arith, g.some))),
          sym (steps_out step (length (R (key e)) - 1) (start (key e))) ∙ ap (λ (x : ℕ). steps step x (start (key e))) n ∙ g.back ∙ q,
        ))
        (λ u.
        let b = p.1 in
        let n : suc (p.0 - 1) ≡ p.0 = omega (arith, eqb-false p.0 0 u) in (
          steps step (p.0 - 1) (start (key e)),
          low (key e) _ (g.each (p.0 - 1) (omega arith)),
          sym (steps_out step (p.0 - 1) (start (key e))) ∙ ap (λ (x : ℕ). steps step x (start (key e))) n ∙ p.2,
        ))

-- ---- the loop over the starts: the walks of the first k are done, and together they are `seen` long
pub record Touring (step start : ℕ → ℕ) (P : ℕ → ℕ → Type 0) (least h seen k : ℕ) : Type 0 where
  pub walked : Walked step start P least h k
  pub part : seen ≡ length (joined (λ f. ring step h (start f)) k)

module _ (step start : ℕ → ℕ) (P : ℕ → ℕ → Type 0) (least h : ℕ) where
  pub sets_off : Touring step start P least h 0 0
  unfolding joined
  sets_off = record {
    walked = record {
      walks = λ f l. absurd (omega arith);
      long = λ f l. absurd (omega arith);
      short = λ f l. absurd (omega arith);
    };
    part = refl;
  }

  pub one_walk : (seen more k s n : ℕ) → Touring step start P least h seen k → s ≡ start k → n ≤ h → least ≤ n → Walk step (P k) s n → more ≡ seen + n
      → Touring step start P least h more (k + 1)
  unfolding joined
  one_walk seen more k s n t q l g w z =
      let w' : Walk step (P k) (start k) n = subst (λ (x : ℕ). Walk step (P k) x n) q w in
      let e : n ≡ length (ring step h (start k)) = ring_length step (P k) h (start k) n w' l in
      record {
        walked = record {
          walks = below_more (λ f. Walk step (P f) (start f) (length (ring step h (start f)))) k t.walked.walks
              (subst (λ (x : ℕ). Walk step (P k) (start k) x) e w');
          long = below_more (λ f. least ≤ length (ring step h (start f))) k t.walked.long (subst (λ (x : ℕ). least ≤ x) e g);
          short = below_more (λ f. length (ring step h (start f)) ≤ h) k t.walked.short (subst (λ (x : ℕ). x ≤ h) e l);
        };
        part = rw (add-one k) (omega (arith, z, t.part, length-append (joined (λ f. ring step h (start f)) k) (ring step h (start k))));
      }

  module _ (seen f k : ℕ) (t : Touring step start P least h seen f) where
    pub all_walks : f ≤ k → k ≤ f → seen ≡ h → Toured step start P least h k
    all_walks a b z =
        let e : f ≡ k = omega arith in
        let t' = subst (λ (x : ℕ). Touring step start P least h seen x) e t in
        record { walked = t'.walked; whole = sym t'.part ∙ z }

    -- where all is toured in the end, what is left is enough for the next walk, and nothing is left at the end
    pub enough : f < k → Toured step start P least h k → length (ring step h (start f)) ≤ h - seen
    unfolding joined
    enough l whole =
        omega (
          arith,
          t.part,
          whole.whole,
          length-append (joined (λ g. ring step h (start g)) f) (ring step h (start f)),
          joined_part (λ g. ring step h (start g)) (suc f) k (omega arith),
        )

    pub nothing_left : f ≤ k → k ≤ f → Toured step start P least h k → seen ≡ h
    nothing_left a b whole =
        let e : f ≡ k = omega arith in
        t.part ∙ ap (λ (x : ℕ). length (joined (λ g. ring step h (start g)) x)) e ∙ whole.whole
