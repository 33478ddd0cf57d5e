-- Walks of a step function: their lists, the loop that follows one, and that each walk of a step which is one-to-one below n comes back within n steps.
-- Assumes nothing.
use mathlib.Core.Path.{◌≡◌, refl, sym, ap, ◌∙◌, subst}
use mathlib.Core.Bool.{true, or-true, false≢true}
use mathlib.Core.List.{List, [], ◌∷◌}
use Prim.Native.Nat.{ℕ, zero, suc, ◌+◌, ◌-◌, ◌≤◌, ◌<◌}
use native.Mathlib.Nat.{zero-add, suc-add}
use native.Mathlib.Numerals.{add-one}
use native.Mathlib.Omega.{arith}
use lib.Dec.{eqb, ltb}
use lib.ListN.{length}
use borrow.Author.Tests.{eqb-true, eqb-false, eq-eqb, ne_eqb, ltb-true, ltb-false}
use Rattle.hull_links.specs.Walks.{count, has, until, ring, steps, Closes}
use Rattle.hull_links.specs.inner.Tours.{Walk}
use Rattle.hull_links.proofs.Tests.{cases}
use Rattle.hull_links.proofs.Counting.{at_most_lem, unhad}

pub steps_out : (step : ℕ → ℕ) (i c : ℕ) → steps step (suc i) c ≡ step (steps step i c)
unfolding steps
steps_out step zero c = refl
steps_out step (suc i) c = steps_out step i (step c)

pub steps_add : (step : ℕ → ℕ) (i j c : ℕ) → steps step (i + j) c ≡ steps step i (steps step j c)
unfolding steps
steps_add step zero j c = rw zero-add
steps_add step (suc i) j c = rw suc-add (steps_add step i j (step c) ∙ ap (steps step i) (steps_out step j c))

-- two steps that agree on the way lead to the same places
pub same_way : (step other : ℕ → ℕ) (s k : ℕ) → ((i : ℕ) → i < k → step (steps step i s) ≡ other (steps step i s)) → (i : ℕ) → i ≤ k
    → steps step i s ≡ steps other i s
unfolding steps
same_way step other s k h zero l = refl
same_way step other s k h (suc i) l =
    steps_out step i s ∙ h i (omega arith) ∙ ap other (same_way step other s k h i (omega arith)) ∙ sym (steps_out other i s)

-- ---- the loop that follows a walk: n steps are done, e is where it stands, and it is not back yet
pub record Going (step : ℕ → ℕ) (P : ℕ → Type 0) (s n e : ℕ) : Type 0 where
  pub here : e ≡ steps step n s
  pub apart : (i : ℕ) → 1 ≤ i → i ≤ n → steps step i s ≡ s → ⊥
  pub each : (i : ℕ) → i < n → P (steps step i s)

module _ (step : ℕ → ℕ) (P : ℕ → Type 0) where
  pub sets_out : (s : ℕ) → Going step P s 0 s
  unfolding steps
  sets_out s = record { here = refl; apart = λ i a b q. omega arith; each = λ i h. absurd (omega arith) }

  module _ (s n e : ℕ) (g : Going step P s n e) where
    each_more : P e → (i : ℕ) → i < n + 1 → P (steps step i s)
    each_more p i h =
        cases (eqb i n) (λ t. subst P (g.here ∙ ap (λ (x : ℕ). steps step x s) (sym (eqb-true i n t))) p)
        (λ t. g.each i (omega (arith, eqb-false i n t)))

    one_on : (t : ℕ) → t ≡ step e → t ≡ steps step (n + 1) s
    one_on t q = q ∙ ap step g.here ∙ sym (steps_out step n s) ∙ ap (λ (x : ℕ). steps step x s) (sym (add-one n))

    -- a step that does not lead back, and one that does
    pub goes_on : (t : ℕ) → P e → t ≡ step e → (t ≡ s → ⊥) → Going step P s (n + 1) t
    goes_on t p q nay =
        let z = one_on t q in
        record {
          here = z;
          apart = λ i a b w.
              cases (eqb i (n + 1)) (λ u. nay (z ∙ ap (λ (x : ℕ). steps step x s) (sym (eqb-true i (n + 1) u)) ∙ w))
              (λ u. g.apart i a (omega (arith, eqb-false i (n + 1) u)) w);
          each = each_more p;
        }

    pub arrives : (t : ℕ) → P e → t ≡ step e → t ≡ s → Walk step P s (n + 1)
    arrives t p q w = record {
      some = omega arith;
      back = sym (one_on t q) ∙ w;
      apart = λ i a b. g.apart i a (omega arith);
      each = each_more p;
    }

    -- there is no walk of m steps where they are done already, or where e is not as the walk asks
    pub outlasts : (m : ℕ) → m ≤ n → Walk step P s m → ⊥
    outlasts m l w = g.apart m w.some l w.back

    pub spoils : (P e → ⊥) → (m : ℕ) → Walk step P s m → ⊥
    spoils nay m w =
        cases (ltb n m) (λ t. nay (subst P (sym g.here) (w.each n (ltb-true n m t)))) (λ t. outlasts m (ltb-false n m t) w)

  -- only one number of steps makes a walk from s
  pub one_length : (s n m : ℕ) → Walk step P s n → Walk step P s m → n ≡ m
  one_length s n m v w =
      cases (ltb n m) (λ t. absurd (w.apart n v.some (ltb-true n m t) v.back))
      (λ t. cases (ltb m n) (λ u. absurd (v.apart m w.some (ltb-true m n u) w.back)) (λ u. omega (arith, ltb-false n m t, ltb-false m n u)))

-- ---- the list of a walk: c, step c, ..: k of them
unfoldable path : (ℕ → ℕ) → ℕ → ℕ → List ℕ
path step c zero = []
path step c (suc k) = c ∷ path step (step c) k

module _ (step : ℕ → ℕ) where
  length_path : (k c : ℕ) → length (path step c k) ≡ k
  unfolding path
  length_path zero c = refl
  length_path (suc k) c = ap suc (length_path k (step c))

  path_at : (k c i : ℕ) → i < k → has (steps step i c) (path step c k) ≡ true
  unfolding path has steps
  path_at zero c i l = absurd (omega arith)
  path_at (suc k) c zero l = rw (eq-eqb c c refl)
  path_at (suc k) c (suc i) l = rw (path_at k (step c) i (omega arith)) (or-true (eqb c (steps step i (step c))))

  at_path : (k c e : ℕ) → has e (path step c k) ≡ true → (i : ℕ) × (i < k) × (steps step i c ≡ e)
  unfolding path has steps
  at_path zero c e h = absurd (false≢true h)
  at_path (suc k) c e h =
      cases (eqb c e) (λ t. (0, omega arith, eqb-true c e t))
      (λ t. let w = at_path k (step c) e (rw t at h) in let l = w.1 in (suc w.0, omega arith, w.2))

  -- where no two places of a path are the same, no number stands in it twice
  path_once : (k c e : ℕ) → ((i j : ℕ) → i < j → j < k → steps step i c ≡ steps step j c → ⊥) → count e (path step c k) ≤ 1
  unfolding path count steps
  path_once zero c e a = omega arith
  path_once (suc k) c e a =
      cases (eqb c e)
      (λ t. rw t
      (cases (has e (path step (step c) k))
      (λ u. let w = at_path k (step c) e u in let l = w.1 in absurd (a 0 (suc w.0) (omega arith) (omega arith) (eqb-true c e t ∙ sym w.2)))
      (λ u. omega (arith, unhad e (path step (step c) k) u))))
      (λ t. rw t (omega (arith, path_once k (step c) e (λ i j p q z. a (suc i) (suc j) (omega arith) (omega arith) z))))

  until_path : (j k c s : ℕ) → j ≤ k → steps step j c ≡ s → ((i : ℕ) → i < j → steps step i c ≡ s → ⊥) → until step s k c ≡ path step c j
  unfolding until path steps
  until_path zero zero c s l b a = refl
  until_path zero (suc k) c s l b a = rw (eq-eqb c s b)
  until_path (suc j) zero c s l b a = absurd (omega arith)
  until_path (suc j) (suc k) c s l b a =
      rw (ne_eqb c s (λ q. a 0 (omega arith) q))
      (ap (λ (x : List ℕ). c ∷ x) (until_path j k (step c) s (omega arith) b (λ i h q. a (suc i) (omega arith) q)))

  -- ---- the ring of s is the list of the walk from s
  pub ring_some : (h s : ℕ) → 1 ≤ length (ring step h s)
  unfolding ring
  ring_some h s = omega arith

  ring_is : (P : ℕ → Type 0) (h s n : ℕ) → Walk step P s n → n ≤ h → ring step h s ≡ path step s n
  unfolding ring path steps
  ring_is P h s zero w l = absurd (omega (arith, w.some))
  ring_is P h s (suc n) w l =
      ap (λ (x : List ℕ). s ∷ x) (until_path n h (step s) s (omega arith) w.back (λ i a q. w.apart (suc i) (omega arith) (omega arith) q))

  module _ (P : ℕ → Type 0) (h s n : ℕ) (w : Walk step P s n) (short : n ≤ h) where
    ring_path : ring step h s ≡ path step s n
    ring_path = ring_is P h s n w short

    pub ring_length : n ≡ length (ring step h s)
    ring_length = sym (ap length ring_path ∙ length_path n s)

    pub place : (e : ℕ) → has e (ring step h s) ≡ true → (i : ℕ) × (i < n) × (steps step i s ≡ e)
    place e q = at_path n s e (subst (λ (x : List ℕ). has e x ≡ true) ring_path q)

    pub placed : (i : ℕ) → i < n → has (steps step i s) (ring step h s) ≡ true
    placed i q = subst (λ (x : List ℕ). has (steps step i s) x ≡ true) (sym ring_path) (path_at n s i q)

    differ : (i j : ℕ) → i < j → j < n → steps step i s ≡ steps step j s → ⊥
    differ i j p q z =
        w.apart (n - j + i) (omega arith) (omega arith)
        (steps_add step (n - j) i s ∙ ap (steps step (n - j)) z ∙ sym (steps_add step (n - j) j s) ∙ ap (λ (x : ℕ). steps step x s) (omega arith) ∙ w.back)

    pub no_twice : (e : ℕ) → count e (ring step h s) ≤ 1
    no_twice e = subst (λ (x : List ℕ). count e x ≤ 1) (sym ring_path) (path_once n s e differ)

    pub closes : Closes step h s
    closes = record {
      back = subst (λ (x : ℕ). steps step x s ≡ s) ring_length w.back;
      short = subst (λ (x : ℕ). x ≤ h) ring_length short;
    }

  -- what a step keeps, all of a walk have
  all_keep : (Q : ℕ → Type 0) → ((c : ℕ) → Q c → Q (step c)) → (i c : ℕ) → Q c → Q (steps step i c)
  unfolding steps
  all_keep Q keep zero c p = p
  all_keep Q keep (suc i) c p = all_keep Q keep i (step c) (keep c p)

  pub walk_keeps : (P Q : ℕ → Type 0) → ((c : ℕ) → Q c → Q (step c)) → (s n : ℕ) → Q s → Walk step P s n → Walk step Q s n
  walk_keeps P Q keep s n q w = record { some = w.some; back = w.back; apart = w.apart; each = λ i h. all_keep Q keep i s q }

-- ---- a step that is one-to-one below n and stays there leads each walk back within n steps
module _ (step : ℕ → ℕ) (n : ℕ) (closed : (e : ℕ) → e < n → step e < n) (inj : (a b : ℕ) → a < n → b < n → step a ≡ step b → a ≡ b) (s : ℕ)
    (s_lt : s < n) where
  abbrev Low : ℕ → Type 0
  Low e = e < n

  steps_lt : (i c : ℕ) → c < n → steps step i c < n
  unfolding steps
  steps_lt zero c h = h
  steps_lt (suc i) c h = steps_lt i (step c) (closed c h)

  steps_inj : (i a b : ℕ) → a < n → b < n → steps step i a ≡ steps step i b → a ≡ b
  unfolding steps
  steps_inj zero a b ha hb e = e
  steps_inj (suc i) a b ha hb e = inj a b ha hb (steps_inj i (step a) (step b) (closed a ha) (closed b hb) e)

  -- n + 1 places that are not back at s would be different numbers below n
  too_many : (c : ℕ) → Going step Low s n c → ⊥
  too_many c g =
      omega (
        arith,
        length_path step (suc n) s,
        at_most_lem (path step s (suc n)) n
            (λ e q. cases (has e (path step s (suc n)))
            (λ t. let w = at_path step (suc n) s e t in absurd (omega (arith, steps_lt w.0 s s_lt, w.2)))
            (λ t. unhad e (path step s (suc n)) t))
            (λ e. path_once step (suc n) s e (λ i j p q z.
            g.apart (j - i) (omega arith) (omega arith)
            (sym (steps_inj i s (steps step (j - i) s) s_lt (steps_lt (j - i) s s_lt)
            (z ∙ ap (λ (x : ℕ). steps step x s) (omega arith) ∙ steps_add step i (j - i) s))))),
      )

  search_on : (k i c : ℕ) → i + k ≡ n → c < n → Going step Low s i c → (m : ℕ) × (m ≤ n) × Walk step Low s m
  search_on zero i c q h g = absurd (too_many c (subst (λ (x : ℕ). Going step Low s x c) (omega arith) g))
  search_on (suc k) i c q h g =
      cases (eqb (step c) s)
      (λ t. (i + 1, omega arith, arrives step Low s i c g (step c) h refl (eqb-true (step c) s t)))
      (λ t. search_on k (i + 1) (step c) (omega arith) (closed c h) (goes_on step Low s i c g (step c) h refl (eqb-false (step c) s t)))

  pub comes_back : (m : ℕ) × (m ≤ n) × Walk step Low s m
  comes_back = search_on n 0 s (omega arith) s_lt (sets_out step Low s)
