-- When a number is the length of a walk, when there is none, and what a walk's loop has read. Assumes nothing.
use mathlib.Core.List.{List}
use mathlib.Core.Path.{◌≡◌, refl, sym, ◌∙◌, subst}
use Prim.Native.Nat.{ℕ, zero, suc, ◌+◌, ◌-◌, ◌≤◌, ◌<◌}
use native.Mathlib.Omega.{arith}
use lib.ListN.{length}
use Rattle.hull_links.specs.declared.HullSize.{HullSize}
use Rattle.hull_links.specs.Walks.{ring, steps}
use Rattle.hull_links.specs.inner.Tours.{Walk, Toured}
use Rattle.hull_links.specs.Links.{next, face}
use Rattle.hull_links.proofs.Orbits.{Going, one_length}
use Rattle.hull_tours.specs.inner.Found.{Length, OnFace}

module _ (step : ℕ → ℕ) (P : ℕ → Type 0) (s fuel : ℕ) where
  pub is_length : (n : ℕ) → n ≤ fuel → Walk step P s n → Length step P s fuel n
  is_length n l w = record { low = l; found = λ h. w; missed = λ q. absurd (omega (arith, w.some)) }

  pub no_length : ((m : ℕ) → m ≤ fuel → Walk step P s m → ⊥) → Length step P s fuel 0
  no_length nay = record { low = omega arith; found = λ h. absurd (omega arith); missed = λ q. nay }

  -- where there is a walk of at most fuel steps, the answer is its length
  pub the_length : (r m : ℕ) → Length step P s fuel r → m ≤ fuel → Walk step P s m → r ≡ m
  the_length zero m k l w = absurd (k.missed refl m l w)
  the_length (suc r) m k l w = one_length step P s (suc r) m (k.found (omega arith)) w

  -- a count that began at `from` instead of 0: of n steps and one that arrives, and of a walk that there is not
  pub counted_length : (from n : ℕ) → from ≤ n → n - from < fuel → Walk step P s (n - from + 1) → Length step P s fuel (n + 1 - from)
  counted_length from n l h w =
      let e : n - from + 1 ≡ n + 1 - from = omega arith in
      subst (Length step P s fuel) e (is_length (n - from + 1) (omega arith) w)

  pub no_count : (from : ℕ) → ((m : ℕ) → m ≤ fuel → Walk step P s m → ⊥) → Length step P s fuel (0 - from)
  no_count from nay = let e : 0 ≡ 0 - from = omega arith in subst (Length step P s fuel) e (no_length nay)

-- the same number of steps, counted otherwise
pub counted_on : {step : ℕ → ℕ} {P : ℕ → Type 0} (s e n : ℕ) {m : ℕ} → n ≡ m → Going step P s n e → Going step P s m e
counted_on {step} {P} s e n q = subst (λ (x : ℕ). Going step P s x e) q

-- ---- where all is toured in the end, no walk of the tour is too short, and each start is as its walk asks
module _ (step start : ℕ → ℕ) (P : ℕ → ℕ → Type 0) (least h k : ℕ) (whole : Toured step start P least h k) (f s : ℕ) (l : f < k) (q : s ≡ start f) where
  pub long_enough : (fuel n : ℕ) → length (ring step h (start f)) ≤ fuel → Length step (P f) s fuel n → least ≤ n
  long_enough fuel n g r =
      let e : n ≡ length (ring step h (start f))
      = the_length step (P f) s fuel n (length (ring step h (start f))) r g
      (subst (λ (x : ℕ). Walk step (P f) x (length (ring step h (start f)))) (sym q) (whole.walked.walks f l)) in
      subst (λ (x : ℕ). least ≤ x) (sym e) (whole.walked.long f l)

  pub well_started : P f s
  unfolding steps
  well_started = subst (P f) (sym q) ((whole.walked.walks f l).each 0 (whole.walked.walks f l).some)

-- ---- what a turn of a ring's loop has read of half-edge e: its face and its next t
pub on_face : (s : HullSize) (l : List ℕ) (e got : ℕ) → e < s.half_edges → (f t : ℕ) → got ≡ face s l e → got ≡ f → t ≡ next s l e → t < s.half_edges
    → OnFace s l f e
on_face s l e got low f t q w p h = record { on = sym q ∙ w; low = low; next_in = subst (λ (x : ℕ). x < s.half_edges) p h }
