-- A walk that keeps no count: what is left of it is a list that grows shorter by each step. For loops that follow a ring or a fan until they are
-- back. Assumes nothing.
use mathlib.Core.Path.{◌≡◌, refl, sym, ap, ◌∙◌, subst}
use mathlib.Core.List.{List, [], ◌∷◌}
use Prim.Native.Nat.{ℕ, zero, suc, ◌≤◌, ◌<◌}
use native.Mathlib.Omega.{arith}
use lib.Dec.{eqb}
use lib.ListN.{length}
use borrow.Author.Tests.{eq-eqb, ne_eqb}
use Rattle.hull_links.specs.Walks.{until, ring, steps, Closes}
use Rattle.hull_links.proofs.Tests.{cases}

-- P holds of each number of a list
abbrev pub Each : (ℕ → Type 0) → List ℕ → Type 0
Each P [] = Unit {0}
Each P (e ∷ es) = P e × Each P es

-- the walk is at e, and comes to s from the next step on within h steps
pub record Along (step : ℕ → ℕ) (h s e : ℕ) : Type 0 where
  pub low : e < h
  pub more : ℕ
  pub few : more < h
  pub comes : steps step more (step e) ≡ s

module _ (step : ℕ → ℕ) (h s : ℕ) where
  -- what the walk has still to pass behind e
  unfoldable pub rest : ℕ → List ℕ
  rest e = until step s h (step e)

  pub ring_rest : ring step h s ≡ s ∷ rest s
  unfolding ring rest
  ring_rest = refl

  -- a walk that closes sets out
  pub along : s < h → Closes step h s → Along step h s s
  unfolding ring steps
  along l z = record {
    low = l;
    more = length (until step s h (step s));
    few = z.short;
    comes = z.back;
  }

  -- more steps than it takes change nothing
  longer : (j k c : ℕ) → j ≤ k → steps step j c ≡ s → until step s (suc k) c ≡ until step s k c
  unfolding until steps
  longer zero zero c l q = rw (eq-eqb c s q)
  longer zero (suc k) c l q = rw (eq-eqb c s q)
  longer (suc j) zero c l q = absurd (omega arith)
  longer (suc j) (suc k) c l q =
      cases (eqb c s) (λ t. rw t) (λ t. rw t (ap (λ (x : List ℕ). c ∷ x) (longer j k (step c) (omega arith) q)))

  -- ---- the next step leads to t: where t is s the walk is over, and else it goes on
  pub no_more : (e t : ℕ) → t ≡ step e → t ≡ s → rest e ≡ []
  unfolding rest until
  no_more e t q z = ends h (step e) (sym q ∙ z)
    where
      ends : (k c : ℕ) → c ≡ s → until step s k c ≡ []
      ends zero c r = refl
      ends (suc k) c r = rw (eq-eqb c s r)

  module _ (e t : ℕ) (a : Along step h s e) (q : t ≡ step e) (nay : t ≡ s → ⊥) where
    onward : (m : ℕ) → m < h → steps step m (step e) ≡ s → (step e ≡ s → ⊥) → step e < h → Along step h s (step e)
    unfolding steps
    onward zero l z nay low = absurd (nay z)
    onward (suc m) l z nay low = record { low = low; more = m; few = omega arith; comes = z }

    pub goes_along : ((e : ℕ) → e < h → step e < h) → Along step h s t
    goes_along closed =
        subst (λ (x : ℕ). Along step h s x) (sym q) (onward a.more a.few a.comes (λ z. nay (q ∙ z)) (closed e a.low))

    unroll : (k m : ℕ) → m < k → steps step m (step e) ≡ s → (step e ≡ s → ⊥) → until step s k (step e) ≡ step e ∷ until step s k (step (step e))
    unfolding until steps
    unroll k zero l z nay = absurd (nay z)
    unroll zero (suc m) l z nay = absurd (omega arith)
    unroll (suc k) (suc m) l z nay =
        rw (ne_eqb (step e) s nay) (ap (λ (x : List ℕ). step e ∷ x) (sym (longer m k (step (step e)) (omega arith) z)))

    pub rest_more : rest e ≡ t ∷ rest t
    unfolding rest
    rest_more = unroll h a.more a.few a.comes (λ z. nay (q ∙ z)) ∙ ap (λ (x : ℕ). x ∷ until step s h (step x)) (sym q)

    pub rest_shorter : length (rest t) < length (rest e)
    rest_shorter = rw rest_more (omega arith)

  -- what holds of each place that a step leads to holds of all that is left
  pub rest_each : (P : ℕ → Type 0) → ((e : ℕ) → P e → P (step e)) → (e : ℕ) → P e → Each P (rest e)
  unfolding rest until
  rest_each P keep e p = each h (step e) (keep e p)
    where
      each : (k c : ℕ) → P c → Each P (until step s k c)
      each zero c r = tt
      each (suc k) c r = cases (eqb c s) (λ t. rw t tt) (λ t. rw t (r, each k (step c) (keep c r)))
