-- One pair: what the list of rules says is what the judge says, and the answer that follows. Assumes nothing.
use Prim.Native.Nat.{ℕ, ◌≤◌, ◌<◌}
use mathlib.Core.Bool.{Bool, true, false, cond}
use mathlib.Core.List.{List}
use mathlib.Core.Path.{◌≡◌, refl, sym, ap, ◌∙◌}
use native.Mathlib.Omega.{arith}
use borrow.Author.Tests.{ltb-true, ltb-false, lt-ltb, le-ltb, eq-eqb, ne_eqb}
use lib.Dec.{eqb, ltb}
use lib.IntN.{pos}
use lib.ListN.{length, get_or}
use lib.Ieee.{Float}
use Rattle.vector.specs.declared.Transform.{Transform}
use Rattle.manifold.specs.declared.SatCache.{SatCache}
use Rattle.manifold.specs.declared.Answer.{Answer}
use Rattle.hull_links.specs.declared.HullSize.{HullSize}
use Rattle.hull.specs.Rule8.{broken_rule}
use Rattle.collide_outcome.specs.Answers.{refused_of}
use Rattle.collide.specs.Call.{collide_of}
use Rattle.collide.proofs.Few.{few_call, few_refused}
use Rattle.pools.specs.declared.Place.{Place}
use Rattle.pools.specs.Pools.{hulls_in, place_of, inside_of, numbers_at, links_at, rule_at, rule_of}
use Rattle.pools.proofs.Laws.{zero_inside, rule_inside}
use Rattle.pools_pairs.specs.Pairs.{number_rule, call_at, pair_answer}
use Rattle.pools_pairs.specs.inner.Judged.{Judged, hull_rule}

-- by cases of a test on numbers
below_cases : (P : ℕ → Type 0) (h m : ℕ) (a b : ℕ) → (h < m → P a) → (m ≤ h → P b) → P (cond (ltb h m) a b)
below_cases P h m a b f g = cases (ltb h m) refl
  where
    cases : (t : Bool) → ltb h m ≡ t → P (cond t a b)
    cases true e = f (ltb-true h m e)
    cases false e = g (ltb-false h m e)

module _ (n : List Float) (l hs : List ℕ) where
  -- the rules that were noted are the hulls'
  pub rules_same : (js : List ℕ) (h : ℕ) → Judged n l hs js → hull_rule js (hulls_in hs) h ≡ number_rule n l hs h
  unfolding hull_rule number_rule
  rules_same js h j =
      below_cases (λ v. v ≡ cond (ltb h (hulls_in hs)) (rule_of n l hs h) 1) h (hulls_in hs) (get_or js h 0) 1
      (λ k. j.each h k ∙ simp (lt-ltb h (hulls_in hs) k))
      (λ k. simp (le-ltb h (hulls_in hs) k))

  -- a hull that was judged right: there, inside the pools, and breaking no rule
  pub record Ready (h : ℕ) (p : Place) : Type 0 where
    pub zero_rule : number_rule n l hs h ≡ 0
    pub there : h < hulls_in hs
    pub at : p ≡ place_of hs h
    pub within : inside_of p (length n) (length l) ≡ true
    pub right : broken_rule p.size (numbers_at n p) (links_at l p) ≡ 0

  pub below : (h : ℕ) → number_rule n l hs h ≡ 0 → h < hulls_in hs
  unfolding number_rule
  below h z = below_cases (λ v. v ≡ 0 → h < hulls_in hs) h (hulls_in hs) (rule_of n l hs h) 1 (λ k e. k) (λ k e. absurd (omega (arith, e))) z

  rule_zero : (h : ℕ) → number_rule n l hs h ≡ 0 → rule_at n l (place_of hs h) ≡ 0
  unfolding number_rule rule_of
  rule_zero h z =
      below_cases (λ v. v ≡ 0 → rule_at n l (place_of hs h) ≡ 0) h (hulls_in hs) (rule_at n l (place_of hs h)) 1 (λ k e. e)
      (λ k e. absurd (omega (arith, e))) z

  pub ready : (h : ℕ) (p : Place) → number_rule n l hs h ≡ 0 → p ≡ place_of hs h → Ready h p
  ready h p z e =
      let r : rule_at n l p ≡ 0 = ap (rule_at n l) e ∙ rule_zero h z in
      let i : inside_of p (length n) (length l) ≡ true = zero_inside n l p r in
      record { zero_rule = z; there = below h z; at = e; within = i; right = sym (rule_inside n l p i) ∙ r }

  -- the hull that is lent its own lists breaks no rule
  pub breaks_none : {h : ℕ} {p : Place} {s : HullSize} {m : List Float} {k : List ℕ} → Ready h p → s ≡ p.size → m ≡ numbers_at n p → k ≡ links_at l p
      → broken_rule s m k ≡ 0
  breaks_none g es em ek = rw (es, em, ek) g.right

  pub refuses_1 : (a b : ℕ) (x : Transform) (c : SatCache) → (number_rule n l hs a ≡ 0 → ⊥) → refused_of 1 c ≡ pair_answer n l hs a b x c
  unfolding pair_answer
  refuses_1 a b x c h = simp (ne_eqb _ _ h)

  pub refuses_2 : (a b : ℕ) (x : Transform) (c : SatCache) → number_rule n l hs a ≡ 0 → (number_rule n l hs b ≡ 0 → ⊥)
      → refused_of 2 c ≡ pair_answer n l hs a b x c
  unfolding pair_answer
  refuses_2 a b x c g h = simp (eq-eqb _ _ g, ne_eqb _ _ h)

  pub calls : (a b : ℕ) (x : Transform) (c : SatCache) → number_rule n l hs a ≡ 0 → number_rule n l hs b ≡ 0
      → call_at n l hs (place_of hs a) (place_of hs b) x c ≡ pair_answer n l hs a b x c
  unfolding pair_answer
  calls a b x c g h = simp (eq-eqb _ _ g, eq-eqb _ _ h)

  pub called : {a b : ℕ} {p q : Place} {s t : HullSize} {m o : List Float} {k j : List ℕ} {r : Answer} (x : Transform) (c : SatCache)
      → Ready a p → Ready b q → s ≡ p.size → m ≡ numbers_at n p → k ≡ links_at l p → t ≡ q.size → o ≡ numbers_at n q → j ≡ links_at l q
      → r ≡ collide_of s m k t o j x (pos 4) c → r ≡ pair_answer n l hs a b x c
  unfolding call_at
  called {a} {b} {p} {q} x c g h es em ek et eo ej w =
      w ∙ (rw (es, em, ek, et, eo, ej)
      (ap (λ y. call_at n l hs y q x c) g.at ∙ (ap (λ y. call_at n l hs (place_of hs a) y x c) h.at ∙ calls a b x c g.zero_rule h.zero_rule)))

  -- no answer has more than four points
  pub few : (a b : ℕ) (x : Transform) (c : SatCache) → (pair_answer n l hs a b x c).outcome.contact.count ≤ 4
  unfolding pair_answer call_at
  few a b x c =
      either (eqb (number_rule n l hs a) 0)
      (cond (eqb (number_rule n l hs b) 0) (call_at n l hs (place_of hs a) (place_of hs b) x c) (refused_of 2 c)) (refused_of 1 c)
      (either (eqb (number_rule n l hs b) 0) (call_at n l hs (place_of hs a) (place_of hs b) x c) (refused_of 2 c)
      (few_call _ _ _ _ _ _ x (pos 4) c) (few_refused 2 c))
      (few_refused 1 c)
    where
      either : (t : Bool) (y z : Answer) → y.outcome.contact.count ≤ 4 → z.outcome.contact.count ≤ 4 → (cond t y z).outcome.contact.count ≤ 4
      either true y z h k = h
      either false y z h k = k
