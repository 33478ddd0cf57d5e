-- The test h9 is true exactly of one closed shell, where H1 and H2 hold: H rounds find all that is reached, since after a round that finds nothing new no
-- later one does, and there are no more than H half-edges to find. Assumes nothing.
use mathlib.Core.Path.{◌≡◌, refl, sym, ap, ◌∙◌, subst}
use mathlib.Core.Bool.{Bool, true, false}
use mathlib.Core.List.{List}
use Prim.Native.Nat.{ℕ, zero, suc, ◌+◌, ◌-◌, ◌≤◌, ◌<◌}
use native.Mathlib.Nat.{zero-add}
use native.Mathlib.Omega.{arith}
use lib.Dec.{eqb}
use lib.ListN.{get_or}
use borrow.Author.Tests.{eqb-true, eq-eqb}
use Rattle.hull_links.specs.declared.HullSize.{HullSize}
use Rattle.hull_links.specs.Tests.{◌or◌, implies, all, any}
use Rattle.hull_links.specs.Walks.{bit}
use Rattle.hull_links.specs.inner.Sums.{sum}
use Rattle.hull_links.specs.Links.{next, twin, LinksFit}
use Rattle.hull_links.specs.Rules.{h2}
use Rattle.hull_links.proofs.Tests.{cases, and_left, and_right, and_intro, or_left, or_right, or_use, implies_use, not_implied, all_at, all_intro, not_all}
use Rattle.hull_links.proofs.Tests.{any_some, any_one}
use Rattle.hull_links.proofs.Counting.{sum_zero, sum_at_most, sum_grows}
use Rattle.hull_links.proofs.Facts.{next_lt, twin_lt}
use Rattle.hull_shell.specs.Shell.{Reached, first, by_next, by_twin, OneShell, is_in, listed, edges_with, leads, one_step_on, within, h9}

-- ---- a test as a number
bit_one : (a : Bool) → bit a ≤ 1
bit_one true = omega arith
bit_one false = omega arith

bit_mono : (a b : Bool) → (a ≡ true → b ≡ true) → bit a ≤ bit b
bit_mono true b h = rw (h refl) (omega arith)
bit_mono false b h = omega arith

-- ---- the list of a test's values
listed_at : (p : ℕ → Bool) (i k j : ℕ) → j < k → get_or (listed p i k) j false ≡ p (i + j)
unfolding listed
listed_at p i zero j l = absurd (omega arith)
listed_at p i (suc k) zero l = ap p (omega arith)
listed_at p i (suc k) (suc j) l = listed_at p (suc i) k j (omega arith) ∙ ap p (omega arith)

module _ (s : HullSize) (l : List ℕ) where
  abbrev H : ℕ
  H = s.half_edges

  abbrev W : ℕ → List Bool
  W k = within s l k

  in_set : (p : ℕ → Bool) (e : ℕ) → e < H → is_in (edges_with s p) e ≡ p e
  unfolding is_in edges_with
  in_set p e h = listed_at p 0 H e h ∙ ap p (zero-add e)

  in_wider : (k e : ℕ) → e < H → is_in (W (suc k)) e ≡ (is_in (W k) e or any (leads s l (W k) e) H)
  unfolding within one_step_on
  in_wider k e h = in_set (one_step_on s l (W k)) e h

  -- ---- what is reached is found: each round keeps what the last one found
  keeps : (k e : ℕ) → e < H → is_in (W k) e ≡ true → is_in (W (suc k)) e ≡ true
  keeps k e h q = in_wider k e h ∙ or_left _ _ q

  keeps_on : (i k e : ℕ) → e < H → is_in (W k) e ≡ true → is_in (W (i + k)) e ≡ true
  keeps_on zero k e h q = rw zero-add q
  keeps_on (suc i) k e h q =
      subst (λ (x : ℕ). is_in (W x) e ≡ true) (omega arith) (keeps (i + k) e h (keeps_on i k e h q))

  abbrev Closed : List Bool → Type 0
  Closed m = (d : ℕ) → d < H → is_in m d ≡ true → (is_in m (next s l d) ≡ true) × (is_in m (twin s l d) ≡ true)

  module _ (fi : LinksFit s l) (r2 : h2 s l ≡ true) where
    -- a round that finds nothing new leaves nothing to find
    nothing_new : (k : ℕ) → ((e : ℕ) → e < H → is_in (W (suc k)) e ≡ true → is_in (W k) e ≡ true) → Closed (W k)
    unfolding leads
    nothing_new k old d h q = (
      found_again (next s l d) (next_lt s l r2 d h) (or_left _ (eqb (twin s l d) (next s l d)) (eq-eqb (next s l d) (next s l d) refl)),
      found_again (twin s l d) (twin_lt s l r2 d h) (or_right (eqb (next s l d) (twin s l d)) _ (eq-eqb (twin s l d) (twin s l d) refl)),
    )
      where
        found_again : (e : ℕ) → e < H → (eqb (next s l d) e or eqb (twin s l d) e) ≡ true → is_in (W k) e ≡ true
        found_again e z t = old e z (in_wider k e z ∙ or_right _ _ (any_one (leads s l (W k) e) H d h (and_intro _ _ q t)))

    abbrev found : ℕ → ℕ
    found k = sum (λ e. bit (is_in (W k) e)) H

    -- what round k + 1 finds, round k found
    abbrev old : ℕ → ℕ → Bool
    old k e = implies (is_in (W (suc k)) e) (is_in (W k) e)

    one_round : {C : Type 0} (k : ℕ) → (Closed (W k) → C) → (found k < found (suc k) → C) → C
    one_round k over more =
        cases (all (old k) H) (λ t. over (nothing_new k (λ e h. implies_use _ _ (all_at (old k) H t e h))))
        (λ t.
        let d = not_all (old k) H t in
        let z = not_implied _ _ d.2 in
        more (sum_grows (λ e. bit (is_in (W k) e)) (λ e. bit (is_in (W (suc k)) e)) H d.0 (λ e h. bit_mono _ _ (keeps k e h)) d.1
        (rw (z.0, z.1) (omega arith))))

    one_found : 0 < found 0
    unfolding within
    one_found =
        let z : 0 < H = omega (arith, fi.h_low) in
        let start : 0 < bit (is_in (W 0) 0) = rw (in_set (λ x. eqb x 0) 0 z) (omega arith) in
        omega (arith, sum_zero H, sum_grows (λ e. 0) (λ e. bit (is_in (W 0) e)) H 0 (λ e h. omega arith) z start)

    climb : {C : Type 0} → ((j : ℕ) → j ≤ H → Closed (W j) → C) → (k : ℕ) → k ≤ H → (k < found k → C) → C
    climb done zero h more = more one_found
    climb done (suc k) h more =
        climb done k (omega arith) (λ z. one_round k (λ w. done k (omega arith) w) (λ w. more (omega arith)))

    closed_in : (m : List Bool) → is_in m 0 ≡ true → Closed m → (e : ℕ) → Reached s l e → (e < H) × (is_in m e ≡ true)
    closed_in m o w _ first = (omega (arith, fi.h_low), o)
    closed_in m o w _ (by_next e r) = let z = closed_in m o w e r in (next_lt s l r2 e z.0, (w e z.0 z.1).0)
    closed_in m o w _ (by_twin e r) = let z = closed_in m o w e r in (twin_lt s l r2 e z.0, (w e z.0 z.1).1)

    first_in : (k : ℕ) → is_in (W k) 0 ≡ true
    unfolding within
    first_in zero = in_set (λ x. eqb x 0) 0 (omega (arith, fi.h_low))
    first_in (suc k) = keeps k 0 (omega (arith, fi.h_low)) (first_in k)

    pub complete : (e : ℕ) → Reached s l e → is_in (W H) e ≡ true
    complete e r =
        climb
        (λ j h w. let z = closed_in (W j) (first_in j) w e r in
        subst (λ (x : ℕ). is_in (W x) e ≡ true) (omega arith) (keeps_on (H - j) j e z.0 z.1))
        H (omega arith)
        (λ z. absurd (omega (arith, sum_at_most (λ e. bit (is_in (W H) e)) H (λ e h. bit_one (is_in (W H) e)))))

    -- ---- what the rounds find is reached
    pub sound : (k e : ℕ) → e < H → is_in (W k) e ≡ true → Reached s l e
    unfolding within leads
    sound zero e h q = subst (Reached s l) (sym (eqb-true e 0 (sym (in_set (λ x. eqb x 0) e h) ∙ q))) first
    sound (suc k) e h q =
        or_use (is_in (W k) e) (any (leads s l (W k) e) H) (sym (in_wider k e h) ∙ q) (λ t. sound k e h t)
        (λ t.
        let d = any_some (leads s l (W k) e) H t in
        let r = sound k d.0 d.1 (and_left _ _ d.2) in
        or_use (eqb (next s l d.0) e) (eqb (twin s l d.0) e) (and_right _ _ d.2)
        (λ u. subst (Reached s l) (eqb-true (next s l d.0) e u) (by_next d.0 r))
        (λ u. subst (Reached s l) (eqb-true (twin s l d.0) e u) (by_twin d.0 r)))

    -- ---- the theorem, both ways
    pub one_shell : h9 s l ≡ true → OneShell s l
    unfolding h9
    one_shell t = record {
      reached = λ e h. sound H e h (all_at _ _ (and_left _ _ t) e h);
      euler = eqb-true _ _ (and_right _ _ t);
    }

    pub shell_tested : OneShell s l → h9 s l ≡ true
    unfolding h9
    shell_tested o = and_intro _ _ (all_intro (is_in (W H)) H (λ e h. complete e (o.reached e h))) (eq-eqb _ _ o.euler)

    pub not_one_shell : (OneShell s l → ⊥) → h9 s l ≡ false
    not_one_shell nay = cases (h9 s l) (λ t. absurd (nay (one_shell t))) (λ t. t)
