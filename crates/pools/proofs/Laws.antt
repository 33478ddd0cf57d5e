-- What the definitions of pools give, by cases. Assumes nothing.
use Prim.Native.Nat.{ℕ, ◌+◌, ◌*◌, ◌-◌, ◌≤◌, ◌<◌}
use mathlib.Core.Bool.{Bool, true, false, cond}
use mathlib.Core.List.{List}
use mathlib.Core.Path.{◌≡◌, refl, sym, ap, ◌∙◌}
use native.Mathlib.Omega.{arith}
use borrow.Author.Tests.{leb-true, le-leb, lt-leb}
use lib.Dec.{leb}
use lib.ListN.{length, get_or, take, drop}
use lib.Ieee.{Float}
use Rattle.hull_links.proofs.Tests.{and_left, and_right, and_false_left, and_last}
use Rattle.hull_links.specs.declared.HullSize.{HullSize}
use Rattle.hull.specs.Rule8.{broken_rule}
use Rattle.pools.specs.declared.Place.{Place}
use Rattle.pools.specs.Pools.{numbers_end, links_end, inside_of, numbers_at, links_at, rule_at, place_of}
use Rattle.pools.specs.inner.Reads.{Words, PlaceRead}

pub inside_not : (p : Place) (n l e : ℕ) → e ≡ numbers_end p → n < e → false ≡ inside_of p n l
unfolding inside_of
inside_not p n l e h k = sym (and_false_left _ _ (lt-leb (numbers_end p) n (omega arith)))

pub inside_links : (p : Place) (n l e f : ℕ) → e ≡ numbers_end p → f ≡ links_end p → e ≤ n → leb f l ≡ inside_of p n l
unfolding inside_of
inside_links p n l e f h k m = and_last _ _ _ (le-leb (numbers_end p) n (omega arith)) (ap (λ x. leb x l) k)

-- both lists lie inside
pub record Lies (p : Place) (n l : ℕ) : Type 0 where
  pub numbers_in : numbers_end p ≤ n
  pub links_in : links_end p ≤ l

pub lies : (p : Place) (n l : ℕ) → inside_of p n l ≡ true → Lies p n l
unfolding inside_of
lies p n l h = record { numbers_in = leb-true _ _ (and_left _ _ h); links_in = leb-true _ _ (and_right _ _ h) }

pub rule_outside : (n : List Float) (l : List ℕ) (p : Place) → inside_of p (length n) (length l) ≡ false → 1 ≡ rule_at n l p
unfolding rule_at
rule_outside n l p h = simp h

pub rule_inside : (n : List Float) (l : List ℕ) (p : Place) → inside_of p (length n) (length l) ≡ true
    → rule_at n l p ≡ broken_rule p.size (numbers_at n p) (links_at l p)
unfolding rule_at
rule_inside n l p h = simp h

-- the parts of the pools that code takes are the hull's lists
pub numbers_part : (n : List Float) (p : Place) {e : ℕ} → e ≡ numbers_end p → take (e - p.numbers) (drop p.numbers n) ≡ numbers_at n p
unfolding numbers_at
numbers_part n p h = ap (λ x. take (x - p.numbers) (drop p.numbers n)) h

pub links_part : (l : List ℕ) (p : Place) {e : ℕ} → e ≡ links_end p → take (e - p.links) (drop p.links l) ≡ links_at l p
unfolding links_at
links_part l p h = ap (λ x. take (x - p.links) (drop p.links l)) h

-- a hull that was judged 0 lies inside, and breaks no rule
inside_of_zero : (b : Bool) (r : ℕ) → cond b r 1 ≡ 0 → b ≡ true
inside_of_zero true r h = refl
inside_of_zero false r h = absurd (omega (arith, h))

pub zero_inside : (n : List Float) (l : List ℕ) (p : Place) → rule_at n l p ≡ 0 → inside_of p (length n) (length l) ≡ true
unfolding rule_at
zero_inside n l p h = inside_of_zero _ (broken_rule p.size (numbers_at n p) (links_at l p)) h

pub rule_judged : (n : List Float) (l : List ℕ) (p : Place) {s : HullSize} {m : List Float} {k : List ℕ} {r : ℕ}
    → inside_of p (length n) (length l) ≡ true → s ≡ p.size → m ≡ numbers_at n p → k ≡ links_at l p → r ≡ broken_rule s m k → r ≡ rule_at n l p
rule_judged n l p h es em ek g = g ∙ (rw (es, em, ek) (sym (rule_inside n l p h)))

-- the words of a hull
pub words_read : (hs : List ℕ) (h : ℕ) (p : Place) → p.numbers ≡ get_or hs (6 * h) 0 → p.links ≡ get_or hs (6 * h + 1) 0
    → p.size.unit ≡ get_or hs (6 * h + 2) 0 → p.size.vertices ≡ get_or hs (6 * h + 3) 0
    → p.size.half_edges ≡ get_or hs (6 * h + 4) 0 → p.size.faces ≡ get_or hs (6 * h + 5) 0 → Words p → PlaceRead hs h p
unfolding place_of
words_read hs h p a b u d e f w = record { is = same_place a b u d e f; words = w }
  where
    same_place : {p q : Place} → p.numbers ≡ q.numbers → p.links ≡ q.links → p.size.unit ≡ q.size.unit → p.size.vertices ≡ q.size.vertices
        → p.size.half_edges ≡ q.size.half_edges → p.size.faces ≡ q.size.faces → p ≡ q
    same_place a b u d e f = rw (a, b, u, d, e, f)
