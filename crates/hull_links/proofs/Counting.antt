-- How often numbers stand in lists: a list of numbers below n is as long as their counts below n come to. From it the pigeonhole, that a list with no
-- number twice is at most n long, and its converse, that a function onto the numbers below n takes none twice. Assumes nothing.
use mathlib.Core.Path.{◌≡◌, refl, sym, ap, ap₂, ◌∙◌, subst}
use mathlib.Core.Bool.{true, false, ◌||◌, or-true, false≢true}
use mathlib.Core.List.{List, [], ◌∷◌, ◌++◌}
use Prim.Native.Nat.{ℕ, zero, suc, ◌+◌, ◌≤◌, ◌<◌}
use native.Mathlib.Nat.{zero-add, lt_of_not-le}
use native.Mathlib.Omega.{arith}
use lib.Dec.{eqb, ltb}
use lib.ListN.{length, length-append}
use borrow.Author.Tests.{eqb-true, eqb-false, eq-eqb, ne_eqb, ltb-true, ltb-false}
use Rattle.hull_links.specs.Walks.{bit, count, has, firsts, joined}
use Rattle.hull_links.specs.inner.Sums.{sum}
use Rattle.hull_links.proofs.Tests.{cases}

-- ---- sums
pub sum_same : (f g : ℕ → ℕ) (k : ℕ) → ((e : ℕ) → e < k → f e ≡ g e) → sum f k ≡ sum g k
unfolding sum
sum_same f g zero h = refl
sum_same f g (suc k) h = ap₂ ◌+◌ (h k (omega arith)) (sum_same f g k (λ e l. h e (omega arith)))

pub sum_mono : (f g : ℕ → ℕ) (k : ℕ) → ((e : ℕ) → e < k → f e ≤ g e) → sum f k ≤ sum g k
unfolding sum
sum_mono f g zero h = omega arith
sum_mono f g (suc k) h = omega (arith, h k (omega arith), sum_mono f g k (λ e l. h e (omega arith)))

-- a number c at every place, and two sums in one
sum_const : (c : ℕ) → c ≤ 1 → (k : ℕ) → sum (λ e. c) k ≤ k
unfolding sum
sum_const c h zero = omega arith
sum_const c h (suc k) = omega (arith, sum_const c h k)

pub sum_zero : (k : ℕ) → sum (λ e. 0) k ≡ 0
unfolding sum
sum_zero zero = refl
sum_zero (suc k) = zero-add (sum (λ e. 0) k) ∙ sum_zero k

sum_add : (f g : ℕ → ℕ) (k : ℕ) → sum (λ e. f e + g e) k ≡ sum f k + sum g k
unfolding sum
sum_add f g zero = refl
sum_add f g (suc k) = let ih = sum_add f g k in omega arith

-- a sum is greater where one of its numbers is and none is less
pub sum_grows : (f g : ℕ → ℕ) (k x : ℕ) → ((e : ℕ) → e < k → f e ≤ g e) → x < k → f x < g x → sum f k < sum g k
unfolding sum
sum_grows f g zero x h l q = absurd (omega arith)
sum_grows f g (suc k) x h l q =
    cases (eqb x k) (λ t. omega (arith, subst (λ (y : ℕ). f y < g y) (eqb-true x k t) q, sum_mono f g k (λ e z. h e (omega arith))))
    (λ t. omega (arith, h k (omega arith), sum_grows f g k x (λ e z. h e (omega arith)) (omega (arith, eqb-false x k t)) q))

pub sum_one : (f : ℕ → ℕ) (k : ℕ) → ((e : ℕ) → e < k → f e ≡ 1) → sum f k ≡ k
unfolding sum
sum_one f zero h = refl
sum_one f (suc k) h = let a = h k (omega arith) in let b = sum_one f k (λ e l. h e (omega arith)) in omega arith

-- k numbers of at most 1 come to at most k, to less where one of them is 0; of at least 1 to more than k where one of them is 2 or more
pub sum_at_most : (f : ℕ → ℕ) (k : ℕ) → ((e : ℕ) → e < k → f e ≤ 1) → sum f k ≤ k
sum_at_most f k h = omega (arith, sum_mono f (λ e. 1) k h, sum_one (λ e. 1) k (λ e l. refl))

pub sum_less : (f : ℕ → ℕ) (k x : ℕ) → ((e : ℕ) → e < k → f e ≤ 1) → x < k → f x ≡ 0 → sum f k < k
sum_less f k x h l q = omega (arith, sum_grows f (λ e. 1) k x h l (omega arith), sum_one (λ e. 1) k (λ e l. refl))

sum_more : (f : ℕ → ℕ) (k x : ℕ) → ((e : ℕ) → e < k → 1 ≤ f e) → x < k → 2 ≤ f x → k < sum f k
sum_more f k x h l q = omega (arith, sum_grows (λ e. 1) f k x h l (omega arith), sum_one (λ e. 1) k (λ e l. refl))

-- a sum of one 1 at x
sum_miss : (x k : ℕ) → k ≤ x → sum (λ e. bit (eqb x e)) k ≡ 0
unfolding sum
sum_miss x zero h = refl
sum_miss x (suc k) h = rw (ne_eqb x k (λ e. omega arith)) (omega (arith, sum_miss x k (omega arith)))

pub sum_hit : (x k : ℕ) → x < k → sum (λ e. bit (eqb x e)) k ≡ 1
unfolding sum
sum_hit x zero h = absurd (omega arith)
sum_hit x (suc k) h =
    cases (eqb x k) (λ q. rw q (omega (arith, sum_miss x k (omega (arith, eqb-true x k q)))))
    (λ q. rw q (omega (arith, sum_hit x k (omega (arith, eqb-false x k q)))))

pub sum_bit : (x k : ℕ) → sum (λ f. bit (eqb x f)) k ≤ 1
sum_bit x k = cases (ltb x k) (λ t. omega (arith, sum_hit x k (ltb-true x k t))) (λ t. omega (arith, sum_miss x k (ltb-false x k t)))

-- ---- counts
count_append : (e : ℕ) (a b : List ℕ) → count e (a ++ b) ≡ count e a + count e b
unfolding count
count_append e [] b = sym (zero-add (count e b))
count_append e (x ∷ a) b = let ih = count_append e a b in omega arith

pub count_joined : (e : ℕ) (r : ℕ → List ℕ) (k : ℕ) → count e (joined r k) ≡ sum (λ f. count e (r f)) k
unfolding count joined sum
count_joined e r zero = refl
count_joined e r (suc k) = let ih = count_joined e r k in omega (arith, count_append e (joined r k) (r k))

pub has_count : (e : ℕ) (l : List ℕ) → has e l ≡ true → 1 ≤ count e l
unfolding has count
has_count e [] q = absurd (false≢true q)
has_count e (x ∷ l) q =
    cases (eqb x e) (λ t. rw t (omega arith)) (λ t. rw t (omega (arith, has_count e l (rw t at q))))

pub unhad : (e : ℕ) (l : List ℕ) → has e l ≡ false → count e l ≡ 0
unfolding has count
unhad e [] q = refl
unhad e (x ∷ l) q =
    cases (eqb x e) (λ t. absurd (false≢true (sym q ∙ rw t))) (λ t. rw t (omega (arith, unhad e l (rw t at q))))

-- a list of numbers below n is as long as its counts come to
pub length_sum : (l : List ℕ) (n : ℕ) → ((e : ℕ) → n ≤ e → count e l ≡ 0) → length l ≡ sum (λ e. count e l) n
unfolding count
length_sum [] n h = sym (sum_zero n)
length_sum (x ∷ l) n h =
    let a = length_sum l n (λ e q. omega (arith, h e q)) in
    let b = sum_add (λ e. bit (eqb x e)) (λ e. count e l) n in
    let c = sum_hit x n (lt_of_not-le (λ q. let z = rw (eq-eqb x x refl) at (h x q) in omega arith)) in
    omega arith

-- the pigeonhole: a list with no number twice, of numbers below n, is at most n long
pub at_most_lem : (l : List ℕ) (n : ℕ) → ((e : ℕ) → n ≤ e → count e l ≡ 0) → ((e : ℕ) → count e l ≤ 1) → length l ≤ n
at_most_lem l n h t = omega (arith, length_sum l n h, sum_at_most (λ e. count e l) n (λ e q. t e))

-- ---- what stands in lists put together
pub has_append : (e : ℕ) (a b : List ℕ) → has e (a ++ b) ≡ (has e a || has e b)
unfolding has
has_append e [] b = refl
has_append e (x ∷ a) b = cases (eqb x e) (λ t. rw t) (λ t. rw t (has_append e a b))

pub has_joined : (e : ℕ) (r : ℕ → List ℕ) (k : ℕ) → has e (joined r k) ≡ true → (f : ℕ) × (f < k) × (has e (r f) ≡ true)
unfolding joined has
has_joined e r zero h = absurd (false≢true h)
has_joined e r (suc k) h =
    cases (has e (joined r k))
    (λ t. let i = has_joined e r k t in let l = i.1 in (i.0, omega arith, i.2))
    (λ t. (k, omega arith, rw (has_append e (joined r k) (r k), t) at h))

-- the lists of the first f are no longer than those of all k
pub joined_part : (r : ℕ → List ℕ) (f k : ℕ) → f ≤ k → length (joined r f) ≤ length (joined r k)
unfolding joined
joined_part r f zero l = let e : f ≡ 0 = omega arith in rw e (omega arith)
joined_part r f (suc k) l =
    cases (eqb f (suc k)) (λ t. rw (eqb-true f (suc k) t) (omega arith))
    (λ t. omega (arith, joined_part r f k (omega (arith, eqb-false f (suc k) t)), length-append (joined r k) (r k)))

-- ---- the values of a function below k
pub has_first : (f : ℕ → ℕ) (k i : ℕ) → i < k → has (f i) (firsts f k) ≡ true
unfolding firsts has
has_first f zero i l = absurd (omega arith)
has_first f (suc k) i l =
    rw (has_append (f i) (firsts f k) (f k ∷ []))
    (cases (eqb i k) (λ t. rw (eqb-true i k t, eq-eqb (f k) (f k) refl) (or-true (has (f k) (firsts f k))))
    (λ t. rw (has_first f k i (omega (arith, eqb-false i k t)))))

pub has_firsts : (f : ℕ → ℕ) (k e : ℕ) → has e (firsts f k) ≡ true → (i : ℕ) × (i < k) × (f i ≡ e)
unfolding firsts has
has_firsts f zero e h = absurd (false≢true h)
has_firsts f (suc k) e h =
    cases (has e (firsts f k))
    (λ u. let w = has_firsts f k e u in let l = w.1 in (w.0, omega arith, w.2))
    (λ u. (k, omega arith, cases (eqb (f k) e) (λ t. eqb-true (f k) e t) (λ t. absurd (false≢true (rw (has_append e (firsts f k) (f k ∷ []), u, t) at h)))))

length_firsts : (f : ℕ → ℕ) (k : ℕ) → length (firsts f k) ≡ k
unfolding firsts
length_firsts f zero = refl
length_firsts f (suc k) = omega (arith, length-append (firsts f k) (f k ∷ []), length_firsts f k)

count_one : (x : ℕ) → count x (x ∷ []) ≡ 1
unfolding count
count_one x = rw (eq-eqb x x refl)

twice : (f : ℕ → ℕ) (k i j : ℕ) → i < j → j < k → f i ≡ f j → 2 ≤ count (f j) (firsts f k)
unfolding firsts
twice f zero i j p q z = absurd (omega arith)
twice f (suc k) i j p q z =
    let a = count_append (f j) (firsts f k) (f k ∷ []) in
    cases (eqb j k)
    (λ t.
    let e = eqb-true j k t in
    let b : count (f j) (f k ∷ []) ≡ 1 = ap (λ (x : ℕ). count (f x) (f k ∷ [])) e ∙ count_one (f k) in
    omega (arith, has_count (f j) (firsts f k) (subst (λ (x : ℕ). has x (firsts f k) ≡ true) z (has_first f k i (omega arith)))))
    (λ t. omega (arith, twice f k i j p (omega (arith, eqb-false j k t)) z))

-- a function onto the numbers below n takes none of them twice
pub onto_once : (f : ℕ → ℕ) (n : ℕ) → ((e : ℕ) → e < n → f e < n) → ((e : ℕ) → e < n → (a : ℕ) × (a < n) × (f a ≡ e)) → (i j : ℕ) → i < j → j < n
    → f i ≡ f j → ⊥
onto_once f n closed onto i j p q z =
    let none : (e : ℕ) → n ≤ e → count e (firsts f n) ≡ 0
    = λ e g. cases (has e (firsts f n)) (λ u. let w = has_firsts f n e u in absurd (omega (arith, closed w.0 w.1, w.2)))
    (λ u. unhad e (firsts f n) u) in
    omega (
      arith,
      length_firsts f n,
      length_sum (firsts f n) n none,
      sum_more (λ e. count e (firsts f n)) n (f j)
          (λ e l. let w = onto e l in has_count e (firsts f n) (subst (λ (x : ℕ). has x (firsts f n) ≡ true) w.2 (has_first f n w.0 w.1)))
          (closed j q) (twice f n i j p q z),
    )
