-- Lists of numbers, and walks of a step function: the ring of s is s, step s, step (step s), .. until s comes again. Definitions only.
use Rattle.std.specs.Prelude.{◌≡◌, Bool, true, false, cond, ◌||◌, List, [], ◌∷◌, ◌++◌, ℕ, zero, suc, ◌+◌, ◌≤◌, ◌<◌, eqb, length}

-- 1 where the test is true
abbrev pub bit : Bool → ℕ
bit true = 1
bit false = 0

-- how often e stands in a list
unfoldable pub count : ℕ → List ℕ → ℕ
count e [] = 0
count e (x ∷ xs) = bit (eqb x e) + count e xs

-- whether e stands in a list
unfoldable pub has : ℕ → List ℕ → Bool
has e [] = false
has e (x ∷ xs) = eqb x e || has e xs

-- f 0, f 1, .., f (k - 1)
unfoldable pub firsts : (ℕ → ℕ) → ℕ → List ℕ
firsts f zero = []
firsts f (suc k) = firsts f k ++ (f k ∷ [])

-- the lists r 0, r 1, .., r (k - 1), one after the other
unfoldable pub joined : (ℕ → List ℕ) → ℕ → List ℕ
joined r zero = []
joined r (suc k) = joined r k ++ r k

-- each number below n stands in l exactly once, and nothing else does
pub record Once (n : ℕ) (l : List ℕ) : Type 0 where
  pub size : length l ≡ n
  pub each : (e : ℕ) → e < n → count e l ≡ 1
  pub none : (e : ℕ) → n ≤ e → count e l ≡ 0

-- c, step c, .. until s comes: at most k of them
unfoldable pub until : (ℕ → ℕ) → ℕ → ℕ → ℕ → List ℕ
until step s zero c = []
until step s (suc k) c = cond (eqb c s) [] (c ∷ until step s k (step c))

-- the ring of s: s, step s, .. until s comes again; a walk that is not back after n steps is cut off there
unfoldable pub ring : (ℕ → ℕ) → ℕ → ℕ → List ℕ
ring step n s = s ∷ until step s n (step s)

-- i steps from c
unfoldable pub steps : (ℕ → ℕ) → ℕ → ℕ → ℕ
steps step zero c = c
steps step (suc i) c = steps step i (step c)

-- the walk from s is back at s after as many steps as its ring is long, and these are at most n
pub record Closes (step : ℕ → ℕ) (n s : ℕ) : Type 0 where
  pub back : steps step (length (ring step n s)) s ≡ s
  pub short : length (ring step n s) ≤ n
