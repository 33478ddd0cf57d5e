-- H9 of document 02, one closed shell: every half-edge can be reached from half-edge 0 by next and twin, and V - H/2 + F = 2. Definitions only.
-- `OneShell` says it; `h9` is a test that computes, so that it can stand beside the other rules: proofs/Theorem.antt shows that it is true exactly of
-- one shell.
use Rattle.std.specs.Prelude.{Bool, false, List, [], ◌∷◌, ◌≡◌, ℕ, zero, suc, ◌+◌, ◌/◌, ◌<◌, eqb, get_or}
use Rattle.hull_links.specs.declared.HullSize.{HullSize}
use Rattle.hull_links.specs.Tests.{◌&◌, ◌or◌, all, any}
use Rattle.hull_links.specs.Links.{next, twin}

-- a path of next and twin leads from half-edge 0 to e
pub data Reached (s : HullSize) (l : List ℕ) : ℕ → Type 0 where
  first : Reached s l 0
  by_next : (e : ℕ) → Reached s l e → Reached s l (next s l e)
  by_twin : (e : ℕ) → Reached s l e → Reached s l (twin s l e)

-- H9
pub record OneShell (s : HullSize) (l : List ℕ) : Type 0 where
  pub reached : (e : ℕ) → e < s.half_edges → Reached s l e
  pub euler : s.vertices + s.faces ≡ s.half_edges / 2 + 2

-- ---- the test: which half-edges are reached by paths of at most k steps. A set of half-edges is a list of tests, one for each.
unfoldable pub is_in : List Bool → ℕ → Bool
is_in set e = get_or set e false

-- p i, p (i + 1), ..: k of them
unfoldable pub listed : (ℕ → Bool) → ℕ → ℕ → List Bool
listed p i zero = []
listed p i (suc k) = p i ∷ listed p (suc i) k

-- the half-edges of which p is true
unfoldable pub edges_with : HullSize → (ℕ → Bool) → List Bool
edges_with s p = listed p 0 s.half_edges

-- d is in the set, and e is its next or its twin
unfoldable pub leads : HullSize → List ℕ → List Bool → ℕ → ℕ → Bool
leads s l set e d = is_in set d & (eqb (next s l d) e or eqb (twin s l d) e)

-- e is in the set, or the next or the twin of one that is
unfoldable pub one_step_on : HullSize → List ℕ → List Bool → ℕ → Bool
one_step_on s l set e = is_in set e or any (leads s l set e) s.half_edges

-- the half-edges that at most k steps of next and twin reach from half-edge 0
unfoldable pub within : HullSize → List ℕ → ℕ → List Bool
within s l zero = edges_with s (λ e. eqb e 0)
within s l (suc k) = edges_with s (one_step_on s l (within s l k))

-- H9. Every half-edge is reached from half-edge 0 by next and twin (no path needs more than H steps), and V - H/2 + F = 2.
unfoldable pub h9 : HullSize → List ℕ → Bool
h9 s l = all (is_in (within s l s.half_edges)) s.half_edges & eqb (s.vertices + s.faces) (s.half_edges / 2 + 2)
