-- One edge of B against the edges of A: the tests on what the lists hold are the tests of the definition. Assumes nothing.
use Prim.Native.Nat.{ℕ, ◌+◌, ◌*◌, ◌<◌, ◌≤◌}
use mathlib.Core.Path.{◌≡◌, refl, sym, ap, ◌∙◌, subst}
use mathlib.Core.Bool.{Bool, true, false, cond, ◌||◌}
use mathlib.Core.List.{List}
use native.Mathlib.Omega.{arith}
use lib.ListN.{length, take, get_or}
use lib.Ieee.{Float, nan}
use Rattle.vector.specs.declared.Vec3.{Vec3}
use Rattle.vector.specs.Rounded.{◌⊗◌}
use Rattle.hull_links.specs.declared.HullSize.{HullSize}
use Rattle.hull_links.specs.Links.{face}
use Rattle.axis_best.specs.declared.Lead.{Lead}
use Rattle.axis_best.specs.Leads.{lead_after}
use Rattle.axis_best.proofs.Searches.{goes_on}
use Rattle.hull.specs.Numbers.{plane_at}
use Rattle.axis_edges.specs.declared.Edge.{Edge}
use Rattle.axis_edges.specs.Edges.{dot_right, edge_of_a, passes_of, tried_of, edge_pair_of, row_pairs}
use Rattle.axis_lists.specs.inner.Lists.{Three, Row}
use Rattle.axis_lists.specs.inner.Fills.{Filled, dot_at}
use Rattle.axis_lists.proofs.Lists.{row_made, row_same}
use Rattle.axis_row.specs.inner.Marks.{at_least_eps, fails_first, passing, up_to}
use Rattle.axis_row.specs.inner.Sift.{fails_later}
use Rattle.axis_row.proofs.Passing.{Below, below_up, below_passing, front_below}
use Rattle.axis_row.specs.inner.Rows.{tried_at, RowReady}
use Rattle.axis_row.proofs.Products.{dot_turns}
use Rattle.axis_row.proofs.Passed.{none_pass, some_pass}

-- ---- one pair
in_order : (x y z : Bool) (t s : Lead) → cond (cond x false (cond y false (cond z false true))) t s ≡ cond x s (cond (y || z) s t)
in_order true y z t s = refl
in_order false true z t s = refl
in_order false false true t s = refl
in_order false false false t s = refl

pair_tests : (unit : ℕ) (a : Edge) (b : Edge) (i j : ℕ) (cba dba adc bdc : Float) (s : Lead)
    → cba ≡ dot_right b.normal0 a.direction → dba ≡ dot_right b.normal1 a.direction → adc ≡ dot_right a.normal0 b.direction
    → bdc ≡ dot_right a.normal1 b.direction
    → edge_pair_of unit a b i j s ≡ cond (at_least_eps (cba ⊗ dba)) s (cond (at_least_eps (adc ⊗ bdc) || at_least_eps (cba ⊗ bdc)) s
    (tried_of unit cba dba a b i j s))
unfolding edge_pair_of passes_of at_least_eps
pair_tests unit a b i j cba dba adc bdc s p q u v =
    rw (← p, ← q, ← u, ← v) (in_order (at_least_eps (cba ⊗ dba)) (at_least_eps (adc ⊗ bdc)) (at_least_eps (cba ⊗ bdc)) (tried_of unit cba dba a b i j s) s)

-- a pair that has passed is tried with what the code has read
pub tries : (unit : ℕ) (table : List Float) (p q : ℕ) (a : ℕ → Edge) (b : Edge) (j i k : ℕ) (x : Edge) (s r : Lead)
    → r ≡ tried_of unit (get_or table (p + k) nan) (get_or table (q + k) nan) x b k j s → x ≡ a k → k ≡ i → r ≡ tried_at unit table p q a b j i s
unfolding tried_at
tries unit table p q a b j i k x s r e u v =
    e
    ∙ ap (λ (y : Edge). tried_of unit (get_or table (p + k) nan) (get_or table (q + k) nan) y b k j s) u
    ∙ ap (λ (m : ℕ). tried_at unit table p q a b j m s) v

-- one turn of the search over a list: the pair that the list names is tried
abbrev pub listed : ℕ → List Float → ℕ → ℕ → (ℕ → Edge) → Edge → ℕ → List ℕ → ℕ → Lead → Lead
listed unit table p q a b j list m = tried_at unit table p q a b j (get_or list m 0)

pub list_turn : (unit : ℕ) (table : List Float) (p q : ℕ) (a : ℕ → Edge) (b : Edge) (j : ℕ) (list : List ℕ) (start : Lead) (k : ℕ) (lead next : Lead)
    (x : Edge) (i : ℕ) → lead ≡ lead_after (listed unit table p q a b j list) start k → lead.apart ≡ false
    → next ≡ tried_of unit (get_or table (p + i) nan) (get_or table (q + i) nan) x b i j lead → x ≡ a i → i ≡ get_or list k 0
    → next ≡ lead_after (listed unit table p q a b j list) start (k + 1)
list_turn unit table p q a b j list start k lead next x i e g h u v =
    goes_on (listed unit table p q a b j list) start k lead next e g (tries unit table p q a b j (get_or list k 0) i x lead next h u v)

-- ---- A's normals along B's edge
along_is : (d : Vec3) (g : ℕ → Vec3) (n : ℕ) (normals was is : List Float) → n ≤ length was → Three g n normals → Filled (dot_at d normals) 0 n was is
    → (f : ℕ) → f < n → get_or is f nan ≡ dot_right (g f) d
along_is d g n normals was is h t fill f q =
    let z : f ≡ 0 + f = omega arith in
    let row : Row d g n 0 is = row_same g normals (omega arith) t (row_made d normals (omega (arith, h)) fill) in
    ap (λ (i : ℕ). get_or is i nan) z ∙ row.each f q ∙ dot_turns d (g f)

module _ (s : HullSize) (n : List Float) (l : List ℕ) (count : ℕ) (normals : List Float) (b : Edge) (j : ℕ) (start : Lead)
    (table : List Float) (p q : ℕ)
    (ready : RowReady s n l count normals b j start table p q) (list : List ℕ) (m : ℕ) (front : take m list ≡ passing (fails_first table p q)
    (up_to count)) where
  abbrev a : ℕ → Edge
  a = edge_of_a s n l

  -- no edge of A passes the first test
  pub row_none : m ≡ 0 → start ≡ row_pairs s.unit a count b j start
  unfolding fails_first tried_at row_pairs
  row_none =
      none_pass (tried_at s.unit table p q a b j) (λ i. edge_pair_of s.unit (a i) b i j) (fails_first table p q)
      (λ i. at_least_eps (dot_right (a i).normal0 b.direction ⊗ dot_right (a i).normal1 b.direction) || at_least_eps
      (get_or table (p + i) nan ⊗ dot_right (a i).normal1 b.direction))
      start count
      (λ i h t. pair_tests s.unit (a i) b i j (get_or table (p + i) nan) (get_or table (q + i) nan) (dot_right (a i).normal0 b.direction)
      (dot_right (a i).normal1 b.direction) t
      (ready.row0.each i h) (ready.row1.each i h) refl refl)
      list m front

  -- the edges that pass all tests stand at the front of `out`
  pub row_some : (was along : List Float) → Filled (dot_at b.direction normals) 0 s.faces was along → s.faces ≤ length was
      → (out : List ℕ) (left : ℕ) (r : Lead) → left ≤ length out
      → take left out ≡ passing (fails_later table p along s l) (take m list) → r ≡ lead_after (λ k. tried_at s.unit table p q a b j (get_or out k 0))
      start left → r ≡ row_pairs s.unit a count b j start
  unfolding fails_first fails_later tried_at row_pairs edge_of_a
  row_some was along filled room =
      some_pass (tried_at s.unit table p q a b j) (λ i. edge_pair_of s.unit (a i) b i j) (fails_first table p q) (fails_later table p along s l) start count
      (λ i h t. pair_tests s.unit (a i) b i j (get_or table (p + i) nan) (get_or table (q + i) nan) (get_or along (face s l (2 * i)) nan)
      (get_or along (face s l (2 * i + 1)) nan) t
      (ready.row0.each i h) (ready.row1.each i h)
      (there (2 * i) (omega (arith, h, ready.few))) (there (2 * i + 1) (omega (arith, h, ready.few))))
      list m front
    where
      there : (e : ℕ) → e < s.half_edges → get_or along (face s l e) nan ≡ dot_right (plane_at s n (face s l e)).normal b.direction
      there e h = along_is b.direction (λ f. (plane_at s n f).normal) s.faces normals was along room ready.normals_stand filled
          (face s l e) (ready.edges_in.face_in e h)

  -- ---- the lists hold numbers of A's edges
  all_below : Below count (passing (fails_first table p q) (up_to count))
  all_below = below_passing (fails_first table p q) count (up_to count) (below_up count count (omega arith))

  pub first_below : m ≤ length list → (k : ℕ) → k < m → get_or list k 0 < count
  first_below h = front_below count m list (passing (fails_first table p q) (up_to count)) h front all_below

  pub later_below : (later : ℕ → Bool) (out : List ℕ) (left : ℕ) → left ≤ length out → take left out ≡ passing later (take m list) → (k : ℕ)
      → k < left → get_or out k 0 < count
  later_below later out left h e =
      front_below count left out (passing later (take m list)) h e (below_passing later count (take m list) (subst (Below count) (sym front) all_below))
