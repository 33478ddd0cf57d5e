-- The table of dots: filled row by row, each row kept by the later ones; then read by face. Assumes nothing.
use Prim.Native.Nat.{ℕ, suc, ◌+◌, ◌*◌, ◌<◌, ◌≤◌}
use mathlib.Core.Path.{◌≡◌, sym, ap, ◌∙◌, subst}
use mathlib.Core.List.{List}
use native.Mathlib.Nat.{mul-le-mul_right}
use native.Mathlib.Omega.{arith}
use borrow.Author.Count.{below_more}
use lib.ListN.{length}
use lib.Ieee.{Float}
use Rattle.vector.specs.declared.Vec3.{Vec3}
use Rattle.hull_links.specs.declared.HullSize.{HullSize}
use Rattle.hull_links.specs.Links.{face}
use Rattle.axis_edges.specs.declared.Edge.{Edge}
use Rattle.axis_lists.specs.inner.Lists.{vector_in, Row}
use Rattle.axis_lists.specs.inner.Fills.{Filled, dot_at}
use Rattle.axis_lists.proofs.Lists.{row_made, row_kept}
use Rattle.axis_pairs.specs.inner.Pairs.{edge_in, Table, BothRows}

-- row f ends before row k begins
rows_apart : (f k n : ℕ) → f < k → f * n + n ≤ k * n
rows_apart f k n h = let e : suc f * n ≡ f * n + n = omega arith in subst (λ (z : ℕ). z ≤ k * n) e (mul-le-mul_right n h)

-- ---- the loop: the first f rows stand in the table
pub record Filling (turned : List Float) (g : ℕ → Vec3) (n : ℕ) (was : List Float) (f : ℕ) (table : List Float) : Type 0 where
  pub long : length table ≡ length was
  pub rows : Table turned f g n table

module _ (turned ds : List Float) (n : ℕ) (was : List Float) where
  module _ (faces f : ℕ) (table : List Float) (t : Filling turned (vector_in ds) n was f table) where
    pub room : f < faces → faces * n ≤ length was → f * n + n ≤ length table
    room h k = omega (arith, rows_apart f faces n h, k, t.long)

    pub goes_on : (v : Vec3) (is : List Float) → v ≡ vector_in turned f → f * n + n ≤ length table → Filled (dot_at v ds) (f * n) n table is
        → Filling turned (vector_in ds) n was (f + 1) is
    goes_on v is e h fill =
        let made : Row (vector_in turned f) (vector_in ds) n (f * n) is =
        subst (λ (c : Vec3). Row c (vector_in ds) n (f * n) is) e (row_made v ds h fill) in
        record {
          long = fill.long ∙ t.long;
          rows = record {
            row = below_more (λ k. Row (vector_in turned k) (vector_in ds) n (k * n) is) f
                (λ k q. row_kept (vector_in turned k) (dot_at v ds) (t.rows.row k q) (rows_apart k f n q) fill)
                made;
          };
        }

-- ---- reading: the rows of the two faces of an edge of B, under the names that the code has
row_of : (turned : List Float) (faces : ℕ) (g : ℕ → Vec3) (n : ℕ) (table : List Float) → Table turned faces g n table → (f : ℕ) → f < faces
    → (c : Vec3) (p : ℕ) → c ≡ vector_in turned f → p ≡ f → Row c g n (p * n) table
row_of turned faces g n table t f h c p e d =
    subst (λ (m : ℕ). Row c g n (m * n) table) (sym d) (subst (λ (v : Vec3). Row v g n (f * n) table) (sym e) (t.row f h))

pub both_of : (turned points : List Float) (s : HullSize) (l : List ℕ) (g : ℕ → Vec3) (n : ℕ) (table : List Float) → Table turned s.faces g n table
    → (j : ℕ) (b : Edge) → b ≡ edge_in turned points s l j → (p q : ℕ) → face s l (2 * j) < s.faces → face s l (2 * j + 1) < s.faces
    → p ≡ face s l (2 * j) → q ≡ face s l (2 * j + 1) → BothRows b g n (p * n) (q * n) table
unfolding edge_in
both_of turned points s l g n table t j b e p q h0 h1 d0 d1 =
    record {
      row0 = row_of turned s.faces g n table t (face s l (2 * j)) h0 b.normal0 p (ap (λ (x : Edge). x.normal0) e) d0;
      row1 = row_of turned s.faces g n table t (face s l (2 * j + 1)) h1 b.normal1 q (ap (λ (x : Edge). x.normal1) e) d1;
    }
