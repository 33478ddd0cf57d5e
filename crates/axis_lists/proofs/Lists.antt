-- Three fills make a list of vectors, and one fill makes a row of dots, whatever the vectors are called. Assumes nothing.
use Prim.Native.Nat.{ℕ, ◌+◌, ◌*◌, ◌<◌, ◌≤◌}
use mathlib.Core.List.{List}
use mathlib.Core.Path.{◌≡◌, sym, ap, ◌∙◌, subst}
use native.Mathlib.Omega.{arith}
use borrow.Author.Count.{below_more}
use lib.Seq.{get_or-set_same, get_or-set_other}
use lib.ListN.{length, get_or, set, length-set}
use lib.Ieee.{Float, nan}
use Rattle.vector.specs.declared.Vec3.{Vec3}
use Rattle.hull_links.specs.declared.HullSize.{HullSize}
use Rattle.hull_links.specs.Links.{padded}
use Rattle.hull.specs.Numbers.{vertex_at}
use Rattle.axis_edges.specs.Edges.{dot_right, difference_of, edge_of_a}
use Rattle.axis_lists.specs.inner.Lists.{vector_in, Three, Row}
use Rattle.axis_lists.specs.inner.Fills.{Filled, dot_at, difference_at}

same_vector : {x y z : Float} {v : Vec3} → x ≡ v.x → y ≡ v.y → z ≡ v.z → ◌≡◌ {A = Vec3} (record { x = x; y = y; z = z }) v
same_vector p q r = rw (p, q, r)

pub three : (g : ℕ → Vec3) (n : ℕ) (l₀ l₁ l₂ l₃ : List Float) → length l₀ ≡ 384 → n ≤ 128
    → Filled (λ k. (g k).x) 0 n l₀ l₁ → Filled (λ k. (g k).y) 128 n l₁ l₂ → Filled (λ k. (g k).z) 256 n l₂ l₃ → Three g n l₃
unfolding vector_in
three g n l₀ l₁ l₂ l₃ e h a b c =
    record {
      long = c.long ∙ b.long ∙ a.long ∙ e;
      each = λ k q. same_vector {v = g k}
          (c.kept k (omega (arith, q, h)) ∙ b.kept k (omega (arith, q, h)) ∙ ap (λ (m : ℕ). get_or l₁ m nan) (zero_plus k) ∙ a.made k q)
          (c.kept (128 + k) (omega (arith, q, h)) ∙ b.made k q)
          (c.made k q);
    }
  where
    zero_plus : (k : ℕ) → k ≡ 0 + k
    zero_plus k = omega arith

-- the directions of A's edges, of the differences in the three lists of coordinates
pub directions_made : (s : HullSize) (xs : List Float) (l : List ℕ) (n y z : ℕ) (l₀ l₁ l₂ l₃ : List Float) → length l₀ ≡ 384 → n ≤ 128
    → y ≡ 6 + padded s
    → z ≡ 6 + 2 * padded s
    → Filled (difference_at xs l s 6) 0 n l₀ l₁
    → Filled (difference_at xs l s y) 128 n l₁ l₂
    → Filled (difference_at xs l s z) 256 n l₂ l₃
    → Three (λ k. (edge_of_a s xs l k).direction) n l₃
unfolding edge_of_a difference_of vertex_at
directions_made s xs l n y z l₀ l₁ l₂ l₃ e h p q a b c =
    three (λ k. (edge_of_a s xs l k).direction) n l₀ l₁ l₂ l₃ e h a (subst (λ (from : ℕ). Filled (difference_at xs l s from) 128 n l₁ l₂) p b)
    (subst (λ (from : ℕ). Filled (difference_at xs l s from) 256 n l₂ l₃) q c)

-- a row of dots along the vectors of a list
pub row_made : {n at : ℕ} {was is : List Float} (v : Vec3) (lists : List Float) → at + n ≤ length was → Filled (dot_at v lists) at n was is
    → Row v (vector_in lists) n at is
unfolding vector_in dot_right
row_made {n} {at} {was} {is} v lists h f = record { room = subst (λ (m : ℕ). at + n ≤ m) (sym f.long) h; each = λ k q. f.made k q }

-- a row that stands before the place where a fill begins
pub row_kept : {g : ℕ → Vec3} {n m p at : ℕ} {was is : List Float} (v : Vec3) (w : ℕ → Float) → Row v g n p was → p + n ≤ at → Filled w at m was is
    → Row v g n p is
row_kept {g} {n} {m} {p} {at} {was} {is} v w r h f =
    record {
      room = subst (λ (x : ℕ). p + n ≤ x) (sym f.long) r.room;
      each = λ k q. f.kept (p + k) (omega (arith, q, h)) ∙ r.each k q;
    }

-- the vectors of a list under another name, in a row that may be longer
pub row_same : {v : Vec3} {n width at : ℕ} {table : List Float} (g : ℕ → Vec3) (lists : List Float) → n ≤ width → Three g n lists
    → Row v (vector_in lists) width at table → Row v g n at table
row_same {v} g lists h e r = record { room = omega (arith, r.room, h); each = λ k q. r.each k (omega (arith, q, h)) ∙ ap (dot_right v) (e.each k q) }

-- ---- two rows in one pass
module _ {g : ℕ → Vec3} {n at behind i : ℕ} {table : List Float} (v w : Vec3) (x y : Float) (a : Row v g i at table) (b : Row w g i behind table)
    (apart : at + n ≤ behind) (room : behind + n ≤ length table) (h : i < n) (e : x ≡ dot_right v (g i)) (d : y ≡ dot_right w (g i)) where
  abbrev one : List Float
  one = set table (at + i) x

  abbrev both : List Float
  both = set one (behind + i) y

  pub two_long : length both ≡ length table
  two_long = length-set one (behind + i) y ∙ length-set table (at + i) x

  pub two_more : Row v g (i + 1) at both × Row w g (i + 1) behind both
  two_more = (
    record {
      room = omega (arith, two_long, apart, room, h);
      each = below_more (λ k. get_or both (at + k) nan ≡ dot_right v (g k)) i
          (λ k q. get_or-set_other one (behind + i) (at + k) y nan (λ z. omega (arith, z, q, h, apart))
          ∙ get_or-set_other table (at + i) (at + k) x nan (λ z. omega (arith, z, q)) ∙ a.each k q)
          (get_or-set_other one (behind + i) (at + i) y nan (λ z. omega (arith, z, h, apart))
          ∙ get_or-set_same table (at + i) x nan (omega (arith, apart, room, h)) ∙ e);
    },
    record {
      room = omega (arith, two_long, room, h);
      each = below_more (λ k. get_or both (behind + k) nan ≡ dot_right w (g k)) i
          (λ k q. get_or-set_other one (behind + i) (behind + k) y nan (λ z. omega (arith, z, q))
          ∙ get_or-set_other table (at + i) (behind + k) x nan (λ z. omega (arith, z, h, apart)) ∙ b.each k q)
          (get_or-set_same one (behind + i) y nan (omega (arith, length-set table (at + i) x, room, h)) ∙ d);
    },
  )
