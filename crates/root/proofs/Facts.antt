-- The Boolean tests of `rounds` and `root_bits` as facts, and back. Assumes nothing.
use Prim.Native.Nat.{ℕ, ◌*◌, ◌^◌, ◌≤◌, ◌<◌}
use mathlib.Core.Bool.{◌&&◌}
use lib.Dec.{T, leb, ltb, le→leb, lt→ltb, leb→le, ltb→lt}
use lib.Ieee.Fits.{and_i, and_l, and_r}
use Rattle.root.specs.Root.{sq, sig, place, smallest, lower, upper, rounds, root_bits}

pub record Rounded (a c q k : ℕ) : Type 0 where
  pub at : sq (smallest k) * c ≤ a
  pub over : sq (lower q * 2 ^ k) * c < 4 * a
  pub under : 4 * a < sq (upper q * 2 ^ k) * c

pub record Rooted (a c r : ℕ) : Type 0 where
  pub lo : 8388608 ≤ r
  pub hi : r < 2139095040
  pub is : Rounded a c (sig r) (place r)

module _ (a c q k : ℕ) where
  abbrev x : ℕ
  x = sq (smallest k) * c

  abbrev y : ℕ
  y = sq (lower q * 2 ^ k) * c

  abbrev z : ℕ
  z = sq (upper q * 2 ^ k) * c

  rounded : T (rounds a c q k) → Rounded a c q k
  rounded t =
      let first = and_l (leb x a && ltb y (4 * a)) (ltb (4 * a) z) t in
      record {
        at = leb→le x a (and_l (leb x a) (ltb y (4 * a)) first);
        over = ltb→lt y (4 * a) (and_r (leb x a) (ltb y (4 * a)) first);
        under = ltb→lt (4 * a) z (and_r (leb x a && ltb y (4 * a)) (ltb (4 * a) z) t);
      }

  unrounded : Rounded a c q k → T (rounds a c q k)
  unrounded h =
      and_i (leb x a && ltb y (4 * a)) (ltb (4 * a) z)
      (and_i (leb x a) (ltb y (4 * a)) (le→leb x a h.at) (lt→ltb y (4 * a) h.over))
      (lt→ltb (4 * a) z h.under)

module _ (a c r : ℕ) where
  pub facts : T (root_bits a c r) → Rooted a c r
  unfolding root_bits
  facts t =
      let normal = and_l (leb 8388608 r && ltb r 2139095040) (rounds a c (sig r) (place r)) t in
      record {
        lo = leb→le 8388608 r (and_l (leb 8388608 r) (ltb r 2139095040) normal);
        hi = ltb→lt r 2139095040 (and_r (leb 8388608 r) (ltb r 2139095040) normal);
        is = rounded a c (sig r) (place r) (and_r (leb 8388608 r && ltb r 2139095040) (rounds a c (sig r) (place r)) t);
      }

  pub tests : Rooted a c r → T (root_bits a c r)
  unfolding root_bits
  tests h =
      and_i (leb 8388608 r && ltb r 2139095040) (rounds a c (sig r) (place r))
      (and_i (leb 8388608 r) (ltb r 2139095040) (le→leb 8388608 r h.lo) (lt→ltb r 2139095040 h.hi))
      (unrounded a c (sig r) (place r) h.is)
