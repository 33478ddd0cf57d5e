-- The examples that document 01 marks P, one row each: what the definitions give, and what the document says. Assumes nothing.
use mathlib.Core.Path.{◌≡◌, refl}
use mathlib.Core.List.{List, [], ◌∷◌}
use Prim.Native.Nat.{ℕ}
use lib.Ieee.{to_bits, lt}
use lib.Ieee as Ieee
use Rattle.root.specs.Root.{isqrt, pattern, root_of}
use Rattle.vector.specs.Rounded.{float}
use Rattle.vector.specs.declared.Plane.{Plane}
use Rattle.vector.specs.Arithmetic.{sub_of, dot_of, mul_add_of}
use Rattle.vector.specs.Shape.{plane_separation_of}
use Rattle.units.specs.Units.{units_per_meter}
use Rattle.units.specs.Limits.{huge}
use Rattle.bounds.specs.LowBits.{pattern_of, embed_of, index_of}
use Rattle.lanes.specs.declared.FloatW.{FloatW}
use Rattle.lanes.specs.Lanes.{embed_w_of, lesser_of, min_index_of}
use Rattle.manifold.specs.declared.FeaturePair.{FeaturePair}
use Rattle.manifold.specs.declared.ClipVertex.{ClipVertex}
use Rattle.manifold.specs.Pairs.{flip_of}
use Rattle.clip_cut.specs.Cut.{meeting_of, leaving_of, entering_of, put_out_of, cut_from, last_of, cut_of}
use Rattle.computed.proofs.Rows.{Row, row, is, given, said, bits}

-- "root of 40800000 is 40000000"
abbrev root_row : ℕ → ℕ → Row
root_row x r = is (bits (root_of (float x))) r

-- four lanes of v
abbrev splat : ℕ → FloatW
splat v = record { x = float v; y = float v; z = float v; w = float v }

abbrev lanes : FloatW → List ℕ
lanes v = bits v.x ∷ bits v.y ∷ bits v.z ∷ bits v.w ∷ []

-- a pair as its four numbers
abbrev numbers : FeaturePair → List ℕ
numbers p = p.owner1 ∷ p.index1 ∷ p.owner2 ∷ p.index2 ∷ []

abbrev flip_row : (a b c d e f g h : ℕ) → Row
flip_row a b c d e f g h = row (numbers (flip_of (record { owner1 = a; index1 = b; owner2 = c; index2 = d })).pair) (e ∷ f ∷ g ∷ h ∷ [])

-- the bits of 0, 1, 2 and -1
abbrev zero : ℕ
zero = 0

abbrev one : ℕ
one = 0x3f80_0000

abbrev two : ℕ
two = 0x4000_0000

abbrev minus_one : ℕ
minus_one = 0xbf80_0000

-- a corner at (x, y), on the reference plane z = 0
abbrev corner : ℕ → ℕ → ClipVertex
corner x y =
    record {
      position = record { x = float x; y = float y; z = float 0 };
      separation = float 0;
      pair = record { owner1 = 1; index1 = 0; owner2 = 1; index2 = 0 };
    }

-- x at most c
abbrev x_at_most : ℕ → Plane
x_at_most c = record { normal = record { x = float one; y = float 0; z = float 0 }; offset = float c }

abbrev level : Plane
level = record { normal = record { x = float 0; y = float 0; z = float one }; offset = float 0 }

-- where corners stand
abbrev spots : List ClipVertex → List ℕ
spots [] = []
spots (v ∷ vs) = bits v.position.x ∷ bits v.position.y ∷ spots vs

-- "Square (0,0), (2,0), (2,2), (0,2) cut to x at most 1"
abbrev cut_row : ℕ → List ℕ → Row
cut_row c want = row (spots (cut_of (x_at_most c) 7 level (corner zero zero ∷ corner two zero ∷ corner two two ∷ corner zero two ∷ []))) want

abbrev table : List Row
table =
    -- the square root
    root_row 0x4080_0000 0x4000_0000
    ∷ root_row 0x4000_0000 0x3fb5_04f3
    ∷ root_row 0x0000_0001 0x1a35_04f3
    ∷ root_row 0x8000_0000 0x8000_0000
    -- four lanes of 1.0 from base 4
    ∷ row (lanes (embed_w_of (splat 0x3f80_0000) 4)) (0x3f80_0004 ∷ 0x3f80_0005 ∷ 0x3f80_0006 ∷ 0x3f80_0007 ∷ [])
    -- the smallest of four equal lanes at base 0: 1.0 and -1.0
    ∷ is (min_index_of (embed_w_of (splat 0x3f80_0000) 0)) 0
    ∷ is (min_index_of (embed_w_of (splat 0xbf80_0000) 0)) 3
    -- the seven low bits of the starting support value
    ∷ is (index_of (huge 1)) 0
    -- flipped pairs
    ∷ flip_row 0 3 1 9 0 9 1 3
    ∷ flip_row 1 5 1 6 0 6 0 5
    -- the square cut to x at most 1, 2 and -1
    ∷ cut_row one (zero ∷ zero ∷ one ∷ zero ∷ one ∷ two ∷ zero ∷ two ∷ [])
    ∷ cut_row two (zero ∷ zero ∷ two ∷ zero ∷ two ∷ two ∷ zero ∷ two ∷ [])
    ∷ cut_row minus_one []
    ∷ []

pub marked : given table ≡ said table
unfolding units_per_meter huge root_of pattern isqrt Ieee.size Ieee.of_bits to_bits lt embed_w_of pattern_of embed_of index_of lesser_of min_index_of flip_of
    Ieee.add
    Ieee.sub Ieee.mul Ieee.div Ieee.neg Ieee.le sub_of dot_of mul_add_of plane_separation_of meeting_of leaving_of entering_of put_out_of cut_from last_of
    cut_of
marked = refl
