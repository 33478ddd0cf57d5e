-- A row of a table: what the definitions give, and what document 01 says; and the values that many rows are about. Definitions only.
use mathlib.Core.Bool.{Bool}
use mathlib.Core.List.{List, [], ◌∷◌, map}
use Prim.Native.Nat.{ℕ}
use lib.Ieee.{Float, binary32, to_bits}
use Rattle.vector.specs.Rounded.{float}
use Rattle.vector.specs.declared.Vec3.{Vec3}
use Rattle.vector.specs.declared.Transform.{Transform}
use Rattle.hull_links.specs.declared.HullSize.{HullSize}
use Rattle.hull_links.specs.Walks.{bit}

pub record Row : Type 0 where
  pub got : List ℕ
  pub want : List ℕ

abbrev pub row : List ℕ → List ℕ → Row
row g w = record { got = g; want = w }

-- one number
abbrev pub is : ℕ → ℕ → Row
is g w = row (g ∷ []) (w ∷ [])

-- a test that passes, and one that fails
abbrev pub yes : Bool → Row
yes b = is (bit b) 1

abbrev pub no : Bool → Row
no b = is (bit b) 0

-- all that is given, and all that is said
abbrev pub given : List Row → List (List ℕ)
given rows = map (λ (r : Row). r.got) rows

abbrev pub said : List Row → List (List ℕ)
said rows = map (λ (r : Row). r.want) rows

abbrev pub bits : Float → ℕ
bits x = to_bits binary32 x

-- a vector by its bits; sizes at a unit, and sizes in metres
abbrev pub vec : ℕ → ℕ → ℕ → Vec3
vec x y z = record { x = float x; y = float y; z = float z }

abbrev pub sizes_at : (unit v h f : ℕ) → HullSize
sizes_at unit v h f = record { unit = unit; vertices = v; half_edges = h; faces = f }

abbrev pub sizes : ℕ → ℕ → ℕ → HullSize
sizes v h f = sizes_at 1 v h f

-- at x and z, not turned
abbrev pub at : ℕ → ℕ → Transform
at x z = record { p = vec x 0 z; q = record { v = vec 0 0 0; s = float 0x3f80_0000 } }
