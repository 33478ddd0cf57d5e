-- The lists of a step: both sides of each limit, and which value stands at which place, one row each. Assumes nothing.
use mathlib.Core.Path.{◌≡◌, refl}
use mathlib.Core.Bool.{Bool}
use mathlib.Core.List.{List, [], ◌∷◌, ◌++◌, map}
use Prim.Native.Nat.{ℕ, ◌+◌}
use lib.Ieee.{Float, to_bits}
use lib.Ieee as Ieee
use Rattle.vector.specs.declared.Transform.{Transform}
use Rattle.vector.specs.Rounded.{float}
use Rattle.manifold.specs.declared.Point.{Point}
use Rattle.manifold.specs.declared.SatCache.{SatCache}
use Rattle.manifold.specs.declared.Outcome.{Outcome}
use Rattle.hull_links.specs.Tests.{◌&◌}
use Rattle.pools.specs.declared.Place.{Place}
use Rattle.pools.specs.Pools.{place_of, inside_of, rule_at}
use Rattle.pools_rows.specs.Rows.{transform_in, cache_from, cache_in, cache_words, contact_floats}
use Rattle.pools_pairs.specs.inner.Judged.{hull_rule}
use Rattle.step.specs.Step.{room_of, record_bytes}
use Rattle.computed.proofs.Rows.{Row, row, is, yes, no, given, said, bits, vec, sizes}

-- room for two hulls and three pairs
abbrev room : (transforms judged caches floats bytes : ℕ) → Bool
room = room_of 12 6

abbrev rooms : List Row
rooms =
    yes (room 21 2 6 57 72) ∷ yes (room 22 3 7 58 73)
    ∷ no (room 20 2 6 57 72) ∷ no (room 21 1 6 57 72) ∷ no (room 21 2 5 57 72) ∷ no (room 21 2 6 56 72) ∷ no (room 21 2 6 57 71)
    -- a part of a hull and half a pair at the end are none; nothing needs no room
    ∷ yes (room_of 17 7 21 2 6 57 72) ∷ no (room_of 18 7 21 2 6 57 72) ∷ no (room_of 17 8 21 2 6 57 72) ∷ yes (room_of 5 1 0 0 0 0 0) ∷ []

-- a tetrahedron whose 34 numbers begin at 10 and whose 56 links begin at 3
abbrev there : Place
there = record { numbers = 10; links = 3; size = sizes 4 12 4 }

-- its words, behind another hull's
abbrev words : List ℕ
words = 7 ∷ 7 ∷ 7 ∷ 7 ∷ 7 ∷ 7 ∷ 10 ∷ 3 ∷ 1 ∷ 4 ∷ 12 ∷ 4 ∷ []

abbrev read : Place
read = place_of words 1

abbrev hulls : List Row
hulls =
    yes (inside_of there 44 59) ∷ no (inside_of there 43 59) ∷ no (inside_of there 44 58)
    ∷ row (read.numbers ∷ read.links ∷ read.size.unit ∷ read.size.vertices ∷ read.size.half_edges ∷ read.size.faces ∷ [])
    (10 ∷ 3 ∷ 1 ∷ 4 ∷ 12 ∷ 4 ∷ [])
    -- lists that do not lie inside: 1; so is a number that is no hull's
    ∷ is (rule_at [] [] there) 1 ∷ is (hull_rule (0 ∷ 6 ∷ 9 ∷ []) 2 0) 0 ∷ is (hull_rule (0 ∷ 6 ∷ 9 ∷ []) 2 1) 6 ∷ is (hull_rule (0 ∷ 6 ∷ 9 ∷ []) 2 2) 1 ∷ []

-- ---- a pair's places
abbrev fields : SatCache → List ℕ
fields c = c.separation ∷ c.kind ∷ c.index_a ∷ c.index_b ∷ c.hit ∷ []

abbrev point : ℕ → ℕ → ℕ → Point
point f tag place =
    record {
      position = vec f (f + 1) (f + 2);
      separation = float (f + 3);
      pair = record { owner1 = tag; index1 = tag + 1; owner2 = tag + 2; index2 = tag + 3 };
      place = place;
    }

abbrev outcome : Outcome
outcome = record {
  status = 91;
  contact = record { points = point 4 11 31 ∷ point 8 15 32 ∷ point 12 19 33 ∷ point 16 23 34 ∷ []; normal = vec 1 2 3; count = 92 };
  retired = 93;
}

abbrev floats : List Float
floats = map float (1 ∷ 2 ∷ 3 ∷ 4 ∷ 5 ∷ 6 ∷ 7 ∷ 8 ∷ 9 ∷ 10 ∷ 11 ∷ 12 ∷ 13 ∷ 14 ∷ 15 ∷ [])

abbrev moved : Transform
moved = transform_in floats 1

abbrev pairs : List Row
pairs =
    -- the type stands in the low byte, then index_a, index_b, hit
    row (fields (cache_from 5 0x0403_0201)) (5 ∷ 1 ∷ 2 ∷ 3 ∷ 4 ∷ []) ∷ row (fields (cache_in (9 ∷ 9 ∷ 6 ∷ 0xff80_0102 ∷ []) 1)) (6 ∷ 2 ∷ 1 ∷ 0x80 ∷ 0xff ∷ [])
    ∷ row (cache_words (cache_from 5 0x0403_0201)) (5 ∷ 0x0403_0201 ∷ []) ∷ row (cache_words (cache_from 0 0xffff_ffff)) (0 ∷ 0xffff_ffff ∷ [])
    -- position, quaternion, scalar last
    ∷ row (map bits (moved.p.x ∷ moved.p.y ∷ moved.p.z ∷ moved.q.v.x ∷ moved.q.v.y ∷ moved.q.v.z ∷ moved.q.s ∷ []))
    (8 ∷ 9 ∷ 10 ∷ 11 ∷ 12 ∷ 13 ∷ 14 ∷ [])
    -- normal, then four times position and separation; status, count, mark, 0, four tags, four places
    ∷ row (map bits (contact_floats outcome.contact)) (1 ∷ 2 ∷ 3 ∷ 4 ∷ 5 ∷ 6 ∷ 7 ∷ 8 ∷ 9 ∷ 10 ∷ 11 ∷ 12 ∷ 13 ∷ 14 ∷ 15 ∷ 16 ∷ 17 ∷ 18 ∷ 19 ∷ [])
    ∷ row (record_bytes outcome)
    (91 ∷ 92 ∷ 93 ∷ 0 ∷ 11 ∷ 12 ∷ 13 ∷ 14 ∷ 15 ∷ 16 ∷ 17 ∷ 18 ∷ 19 ∷ 20 ∷ 21 ∷ 22 ∷ 23 ∷ 24 ∷ 25 ∷ 26 ∷ 31 ∷ 32 ∷ 33 ∷ 34 ∷ []) ∷ []

abbrev rows : List Row
rows = rooms ++ (hulls ++ pairs)

pub limits : given rows ≡ said rows
unfolding room_of ◌&◌ inside_of place_of rule_at hull_rule cache_from cache_in transform_in Ieee.of_bits Ieee.size to_bits
limits = refl
