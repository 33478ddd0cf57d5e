-- The bytes of values, as document 01's section "The hex program" lists them: "Numbers have the high byte first .. and the cache's fields stand in
-- the record's order." Definitions only.
use Rattle.std.specs.Prelude.{ℕ, ◌/◌, ◌%◌, List, [], ◌∷◌, ◌++◌, get_or, Float}
use Rattle.std.specs.Float.{binary32}
use Rattle.std.specs.Float.Ieee.{to_bits}
use Rattle.vector.specs.declared.Vec3.{Vec3}
use Rattle.manifold.specs.declared.FeaturePair.{FeaturePair}
use Rattle.manifold.specs.declared.Point.{Point}
use Rattle.manifold.specs.declared.SatCache.{SatCache}
use Rattle.manifold.specs.declared.Contact.{Contact}
use Rattle.manifold.specs.declared.Answer.{Answer}
use Rattle.manifold.specs.Records.{past_point}

-- a number of 32 bits
abbrev pub bytes32 : ℕ → List ℕ
bytes32 x = x / 16777216 ∷ x / 65536 % 256 ∷ x / 256 % 256 ∷ x % 256 ∷ []

-- a float, by its bits: "A NaN that the call works out and hands out becomes 7fc00000"
abbrev pub float_bytes : Float → List ℕ
float_bytes x = bytes32 (to_bits binary32 x)

abbrev pub vec_bytes : Vec3 → List ℕ
vec_bytes v = float_bytes v.x ++ (float_bytes v.y ++ float_bytes v.z)

-- "pair (owner1, index1, owner2, index2)"
abbrev pub pair_bytes : FeaturePair → List ℕ
pair_bytes p = p.owner1 ∷ p.index1 ∷ p.owner2 ∷ p.index2 ∷ []

-- "position, separation, pair"
abbrev pub point_bytes : Point → List ℕ
point_bytes p = vec_bytes p.position ++ (float_bytes p.separation ++ pair_bytes p.pair)

-- "The cache record (separation, type, index_a, index_b, hit)"
abbrev pub cache_bytes : SatCache → List ℕ
cache_bytes c = bytes32 c.separation ++ (c.kind ∷ c.index_a ∷ c.index_b ∷ c.hit ∷ [])

-- "92, status (a byte: 0 or the refusal), cache, count (a byte), normal,"
abbrev pub head_bytes : Answer → List ℕ
head_bytes a =
    0x92 ∷ a.outcome.status ∷ (cache_bytes a.cache ++ (a.outcome.contact.count ∷ vec_bytes a.outcome.contact.normal))

-- point i of the four
abbrev pub point_at : Contact → ℕ → Point
point_at k i = get_or k.points i past_point

-- "four points"
abbrev pub points_bytes : Contact → List ℕ
points_bytes k = point_bytes (point_at k 0) ++ (point_bytes (point_at k 1) ++ (point_bytes (point_at k 2) ++ point_bytes (point_at k 3)))

-- "Frame 92 gains four bytes at its end" (document 02, d): which candidate each of the four points came from
abbrev pub places_bytes : Contact → List ℕ
places_bytes k = (point_at k 0).place ∷ (point_at k 1).place ∷ (point_at k 2).place ∷ (point_at k 3).place ∷ []

-- and behind them "a last byte in frame 92", the mark that a retired type was read (document 02, j)
unfoldable pub answer_bytes : Answer → List ℕ
answer_bytes a = ((head_bytes a ++ points_bytes a.outcome.contact) ++ places_bytes a.outcome.contact) ++ (a.outcome.retired ∷ [])

-- "103 bytes in all", the four places and the mark: no answer is longer
abbrev pub longest_answer : ℕ
longest_answer = 108
