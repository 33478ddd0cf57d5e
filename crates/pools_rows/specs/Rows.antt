-- Pairs in lists of numbers, and what it means that pairs are answered. Definitions only.
use Rattle.std.specs.Prelude.{ℕ, ◌+◌, ◌*◌, ◌/◌, ◌%◌, List, [], ◌∷◌, ◌++◌, ◌≡◌, get_or, Float}
use Rattle.std.specs.Float.{nan}
use Rattle.lists.specs.Parts.{Parts, sum_of}
use Rattle.vector.specs.declared.Vec3.{Vec3}
use Rattle.vector.specs.declared.Transform.{Transform}
use Rattle.manifold.specs.declared.Point.{Point}
use Rattle.manifold.specs.declared.SatCache.{SatCache}
use Rattle.manifold.specs.declared.Contact.{Contact}
use Rattle.manifold.specs.declared.Outcome.{Outcome}
use Rattle.manifold.specs.declared.Answer.{Answer}
use Rattle.frame_encode.specs.Bytes.{pair_bytes, point_at, places_bytes}

-- ---- what a pair is given
-- "seven floats a pair (position, quaternion, scalar last)"
unfoldable pub transform_in : List Float → ℕ → Transform
transform_in xs k = record {
  p = record { x = get_or xs (7 * k) nan; y = get_or xs (7 * k + 1) nan; z = get_or xs (7 * k + 2) nan };
  q = record { v = record { x = get_or xs (7 * k + 3) nan; y = get_or xs (7 * k + 4) nan; z = get_or xs (7 * k + 5) nan }; s = get_or xs (7 * k + 6) nan };
}

-- "two words (separation; type in the low byte, then index_a, index_b, hit)"
unfoldable pub cache_from : ℕ → ℕ → SatCache
cache_from s w = record { separation = s; kind = w % 256; index_a = w / 256 % 256; index_b = w / 65536 % 256; hit = w / 16777216 }

unfoldable pub cache_in : List ℕ → ℕ → SatCache
cache_in cs k = cache_from (get_or cs (2 * k) 0) (get_or cs (2 * k + 1) 0)

-- ---- what becomes of it
abbrev pub cache_word : SatCache → ℕ
cache_word c = c.hit * 16777216 + c.index_b * 65536 + c.index_a * 256 + c.kind

abbrev pub cache_words : SatCache → List ℕ
cache_words c = c.separation ∷ cache_word c ∷ []

-- "19 floats (normal, then four times position and separation)"
abbrev pub vec_floats : Vec3 → List Float
vec_floats v = v.x ∷ v.y ∷ v.z ∷ []

abbrev pub point_floats : Point → List Float
point_floats p = vec_floats p.position ++ (p.separation ∷ [])

abbrev pub contact_floats : Contact → List Float
contact_floats k =
    vec_floats k.normal
    ++ (point_floats (point_at k 0) ++ (point_floats (point_at k 1) ++ (point_floats (point_at k 2) ++ point_floats (point_at k 3))))

-- "status, count, mark"
abbrev pub status_bytes : Outcome → List ℕ
status_bytes o = o.status ∷ o.contact.count ∷ o.retired ∷ []

-- "four tags of four bytes, four places"
abbrev pub name_bytes : Contact → List ℕ
name_bytes k =
    pair_bytes (point_at k 0).pair
    ++ (pair_bytes (point_at k 1).pair ++ (pair_bytes (point_at k 2).pair ++ (pair_bytes (point_at k 3).pair ++ places_bytes k)))

-- The answer to pair k with a cache is `answer k c`. The first m pairs are answered, each with its own cache at entry; behind them all is as at entry.
pub record Answered (answer : ℕ → SatCache → Answer) (m : ℕ) (cs : List ℕ) (fs : List Float) (r : ℕ) (cs' : List ℕ) (fs' : List Float) : Type 0 where
  -- every pair's next cache, and its contact
  pub caches : Parts 2 (λ k. cache_words (answer k (cache_in cs k)).cache) m cs cs'
  pub floats : Parts 19 (λ k. contact_floats (answer k (cache_in cs k)).outcome.contact) m fs fs'
  -- the sum of their points
  pub points : r ≡ sum_of (λ k. (answer k (cache_in cs k)).outcome.contact.count) m
