-- What a step comes to, sentence by sentence. Definitions only.
use Rattle.std.specs.Prelude.{ℕ, ◌+◌, ◌*◌, ◌/◌, Bool, true, false, List, [], ◌∷◌, ◌++◌, ◌≡◌, leb, length, get_or, drop, Float}
use Rattle.lists.specs.Written.{table}
use Rattle.lists.specs.Parts.{Parts}
use Rattle.manifold.specs.declared.SatCache.{SatCache}
use Rattle.manifold.specs.declared.Outcome.{Outcome}
use Rattle.manifold.specs.declared.Answer.{Answer}
use Rattle.hull_links.specs.Tests.{◌&◌}
use Rattle.pools.specs.Pools.{hulls_in, rule_of}
use Rattle.pools_rows.specs.Rows.{transform_in, cache_in, status_bytes, name_bytes, Answered}
use Rattle.pools_pairs.specs.Pairs.{pair_answer}
use Rattle.step.specs.declared.Step.{Step}

-- "two hull numbers a pair"; "Half a pair at the end is no pair"
abbrev pub pairs_in : List ℕ → ℕ
pairs_in ps = length ps / 2

-- the answer to pair k with this cache
unfoldable pub answer_in : List Float → List ℕ → List ℕ → List ℕ → List Float → ℕ → SatCache → Answer
answer_in n l hs ps xs k c = pair_answer n l hs (get_or ps (2 * k) 0) (get_or ps (2 * k + 1) 0) (transform_in xs k) c

-- "24 a pair: status, count, mark, 0, four tags of four bytes, four places"
abbrev pub record_bytes : Outcome → List ℕ
record_bytes o = (status_bytes o ++ (0 ∷ [])) ++ name_bytes o.contact

-- what is lent is long enough: one byte a hull; and for each pair seven floats, two words, 19 floats and 24 bytes
unfoldable pub room_of : ℕ → ℕ → ℕ → ℕ → ℕ → ℕ → ℕ → Bool
room_of hulls pairs transforms judged caches floats bytes =
    leb (hulls / 6) judged & leb (pairs / 2) (transforms / 7) & leb (pairs / 2) (caches / 2) & leb (pairs / 2) (floats / 19) & leb (pairs / 2) (bytes / 24)

abbrev pub room_in : List ℕ → List ℕ → List Float → List ℕ → List ℕ → List Float → List ℕ → Bool
room_in hs ps xs js cs fs bs = room_of (length hs) (length ps) (length xs) (length js) (length cs) (length fs) (length bs)

-- the first m pairs have their next caches, contacts and bytes, each from its own cache at entry; r is the sum of their points
pub record PairsDone (answer : ℕ → SatCache → Answer) (m : ℕ) (cs : List ℕ) (fs : List Float) (bs : List ℕ) (r : ℕ) (cs' : List ℕ) (fs' : List Float)
    (bs' : List ℕ) : Type 0 where
  pub answered : Answered answer m cs fs r cs' fs'
  pub records : Parts 24 (λ k. record_bytes (answer k (cache_in cs k)).outcome) m bs bs'

pub record Stepped (n : List Float) (l hs ps : List ℕ) (xs : List Float) (js cs : List ℕ) (fs : List Float) (bs : List ℕ) (r : Step) (js' cs' : List ℕ)
    (fs' : List Float) (bs' : List ℕ) : Type 0 where
  -- room too small: 21, and nothing written
  pub short : room_in hs ps xs js cs fs bs ≡ false → (r.status ≡ 21) × (r.points ≡ 0) × (js' ≡ js) × (cs' ≡ cs) × (fs' ≡ fs) × (bs' ≡ bs)
  pub status : room_in hs ps xs js cs fs bs ≡ true → r.status ≡ 0
  -- every hull's first broken rule, whatever stood in `judged`; behind them what stood there
  pub judged : room_in hs ps xs js cs fs bs ≡ true → js' ≡ table (rule_of n l hs) (hulls_in hs) ++ drop (hulls_in hs) js
  -- every pair's next cache, floats and bytes are those of what stood for it at entry; the sum of the points; what stands behind stays
  pub pairs : room_in hs ps xs js cs fs bs ≡ true → PairsDone (answer_in n l hs ps xs) (pairs_in ps) cs fs bs r.points cs' fs' bs'
