-- A step beside the single call: what the client would say of it. Definitions only.
use Rattle.std.specs.Prelude.{ℕ, ◌+◌, ◌*◌, ◌<◌, ◌≤◌, true, false, List, [], ◌∷◌, ◌⊎◌, ◌≡◌, pos, length, get_or, Float}
use Rattle.vector.specs.declared.Transform.{Transform}
use Rattle.manifold.specs.declared.SatCache.{SatCache}
use Rattle.manifold.specs.declared.Outcome.{Outcome}
use Rattle.manifold.specs.declared.Answer.{Answer}
use Rattle.hull.specs.Rule8.{broken_rule}
use Rattle.collide.specs.Call.{collide_of}
use Rattle.lists.specs.Parts.{part_of}
use Rattle.pools.specs.Pools.{hulls_in, place_of, numbers_at, links_at, inside_of}
use Rattle.pools_rows.specs.Rows.{cache_words, contact_floats}
use Rattle.step.specs.Step.{record_bytes}

-- the pools: numbers n, links l, and six words a hull in hs
module _ (n : List Float) (l hs : List ℕ) where
  -- h is the number of a hull, and its lists lie inside
  pub record There (h : ℕ) : Type 0 where
    pub hull : h < hulls_in hs
    pub inside : inside_of (place_of hs h) (length n) (length l) ≡ true

  -- h is no hull's number, or its lists do not lie inside
  abbrev pub Missing : ℕ → Type 0
  Missing h = (hulls_in hs ≤ h) ⊎ (inside_of (place_of hs h) (length n) (length l) ≡ false)

  -- the rule that a hull's own lists break first, 0 if none: what `contact_first_broken_rule` answers
  abbrev pub own_rule : ℕ → ℕ
  own_rule h = broken_rule (place_of hs h).size (numbers_at n (place_of hs h)) (links_at l (place_of hs h))

  -- the single call on the own lists of hulls a and b, with a capacity of 4
  abbrev pub single_call : ℕ → ℕ → Transform → SatCache → Answer
  single_call a b x c =
      collide_of (place_of hs a).size (numbers_at n (place_of hs a)) (links_at l (place_of hs a)) (place_of hs b).size (numbers_at n (place_of hs b))
      (links_at l (place_of hs b)) x (pos 4) c

-- the two hull numbers of pair k
abbrev pub first_of : List ℕ → ℕ → ℕ
first_of ps k = get_or ps (2 * k) 0

abbrev pub second_of : List ℕ → ℕ → ℕ
second_of ps k = get_or ps (2 * k + 1) 0

-- the lists hold this outcome and this cache at the places of pair k
pub record Holds (k : ℕ) (o : Outcome) (c : SatCache) (cs : List ℕ) (fs : List Float) (bs : List ℕ) : Type 0 where
  pub cache : part_of 2 cs k ≡ cache_words c
  pub contact : part_of 19 fs k ≡ contact_floats o.contact
  pub outcome : part_of 24 bs k ≡ record_bytes o

-- the two words of pair k's cache
abbrev pub words_of : List ℕ → ℕ → List ℕ
words_of cs k = get_or cs (2 * k) 0 ∷ get_or cs (2 * k + 1) 0 ∷ []
