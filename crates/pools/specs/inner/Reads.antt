-- Inner: what is known of a place that was read from the words of a hull. Definitions only.
use Rattle.std.specs.Prelude.{ℕ, ◌<◌, List, ◌≡◌}
use Rattle.pools.specs.declared.Place.{Place}
use Rattle.pools.specs.Pools.{place_of}

-- a place that was read from words of 32 bits
pub record Words (p : Place) : Type 0 where
  pub numbers_word : p.numbers < 4294967296
  pub links_word : p.links < 4294967296
  pub vertices_word : p.size.vertices < 4294967296
  pub half_edges_word : p.size.half_edges < 4294967296
  pub faces_word : p.size.faces < 4294967296

-- p is what the words of hull h say
pub record PlaceRead (hs : List ℕ) (h : ℕ) (p : Place) : Type 0 where
  pub is : p ≡ place_of hs h
  pub words : Words p
