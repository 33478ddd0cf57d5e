-- Hulls in pools, six words a hull. Definitions only.
use Rattle.std.specs.Prelude.{ℕ, ◌+◌, ◌*◌, ◌/◌, ◌-◌, Bool, cond, List, leb, length, get_or, take, drop, Float}
use Rattle.hull_links.specs.declared.HullSize.{HullSize}
use Rattle.hull_links.specs.Tests.{◌&◌}
use Rattle.hull_links.specs.Links.{link_count, number_count}
use Rattle.hull.specs.Rule8.{broken_rule}
use Rattle.pools.specs.declared.Place.{Place}

-- "six words a hull": fewer at the end are no hull
abbrev pub hulls_in : List ℕ → ℕ
hulls_in hs = length hs / 6

-- "where its numbers begin, where its links begin, unit, V, H, F"
abbrev pub size_in : List ℕ → ℕ → HullSize
size_in hs h = record {
  unit = get_or hs (6 * h + 2) 0;
  vertices = get_or hs (6 * h + 3) 0;
  half_edges = get_or hs (6 * h + 4) 0;
  faces = get_or hs (6 * h + 5) 0;
}

unfoldable pub place_of : List ℕ → ℕ → Place
place_of hs h = record { numbers = get_or hs (6 * h) 0; links = get_or hs (6 * h + 1) 0; size = size_in hs h }

-- the lists are as long as a hull of this size has them
abbrev pub numbers_end : Place → ℕ
numbers_end p = p.numbers + number_count p.size

abbrev pub links_end : Place → ℕ
links_end p = p.links + link_count p.size

-- both lists lie inside pools of n numbers and l links
unfoldable pub inside_of : Place → ℕ → ℕ → Bool
inside_of p n l = leb (numbers_end p) n & leb (links_end p) l

-- the hull's own lists: those that a single call on it would be lent
unfoldable pub numbers_at : List Float → Place → List Float
numbers_at n p = take (numbers_end p - p.numbers) (drop p.numbers n)

unfoldable pub links_at : List ℕ → Place → List ℕ
links_at l p = take (links_end p - p.links) (drop p.links l)

-- the first rule that the hull at a place breaks, 0 if none; "lists that do not lie inside: 1"
unfoldable pub rule_at : List Float → List ℕ → Place → ℕ
rule_at n l p = cond (inside_of p (length n) (length l)) (broken_rule p.size (numbers_at n p) (links_at l p)) 1

-- that of hull h
unfoldable pub rule_of : List Float → List ℕ → List ℕ → ℕ → ℕ
rule_of n l hs h = rule_at n l (place_of hs h)
