-- Request i of document 02: "At unit 1 demands 1 to 3 read as before." The sentences of document 01 that name a length, with the numbers that stand there
-- and no unit. Definitions only; proofs/Units.antt shows that at unit 1 each is what the rules, the refusals and the steps say.
use Rattle.std.specs.Prelude.{ℕ, ◌+◌, ◌*◌, ◌/◌, ◌%◌, Bool, List, [], ◌∷◌, eqb, leb, length, Float}
use Rattle.std.specs.Float.Ieee.{neg}
use Rattle.std.specs.Float.Ieee.Scale.{finite}
use Rattle.bounds.specs.Squares.{squares4}
use Rattle.vector.specs.declared.Transform.{Transform}
use Rattle.vector.specs.Rounded.{float}
use Rattle.manifold.specs.declared.SatCache.{SatCache}
use Rattle.hull_links.specs.declared.HullSize.{HullSize}
use Rattle.hull_links.specs.Tests.{◌&◌, all, first_broken}
use Rattle.hull_links.specs.Links.{link_count, number_count, planes_from, origin}
use Rattle.hull_links.specs.Rules.{h2, h3, h4, h5, h6, h7}
use Rattle.hull_shell.specs.Shell.{h9}
use Rattle.hull_limits.specs.Measures.{inside, near_one, plane_right, ends_apart}
use Rattle.hull.specs.Numbers.{number_at, vertex_at, plane_at}
use Rattle.hull.specs.Rule8.{finite_at, vertex_in_box}
use Rattle.collide_refusals.specs.Refusals.{cache_right}

-- "within 4096 either way"
abbrev within4096 : Float → Bool
within4096 x = inside (neg (float 0x4580_0000)) (float 0x4580_0000) x

-- H1 with no word of a unit
unfoldable pub h1_in_metres : HullSize → List Float → List ℕ → Bool
h1_in_metres s n l =
    (leb 4 s.vertices & leb s.vertices 128)
    & (eqb (s.half_edges % 2) 0 & leb 12 s.half_edges & leb s.half_edges 256)
    & (leb 4 s.faces & leb s.faces 128)
    & (eqb (length l) (link_count s) & eqb (length n) (number_count s))

-- H8: "within 4096 either way", "Offsets within 8192", "1/1024 or more either way"
unfoldable pub h8_in_metres : HullSize → List Float → List ℕ → Bool
h8_in_metres s n l =
    all (finite_at n) (length n)
    & all (λ (i : ℕ). within4096 (number_at n i)) (planes_from s)
    & all (vertex_in_box s n) s.vertices
    & all (λ (f : ℕ). plane_right (float 0x4600_0000) (plane_at s n f)) s.faces
    & all (λ (k : ℕ). ends_apart (float 0x3a80_0000) (vertex_at s n (origin s l (2 * k))) (vertex_at s n (origin s l (2 * k + 1)))) (s.half_edges / 2)

-- "The first broken rule is the validator's answer, 0 if none"
unfoldable pub broken_in_metres : HullSize → List Float → List ℕ → ℕ
broken_in_metres s n l =
    first_broken 1 (h1_in_metres s n l ∷ h2 s l ∷ h3 s l ∷ h4 s l ∷ h5 s l ∷ h6 s l ∷ h7 s l ∷ h8_in_metres s n l ∷ h9 s l ∷ [])

-- "A transform is accepted when all is finite, its position is within 4096 on each axis and the squares of its quaternion sum to 0.99 to 1.01."
unfoldable pub transform_in_metres : Transform → Bool
transform_in_metres t =
    finite t.p.x & finite t.p.y & finite t.p.z & finite t.q.v.x & finite t.q.v.y & finite t.q.v.z & finite t.q.s
    & (within4096 t.p.x & within4096 t.p.y & within4096 t.p.z)
    & near_one (squares4 t.q.v.x t.q.v.y t.q.v.z t.q.s)

-- "Then 1, 2, 3, 4": the refusals before any work, in document 01's order
unfoldable pub refusal_in_metres : HullSize → List Float → List ℕ → HullSize → List Float → List ℕ → Transform → SatCache → ℕ
refusal_in_metres s n l t m k x cache =
    first_broken 1 (eqb (broken_in_metres s n l) 0 ∷ eqb (broken_in_metres t m k) 0 ∷ transform_in_metres x ∷ cache_right s t cache ∷ [])
