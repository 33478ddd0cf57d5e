-- The cached axis by its cases, as the code meets them: the vertex deepest below a face, a pair of edges. Assumes nothing.
use Prim.Native.Nat.{ℕ, ◌<◌}
use mathlib.Core.Path.{◌≡◌, sym, ap, ◌∙◌}
use mathlib.Core.Bool.{Bool, true, false, cond}
use mathlib.Core.List.{List}
use native.Mathlib.Omega.{arith}
use lib.Ieee as Ieee
use lib.Ieee.{Float}
use Rattle.vector.specs.declared.Vec3.{Vec3}
use Rattle.vector.specs.declared.Plane.{Plane}
use Rattle.vector.specs.declared.Transform.{Transform}
use Rattle.vector.specs.Arithmetic.{sub_of, neg_of, dot_of}
use Rattle.vector.specs.Shape.{plane_separation_of}
use Rattle.units.specs.Limits.{speculative}
use Rattle.manifold.specs.declared.SatCache.{SatCache}
use Rattle.manifold.specs.declared.Contact.{Contact}
use Rattle.manifold.specs.Records.{empty_contact}
use Rattle.hull_links.specs.declared.HullSize.{HullSize}
use Rattle.hull_links.specs.Links.{padded, NumbersFit}
use Rattle.hull.specs.Numbers.{vertex_at, plane_at, support_at}
use Rattle.hull.specs.Accepted.{Accepted}
use Rattle.hull.proofs.Support.{support_in}
use Rattle.hull.proofs.Hulls.{below, in_list}
use Rattle.collide_outcome.specs.Builds.{Built}
use Rattle.contacts.specs.Faces.{face_a_of, face_b_of}
use Rattle.contacts.specs.EdgePairs.{edge_contact_of}
use Rattle.collide_outcome.specs.Served.{Cached, hit_with, no_hit, served_of}
use Rattle.collide_cached.specs.declared.ridges.Ridge.{Ridge}
use Rattle.collide_cached.specs.Ridges.{ridge_of, carried_ridge, crosses_of, axis_between}
use Rattle.collide_cached.specs.Again.{deepest_below_a, separation_from_a, cached_face_a_of, deepest_below_b, separation_from_b, cached_face_b_of}
use Rattle.collide_cached.specs.Again.{cached_edge_of}

-- ---- an axis, whatever its type: far enough apart is a hit with no points, else it is built anew
module _ (far : Bool) (unit : ℕ) (cache : SatCache) (b : Built) where
  abbrev tried : Cached
  tried = cond far (hit_with empty_contact) (served_of unit cache b)

  far_hits : far ≡ true → (contact : Contact) → contact ≡ empty_contact → (r : Cached) → r ≡ hit_with contact → r ≡ tried
  far_hits h contact none r is = is ∙ rw (h, none)

  close_serves : far ≡ false → (built : Built) → built ≡ b → (r : Cached) → r ≡ served_of unit cache built → r ≡ tried
  close_serves h built same r is = is ∙ rw (h, same)

-- ---- a support vertex is one of the hull's, and its number fits a byte
module _ (t : HullSize) (m : List Float) (k : List ℕ) (ok : Accepted t m k) (d : Vec3) (v : ℕ) (found : v ≡ support_at t m d) where
  is_vertex : v < t.vertices
  is_vertex = below _ _ _ found (support_in t m d ok.numbers_fit)

  pub at_support : NumbersFit t m × (v < padded t)
  at_support = (ok.numbers_fit, in_list t m k ok v is_vertex)

  pub support_byte : v < 256
  support_byte = omega (arith, is_vertex, ok.numbers_fit.v_high)

-- ---- face f of the hull (s, n) and the vertex of the hull (t, m) that is deepest below it: directions are turned, points carried
module _ (s : HullSize) (n : List Float) (t : HullSize) (m : List Float) (turn carry : Vec3 → Vec3) (f : ℕ)
    (plane : Plane) (is : plane ≡ plane_at s n f) (w : Vec3) (turned : w ≡ turn plane.normal) (d : Vec3) (down : d ≡ neg_of w) (v : ℕ)
    (found : v ≡ support_at t m d) where
  abbrev deepest : ℕ
  deepest = support_at t m (neg_of (turn (plane_at s n f).normal))

  pub is_deepest : v ≡ deepest
  is_deepest = found ∙ rw (down, turned, is)

  pub off_face : (p : Vec3) → p ≡ vertex_at t m v → (u : Vec3) → u ≡ carry p → (separation : Float) → separation ≡ plane_separation_of plane u
      → (limit far : Float) → limit ≡ far
      → Ieee.le limit separation ≡ Ieee.le far (plane_separation_of (plane_at s n f) (carry (vertex_at t m deepest)))
  off_face p at u carried separation q limit far e = rw (e, q, carried, at, is_deepest, is)

-- ---- types 2 and 3: hull A is (s, n, l), hull B is (t, m, k), and `far` is what the test says
module _ (s : HullSize) (n : List Float) (l : List ℕ) (t : HullSize) (m : List Float) (k : List ℕ) (x : Transform) (cache : SatCache) (far : Bool) where
  -- a face of A
  module _ (told : far ≡ Ieee.le (speculative s.unit) (separation_from_a s n t m x cache.index_a)) where
    pub a_far : far ≡ true → (contact : Contact) → contact ≡ empty_contact → (r : Cached) → r ≡ hit_with contact → r ≡ cached_face_a_of s n l t m k x cache
    unfolding cached_face_a_of
    a_far h contact none r is = far_hits _ s.unit cache _ (sym told ∙ h) contact none r is

    pub a_close : far ≡ false → (v : ℕ) → v ≡ deepest_below_a s n t m x cache.index_a → (built : Built)
        → built ≡ face_a_of s n l t m k x cache.index_a v
        → (r : Cached) → r ≡ served_of s.unit cache built → r ≡ cached_face_a_of s n l t m k x cache
    unfolding cached_face_a_of
    a_close h v q built same r is = close_serves _ s.unit cache _ (sym told ∙ h) built (same ∙ ap (face_a_of s n l t m k x cache.index_a) q) r is

  -- a face of B
  module _ (told : far ≡ Ieee.le (speculative s.unit) (separation_from_b s n t m x cache.index_b)) where
    pub b_far : far ≡ true → (contact : Contact) → contact ≡ empty_contact → (r : Cached) → r ≡ hit_with contact → r ≡ cached_face_b_of s n l t m k x cache
    unfolding cached_face_b_of
    b_far h contact none r is = far_hits _ s.unit cache _ (sym told ∙ h) contact none r is

    pub b_close : far ≡ false → (v : ℕ) → v ≡ deepest_below_b s n t m x cache.index_b → (built : Built)
        → built ≡ face_b_of s n l t m k x cache.index_b v
        → (r : Cached) → r ≡ served_of s.unit cache built → r ≡ cached_face_b_of s n l t m k x cache
    unfolding cached_face_b_of
    b_close h v q built same r is = close_serves _ s.unit cache _ (sym told ∙ h) built (same ∙ ap (face_b_of s n l t m k x cache.index_b) q) r is

-- ---- type 4: the edges pass by each other, or the axis across both is tried
module _ (s : HullSize) (n : List Float) (l : List ℕ) (t : HullSize) (m : List Float) (k : List ℕ) (x : Transform) (cache : SatCache)
    (a : Ridge) (is_a : a ≡ ridge_of s n l cache.index_a) (b : Ridge) (is_b : b ≡ carried_ridge x t m k cache.index_b) (cross : Bool)
    (told : cross ≡ crosses_of a b) where
  pub pass_by : cross ≡ false → (r : Cached) → r ≡ no_hit 0 → r ≡ cached_edge_of s n l t m k x cache
  unfolding cached_edge_of
  pass_by h r is = rw (← is_a, ← is_b, ← told, h) is

  module _ (yes : cross ≡ true) (axis : Vec3) (is_axis : axis ≡ axis_between a b) (d : Vec3) (is_d : d ≡ sub_of a.end b.end)
      (separation : Float) (along : separation ≡ dot_of axis d) (limit : Float) (is_limit : limit ≡ speculative s.unit) where
    test : Ieee.lt limit separation ≡ Ieee.lt (speculative s.unit) (dot_of (axis_between a b) (sub_of a.end b.end))
    test = rw (is_limit, along, is_axis, is_d)

    pub edge_far : Ieee.lt limit separation ≡ true → (contact : Contact) → contact ≡ empty_contact → (r : Cached) → r ≡ hit_with contact
        → r ≡ cached_edge_of s n l t m k x cache
    unfolding cached_edge_of
    edge_far h contact none r is = rw (← is_a, ← is_b, ← told, yes) (far_hits _ s.unit cache _ (sym test ∙ h) contact none r is)

    pub edge_close : Ieee.lt limit separation ≡ false → (normal : Vec3) → normal ≡ neg_of axis
        → (built : Built) → built ≡ edge_contact_of s n l t m k x normal cache.index_a cache.index_b → (r : Cached)
        → r ≡ served_of s.unit cache built → r ≡ cached_edge_of s n l t m k x cache
    unfolding cached_edge_of
    edge_close h normal down built same r is = rw (← is_a, ← is_b, ← told, yes) (close_serves _ s.unit cache _ (sym test ∙ h) built
        (same ∙ rw (down, is_axis)) r is)
