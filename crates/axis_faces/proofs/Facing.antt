-- The loop over faces: each face gives the support search what it asks for, its parts together are the face, and the turns make the whole search.
-- Assumes nothing.
use mathlib.Core.Path.{◌≡◌, refl, sym, ap, ◌∙◌, subst}
use mathlib.Core.Bool.{true, false}
use mathlib.Core.List.{List}
use Prim.Native.Nat.{ℕ, ◌+◌, ◌<◌, ◌≤◌}
use lib.Ieee.{Float}
use Rattle.bounds.specs.Within.{Within}
use Rattle.vector.specs.declared.Vec3.{Vec3}
use Rattle.vector.specs.declared.Plane.{Plane}
use Rattle.vector.specs.declared.Aabb.{Aabb}
use Rattle.vector.specs.Within.{VecWithin}
use Rattle.vector.specs.Arithmetic.{dot_of}
use Rattle.vector.specs.Shape.{center_of, extents_of}
use Rattle.vector.proofs.Within.{center_within, extents_within}
use Rattle.rotation.specs.Rotation.{Rows}
use Rattle.hull_links.specs.declared.HullSize.{HullSize}
use Rattle.hull.specs.Numbers.{box_of, vertex_at, plane_at}
use Rattle.axis_best.specs.declared.Lead.{Lead}
use Rattle.axis_best.specs.Leads.{none_of, lead_after}
use Rattle.axis_best.proofs.Searches.{begins, goes_on, stays}
use Rattle.axis_faces.specs.declared.Face.{Face}
use Rattle.axis_faces.specs.declared.Side.{Side}
use Rattle.axis_faces.specs.Support.{support_of}
use Rattle.axis_faces.specs.Faces.{bias_of, direction_of, exact_of, face_axis_of, face_separation_of, farthest_vertex_of, face_taken_of, face_of}
use Rattle.axis_faces.specs.Faces.{face_search_of}
use Rattle.axis_faces.specs.inner.Ready.{SupportReady, Facing, FacesReady}
use Rattle.axis_faces.proofs.Starts.{direction_within, bias_within}

-- how far the support vertex lies along the direction is a dot
pub dot_exact : (d v : Vec3) → dot_of d v ≡ exact_of d v
unfolding dot_of exact_of
dot_exact d v = refl

module _ {turn : Rows} {position : Vec3} {s : HullSize} {n : List Float} {t : HullSize} {m : List Float} where
  pub direction_near : Facing turn position s n t m → (f : ℕ) → f < s.faces → VecWithin 5 15 (direction_of turn (plane_at s n f).normal)
  direction_near F f h = direction_within _ F.turn_within (F.normals_unit f h)

  -- the middle and the half-sizes, from the box as the code reads it
  pub faces_ready : Facing turn position s n t m → (space : Aabb) (center extents : Vec3) → space ≡ box_of m → center ≡ center_of space
      → extents ≡ extents_of space → FacesReady turn position s n t m center extents
  faces_ready F space center extents e p q = record { facing = F; center_is = p ∙ ap center_of e; extents_is = q ∙ ap extents_of e }

  -- what the code hands to the support search for face f; the box's corners are coordinates, so its middle and half-sizes are bounded
  pub support_ready : {center extents : Vec3} → FacesReady turn position s n t m center extents → (f : ℕ) → f < s.faces
      → (plane : Plane) (d : Vec3) (bias : Float) → plane ≡ plane_at s n f → d ≡ direction_of turn plane.normal → bias ≡ bias_of d center extents
      → SupportReady bias d t m
  support_ready R f h plane d bias p q e =
      let F = R.facing in
      let near : VecWithin 5 15 d = subst (VecWithin 5 15) (sym (q ∙ ap (λ (x : Plane). direction_of turn x.normal) p)) (direction_near F f h) in
      let center_near = subst (VecWithin 4000 26) (sym R.center_is) (center_within F.lower_within F.upper_within) in
      let extents_near = subst (VecWithin 4000 26) (sym R.extents_is) (extents_within F.lower_within F.upper_within) in
      record {
        fit = F.other_fit;
        bias_within = subst (Within 1980000 21) (sym e) (bias_within near center_near extents_near);
        direction_within = near;
        vertices_within = F.vertices_within;
      }

module _ (side : Side) (turn : Rows) (position : Vec3) (s : HullSize) (n : List Float) (t : HullSize) (m : List Float) where
  pub face_made : (f : ℕ) (center extents : Vec3) (plane : Plane) (d : Vec3) (bias : Float) (vertex : ℕ) (at : Vec3) (support : Float) (along : Vec3)
      (apart : Float) → center ≡ center_of (box_of m) → extents ≡ extents_of (box_of m)
      → plane ≡ plane_at s n f → d ≡ direction_of turn plane.normal → bias ≡ bias_of d center extents → vertex ≡ support_of bias d t m
      → at ≡ vertex_at t m vertex → support ≡ exact_of d at
      → along ≡ face_axis_of side plane.normal d → apart ≡ face_separation_of along position plane.offset support
      → ◌≡◌ {A = Face} (record { normal = along; separation = apart; vertex = vertex }) (face_of side turn position t m (plane_at s n f))
  unfolding face_of farthest_vertex_of
  face_made f center extents plane d bias vertex at support along apart hc hx hp hd hb hw hv he ha hs = rw (hs, he, hv, hw, hb, ha, hd, hp, hc, hx)

  -- the lead after the faces below f
  abbrev pub lead_before : ℕ → Lead
  lead_before = lead_after (λ f. face_taken_of side s.unit (face_of side turn position t m (plane_at s n f)) f) none_of

  pub no_face : none_of ≡ lead_before 0
  no_face = begins _ none_of

  pub one_face : (f : ℕ) (lead next : Lead) (face : Face) → lead ≡ lead_before f → lead.apart ≡ false
      → face ≡ face_of side turn position t m (plane_at s n f) → next ≡ face_taken_of side s.unit face f lead → next ≡ lead_before (f + 1)
  one_face f lead next face p q e h = goes_on _ none_of f lead next p q (h ∙ ap (λ (x : Face). face_taken_of side s.unit x f lead) e)

  pub stopped_face : (f : ℕ) (lead : Lead) → f ≤ s.faces → lead ≡ lead_before f → lead.apart ≡ true
      → lead ≡ face_search_of side turn position s n t m
  unfolding face_search_of
  stopped_face f lead h p q = stays _ none_of s.faces f lead h p q

  pub all_faces : (f : ℕ) (lead : Lead) → f ≡ s.faces → lead ≡ lead_before f → lead ≡ face_search_of side turn position s n t m
  unfolding face_search_of
  all_faces f lead h p = p ∙ ap lead_before h
