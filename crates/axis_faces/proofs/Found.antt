-- Every face has a finite separation, so the first becomes the best, and the faces of a hull always give a best one. The bounds are those of the
-- largest unit. No proof of this crate needs it: callers do. Assumes nothing.
use mathlib.Core.Path.{◌≡◌, refl, sym, ap, ◌∙◌, subst}
use mathlib.Core.Bool.{Bool, true, cond}
use mathlib.Core.List.{List}
use Prim.Native.Nat.{ℕ, zero, suc, ◌-◌, ◌<◌}
use native.Mathlib.Omega.{arith}
use lib.Dec.{T, lit≤}
use lib.Ieee.{Float, nan, inf, fin, lt}
use lib.Ieee.Scale.{finite}
use Rattle.bounds.proofs.Laws.{is_finite, picked}
use Rattle.vector.specs.declared.Vec3.{Vec3}
use Rattle.vector.proofs.Within.{vec_below}
use Rattle.rotation.specs.Rotation.{Rows}
use Rattle.hull_links.specs.declared.HullSize.{HullSize}
use Rattle.hull.specs.Numbers.{box_of, plane_at}
use Rattle.axis_best.specs.declared.Lead.{Lead}
use Rattle.axis_best.specs.Leads.{lowest, none_of, new_best, better_of, lead_after}
use Rattle.axis_best.proofs.Searches.{lowest_is}
use Rattle.axis_faces.specs.declared.Face.{Face}
use Rattle.axis_faces.specs.declared.Side.{Side}
use Rattle.axis_faces.specs.Faces.{bias_of, direction_of, farthest_vertex_of, face_taken_of, face_of, face_search_of}
use Rattle.axis_faces.specs.inner.Ready.{Facing}
use Rattle.axis_faces.proofs.Bounded.{exact_below, axis_below, separation_below}
use Rattle.axis_faces.proofs.Lanes.{support_in}
use Rattle.axis_faces.proofs.Facing.{direction_near, faces_ready, support_ready}

-- ---- the first face takes the lead from minus infinity; those after it keep it or take it
above_minus_infinity : (x : Float) → T (finite x) → lt (inf true) x ≡ true
unfolding lt
above_minus_infinity nan p = absurd p
above_minus_infinity (inf s) p = absurd p
above_minus_infinity (fin s m e) p = refl

above_lowest : (x : Float) → T (finite x) → lt lowest x ≡ true
above_lowest x p = ap (λ (z : Float). lt z x) lowest_is ∙ above_minus_infinity x p

better_first : (unit : ℕ) (normal : Vec3) (x : Float) (a b : ℕ) → T (finite x) → better_of unit normal x a b none_of ≡ new_best unit normal x a b
unfolding better_of
better_first unit normal x a b p = ap (λ (z : Bool). cond z (new_best unit normal x a b) none_of) (above_lowest x p)

better_keeps : (unit : ℕ) (normal : Vec3) (x : Float) (a b : ℕ) (lead : Lead) → lead.found ≡ true → (better_of unit normal x a b lead).found ≡ true
unfolding better_of
better_keeps unit normal x a b lead p = picked (λ (l : Lead). l.found ≡ true) (lt lead.separation x) refl p

-- a face as a new best, with its two numbers
unfoldable pub new_face : Side → ℕ → Face → ℕ → Lead
new_face Side.A unit face f = new_best unit face.normal face.separation f face.vertex
new_face Side.B unit face f = new_best unit face.normal face.separation face.vertex f

-- face f as the first to be looked at
taken_first : (side : Side) (unit : ℕ) (face : Face) (f : ℕ) → T (finite face.separation) → face_taken_of side unit face f none_of ≡ new_face side unit face f
unfolding face_taken_of new_face
taken_first Side.A unit face f p = better_first unit face.normal face.separation f face.vertex p
taken_first Side.B unit face f p = better_first unit face.normal face.separation face.vertex f p

new_found : (side : Side) (unit : ℕ) (face : Face) (f : ℕ) → (new_face side unit face f).found ≡ true
unfolding new_face
new_found Side.A unit face f = refl
new_found Side.B unit face f = refl

taken_keeps : (side : Side) (unit : ℕ) (face : Face) (f : ℕ) (lead : Lead) → lead.found ≡ true → (face_taken_of side unit face f lead).found ≡ true
unfolding face_taken_of
taken_keeps Side.A unit face f lead p = better_keeps unit face.normal face.separation f face.vertex lead p
taken_keeps Side.B unit face f lead p = better_keeps unit face.normal face.separation face.vertex f lead p

found_after : (step : ℕ → Lead → Lead) → (step 0 none_of).found ≡ true → ((i : ℕ) (l : Lead) → l.found ≡ true → (step i l).found ≡ true)
    → (n : ℕ) → (lead_after step none_of (suc n)).found ≡ true
unfolding lead_after
found_after step p q zero = p
found_after step p q (suc n) =
    let before = lead_after step none_of (suc n) in
    let h : before.found ≡ true = found_after step p q n in
    picked (λ (l : Lead). l.found ≡ true) before.apart h (q (suc n) before h)

-- ---- the faces of one side
module _ (side : Side) {turn : Rows} {position : Vec3} {s : HullSize} {n : List Float} {t : HullSize} {m : List Float} (F : Facing turn position s n t m) where
  -- face f of hull (s, n)
  abbrev face : ℕ → Face
  face f = face_of side turn position t m (plane_at s n f)

  pub separation_finite : (f : ℕ) → f < s.faces → T (finite (face f).separation)
  unfolding face_of farthest_vertex_of
  separation_finite f h =
      let R = faces_ready F (box_of m) _ _ refl refl refl in
      let d = direction_of turn (plane_at s n f).normal in
      let near = vec_below 8 (lit≤ tt) (direction_near F f h) in
      let inside = support_in (support_ready R f h (plane_at s n f) d (bias_of d _ _) refl refl refl) in
      is_finite (separation_below (axis_below side (F.normals_below f h) near) F.position_below (F.offsets_below f h)
      (exact_below near (vec_below 22 (lit≤ tt) (F.vertices_within _ inside))))

  -- the first face becomes the best
  pub first_best : face_taken_of side s.unit (face 0) 0 none_of ≡ new_face side s.unit (face 0) 0
  first_best = taken_first side s.unit (face 0) 0 (separation_finite 0 (omega (arith, F.fit.f_low)))

  -- so that a face is found
  pub found : (face_search_of side turn position s n t m).found ≡ true
  unfolding face_search_of
  found =
      let is_found : Lead → Type 0 = λ l. l.found ≡ true in
      let step : ℕ → Lead → Lead = λ f. face_taken_of side s.unit (face f) f in
      let some : suc (s.faces - 1) ≡ s.faces = omega (arith, F.fit.f_low) in
      let first : is_found (step 0 none_of) = subst is_found (sym first_best) (new_found side s.unit (face 0) 0) in
      subst (λ (k : ℕ). is_found (lead_after step none_of k)) some (found_after step first (λ i. taken_keeps side s.unit (face i) i) (s.faces - 1))
