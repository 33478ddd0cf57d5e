-- From the answers of the tests to the rule that is named. Assumes nothing.
use mathlib.Core.Path.{◌≡◌, refl, sym, ap, ◌∙◌}
use mathlib.Core.Bool.{Bool, true, false, false≢true}
use mathlib.Core.List.{List, [], ◌∷◌}
use Prim.Native.Nat.{ℕ, ◌+◌, ◌-◌, ◌*◌, ◌<◌}
use native.Mathlib.Omega.{arith}
use Rattle.std.specs.Prelude.{Option, Some, None, unwrap_or, ltb, length, get_or}
use Rattle.std.proofs.Common.{take, drop, length-drop}
use Rattle.std.proofs.lemmas.List.{get_or-take, get_or-drop, take_all}
use lib.Seq.{length-take-le}
use Rattle.hull_links.specs.declared.HullSize.{HullSize}
use Rattle.hull_links.specs.declared.Rule.{Rule}
use Rattle.hull_links.specs.Numbers.{number_of, rule_number}
use Rattle.hull_links.specs.Tests.{all, first_broken}
use Rattle.hull_links.specs.Links.{LinksFit}
use Rattle.hull_links.specs.Rules.{vertex_in_range, face_in_range, h2, h3, h4, h5, h6, h7, broken_links, Linked}
use Rattle.hull_links.proofs.Numbered.{some_broken}
use Rattle.hull_links.proofs.Tests.{cases, all_same, passes, breaks, unbroken, broken_early, broken_late}
use Rattle.hull_tours.specs.inner.Found.{Ringed, Fanned}
use Rattle.hull_rules.specs.inner.Named.{stored_in_range, broken_before_walks}
use Rattle.hull_tours.proofs.Accept.{ringed, fanned, rule_6}

module _ (s : HullSize) (l : List ℕ) where
  -- ---- H2: the stored edges of the vertices stand from 0 on, those of the faces behind the half-edges
  pub vertex_edges : all (stored_in_range l 0 s.half_edges) s.vertices ≡ all (vertex_in_range s l) s.vertices
  unfolding stored_in_range vertex_in_range
  vertex_edges = all_same _ _ _ (λ v h. let e : 0 + v ≡ v = omega arith in rw e)

  pub face_edges : all (stored_in_range l (s.vertices + 4 * s.half_edges) s.half_edges) s.faces ≡ all (face_in_range s l) s.faces
  unfolding stored_in_range face_in_range
  face_edges = refl

  -- a part of the links that is lent: what stands in it, counted from 0
  part : (edges : List ℕ) (from n : ℕ) → length edges ≡ n → ((i : ℕ) → i < n → get_or edges i 0 ≡ get_or l (from + i) 0)
      → all (stored_in_range edges 0 s.half_edges) (length edges) ≡ all (stored_in_range l from s.half_edges) n
  unfolding stored_in_range
  part edges from n e same =
      ap (all (stored_in_range edges 0 s.half_edges)) e
      ∙ all_same _ _ n (λ i h. let z : 0 + i ≡ i = omega arith in rw z (ap (λ (x : ℕ). ltb x s.half_edges) (same i h)))

  pub first_edges : LinksFit s l
      → all (stored_in_range (take s.vertices l) 0 s.half_edges) (length (take s.vertices l)) ≡ all (vertex_in_range s l) s.vertices
  first_edges f =
      part (take s.vertices l) 0 s.vertices (length-take-le s.vertices l (omega (arith, f.long)))
      (λ i h. let z : i ≡ 0 + i = omega arith in get_or-take s.vertices l i 0 h ∙ ap (λ (k : ℕ). get_or l k 0) z)
      ∙ vertex_edges

  pub last_edges : LinksFit s l
      → (let edges = take (length l - (s.vertices + 4 * s.half_edges)) (drop (s.vertices + 4 * s.half_edges) l) in
      all (stored_in_range edges 0 s.half_edges) (length edges))
      ≡ all (face_in_range s l) s.faces
  last_edges f =
      let from = s.vertices + 4 * s.half_edges in
      let behind = drop from l in
      ap (λ (x : List ℕ). all (stored_in_range x 0 s.half_edges) (length x)) (take_all (length l - from) behind (omega (arith, length-drop from l)))
      ∙ part behind from s.faces (omega (arith, f.long, length-drop from l)) (λ i h. get_or-drop from l i 0) ∙ face_edges

  -- ---- a rule broken among H2 to H5 is the first of all
  pub linked : LinksFit s l → broken_before_walks s l ≡ 0 → Linked s l
  unfolding broken_before_walks
  linked f q =
      let right = unbroken 2 _ (omega arith) q in
      record { fits = f; r2 = right 0; r3 = right 1; r4 = right 2; r5 = right 3 }

  pub named_early : (broken_before_walks s l ≡ 0 → ⊥) → broken_before_walks s l ≡ broken_links s l
  unfolding broken_before_walks broken_links
  named_early = broken_early 2 (h2 s l ∷ h3 s l ∷ h4 s l ∷ h5 s l ∷ []) (h6 s l ∷ h7 s l ∷ [])

  -- where none of H2 to H5 is broken, it is the rule of the tour that failed
  module _ (f : LinksFit s l) (q : broken_before_walks s l ≡ 0) (r : Bool) (failed : r ≡ false) where
    late : first_broken 6 (h6 s l ∷ h7 s l ∷ []) ≡ broken_links s l
    unfolding broken_before_walks broken_links
    late = broken_late 2 (h2 s l ∷ h3 s l ∷ h4 s l ∷ h5 s l ∷ []) (h6 s l ∷ h7 s l ∷ []) (omega arith) q

    pub named_6 : (Ringed s l → r ≡ true) → 6 ≡ broken_links s l
    named_6 tells =
        cases (h6 s l) (λ t. absurd (false≢true (sym failed ∙ tells (ringed s l (linked f q) t)))) (λ t. breaks 6 _ _ t ∙ late)

    pub named_7 : Ringed s l → (Fanned s l → r ≡ true) → 7 ≡ broken_links s l
    named_7 w tells =
        cases (h7 s l) (λ t. absurd (false≢true (sym failed ∙ tells (fanned s l (linked f q) t))))
        (λ t. passes 6 7 _ _ (rule_6 s l w) (breaks 7 _ _ t) ∙ late)

  -- the rule of H2 to H5 that is broken, or else the tour's own
  pub named : (early : Option Rule) (own rule : Rule) → rule ≡ unwrap_or early own → rule_number early ≡ broken_before_walks s l
      → (broken_before_walks s l ≡ 0 → number_of own ≡ broken_links s l)
      → number_of rule ≡ broken_links s l
  named None own rule q e if_none = ap number_of q ∙ if_none (sym e)
  named (Some x) own rule q e _ = ap number_of q ∙ e ∙ named_early (λ z. some_broken (Some x) refl (e ∙ z))
