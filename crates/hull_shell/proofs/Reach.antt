-- Half-edges of one face are reached together: the ring leads from each of them to each other. Assumes nothing.
use mathlib.Core.Path.{◌≡◌, refl, sym, ap, ◌∙◌, subst}
use mathlib.Core.Bool.{true}
use mathlib.Core.List.{List}
use Prim.Native.Nat.{ℕ, zero, suc, ◌+◌, ◌-◌, ◌<◌}
use native.Mathlib.Omega.{arith}
use lib.ListN.{length}
use Rattle.hull_links.specs.declared.HullSize.{HullSize}
use Rattle.hull_links.specs.Walks.{steps, Closes}
use Rattle.hull_links.specs.Links.{next, face, face_edge, face_ring}
use Rattle.hull_links.specs.Rules.{h6, Linked}
use Rattle.hull_links.proofs.Orbits.{steps_add, place, comes_back, closes}
use Rattle.hull_links.proofs.Facts.{edge_in, next_lt, twin_lt, ring_full, next_inj}
use Rattle.hull_links.proofs.Rounds.{rings_walked}
use Rattle.hull_shell.specs.Shell.{Reached, first, by_next, by_twin}

-- two places of a walk that is back after n steps: from each the other is reached
between : (step : ℕ → ℕ) (s n i k : ℕ) → steps step n s ≡ s → i < n → steps step (k + (n - i)) (steps step i s) ≡ steps step k s
between step s n i k back l =
    sym (steps_add step (k + (n - i)) i s) ∙ ap (λ (x : ℕ). steps step x s) (omega arith) ∙ steps_add step k n s ∙ ap (steps step k) back

module _ (s : HullSize) (l : List ℕ) (ok : Linked s l) where
  abbrev H : ℕ
  H = s.half_edges

  pub reached_lt : (e : ℕ) → Reached s l e → e < H
  reached_lt _ first = omega (arith, ok.fits.h_low)
  reached_lt _ (by_next e r) = next_lt s l ok.r2 e (reached_lt e r)
  reached_lt _ (by_twin e r) = twin_lt s l ok.r2 e (reached_lt e r)

  reached_on : (i e : ℕ) → Reached s l e → Reached s l (steps (next s l) i e)
  unfolding steps
  reached_on zero e r = r
  reached_on (suc i) e r = reached_on i (next s l e) (by_next e r)

  pub next_closes : (e : ℕ) → e < H → Closes (next s l) H e
  next_closes e h =
      let w = comes_back (next s l) H (next_lt s l ok.r2) (next_inj s l ok) e h in closes (next s l) (λ c. c < H) H e w.0 w.2 w.1

  module _ (r6 : h6 s l ≡ true) where
    -- from a half-edge, next leads to every other of its face
    pub same_ring : (a b : ℕ) → a < H → b < H → face s l b ≡ face s l a → (j : ℕ) × (steps (next s l) j a ≡ b)
    same_ring a b la lb q =
        let f = face s l a in
        let f_lt = (edge_in s l ok.r2 a la).face_in in
        let ww = rings_walked s l ok r6 (λ f e. e < H) (λ f e h q. h) in
        let w = ww.walks f f_lt in
        let z = ww.short f f_lt in
        let p = place (next s l) (λ e. e < H) H (face_edge s l f) _ w z a (ring_full s l r6 f a f_lt la refl) in
        let o = place (next s l) (λ e. e < H) H (face_edge s l f) _ w z b (ring_full s l r6 f b f_lt lb q) in (
          o.0 + (length (face_ring s l f) - p.0),
          subst (λ (x : ℕ). steps (next s l) (o.0 + (length (face_ring s l f) - p.0)) x ≡ b) p.2
              (between (next s l) (face_edge s l f) (length (face_ring s l f)) p.0 o.0 w.back p.1 ∙ o.2),
        )

    pub reached_round : (a b : ℕ) → a < H → b < H → face s l b ≡ face s l a → Reached s l a → Reached s l b
    reached_round a b la lb q r =
        let j = same_ring a b la lb q in subst (Reached s l) j.1 (reached_on j.0 a r)
