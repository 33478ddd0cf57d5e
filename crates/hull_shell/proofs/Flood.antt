-- The flood over the faces: what a turn round a ring and a turn of the queue keep, and what is known in the end. Assumes nothing.
use mathlib.Core.Path.{◌≡◌, refl, sym, ap, ◌∙◌, subst}
use mathlib.Core.Bool.{true}
use mathlib.Core.List.{List}
use Prim.Native.Nat.{ℕ, zero, suc, ◌+◌, ◌-◌, ◌≤◌, ◌<◌}
use native.Mathlib.Numerals.{add-one}
use native.Mathlib.Omega.{arith}
use lib.Dec.{eqb}
use lib.ListN.{length, get_or, set, length-set}
use lib.Seq.{get_or-set_same, get_or-set_other}
use borrow.Author.Tests.{eqb-true, eqb-false}
use Rattle.hull_links.specs.declared.HullSize.{HullSize}
use Rattle.hull_links.specs.Walks.{steps}
use Rattle.hull_links.specs.inner.Sums.{sum}
use Rattle.hull_links.specs.Links.{next, twin, face, face_edge}
use Rattle.hull_links.specs.Rules.{h6, Linked}
use Rattle.hull_links.proofs.Tests.{cases}
use Rattle.hull_links.proofs.Counting.{sum_same, sum_zero, sum_at_most, sum_less, sum_one}
use Rattle.hull_links.proofs.Orbits.{steps_out}
use Rattle.hull_links.proofs.Along.{Along, rest, along, goes_along, rest_shorter}
use Rattle.hull_links.proofs.Facts.{edge_in, next_lt, twin_lt, next_face, face_edge_lt, face_edge_face}
use Rattle.hull_shell.specs.Shell.{Reached, first, by_next, by_twin}
use Rattle.hull_shell.specs.inner.Flood.{Flooded, Kept, Crossed, Spread}
use Rattle.hull_shell.proofs.Reach.{reached_lt, next_closes, same_ring, reached_round}

-- ---- how many marks there are after one more
sum_raised : (m m' : ℕ → ℕ) (x k : ℕ) → x < k → m' x ≡ m x + 1 → ((f : ℕ) → (f ≡ x → ⊥) → m' f ≡ m f) → sum m' k ≡ sum m k + 1
unfolding sum
sum_raised m m' x zero l q h = absurd (omega arith)
sum_raised m m' x (suc k) l q h =
    cases (eqb x k)
    (λ t.
    let same = sum_same m' m k (λ f z. h f (λ e. omega (arith, eqb-true x k t))) in
    omega (arith, subst (λ (y : ℕ). m' y ≡ m y + 1) (eqb-true x k t) q, same))
    (λ t. omega (arith, h k (λ e. eqb-false x k t (sym e)), sum_raised m m' x k (omega (arith, eqb-false x k t)) q h))

-- ---- what was kept twice
kept_all : (n : ℕ) (q : List ℕ) (m : ℕ → ℕ) → Kept n q m n q m
kept_all n q m = record { more = omega arith; same = λ i h. refl; grows = λ f h. h }

kept_on : (a : ℕ) (q : List ℕ) (m : ℕ → ℕ) (b : ℕ) (q' : List ℕ) (m' : ℕ → ℕ) (c : ℕ) (q'' : List ℕ) (m'' : ℕ → ℕ)
    → Kept a q m b q' m' → Kept b q' m' c q'' m'' → Kept a q m c q'' m''
kept_on a q m b q' m' c q'' m'' v w = record {
  more = omega (arith, v.more, w.more);
  same = λ i h. w.same i (omega (arith, v.more)) ∙ v.same i h;
  grows = λ f h. w.grows f (v.grows f h);
}

-- m' is m with f marked
pub record Marked (m : ℕ → ℕ) (f : ℕ) (m' : ℕ → ℕ) : Type 0 where
  pub new : m' f ≡ 1
  pub others : (g : ℕ) → (g ≡ f → ⊥) → m' g ≡ m g

module _ (s : HullSize) (l : List ℕ) (n : ℕ) (q : List ℕ) (m : ℕ → ℕ) (w : Flooded s l n q m) where
  -- ---- at most all faces are entered; they are all entered exactly where all are marked
  pub few : n ≤ s.faces
  few = omega (arith, w.counted, sum_at_most m s.faces (λ f h. w.low f))

  all_marked : n ≡ s.faces → (f : ℕ) → f < s.faces → m f ≡ 1
  all_marked z f h =
      cases (eqb (m f) 0)
      (λ t. absurd (omega (arith, w.counted, sum_less m s.faces f (λ f h. w.low f) h (eqb-true (m f) 0 t))))
      (λ t. omega (arith, w.low f, eqb-false (m f) 0 t))

  all_entered : ((f : ℕ) → f < s.faces → m f ≡ 1) → n ≡ s.faces
  all_entered h = sym w.counted ∙ sum_one m s.faces h

  -- ---- half-edge t, of face f, is put into the queue; it counts where f was not marked, and else the place is used again
  module _ (high : s.faces ≤ 128) (t f : ℕ) (r : Reached s l t) (p : f ≡ face s l t) (f_lt : f < s.faces) (m' : ℕ → ℕ) (k : Marked m f m') where
    new_at : get_or (set q n t) n 0 ≡ t
    new_at = get_or-set_same q n t 0 (omega (arith, few, w.long))

    old_at : (i : ℕ) → i < n → get_or (set q n t) i 0 ≡ get_or q i 0
    old_at i h = get_or-set_other q n i t 0 (λ e. omega arith)

    low_mark : (g : ℕ) → m' g ≤ 1
    low_mark g = cases (eqb g f) (λ u. rw (eqb-true g f u, k.new) (omega arith)) (λ u. rw (k.others g (eqb-false g f u)) (w.low g))

    stay_marked : (g : ℕ) → m g ≡ 1 → m' g ≡ 1
    stay_marked g z = cases (eqb g f) (λ u. rw (eqb-true g f u) k.new) (λ u. k.others g (eqb-false g f u) ∙ z)

    again : m f ≡ 1 → Flooded s l n (set q n t) m'
    again z = record {
      long = length-set q n t ∙ w.long;
      low = low_mark;
      counted = sum_same m' m s.faces (λ g h. same g) ∙ w.counted;
      reached = λ i h. rw (old_at i h) (w.reached i h);
      held = λ g y. let i = w.held g (sym (same g) ∙ y) in (i.0, i.1, ap (face s l) (old_at i.0 i.1) ∙ i.2);
    }
      where
        same : (g : ℕ) → m' g ≡ m g
        same g = cases (eqb g f) (λ u. rw (eqb-true g f u) (k.new ∙ sym z)) (λ u. k.others g (eqb-false g f u))

    anew : m f ≡ 0 → Flooded s l (n + 1) (set q n t) m'
    anew z = record {
      long = length-set q n t ∙ w.long;
      low = low_mark;
      counted = sum_raised m m' f s.faces f_lt (omega (arith, k.new)) k.others ∙ ap (λ (x : ℕ). x + 1) w.counted;
      reached = λ i h. cases (eqb i n)
          (λ u. subst (Reached s l) (sym new_at ∙ ap (λ (x : ℕ). get_or (set q n t) x 0) (sym (eqb-true i n u))) r)
          (λ u. let b : i < n = omega (arith, eqb-false i n u) in rw (old_at i b) (w.reached i b));
      held = λ g y. cases (eqb g f) (λ u. (n, omega arith, ap (face s l) new_at ∙ sym p ∙ sym (eqb-true g f u)))
          (λ u. let i = w.held g (sym (k.others g (eqb-false g f u)) ∙ y) in
          let b = i.1 in
          (i.0, omega arith, ap (face s l) (old_at i.0 b) ∙ i.2));
    }

    pub entered : (old : ℕ) → old ≡ m f → Flooded s l (n + 1 - old) (set q n t) m'
    entered old o =
        cases (eqb (m f) 1)
        (λ u.
        let z = eqb-true (m f) 1 u in
        let y : n ≡ n + 1 - old = omega arith in
        subst (λ (x : ℕ). Flooded s l x (set q n t) m') y (again z))
        (λ u.
        let z : m f ≡ 0 = omega (arith, w.low f, eqb-false (m f) 1 u) in
        let y : n + 1 ≡ n + 1 - old = omega arith in
        subst (λ (x : ℕ). Flooded s l x (set q n t) m') y (anew z))

    pub kept : (old : ℕ) → old ≡ m f → Kept n q m (n + 1 - old) (set q n t) m'
    kept old o = record { more = omega (arith, w.low f); same = old_at; grows = stay_marked }

-- ---- going round the ring of `start`: e is where the walk stands, and the faces across all that it has passed are marked
pub record Spreading (s : HullSize) (l : List ℕ) (start n₀ : ℕ) (q₀ : List ℕ) (m₀ : ℕ → ℕ) (n : ℕ) (q : List ℕ) (m : ℕ → ℕ) (e : ℕ) : Type 0 where
  pub here : Along (next s l) s.half_edges start e
  pub flooded : Flooded s l n q m
  pub kept : Kept n₀ q₀ m₀ n q m
  pub on : Reached s l e
  pub done : ℕ
  pub place : e ≡ steps (next s l) done start
  pub each : (i : ℕ) → i < done → Crossed s l m (steps (next s l) i start)

-- a walk that is back after n + 1 steps never leaves the places that it has passed
never_leaves : (step : ℕ → ℕ) (s n : ℕ) → steps step (suc n) s ≡ s → (j : ℕ) → (i : ℕ) × (i < suc n) × (steps step j s ≡ steps step i s)
unfolding steps
never_leaves step s n back zero = (0, omega arith, refl)
never_leaves step s n back (suc j) =
    let z = never_leaves step s n back j in
    let h = z.1 in
    let y = steps_out step j s ∙ ap step z.2 ∙ sym (steps_out step z.0 s) in
    cases (eqb z.0 n) (λ t. (0, omega arith, y ∙ ap (λ (x : ℕ). steps step (suc x) s) (eqb-true z.0 n t) ∙ back))
    (λ t. (suc z.0, omega (arith, eqb-false z.0 n t), y))

module _ (s : HullSize) (l : List ℕ) (ok : Linked s l) (r6 : h6 s l ≡ true) where
  abbrev H : ℕ
  H = s.half_edges

  pub twin_in : (e t : ℕ) → e < H → t ≡ twin s l e → t < H
  twin_in e t h q = rw q (twin_lt s l ok.r2 e h)

  pub face_in : (e t f : ℕ) → e < H → t ≡ twin s l e → f ≡ face s l t → f < s.faces
  face_in e t f h q p = rw p (edge_in s l ok.r2 t (twin_in e t h q)).face_in

  module _ (start n₀ : ℕ) (q₀ : List ℕ) (m₀ : ℕ → ℕ) where
    pub begins : start < H → Reached s l start → Flooded s l n₀ q₀ m₀ → Spreading s l start n₀ q₀ m₀ n₀ q₀ m₀ start
    unfolding steps
    begins h r w = record {
      here = along (next s l) H start h (next_closes s l ok start h);
      flooded = w;
      kept = kept_all n₀ q₀ m₀;
      on = r;
      done = 0;
      place = refl;
      each = λ i h. absurd (omega arith);
    }

    -- one turn: t is the half-edge across, f its face, old the face's mark, a the half-edge ahead
    module _ (n : ℕ) (q : List ℕ) (m : ℕ → ℕ) (e t f old a : ℕ) (m' : ℕ → ℕ) (w : Spreading s l start n₀ q₀ m₀ n q m e)
        (qt : t ≡ twin s l e) (qf : f ≡ face s l t) (qo : old ≡ m f) (k : Marked m f m') (qa : a ≡ next s l e) where
      face_lt : f < s.faces
      face_lt = face_in e t f w.here.low qt qf

      across_reached : Reached s l t
      across_reached = rw qt (by_twin e w.on)

      flooded_on : Flooded s l (n + 1 - old) (set q n t) m'
      flooded_on = entered s l n q m w.flooded ok.fits.f_high t f across_reached qf face_lt m' k old qo

      one_kept : Kept n q m (n + 1 - old) (set q n t) m'
      one_kept = kept s l n q m w.flooded ok.fits.f_high t f across_reached qf face_lt m' k old qo

      kept_so_far : Kept n₀ q₀ m₀ (n + 1 - old) (set q n t) m'
      kept_so_far = kept_on n₀ q₀ m₀ n q m (n + 1 - old) (set q n t) m' w.kept one_kept

      crossed : Crossed s l m' e
      crossed = subst (λ (x : ℕ). m' x ≡ 1) (qf ∙ ap (face s l) qt) k.new

      each_more : (i : ℕ) → i < w.done + 1 → Crossed s l m' (steps (next s l) i start)
      each_more i h =
          cases (eqb i w.done)
          (λ u. subst (Crossed s l m') (w.place ∙ ap (λ (x : ℕ). steps (next s l) x start) (sym (eqb-true i w.done u))) crossed)
          (λ u. one_kept.grows _ (w.each i (omega (arith, eqb-false i w.done u))))

      one_on : a ≡ steps (next s l) (w.done + 1) start
      one_on =
          qa ∙ ap (next s l) w.place ∙ sym (steps_out (next s l) w.done start)
          ∙ ap (λ (x : ℕ). steps (next s l) x start) (sym (add-one w.done))

      pub goes : (a ≡ start → ⊥) → Spreading s l start n₀ q₀ m₀ (n + 1 - old) (set q n t) m' a
      goes nay = record {
        here = goes_along (next s l) H start e a w.here qa nay (next_lt s l ok.r2);
        flooded = flooded_on;
        kept = kept_so_far;
        on = rw qa (by_next e w.on);
        done = w.done + 1;
        place = one_on;
        each = each_more;
      }

      pub shorter : (a ≡ start → ⊥) → length (rest (next s l) H start a) < length (rest (next s l) H start e)
      shorter nay = rest_shorter (next s l) H start e a w.here qa nay

      pub ends : start < H → a ≡ start → Spread s l start n₀ q₀ m₀ (n + 1 - old) (set q n t) m'
      ends h z = record {
        flooded = flooded_on;
        kept = kept_so_far;
        across = λ nay x hx y.
            let j = same_ring s l ok r6 start x h hx y in
            let i = never_leaves (next s l) start w.done (ap (λ (y : ℕ). steps (next s l) y start) (sym (add-one w.done)) ∙ sym one_on ∙ z) j.0 in
            let b = i.1 in
            subst (Crossed s l m') (sym i.2 ∙ j.1) (each_more i.0 (omega arith));
      }

    -- the same turn, where all faces are entered then: what is ahead is not looked at
    pub all_in : (n : ℕ) (q : List ℕ) (m : ℕ → ℕ) (e t f old : ℕ) (m' : ℕ → ℕ) → Spreading s l start n₀ q₀ m₀ n q m e → t ≡ twin s l e → f ≡ face s l t
        → old ≡ m f → Marked m f m' → n + 1 - old ≡ s.faces → Spread s l start n₀ q₀ m₀ (n + 1 - old) (set q n t) m'
    all_in n q m e t f old m' w qt qf qo k z = record {
      flooded = flooded_on n q m e t f old (next s l e) m' w qt qf qo k refl;
      kept = kept_so_far n q m e t f old (next s l e) m' w qt qf qo k refl;
      across = λ nay. absurd (nay z);
    }

-- ---- the queue: not all faces are entered, and the faces across the rings of the first `done` are
pub record Flooding (s : HullSize) (l : List ℕ) (done n : ℕ) (q : List ℕ) (m : ℕ → ℕ) : Type 0 where
  pub flooded : Flooded s l n q m
  pub few : n ≡ s.faces → ⊥
  pub low : done ≤ n
  pub begun : m (face s l 0) ≡ 1
  pub across : (i : ℕ) → i < done → (e : ℕ) → e < s.half_edges → face s l e ≡ face s l (get_or q i 0) → Crossed s l m e

none_flooded : (s : HullSize) (l q : List ℕ) (m : ℕ → ℕ) → length q ≡ 129 → ((f : ℕ) → m f ≡ 0) → Flooded s l 0 q m
none_flooded s l q m h z = record {
  long = h;
  low = λ f. omega (arith, z f);
  counted = sum_same m (λ f. 0) s.faces (λ f h. z f) ∙ sum_zero s.faces;
  reached = λ i h. absurd (omega arith);
  held = λ f h. absurd (omega (arith, z f));
}

module _ (s : HullSize) (l : List ℕ) (ok : Linked s l) (r6 : h6 s l ≡ true) where
  abbrev N : ℕ
  N = s.half_edges

  -- half-edge 0 is put into an empty queue, and its face marked
  pub flood_begins : (f old : ℕ) (q : List ℕ) (m m' : ℕ → ℕ) → length q ≡ 129 → ((f : ℕ) → m f ≡ 0) → f ≡ face s l 0 → old ≡ m f → Marked m f m'
      → Flooding s l 0 (1 - old) (set q 0 0) m'
  flood_begins f old q m m' long z p o k =
      let h : 0 < N = omega (arith, ok.fits.h_low) in
      let f_lt : f < s.faces = rw p (edge_in s l ok.r2 0 h).face_in in
      record {
        flooded = entered s l 0 q m (none_flooded s l q m long z) ok.fits.f_high 0 f first p f_lt m' k old o;
        few = λ y. omega (arith, ok.fits.f_low);
        low = omega arith;
        begun = subst (λ (x : ℕ). m' x ≡ 1) p k.new;
        across = λ i h. absurd (omega arith);
      }

  module _ (done n : ℕ) (q : List ℕ) (m : ℕ → ℕ) (w : Flooding s l done n q m) where
    module _ (start : ℕ) (h : done < n) (p : start ≡ get_or q done 0) where
      pub start_reached : Reached s l start
      start_reached = rw p (w.flooded.reached done h)

      pub start_lt : start < N
      start_lt = reached_lt s l ok start start_reached

      pub flood_goes : (n' : ℕ) (q' : List ℕ) (m' : ℕ → ℕ) → Spread s l start n q m n' q' m' → (n' ≡ s.faces → ⊥) → Flooding s l (done + 1) n' q' m'
      flood_goes n' q' m' v nay = record {
        flooded = v.flooded;
        few = nay;
        low = omega (arith, v.kept.more);
        begun = v.kept.grows _ w.begun;
        across = λ i k e he z.
            cases (eqb i done)
            (λ u.
            let y = eqb-true i done u in
            v.across nay e he (z ∙ ap (face s l) (v.kept.same i (omega arith) ∙ ap (λ (x : ℕ). get_or q x 0) y ∙ sym p)))
            (λ u.
            let b : i < done = omega (arith, eqb-false i done u) in
            v.kept.grows _ (w.across i b e he (z ∙ ap (face s l) (v.kept.same i (omega (arith, w.low))))));
      }

    -- nothing is left in the queue: then what is reached is of a face that is marked, and not all is reached
    module _ (h : n ≤ done) where
      marked_face : (e : ℕ) → Reached s l e → m (face s l e) ≡ 1
      marked_face _ first = w.begun
      marked_face _ (by_next e r) = rw (next_face s l ok e (reached_lt s l ok e r)) (marked_face e r)
      marked_face _ (by_twin e r) =
          let k = w.flooded.held (face s l e) (marked_face e r) in
          let b = k.1 in
          w.across k.0 (omega arith) e (reached_lt s l ok e r) (sym k.2)

      pub not_all_reached : ((e : ℕ) → e < N → Reached s l e) → ⊥
      not_all_reached all =
          w.few (all_entered s l n q m w.flooded (λ f k.
          subst (λ (x : ℕ). m x ≡ 1) (face_edge_face s l r6 f k) (marked_face (face_edge s l f) (all _ (face_edge_lt s l ok.r2 f k)))))

  -- all faces are entered: then every half-edge is reached
  pub all_reached : (n : ℕ) (q : List ℕ) (m : ℕ → ℕ) → Flooded s l n q m → n ≡ s.faces → (e : ℕ) → e < N → Reached s l e
  all_reached n q m w z e h =
      let k = w.held (face s l e) (all_marked s l n q m w z (face s l e) (edge_in s l ok.r2 e h).face_in) in
      let r = w.reached k.0 k.1 in
      reached_round s l ok r6 (get_or q k.0 0) e (reached_lt s l ok _ r) h (sym k.2) r
