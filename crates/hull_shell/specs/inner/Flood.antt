-- Inner: what the flood over the faces has found. Definitions only.
use Rattle.std.specs.Prelude.{List, ◌≡◌, ℕ, ◌≤◌, ◌<◌, length, get_or}
use Rattle.hull_links.specs.declared.HullSize.{HullSize}
use Rattle.hull_links.specs.inner.Sums.{sum}
use Rattle.hull_links.specs.Links.{twin, face}
use Rattle.hull_shell.specs.Shell.{Reached}

-- n faces are entered, each by the half-edge that stands in the queue q, and just these have the mark 1, where m f is the mark of face f
pub record Flooded (s : HullSize) (l : List ℕ) (n : ℕ) (q : List ℕ) (m : ℕ → ℕ) : Type 0 where
  pub long : length q ≡ 129
  pub low : (f : ℕ) → m f ≤ 1
  pub counted : sum m s.faces ≡ n
  pub reached : (i : ℕ) → i < n → Reached s l (get_or q i 0)
  pub held : (f : ℕ) → m f ≡ 1 → (i : ℕ) × (i < n) × (face s l (get_or q i 0) ≡ f)

-- what stood in the queue and was marked, stays
pub record Kept (n : ℕ) (q : List ℕ) (m : ℕ → ℕ) (n' : ℕ) (q' : List ℕ) (m' : ℕ → ℕ) : Type 0 where
  pub more : n ≤ n'
  pub same : (i : ℕ) → i < n → get_or q' i 0 ≡ get_or q i 0
  pub grows : (f : ℕ) → m f ≡ 1 → m' f ≡ 1

-- the face across half-edge e is marked
abbrev pub Crossed : HullSize → List ℕ → (ℕ → ℕ) → ℕ → Type 0
Crossed s l m e = m (face s l (twin s l e)) ≡ 1

-- the face across each half-edge of start's face is marked, unless all faces were entered before its ring was gone round
pub record Spread (s : HullSize) (l : List ℕ) (start n : ℕ) (q : List ℕ) (m : ℕ → ℕ) (n' : ℕ) (q' : List ℕ) (m' : ℕ → ℕ) : Type 0 where
  pub flooded : Flooded s l n' q' m'
  pub kept : Kept n q m n' q' m'
  pub across : (n' ≡ s.faces → ⊥) → (e : ℕ) → e < s.half_edges → face s l e ≡ face s l start → Crossed s l m' e
