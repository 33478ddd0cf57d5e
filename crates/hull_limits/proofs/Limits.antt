-- What the limits of H8 say of one number, of a normal and of a quaternion: how large each number can be. Assumes nothing.
use mathlib.Core.Path.{◌≡◌, refl}
use mathlib.Core.Bool.{true}
use Prim.Native.Nat.{ℕ}
use denote.Floats.{passes, is_true}
use lib.Dec.{T}
use lib.Ieee.{Float, binary32, neg, of_bits}
use lib.Ieee.Scale.{finite}
use Rattle.bounds.specs.Bound.{Below}
use Rattle.bounds.specs.Squares.{squares3, squares4}
use Rattle.bounds.proofs.Laws.{negated, between, is_finite}
use Rattle.bounds.proofs.Squares.{unit3, unit4, under}
use Rattle.bounds.specs.Within.{Within}
use Rattle.bounds.proofs.Within as finer
use Rattle.bounds.proofs.Sized.{sized, sized_between, sized_ends, sized_opposite}
use Rattle.hull_links.proofs.Tests.{and_left, and_right, and_intro}
use Rattle.vector.specs.declared.Vec3.{Vec3}
use Rattle.vector.specs.Bounded.{VecBelow}
use Rattle.hull_limits.specs.Measures.{inside, within_limit, near_one}

-- ---- between bounds
pub inside_below : {k : ℕ} {lo hi x : Float} → Below k lo → Below k hi → inside lo hi x ≡ true → Below k x
unfolding inside
inside_below a b q = between a b (passes _ (and_left _ _ q)) (passes _ (and_right _ _ q))

pub limit_below : {k : ℕ} {c x : Float} → Below k c → within_limit c x ≡ true → Below k x
unfolding within_limit
limit_below b q = inside_below (negated b) b q

pub limit_within : {p r : ℕ} {c x : Float} → Within p r c → within_limit c x ≡ true → Within p r x
unfolding within_limit inside
limit_within b q = finer.between (finer.negated b) b (passes _ (and_left _ _ q)) (passes _ (and_right _ _ q))

pub finite_is : {k : ℕ} {x : Float} → Below k x → finite x ≡ true
finite_is b = is_true _ (is_finite b)

-- ---- what is between two numbers within a limit is within it
pub inside_within : (c lo hi x : Float) → T (sized c c) → within_limit c lo ≡ true → within_limit c hi ≡ true → inside lo hi x ≡ true → within_limit c x ≡ true
unfolding within_limit inside
inside_within c lo hi x z a b q =
    let least = sized_opposite c c z in
    let low = sized_between c (neg c) c lo least z (passes _ (and_left _ _ a)) (passes _ (and_right _ _ a)) in
    let high = sized_between c (neg c) c hi least z (passes _ (and_left _ _ b)) (passes _ (and_right _ _ b)) in
    let ends = sized_ends c x (sized_between c lo hi x low high (passes _ (and_left _ _ q)) (passes _ (and_right _ _ q))) in
    and_intro _ _ ends.0 ends.1

-- ---- a sum of squares near 1
above_one : under 2 (of_bits binary32 0x3f81_47ae) ≡ true
unfolding of_bits
above_one = refl

pub normal_below : (v : Vec3) → near_one (squares3 v.x v.y v.z) ≡ true → VecBelow 1 v
unfolding near_one inside
normal_below v q =
    let u = unit3 _ _ _ _ (passes _ above_one) (passes _ (and_right _ _ q)) in
    record { on_x = u.0; on_y = u.1; on_z = u.2 }

pub turn_below : (x y z w : Float) → near_one (squares4 x y z w) ≡ true → Below 1 x × Below 1 y × Below 1 z × Below 1 w
unfolding near_one inside
turn_below x y z w q = unit4 _ x y z w (passes _ above_one) (passes _ (and_right _ _ q))
