-- Whether what is lent is long enough. Assumes nothing.
use Prim.Native.Nat.{ℕ, ◌/◌, ◌≤◌, ◌<◌}
use mathlib.Core.Bool.{true, false}
use mathlib.Core.Path.{◌≡◌, refl, sym}
use borrow.Author.Tests.{leb-true, le-leb, lt-leb}
use lib.Dec.{leb}
use Rattle.hull_links.proofs.Tests.{and_left, and_right, and_intro, and_false_left, and_false_right, and_last}
use Rattle.step.specs.Step.{room_of}
use Rattle.step.specs.inner.Room.{Room}

pub room_is : (hulls pairs transforms judged caches floats bytes : ℕ) → room_of hulls pairs transforms judged caches floats bytes ≡ true
    → Room hulls pairs transforms judged caches floats bytes
unfolding room_of
room_is hulls pairs transforms judged caches floats bytes h =
    let a = and_left _ _ h in
    let b = and_left _ _ a in
    let d = and_left _ _ b in
    record {
      judged_room = leb-true _ _ (and_left _ _ d);
      transforms_room = leb-true _ _ (and_right _ _ d);
      caches_room = leb-true _ _ (and_right _ _ b);
      floats_room = leb-true _ _ (and_right _ _ a);
      bytes_room = leb-true _ _ (and_right _ _ h);
    }

module _ (hulls pairs transforms judged caches floats bytes : ℕ) where
  pub no_judged : judged < hulls / 6 → false ≡ room_of hulls pairs transforms judged caches floats bytes
  unfolding room_of
  no_judged h = sym (and_false_left _ _ (and_false_left _ _ (and_false_left _ _ (and_false_left _ _ (lt-leb _ _ h)))))

  pub no_transforms : transforms / 7 < pairs / 2 → false ≡ room_of hulls pairs transforms judged caches floats bytes
  unfolding room_of
  no_transforms h = sym (and_false_left _ _ (and_false_left _ _ (and_false_left _ _ (and_false_right _ _ (lt-leb _ _ h)))))

  pub no_caches : caches / 2 < pairs / 2 → false ≡ room_of hulls pairs transforms judged caches floats bytes
  unfolding room_of
  no_caches h = sym (and_false_left _ _ (and_false_left _ _ (and_false_right _ _ (lt-leb _ _ h))))

  pub no_floats : floats / 19 < pairs / 2 → false ≡ room_of hulls pairs transforms judged caches floats bytes
  unfolding room_of
  no_floats h = sym (and_false_left _ _ (and_false_right _ _ (lt-leb _ _ h)))

  pub last_bytes : hulls / 6 ≤ judged → pairs / 2 ≤ transforms / 7 → pairs / 2 ≤ caches / 2 → pairs / 2 ≤ floats / 19
      → leb (pairs / 2) (bytes / 24) ≡ room_of hulls pairs transforms judged caches floats bytes
  unfolding room_of
  last_bytes a b d e =
      and_last _ _ _ (and_intro _ _ (and_intro _ _ (and_intro _ _ (le-leb _ _ a) (le-leb _ _ b)) (le-leb _ _ d)) (le-leb _ _ e)) refl
