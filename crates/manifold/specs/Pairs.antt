-- Tags of points: two edges, each with its owner and its number. Definitions only.
use Rattle.std.specs.Prelude.{ℕ, ◌-◌, cond, ◌||◌, ltb, Option, Some, None}
use Rattle.manifold.specs.declared.FeaturePair.{FeaturePair}
use Rattle.manifold.specs.declared.pairs.FeatureOwner.{FeatureOwner}
use Rattle.manifold.specs.Records.{zero_pair}

-- shape A is 0, shape B is 1
unfoldable pub owner_of : FeatureOwner → ℕ
owner_of FeatureOwner.ShapeA = 0
owner_of FeatureOwner.ShapeB = 1

unfoldable pub pair_of : FeatureOwner → ℕ → FeatureOwner → ℕ → FeaturePair
pair_of owner1 index1 owner2 index2 = record { owner1 = owner_of owner1; index1 = index1; owner2 = owner_of owner2; index2 = index2 }

-- a pair turned round, with a status of 0; or the number of the refusal
pub record Flipped : Type 0 where
  pub status : ℕ
  pub pair : FeaturePair

-- refusal 8, and four zeros
abbrev pub refused_flip : Flipped
refused_flip = record { status = 8; pair = zero_pair }

-- the two edges change places, and each owner becomes the other shape
abbrev pub turned : FeaturePair → FeaturePair
turned p = record { owner1 = 1 - p.owner2; index1 = p.index2; owner2 = 1 - p.owner1; index2 = p.index1 }

-- "8: a pair to be flipped has an owner above 1 (the flip call alone; it returns four zeros)"
unfoldable pub flip_of : FeaturePair → Flipped
flip_of p = cond (ltb 1 p.owner1 || ltb 1 p.owner2) refused_flip (record { status = 0; pair = turned p })

-- what the code hands on, told so
abbrev pub flipped_of : Option FeaturePair → Flipped
flipped_of (Some p) = record { status = 0; pair = p }
flipped_of None = refused_flip
