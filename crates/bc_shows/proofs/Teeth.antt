-- A key of sectors 64 to 79 whose data begins 8 sectors before the end of bucket 1. Bucket 2 was
-- given up since, and bucket 1 wasn't.
use Rattle.std.proofs.Common.{◌≡◌, false, [], ◌∷◌, Some, refl, lit<, lit≤}
use Rattle.bc_model.specs.Sector.{Image, Value}
use Rattle.bc_disk.specs.Gens.{Gens}
use Rattle.bc_disk.specs.declared.geometry.Geometry.{Geometry}
use Rattle.bc_record.specs.Places.{bucket_at}
use Rattle.bc_key.specs.declared.key.Key.{Key}
use Rattle.bc_keys.proofs.OnePointer.{one_pointer_key, ptr_to}
use Rattle.bc_image.specs.Shown.{generation_of, value_by}
use Rattle.bc_image.proofs.Examples.{geometry}
use Rattle.bc_remains.specs.Means.{ref_of}
use Rattle.bc_whole.specs.Laws.{shown_by}
use Rattle.bc_shows.specs.Teeth.{NeedsOneBucket}

abbrev g : Geometry
g = geometry 8 (lit≤ tt)

abbrev key : Key
key = one_pointer_key 80 16 false (ptr_to 120 0 (lit< tt) (lit< tt)) (lit< tt) (lit< tt)

abbrev gens : Gens
gens = record {
  records = record { priority = 0; generation = 0 } ∷ record { priority = 0; generation = 0 } ∷ record { priority = 0; generation = 1 } ∷ [];
  chain = [];
}

abbrev there : Image
there = λ t. []

here : value_by g gens there (Some key) 74 (1 ∷ []) ≡ []
here = refl

machine : shown_by (bucket_at g) (generation_of gens) (ref_of (Some key) 74) there (1 ∷ []) ≡ 1 ∷ []
machine = refl

no_same : (a b : Value) → a ≡ [] → b ≡ 1 ∷ [] → a ≡ b → ⊥
no_same a b e h same = cc

pub law_teeth_bucket : NeedsOneBucket
law_teeth_bucket = (g, gens, key, 74, there, (1 ∷ [], (lit≤ tt, lit< tt), λ e. no_same (value_by g gens there (Some key) 74 (1 ∷ [])) (shown_by (bucket_at g) (generation_of gens) (ref_of (Some key) 74) there (1 ∷ [])) here machine e))
