-- An opening of the machine that is what a reader found.
use Rattle.std.specs.Prelude.{◌≡◌}
use Rattle.bc_disk.specs.declared.geometry.Geometry.{Geometry}
use Rattle.bc_jset.specs.Ring.{IsNextPlace, bucket_of}
use Rattle.bc_meta.specs.Keys.{Alike}
use Rattle.bc_meta.specs.Chain.{bytes_of}
use Rattle.bc_meta.specs.Layout.{Layout, image_keys}
use Rattle.bc_meta.specs.Laws.{Opening}
use Rattle.bc_image.specs.Reading.{Reading}
use Rattle.bc_facts.specs.Reads.{back}
use Rattle.bc_remains.specs.Means.{Means}

-- It means what was read, and goes on in the journal where the format says.
pub record Opens (g : Geometry) (w : Layout) (r : Reading) (o : Opening) : Type 0 where
  pub means : Means g r o.newest o.older (image_keys w o.owners o.image o.newest o.older) o.chain
      o.gens
  pub bucket : back g o.bucket ≡ bucket_of g r.newest
  pub next : IsNextPlace g r.entries r.newest (o.ring_next o.bucket)

-- Two openings say the same of all that was read: generations as bytes, and keys by what they say
-- of a sector.
pub record AreAlike (w : Layout) (a b : Opening) : Type 0 where
  pub newest : a.newest ≡ b.newest
  pub older : a.older ≡ b.older
  pub keys : Alike (image_keys w a.owners a.image a.newest a.older)
      (image_keys w b.owners b.image b.newest b.older)
  pub chain : a.chain ≡ b.chain
  pub gens : bytes_of a.gens ≡ bytes_of b.gens
  pub bucket : a.bucket ≡ b.bucket
  pub next : a.ring_next a.bucket ≡ b.ring_next b.bucket
