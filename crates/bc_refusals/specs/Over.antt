-- A run over a sound pair, as a seat has seen it.
use Rattle.std.specs.Prelude.{◌≡◌, ℕ, ◌*◌, ◌^◌, ◌≤◌}
use Rattle.bc_disk.specs.Disk.{DiskFacts}
use Rattle.bc_disk.specs.declared.geometry.Geometry.{Geometry}
use Rattle.bc_facts.specs.Layout.{IsLayoutOf}
use Rattle.bc_facts.specs.Seen.{counted}
use Rattle.bc_request.specs.bc_hand.Seats.{View, world}
use Rattle.bc_request.specs.bc_machine.World.{IsCourseOf, IsOrigin, Origin, cache_among}
use Rattle.bc_record.specs.Places.{bucket_at}

-- The opening is of a cache device that is divided so, and that has all sectors of its buckets. Its
-- tree has leaves up to sector 2 ^ 40, and no data lie behind that.
pub record IsOfDevice (o : Origin) (g : Geometry) (sectors : ℕ) : Type 0 where
  pub layout : IsLayoutOf g o.opening.machine.layout
  pub before : o.opening.machine.before ≡ g.first_bucket
  pub bucket : (place : ℕ) → o.opening.machine.flow.books.bucket place
      ≡ counted g (bucket_at g place)
  pub end : o.parts.end ≡ 2 ^ 40
  pub size : o.opening.machine.flow.books.size ≤ 2 ^ 40
  pub whole : g.bucket * g.nbuckets ≤ sectors

module _ {C B : Type 0} (cache_facts : C → DiskFacts) (backing_facts : B → DiskFacts) where
  -- a sound opening of the core, of such a device, from which the run is one as far as the seat has
  -- seen it
  pub record IsOver (o : Origin) (g : Geometry) (v : View cache_facts backing_facts) : Type 0 where
    pub origin : IsOrigin (world cache_facts backing_facts v) o
    pub course : IsCourseOf o (world cache_facts backing_facts v).log
    pub device : IsOfDevice o g (cache_among cache_facts backing_facts v.run.start).sectors
