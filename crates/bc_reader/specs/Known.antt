-- What a seat knows of what it has read under one look.
use Rattle.std.specs.Prelude.{◌≡◌, ◌⊎◌, ℕ, Bool, List, Option, Some}
use Rattle.bc_bucket.specs.Buckets.{Buckets}
use Rattle.bc_disk.specs.Disk.{DiskFacts}
use Rattle.bc_fetch.specs.bc_hand.Seats.{View, kinds, note}
use Rattle.bc_fetch.specs.bc_hand.declared.hand.Hand.{Hand}
use Rattle.bc_fetch.specs.bc_machine.Note.{Note}
use Rattle.bc_model.specs.Sector.{Gives, Value}
use Rattle.bc_node.specs.Leaf.{Leaf}
use Rattle.bc_reads.specs.Reads.{IsReadFrom, IsRun}
use Rattle.bc_reads.specs.declared.runs.ReadRun.{ReadRun}
use Rattle.bc_reads.specs.declared.source.ReadFrom.TheVariants.{Cache}
use Rattle.bc_reads.specs.bc_sight.Sight.{IsOnBacking, Knows, OfClaim}

-- the devices alone may be other ones
pub record IsSameButDevices {C B : Type 0} (old new : Hand C B) : Type 0 where
  pub rest : new ≡ record old { cache = new.cache; backing = new.backing }
  pub kinds_are : kinds new ≡ kinds old

-- The claim is what it was, and so is whether it was looked up.
pub record IsSameClaim (a b : Note) : Type 0 where
  pub range : b.range ≡ a.range
  pub looked : b.looked ≡ a.looked

-- A value that was read for a sector: from the backing device, which has that, or from the cache
-- device, from where it may be answered while the bucket isn't used anew.
abbrev pub IsReadAs : Leaf → Buckets → (cache backing : Option Value) → ℕ → Value → Type 0
IsReadAs leaf b cache backing s value = ((backing ≡ Some value) × IsOnBacking leaf s)
    ⊎ ((at : ℕ) × (dirty : Bool) × (cache ≡ Some value) × IsReadFrom leaf b s (Cache at dirty))

module _ {C B : Type 0} (cache_facts : C → DiskFacts) (backing_facts : B → DiskFacts) where
  -- Since its look at the leaf, when these were the buckets, the seat read these values for the
  -- sectors from one on.
  pub record HasValues (leaf : Leaf) (b : Buckets) (first : ℕ) (values : List Value)
      (v : View cache_facts backing_facts) : Type 0 where
    pub read : ℕ → Option Value
    pub knows : OfClaim cache_facts backing_facts v (λ o c. Knows o leaf b read c)
    pub gives : Gives first values (λ s value. IsReadAs leaf b (read s)
        ((note cache_facts backing_facts v).read s) s value)

  -- it knows what the run is read for
  pub record IsSeenRun (r : ReadRun) (v : View cache_facts backing_facts) : Type 0 where
    pub leaf : Leaf
    pub buckets : Buckets
    pub read : ℕ → Option Value
    pub knows : OfClaim cache_facts backing_facts v (λ o c. Knows o leaf buckets read c)
    pub is : IsRun leaf buckets r
