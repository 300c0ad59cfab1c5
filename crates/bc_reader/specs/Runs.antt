-- Runs that are read one behind the other.
use Rattle.std.specs.Prelude.{◌≡◌, ℕ, ◌+◌, ◌≤◌, All, Bool, List, ◌++◌, length, None}
use Rattle.bc_bucket.specs.Buckets.{Buckets}
use Rattle.bc_disk.specs.Disk.{DiskFacts}
use Rattle.bc_fetch.specs.bc_hand.Seats.{View}
use Rattle.bc_model.specs.Sector.{Value, sectors}
use Rattle.bc_node.specs.Leaf.{Leaf}
use Rattle.bc_reads.specs.Reads.{AreRuns, IsRun}
use Rattle.bc_reads.specs.declared.runs.ReadRun.{ReadRun}
use Rattle.bc_reads.specs.declared.source.ReadFrom.TheVariants.{Cache}
use Rattle.bc_reads.specs.bc_sight.Sight.{Knows, OfClaim}
use Rattle.bc_reader.specs.Deeds.{AreRunDeeds, AreRunsDeeds, HasDoneSome}
use Rattle.bc_reader.specs.Known.{HasValues}

-- the run ends by this sector, if it is read from the cache device
abbrev pub EndsBy : ℕ → ReadRun → Type 0
EndsBy end r = (at : ℕ) (dirty : Bool) → r.from ≡ Cache at dirty → at + r.count ≤ end

abbrev pub LieWithin : List ReadRun → ℕ → Type 0
LieWithin runs end = All (EndsBy end) runs

module _ {C B : Type 0} (cache_facts : C → DiskFacts) (backing_facts : B → DiskFacts) where
  -- the values of a run came behind those of the sectors before it, and the seat knows them
  pub record HasReadAt (r : ReadRun) (place : ℕ) (old new : List ℕ)
      (v w : View cache_facts backing_facts) : Type 0 where
    pub own : List Value
    pub long : length own ≡ r.count
    pub bytes : sectors (place + r.count) new ≡ sectors place old ++ own
    pub did : HasDoneSome cache_facts backing_facts (AreRunDeeds r own) v w
    pub knows : (leaf : Leaf) (b : Buckets) (first : ℕ) (values : List Value)
        → HasValues cache_facts backing_facts leaf b first values v → IsRun leaf b r
        → r.first ≡ first + length values
        → HasValues cache_facts backing_facts leaf b first (values ++ own) w

  -- it has looked up the sectors of these runs, and has read none of them
  pub record IsSeenAll (first count : ℕ) (runs : List ReadRun) (v : View cache_facts backing_facts) :
      Type 0 where
    pub leaf : Leaf
    pub buckets : Buckets
    pub runs_are : AreRuns leaf buckets first (first + count) runs
    pub knows : OfClaim cache_facts backing_facts v (λ o c. Knows o leaf buckets (λ _. None) c)

  -- each run was read, and the seat knows the values
  pub record HasReadAll (first : ℕ) (runs : List ReadRun) (values : List Value)
      (v w : View cache_facts backing_facts) : Type 0 where
    pub did : HasDoneSome cache_facts backing_facts (AreRunsDeeds runs values) v w
    pub knows : (leaf : Leaf) (b : Buckets) (end : ℕ)
        → OfClaim cache_facts backing_facts v (λ o c. Knows o leaf b (λ _. None) c)
        → AreRuns leaf b first end runs → HasValues cache_facts backing_facts leaf b first values w
