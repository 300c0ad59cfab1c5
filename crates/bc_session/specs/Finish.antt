-- A run in which keys came in, and that is closed.
use Rattle.std.specs.Prelude.{◌≡◌, Bool, true, IfErr, IfOk, Result, Ok, Err}
use Rattle.bc_dirty.specs.Walk.{HasAsked, HasStoppedAsking}
use Rattle.bc_dirty.specs.bc_fetch.declared.error.LeafError.{LeafError}
use Rattle.bc_disk.specs.Disk.{DiskFacts}
use Rattle.bc_started.specs.bc_hand.Seats.{IsCoreSeat, View}
use Rattle.bc_super.specs.declared.backing.BackingSuper.{BackingSuper}
use Rattle.bc_session.specs.Close.{HasClosed, Outcome}
use Rattle.bc_session.specs.declared.closing.Closed.{Closed}
use Rattle.bc_session.specs.declared.finishing.FinishError.{FinishError}
use Rattle.bc_session.specs.declared.finishing.FinishError.TheVariants as errors
use Rattle.bc_session.specs.declared.finishing.Finished.{Finished}

-- what was asked: whether some data is in the cache alone
abbrev pub Asked : Type 0
Asked = Result Bool LeafError

-- It may be so where nobody knows it.
abbrev pub MayLack : Asked → Bool → Type 0
MayLack (Ok dirty) lacks = lacks ≡ dirty
MayLack (Err error) lacks = lacks ≡ true

-- The outcome by what was asked and by that of the closing, whose error comes first.
abbrev pub IsFinishedOf : Asked → Outcome → Result (Unit {0}) FinishError → Type 0
IsFinishedOf asked (Err why) result = result ≡ Err (errors.Close why)
IsFinishedOf (Err error) (Ok u) result = result ≡ Err (errors.Leaf error)
IsFinishedOf (Ok dirty) (Ok u) result = result ≡ Ok tt

module _ {C B : Type 0} (cache_facts : C → DiskFacts) (backing_facts : B → DiskFacts) where
  -- It was asked, and then closed: as a run that has data in the cache alone where that may be so.
  pub record HasFinished (b : BackingSuper) (v : View cache_facts backing_facts)
      (r : Finished C B) : Type 0 where
    pub asked : Asked
    pub at : View cache_facts backing_facts
    pub seat : IsCoreSeat cache_facts backing_facts at
    pub told : IfOk asked (λ dirty. HasAsked cache_facts backing_facts dirty v at)
    pub stopped : IfErr asked (λ error. HasStoppedAsking cache_facts backing_facts error v at)
    pub lacks : Bool
    pub may_lack : MayLack asked lacks
    pub closed : Closed C B
    pub close : HasClosed cache_facts backing_facts b lacks at closed
    pub cache : r.cache ≡ closed.cache
    pub backing : r.backing ≡ closed.backing
    pub pass : r.pass ≡ closed.pass
    pub outcome : IsFinishedOf asked closed.result r.result
