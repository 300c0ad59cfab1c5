-- A piece of a write past the cache, and what became of the keys over its sectors.
use Rattle.std.specs.Prelude.{◌⊎◌, ℕ, Bool, List, length}
use Rattle.bc_around.specs.Past.{HasNotPassed, HasPassed}
use Rattle.bc_around.specs.declared.past.Past.{Past}
use Rattle.bc_around.specs.declared.past.Past.TheVariants as past
use Rattle.bc_around.specs.declared.past.PastError.{PastError}
use Rattle.bc_bypass.specs.Invalidated.{HasInvalidated, HasNotInvalidated}
use Rattle.bc_bypass.specs.declared.error.BypassError.{BypassError}
use Rattle.bc_bypass.specs.declared.error.BypassError.TheVariants as error
use Rattle.bc_bypass.specs.declared.error.Bypassed.{Bypassed}
use Rattle.bc_bypass.specs.declared.error.Bypassed.TheVariants as bypassed
use Rattle.bc_bypass.specs.declared.error.Invalidated.{Invalidated}
use Rattle.bc_bypass.specs.declared.error.Invalidated.TheVariants as invalidated
use Rattle.bc_disk.specs.Disk.{DiskFacts}
use Rattle.bc_events.specs.declared.event.LineNumber.{LineNumber}
use Rattle.bc_model.specs.Sector.{Value}
use Rattle.bc_parts.specs.Seat.{PartsView}
use Rattle.bc_write_back.specs.bc_hand.Seats.{View}
use Rattle.bc_write_back.specs.bc_machine.declared.part.CorePart.{CorePart}
use Rattle.bc_write_back.specs.bc_request.bc_fetch.declared.error.LeafError.{LeafError}

module _ {C B : Type 0} (cache_facts : C → DiskFacts) (backing_facts : B → DiskFacts)
    (p : PartsView (CorePart C B)) (force : Bool) (of : LineNumber) (first : ℕ)
    (values : List Value) where
  -- a key stood over the sectors, and this came of the keys there
  pub record HasFoundThem (what : Invalidated) (v w : View cache_facts backing_facts) : Type 0 where
    pub found : View cache_facts backing_facts
    pub cached : HasPassed cache_facts backing_facts past.Cached p force of first values v found
    pub keys : HasInvalidated cache_facts backing_facts what first (length values) found w

  -- they were taken away, and then this came of the write
  pub record HasPassedBehind (what : Past) (v w : View cache_facts backing_facts) : Type 0 where
    pub gone : View cache_facts backing_facts
    pub taken : HasFoundThem invalidated.Gone v gone
    pub passed : HasPassed cache_facts backing_facts what p force of first values gone w

  -- this came of the write, at once or behind them
  abbrev pub HasPassedOr : Past → View cache_facts backing_facts → View cache_facts backing_facts
      → Type 0
  HasPassedOr what v w = HasPassed cache_facts backing_facts what p force of first values v w
      ⊎ HasPassedBehind what v w

  abbrev pub HasBypassed : Bypassed → View cache_facts backing_facts
      → View cache_facts backing_facts → Type 0
  HasBypassed bypassed.Written v w = HasPassedOr past.Written v w
  HasBypassed bypassed.Dirty v w = HasFoundThem invalidated.Dirty v w
  HasBypassed (bypassed.Lacks why) v w = HasFoundThem (invalidated.Lacks why) v w
  HasBypassed bypassed.Cached v w = HasPassedBehind past.Cached v w
  HasBypassed bypassed.Waiting v w = HasPassedOr past.Waiting v w

  -- the write was stopped behind them
  pub record HasNotPassedBehind (e : PastError) (v w : View cache_facts backing_facts) : Type 0
    where
      pub gone : View cache_facts backing_facts
      pub taken : HasFoundThem invalidated.Gone v gone
      pub stop : HasNotPassed cache_facts backing_facts e p force of first values gone w

  -- or a key stood over the sectors, and taking them away was stopped
  pub record HasKeptThem (e : LeafError) (v w : View cache_facts backing_facts) : Type 0 where
    pub found : View cache_facts backing_facts
    pub cached : HasPassed cache_facts backing_facts past.Cached p force of first values v found
    pub stop : HasNotInvalidated cache_facts backing_facts e first (length values) found w

  abbrev pub HasNotBypassed : BypassError → View cache_facts backing_facts
      → View cache_facts backing_facts → Type 0
  HasNotBypassed (error.Past e) v w =
      HasNotPassed cache_facts backing_facts e p force of first values v w
      ⊎ HasNotPassedBehind e v w
  HasNotBypassed (error.Keys e) v w = HasKeptThem e v w
