-- A place on the cache device that a seat pinned: what the seat did, and what it knows of it. It is
-- said from each opening of the core from which the run so far is one.
use Rattle.std.specs.Prelude.{◌≡◌, ◌⊎◌, ℕ, ◌+◌, ◌-◌, ◌%◌, ◌<◌, ◌≤◌, Bool, true, List, [], ◌∷◌, ◌++◌, Option, Some, None, Result, Ok, Err}
use Rattle.bc_alloc.specs.declared.purpose.NoBucket.{NoBucket}
use Rattle.bc_alloc.specs.declared.purpose.Purpose.TheVariants as list
use Rattle.bc_books.specs.Shelves.{Own}
use Rattle.bc_deed.specs.Flushed.{HasDone}
use Rattle.bc_disk.specs.Disk.{DiskFacts}
use Rattle.bc_events.specs.Columns.{halt_of}
use Rattle.bc_events.specs.Run.{State}
use Rattle.bc_events.specs.declared.event.Deed.{Deed}
use Rattle.bc_events.specs.declared.event.Deed.TheVariants as deed
use Rattle.bc_fill.specs.Fresh.{IsOf}
use Rattle.bc_fill.specs.declared.fill.Placed.{Placed}
use Rattle.bc_deed.specs.bc_hand.Seats.{Did, View, world}
use Rattle.bc_deed.specs.bc_hand.declared.error.StepError.{StepError}
use Rattle.bc_deed.specs.bc_hand.declared.error.StepError.TheVariants as error
use Rattle.bc_deed.specs.bc_machine.World.{FromEach, Origin}
use Rattle.bc_meta.specs.Layout.{Layout}
use Rattle.bc_places.specs.Laws.{HasNone}
use Rattle.bc_shares.specs.Shares.{books_of}

-- so many buckets of the device lie before those that the core counts
abbrev pub HasBefore : ℕ → Origin → State → Type 0
HasBefore n o st = o.opening.machine.before ≡ n

-- the place lies in this bucket
pub record LiesIn (w : Layout) (q : ℕ) (p : Placed) : Type 0 where
  pub bucket : q < w.buckets
  pub low : w.first q ≤ p.ptr.offset
  pub high : p.ptr.offset + p.count ≤ w.first q + w.bucket_sectors

-- Each of its sectors is the seat's own, so that nobody else writes there or names it; it lies in a
-- bucket that has the pointer's generation, which isn't raised meanwhile.
pub record IsOwn (i : ℕ) (p : Placed) (o : Origin) (st : State) : Type 0 where
  pub some : 1 ≤ p.count
  pub own : (t : ℕ) → IsOf p t → (books_of st.machine).owner t ≡ Own i
  pub bucket : (t : ℕ) → IsOf p t → o.opening.machine.flow.books.bucket t
      ≡ o.opening.machine.flow.books.bucket p.ptr.offset
  pub lies : LiesIn o.opening.machine.layout (o.opening.machine.flow.books.bucket p.ptr.offset) p
  pub generation : p.ptr.generation ≡ (books_of st.machine).generations.version
      (o.opening.machine.flow.books.bucket p.ptr.offset) % 256

-- no bucket is open for data, and none may be taken for it
abbrev pub HasNoBucket : Origin → State → Type 0
HasNoBucket o st = HasNone o.opening.machine.flow.books (books_of st.machine)

-- The place is on the cache device, which is number 0, and has as many sectors as were asked for; or
-- as many as its bucket had left, which is full then. So one key can name all of it.
pub record IsUpTo (count : ℕ) (p : Placed) (full : Bool) : Type 0 where
  pub device : p.ptr.dev ≡ 0
  pub some : 1 ≤ p.count
  pub few : p.count ≤ 32768
  pub most : p.count ≤ count
  pub rest : p.count < count → full ≡ true

abbrev pub no_bucket : NoBucket
no_bucket = record { purpose = list.Plain; none_len = 0; own_len = 0 }

-- a bucket is taken, if one was opened; the containers count those before the core's too
abbrev pub taking : ℕ → Option ℕ → Option Deed
taking before None = None
taking before (Some k) = Some (deed.Take list.Plain (k - before))

abbrev pub taken_by : ℕ → Option ℕ → List Deed
taken_by before None = []
taken_by before (Some k) = deed.Take list.Plain (k - before) ∷ []

module _ {C B : Type 0} (cache_facts : C → DiskFacts) (backing_facts : B → DiskFacts) where
  -- a step that was to have a bucket open
  abbrev pub HasOpened : ℕ → Result (Option ℕ) NoBucket → View cache_facts backing_facts
      → View cache_facts backing_facts → Type 0
  HasOpened before (Ok opened) v w = Did cache_facts backing_facts (taking before opened) v w
  HasOpened before (Err none) v w = (none ≡ no_bucket)
      × Did cache_facts backing_facts None v w
      × FromEach (world cache_facts backing_facts w) HasNoBucket

  -- such a place was pinned
  pub record HasPinned (count : ℕ) (p : Placed) (v w : View cache_facts backing_facts) :
      Type 0 where
    pub opened : p.opened ≡ None
    pub full : Bool
    pub is : IsUpTo count p full
    pub did : Did cache_facts backing_facts (Some (deed.Pin p.ptr.offset p.count full)) v w

  -- A place was given: a bucket was taken, if none was open, and the place pinned in an open one.
  pub record HasGiven (before count : ℕ) (p : Placed) (v w : View cache_facts backing_facts) :
      Type 0 where
    pub full : Bool
    pub is : IsUpTo count p full
    pub done : HasDone cache_facts backing_facts
        (taken_by before p.opened ++ deed.Pin p.ptr.offset p.count full ∷ []) v w

  -- Or there is no bucket for it, and nothing was done.
  abbrev pub HasPlaced : (before count : ℕ) → Result Placed NoBucket
      → View cache_facts backing_facts → View cache_facts backing_facts → Type 0
  HasPlaced before count (Ok p) v w = HasGiven before count p v w
  HasPlaced before count (Err none) v w = (none ≡ no_bucket)
      × Did cache_facts backing_facts None v w
      × FromEach (world cache_facts backing_facts w) HasNoBucket

  -- A device had halted the run, before the step or behind the taking of a bucket, which stays open
  -- then.
  abbrev pub HasHalted : StepError → View cache_facts backing_facts
      → View cache_facts backing_facts → Type 0
  HasHalted (error.Fault device) v w = ⊥
  HasHalted (error.Halted device) v w = (halt_of w.seen ≡ Some device)
      × (HasDone cache_facts backing_facts [] v w
      ⊎ ((q : ℕ) × HasDone cache_facts backing_facts (deed.Take list.Plain q ∷ []) v w))
  HasHalted error.Memory v w = ⊥
