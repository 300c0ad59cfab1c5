-- Values that were stored come into the index, or don't.
use Rattle.std.specs.Prelude.{◌≡◌, ◌⊎◌, ℕ, List, [], None, length}
use Rattle.bc_disk.specs.Disk.{DiskFacts}
use Rattle.bc_events.specs.declared.event.LineNumber.{LineNumber}
use Rattle.bc_fill.specs.declared.fill.Placed.{Placed}
use Rattle.bc_stored.specs.bc_deed.Asked.{IsHaltedOr}
use Rattle.bc_stored.specs.bc_deed.Flushed.{HasDone}
use Rattle.bc_stored.specs.bc_hand.Seats.{Did, View}
use Rattle.bc_stored.specs.bc_hand.declared.error.StepError.{StepError}
use Rattle.bc_stored.specs.bc_place.Named.{AreKeysFor}
use Rattle.bc_stored.specs.bc_insert.Write.{HasInserted}
use Rattle.bc_key.specs.declared.key.Key.{Key}
use Rattle.bc_model.specs.Sector.{Value}
use Rattle.bc_request.specs.bc_fetch.Fetch.{HasReadOne, HasStoppedAt}
use Rattle.bc_request.specs.bc_fetch.declared.error.LeafError.{LeafError}
use Rattle.bc_request.specs.bc_fetch.declared.error.LeafError.TheVariants as leaf
use Rattle.bc_write_back.specs.Room.{LacksRoomFor}
use Rattle.bc_write_back.specs.declared.error.Lack.{Lack}
use Rattle.bc_write_back.specs.declared.error.Put.{Put}
use Rattle.bc_write_back.specs.declared.error.Put.TheVariants as put

module _ {C B : Type 0} (cache_facts : C → DiskFacts) (backing_facts : B → DiskFacts) where
  -- The keys came into a leaf, which may have been read before, and with them the write stands in
  -- the history: `HasInserted` says the deed. Then nothing was done.
  pub record HasPut (ps : List Placed) (of : LineNumber) (first : ℕ) (values : List Value)
      (v w : View cache_facts backing_facts) : Type 0 where
    pub keys : List Key
    pub named : AreKeysFor first ps keys
    pub number : ℕ
    pub at : View cache_facts backing_facts
    pub way : HasReadOne cache_facts backing_facts v at
    pub put : View cache_facts backing_facts
    pub inserted : HasInserted cache_facts backing_facts number keys ps of first values at put
    pub then : HasDone cache_facts backing_facts [] put w

  -- There was no room for them: but for that read nothing was done.
  pub record HasLacked (why : Lack) (ps : List Placed) (first count : ℕ)
      (v w : View cache_facts backing_facts) : Type 0 where
    pub number : ℕ
    pub at : View cache_facts backing_facts
    pub way : HasReadOne cache_facts backing_facts v at
    pub lacks : LacksRoomFor cache_facts backing_facts why ps number first count at
    pub then : HasDone cache_facts backing_facts [] at w

  -- A halt or want of memory came behind that read, or before it.
  pub record HasStoppedBehind (e : LeafError) (v w : View cache_facts backing_facts) : Type 0 where
    pub cause : StepError
    pub is : e ≡ leaf.Step cause
    pub at : View cache_facts backing_facts
    pub way : HasReadOne cache_facts backing_facts v at
    pub why : IsHaltedOr cause at.seen
    pub then : HasDone cache_facts backing_facts [] at w

  -- or the leaf wasn't had
  abbrev pub HasNotPut : (first count : ℕ) → LeafError → View cache_facts backing_facts
      → View cache_facts backing_facts → Type 0
  HasNotPut first count e v w =
      HasStoppedAt cache_facts backing_facts first count e v w ⊎ HasStoppedBehind e v w

  -- what keys in hand came to
  abbrev pub HasComeIn : Put → (number : ℕ) → List Key → List Placed → LineNumber → (first : ℕ)
      → List Value → View cache_facts backing_facts → View cache_facts backing_facts → Type 0
  HasComeIn put.Written number keys ps of first values v w =
      HasInserted cache_facts backing_facts number keys ps of first values v w
  HasComeIn (put.Lacks why) number keys ps of first values v w =
      Did cache_facts backing_facts None v w
      × LacksRoomFor cache_facts backing_facts why ps number first (length values) v

  -- and stored values
  abbrev pub HasPutOr : Put → List Placed → LineNumber → (first : ℕ) → List Value
      → View cache_facts backing_facts → View cache_facts backing_facts → Type 0
  HasPutOr put.Written ps of first values v w = HasPut ps of first values v w
  HasPutOr (put.Lacks why) ps of first values v w = HasLacked why ps first (length values) v w
