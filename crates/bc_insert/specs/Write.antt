-- A write of a line that comes into the index: what the seat has to know, and what it knows then.
use Rattle.std.specs.Prelude.{◌≡◌, ℕ, List, [], ◌∷◌, Option, Some}
use Rattle.bc_cache.specs.declared.slots.Cached.{Cached}
use Rattle.bc_disk.specs.Disk.{DiskFacts}
use Rattle.bc_events.specs.Run.{State}
use Rattle.bc_events.specs.declared.event.Deed.TheVariants as deed
use Rattle.bc_events.specs.declared.event.LineNumber.{LineNumber}
use Rattle.bc_fill.specs.declared.fill.Placed.{Placed}
use Rattle.bc_place.specs.bc_hand.Seats.{Did, View, world}
use Rattle.bc_place.specs.bc_hand.declared.hand.Hand.{Hand}
use Rattle.bc_key.specs.declared.key.Key.{Key}
use Rattle.bc_place.specs.bc_machine.World.{FromEach, Origin}
use Rattle.bc_place.specs.bc_machine.declared.part.BucketsPart.{BucketsPart}
use Rattle.bc_model.specs.Sector.{Value, at_run}
use Rattle.bc_place.specs.Named.{AreFilled, IsApartFrom}
use Rattle.bc_place.specs.Next.{HasNamed}
use Rattle.bc_place.specs.Place.{IsOwn}
use Rattle.bc_place.specs.Written.{HasWritten, KeepsOpening, not_in}
use Rattle.bc_insert.specs.Insert.{HasPutIn}

-- no two of these places have a sector in common
abbrev pub AreAllApart : List Placed → Type 0
AreAllApart [] = Unit {0}
AreAllApart (p ∷ ps) = IsApartFrom p ps × AreAllApart ps

-- The places are the seat's own and have these values, one behind the other: what a line writes from
-- `first` on.
pub record AreReady (i first : ℕ) (values : List Value) (ps : List Placed) (o : Origin) (st : State) :
    Type 0 where
  pub filled : AreFilled i first (at_run first values) ps o st
  pub apart : AreAllApart ps

-- Keys were put into leaf and journal in hand, and in the buckets in hand it was noted that they name
-- these places. Nothing else in hand changed.
pub record HasPutWrite {C B : Type 0} (old new : Hand C B) (slot : ℕ) (cached : Cached)
    (keys : List Key) (ps : List Placed) : Type 0 where
  pub between : Hand C B
  pub put : HasPutIn old between slot cached keys
  pub part : BucketsPart
  pub was : old.buckets ≡ Some part
  pub next : BucketsPart
  pub named : HasNamed part ps next
  pub is : new ≡ record between { buckets = Some next }

-- what was written but for the sectors of these places
abbrev pub not_in_any : List Placed → (ℕ → Option Value) → ℕ → Option Value
not_in_any [] known = known
not_in_any (p ∷ ps) known = not_in p.ptr.offset p.count (not_in_any ps known)

abbrev pub IsBeside : Placed → List Placed → Origin → State → Type 0
IsBeside p ps o st = IsApartFrom p ps

module _ {C B : Type 0} (cache_facts : C → DiskFacts) (backing_facts : B → DiskFacts) where
  -- The write stands in the history, and its places are the seat's no more. What the seat knows of
  -- others, it knows still.
  pub record HasInserted (leaf : ℕ) (keys : List Key) (ps : List Placed) (of : LineNumber)
      (first : ℕ) (values : List Value) (v w : View cache_facts backing_facts) : Type 0 where
    pub did : Did cache_facts backing_facts (Some (deed.InsertWrite leaf keys of first values)) v w
    pub opening : KeepsOpening cache_facts backing_facts v w
    pub own : (p : Placed) → FromEach (world cache_facts backing_facts v) (IsBeside p ps)
        → FromEach (world cache_facts backing_facts v) (IsOwn v.first p)
        → FromEach (world cache_facts backing_facts w) (IsOwn w.first p)
    pub written : (known : ℕ → Option Value)
        → FromEach (world cache_facts backing_facts v) (HasWritten v.first known)
        → FromEach (world cache_facts backing_facts w) (HasWritten w.first (not_in_any ps known))
