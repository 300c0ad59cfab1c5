-- What a seat may note as a candidate, and what holds of each that stands.
use Rattle.std.specs.Prelude.{◌≡◌, ℕ, true, false, List, Option, Some}
use Rattle.bc_books.specs.Index.{run_place, within}
use Rattle.bc_books.specs.Shelves.{Kept}
use Rattle.bc_disk.specs.Disk.{DiskFacts}
use Rattle.bc_events.specs.declared.event.Deed.TheVariants as deed
use Rattle.bc_events.specs.declared.event.LineNumber.{LineNumber}
use Rattle.bc_fill.specs.declared.fill.Placed.{Placed}
use Rattle.bc_model.specs.Sector.{Value, at_run}
use Rattle.bc_model.specs.declared.values.Values.{Values}
use Rattle.bc_node.specs.Leaf.{Leaf}
use Rattle.bc_place.specs.Written.{HasWritten}
use Rattle.bc_place.specs.bc_deed.Asked.{IsWithin}
use Rattle.bc_place.specs.bc_hand.Seats.{Did, IsCoreSeat, View, note, world}
use Rattle.bc_place.specs.bc_machine.World.{FromEach, IsCourseOf, IsOrigin, Origin, World, replay}
use Rattle.bc_sight.specs.Sight.{HasLooked, IsOnBacking, OfClaim}
use Rattle.bc_candidate.specs.Noted.{IsKeepable}

-- The places of a candidate that stands are its own: nobody writes there or names them, and their
-- buckets aren't raised.
abbrev pub LawKept : Type 0
LawKept = (x : World) (o : Origin) → IsOrigin x o → IsCourseOf o x.log → (c t : ℕ)
    → ((replay o x.log).machine.whole.flow.candidates c).stands ≡ true
    → within ((replay o x.log).machine.whole.flow.candidates c).place
    ((replay o x.log).machine.whole.flow.candidates c).count t ≡ true
    → (replay o x.log).machine.whole.flow.books.owner t ≡ Kept c

-- Of each sector of the place, the value that was read is the one that stands there, and by the
-- leaf the backing device has what the sector shows.
abbrev pub WasRead : Leaf → (read known : ℕ → Option Value) → (first : ℕ) → Placed → Type 0
WasRead leaf read known first p = (s t : ℕ) → run_place first p.ptr.offset p.count s ≡ Some t
    → IsOnBacking leaf s × ((v : Value) × (read s ≡ Some v) × (known t ≡ Some v))

-- The values of the place are those that were written for as many sectors from `first` on.
abbrev pub WasWritten : (from : ℕ) → List Value → (known : ℕ → Option Value) → (first : ℕ) → Placed
    → Type 0
WasWritten from values known first p = (s t : ℕ) → run_place first p.ptr.offset p.count s ≡ Some t
    → (v : Value) × (at_run from values s ≡ Some v) × (known t ≡ Some v)

module _ {C B : Type 0} (cache_facts : C → DiskFacts) (backing_facts : B → DiskFacts) where
  -- What a miss read may be kept.
  abbrev pub LawRead : Type 0
  LawRead = (v : View cache_facts backing_facts) → IsCoreSeat cache_facts backing_facts v
      → (leaf : Leaf) → OfClaim cache_facts backing_facts v (λ o c. HasLooked leaf c)
      → (note cache_facts backing_facts v).range.exclusive ≡ false
      → (first : ℕ) (p : Placed)
      → IsWithin (note cache_facts backing_facts v).range first p.count
      → (known : ℕ → Option Value)
      → FromEach (world cache_facts backing_facts v) (HasWritten v.first known)
      → WasRead leaf (note cache_facts backing_facts v).read known first p
      → FromEach (world cache_facts backing_facts v) (IsKeepable v.first first p)

  -- What was written around the cache may be.
  abbrev pub LawThrough : Type 0
  LawThrough = (v w : View cache_facts backing_facts) → IsCoreSeat cache_facts backing_facts v
      → (from : ℕ) (of : LineNumber) (values : Values)
      → Did cache_facts backing_facts (Some (deed.BackingWrite from (Some of) values)) v w
      → (first : ℕ) (p : Placed)
      → IsWithin (note cache_facts backing_facts v).range first p.count
      → (known : ℕ → Option Value)
      → FromEach (world cache_facts backing_facts w) (HasWritten w.first known)
      → WasWritten from values known first p
      → FromEach (world cache_facts backing_facts w) (IsKeepable w.first first p)
