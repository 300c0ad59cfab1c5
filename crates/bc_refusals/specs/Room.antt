-- When a slot of a part with leaves can go.
use Rattle.std.specs.Prelude.{◌≡◌, ◌≢◌, ℕ, ◌-◌, ◌%◌, ◌<◌, false, List, [], Some, length, slice_get}
use Rattle.bc_cache.specs.Slots.{NodeCache, NoneCanGo}
use Rattle.bc_cache.specs.declared.slots.Cached.{Cached}
use Rattle.bc_session.specs.bc_chosen.Parts.{Parts, choices_of}
use Rattle.bc_disk.specs.Disk.{DiskFacts}
use Rattle.bc_disk.specs.declared.geometry.Geometry.{Geometry}
use Rattle.bc_request.specs.bc_fetch.Fetch.{HasStoppedAt}
use Rattle.bc_request.specs.bc_fetch.declared.error.LeafError.TheVariants as leaf
use Rattle.bc_request.specs.bc_hand.Seats.{View, world}
use Rattle.bc_image.specs.Pair.{Pair}
use Rattle.bc_image.specs.Reading as pairs
use Rattle.bc_leaves.specs.Parts.{NoNode}
use Rattle.bc_leaves.specs.Parts as parts
use Rattle.bc_request.specs.bc_machine.Containers.{AreLeavesOf}
use Rattle.bc_request.specs.bc_machine.World.{IsCourseOf, IsOrigin, Origin, World, replay}
use Rattle.bc_meta.specs.Facts.{In}
use Rattle.bc_meta.specs.Layout.{Layout}
use Rattle.bc_opening.specs.Opening.{IsOpeningOf}
use Rattle.bc_shares.specs.Shares.{leaf_share}
use Rattle.bc_session.specs.bc_slots.Parts.{IsLeafPart}
use Rattle.bc_whole.specs.State.{Opening}
use Rattle.bc_refusals.specs.Made.{TouchNoLeaf}
use Rattle.bc_refusals.specs.Over.{IsOver}

-- Of so many parts, this one has more slots than leaves for which keys wait. No two slots have one
-- leaf, and nobody holds one.
pub record HasRoom (st : parts.State) (count part : ℕ) (cache : NodeCache) : Type 0 where
  pub once : (i j : ℕ) (a b : Cached) → slice_get cache.slots i ≡ Some (Some a)
      → slice_get cache.slots j ≡ Some (Some b) → a.number ≡ b.number → i ≡ j
  pub unheld : (i : ℕ) (c : Cached) → slice_get cache.slots i ≡ Some (Some c) → c.held ≡ false
  pub waiting : List ℕ
  pub each : (k : ℕ) → k % count ≡ part → (st.leaves k).pending ≢ [] → In k waiting
  pub more : length waiting < length cache.slots

-- then another leaf may come into one
abbrev pub LawRoom : Type 0
LawRoom = (w : Opening) (st : parts.State) (count part : ℕ) (cache : NodeCache)
    → AreLeavesOf w st count part cache → HasRoom st count part cache → ¬ (NoneCanGo cache.slots)

-- So each part has room with which a run begins over a pair that was read: it has four slots more.
abbrev pub LawBegun : DiskFacts → Type 0
LawBegun d = (p : Pair) (v : pairs.View) (layout : Layout) (x : Parts) (w : Opening)
    (st : parts.State) (count part : ℕ) (g : Geometry) (cache : NodeCache)
    → IsOpeningOf p v layout (choices_of v.geometry v.reading x) w st
    → IsLeafPart g x.tree.leaves x.pending count d part cache → HasRoom st count part cache

-- Where no event touched a leaf, each is as it was at the opening, with the keys that wait for it.
abbrev pub LawStill : Type 0
LawStill = (x : World) (o : Origin) → IsOrigin x o → IsCourseOf o x.log → TouchNoLeaf x.log
    → (k : ℕ) → ((replay o x.log).machine.whole.parts.leaves k).role ≢ NoNode
    → leaf_share (replay o x.log).machine.whole.parts k ≡ leaf_share o.parts k

-- No two slots of the part have one leaf, nobody holds one, and there are as many slots as in the
-- part with which the run began.
pub record IsAsBegun (was now : NodeCache) : Type 0 where
  pub once : (i j : ℕ) (a b : Cached) → slice_get now.slots i ≡ Some (Some a)
      → slice_get now.slots j ≡ Some (Some b) → a.number ≡ b.number → i ≡ j
  pub unheld : (i : ℕ) (c : Cached) → slice_get now.slots i ≡ Some (Some c) → c.held ≡ false
  pub slots : length now.slots ≡ length was.slots

-- So the part has the room that it had.
abbrev pub LawStays : Type 0
LawStays = (x : World) (o : Origin) → IsOrigin x o → IsCourseOf o x.log → TouchNoLeaf x.log
    → (count part : ℕ) (was now : NodeCache) → HasRoom o.parts count part was → IsAsBegun was now
    → HasRoom (replay o x.log).machine.whole.parts count part now

module _ {C B : Type 0} (cache_facts : C → DiskFacts) (backing_facts : B → DiskFacts) where
  -- A part of which a seat was told that it is busy had no room then.
  abbrev pub LawBusy : Type 0
  LawBusy = (o : Origin) (g : Geometry) (first count : ℕ) (v w : View cache_facts backing_facts)
      → IsOver cache_facts backing_facts o g w
      → (h : HasStoppedAt cache_facts backing_facts first count leaf.Busy v w)
      → let n = length h.at.run.start - 6 in
      ¬ (HasRoom (replay o (world cache_facts backing_facts h.at).log).machine.whole.parts n
      (h.range.number % n) h.leaves)

  -- So none is, as long as no event touches a leaf.
  abbrev pub LawNotBusy : Type 0
  LawNotBusy = (o : Origin) (g : Geometry) (first count : ℕ) (v w : View cache_facts backing_facts)
      → IsOver cache_facts backing_facts o g w → TouchNoLeaf (world cache_facts backing_facts w).log
      → (h : HasStoppedAt cache_facts backing_facts first count leaf.Busy v w) → (was : NodeCache)
      → let n = length h.at.run.start - 6 in
      HasRoom o.parts n (h.range.number % n) was → ¬ (IsAsBegun was h.leaves)
