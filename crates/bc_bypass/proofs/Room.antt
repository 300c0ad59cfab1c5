-- What is in hand for keys without pointers.
use Rattle.std.proofs.Common.{◌≡◌, ℕ, ◌+◌, ◌-◌, ◌≤◌, true, List, Option, Ok, sym, ap, ◌∙◌, subst, arith}
use Rattle.std.specs.Prelude.{IfSome, is_some, length}
use Rattle.bc_bypass.specs.Backed.{AreBacked, HasDirty}
use Rattle.bc_bypass.specs.Dropped.{HadDirty, HadLeaf, HadNoRoom}
use Rattle.bc_bypass.specs.Empty.{AreEmpty, alone_at}
use Rattle.bc_bypass.proofs.Emptying.{extents, may_drop, within}
use Rattle.bc_cache.specs.Slots.{IsSlotOf}
use Rattle.bc_cache.specs.declared.slots.Cached.{Cached}
use Rattle.bc_disk.specs.Disk.{DiskFacts}
use Rattle.bc_journal.specs.Journal.{Journal}
use Rattle.bc_key.specs.declared.key.Key.{Key}
use Rattle.bc_node.specs.Leaf.{Leaf}
use Rattle.bc_parts.specs.Seat.{PartsView}
use Rattle.bc_write_back.proofs.Hands.{cached_is, can_put}
use Rattle.bc_write_back.specs.Room.{HasRoomFor, HasThree, IsShort}
use Rattle.bc_write_back.specs.bc_hand.Seats.{View, Works, kinds, part_of, world}
use Rattle.bc_write_back.specs.bc_hand.declared.hand.Hand.{Hand}
use Rattle.bc_write_back.specs.bc_hand.declared.hand.LeafHand.{LeafHand}
use Rattle.bc_write_back.specs.bc_insert.Drop.{MayDrop}
use Rattle.bc_write_back.specs.bc_insert.Insert.{CanPutIn, HasPutIn}
use Rattle.bc_write_back.specs.bc_machine.Frame.{Range}
use Rattle.bc_write_back.specs.bc_machine.World.{AreLeaves, IsJournal}
use Rattle.bc_write_back.specs.bc_machine.declared.part.CorePart.{CorePart}
use Rattle.bc_write_back.specs.bc_room.Room.{HasReserved}
use Rattle.bc_write_back.specs.bc_sight.Sight.{IsOnBacking}
use Rattle.bc_write_back.specs.declared.error.Lack.{Lack}

-- a leaf with the same keys says the same
backed_same : (a b : Leaf) (first count : ℕ) → b.keys ≡ a.keys → AreBacked a first count
    → AreBacked b first count
backed_same a b first count same backed s low high =
    subst (λ (ks : List Key). IsOnBacking (record a { keys = ks }) s) (sym same) (backed s low high)

module _ {C B : Type 0} (h : Hand C B) (parts number first count : ℕ)
    (three : HasThree h parts number first count)
    (only : IsSlotOf three.leaf.hand.cache.slots number three.slot) (new : Hand C B)
    (more : ℕ) (u : Unit {0}) (r : HasReserved number more (Ok u) h new)
    (bucket : ℕ) (keys : List Key) (range : Range)
    (size : bucket ≡ three.buckets.buckets.size) (is : range ≡ alone_at first count)
    (some : 1 ≤ count) (empty : AreEmpty bucket first (first + count) keys)
    (backed : AreBacked three.cached.leaf first count)
    (has : HasRoomFor three.cached three.journal keys) (few : length keys ≤ more)
  where
    same_keys : r.reserved.leaf.keys ≡ three.cached.leaf.keys
    same_keys = r.reserved.roomier.keys ∙ ap (λ (c : Cached). c.leaf.keys)
        (cached_is h parts number first count three only new more u r)

    may : MayDrop range r.reserved.leaf three.buckets.buckets.size keys
    may = subst (λ n. MayDrop range r.reserved.leaf n keys) size
        (may_drop r.reserved.leaf range bucket first count keys is some empty
        (backed_same three.cached.leaf r.reserved.leaf first count same_keys backed))

    -- room was made, and so the keys may come in
    pub can_drop : (slot : ℕ) × (cached : Cached)
        × (can : CanPutIn new parts slot number cached keys)
        × MayDrop range cached.leaf can.buckets.buckets.size keys
    can_drop = (
      r.slot,
      record r.reserved.cached { leaf = r.reserved.leaf },
      can_put h parts number first count three only new more u r keys has few
          (extents bucket first (first + count) keys empty)
          (within bucket first (first + count) first (first + count) keys empty (omega arith)
          (omega arith)),
      may,
    )

-- keys came in, and the same parts are in hand
pub put_kinds : {C B : Type 0} (old new : Hand C B) (slot : ℕ) (cached : Cached)
    (keys : List Key) → HasPutIn old new slot cached keys → kinds new ≡ kinds old
put_kinds old new slot cached keys put = ap (λ (h : Hand _ _). kinds h) put.is
    ∙ ap (λ (o : Option LeafHand). record (kinds old) { leaves = part_of o; journal = true })
    (sym put.was)
    ∙ ap (λ (o : Option Journal). record (kinds old) { journal = is_some o }) (sym put.was_journal)

-- ---- what in hand says of the run

module _ {C B : Type 0} (cache_facts : C → DiskFacts) (backing_facts : B → DiskFacts)
    (p : PartsView (CorePart C B)) (v : View cache_facts backing_facts) (h : Hand C B)
    (parts number first count : ℕ) (three : HasThree h parts number first count)
    (works : Works cache_facts backing_facts p v h) where
  abbrev had_leaf : HadLeaf cache_facts backing_facts number first count v
  had_leaf = record {
    part = three.leaf.hand.part - 6;
    leaves = three.leaf.hand.cache;
    stood = (subst (λ (o : Option LeafHand). IfSome o (λ l. (6 ≤ l.part)
        × AreLeaves (l.part - 6) l.cache (world cache_facts backing_facts v))) three.leaf.is
        works.stand.leaves).1;
    slot = three.slot;
    cached = three.cached;
    there = three.leaf.at;
    number_is = three.leaf.number_is;
    from = three.leaf.from;
    end = three.leaf.end;
  }

  pub had_dirty : HasDirty three.cached.leaf first count
      → HadDirty cache_facts backing_facts number first count v
  had_dirty dirty = record { leaf = had_leaf; dirty = dirty }

  pub had_no_room : (why : Lack) (bucket : ℕ) (keys : List Key)
      → AreEmpty bucket first (first + count) keys → IsShort why three.cached three.journal keys
      → HadNoRoom cache_facts backing_facts why number first count v
  had_no_room why bucket keys empty short = record {
    leaf = had_leaf;
    journal = three.journal;
    journal_stood = subst (λ (o : Option Journal). IfSome o
        (λ j. IsJournal j (world cache_facts backing_facts v))) three.is_journal
        works.stand.journal;
    bucket = bucket;
    keys = keys;
    empty = empty;
    short = short;
  }
