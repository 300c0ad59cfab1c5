-- A slot's leaf that is roomier stands for the same leaf.
use Rattle.std.proofs.Common.{◌≡◌, ◌≢◌, ◌⊎◌, inl, inr, true, ℕ, ◌-◌, ◌%◌, ◌<◌, ◌≤◌, List, Option, Some, sym, ap, ◌∙◌, subst}
use Rattle.std.specs.Prelude.{IfSome, slice_get, slice_set}
use Rattle.std.proofs.lemmas.Bool.{cases_eq}
use Rattle.std.proofs.lemmas.Option.{slice_get_within}
use Rattle.bc_cache.specs.Slots.{Misses, NodeCache}
use Rattle.bc_cache.specs.declared.slots.Cached.{Cached}
use Rattle.bc_cache.proofs.Changed.{set_same}
use Rattle.bc_disk.specs.Disk.{DiskFacts}
use Rattle.bc_fetch.proofs.Slots.{at_set, other_stays}
use Rattle.bc_fetch.specs.bc_hand.Seats.{Works, numbers, world}
use Rattle.bc_fetch.specs.bc_hand.declared.hand.LeafHand.{LeafHand}
use Rattle.bc_leaves.specs.Keys.{last_said, ref_said}
use Rattle.bc_leaves.specs.Parts as parts
use Rattle.bc_fetch.specs.bc_machine.Containers.{AreEntriesOf, AreLeavesOf, IsHeldIn, IsLeafFor, IsTreeLeaf}
use Rattle.bc_fetch.specs.bc_machine.World.{AreLeaves, World, replay}
use Rattle.bc_node.specs.Leaf.{AreLast, AreLastOfAll, Leaf}
use Rattle.bc_shares.specs.Shares.{LeafShare, leaf_share, shape_of}
use Rattle.bc_whole.specs.State.{Opening}
use Rattle.bc_room.specs.Room.{IsRoomier, LawReserved}

-- ---- the leaf

stays_leaf : (w : Opening) (x : LeafShare) (old new : Leaf) → IsRoomier old new → IsLeafFor w x old
    → IsLeafFor w x new
stays_leaf w x old new r h = record {
  at = subst (λ n. IsTreeLeaf w n new.end new.ptr (shape_of x.leaf)) (sym r.same.from)
      (subst (λ n. IsTreeLeaf w old.from n new.ptr (shape_of x.leaf)) (sym r.same.end)
      (subst (λ q. IsTreeLeaf w old.from old.end q (shape_of x.leaf)) (sym r.same.ptr) h.at));
  loaded = λ is. r.same.loaded ∙ h.loaded is;
  own = λ off. let had = h.own (sym r.same.loaded ∙ off) in record {
    number = λ e i. had.number e i ∙ sym r.same.seq;
    taken_is = r.same.taken ∙ had.taken_is;
  };
  whole = λ off. h.whole (sym r.same.loaded ∙ off);
  keys = λ s low high. ap (λ ks. ref_said (last_said ks s)) r.keys
      ∙ h.keys s (subst (λ n. n ≤ s) r.same.from low) (subst (λ n. s < n) r.same.end high);
  pending = λ s. ap (λ ks. last_said ks s) r.pending ∙ h.pending s;
  entries = subst (λ e. AreEntriesOf e x.leaf.pending) (sym r.entries) h.entries;
  lists = record {
    list = h.lists.list;
    last = subst (AreLast h.lists.list) (sym r.keys) h.lists.last;
    added = h.lists.added;
    last_added = subst (AreLastOfAll h.lists.added) (sym r.pending) h.lists.last_added;
  };
}

-- ---- the part

some_is : (a b : Cached) → Some a ≡ Some b → a ≡ b
some_is a b is = cc

both : (o : Option (Option Cached)) (a b : Cached) → o ≡ Some (Some a) → o ≡ Some (Some b) → a ≡ b
both o a b p q = cc

module _ (w : Opening) (st : parts.State) (count part : ℕ) (cache : NodeCache) (slot : ℕ)
    (cached : Cached) (leaf : Leaf) (there : slice_get cache.slots slot ≡ Some (Some cached))
    (r : IsRoomier cached.leaf leaf) (h : AreLeavesOf w st count part cache) where
  abbrev kept : Cached
  kept = record cached { leaf = leaf }

  abbrev slots : List (Option Cached)
  slots = slice_set cache.slots slot (Some kept)

  here : slice_get slots slot ≡ Some (Some kept)
  here = set_same cache.slots slot (Some kept)
      (slice_get_within cache.slots slot (Some cached) there)

  missed : (k : ℕ) → Misses slots k → Misses cache.slots k
  missed k misses j has = go (cases_eq j slot)
    where
      go : (j ≡ slot) ⊎ (j ≢ slot) → ⊥
      go (inl e) = misses slot (record {
        cached = kept;
        there = here;
        number_is = ap (λ (c : Cached). c.number)
            (both (slice_get cache.slots slot) cached has.cached there (subst (λ n. slice_get cache.slots n ≡ Some (Some has.cached)) e has.there))
            ∙ has.number_is;
      })
      go (inr ne) = misses j (record {
        cached = has.cached;
        there = other_stays cache.slots slot (Some kept) j (Some has.cached) ne has.there;
        number_is = has.number_is;
      })

  held_on : (k i : ℕ) (c : Cached) → slice_get cache.slots i ≡ Some (Some c) → c.number ≡ k
      → c.held ≡ true → (i ≡ slot) ⊎ (i ≢ slot) → IsHeldIn slots k
  held_on k i c at is held (inl e) =
      let same = both (slice_get cache.slots slot) cached c there
      (subst (λ n. slice_get cache.slots n ≡ Some (Some c)) e at) in (
        slot,
        kept,
        here,
        ap (λ (x : Cached). x.number) same ∙ is,
        ap (λ (x : Cached). x.held) same ∙ held,
      )
  held_on k i c at is held (inr ne) =
      (i, c, other_stays cache.slots slot (Some kept) i (Some c) ne at, is, held)

  pub stays_part : AreLeavesOf w st count part (record cache { slots = slots })
  stays_part = record {
    layout = h.layout;
    rest = λ i c at. elim (at_set cache.slots slot (Some kept) i (Some c) at) [
      | inl e ↦ subst (λ (x : Cached). x.number % count ≡ part) (some_is kept c e.1)
          (h.rest slot cached there)
      | inr other ↦ h.rest i c other.1
    ];
    leaves = λ i c at. elim (at_set cache.slots slot (Some kept) i (Some c) at) [
      | inl e ↦ subst (λ (x : Cached). IsLeafFor w (leaf_share st x.number) x.leaf)
          (some_is kept c e.1)
          (stays_leaf w (leaf_share st cached.number) cached.leaf leaf r
          (h.leaves slot cached there))
      | inr other ↦ h.leaves i c other.1
    ];
    others = λ k its live misses. h.others k its live (missed k misses);
    leaving = λ k its leaves. let one = h.leaving k its leaves in
        held_on k one.0 one.1 one.2 one.3 one.4 (cases_eq one.0 slot);
  }

-- ---- the hand

module _ {C B : Type 0} (cache_facts : C → DiskFacts) (backing_facts : B → DiskFacts) where
  pub law_reserved : LawReserved {C = C} {B = B} cache_facts backing_facts
  law_reserved p v number more result old new h works = subst (Works cache_facts backing_facts p v)
      (sym h.is) (record {
        run = works.run;
        seat = works.seat;
        parts = works.parts ∙ same;
        stand = record {
          spine = works.stand.spine;
          leaves = (leaves_there.0, stays);
          flight = works.stand.flight;
          buckets = works.stand.buckets;
          journal = works.stand.journal;
          cache = works.stand.cache;
          backing = works.stand.backing;
        };
      })
    where
      leaves_there : (6 ≤ h.leaves.part)
          × AreLeaves (h.leaves.part - 6) h.leaves.cache (world cache_facts backing_facts v)
      leaves_there = subst (λ (o : Option LeafHand). IfSome o (λ l. (6 ≤ l.part)
          × AreLeaves (l.part - 6) l.cache (world cache_facts backing_facts v))) h.was
          works.stand.leaves

      stays : AreLeaves (h.leaves.part - 6) h.cache (world cache_facts backing_facts v)
      stays o is course =
          let x : World = world cache_facts backing_facts v in
          let st = (replay o x.log).machine.whole.parts in
          subst (λ (c : NodeCache). AreLeavesOf o.opening.machine st x.begun.leaf_parts
          (h.leaves.part - 6) c) (sym h.reserved.is)
          (stays_part o.opening.machine st x.begun.leaf_parts (h.leaves.part - 6) h.leaves.cache
          h.slot h.reserved.cached h.reserved.leaf h.reserved.there h.reserved.roomier
          (leaves_there.1 o is course))

      same : numbers old
          ≡ numbers (record old { leaves = Some (record h.leaves { cache = h.cache }) })
      same = ap (λ (o : Option LeafHand). numbers (record old { leaves = o })) h.was
