-- A look, from an empty hand to the buckets in hand.
use Rattle.std.specs.Prelude.{fold, map, slice_get, slice_index_or}
use Rattle.std.proofs.Common.{◌≡◌, inl, inr, ℕ, zero, suc, ◌+◌, ◌-◌, ◌/◌, ◌<◌, Bool, List, length, [], ◌∷◌, ◌++◌, Option, Some, None, refl, sym, ap, ◌∙◌, subst, arith}
use Rattle.std.proofs.lemmas.List.Sums.{fold-append}
use Rattle.bc_bucket.specs.Buckets.{Buckets}
use Rattle.bc_cache.specs.Fetch.{IsLeafIn}
use Rattle.bc_cache.specs.Slots.{HasLeaf as SlotHas, IsSlotOf, Misses}
use Rattle.bc_cache.specs.declared.slots.Cached.{Cached}
use Rattle.bc_fetch.proofs.of_bc_deed.Sequence.{done_both, done_one}
use Rattle.bc_fetch.specs.bc_deed.Flushed.{HasDone}
use Rattle.bc_disk.specs.Disk.{DiskFacts}
use Rattle.bc_events.specs.declared.event.Deed.{Deed}
use Rattle.bc_events.specs.declared.event.Event.{Event}
use Rattle.bc_fetch.specs.Fetch.{HasReadOne, node_read}
use Rattle.bc_fetch.specs.declared.error.LeafError.TheVariants as errors
use Rattle.bc_fetch.specs.bc_hand.declared.error.StepError.TheVariants as step
use Rattle.bc_fetch.proofs.of_bc_hand.Knowing.{View, m}
use Rattle.bc_fetch.specs.bc_hand.Seats.{by, note, IsCoreSeat}
use Rattle.bc_fetch.specs.bc_hand.declared.hand.Hand.{Hand}
use Rattle.bc_fetch.specs.bc_hand.declared.hand.LeafHand.{LeafHand}
use Rattle.bc_fetch.specs.bc_machine.Note.{no_note, note_after, note_by}
use Rattle.bc_fetch.specs.bc_machine.World.{are_plain}
use Rattle.bc_fetch.specs.bc_machine.declared.part.BucketsPart.{BucketsPart}
use Rattle.bc_fetch.specs.bc_machine.declared.part.CorePart.{CorePart}
use Rattle.bc_node.specs.Leaf.{Leaf}
use Rattle.bc_parts.specs.Seat.{Run}
use Rattle.bc_reads.specs.Reads.{AreRuns, IsReadFrom, IsRun, moved}
use Rattle.bc_reads.specs.declared.runs.ReadRun.{ReadRun}
use Rattle.bc_reads.specs.declared.source.ReadFrom.{ReadFrom}
use Rattle.bc_reads.specs.declared.source.ReadFrom.TheVariants.{Cache}
use Rattle.bc_seats.specs.Seats.{Waited, own_events}
use Rattle.bc_reads.specs.bc_sight.Sight.{HasLeaf}
use Rattle.bc_reader.specs.Look.{HasBoth, IsFound, IsLostBy, IsNotFound, IsSeenBy, IsWay, NotSeenBy}
use Rattle.bc_reader.specs.Noted.{LieInBuckets}
use Rattle.bc_reader.specs.declared.error.ReadError.{ReadError}
use Rattle.bc_reader.specs.declared.error.ReadError.TheVariants as error
use Rattle.bc_reader.specs.declared.look.Seen.{Seen}

-- ---- the hand

abbrev pub leaf_moved : {C B : Type 0} (a b : Hand C B) (number first count slot : ℕ) (cached : Cached)
    → b.leaves ≡ a.leaves → HasLeaf a number first count slot cached
    → HasLeaf b number first count slot cached
leaf_moved a b number first count slot cached same has = record {
  hand = has.hand;
  is = same ∙ has.is;
  at = has.at;
  number_is = has.number_is;
  from = has.from;
  end = has.end;
}

abbrev pub both_moved : {C B : Type 0} (a b : Hand C B) (number first count : ℕ) → b.leaves ≡ a.leaves
    → b.buckets ≡ a.buckets → HasBoth a number first count → HasBoth b number first count
both_moved a b number first count leaves buckets both = record {
  slot = both.slot;
  cached = both.cached;
  leaf = leaf_moved a b number first count both.slot both.cached leaves both.leaf;
  buckets = record { part = both.buckets.part; is = buckets ∙ both.buckets.is };
}

pub found_moved : {C B : Type 0} (a b : Hand C B) (number first count : ℕ) (seen : Seen)
    → b.leaves ≡ a.leaves → b.buckets ≡ a.buckets → IsFound a number first count seen
    → IsFound b number first count seen
found_moved a b number first count seen leaves buckets found = record {
  both = both_moved a b number first count leaves buckets found.both;
  by = found.by;
}

-- ---- what was found

one_hand : (a b : LeafHand) (o : Option LeafHand) → o ≡ Some a → o ≡ Some b → a ≡ b
one_hand a b o p q = cc

one_cached : (a b : Cached) (o : Option (Option Cached)) → o ≡ Some (Some a) → o ≡ Some (Some b)
    → a ≡ b
one_cached a b o p q = cc

module _ {C B : Type 0} (h : Hand C B) (number first count : ℕ) (leaves : LeafHand)
    (is : h.leaves ≡ Some leaves) (both : HasBoth h number first count) where
  in_slot : slice_get leaves.cache.slots both.slot ≡ Some (Some both.cached)
  in_slot = subst (λ (l : LeafHand). slice_get l.cache.slots both.slot ≡ Some (Some both.cached))
      (one_hand both.leaf.hand leaves h.leaves both.leaf.is is) both.leaf.at

  has_it : SlotHas leaves.cache.slots both.slot number
  has_it = record { cached = both.cached; there = in_slot; number_is = both.leaf.number_is }

  pub is_there : Misses leaves.cache.slots number → ⊥
  is_there misses = misses both.slot has_it

  -- the leaf that was found is the one in hand
  module _ (part : BucketsPart) (buckets : h.buckets ≡ Some part) (slot : ℕ) (leaf : Leaf)
      (of : IsSlotOf leaves.cache.slots number slot) (in_ : IsLeafIn leaves.cache.slots slot leaf) where
    there : slice_get leaves.cache.slots slot ≡ Some (Some both.cached)
    there = subst (λ n. slice_get leaves.cache.slots n ≡ Some (Some both.cached))
        (of.only both.slot has_it) in_slot

    abbrev this : HasBoth h number first count
    this = record {
      slot = slot;
      cached = both.cached;
      leaf = record {
        hand = leaves;
        is = is;
        at = there;
        number_is = both.leaf.number_is;
        from = both.leaf.from;
        end = both.leaf.end;
      };
      buckets = record { part = part; is = buckets };
    }

    same_leaf : leaf ≡ both.cached.leaf
    same_leaf = sym (ap (λ (c : Cached). c.leaf)
        (one_cached both.cached in_.0 (slice_get leaves.cache.slots slot) there in_.1) ∙ in_.2)

    pub found_in : (seen : Seen) → IsSeenBy leaf part.buckets first (first + count) seen
        → IsFound h number first count seen
    found_in seen by = record {
      both = this;
      by = subst (λ (l : Leaf). IsSeenBy l part.buckets first (first + count) seen) same_leaf by;
    }

    pub not_in : (sectors : ℕ) (e : ReadError)
        → NotSeenBy leaf part.buckets first (first + count) sectors e
        → IsNotFound h number first count sectors e
    not_in sectors (error.Leaf (errors.Step step.Memory)) gone = tt
    not_in sectors (error.Leaf (errors.Step (step.Fault d))) gone = absurd gone
    not_in sectors (error.Leaf (errors.Step (step.Halted d))) gone = absurd gone
    not_in sectors (error.Leaf errors.Busy) gone = absurd gone
    not_in sectors (error.Leaf errors.Outside) gone = absurd gone
    not_in sectors (error.Leaf errors.Missing) gone = absurd gone
    not_in sectors (error.Leaf (errors.Node q e)) gone = absurd gone
    not_in sectors error.Lost gone = record {
      both = this;
      lost = subst (λ (l : Leaf). IsLostBy l part.buckets first (first + count) sectors) same_leaf gone;
    }

-- each run's places are in buckets that are known
run_in : (leaf : Leaf) (b : Buckets) (from end : ℕ) (rs : List ReadRun) → AreRuns leaf b from end rs
    → (k : ℕ) (d : ReadRun) → k < length rs → IsRun leaf b (slice_index_or rs k d)
run_in leaf b from end [] are k d lt = absurd (omega arith)
run_in leaf b from end (r ∷ rs) are zero d lt = are.2
run_in leaf b from end (r ∷ rs) are (suc k) d lt =
    run_in leaf b (from + r.count) end rs are.3 k d (omega arith)

place_known : (leaf : Leaf) (b : Buckets) (r : ReadRun) → IsRun leaf b r → (at : ℕ) (dirty : Bool)
    → r.from ≡ Cache at dirty → (j : ℕ) → j < r.count → (at + j) / b.size < length b.records
place_known leaf b r is at dirty from j low =
    let here = subst (λ (f : ReadFrom). IsReadFrom leaf b (r.first + j) (moved f (r.first + j - r.first)))
    from (is (r.first + j) (omega arith) (omega arith)) in
    let same : r.first + j - r.first ≡ j = omega arith in
    subst (λ n. (at + n) / b.size < length b.records) same here.4.known

pub runs_known : (leaf : Leaf) (b : Buckets) (from end : ℕ) (rs : List ReadRun)
    → AreRuns leaf b from end rs → LieInBuckets rs b
runs_known leaf b from end rs are = λ k d lt at dirty is j low.
    place_known leaf b (slice_index_or rs k d) (run_in leaf b from end rs are k d lt) at dirty is j low

module _ {C B : Type 0} (cache_facts : C → DiskFacts) (backing_facts : B → DiskFacts) where
  -- ---- what is noted

  pub note_done : (ds : List Deed) (v w : View cache_facts backing_facts)
      → HasDone cache_facts backing_facts ds v w → note cache_facts backing_facts w
      ≡ fold (λ o (e : Event). note_after (are_plain cache_facts backing_facts v.run.start) o e.deed)
      (note cache_facts backing_facts v) (map (by v.first) ds)
  note_done ds v w h = ap (λ b. note_by b (own_events (m cache_facts backing_facts) w))
      (ap (λ (r : Run (CorePart C B)). are_plain cache_facts backing_facts r.start) h.same.run)
      ∙ ap (λ es. note_by (are_plain cache_facts backing_facts v.run.start) es) h.own
      ∙ fold-append (λ o (e : Event). note_after (are_plain cache_facts backing_facts v.run.start) o e.deed)
      no_note (own_events (m cache_facts backing_facts) v) (map (by v.first) ds)

  pub way_note : (ds : List Deed) (v w : View cache_facts backing_facts) → IsWay ds
      → HasDone cache_facts backing_facts ds v w
      → note cache_facts backing_facts w ≡ note cache_facts backing_facts v
  way_note ds v w (inl none) h = note_done [] v w
      (subst (λ (l : List Deed). HasDone cache_facts backing_facts l v w) none h)
  way_note ds v w (inr one) h = note_done (node_read one.0 ∷ []) v w
      (subst (λ (l : List Deed). HasDone cache_facts backing_facts l v w) one.1 h)

  pub way_of : (v w : View cache_facts backing_facts) → HasReadOne cache_facts backing_facts v w
      → (ds : List Deed) × IsWay ds × HasDone cache_facts backing_facts ds v w
  way_of v w (inl none) = ([], inl refl, none)
  way_of v w (inr one) = (node_read one.0 ∷ [], inr (one.0, refl), one.1)

  pub waited_done : (v w : View cache_facts backing_facts) → IsCoreSeat cache_facts backing_facts w
      → Waited (m cache_facts backing_facts) v w → HasDone cache_facts backing_facts [] v w
  waited_done v w seat waited =
      done_one cache_facts backing_facts None v w (record { is = waited; seat = seat })

  pub then_waited : (ds : List Deed) (u v w : View cache_facts backing_facts)
      → HasDone cache_facts backing_facts ds u v → HasDone cache_facts backing_facts [] v w
      → HasDone cache_facts backing_facts ds u w
  then_waited ds u v w a b = subst (λ (l : List Deed). HasDone cache_facts backing_facts l u w)
      (append_nil ds) (done_both cache_facts backing_facts ds [] u v w a b)
    where
      append_nil : (xs : List Deed) → xs ++ [] ≡ xs
      append_nil [] = refl
      append_nil (x ∷ xs) = ap (λ (l : List Deed). x ∷ l) (append_nil xs)
