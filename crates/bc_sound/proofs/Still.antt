-- Sectors that no act writes.
use Rattle.std.proofs.Common.{◌≡◌, ◌≢◌, ◌⊎◌, inl, inr, ℕ, ◌+◌, ◌<◌, ◌≤◌, true, false, List, [], ◌∷◌, length, Option, Some, None, refl, sym, ap, ◌∙◌, subst, arith}
use Rattle.bc_model.specs.Sector.{Value, at_run}
use Rattle.bc_model.proofs.Runs.{at_hit, at_miss}
use Rattle.bc_disk.specs.Device.{Among, Content, besides, failed, instead, settled, written}
use Rattle.bc_key.specs.declared.key.Key.{Key}
use Rattle.bc_books.specs.Shelves.{Fresh, Held, Loose, Own, Owner, Priorities, Purpose, Shelf, Tree}
use Rattle.bc_books.specs.Books.{Books, Step}
use Rattle.bc_books.specs.Invariant.{IsInOrder}
use Rattle.bc_books.specs.Laws.{IsForNode}
use Rattle.bc_data.specs.Data as flow
use Rattle.bc_data.specs.After.{cache_after}
use Rattle.bc_data.specs.After as flow_step
use Rattle.bc_data.specs.Enabled.{CanWrite}
use Rattle.bc_meta.specs.Tree.{NodeSet, Owner as NodeOwner}
use Rattle.bc_meta.specs.Layout.{entry_at, entry_len, set_at, set_len}
use Rattle.bc_meta.specs.Places.{CanAppend}
use Rattle.bc_meta.proofs.Blank.{first_long}
use Rattle.bc_meta.proofs.Firm.{stands_high}
use Rattle.bc_meta.proofs.Place.{within_of}
use Rattle.bc_leaves.specs.Parts.{inner_owner, leaf_owner}
use Rattle.bc_leaves.specs.Parts as parts
use Rattle.bc_leaves.proofs.Contents.{free_live, live_some, stays_live}
use Rattle.bc_whole.specs.State.{Opening, Write, OfData, OfEntry, OfSet, OfParent, OfLeaf, OfInner, OfPriorities, Outside}
use Rattle.bc_whole.specs.Together.{Brings, is_quiet, payload_of, place_of, shelved}
use Rattle.bc_whole.specs.Run.{by}
use Rattle.bc_whole.proofs.Kept.{Inv}
use Rattle.bc_known.specs.Acts.{State, Act, Alone, Keyed, WriteCache, FailCache, CacheBarrier, Seal, MakeDurable, BeginBucket, Take, LetGo, ReadyChain, BeginChange, Install, ForgetDrafts, Event, after}
use Rattle.bc_known.specs.Asked.{AsksWrite, CanStartNode}
use Rattle.bc_known.specs.Run.{IsEnabled, IsRun, run, start}
use Rattle.bc_known.specs.Known.{AreLaid, IsKnown}
use Rattle.bc_known.specs.Laws.{IsSound}
use Rattle.bc_known.proofs.Places.{bool_false, true_false}
use Rattle.bc_ranges.specs.Made.{AreWellMade, Frame, IsWellMade, IsWellWritten}
use Rattle.bc_ranges.proofs.Steps.{At, inv, keep, opened, order}
use Rattle.bc_sound.specs.Still.{IsUntouched, LawStill}

own_fresh : (x : Owner) (i : ℕ) → x ≡ Own i → x ≡ Fresh → ⊥
own_fresh x i a b = cc

held_loose : (x : Shelf) (i : ℕ) (p : Purpose) → x ≡ Held i p → x ≡ Loose → ⊥
held_loose x i p a b = cc

module _ (w : Opening) (st : State) (seat : ℕ) (v : Inv w st.whole) (z : IsKnown w st) (laid : AreLaid w) (f : IsInOrder w.flow.books st.whole.flow.books) where
  abbrev k : Books
  k = st.whole.flow.books

  -- a write stays in a bucket of the journal, or in one that isn't fixed
  record Lies (place : ℕ) (values : List Value) : Type 0 where
    bucket : ℕ
    inside : bucket < w.layout.buckets
    free : (bucket < w.layout.journal) ⊎ (w.flow.books.fixed bucket ≡ false)
    low : w.layout.first bucket ≤ place
    high : place + length values ≤ w.layout.first bucket + w.layout.bucket_sectors

  held_free : (q i : ℕ) (p : Purpose) → k.shelf q ≡ Held i p → w.flow.books.fixed q ≡ false
  held_free q i p held = bool_false (w.flow.books.fixed q) (λ e. held_loose (k.shelf q) i p held (f.marked.loose q (inl e)))

  node_free : (q : ℕ) → IsForNode k q → w.flow.books.fixed q ≡ false
  node_free q (inl n) = bool_false (w.flow.books.fixed q) (λ e. true_false (k.node q) n (f.marked.one_use q e))
  node_free q (inr h) = held_free q h.0 Tree h.1

  -- a further set of a node
  append_lies : (q : ℕ) (set : NodeSet) (values : List Value) → IsForNode k q → CanAppend w.layout st.whole.store.places q set values → Lies (st.whole.store.places.node_next q) values
  append_lies q set values node can =
      let h = v.store.place.nodes q in
      let m = h.mine can.0 in
      let n = st.whole.store.places.records.nodes q in
      let at = within_of w.layout q (st.whole.store.places.records.nodes q).owner m.within in
      let low = stands_high (set_len w.layout) (set_at w.layout m.stands.0 (st.whole.store.places.records.nodes q).owner (st.whole.store.places.seq q)) (w.layout.begins (st.whole.store.places.records.nodes q).owner)
      (st.whole.store.places.records.nodes q).sets (st.whole.store.places.node_next q) m.stands.1 in
      let long = w.layout.sets.long (st.whole.store.places.records.nodes q).owner values set can.3 in
      let room = can.2 in
      record {
        bucket = q;
        inside = (laid.area q (node_free q node)).1;
        free = inr (node_free q node);
        low = omega (arith, at.0, low);
        high = omega (arith, at.1, long, room);
      }

  -- a new node
  start_lies : (q : ℕ) (o : NodeOwner) (set : NodeSet) (values : List Value) → CanStartNode w st seat q o set values → Lies (w.layout.begins o) values
  start_lies q o set values can =
      let at = within_of w.layout q o can.inside in
      let long = first_long w.layout o set values can.first can.room in
      let free = held_free q seat Tree can.held in
      record {
        bucket = q;
        inside = (laid.area q (held_free q seat Tree can.held)).1;
        free = inr (held_free q seat Tree can.held);
        low = at.0;
        high = omega (arith, at.1, long);
      }

  some_long : (values : List Value) → values ≢ [] → 0 < length values
  some_long [] some = absurd (some refl)
  some_long (x ∷ xs) some = omega arith

  first_value : (place : ℕ) (values : List Value) → values ≢ [] → (y : Value) × (at_run place values place ≡ Some y)
  first_value place values some = at_hit place values place (omega arith) (let l = some_long values some in omega (arith, l))

  lies : (fr : Frame) (x : Write) (values : List Value) → AsksWrite w st seat x values → IsWellWritten fr st.whole.parts x
      → CanWrite w.flow st.whole.flow seat (payload_of x) (place_of w.layout st.whole x) values → Lies (place_of w.layout st.whole x) values
  lies fr (OfData q place) values asks well may =
      let y = first_value place values asks.some in
      let long = some_long values asks.some in
      let high = asks.high in
      let there = laid.sector q place asks.bucket asks.low (omega (arith, long, high)) in
      let own = may.places place y.0 y.1 in
      record {
        bucket = q;
        inside = asks.bucket;
        free = inr (bool_false (w.flow.books.fixed q) (λ e. own_fresh (k.owner place) seat own (f.marked.fresh q (inl e) place there)));
        low = asks.low;
        high = asks.high;
      }
  lies fr OfEntry values asks well may =
      let b = st.whole.store.places.records.bucket in
      let current = v.store.place.current in
      let ring = v.store.place.ring st.whole.store.places.records.bucket v.store.place.current in
      let low = stands_high (entry_len w.layout) (entry_at w.layout ring.0.0 st.whole.store.places.records.bucket) (w.layout.first st.whole.store.places.records.bucket)
      (st.whole.store.places.records.ring st.whole.store.places.records.bucket) (st.whole.store.places.ring_next st.whole.store.places.records.bucket) ring.0.1 in
      let long = w.layout.entries.long tt values st.whole.store.places.records.entry asks.1.0 in
      let room = asks.1.1 in
      let journal = w.layout.journal_within in
      record {
        bucket = st.whole.store.places.records.bucket;
        inside = omega (arith, current, journal);
        free = inl v.store.place.current;
        low = low;
        high = omega (arith, long, room);
      }
  lies fr (OfSet i set) values asks well may =
      append_lies (st.whole.parts.leaves i).bucket set values (z.nodes.leaves i (live_some (st.whole.parts.leaves i).role (free_live (st.whole.parts.leaves i).role asks.0.0))) asks.1
  lies fr (OfParent i set) values asks well may =
      append_lies (st.whole.parts.inner_nodes i).bucket set values (z.nodes.inner_nodes i (live_some (st.whole.parts.inner_nodes i).role (stays_live (st.whole.parts.inner_nodes i).role asks.0.1))) asks.1
  lies fr (OfLeaf i leaf set) values asks well may = start_lies leaf.bucket (leaf_owner leaf) set values asks.4
  lies fr (OfInner i inner set) values asks well may = start_lies inner.bucket (inner_owner inner) set values asks.2
  lies fr (OfPriorities q part set) values asks well may = record {
    bucket = q;
    inside = asks.0.within.bucket;
    free = inr (held_free q seat Priorities asks.0.held);
    low = asks.0.within.low;
    high = asks.0.within.high;
  }
  lies fr (Outside place) values asks well may = absurd well

  missed : (s : ℕ) → IsUntouched w s → (place : ℕ) (values : List Value) → Lies place values → at_run place values s ≡ None
  missed s un place values l = at_miss place values s (λ r.
      (let low = l.low in let high = l.high in
      let there = un l.bucket l.inside (omega (arith, low, r.0)) (omega (arith, high, r.1)) in
      elim l.free [
        | inl lt ↦ (let ge = there.0 in omega (arith, lt, ge))
        | inr free ↦ true_false (w.flow.books.fixed l.bucket) there.1 free
      ]))

-- ---- calls that leave a sector alone

-- it reads one value, which is all that a crash leaves there
pub record IsStill (d : Content) (y : Value) (s : ℕ) : Type 0 where
  pub reads : d.reads s ≡ y ∷ []
  pub leaves : d.leaves s ≡ y ∷ []

still_written : (d : Content) (y : Value) (s place : ℕ) (values : List Value) → at_run place values s ≡ None → IsStill d y s → IsStill (written place values d) y s
still_written d y s place values none h = record {
  reads = ap (λ (o : Option Value). instead o (d.reads s)) none ∙ h.reads;
  leaves = ap (λ (o : Option Value). besides o (d.leaves s)) none ∙ h.leaves;
}

still_failed : (d : Content) (y : Value) (s place : ℕ) (values : List Value) → at_run place values s ≡ None → IsStill d y s → IsStill (failed place values d) y s
still_failed d y s place values none h = record {
  reads = ap (λ (o : Option Value). besides o (d.reads s)) none ∙ h.reads;
  leaves = ap (λ (o : Option Value). besides o (d.leaves s)) none ∙ h.leaves;
}

still_settled : (d : Content) (y : Value) (s : ℕ) → IsStill d y s → IsStill (settled d) y s
still_settled d y s h = record { reads = h.reads; leaves = h.reads }

-- acts of which the metadata has no part, and inserts, leave the cache device alone
quiet_same : (d : Content) (act : flow.Act) → is_quiet act ≡ true → cache_after d act ≡ d
quiet_same d (flow.CacheWrite payload place values) e = absurd (cc)
quiet_same d flow.CacheBarrier e = absurd (cc)
quiet_same d (flow.Fail (flow.CacheFault payload place values)) e = absurd (cc)
quiet_same d (flow.Fail fault) e = refl
quiet_same d act e = refl

keyed_same : (d : Content) (act : flow.Act) (slot : ℕ) (keys : List Key) → Brings act slot keys → cache_after d act ≡ d
keyed_same d (flow.InsertWrite line leaf ks first values) slot keys b = refl
keyed_same d (flow.Insert form leaf ks) slot keys b = refl
keyed_same d (flow.Settle number leaf ks) slot keys b = refl
keyed_same d act slot keys b = absurd b

shelved_still : (w : flow.Opening) (st : flow.State) (seat : ℕ) (steps : List Step) (y : Value) (s : ℕ) → IsStill st.cache y s
    → IsStill (flow_step.course w st (by seat (shelved steps))).cache y s
shelved_still w st seat [] y s h = h
shelved_still w st seat (x ∷ xs) y s h = shelved_still w (flow_step.after w st seat (flow.Shelve x)) seat xs y s h

module _ (fr : Frame) (w : Opening) (x : parts.State) (sound : IsSound w x) (s : ℕ) (un : IsUntouched w s) (y : Value) where
  act_still : (st : State) (seat : ℕ) (h : At w x st) (act : Act) → IsEnabled w st seat act → IsWellMade fr st act → IsStill st.whole.flow.cache y s
      → IsStill (after w st seat act).whole.flow.cache y s
  act_still st seat h (Alone act) on well is = subst (λ (d : Content). IsStill d y s) (sym (quiet_same st.whole.flow.cache act on.asks)) is
  act_still st seat h (Keyed act slot keys) on well is = subst (λ (d : Content). IsStill d y s) (sym (keyed_same st.whole.flow.cache act slot keys on.asks.0)) is
  act_still st seat h (WriteCache a values) on well is =
      let i = inv w x sound st seat h in
      let l = lies w st seat (inv w x sound st seat h) h.known sound.laid (order w x sound st seat h) fr a values on.asks well on.data_allows.0.can in
      still_written st.whole.flow.cache y s (place_of w.layout st.whole a) values
      (missed w st seat (inv w x sound st seat h) h.known sound.laid (order w x sound st seat h) s un (place_of w.layout st.whole a) values l) is
  act_still st seat h (FailCache a values) on well is =
      let l = lies w st seat (inv w x sound st seat h) h.known sound.laid (order w x sound st seat h) fr a values on.asks well on.data_allows.0.can in
      still_failed st.whole.flow.cache y s (place_of w.layout st.whole a) values
      (missed w st seat (inv w x sound st seat h) h.known sound.laid (order w x sound st seat h) s un (place_of w.layout st.whole a) values l) is
  act_still st seat h CacheBarrier on well is = still_settled st.whole.flow.cache y s is
  act_still st seat h (Seal last_seq rest root chain) on well is = is
  act_still st seat h MakeDurable on well is = is
  act_still st seat h (BeginBucket b) on well is = is
  act_still st seat h (Take p b) on well is = is
  act_still st seat h (LetGo b room) on well is = is
  act_still st seat h (ReadyChain room) on well is = is
  act_still st seat h (BeginChange low high gone come old new unused) on well is = is
  act_still st seat h (Install unused steps) on well is = shelved_still w.flow st.whole.flow seat steps y s is
  act_still st seat h ForgetDrafts on well is = is

  run_still : (st : State) (es : List Event) → IsRun w st es → AreWellMade fr w st es → At w x st → IsStill st.whole.flow.cache y s → IsStill (run w st es).whole.flow.cache y s
  run_still st [] on well h is = is
  run_still st (e ∷ es) on well h is =
      run_still (after w st e.seat e.act) es on.1 well.1 (keep w x sound st e.seat h e.act on.0) (act_still st e.seat h e.act on.0 well.0 is)

pub law_still : LawStill
law_still fr w x next_seq es sound on well c left s un =
    let is = run_still fr w x sound s un (w.flow.cache s) (start w x next_seq) es on well (opened w x next_seq sound) (record { reads = refl; leaves = refl }) in
    elim (subst (λ (l : List Value). Among (c s) l) is.leaves (left s)) [ inl e ↦ e | inr n ↦ absurd n ]
