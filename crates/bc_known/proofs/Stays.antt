-- What a seat knows stays known: acts whose steps of the books are mild.
use Rattle.std.proofs.Common.{◌≡◌, inr, ℕ, ◌<◌, Bool, List, [], ◌∷◌, Option, refl, sym, ap, ◌∙◌, subst}
use Rattle.bc_model.specs.Sector.{Value}
use Rattle.bc_key.specs.declared.key.Key.{Key}
use Rattle.bc_books.specs.Books.{Books, Step}
use Rattle.bc_books.specs.Books as book
use Rattle.bc_books.specs.After.{fold}
use Rattle.bc_books.specs.After as book_step
use Rattle.bc_books.specs.Invariant.{IsInOrder}
use Rattle.bc_data.specs.Data as flow
use Rattle.bc_data.specs.Seats.{Candidate}
use Rattle.bc_data.specs.Enabled.{steps_of}
use Rattle.bc_meta.specs.Facts.{In}
use Rattle.bc_meta.specs.Events as event
use Rattle.bc_meta.specs.Acts as meta
use Rattle.bc_leaves.specs.Parts as parts
use Rattle.bc_leaves.specs.Events as parts_event
use Rattle.bc_leaves.specs.Laws.{acts_of}
use Rattle.bc_whole.specs.State.{Opening, Write, OfData, OfEntry, OfSet, OfParent, OfLeaf, OfInner, OfPriorities, Outside, Root, SameRoot, NewRoot, Chain, SameChain, NewChain}
use Rattle.bc_whole.specs.Together.{inserted, step, step_of_seal, Brings}
use Rattle.bc_known.specs.Acts.{State, Alone, Keyed, WriteCache, FailCache, CacheBarrier, Seal, MakeDurable, BeginBucket, BeginChange, ForgetDrafts, after}
use Rattle.bc_known.specs.Run.{IsEnabled}
use Rattle.bc_known.specs.Known.{IsKnown, AreInBuckets, HasHolder}
use Rattle.bc_known.proofs.Keyed.{acts_join, fold_join}
use Rattle.bc_known.proofs.Mild.{AreMild, Stands, mild_fold, mild_nodes, quiet_steps}
use Rattle.bc_known.proofs.Slots.{AreOld, old_in, inserted_slots, set_slots, forget_slots, change_slots, leaf_slots, inner_slots}
use Rattle.bc_known.proofs.Seqs.{Below, one_more, not_own, new_node, failed_node, below_same}

pub stands_of : (w : Opening) (st : State) → IsInOrder w.flow.books st.whole.flow.books
    → IsKnown w st → Stands w.flow.books st.whole.flow.books st.whole.store.holder
    st.whole.store.spare
stands_of w st f z = record {
  order = f;
  holders = z.holders;
  spare = z.spare;
  reserve = record { near = z.reserve; chains = z.chains };
}

pub below_of : (w : Opening) (st : State) → IsKnown w st → Below st.whole.store.places.own
    st.whole.store.places.seq st.whole.store.places.log st.next_seq
below_of w st z = record { own_seq = z.own; logged = z.seqs }

pub to_known : (w : Opening) (st : State) → Stands w.flow.books st.whole.flow.books
    st.whole.store.holder st.whole.store.spare
    → AreInBuckets st.whole.parts st.whole.flow.books.node st.whole.flow.books.shelf
    → Below st.whole.store.places.own st.whole.store.places.seq st.whole.store.places.log
    st.next_seq → IsKnown w st
to_known w st s n b = record {
  holders = s.holders;
  nodes = n;
  spare = s.spare;
  reserve = s.reserve.near;
  chains = s.reserve.chains;
  own = b.own_seq;
  seqs = b.logged;
}

-- slots that stay as they are
pub old_slots : (st st2 : parts.State) → st2.leaves ≡ st.leaves
    → st2.inner_nodes ≡ st.inner_nodes → AreOld st st2
old_slots st st2 a b = record {
  leaves = λ k some. (
    λ e. some (ap (λ l. (l k).role) a ∙ e),
    ap (λ l. (l k).bucket) a,
  );
  inner_nodes = λ x some. (
    λ e. some (ap (λ l. (l x).role) b ∙ e),
    ap (λ l. (l x).bucket) b,
  );
}

-- keys that come in are nothing to holds and nodes
record IsSame (m m2 : meta.State) : Type 0 where
  holder : m2.holder ≡ m.holder
  spare : m2.spare ≡ m.spare
  own : m2.places.own ≡ m.places.own
  seq : m2.places.seq ≡ m.places.seq
  log : m2.places.log ≡ m.places.log

keys_same : (w : Opening) (m : meta.State) (slot : ℕ) (keys : List Key)
    → IsSame m (meta.fold w.layout m (acts_of (inserted slot keys)))
keys_same w m slot [] =
    record { holder = refl; spare = refl; own = refl; seq = refl; log = refl }
keys_same w m slot (key ∷ keys) =
    let ih = keys_same w m slot keys in
    let tail = step (meta.Plain (event.AddKey key)) (parts_event.Insert slot key) in
    subst (λ (x : meta.State). IsSame m x)
    (sym (ap (λ l. meta.fold w.layout m l) (acts_join (inserted slot keys) tail)
    ∙ fold_join w.layout m (acts_of (inserted slot keys)) (acts_of tail))) (record {
      holder = ih.holder;
      spare = ih.spare;
      own = ih.own;
      seq = ih.seq;
      log = ih.log;
    })

brings_mild : (c : ℕ → Candidate) (seat : ℕ) (act : flow.Act) (slot : ℕ) (keys : List Key)
    → Brings act slot keys → AreMild (steps_of c seat act)
brings_mild c seat (flow.InsertWrite line leaf ks first values) slot keys fit = (tt, tt)
brings_mild c seat (flow.Insert form leaf ks) slot keys fit = (tt, tt)
brings_mild c seat (flow.Settle number leaf ks) slot keys fit = (tt, (tt, tt))
brings_mild c seat act slot keys fit = absurd fit

module _ (w : Opening) (st : State) (seat : ℕ) (z : IsKnown w st)
    (f : IsInOrder w.flow.books st.whole.flow.books) where
  abbrev k : Books
  k = st.whole.flow.books

  stands : Stands w.flow.books k st.whole.store.holder st.whole.store.spare
  stands = stands_of w st f z

  below : Below st.whole.store.places.own st.whole.store.places.seq st.whole.store.places.log
      st.next_seq
  below = below_of w st z

  -- slots that stay, in the books as they are
  still : (next : parts.State) → AreOld st.whole.parts next → AreInBuckets next k.node k.shelf
  still next are = old_in st.whole.parts next k.node k.node k.shelf k.shelf are (λ q h. h)
      z.nodes

  -- and behind mild steps
  moved : (next : parts.State) (xs : List Step) → AreOld st.whole.parts next → AreMild xs
      → book_step.IsRun w.flow.books k xs
      → AreInBuckets next (fold w.flow.books k xs).node (fold w.flow.books k xs).shelf
  moved next xs are mild on = old_in st.whole.parts next k.node
      (fold w.flow.books k xs).node k.shelf (fold w.flow.books k xs).shelf are
      (mild_nodes w.flow.books k xs mild on) z.nodes

  pub alone_known : (act : flow.Act) → IsEnabled w st seat (Alone act)
      → IsKnown w (after w st seat (Alone act))
  alone_known act on =
      let mild = quiet_steps st.whole.flow.candidates seat act on.asks in
      to_known w (after w st seat (Alone act))
      (mild_fold w.flow.books k st.whole.store.holder st.whole.store.spare
      (steps_of st.whole.flow.candidates seat act) mild on.data_allows.0.steps stands)
      (moved st.whole.parts (steps_of st.whole.flow.candidates seat act)
      (old_slots st.whole.parts st.whole.parts refl refl) mild on.data_allows.0.steps) below

  pub keyed_known : (act : flow.Act) (slot : ℕ) (keys : List Key)
      → IsEnabled w st seat (Keyed act slot keys)
      → IsKnown w (after w st seat (Keyed act slot keys))
  keyed_known act slot keys on =
      let mild = brings_mild st.whole.flow.candidates seat act slot keys on.asks.0 in
      let s = keys_same w st.whole.store slot keys in
      let books = mild_fold w.flow.books k st.whole.store.holder st.whole.store.spare
      (steps_of st.whole.flow.candidates seat act) mild on.data_allows.0.steps stands in
      to_known w (after w st seat (Keyed act slot keys)) (record {
        order = books.order;
        holders = λ q. subst (λ (h : ℕ → Option ℕ). HasHolder
            ((fold w.flow.books k (steps_of st.whole.flow.candidates seat act)).shelf q) (h q))
            (sym s.holder) (books.holders q);
        spare = λ q i. books.spare q
            (subst (λ (l : List ℕ). In q l) s.spare i);
        reserve = books.reserve;
      })
      (moved _ (steps_of st.whole.flow.candidates seat act)
      (inserted_slots st.whole.parts slot keys) mild on.data_allows.0.steps)
      (below_same st.whole.store.places.own _ st.whole.store.places.seq _
      st.whole.store.places.log _ st.next_seq s.own s.seq s.log below)

  -- books and holds as before
  same_known : (next : State) → (next.whole.flow.books ≡ k)
      → (next.whole.store.holder ≡ st.whole.store.holder)
      → (next.whole.store.spare ≡ st.whole.store.spare)
      → AreInBuckets next.whole.parts k.node k.shelf
      → Below next.whole.store.places.own next.whole.store.places.seq
      next.whole.store.places.log next.next_seq → IsKnown w next
  same_known next a b c n low = to_known w next
      (subst (λ (x : Books). Stands w.flow.books x next.whole.store.holder
      next.whole.store.spare) (sym a)
      (subst (λ (h : ℕ → Option ℕ). Stands w.flow.books k h next.whole.store.spare) (sym b)
      (subst (λ (l : List ℕ). Stands w.flow.books k st.whole.store.holder l) (sym c) stands)))
      (subst (λ (x : Books). AreInBuckets next.whole.parts x.node x.shelf) (sym a) n) low

  pub write_known : (x : Write) (values : List Value) → IsEnabled w st seat (WriteCache x values)
      → IsKnown w (after w st seat (WriteCache x values))
  write_known (OfData q place) values on =
      same_known (after w st seat (WriteCache (OfData q place) values)) refl refl refl
      (still _ (old_slots st.whole.parts _ refl refl))
      (not_own st.whole.store.places.own st.whole.store.places.seq st.whole.store.places.log
      st.next_seq q below)
  write_known OfEntry values on =
      same_known (after w st seat (WriteCache OfEntry values)) refl refl refl
      (still _ (old_slots st.whole.parts _ refl refl)) below
  write_known (OfSet i set) values on =
      same_known (after w st seat (WriteCache (OfSet i set) values)) refl refl refl
      (still _ (set_slots st.whole.parts i set values))
      (one_more st.whole.store.places.own st.whole.store.places.seq st.whole.store.places.log
      st.next_seq (st.whole.parts.leaves i).bucket
      (st.whole.store.places.node_next (st.whole.parts.leaves i).bucket) set
      (subst (λ n. n < st.next_seq) (sym on.asks.1.1)
      (z.own (st.whole.parts.leaves i).bucket on.asks.1.0)) below)
  write_known (OfParent i set) values on =
      same_known (after w st seat (WriteCache (OfParent i set) values)) refl refl refl
      (still _ (old_slots st.whole.parts _ refl refl))
      (one_more st.whole.store.places.own st.whole.store.places.seq st.whole.store.places.log
      st.next_seq (st.whole.parts.inner_nodes i).bucket
      (st.whole.store.places.node_next (st.whole.parts.inner_nodes i).bucket) set
      (subst (λ n. n < st.next_seq) (sym on.asks.1.1)
      (z.own (st.whole.parts.inner_nodes i).bucket on.asks.1.0)) below)
  write_known (OfLeaf i leaf set) values on =
      same_known (after w st seat (WriteCache (OfLeaf i leaf set) values)) refl refl refl
      (leaf_slots st.whole.parts i leaf set values k.node k.shelf
      (inr (seat, on.asks.4.held)) z.nodes)
      (new_node st.whole.store.places.own st.whole.store.places.seq st.whole.store.places.log
      st.next_seq leaf.bucket (w.layout.begins (parts.leaf_owner leaf)) set on.asks.4.seq below)
  write_known (OfInner i inner set) values on =
      same_known (after w st seat (WriteCache (OfInner i inner set) values)) refl refl refl
      (inner_slots st.whole.parts i inner set values k.node k.shelf
      (inr (seat, on.asks.2.held)) z.nodes)
      (new_node st.whole.store.places.own st.whole.store.places.seq st.whole.store.places.log
      st.next_seq inner.bucket (w.layout.begins (parts.inner_owner inner)) set on.asks.2.seq
      below)
  write_known (OfPriorities q part set) values on =
      same_known (after w st seat (WriteCache (OfPriorities q part set) values)) refl refl refl
      (still _ (old_slots st.whole.parts _ refl refl))
      (not_own st.whole.store.places.own st.whole.store.places.seq st.whole.store.places.log
      st.next_seq q below)
  write_known (Outside place) values on =
      same_known (after w st seat (WriteCache (Outside place) values)) refl refl refl
      (still _ (old_slots st.whole.parts _ refl refl)) below

  pub fault_known : (x : Write) (values : List Value) → IsEnabled w st seat (FailCache x values)
      → IsKnown w (after w st seat (FailCache x values))
  fault_known (OfData q place) values on =
      same_known (after w st seat (FailCache (OfData q place) values)) refl refl refl
      (still _ (old_slots st.whole.parts _ refl refl))
      (not_own st.whole.store.places.own st.whole.store.places.seq st.whole.store.places.log
      st.next_seq q below)
  fault_known OfEntry values on =
      same_known (after w st seat (FailCache OfEntry values)) refl refl refl
      (still _ (old_slots st.whole.parts _ refl refl)) below
  fault_known (OfSet i set) values on =
      same_known (after w st seat (FailCache (OfSet i set) values)) refl refl refl
      (still _ (old_slots st.whole.parts _ refl refl))
      (one_more st.whole.store.places.own st.whole.store.places.seq st.whole.store.places.log
      st.next_seq (st.whole.parts.leaves i).bucket
      (st.whole.store.places.node_next (st.whole.parts.leaves i).bucket) set
      (subst (λ n. n < st.next_seq) (sym on.asks.1.1)
      (z.own (st.whole.parts.leaves i).bucket on.asks.1.0)) below)
  fault_known (OfParent i set) values on =
      same_known (after w st seat (FailCache (OfParent i set) values)) refl refl refl
      (still _ (old_slots st.whole.parts _ refl refl))
      (one_more st.whole.store.places.own st.whole.store.places.seq st.whole.store.places.log
      st.next_seq (st.whole.parts.inner_nodes i).bucket
      (st.whole.store.places.node_next (st.whole.parts.inner_nodes i).bucket) set
      (subst (λ n. n < st.next_seq) (sym on.asks.1.1)
      (z.own (st.whole.parts.inner_nodes i).bucket on.asks.1.0)) below)
  fault_known (OfLeaf i leaf set) values on =
      same_known (after w st seat (FailCache (OfLeaf i leaf set) values)) refl refl refl
      (still _ (old_slots st.whole.parts _ refl refl))
      (failed_node st.whole.store.places.own st.whole.store.places.seq
      st.whole.store.places.log st.next_seq leaf.bucket
      (w.layout.begins (parts.leaf_owner leaf)) set on.asks.4.seq below)
  fault_known (OfInner i inner set) values on =
      same_known (after w st seat (FailCache (OfInner i inner set) values)) refl refl refl
      (still _ (old_slots st.whole.parts _ refl refl))
      (failed_node st.whole.store.places.own st.whole.store.places.seq
      st.whole.store.places.log st.next_seq inner.bucket
      (w.layout.begins (parts.inner_owner inner)) set on.asks.2.seq below)
  fault_known (OfPriorities q part set) values on =
      same_known (after w st seat (FailCache (OfPriorities q part set) values)) refl refl refl
      (still _ (old_slots st.whole.parts _ refl refl))
      (not_own st.whole.store.places.own st.whole.store.places.seq st.whole.store.places.log
      st.next_seq q below)
  fault_known (Outside place) values on =
      same_known (after w st seat (FailCache (Outside place) values)) refl refl refl
      (still _ (old_slots st.whole.parts _ refl refl)) below

  pub barrier_known : IsKnown w (after w st seat CacheBarrier)
  barrier_known = same_known (after w st seat CacheBarrier) refl refl refl
      (still _ (old_slots st.whole.parts _ refl refl)) below

  pub bucket_known : (b : ℕ) → IsKnown w (after w st seat (BeginBucket b))
  bucket_known b = same_known (after w st seat (BeginBucket b)) refl refl refl
      (still _ (old_slots st.whole.parts _ refl refl)) below

  pub forget_known : IsKnown w (after w st seat ForgetDrafts)
  forget_known = same_known (after w st seat ForgetDrafts) refl refl refl
      (still _ (forget_slots st.whole.parts)) below

  pub change_known : (low high : ℕ) (gone come old new : List ℕ) (un : ℕ → Bool)
      → IsEnabled w st seat (BeginChange low high gone come old new un)
      → IsKnown w (after w st seat (BeginChange low high gone come old new un))
  change_known low high gone come old new un on =
      same_known (after w st seat (BeginChange low high gone come old new un)) refl refl refl
      (still _ (change_slots st.whole.parts low high gone come old new un on.asks.0)) below

  pub durable_known : IsEnabled w st seat MakeDurable → IsKnown w (after w st seat MakeDurable)
  durable_known on = to_known w (after w st seat MakeDurable)
      (mild_fold w.flow.books k st.whole.store.holder st.whole.store.spare
      (book.Sealed ∷ []) (tt, tt) on.data_allows.0.steps stands)
      (moved _ (book.Sealed ∷ [])
      (old_slots st.whole.parts _ refl refl) (tt, tt) on.data_allows.0.steps) below

  pub seal_known : (last_seq : ℕ) (rest : List ℕ) (root : Root) (chain : Chain)
      → IsEnabled w st seat (Seal last_seq rest root chain)
      → IsKnown w (after w st seat (Seal last_seq rest root chain))
  seal_known last_seq rest SameRoot SameChain on =
      to_known w (after w st seat (Seal last_seq rest SameRoot SameChain))
      (mild_fold w.flow.books k st.whole.store.holder st.whole.store.spare
      (book.Seal ∷ []) (tt, tt) on.data_allows.0.steps stands)
      (moved _ (book.Seal ∷ [])
      (old_slots st.whole.parts _ refl refl) (tt, tt) on.data_allows.0.steps) below
  seal_known last_seq rest (NewRoot r) SameChain on =
      to_known w (after w st seat (Seal last_seq rest (NewRoot r) SameChain))
      (mild_fold w.flow.books k st.whole.store.holder st.whole.store.spare
      (book.Seal ∷ []) (tt, tt) on.data_allows.0.steps stands)
      (moved _ (book.Seal ∷ [])
      (old_slots st.whole.parts _ refl refl) (tt, tt) on.data_allows.0.steps) below
  seal_known last_seq rest SameRoot (NewChain buckets gens) on =
      to_known w (after w st seat (Seal last_seq rest SameRoot (NewChain buckets gens)))
      (mild_fold w.flow.books k st.whole.store.holder st.whole.store.spare
      (step_of_seal w.before seat (NewChain buckets gens) ∷ []) (tt, tt)
      on.data_allows.0.steps stands)
      (moved _ (step_of_seal w.before seat (NewChain buckets gens) ∷ [])
      (old_slots st.whole.parts _ refl refl) (tt, tt) on.data_allows.0.steps) below
  seal_known last_seq rest (NewRoot r) (NewChain buckets gens) on =
      to_known w (after w st seat (Seal last_seq rest (NewRoot r) (NewChain buckets gens)))
      (mild_fold w.flow.books k st.whole.store.holder st.whole.store.spare
      (step_of_seal w.before seat (NewChain buckets gens) ∷ []) (tt, tt)
      on.data_allows.0.steps stands)
      (moved _ (step_of_seal w.before seat (NewChain buckets gens) ∷ [])
      (old_slots st.whole.parts _ refl refl) (tt, tt) on.data_allows.0.steps) below
