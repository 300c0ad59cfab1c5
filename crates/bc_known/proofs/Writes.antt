-- What a writer of the cache device asks is all that the whole machine asks.
use Rattle.std.proofs.Common.{◌≡◌, ◌≢◌, ℕ, suc, ◌<◌, List, [], ◌∷◌, length, Some, None, refl, sym, subst, arith, if◌then◌else◌}
use Rattle.bc_model.specs.Sector.{Value, at_run, Gives}
use Rattle.bc_books.specs.Shelves.{Priorities, Tree, Shelf, Loose, Held, Owner, Own, IsPinned}
use Rattle.bc_books.specs.Books.{Books}
use Rattle.bc_books.specs.Invariant.{IsInOrder}
use Rattle.bc_data.specs.Data as flow
use Rattle.bc_data.specs.Enabled.{MayWrite}
use Rattle.bc_meta.specs.Facts.{In}
use Rattle.bc_leaves.specs.Enabled.{IsVacant}
use Rattle.bc_meta.specs.Tree.{NodeSet}
use Rattle.bc_meta.specs.Tree as tree
use Rattle.bc_meta.specs.Records.{Records}
use Rattle.bc_meta.specs.Places.{CanFill, CanStart}
use Rattle.bc_meta.specs.Acts.{StaysUnused, Holds}
use Rattle.bc_meta.proofs.Lists.{by_test}
use Rattle.bc_meta.proofs.Place.{within_of}
use Rattle.bc_leaves.specs.Parts.{Role, NoNode, Draft, Free, Leaving, Coming, Stays, leaf_owner, inner_owner}
use Rattle.bc_whole.specs.State.{Opening, Write, OfData, OfEntry, OfSet, OfParent, OfLeaf, OfInner, OfPriorities, Outside}
use Rattle.bc_whole.specs.State as whole
use Rattle.bc_whole.specs.Run as whole_run
use Rattle.bc_whole.proofs.Kept.{Inv}
use Rattle.bc_known.specs.Acts.{State, WriteCache, FailCache}
use Rattle.bc_known.specs.Asked.{IsInBucket, CanStartNode, CanWritePriorities}
use Rattle.bc_known.specs.Run.{IsEnabled}
use Rattle.bc_known.specs.Known.{IsKnown, AreLaid}
use Rattle.bc_known.proofs.Places as places
use Rattle.bc_meta.proofs.Blank.{first_long}

free_some : (r : Role) → r ≡ Free → r ≢ NoNode
free_some r e n = cc

pub stays_some : (r : Role) → Stays r → r ≢ NoNode
stays_some NoNode h e = h
stays_some Draft h e = h
stays_some Free h e = cc
stays_some Leaving h e = h
stays_some Coming h e = cc

-- a run that has a value begins with one
first_value : (place : ℕ) (values : List Value) → values ≢ []
    → (v : Value) × (at_run place values place ≡ Some v)
first_value place [] some = absurd (some refl)
first_value place (v ∷ vs) some = (
  v,
  by_test place place
      (λ t. (if t then Some v else at_run (suc place) vs place) ≡ Some v) (λ _. refl)
      (λ ne. absurd (ne refl)),
)

some_length : (values : List Value) → values ≢ [] → 0 < length values
some_length [] some = absurd (some refl)
some_length (v ∷ vs) some = omega arith

own_pinned : (x : Owner) (i : ℕ) → x ≡ Own i → IsPinned x
own_pinned x i e = subst IsPinned (sym e) tt

pub held_tree_loose : (x : Shelf) (i : ℕ) → x ≡ Held i Tree → x ≢ Loose
held_tree_loose x i a b = cc

held_prio_loose : (x : Shelf) (i : ℕ) → x ≡ Held i Priorities → x ≢ Loose
held_prio_loose x i a b = cc

module _ (w : Opening) (st : State) (seat : ℕ) (inv : Inv w st.whole) (z : IsKnown w st)
    (laid : AreLaid w) (f : IsInOrder w.flow.books st.whole.flow.books) where
  abbrev k : Books
  k = st.whole.flow.books

  -- what is unused stays so
  pub unused : StaysUnused w.layout st.whole.store st.whole.parts.records.unused
  unused = subst (λ (r : Records). StaysUnused w.layout st.whole.store r.unused) (sym inv.same)
      inv.store.unused

  record IsOff (q place : ℕ) (values : List Value) : Type 0 where
    vacant : IsVacant st.whole.parts q
    fill : CanFill w.layout q place values
    chain : st.whole.store.chain_of q ≡ None

  -- data goes to pinned places
  data_off : (q place : ℕ) (values : List Value) → IsInBucket w.layout q place values
      → Gives place values (λ t v. MayWrite w.flow.books k seat flow.Data t)
      → IsOff q place values
      × (In q st.whole.store.spare → ⊥)
  data_off q place values at may =
      let v = first_value place values at.some in
      let pin = own_pinned (k.owner place) seat (may place v.0 v.1) in
      let some = some_length values at.some in
      let high = at.high in
      let there = laid.sector q place at.bucket at.low (omega (arith, some, high)) in (
        record {
          vacant = places.vacant w st inv z laid f q
              (places.pinned_node w st inv z laid f q place pin there);
          fill = (
            (places.pinned_area w st inv z laid f q place pin there).0,
            at.low,
            at.high,
            at.bucket,
          );
          chain = places.no_store_chain w st inv z laid f q
              (places.pinned_chain w st inv z laid f q place pin there);
        },
        places.pinned_spare w st inv z laid f q place pin there,
      )

  -- a priority set goes to a bucket that is held for one
  priorities_off : (q part : ℕ) (values : List Value)
      → CanWritePriorities w.layout st seat q part values → IsOff q (w.layout.first q) values
      × Holds st.whole.store seat q
  priorities_off q part values ask =
      let chain = places.no_store_chain w st inv z laid f q ask.unnamed in (
        record {
          vacant = places.vacant w st inv z laid f q
              (λ n. subst places.IsNodeShelf ask.held (places.node_shelf w st inv z laid f q n));
          fill = (
            (places.area w st inv z laid f q
                (held_prio_loose (k.shelf q) seat ask.held)).0,
            ask.within.low,
            ask.within.high,
            ask.within.bucket,
          );
          chain = chain;
        },
        (places.holder w st inv z laid f q seat Priorities ask.held, chain),
      )

  -- a new node goes to a bucket that is held for one
  node_start : (q : ℕ) (o : tree.Owner) (set : NodeSet) (values : List Value)
      → CanStartNode w st seat q o set values
      → CanStart w.layout st.whole.store.places q o set values
      × Holds st.whole.store seat q × CanFill w.layout q (w.layout.begins o) values
  node_start q o set values ask =
      let range = places.area w st inv z laid f q
      (held_tree_loose (k.shelf q) seat ask.held) in
      let within = within_of w.layout q o ask.inside in
      let within0 = within.0 in
      let within1 = within.1 in
      let room = ask.room in
      let long = first_long w.layout o set values ask.first ask.room in (
        record {
          low = range.0;
          high = range.1;
          inside = ask.inside;
          room = ask.room;
          first = ask.first;
          unheard = λ at e wrote is. (let older = z.seqs q at e wrote in let seq = ask.seq in
              absurd (omega (arith, older, seq, is)));
        },
        (
          places.holder w st inv z laid f q seat Tree ask.held,
          places.no_store_chain w st inv z laid f q ask.unnamed,
        ),
        (range.0, within0, omega (arith, within1, room, long), range.1),
      )

  pub write_enabled : (x : Write) (values : List Value)
      → IsEnabled w st seat (WriteCache x values)
      → whole_run.IsEnabled w st.whole seat (whole.WriteCache x values)
  write_enabled (OfData q place) values on =
      let a = data_off q place values on.asks on.data_allows.0.can.places in record {
        together = tt;
        flow = on.data_allows;
        store = (refl, (a.0.vacant, tt), a.0.fill, (a.0.chain, a.1), tt);
      }
  write_enabled OfEntry values on = record {
    together = tt;
    flow = on.data_allows;
    store = (refl, (on.asks.0, tt), on.asks.1, (refl, inv.store.unused), tt);
  }
  write_enabled (OfSet i set) values on = record {
    together = tt;
    flow = on.data_allows;
    store = (
      refl,
      (on.asks.0, tt),
      (
        (places.node_area w st inv z laid f (st.whole.parts.leaves i).bucket
            (z.nodes.leaves i (free_some (st.whole.parts.leaves i).role on.asks.0.0))).0,
        on.asks.1,
      ),
      (refl, unused),
      tt,
    );
  }
  write_enabled (OfParent i set) values on = record {
    together = tt;
    flow = on.data_allows;
    store = (
      refl,
      (on.asks.0, tt),
      (
        (places.node_area w st inv z laid f (st.whole.parts.inner_nodes i).bucket
            (z.nodes.inner_nodes i (stays_some (st.whole.parts.inner_nodes i).role
            on.asks.0.1))).0,
        on.asks.1,
      ),
      (refl, unused),
      tt,
    );
  }
  write_enabled (OfLeaf i leaf set) values on =
      let a = node_start leaf.bucket (leaf_owner leaf) set values on.asks.4 in record {
        together = tt;
        flow = on.data_allows;
        store = (
          refl,
          ((on.asks.0, on.asks.4.vacant, on.asks.1, on.asks.2, on.asks.3), tt),
          a.0,
          a.1,
          tt,
        );
      }
  write_enabled (OfInner i inner set) values on =
      let a = node_start inner.bucket (inner_owner inner) set values on.asks.2 in record {
        together = tt;
        flow = on.data_allows;
        store = (refl, ((on.asks.0, on.asks.2.vacant, on.asks.1), tt), a.0, a.1, tt);
      }
  write_enabled (OfPriorities q part set) values on =
      let a = priorities_off q part values on.asks.0 in record {
        together = tt;
        flow = on.data_allows;
        store = (refl, (a.0.vacant, tt), a.0.fill, (a.1, on.asks.1), tt);
      }
  write_enabled (Outside place) values on = record {
    together = tt;
    flow = on.data_allows;
    store = (refl, (tt, tt), on.asks, (refl, inv.store.unused), tt);
  }

  pub fault_enabled : (x : Write) (values : List Value)
      → IsEnabled w st seat (FailCache x values)
      → whole_run.IsEnabled w st.whole seat (whole.FailCache x values)
  fault_enabled (OfData q place) values on =
      let a = data_off q place values on.asks on.data_allows.0.can.places in record {
        together = tt;
        flow = on.data_allows;
        store = (refl, (a.0.vacant, tt), a.0.fill, (a.0.chain, a.1), tt);
      }
  fault_enabled OfEntry values on = record {
    together = tt;
    flow = on.data_allows;
    store = (refl, (on.asks.0, tt), on.asks.1, (refl, inv.store.unused), tt);
  }
  fault_enabled (OfSet i set) values on = record {
    together = tt;
    flow = on.data_allows;
    store = (
      refl,
      (on.asks.0, tt),
      (
        (places.node_area w st inv z laid f (st.whole.parts.leaves i).bucket
            (z.nodes.leaves i (free_some (st.whole.parts.leaves i).role on.asks.0.0))).0,
        on.asks.1,
      ),
      (refl, inv.store.unused),
      tt,
    );
  }
  fault_enabled (OfParent i set) values on = record {
    together = tt;
    flow = on.data_allows;
    store = (
      refl,
      (on.asks.0, tt),
      (
        (places.node_area w st inv z laid f (st.whole.parts.inner_nodes i).bucket
            (z.nodes.inner_nodes i (stays_some (st.whole.parts.inner_nodes i).role
            on.asks.0.1))).0,
        on.asks.1,
      ),
      (refl, inv.store.unused),
      tt,
    );
  }
  fault_enabled (OfLeaf i leaf set) values on =
      let a = node_start leaf.bucket (leaf_owner leaf) set values on.asks.4 in record {
        together = tt;
        flow = on.data_allows;
        store = (refl, (on.asks.4.vacant, tt), a.2, a.1, tt);
      }
  fault_enabled (OfInner i inner set) values on =
      let a = node_start inner.bucket (inner_owner inner) set values on.asks.2 in record {
        together = tt;
        flow = on.data_allows;
        store = (refl, (on.asks.2.vacant, tt), a.2, a.1, tt);
      }
  fault_enabled (OfPriorities q part set) values on =
      let a = priorities_off q part values on.asks.0 in record {
        together = tt;
        flow = on.data_allows;
        store = (refl, (a.0.vacant, tt), a.0.fill, a.1, tt);
      }
  fault_enabled (Outside place) values on = record {
    together = tt;
    flow = on.data_allows;
    store = (refl, (tt, tt), on.asks, (refl, inv.store.unused), tt);
  }
