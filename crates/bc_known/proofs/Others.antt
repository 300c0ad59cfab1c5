-- What the other acts ask is all that the whole machine asks.
use Rattle.std.proofs.Common.{◌≡◌, ◌≢◌, inl, inr, ℕ, suc, ◌<◌, ◌≤◌, Bool, true, false, List, Option, Some, None, refl, sym, ap, ◌∙◌, subst, arith}
use Rattle.bc_books.specs.Shelves.{Purpose, Priorities, Moving, Tree, Plain, Shelf, Loose, Listed, Held}
use Rattle.bc_books.specs.Books.{Books}
use Rattle.bc_books.specs.Invariant.{IsInOrder}
use Rattle.bc_data.specs.Data as flow
use Rattle.bc_meta.specs.Records.{Records}
use Rattle.bc_meta.specs.Chain.{EachOf}
use Rattle.bc_meta.specs.Acts.{StaysUnused, Holds, IsApart}
use Rattle.bc_key.specs.declared.key.Key.{Key}
use Rattle.bc_leaves.specs.After.{has}
use Rattle.bc_leaves.specs.Enabled.{IsVacant}
use Rattle.bc_leaves.proofs.Chains.{has_in}
use Rattle.bc_whole.specs.State.{Opening, Root, SameRoot, NewRoot, Chain, SameChain, NewChain}
use Rattle.bc_whole.specs.State as whole
use Rattle.bc_whole.specs.Run.{by}
use Rattle.bc_whole.specs.Run as whole_run
use Rattle.bc_whole.proofs.Kept.{Inv}
use Rattle.bc_known.specs.Acts.{State, Keyed, CacheBarrier, Seal, MakeDurable, BeginBucket, Take, LetGo, ReadyChain, BeginChange, is_for_chain}
use Rattle.bc_known.specs.Run.{IsEnabled}
use Rattle.bc_known.specs.Known.{IsKnown, AreLaid}
use Rattle.bc_known.proofs.Places as places
use Rattle.bc_known.proofs.Writes as writes
use Rattle.bc_known.proofs.Keyed.{keyed_joint}

listed_node : (x : Shelf) (p : Purpose) → x ≡ Listed p → places.IsNodeShelf x → ⊥
listed_node x p e h = subst places.IsNodeShelf e h

listed_chain : (x : Shelf) (p : Purpose) → x ≡ Listed p → places.IsChainShelf x → ⊥
listed_chain x p e h = subst places.IsChainShelf e h

listed_loose : (x : Shelf) (p : Purpose) → x ≡ Listed p → x ≢ Loose
listed_loose x p a b = cc

held_node : (x : Shelf) (i : ℕ) (p : Purpose) → (p ≢ Tree) → x ≡ Held i p
    → places.IsNodeShelf x → ⊥
held_node x i Priorities ne e h = subst places.IsNodeShelf e h
held_node x i Moving ne e h = subst places.IsNodeShelf e h
held_node x i Tree ne e h = ne refl
held_node x i Plain ne e h = subst places.IsNodeShelf e h

tree_chain : (x : Shelf) (i : ℕ) → x ≡ Held i Tree → places.IsChainShelf x → ⊥
tree_chain x i e h = subst places.IsChainShelf e h

prio_other : Priorities ≢ Tree
prio_other e = cc

module _ (w : Opening) (st : State) (seat : ℕ) (inv : Inv w st.whole) (z : IsKnown w st)
    (laid : AreLaid w) (f : IsInOrder w.flow.books st.whole.flow.books) where
  abbrev k : Books
  k = st.whole.flow.books

  unused : StaysUnused w.layout st.whole.store st.whole.parts.records.unused
  unused = writes.unused w st seat inv z laid f

  pub keyed_enabled : (act : flow.Act) (slot : ℕ) (keys : List
      Key)
      → IsEnabled w st seat (Keyed act slot keys)
      → whole_run.IsEnabled w st.whole seat (whole.Keyed act slot keys)
  keyed_enabled act slot keys on = record {
    together = on.asks.0;
    flow = on.data_allows;
    store = keyed_joint w.layout slot st.whole.store st.whole.parts keys
        on.asks.1 on.asks.2 inv.store.unused;
  }

  pub barrier_enabled : IsEnabled w st seat CacheBarrier
      → whole_run.IsEnabled w st.whole seat whole.CacheBarrier
  barrier_enabled on = record {
    together = tt;
    flow = on.data_allows;
    store = (refl, (tt, tt), tt, (refl, inv.store.unused), tt);
  }

  pub durable_enabled : IsEnabled w st seat MakeDurable
      → whole_run.IsEnabled w st.whole seat whole.MakeDurable
  durable_enabled on = record {
    together = tt;
    flow = on.data_allows;
    store = (refl, (on.asks, tt), tt, tt, tt);
  }

  pub bucket_enabled : (b : ℕ) → IsEnabled w st seat (BeginBucket b)
      → whole_run.IsEnabled w st.whole seat (whole.BeginBucket b)
  bucket_enabled b on = record {
    together = tt;
    flow = tt;
    store = (refl, (on.asks.0, tt), on.asks.1, (refl, inv.store.unused), tt);
  }

  -- the buckets of a new chain are held for it
  chain_held : (buckets : List ℕ) → ((q : ℕ) → has buckets q ≡ true
      → (k.shelf q ≡ Held seat Priorities) × (k.chains.of q ≡ None))
      → EachOf (Holds st.whole.store seat) buckets
      × EachOf (λ q. st.whole.parts.records.unused q ≡ true) buckets
  chain_held buckets held = (
    λ q i. (let h = held q (has_in buckets q i) in (
      places.holder w st inv z laid f q seat Priorities h.0,
      places.no_store_chain w st inv z laid f q h.1,
    )),
    λ q i. (let h = held q (has_in buckets q i) in
        (places.vacant w st inv z laid f q (λ n. held_node (k.shelf q) seat Priorities
        prio_other h.0 (places.node_shelf w st inv z laid f q n))).0),
  )

  prio_same : st.whole.parts.records.newest.prio ≡ st.whole.store.places.records.newest.prio
  prio_same = ap (λ (r : Records). r.newest.prio) inv.same

  pub seal_enabled : (last_seq : ℕ) (rest : List ℕ) (root : Root) (chain : Chain)
      → IsEnabled w st seat (Seal last_seq rest root chain)
      → whole_run.IsEnabled w st.whole seat (whole.Seal last_seq rest root chain)
  seal_enabled last_seq rest SameRoot SameChain on = record {
    together = tt;
    flow = on.data_allows;
    store = (refl, (on.asks.0, tt), tt, (unused, prio_same), tt);
  }
  seal_enabled last_seq rest (NewRoot r) SameChain on = record {
    together = tt;
    flow = on.data_allows;
    store = (refl, (on.asks.0, tt), tt, (unused, prio_same), tt);
  }
  seal_enabled last_seq rest SameRoot (NewChain buckets gens) on =
      let h = chain_held buckets on.data_allows.0.steps.0.held in record {
        together = tt;
        flow = on.data_allows;
        store = (
          refl,
          (on.asks.0, tt),
          tt,
          (unused, h.0, h.1, on.asks.1.0, on.asks.1.1, on.asks.1.2, refl),
          tt,
        );
      }
  seal_enabled last_seq rest (NewRoot r) (NewChain buckets gens) on =
      let h = chain_held buckets on.data_allows.0.steps.0.held in record {
        together = tt;
        flow = on.data_allows;
        store = (
          refl,
          (on.asks.0, tt),
          tt,
          (unused, h.0, h.1, on.asks.1.0, on.asks.1.1, on.asks.1.2, refl),
          tt,
        );
      }

  -- a bucket on a list is nobody's
  abbrev IsFree : ℕ → Type 0
  IsFree b = IsVacant st.whole.parts b × ((w.layout.journal ≤ b) × (b < w.layout.buckets))
      × (st.whole.store.holder b ≡ None) × (st.whole.store.chain_of b ≡ None)

  listed_free : (b : ℕ) (p : Purpose) → k.shelf b ≡ Listed p → IsFree b
  listed_free b p e = (
    places.vacant w st inv z laid f b
        (λ n. listed_node (k.shelf b) p e (places.node_shelf w st inv z laid f b n)),
    places.area w st inv z laid f b (listed_loose (k.shelf b) p e),
    places.no_holder w st inv z laid f b p e,
    places.no_store_chain w st inv z laid f b (places.no_chain w st inv z laid f b
        (listed_chain (k.shelf b) p e)),
  )

  pub take_enabled : (p : Purpose) (b : ℕ) → IsEnabled w st seat (Take p b)
      → whole_run.IsEnabled w st.whole seat (whole.Take p b)
  take_enabled p b on =
      let h : IsFree b = elim on.data_allows.0.steps.0 [
        | inl e ↦ listed_free b Plain e
        | inr (inl e) ↦ listed_free b p e
        | inr (inr e) ↦ listed_free b Moving e.1
      ] in record {
        together = on.asks;
        flow = on.data_allows;
        store = (refl, (h.0, tt), h.1.0, (h.2, h.3, h.1.1), tt);
      }

  pub let_go_enabled : (b : ℕ) (room : Bool) → IsEnabled w st seat (LetGo b room)
      → whole_run.IsEnabled w st.whole seat (whole.LetGo b room)
  let_go_enabled b room on =
      let held = on.data_allows.0.steps.0.0 in record {
        together = free held.0 held.1;
        flow = on.data_allows;
        store = (
          refl,
          tt,
          tt,
          (
            places.holder w st inv z laid f b seat held.0 held.1,
            places.no_store_chain w st inv z laid f b on.data_allows.0.steps.0.1,
          ),
          tt,
        );
      }
    where
      other : (p : Purpose) → p ≢ Tree → k.shelf b ≡ Held seat p
          → st.whole.parts.records.unused b ≡ true
      other p ne e = (places.vacant w st inv z laid f b (λ n. held_node (k.shelf b) seat p ne e
          (places.node_shelf w st inv z laid f b n))).0

      free : (p : Purpose) → k.shelf b ≡ Held seat p → st.whole.parts.records.unused b ≡ true
      free Tree e = (on.asks.1 e).0
      free Priorities e = other Priorities (λ x. cc) e
      free Moving e = other Moving (λ x. cc) e
      free Plain e = other Plain (λ x. cc) e

  pub ready_enabled : (room : ℕ → Bool) → IsEnabled w st seat (ReadyChain room)
      → whole_run.IsEnabled w st.whole seat
      (whole.ReadyChain room (st.whole.store.buckets st.whole.store.ready_chain))
  ready_enabled room on =
      let lt = on.data_allows.0.steps.0 in
      let ready = inv.link.chain.ready_is in
      let durable = inv.link.chain.durable_is in
      let o0 = inv.store.order.0 in
      let o1 = inv.store.order.1 in
      let shape = inv.store.shape st.whole.store.ready_chain (omega arith)
      (omega (arith, o0, o1)) in record {
        together = tt;
        flow = on.data_allows;
        store = (
          refl,
          tt,
          tt,
          (
            omega (arith, lt, ready, durable),
            λ q i. places.holder w st inv z laid f q seat Priorities (on.asks.1 q
                (sym (inv.link.chain.buckets q)
                ∙ inv.store.named (suc st.whole.store.ready_chain) (omega arith)
                (omega (arith, lt, ready, durable, o1)) q i
                ∙ ap (λ n. Some (suc n)) inv.link.chain.ready_is)),
            shape.0,
            shape.1,
            λ q i. inl (inv.store.named st.whole.store.ready_chain (omega arith)
                (omega (arith, o0, o1)) q i),
          ),
          tt,
        );
      }

  -- a bucket that is held for a node is apart from chains
  tree_apart : (q : ℕ) → k.shelf q ≡ Held seat Tree → IsApart w.layout st.whole.store q → ⊥
  tree_apart q e a =
      let range = places.area w st inv z laid f q
      (writes.held_tree_loose (k.shelf q) seat e) in
      let r0 = range.0 in
      let r1 = range.1 in
      elim a [
        | inl lt ↦ absurd (omega (arith, lt, r0))
        | inr (inl ge) ↦ absurd (omega (arith, ge, r1))
        | inr (inr (inl y)) ↦ (let none = places.no_store_chain w st inv z laid f q
            (places.no_chain w st inv z laid f q (tree_chain (k.shelf q) seat e)) in
            some_none (st.whole.store.chain_of q) y.0 y.1 none)
        | inr (inr (inr j)) ↦ spare_tree (k.shelf q) e (z.spare q j)
      ]
    where
      some_none : (o : Option ℕ) (n : ℕ) → o ≡ Some n → o ≡ None → ⊥
      some_none o n x y = cc

      spare_tree : (x : Shelf) → x ≡ Held seat Tree → is_for_chain x ≡ true → ⊥
      spare_tree x is h = let y : false ≡ true = sym (ap is_for_chain is) ∙ h in absurd (cc)

  pub change_enabled : (low high : ℕ) (gone come old new : List ℕ) (un : ℕ → Bool)
      → IsEnabled w st seat (BeginChange low high gone come old new un)
      → whole_run.IsEnabled w st.whole seat
      (whole.BeginChange low high gone come old new un)
  change_enabled low high gone come old new un on = record {
    together = on.asks.1;
    flow = tt;
    store = (refl, (on.asks.0, tt), tt, (refl, apart), tt);
  }
    where
      apart : StaysUnused w.layout st.whole.store un
      apart q a = places.bool_true (un q) (λ e. elim (on.asks.1 q e) [
        | inl old_ ↦ places.true_false (st.whole.parts.records.unused q) (unused q a) old_
        | inr h ↦ tree_apart q h a
      ])
