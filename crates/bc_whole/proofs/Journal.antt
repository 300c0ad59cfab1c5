-- Keys that come in, an entry that is sealed, and one that is durable.
use Rattle.std.proofs.Common.{◌≡◌, ◌≢◌, ℕ, suc, ◌≤◌, Bool, true, false, List, [], ◌∷◌, ◌++◌, Option, Some, refl, sym, ap, ◌∙◌, subst, arith, if◌then◌else◌}
use Rattle.bc_key.specs.declared.key.Key.{Key}
use Rattle.bc_books.specs.Index as books
use Rattle.bc_books.specs.Books.{Sealed}
use Rattle.bc_books.specs.Invariant.{IsCounted}
use Rattle.bc_data.specs.Data as flow
use Rattle.bc_data.specs.After as flow_step
use Rattle.bc_meta.specs.Entries.{Entry}
use Rattle.bc_meta.specs.Records.{Records, Nothing, Fixed, Safe, put}
use Rattle.bc_meta.specs.Events as event
use Rattle.bc_meta.specs.Acts as meta
use Rattle.bc_meta.proofs.Lists.{by_test}
use Rattle.bc_leaves.specs.After.{has}
use Rattle.bc_leaves.specs.Events as parts
use Rattle.bc_leaves.specs.Laws.{IsJoint, acts_of}
use Rattle.bc_leaves.specs.Laws as joint
use Rattle.bc_whole.specs.State.{Opening, State, Root, SameRoot, NewRoot, Chain, SameChain, NewChain}
use Rattle.bc_whole.specs.Together.{SayTheSame, Brings, gen_from, inserted, step, entry_of, step_of_seal, meta_seal}
use Rattle.bc_whole.specs.Linked.{Stored, stored, AreLinked, HaveOneIndex}
use Rattle.bc_whole.proofs.Keys.{insert_keys, seal_keys, durable_keys}

-- ---- keys

abbrev with_waiting : List Key → Stored → Stored
with_waiting keys r = record {
  device = r.device;
  stage = r.stage;
  waiting = keys ++ r.waiting;
  sealed = r.sealed;
  index = r.index;
  unused = r.unused;
  chain_of = r.chain_of;
  gens = r.gens;
  ready_chain = r.ready_chain;
  durable_chain = r.durable_chain;
  sealed_chain = r.sealed_chain;
}

acts_join : (xs ys : List joint.Step) → acts_of (xs ++ ys) ≡ acts_of xs ++ acts_of ys
acts_join [] ys = refl
acts_join (x ∷ xs) ys = ap (λ l. x.act ∷ l) (acts_join xs ys)

module _ (w : Opening) where
  fold_join : (m : meta.State) (xs ys : List meta.Act)
      → meta.fold w.layout m (xs ++ ys) ≡ meta.fold w.layout (meta.fold w.layout m xs) ys
  fold_join m [] ys = refl
  fold_join m (x ∷ xs) ys = fold_join (meta.after w.layout m x) xs ys

  pub waiting_more : (m : meta.State) (slot : ℕ) (keys : List Key)
      → stored w.before (meta.fold w.layout m (acts_of (inserted slot keys)))
      ≡ with_waiting keys (stored w.before m)
  waiting_more m slot [] = refl
  waiting_more m slot (key ∷ keys) =
      ap (λ l. stored w.before (meta.fold w.layout m l)) (acts_join (inserted slot keys)
      (step (meta.Plain (event.AddKey key)) (parts.Insert slot key)))
      ∙ ap (λ (x : meta.State). stored w.before x) (fold_join m (acts_of (inserted slot keys))
      (meta.Plain (event.AddKey key) ∷ []))
      ∙ ap (λ r. with_waiting (key ∷ []) r) (waiting_more m slot keys)

  module _ (st : State) (link : AreLinked (stored w.before st.store) st.flow)
      (counted : IsCounted st.flow.books.index.count st.flow.books.index.changed
      st.flow.books.journal st.flow.books.round.upto) where
    low : st.flow.books.journal.durable ≤ st.flow.books.index.count
    low = let a = counted.durable in let b = counted.sealed in omega arith

    -- the index with the keys, on both sides
    more : (keys : List Key) (leaf : ℕ) (ks : List books.Key) → SayTheSame keys ks
        → HaveOneIndex st.store.places.records.stage (keys ++ st.store.places.records.waiting)
        st.store.places.records.entry.keys st.store.places.records.index
        (books.inserted leaf ks st.flow.books.index) st.flow.books.journal
    more keys leaf ks say = insert_keys keys leaf ks st.store.places.records.stage
        st.store.places.records.waiting st.store.places.records.entry.keys
        st.store.places.records.index st.flow.books.index st.flow.books.journal say low
        counted.sealed link.index

    add_link : (slot : ℕ) (keys : List Key) (f : flow.State)
        → AreLinked (with_waiting keys (stored w.before st.store)) f
        → AreLinked (stored w.before (meta.fold w.layout st.store (acts_of (inserted slot keys)))) f
    add_link slot keys f = subst (λ (r : Stored). AreLinked r f)
        (sym (waiting_more st.store slot keys))

    pub keyed_link : (seat : ℕ) (act : flow.Act) (slot : ℕ) (keys : List Key)
        → Brings act slot keys
        → AreLinked (stored w.before (meta.fold w.layout st.store (acts_of (inserted slot keys))))
        (flow_step.after w.flow st.flow seat act)
    keyed_link seat (flow.InsertWrite line leaf ks first values) slot keys fit =
        add_link slot keys _ (record {
          device = link.device;
          stage = link.stage;
          index = more keys leaf ks fit.1;
          chain = link.chain;
          nodes = link.nodes;
        })
    keyed_link seat (flow.Insert form leaf ks) slot keys fit = add_link slot keys _ (record {
      device = link.device;
      stage = link.stage;
      index = more keys leaf ks fit.1;
      chain = link.chain;
      nodes = link.nodes;
    })
    keyed_link seat (flow.Settle number leaf ks) slot keys fit = add_link slot keys _ (record {
      device = link.device;
      stage = link.stage;
      index = more keys leaf ks fit.1;
      chain = link.chain;
      nodes = link.nodes;
    })
    keyed_link seat act slot keys fit = absurd fit

-- ---- the entry

put_there : {A : Type 0} → (f : ℕ → A) (k : ℕ) (x : A) → put f k x k ≡ x
put_there {A} f k x = by_test k k (λ t. (if t then x else f k) ≡ x) (λ _. refl)
    (λ ne. absurd (ne refl))

put_else : {A : Type 0} → (f : ℕ → A) (k : ℕ) (x : A) (n : ℕ) → n ≢ k → put f k x n ≡ f n
put_else {A} f k x n ne = by_test n k (λ t. (if t then x else f n) ≡ f n)
    (λ e. absurd (ne e)) (λ _. refl)

-- the buckets of a new chain
put_has : (f : ℕ → Option ℕ) (qs : List ℕ) (n b : ℕ)
    → meta.put_all f qs (Some n) b ≡ (if has qs b then Some n else f b)
put_has f [] n b = refl
put_has f (q ∷ qs) n b = by_test b q
    (λ t. (if t then Some n else meta.put_all f qs (Some n) b)
    ≡ (if (if t then true else has qs b) then Some n else f b))
    (λ _. refl) (λ _. put_has f qs n b)

pub sealed_keys : (st : State) (last_seq : ℕ) (rest : List ℕ) (root : Root) (chain : Chain)
    → (entry_of st last_seq rest root chain).keys ≡ st.parts.records.waiting
sealed_keys st last_seq rest SameRoot chain = refl
sealed_keys st last_seq rest (NewRoot r) chain = refl

module _ (w : Opening) (st : State) (seat : ℕ) (link : AreLinked (stored w.before st.store) st.flow)
    (same : st.parts.records ≡ st.store.places.records) where
  known : (q : ℕ) → st.parts.records.unused q ≡ false → st.store.places.records.unused q ≡ false
  known q e = subst (λ (r : Records). r.unused q ≡ false) same e

  -- all that waits is sealed
  seal_index : (e : Entry) (wait : Bool) → e.keys ≡ st.parts.records.waiting
      → st.store.places.records.stage ≡ Nothing
      → HaveOneIndex Fixed [] e.keys st.store.places.records.index st.flow.books.index
      (record {
        sealed = st.flow.books.index.count;
        durable = st.flow.books.journal.durable;
        waiting = wait;
      })
  seal_index e wait is none = subst (λ (keys : List Key). HaveOneIndex Fixed [] keys
      st.store.places.records.index st.flow.books.index (record {
        sealed = st.flow.books.index.count;
        durable = st.flow.books.journal.durable;
        waiting = wait;
      })) (sym (is ∙ ap (λ (r : Records). r.waiting) same))
      (seal_keys st.store.places.records.stage st.store.places.records.waiting
      st.store.places.records.entry.keys st.store.places.records.index st.flow.books.index
      st.flow.books.journal wait none link.index)

  pub seal_link : (e : Entry) (chain : Chain) → e.keys ≡ st.parts.records.waiting
      → st.parts.records.stage ≡ Nothing
      → st.store.durable_chain ≤ st.store.sealed_chain
      → AreLinked (stored w.before (meta.after w.layout st.store
      (meta_seal seat e st.parts.records.unused chain)))
      (flow_step.after w.flow st.flow seat (flow.Shelve (step_of_seal w.before seat chain)))
  seal_link e SameChain is idle order = record {
    device = link.device;
    stage = refl;
    index = seal_index e true is (subst (λ (r : Records). r.stage ≡ Nothing) same idle);
    chain = link.chain;
    nodes = λ q un. link.nodes q (known q un);
  }
  seal_link e (NewChain buckets gens) is idle order = record {
    device = link.device;
    stage = refl;
    index = seal_index e true is (subst (λ (r : Records). r.stage ≡ Nothing) same idle);
    chain = record {
      buckets = λ b. put_has st.store.chain_of buckets (suc st.store.sealed_chain) b
          ∙ ap (λ n. if has buckets b then Some (suc n) else st.store.chain_of b)
          link.chain.sealed_is
          ∙ ap (λ o. if has buckets b then Some (suc st.flow.books.chains.sealed) else o)
          (link.chain.buckets b);
      ready_is = link.chain.ready_is;
      durable_is = link.chain.durable_is;
      sealed_is = ap suc link.chain.sealed_is;
      durable_gens = λ b. ap (λ (l : List ℕ). gen_from w.before l b)
          (put_else st.store.gens (suc st.store.sealed_chain) gens st.store.durable_chain
          (λ e. absurd (omega (arith, order, e)))) ∙ link.chain.durable_gens b;
      sealed_gens = λ b. ap (λ (l : List ℕ). gen_from w.before l b)
          (put_there st.store.gens (suc st.store.sealed_chain) gens);
    };
    nodes = λ q un. link.nodes q (known q un);
  }

  pub durable_link : st.parts.records.stage ≡ Safe
      → AreLinked (stored w.before (meta.after w.layout st.store meta.Durable))
      (flow_step.after w.flow st.flow seat (flow.Shelve Sealed))
  durable_link safe = record {
    device = link.device;
    stage = refl;
    index = durable_keys st.store.places.records.stage st.store.places.records.waiting
        st.store.places.records.entry.keys st.store.places.records.index st.flow.books.index
        st.flow.books.journal false (subst (λ (r : Records). r.stage ≡ Safe) same safe)
        link.index;
    chain = record {
      buckets = link.chain.buckets;
      ready_is = link.chain.ready_is;
      durable_is = link.chain.sealed_is;
      sealed_is = link.chain.sealed_is;
      durable_gens = link.chain.sealed_gens;
      sealed_gens = link.chain.sealed_gens;
    };
    nodes = link.nodes;
  }
