-- Buckets that are taken, let go and given up, and changes of the tree.
use Rattle.std.proofs.Common.{◌≡◌, ◌⊎◌, inl, inr, ℕ, suc, ◌<◌, Bool, true, false, List, [], ◌∷◌, Option, Some, None, refl, sym, ap, ◌∙◌, subst, arith, if◌then◌else◌}
use Rattle.bc_books.specs.Index.{put}
use Rattle.bc_books.specs.Shelves.{Moving, Purpose, Priorities, Tree, Plain, Shelf, Loose, Listed, Held, IsFor, taken_to, put_back}
use Rattle.bc_books.specs.Chains.{at_ready, given_up}
use Rattle.bc_books.specs.Books.{Step, Put, Regroup, Take, Shut, LetGo, Pin, Unpin, Keep, BeginNode, MakeNode, DropNode, Raise, MakeReady, ReadyChain, Seal, SealChain, Sealed, Begin, Walk, End, Drop}
use Rattle.bc_books.specs.Invariant.{IsInOrder}
use Rattle.bc_data.specs.Data as flow
use Rattle.bc_data.specs.After as flow_step
use Rattle.bc_meta.specs.Records.{Records, IsFewer}
use Rattle.bc_meta.specs.Events as event
use Rattle.bc_meta.specs.Acts as meta
use Rattle.bc_meta.proofs.Lists.{by_test}
use Rattle.bc_whole.specs.State.{Opening, State}
use Rattle.bc_leaves.specs.Laws.{acts_of}
use Rattle.bc_whole.specs.Together.{AreHeldFor, IsInstalled, AreInstalled, shelved, released}
use Rattle.bc_whole.specs.Run.{by}
use Rattle.bc_whole.specs.Linked.{Stored, stored, AreLinked, KnowNodes}
use Rattle.bc_whole.proofs.Quiet.{put_nodes}

not_listed : (x : Shelf) (i : ℕ) (p : Purpose) → x ≡ Listed p → x ≡ Held i Tree → ⊥
not_listed x i p a b = cc

bool_both : (b : Bool) → b ≡ true → b ≡ false → ⊥
bool_both b x y = cc

bool_false : (b : Bool) → (b ≡ true → ⊥) → b ≡ false
bool_false true not = absurd (not refl)
bool_false false not = refl

-- what is put back is no bucket for a node, but nobody asks where it isn't used
let_go : (unused node : ℕ → Bool) (shelf : ℕ → Shelf) (b : ℕ) (y : Shelf) → unused b ≡ true
    → KnowNodes unused node shelf → KnowNodes unused node (put shelf b y)
let_go unused node shelf b y free know q used = elim (know q used) [
  | inl n ↦ inl n
  | inr h ↦ inr (
    h.0,
    by_test q b (λ t. (if t then y else shelf q) ≡ Held h.0 Tree)
        (λ e. absurd (bool_both (unused b) free (subst (λ x. unused x ≡ false) e used))) (λ _. h.1),
  )
]

-- the buckets of a chain are held for that alone
at_ready_node : (ready : ℕ) (o : Option ℕ) (room : Bool) (x : Shelf) (i : ℕ)
    → ((c : ℕ) → o ≡ Some c → x ≡ Held i Tree → ⊥) → x ≡ Held i Tree
    → at_ready ready o room x ≡ Held i Tree
at_ready_node ready None room x i off is = is
at_ready_node ready (Some c) room x i off is = absurd (off c refl is)

given_up_same : (ready : ℕ) (o : Option ℕ) → meta.given_up ready o ≡ given_up ready o
given_up_same ready None = refl
given_up_same ready (Some c) = refl

held_both : (x : Shelf) (i j : ℕ) → x ≡ Held i Priorities → x ≡ Held j Tree → ⊥
held_both x i j a b = cc

loose_held : (x : Shelf) (j : ℕ) → x ≡ Loose → x ≡ Held j Tree → ⊥
loose_held x j a b = cc

module _ (w : Opening) (st : State) (seat : ℕ) (link : AreLinked (stored w.before st.store) st.flow)
    (same : st.parts.records ≡ st.store.places.records) where
  known : (q : ℕ) → st.parts.records.unused q ≡ true → st.store.places.records.unused q ≡ true
  known q e = subst (λ (r : Records). r.unused q ≡ true) same e

  pub take_link : (p : Purpose) (b : ℕ) → IsFor p (st.flow.books.shelf b)
      → AreLinked (stored w.before (meta.after w.layout st.store (meta.Take seat b)))
      (flow_step.after w.flow st.flow seat (flow.Shelve (Take seat p b)))
  take_link p b can = record {
    device = link.device;
    stage = link.stage;
    index = link.index;
    chain = link.chain;
    nodes = λ q e. put_nodes st.flow.books.node st.flow.books.shelf b (taken_to seat p)
        (λ j. elim can [
          | inl l ↦ not_listed (st.flow.books.shelf b) j Plain l
          | inr (inl l) ↦ not_listed (st.flow.books.shelf b) j p l
          | inr (inr l) ↦ not_listed (st.flow.books.shelf b) j Moving l.1
        ]) q (link.nodes q e);
  }

  pub let_go_link : (b : ℕ) (room : Bool) → st.parts.records.unused b ≡ true
      → AreLinked (stored w.before (meta.after w.layout st.store (meta.LetGo seat b)))
      (flow_step.after w.flow st.flow seat (flow.Shelve (LetGo seat b room)))
  let_go_link b room free = record {
    device = link.device;
    stage = link.stage;
    index = link.index;
    chain = link.chain;
    nodes = let_go st.store.places.records.unused st.flow.books.node st.flow.books.shelf b
        (put_back room (st.flow.books.shelf b)) (known b free) link.nodes;
  }

  pub ready_link : (room : ℕ → Bool) (spare : List ℕ) → IsInOrder w.flow.books st.flow.books
      → AreLinked (stored w.before (meta.after w.layout st.store (meta.ChainReady seat spare)))
      (flow_step.after w.flow st.flow seat (flow.Shelve (ReadyChain room)))
  ready_link room spare order = record {
    device = link.device;
    stage = link.stage;
    index = link.index;
    chain = record {
      buckets = λ b. ap (λ n. meta.given_up n (st.store.chain_of b)) link.chain.ready_is
          ∙ ap (λ o. meta.given_up st.flow.books.chains.ready o) (link.chain.buckets b)
          ∙ given_up_same st.flow.books.chains.ready (st.flow.books.chains.of b);
      ready_is = ap suc link.chain.ready_is;
      durable_is = link.chain.durable_is;
      sealed_is = link.chain.sealed_is;
      durable_gens = link.chain.durable_gens;
      sealed_gens = link.chain.sealed_gens;
    };
    nodes = λ q e. elim (link.nodes q e) [
      | inl n ↦ inl n
      | inr h ↦ inr (
        h.0,
        at_ready_node st.flow.books.chains.ready (st.flow.books.chains.of q)
            (room q) (st.flow.books.shelf q) h.0 (λ c is tree. off q c h.0 is tree) h.1,
      )
    ];
  }
    where
      off : (q c j : ℕ) → st.flow.books.chains.of q ≡ Some c
          → st.flow.books.shelf q ≡ Held j Tree → ⊥
      off q c j is tree =
          let l = order.chained.links q c is in
          elim (by_test c st.flow.books.chains.ready
          (λ t. (c ≡ st.flow.books.chains.ready) ⊎ (st.flow.books.chains.ready < c))
          (λ e. inl e) (λ ne. inr (let lo = l.low in omega (arith, ne, lo)))) [
            | inl e ↦ loose_held (st.flow.books.shelf q) j (l.loose e) tree
            | inr lt ↦ (let h = l.held lt in
                held_both (st.flow.books.shelf q) h.0 j h.1 tree)
          ]

  pub change_link : (unused : ℕ → Bool) → AreHeldFor st seat unused
      → AreLinked (stored w.before (meta.after w.layout st.store (meta.Plain (event.GiveUp unused))))
      st.flow
  change_link unused held = record {
    device = link.device;
    stage = link.stage;
    index = link.index;
    chain = link.chain;
    nodes = λ q e. elim (held q e) [
      | inl old ↦ link.nodes q (subst (λ (r : Records). r.unused q ≡ false) same old)
      | inr h ↦ inr (seat, h)
    ];
  }

  -- what is in use only shrinks
  pub fewer_link : (unused : ℕ → Bool) → IsFewer st.parts.records.unused unused
      → AreLinked (stored w.before (meta.after w.layout st.store (meta.Plain (event.GiveUp unused))))
      st.flow
  fewer_link unused fewer = record {
    device = link.device;
    stage = link.stage;
    index = link.index;
    chain = link.chain;
    nodes = λ q e. link.nodes q (bool_false (st.store.places.records.unused q)
        (λ t. bool_both (unused q) (fewer q (subst (λ (r : Records). r.unused q ≡ true)
        (sym same) t)) e));
  }

-- the buckets of new nodes are let go
released_same : (w : Opening) (m : meta.State) (xs : List Step)
    → stored w.before (meta.fold w.layout m (acts_of (released xs))) ≡ stored w.before m
released_same w m [] = refl
released_same w m (MakeNode i b ∷ xs) = released_same w (meta.after w.layout m (meta.LetGo i b)) xs
released_same w m (Put leaf keys ∷ xs) = released_same w m xs
released_same w m (Regroup leaf changed counts last ∷ xs) = released_same w m xs
released_same w m (Take i p b ∷ xs) = released_same w m xs
released_same w m (Shut b ∷ xs) = released_same w m xs
released_same w m (LetGo i b room ∷ xs) = released_same w m xs
released_same w m (Pin i place count ∷ xs) = released_same w m xs
released_same w m (Unpin place count ∷ xs) = released_same w m xs
released_same w m (Keep c place count ∷ xs) = released_same w m xs
released_same w m (BeginNode i b ∷ xs) = released_same w m xs
released_same w m (DropNode b ∷ xs) = released_same w m xs
released_same w m (Raise b ∷ xs) = released_same w m xs
released_same w m (MakeReady b room ∷ xs) = released_same w m xs
released_same w m (ReadyChain room ∷ xs) = released_same w m xs
released_same w m (Seal ∷ xs) = released_same w m xs
released_same w m (SealChain i versions chain ∷ xs) = released_same w m xs
released_same w m (Sealed ∷ xs) = released_same w m xs
released_same w m (Begin ∷ xs) = released_same w m xs
released_same w m (Walk leaf ∷ xs) = released_same w m xs
released_same w m (End ∷ xs) = released_same w m xs
released_same w m (Drop ∷ xs) = released_same w m xs

pub released_link : (w : Opening) (m : meta.State) (xs : List Step) (f : flow.State)
    → AreLinked (stored w.before m) f
    → AreLinked (stored w.before (meta.fold w.layout m (acts_of (released xs)))) f
released_link w m xs f = subst (λ (r : Stored). AreLinked r f) (sym (released_same w m xs))

-- the books' steps at an install
install_step : (w : flow.Opening) (r : Stored) (f : flow.State) (seat : ℕ) (x : Step)
    → IsInstalled r.unused x → AreLinked r f
    → AreLinked r (flow_step.after w f seat (flow.Shelve x))
install_step w r f seat (Regroup leaf changed counts last) is link = record {
  device = link.device;
  stage = link.stage;
  index = record {
    durable_keys = link.index.durable_keys;
    sealed_keys = link.index.sealed_keys;
    all_keys = link.index.all_keys;
  };
  chain = link.chain;
  nodes = link.nodes;
}
install_step w r f seat (MakeNode i b) is link = record {
  device = link.device;
  stage = link.stage;
  index = link.index;
  chain = link.chain;
  nodes = λ q e. elim (link.nodes q e) [
    | inl n ↦ inl (by_test q b (λ t. (if t then true else f.books.node q) ≡ true) (λ _. refl)
        (λ _. n))
    | inr h ↦ by_test q b (λ t. ((if t then true else f.books.node q) ≡ true)
        ⊎ ((j : ℕ) × ((if t then Loose else f.books.shelf q) ≡ Held j Tree)))
        (λ _. inl refl) (λ _. inr h)
  ];
}
install_step w r f seat (DropNode b) is link = record {
  device = link.device;
  stage = link.stage;
  index = link.index;
  chain = link.chain;
  nodes = λ q e. elim (link.nodes q e) [
    | inl n ↦ inl (by_test q b (λ t. (if t then false else f.books.node q) ≡ true)
        (λ same. absurd (bool_both (r.unused b) is (subst (λ x. r.unused x ≡ false) same e)))
        (λ _. n))
    | inr h ↦ inr h
  ];
}
install_step w r f seat x is link = absurd is

pub install_link : (w : flow.Opening) (r : Stored) (f : flow.State) (seat : ℕ) (xs : List Step)
    → AreInstalled r.unused xs → AreLinked r f
    → AreLinked r (flow_step.course w f (by seat (shelved xs)))
install_link w r f seat [] are link = link
install_link w r f seat (x ∷ xs) are link =
    install_link w r (flow_step.after w f seat (flow.Shelve x)) seat xs are.1
    (install_step w r f seat x are.0 link)
