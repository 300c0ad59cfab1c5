-- The bucket of each node of the tree is known as a node's.
use Rattle.std.proofs.Common.{◌≡◌, ◌≢◌, ◌⊎◌, inl, inr, ℕ, Bool, true, false, List, [], ◌∷◌, ◌++◌, refl, sym, ap, ◌∙◌, subst, if◌then◌else◌, ◌==◌}
use Rattle.bc_model.specs.Sector.{Value}
use Rattle.bc_books.specs.Books.{Setup, Books, Step, MakeNode, DropNode}
use Rattle.bc_books.specs.After.{fold}
use Rattle.bc_books.specs.After as book_step
use Rattle.bc_data.specs.Seats.{Candidate}
use Rattle.bc_data.specs.Data as flow
use Rattle.bc_data.specs.Enabled.{steps_of}
use Rattle.bc_data.specs.After as flow_step
use Rattle.bc_meta.proofs.Lists.{by_test}
use Rattle.bc_leaves.specs.Parts.{Role, NoNode, Draft, Free, Leaving, Coming, Leaf, InnerNode}
use Rattle.bc_leaves.specs.Parts as parts
use Rattle.bc_leaves.specs.Events as parts_event
use Rattle.bc_leaves.specs.After as parts_step
use Rattle.bc_leaves.specs.After.{has}
use Rattle.bc_leaves.proofs.Chains.{in_has}
use Rattle.bc_meta.specs.Facts.{In}
use Rattle.bc_whole.specs.State.{Opening, Write, OfData, OfEntry, OfSet, OfParent, OfLeaf, OfInner, OfPriorities, Outside, SameRoot, NewRoot, SameChain, NewChain}
use Rattle.bc_whole.specs.Together.{is_quiet, is_quiet_step, shelved, Brings}
use Rattle.bc_whole.specs.Run.{by}
use Rattle.bc_known.specs.Acts.{State, Act, Alone, Keyed, WriteCache, FailCache, Seal, BeginChange, Install, ForgetDrafts, after}
use Rattle.bc_known.specs.Asked.{AsksSteps, IsAfter, IsGivenUp}
use Rattle.bc_known.specs.Run.{IsEnabled}
use Rattle.bc_events.specs.Changes.{buckets_gone, regroup, made, dropped, with}
use Rattle.bc_events.specs.declared.event.Change.{Change}
use Rattle.bc_shares.specs.Shares.{Shape, books_of}
use Rattle.bc_shares.proofs.Acts.{IsKept, released_parts}
use Rattle.bc_shares.proofs.Parts.{keyed_parts}
use Rattle.bc_shares.proofs.Rows.{installs}
use Rattle.bc_looks.specs.bc_machine.Containers.{IsInTree}
use Rattle.bc_looks.specs.bc_machine.World.{MakesNodes}
use Rattle.bc_nodes_known.specs.Nodes.{AreNodes}

-- ---- acts that install nothing

-- a node that the tree has, it had, in the same bucket
pub record WereInTree (a b : parts.State) : Type 0 where
  pub leaves : (k : ℕ) → IsInTree (b.leaves k).role → IsInTree (a.leaves k).role
      × ((b.leaves k).bucket ≡ (a.leaves k).bucket)
  pub inner_nodes : (x : ℕ) → IsInTree (b.inner_nodes x).role → IsInTree (a.inner_nodes x).role
      × ((b.inner_nodes x).bucket ≡ (a.inner_nodes x).bucket)

as_before : (a : parts.State) → WereInTree a a
as_before a = record {
  leaves = λ k tree. (tree, refl);
  inner_nodes = λ x tree. (tree, refl);
}

-- and the books know of the same nodes
pub record Shrinks (a b : State) : Type 0 where
  pub nodes : (books_of b).node ≡ (books_of a).node
  pub tree : WereInTree a.whole.parts b.whole.parts

forgotten_tree : (r : Role) → IsInTree (parts_step.forgotten r) → IsInTree r
forgotten_tree NoNode h = h
forgotten_tree Draft h = h
forgotten_tree Free h = h
forgotten_tree Leaving h = h
forgotten_tree Coming h = h

changed_tree : (gone come : List ℕ) (k : ℕ) (r : Role) → (In k gone → r ≡ Free)
    → IsInTree (parts_step.changed gone come k r) → IsInTree r
changed_tree gone come k r free = go (has gone k) (has come k) refl
  where
    go : (g c : Bool) → has gone k ≡ g
        → IsInTree (if g then Leaving else (if c then Coming else r)) → IsInTree r
    go true c is h = subst IsInTree (sym (free (in_has gone k is))) tt
    go false true is h = absurd h
    go false false is h = h

new_leaf : (st : parts.State) (j : ℕ) (leaf : Leaf) → leaf.role ≡ Draft → (k : ℕ)
    → IsInTree (if k == j then leaf else st.leaves k).role → IsInTree (st.leaves k).role
    × ((if k == j then leaf else st.leaves k).bucket ≡ (st.leaves k).bucket)
new_leaf st j leaf draft k = go (k == j)
  where
    go : (b : Bool) → IsInTree (if b then leaf else st.leaves k).role
        → IsInTree (st.leaves k).role
        × ((if b then leaf else st.leaves k).bucket ≡ (st.leaves k).bucket)
    go true h = absurd (subst IsInTree draft h)
    go false h = (h, refl)

new_inner : (st : parts.State) (j : ℕ) (inner : InnerNode) → inner.role ≡ Draft → (k : ℕ)
    → IsInTree (if k == j then inner else st.inner_nodes k).role
    → IsInTree (st.inner_nodes k).role
    × ((if k == j then inner else st.inner_nodes k).bucket ≡ (st.inner_nodes k).bucket)
new_inner st j inner draft k = go (k == j)
  where
    go : (b : Bool) → IsInTree (if b then inner else st.inner_nodes k).role
        → IsInTree (st.inner_nodes k).role
        × ((if b then inner else st.inner_nodes k).bucket ≡ (st.inner_nodes k).bucket)
    go true h = absurd (subst IsInTree draft h)
    go false h = (h, refl)

tree_written : (w : Opening) (st : State) (i : ℕ) (y : Write) (values : List Value)
    → IsEnabled w st i (WriteCache y values)
    → WereInTree st.whole.parts (after w st i (WriteCache y values)).whole.parts
tree_written w st i (OfLeaf j leaf set) values on = record {
  leaves = λ k. new_leaf st.whole.parts j leaf on.asks.1 k;
  inner_nodes = λ x tree. (tree, refl);
}
tree_written w st i (OfInner j inner set) values on = record {
  leaves = λ k tree. (tree, refl);
  inner_nodes = λ x. new_inner st.whole.parts j inner on.asks.1 x;
}
tree_written w st i (OfSet slot set) values on = record {
  leaves = λ k tree. (tree, refl);
  inner_nodes = λ x tree. (tree, refl);
}
tree_written w st i (OfData q place) values on = record {
  leaves = λ k tree. (tree, refl);
  inner_nodes = λ x tree. (tree, refl);
}
tree_written w st i OfEntry values on = record {
  leaves = λ k tree. (tree, refl);
  inner_nodes = λ x tree. (tree, refl);
}
tree_written w st i (OfParent slot set) values on = record {
  leaves = λ k tree. (tree, refl);
  inner_nodes = λ x tree. (tree, refl);
}
tree_written w st i (OfPriorities q part set) values on = record {
  leaves = λ k tree. (tree, refl);
  inner_nodes = λ x tree. (tree, refl);
}
tree_written w st i (Outside place) values on = record {
  leaves = λ k tree. (tree, refl);
  inner_nodes = λ x tree. (tree, refl);
}

tree_failed : (w : Opening) (st : State) (i : ℕ) (y : Write) (values : List Value)
    → WereInTree st.whole.parts (after w st i (FailCache y values)).whole.parts
tree_failed w st i (OfLeaf j leaf set) values = record {
  leaves = λ k tree. (tree, refl);
  inner_nodes = λ x tree. (tree, refl);
}
tree_failed w st i (OfInner slot inner set) values = record {
  leaves = λ k tree. (tree, refl);
  inner_nodes = λ x tree. (tree, refl);
}
tree_failed w st i (OfSet slot set) values = record {
  leaves = λ k tree. (tree, refl);
  inner_nodes = λ x tree. (tree, refl);
}
tree_failed w st i (OfData q place) values = record {
  leaves = λ k tree. (tree, refl);
  inner_nodes = λ x tree. (tree, refl);
}
tree_failed w st i OfEntry values = record {
  leaves = λ k tree. (tree, refl);
  inner_nodes = λ x tree. (tree, refl);
}
tree_failed w st i (OfParent slot set) values = record {
  leaves = λ k tree. (tree, refl);
  inner_nodes = λ x tree. (tree, refl);
}
tree_failed w st i (OfPriorities q part set) values = record {
  leaves = λ k tree. (tree, refl);
  inner_nodes = λ x tree. (tree, refl);
}
tree_failed w st i (Outside place) values = record {
  leaves = λ k tree. (tree, refl);
  inner_nodes = λ x tree. (tree, refl);
}

tree_one : (w : Opening) (st : State) (i : ℕ) (act : Act) → installs act ≡ false
    → IsEnabled w st i act → WereInTree st.whole.parts (after w st i act).whole.parts
tree_one w st i (Keyed act slot keys) off on = let one = keyed_parts st.whole.parts slot keys in
    record {
      leaves = λ k tree. (
        subst IsInTree (ap (λ (x : Shape). x.role) (one.leaves k)) tree,
        ap (λ (x : Shape). x.bucket) (one.leaves k),
      );
      inner_nodes = λ x tree. (
        subst (λ (f : ℕ → InnerNode). IsInTree (f x).role) one.slots tree,
        ap (λ (f : ℕ → InnerNode). (f x).bucket) one.slots,
      );
    }
tree_one w st i (WriteCache y values) off on = tree_written w st i y values on
tree_one w st i (FailCache y values) off on = tree_failed w st i y values
tree_one w st i (Seal last_seq rest SameRoot chain) off on = record {
  leaves = λ k tree. (tree, refl);
  inner_nodes = λ x tree. (tree, refl);
}
tree_one w st i (Seal last_seq rest (NewRoot r) chain) off on = record {
  leaves = λ k tree. (tree, refl);
  inner_nodes = λ x tree. (tree, refl);
}
tree_one w st i (BeginChange low high gone come old new un) off on = record {
  leaves = λ k tree. (
    changed_tree gone come k (st.whole.parts.leaves k).role (λ m. (on.asks.0.gone_leaf k m).0) tree,
    refl,
  );
  inner_nodes = λ x tree. (
    changed_tree old new x (st.whole.parts.inner_nodes x).role (λ m. on.asks.0.old_inner x m) tree,
    refl,
  );
}
tree_one w st i (Install un steps) off on = absurd (cc)
tree_one w st i ForgetDrafts off on = record {
  leaves = λ k tree. (forgotten_tree (st.whole.parts.leaves k).role tree, refl);
  inner_nodes = λ x tree. (forgotten_tree (st.whole.parts.inner_nodes x).role tree, refl);
}
tree_one w st i act off on = record {
  leaves = λ k tree. (tree, refl);
  inner_nodes = λ x tree. (tree, refl);
}

nodes_quiet : (w : Setup) (k : Books) (x : Step) → is_quiet_step x ≡ true
    → (book_step.after w k x).node ≡ k.node
nodes_quiet w k (MakeNode i b) q = absurd (cc)
nodes_quiet w k (DropNode b) q = absurd (cc)
nodes_quiet w k x q = refl

nodes_alone : (w : Setup) (k : Books) (c : ℕ → Candidate) (i : ℕ) (act : flow.Act)
    → is_quiet act ≡ true → (fold w k (steps_of c i act)).node ≡ k.node
nodes_alone w k c i (flow.Shelve x) q = nodes_quiet w k x q
nodes_alone w k c i act q = refl

nodes_keyed : (w : Setup) (k : Books) (c : ℕ → Candidate) (i : ℕ) (act : flow.Act) (slot : ℕ)
    (keys : List _) → Brings act slot keys → (fold w k (steps_of c i act)).node ≡ k.node
nodes_keyed w k c i (flow.InsertWrite line leaf ks first values) slot keys b = refl
nodes_keyed w k c i (flow.Insert form leaf ks) slot keys b = refl
nodes_keyed w k c i (flow.Settle number leaf ks) slot keys b = refl
nodes_keyed w k c i act slot keys b = absurd b

nodes_one : (w : Opening) (st : State) (i : ℕ) (act : Act) → installs act ≡ false
    → IsEnabled w st i act → (books_of (after w st i act)).node ≡ (books_of st).node
nodes_one w st i (Alone act) off on =
    nodes_alone w.flow.books (books_of st) st.whole.flow.candidates i act on.asks
nodes_one w st i (Keyed act slot keys) off on =
    nodes_keyed w.flow.books (books_of st) st.whole.flow.candidates i act slot keys on.asks.0
nodes_one w st i (Seal last_seq rest root SameChain) off on = refl
nodes_one w st i (Seal last_seq rest root (NewChain buckets gens)) off on = refl
nodes_one w st i (Install un steps) off on = absurd (cc)
nodes_one w st i act off on = refl

pub shrinks : IsKept (λ act. installs act ≡ false) Shrinks
shrinks = record {
  same = λ a. record { nodes = refl; tree = as_before a.whole.parts };
  both = λ a b c x y. record {
    nodes = y.nodes ∙ x.nodes;
    tree = record {
      leaves = λ k tree. let later = y.tree.leaves k tree in
          let first = x.tree.leaves k later.0 in (first.0, later.1 ∙ first.1);
      inner_nodes = λ k tree. let later = y.tree.inner_nodes k tree in
          let first = x.tree.inner_nodes k later.0 in (first.0, later.1 ∙ first.1);
    };
  };
  one = λ w st i act off on. record {
    nodes = nodes_one w st i act off on;
    tree = tree_one w st i act off on;
  };
}

pub shrunk : (a b : State) → Shrinks a b → AreNodes a → AreNodes b
shrunk a b s h = record {
  leaves = λ k tree. let was = s.tree.leaves k tree in
      ap (λ (f : ℕ → Bool). f (b.whole.parts.leaves k).bucket) s.nodes
      ∙ ap (books_of a).node was.1 ∙ h.leaves k was.0;
  inner_nodes = λ x tree. let was = s.tree.inner_nodes x tree in
      ap (λ (f : ℕ → Bool). f (b.whole.parts.inner_nodes x).bucket) s.nodes
      ∙ ap (books_of a).node was.1 ∙ h.inner_nodes x was.0;
}

-- ---- an install

-- A bucket that isn't given up is a node's then, if it was one's or is made one.
made_nodes : (w : Opening) (f : flow.State) (p : parts.State) (seat i : ℕ) (un : ℕ → Bool)
    (come gone : List ℕ) (q : ℕ) → AsksSteps p seat un (made i come ++ dropped gone)
    → ((b : ℕ) → IsGivenUp p b → q ≢ b) → (f.books.node q ≡ true) ⊎ (has come q ≡ true)
    → (flow_step.course w.flow f (by i (shelved (made i come ++ dropped gone)))).books.node q ≡ true
made_nodes w f p seat i un (b ∷ bs) gone q asks kept is =
    made_nodes w (flow_step.after w.flow f i (flow.Shelve (MakeNode i b))) p seat i un bs gone q
    asks.1 kept (by_test q b
    (λ t. (f.books.node q ≡ true) ⊎ ((if t then true else has bs q) ≡ true)
    → ((if t then true else f.books.node q) ≡ true) ⊎ (has bs q ≡ true))
    (λ _ _. inl refl) (λ _ either. either) is)
made_nodes w f p seat i un [] (b ∷ bs) q asks kept (inl is) =
    made_nodes w (flow_step.after w.flow f i (flow.Shelve (DropNode b))) p seat i un [] bs q asks.1
    kept (inl (by_test q b (λ t. (if t then false else f.books.node q) ≡ true)
    (λ here. absurd (kept b asks.0.1 here)) (λ _. is)))
made_nodes w f p seat i un [] gone q asks kept (inr none) = absurd (cc)
made_nodes w f p seat i un [] [] q asks kept (inl is) = is

-- of a node that is there after it
after_install : (r : Role) → IsInTree (parts_step.installed r)
    → (r ≡ Free) ⊎ (r ≡ Coming)
after_install NoNode h = absurd h
after_install Draft h = absurd h
after_install Free h = inl refl
after_install Leaving h = absurd h
after_install Coming h = inr refl

is_after : (r : Role) → (r ≡ Free) ⊎ (r ≡ Coming) → IsAfter r
is_after r (inl is) = subst IsAfter (sym is) tt
is_after r (inr is) = subst IsAfter (sym is) tt

pub installed_nodes : (w : Opening) (st : State) (i : ℕ) (c : Change) (come gone : List ℕ)
    → let un = with st.whole.parts.records.unused (buckets_gone st.whole.parts c) in
    let steps = regroup st.whole.flow.books.index st.whole.parts.leaves c
    ∷ (made i come ++ dropped gone) in
    AsksSteps st.whole.parts i un steps → MakesNodes st.whole.parts come → AreNodes st
    → AreNodes (after w st i (Install un steps))
installed_nodes w st i c come gone asks makes h = record {
  leaves = λ k tree.
      let role = after_install (p.leaves k).role
      (subst (λ (q : parts.State). IsInTree (q.leaves k).role) same tree) in
      ap (books_of (after w st i (Install un steps))).node
      (ap (λ (q : parts.State). (q.leaves k).bucket) same)
      ∙ now (p.leaves k).bucket (λ b given. given.0 k (is_after (p.leaves k).role role))
      (elim role [
        | inl free ↦ inl (h.leaves k (subst IsInTree (sym free) tt))
        | inr coming ↦ inr (makes.leaves k coming)
      ]);
  inner_nodes = λ x tree.
      let role = after_install (p.inner_nodes x).role
      (subst (λ (q : parts.State). IsInTree (q.inner_nodes x).role) same tree) in
      ap (books_of (after w st i (Install un steps))).node
      (ap (λ (q : parts.State). (q.inner_nodes x).bucket) same)
      ∙ now (p.inner_nodes x).bucket (λ b given. given.1 x (is_after (p.inner_nodes x).role role))
      (elim role [
        | inl free ↦ inl (h.inner_nodes x (subst IsInTree (sym free) tt))
        | inr coming ↦ inr (makes.inner_nodes x coming)
      ]);
}
  where
    p : parts.State
    p = st.whole.parts

    un : ℕ → Bool
    un = with p.records.unused (buckets_gone p c)

    steps : List Step
    steps = regroup st.whole.flow.books.index p.leaves c ∷ (made i come ++ dropped gone)

    same : (after w st i (Install un steps)).whole.parts ≡ parts_step.after p (parts_event.Install un)
    same = released_parts (parts_step.after p (parts_event.Install un)) steps

    now : (q : ℕ) → ((b : ℕ) → IsGivenUp p b → q ≢ b)
        → ((books_of st).node q ≡ true) ⊎ (has come q ≡ true)
        → (books_of (after w st i (Install un steps))).node q ≡ true
    now q kept is = made_nodes w (flow_step.after w.flow st.whole.flow i
        (flow.Shelve (regroup st.whole.flow.books.index p.leaves c))) p i i un come gone q asks.1
        kept is
