-- Each sector's keys are in the leaf of the tree that has it.
use Rattle.std.proofs.Common.{◌≡◌, ◌⊎◌, inl, inr, ℕ, ◌<◌, ◌≤◌, Bool, true, false, List, [], ◌∷◌, ◌++◌, refl, sym, ap, ◌∙◌, subst, arith, if◌then◌else◌, ◌&&◌, ◌==◌}
use Rattle.std.specs.Prelude.{nat_le, nat_lt}
use Rattle.std.proofs.lemmas.Bool.{cases_lt, lt-ltb, le-ltb}
use Rattle.bc_model.specs.Sector.{Value}
use Rattle.bc_key.specs.declared.key.Key.{Key}
use Rattle.bc_books.specs.Books.{Setup, Books, Step, Put, Regroup, MakeNode, DropNode}
use Rattle.bc_books.specs.After.{fold}
use Rattle.bc_books.specs.After as book_step
use Rattle.bc_data.specs.Seats.{Candidate}
use Rattle.bc_data.specs.Data as flow
use Rattle.bc_data.specs.Enabled.{steps_of}
use Rattle.bc_data.specs.After as flow_step
use Rattle.bc_meta.specs.Facts.{In}
use Rattle.bc_leaves.specs.Parts.{Role, NoNode, Draft, Free, Leaving, Coming, Leaf, InRange, IsLive}
use Rattle.bc_leaves.specs.Parts as parts
use Rattle.bc_leaves.specs.After as parts_step
use Rattle.bc_leaves.specs.After.{has}
use Rattle.bc_leaves.specs.Enabled as parts_act
use Rattle.bc_leaves.specs.Laws.{parts_of}
use Rattle.bc_leaves.proofs.Chains.{in_has}
use Rattle.bc_meta.proofs.Lists.{by_le}
use Rattle.bc_whole.specs.State.{Opening, Write, OfData, OfEntry, OfSet, OfParent, OfLeaf, OfInner, OfPriorities, Outside, SameRoot, NewRoot, SameChain, NewChain}
use Rattle.bc_whole.specs.Together.{is_quiet, is_quiet_step, inserted, shelved, Brings}
use Rattle.bc_whole.specs.Run.{by}
use Rattle.bc_known.specs.Acts.{State, Act, Alone, Keyed, WriteCache, FailCache, Seal, BeginChange, Install, ForgetDrafts, after}
use Rattle.bc_known.specs.Run.{IsEnabled}
use Rattle.bc_events.specs.Changes.{leaf_among, made, dropped}
use Rattle.bc_shares.specs.Shares.{Shape, books_of}
use Rattle.bc_shares.proofs.Acts.{IsKept}
use Rattle.bc_shares.proofs.Parts.{keyed_parts}
use Rattle.bc_shares.proofs.Rows.{installs}
use Rattle.bc_machine.specs.Containers.{IsInTree}

-- ---- acts that install nothing

-- a leaf that the tree has, it had, of the same sectors
pub record IsOld (a b : Leaf) : Type 0 where
  pub tree : IsInTree a.role
  pub first : b.first ≡ a.first
  pub end : b.end ≡ a.end

abbrev pub AreOld : parts.State → parts.State → Type 0
AreOld a b = (k : ℕ) → IsInTree (b.leaves k).role → IsOld (a.leaves k) (b.leaves k)

-- and the sectors' keys are where they were
pub record Shrinks (a b : State) : Type 0 where
  pub slots : (s : ℕ) → (books_of b).index.leaf s ≡ (books_of a).index.leaf s
  pub leaves : AreOld a.whole.parts b.whole.parts

same_leaf : (a b : Leaf) → b.role ≡ a.role → b.first ≡ a.first → b.end ≡ a.end → IsInTree b.role
    → IsOld a b
same_leaf a b role first end tree =
    record { tree = subst IsInTree role tree; first = first; end = end }

as_before : (a : parts.State) → AreOld a a
as_before a k tree = record { tree = tree; first = refl; end = refl }

forgotten_tree : (r : Role) → IsInTree (parts_step.forgotten r) → IsInTree r
forgotten_tree NoNode h = h
forgotten_tree Draft h = h
forgotten_tree Free h = h
forgotten_tree Leaving h = h
forgotten_tree Coming h = h

-- a leaf that a change takes away was free
changed_tree : (st : parts.State) (low high : ℕ) (gone come old new : List ℕ) (un : ℕ → Bool)
    → parts_act.CanBegin st low high gone come old new un → (k : ℕ)
    → IsInTree (parts_step.changed gone come k (st.leaves k).role) → IsInTree (st.leaves k).role
changed_tree st low high gone come old new un can k = go (has gone k) (has come k) refl
  where
    go : (g c : Bool) → has gone k ≡ g
        → IsInTree (if g then Leaving else (if c then Coming else (st.leaves k).role))
        → IsInTree (st.leaves k).role
    go true c is h = subst IsInTree (sym (can.gone_leaf k (in_has gone k is)).0) tt
    go false true is h = absurd h
    go false false is h = h

-- a leaf that is written anew is a draft
new_leaf : (st : parts.State) (j : ℕ) (leaf : Leaf) → leaf.role ≡ Draft → (k : ℕ)
    → IsInTree (if k == j then leaf else st.leaves k).role
    → IsOld (st.leaves k) (if k == j then leaf else st.leaves k)
new_leaf st j leaf draft k = go (k == j)
  where
    go : (b : Bool) → IsInTree (if b then leaf else st.leaves k).role
        → IsOld (st.leaves k) (if b then leaf else st.leaves k)
    go true h = absurd (subst IsInTree draft h)
    go false h = record { tree = h; first = refl; end = refl }

leaves_written : (w : Opening) (st : State) (i : ℕ) (y : Write) (values : List Value)
    → IsEnabled w st i (WriteCache y values)
    → AreOld st.whole.parts (after w st i (WriteCache y values)).whole.parts
leaves_written w st i (OfLeaf j leaf set) values on =
    λ k. new_leaf st.whole.parts j leaf on.asks.1 k
leaves_written w st i (OfData q place) values on = as_before st.whole.parts
leaves_written w st i OfEntry values on = as_before st.whole.parts
leaves_written w st i (OfSet slot set) values on =
    λ k tree. record { tree = tree; first = refl; end = refl }
leaves_written w st i (OfParent slot set) values on = as_before st.whole.parts
leaves_written w st i (OfInner slot inner set) values on = as_before st.whole.parts
leaves_written w st i (OfPriorities q part set) values on = as_before st.whole.parts
leaves_written w st i (Outside place) values on = as_before st.whole.parts

leaves_failed : (w : Opening) (st : State) (i : ℕ) (y : Write) (values : List Value)
    → AreOld st.whole.parts (after w st i (FailCache y values)).whole.parts
leaves_failed w st i (OfLeaf j leaf set) values = as_before st.whole.parts
leaves_failed w st i (OfData q place) values = as_before st.whole.parts
leaves_failed w st i OfEntry values = as_before st.whole.parts
leaves_failed w st i (OfSet slot set) values = as_before st.whole.parts
leaves_failed w st i (OfParent slot set) values = as_before st.whole.parts
leaves_failed w st i (OfInner slot inner set) values = as_before st.whole.parts
leaves_failed w st i (OfPriorities q part set) values = as_before st.whole.parts
leaves_failed w st i (Outside place) values = as_before st.whole.parts

leaves_one : (w : Opening) (st : State) (i : ℕ) (act : Act) → installs act ≡ false
    → IsEnabled w st i act → AreOld st.whole.parts (after w st i act).whole.parts
leaves_one w st i (Keyed act slot keys) off on = λ k.
    let same = (keyed_parts st.whole.parts slot keys).leaves k in
    same_leaf (st.whole.parts.leaves k) ((parts_of st.whole.parts (inserted slot keys)).leaves k)
    (ap (λ (x : Shape). x.role) same) (ap (λ (x : Shape). x.first) same)
    (ap (λ (x : Shape). x.end) same)
leaves_one w st i (WriteCache y values) off on = leaves_written w st i y values on
leaves_one w st i (FailCache y values) off on = leaves_failed w st i y values
leaves_one w st i (Seal last_seq rest SameRoot chain) off on = as_before st.whole.parts
leaves_one w st i (Seal last_seq rest (NewRoot r) chain) off on = as_before st.whole.parts
leaves_one w st i (BeginChange low high gone come old new un) off on = λ k tree. record {
  tree = changed_tree st.whole.parts low high gone come old new un on.asks.0 k tree;
  first = refl;
  end = refl;
}
leaves_one w st i (Install un steps) off on = absurd (cc)
leaves_one w st i ForgetDrafts off on = λ k tree. record {
  tree = forgotten_tree (st.whole.parts.leaves k).role tree;
  first = refl;
  end = refl;
}
leaves_one w st i act off on = as_before st.whole.parts

slots_quiet : (w : Setup) (k : Books) (x : Step) → is_quiet_step x ≡ true
    → (book_step.after w k x).index.leaf ≡ k.index.leaf
slots_quiet w k (Put leaf keys) q = absurd (cc)
slots_quiet w k (Regroup leaf changed counts last) q = absurd (cc)
slots_quiet w k x q = refl

slots_alone : (w : Setup) (k : Books) (c : ℕ → Candidate) (i : ℕ) (act : flow.Act)
    → is_quiet act ≡ true → (fold w k (steps_of c i act)).index.leaf ≡ k.index.leaf
slots_alone w k c i (flow.InsertWrite line leaf keys first values) q = absurd (cc)
slots_alone w k c i (flow.Insert form leaf keys) q = absurd (cc)
slots_alone w k c i (flow.Settle number leaf keys) q = absurd (cc)
slots_alone w k c i (flow.Shelve x) q = slots_quiet w k x q
slots_alone w k c i act q = refl

slots_keyed : (w : Setup) (k : Books) (c : ℕ → Candidate) (i : ℕ) (act : flow.Act) (slot : ℕ)
    (keys : List Key) → Brings act slot keys
    → (fold w k (steps_of c i act)).index.leaf ≡ k.index.leaf
slots_keyed w k c i (flow.InsertWrite line leaf ks first values) slot keys b = refl
slots_keyed w k c i (flow.Insert form leaf ks) slot keys b = refl
slots_keyed w k c i (flow.Settle number leaf ks) slot keys b = refl
slots_keyed w k c i act slot keys b = absurd b

slots_one : (w : Opening) (st : State) (i : ℕ) (act : Act) → installs act ≡ false
    → IsEnabled w st i act → (books_of (after w st i act)).index.leaf ≡ (books_of st).index.leaf
slots_one w st i (Alone act) off on =
    slots_alone w.flow.books (books_of st) st.whole.flow.candidates i act on.asks
slots_one w st i (Keyed act slot keys) off on =
    slots_keyed w.flow.books (books_of st) st.whole.flow.candidates i act slot keys on.asks.0
slots_one w st i (Seal last_seq rest root SameChain) off on = refl
slots_one w st i (Seal last_seq rest root (NewChain buckets gens)) off on = refl
slots_one w st i (Install un steps) off on = absurd (cc)
slots_one w st i act off on = refl

shrinks_one : (w : Opening) (st : State) (i : ℕ) (act : Act) → installs act ≡ false
    → IsEnabled w st i act → Shrinks st (after w st i act)
shrinks_one w st i act off on = record {
  slots = λ s. ap (λ (f : ℕ → ℕ). f s) (slots_one w st i act off on);
  leaves = leaves_one w st i act off on;
}

pub shrinks : IsKept (λ act. installs act ≡ false) Shrinks
shrinks = record {
  same = λ a. record { slots = λ s. refl; leaves = as_before a.whole.parts };
  both = λ a b c x y. record {
    slots = λ s. y.slots s ∙ x.slots s;
    leaves = λ k tree. let later = y.leaves k tree in let first = x.leaves k later.tree in record {
      tree = first.tree;
      first = later.first ∙ first.first;
      end = later.end ∙ first.end;
    };
  };
  one = shrinks_one;
}

-- ---- an install

-- Nodes are made and dropped where they lie.
pub made_slots : (w : Opening) (st : flow.State) (i : ℕ) (come gone : List ℕ)
    → (flow_step.course w.flow st (by i (shelved (made i come ++ dropped gone)))).books.index.leaf
    ≡ st.books.index.leaf
made_slots w st i (b ∷ bs) gone =
    made_slots w (flow_step.after w.flow st i (flow.Shelve (MakeNode i b))) i bs gone
made_slots w st i [] [] = refl
made_slots w st i [] (b ∷ bs) =
    made_slots w (flow_step.after w.flow st i (flow.Shelve (DropNode b))) i [] bs

by_lt : (a b : ℕ) (P : Bool → Type 0) → (a < b → P true) → (b ≤ a → P false) → P (nat_lt a b)
by_lt a b P below above = go (cases_lt a b)
  where
    go : (a < b) ⊎ (b ≤ a) → P (nat_lt a b)
    go (inl lt) = subst P (sym (lt-ltb a b lt)) (below lt)
    go (inr ge) = subst P (sym (le-ltb a b ge)) (above ge)

covered : (x : Leaf) (s : ℕ) → (nat_le x.first s && nat_lt s x.end) ≡ true → InRange x s
covered x s = by_le x.first s (λ b. (b && nat_lt s x.end) ≡ true → InRange x s)
    (λ low. by_lt s x.end (λ b. b ≡ true → InRange x s) (λ high is. (low, high)) (λ far is. absurd (cc)))
    (λ far is. absurd (cc))

not_covered : (x : Leaf) (s : ℕ) → InRange x s → (nat_le x.first s && nat_lt s x.end) ≡ false → ⊥
not_covered x s h = by_le x.first s (λ b. (b && nat_lt s x.end) ≡ false → ⊥)
    (λ low. by_lt s x.end (λ b. b ≡ false → ⊥) (λ high is. cc)
    (λ far is. let inside = h.1 in omega arith))
    (λ far is. let inside = h.0 in omega arith)

-- Of these leaves none has the sector but k: so the sector is where it was, or it is in k.
module _ (leaves : ℕ → Leaf) (k s : ℕ) where
  abbrev pub AllButOne : List ℕ → Type 0
  AllButOne xs = (i : ℕ) → In i xs → InRange (leaves i) s → i ≡ k

  pub stays_in : (xs : List ℕ) (old : ℕ) → AllButOne xs → old ≡ k → leaf_among leaves xs old s ≡ k
  stays_in [] old one is = is
  stays_in (i ∷ xs) old one is = go (nat_le (leaves i).first s && nat_lt s (leaves i).end) refl
      (stays_in xs old (λ j m. one j (inr m)) is)
    where
      go : (b : Bool) → (nat_le (leaves i).first s && nat_lt s (leaves i).end) ≡ b
          → leaf_among leaves xs old s ≡ k → (if b then i else leaf_among leaves xs old s) ≡ k
      go true at rest = one i (inl refl) (covered (leaves i) s at)
      go false at rest = rest

  pub comes_in : (xs : List ℕ) (old : ℕ) → AllButOne xs → In k xs → InRange (leaves k) s
      → leaf_among leaves xs old s ≡ k
  comes_in [] old one m within = absurd m
  comes_in (i ∷ xs) old one m within = go (nat_le (leaves i).first s && nat_lt s (leaves i).end) refl m
      (λ later. comes_in xs old (λ j m. one j (inr m)) later within)
    where
      go : (b : Bool) → (nat_le (leaves i).first s && nat_lt s (leaves i).end) ≡ b → In k (i ∷ xs)
          → (In k xs → leaf_among leaves xs old s ≡ k) → (if b then i else leaf_among leaves xs old s) ≡ k
      go true at m rest = one i (inl refl) (covered (leaves i) s at)
      go false at (inl is) rest = absurd (not_covered (leaves i) s (subst (λ n. InRange (leaves n) s) is within) at)
      go false at (inr later) rest = rest later
