-- What a change of the tree brings is none of its nodes before.
use Rattle.std.specs.Prelude.{◌≡◌, ◌≢◌, ◌⊎◌, ℕ, Bool, true, false, ◌==◌, ◌||◌, List, [], ◌∷◌, ◌++◌, Option, Some, None, if◌then◌else◌, take}
use Rattle.std.proofs.Common.{inl, inr, refl, sym, ap, ◌∙◌, subst}
use Rattle.bc_model.specs.Sector.{Value}
use Rattle.bc_key.specs.declared.key.Key.{Key}
use Rattle.bc_books.specs.Books.{Step}
use Rattle.bc_meta.specs.Facts.{In}
use Rattle.bc_meta.specs.Tree.{NodeSet}
use Rattle.bc_meta.proofs.Lists.{by_test}
use Rattle.bc_leaves.specs.Parts.{Role, NoNode, Draft, Free, Leaving, Coming, leaf_owner, inner_owner}
use Rattle.bc_leaves.specs.Parts as parts
use Rattle.bc_leaves.specs.Events as parts_event
use Rattle.bc_leaves.specs.After as parts_step
use Rattle.bc_leaves.specs.After.{has, changed, forgotten, installed}
use Rattle.bc_leaves.specs.Enabled.{CanBegin}
use Rattle.bc_leaves.specs.Laws.{parts_of}
use Rattle.bc_leaves.proofs.Chains.{in_has}
use Rattle.bc_whole.specs.State as whole
use Rattle.bc_whole.specs.Together.{inserted}
use Rattle.bc_known.specs.Acts.{State, Act, Keyed, WriteCache, FailCache, Seal, BeginChange, Install, ForgetDrafts, after}
use Rattle.bc_known.specs.Run.{IsEnabled}
use Rattle.bc_events.specs.Run as core
use Rattle.bc_events.specs.Run.{acts_or_none}
use Rattle.bc_events.specs.Acts.{acts_of}
use Rattle.bc_events.specs.Changes.{with, buckets_gone, regroup, made, dropped}
use Rattle.bc_events.specs.Writes.{map_some, draft_leaf, set_in, beginning}
use Rattle.bc_events.specs.declared.event.Change.{Change}
use Rattle.bc_events.specs.declared.event.NewChain.{NewChain}
use Rattle.bc_events.specs.declared.event.NewNode.{NewNode}
use Rattle.bc_events.specs.declared.event.NewRoot.{NewRoot}
use Rattle.bc_events.specs.declared.event.Written.{Written}
use Rattle.bc_events.specs.declared.event.Written.TheVariants as written
use Rattle.bc_events.specs.declared.event.Failure.{Failure}
use Rattle.bc_events.specs.declared.event.Failure.TheVariants as failure
use Rattle.bc_events.specs.declared.event.Deed.{Deed}
use Rattle.bc_events.specs.declared.event.Deed.TheVariants as deed
use Rattle.bc_events.specs.declared.event.Event.{Event}
use Rattle.bc_shares.specs.Shares.{Shape}
use Rattle.bc_shares.specs.Touched.{NamesChange}
use Rattle.bc_shares.proofs.Acts.{IsKept, kept_run, released_parts}
use Rattle.bc_shares.proofs.Parts.{keyed_parts}
use Rattle.bc_shares.proofs.Rows.{IsNoInstall, installs, no_install_row}
use Rattle.bc_shares.proofs.Law.{in_order}
use Rattle.bc_machine.specs.Containers.{IsInTree}
use Rattle.bc_machine.specs.World.{EndsItsChange}

-- ---- a leaf of the tree is none that comes

-- the leaf isn't among those that a deed brings
abbrev pub write_spares : ℕ → Written → Type 0
write_spares k (written.Parent inner change) = has change.come.items k ≡ false
write_spares k (written.Leaf node) = (k == node.slot) ≡ false
write_spares k what = Unit {0}

abbrev pub root_spares : ℕ → Option NewRoot → Type 0
root_spares k None = Unit {0}
root_spares k (Some x) = has x.change.come.items k ≡ false

abbrev pub fault_spares : ℕ → Failure → Type 0
fault_spares k (failure.CacheWrite at what values) = write_spares k what
fault_spares k x = Unit {0}

abbrev pub spares : ℕ → Deed → Type 0
spares k (deed.CacheWrite at what values) = write_spares k what
spares k (deed.Seal last_seq bucket rest new_root chain) = root_spares k new_root
spares k (deed.Install change come gone) = has change.come.items k ≡ false
spares k (deed.DeviceFault x) = fault_spares k x
spares k d = Unit {0}

not_draft : (r : Role) → IsInTree r → r ≢ Draft
not_draft NoNode there is = there
not_draft Draft there is = there
not_draft Free there is = cc
not_draft Leaving there is = cc
not_draft Coming there is = there

not_coming : (r : Role) → IsInTree r → r ≢ Coming
not_coming NoNode there is = there
not_coming Draft there is = there
not_coming Free there is = cc
not_coming Leaving there is = cc
not_coming Coming there is = there

not_none : (r : Role) → IsInTree r → r ≢ NoNode
not_none NoNode there is = there
not_none Draft there is = there
not_none Free there is = cc
not_none Leaving there is = cc
not_none Coming there is = there

-- where such a leaf has another role, this one isn't among them
not_among : (xs : List ℕ) (k : ℕ) → (has xs k ≡ true → ⊥) → has xs k ≡ false
not_among xs k not = go (has xs k) not
  where
    go : (b : Bool) → (b ≡ true → ⊥) → b ≡ false
    go true never = absurd (never refl)
    go false never = refl

not_slot : (leaves : ℕ → parts.Leaf) (k slot : ℕ) → (leaves k).role ≢ NoNode
    → (leaves slot).role ≡ NoNode → (k == slot) ≡ false
not_slot leaves k slot some none = by_test k slot (λ t. t ≡ false)
    (λ is. absurd (some (ap (λ i. (leaves i).role) is ∙ none))) (λ _. refl)

-- a write whose values spell a set is asked for that
some_set : (P : List Act → Type 0) (F : whole.Write → List Act) (G : NodeSet → whole.Write)
    (o : Option NodeSet) → core.IsSome (map_some F (map_some G o)) P → (set : NodeSet) × P (F (G set))
some_set P F G None on = absurd on
some_set P F G (Some set) on = (set, on)

module _ (w : core.Opening) (st : core.State) (i : ℕ) (k : ℕ)
    (there : IsInTree (st.machine.whole.parts.leaves k).role) where
  abbrev By : Deed → Event
  By d = record { seat = i; deed = d }

  abbrev leaves : ℕ → parts.Leaf
  leaves = st.machine.whole.parts.leaves

  -- a change that may begin brings drafts
  begun_spares : (c : Change) (unused : ℕ → Bool)
      → CanBegin st.machine.whole.parts c.low c.high c.gone.items c.come.items c.old.items
      c.new.items unused → has c.come.items k ≡ false
  begun_spares c unused can = not_among c.come.items k (λ is.
      not_draft (leaves k).role there (can.come_leaf k (in_has c.come.items k is)).0)

  write_new : (at : ℕ) (what : Written) (values : List Value)
      → core.IsEnabled w st (By (deed.CacheWrite at what values)) → write_spares k what
  write_new at (written.Parent inner change) values on =
      let one = some_set (core.CanDo w st (By (deed.CacheWrite at (written.Parent inner change) values)))
      (λ x. beginning st.machine change ∷ WriteCache x values ∷ []) (whole.OfParent inner)
      (set_in w.machine (inner_owner (st.machine.whole.parts.inner_nodes inner)) values) on in
      begun_spares change _ one.1.course.0.asks.0
  write_new at (written.Leaf n) values on =
      let one = some_set (core.CanDo w st (By (deed.CacheWrite at (written.Leaf n) values)))
      (λ x. WriteCache x values ∷ []) (whole.OfLeaf n.slot (draft_leaf n))
      (set_in w.machine (leaf_owner (draft_leaf n)) (take n.sectors values)) on in
      not_slot leaves k n.slot (not_none (leaves k).role there) one.1.course.0.asks.0
  write_new at what values on = tt

  fault_new : (x : Failure) → core.IsEnabled w st (By (deed.DeviceFault x)) → fault_spares k x
  fault_new (failure.CacheWrite at (written.Parent inner change) values) on =
      let one = some_set (core.CanDo w st
      (By (deed.DeviceFault (failure.CacheWrite at (written.Parent inner change) values))))
      (λ x. beginning st.machine change ∷ FailCache x values ∷ []) (whole.OfParent inner)
      (set_in w.machine (inner_owner (st.machine.whole.parts.inner_nodes inner)) values) on in
      begun_spares change _ one.1.course.0.asks.0
  fault_new (failure.CacheWrite at (written.Leaf n) values) on =
      let one = some_set (core.CanDo w st
      (By (deed.DeviceFault (failure.CacheWrite at (written.Leaf n) values))))
      (λ x. FailCache x values ∷ []) (whole.OfLeaf n.slot (draft_leaf n))
      (set_in w.machine (leaf_owner (draft_leaf n)) (take n.sectors values)) on in
      not_slot leaves k n.slot (not_none (leaves k).role there) one.1.course.0.asks.0
  fault_new (failure.CacheWrite at what values) on = tt
  fault_new x on = tt

  seal_new : (last_seq : ℕ) (bucket : Option ℕ) (rest : _) (root : Option NewRoot)
      (chain : Option NewChain)
      → core.IsEnabled w st (By (deed.Seal last_seq bucket rest root chain)) → root_spares k root
  seal_new last_seq bucket rest None chain on = tt
  seal_new last_seq None rest (Some x) chain on = begun_spares x.change _ on.course.0.asks.0
  seal_new last_seq (Some b) rest (Some x) chain on =
      not_among x.change.come.items k (λ is. not_draft (leaves k).role there
      (on.course.1.0.asks.0.come_leaf k (in_has x.change.come.items k is)).0)

  pub tree_spared : (d : Deed) → core.IsEnabled w st (By d)
      → EndsItsChange st.machine.whole.parts d → spares k d
  tree_spared (deed.CacheWrite at what values) on ends = write_new at what values on
  tree_spared (deed.Seal last_seq bucket rest new_root chain) on ends =
      seal_new last_seq bucket rest new_root chain on
  tree_spared (deed.Install change come gone) on ends = not_among change.come.items k (λ is.
      not_coming (leaves k).role there (ends.0.only k is))
  tree_spared (deed.DeviceFault x) on ends = fault_new x on
  tree_spared d on ends = tt

-- ---- leaves come into the tree by an install alone

-- each leaf of the tree was one
abbrev pub WereInTree : parts.State → parts.State → Type 0
WereInTree a b = (k : ℕ) → IsInTree (b.leaves k).role → IsInTree (a.leaves k).role

-- or it came with an install, and has nothing pending
pub record HasCome (x : parts.Leaf) : Type 0 where
  pub role : x.role ≡ Free
  pub bare : x.pending ≡ []

changed_tree : (gone come : List ℕ) (k : ℕ) (r : Role) → (In k gone → r ≡ Free)
    → IsInTree (changed gone come k r) → IsInTree r
changed_tree gone come k r free = cases (has gone k) refl (has come k)
  where
    cases : (a : Bool) → has gone k ≡ a → (b : Bool)
        → IsInTree (if a then Leaving else (if b then Coming else r)) → IsInTree r
    cases true is b h = subst IsInTree (sym (free (in_has gone k is))) tt
    cases false is true h = absurd h
    cases false is false h = h

forgotten_tree : (r : Role) → IsInTree (forgotten r) → IsInTree r
forgotten_tree NoNode h = h
forgotten_tree Draft h = h
forgotten_tree Free h = h
forgotten_tree Leaving h = h
forgotten_tree Coming h = h

written_tree : (w : whole.Opening) (st : State) (i : ℕ) (x : whole.Write) (values : List Value)
    → IsEnabled w st i (WriteCache x values)
    → WereInTree st.whole.parts (after w st i (WriteCache x values)).whole.parts
written_tree w st i (whole.OfLeaf j leaf set) values on = λ k. by_test k j
    (λ t. IsInTree (if t then leaf else st.whole.parts.leaves k).role
    → IsInTree (st.whole.parts.leaves k).role)
    (λ _ there. absurd (not_draft leaf.role there on.asks.1)) (λ _ there. there)
written_tree w st i (whole.OfInner j inner set) values on = λ k there. there
written_tree w st i (whole.OfParent j set) values on = λ k there. there
written_tree w st i (whole.OfSet j set) values on = λ k there. there
written_tree w st i whole.OfEntry values on = λ k there. there
written_tree w st i (whole.OfData b place) values on = λ k there. there
written_tree w st i (whole.OfPriorities b part set) values on = λ k there. there
written_tree w st i (whole.Outside place) values on = λ k there. there

failed_tree : (w : whole.Opening) (st : State) (i : ℕ) (x : whole.Write) (values : List Value)
    → WereInTree st.whole.parts (after w st i (FailCache x values)).whole.parts
failed_tree w st i (whole.OfLeaf j leaf set) values = λ k there. there
failed_tree w st i (whole.OfInner j inner set) values = λ k there. there
failed_tree w st i (whole.OfParent j set) values = λ k there. there
failed_tree w st i (whole.OfSet j set) values = λ k there. there
failed_tree w st i whole.OfEntry values = λ k there. there
failed_tree w st i (whole.OfData b place) values = λ k there. there
failed_tree w st i (whole.OfPriorities b part set) values = λ k there. there
failed_tree w st i (whole.Outside place) values = λ k there. there

sealed_tree : (w : whole.Opening) (st : State) (i last_seq : ℕ) (rest : List ℕ) (root : whole.Root)
    (chain : whole.Chain)
    → WereInTree st.whole.parts (after w st i (Seal last_seq rest root chain)).whole.parts
sealed_tree w st i last_seq rest whole.SameRoot chain = λ k there. there
sealed_tree w st i last_seq rest (whole.NewRoot r) chain = λ k there. there

one_tree : (w : whole.Opening) (st : State) (i : ℕ) (act : Act) → installs act ≡ false
    → IsEnabled w st i act → WereInTree st.whole.parts (after w st i act).whole.parts
one_tree w st i (Keyed act slot keys) off on = λ k there.
    subst IsInTree (ap (λ (x : Shape). x.role) ((keyed_parts st.whole.parts slot keys).leaves k)) there
one_tree w st i (WriteCache x values) off on = written_tree w st i x values on
one_tree w st i (FailCache x values) off on = failed_tree w st i x values
one_tree w st i (Seal last_seq rest root chain) off on = sealed_tree w st i last_seq rest root chain
one_tree w st i (BeginChange low high gone come old new un) off on = λ k there.
    changed_tree gone come k (st.whole.parts.leaves k).role (λ is. (on.asks.0.gone_leaf k is).0) there
one_tree w st i (Install un steps) off on = absurd (cc)
one_tree w st i ForgetDrafts off on = λ k there.
    forgotten_tree (st.whole.parts.leaves k).role there
one_tree w st i act off on = λ k there. there

tree_kept : IsKept (λ act. installs act ≡ false) (λ a b. WereInTree a.whole.parts b.whole.parts)
tree_kept = record {
  same = λ a k there. there;
  both = λ a b c x y k there. x k (y k there);
  one = one_tree;
}

installed_tree : (x : parts.Leaf) → (x.role ≡ Coming → x.pending ≡ []) → IsInTree (installed x.role)
    → IsInTree x.role ⊎ HasCome (parts_step.with_role (installed x.role) x)
installed_tree x bare there = go x.role refl there
  where
    go : (r : Role) → x.role ≡ r → IsInTree (installed r)
        → IsInTree r ⊎ HasCome (parts_step.with_role (installed r) x)
    go NoNode is h = absurd h
    go Draft is h = absurd h
    go Free is h = inl tt
    go Leaving is h = absurd h
    go Coming is h = inr (record { role = refl; bare = bare is })

-- A leaf of the tree was one before the event, or has come with it.
pub law_comes : (w : core.Opening) (st : core.State) (e : Event) → core.IsEnabled w st e
    → EndsItsChange st.machine.whole.parts e.deed → (k : ℕ)
    → IsInTree ((core.after w st e).machine.whole.parts.leaves k).role
    → IsInTree (st.machine.whole.parts.leaves k).role
    ⊎ HasCome ((core.after w st e).machine.whole.parts.leaves k)
law_comes w st e on ends k = go e.seat e.deed on ends
  where
    other : (seat : ℕ) (d : Deed) → IsNoInstall d
        → core.IsEnabled w st (record { seat = seat; deed = d })
        → WereInTree st.machine.whole.parts
        (core.after w st (record { seat = seat; deed = d })).machine.whole.parts
    other seat d none on = kept_run (λ act. installs act ≡ false)
        (λ a b. WereInTree a.whole.parts b.whole.parts) tree_kept w.machine st.machine seat
        (acts_or_none (acts_of w.machine st.machine seat d))
        (no_install_row w.machine st.machine seat d none)
        (in_order w st (record { seat = seat; deed = d }) (acts_of w.machine st.machine seat d) on)

    go : (seat : ℕ) (d : Deed) → core.IsEnabled w st (record { seat = seat; deed = d })
        → EndsItsChange st.machine.whole.parts d
        → IsInTree ((core.after w st (record { seat = seat; deed = d })).machine.whole.parts.leaves k).role
        → IsInTree (st.machine.whole.parts.leaves k).role
        ⊎ HasCome ((core.after w st (record { seat = seat; deed = d })).machine.whole.parts.leaves k)
    go seat (deed.Install c come gone) on ends =
        let p = parts_step.after st.machine.whole.parts (parts_event.Install
        (with st.machine.whole.parts.records.unused (buckets_gone st.machine.whole.parts c))) in
        subst (λ (s : parts.State). IsInTree (s.leaves k).role
        → IsInTree (st.machine.whole.parts.leaves k).role ⊎ HasCome (s.leaves k))
        (sym (released_parts p (regroup st.machine.whole.flow.books.index
        st.machine.whole.parts.leaves c ∷ (made seat come.items ++ dropped gone.items))))
        (installed_tree (st.machine.whole.parts.leaves k) (ends.1.bare k))
    go seat d on ends = λ there. inl (other seat d tt on k there)
