-- A change that is under way stays so while nobody changes the tree.
use Rattle.std.proofs.Common.{◌≡◌, ◌≢◌, inl, inr, ℕ, Bool, true, false, List, [], ◌∷◌, Option, Some, None, refl, sym, ap, ◌∙◌, subst}
use Rattle.std.specs.Prelude.{◌==◌}
use Rattle.bc_books.specs.Shelves.{Held, Tree}
use Rattle.bc_events.specs.Run as core
use Rattle.bc_events.specs.Run.{CanDo, IsSome}
use Rattle.bc_events.specs.Writes.{map_some, set_in, with_beginning}
use Rattle.bc_events.specs.declared.event.Change.{Change}
use Rattle.bc_events.specs.declared.event.Deed.{Deed}
use Rattle.bc_events.specs.declared.event.Deed.TheVariants as deed
use Rattle.bc_events.specs.declared.event.Event.{Event}
use Rattle.bc_events.specs.declared.event.Failure.TheVariants as failure
use Rattle.bc_events.specs.declared.event.Written.TheVariants as written
use Rattle.bc_entry.specs.bc_hand.Seats.{by}
use Rattle.bc_holds.proofs.Law.{law_held}
use Rattle.bc_known.specs.Acts.{FailCache, WriteCache}
use Rattle.bc_leaves.specs.Parts.{Role, NoNode, Draft, Free, Leaving, Coming, leaf_owner}
use Rattle.bc_leaves.specs.Parts as parts
use Rattle.bc_entry.specs.bc_machine.Containers.{inner_slot}
use Rattle.bc_entry.specs.bc_machine.Standing.{oldest_first, origin_before, replay_is}
use Rattle.bc_entry.specs.bc_machine.World.{Origin, replay}
use Rattle.bc_meta.specs.Tree.{NodeSet}
use Rattle.bc_meta.proofs.Lists.{by_test}
use Rattle.bc_nodes_known.specs.Nodes.{StayNamed}
use Rattle.bc_nodes_known.proofs.Law.{law_root}
use Rattle.bc_shares.specs.Laws.{Happens}
use Rattle.bc_shares.specs.Shares.{BucketsShare, InnerShare, LeafShare, SameSpine, Shape, books_of, leaf_share}
use Rattle.bc_shares.specs.Touched.{NamesItsChange, touches_leaf, touches_spine}
use Rattle.bc_shares.proofs.Law.{law_buckets, law_leaf, law_spine}
use Rattle.bc_tree.specs.declared.plan.Plan.{Plan}
use Rattle.bc_whole.specs.State.{OfSet, Opening}
use Rattle.bc_change.specs.Laws.{LawByRoot}
use Rattle.bc_change.specs.Ready.{IsNewInner, IsNewLeaf}
use Rattle.bc_change.specs.Under.{IsUnderWay}
use Rattle.bc_change.proofs.Keeping.{happens}
use Rattle.bc_change.proofs.Turned.{row_same}

-- ---- who changes a leaf but not the tree finds it free

equal : (k n : ℕ) → (k == n) ≡ true → n ≡ k
equal k n = by_test k n (λ b. b ≡ true → n ≡ k) (λ same _. sym same) (λ _ off. absurd (cc))

module _ (w : core.Opening) (st : core.State) (k : ℕ) where
  abbrev p : parts.State
  p = st.machine.whole.parts

  free_at : (n : ℕ) → (k == n) ≡ true → (p.leaves n).role ≡ Free → (p.leaves k).role ≡ Free
  free_at n at free = subst (λ i. (p.leaves i).role ≡ Free) (equal k n at) free

  free_set : (e : Event) (leaf : ℕ) (values : _) (o : Option NodeSet)
      → IsSome (map_some (λ x. with_beginning st.machine (written.Set leaf) (WriteCache x values ∷ []))
      (map_some (OfSet leaf) o)) (CanDo w st e) → (p.leaves leaf).role ≡ Free
  free_set e leaf values None on = absurd on
  free_set e leaf values (Some set) on = on.course.0.asks.0.0

  free_failed : (e : Event) (leaf : ℕ) (values : _) (o : Option NodeSet)
      → IsSome (map_some (λ x. with_beginning st.machine (written.Set leaf) (FailCache x values ∷ []))
      (map_some (OfSet leaf) o)) (CanDo w st e) → (p.leaves leaf).role ≡ Free
  free_failed e leaf values None on = absurd on
  free_failed e leaf values (Some set) on = on.course.0.asks.0.0

  free_leaf : (i : ℕ) (d : Deed) → core.IsEnabled w st (by i d) → touches_spine d ≡ false
      → touches_leaf k d ≡ true → (p.leaves k).role ≡ Free
  free_leaf i (deed.InsertWrite leaf keys of first values) on off at = free_at leaf at on.course.0.asks.1
  free_leaf i (deed.Insert leaf keys form) on off at = free_at leaf at on.course.0.asks.1
  free_leaf i (deed.Settle leaf candidate keys) on off at = free_at leaf at on.course.0.asks.1
  free_leaf i (deed.CacheWrite place (written.Set leaf) values) on off at = free_at leaf at
      (free_set (by i (deed.CacheWrite place (written.Set leaf) values)) leaf values
      (set_in w.machine (leaf_owner (p.leaves leaf)) values) on)
  free_leaf i (deed.CacheWrite place (written.Parent inner change) values) on off at = absurd (cc)
  free_leaf i (deed.CacheWrite place (written.Leaf node) values) on off at = absurd (cc)
  free_leaf i (deed.CacheWrite place what values) on off at = absurd (cc)
  free_leaf i (deed.Seal last_seq bucket rest (Some x) chain) on off at = absurd (cc)
  free_leaf i (deed.Seal last_seq bucket rest None chain) on off at = absurd (cc)
  free_leaf i (deed.Install change come gone) on off at = absurd (cc)
  free_leaf i (deed.DeviceFault (failure.CacheWrite place (written.Set leaf) values)) on off at =
      free_at leaf at
      (free_failed (by i (deed.DeviceFault (failure.CacheWrite place (written.Set leaf) values))) leaf
      values (set_in w.machine (leaf_owner (p.leaves leaf)) values) on)
  free_leaf i (deed.DeviceFault (failure.CacheWrite place (written.Parent inner change) values)) on off at =
      absurd (cc)
  free_leaf i (deed.DeviceFault (failure.CacheWrite place (written.Leaf node) values)) on off at =
      absurd (cc)
  free_leaf i (deed.DeviceFault (failure.CacheWrite place what values)) on off at = absurd (cc)
  free_leaf i (deed.DeviceFault x) on off at = absurd (cc)
  free_leaf i d on off at = absurd (cc)

-- an install changes the tree
names_none : (st : parts.State) (d : Deed) → touches_spine d ≡ false → NamesItsChange st d
names_none st (deed.Install change come gone) off = absurd (cc)
names_none st d off = tt

coming_some : (r : Role) → r ≡ Coming → r ≢ NoNode
coming_some r is none = cc

not_free : (r : Role) → r ≡ Coming → r ≡ Free → ⊥
not_free r is free = let same : Coming ≡ Free = sym is ∙ free in cc

-- a leaf that comes stays as it is
pub coming_kept : (w : core.Opening) (x : parts.State) (n : ℕ) (es : List Event) (e : Event)
    → Happens w x n es e → touches_spine e.deed ≡ false → (k : ℕ)
    → let st = core.run w (core.start w x n) es in
    (st.machine.whole.parts.leaves k).role ≡ Coming
    → leaf_share (core.after w st e).machine.whole.parts k ≡ leaf_share st.machine.whole.parts k
coming_kept w x n es e it off k coming =
    go (touches_leaf k e.deed) refl
  where
    go : (b : Bool) → touches_leaf k e.deed ≡ b
        → leaf_share (core.after w (core.run w (core.start w x n) es) e).machine.whole.parts k
        ≡ leaf_share (core.run w (core.start w x n) es).machine.whole.parts k
    go true at = absurd (not_free _ coming
        (free_leaf w (core.run w (core.start w x n) es) k e.seat e.deed it.enabled off at))
    go false at = law_leaf w x n es e it k at
        (names_none (core.run w (core.start w x n) es).machine.whole.parts e.deed off)
        (coming_some _ coming)

-- ---- the change

pub under_kept : (w : Opening) (a b : core.State) (plan : Plan) (c : Change)
    → SameSpine a.machine b.machine → ((k : ℕ) → (a.machine.whole.parts.leaves k).role ≡ Coming
    → leaf_share b.machine.whole.parts k ≡ leaf_share a.machine.whole.parts k)
    → IsUnderWay w a.machine.whole.parts plan c → IsUnderWay w b.machine.whole.parts plan c
under_kept w a b plan c same coming h = record {
  whole = record {
    names = record {
      gone = λ k leaves. h.whole.names.gone k (sym (role k) ∙ leaves);
      come = λ k comes. h.whole.names.come k (sym (role k) ∙ comes);
      only = λ k on. role k ∙ h.whole.names.only k on;
    };
    leave = λ k m. role k ∙ h.whole.leave k m;
    old = row_same a.machine.whole.parts.leaves b.machine.whole.parts.leaves first end c.low
        c.gone.items c.high h.whole.old;
    new = row_same a.machine.whole.parts.leaves b.machine.whole.parts.leaves first end c.low
        c.come.items c.high h.whole.new;
    slots = h.whole.slots;
  };
  old = λ x m. inner_role x ∙ h.old x m;
  only_old = λ x leaves. h.only_old x (sym (inner_role x) ∙ leaves);
  only_new = λ x comes. h.only_new x (sym (inner_role x) ∙ comes);
  come = λ range leaf m. let one = h.come range leaf m in (
    one.0,
    subst (λ (s : LeafShare). IsNewLeaf w Coming s leaf) (sym (coming range.number one.1.role_is)) one.1,
  );
  new = λ n m. let one = h.new n m in subst (λ (s : InnerShare). IsNewInner w Coming s n)
      (sym (same.inner_nodes (inner_slot w n) (coming_some _ one.role_is))) one;
  no_leaf = λ k draft. h.no_leaf k (sym (role k) ∙ draft);
  no_inner = λ x draft. h.no_inner x (sym (inner_role x) ∙ draft);
}
  where
    role : (k : ℕ) → (b.machine.whole.parts.leaves k).role ≡ (a.machine.whole.parts.leaves k).role
    role k = ap (λ (s : Shape). s.role) (same.leaves k)

    first : (k : ℕ) → (b.machine.whole.parts.leaves k).first ≡ (a.machine.whole.parts.leaves k).first
    first k = ap (λ (s : Shape). s.first) (same.leaves k)

    end : (k : ℕ) → (b.machine.whole.parts.leaves k).end ≡ (a.machine.whole.parts.leaves k).end
    end k = ap (λ (s : Shape). s.end) (same.leaves k)

    inner_role : (x : ℕ) → (b.machine.whole.parts.inner_nodes x).role
        ≡ (a.machine.whole.parts.inner_nodes x).role
    inner_role x = ap (λ (f : ℕ → parts.InnerNode). (f x).role) same.slots

pub law_by_root : LawByRoot
law_by_root x e i plan c number slot off apart h o is course =
    let before = origin_before x e o is in
    let on = course.0.enabled in
    let it = happens x o e before course.2 on in
    let was = h o before course.2 in
    let same = subst (λ (st : core.State). SameSpine st.machine (core.after o.opening st e).machine)
    (sym (replay_is o x.log)) (law_spine o.opening o.parts o.next_seq (oldest_first x.log) e it off) in
    record {
      under = under_kept o.opening.machine (replay o x.log)
          (core.after o.opening (replay o x.log) e) plan c same
          (λ k. subst (λ (st : core.State). (st.machine.whole.parts.leaves k).role ≡ Coming
          → leaf_share (core.after o.opening st e).machine.whole.parts k
          ≡ leaf_share st.machine.whole.parts k) (sym (replay_is o x.log))
          (coming_kept o.opening o.parts o.next_seq (oldest_first x.log) e it off k)) was.under;
      holds = record {
        leaves = λ range m. held o on it (o.opening.machine.flow.books.bucket range.ptr.offset)
            (was.holds.leaves range m);
        inner_nodes = λ n m. held o on it (inner_slot o.opening.machine n)
            (was.holds.inner_nodes n m);
      };
      change = same.change ∙ was.change;
      root = subst (λ (st : core.State). StayNamed st.machine.whole.parts
          (core.after o.opening st e).machine.whole.parts) (sym (replay_is o x.log))
          (law_root.stay o.opening o.parts o.next_seq (oldest_first x.log) e it off) number slot
          was.root;
    }
  where
    held : (o : Origin) → core.IsEnabled o.opening (replay o x.log) e
        → Happens o.opening o.parts o.next_seq (oldest_first x.log) e → (q : ℕ)
        → (books_of (replay o x.log).machine).shelf q ≡ Held i Tree
        → (books_of (core.after o.opening (replay o x.log) e).machine).shelf q ≡ Held i Tree
    held o on it q now = elim apart [
      | inl other ↦ subst (λ (st : core.State). (books_of st.machine).shelf q ≡ Held i Tree
          → (books_of (core.after o.opening st e).machine).shelf q ≡ Held i Tree)
          (sym (replay_is o x.log))
          (λ now. law_held o.opening o.parts o.next_seq (oldest_first x.log) e it i other q Tree now)
          now
      | inr none ↦ ap (λ (s : BucketsShare). s.shelf q)
          (law_buckets o.opening (replay o x.log) e on none).share ∙ now
    ]
