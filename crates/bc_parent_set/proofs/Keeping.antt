-- A change that a set makes goes on to be made so while nobody changes the tree.
use Rattle.std.proofs.Common.{◌≡◌, ◌≢◌, ◌⊎◌, inl, inr, ℕ, false, List, refl, sym, ap, ◌∙◌, subst}
use Rattle.bc_books.specs.Shelves.{Held, Tree}
use Rattle.bc_events.specs.Run as core
use Rattle.bc_events.specs.declared.event.Change.{Change}
use Rattle.bc_events.specs.declared.event.Deed.TheVariants as deed
use Rattle.bc_events.specs.declared.event.Event.{Event}
use Rattle.bc_key.specs.declared.key.Key.{Key}
use Rattle.bc_change.specs.bc_machine.Containers.{inner_slot}
use Rattle.bc_change.specs.bc_machine.Standing.{oldest_first, origin_before, replay_is}
use Rattle.bc_change.specs.bc_machine.World.{FromEach, Origin, World, after, replay}
use Rattle.bc_change.proofs.Going.{coming_kept, under_kept}
use Rattle.bc_change.proofs.Keeping.{happens}
use Rattle.bc_change.proofs.of_bc_nodes_known.Law.{law_root}
use Rattle.bc_holds.proofs.Law.{law_held}
use Rattle.bc_leaves.specs.Parts.{Coming, Free, InnerNode, NoNode, Role}
use Rattle.bc_meta.specs.Tree.{children_of}
use Rattle.bc_append.specs.bc_nodes_known.Nodes.{StayNamed}
use Rattle.bc_shares.specs.Laws.{Happens}
use Rattle.bc_shares.specs.Shares.{BucketsShare, InnerShare, SameSpine, books_of, leaf_share}
use Rattle.bc_shares.specs.Touched.{touches_buckets, touches_spine}
use Rattle.bc_shares.proofs.Law.{law_buckets, law_spine}
use Rattle.bc_tree.specs.declared.plan.Plan.{Plan}
use Rattle.bc_parent_set.specs.BySet.{IsBySet}
use Rattle.bc_parent_set.specs.Laws.{LawBySet, LawStays}
use Rattle.bc_parent_set.proofs.Settled.{StayUnsent, law_unsent}

pub law_stays : LawStays
law_stays x e root off h o is course =
    let before = origin_before x e o is in
    let it = happens x o e before course.2 course.0.enabled in
    subst (λ (st : core.State). StayNamed st.machine.whole.parts
    (core.after o.opening st e).machine.whole.parts) (sym (replay_is o x.log))
    (law_root.stay o.opening o.parts o.next_seq (oldest_first x.log) e it off) 0
    (inner_slot o.opening.machine root) (h o before course.2)

free_some : (r : Role) → r ≡ Free → r ≢ NoNode
free_some r is none = cc

begun_set : (x : World) (e : Event) (i : ℕ) (plan : Plan) (c : Change) (slot : ℕ)
    (children : List Key) → touches_spine e.deed ≡ false
    → (e.seat ≢ i) ⊎ (touches_buckets e.deed ≡ false)
    → FromEach x (IsBySet i plan c slot children)
    → FromEach (after x e) (IsBySet i plan c slot children)
begun_set x e i plan c slot children off apart h o is course =
    let before = origin_before x e o is in
    let on = course.0.enabled in
    let it = happens x o e before course.2 on in
    let was = h o before course.2 in
    let same = subst (λ (st : core.State). SameSpine st.machine (core.after o.opening st e).machine)
    (sym (replay_is o x.log)) (law_spine o.opening o.parts o.next_seq (oldest_first x.log) e it off) in
    record {
      under = under_kept o.opening.machine (replay o x.log)
          (core.after o.opening (replay o x.log) e) plan c same
          (λ k. subst (λ (st : core.State). (st.machine.whole.parts.leaves k).role ≡ Coming
          → leaf_share (core.after o.opening st e).machine.whole.parts k
          ≡ leaf_share st.machine.whole.parts k) (sym (replay_is o x.log))
          (coming_kept o.opening o.parts o.next_seq (oldest_first x.log) e it off k)) was.under;
      holds = record {
        leaves = λ range m. held o on it (o.opening.machine.flow.books.bucket range.ptr.offset)
            (was.holds.leaves range m);
        inner_nodes = λ n m. held o on it (inner_slot o.opening.machine n)
            (was.holds.inner_nodes n m);
      };
      change = same.change ∙ was.change;
      stays = ap (λ (f : ℕ → InnerNode). (f slot).role) same.slots ∙ was.stays;
      children_are = ap (λ (s : InnerShare). children_of s.node.sets)
          (same.inner_nodes slot (free_some _ was.stays)) ∙ was.children_are;
    }
  where
    held : (o : Origin) → core.IsEnabled o.opening (replay o x.log) e
        → Happens o.opening o.parts o.next_seq (oldest_first x.log) e → (q : ℕ)
        → (books_of (replay o x.log).machine).shelf q ≡ Held i Tree
        → (books_of (core.after o.opening (replay o x.log) e).machine).shelf q ≡ Held i Tree
    held o on it q now = elim apart [
      | inl other ↦ subst (λ (st : core.State). (books_of st.machine).shelf q ≡ Held i Tree
          → (books_of (core.after o.opening st e).machine).shelf q ≡ Held i Tree)
          (sym (replay_is o x.log))
          (λ now. law_held o.opening o.parts o.next_seq (oldest_first x.log) e it i other q Tree now)
          now
      | inr none ↦ ap (λ (s : BucketsShare). s.shelf q)
          (law_buckets o.opening (replay o x.log) e on none).share ∙ now
    ]

pub law_by_set : LawBySet
law_by_set = record {
  begun = begun_set;
  made = λ x e i plan c slot children off apart h o is course.
      let before = origin_before x e o is in
      let it = happens x o e before course.2 course.0.enabled in
      let was = h o before course.2 in
      let stay = subst (λ (st : core.State). StayUnsent st.machine.whole.parts
      (core.after o.opening st e).machine.whole.parts) (sym (replay_is o x.log))
      (law_unsent o.opening o.parts o.next_seq (oldest_first x.log) e it off) in record {
        by_set = begun_set x e i plan c slot children off apart
            (λ o is course. (h o is course).by_set) o is course;
        stable = stay.unsent slot (free_some _ was.by_set.stays) was.stable;
      };
  makes = λ x i j plan c slot children h o is course. record {
    by_set = begun_set x (record { seat = j; deed = deed.CacheBarrier }) i plan c slot children refl
        (inr refl) h o is course;
    stable = refl;
  };
}
