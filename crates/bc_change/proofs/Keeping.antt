-- New nodes stay ready while others act.
use Rattle.std.proofs.Common.{◌≡◌, ℕ, sym, ap, ◌∙◌, subst}
use Rattle.bc_books.specs.Shelves.{Held, Tree}
use Rattle.bc_events.specs.Run as core
use Rattle.bc_events.specs.declared.event.Event.{Event}
use Rattle.bc_holds.proofs.Law.{law_held}
use Rattle.bc_leaves.specs.Parts.{Draft}
use Rattle.bc_leaves.specs.Parts as parts
use Rattle.bc_nodes_known.specs.Nodes.{StayDrafts}
use Rattle.bc_nodes_known.proofs.Law.{law_draft}
use Rattle.bc_nodes_known.specs.bc_machine.Containers.{inner_slot}
use Rattle.bc_nodes_known.specs.bc_machine.Standing.{oldest_first, origin_before, replay_is, replay_runs}
use Rattle.bc_nodes_known.specs.bc_machine.World.{IsCourseOf, IsOrigin, Origin, World, replay}
use Rattle.bc_shares.specs.Laws.{Happens}
use Rattle.bc_shares.specs.Shares.{InnerShare, LeafShare, SameSpine, Shape, books_of}
use Rattle.bc_shares.proofs.Law.{law_spine}
use Rattle.bc_tree.specs.declared.plan.Plan.{Plan}
use Rattle.bc_whole.specs.State.{Opening}
use Rattle.bc_change.specs.Laws.{LawReady}
use Rattle.bc_change.specs.Ready.{AreReady, IsNewInner, IsNewLeaf, IsUnchanged}

-- an event that doesn't change the tree leaves all roles, and new nodes as they are
pub ready_kept : (w : Opening) (a b : core.State) (plan : Plan) → SameSpine a.machine b.machine
    → StayDrafts a.machine.whole.parts b.machine.whole.parts
    → AreReady w a.machine.whole.parts plan → AreReady w b.machine.whole.parts plan
ready_kept w a b plan same drafts h = record {
  calm = record {
    change = same.change ∙ h.calm.change;
    leaves = λ k. subst IsUnchanged (sym (role k)) (h.calm.leaves k);
    inner_nodes = λ x. subst IsUnchanged (sym (inner_role x)) (h.calm.inner_nodes x);
  };
  come = λ range leaf m. let one = h.come range leaf m in
      let stays = drafts.leaves range.number one.new.role_is in record {
        range_is = one.range_is;
        new = subst (λ (s : LeafShare). IsNewLeaf w Draft s leaf) (sym stays.0) one.new;
        stable = stays.1.stable one.stable;
      };
  new = λ n m. let one = h.new n m in
      let stays = drafts.inner_nodes (inner_slot w n) one.new.role_is in record {
        new = subst (λ (s : InnerShare). IsNewInner w Draft s n) (sym stays.0) one.new;
        stable = stays.1.stable one.stable;
      };
  all_leaves = λ k draft. h.all_leaves k (sym (role k) ∙ draft);
  all_inner = λ x draft. h.all_inner x (sym (inner_role x) ∙ draft);
}
  where
    role : (k : ℕ) → (b.machine.whole.parts.leaves k).role ≡ (a.machine.whole.parts.leaves k).role
    role k = ap (λ (s : Shape). s.role) (same.leaves k)

    inner_role : (x : ℕ) → (b.machine.whole.parts.inner_nodes x).role
        ≡ (a.machine.whole.parts.inner_nodes x).role
    inner_role x = ap (λ (f : ℕ → parts.InnerNode). (f x).role) same.slots

-- an event follows in a state of a run
pub happens : (x : World) (o : Origin) (e : Event) → IsOrigin x o → IsCourseOf o x.log
    → core.IsEnabled o.opening (replay o x.log) e
    → Happens o.opening o.parts o.next_seq (oldest_first x.log) e
happens x o e is course on = record {
  sound = is.sound;
  course = replay_runs o x.log course;
  enabled = subst (λ st. core.IsEnabled o.opening st e) (replay_is o x.log) on;
}

pub law_ready : LawReady
law_ready x e i plan ne off h o is course =
    let before = origin_before x e o is in
    let on = course.0.enabled in
    let it = happens x o e before course.2 on in
    let was = h o before course.2 in record {
      ready = ready_kept o.opening.machine (replay o x.log)
          (core.after o.opening (replay o x.log) e) plan
          (subst (λ (st : core.State). SameSpine st.machine (core.after o.opening st e).machine)
          (sym (replay_is o x.log))
          (law_spine o.opening o.parts o.next_seq (oldest_first x.log) e it off))
          (subst (λ (st : core.State). StayDrafts st.machine.whole.parts
          (core.after o.opening st e).machine.whole.parts) (sym (replay_is o x.log))
          (law_draft o.opening o.parts o.next_seq (oldest_first x.log) e it off)) was.ready;
      holds = record {
        leaves = λ range m. held o it (o.opening.machine.flow.books.bucket range.ptr.offset)
            (was.holds.leaves range m);
        inner_nodes = λ n m. held o it (inner_slot o.opening.machine n)
            (was.holds.inner_nodes n m);
      };
    }
  where
    held : (o : Origin) → Happens o.opening o.parts o.next_seq (oldest_first x.log) e → (q : ℕ)
        → (books_of (replay o x.log).machine).shelf q ≡ Held i Tree
        → (books_of (core.after o.opening (replay o x.log) e).machine).shelf q ≡ Held i Tree
    held o it q = subst (λ (st : core.State). (books_of st.machine).shelf q ≡ Held i Tree
        → (books_of (core.after o.opening st e).machine).shelf q ≡ Held i Tree)
        (sym (replay_is o x.log))
        (λ now. law_held o.opening o.parts o.next_seq (oldest_first x.log) e it i ne q Tree now)
