-- What goes on to hold of new nodes, while nobody changes the tree and behind a barrier.
use Rattle.std.proofs.Common.{◌≡◌, ℕ, Bool, true, false, ◌∷◌, refl, sym, ap, ◌∙◌, subst}
use Rattle.std.specs.Prelude.{if◌then◌else◌}
use Rattle.bc_events.specs.Run as core
use Rattle.bc_events.specs.Writes.{draft_inner, draft_leaf}
use Rattle.bc_events.specs.declared.event.Deed.TheVariants as deed
use Rattle.bc_events.specs.declared.event.Event.{Event}
use Rattle.bc_events.specs.declared.event.NewNode.{NewNode}
use Rattle.bc_place.proofs.Going.{happens}
use Rattle.bc_place.specs.bc_machine.Standing.{oldest_first, origin_before, replay_is}
use Rattle.bc_place.specs.bc_machine.World.{IsCourseOf, IsOrigin, Origin, World, replay}
use Rattle.bc_leaves.specs.Parts.{Draft, InnerNode, Leaf, inner_node_of, node_of}
use Rattle.bc_meta.specs.Records.{Node, stable_node}
use Rattle.bc_drafts.specs.Laws.{LawDrafts, LawStill}
use Rattle.bc_nodes_known.proofs.Law.{law_barrier, law_draft}
use Rattle.bc_nodes_known.specs.Nodes.{StayDrafts}
use Rattle.bc_shares.proofs.Law.{law_spine}
use Rattle.bc_shares.specs.Shares.{InnerShare, LeafShare, SameSpine, Shape, node_share, written_sets}
use Rattle.bc_shares.specs.Touched.{touches_spine}

-- ---- an event that leaves the tree alone

drafts_stay : (x : World) (e : Event) (o : Origin) → IsOrigin x o → IsCourseOf o x.log
    → core.IsEnabled o.opening (replay o x.log) e → touches_spine e.deed ≡ false
    → StayDrafts (replay o x.log).machine.whole.parts
    (core.after o.opening (replay o x.log) e).machine.whole.parts
drafts_stay x e o is course on off =
    subst (λ (st : core.State). StayDrafts st.machine.whole.parts
    (core.after o.opening st e).machine.whole.parts) (sym (replay_is o x.log))
    (law_draft o.opening o.parts o.next_seq (oldest_first x.log) e (happens x o e is course on) off)

spine_stays : (x : World) (e : Event) (o : Origin) → IsOrigin x o → IsCourseOf o x.log
    → core.IsEnabled o.opening (replay o x.log) e → touches_spine e.deed ≡ false
    → SameSpine (replay o x.log).machine (core.after o.opening (replay o x.log) e).machine
spine_stays x e o is course on off =
    subst (λ (st : core.State). SameSpine st.machine (core.after o.opening st e).machine)
    (sym (replay_is o x.log))
    (law_spine o.opening o.parts o.next_seq (oldest_first x.log) e (happens x o e is course on) off)

leaf_draft : (l : Leaf) (x : NewNode) → l ≡ draft_leaf x → l.role ≡ Draft
leaf_draft l x is = ap (λ (y : Leaf). y.role) is

inner_draft : (n : InnerNode) (x : NewNode) → n ≡ draft_inner x → n.role ≡ Draft
inner_draft n x is = ap (λ (y : InnerNode). y.role) is

pub law_still : LawStill
law_still = record {
  leaf = λ x e n set off h o is course.
      let before = origin_before x e o is in
      let was = h o before course.2 in
      let stay = (drafts_stay x e o before course.2 course.0.enabled off).leaves n.slot
      (leaf_draft _ n was.is) in record {
        is = ap (λ (s : LeafShare). s.leaf) stay.0 ∙ was.is;
        node = record {
          sets = ap (λ (s : LeafShare). s.node.sets) stay.0 ∙ was.node.sets;
          written = stay.1.written was.node.written;
        };
      };
  inner = λ x e n set off h o is course.
      let before = origin_before x e o is in
      let was = h o before course.2 in
      let stay = (drafts_stay x e o before course.2 course.0.enabled off).inner_nodes n.slot
      (inner_draft _ n was.is) in record {
        is = ap (λ (s : InnerShare). s.inner) stay.0 ∙ was.is;
        node = record {
          sets = ap (λ (s : InnerShare). s.node.sets) stay.0 ∙ was.node.sets;
          written = stay.1.written was.node.written;
        };
      };
  stable_leaf = λ x e n set off h o is course.
      let before = origin_before x e o is in
      let was = h o before course.2 in
      let stay = (drafts_stay x e o before course.2 course.0.enabled off).leaves n.slot
      (leaf_draft _ n was.is) in record {
        is = ap (λ (s : LeafShare). s.leaf) stay.0 ∙ was.is;
        node = record {
          sets = stay.1.sets was.node.stable ∙ was.node.sets;
          stable = stay.1.stable was.node.stable;
        };
      };
  stable_inner = λ x e n set off h o is course.
      let before = origin_before x e o is in
      let was = h o before course.2 in
      let stay = (drafts_stay x e o before course.2 course.0.enabled off).inner_nodes n.slot
      (inner_draft _ n was.is) in record {
        is = ap (λ (s : InnerShare). s.inner) stay.0 ∙ was.is;
        node = record {
          sets = stay.1.sets was.node.stable ∙ was.node.sets;
          stable = stay.1.stable was.node.stable;
        };
      };
  no_leaf = λ x e k off h o is course.
      let before = origin_before x e o is in
      ap (λ (s : Shape). s.role)
      ((spine_stays x e o before course.2 course.0.enabled off).leaves k) ∙ h o before course.2;
  no_inner = λ x e k off h o is course.
      let before = origin_before x e o is in
      ap (λ (f : ℕ → InnerNode). (f k).role)
      ((spine_stays x e o before course.2 course.0.enabled off).slots) ∙ h o before course.2;
}

-- ---- a barrier

stable_sets : (n : Node) → (stable_node n).sets ≡ (node_share n).sets
stable_sets n = go n.sent
  where
    go : (sent : Bool) → (if sent then n.last ∷ n.sets else n.sets)
        ≡ written_sets sent n.last n.sets
    go true = refl
    go false = refl

pub law_drafts : LawDrafts
law_drafts = record {
  leaf = λ x i n set h o is course.
      let e : Event = record { seat = i; deed = deed.CacheBarrier } in
      let was = h o (origin_before x e o is) course.2 in
      let settled = law_barrier o.opening (replay o x.log) i in record {
        is = was.is;
        node = record {
          sets = stable_sets (node_of (replay o x.log).machine.whole.parts n.slot) ∙ was.node.sets;
          stable = settled.leaves n.slot was.node.written;
        };
      };
  inner = λ x i n set h o is course.
      let e : Event = record { seat = i; deed = deed.CacheBarrier } in
      let was = h o (origin_before x e o is) course.2 in
      let settled = law_barrier o.opening (replay o x.log) i in record {
        is = was.is;
        node = record {
          sets = stable_sets (inner_node_of (replay o x.log).machine.whole.parts n.slot)
              ∙ was.node.sets;
          stable = settled.inner_nodes n.slot was.node.written;
        };
      };
}
