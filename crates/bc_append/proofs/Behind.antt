-- What a write of a set makes of the core's state.
use Rattle.std.proofs.Common.{◌≡◌, ◌≢◌, ℕ, List, [], ◌∷◌, Option, Some, refl, sym, ap, ◌∙◌, subst}
use Rattle.std.specs.Prelude.{if◌then◌else◌}
use Rattle.bc_events.specs.Run as core
use Rattle.bc_events.specs.Run.{acts_or_none, by}
use Rattle.bc_events.specs.Writes.{map_some}
use Rattle.bc_events.specs.declared.event.Deed.TheVariants as deed
use Rattle.bc_events.specs.declared.event.Failure.TheVariants as failure
use Rattle.bc_events.specs.declared.event.Written.TheVariants as written
use Rattle.bc_place.specs.bc_machine.Containers.{IsInTree}
use Rattle.bc_known.specs.Acts as known
use Rattle.bc_known.specs.Acts.{FailCache, WriteCache}
use Rattle.bc_known.specs.Run as machine
use Rattle.bc_leaves.specs.After.{with_pending}
use Rattle.bc_leaves.specs.After as parts_step
use Rattle.bc_leaves.specs.Events.{FailSet, WriteSet}
use Rattle.bc_leaves.specs.Fits.{HaveBuckets}
use Rattle.bc_leaves.specs.Parts.{Coming, Draft, Free, Leaf, Leaving, NoNode, Role, leaf_owner, node_of}
use Rattle.bc_leaves.specs.Parts as parts
use Rattle.bc_meta.proofs.Lists.{by_test}
use Rattle.bc_meta.specs.Records.{Node, failed_node, put, sent_node}
use Rattle.bc_meta.specs.Tree.{NodeSet}
use Rattle.bc_model.specs.Sector.{Value}
use Rattle.bc_shares.specs.Shares.{LeafShare, leaf_share, node_share}
use Rattle.bc_whole.specs.State.{OfSet}
use Rattle.bc_append.proofs.Leaf.{with_lost, with_set}
use Rattle.bc_append.proofs.Part.{OneChanged}

-- ---- the event

module _ (w : core.Opening) (st : core.State) (i k at : ℕ) (values : List Value) (set : NodeSet)
    (spelled : w.machine.layout.sets.spelled (leaf_owner (st.machine.whole.parts.leaves k)) values
    ≡ Some set) where
  pub appended : (core.after w st (record {
    seat = i;
    deed = deed.CacheWrite at (written.Set k) values;
  })).machine ≡ known.after w.machine st.machine i (WriteCache (OfSet k set) values)
  appended = ap (λ (o : Option NodeSet). machine.run w.machine st.machine (by i (acts_or_none
      (map_some (λ x. WriteCache x values ∷ []) (map_some (OfSet k) o))))) spelled

  pub lost : (core.after w st (record {
    seat = i;
    deed = deed.DeviceFault (failure.CacheWrite at (written.Set k) values);
  })).machine ≡ known.after w.machine st.machine i (FailCache (OfSet k set) values)
  lost = ap (λ (o : Option NodeSet). machine.run w.machine st.machine (by i (acts_or_none
      (map_some (λ x. FailCache x values ∷ []) (map_some (OfSet k) o))))) spelled

-- ---- the parts

some_role : (r : Role) → IsInTree r → r ≢ NoNode
some_role NoNode tree none = tree
some_role Draft tree none = tree
some_role Free tree none = cc
some_role Leaving tree none = cc
some_role Coming tree none = tree

abbrev shared : Leaf → Node → LeafShare
shared leaf n = record { leaf = leaf; node = node_share n }

module _ (p : parts.State) (k : ℕ) (free : (p.leaves k).role ≡ Free)
    (buckets : HaveBuckets p.records.nodes p.leaves p.inner_nodes) (node : Node) where
  abbrev q : ℕ
  q = (p.leaves k).bucket

  here : put p.records.nodes q node q ≡ node
  here = by_test q q (λ b. (if b then node else p.records.nodes q) ≡ node) (λ _. refl)
      (λ ne. absurd (ne refl))

  -- each other leaf lies in another bucket
  there : (j : ℕ) → j ≢ k → IsInTree (p.leaves j).role
      → put p.records.nodes q node (p.leaves j).bucket ≡ p.records.nodes (p.leaves j).bucket
  there j ne tree = by_test (p.leaves j).bucket q
      (λ b. (if b then node else p.records.nodes (p.leaves j).bucket)
      ≡ p.records.nodes (p.leaves j).bucket)
      (λ same. absurd (ne (buckets.one_leaf j k (some_role (p.leaves j).role tree)
      (some_role (p.leaves k).role (subst IsInTree (sym free) tt)) same)))
      (λ other. refl)

module _ (p : parts.State) (k : ℕ) (set : NodeSet) (values : List Value)
    (free : (p.leaves k).role ≡ Free)
    (buckets : HaveBuckets p.records.nodes p.leaves p.inner_nodes) where
  abbrev written_ : parts.State
  written_ = parts_step.after p (WriteSet k set values)

  its_leaf : written_.leaves k ≡ with_pending [] (p.leaves k)
  its_leaf = by_test k k (λ b. with_pending (if b then [] else (p.leaves k).pending) (p.leaves k)
      ≡ with_pending [] (p.leaves k)) (λ _. refl) (λ ne. absurd (ne refl))

  other_leaf : (j : ℕ) → j ≢ k → written_.leaves j ≡ p.leaves j
  other_leaf j ne = by_test j k (λ b. with_pending (if b then [] else (p.leaves j).pending)
      (p.leaves j) ≡ p.leaves j) (λ same. absurd (ne same)) (λ other. refl)

  pub set_share : leaf_share written_ k ≡ with_set (leaf_share p k) (node_of p k) set
  set_share = ap (λ (l : Leaf). shared l (written_.records.nodes l.bucket)) its_leaf
      ∙ ap (shared (with_pending [] (p.leaves k)))
      (here p k free buckets (sent_node set (node_of p k)))

  pub set_changes : OneChanged k p written_
  set_changes = record {
    free = ap (λ (l : Leaf). l.role) its_leaf ∙ free;
    others = other_leaf;
    shares = λ j ne tree. ap (λ (l : Leaf). shared l (written_.records.nodes l.bucket))
        (other_leaf j ne)
        ∙ ap (shared (p.leaves j))
        (there p k free buckets (sent_node set (node_of p k)) j ne tree);
  }

  abbrev failed_ : parts.State
  failed_ = parts_step.after p (FailSet k set values)

  pub lost_share : leaf_share failed_ k ≡ with_lost (leaf_share p k) (node_of p k) set
  lost_share = ap (shared (p.leaves k)) (here p k free buckets (failed_node set (node_of p k)))

  pub lost_changes : OneChanged k p failed_
  lost_changes = record {
    free = free;
    others = λ j ne. refl;
    shares = λ j ne tree. ap (shared (p.leaves j))
        (there p k free buckets (failed_node set (node_of p k)) j ne tree);
  }
