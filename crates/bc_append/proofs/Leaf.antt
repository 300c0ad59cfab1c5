-- The leaf in memory behind a further set, and behind one whose write failed.
use Rattle.std.proofs.Common.{◌≡◌, inl, inr, ℕ, ◌<◌, ◌≤◌, true, false, List, [], ◌++◌, refl, sym, ap, ◌∙◌, subst, arith}
use Rattle.bc_cache.proofs.Stands.{none_added}
use Rattle.bc_disk.specs.declared.geometry.Geometry.{Geometry}
use Rattle.bc_facts.specs.Layout.{IsLayoutOf}
use Rattle.bc_place.specs.bc_machine.Containers.{AreEntriesOf, HasSets, IsLeafFor, IsTreeLeaf, sets_len}
use Rattle.bc_key.specs.declared.key.Key.{Key}
use Rattle.bc_leaves.proofs.Pend.{append_both}
use Rattle.bc_leaves.specs.After.{with_pending}
use Rattle.bc_leaves.specs.Keys.{SaysSame, last_said, ref_said}
use Rattle.bc_leaves.specs.Parts.{keys_of}
use Rattle.bc_meta.specs.Facts.{In}
use Rattle.bc_meta.specs.Records.{Node, failed_node, sent_node}
use Rattle.bc_meta.specs.Tree.{NodeSet, set_keys}
use Rattle.bc_node.specs.Leaf.{AreLast, AreLastOfAll, IsAppended, Leaf}
use Rattle.bc_shares.specs.Shares.{LeafShare, NodeShare, node_share, shape_of, written_sets}
use Rattle.bc_whole.specs.State.{Opening}
use Rattle.bc_append.proofs.Sets.{len_is, set_seen}

-- ---- nodes

pub unsent_sets : (n : Node) → n.sent ≡ false → (node_share n).sets ≡ n.sets
unsent_sets n off = ap (λ b. written_sets b n.last n.sets) off

-- ---- the leaf

-- what is pending went into a set of the node, which had none under way
abbrev pub with_set : LeafShare → Node → NodeSet → LeafShare
with_set x n set =
    record { leaf = with_pending [] x.leaf; node = node_share (sent_node set n) }

-- or a write of it failed
abbrev pub with_lost : LeafShare → Node → NodeSet → LeafShare
with_lost x n set = record { leaf = x.leaf; node = node_share (failed_node set n) }

module _ (w : Opening) (x : LeafShare) (n : Node) (node : x.node ≡ node_share n)
    (off : n.sent ≡ false) (g : Geometry) (divided : IsLayoutOf g w.layout) (old : Leaf)
    (h : IsLeafFor w x old) where
  sets : x.node.sets ≡ n.sets
  sets = ap (λ (s : NodeShare). s.sets) node ∙ unsent_sets n off

  module _ (new : Leaf) (is : IsAppended g old new)
      (says : SaysSame (set_seen g old).keys (keys_of x.leaf.pending)) where
    at : IsTreeLeaf w new.from new.end new.ptr (shape_of x.leaf)
    at = subst (λ a. IsTreeLeaf w a new.end new.ptr (shape_of x.leaf)) (sym is.from)
        (subst (λ b. IsTreeLeaf w old.from b new.ptr (shape_of x.leaf)) (sym is.end)
        (subst (λ q. IsTreeLeaf w old.from old.end q (shape_of x.leaf)) (sym is.ptr) h.at))

    own : new.loaded ≡ false
        → HasSets w.layout (node_share (sent_node (set_seen g old) n)) new.seq new.taken
    own fresh =
        let had = h.own (sym is.loaded ∙ fresh) in record {
          number = λ e i. elim i [
            | inl here ↦ ap (λ (s : NodeSet). s.seq) here ∙ sym is.seq
            | inr there ↦ had.number e (subst (In e) (sym sets) there) ∙ sym is.seq
          ];
          taken_is =
              let long = len_is g w.layout old divided in
              let was = had.taken_is ∙ ap (sets_len w.layout) sets in
              let now = is.taken in
              omega (arith, long, was, now);
        }

    keys : (s : ℕ) → new.from ≤ s → s < new.end → ref_said (last_said new.keys s)
        ≡ ref_said (last_said ((set_seen g old).keys ++ set_keys n.sets) s)
    keys s low high =
        let from = is.from in
        let end = is.end in
        ap (λ (ks : List Key). ref_said (last_said ks s)) is.keys
        ∙ h.keys s (omega (arith, low, from)) (omega (arith, high, end))
        ∙ ap (λ (ss : List NodeSet). ref_said (last_said (keys_of x.leaf.pending ++ set_keys ss) s))
        sets
        ∙ ap ref_said (append_both (keys_of x.leaf.pending) (set_keys n.sets) (set_seen g old).keys
        (set_keys n.sets) s (sym (says s)) refl)

    pub behind_set : IsLeafFor w (with_set x n (set_seen g old)) new
    behind_set = record {
      at = at;
      loaded = λ on. is.loaded ∙ h.loaded on;
      own = own;
      whole = λ fresh. refl;
      keys = keys;
      pending = λ s. ap (λ (ks : List Key). last_said ks s) is.pending.keys;
      entries = subst (λ e. AreEntriesOf e []) (sym is.pending.entries) refl;
      lists = record {
        list = h.lists.list;
        last = subst (AreLast h.lists.list) (sym is.keys) h.lists.last;
        added = [];
        last_added = subst (AreLastOfAll []) (sym is.pending.keys) none_added;
      };
    }

  -- A closed leaf is like one that was read. The set that may stand isn't among the node's.
  pub behind_failure : (set : NodeSet)
      → IsLeafFor w (with_lost x n set) (record old { loaded = true })
  behind_failure set = record {
    at = h.at;
    loaded = λ on. refl;
    own = λ fresh. absurd (let both : true ≡ false = fresh in cc);
    whole = λ fresh. absurd (let both : true ≡ false = fresh in cc);
    keys = λ s low high. h.keys s low high
        ∙ ap (λ (ss : List NodeSet).
        ref_said (last_said (keys_of x.leaf.pending ++ set_keys ss) s)) sets;
    pending = h.pending;
    entries = h.entries;
    lists = record {
      list = h.lists.list;
      last = h.lists.last;
      added = h.lists.added;
      last_added = h.lists.last_added;
    };
  }
