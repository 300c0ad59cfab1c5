-- The leaves in memory stand for the core's behind an install.
use Rattle.std.proofs.Common.{◌≡◌, inl, inr, ℕ, ◌%◌, List, [], ◌++◌, Option, Some, sym, subst, ap, ◌∙◌}
use Rattle.std.specs.Prelude.{slice_get}
use Rattle.bc_cache.specs.Slots.{Misses, NodeCache}
use Rattle.bc_cache.specs.declared.slots.Cached.{Cached}
use Rattle.bc_change.specs.Goes.{IsChangeBy}
use Rattle.bc_change.specs.Ready.{HasBoth, IsNewLeaf}
use Rattle.bc_change.specs.Under.{IsUnderWay}
use Rattle.bc_disk.specs.declared.geometry.Geometry.{Geometry}
use Rattle.bc_events.specs.declared.event.Change.{Change}
use Rattle.bc_facts.proofs.Stood.{contains_in, in_contains}
use Rattle.bc_facts.specs.Layout.{IsLayoutOf}
use Rattle.bc_key.specs.declared.key.Key.{Key}
use Rattle.bc_leaves.specs.After.{installed}
use Rattle.bc_leaves.specs.Keys.{last_said, ref_said}
use Rattle.bc_leaves.specs.Parts.{Free, Leaving, Coming, Pending, keys_of}
use Rattle.bc_leaves.specs.Parts as parts
use Rattle.bc_leaves.proofs.Chains.{in_has}
use Rattle.bc_change.specs.bc_machine.Containers.{AreEntriesOf, AreLeavesOf, IsInTree, IsLeafFor}
use Rattle.bc_meta.specs.Facts.{In}
use Rattle.bc_meta.specs.Records.{Records}
use Rattle.bc_meta.specs.Tree.{set_keys}
use Rattle.bc_node.specs.Leaf.{Leaf}
use Rattle.bc_node.specs.declared.pending.Entries.{Entries}
use Rattle.bc_shares.specs.Shares.{LeafShare, leaf_share}
use Rattle.bc_spine.specs.Exchange.{going}
use Rattle.bc_spine.specs.Numbers.{HasNumber}
use Rattle.bc_spine.specs.declared.leaf.LeafRange.{LeafRange}
use Rattle.bc_tree.specs.Spine.{Spine}
use Rattle.bc_tree.specs.declared.plan.Plan.{Plan}
use Rattle.bc_whole.specs.State.{Opening}
use Rattle.bc_install.specs.Installed.{HasLeavesWith, IsBrought}
use Rattle.bc_install.proofs.Tree.{came_after, comes_at, ended, free_after, goes_leaves, leaf_free, leaf_is, new_at, none_leaves, was_role}

module _ (w : Opening) (st : parts.State) (sp : Spine) (plan : Plan) (c : Change)
    (both : HasBoth plan) (is : IsChangeBy w sp plan c) (under : IsUnderWay w st plan c)
    (r : Records) (nodes : r.nodes ≡ st.records.nodes) where
  -- a leaf in memory that doesn't go
  stays_leaf : (k : ℕ) (leaf : Leaf) → ¬ (HasNumber (going sp.leaves plan.leaves) k)
      → IsLeafFor w (leaf_share st k) leaf → IsLeafFor w (leaf_share (ended st r) k) leaf
  stays_leaf k leaf other h =
      let free = leaf_free w st sp plan c both is under r nodes k h.at.role
      (λ g m same. other (g, in_contains (going sp.leaves plan.leaves) g m, same)) in
      subst (λ (s : LeafShare). IsLeafFor w s leaf)
      (sym (leaf_is w st sp plan c both is under r nodes k)) (record {
        at = record {
          role = free_after (st.leaves k).role free;
          first = h.at.first;
          end_is = h.at.end_is;
          bucket = h.at.bucket;
          word = h.at.word;
        };
        loaded = h.loaded;
        own = h.own;
        whole = h.whole;
        keys = h.keys;
        pending = h.pending;
        entries = h.entries;
        lists = h.lists;
      })

  -- one that came
  pub came_leaf : (k : ℕ) (leaf : Leaf) → IsNewLeaf w Coming (leaf_share st k) leaf
      → IsLeafFor w (leaf_share (ended st r) k) leaf
  came_leaf k leaf new =
      subst (λ (s : LeafShare). IsLeafFor w s leaf)
      (sym (leaf_is w st sp plan c both is under r nodes k)) (record {
        at = record {
          role = came_after (st.leaves k).role new.role_is;
          first = new.first;
          end_is = new.end;
          bucket = new.bucket;
          word = new.word;
        };
        loaded = λ on. let off = new.fresh in cc;
        own = λ off. new.own;
        whole = λ off. new.whole;
        keys = λ s from end. new.keys s from end
            ∙ ap (λ (xs : List Pending). ref_said (last_said
            (keys_of xs ++ set_keys (leaf_share st k).node.sets) s)) (sym new.nothing);
        pending = λ s. ap (λ (xs : List Key). last_said xs s) new.none.keys
            ∙ ap (λ (xs : List Pending). last_said (keys_of xs) s) (sym new.nothing);
        entries = subst (λ (e : Option Entries). AreEntriesOf e (st.leaves k).pending) (sym new.none.entries)
            new.nothing;
        lists = new.lists;
      })

  module _ (count part : ℕ) (old new : NodeCache)
      (h : AreLeavesOf w st count part old) (changed : HasLeavesWith sp plan count part old new)
    where
      brought : (x : Cached) (b : IsBrought plan count part x)
          → IsNewLeaf w Coming (leaf_share st x.number) x.leaf
      brought x b = subst (λ k. IsNewLeaf w Coming (leaf_share st k) x.leaf) b.number_is
          (under.come b.range x.leaf b.leaf).1

      is_rest : (i : ℕ) (x : Cached) → slice_get new.slots i ≡ Some (Some x) → x.number % count ≡ part
      is_rest i x at = elim (changed.now i x at) [
        | inl kept ↦ h.rest i x kept.0
        | inr new ↦ new.its
      ]

      is_leaf : (i : ℕ) (x : Cached) → slice_get new.slots i ≡ Some (Some x)
          → IsLeafFor w (leaf_share (ended st r) x.number) x.leaf
      is_leaf i x at = elim (changed.now i x at) [
        | inl kept ↦ stays_leaf x.number x.leaf kept.1 (h.leaves i x kept.0)
        | inr new ↦ came_leaf x.number x.leaf (brought x new)
      ]

      -- a leaf that stays and is in no slot now was in none
      missed : (k : ℕ) → (st.leaves k).role ≡ Free → Misses new.slots k → Misses old.slots k
      missed k free misses slot has = elim (changed.stay slot has.cached has.there) [
        | inl gone ↦ (
            let number = gone.2 ∙ has.number_is in
            let g = contains_in (going sp.leaves plan.leaves) gone.0 gone.1 in
            not_free (subst (λ n. (st.leaves n).role ≡ Leaving) number
            (goes_leaving gone.0 g)))
        | inr stays ↦ misses slot (record {
          cached = has.cached;
          there = stays;
          number_is = has.number_is;
        })
      ]
        where
          not_free : (st.leaves k).role ≡ Leaving → ⊥
          not_free leaves = let same : Free ≡ Leaving = sym free ∙ leaves in cc

          goes_leaving : (g : LeafRange) → In g (going sp.leaves plan.leaves)
              → (st.leaves g.number).role ≡ Leaving
          goes_leaving g m = goes_leaves w st sp plan c both is under r nodes g m

      none_pending : (k : ℕ) → k % count ≡ part → IsInTree (installed (st.leaves k).role)
          → Misses new.slots k → (st.leaves k).pending ≡ []
      none_pending k its tree misses = elim (was_role (st.leaves k).role tree) [
        | inl free ↦ h.others k its (subst IsInTree (sym free) tt) (missed k free misses)
        | inr comes ↦ (
            let one = comes_at w st sp plan c both is under r nodes k
            (in_has c.come.items k (under.whole.names.come k comes)) in
            let new = (new_at w st sp plan c both is under r nodes one.0 one.1).2 in
            subst (λ n. (st.leaves n).pending ≡ []) one.2 new.nothing)
      ]

      pub leaves_after : AreLeavesOf w (ended st r) count part new
      leaves_after = record {
        layout = subst (λ (g : Geometry). IsLayoutOf g w.layout) (sym changed.geometry) h.layout;
        rest = is_rest;
        leaves = is_leaf;
        others = none_pending;
        leaving = λ k its leaves. absurd (none_leaves (st.leaves k).role leaves);
      }
