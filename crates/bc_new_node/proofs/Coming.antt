-- The deeds that write a new node, and what they leave of the core's state.
use Rattle.std.proofs.Common.{◌≡◌, ℕ, ◌*◌, ◌≤◌, Bool, true, false, List, [], ◌∷◌, length, take, Option, Some, refl, sym, ap, ◌∙◌, subst}
use Rattle.std.specs.Prelude.{Err, Ok, Result}
use Rattle.bc_disk.specs.declared.disk.Failed.{Failed}
use Rattle.bc_disk.specs.declared.geometry.Geometry.{Geometry}
use Rattle.bc_drafts.specs.Draft.{HasFirst, HasNoInner, HasNoLeaf, IsDraftInner, IsDraftLeaf}
use Rattle.bc_events.specs.Run as core
use Rattle.bc_events.specs.Run.{acts_or_none}
use Rattle.bc_events.specs.Writes.{draft_inner, draft_leaf, map_some}
use Rattle.bc_events.specs.declared.event.Deed.TheVariants as deed
use Rattle.bc_events.specs.declared.event.Failure.TheVariants as failure
use Rattle.bc_events.specs.declared.event.NewNode.{NewNode}
use Rattle.bc_events.specs.declared.event.Written.TheVariants as written
use Rattle.bc_facts.specs.Layout.{IsLayoutOf}
use Rattle.bc_facts.specs.Seen.{kind_of, seen_set}
use Rattle.bc_held.specs.bc_hand.Seats.{by}
use Rattle.bc_held.specs.bc_machine.World.{Origin}
use Rattle.bc_known.specs.Acts as known
use Rattle.bc_known.specs.Acts.{FailCache, WriteCache}
use Rattle.bc_known.specs.Run as machine
use Rattle.bc_leaves.specs.Parts.{inner_node_of, node_of}
use Rattle.bc_meta.specs.Tree.{NodeSet, Owner}
use Rattle.bc_model.specs.Sector.{Value, values_of}
use Rattle.bc_new_node.proofs.Came.{OneCame, inner_came, inner_failed, inner_is, inner_node_is, leaf_came, leaf_failed, leaf_is, leaf_node_is}
use Rattle.bc_new_node.proofs.First.{front_spelled}
use Rattle.bc_new_node.specs.Wrote.{sent_by}
use Rattle.bc_node.specs.Writing.{HasSet}
use Rattle.bc_record.proofs.Blocks.{block_some}
use Rattle.bc_set.specs.Records.{set_sectors}
use Rattle.bc_set.specs.SetBytes.{AreSetKeys}
use Rattle.bc_set.specs.declared.set.Set.{Set}
use Rattle.bc_whole.specs.State as whole
use Rattle.bc_whole.specs.State.{OfInner, OfLeaf}

-- the slot has the node, as a draft with this first set
abbrev IsLeafIn : NewNode → NodeSet → known.State → Type 0
IsLeafIn n set a = (a.whole.parts.leaves n.slot ≡ draft_leaf n)
    × HasFirst set (node_of a.whole.parts n.slot)

abbrev IsInnerIn : NewNode → NodeSet → known.State → Type 0
IsInnerIn n set a = (a.whole.parts.inner_nodes n.slot ≡ draft_inner n)
    × HasFirst set (inner_node_of a.whole.parts n.slot)

module _ (o : Origin) (st : core.State) (i at : ℕ) (g : Geometry)
    (divided : IsLayoutOf g o.opening.machine.layout) (n : NewNode) (s : Set)
    (sectors_are : n.sectors ≡ set_sectors g s) (bytes : List ℕ)
    (all : length bytes ≡ 512 * g.node_sectors) (fits : set_sectors g s ≤ g.node_sectors) where
  abbrev w : whole.Opening
  w = o.opening.machine

  abbrev values : List Value
  values = values_of bytes

  module _ (flag : Bool) (set : HasSet g n.word s bytes)
      (proper : AreSetKeys (kind_of flag) s.keys) where
    abbrev owner : Owner
    owner = record { word = n.word; leaf = flag }

    spelled : w.layout.sets.spelled owner (take n.sectors values) ≡ Some (seen_set g flag s)
    spelled = ap (λ m. w.layout.sets.spelled owner (take m values)) sectors_are
        ∙ front_spelled g w.layout divided owner s bytes (block_some g) set proper all fits

  -- ---- a leaf

  module _ (set : HasSet g n.word s bytes) (proper : AreSetKeys (kind_of true) s.keys) where
    wrote_leaf : (core.after o.opening st (by i (deed.CacheWrite at (written.Leaf n) values))).machine
        ≡ known.after w st.machine i
        (WriteCache (OfLeaf n.slot (draft_leaf n) (seen_set g true s)) values)
    wrote_leaf = ap (λ (found : Option NodeSet). machine.run w st.machine (core.by i (acts_or_none
        (map_some (λ x. WriteCache x values ∷ []) (map_some (OfLeaf n.slot (draft_leaf n)) found)))))
        (spelled true set proper)

    lost_leaf : (core.after o.opening st
        (by i (deed.DeviceFault (failure.CacheWrite at (written.Leaf n) values)))).machine
        ≡ known.after w st.machine i
        (FailCache (OfLeaf n.slot (draft_leaf n) (seen_set g true s)) values)
    lost_leaf = ap (λ (found : Option NodeSet). machine.run w st.machine (core.by i (acts_or_none
        (map_some (λ x. FailCache x values ∷ []) (map_some (OfLeaf n.slot (draft_leaf n)) found)))))
        (spelled true set proper)

    pub leaf_comes : HasNoLeaf n.slot o st → (r : Result (Unit {0}) Failed)
        → OneCame n.slot n.bucket st.machine
        (core.after o.opening st (by i (sent_by at (written.Leaf n) values r))).machine
    leaf_comes free (Ok done) = subst (OneCame n.slot n.bucket st.machine) (sym wrote_leaf)
        (leaf_came w st.machine i n.slot (draft_leaf n) (seen_set g true s) values refl free)
    leaf_comes free (Err failed) = subst (OneCame n.slot n.bucket st.machine) (sym lost_leaf)
        (leaf_failed w st.machine i n.slot (draft_leaf n) (seen_set g true s) values)

    pub leaf_there : IsDraftLeaf n (seen_set g true s) o
        (core.after o.opening st (by i (deed.CacheWrite at (written.Leaf n) values)))
    leaf_there =
        let here = subst (IsLeafIn n (seen_set g true s)) (sym wrote_leaf) (
          leaf_is w st.machine i n.slot (draft_leaf n) (seen_set g true s) values,
          leaf_node_is w st.machine i n.slot (draft_leaf n) (seen_set g true s) values,
        ) in record { is = here.0; node = here.1 }

  -- ---- an inner node

  module _ (set : HasSet g n.word s bytes) (proper : AreSetKeys (kind_of false) s.keys) where
    wrote_inner : (core.after o.opening st
        (by i (deed.CacheWrite at (written.Inner n) values))).machine
        ≡ known.after w st.machine i
        (WriteCache (OfInner n.slot (draft_inner n) (seen_set g false s)) values)
    wrote_inner = ap (λ (found : Option NodeSet). machine.run w st.machine (core.by i (acts_or_none
        (map_some (λ x. WriteCache x values ∷ []) (map_some (OfInner n.slot (draft_inner n)) found)))))
        (spelled false set proper)

    lost_inner : (core.after o.opening st
        (by i (deed.DeviceFault (failure.CacheWrite at (written.Inner n) values)))).machine
        ≡ known.after w st.machine i
        (FailCache (OfInner n.slot (draft_inner n) (seen_set g false s)) values)
    lost_inner = ap (λ (found : Option NodeSet). machine.run w st.machine (core.by i (acts_or_none
        (map_some (λ x. FailCache x values ∷ []) (map_some (OfInner n.slot (draft_inner n)) found)))))
        (spelled false set proper)

    pub inner_comes : n.slot ≡ n.bucket → HasNoInner n.slot o st → (k : ℕ)
        → (r : Result (Unit {0}) Failed) → OneCame k n.bucket st.machine
        (core.after o.opening st (by i (sent_by at (written.Inner n) values r))).machine
    inner_comes its free k (Ok done) = subst (OneCame k n.bucket st.machine) (sym wrote_inner)
        (inner_came w st.machine i n.slot (draft_inner n) (seen_set g false s) values its refl free k)
    inner_comes its free k (Err failed) = subst (OneCame k n.bucket st.machine) (sym lost_inner)
        (inner_failed w st.machine i n.slot (draft_inner n) (seen_set g false s) values k)

    pub inner_there : IsDraftInner n (seen_set g false s) o
        (core.after o.opening st (by i (deed.CacheWrite at (written.Inner n) values)))
    inner_there =
        let here = subst (IsInnerIn n (seen_set g false s)) (sym wrote_inner) (
          inner_is w st.machine i n.slot (draft_inner n) (seen_set g false s) values,
          inner_node_is w st.machine i n.slot (draft_inner n) (seen_set g false s) values,
        ) in record { is = here.0; node = here.1 }
