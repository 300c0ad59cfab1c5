-- A leaf of the tree lies whole in a bucket behind the journal's first one.
use Rattle.std.proofs.Common.{◌≡◌, ◌≢◌, inl, inr, ℕ, ◌+◌, ◌<◌, ◌≤◌, Bool, true, false, List, [], refl, sym, ap, ◌∙◌, subst, if◌then◌else◌}
use Rattle.std.proofs.lemmas.Bool.{cases_lt}
use Rattle.bc_disk.specs.declared.geometry.Geometry.{Geometry}
use Rattle.bc_events.specs.Run.{State}
use Rattle.bc_events.specs.declared.event.Event.{Event}
use Rattle.bc_facts.specs.Layout.{IsLayoutOf, begins_at}
use Rattle.bc_key.proofs.KeyLaws.{ReadsAsPtr-ptr_word}
use Rattle.bc_key.specs.declared.ptr.Ptr.{Ptr}
use Rattle.bc_known.proofs.Law.{At, inv_at}
use Rattle.bc_known.specs.Laws.{IsSound}
use Rattle.bc_leaves.specs.Parts.{Coming, Draft, Free, IsLive, Leaving, NoNode, Role, leaf_owner}
use Rattle.bc_request.specs.bc_machine.Containers.{IsInTree, IsTreeLeaf}
use Rattle.bc_request.specs.bc_machine.Standing.{oldest_first, replay_is, replay_runs}
use Rattle.bc_request.specs.bc_machine.World.{IsCourseOf, Origin, replay}
use Rattle.bc_meta.proofs.Place.{NodeInv, within_of}
use Rattle.bc_meta.specs.Layout.{Layout, is_within, node_end, sets_from, sets_in}
use Rattle.bc_meta.specs.Records.{Node, Records}
use Rattle.bc_meta.specs.Tree.{Owner}
use Rattle.bc_model.specs.Sector.{Image}
use Rattle.bc_shares.proofs.Law.{at_state}
use Rattle.bc_shares.specs.Shares.{shape_of}
use Rattle.bc_whole.proofs.Kept.{Inv}
use Rattle.bc_whole.specs.State as whole
use Rattle.bc_whole.specs.State.{Opening}

-- ---- a state of a course

pub at_course : (o : Origin) → IsSound o.opening.machine o.parts → (es : List Event)
    → IsCourseOf o es → At o.opening.machine o.parts (replay o es).machine
at_course o sound es on = subst (λ (st : State). At o.opening.machine o.parts st.machine)
    (sym (replay_is o es))
    (at_state o.opening o.parts o.next_seq (oldest_first es) sound (replay_runs o es on))

pub inv_course : (o : Origin) → IsSound o.opening.machine o.parts → (es : List Event)
    → IsCourseOf o es → Inv o.opening.machine (replay o es).machine.whole
inv_course o sound es on = inv_at o.opening.machine o.parts (replay o es).machine.whole sound
    (at_course o sound es on).at

-- ---- nodes

live_in : (r : Role) → IsInTree r → IsLive r
live_in NoNode h = h
live_in Draft h = h
live_in Free h = tt
live_in Leaving h = tt
live_in Coming h = tt

pub in_tree_some : (r : Role) → IsInTree r → r ≢ NoNode
in_tree_some NoNode h e = h
in_tree_some Draft h e = h
in_tree_some Free h e = cc
in_tree_some Leaving h e = cc
in_tree_some Coming h e = cc

-- a node that is read is within its bucket
read_within : (w : Layout) (image : Image) (o : Owner) (q : ℕ) → sets_in w image o q ≢ []
    → is_within w q o ≡ true
read_within w image o q some = go (is_within w q o) some
  where
    go : (b : Bool)
        → (if b then sets_from w image o (w.sets.found image o (node_end w o) (w.begins o)) else [])
        ≢ [] → b ≡ true
    go true some = refl
    go false some = absurd (some refl)

-- a node that stands firm lies in the bucket that it is known by
node_within : (w : Layout) (c0 : Image) (d : _) (n : Node) (own : Bool) (q next seq : ℕ) (log : _)
    → NodeInv w c0 d n own q next seq log → n.loose ≡ false → n.sets ≢ []
    → is_within w q n.owner ≡ true
node_within w c0 d n true q next seq log inv firm some = (inv.mine refl).within
node_within w c0 d n false q next seq log inv firm some =
    read_within w c0 n.owner q (λ none. some ((inv.old refl firm).sets ∙ none))

node_below : (w : Layout) (c0 : Image) (d : _) (n : Node) (own : Bool) (q next seq : ℕ) (log : _)
    → NodeInv w c0 d n own q next seq log → n.loose ≡ false → q < w.buckets
node_below w c0 d n own q next seq log inv firm = elim (cases_lt q w.buckets) [
  | inl lt ↦ lt
  | inr ge ↦ absurd (let loose = (inv.low (inr ge)).1 in
      let e : true ≡ false = sym loose ∙ firm in cc)
]

-- ---- leaves

-- from its sector on a node lies whole in this bucket
pub record LiesIn (w : Layout) (q sector : ℕ) : Type 0 where
  pub bucket : q < w.buckets
  pub low : w.first q ≤ sector
  pub high : sector + w.node_sectors ≤ w.first q + w.bucket_sectors

module _ (w : Opening) (st : whole.State) (inv : Inv w st) (k : ℕ)
    (tree : IsInTree (st.parts.leaves k).role) where
  abbrev q : ℕ
  q = (st.parts.leaves k).bucket

  abbrev Firm : Records → Type 0
  Firm r = ((r.nodes q).loose ≡ false) × ((r.nodes q).sets ≢ [])
      × ((r.nodes q).owner ≡ leaf_owner (st.parts.leaves k))

  firm : Firm st.store.places.records
  firm = let live = inv.fits.leaves.firm k (live_in (st.parts.leaves k).role tree) in
      subst Firm inv.same (
        live.0,
        live.1,
        inv.fits.buckets.named k (in_tree_some (st.parts.leaves k).role tree),
      )

  pub tree_firm : (st.parts.records.nodes q).loose ≡ false
  tree_firm = (inv.fits.leaves.firm k (live_in (st.parts.leaves k).role tree)).0

  pub tree_owner : (st.parts.records.nodes q).owner ≡ leaf_owner (st.parts.leaves k)
  tree_owner = inv.fits.buckets.named k (in_tree_some (st.parts.leaves k).role tree)

  stored_within : is_within w.layout q (leaf_owner (st.parts.leaves k)) ≡ true
  stored_within = subst (λ (o : Owner). is_within w.layout q o ≡ true) firm.2
      (node_within w.layout _ _ (st.store.places.records.nodes q) _ q _ _ _
      (inv.store.place.nodes q) firm.0 firm.1)

  pub tree_within : is_within w.layout q (st.parts.records.nodes q).owner ≡ true
  tree_within = subst (λ (o : Owner). is_within w.layout q o ≡ true) (sym tree_owner) stored_within

  leaf_lies : LiesIn w.layout q (w.layout.begins (leaf_owner (st.parts.leaves k)))
  leaf_lies =
      let in_it = within_of w.layout q (leaf_owner (st.parts.leaves k)) stored_within in record {
        bucket = node_below w.layout _ _ (st.store.places.records.nodes q) _ q _ _ _
            (inv.store.place.nodes q) firm.0;
        low = in_it.0;
        high = in_it.1;
      }

  -- the sector to which the pointer points
  pub tree_leaf_lies : (g : Geometry) → IsLayoutOf g w.layout → (from end : ℕ) (ptr : Ptr)
      → IsTreeLeaf w from end ptr (shape_of (st.parts.leaves k)) → LiesIn w.layout q ptr.offset
  tree_leaf_lies g layout from end ptr at =
      let begins : w.layout.begins (leaf_owner (st.parts.leaves k)) ≡ ptr.offset
      = layout.begins (leaf_owner (st.parts.leaves k))
      ∙ ap (λ (n : ℕ). begins_at n) at.word ∙ (ReadsAsPtr-ptr_word ptr).offset in
      subst (λ (s : ℕ). LiesIn w.layout q s) begins leaf_lies
