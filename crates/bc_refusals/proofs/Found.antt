-- What is read where a leaf of the tree stands, is a leaf of its range.
use Rattle.std.proofs.Common.{◌≡◌, ◌≢◌, ◌⊎◌, ℕ, ◌+◌, ◌-◌, ◌*◌, true, List, [], ◌∷◌, Some, refl, sym, ap, ◌∙◌, subst, arith}
use Rattle.std.specs.Prelude.{length}
use Rattle.bc_disk.specs.Disk.{DiskFacts}
use Rattle.bc_disk.specs.declared.geometry.Geometry.{Geometry}
use Rattle.bc_facts.proofs.Nodes.{sets_are}
use Rattle.bc_facts.proofs.Stood.{in_all}
use Rattle.bc_facts.specs.Layout.{IsLayoutOf}
use Rattle.bc_facts.specs.Seen.{seen_sets, word_of}
use Rattle.bc_request.specs.bc_fetch.Fetch.{MayStandIn, node_read}
use Rattle.bc_request.proofs.of_bc_fetched.Law.{law_found, law_sets, ptr_is}
use Rattle.bc_request.specs.bc_fetched.Fetched.{MayBeRead}
use Rattle.bc_request.specs.bc_hand.Seats.{world}
use Rattle.bc_image.specs.Pair.{Pair}
use Rattle.bc_image.specs.Reading as pairs
use Rattle.bc_image.specs.Sound.{LiesWithin}
use Rattle.bc_image.specs.Tree as image_tree
use Rattle.bc_image.specs.Tree.{AreSetsAt}
use Rattle.bc_key.specs.Key.{ptr_at}
use Rattle.bc_key.specs.Words.{ptr_word}
use Rattle.bc_key.specs.declared.key.Key.{Key}
use Rattle.bc_key.specs.declared.ptr.Ptr.{Ptr}
use Rattle.bc_request.specs.bc_machine.Containers.{IsTreeLeaf}
use Rattle.bc_request.specs.bc_machine.World.{IsCourseOf, IsOrigin, Origin, World, replay}
use Rattle.bc_meta.specs.Facts.{In}
use Rattle.bc_meta.specs.Layout.{is_within, sets_in}
use Rattle.bc_meta.specs.Tree.{NodeSet, Owner, set_keys}
use Rattle.bc_model.specs.Sector.{Image, values_of}
use Rattle.bc_node.specs.Leaf.{LieWithin}
use Rattle.bc_node.specs.declared.error.NodeError.{NodeError}
use Rattle.bc_node.specs.declared.error.NodeError.TheVariants as nodes
use Rattle.bc_node.specs.Loading.{IsNotDecoded}
use Rattle.bc_opened.specs.Opening.{IsSoundOpeningOf}
use Rattle.bc_session.specs.bc_ranges.Laws.{frame_of}
use Rattle.bc_record.proofs.Parts.{bytes_in-has}
use Rattle.bc_record.specs.Sectors.{Has, bytes_in, bytes_to}
use Rattle.bc_reload.specs.Reload.{NamesLeaf}
use Rattle.bc_remains.proofs.Keys.{leaf_keys}
use Rattle.bc_remains.proofs.Tree.{key_begins}
use Rattle.bc_set.proofs.NodeSets.{one_node}
use Rattle.bc_set.proofs.SetLaws.{never_both}
use Rattle.bc_set.specs.Records.{AreNodeSets}
use Rattle.bc_set.specs.SetBytes.{IsSet}
use Rattle.bc_set.specs.declared.set.Set.{Set}
use Rattle.bc_set.specs.declared.set.SetKind.TheVariants.{Extents}
use Rattle.bc_shares.specs.Shares.{shape_of}
use Rattle.bc_shows.proofs.Lists.{in_reverse}
use Rattle.bc_spine.specs.declared.leaf.LeafRange.{LeafRange}
use Rattle.bc_refusals.specs.Laws.{LawNode}
use Rattle.bc_refusals.specs.Made.{AreMadeIn, TouchNoLeaf}
use Rattle.bc_refusals.proofs.Before.{over_before}
use Rattle.bc_refusals.proofs.Made.{leaf_keys_lie, pair_before}
use Rattle.bc_refusals.proofs.Nodes.{in_tree_some, inv_course, tree_firm, tree_owner, tree_within}

-- the sets of the leaf to which a pointer points
abbrev AreSetsOfPtr : Geometry → Image → List Set → Ptr → Type 0
AreSetsOfPtr g image sets ptr = AreNodeSets g (ptr_word ptr) Extents image
    (ptr.offset + g.node_sectors) ptr.offset sets

-- the first set of a node that has one
begins_with : (g : Geometry) (word end place : ℕ) (image : Image) (sets : List Set) → sets ≢ []
    → AreNodeSets g word Extents image end place sets
    → (s : Set) × IsSet word g.set_magic Extents (bytes_to image end place) s
begins_with g word end place image [] some are = absurd (some refl)
begins_with g word end place image (s ∷ ss) some are = (s, are.0.0)

-- the bytes that were read are those that the image has there
read_there : (image : Image) (place n : ℕ) (bytes : List ℕ) → length bytes ≡ 512 * n
    → Has image place (values_of bytes) → bytes_to image (place + n) place ≡ bytes
read_there image place n bytes whole has =
    let width : place + n - place ≡ n = omega arith in
    ap (bytes_in image place) width ∙ bytes_in-has image place n bytes whole has

module _ (x : World) (o : Origin) (is : IsOrigin x o) (course : IsCourseOf o x.log) (g : Geometry)
    (layout : IsLayoutOf g o.opening.machine.layout) (range : LeafRange) (key : Key)
    (names : NamesLeaf range key)
    (at : IsTreeLeaf o.opening.machine range.from range.end range.ptr
    (shape_of ((replay o x.log).machine.whole.parts.leaves range.number)))
    (bytes : List ℕ) (whole : length bytes ≡ 512 * g.node_sectors)
    (stand : MayStandIn x range.ptr.offset (values_of bytes)) where
  same_ptr : ptr_at key 0 ≡ range.ptr
  same_ptr = ptr_is key range.ptr names.points

  tree_leaf : IsTreeLeaf o.opening.machine range.from key.end (ptr_at key 0)
      (shape_of ((replay o x.log).machine.whole.parts.leaves range.number))
  tree_leaf = subst (λ (n : ℕ). IsTreeLeaf o.opening.machine range.from n (ptr_at key 0)
      (shape_of ((replay o x.log).machine.whole.parts.leaves range.number))) (sym names.ends)
      (subst (λ (p : Ptr). IsTreeLeaf o.opening.machine range.from range.end p
      (shape_of ((replay o x.log).machine.whole.parts.leaves range.number))) (sym same_ptr) at)

  -- an image that has the bytes, as reads may give it, and the sets that a reader finds in it
  found : (image : Image) × (sets : List Set) × AreSetsAt g image 0 key sets
      × Has image range.ptr.offset (values_of bytes) × MayBeRead g o (replay o x.log) image
  found =
      let read = stand o is course in
      let may : MayBeRead g o (replay o x.log) read.0
      = record { layout = layout; values = read.1 } in
      let sets = law_found x o is course g read.0 may range.number range.from key
      (names.points ∙ ap Some (sym same_ptr)) tree_leaf in
      (read.0, sets.0, sets.1, read.2, may)

  -- they stand where the key points to, and so do the bytes
  stand_there : AreSetsOfPtr g found.0 found.1 (ptr_at key 0)
  stand_there = subst (λ (p : Ptr). AreSetsOfPtr g found.0 found.1 p)
      (sym (ptr_is key found.2.ptr found.2.points)) found.2.stand

  has_there : Has found.0 (ptr_at key 0).offset (values_of bytes)
  has_there = subst (λ (p : Ptr). Has found.0 p.offset (values_of bytes)) (sym same_ptr) found.3

  begins : (s : Set) × IsSet (ptr_word (ptr_at key 0)) g.set_magic Extents bytes s
  begins =
      let at_key = (ptr_at key 0).offset in
      let one = begins_with g (ptr_word (ptr_at key 0)) (at_key + g.node_sectors) at_key found.0
      found.1 found.2.some stand_there in (
        one.0,
        subst (λ (l : List ℕ). IsSet (ptr_word (ptr_at key 0)) g.set_magic Extents l one.0)
            (read_there found.0 at_key g.node_sectors bytes whole has_there) one.1,
      )

  -- its keys lie in the leaf's range
  within : (p : Pair) (v : pairs.View) → IsSoundOpeningOf p v o.opening.machine o.parts
      → AreMadeIn (frame_of p v) o x.log ⊎ TouchNoLeaf x.log → LieWithin key range.from found.1
  within p v open_ made =
      let st = (replay o x.log).machine.whole in
      let w = o.opening.machine in
      let inv = inv_course o is.sound x.log course in
      let k = range.number in
      let q = (st.parts.leaves k).bucket in
      let n = st.parts.records.nodes q in
      let f = found in
      let image = f.0 in
      let sets = f.1 in
      let own : Owner = record { word = word_of key; leaf = true } in
      let owner : n.owner ≡ own = tree_owner w st inv k at.role
      ∙ ap (λ (m : ℕ). record { word = m; leaf = true })
      (at.word ∙ ap (λ (p : Ptr). ptr_word p) (sym same_ptr)) in
      let written = law_sets x o is course g image f.4 q (λ _. (tree_firm w st inv k at.role)) in
      let here = subst (λ (m : ℕ).
      AreNodeSets g (word_of key) Extents image (m + g.node_sectors) m sets) (sym (key_begins key))
      stand_there in
      let seen : sets_in w.layout image n.owner q ≡ seen_sets g true sets
      = ap (λ (z : Owner). sets_in w.layout image z q) owner
      ∙ sets_are g w.layout layout image own q sets
      (subst (λ (z : Owner). is_within w.layout q z ≡ true) owner (tree_within w st inv k at.role))
      here in
      record {
        within = in_all (LiesWithin 0 range.from key.end) (image_tree.set_keys sets) (λ one there.
            let lies = leaf_keys_lie p v o open_ x.log course made k (in_tree_some _ at.role) one
            (sets_in w.layout image n.owner q) written
            (subst (λ (l : List NodeSet). In one (set_keys l)) (sym seen)
            (subst (λ (l : List Key). In one l) (leaf_keys g sets)
            (in_reverse one (image_tree.set_keys sets) there))) in
            let low = lies.0 in
            let high = lies.1 in
            let first = at.first in
            let end = at.end_is in
            let ends = names.ends in
            (omega arith, omega arith));
        cover = tt;
      }

  none_refused : (p : Pair) (v : pairs.View) → IsSoundOpeningOf p v o.opening.machine o.parts
      → AreMadeIn (frame_of p v) o x.log ⊎ TouchNoLeaf x.log → (e : NodeError)
      → IsNotDecoded g key range.from bytes e → e ≢ nodes.Memory → ⊥
  none_refused p v open_ made (nodes.First cause) refused other =
      never_both (ptr_word (ptr_at key 0)) g.set_magic Extents bytes begins.0 cause begins.1 refused
  none_refused p v open_ made nodes.Ranges refused other =
      let at_key = (ptr_at key 0).offset in
      let one = one_node g (ptr_word (ptr_at key 0)) Extents found.0 (at_key + g.node_sectors)
      at_key found.1 refused.0 stand_there (refused.1 found.0 at_key has_there) in
      refused.2 (subst (λ (l : List Set). LieWithin key range.from l) one (within p v open_ made))
  none_refused p v open_ made nodes.Fault refused other = refused
  none_refused p v open_ made nodes.Memory refused other = other refl

module _ {C B : Type 0} (cache_facts : C → DiskFacts) (backing_facts : B → DiskFacts) where
  pub law_node : LawNode {C = C} {B = B} cache_facts backing_facts
  law_node o g p pair first count bucket e v w over of h =
      let now = over_before cache_facts backing_facts o g [] h.now w h.then over in
      let at = over_before cache_facts backing_facts o g (node_read h.range.ptr.offset ∷ []) h.at
      h.now h.did now in
      let made = pair_before cache_facts backing_facts p pair o [] h.now w h.then of in
      let bad = h.so in
      let tree = bad.tree.tree o now.origin now.course in
      none_refused (world cache_facts backing_facts h.now) o now.origin now.course h.leaves.geometry
      (h.had.stood o at.origin at.course).layout h.range bad.key bad.names
      (tree.leaves h.range bad.tree.range_in) bad.bytes bad.whole bad.stand p pair made.opening
      made.made e bad.cause bad.not_memory
