-- No leaf of the tree is missing, and none lies outside the device.
use Rattle.std.proofs.Common.{◌≡◌, inl, inr, ℕ, ◌+◌, ◌*◌, ◌<◌, ◌≤◌, [], sym, ◌∙◌, subst, arith}
use Rattle.std.proofs.Math.Nat.{div-lt_iff_lt-mul, mul-le-mul_left}
use Rattle.std.proofs.lemmas.List.Elements.{All-contains}
use Rattle.bc_disk.specs.Disk.{DiskFacts}
use Rattle.bc_disk.specs.declared.geometry.Geometry.{Geometry}
use Rattle.bc_facts.specs.Layout.{IsLayoutOf}
use Rattle.bc_request.specs.bc_fetch.Fetch.{HasShortLeaf, HasShortTree, HasStoppedAt, LiesOutside}
use Rattle.bc_request.specs.bc_fetch.declared.error.LeafError.TheVariants as leaf
use Rattle.bc_request.specs.bc_hand.Seats.{View, world}
use Rattle.bc_request.specs.bc_machine.Containers.{IsTreeLeaf}
use Rattle.bc_request.specs.bc_machine.World.{Origin, cache_among, replay}
use Rattle.bc_meta.specs.Layout.{Layout}
use Rattle.bc_shares.specs.Shares.{shape_of}
use Rattle.bc_spine.specs.Leaves.{EndsAtCut}
use Rattle.bc_refusals.specs.Laws.{AreInPiece, LawMissing, LawOutside}
use Rattle.bc_refusals.specs.Over.{IsOver}
use Rattle.bc_refusals.proofs.Before.{over_before}
use Rattle.bc_refusals.proofs.Cuts.{leaf_cuts, none_within}
use Rattle.bc_refusals.proofs.Ends.{replay_end}
use Rattle.bc_refusals.proofs.Nodes.{LiesIn, inv_course, tree_leaf_lies}

-- ---- where buckets lie

-- the bucket of this number lies before the end of them all
pub before_end : (g : Geometry) (w : Layout) (q : ℕ) → IsLayoutOf g w → q < w.buckets
    → w.first q + w.bucket_sectors ≤ g.bucket * g.nbuckets
before_end g w q layout below =
    let all = mul-le-mul_left {m = g.first_bucket + q + 1} {n = g.nbuckets} g.bucket
    (let b = layout.buckets in omega arith) in
    let first = layout.first q in
    let sectors = layout.bucket_sectors in
    omega arith

not_outside : (g h : Geometry) (w : Layout) (q at sectors : ℕ) → IsLayoutOf g w → IsLayoutOf h w
    → g.bucket * g.nbuckets ≤ sectors → LiesIn w q at → ¬ (LiesOutside h at sectors)
not_outside g h w q at sectors layout other whole lies (inl far) =
    let end = before_end g w q layout lies.bucket in
    let high = lies.high in
    let node = other.node_sectors in
    omega arith
not_outside g h w q at sectors layout other whole lies (inr far) =
    let end = before_end h w q other lies.bucket in
    let high = lies.high in
    let node = other.node_sectors in
    let some = h.node_is_one in
    let wide = h.bucket_from in
    let within = (div-lt_iff_lt-mul {k = h.bucket} {x = at} {y = h.nbuckets} (omega arith)).1
    (omega arith) in
    omega arith

module _ {C B : Type 0} (cache_facts : C → DiskFacts) (backing_facts : B → DiskFacts) (o : Origin)
    (g : Geometry) (first count : ℕ) (v w : View cache_facts backing_facts)
    (over : IsOver cache_facts backing_facts o g w) where
  -- ---- leaves that are short

  no_short_leaf : ¬ (HasShortLeaf cache_facts backing_facts first count v w)
  no_short_leaf h =
      let at = over_before cache_facts backing_facts o g [] h.at w h.then over in
      let parts = (replay o (world cache_facts backing_facts h.at).log).machine.whole.parts in
      let tree = (h.had.tree o at.origin at.course).leaves h.range h.had.range_in in
      let part = h.had.stood o at.origin at.course in
      let cached = h.has.cached in
      let here = subst (λ (k : ℕ). IsTreeLeaf o.opening.machine cached.leaf.from cached.leaf.end
      cached.leaf.ptr (shape_of (parts.leaves k))) h.has.number_is
      (part.leaves h.slot cached h.has.there).at in
      let from : cached.leaf.from ≡ h.range.from = sym here.first ∙ tree.first in
      let end : cached.leaf.end ≡ h.range.end = sym here.end_is ∙ tree.end_is in
      let low = h.covers.0 in
      let high = h.covers.1 in
      h.short (omega arith, omega arith)

  -- ---- the tree

  no_short_tree : AreInPiece first count
      → ¬ (HasShortTree cache_facts backing_facts first count v w)
  no_short_tree piece h =
      let at = over_before cache_facts backing_facts o g [] h.at w h.then over in
      let tree = h.tree o at.origin at.course in
      let log = (world cache_facts backing_facts h.at).log in
      let end : h.spine.root.end ≡ o.parts.end = sym tree.end ∙ replay_end o log in
      let cuts = leaf_cuts h.spine.geometry h.spine.root h.spine.below h.spine.leaves h.shape in
      elim h.ends [
        | inl low ↦ (let all = at.device.end in let below = piece.below in let some = piece.some in
            omega arith)
        | inr short ↦ none_within first count short.0.end piece.together
            (All-contains EndsAtCut h.spine.leaves short.0 cuts short.1) short.2.1 short.3
      ]

  pub not_missing : AreInPiece first count
      → ¬ (HasStoppedAt cache_facts backing_facts first count leaf.Missing v w)
  not_missing piece (inl h) = no_short_tree piece h
  not_missing piece (inr h) = no_short_leaf h

  -- ---- the device

  pub not_elsewhere : ¬ (HasStoppedAt cache_facts backing_facts first count leaf.Outside v w)
  not_elsewhere h =
      let now = over_before cache_facts backing_facts o g [] h.now w h.then over in
      let at = over_before cache_facts backing_facts o g [] h.at h.now h.did now in
      let log = (world cache_facts backing_facts h.at).log in
      let st = (replay o log).machine.whole in
      let tree = (h.had.tree o at.origin at.course).leaves h.range h.had.range_in in
      let part = h.had.stood o at.origin at.course in
      not_outside g h.leaves.geometry o.opening.machine.layout
      (st.parts.leaves h.range.number).bucket h.range.ptr.offset
      (cache_among cache_facts backing_facts h.now.run.start).sectors now.device.layout part.layout
      now.device.whole
      (tree_leaf_lies o.opening.machine st (inv_course o at.origin.sound log at.course)
      h.range.number tree.role g now.device.layout h.range.from h.range.end h.range.ptr tree)
      h.so

module _ {C B : Type 0} (cache_facts : C → DiskFacts) (backing_facts : B → DiskFacts) where
  pub law_missing : LawMissing {C = C} {B = B} cache_facts backing_facts
  law_missing o g first count v w over piece =
      not_missing cache_facts backing_facts o g first count v w over piece

  pub law_outside : LawOutside {C = C} {B = B} cache_facts backing_facts
  law_outside o g first count v w over =
      not_elsewhere cache_facts backing_facts o g first count v w over
