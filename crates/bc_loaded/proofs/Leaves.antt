-- A leaf of the pair that was read has no fault.
use Rattle.std.proofs.Common.{◌≡◌, ◌⊎◌, inl, inr, ℕ, zero, suc, Bool, true, false, List, [], ◌∷◌, ◌++◌, Option, Some, None, Result, Ok, Err, refl, sym, ap, ◌∙◌, subst, if◌then◌else◌}
use Rattle.std.specs.Prelude.{All, IfErr, IfOk, nat_lt, slice_get}
use Rattle.std.proofs.lemmas.List.Elements.{All-append, All-cons, All-head, All-nil, All-tail}
use Rattle.bc_cache.specs.Slots.{NodeCache}
use Rattle.bc_disk.specs.Disk.{DiskFacts, IfTold}
use Rattle.bc_disk.specs.declared.disk.Device.TheVariants as device
use Rattle.bc_disk.specs.declared.geometry.Geometry.{Geometry}
use Rattle.bc_image.specs.Children.{children_of}
use Rattle.bc_image.specs.Pair.{Pair}
use Rattle.bc_image.specs.Sound.{CoverUpTo, IsNodeKey, KeepsRange, LiesWithin}
use Rattle.bc_image.specs.Tree.{AreSetsAt, AreWalks, IsWalk, Node, node_of, set_keys}
use Rattle.bc_image.proofs.Unique.{some_same}
use Rattle.bc_key.specs.Key.{pointer_of, ptr_at}
use Rattle.bc_key.specs.declared.key.Key.{Key}
use Rattle.bc_key.specs.declared.ptr.Ptr.{Ptr}
use Rattle.bc_model.specs.Sector.{Image}
use Rattle.bc_node.specs.declared.error.NodeError.{NodeError}
use Rattle.bc_pending.specs.declared.numbered.Numbered.{Numbered}
use Rattle.bc_recover.specs.Read.{IsReadOf}
use Rattle.bc_regrow.specs.Parts.{AreRangesOf, IsRangeOf, if_leaf, leaf_nodes}
use Rattle.bc_regrow.specs.Tree.{IsTreeCause, IsTreeOf, OfRead}
use Rattle.bc_regrow.proofs.Told.{cause_of, node_keys, of_read}
use Rattle.bc_reload.specs.Reload.{NamesLeaf}
use Rattle.bc_replay.specs.declared.error.OpenError.{OpenError}
use Rattle.bc_replay.specs.declared.error.OpenError.TheVariants as errors
use Rattle.bc_replay.specs.declared.held.Survey.{Survey}
use Rattle.bc_set.specs.declared.set.Set.{Set}
use Rattle.bc_slots.specs.Parts.{FailsAt, HasNodeKey, IsLeafCause, IsPartsCause}
use Rattle.bc_spine.specs.declared.leaf.LeafRange.{LeafRange}
use Rattle.bc_tree.specs.Spine.{Spine}
use Rattle.bc_walk.specs.Walk.{IsNodeFault, IsWhole}
use Rattle.bc_walk.proofs.OneFault.{no_fault}

-- ---- what a walk meets

module _ (g : Geometry) (image : Image) where
  abbrev Stands : Node → Type 0
  Stands n = AreSetsAt g image n.level n.key n.sets

  walks_stand : (walk : ℕ → Key → List Node → Type 0)
      → ((from : ℕ) (key : Key) (nodes : List Node) → walk from key nodes → All Stands nodes)
      → (from : ℕ) (keys : List Key) (nodes : List Node) → AreWalks walk from keys nodes
      → All Stands nodes
  walks_stand walk each from [] nodes is =
      subst (λ (ns : List Node). All Stands ns) (sym is) (All-nil Stands)
  walks_stand walk each from (key ∷ keys) nodes (here, rest, first, more, is) =
      subst (λ (ns : List Node). All Stands ns) (sym is)
      (All-append Stands here rest (each from key here first)
      (walks_stand walk each key.end keys rest more))

  all_stand : (level from : ℕ) (key : Key) (nodes : List Node) → IsWalk g image level from key nodes
      → All Stands nodes
  all_stand zero from key nodes (sets, at, is) =
      subst (λ (ns : List Node). All Stands ns) (sym is)
      (All-cons Stands (node_of zero from key sets) [] at (All-nil Stands))
  all_stand (suc level) from key nodes (sets, below, at, walks, is) =
      subst (λ (ns : List Node). All Stands ns) (sym is)
      (All-cons Stands (node_of (suc level) from key sets) below at
      (walks_stand (IsWalk g image level) (all_stand level) from (children_of (set_keys sets)) below
      walks))

-- ---- the leaves among them

abbrev AreLeafNodes : (Node → Type 0) → List Node → Type 0
AreLeafNodes P ns = All (λ n. (n.level ≡ 0) × P n) ns

leaves_have : (P : Node → Type 0) (nodes : List Node) → All P nodes
    → AreLeafNodes P (leaf_nodes nodes)
leaves_have P [] all = All-nil (λ n. (n.level ≡ 0) × P n)
leaves_have P (n ∷ nodes) all =
    go n.level refl (leaves_have P nodes (All-tail P n nodes all))
  where
    go : (level : ℕ) → n.level ≡ level → AreLeafNodes P (leaf_nodes nodes)
        → AreLeafNodes P (if_leaf level n (leaf_nodes nodes))
    go zero is rest = All-cons (λ m. (m.level ≡ 0) × P m) n (leaf_nodes nodes)
        (is, All-head P n nodes all) rest
    go (suc level) is rest = rest

leaf_found : (P : Node → Type 0) (ns : List Node) (leaves : List LeafRange) (k : ℕ)
    (range : LeafRange) → All P ns → AreRangesOf ns leaves → slice_get leaves k ≡ Some range
    → (n : Node) × P n × IsRangeOf n range
leaf_found P [] [] zero range all ranges there = absurd (cc)
leaf_found P [] [] (suc k) range all ranges there = absurd (cc)
leaf_found P [] (leaf ∷ leaves) k range all ranges there = absurd ranges
leaf_found P (n ∷ ns) [] k range all ranges there = absurd ranges
leaf_found P (n ∷ ns) (leaf ∷ leaves) zero range all ranges there = (
  n,
  All-head P n ns all,
  subst (λ (x : LeafRange). IsRangeOf n x) (some_same leaf range there) ranges.0,
)
leaf_found P (n ∷ ns) (leaf ∷ leaves) (suc k) range all ranges there =
    leaf_found P ns leaves k range (All-tail P n ns all) ranges.1 there

-- ---- one of them

ptr_is : (key : Key) (ptr : Ptr) → pointer_of key ≡ Some ptr → ptr_at key 0 ≡ ptr
ptr_is key ptr = go (nat_lt 0 key.count)
  where
    go : (b : Bool) → (if b then Some (ptr_at key 0) else None) ≡ Some ptr → ptr_at key 0 ≡ ptr
    go true is = some_same (ptr_at key 0) ptr is
    go false is = absurd (cc)

module _ (g : Geometry) (image : Image) (range : LeafRange) (n : Node) (level : n.level ≡ 0)
    (stands : AreSetsAt g image n.level n.key n.sets) (keeps : KeepsRange n)
    (proper : IsNodeKey g n.key) (of : IsRangeOf n range) where
  first_is : ptr_at n.key 0 ≡ stands.ptr
  first_is = ptr_is n.key stands.ptr stands.points

  has_key : HasNodeKey g range
  has_key = (
    n.key,
    record { ends = sym of.ends; points = stands.points ∙ ap Some (sym first_is ∙ sym of.stands) },
    proper,
  )

  -- by each key that names it
  whole : (key : Key) → NamesLeaf range key → IsWhole g image 0 range.from key n.sets
  whole key names = record {
    stand = record {
      ptr = stands.ptr;
      points = names.points ∙ ap Some (of.stands ∙ first_is);
      stand = (subst (λ l. AreSetsAt g image l n.key n.sets) level stands).stand;
      some = stands.some;
    };
    within = record {
      within = subst (λ l. All (LiesWithin l range.from key.end) (set_keys n.sets)) level
          (subst (λ a. All (LiesWithin n.level a key.end) (set_keys n.sets)) (sym of.begins)
          (subst (λ b. All (LiesWithin n.level n.from b) (set_keys n.sets)) ends keeps.within));
      cover = subst (λ l. CoverUpTo l (children_of (set_keys n.sets)) key.end) level
          (subst (λ b. CoverUpTo n.level (children_of (set_keys n.sets)) b) ends keeps.cover);
    };
  }
    where
      ends : n.key.end ≡ key.end
      ends = sym of.ends ∙ sym names.ends

  no_leaf_cause : (d : DiskFacts) (e : OpenError) → d.holds ≡ Some image → IsLeafCause g range d e
      → (e ≡ errors.Memory) ⊎ (e ≡ errors.Fault device.Cache)
  no_leaf_cause d (errors.Fault device.Cache) told cause = inr refl
  no_leaf_cause d (errors.Fault device.Backing) told cause = absurd cause
  no_leaf_cause d errors.Memory told cause = inl refl
  no_leaf_cause d (errors.PointerRange word) told cause = absurd (cause.1 has_key)
  no_leaf_cause d (errors.Node bucket why) told (at, (key, names, fault)) =
      absurd (no_fault g image 0 range.from key why n.sets (whole key names)
      (subst (λ (o : Option Image). IfTold o (λ i. IsNodeFault g i 0 range.from key why)) told fault))
  no_leaf_cause d e told cause = absurd cause

-- ---- of a survey

module _ (s : Survey) (d : DiskFacts) (tree : Spine)
    (grown : OfRead s d (λ p h. IsTreeOf h.view.geometry h.view.reading.nodes tree)) where
  abbrev g : Geometry
  g = s.supers.geometry

  abbrev IsGood : Image → Node → Type 0
  IsGood image n = AreSetsAt g image n.level n.key n.sets × KeepsRange n × IsNodeKey g n.key

  both : (P Q R : Node → Type 0) (nodes : List Node) → All P nodes → All Q nodes → All R nodes
      → All (λ n. P n × Q n × R n) nodes
  both P Q R nodes p q r = λ k n there. (p k n there, q k n there, r k n there)

  all_good : (p : Pair) (h : IsReadOf s p) → All (IsGood p.cache) h.view.reading.nodes
  all_good p h =
      let nodes = h.view.reading.nodes in
      let reading = h.is_view.reading in
      let walk : All (λ n. AreSetsAt g p.cache n.level n.key n.sets) nodes =
      subst (λ (x : Geometry). All (λ n. AreSetsAt x p.cache n.level n.key n.sets) nodes) h.geometry
      (all_stand h.view.geometry p.cache h.view.reading.newest.item.level 0
      h.view.reading.newest.item.root nodes reading.nodes) in
      both (λ n. AreSetsAt g p.cache n.level n.key n.sets) KeepsRange (λ n. IsNodeKey g n.key) nodes
      walk h.openable.ranges (node_keys s p h)

  -- what holds of the pair that the device holds
  grown_of : (p : Pair) (h : IsReadOf s p) → d.holds ≡ Some p.cache
      → IsTreeOf h.view.geometry h.view.reading.nodes tree
  grown_of p h told = subst (λ (o : Option Image). IfTold o (λ image. (q : Pair)
      → (k : IsReadOf s q) → q.cache ≡ image → IsTreeOf k.view.geometry k.view.reading.nodes tree))
      told grown p h refl

  pub leaves_cause : (pending : List (List Numbered)) (e : OpenError)
      → IsPartsCause g tree.leaves pending d e → IsTreeCause s d e
  leaves_cause pending e (inl memory) = cause_of s d e (λ p h told. inl memory)
  leaves_cause pending e (inr (number, fails)) = cause_of s d e (λ p h told.
      (let nodes = h.view.reading.nodes in
      let found = leaf_found (λ n. (n.level ≡ 0) × IsGood p.cache n) (leaf_nodes nodes) tree.leaves
      number fails.range (leaves_have (IsGood p.cache) nodes (all_good p h))
      (grown_of p h told).leaves fails.there in
      no_leaf_cause g p.cache fails.range found.0 found.1.0 found.1.1.0 found.1.1.1 found.1.1.2 found.2 d
      e
      told fails.cause))

-- ---- answers

pub on_err : {T : Type 0} (P Q : OpenError → Type 0) (r : Result T OpenError)
    → ((e : OpenError) → P e → Q e) → IfErr r P → IfErr r Q
on_err P Q (Ok t) f p = tt
on_err P Q (Err e) f p = f e p

pub on_ok : {T E : Type 0} (P Q : T → Type 0) (r : Result T E) → ((t : T) → P t → Q t)
    → IfOk r P → IfOk r Q
on_ok P Q (Ok t) f p = f t p
on_ok P Q (Err e) f p = tt
