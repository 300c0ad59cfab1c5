-- A leaf that is read, or isn't.
use Rattle.std.proofs.Common.{◌≡◌, inl, inr, ℕ, zero, suc, ◌+◌, ◌*◌, ◌<◌, ◌≤◌, List, [], ◌∷◌, Some, get_or, refl, sym, ap, ◌∙◌, subst, arith}
use Rattle.std.specs.Prelude.{Err, ◌==◌, true, false, length, slice_get}
use Rattle.bc_cache.specs.Slots.{NodeCache}
use Rattle.bc_disk.specs.Disk.{DiskFacts, IsKept}
use Rattle.bc_disk.specs.declared.disk.Device.TheVariants as device
use Rattle.bc_disk.specs.declared.geometry.Geometry.{Geometry}
use Rattle.bc_image.specs.Pointers.{LiesInData}
use Rattle.bc_image.specs.Sound.{IsNodeKey}
use Rattle.bc_image.specs.Tree.{AreSetsAt}
use Rattle.bc_key.specs.Key.{pointer_of, ptr_at}
use Rattle.bc_key.specs.declared.key.Key.{Key}
use Rattle.bc_key.specs.declared.ptr.Ptr.{Ptr}
use Rattle.bc_node.specs.Leaf.{Leaf}
use Rattle.bc_node.specs.declared.error.NodeError.{NodeError}
use Rattle.bc_node.specs.declared.error.NodeError.TheVariants as nodes
use Rattle.bc_pending.specs.declared.numbered.Numbered.{Numbered}
use Rattle.bc_record.specs.Places.{bucket_at}
use Rattle.bc_regrow.specs.Held.{open_node}
use Rattle.bc_regrow.proofs.Loads.{room_for}
use Rattle.bc_reload.specs.Reload.{IsNotReloaded, IsReloaded, NamesLeaf}
use Rattle.bc_replay.specs.Causes.{RisesWith}
use Rattle.bc_replay.specs.declared.error.OpenError.{OpenError}
use Rattle.bc_replay.specs.declared.error.OpenError.TheVariants as errors
use Rattle.bc_replay.proofs.Behind.{told_back}
use Rattle.bc_replay.proofs.Judge.{pointer_is}
use Rattle.bc_spine.specs.declared.leaf.LeafRange.{LeafRange}
use Rattle.bc_walk.proofs.Nodes.{told_so}
use Rattle.bc_walk.specs.Seen.{IsNodeIn}
use Rattle.bc_walk.specs.Walk.{IsNodeFault}
use Rattle.bc_slots.specs.Filling.{HasCome, TakesLeaf}
use Rattle.bc_slots.specs.Parts.{HasNodeKey, IsLeafCause, IsPartsCause}
use Rattle.bc_slots.specs.Places.{has_keys}

-- ---- where it stands

pub room_of : (g : Geometry) (range : LeafRange) (key : Key) (bucket sectors : ℕ) → NamesLeaf range key → IsNodeIn g key bucket → g.bucket * g.nbuckets ≤ sectors → range.ptr.offset + g.node_sectors ≤ sectors
room_of g range key bucket sectors names node room =
    let p = pointer_is key range.ptr names.points in
    subst (λ (q : Ptr). q.offset + g.node_sectors ≤ sectors) p.1 (room_for g key sectors node.proper room)

bucket_is : (g : Geometry) (range : LeafRange) (key : Key) (bucket : ℕ) → NamesLeaf range key → IsNodeIn g key bucket → bucket_at g range.ptr.offset ≡ bucket
bucket_is g range key bucket names node =
    let place = node.place in
    let same : range.ptr ≡ place.0 = one_pointer range.ptr place.0 (names.points) place.1 in
    ap (λ (q : Ptr). bucket_at g q.offset) same ∙ place.2
  where
    one_pointer : (a b : Ptr) → pointer_of key ≡ Some a → pointer_of key ≡ Some b → a ≡ b
    one_pointer a b p q = cc

pub no_node_key : (g : Geometry) (range : LeafRange) (key : Key) → NamesLeaf range key → key.size ≡ g.node_sectors → key.count ≡ 1 → ¬ (IsNodeKey g key) → ¬ (HasNodeKey g range)
no_node_key g range key names size one not (other, named, proper) =
    not (record { size = size; some = omega (arith, one); ptrs = λ i low. lies i low })
  where
    mine : ptr_at key 0 ≡ range.ptr
    mine = (pointer_is key range.ptr names.points).1

    its : ptr_at other 0 ≡ range.ptr
    its = (pointer_is other range.ptr named.points).1

    first : LiesInData g (ptr_at key 0) key.size
    first =
        subst (λ (q : Ptr). LiesInData g q key.size) (its ∙ sym mine)
        (subst (λ n. LiesInData g (ptr_at other 0) n) (proper.size ∙ sym size) (proper.ptrs 0 proper.some))

    lies : (i : ℕ) → i < key.count → LiesInData g (ptr_at key i) key.size
    lies zero low = first
    lies (suc i) low = absurd (omega (arith, low, one))

-- ---- why it wasn't read

pub leaf_cause : (old new : DiskFacts) (g : Geometry) (range : LeafRange) (key : Key) (bucket : ℕ) (why : NodeError) → NamesLeaf range key → IsNodeIn g key bucket → IsNotReloaded g range old new why
    → IsLeafCause g range old (open_node bucket why)
leaf_cause old new g range key bucket (nodes.First cause) names node (k, named, so) = (bucket_is g range key bucket names node, (k, named, so.0))
leaf_cause old new g range key bucket nodes.Ranges names node (k, named, so) = (
  bucket_is g range key bucket names node,
  (
    k,
    named,
    told_so old.holds (λ image. AreSetsAt g image 0 k so.0.0) (λ image. IsNodeFault g image 0 range.from k nodes.Ranges) (λ image at. (so.0.0, at, so.0.2)) so.0.1,
  ),
)
leaf_cause old new g range key bucket nodes.Fault names node so = tt
leaf_cause old new g range key bucket nodes.Memory names node so = tt

pub leaf_rises : (old new : DiskFacts) (g : Geometry) (range : LeafRange) (bucket : ℕ) (why : NodeError) → IsNotReloaded g range old new why → RisesWith {T = Leaf} (Err (open_node bucket why)) old.faults new.faults
leaf_rises old new g range bucket (nodes.First cause) (k, named, so) = so.1.1
leaf_rises old new g range bucket nodes.Ranges (k, named, so) = so.1.1
leaf_rises old new g range bucket nodes.Fault (k, named, so) = so.1
leaf_rises old new g range bucket nodes.Memory (k, named, so) = elim so [ inl none ↦ none.1 | inr good ↦ good.1 ]

-- ---- of a device that kept all

pub cause_back : (g : Geometry) (range : LeafRange) (d e : DiskFacts) (why : OpenError) → IsKept d e → IsLeafCause g range e why → IsLeafCause g range d why
cause_back g range d e (errors.Fault device.Cache) kept so = tt
cause_back g range d e (errors.Fault device.Backing) kept so = absurd so
cause_back g range d e errors.Memory kept so = tt
cause_back g range d e (errors.PointerRange word) kept so = so
cause_back g range d e (errors.Node bucket why) kept (at, (key, names, told)) = (at, (key, names, told_back (λ image. IsNodeFault g image 0 range.from key why) d e kept told))
cause_back g range d e (errors.Super k why) kept so = absurd so
cause_back g range d e errors.NoJournal kept so = absurd so
cause_back g range d e (errors.JournalGap a b) kept so = absurd so
cause_back g range d e (errors.JournalEnd seq) kept so = absurd so
cause_back g range d e (errors.Prio why) kept so = absurd so
cause_back g range d e errors.Uuid kept so = absurd so
cause_back g range d e (errors.TwoUses bucket) kept so = absurd so
cause_back g range d e (errors.NoSpare found) kept so = absurd so

reloaded_back : (g : Geometry) (range : LeafRange) (more : List Numbered) (d e : DiskFacts) (leaf : Leaf) → IsKept d e → IsReloaded g range more e leaf → IsReloaded g range more d leaf
reloaded_back g range more d e leaf kept so = record {
  key = so.key;
  names = so.names;
  read = so.read;
  held = (so.held.0, told_back (λ image. AreSetsAt g image 0 so.key so.held.0) d e kept so.held.1, so.held.2);
  added = so.added;
}

pub taken_back : (g : Geometry) (range : LeafRange) (keys : List Numbered) (d e : DiskFacts) (old new : NodeCache) (filled filled' : ℕ) → IsKept d e → TakesLeaf g range keys e old new filled filled' → TakesLeaf g range keys d old new filled filled'
taken_back g range [] d e old new filled filled' kept took = took
taken_back g range (key ∷ keys) d e old new filled filled' kept took = record {
  leaf = took.leaf;
  is = reloaded_back g range (key ∷ keys) d e took.leaf kept took.is;
  after = took.after;
  more = took.more;
}

-- ---- one leaf

pub taken_nothing : (g : Geometry) (range : LeafRange) (keys : List Numbered) (d : DiskFacts) (part : NodeCache) (filled : ℕ) → (length keys == 0) ≡ true → TakesLeaf g range keys d part part filled filled
taken_nothing g range [] d part filled none = (refl, refl)
taken_nothing g range (key ∷ keys) d part filled none = absurd (grind arith)

pub taken_one : (g : Geometry) (range : LeafRange) (keys : List Numbered) (d : DiskFacts) (old new : NodeCache) (filled filled' : ℕ) → (length keys == 0) ≡ false → HasCome g range keys d old new filled filled' → TakesLeaf g range keys d old new filled filled'
taken_one g range [] d old new filled filled' some come = absurd (cc)
taken_one g range (key ∷ keys) d old new filled filled' some come = come

-- ---- why the parts aren't had

pub parts_cause : (g : Geometry) (leaves : List LeafRange) (pending : List (List Numbered)) (d e : DiskFacts) (i : ℕ) (range : LeafRange) (why : OpenError) → slice_get leaves i ≡ Some range → has_keys (get_or pending i []) ≡ true
    → IsKept d e → IsLeafCause g range e why → IsPartsCause g leaves pending d why
parts_cause g leaves pending d e i range why there keys kept cause = inr (i, record { range = range; there = there; keys = keys; cause = cause_back g range d e why kept cause })
