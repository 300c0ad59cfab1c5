-- Nodes that are read one after another.
use Rattle.std.proofs.Common.{◌≡◌, ◌⊎◌, inl, inr, ℕ, zero, suc, ◌+◌, ◌*◌, ◌/◌, ◌%◌, ◌<◌, ◌≤◌, List, [], ◌∷◌, ◌++◌, length, get_or, take, Some, refl, sym, ap, ◌∙◌, subst, arith}
use Rattle.std.proofs.Math.Nat.{mul-add, mul-le-mul_left}
use Rattle.bc_disk.specs.Disk.{DiskFacts, IsKept}
use Rattle.bc_disk.specs.declared.geometry.Geometry.{Geometry}
use Rattle.bc_image.specs.Sound.{IsNodeKey}
use Rattle.bc_image.specs.Tree.{AreSetsAt}
use Rattle.bc_inner.specs.Inner.{Inner}
use Rattle.bc_inner.specs.Loading.{IsHeldInner, IsInnerNotLoaded}
use Rattle.bc_key.specs.Key.{ptr_at}
use Rattle.bc_key.specs.declared.key.Key.{Key}
use Rattle.bc_replay.specs.declared.error.OpenError.{OpenError}
use Rattle.bc_replay.specs.declared.error.OpenError.TheVariants as errors
use Rattle.bc_disk.specs.declared.disk.Device.TheVariants as device
use Rattle.bc_node.specs.declared.error.NodeError.{NodeError}
use Rattle.bc_node.specs.declared.error.NodeError.TheVariants as nodes
use Rattle.bc_replay.specs.Causes.{RisesWith}
use Rattle.bc_replay.proofs.Behind.{told_back}
use Rattle.bc_walk.proofs.Nodes.{inner_unread, told_so}
use Rattle.std.specs.Prelude.{Err}
use Rattle.bc_walk.specs.Walk.{IsNodeFault}
use Rattle.bc_tree.specs.Spine.{last_end}
use Rattle.bc_regrow.specs.Held.{AreHeldBelow, AreUnder, IsBelowCause, IsChildAt, IsInnerCause, open_node}

-- a node's sectors lie on the device
pub room_for : (g : Geometry) (key : Key) (sectors : ℕ) → IsNodeKey g key → g.bucket * g.nbuckets ≤ sectors → (ptr_at key 0).offset + g.node_sectors ≤ sectors
room_for g key sectors proper room =
    let at = (ptr_at key 0).offset in
    let lies = proper.ptrs 0 proper.some in
    let whole : at % g.bucket + g.node_sectors ≤ g.bucket = subst (λ n. at % g.bucket + n ≤ g.bucket) proper.size lies.whole in
    let below : at / g.bucket + 1 ≤ g.nbuckets = (let low = lies.bucket.1 in omega (arith, low)) in
    let most : g.bucket * (at / g.bucket + 1) ≤ g.bucket * g.nbuckets = mul-le-mul_left g.bucket below in
    let sum : g.bucket * (at / g.bucket + 1) ≡ g.bucket * (at / g.bucket) + g.bucket * 1 = mul-add g.bucket (at / g.bucket) 1 in
    let parts : g.bucket * (at / g.bucket) + at % g.bucket ≡ at = omega arith in
    omega (arith, whole, most, sum, parts, room)

-- ---- of a device that kept all

pub held_back : (g : Geometry) (d e : DiskFacts) (key : Key) (level from : ℕ) (inner : Inner) → IsKept d e → IsHeldInner g key level from e inner → IsHeldInner g key level from d inner
held_back g d e key level from inner kept (sets, held, is) = (sets, told_back (λ image. AreSetsAt g image level key sets) d e kept held, is)

pub cause_back : (g : Geometry) (level from : ℕ) (key : Key) (d e : DiskFacts) (why : OpenError) → IsKept d e → IsInnerCause g level from key e why → IsInnerCause g level from key d why
cause_back g level from key d e (errors.Fault device.Cache) kept so = tt
cause_back g level from key d e (errors.Fault device.Backing) kept so = absurd so
cause_back g level from key d e errors.Memory kept so = tt
cause_back g level from key d e (errors.PointerRange word) kept so = so
cause_back g level from key d e (errors.Node bucket why) kept so = told_back (λ image. IsNodeFault g image level from key why) d e kept so
cause_back g level from key d e (errors.Super k why) kept so = absurd so
cause_back g level from key d e errors.NoJournal kept so = absurd so
cause_back g level from key d e (errors.JournalGap a b) kept so = absurd so
cause_back g level from key d e (errors.JournalEnd seq) kept so = absurd so
cause_back g level from key d e (errors.Prio why) kept so = absurd so
cause_back g level from key d e errors.Uuid kept so = absurd so
cause_back g level from key d e (errors.TwoUses bucket) kept so = absurd so
cause_back g level from key d e (errors.NoSpare found) kept so = absurd so

-- ---- one more

pub held_more : (g : Geometry) (d : DiskFacts) (from : ℕ) (keys : List Key) (nodes : List Inner) (key : Key) (node : Inner) → AreHeldBelow g d from keys nodes → IsHeldInner g key 1 (last_end from keys) d node
    → AreHeldBelow g d from (keys ++ key ∷ []) (nodes ++ node ∷ [])
held_more g d from [] [] key node held one = (one, tt)
held_more g d from [] (n ∷ nodes) key node held one = absurd held
held_more g d from (k ∷ keys) [] key node held one = absurd held
held_more g d from (k ∷ keys) (n ∷ nodes) key node held one = (held.0, held_more g d k.end keys nodes key node held.1 one)

pub end_behind : (from : ℕ) (keys : List Key) (key : Key) → last_end from (keys ++ key ∷ []) ≡ key.end
end_behind from [] key = refl
end_behind from (k ∷ keys) key = end_behind k.end keys key

pub child_at : (from : ℕ) (keys : List Key) (i : ℕ) (key : Key) → i < length keys → key ≡ get_or keys i key → IsChildAt from keys (last_end from (take i keys)) key
child_at from [] i key low is = absurd (omega (arith, low))
child_at from (k ∷ keys) zero key low is = inl (refl, is)
child_at from (k ∷ keys) (suc i) key low is = inr (child_at k.end keys i key (omega (arith, low)) is)

-- ---- refusals

pub node_cause : (old new : DiskFacts) (g : Geometry) (level from : ℕ) (key : Key) (bucket : ℕ) (why : NodeError) → 0 < level → IsInnerNotLoaded g key level from old new why
    → IsInnerCause g level from key old (open_node bucket why)
node_cause old new g level from key bucket (nodes.First cause) above so =
    told_so old.holds (λ image. (bucket ≡ bucket) × IsNodeFault g image level from key (nodes.First cause)) (λ image. IsNodeFault g image level from key (nodes.First cause)) (λ image f. f.1)
    (inner_unread old new g level from key bucket (nodes.First cause) above so)
node_cause old new g level from key bucket nodes.Ranges above so =
    told_so old.holds (λ image. (bucket ≡ bucket) × IsNodeFault g image level from key nodes.Ranges) (λ image. IsNodeFault g image level from key nodes.Ranges) (λ image f. f.1)
    (inner_unread old new g level from key bucket nodes.Ranges above so)
node_cause old new g level from key bucket nodes.Fault above so = tt
node_cause old new g level from key bucket nodes.Memory above so = tt

pub node_rises : (T : Type 0) (old new : DiskFacts) (g : Geometry) (level from : ℕ) (key : Key) (bucket : ℕ) (why : NodeError) → IsInnerNotLoaded g key level from old new why
    → RisesWith {T = T} (Err (open_node bucket why)) old.faults new.faults
node_rises T old new g level from key bucket (nodes.First cause) so = so.1.1
node_rises T old new g level from key bucket nodes.Ranges so = so.1.1
node_rises T old new g level from key bucket nodes.Fault so = so.1
node_rises T old new g level from key bucket nodes.Memory so = elim so [ inl none ↦ none.1 | inr good ↦ good.1 ]

pub below_back : (g : Geometry) (from : ℕ) (keys : List Key) (d e : DiskFacts) (why : OpenError) → IsKept d e → IsBelowCause g from keys e why → IsBelowCause g from keys d why
below_back g from keys d e why kept (inl memory) = inl memory
below_back g from keys d e why kept (inr (low, key, child, cause)) = inr (low, key, child, cause_back g 1 low key d e why kept cause)

pub nodes_back : (g : Geometry) (d e : DiskFacts) (from : ℕ) (keys : List Key) (nodes : List Inner) → IsKept d e → AreHeldBelow g e from keys nodes → AreHeldBelow g d from keys nodes
nodes_back g d e from [] [] kept held = tt
nodes_back g d e from [] (node ∷ nodes) kept held = absurd held
nodes_back g d e from (key ∷ keys) [] kept held = absurd held
nodes_back g d e from (key ∷ keys) (node ∷ nodes) kept held = (held_back g d e key 1 from node kept held.0, nodes_back g d e key.end keys nodes kept held.1)

pub under_back : (g : Geometry) (d e : DiskFacts) (root : Inner) (nodes : List Inner) → IsKept d e → AreUnder g e root nodes → AreUnder g d root nodes
under_back g d e root nodes kept (inl none) = inl none
under_back g d e root nodes kept (inr (not_one, held)) = inr (not_one, nodes_back g d e root.from root.children nodes kept held)
