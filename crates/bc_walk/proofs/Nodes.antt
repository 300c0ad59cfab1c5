-- Nodes that are read.
use Rattle.std.proofs.Common.{◌≡◌, inl, inr, ℕ, zero, suc, ◌<◌, List, Option, Some, None, refl, sym, subst, arith}
use Rattle.std.specs.Prelude.{Err, All, nat_lt, true}
use Rattle.std.proofs.lemmas.Bool.{lt-ltb}
use Rattle.bc_disk.specs.Disk.{DiskFacts, IfTold}
use Rattle.bc_disk.specs.declared.geometry.Geometry.{Geometry}
use Rattle.bc_model.specs.Sector.{Image}
use Rattle.bc_image.specs.Children.{children_of}
use Rattle.bc_image.specs.Sound.{KeepsRange, LiesWithin, IsNodeKey}
use Rattle.bc_image.specs.Tree.{AreSetsAt, kind_at, node_of, set_keys}
use Rattle.bc_inner.specs.Inner.{Inner}
use Rattle.bc_inner.specs.Loading.{IsHeldInner, IsInnerNotLoaded}
use Rattle.bc_key.specs.Key.{ptr_at}
use Rattle.bc_key.specs.Words.{ptr_word}
use Rattle.bc_key.specs.declared.key.Key.{Key}
use Rattle.bc_node.specs.Loading.{AreLeafSets, IsUnread as IsNotRead}
use Rattle.bc_node.specs.declared.error.NodeError.{NodeError}
use Rattle.bc_node.specs.declared.error.NodeError.TheVariants as nodes
use Rattle.bc_record.specs.Places.{bucket_at}
use Rattle.bc_record.specs.Sectors.{bytes_in}
use Rattle.bc_set.specs.SetBytes.{IsRefused}
use Rattle.bc_set.specs.declared.error.SetError.{SetError}
use Rattle.bc_set.specs.declared.set.Set.{Set}
use Rattle.bc_set.specs.declared.set.SetKind.{SetKind}
use Rattle.bc_set.specs.declared.set.SetKind.TheVariants.{Extents, Children}
use Rattle.bc_walk.specs.declared.error.WalkError.TheVariants as errors
use Rattle.bc_walk.specs.Loading.{error_of, IsUnread, AreChildren, RisesWith}
use Rattle.bc_walk.specs.Seen.{IsNodeIn}
use Rattle.bc_walk.specs.Walk.{IsWhole, IsNodeFault}

pub told_so : (o : Option Image) (P Q : Image → Type 0) → ((image : Image) → P image → Q image) → IfTold o P → IfTold o Q
told_so None P Q so p = tt
told_so (Some image) P Q so p = so image p

pub node_in : (g : Geometry) (key : Key) (bucket : ℕ) → IsNodeKey g key → bucket ≡ bucket_at g (ptr_at key 0).offset → IsNodeIn g key bucket
node_in g key bucket proper is = record {
  proper = proper;
  place = (ptr_at key 0, (let test : nat_lt 0 key.count ≡ true = lt-ltb 0 key.count proper.some in rw test refl), sym is);
  within = subst (λ n. n < g.nbuckets) (sym is) (proper.ptrs 0 proper.some).bucket.1;
}

kind_above : (level : ℕ) → 0 < level → Children ≡ kind_at level
kind_above zero some = absurd (omega (arith, some))
kind_above (suc level) some = refl

first_cause : (d : DiskFacts) (g : Geometry) (level from : ℕ) (key : Key) (bucket word at : ℕ) (kind : SetKind) (cause : SetError) → word ≡ ptr_word (ptr_at key 0) → at ≡ (ptr_at key 0).offset → kind ≡ kind_at level
    → IfTold d.holds (λ image. IsRefused word g.set_magic kind (bytes_in image at g.node_sectors) cause) → IsUnread d g level from key bucket (errors.Node bucket (nodes.First cause))
first_cause d g level from key bucket word at kind cause words place same so =
    told_so d.holds (λ image. IsRefused word g.set_magic kind (bytes_in image at g.node_sectors) cause) (λ image. (bucket ≡ bucket) × IsNodeFault g image level from key (nodes.First cause))
    (λ image refused. (
      refl,
      subst (λ (k : SetKind). IsRefused (ptr_word (ptr_at key 0)) g.set_magic k (bytes_in image (ptr_at key 0).offset g.node_sectors) cause) same
          (subst (λ n. IsRefused (ptr_word (ptr_at key 0)) g.set_magic kind (bytes_in image n g.node_sectors) cause) place (subst (λ n. IsRefused n g.set_magic kind (bytes_in image at g.node_sectors) cause) words refused)),
    ))
    so

pub out_of_range : (d : DiskFacts) (g : Geometry) (level from : ℕ) (key : Key) (bucket : ℕ) (ss : List Set) → IfTold d.holds (λ image. AreSetsAt g image level key ss) → ¬ (KeepsRange (node_of level from key ss))
    → IsUnread d g level from key bucket (errors.Node bucket nodes.Ranges)
out_of_range d g level from key bucket ss held out =
    told_so d.holds (λ image. AreSetsAt g image level key ss) (λ image. (bucket ≡ bucket) × IsNodeFault g image level from key nodes.Ranges) (λ image at. (refl, (ss, at, out))) held

pub inner_unread : (old new : DiskFacts) (g : Geometry) (level from : ℕ) (key : Key) (bucket : ℕ) (why : NodeError) → 0 < level → IsInnerNotLoaded g key level from old new why → IsUnread old g level from key bucket (error_of bucket why)
inner_unread old new g level from key bucket (nodes.First cause) above so = first_cause old g level from key bucket (ptr_word (ptr_at key 0)) (ptr_at key 0).offset Children cause refl refl (kind_above level above) so.0
inner_unread old new g level from key bucket nodes.Ranges above so = out_of_range old g level from key bucket so.0.0 so.0.1 so.0.2
inner_unread old new g level from key bucket nodes.Fault above so = tt
inner_unread old new g level from key bucket nodes.Memory above so = tt

pub inner_rises : (T : Type 0) (old new : DiskFacts) (g : Geometry) (level from : ℕ) (key : Key) (bucket : ℕ) (why : NodeError) → IsInnerNotLoaded g key level from old new why → RisesWith {T = T} (Err (error_of bucket why)) old.faults new.faults
inner_rises T old new g level from key bucket (nodes.First cause) so = so.1.1
inner_rises T old new g level from key bucket nodes.Ranges so = so.1.1
inner_rises T old new g level from key bucket nodes.Fault so = so.1
inner_rises T old new g level from key bucket nodes.Memory so = elim so [ inl none ↦ none.1 | inr good ↦ good.1 ]

pub inner_children : (d : DiskFacts) (g : Geometry) (level from : ℕ) (key : Key) (inner : Inner) → IsHeldInner g key level from d inner → AreChildren d g level from key inner.children
inner_children d g level from key inner (ss, held, is) =
    told_so d.holds (λ image. AreSetsAt g image level key ss) (λ image. (sets : List Set) × IsWhole g image level from key sets × (inner.children ≡ children_of (set_keys sets)))
    (λ image at. (ss, record { stand = at; within = is.within }, is.children)) held

pub leaf_unread : (old new : DiskFacts) (g : Geometry) (from : ℕ) (key : Key) (bucket word at : ℕ) (why : NodeError) → word ≡ ptr_word (ptr_at key 0) → at ≡ (ptr_at key 0).offset → IsNotRead g word Extents at old new why
    → IsUnread old g 0 from key bucket (error_of bucket why)
leaf_unread old new g from key bucket word at (nodes.First cause) words place so = first_cause old g 0 from key bucket word at Extents cause words place refl so.0
leaf_unread old new g from key bucket word at nodes.Ranges words place so = absurd so
leaf_unread old new g from key bucket word at nodes.Fault words place so = tt
leaf_unread old new g from key bucket word at nodes.Memory words place so = tt

pub leaf_whole : (d : DiskFacts) (g : Geometry) (from : ℕ) (key : Key) (ss : List Set) → AreLeafSets g key d ss → All (LiesWithin 0 from key.end) (set_keys ss) → IfTold d.holds (λ image. IsWhole g image 0 from key ss)
leaf_whole d g from key ss held within =
    told_so d.holds (λ image. AreSetsAt g image 0 key ss) (λ image. IsWhole g image 0 from key ss) (λ image at. record { stand = at; within = record { within = within; cover = tt } }) held
