-- From a node's bytes to what a device holds.
use Rattle.std.proofs.Common.{◌≡◌, inr, ℕ, ◌*◌, List, length, Option, Some, None, sym, subst}
use Rattle.std.specs.Prelude.{Result, Ok, Err, IfOk, IfErr, Vec}
use Rattle.std.specs.declared.alloc.Global.{Global}
use Rattle.bc_model.specs.Sector.{Image, Value, Gives, values_of}
use Rattle.bc_disk.specs.Disk.{DiskFacts, IfTold, IsRead, IsCounted}
use Rattle.bc_disk.specs.declared.geometry.Geometry.{Geometry}
use Rattle.bc_record.specs.Sectors.{bytes_in, Has}
use Rattle.bc_record.proofs.Parts.{bytes_in-has}
use Rattle.bc_set.specs.declared.set.Set.{Set}
use Rattle.bc_set.specs.declared.set.SetKind.{SetKind}
use Rattle.bc_set.specs.SetBytes.{IsRefused}
use Rattle.bc_node.specs.declared.error.NodeError.{NodeError}
use Rattle.bc_node.specs.declared.error.NodeError.TheVariants.{First, Ranges, Fault, Memory}
use Rattle.bc_node.specs.Cause.{IsCause}
use Rattle.bc_node.specs.Sets.{AreSetsOf, AreSetsFrom}
use Rattle.bc_node.specs.Loading.{AreHeldSets, IsUnread, good}

told : (o : Option Image) (P : Image → Type 0) (at : ℕ) (values : List Value) → IfTold o (λ held. Gives at values (λ s v. v ≡ held s)) → ((image : Image) → Has image at values → P image) → IfTold o P
told None P at values read all = tt
told (Some image) P at values read all = all image read

pub held_so : (g : Geometry) (word : ℕ) (kind : SetKind) (at : ℕ) (bytes : List ℕ) (d : DiskFacts) (r : Result (Vec Set Global) NodeError) → IsRead at (values_of bytes) d
    → IfOk r (λ sets. AreSetsOf g word kind bytes sets.items) → IfOk r (λ sets. AreHeldSets g word kind at d sets.items)
held_so g word kind at bytes d (Ok sets) read found = told d.holds (λ image. AreSetsFrom g word kind at image sets.items) at (values_of bytes) read (λ image has. found image at has)
held_so g word kind at bytes d (Err e) read found = tt

pub unread_so : (g : Geometry) (word : ℕ) (kind : SetKind) (at : ℕ) (bytes : List ℕ) (old new : DiskFacts) (r : Result (Vec Set Global) NodeError) → length bytes ≡ 512 * g.node_sectors → IsRead at (values_of bytes) old
    → IsCounted good old new → IfErr r (IsCause word g.set_magic kind bytes) → IfErr r (IsUnread g word kind at old new)
unread_so g word kind at bytes old new (Ok sets) whole read counted refused = tt
unread_so g word kind at bytes old new (Err (First cause)) whole read counted refused = (
  told old.holds (λ image. IsRefused word g.set_magic kind (bytes_in image at g.node_sectors) cause) at (values_of bytes) read
      (λ image has. subst (λ (bs : List ℕ). IsRefused word g.set_magic kind bs cause) (sym (bytes_in-has image at g.node_sectors bytes whole has)) refused),
  counted,
)
unread_so g word kind at bytes old new (Err Ranges) whole read counted refused = elim refused [ ]
unread_so g word kind at bytes old new (Err Fault) whole read counted refused = elim refused [ ]
unread_so g word kind at bytes old new (Err Memory) whole read counted refused = inr counted
