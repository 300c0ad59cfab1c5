-- A leaf that was read, with keys, or why it wasn't.
use Rattle.std.proofs.Common.{◌≡◌, inr, List, sym, subst}
use Rattle.std.specs.Prelude.{Result, Ok, Err, IfOk, IfErr, OnOk}
use Rattle.bc_disk.specs.Disk.{DiskFacts, IsCounted}
use Rattle.bc_disk.specs.declared.geometry.Geometry.{Geometry}
use Rattle.bc_key.specs.declared.key.Key.{Key}
use Rattle.bc_node.specs.Leaf.{Leaf}
use Rattle.bc_node.specs.Loading.{IsHeldLeaf, IsNotLoaded, good}
use Rattle.bc_node.specs.declared.error.NodeError.{NodeError}
use Rattle.bc_node.specs.declared.error.NodeError.TheVariants as nodes
use Rattle.bc_pending.specs.declared.numbered.Numbered.{Numbered}
use Rattle.bc_spine.specs.declared.leaf.LeafRange.{LeafRange}
use Rattle.bc_reload.specs.Added.{HasAdded}
use Rattle.bc_reload.specs.Reload.{IsNotReloaded, IsReloaded, NamesLeaf}

pub refused_by : (g : Geometry) (range : LeafRange) (old new : DiskFacts) (key : Key) → NamesLeaf range key → (why : NodeError) → IsNotLoaded g key range.from old new why → IsNotReloaded g range old new why
refused_by g range old new key names why not = (key, names, not)

pub found_by : (g : Geometry) (range : LeafRange) (more : List Numbered) (facts : DiskFacts) (key : Key) → NamesLeaf range key → (read : Leaf) → IsHeldLeaf g key range.from facts read
    → (r : Result Leaf NodeError) → IfOk r (HasAdded more read) → IfOk r (IsReloaded g range more facts)
found_by g range more facts key names read held (Ok leaf) added = record { key = key; names = names; read = read; held = held; added = added }
found_by g range more facts key names read held (Err e) added = tt

pub not_by : (g : Geometry) (range : LeafRange) (old new : DiskFacts) (key : Key) → NamesLeaf range key → IsCounted good old new → (r : Result Leaf NodeError) → IfErr r (λ e. e ≡ nodes.Memory) → IfErr r (IsNotReloaded g range old new)
not_by g range old new key names counted (Ok leaf) none = tt
not_by g range old new key names counted (Err e) none = subst (IsNotReloaded g range old new) (sym none) (key, names, inr counted)

pub read_by : (P : Type 0) → P → (r : Result Leaf NodeError) → OnOk r P
read_by P p (Ok leaf) = p
read_by P p (Err e) = tt
