-- An inner node, read from a device.
use Rattle.std.specs.Prelude.{ℕ, List}
use Rattle.bc_disk.specs.Disk.{DiskFacts, IfTold, IsCounted}
use Rattle.bc_disk.specs.declared.geometry.Geometry.{Geometry}
use Rattle.bc_image.specs.Sound.{KeepsRange}
use Rattle.bc_image.specs.Tree.{AreSetsAt, node_of}
use Rattle.bc_key.specs.Key.{ptr_at}
use Rattle.bc_key.specs.Words.{ptr_word}
use Rattle.bc_key.specs.declared.key.Key.{Key}
use Rattle.bc_node.specs.Loading.{IsUnread, good}
use Rattle.bc_node.specs.declared.error.NodeError.{NodeError}
use Rattle.bc_node.specs.declared.error.NodeError.TheVariants.{Ranges}
use Rattle.bc_set.specs.declared.set.Set.{Set}
use Rattle.bc_set.specs.declared.set.SetKind.TheVariants.{Children}
use Rattle.bc_inner.specs.Inner.{Inner, IsInnerOf}

-- what a device, where it tells what it holds, has as the sets of the node of a level that a key points to
abbrev pub AreInnerSets : Geometry → Key → ℕ → DiskFacts → List Set → Type 0
AreInnerSets g key level facts sets = IfTold facts.holds (λ image. AreSetsAt g image level key sets)

-- the inner node that a key points to, of a range that begins at a sector
abbrev pub IsHeldInner : Geometry → Key → ℕ → ℕ → DiskFacts → Inner → Type 0
IsHeldInner g key level from facts inner = (sets : List Set) × AreInnerSets g key level facts sets × IsInnerOf g key level from sets inner

-- Why that node wasn't read: its sets weren't, or some key of theirs lies outside the range, or its children don't cover this.
abbrev pub IsInnerNotLoaded : Geometry → Key → ℕ → ℕ → DiskFacts → DiskFacts → NodeError → Type 0
IsInnerNotLoaded g key level from old new Ranges =
    ((sets : List Set) × AreInnerSets g key level old sets × ¬ (KeepsRange (node_of level from key sets))) × IsCounted good old new
IsInnerNotLoaded g key level from old new e = IsUnread g (ptr_word (ptr_at key 0)) Children (ptr_at key 0).offset old new e
