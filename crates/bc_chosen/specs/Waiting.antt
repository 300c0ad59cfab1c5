-- The pieces of keys that leaves were given, as the machine has them: the newest first.
use Rattle.std.specs.Prelude.{ℕ, ◌<◌, List, [], length, map, reverse, slice_index_or}
use Rattle.bc_disk.specs.declared.geometry.Geometry.{Geometry}
use Rattle.bc_facts.specs.Seen.{seen_entries}
use Rattle.bc_jset.specs.Entries.{AreEntries, FoundEntry}
use Rattle.bc_leaves.specs.Parts.{Pending}
use Rattle.bc_model.specs.Sector.{Image}
use Rattle.bc_opening.specs.Cut.{AreCutFrom}
use Rattle.bc_pending.specs.Entries.{keys_in}
use Rattle.bc_pending.specs.Pieces.{ArePending}
use Rattle.bc_pending.specs.declared.numbered.Numbered.{Numbered}
use Rattle.bc_spine.specs.declared.leaf.LeafRange.{LeafRange}

abbrev pub waiting : Numbered → Pending
waiting piece = record { number = piece.entry; key = piece.key }

abbrev pub all_waiting : List Numbered → List Pending
all_waiting pieces = reverse (map waiting pieces)

abbrev pub waiting_at : List (List Numbered) → ℕ → List Pending
waiting_at lists i = all_waiting (slice_index_or lists i [])

-- Each leaf has what the keys of the entries say in its range.
abbrev pub LawWaiting : Type 0
LawWaiting =
    (g : Geometry) (image : Image) (entries : List FoundEntry) (leaves : List LeafRange) (lists
    : List (List Numbered)) → AreEntries g image entries
    → ArePending leaves (keys_in entries) lists
    → (i : ℕ) (d : LeafRange) → i < length leaves
    → AreCutFrom (slice_index_or leaves i d).from (slice_index_or leaves i d).end
    (seen_entries g entries) (waiting_at lists i)
