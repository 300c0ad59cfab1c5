-- The nodes of an opened pair, as the machine has them.
use Rattle.std.specs.Prelude.{◌≡◌, false}
use Rattle.bc_disk.specs.declared.geometry.Geometry.{Geometry}
use Rattle.bc_meta.specs.Facts.{In}
use Rattle.bc_meta.specs.Layout.{Layout}
use Rattle.bc_meta.specs.Records as records
use Rattle.bc_meta.specs.Records.{no_set}
use Rattle.bc_leaves.specs.Parts as parts
use Rattle.bc_image.specs.Pair.{Pair}
use Rattle.bc_image.specs.Reading.{View}
use Rattle.bc_image.specs.Tree.{Node}
use Rattle.bc_facts.specs.Seen.{bucket_of, seen_sets}
use Rattle.bc_whole.specs.State.{Opening}
use Rattle.bc_opening.specs.Choices.{Choices}
use Rattle.bc_opening.specs.Opening.{IsOpenedAs, owner_of}
use Rattle.bc_opening.specs.Read.{is_leaf}

-- with the sets that were read, and no other one under way
abbrev pub opened_node : Geometry → Node → records.Node
opened_node g n = record {
  loose = false;
  owner = owner_of n;
  sets = seen_sets g (is_leaf n.level) n.sets;
  last = no_set;
  sent = false;
  failed = false;
}

abbrev pub LawNodes : Type 0
LawNodes =
    (p : Pair) (v : View) (layout : Layout) (c : Choices) (w : Opening) (x : parts.State)
    → IsOpenedAs p v layout c w x → (n : Node) → In n v.reading.nodes
    → x.records.nodes (bucket_of v.geometry n.key) ≡ opened_node v.geometry n
