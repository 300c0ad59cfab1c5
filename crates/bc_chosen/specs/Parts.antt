-- The parts of an opened pair that are in memory, and what they stand for.
use Rattle.std.specs.Prelude.{List}
use Rattle.bc_alloc.specs.Reserves.{Reserves}
use Rattle.bc_bucket.specs.Buckets.{Buckets}
use Rattle.bc_disk.specs.declared.geometry.Geometry.{Geometry}
use Rattle.bc_facts.specs.Layout.{IsLayoutOf}
use Rattle.bc_image.specs.Pair.{Pair}
use Rattle.bc_image.specs.Reading.{IsView, Reading, View}
use Rattle.bc_image.specs.Sound.{HasSoundParts}
use Rattle.bc_known.specs.Laws.{IsSound}
use Rattle.bc_leaves.specs.Parts as parts
use Rattle.bc_meta.specs.Layout.{Layout}
use Rattle.bc_opening.specs.Choices.{Choices, MayBeChosen}
use Rattle.bc_opening.specs.Opening.{IsOpeningOf}
use Rattle.bc_pending.specs.Entries.{keys_in}
use Rattle.bc_pending.specs.Pieces.{ArePending}
use Rattle.bc_pending.specs.declared.numbered.Numbered.{Numbered}
use Rattle.bc_recover.specs.Known.{AreKnown}
use Rattle.bc_recover.specs.Spare.{HasReserves}
use Rattle.bc_regrow.specs.Parts.{inner_nodes, leaf_nodes}
use Rattle.bc_regrow.specs.Tree.{IsTreeOf}
use Rattle.bc_tree.specs.Spine.{Spine}
use Rattle.bc_whole.specs.State.{Opening}
use Rattle.bc_chosen.specs.Lists.{kept_by, listed_at}
use Rattle.bc_chosen.specs.Marks.{mark_at}
use Rattle.bc_chosen.specs.Oldest.{last_gc_at}
use Rattle.bc_chosen.specs.Slots.{node_at, node_by, slot_at}
use Rattle.bc_chosen.specs.Waiting.{waiting_at}

pub record Parts : Type 0 where
  pub buckets : Buckets
  pub reserves : Reserves
  pub tree : Spine
  -- by the numbers of the leaves, the keys that wait for their next sets
  pub pending : List (List Numbered)

-- they are those of a pair that was read
pub record ArePartsOf (g : Geometry) (r : Reading) (x : Parts) : Type 0 where
  pub buckets : AreKnown g r x.buckets
  pub reserves : HasReserves g r x.reserves
  pub tree : IsTreeOf g r.nodes x.tree
  pub pending : ArePending x.tree.leaves (keys_in r.entries) x.pending

-- what a program with these parts has chosen
abbrev pub choices_of : Geometry → Reading → Parts → Choices
choices_of g r x = record {
  leaf = node_at (leaf_nodes r.nodes);
  inner = node_by g (inner_nodes r.nodes);
  slot = slot_at x.tree.leaves;
  pending = waiting_at x.pending;
  listed = listed_at g x.reserves;
  kept = kept_by g x.reserves;
  mark = mark_at g x.buckets;
  last_gc = last_gc_at g r.gens x.buckets;
}

-- It may be chosen.
abbrev pub LawChosen : Type 0
LawChosen =
    (p : Pair) (v : View) (x : Parts) → IsView p v → HasSoundParts p v
    → ArePartsOf v.geometry v.reading x
    → MayBeChosen v.geometry v.reading (choices_of v.geometry v.reading x)

-- So the parts stand for an opening of the machine, which is sound.
abbrev pub LawStands : Type 0
LawStands =
    (p : Pair) (v : View) (layout : Layout) (x : Parts) → IsView p v → HasSoundParts p v
    → IsLayoutOf v.geometry layout → ArePartsOf v.geometry v.reading x
    → (w : Opening) × (state : parts.State)
    × IsOpeningOf p v layout (choices_of v.geometry v.reading x) w state × IsSound w state
