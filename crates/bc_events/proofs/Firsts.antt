-- A node's first write is a write of the set with which it begins.
use Rattle.std.proofs.Common.{◌≡◌, ℕ, List, length, replicate, take, ◌-◌, Some, sym, ap, ◌∙◌}
use Rattle.std.proofs.Math.Seq.{take-append_seam}
use Rattle.bc_model.specs.Sector.{Value}
use Rattle.bc_model.specs.Pattern.{zeros}
use Rattle.bc_meta.specs.Tree.{NodeSet, Owner}
use Rattle.bc_meta.specs.Layout.{set_len}
use Rattle.bc_meta.specs.Places.{IsFirstWrite}
use Rattle.bc_leaves.specs.Parts.{leaf_owner, inner_owner}
use Rattle.bc_whole.specs.State.{OfLeaf, OfInner}
use Rattle.bc_whole.specs.State as whole
use Rattle.bc_events.specs.Writes.{draft_leaf, draft_inner, map_some, set_in}
use Rattle.bc_events.specs.Laws.{LawFirstWrite}

begins : (w : whole.Opening) (o : Owner) (set : NodeSet) (values : List Value) (sectors : ℕ)
    → sectors ≡ set_len w.layout set → IsFirstWrite w.layout o set values
    → set_in w o (take sectors values) ≡ Some set
begins w o set values sectors is first =
    let long : sectors ≡ length first.front =
    is ∙ sym (w.layout.sets.long o first.front set first.spelled) in
    ap (λ (vs : List Value). w.layout.sets.spelled o vs)
    (ap (λ n. take n values) long ∙ ap (λ (vs : List Value). take (length first.front) vs)
    first.values_are ∙ take-append_seam first.front
    (replicate (w.layout.node_sectors - set_len w.layout set) zeros)) ∙ first.spelled

pub law_first_write : LawFirstWrite
law_first_write w st x at set values is = (
  λ first. ap (map_some (OfLeaf x.slot (draft_leaf x)))
      (begins w (leaf_owner (draft_leaf x)) set values x.sectors is first),
  λ first. ap (map_some (OfInner x.slot (draft_inner x)))
      (begins w (inner_owner (draft_inner x)) set values x.sectors is first),
)
