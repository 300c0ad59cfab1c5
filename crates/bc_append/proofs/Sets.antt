-- The set of what is pending of a leaf in memory, as the core sees it.
use Rattle.std.proofs.Common.{◌≡◌, ◌≢◌, ℕ, ◌+◌, ◌*◌, ◌≤◌, true, List, refl, ap, ◌∙◌, arith, inl, inr}
use Rattle.std.specs.Prelude.{if◌then◌else◌, length, take}
use Rattle.std.proofs.lemmas.Bool.{cases_lt}
use Rattle.std.proofs.lemmas.List.{length-take-le}
use Rattle.std.proofs.lemmas.List.Elements.{All-weaker}
use Rattle.bc_disk.specs.declared.geometry.Geometry.{Geometry}
use Rattle.bc_extent.specs.Extents.{IsRange}
use Rattle.bc_facts.proofs.Written.{set_written}
use Rattle.bc_facts.specs.Layout.{IsLayoutOf}
use Rattle.bc_facts.specs.Seen.{seen_set}
use Rattle.bc_key.specs.Key.{IsExtent}
use Rattle.bc_key.specs.Words.{ptr_word}
use Rattle.bc_key.specs.declared.key.Key.{Key}
use Rattle.bc_leaves.specs.Parts.{leaf_owner}
use Rattle.bc_meta.proofs.Lists.{by_test}
use Rattle.bc_meta.specs.Layout.{Layout, set_len}
use Rattle.bc_meta.specs.Tree.{NodeSet, Owner}
use Rattle.bc_model.specs.Sector.{Value, values_of}
use Rattle.bc_node.specs.Leaf.{AreLastOfAll, IsFull, Leaf, pending_set}
use Rattle.bc_nodes_known.specs.Nodes.{IsSetOf}
use Rattle.bc_set.specs.Records.{set_sectors}
use Rattle.bc_set.specs.SetBytes.{AreSetKeys}
use Rattle.bc_set.specs.declared.set.SetKind.TheVariants.{Extents}
use Rattle.bc_shares.specs.Shares.{LeafShare}
use Rattle.bc_place.specs.bc_machine.Containers.{IsLeafFor}
use Rattle.bc_whole.specs.State.{Opening}
use Rattle.bc_append.specs.Append.{BeginWithSet, values_in}
use Rattle.bc_append.proofs.Turned.{turned_says}

-- as the core sees it
abbrev pub set_seen : Geometry → Leaf → NodeSet
set_seen g leaf = seen_set g true (pending_set leaf)

abbrev owner_by : ℕ → Owner
owner_by word = record { word = word; leaf = true }

pub len_is : (g : Geometry) (w : Layout) (leaf : Leaf) → IsLayoutOf g w
    → set_len w (set_seen g leaf) ≡ set_sectors g (pending_set leaf)
len_is g w leaf divided = divided.sets.long (owner_by 0) (pending_set leaf)

pub fits_in : (g : Geometry) (leaf : Leaf) → ¬ (IsFull g leaf)
    → leaf.taken + set_sectors g (pending_set leaf) ≤ g.node_sectors
fits_in g leaf free = elim (cases_lt g.node_sectors (leaf.taken + set_sectors g (pending_set leaf))) [
  | inl more ↦ absurd (free more)
  | inr few ↦ few
]

keys_proper : (list keys : List Key) → AreLastOfAll list keys → AreSetKeys Extents keys
keys_proper list keys is = record {
  each = All-weaker IsRange IsExtent (λ (k : Key) range. range.0) keys is.order.0;
  order = is.order.1;
}

-- behind other sets, the values are those of the set alone
values_behind : (g : Geometry) (leaf : Leaf) (bytes : List ℕ) → leaf.taken ≢ 0
    → values_in g leaf bytes ≡ values_of (take (512 * set_sectors g (pending_set leaf)) bytes)
values_behind g leaf bytes some = by_test leaf.taken 0
    (λ b. values_of (take (512 * (if b then g.node_sectors else set_sectors g (pending_set leaf)))
    bytes) ≡ values_of (take (512 * set_sectors g (pending_set leaf)) bytes))
    (λ none. absurd (some none)) (λ other. refl)

-- What is pending in memory is what is pending in the core.
pub is_set : (w : Opening) (x : LeafShare) (leaf : Leaf) (g : Geometry) (bytes : List ℕ)
    → IsLeafFor w x leaf → IsLayoutOf g w.layout → ¬ (IsFull g leaf) → leaf.taken ≢ 0
    → BeginWithSet g leaf bytes → length bytes ≡ 512 * g.node_sectors
    → IsSetOf w leaf x.leaf (set_seen g leaf) (values_in g leaf bytes)
is_set w x leaf g bytes h divided free some set whole =
    let room = fits_in g leaf free in
    let long = len_is g w.layout leaf divided in
    let n = set_sectors g (pending_set leaf) in
    let sectors = divided.node_sectors in
    let front : length (take (512 * n) bytes) ≡ 512 * n =
    length-take-le (512 * n) bytes (omega (arith, whole, room)) in
    let proper = keys_proper h.lists.added leaf.pending h.lists.last_added in
    record {
      seq = refl;
      says = λ s. turned_says leaf.pending s h.lists.last_added.order ∙ h.pending s;
      room = omega (arith, long, room, sectors);
      spelled = ap (λ (vs : List Value). w.layout.sets.spelled (leaf_owner x.leaf) vs)
          (values_behind g leaf bytes some)
          ∙ ap (λ (o : Owner). w.layout.sets.spelled o (values_of (take (512 * n) bytes)))
          (ap owner_by h.at.word)
          ∙ set_written g w.layout divided (owner_by (ptr_word leaf.ptr)) (take (512 * n) bytes)
          (pending_set leaf) front (set.part Extents proper);
    }
