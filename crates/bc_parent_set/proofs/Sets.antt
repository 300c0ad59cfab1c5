-- The set of a node in memory that a change puts behind its others, as the core sees it.
use Rattle.std.proofs.Common.{◌≡◌, ℕ, ◌*◌, ◌<◌, Bool, true, false, List, [], ◌∷◌, refl, sym, ap, ◌∙◌, arith}
use Rattle.std.specs.Prelude.{All, if◌then◌else◌, length, map, take}
use Rattle.std.proofs.lemmas.List.{length-take-le}
use Rattle.std.proofs.lemmas.List.Elements.{All-head, All-tail}
use Rattle.bc_change.specs.bc_machine.Containers.{IsTreeInner, child_of}
use Rattle.bc_change.specs.bc_machine.World.{Origin}
use Rattle.bc_disk.specs.declared.geometry.Geometry.{Geometry}
use Rattle.bc_facts.proofs.Written.{set_written}
use Rattle.bc_facts.specs.Layout.{IsLayoutOf}
use Rattle.bc_facts.specs.Seen.{is_gone, seen_child, word_of}
use Rattle.bc_inner.specs.Inner.{Inner}
use Rattle.bc_key.specs.Words.{ptr_word}
use Rattle.bc_key.specs.declared.key.Key.{Key}
use Rattle.bc_leaves.specs.Parts.{Change, inner_owner}
use Rattle.bc_meta.proofs.Lists.{by_test}
use Rattle.bc_meta.specs.Layout.{Layout, set_len}
use Rattle.bc_meta.specs.Tree.{Child, Owner}
use Rattle.bc_model.specs.Sector.{Value, values_of}
use Rattle.bc_node.specs.Writing.{HasSet, set_of}
use Rattle.bc_append.specs.bc_nodes_known.Nodes.{IsParentSetOf}
use Rattle.bc_set.specs.Records.{set_sectors}
use Rattle.bc_set.specs.SetBytes.{AreSetKeys}
use Rattle.bc_set.specs.declared.set.SetKind.TheVariants.{Children}
use Rattle.bc_shares.specs.Shares.{InnerShare}
use Rattle.bc_tree.specs.Needs.{has_room, words}
use Rattle.bc_tree.proofs.Appends.{room_says}
use Rattle.bc_whole.specs.State.{Opening}
use Rattle.bc_parent_set.specs.Write.{PointsTo, parent_seen, parent_values}

abbrev owner_by : ℕ → Owner
owner_by word = record { word = word; leaf = false }

pub len_is : (g : Geometry) (w : Layout) (n : Inner) (keys : List Key) → IsLayoutOf g w
    → set_len w (parent_seen g n keys) ≡ set_sectors g (set_of n.seq keys)
len_is g w n keys divided = divided.sets.long (owner_by 0) (set_of n.seq keys)

-- behind other sets, the values are those of the set alone
pub values_behind : (g : Geometry) (n : Inner) (keys : List Key) (bytes : List ℕ) → 0 < n.taken
    → parent_values g n keys bytes
    ≡ values_of (take (512 * set_sectors g (set_of n.seq keys)) bytes)
values_behind g n keys bytes some = by_test n.taken 0
    (λ b. values_of (take (512 * (if b then g.node_sectors else set_sectors g (set_of n.seq keys)))
    bytes) ≡ values_of (take (512 * set_sectors g (set_of n.seq keys)) bytes))
    (λ none. absurd (omega (arith, some, none))) (λ other. refl)

pub is_set : (w : Opening) (change : Change) (slot : ℕ) (x : InnerShare) (n : Inner) (g : Geometry)
    (keys : List Key) (bytes : List ℕ) → IsTreeInner w change slot n x → IsLayoutOf g w.layout
    → has_room g n (words keys) ≡ true → AreSetKeys Children keys
    → HasSet g (ptr_word n.ptr) (set_of n.seq keys) bytes → length bytes ≡ 512 * g.node_sectors
    → IsParentSetOf w n x.inner (parent_seen g n keys) (parent_values g n keys bytes)
is_set w change slot x n g keys bytes h divided room kind set whole =
    let says = room_says g n keys room in
    let fits = says.2 in
    let long = len_is g w.layout n keys divided in
    let k = set_sectors g (set_of n.seq keys) in
    let sectors = divided.node_sectors in
    let front : length (take (512 * k) bytes) ≡ 512 * k =
    length-take-le (512 * k) bytes (omega (arith, whole, fits)) in record {
      seq = refl;
      room = omega (arith, long, fits, sectors);
      spelled = ap (λ (vs : List Value). w.layout.sets.spelled (inner_owner x.inner) vs)
          (values_behind g n keys bytes says.1)
          ∙ ap (λ (o : Owner). w.layout.sets.spelled o (values_of (take (512 * k) bytes)))
          (ap owner_by h.word)
          ∙ set_written g w.layout divided (owner_by (ptr_word n.ptr)) (take (512 * k) bytes)
          (set_of n.seq keys) front (set.part Children kind);
    }

-- its children are those of the keys in memory
abbrev child_by : ℕ → ℕ → ℕ → Bool → Child
child_by end bucket word gone = record { end = end; bucket = bucket; word = word; gone = gone }

pub children_seen : (g : Geometry) (o : Origin) (keys : List Key) → All (PointsTo g o) keys
    → map (seen_child g) keys ≡ map (child_of o.opening.machine) keys
children_seen g o [] all = refl
children_seen g o (k ∷ ks) all =
    ap (λ b. child_by k.end b (word_of k) (is_gone k) ∷ map (seen_child g) ks)
    (sym (All-head (PointsTo g o) k ks all))
    ∙ ap (λ (cs : List Child). child_of o.opening.machine k ∷ cs)
    (children_seen g o ks (All-tail (PointsTo g o) k ks all))
