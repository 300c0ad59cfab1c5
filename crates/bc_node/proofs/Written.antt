-- What was written is read.
use Rattle.std.proofs.Common.{◌≡◌, ℕ, ◌+◌, ◌-◌, ◌*◌, ◌<◌, ◌≤◌, List, [], ◌∷◌, length, take, drop, replicate, slice_index, refl, sym, ap, ◌∙◌, arith}
use Rattle.std.proofs.lemmas.List.{ext_get_or, get_or-take, get_or-drop, get_or-replicate, length-take-le, length-drop, length-replicate}
use Rattle.bc_model.specs.Sector.{Image, values_of}
use Rattle.bc_model.specs.Pattern.{zeros}
use Rattle.bc_model.proofs.Cases.{by_le}
use Rattle.bc_model.proofs.Sectors.{values_whole}
use Rattle.bc_disk.specs.Bytes.{image_of}
use Rattle.bc_disk.specs.declared.geometry.Geometry.{Geometry}
use Rattle.bc_disk.proofs.Sectors.{at_run-sectors}
use Rattle.bc_record.specs.Kind.{NoneFound}
use Rattle.bc_record.specs.Sectors.{Has}
use Rattle.bc_record.proofs.Blocks.{blocks_hold, block_some}
use Rattle.bc_record.proofs.Parts.{length-bytes_in}
use Rattle.bc_record.proofs.Found.{reads_back}
use Rattle.bc_set.specs.declared.set.Set.{Set}
use Rattle.bc_set.specs.declared.set.SetKind.{SetKind}
use Rattle.bc_set.specs.SetBytes.{AreSetKeys, bytes_of}
use Rattle.bc_set.specs.Records.{set_kind, set_sectors, SetFound}
use Rattle.bc_set.proofs.Records.{set_codec, none_in_zeros}
use Rattle.bc_set.proofs.NodeSets.{alone}
use Rattle.bc_node.specs.Sets.{AreSetsFrom, IsClear}
use Rattle.bc_node.specs.Writing.{HasSet}

pub found_written : (g : Geometry) (word : ℕ) (kind : SetKind) (image : Image) (end place : ℕ) (s : Set) (bytes : List ℕ) → HasSet g word s bytes → AreSetKeys kind s.keys → 512 * set_sectors g s ≤ length bytes
    → Has image place (values_of (take (512 * set_sectors g s) bytes)) → place + set_sectors g s ≤ end → SetFound g word kind image end place s
found_written g word kind image end place s bytes set keys room has inside =
    let size = set_sectors g s in
    reads_back (set_kind g word kind) (set_codec g word kind) image end place size (take (512 * size) bytes) s (length-take-le (512 * size) bytes room) (set.part kind keys) has inside

-- a sector behind the set is zeros
zero_sector : (bytes : List ℕ) (low k : ℕ) → 512 * (k + 1) ≤ length bytes → low ≤ 512 * k → ((j : ℕ) → low ≤ j → slice_index bytes j ≡ 0) → image_of bytes k ≡ zeros
unfolding zeros
zero_sector bytes low k room behind empty =
    let long = length-drop (512 * k) bytes in
    let one : length (take 512 (drop (512 * k) bytes)) ≡ 512 = length-take-le 512 (drop (512 * k) bytes) (omega (arith, long, room)) in
    ext_get_or 0 (take 512 (drop (512 * k) bytes)) (replicate 512 0) (one ∙ sym (length-replicate {A = ℕ} 512 0)) (λ j inside.
    get_or-take 512 (drop (512 * k) bytes) j 0 (omega (arith, inside, one)) ∙ get_or-drop (512 * k) bytes j 0 ∙ empty (512 * k + j) (omega (arith, behind))
    ∙ sym (get_or-replicate 512 j 0 0 (omega (arith, inside, one))))

none_past : (g : Geometry) (word : ℕ) (kind : SetKind) (image : Image) (end place : ℕ) (s : Set) → end ≤ place → SetFound g word kind image end place s → ⊥
none_past g word kind image end place s low found =
    let room = found.whole.header.room in
    omega (arith, room, length-bytes_in image place (end - place), low)

-- behind a first set the node has zeros
pub clear_first : (g : Geometry) (word from : ℕ) (image : Image) (s : Set) (bytes : List ℕ) → length bytes ≡ 512 * g.node_sectors → HasSet g word s bytes → Has image from (values_of bytes) → IsClear g from (set_sectors g s) image
clear_first g word from image s bytes whole set has place low high =
    let held = blocks_hold g.block (bytes_of s) (block_some g) in
    let k = place - from in
    let at : from + k ≡ place = omega (arith, low) in
    let few : k < g.node_sectors = omega (arith, high, low) in
    ap image (sym at) ∙ sym (has (from + k) (image_of bytes k) (rw (values_whole g.node_sectors bytes whole) (at_run-sectors from g.node_sectors k (from + k) bytes few refl)))
    ∙ zero_sector bytes (bytes_of s) k (omega (arith, whole, few)) (omega (arith, held, low)) set.zeros

-- where a node has zeros alone, no set is found
pub none_where_clear : (g : Geometry) (word : ℕ) (kind : SetKind) (from taken : ℕ) (image : Image) → IsClear g from taken image → NoneFound (set_kind g word kind) image (from + g.node_sectors) (from + taken)
none_where_clear g word kind from taken image clear t there =
    by_le (from + g.node_sectors) (from + taken) (λ _. ⊥)
    (λ out. none_past g word kind image (from + g.node_sectors) (from + taken) t out there)
    (λ inside. none_in_zeros g word kind image (from + g.node_sectors) (from + taken) t (clear (from + taken) (omega arith) (omega (arith, inside))) there)

pub first_written : (g : Geometry) (word : ℕ) (kind : SetKind) (from : ℕ) (image : Image) (s : Set) (bytes : List ℕ) → length bytes ≡ 512 * g.node_sectors → HasSet g word s bytes → AreSetKeys kind s.keys
    → Has image from (values_of bytes) → AreSetsFrom g word kind from image (s ∷ [])
first_written g word kind from image s bytes whole set keys has =
    let end = from + g.node_sectors in
    let found = reads_back (set_kind g word kind) (set_codec g word kind) image end from g.node_sectors bytes s whole (set.whole kind keys) has (omega arith) in
    alone g word kind image end from s found (none_where_clear g word kind from (set_sectors g s) image (clear_first g word from image s bytes whole set has))
