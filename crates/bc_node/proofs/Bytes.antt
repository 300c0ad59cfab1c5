-- A node's sets in its bytes.
use Rattle.std.proofs.Common.{◌≡◌, ℕ, zero, suc, ◌+◌, ◌-◌, ◌*◌, ◌<◌, ◌≤◌, List, [], ◌∷◌, ◌++◌, length, take, drop, refl, sym, subst, ap, ◌∙◌, append_assoc, arith}
use Rattle.std.proofs.lemmas.List.{length-drop, length-take-le, take_all}
use Rattle.bc_model.proofs.Sectors.{values_whole}
use Rattle.bc_model.specs.Sector.{Image, values_of}
use Rattle.bc_disk.specs.Bytes.{image_of}
use Rattle.bc_disk.specs.declared.geometry.Geometry.{Geometry}
use Rattle.bc_disk.proofs.Sectors.{at_run-sectors}
use Rattle.bc_record.specs.Sectors.{Has, bytes_in, bytes_to, sector_bytes}
use Rattle.bc_record.specs.Kind.{Kind, sectors_of, IsFound, AreFound}
use Rattle.bc_record.proofs.Blocks.{node_blocks}
use Rattle.bc_record.proofs.Found.{takes_some, found_fits, next_blocks}
use Rattle.bc_record.proofs.Parts.{bytes_to-image_of}
use Rattle.bc_set.specs.declared.set.Set.{Set}
use Rattle.bc_set.specs.declared.set.SetKind.{SetKind}
use Rattle.std.specs.Prelude.{All}
use Rattle.std.proofs.lemmas.List.Elements.{All-nil, All-cons}
use Rattle.bc_set.specs.SetBytes.{IsSet, AreSetKeys}
use Rattle.bc_set.specs.Records.{set_kind, set_sectors, numbered_kind, SetFound}
use Rattle.bc_set.proofs.Records.{set_codec}
use Rattle.bc_node.specs.Sets.{AreSetsFrom, AreProper}

-- ---- one image in another

shifted : (a b : Image) (p q n : ℕ) → ((j : ℕ) → j < n → a (p + j) ≡ b (q + j)) → bytes_in a p n ≡ bytes_in b q n
unfolding bytes_in
shifted a b p q zero same = refl
shifted a b p q (suc n) same =
    let here : a p ≡ b q = ap a (let e : p ≡ p + 0 = omega arith in e) ∙ same 0 (omega arith) ∙ ap b (let e : q + 0 ≡ q = omega arith in e) in
    let rest = shifted a b (suc p) (suc q) n (λ j low. ap a (let e : suc p + j ≡ p + suc j = omega arith in e) ∙ same (suc j) (omega arith) ∙ ap b (let e : q + suc j ≡ suc q + j = omega arith in e)) in
    ap (λ v. sector_bytes v ++ bytes_in a (suc p) n) here ∙ ap (λ bs. sector_bytes (b q) ++ bs) rest

-- what a reader of the bytes has before it at a place
abbrev pub part_at : List ℕ → ℕ → List ℕ
part_at bytes place = take (length bytes - 512 * place) (drop (512 * place) bytes)

pub length-part_at : (bytes : List ℕ) (place : ℕ) → length (part_at bytes place) ≡ length bytes - 512 * place
length-part_at bytes place =
    let long = length-drop (512 * place) bytes in
    length-take-le (length bytes - 512 * place) (drop (512 * place) bytes) (omega (arith, long))

pub part_here : (n : ℕ) (bytes : List ℕ) (place : ℕ) → length bytes ≡ 512 * n → place ≤ n → bytes_to (image_of bytes) n place ≡ part_at bytes place
part_here n bytes place whole within =
    let width : 512 * (n - place) ≡ length bytes - 512 * place = omega (arith, whole) in
    bytes_to-image_of bytes n place within (omega (arith, whole)) ∙ ap (λ m. take m (drop (512 * place) bytes)) width

part_front : (bytes : List ℕ) → part_at bytes 0 ≡ bytes
part_front bytes = take_all (length bytes - 512 * 0) bytes (omega arith)

-- what stands in the bytes stands in an image that has these bytes
there : (n : ℕ) (bytes : List ℕ) (image : Image) (from place : ℕ) → length bytes ≡ 512 * n → Has image from (values_of bytes) → bytes_to (image_of bytes) n place ≡ bytes_to image (from + n) (from + place)
there n bytes image from place whole has =
    let width : from + n - (from + place) ≡ n - place = omega arith in
    sym (ap (bytes_in image (from + place)) width
    ∙ shifted image (image_of bytes) (from + place) place (n - place)
    (λ j low. ap image (let e : from + place + j ≡ from + (place + j) = omega arith in e) ∙ sector_there (place + j) (omega (arith, low))))
  where
    sector_there : (k : ℕ) → k < n → image (from + k) ≡ image_of bytes k
    sector_there k low = sym (has (from + k) (image_of bytes k) (rw (values_whole n bytes whole) (at_run-sectors from n k (from + k) bytes low refl)))

run_there : {A : Type 0} → (kind : Kind A) (n : ℕ) (bytes : List ℕ) (image : Image) (from place : ℕ) (es : List A) → length bytes ≡ 512 * n → Has image from (values_of bytes)
    → AreFound kind (image_of bytes) n place es → AreFound kind image (from + n) (from + place) es
run_there kind n bytes image from place [] whole has p = λ e found. p e (subst (λ (bs : List ℕ). kind.Begins bs e) (sym (there n bytes image from place whole has)) found)
run_there {A} kind n bytes image from place (e ∷ es) whole has p =
    let next : from + (place + sectors_of kind e) ≡ from + place + sectors_of kind e = omega arith in (
      subst (λ (bs : List ℕ). kind.Begins bs e) (there n bytes image from place whole has) p.0,
      subst (λ q. AreFound kind image (from + n) q es) next (run_there kind n bytes image from (place + sectors_of kind e) es whole has p.1),
    )

-- a set at the front is found at the first place
pub found_first : (g : Geometry) (word : ℕ) (kind : SetKind) (bytes : List ℕ) (s : Set) → length bytes ≡ 512 * g.node_sectors → IsSet word g.set_magic kind bytes s
    → SetFound g word kind (image_of bytes) g.node_sectors 0 s
found_first g word kind bytes s whole is = subst (λ (bs : List ℕ). IsSet word g.set_magic kind bs s) (sym (part_here g.node_sectors bytes 0 whole (omega arith) ∙ part_front bytes)) is

pub sets_there : (g : Geometry) (word : ℕ) (kind : SetKind) (bytes : List ℕ) (image : Image) (from : ℕ) (s : Set) (ss : List Set) → length bytes ≡ 512 * g.node_sectors → Has image from (values_of bytes)
    → IsSet word g.set_magic kind bytes s → AreFound (numbered_kind g word kind s.seq) (image_of bytes) g.node_sectors (set_sectors g s) ss → AreSetsFrom g word kind from image (s ∷ ss)
sets_there g word kind bytes image from s ss whole has first more =
    let numbered = numbered_kind g word kind s.seq in
    let at : from + 0 ≡ from = omega arith in
    let next : set_sectors g s ≡ 0 + set_sectors g s = omega arith in
    let behind = subst (λ q. AreFound numbered (image_of bytes) g.node_sectors q ss) next more in
    subst (λ q. AreFound numbered image (from + g.node_sectors) q (s ∷ ss)) at
    (run_there numbered g.node_sectors bytes image from 0 (s ∷ ss) whole has ((found_first g word kind bytes s whole first, refl), behind))

-- ---- one set more is listed

abbrev pub ListsOn : {A : Type 0} → Kind A → Image → ℕ → ℕ → List A → ℕ → Type 0
ListsOn {A = A} kind image end from here place = (rest : List A) → AreFound kind image end place rest → AreFound kind image end from (here ++ rest)

pub lists_more : {A : Type 0} → (kind : Kind A) (image : Image) (end from place next : ℕ) (here : List A) (e : A) → ListsOn kind image end from here place → IsFound kind image end place e
    → next ≡ place + sectors_of kind e → ListsOn kind image end from (here ++ e ∷ []) next
lists_more {A} kind image end from place next here e so found is rest more =
    subst (λ (xs : List A). AreFound kind image end from xs) (sym (append_assoc here (e ∷ []) rest)) (so (e ∷ rest) (found, subst (λ p. AreFound kind image end p rest) is more))

-- a set that was found, of whose node so many blocks are left from its place on
pub record IsTaken (g : Geometry) (place sectors : ℕ) : Type 0 where
  pub some : 0 < sectors
  pub fits : place + sectors ≤ g.node_sectors
  pub left : ℕ
  pub whole : g.node_sectors ≡ place + sectors + g.block * left

pub taken : (g : Geometry) (word : ℕ) (kind : SetKind) (image : Image) (place blocks sectors : ℕ) (s : Set) → g.node_sectors ≡ place + g.block * blocks → SetFound g word kind image g.node_sectors place s
    → sectors ≡ set_sectors g s → IsTaken g place sectors
taken g word kind image place blocks sectors s whole found is =
    let sets = set_kind g word kind in
    let codec = set_codec g word kind in
    let fits = found_fits sets codec image g.node_sectors place blocks s whole found in
    let next = next_blocks sets codec s g.node_sectors place blocks whole fits in
    let some = takes_some sets codec s in
    record { some = omega (arith, some, is); fits = omega (arith, fits, is); left = next.0; whole = omega (arith, next.1, is) }

pub blocks_left : (g : Geometry) (word : ℕ) (kind : SetKind) (bytes : List ℕ) (s : Set) (sectors : ℕ) → length bytes ≡ 512 * g.node_sectors → IsSet word g.set_magic kind bytes s → sectors ≡ set_sectors g s
    → (k : ℕ) × (g.node_sectors ≡ sectors + g.block * k)
blocks_left g word kind bytes s sectors whole is size =
    let b = node_blocks g in
    let t = taken g word kind (image_of bytes) 0 b.0 sectors s (omega (arith, b.1)) (found_first g word kind bytes s whole is) size in
    (t.left, omega (arith, t.whole))

-- ---- their keys

run_proper : (g : Geometry) (word : ℕ) (kind : SetKind) (seq : ℕ) (image : Image) (end place : ℕ) (ss : List Set) → AreFound (numbered_kind g word kind seq) image end place ss → All (λ (s : Set). AreSetKeys kind s.keys) ss
run_proper g word kind seq image end place [] p = All-nil (λ (s : Set). AreSetKeys kind s.keys)
run_proper g word kind seq image end place (s ∷ ss) p = All-cons (λ (t : Set). AreSetKeys kind t.keys) s ss p.0.0.proper (run_proper g word kind seq image end (place + set_sectors g s) ss p.1)

pub proper_from : (g : Geometry) (word : ℕ) (kind : SetKind) (seq : ℕ) (image : Image) (end place : ℕ) (s : Set) (ss : List Set) → AreSetKeys kind s.keys → AreFound (numbered_kind g word kind seq) image end place ss → AreProper kind (s ∷ ss)
proper_from g word kind seq image end place s ss first found = record {
  some = λ e. absurd (cc);
  each = All-cons (λ (t : Set). AreSetKeys kind t.keys) s ss first (run_proper g word kind seq image end place ss found);
}
