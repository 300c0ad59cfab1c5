-- Whether the table of uuids names a device first.
use Rattle.std.proofs.Common.{◌≡◌, ◌≢◌, ◌==◌, inl, inr, ℕ, ◌<◌, List, [], ◌∷◌, length, Bool, true, false, Option, Some, None, refl, sym, subst, ap, ◌∙◌, arith, get_or}
use Rattle.std.specs.Prelude.{All}
use Rattle.std.specs.Bool.{MatchBool}
use Rattle.std.proofs.lemmas.Bool.{lt-ltb}
use Rattle.std.proofs.lemmas.Bool.Decides.{eqb_tells}
use Rattle.std.proofs.lemmas.List.Elements.{All-get_or}
use Rattle.std.proofs.lemmas.Option.{slice_get-get_or, get_or_from_slice_get}
use Rattle.bc_key.specs.Ptr.{no_ptr}
use Rattle.bc_model.specs.Sector.{Image}
use Rattle.bc_disk.specs.Disk.{DiskFacts, IfTold}
use Rattle.bc_disk.specs.declared.geometry.Geometry.{Geometry}
use Rattle.bc_image.specs.Pointers.{PointsIntoData}
use Rattle.bc_image.proofs.Unique.{some_same}
use Rattle.bc_key.specs.Key.{ptr_at, pointer_of}
use Rattle.bc_key.specs.declared.key.Key.{Key}
use Rattle.bc_key.specs.declared.ptr.Ptr.{Ptr}
use Rattle.bc_record.specs.Places.{bucket_at}
use Rattle.bc_uuid.specs.declared.entry.UuidEntry.{UuidEntry}
use Rattle.bc_uuid.specs.Table.{IsTable, TableIn}
use Rattle.bc_uuid.proofs.Unique.{one_table, table_in}
use Rattle.bc_replay.specs.Heads.{NamesDevice, NamesFirst}
use Rattle.bc_replay.specs.Causes.{DecidesNames}

-- there is an entry
pub head_of : (entries : List UuidEntry) → 0 < length entries → UuidEntry
head_of [] low = absurd (omega arith)
head_of (x ∷ xs) low = x

pub none_first : (entries : List UuidEntry) (uuid : List ℕ) → 0 < length entries → All (λ e. e.uuid ≢ uuid) entries → NamesFirst entries uuid → ⊥
none_first entries uuid some none named =
    let d = head_of entries some in
    All-get_or (λ (e : UuidEntry). e.uuid ≢ uuid) entries 0 d some none (named d)

-- the first of a key's places for pointers, however it is read
pub same_ptr : (key : Key) (d : Ptr) → get_or key.ptrs 0 d ≡ ptr_at key 0
same_ptr key d =
    let low : 0 < length key.ptrs = (let six = key.six_places in omega (arith, six)) in
    get_or_from_slice_get key.ptrs 0 (ptr_at key 0) d (slice_get-get_or key.ptrs 0 no_ptr low)

pub first_by : (entries : List UuidEntry) (uuid : List ℕ) (place : ℕ) → (place < length entries) × ((d : UuidEntry) → (get_or entries place d).uuid ≡ uuid)
    → ((k : ℕ) (d : UuidEntry) → k < place → (get_or entries k d).uuid ≢ uuid) → (d : UuidEntry) → MatchBool (place == 0) (NamesFirst entries uuid) (¬ (NamesFirst entries uuid))
first_by entries uuid place found least d = elim (eqb_tells place 0) [
  | inl same ↦ subst (λ (b : Bool). MatchBool b (NamesFirst entries uuid) (¬ (NamesFirst entries uuid))) (sym same.0) (subst (λ n. (e : UuidEntry) → (get_or entries n e).uuid ≡ uuid) same.1 found.1)
  | inr other ↦ let above = other.1 in subst (λ (b : Bool). MatchBool b (NamesFirst entries uuid) (¬ (NamesFirst entries uuid))) (sym other.0) (λ named. least 0 d (omega (arith, above)) (named d))
]

pub pointer_some : (key : Key) → 0 < key.count → pointer_of key ≡ Some (ptr_at key 0)
pointer_some key some = let test = lt-ltb 0 key.count some in rw test refl

names_so : (g : Geometry) (image : Image) (key : Key) (uuid : List ℕ) (bucket : ℕ) (entries : List UuidEntry) (b : Bool) → 0 < key.count → PointsIntoData g key → bucket ≡ bucket_at g (ptr_at key 0).offset
    → TableIn g image bucket entries → MatchBool b (NamesFirst entries uuid) (¬ (NamesFirst entries uuid)) → MatchBool b (NamesDevice g image key uuid) (¬ (NamesDevice g image key uuid))
names_so g image key uuid bucket entries true some ptrs at table first = record { some = some; ptrs = ptrs; bucket = bucket; place = (ptr_at key 0, pointer_some key some, sym at); entries = entries; table = table; first = first }
names_so g image key uuid bucket entries false some ptrs at table first = λ named.
    let ptr : ptr_at key 0 ≡ named.place.0 = some_same (ptr_at key 0) named.place.0 (sym (pointer_some key some) ∙ named.place.1) in
    let same : named.bucket ≡ bucket = sym named.place.2 ∙ ap (λ (q : Ptr). bucket_at g q.offset) (sym ptr) ∙ sym at in
    let tables : named.entries ≡ entries = one_table g image bucket named.entries entries (subst (λ n. TableIn g image n named.entries) same named.table) table in
    first (subst (λ (xs : List UuidEntry). NamesFirst xs uuid) tables named.first)

pub names_by : (g : Geometry) (d : DiskFacts) (key : Key) (uuid : List ℕ) (bucket : ℕ) (entries : List UuidEntry) (b : Bool) → 0 < key.count → PointsIntoData g key → bucket ≡ bucket_at g (ptr_at key 0).offset
    → IsTable g d bucket entries → MatchBool b (NamesFirst entries uuid) (¬ (NamesFirst entries uuid)) → DecidesNames d g key uuid b
names_by g d key uuid bucket entries b some ptrs at table first = go d.holds refl
  where
    go : (o : Option Image) → d.holds ≡ o → IfTold o (λ image. MatchBool b (NamesDevice g image key uuid) (¬ (NamesDevice g image key uuid)))
    go None told = tt
    go (Some image) told = names_so g image key uuid bucket entries b some ptrs at (table_in g d image bucket entries told table) first
