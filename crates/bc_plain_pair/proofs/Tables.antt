-- Which device a table of uuids names first, by its first entry.
use Rattle.std.proofs.Common.{◌≡◌, ℕ, ◌<◌, Bool, true, false, List, length, get_or, Some, sym, subst, ap, ◌∙◌}
use Rattle.std.specs.Bool.{MatchBool}
use Rattle.std.proofs.lemmas.List.{get_or_default}
use Rattle.bc_disk.specs.declared.geometry.Geometry.{Geometry}
use Rattle.bc_key.specs.declared.key.Key.{Key}
use Rattle.bc_key.specs.declared.ptr.Ptr.{Ptr}
use Rattle.bc_key.specs.Key.{pointer_of}
use Rattle.bc_model.specs.Sector.{Image}
use Rattle.bc_record.specs.Places.{bucket_at}
use Rattle.bc_uuid.specs.declared.entry.UuidEntry.{UuidEntry}
use Rattle.bc_uuid.specs.Table.{TableIn}
use Rattle.bc_uuid.proofs.Unique.{one_table}
use Rattle.bc_plain_pair.specs.Names.{NamesFirst}

ptr_same : (a b : Ptr) → Some a ≡ Some b → a ≡ b
ptr_same a b e = cc

module _ (g : Geometry) (image : Image) (key : Key) (uuid : List ℕ) (bucket : ℕ) (entries : List UuidEntry) (e : UuidEntry) (ptr : Ptr) (points : pointer_of key ≡ Some ptr) (at : bucket_at g ptr.offset ≡ bucket)
    (table : TableIn g image bucket entries) (some : 0 < length entries) (is : e ≡ get_or entries 0 e) where
  named : e.uuid ≡ uuid → NamesFirst g image key uuid
  named same = record {
    bucket = bucket;
    place = (ptr, points, at);
    entries = entries;
    table = table;
    first = λ d. ap (λ (x : UuidEntry). x.uuid) (get_or_default entries 0 d e some ∙ sym is) ∙ same;
  }

  not_named : (e.uuid ≡ uuid → ⊥) → NamesFirst g image key uuid → ⊥
  not_named other n =
      let same : n.place.0 ≡ ptr = ptr_same n.place.0 ptr (sym n.place.1 ∙ points) in
      let there : n.bucket ≡ bucket = sym n.place.2 ∙ ap (λ (p : Ptr). bucket_at g p.offset) same ∙ at in
      let all : n.entries ≡ entries = one_table g image bucket n.entries entries (subst (λ k. TableIn g image k n.entries) there n.table) table in
      other (ap (λ (x : UuidEntry). x.uuid) is ∙ subst (λ (xs : List UuidEntry). (get_or xs 0 e).uuid ≡ uuid) all (n.first e))

  pub names_by : (b : Bool) → MatchBool b (e.uuid ≡ uuid) (e.uuid ≡ uuid → ⊥) → MatchBool b (NamesFirst g image key uuid) (NamesFirst g image key uuid → ⊥)
  names_by true same = named same
  names_by false other = not_named other
