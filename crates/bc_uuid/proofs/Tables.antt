-- A table that was read.
use Rattle.std.proofs.Common.{◌≡◌, ℕ, ◌*◌, List, ◌++◌, length, take, drop, subst, ap, ◌∙◌, arith}
use Rattle.std.specs.Prelude.{Result, Ok, Err, IfOk}
use Rattle.std.proofs.lemmas.List.{take-append-le, take_all}
use Rattle.bc_model.specs.Sector.{values_of}
use Rattle.bc_disk.specs.Disk.{DiskFacts, IsRead}
use Rattle.bc_disk.specs.declared.geometry.Geometry.{Geometry}
use Rattle.bc_uuid.specs.declared.entry.UuidEntry.{UuidEntry}
use Rattle.bc_uuid.specs.declared.error.UuidError.{UuidError}
use Rattle.bc_uuid.specs.Table.{entries_in, HoldsEntries, IsTable}

-- a buffer that was filled holds what it was filled with
filled : (len : ℕ) (new items : List ℕ) → len ≡ length items → length new ≡ length items → take len (new ++ drop (length new) items) ≡ new
filled len new items is same = take-append-le len new (drop (length new) items) (omega arith) ∙ take_all len new (omega arith)

pub table_read : (g : Geometry) (d : DiskFacts) (bucket a b len count : ℕ) (bytes new items : List ℕ) (answer : Result (List UuidEntry) UuidError) → a ≡ g.bucket → b ≡ bucket
    → len ≡ length items → length new ≡ length items → length items ≡ 512 * g.bucket → bytes ≡ take len (new ++ drop (length new) items) → count ≡ entries_in g → IsRead (a * b) (values_of new) d
    → IfOk answer (λ t. length t ≡ count) → IfOk answer (λ t. HoldsEntries bytes t) → IfOk answer (λ t. IsTable g d bucket t)
table_read g d bucket a b len count bytes new items (Err e) size place is same whole from many read long holds = tt
table_read g d bucket a b len count bytes new items (Ok t) size place is same whole from many read long holds = record {
  bytes = new;
  whole = same ∙ whole;
  read = subst (λ (n : ℕ). IsRead n (values_of new) d) (ap (λ (n : ℕ). n * b) size ∙ ap (λ (n : ℕ). g.bucket * n) place) read;
  many = long ∙ many;
  holds = subst (λ (bs : List ℕ). HoldsEntries bs t) (from ∙ filled len new items is same) holds;
}
