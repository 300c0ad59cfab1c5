-- One table at most stands in a bucket.
use Rattle.std.proofs.Common.{◌≡◌, ℕ, ◌+◌, ◌*◌, ◌<◌, ◌^◌, List, length, take, map, slice_index_or, refl, sym, subst, ap, ◌∙◌}
use Rattle.std.specs.Prelude.{Option, Some, None}
use Rattle.std.proofs.Props.{props}
use Rattle.std.proofs.lemmas.List.{ext_get_or, same_lists, get_or-map, length-map}
use mathlib.Core.HLevel.{is_prop→PathP}
use Rattle.bc_model.specs.Sector.{Value, Image, Gives, unless, values_of}
use Rattle.bc_disk.specs.Disk.{DiskFacts, IfTold, BothTold, Overwritten, IsRead, IsWritten}
use Rattle.bc_disk.specs.declared.geometry.Geometry.{Geometry}
use Rattle.bc_record.specs.Sectors.{bytes_in, AgreeOn, Has}
use Rattle.bc_record.proofs.Parts.{bytes_in-agree, bytes_in-has}
use Rattle.bc_uuid.specs.declared.entry.UuidEntry.{UuidEntry}
use Rattle.bc_uuid.specs.Entry.{IsEntry, IsWrittenEntry, without_times}
use Rattle.bc_uuid.specs.Table.{entries_in, entry_bytes, HoldsEntries, AreWritten, IsTable, TableIn}

length-prop : (n : ℕ) (xs : List ℕ) → IsProp (length xs ≡ n)
length-prop n xs = hlevel props

same_entry : (a b : UuidEntry) → a.uuid ≡ b.uuid → a.label ≡ b.label → a.first_reg ≡ b.first_reg → a.last_reg ≡ b.last_reg → a.invalidated ≡ b.invalidated → a.flags ≡ b.flags → a.sectors ≡ b.sectors → a ≡ b
same_entry a b uuid label first_reg last_reg invalidated flags sectors = λ i. record {
  uuid = uuid i;
  label = label i;
  first_reg = first_reg i;
  last_reg = last_reg i;
  invalidated = invalidated i;
  flags = flags i;
  sectors = sectors i;
  uuid_whole = is_prop→PathP (λ j. length (uuid j) ≡ 16) (λ j. length-prop 16 (uuid j)) a.uuid_whole b.uuid_whole i;
  label_whole = is_prop→PathP (λ j. length (label j) ≡ 32) (λ j. length-prop 32 (label j)) a.label_whole b.label_whole i;
}

pub one_entry : (bytes : List ℕ) (a b : UuidEntry) → IsEntry bytes a → IsEntry bytes b → a ≡ b
one_entry bytes a b p q =
    same_entry a b (sym p.uuid ∙ q.uuid) (sym p.label ∙ q.label) (sym p.first_reg ∙ q.first_reg) (sym p.last_reg ∙ q.last_reg) (sym p.invalidated ∙ q.invalidated) (sym p.flags ∙ q.flags) (sym p.sectors ∙ q.sectors)

pub one_table : (g : Geometry) (image : Image) (bucket : ℕ) (xs ys : List UuidEntry) → TableIn g image bucket xs → TableIn g image bucket ys → xs ≡ ys
one_table g image bucket xs ys p q =
    let bytes = bytes_in image (g.bucket * bucket) g.bucket in
    let long : length xs ≡ length ys = p.many ∙ sym q.many in
    same_lists xs ys long (λ i d inside. one_entry (entry_bytes bytes i) (slice_index_or xs i d) (slice_index_or ys i d) (p.holds i inside d) (q.holds i (subst (λ n. i < n) long inside) d))

pub table_stays : (g : Geometry) (a b : Image) (bucket : ℕ) (entries : List UuidEntry) → TableIn g a bucket entries → AgreeOn a b (g.bucket * bucket) (g.bucket * bucket + g.bucket) → TableIn g b bucket entries
table_stays g a b bucket entries p same = record { many = p.many; holds = subst (λ (bs : List ℕ). HoldsEntries bs entries) (bytes_in-agree a b (g.bucket * bucket) g.bucket same) p.holds }

pub table_in : (g : Geometry) (d : DiskFacts) (image : Image) (bucket : ℕ) (entries : List UuidEntry) → d.holds ≡ Some image → IsTable g d bucket entries → TableIn g image bucket entries
table_in g d image bucket entries told p =
    let has : Has image (g.bucket * bucket) (values_of p.bytes) = subst (λ (o : Option Image). IfTold o (λ held. Gives (g.bucket * bucket) (values_of p.bytes) (λ s v. v ≡ held s))) told p.read in
    record { many = p.many; holds = subst (λ (bs : List ℕ). HoldsEntries bs entries) (sym (bytes_in-has image (g.bucket * bucket) g.bucket p.bytes p.whole has)) p.holds }

-- ---- what was written says

pub written_says : (bytes : List ℕ) (entries : List UuidEntry) → AreWritten bytes entries → HoldsEntries bytes (map without_times entries)
written_says bytes entries written i inside d =
    let below : i < length entries = subst (λ n. i < n) (length-map entries without_times) inside in
    subst (λ (e : UuidEntry). IsEntry (entry_bytes bytes i) e) (sym (get_or-map without_times entries i d d below)) (written i below d).says

-- of an entry without times it says the entry
pub timeless_says : (bytes : List ℕ) (entry : UuidEntry) → entry.first_reg ≡ 0 → entry.last_reg ≡ 0 → entry.invalidated ≡ 0 → IsWrittenEntry bytes entry → IsEntry bytes entry
timeless_says bytes entry first last off written =
    let says = written.says in
    record {
      uuid = says.uuid;
      label = says.label;
      first_reg = says.first_reg ∙ sym first;
      last_reg = says.last_reg ∙ sym last;
      invalidated = says.invalidated ∙ sym off;
      flags = says.flags;
      sectors = says.sectors;
    }

-- what a good write leaves reads as it
reads_over : (at : ℕ) (values : List Value) (old new : DiskFacts) → IsWritten at values old new → IsRead at values new
reads_over at values old new written = go old.holds new.holds written.holds
  where
    go : (a b : Option Image) → BothTold (Overwritten at values) a b → IfTold b (λ held. Gives at values (λ s v. v ≡ held s))
    go None None both = tt
    go None (Some y) both = elim both [ ]
    go (Some x) None both = elim both [ ]
    go (Some x) (Some y) both = λ s v given. sym (both s ∙ ap (λ (o : Option Value). unless o (x s)) given)

pub table_written : (g : Geometry) (old new : DiskFacts) (bucket at : ℕ) (bytes : List ℕ) (entries : List UuidEntry) → at ≡ g.bucket * bucket → length bytes ≡ 512 * g.bucket → length entries ≡ entries_in g
    → AreWritten bytes entries → IsWritten at (values_of bytes) old new → IsTable g new bucket (map without_times entries)
table_written g old new bucket at bytes entries place whole many holds written = record {
  bytes = bytes;
  whole = whole;
  read = subst (λ n. IsRead n (values_of bytes) new) place (reads_over at (values_of bytes) old new written);
  many = length-map entries without_times ∙ many;
  holds = written_says bytes entries holds;
}
