-- The example journals, computed.
use Rattle.std.proofs.lemmas.Bool.{cases_lt}
use Rattle.std.proofs.Common.{◌≡◌, inl, inr, ℕ, suc, ◌-◌, ◌<◌, ◌≤◌, List, [], ◌∷◌, ◌++◌, length, take, Some, None, refl, subst, ap, ◌∙◌, lit<, lit≤, arith}
use Rattle.std.specs.Prelude.{replicate}
use Rattle.std.proofs.lemmas.List.{take-append-le}
use Rattle.std.proofs.lemmas.List.Elements.{All-nil, All-cons}
use Rattle.bc_bytes.specs.Checksum.{message, dividend, checksum}
use Rattle.bc_bytes.specs.Division.{remainder}
use Rattle.bc_bytes.specs.Fields.{number_at}
use Rattle.bc_key.specs.Words.{words_of}
use Rattle.bc_keys.specs.Spelling.{words_at}
use Rattle.bc_model.specs.Sector.{Image}
use Rattle.bc_record.specs.Sectors.{sector_bytes, bytes_in, bytes_to}
use Rattle.bc_record.proofs.Parts.{bytes_in-front, sector_of_whole}
use Rattle.bc_jset.specs.declared.entry.JEntry.{JEntry}
use Rattle.bc_jset.specs.Example.{example_bytes}
use Rattle.bc_jset.specs.ExampleEntries.{example_geometry, first_numbers, second_numbers, sector_with, example_image, gapped_image}
use Rattle.bc_jset.specs.EntryBytes.{IsEntry, HasChecksum, bytes_of}
use Rattle.bc_jset.specs.Records.{EntryFound}
use Rattle.bc_record.specs.Places.{at_place}
use Rattle.bc_jset.specs.Entries.{FoundEntry, StandIn, first_with, IsNewest, AreNumbered, AreEntries, IsGap, HasGap}
use Rattle.bc_jset.proofs.EntryLaws.{entry_stays}
use Rattle.bc_jset.proofs.Records.{none_in_zeros}
use Rattle.bc_jset.proofs.Example.{example_entry, example_is_entry}

abbrev pub first_entry : JEntry
first_entry = record example_entry { seq = 1; last_seq = 1 }

abbrev pub second_entry : JEntry
second_entry = record example_entry { seq = 2; last_seq = 1 }

first_checksum : HasChecksum (sector_with first_numbers)
unfolding number_at checksum dividend message remainder
first_checksum = refl

second_checksum : HasChecksum (sector_with second_numbers)
unfolding number_at checksum dividend message remainder
second_checksum = refl

pub first_is_entry : IsEntry 1 (sector_with first_numbers) first_entry
unfolding number_at words_at
first_is_entry = record {
  whole = record { header = record { room = lit≤ tt; magic = refl; version = refl }; few = lit≤ tt; long = lit≤ tt; checksum = first_checksum };
  seq = refl;
  last_seq = refl;
  uuid_bucket = example_is_entry.uuid_bucket;
  root = example_is_entry.root;
  level = refl;
  known_level = inl refl;
  prio = refl;
  keys = example_is_entry.keys;
  extents = example_is_entry.extents;
}

pub second_is_entry : IsEntry 1 (sector_with second_numbers) second_entry
unfolding number_at words_at
second_is_entry = record {
  whole = record { header = record { room = lit≤ tt; magic = refl; version = refl }; few = lit≤ tt; long = lit≤ tt; checksum = second_checksum };
  seq = refl;
  last_seq = refl;
  uuid_bucket = example_is_entry.uuid_bucket;
  root = example_is_entry.root;
  level = refl;
  known_level = inl refl;
  prio = refl;
  keys = example_is_entry.keys;
  extents = example_is_entry.extents;
}

-- an entry that begins a sector is found there
pub found_in_sector : (image : Image) (end place : ℕ) (value : List ℕ) (e : JEntry) → image place ≡ value → length value ≡ 512 → bytes_of e ≤ 512 → 0 < end - place → IsEntry 1 value e → EntryFound example_geometry image end place e
unfolding bytes_in
found_in_sector image end place value e here whole small some is =
    entry_stays 1 value (bytes_to image end place) e is
    (bytes_in-front image place 1 (end - place) (bytes_of e) (omega (arith, some)) (omega (arith, small))
    ∙ ap (λ (v : List ℕ). take (bytes_of e) (v ++ [])) (ap sector_bytes here ∙ sector_of_whole value whole)
    ∙ take-append-le (bytes_of e) value [] (omega (arith, small, whole)))

abbrev pub first_found : FoundEntry
first_found = at_place 128 first_entry

abbrev pub second_found : FoundEntry
second_found = at_place 64 second_entry

two_stand : StandIn example_geometry example_image 2 (second_found ∷ first_found ∷ [])
unfolding words_of
two_stand = (
  second_found ∷ [],
  first_entry ∷ [],
  (
    [],
    second_entry ∷ [],
    refl,
    (
      found_in_sector example_image 128 64 (sector_with second_numbers) second_entry refl refl (lit≤ tt) (lit< tt) second_is_entry,
      λ e found. none_in_zeros example_geometry example_image 128 65 e refl found,
    ),
    refl,
  ),
  (
    found_in_sector example_image 192 128 (sector_with first_numbers) first_entry refl refl (lit≤ tt) (lit< tt) first_is_entry,
    λ e found. none_in_zeros example_geometry example_image 192 129 e refl found,
  ),
  refl,
)

pub two_entries : AreEntries example_geometry example_image (first_found ∷ second_found ∷ [])
two_entries = record {
  all = second_found ∷ first_found ∷ [];
  stand = two_stand;
  newest = second_found;
  is_newest = record { counts = refl; greatest = All-cons (λ (e : FoundEntry). e.item.seq ≤ 2) second_found (first_found ∷ []) (lit≤ tt) (All-cons (λ (e : FoundEntry). e.item.seq ≤ 2) first_found [] (lit≤ tt) (All-nil (λ (e : FoundEntry). e.item.seq ≤ 2))) };
  reaches = lit≤ tt;
  numbered = (refl, (refl, refl));
}

-- ---- the gap

gapped_is_entry : IsEntry 1 (example_bytes ++ replicate 248 0) example_entry
unfolding words_of
gapped_is_entry = entry_stays 1 example_bytes (example_bytes ++ replicate 248 0) example_entry example_is_entry refl

abbrev seventh_found : FoundEntry
seventh_found = at_place 64 example_entry

gapped_stand : StandIn example_geometry gapped_image 2 (seventh_found ∷ [])
unfolding words_of
gapped_stand = (
  seventh_found ∷ [],
  [],
  (
    [],
    example_entry ∷ [],
    refl,
    (
      found_in_sector gapped_image 128 64 (example_bytes ++ replicate 248 0) example_entry refl refl (lit≤ tt) (lit< tt) gapped_is_entry,
      λ e found. none_in_zeros example_geometry gapped_image 128 65 e refl found,
    ),
    refl,
  ),
  (λ e found. none_in_zeros example_geometry gapped_image 192 128 e refl found),
  refl,
)

two_missing : (k : ℕ) → 5 ≤ k → k ≤ 6 → first_with k (seventh_found ∷ []) ≡ None
two_missing k low high = elim (cases_lt k 6) [
  | inl five ↦ let same : 5 ≡ k = omega arith in subst (λ n. first_with n (seventh_found ∷ []) ≡ None) same refl
  | inr six ↦ let same : 6 ≡ k = omega arith in subst (λ n. first_with n (seventh_found ∷ []) ≡ None) same refl
]

pub gap_is_found : HasGap example_geometry gapped_image 5 6
gap_is_found = record {
  all = seventh_found ∷ [];
  stand = gapped_stand;
  newest = seventh_found;
  is_newest = record { counts = refl; greatest = All-cons (λ (e : FoundEntry). e.item.seq ≤ 7) seventh_found [] (lit≤ tt) (All-nil (λ (e : FoundEntry). e.item.seq ≤ 7)) };
  gap = inr (record { begins = lit≤ tt; order = lit≤ tt; before = λ k from to. absurd (omega arith); missing = two_missing; behind = (seventh_found, refl) });
}
