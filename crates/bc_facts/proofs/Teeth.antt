-- A device on which two entries have the same number.
use Rattle.std.proofs.Common.{subst, ◌≡◌, inl, inr, ℕ, ◌≤◌, List, [], ◌∷◌, refl, sym, ap, ◌∙◌, lit<, lit≤, arith, if◌then◌else◌, ◌==◌}
use Rattle.std.proofs.lemmas.List.Elements.{All-nil, All-cons}
use Rattle.bc_bytes.specs.Checksum.{message, dividend, checksum}
use Rattle.bc_bytes.specs.Division.{remainder}
use Rattle.bc_bytes.specs.Fields.{number_at}
use Rattle.bc_model.specs.Sector.{Image}
use Rattle.bc_model.specs.Pattern.{zeros}
use Rattle.bc_key.specs.Words.{words_of}
use Rattle.bc_keys.specs.Spelling.{words_at}
use Rattle.bc_record.specs.Places.{at_place}
use Rattle.bc_jset.specs.declared.entry.JEntry.{JEntry}
use Rattle.bc_jset.specs.EntryBytes.{IsEntry, HasChecksum}
use Rattle.bc_jset.specs.Entries as jset
use Rattle.bc_jset.specs.Entries.{FoundEntry, StandIn}
use Rattle.bc_jset.specs.ExampleEntries.{example_geometry, first_numbers, second_numbers, sector_with}
use Rattle.bc_jset.proofs.Example.{example_entry, example_is_entry}
use Rattle.bc_jset.proofs.ExampleEntries.{first_entry, first_is_entry, found_in_sector, second_entry, second_is_entry}
use Rattle.bc_jset.proofs.Records.{none_in_zeros}
use Rattle.bc_meta.specs.Entries.{Entry, AreEntries}
use Rattle.bc_meta.specs.Layout.{ring_entries}
use Rattle.bc_facts.specs.Seen.{seen_entry}
use Rattle.bc_facts.specs.Teeth.{NeedsNoStray}
use Rattle.bc_facts.proofs.Journal.{listed, ring_is}
use Rattle.bc_facts.proofs.Made as made

-- number 2 again, and 2 as the oldest that is needed
abbrev other_numbers : List ℕ
other_numbers =
    0xcd ∷ 0xa9 ∷ 0x4b ∷ 0xc3 ∷ 0x5e ∷ 0xc5 ∷ 0xa6 ∷ 0x49 ∷ 0x33 ∷ 0x50 ∷ 0x62 ∷ 0xa3 ∷ 0xc1 ∷ 0x35 ∷ 0x52 ∷ 0x24
    ∷ 0x02 ∷ 0x00 ∷ 0x00 ∷ 0x00 ∷ 0x00 ∷ 0x00 ∷ 0x00 ∷ 0x00 ∷ 0x01 ∷ 0x00 ∷ 0x00 ∷ 0x00 ∷ 0x03 ∷ 0x00 ∷ 0x00 ∷ 0x00
    ∷ 0x02 ∷ 0x00 ∷ 0x00 ∷ 0x00 ∷ 0x00 ∷ 0x00 ∷ 0x00 ∷ 0x00 ∷ []

abbrev other_entry : JEntry
other_entry = record example_entry { seq = 2; last_seq = 2 }

other_checksum : HasChecksum (sector_with other_numbers)
unfolding number_at checksum dividend message remainder
other_checksum = refl

other_is_entry : IsEntry 1 (sector_with other_numbers) other_entry
unfolding number_at words_at
other_is_entry = record {
  whole = record { header = record { room = lit≤ tt; magic = refl; version = refl }; few = lit≤ tt; long = lit≤ tt; checksum = other_checksum };
  seq = refl;
  last_seq = refl;
  uuid_bucket = example_is_entry.uuid_bucket;
  root = example_is_entry.root;
  level = refl;
  known_level = inl refl;
  prio = refl;
  keys = example_is_entry.keys;
  extents = example_is_entry.extents;
}

-- both stand in the first bucket of the journal, and entry 1 in the second
abbrev image : Image
image = λ s. if s == 64 then sector_with second_numbers else if s == 65 then sector_with other_numbers else if s == 128 then sector_with first_numbers else zeros

abbrev first : FoundEntry
first = at_place 128 first_entry

abbrev second : FoundEntry
second = at_place 64 second_entry

abbrev other : FoundEntry
other = at_place 65 other_entry

stand : StandIn example_geometry image 2 (second ∷ other ∷ first ∷ [])
unfolding words_of
stand = (
  second ∷ other ∷ [],
  first_entry ∷ [],
  (
    [],
    second_entry ∷ other_entry ∷ [],
    refl,
    (
      found_in_sector image 128 64 (sector_with second_numbers) second_entry refl refl (lit≤ tt) (lit< tt) second_is_entry,
      (
        found_in_sector image 128 65 (sector_with other_numbers) other_entry refl refl (lit≤ tt) (lit< tt) other_is_entry,
        λ e found. none_in_zeros example_geometry image 128 66 e refl found,
      ),
    ),
    refl,
  ),
  (
    found_in_sector image 192 128 (sector_with first_numbers) first_entry refl refl (lit≤ tt) (lit< tt) first_is_entry,
    λ e found. none_in_zeros example_geometry image 192 129 e refl found,
  ),
  refl,
)

abbrev Low : FoundEntry → Type 0
Low e = e.item.seq ≤ 2

two_entries : jset.AreEntries example_geometry image (first ∷ second ∷ [])
two_entries = record {
  all = second ∷ other ∷ first ∷ [];
  stand = stand;
  newest = second;
  is_newest = record { counts = refl; greatest = All-cons Low second (other ∷ first ∷ []) (lit≤ tt) (All-cons Low other (first ∷ []) (lit≤ tt) (All-cons Low first [] (lit≤ tt) (All-nil Low))) };
  reaches = lit≤ tt;
  numbered = (refl, (refl, refl));
}

no_entries : (newest : Entry) (older : List Entry) → AreEntries (listed example_geometry (second ∷ other ∷ first ∷ [])) newest older → ⊥
no_entries newest older are =
    let low = are.greatest (seen_entry example_geometry second_entry) (inr (inr (inl refl))) in
    let high : newest.number ≤ 2 = elim are.down.2 [
      | inl e ↦ (let n = ap (λ (x : Entry). x.number) e in omega (arith, n))
      | inr (inl e) ↦ (let n = ap (λ (x : Entry). x.number) e in omega (arith, n))
      | inr (inr (inl e)) ↦ (let n = ap (λ (x : Entry). x.number) e in omega (arith, n))
      | inr (inr (inr n)) ↦ absurd n
    ] in
    let number : 2 ≡ newest.number = omega (arith, low, high) in
    let a = are.down.3 (seen_entry example_geometry second_entry) (inr (inr (inl refl))) number in
    let b = are.down.3 (seen_entry example_geometry other_entry) (inr (inl refl)) number in
    let same = ap (λ (x : Entry). x.last_seq) (a ∙ sym b) in
    absurd (omega (arith, same))

pub needs_no_stray : NeedsNoStray
needs_no_stray =
    let w = made.law_layout example_geometry in (
      example_geometry,
      w.0,
      image,
      first ∷ second ∷ [],
      w.1,
      two_entries,
      (λ newest older are. no_entries newest older (subst (λ (l : List Entry). AreEntries l newest older)
          (ap (ring_entries w.0 image) w.1.journal ∙ ring_is example_geometry w.0 w.1 image 2 (second ∷ other ∷ first ∷ []) stand) are)),
    )
