-- A ring whose two entries stand in an image.
use Rattle.std.proofs.Common.{◌≡◌, ◌≢◌, ◌⊎◌, inl, inr, ℕ, zero, suc, ◌+◌, ◌-◌, ◌*◌, ◌==◌, ◌<◌, ◌≤◌, [], ◌∷◌, refl, subst, lit<, lit≤, arith}
use Rattle.std.specs.Prelude.{Contains, if◌then◌else◌}
use Rattle.std.proofs.lemmas.List.Elements.{All-nil, All-cons}
use Rattle.bc_key.specs.Words.{words_of}
use Rattle.bc_model.specs.Sector.{Image}
use Rattle.bc_model.specs.Pattern.{zeros}
use Rattle.bc_model.proofs.Cases.{by_le, by_test}
use Rattle.bc_record.proofs.Parts.{length-bytes_in}
use Rattle.bc_record.proofs.Found.{one_found}
use Rattle.bc_jset.specs.declared.entry.JEntry.{JEntry}
use Rattle.bc_jset.specs.ExampleEntries.{example_geometry, example_image, first_numbers, second_numbers, sector_with}
use Rattle.bc_jset.specs.Records.{entry_kind, EntryFound}
use Rattle.bc_jset.proofs.Records.{entry_codec, none_in_zeros}
use Rattle.bc_jset.proofs.ExampleEntries.{first_entry, second_entry, first_is_entry, second_is_entry, found_in_sector}
use Rattle.bc_journal.specs.Example.{example_ring, example_numbers}
use Rattle.bc_journal.specs.Images.{StandsFirm, GoesOn, FoundAtBlock, Holds}
use Rattle.bc_journal.proofs.Members.{contained}

first_found : EntryFound example_geometry example_image 192 128 first_entry
unfolding words_of
first_found = found_in_sector example_image 192 128 (sector_with first_numbers) first_entry refl refl (lit≤ tt) (lit< tt) first_is_entry

second_found : EntryFound example_geometry example_image 128 64 second_entry
unfolding words_of
second_found = found_in_sector example_image 128 64 (sector_with second_numbers) second_entry refl refl (lit≤ tt) (lit< tt) second_is_entry

none_behind : (image : Image) (end place : ℕ) (e : JEntry) → end ≤ place → EntryFound example_geometry image end place e → ⊥
none_behind image end place e low found =
    let room = found.whole.header.room in
    omega (arith, room, length-bytes_in image place (end - place), low)

elsewhere : (s : ℕ) → s ≢ 64 → s ≢ 128 → example_image s ≡ zeros
elsewhere s first second =
    by_test s 64 (λ b. (if b then sector_with second_numbers else (if s == 128 then sector_with first_numbers else zeros)) ≡ zeros)
    (λ is. absurd (first is))
    (λ _. by_test s 128 (λ b. (if b then sector_with first_numbers else zeros) ≡ zeros) (λ is. absurd (second is)) (λ _. refl))

-- in a bucket whose first sector alone has an entry that one is found and no other
one_in : (place : ℕ) (d : JEntry) (block : ℕ) (e : JEntry) → ((s : ℕ) → place < s → s < place + 64 → example_image s ≡ zeros)
    → EntryFound example_geometry example_image (place + 64) place d → EntryFound example_geometry example_image (place + 64) (place + 1 * block) e → e ≡ d
one_in place d zero e rest there found = one_found (entry_kind example_geometry) (entry_codec example_geometry) example_image (place + 64) place e d (subst (λ n. EntryFound example_geometry example_image (place + 64) n e) (let z : place + 1 * zero ≡ place = omega arith in z) found) there
one_in place d (suc k) e rest there found =
    by_le (place + 64) (place + 1 * suc k) (λ _. e ≡ d)
    (λ out. absurd (none_behind example_image (place + 64) (place + 1 * suc k) e out found))
    (λ inside. absurd (none_in_zeros example_geometry example_image (place + 64) (place + 1 * suc k) e (rest (place + 1 * suc k) (omega arith) inside) found))

example_others : (bucket block : ℕ) (e : JEntry) → FoundAtBlock example_geometry example_image bucket block e → (e.seq < 1) ⊎ Contains (first_entry ∷ second_entry ∷ []) e
example_others zero block e found =
    inr (contained e (first_entry ∷ second_entry ∷ []) (inr (inl (one_in 64 second_entry block e (λ s low high. elsewhere s (λ is. omega (arith, is, low)) (λ is. omega (arith, is, high))) second_found found.1))))
example_others (suc zero) block e found =
    inr (contained e (first_entry ∷ second_entry ∷ []) (inl (one_in 128 first_entry block e (λ s low high. elsewhere s (λ is. omega (arith, is, low)) (λ is. omega (arith, is, low))) first_found found.1)))
example_others (suc (suc n)) block e found = absurd (omega (arith, found.0))

first_firm : StandsFirm example_ring example_image first_entry
first_firm = record {
  bucket = 1;
  within = lit< tt;
  before = [];
  stand = tt;
  here = first_found;
  newest = lit≤ tt;
  passed = λ is. absurd (omega (arith, is));
}

second_firm : StandsFirm example_ring example_image second_entry
unfolding words_of
second_firm = record {
  bucket = 0;
  within = lit< tt;
  before = [];
  stand = tt;
  here = second_found;
  newest = lit≤ tt;
  passed = λ _. lit≤ tt;
}

example_goes_on : GoesOn example_ring example_image
unfolding words_of
example_goes_on = record { within = lit< tt; before = second_entry ∷ []; stand = (second_found, tt); reaches = refl }

pub example_holds : Holds example_ring example_numbers example_image (first_entry ∷ second_entry ∷ [])
example_holds = record {
  numbers = (refl, (refl, refl));
  newest = record { older = first_entry ∷ []; newest = second_entry; parts = refl; last_seq = refl };
  firm = All-cons (StandsFirm example_ring example_image) first_entry (second_entry ∷ []) first_firm (All-cons (StandsFirm example_ring example_image) second_entry [] second_firm (All-nil (StandsFirm example_ring example_image)));
  next = example_goes_on;
  others = example_others;
}
