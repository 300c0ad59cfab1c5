-- For each part of soundness a small view that lacks it alone, and one that has all.
use Rattle.std.proofs.Common.{◌≡◌, ◌≢◌, ◌==◌, inl, inr, ℕ, zero, suc, ◌+◌, ◌-◌, ◌*◌, ◌^◌, ◌<◌, false, List, [], ◌∷◌, length, slice_index, replicate, if◌then◌else◌, refl, sym, subst, ap, ◌∙◌, lit<, lit≤, arith}
use Rattle.std.specs.Prelude.{slice_index_or}
use Rattle.std.proofs.lemmas.Bool.{cases_lt, cases_eq}
use Rattle.std.proofs.lemmas.Bool.Decides.{eqb_tells}
use Rattle.std.proofs.lemmas.List.Elements.{All-tail}
use Rattle.bc_model.specs.Sector.{Image}
use Rattle.bc_model.specs.Pattern.{zeros}
use Rattle.bc_record.specs.Places.{at_place}
use Rattle.bc_key.specs.Key.{ptr_at}
use Rattle.bc_jset.specs.Entries.{FoundEntry}
use Rattle.bc_super.specs.Super.{data_sectors}
use Rattle.bc_image.specs.Uses.{Use, IsUsedFor, IsSpare, LiesLive}
use Rattle.bc_image.specs.Uses as uses
use Rattle.bc_image.specs.Sound.{NamesBacking, KeepsRange, HasSpareBuckets, HasNoStrayEntry}
use Rattle.bc_image.specs.Formatted.{AreBlank}
use Rattle.bc_jset.proofs.ExampleEntries.{second_entry, second_is_entry, found_in_sector}
use Rattle.bc_jset.specs.ExampleEntries.{second_numbers, sector_with}
use Rattle.bc_key.specs.Words.{words_of}
use Rattle.bc_uuid.specs.declared.entry.UuidEntry.{UuidEntry}
use Rattle.bc_uuid.specs.Table.{TableIn}
use Rattle.bc_uuid.proofs.Unique.{one_table}
use Rattle.bc_image.specs.Parts.{Part, Superblocks, Backing, Ranges, Pointers, Uses, Agreement, Window, Spare, Strays, Room, HasPart, HasAll, LacksOnly}
use Rattle.bc_image.proofs.Examples.{geometry, table_key, root_key, leaf_key, clean_key, dirty_key, found_with, root_node, leaf_node, reading, backing_with, blank, superblocks, ranges, into_table, pointers, one_use, window}
use Rattle.bc_image.proofs.Views.{unused, blank_table, view, pair_of, names, agrees, no_strays, room, one_set, spare}

-- sector 32 of the backing device has another value
abbrev odd_backing : Image
odd_backing = λ s. if s == 48 then [] else zeros

-- a whole entry stands in the third sector of the journal
abbrev stray_cache : Image
stray_cache = λ s. if s == 66 then sector_with second_numbers else zeros

stray_blank : (from to : ℕ) → 66 < from → AreBlank stray_cache from to
stray_blank from to high s low below =
    let test = le_eqb s (omega (arith, high, low)) in
    let at : (if s == 66 then sector_with second_numbers else zeros) ≡ zeros = rw test refl in
    at
  where
    le_eqb : (n : ℕ) → 66 < n → (n == 66) ≡ false
    le_eqb n more = elim (eqb_tells n 66) [ inl t ↦ absurd (omega (arith, t.1, more)) | inr t ↦ t.0 ]

stray_starts : (i : ℕ) → i < 121 → stray_cache (64 * (1 + i)) ≡ zeros
stray_starts i inside = elim (eqb_tells (64 * (1 + i)) 66) [
  | inl t ↦ absurd (omega (arith, t.1))
  | inr t ↦ (let test = t.0 in let at : (if 64 * (1 + i) == 66 then sector_with second_numbers else zeros) ≡ zeros = rw test refl in at)
]

other_value : (v : List ℕ) → zeros ≡ v → v ≡ [] → ⊥
unfolding zeros
other_value v same none = omega (arith, ap (λ (xs : List ℕ). length xs) (same ∙ none), long)
  where
    long : length (replicate {A = ℕ} 512 0) ≡ 512
    long = refl

-- entry 0 has the uuid of zeros, and the backing device another one
no_names : NamesBacking (view 121 (lit≤ tt) 0 123 1 0 (lit< tt) (replicate 16 1) (2 ^ 61)) blank → ⊥
no_names p =
    let is : p.bucket ≡ 124 = into_table 121 (lit≤ tt) (lit≤ tt) p.bucket p.place in
    let there : TableIn (geometry 121 (lit≤ tt)) blank 124 p.entries = subst (λ n. TableIn (geometry 121 (lit≤ tt)) blank n p.entries) is p.table in
    let same : replicate 256 unused ≡ p.entries = one_table (geometry 121 (lit≤ tt)) blank 124 (replicate 256 unused) p.entries (blank_table 121 (lit≤ tt) blank (λ s low high. refl)) there in
    let first : replicate 16 0 ≡ replicate 16 1 = ap (λ (es : List UuidEntry). (slice_index_or es 0 unused).uuid) same ∙ p.first unused in
    absurd (omega (arith, ap (λ (xs : List ℕ). slice_index xs 0) first))

-- each bucket has a use
no_spare : HasSpareBuckets (geometry 122 (lit≤ tt)) (reading 0 123 1 0 (lit< tt)) → ⊥
no_spare p =
    let one = one_set 122 (lit≤ tt) in
    let long = p.enough in
    let first = p.each 0 0 (omega (arith, one, long)) in
    each_used (slice_index_or p.spare 0 0) first.0 first.1
  where
    each_used : (q : ℕ) → q < 128 → ((what : Use) → IsUsedFor (geometry 122 (lit≤ tt)) (reading 0 123 1 0 (lit< tt)) what q → ⊥) → ⊥
    each_used q inside free = elim (cases_lt q 1) [
      | inl low ↦ free uses.Super low
      | inr behind ↦ elim (cases_lt q 123) [
        | inl journal ↦ free uses.Journal (behind, omega (arith, journal))
        | inr more ↦ elim (cases_eq q 123) [
          | inl is ↦ free uses.Priority (0, lit< tt, sym is)
          | inr no123 ↦ elim (cases_eq q 124) [
            | inl is ↦ free uses.Uuid (ptr_at table_key 0, refl, sym is)
            | inr no124 ↦ elim (cases_eq q 125) [
              | inl is ↦ free uses.Node (0, root_node, lit< tt, refl, (ptr_at root_key 0, refl, sym is))
              | inr no125 ↦ elim (cases_eq q 126) [
                | inl is ↦ free uses.Node (1, leaf_node 0, lit< tt, refl, (ptr_at leaf_key 0, refl, sym is))
                | inr no126 ↦ free uses.Data (16, dirty_key 0 (lit< tt), record { last = refl; live = refl; place = (let is : 127 ≡ q = omega (arith, inside, more, no123, no124, no125, no126) in is) })
              ]
            ]
          ]
        ]
      ]
    ]

stray : FoundEntry
stray = at_place 66 second_entry

no_stray_there : HasNoStrayEntry (geometry 121 (lit≤ tt)) stray_cache (reading 0 123 1 0 (lit< tt)) → ⊥
unfolding words_of stray
no_stray_there p =
    let found = found_in_sector stray_cache 128 66 (sector_with second_numbers) second_entry refl refl (lit≤ tt) (lit< tt) second_is_entry in
    let there = p (at_place 66 second_entry) (0, 2, lit< tt, refl, found, lit≤ tt) (lit≤ tt) in
    not_first there.0 there.1 there.2
  where
    not_first : (k : ℕ) → k < 1 → slice_index_or (found_with 1 0 (lit< tt) ∷ []) k (at_place 66 second_entry) ≡ at_place 66 second_entry → ⊥
    not_first zero less same = absurd (omega (arith, ap (λ (e : FoundEntry). e.place) same))
    not_first (suc k) less same = absurd (omega arith)

pub has_all : HasAll
has_all = record { pair = pair_of blank blank 1000; view = view 121 (lit≤ tt) 0 123 1 0 (lit< tt) (replicate 16 0) (2 ^ 61); parts = parts }
  where
    parts : (part : Part) → HasPart (pair_of blank blank 1000) (view 121 (lit≤ tt) 0 123 1 0 (lit< tt) (replicate 16 0) (2 ^ 61)) part
    parts Superblocks = superblocks
    parts Backing = names 121 (lit≤ tt) (lit≤ tt) 0 123 1 0 (lit< tt) blank (2 ^ 61) (λ s low high. refl)
    parts Ranges = ranges 123 1 0 (lit< tt)
    parts Pointers = pointers 121 (lit≤ tt) (lit≤ tt) (data_sectors 1000 (backing_with (replicate 16 0) (2 ^ 61))) 0 123 1 0 (lit< tt) (lit≤ tt)
    parts Uses = one_use 121 (lit≤ tt) (lit≤ tt) 0 1 0 (lit< tt)
    parts Agreement = agrees 121 (lit≤ tt) (lit≤ tt) 0 123 1 0 (lit< tt) blank blank 1000 (replicate 16 0) (2 ^ 61) (λ s low high. refl) (λ s low high. refl)
    parts Window = window 121 (lit≤ tt) (lit≤ tt) 0 123 1
    parts Spare = spare 0 123 1 0 (lit< tt) (λ is. absurd (omega (arith, is)))
    parts Strays = no_strays 121 (lit≤ tt) (lit≤ tt) 0 123 1 0 (lit< tt) blank (λ s low high. refl)
    parts Room = room 121 (lit≤ tt) (lit≤ tt) 0 123 1 0 (lit< tt) blank (λ i less. refl) (lit< tt)

lacks_superblocks : LacksOnly Superblocks
lacks_superblocks = record { pair = pair_of blank blank 1000; view = view 121 (lit≤ tt) 0 123 1 0 (lit< tt) (replicate 16 0) 0; lacks = λ p. elim p.state [ inl clean ↦ absurd (omega (arith, clean)) | inr dirty ↦ absurd (omega (arith, dirty)) ]; others = others }
  where
    others : (other : Part) → other ≢ Superblocks → HasPart (pair_of blank blank 1000) (view 121 (lit≤ tt) 0 123 1 0 (lit< tt) (replicate 16 0) 0) other
    others Superblocks differs = absurd (differs refl)
    others Backing differs = names 121 (lit≤ tt) (lit≤ tt) 0 123 1 0 (lit< tt) blank 0 (λ s low high. refl)
    others Ranges differs = ranges 123 1 0 (lit< tt)
    others Pointers differs = pointers 121 (lit≤ tt) (lit≤ tt) (data_sectors 1000 (backing_with (replicate 16 0) 0)) 0 123 1 0 (lit< tt) (lit≤ tt)
    others Uses differs = one_use 121 (lit≤ tt) (lit≤ tt) 0 1 0 (lit< tt)
    others Agreement differs = agrees 121 (lit≤ tt) (lit≤ tt) 0 123 1 0 (lit< tt) blank blank 1000 (replicate 16 0) 0 (λ s low high. refl) (λ s low high. refl)
    others Window differs = window 121 (lit≤ tt) (lit≤ tt) 0 123 1
    others Spare differs = spare 0 123 1 0 (lit< tt) (λ is. absurd (omega (arith, is)))
    others Strays differs = no_strays 121 (lit≤ tt) (lit≤ tt) 0 123 1 0 (lit< tt) blank (λ s low high. refl)
    others Room differs = room 121 (lit≤ tt) (lit≤ tt) 0 123 1 0 (lit< tt) blank (λ i less. refl) (lit< tt)

lacks_backing : LacksOnly Backing
lacks_backing = record { pair = pair_of blank blank 1000; view = view 121 (lit≤ tt) 0 123 1 0 (lit< tt) (replicate 16 1) (2 ^ 61); lacks = no_names; others = others }
  where
    others : (other : Part) → other ≢ Backing → HasPart (pair_of blank blank 1000) (view 121 (lit≤ tt) 0 123 1 0 (lit< tt) (replicate 16 1) (2 ^ 61)) other
    others Superblocks differs = (record { initialised = (refl, lit< tt); same_set = refl; state = inl refl })
    others Backing differs = absurd (differs refl)
    others Ranges differs = ranges 123 1 0 (lit< tt)
    others Pointers differs = pointers 121 (lit≤ tt) (lit≤ tt) (data_sectors 1000 (backing_with (replicate 16 1) (2 ^ 61))) 0 123 1 0 (lit< tt) (lit≤ tt)
    others Uses differs = one_use 121 (lit≤ tt) (lit≤ tt) 0 1 0 (lit< tt)
    others Agreement differs = agrees 121 (lit≤ tt) (lit≤ tt) 0 123 1 0 (lit< tt) blank blank 1000 (replicate 16 1) (2 ^ 61) (λ s low high. refl) (λ s low high. refl)
    others Window differs = window 121 (lit≤ tt) (lit≤ tt) 0 123 1
    others Spare differs = spare 0 123 1 0 (lit< tt) (λ is. absurd (omega (arith, is)))
    others Strays differs = no_strays 121 (lit≤ tt) (lit≤ tt) 0 123 1 0 (lit< tt) blank (λ s low high. refl)
    others Room differs = room 121 (lit≤ tt) (lit≤ tt) 0 123 1 0 (lit< tt) blank (λ i less. refl) (lit< tt)

lacks_ranges : LacksOnly Ranges
lacks_ranges = record { pair = pair_of blank blank 1000; view = view 121 (lit≤ tt) 40 123 1 0 (lit< tt) (replicate 16 0) (2 ^ 61); lacks = λ p. let low = (All-tail KeepsRange root_node (leaf_node 40 ∷ []) p 0 (leaf_node 40) (lit< tt)).within 0 clean_key (lit< tt) in absurd (omega (arith, low.0)); others = others }
  where
    others : (other : Part) → other ≢ Ranges → HasPart (pair_of blank blank 1000) (view 121 (lit≤ tt) 40 123 1 0 (lit< tt) (replicate 16 0) (2 ^ 61)) other
    others Superblocks differs = superblocks
    others Backing differs = names 121 (lit≤ tt) (lit≤ tt) 40 123 1 0 (lit< tt) blank (2 ^ 61) (λ s low high. refl)
    others Ranges differs = absurd (differs refl)
    others Pointers differs = pointers 121 (lit≤ tt) (lit≤ tt) (data_sectors 1000 (backing_with (replicate 16 0) (2 ^ 61))) 40 123 1 0 (lit< tt) (lit≤ tt)
    others Uses differs = one_use 121 (lit≤ tt) (lit≤ tt) 40 1 0 (lit< tt)
    others Agreement differs = agrees 121 (lit≤ tt) (lit≤ tt) 40 123 1 0 (lit< tt) blank blank 1000 (replicate 16 0) (2 ^ 61) (λ s low high. refl) (λ s low high. refl)
    others Window differs = window 121 (lit≤ tt) (lit≤ tt) 40 123 1
    others Spare differs = spare 40 123 1 0 (lit< tt) (λ is. absurd (omega (arith, is)))
    others Strays differs = no_strays 121 (lit≤ tt) (lit≤ tt) 40 123 1 0 (lit< tt) blank (λ s low high. refl)
    others Room differs = room 121 (lit≤ tt) (lit≤ tt) 40 123 1 0 (lit< tt) blank (λ i less. refl) (lit< tt)

lacks_pointers : LacksOnly Pointers
lacks_pointers = record { pair = pair_of blank blank 36; view = view 121 (lit≤ tt) 0 123 1 0 (lit< tt) (replicate 16 0) (2 ^ 61); lacks = λ p. let end = (p.data_keys 1 clean_key (lit< tt)).end (lit< tt) in absurd (omega (arith, end)); others = others }
  where
    others : (other : Part) → other ≢ Pointers → HasPart (pair_of blank blank 36) (view 121 (lit≤ tt) 0 123 1 0 (lit< tt) (replicate 16 0) (2 ^ 61)) other
    others Superblocks differs = superblocks
    others Backing differs = names 121 (lit≤ tt) (lit≤ tt) 0 123 1 0 (lit< tt) blank (2 ^ 61) (λ s low high. refl)
    others Ranges differs = ranges 123 1 0 (lit< tt)
    others Pointers differs = absurd (differs refl)
    others Uses differs = one_use 121 (lit≤ tt) (lit≤ tt) 0 1 0 (lit< tt)
    others Agreement differs = agrees 121 (lit≤ tt) (lit≤ tt) 0 123 1 0 (lit< tt) blank blank 36 (replicate 16 0) (2 ^ 61) (λ s low high. refl) (λ s low high. refl)
    others Window differs = window 121 (lit≤ tt) (lit≤ tt) 0 123 1
    others Spare differs = spare 0 123 1 0 (lit< tt) (λ is. absurd (omega (arith, is)))
    others Strays differs = no_strays 121 (lit≤ tt) (lit≤ tt) 0 123 1 0 (lit< tt) blank (λ s low high. refl)
    others Room differs = room 121 (lit≤ tt) (lit≤ tt) 0 123 1 0 (lit< tt) blank (λ i less. refl) (lit< tt)

lacks_uses : LacksOnly Uses
lacks_uses = record { pair = pair_of blank blank 1000; view = view 121 (lit≤ tt) 0 127 1 0 (lit< tt) (replicate 16 0) (2 ^ 61); lacks = λ p. let same = p.one 127 uses.Priority uses.Data (0, lit< tt, refl) (16, dirty_key 0 (lit< tt), record { last = refl; live = refl; place = refl }) in absurd (cc); others = others }
  where
    others : (other : Part) → other ≢ Uses → HasPart (pair_of blank blank 1000) (view 121 (lit≤ tt) 0 127 1 0 (lit< tt) (replicate 16 0) (2 ^ 61)) other
    others Superblocks differs = superblocks
    others Backing differs = names 121 (lit≤ tt) (lit≤ tt) 0 127 1 0 (lit< tt) blank (2 ^ 61) (λ s low high. refl)
    others Ranges differs = ranges 127 1 0 (lit< tt)
    others Pointers differs = pointers 121 (lit≤ tt) (lit≤ tt) (data_sectors 1000 (backing_with (replicate 16 0) (2 ^ 61))) 0 127 1 0 (lit< tt) (lit≤ tt)
    others Uses differs = absurd (differs refl)
    others Agreement differs = agrees 121 (lit≤ tt) (lit≤ tt) 0 127 1 0 (lit< tt) blank blank 1000 (replicate 16 0) (2 ^ 61) (λ s low high. refl) (λ s low high. refl)
    others Window differs = window 121 (lit≤ tt) (lit≤ tt) 0 127 1
    others Spare differs = spare 0 127 1 0 (lit< tt) (λ is. absurd (omega (arith, is)))
    others Strays differs = no_strays 121 (lit≤ tt) (lit≤ tt) 0 127 1 0 (lit< tt) blank (λ s low high. refl)
    others Room differs = room 121 (lit≤ tt) (lit≤ tt) 0 127 1 0 (lit< tt) blank (λ i less. refl) (lit< tt)

lacks_agreement : LacksOnly Agreement
lacks_agreement = record { pair = pair_of blank odd_backing 1000; view = view 121 (lit≤ tt) 0 123 1 0 (lit< tt) (replicate 16 0) (2 ^ 61); lacks = λ p. other_value [] (p 32 clean_key refl refl refl) refl; others = others }
  where
    others : (other : Part) → other ≢ Agreement → HasPart (pair_of blank odd_backing 1000) (view 121 (lit≤ tt) 0 123 1 0 (lit< tt) (replicate 16 0) (2 ^ 61)) other
    others Superblocks differs = superblocks
    others Backing differs = names 121 (lit≤ tt) (lit≤ tt) 0 123 1 0 (lit< tt) blank (2 ^ 61) (λ s low high. refl)
    others Ranges differs = ranges 123 1 0 (lit< tt)
    others Pointers differs = pointers 121 (lit≤ tt) (lit≤ tt) (data_sectors 1000 (backing_with (replicate 16 0) (2 ^ 61))) 0 123 1 0 (lit< tt) (lit≤ tt)
    others Uses differs = one_use 121 (lit≤ tt) (lit≤ tt) 0 1 0 (lit< tt)
    others Agreement differs = absurd (differs refl)
    others Window differs = window 121 (lit≤ tt) (lit≤ tt) 0 123 1
    others Spare differs = spare 0 123 1 0 (lit< tt) (λ is. absurd (omega (arith, is)))
    others Strays differs = no_strays 121 (lit≤ tt) (lit≤ tt) 0 123 1 0 (lit< tt) blank (λ s low high. refl)
    others Room differs = room 121 (lit≤ tt) (lit≤ tt) 0 123 1 0 (lit< tt) blank (λ i less. refl) (lit< tt)

lacks_window : LacksOnly Window
lacks_window = record { pair = pair_of blank blank 1000; view = view 121 (lit≤ tt) 0 123 1 255 (lit< tt) (replicate 16 0) (2 ^ 61); lacks = λ p. let age = (p 16 (dirty_key 255 (lit< tt)) (ptr_at (dirty_key 255 (lit< tt)) 0) refl refl).1 refl in absurd (omega (arith, age)); others = others }
  where
    others : (other : Part) → other ≢ Window → HasPart (pair_of blank blank 1000) (view 121 (lit≤ tt) 0 123 1 255 (lit< tt) (replicate 16 0) (2 ^ 61)) other
    others Superblocks differs = superblocks
    others Backing differs = names 121 (lit≤ tt) (lit≤ tt) 0 123 1 255 (lit< tt) blank (2 ^ 61) (λ s low high. refl)
    others Ranges differs = ranges 123 1 255 (lit< tt)
    others Pointers differs = pointers 121 (lit≤ tt) (lit≤ tt) (data_sectors 1000 (backing_with (replicate 16 0) (2 ^ 61))) 0 123 1 255 (lit< tt) (lit≤ tt)
    others Uses differs = one_use 121 (lit≤ tt) (lit≤ tt) 0 1 255 (lit< tt)
    others Agreement differs = agrees 121 (lit≤ tt) (lit≤ tt) 0 123 1 255 (lit< tt) blank blank 1000 (replicate 16 0) (2 ^ 61) (λ s low high. refl) (λ s low high. refl)
    others Window differs = absurd (differs refl)
    others Spare differs = spare 0 123 1 255 (lit< tt) (λ is. absurd (omega (arith, is)))
    others Strays differs = no_strays 121 (lit≤ tt) (lit≤ tt) 0 123 1 255 (lit< tt) blank (λ s low high. refl)
    others Room differs = room 121 (lit≤ tt) (lit≤ tt) 0 123 1 255 (lit< tt) blank (λ i less. refl) (lit< tt)

lacks_spare : LacksOnly Spare
lacks_spare = record { pair = pair_of blank blank 1000; view = view 122 (lit≤ tt) 0 123 1 0 (lit< tt) (replicate 16 0) (2 ^ 61); lacks = no_spare; others = others }
  where
    others : (other : Part) → other ≢ Spare → HasPart (pair_of blank blank 1000) (view 122 (lit≤ tt) 0 123 1 0 (lit< tt) (replicate 16 0) (2 ^ 61)) other
    others Superblocks differs = superblocks
    others Backing differs = names 122 (lit≤ tt) (lit≤ tt) 0 123 1 0 (lit< tt) blank (2 ^ 61) (λ s low high. refl)
    others Ranges differs = ranges 123 1 0 (lit< tt)
    others Pointers differs = pointers 122 (lit≤ tt) (lit≤ tt) (data_sectors 1000 (backing_with (replicate 16 0) (2 ^ 61))) 0 123 1 0 (lit< tt) (lit≤ tt)
    others Uses differs = one_use 122 (lit≤ tt) (lit≤ tt) 0 1 0 (lit< tt)
    others Agreement differs = agrees 122 (lit≤ tt) (lit≤ tt) 0 123 1 0 (lit< tt) blank blank 1000 (replicate 16 0) (2 ^ 61) (λ s low high. refl) (λ s low high. refl)
    others Window differs = window 122 (lit≤ tt) (lit≤ tt) 0 123 1
    others Spare differs = absurd (differs refl)
    others Strays differs = no_strays 122 (lit≤ tt) (lit≤ tt) 0 123 1 0 (lit< tt) blank (λ s low high. refl)
    others Room differs = room 122 (lit≤ tt) (lit≤ tt) 0 123 1 0 (lit< tt) blank (λ i less. refl) (lit< tt)

lacks_strays : LacksOnly Strays
lacks_strays = record { pair = pair_of stray_cache blank 1000; view = view 121 (lit≤ tt) 0 123 1 0 (lit< tt) (replicate 16 0) (2 ^ 61); lacks = no_stray_there; others = others }
  where
    others : (other : Part) → other ≢ Strays → HasPart (pair_of stray_cache blank 1000) (view 121 (lit≤ tt) 0 123 1 0 (lit< tt) (replicate 16 0) (2 ^ 61)) other
    others Superblocks differs = superblocks
    others Backing differs = names 121 (lit≤ tt) (lit≤ tt) 0 123 1 0 (lit< tt) stray_cache (2 ^ 61) (stray_blank 7936 8000 (lit< tt))
    others Ranges differs = ranges 123 1 0 (lit< tt)
    others Pointers differs = pointers 121 (lit≤ tt) (lit≤ tt) (data_sectors 1000 (backing_with (replicate 16 0) (2 ^ 61))) 0 123 1 0 (lit< tt) (lit≤ tt)
    others Uses differs = one_use 121 (lit≤ tt) (lit≤ tt) 0 1 0 (lit< tt)
    others Agreement differs = agrees 121 (lit≤ tt) (lit≤ tt) 0 123 1 0 (lit< tt) stray_cache blank 1000 (replicate 16 0) (2 ^ 61) (stray_blank 8128 8192 (lit< tt)) (λ s low high. refl)
    others Window differs = window 121 (lit≤ tt) (lit≤ tt) 0 123 1
    others Spare differs = spare 0 123 1 0 (lit< tt) (λ is. absurd (omega (arith, is)))
    others Strays differs = absurd (differs refl)
    others Room differs = room 121 (lit≤ tt) (lit≤ tt) 0 123 1 0 (lit< tt) stray_cache stray_starts (lit< tt)

lacks_room : LacksOnly Room
lacks_room = record { pair = pair_of blank blank 1000; view = view 121 (lit≤ tt) 0 123 (2 ^ 63 - 2) 0 (lit< tt) (replicate 16 0) (2 ^ 61); lacks = λ p. let less = p.number in absurd (omega (arith, less)); others = others }
  where
    others : (other : Part) → other ≢ Room → HasPart (pair_of blank blank 1000) (view 121 (lit≤ tt) 0 123 (2 ^ 63 - 2) 0 (lit< tt) (replicate 16 0) (2 ^ 61)) other
    others Superblocks differs = superblocks
    others Backing differs = names 121 (lit≤ tt) (lit≤ tt) 0 123 (2 ^ 63 - 2) 0 (lit< tt) blank (2 ^ 61) (λ s low high. refl)
    others Ranges differs = ranges 123 (2 ^ 63 - 2) 0 (lit< tt)
    others Pointers differs = pointers 121 (lit≤ tt) (lit≤ tt) (data_sectors 1000 (backing_with (replicate 16 0) (2 ^ 61))) 0 123 (2 ^ 63 - 2) 0 (lit< tt) (lit≤ tt)
    others Uses differs = one_use 121 (lit≤ tt) (lit≤ tt) 0 (2 ^ 63 - 2) 0 (lit< tt)
    others Agreement differs = agrees 121 (lit≤ tt) (lit≤ tt) 0 123 (2 ^ 63 - 2) 0 (lit< tt) blank blank 1000 (replicate 16 0) (2 ^ 61) (λ s low high. refl) (λ s low high. refl)
    others Window differs = window 121 (lit≤ tt) (lit≤ tt) 0 123 (2 ^ 63 - 2)
    others Spare differs = spare 0 123 (2 ^ 63 - 2) 0 (lit< tt) (λ is. absurd (omega (arith, is)))
    others Strays differs = no_strays 121 (lit≤ tt) (lit≤ tt) 0 123 (2 ^ 63 - 2) 0 (lit< tt) blank (λ s low high. refl)
    others Room differs = absurd (differs refl)

pub lacks_only : (part : Part) → LacksOnly part
lacks_only Superblocks = lacks_superblocks
lacks_only Backing = lacks_backing
lacks_only Ranges = lacks_ranges
lacks_only Pointers = lacks_pointers
lacks_only Uses = lacks_uses
lacks_only Agreement = lacks_agreement
lacks_only Window = lacks_window
lacks_only Spare = lacks_spare
lacks_only Strays = lacks_strays
lacks_only Room = lacks_room
