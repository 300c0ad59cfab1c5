-- A run over the bytes of a device that was made anew.
use Rattle.std.proofs.Common.{subst, ◌≡◌, ◌≢◌, ◌⊎◌, inl, inr, ℕ, zero, suc, ◌+◌, ◌/◌, ◌<◌, ◌≤◌, true, false, List, [], ◌∷◌, ◌++◌, replicate, Some, None, get_or, refl, sym, ap, ◌∙◌, arith, lit≤, if◌then◌else◌}
use Rattle.std.proofs.lemmas.List.{append-nil}
use Rattle.std.proofs.lemmas.List.Elements.{All-nil}
use Rattle.bc_bytes.specs.Checksum.{message, dividend, checksum}
use Rattle.bc_bytes.specs.Division.{remainder}
use Rattle.bc_bytes.specs.Fields.{number_at}
use Rattle.bc_model.specs.Sector.{Image, at_run}
use Rattle.bc_model.specs.Pattern.{zeros}
use Rattle.bc_disk.specs.Device.{Among, MayLeave, instead}
use Rattle.bc_disk.specs.declared.geometry.Geometry.{Geometry}
use Rattle.bc_record.specs.Places.{end_of}
use Rattle.bc_record.specs.Sectors.{sector_bytes}
use Rattle.bc_record.proofs.Found.{found_stays, one_found, takes_some}
use Rattle.bc_record.proofs.Parts.{sector_of_whole}
use Rattle.bc_key.specs.Key.{IsExtent, ptr_at}
use Rattle.bc_key.specs.Words.{ReadsAsPtr, Spells}
use Rattle.bc_keys.specs.Spelling.{words_at}
use Rattle.bc_jset.specs.declared.entry.JEntry.{JEntry}
use Rattle.bc_jset.specs.EntryBytes as jset
use Rattle.bc_jset.specs.EntryBytes.{IsEntry}
use Rattle.bc_jset.specs.Records.{entry_kind, entry_sectors, EntryFound}
use Rattle.bc_jset.specs.Entries.{FoundEntry, bucket_start, bucket_end}
use Rattle.bc_jset.specs.Ring.{bucket_of}
use Rattle.bc_jset.proofs.ExampleEntries.{found_in_sector}
use Rattle.bc_jset.proofs.Records.{entry_codec, none_in_zeros}
use Rattle.bc_meta.specs.Facts.{In, IsAtBlock}
use Rattle.bc_meta.specs.Keys.{last_ref}
use Rattle.bc_meta.specs.Entries.{Entry, all_keys, live}
use Rattle.bc_meta.specs.Tree.{IsNamed, Keeps, Walk, Whole, tree_list}
use Rattle.bc_meta.specs.Layout.{Layout, entry_len}
use Rattle.bc_meta.specs.Events.{WriteEntry, Barrier}
use Rattle.bc_meta.specs.Records.{Reads, stable_node}
use Rattle.bc_meta.specs.Places.{Wrote}
use Rattle.bc_meta.specs.Acts.{Act, Durable, IsRun, Plain, Seal, StaysUnused}
use Rattle.bc_meta.specs.Laws.{Opening, opened, reached}
use Rattle.bc_meta.proofs.Acts.{inv_opened}
use Rattle.bc_meta.proofs.Lists.{by_le, by_test, decide}
use Rattle.bc_image.specs.NewPair.{new_cache, new_pair}
use Rattle.bc_image.specs.Reading.{Reading}
use Rattle.bc_image.proofs.Examples.{geometry}
use Rattle.bc_image.proofs.Fresh.{fresh_reading}
use Rattle.bc_image.proofs.NewPair.{backing, cache, entry, first_entry, is_formatted, root_key, superblocks, table_key}
use Rattle.bc_facts.specs.Whole.{IsWhole}
use Rattle.bc_facts.specs.Seen.{seen_entry, seen_entries}
use Rattle.bc_facts.specs.Layout.{IsLayoutOf}
use Rattle.bc_facts.specs.Torn.{NoTornRecord}
use Rattle.bc_facts.proofs.Made as made
use Rattle.bc_facts.proofs.Stood.{any_in}
use Rattle.bc_remains.specs.Laws.{IsOpened, IsRunOf}
use Rattle.bc_remains.specs.Example.{HasExample, IsExample}
use Rattle.bc_remains.proofs.Crash.{law_crash}
use Rattle.bc_remains.proofs.Fresh.{fresh_opened}

-- ---- the second entry: as the first one, with number 2

abbrev second_sector : List ℕ
second_sector =
    (0x00 ∷ 0x8d ∷ 0xb8 ∷ 0x76 ∷ 0xd3 ∷ 0x5d ∷ 0xb3 ∷ 0x41 ∷ 0x33 ∷ 0x50 ∷ 0x62 ∷ 0xa3 ∷ 0xc1 ∷ 0x35 ∷ 0x52 ∷ 0x24
    ∷ 0x02 ∷ 0x00 ∷ 0x00 ∷ 0x00 ∷ 0x00 ∷ 0x00 ∷ 0x00 ∷ 0x00 ∷ 0x01 ∷ 0x00 ∷ 0x00 ∷ 0x00 ∷ 0x00 ∷ 0x00 ∷ 0x00 ∷ 0x00
    ∷ 0x01 ∷ 0x00 ∷ 0x00 ∷ 0x00 ∷ 0x00 ∷ 0x00 ∷ 0x00 ∷ 0x00 ∷ 0x00 ∷ 0x00 ∷ 0x00 ∷ 0x04 ∷ 0x00 ∷ 0x00 ∷ 0x00 ∷ 0x90
    ∷ 0x40 ∷ 0x00 ∷ 0x00 ∷ 0x00 ∷ 0x00 ∷ 0x00 ∷ 0x00 ∷ 0x00 ∷ 0x00 ∷ 0x80 ∷ 0x02 ∷ [])
    ++ (replicate 48 0
    ++ ((0x04 ∷ 0x00 ∷ 0x00 ∷ 0x00 ∷ 0x90 ∷ 0x00 ∷ 0x00 ∷ 0x00 ∷ 0x00 ∷ 0x00 ∷ 0x01 ∷ 0x00 ∷ 0x00 ∷ 0x00 ∷ 0xc0 ∷ 0x02 ∷ [])
    ++ (replicate 45 0
    ++ ((0x01 ∷ 0x00 ∷ 0x00 ∷ 0x00 ∷ 0x00 ∷ 0x00 ∷ 0x00 ∷ 0x00 ∷ 0x09 ∷ [])
    ++ (replicate 335 0)))))

abbrev second : JEntry
second = record { seq = 2; last_seq = 1; uuid_bucket = table_key; root = root_key; level = 1; prio = 9; keys = [] }

second_sum : jset.HasChecksum second_sector
unfolding number_at checksum dividend message remainder
second_sum = refl

table_ptrs : (i : ℕ) → i < 1 → ReadsAsPtr (get_or (jset.uuid_words second_sector) (2 + i) 0) (ptr_at table_key i)
unfolding number_at words_at
table_ptrs zero h = record { generation = refl; offset = refl; dev = refl }
table_ptrs (suc i) h = absurd (omega arith)

root_ptrs : (i : ℕ) → i < 1 → ReadsAsPtr (get_or (jset.root_words second_sector) (2 + i) 0) (ptr_at root_key i)
unfolding number_at words_at
root_ptrs zero h = record { generation = refl; offset = refl; dev = refl }
root_ptrs (suc i) h = absurd (omega arith)

table_spelled : Spells (jset.uuid_words second_sector) table_key
unfolding number_at words_at
table_spelled = record { long = lit≤ tt; high = record { inode = refl; size = refl; dirty = refl; csum = refl; count = refl }; end = refl; ptrs = table_ptrs }

root_spelled : Spells (jset.root_words second_sector) root_key
unfolding number_at words_at
root_spelled = record { long = lit≤ tt; high = record { inode = refl; size = refl; dirty = refl; csum = refl; count = refl }; end = refl; ptrs = root_ptrs }

second_is : IsEntry 1 second_sector second
unfolding number_at words_at
second_is = record {
  whole = record { header = record { room = lit≤ tt; magic = refl; version = refl }; few = lit≤ tt; long = lit≤ tt; checksum = second_sum };
  seq = refl;
  last_seq = refl;
  uuid_bucket = table_spelled;
  root = root_spelled;
  level = refl;
  known_level = inl refl;
  prio = refl;
  keys = refl;
  extents = All-nil IsExtent;
}

-- ---- the run

abbrev g : Geometry
g = geometry 8 (lit≤ tt)

second_begins : IsEntry 1 (sector_bytes second_sector ++ []) second
second_begins = subst (λ (bs : List ℕ). IsEntry 1 bs second) (sym (append-nil (sector_bytes second_sector) ∙ sector_of_whole second_sector refl)) second_is

no_true : false ≡ true → ⊥
no_true e = cc

module _ (w : Layout) (layout : IsLayoutOf g w) (r : Reading) (start : IsOpened g w new_cache r)
    (entries_are : r.entries ≡ r.newest ∷ []) (place_is : r.newest.place ≡ 64) (item_is : r.newest.item ≡ entry) where
  abbrev o : Opening
  o = start.opening

  newest_is : start.opening.newest ≡ seen_entry g entry
  newest_is = sym start.opens.means.newest_is ∙ ap (λ (e : JEntry). seen_entry g e) item_is

  number_is : start.opening.newest.number ≡ 1
  number_is = ap (λ (e : Entry). e.number) newest_is

  only : start.opening.older ≡ []
  only = tail (seen_entry g r.newest.item) start.opening.newest [] start.opening.older (sym (ap (λ (es : List FoundEntry). seen_entries g es) entries_are) ∙ start.opens.means.entries)
    where
      tail : (x y : Entry) (xs ys : List Entry) → x ∷ xs ≡ y ∷ ys → ys ≡ xs
      tail x y xs ys e = cc

  bucket_is : start.opening.bucket ≡ 0
  bucket_is =
      let at : 1 + start.opening.bucket ≡ 1 = start.opens.bucket ∙ ap (λ p. p / 64) place_is in
      omega (arith, at)

  end_is : r.newest.place + entry_sectors g r.newest.item ≡ 65
  end_is = ap (λ p. p + entry_sectors g r.newest.item) place_is ∙ ap (λ (e : JEntry). 64 + entry_sectors g e) item_is

  next_is : start.opening.ring_next start.opening.bucket ≡ 65
  next_is =
      let k = any_in (λ (e : FoundEntry). (bucket_of g e ≡ bucket_of g r.newest) × (end_of (entry_kind g) e ≡ start.opening.ring_next start.opening.bucket)) r.entries start.opens.next.last in
      let same : k.0 ≡ r.newest = elim (subst (λ (l : List FoundEntry). In k.0 l) entries_are k.1) [ inl e ↦ e | inr i ↦ absurd i ] in
      sym k.2.1 ∙ ap (λ (e : FoundEntry). e.place + entry_sectors g e.item) same ∙ end_is

  abbrev acts : List Act
  acts = Seal (seen_entry g second) start.opening.unused ∷ Plain Barrier ∷ Plain (WriteEntry (second_sector ∷ [])) ∷ Plain Barrier ∷ Durable ∷ []

  free : StaysUnused w (opened w start.opening) start.opening.unused
  free = (inv_opened w start.opening start.sound).unused

  live_is : live 1 (start.opening.newest ∷ start.opening.older) ≡ start.opening.newest ∷ start.opening.older
  live_is =
      by_le 1 start.opening.newest.number (λ b. (if b then start.opening.newest ∷ live 1 start.opening.older else []) ≡ start.opening.newest ∷ start.opening.older)
      (λ _. ap (λ (l : List Entry). start.opening.newest ∷ l) (ap (live 1) only ∙ sym only)) (λ lt. let n = number_is in absurd (omega (arith, lt, n)))

  -- with a root like the newest one's all reads as before
  reads : Reads (λ q. stable_node ((opened w start.opening).places.records.nodes q)) start.opening.unused (live 1 (start.opening.newest ∷ start.opening.older)) (opened w start.opening).places.records.index
      (seen_entry g second).level (seen_entry g second).root (seen_entry g second).word
  reads c h =
      let d = (inv_opened w start.opening start.sound).records.durable in
      let level = ap (λ (e : Entry). e.level) newest_is in
      let root = ap (λ (e : Entry). e.root) newest_is in
      let word = ap (λ (e : Entry). e.word) newest_is in (
        (λ s. ap (λ (l : List Entry). last_ref (all_keys l ++ tree_list c 1 (seen_entry g second).root) s) live_is
            ∙ ap (λ n. last_ref (all_keys (start.opening.newest ∷ start.opening.older) ++ tree_list c n (seen_entry g second).root) s) (sym level)
            ∙ ap (λ n. last_ref (all_keys (start.opening.newest ∷ start.opening.older) ++ tree_list c start.opening.newest.level n) s) (sym root)
            ∙ d.same c h s),
        subst (λ n. Walk Whole c 1 n) root (subst (λ n. Walk Whole c n start.opening.newest.root) level (d.whole c h)),
        subst (λ n. Keeps start.opening.unused c 1 n) root (subst (λ n. Keeps start.opening.unused c n start.opening.newest.root) level (d.keeps c h)),
        subst (λ n. IsNamed start.opening.owners c 1 (seen_entry g second).root n) word
            (subst (λ n. IsNamed start.opening.owners c 1 n start.opening.newest.word) root (subst (λ n. IsNamed start.opening.owners c n start.opening.newest.root start.opening.newest.word) level (d.named c h))),
      )

  spelled : w.entries.spelled tt (second_sector ∷ []) ≡ Some (seen_entry g second)
  spelled = (layout.entries.spelled tt (second_sector ∷ []) (seen_entry g second)).1 (second, (second_begins, refl), refl)

  room : start.opening.ring_next start.opening.bucket + entry_len w (seen_entry g second) ≤ w.first start.opening.bucket + w.bucket_sectors
  room =
      let n = next_is in
      let b = bucket_is in
      let f = layout.first start.opening.bucket in
      let s = layout.bucket_sectors in
      let l : entry_len w (seen_entry g second) ≡ 1 = layout.entries.long tt second in
      omega (arith, n, b, f, s, l)

  run : IsRun w (opened w start.opening) acts
  run =
      let n = number_is in
      let last = ap (λ (e : Entry). e.last_seq) newest_is in (
        (((refl, omega (arith, last), omega (arith, n), (λ q h. h), reads, omega (arith, n), refl), tt), (free, sym (ap (λ (e : Entry). e.prio) newest_is))),
        (((tt, tt), (refl, free)), (((refl, (spelled, room)), (refl, free)), (((tt, tt), (refl, free)), (((refl, tt), tt), tt)))),
      )

  module _ (image : Image) (left : MayLeave (reached w start.opening acts).places.device image) where
    left_at : (s : ℕ) → Among (image s) (instead (at_run 65 (second_sector ∷ []) s) (new_cache s ∷ []))
    left_at s =
        subst (λ (i : Image). Among (image s) (instead (at_run 65 (second_sector ∷ []) s) (i s ∷ []))) start.image_is
        (subst (λ p. Among (image s) (instead (at_run p (second_sector ∷ []) s) (start.opening.image s ∷ []))) next_is (left s))

    new_sector : image 65 ≡ second_sector
    new_sector = elim (left_at 65) [ inl e ↦ e | inr n ↦ absurd n ]

    old_sector : (s : ℕ) → s ≢ 65 → image s ≡ new_cache s
    old_sector s other =
        by_test 65 s (λ b. Among (image s) (instead (if b then Some second_sector else None) (new_cache s ∷ [])) → image s ≡ new_cache s)
        (λ same. absurd (other (sym same))) (λ _ h. elim h [ inl e ↦ e | inr n ↦ absurd n ]) (left_at s)

    found_once : (b at : ℕ) → b < 8 → IsAtBlock 1 (bucket_start g b) at → (e : JEntry) → IsWhole (entry_kind g) image (bucket_end g b) at e
        → IsWhole (entry_kind g) start.opening.image (bucket_end g b) at e ⊎ Wrote (reached w start.opening acts).places.entry_log b at (seen_entry g e)
    found_once b at lt block e whole = elim (decide at 65) [
      | inl here ↦
          (let is = block.1 in
          let zero_b : b ≡ 0 = omega (arith, is, here) in
          let fits = whole.1 in
          let some = takes_some (entry_kind g) (entry_codec g) e in
          let there : EntryFound g image (bucket_end g b) 65 second = found_in_sector image (bucket_end g b) 65 second_sector second new_sector refl (lit≤ tt) (omega (arith, fits, some, here)) second_is in
          let same : e ≡ second = one_found (entry_kind g) (entry_codec g) image (bucket_end g b) 65 e second (subst (λ p. EntryFound g image (bucket_end g b) p e) here whole.0) there in
          inr (inl (zero_b ∙ sym bucket_is, here ∙ sym next_is, ap (λ (x : JEntry). seen_entry g x) same)))
      | inr other ↦ elim (decide at 64) [
        | inl first ↦
            (let is = block.1 in
            let zero_b : b ≡ 0 = omega (arith, is, first) in
            let there : EntryFound g image 128 64 entry = found_stays (entry_kind g) (entry_codec g) new_cache image 128 64 entry first_entry.stands (λ s from to. sym (old_sector s (λ e2. absurd (omega (arith, e2, to))))) (lit≤ tt) in
            let end : bucket_end g b ≡ 128 = ap (λ n. bucket_end g n) zero_b in
            let same : e ≡ entry = one_found (entry_kind g) (entry_codec g) image 128 64 e entry (subst (λ p. EntryFound g image p 64 e) end (subst (λ p. EntryFound g image (bucket_end g b) p e) first whole.0)) there in
            inl (
              subst (λ (i : Image). EntryFound g i (bucket_end g b) at e) (sym start.image_is)
                  (subst (λ p. EntryFound g new_cache (bucket_end g b) p e) (sym first) (subst (λ p. EntryFound g new_cache p 64 e) (sym end) (subst (λ (x : JEntry). EntryFound g new_cache 128 64 x) (sym same) first_entry.stands))),
              whole.1,
            ))
        | inr later ↦
            (let is = block.1 in
            let fits = whole.1 in
            let some = takes_some (entry_kind g) (entry_codec g) e in
            let blank : new_cache at ≡ zeros = first_entry.blank at (omega (arith, is, later)) (omega (arith, is, fits, some, lt)) in
            absurd (none_in_zeros g image (bucket_end g b) at e (old_sector at other ∙ blank) whole.0))
      ]
    ]

  no_torn : NoTornRecord g start.opening.image (reached w start.opening acts).places
  no_torn = record {
    entries = λ image b at left lt block e whole. found_once image left b at lt block e whole;
    sets = λ image q left own known stand s whole. absurd (no_true own);
  }

  is_run : IsRunOf g w start.opening acts
  is_run = record { layout = layout; sound = start.sound; run = run; no_torn = no_torn }

  pub is_example : IsExample g w start.opening acts
  is_example = record {
    run = is_run;
    image = start.image_is;
    first = number_is;
    second = λ image left. (let k = law_crash g w start.opening acts is_run image left in
        (k.0, k.1, elim k.2 [ inl m ↦ ap (λ (e : Entry). e.number) m.newest_is | inr x ↦ absurd x.0 ]));
  }

same_first : is_formatted.entry ≡ entry
same_first = one_found (entry_kind g) (entry_codec g) new_cache (bucket_end g 0) (bucket_start g 0) is_formatted.entry entry is_formatted.first_entry.stands first_entry.stands

pub has_example : HasExample
has_example =
    let w = made.law_layout g in
    let start = fresh_opened new_pair backing cache g w.0 w.1 is_formatted superblocks in
    (g, w.0, start.opening, (acts w.0 w.1 (fresh_reading new_pair backing cache g is_formatted) start refl refl same_first, is_example w.0 w.1 (fresh_reading new_pair backing cache g is_formatted) start refl refl same_first))
