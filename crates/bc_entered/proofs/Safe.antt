-- What the calls of `enter` leave.
use Rattle.std.proofs.Common.{◌≡◌, ◌⊎◌, inl, inr, ℕ, ◌<◌, ◌*◌, ◌≤◌, true, false, List, length, Option, refl, sym, ap, ◌∙◌, subst, arith}
use Rattle.std.specs.Prelude.{Result, Ok, Err, OnOk, is_err}
use Rattle.bc_model.specs.Sector.{Image, values_of}
use Rattle.bc_disk.specs.Device.{next_count}
use Rattle.bc_disk.specs.Disk.{DiskFacts, IfTold, IsOnDisk, Torn}
use Rattle.bc_disk.specs.declared.geometry.Geometry.{Geometry}
use Rattle.bc_record.proofs.Found.{takes_some}
use Rattle.bc_jset.specs.Records.{entry_kind, entry_sectors}
use Rattle.bc_jset.proofs.Records.{entry_codec}
use Rattle.bc_entries.specs.Journal.{Journal as Read}
use Rattle.bc_entries.proofs.Held.{bucket_within}
use Rattle.bc_journal.specs.Sealed.{AreBytesOf, Sealed, sector_at}
use Rattle.bc_super.specs.Writing.{AreCounted, count_after}
use Rattle.bc_image.specs.Pair.{Pair}
use Rattle.bc_image.specs.Reading.{IsView, View}
use Rattle.bc_image.specs.Sound.{HasSoundParts}
use Rattle.bc_enter.specs.Next.{IsNext}
use Rattle.bc_enter.specs.Written.{IsPartly}
use Rattle.bc_entered.specs.Enter.{IsHeldStill, KeepsThePair, TearsNone, WasRead}
use Rattle.bc_entered.specs.Laws.{ShowsTheSame}
use Rattle.bc_entered.proofs.Law.{law_entered}
use Rattle.bc_entered.proofs.Next.{law_next}

same_everywhere : (a b : Image) → ((s : ℕ) → b s ≡ a s) → b ≡ a
same_everywhere a b same = λ i. λ s. same s i

-- no call was made
pub unmoved : (g : Geometry) (read : Read) (d : DiskFacts) → KeepsThePair g read d d
unmoved g read d p v held view sound geometry was tears image may =
    subst (λ (c : Image). ShowsTheSame p v (record p { cache = c })) (sym (same_everywhere p.cache image (held.still image may)))
    (record { later = v; geometry = refl; view = view; sound = sound; shows = λ s. refl })

-- the entry was written, in part or whole
module _ (read : Read) (s : Sealed) (bytes : List ℕ) (old new : DiskFacts) where
  abbrev Keeps : Pair → View → Geometry → Type 0
  Keeps p v g = IsNext g read s → AreBytesOf g s.entry bytes → IsPartly (sector_at g s.place) (values_of bytes) old new → TearsNone g p.cache read
      → (image : Image) → new.may_leave image → ShowsTheSame p v (record p { cache = image })

  keeps : (p : Pair) (v : View) → IsHeldStill p old → IsView p v → HasSoundParts p v → WasRead p v read → Keeps p v v.geometry
  keeps p v held view sound was next are partly tears image may =
      let g = v.geometry in
      let at = sector_at g s.place in
      let values = values_of bytes in
      let leaves = subst (λ (o : Option Image). IfTold o (λ h. (i : Image) → new.may_leave i → old.may_leave i ⊎ Torn at values h i)) held.holds partly.leaves in
      let torn : Torn at values p.cache image = elim (leaves image may) [ inl before ↦ (λ n. inl (held.still image before n)) | inr torn ↦ torn ] in
      law_entered p v s.entry s.place.bucket at values view sound
      (law_next g p.cache v.reading read s bytes view.reading was.journal was.entries next are (tears s bytes next are))
      (record p { cache = image })
      (record { cache = torn; backing = λ n. refl; cache_sectors = refl; backing_sectors = refl })

  pub moved : (g : Geometry) → IsNext g read s → AreBytesOf g s.entry bytes → IsPartly (sector_at g s.place) (values_of bytes) old new → KeepsThePair g read old new
  moved g next are partly p v held view sound geometry was tears =
      subst (λ (h : Geometry). Keeps p v h) geometry (keeps p v held view sound was) next are partly tears

-- ---- the write

pub on_disk : (g : Geometry) (read : Read) (s : Sealed) (bytes : List ℕ) (at : ℕ) (d : DiskFacts) → IsNext g read s → AreBytesOf s.geometry s.entry bytes → at ≡ sector_at s.geometry s.place
    → g.bucket * g.nbuckets ≤ d.sectors → IsOnDisk at (length bytes) d
on_disk g read s bytes at d next are here room =
    let size = subst (λ (h : Geometry). length bytes ≡ 512 * entry_sectors h s.entry) next.geometry are.whole in
    let start = here ∙ ap (λ (h : Geometry). sector_at h s.place) next.geometry in
    let fits = next.place.fits in
    let within = bucket_within g s.place.bucket next.place.journal in
    (entry_sectors g s.entry, takes_some (entry_kind g) (entry_codec g) s.entry, size, omega (arith, start, fits, within, room))

pub good_is : {E : Type 0} (P : Type 0) (r : Result (Unit {0}) E) (old new : DiskFacts) → is_err r ≡ false → OnOk r P → AreCounted 3 r old new
    → P × (new.calls ≡ count_after 3 old.calls) × (new.faults ≡ old.faults)
good_is P (Ok u) old new good holds counts = (holds, counts.0, counts.1)
good_is P (Err e) old new good holds counts = absurd (cc)

pub fault_is : {E : Type 0} (r : Result (Unit {0}) E) (old new : DiskFacts) → is_err r ≡ true → AreCounted 3 r old new
    → ((k : ℕ) × (0 < k) × (k ≤ 3) × (new.calls ≡ count_after k old.calls)) × (new.faults ≡ next_count old.faults)
fault_is (Ok u) old new bad counts = absurd (cc)
fault_is (Err e) old new bad counts = counts
