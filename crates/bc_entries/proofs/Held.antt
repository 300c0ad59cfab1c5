-- From the bytes of buckets to what a device holds.
use Rattle.std.proofs.Common.{◌≡◌, ℕ, suc, ◌+◌, ◌*◌, ◌<◌, ◌≤◌, List, [], ◌++◌, length, Option, Some, None, refl, sym, subst, ap, ◌∙◌, arith}
use Rattle.std.specs.Prelude.{All, Result, Ok, Err, IfOk, IfErr}
use Rattle.std.proofs.Math.Nat.{mul-add, mul-le-mul_left}
use Rattle.std.proofs.lemmas.List.Elements.{All-append}
use Rattle.bc_model.specs.Sector.{Image, Value, Gives, values_of}
use Rattle.bc_disk.specs.Bytes.{image_of}
use Rattle.bc_disk.specs.Disk.{DiskFacts, IfTold, BothTold, IsRead, IsKept}
use Rattle.bc_disk.specs.declared.geometry.Geometry.{Geometry}
use Rattle.bc_record.specs.Sectors.{Has}
use Rattle.bc_record.specs.Kind.{AreFound}
use Rattle.bc_record.specs.Places.{placed}
use Rattle.bc_record.proofs.Blocks.{bucket_blocks}
use Rattle.bc_record.proofs.Found.{run_stays}
use Rattle.bc_jset.specs.declared.entry.JEntry.{JEntry}
use Rattle.bc_jset.specs.Records.{entry_kind}
use Rattle.bc_jset.specs.Entries.{FoundEntry, StandIn, AreEntries, bucket_start, bucket_end}
use Rattle.bc_jset.proofs.Records.{entry_codec}
use Rattle.bc_entries.specs.declared.error.JournalError.{JournalError}
use Rattle.bc_entries.specs.declared.error.JournalError.TheVariants as errors
use Rattle.bc_entries.specs.Lists.{AreListed, IsFit, IsUnfit}
use Rattle.bc_entries.specs.Journal.{Journal, HasJournal, IsRefused}
use Rattle.bc_entries.specs.Reading.{AddsEntries, AddsOn, StandOn, EndsWithin, StandsWithin, HoldsJournal, IsCause}
use Rattle.bc_entries.proofs.There.{IsWithin, run_there, ends_placed, stands_placed}

told : (o : Option Image) (P : Image → Type 0) (at : ℕ) (values : List Value) → IfTold o (λ held. Gives at values (λ s v. v ≡ held s)) → ((image : Image) → Has image at values → P image) → IfTold o P
told None P at values read all = tt
told (Some image) P at values read all = all image read

pub adds_on : (g : Geometry) (d : DiskFacts) (i : ℕ) (bytes : List ℕ) (old new : List FoundEntry) → length bytes ≡ 512 * g.bucket → IsRead (bucket_start g i) (values_of bytes) d
    → AddsEntries g bytes (bucket_start g i) old new → AddsOn g d i old new
adds_on g d i bytes old new whole read adds =
    let kind = entry_kind g in
    let start = bucket_start g i in
    told d.holds (λ image. (here : List JEntry) × AreFound kind image (bucket_end g i) start here × (new ≡ old ++ placed kind start here)) start (values_of bytes) read
    (λ image has. (
      adds.0,
      subst (λ q. AreFound kind image (bucket_end g i) q adds.0) (let e : start + 0 ≡ start = omega arith in e) (run_there kind g.bucket bytes image start 0 adds.0 whole has adds.1),
      adds.2,
    ))

pub bucket_within : (g : Geometry) (i : ℕ) → i < g.journal → bucket_start g i + g.bucket ≤ g.bucket * g.nbuckets
bucket_within g i low =
    let more : g.bucket * (g.first_bucket + i + 1) ≡ g.bucket * (g.first_bucket + i) + g.bucket * 1 = mul-add g.bucket (g.first_bucket + i) 1 in
    let room : g.bucket * (g.first_bucket + i + 1) ≤ g.bucket * g.nbuckets = mul-le-mul_left g.bucket (let w = g.journal_within in omega (arith, w, low)) in
    omega (arith, more, room)

pub adds_within : (g : Geometry) (i : ℕ) (bytes : List ℕ) (old new : List FoundEntry) → i < g.journal → AddsEntries g bytes (bucket_start g i) old new → All (EndsWithin g) old → All (EndsWithin g) new
adds_within g i bytes old new low adds ends =
    let kind = entry_kind g in
    let blocks = bucket_blocks g in
    let start = bucket_start g i in
    let here = ends_placed kind (entry_codec g) (image_of bytes) g.bucket 0 blocks.0 start (g.bucket * g.nbuckets) adds.0 (omega (arith, blocks.1)) (bucket_within g i low) adds.1 in
    let there = subst (λ q. All (EndsWithin g) (placed kind q adds.0)) (let e : start + 0 ≡ start = omega arith in e) here in
    subst (λ (xs : List FoundEntry). All (EndsWithin g) xs) (sym adds.2) (All-append (EndsWithin g) old (placed kind start adds.0) ends there)

pub adds_standing : (g : Geometry) (i : ℕ) (bytes : List ℕ) (old new : List FoundEntry) → i < g.journal → AddsEntries g bytes (bucket_start g i) old new → All (StandsWithin g) old → All (StandsWithin g) new
adds_standing g i bytes old new low adds stand =
    let kind = entry_kind g in
    let blocks = bucket_blocks g in
    let start = bucket_start g i in
    let here = stands_placed kind (entry_codec g) (image_of bytes) g.bucket 0 blocks.0 0 start adds.0 (omega (arith, blocks.1)) (omega arith) adds.1 in
    let there = subst (λ q. All (IsWithin kind start g.bucket) (placed kind q adds.0)) (let e : start + 0 ≡ start = omega arith in e) here in
    let more : All (StandsWithin g) (placed kind start adds.0) = λ k d inside. (let x = there k d inside in (i, x.0, low, x.1, x.2)) in
    subst (λ (xs : List FoundEntry). All (StandsWithin g) xs) (sym adds.2) (All-append (StandsWithin g) old (placed kind start adds.0) stand more)

-- one more bucket was read of a device that kept all
pub stand_more : (g : Geometry) (d e : DiskFacts) (i next : ℕ) (old new : List FoundEntry) → next ≡ suc i → IsKept d e → StandOn g d i old → AddsOn g e i old new → StandOn g d next new
stand_more g d e i next old new is kept stand adds = go d.holds e.holds kept.holds stand adds
  where
    go : (a b : Option Image) → BothTold (λ (x y : Image). (s : ℕ) → y s ≡ x s) a b → IfTold a (λ image. StandIn g image i old)
        → IfTold b (λ image. (here : List JEntry) × AreFound (entry_kind g) image (bucket_end g i) (bucket_start g i) here × (new ≡ old ++ placed (entry_kind g) (bucket_start g i) here))
        → IfTold a (λ image. StandIn g image next new)
    go None b both so more = tt
    go (Some x) None both so more = elim both [ ]
    go (Some x) (Some y) both so more =
        subst (λ n. StandIn g x n new) (sym is)
        (old, more.0, so, run_stays (entry_kind g) (entry_codec g) y x (bucket_start g i) (bucket_end g i) (bucket_start g i) more.0 (omega arith) (λ s low high. both s) more.1, more.2)

pub stand_none : (g : Geometry) (d : DiskFacts) (all : List FoundEntry) → all ≡ [] → StandOn g d 0 all
stand_none g d all none = go d.holds
  where
    go : (o : Option Image) → IfTold o (λ image. StandIn g image 0 all)
    go None = tt
    go (Some image) = none

-- ---- the journal

abbrev entries_of : (g : Geometry) (image : Image) (all es : List FoundEntry) (newest : FoundEntry) → StandIn g image g.journal all → AreListed all es newest → AreEntries g image es
entries_of g image all es newest stand listed = record { all = all; stand = stand; newest = newest; is_newest = listed.is_newest; reaches = listed.reaches; numbered = listed.numbered }

if_told : (P Q : Image → Type 0) (o : Option Image) → ((image : Image) → P image → Q image) → IfTold o P → IfTold o Q
if_told P Q None f p = tt
if_told P Q (Some image) f p = f image p

pub holds_so : (g : Geometry) (d : DiskFacts) (all : List FoundEntry) (r : Result Journal JournalError) → StandOn g d g.journal all → IfOk r (λ j. (j.all ≡ all) × IsFit g j.all j.entries) → IfOk r (HoldsJournal g d)
holds_so g d all (Ok j) stand fit =
    if_told (λ image. StandIn g image g.journal all) (λ image. HasJournal g image j) d.holds
    (λ image so. record {
      entries = entries_of g image j.all j.entries fit.1.newest (subst (λ (xs : List FoundEntry). StandIn g image g.journal xs) (sym fit.0) so) fit.1.listed;
      all = refl;
      number = fit.1.number;
      room = fit.1.room;
    })
    stand
holds_so g d all (Err e) stand fit = tt

cause_by : (g : Geometry) (d : DiskFacts) (all : List FoundEntry) (e : JournalError) → StandOn g d g.journal all → IsUnfit g all e → IsCause g d e
cause_by g d all errors.NoJournal stand un =
    if_told (λ image. StandIn g image g.journal all) (λ image. IsRefused g image errors.NoJournal) d.holds (λ image so. subst (λ (xs : List FoundEntry). StandIn g image g.journal xs) un so) stand
cause_by g d all (errors.Gap from to) stand un =
    if_told (λ image. StandIn g image g.journal all) (λ image. IsRefused g image (errors.Gap from to)) d.holds (λ image so. record { all = all; stand = so; newest = un.0; is_newest = un.1; gap = un.2 }) stand
cause_by g d all (errors.End seq) stand un =
    if_told (λ image. StandIn g image g.journal all) (λ image. IsRefused g image (errors.End seq)) d.holds
    (λ image so. record { es = un.es; entries = entries_of g image all un.es un.newest so un.listed; number = un.number; full = un.full }) stand
cause_by g d all errors.Fault stand un = tt
cause_by g d all errors.Memory stand un = tt

pub cause_so : (g : Geometry) (d : DiskFacts) (all : List FoundEntry) (r : Result Journal JournalError) → StandOn g d g.journal all → IfErr r (IsUnfit g all) → IfErr r (IsCause g d)
cause_so g d all (Ok j) stand un = tt
cause_so g d all (Err e) stand un = cause_by g d all e stand un
