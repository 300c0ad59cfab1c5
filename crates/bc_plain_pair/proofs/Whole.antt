-- Soundness by its parts.
use Rattle.std.proofs.Common.{◌≡◌, inl, inr, ℕ, List, Bool, true, false, sym, subst, arith}
use Rattle.std.specs.Prelude.{Result, Ok, Err, IfOk}
use Rattle.std.specs.Bool.{MatchBool}
use Rattle.bc_disk.specs.declared.geometry.Geometry.{Geometry}
use Rattle.bc_key.specs.declared.key.Key.{Key}
use Rattle.bc_super.specs.Division.{IsPassThrough}
use Rattle.bc_super.specs.declared.backing.BackingSuper.{BackingSuper}
use Rattle.bc_super.specs.Super.{data_sectors}
use Rattle.bc_image.specs.Pair.{Pair, HasBacking}
use Rattle.bc_image.specs.Reading.{View, IsView}
use Rattle.bc_image.specs.Sound.{HasPointers, HasRanges, HasSuperblocks, IsSound, NamesBacking}
use Rattle.bc_image.proofs.Unique.{one_backing, one_view}
use Rattle.bc_model.specs.Sector.{Image}
use Rattle.bc_plain_pair.specs.Names.{NamesFirst}
use Rattle.bc_plain_pair.specs.Sectors.{IsAgedAt, IsApartAt, IsLeast}
use Rattle.bc_plain_pair.specs.Parts.{HasAllParts, HasBuckets, HasData, HasJournal, HasRecords}

pub names_backing : (v : View) (cache : Image) → NamesFirst v.geometry cache v.reading.newest.item.uuid_bucket v.backing.uuid → NamesBacking v cache
names_backing v cache n = record { bucket = n.bucket; place = n.place; entries = n.entries; table = n.table; first = n.first }

pub names_first : (v : View) (cache : Image) → NamesBacking v cache → NamesFirst v.geometry cache v.reading.newest.item.uuid_bucket v.backing.uuid
names_first v cache n = record { bucket = n.bucket; place = n.place; entries = n.entries; table = n.table; first = n.first }

-- ---- the pair

pub no_backing : (p : Pair) → ((b : BackingSuper) → HasBacking p b → ⊥) → IsSound p → ⊥
no_backing p none (inl alone) = none alone.0 alone.1
no_backing p none (inr (v, view, parts, room)) = none v.backing view.backing

pub serves_alone : (p : Pair) (b : BackingSuper) → HasBacking p b → IsPassThrough b → IsSound p
serves_alone p b has alone = inl (b, has, alone)

pub no_view : (p : Pair) (b : BackingSuper) → HasBacking p b → (IsPassThrough b → ⊥) → ((v : View) → IsView p v → ⊥) → IsSound p → ⊥
no_view p b has nor none (inl (d, there, alone)) = nor (subst IsPassThrough (one_backing p d b there has) alone)
no_view p b has nor none (inr (v, view, parts, room)) = none v view

pub sound_by : {E : Type 0} (p : Pair) (b : BackingSuper) (v : View) (answer : Result Bool E) → HasBacking p b → (IsPassThrough b → ⊥) → IsView p v
    → IfOk answer (λ so. MatchBool so (HasAllParts p v) (HasAllParts p v → ⊥)) → IfOk answer (λ so. MatchBool so (IsSound p) (IsSound p → ⊥))
sound_by p b v (Err e) has nor view so = tt
sound_by p b v (Ok true) has nor view all = inr (v, view, all.parts, all.room)
sound_by p b v (Ok false) has nor view lacks = not_sound
  where
    not_sound : IsSound p → ⊥
    not_sound (inl (d, there, alone)) = nor (subst IsPassThrough (one_backing p d b there has) alone)
    not_sound (inr (w, other, parts, room)) = lacks (subst (HasAllParts p) (one_view p w v other view) (record { parts = parts; room = room }))

-- ---- its parts

module _ (p : Pair) (v : View) (size : ℕ) (is : size ≡ data_sectors p.backing_sectors v.backing) where
  pub all_parts : HasRecords size p.cache v → HasBuckets v → HasJournal p.cache v → HasData p v → HasAllParts p v
  all_parts records buckets journal about = record {
    parts = record {
      superblocks = records.superblocks;
      backing = records.backing;
      ranges = records.ranges;
      pointers = subst (λ n. HasPointers v.geometry n v.reading) is records.pointers;
      uses = buckets.uses;
      agrees = about.agrees;
      window = about.window;
      spare = buckets.spare;
      no_stray = journal.no_stray;
    };
    room = journal.room;
  }

  pub its_records : HasAllParts p v → HasRecords size p.cache v
  its_records all = record {
    superblocks = all.parts.superblocks;
    ranges = all.parts.ranges;
    pointers = subst (λ n. HasPointers v.geometry n v.reading) (sym is) all.parts.pointers;
    backing = all.parts.backing;
  }

pub its_buckets : (p : Pair) (v : View) → HasAllParts p v → HasBuckets v
its_buckets p v all = record { uses = all.parts.uses; spare = all.parts.spare }

pub its_journal : (p : Pair) (v : View) → HasAllParts p v → HasJournal p.cache v
its_journal p v all = record { room = all.room; no_stray = all.parts.no_stray }

pub its_data : (p : Pair) (v : View) → HasAllParts p v → HasData p v
its_data p v all = record { window = all.parts.window; agrees = all.parts.agrees }

module _ (size : ℕ) (cache : Image) (v : View) (g : Geometry) (key : Key) (uuid : List ℕ) (here : g ≡ v.geometry) (at : key ≡ v.reading.newest.item.uuid_bucket) (is : uuid ≡ v.backing.uuid) where
  same_names : NamesFirst g cache key uuid → NamesFirst v.geometry cache v.reading.newest.item.uuid_bucket v.backing.uuid
  same_names n =
      subst (λ (u : List ℕ). NamesFirst v.geometry cache v.reading.newest.item.uuid_bucket u) is
      (subst (λ (k : Key). NamesFirst v.geometry cache k uuid) at (subst (λ (x : Geometry). NamesFirst x cache key uuid) here n))

  names_same : NamesFirst v.geometry cache v.reading.newest.item.uuid_bucket v.backing.uuid → NamesFirst g cache key uuid
  names_same n =
      subst (λ (x : Geometry). NamesFirst x cache key uuid) (sym here)
      (subst (λ (k : Key). NamesFirst v.geometry cache k uuid) (sym at) (subst (λ (u : List ℕ). NamesFirst v.geometry cache v.reading.newest.item.uuid_bucket u) (sym is) n))

  pub records_by : {E : Type 0} (answer : Result Bool E) → HasSuperblocks v.backing v.cache → HasRanges v.reading → HasPointers v.geometry size v.reading
      → IfOk answer (λ named. MatchBool named (NamesFirst g cache key uuid) (NamesFirst g cache key uuid → ⊥)) → IfOk answer (λ so. MatchBool so (HasRecords size cache v) (HasRecords size cache v → ⊥))
  records_by (Err e) supers ranges pointers named = tt
  records_by (Ok true) supers ranges pointers named = record { superblocks = supers; ranges = ranges; pointers = pointers; backing = names_backing v cache (same_names named) }
  records_by (Ok false) supers ranges pointers not = λ records. not (names_same (names_first v cache records.backing))

-- ---- the data

pub aged_breaks : (v : View) (sector : ℕ) → IsLeast (IsAgedAt v) sector → (p : Pair) → HasData p v → ⊥
aged_breaks v sector least p about =
    let a = least.holds in
    let w = about.window sector a.0 a.2.0 a.1 a.2.1 in
    elim a.2.2 [ inl far ↦ absurd (let near = w.0 in omega (arith, far, near)) | inr some ↦ some.1 (w.1 some.0) ]

pub apart_breaks : (p : Pair) (v : View) (sector : ℕ) → IsLeast (IsApartAt p v) sector → HasData p v → ⊥
apart_breaks p v sector least about = let a = least.holds in a.2.2 (about.agrees sector a.0 a.1 a.2.0 a.2.1)

pub last_by : (p : Pair) (v : View) (size : ℕ) (b : Bool) → size ≡ data_sectors p.backing_sectors v.backing → HasRecords size p.cache v → HasBuckets v → HasJournal p.cache v → MatchBool b (HasData p v) (HasData p v → ⊥)
    → MatchBool b (HasAllParts p v) (HasAllParts p v → ⊥)
last_by p v size true is records buckets journal about = all_parts p v size is records buckets journal about
last_by p v size false is records buckets journal not = λ all. not (its_data p v all)
