-- What a read of the bytes of a superblock says of the device.
use Rattle.std.proofs.Common.{◌≡◌, ◌⊎◌, inl, inr, ℕ, zero, suc, ◌+◌, ◌*◌, ◌%◌, ◌<◌, ◌≤◌, List, refl, sym, ◌∙◌, subst, slice_range, arith}
use Rattle.std.proofs.lemmas.Bool.{cases_eq, cases_lt}
use Rattle.bc_bytes.specs.Checksum.{checksum}
use Rattle.bc_bytes.specs.Fields.{number_at}
use Rattle.bc_disk.specs.Kept.{same_or_not}
use Rattle.std.specs.Prelude.{replicate, Result, Ok, Err, IfErr}
use Rattle.bc_disk.specs.Disk.{DiskFacts}
use Rattle.bc_super.specs.Reading.{IsSuperBytes, IsCause, IsCacheCause}
use Rattle.bc_super.specs.Cache.{FirstLayoutFault, HasJournal, IsBlock, IsBucket, IsCacheRefused, IsCacheSuper, IsCacheVersion, IsJournalCount, IsUsableCache, Lists, cache_of, most_buckets}
use Rattle.bc_super.specs.Super.{HasNoFeatures, Unless, FirstFault, IsSuper, IsBackingVersion, IsDataOffset, IsBackingSuper, IsRefused, IsUsable, magic, place_in, count_in, fields_in, backing_of, state_number}
use Rattle.bc_super.specs.declared.backing.BackingSuper.{BackingSuper}
use Rattle.bc_super.specs.declared.cache.CacheSuper.{CacheSuper}
use Rattle.bc_super.proofs.Buckets.{IsOne, is_bucket, is_one, one_or_not}
use Rattle.bc_super.specs.declared.error.SuperError.{SuperError}
use Rattle.bc_super.specs.declared.error.SuperError.TheVariants as errors
use Rattle.bc_super.specs.declared.fields.Fields.{Fields}

-- what follows from each answer follows from the first of them
pub each : (p : Type 0) {a r q : Type 0} → (a → q) → (r → q) → Unless p a r → q
each p here behind (inl (fails, is)) = here is
each p here behind (inr (passes, is)) = behind is

-- a test of bytes never answers that the device is small
never_small : (bytes : List ℕ) (sectors : ℕ) → IsRefused bytes sectors errors.DeviceSmall → ⊥
never_small bytes sectors =
    each _ (λ e. cc) (each _ (λ e. cc) (each _ (λ e. cc) (each _ (λ e. cc) (each _ (λ e. cc) (each _ (λ e. cc) (each _ (λ e. cc) (each _ (λ e. cc) (λ h. h))))))))

pub is_cause : (d : DiskFacts) (bytes : List ℕ) → 16 ≤ d.sectors → IsSuperBytes bytes d → (answer : Result BackingSuper SuperError) → IfErr answer (λ e. IsRefused bytes d.sectors e) → IfErr answer (λ e. IsCause d e)
is_cause d bytes large stands (Ok s) is = tt
is_cause d bytes large stands (Err errors.DeviceSmall) is = absurd (never_small bytes d.sectors is)
is_cause d bytes large stands (Err errors.Fault) is = large
is_cause d bytes large stands (Err e) is = (bytes, stands, is)

-- where tests fail, it doesn't matter what stands behind them
behind : {p a r q : Type 0} → (r → q) → Unless p a r → Unless p a q
behind step (inl is) = inl is
behind step (inr (passes, is)) = inr (passes, step is)

pub layout_refused : (bytes : List ℕ) (sectors : ℕ) (e : SuperError) → IsSuper bytes → FirstLayoutFault sectors (fields_in bytes) e ⊥ → IsCacheRefused bytes sectors e
layout_refused bytes sectors e is fault =
    inr (
      is.has_magic,
      inr (
        is.place,
        inr (
          is.count,
          inr (
            is.checksum,
            behind (behind (behind (behind (behind (behind (behind (behind (behind (behind (λ (h : ⊥). absurd h)))))))))) fault,
          ),
        ),
      ),
    )

pub is_cache_cause : (d : DiskFacts) (bytes : List ℕ) → 16 ≤ d.sectors → IsSuperBytes bytes d → (answer : Result CacheSuper SuperError) → IfErr answer (λ e. IsCacheRefused bytes d.sectors e) → IfErr answer (λ e. IsCacheCause d e)
is_cache_cause d bytes large stands (Ok s) is = tt
is_cache_cause d bytes large stands (Err errors.DeviceSmall) is = inr (bytes, stands, is)
is_cache_cause d bytes large stands (Err errors.Fault) is = large
is_cache_cause d bytes large stands (Err e) is = (bytes, stands, is)

-- ---- each test passes or fails

small_or_not : (m n : ℕ) → (m ≤ n) ⊎ (m ≤ n → ⊥)
small_or_not m n = elim (cases_lt n m) [ inl above ↦ inr (λ h. omega arith) | inr low ↦ inl low ]

-- either of two, or both
or_not : {P Q : Type 0} → P ⊎ (P → ⊥) → Q ⊎ (Q → ⊥) → (P ⊎ Q) ⊎ ((P ⊎ Q) → ⊥)
or_not (inl p) q = inl (inl p)
or_not (inr p) (inl q) = inl (inr q)
or_not (inr p) (inr q) = inr (λ is. elim is [ inl e ↦ p e | inr e ↦ q e ])

-- a condition that asks for nothing, or for what holds
where_not : {P Q : Type 0} → P ⊎ (P → ⊥) → Q ⊎ (Q → ⊥) → (P → Q) ⊎ ((P → Q) → ⊥)
where_not p (inl q) = inl (λ _. q)
where_not (inl p) (inr q) = inr (λ f. q (f p))
where_not (inr p) (inr q) = inl (λ is. absurd (p is))

features_or_not : (version : ℕ) (f : Fields) → HasNoFeatures version f ⊎ (HasNoFeatures version f → ⊥)
features_or_not version f = where_not (cases_eq f.version version) (same_or_not f.features (replicate 24 0))

version_or_not : (n : ℕ) → IsBackingVersion n ⊎ (IsBackingVersion n → ⊥)
version_or_not n = or_not (cases_eq n 1) (or_not (cases_eq n 4) (cases_eq n 6))

offset_or_not : (sectors offset : ℕ) → IsDataOffset sectors offset ⊎ (IsDataOffset sectors offset → ⊥)
offset_or_not sectors offset = go (cases_lt offset 16) (cases_lt offset sectors)
  where
    go : (offset < 16) ⊎ (16 ≤ offset) → (offset < sectors) ⊎ (sectors ≤ offset) → IsDataOffset sectors offset ⊎ (IsDataOffset sectors offset → ⊥)
    go (inl low) there = inr (λ is. omega (arith, is.0))
    go (inr high) (inl there) = inl (high, there)
    go (inr high) (inr past) = inr (λ is. omega (arith, is.1))

-- one more test, where what stands behind it is decided for those that pass
first : (S : Type 0) (p : Type 0) (R : SuperError → Type 0) (x : SuperError) → p ⊎ (p → ⊥) → (p → S ⊎ ((e : SuperError) × R e)) → S ⊎ ((e : SuperError) × Unless p (e ≡ x) (R e))
first S p R x (inr fails) behind = inr (x, inl (fails, refl))
first S p R x (inl passes) behind = elim (behind passes) [ inl s ↦ inl s | inr (e, is) ↦ inr (e, inr (passes, is)) ]

-- the tests of what either kind is known by, before others
pub head_first : (S : Type 0) (R : SuperError → Type 0) (bytes : List ℕ) → (IsSuper bytes → S ⊎ ((e : SuperError) × R e)) → S ⊎ ((e : SuperError) × FirstFault bytes e (R e))
head_first S R bytes behind =
    first S _ _ errors.Magic (same_or_not (slice_range bytes 24 40) magic) (λ has_magic.
    first S _ _ errors.Place (cases_eq (place_in bytes) 8) (λ place.
    first S _ _ errors.JournalList (small_or_not (count_in bytes) 256) (λ count.
    first S _ R errors.Checksum (cases_eq (number_at 8 bytes 0) (checksum 0xffff_ffff_ffff_ffff (slice_range bytes 8 (208 + 8 * count_in bytes)))) (λ sum.
    behind (record { has_magic = has_magic; place = place; count = count; checksum = sum })))))

pub either : (bytes : List ℕ) (sectors : ℕ) → ((s : BackingSuper) × IsBackingSuper bytes sectors s) ⊎ ((e : SuperError) × IsRefused bytes sectors e)
either bytes sectors =
    head_first S _ bytes (λ is.
    first S _ _ (errors.Version s.version) (version_or_not s.version) (λ version.
    first S _ _ errors.Features (features_or_not 6 (fields_in bytes)) (λ features.
    first S _ _ errors.DataOffset (offset_or_not sectors s.data_offset) (λ offset.
    first S _ (λ e. ⊥) errors.Stale (not_or_not (cases_eq (state_number s.flags) 3)) (λ state.
    inl (s, record { super = is; spelled = refl; features = features; usable = record { version = version; fixed = fixed; data_offset = offset; state = state } }))))))
  where
    s : BackingSuper
    s = backing_of (fields_in bytes)

    S : Type 0
    S = (t : BackingSuper) × IsBackingSuper bytes sectors t

    not_or_not : (state_number s.flags ≡ 3) ⊎ (state_number s.flags ≡ 3 → ⊥) → (state_number s.flags ≡ 3 → ⊥) ⊎ ((state_number s.flags ≡ 3 → ⊥) → ⊥)
    not_or_not (inl is) = inr (λ never. never is)
    not_or_not (inr never) = inl never

    fixed : s.version ≡ 1 → s.data_offset ≡ 16
    fixed one = rw one refl

-- ---- the same of a cache device

cache_version_or_not : (n : ℕ) → IsCacheVersion n ⊎ (IsCacheVersion n → ⊥)
cache_version_or_not n = or_not (cases_eq n 0) (or_not (cases_eq n 3) (cases_eq n 5))

and_not : {P Q : Type 0} → P ⊎ (P → ⊥) → Q ⊎ (Q → ⊥) → (P × Q) ⊎ ((P × Q) → ⊥)
and_not (inl p) (inl q) = inl (p, q)
and_not (inl p) (inr q) = inr (λ is. q is.1)
and_not (inr p) q = inr (λ is. p is.0)

never_not : {P : Type 0} → P ⊎ (P → ⊥) → (P → ⊥) ⊎ ((P → ⊥) → ⊥)
never_not (inl p) = inr (λ never. never p)
never_not (inr never) = inl never

block_or_not : (n : ℕ) → IsBlock n ⊎ (IsBlock n → ⊥)
block_or_not n = three (cases_eq n 1) (cases_eq n 2) (cases_eq n 4) (cases_eq n 8)
  where
    three : (n ≡ 1) ⊎ (n ≡ 1 → ⊥) → (n ≡ 2) ⊎ (n ≡ 2 → ⊥) → (n ≡ 4) ⊎ (n ≡ 4 → ⊥) → (n ≡ 8) ⊎ (n ≡ 8 → ⊥) → IsBlock n ⊎ (IsBlock n → ⊥)
    three a b c d = or_not a (or_not b (or_not c d))

bucket_or_not : (n : ℕ) → IsBucket n ⊎ (IsBucket n → ⊥)
bucket_or_not n = go (one_or_not n)
  where
    go : IsOne n ⊎ (IsOne n → ⊥) → IsBucket n ⊎ (IsBucket n → ⊥)
    go (inl one) = inl (is_bucket n one)
    go (inr none) = inr (λ is. none (is_one n is))

-- a list to a place, and to the next one
lists_or_not : (bytes : List ℕ) (start count : ℕ) → Lists bytes start count ⊎ (Lists bytes start count → ⊥)
lists_or_not bytes start zero = inl (λ i low. absurd (omega arith))
lists_or_not bytes start (suc count) = go (lists_or_not bytes start count) (cases_eq (number_at 8 bytes (208 + 8 * count)) (start + count))
  where
    go : Lists bytes start count ⊎ (Lists bytes start count → ⊥) → (number_at 8 bytes (208 + 8 * count) ≡ start + count) ⊎ (number_at 8 bytes (208 + 8 * count) ≡ start + count → ⊥) → Lists bytes start (suc count) ⊎ (Lists bytes start (suc count) → ⊥)
    go (inr never) last = inr (λ is. never (λ i low. is i (omega arith)))
    go (inl is) (inr differs) = inr (λ all. differs (all count (omega arith)))
    go (inl is) (inl last) = inl (λ i low. elim (cases_eq i count) [ inl same ↦ rw same last | inr other ↦ is i (omega arith) ])

journal_or_not : (bytes : List ℕ) (f : Fields) → HasJournal bytes f ⊎ (HasJournal bytes f → ⊥)
journal_or_not bytes f =
    go (where_not (cases_eq (f.flags % 2) 1) (or_not (cases_eq f.journal 0) (small_or_not 8 f.journal))) (small_or_not (f.first_bucket + f.journal) f.nbuckets) (lists_or_not bytes f.first_bucket f.journal)
  where
    go : IsJournalCount f.flags f.journal ⊎ (IsJournalCount f.flags f.journal → ⊥) → (f.first_bucket + f.journal ≤ f.nbuckets) ⊎ (f.first_bucket + f.journal ≤ f.nbuckets → ⊥) → Lists bytes f.first_bucket f.journal ⊎ (Lists bytes f.first_bucket f.journal → ⊥) → HasJournal bytes f ⊎ (HasJournal bytes f → ⊥)
    go (inr never) within list = inr (λ is. never is.count)
    go (inl count) (inr never) list = inr (λ is. never is.within)
    go (inl count) (inl within) (inr never) = inr (λ is. never is.list)
    go (inl count) (inl within) (inl list) = inl (record { count = count; within = within; list = list })

pub either_cache : (bytes : List ℕ) (n : ℕ) → ((s : CacheSuper) × IsCacheSuper bytes n s) ⊎ ((e : SuperError) × IsCacheRefused bytes n e)
either_cache bytes n =
    head_first S _ bytes (λ is.
    first S _ _ (errors.Version f.version) (cache_version_or_not f.version) (λ version.
    first S _ _ errors.Features (features_or_not 5 f) (λ features.
    first S _ _ errors.Block (block_or_not f.block) (λ block.
    first S _ _ errors.Bucket (bucket_or_not f.bucket) (λ bucket.
    first S _ _ errors.FewBuckets (small_or_not 128 f.nbuckets) (λ fewest.
    first S _ _ errors.ManyBuckets (small_or_not f.nbuckets (most_buckets f.bucket)) (λ most.
    first S _ _ errors.DeviceSmall (small_or_not (f.bucket * f.nbuckets) n) (λ room.
    first S _ _ errors.ZeroUuid (never_not (same_or_not f.set_uuid (replicate 16 0))) (λ set_uuid.
    first S _ _ errors.SetNumber (and_not (cases_eq f.devices 1) (cases_eq f.device 0)) (λ set_number.
    first S _ _ errors.FirstBucket (and_not (small_or_not 16 (f.first_bucket * f.bucket)) (small_or_not (suc f.first_bucket) f.nbuckets)) (λ first_bucket.
    first S _ (λ e. ⊥) errors.JournalList (journal_or_not bytes f) (λ journal.
    inl (
      cache_of f,
      record {
        super = is;
        spelled = refl;
        features = features;
        set_number = set_number;
        list = journal.list;
        usable = record {
          version = version;
          block = block;
          bucket = bucket;
          fewest = fewest;
          most = most;
          room = room;
          set_uuid = set_uuid;
          first_bucket = first_bucket;
          few = is.count;
          count = journal.count;
          within = journal.within;
        };
      },
    )))))))))))))
  where
    f : Fields
    f = fields_in bytes

    S : Type 0
    S = (t : CacheSuper) × IsCacheSuper bytes n t

-- a test that passes is no fault
past : {p a r : Type 0} → p → Unless p a r → r
past passes (inl (fails, is)) = absurd (fails passes)
past passes (inr (_, is)) = is

pub never_both_cache : (bytes : List ℕ) (n : ℕ) (s : CacheSuper) (e : SuperError) → IsCacheSuper bytes n s → IsCacheRefused bytes n e → ⊥
never_both_cache bytes n s e is refused =
    let known = is.super in
    let fits : IsUsableCache n (cache_of (fields_in bytes)) = subst (IsUsableCache n) is.spelled is.usable in
    let list : Lists bytes (fields_in bytes).first_bucket (fields_in bytes).journal = subst (λ (t : CacheSuper). Lists bytes t.first_bucket t.journal) is.spelled is.list in
    past (record { count = fits.count; within = fits.within; list = list })
    (past fits.first_bucket (past is.set_number (past fits.set_uuid (past fits.room (past fits.most (past fits.fewest (past fits.bucket (past fits.block (past is.features (past fits.version
    (past known.checksum (past known.count (past known.place (past known.has_magic refused))))))))))))))

pub apart : (bytes : List ℕ) (n : ℕ) (s : BackingSuper) (e : SuperError) → IsBackingSuper bytes n s → IsRefused bytes n e → ⊥
apart bytes n s e is refused =
    let known = is.super in
    let fits : IsUsable n (backing_of (fields_in bytes)) = subst (IsUsable n) is.spelled is.usable in
    past fits.state (past fits.data_offset (past is.features (past fits.version (past known.checksum (past known.count (past known.place (past known.has_magic refused)))))))

pub one_super : (bytes : List ℕ) (n : ℕ) (s t : BackingSuper) → IsBackingSuper bytes n s → IsBackingSuper bytes n t → s ≡ t
one_super bytes n s t first second = first.spelled ∙ sym second.spelled
