-- What is made of a pair.
use Rattle.std.proofs.Common.{◌≡◌, ◌≢◌, inl, inr, ℕ, zero, suc, ◌+◌, ◌-◌, ◌*◌, ◌/◌, ◌%◌, ◌^◌, ◌<◌, ◌≤◌, refl, sym, ap, ◌∙◌, subst, arith}
use Rattle.std.proofs.Math.Nat.{add-mul, div-eq_of_lt, div-eq_of_lt-le, mul-le-mul_left, zero-mul}
use Rattle.std.specs.Prelude.{replicate, Bool, true, false, ◌==◌, if◌then◌else◌, Result, Ok, Err, IsErrAnd, IfErr, bit_or, max, min}
use Rattle.std.proofs.lemmas.Nat.{or_disjoint}
use Rattle.std.proofs.lemmas.Nat.Bits.{and_pow}
use Rattle.std.proofs.lemmas.Bool.{eqb-true}
use Rattle.bc_mode.specs.declared.mode.Mode.{Mode}
use Rattle.bc_mode.specs.declared.mode.Mode.TheVariants as modes
use Rattle.bc_disk.specs.Device.{HasRisen}
use Rattle.bc_disk.specs.Disk.{DiskFacts, IsCounted}
use Rattle.bc_disk.specs.declared.disk.Device.{Device}
use Rattle.bc_disk.specs.declared.disk.Device.TheVariants as device
use Rattle.bc_super.specs.Cache.{IsBlock, IsBucket, IsCacheVersion, IsUsableCache, most_buckets}
use Rattle.bc_disk.specs.declared.geometry.Geometry.{Geometry}
use Rattle.bc_image.specs.Formatted.{IsDivided}
use Rattle.bc_image.specs.Sound.{HasSuperblocks}
use Rattle.bc_disk.specs.Chain.{records_in_set, sets_in_chain}
use Rattle.bc_super.specs.Division.{IsGeometryOf}
use Rattle.bc_super.specs.Layout.{IsLaidOut, buckets_of, per_set}
use Rattle.bc_super.specs.Reading.{ReadsCache, ReadsSuper}
use Rattle.bc_super.specs.Super.{IsBackingVersion, IsDataOffset, IsMode, IsUsable, mode_number, state_number}
use Rattle.bc_super.specs.declared.backing.BackingSuper.{BackingSuper}
use Rattle.bc_super.specs.declared.cache.CacheSuper.{CacheSuper}
use Rattle.bc_super.specs.declared.error.SuperError.TheVariants as super
use Rattle.bc_super.specs.declared.layout.Layout.{Layout}
use Rattle.bc_super.proofs.Buckets.{quotient, wide}
use Rattle.bc_pair.specs.Causes.{Adopts, AreKept, FaultRose, IsFormatRefused, IsWritingOf, good}
use Rattle.bc_pair.specs.Found.{FindsAdopted, FindsNew, IsPair}
use Rattle.bc_pair.specs.Made.{IsUnused, PairWritten, adopted_backing, adopted_cache, flags_for, new_backing, new_cache, version_for, version_in_use}
use Rattle.bc_pair.specs.Steps.{HasRoom, NamesBuckets}
use Rattle.bc_pair.specs.declared.error.PairError.{PairError}
use Rattle.bc_pair.specs.declared.error.PairError.TheVariants as errors
use Rattle.bc_pair.specs.declared.pair.NewPair.{NewPair}

-- ---- flags

pub with_sync : (flags : ℕ) → flags % 2 ≡ 0 → bit_or flags 1 ≡ flags + 1
with_sync flags none = or_disjoint flags 1 (and_pow flags 0 ∙ omega arith)

pub with_state : (flags : ℕ) → state_number flags ≡ 0 → bit_or flags 2305843009213693952 ≡ flags + 2 ^ 61
with_state flags none = or_disjoint flags 2305843009213693952 (and_pow flags 61 ∙ omega arith)

pub state_of : (flags : ℕ) → state_number flags ≡ 0 → state_number (flags + 2 ^ 61) ≢ 3
state_of flags none = λ stale. absurd (omega arith)

pub names_mode : (mode : Mode) → IsMode (mode_number (flags_for mode)) mode
names_mode modes.Writethrough = inl refl
names_mode modes.Writeback = refl
names_mode modes.Writearound = refl
names_mode modes.None = refl

pub says_clean : (mode : Mode) → state_number (flags_for mode) ≡ 1
says_clean modes.Writethrough = refl
says_clean modes.Writeback = refl
says_clean modes.Writearound = refl
says_clean modes.None = refl

-- ---- what may be written

abbrev version_when : Bool → ℕ
version_when b = if b then 1 else 4

is_told : (offset : ℕ) → IsBackingVersion (version_for offset)
is_told offset = either (offset == 16)
  where
    either : (b : Bool) → IsBackingVersion (version_when b)
    either true = inl refl
    either false = inr (inl refl)

at_start : (offset : ℕ) → version_for offset ≡ 1 → offset ≡ 16
at_start offset = either (offset == 16) refl
  where
    either : (b : Bool) → b ≡ (offset == 16) → version_when b ≡ 1 → offset ≡ 16
    either true is one = eqb-true offset 16 (sym is)
    either false is one = absurd (omega arith)

pub new_backing_usable : (p : NewPair) (sectors : ℕ) → IsDataOffset sectors p.offset → IsUsable sectors (new_backing p)
new_backing_usable p sectors within = record {
  version = is_told p.offset;
  fixed = at_start p.offset;
  data_offset = within;
  state = λ stale. absurd (omega (arith, says_clean p.mode));
}

pub new_superblocks : (p : NewPair) (c : CacheSuper) (b : BackingSuper) (sectors : ℕ) (l : Layout) → c ≡ new_cache p l → b ≡ new_backing p → IsLaidOut sectors l → HasSuperblocks b c
new_superblocks p c b sectors l is is' laid =
    subst (λ (b : BackingSuper). HasSuperblocks b c) (sym is') (subst (λ (c : CacheSuper). HasSuperblocks (new_backing p) c) (sym is)
    (record { initialised = (refl, omega (arith, laid.journal)); same_set = refl; state = inl (says_clean p.mode) }))

module _ (sectors : ℕ) (l : Layout) (laid : IsLaidOut sectors l) where
  pub room_of : l.geometry.bucket * l.geometry.nbuckets ≤ sectors
  room_of =
      let size = l.geometry.bucket in
      let many : 64 ≤ size = wide size laid.bucket in
      let whole = quotient sectors size (omega arith) in
      let up : size * l.geometry.nbuckets ≤ size * (sectors / size) = mul-le-mul_left size (omega (arith, laid.nbuckets)) in
      omega (arith, whole.0)

  pub first_bucket_of : (16 ≤ l.geometry.first_bucket * l.geometry.bucket) × (l.geometry.first_bucket < l.geometry.nbuckets)
  first_bucket_of =
      let size = l.geometry.bucket in
      let many : 64 ≤ size = wide size laid.bucket in
      let below : 23 < size = omega arith in
      let none : 23 / size ≡ 0 = div-eq_of_lt below in
      let one : l.geometry.first_bucket ≡ 1 = omega (arith, laid.first_bucket) in
      (subst (λ n. 16 ≤ n * size) (sym one) (omega arith), omega (arith, laid.enough))

  pub journal_of : (8 ≤ l.geometry.journal) × (l.geometry.journal ≤ 256)
  journal_of = (omega (arith, laid.journal), omega (arith, laid.journal))

  pub new_usable : (p : NewPair) → (l.geometry.block ≡ p.block) × (l.geometry.bucket ≡ p.bucket) → p.set_uuid ≢ replicate 16 0 → IsUsableCache sectors (new_cache p l)
  new_usable p sizes named = record {
    version = inr (inl refl);
    block = subst (λ n. IsBlock n) sizes.0 laid.block;
    bucket = subst (λ n. IsBucket n) sizes.1 laid.bucket;
    fewest = laid.enough;
    most = subst (λ n. l.geometry.nbuckets ≤ most_buckets n) sizes.1 l.geometry.buckets_to;
    room = subst (λ n. n * l.geometry.nbuckets ≤ sectors) sizes.1 room_of;
    set_uuid = named;
    first_bucket = (subst (λ n. 16 ≤ l.geometry.first_bucket * n) sizes.1 first_bucket_of.0, first_bucket_of.1);
    few = journal_of.1;
    count = λ sync. inr journal_of.0;
    within = l.geometry.journal_within;
  }

-- a table of zeros is refused as the uuid of a set
pub zero_refused : (p : NewPair) (cache backing : ℕ) (l : Layout) → IsLaidOut cache l → (l.geometry.block ≡ p.block) × (l.geometry.bucket ≡ p.bucket) → p.set_uuid ≡ replicate 16 0
    → IsFormatRefused p cache backing device.Cache super.ZeroUuid
zero_refused p cache backing l laid sizes blank =
    inr (subst (λ n. IsBlock n) sizes.0 laid.block, inr (subst (λ n. IsBucket n) sizes.1 laid.bucket, inr (subst (λ n. 128 ≤ buckets_of cache n) sizes.1 (subst (λ n. 128 ≤ n) laid.nbuckets laid.enough), inl ((λ named. named blank), (refl, refl)))))

in_use : (version : ℕ) → IsCacheVersion (version_in_use version)
in_use version = either (version == 5)
  where
    either : (b : Bool) → IsCacheVersion (if b then 5 else 3)
    either true = inr (inr refl)
    either false = inr (inl refl)

pub adopted_usable : (sectors : ℕ) (c : CacheSuper) (l : Layout) → IsUsableCache sectors c → IsLaidOut (c.bucket * c.nbuckets) l → l.geometry.bucket ≡ c.bucket → l.geometry.nbuckets ≡ c.nbuckets → IsUsableCache sectors (adopted_cache c l)
adopted_usable sectors c l usable laid size many =
    let first = first_bucket_of (c.bucket * c.nbuckets) l laid in
    let journal = journal_of (c.bucket * c.nbuckets) l laid in
    record {
      version = in_use c.version;
      block = usable.block;
      bucket = usable.bucket;
      fewest = usable.fewest;
      most = usable.most;
      room = usable.room;
      set_uuid = usable.set_uuid;
      first_bucket = (subst (λ n. 16 ≤ l.geometry.first_bucket * n) size first.0, subst (λ n. l.geometry.first_bucket < n) many first.1);
      few = journal.1;
      count = λ sync. inr journal.0;
      within = subst (λ n. l.geometry.first_bucket + l.geometry.journal ≤ n) many l.geometry.journal_within;
    }

pub adopted_backing_usable : (sectors : ℕ) (c : CacheSuper) (b : BackingSuper) → IsUsable sectors b → state_number b.flags ≡ 0 → IsUsable sectors (adopted_backing c b)
adopted_backing_usable sectors c b usable none = record { version = usable.version; fixed = usable.fixed; data_offset = usable.data_offset; state = state_of b.flags none }

-- ---- what is answered

-- a failed call is the fault of its device
pub writing_failed : (r : Result (Unit {0}) PairError) (d : Device) (P : Result (Unit {0}) Device → Type 0) → IsErrAnd r (λ e. e ≡ errors.Fault d) → P (Err d) → IsWritingOf r P
writing_failed (Ok u) d P is how = elim is [ ]
writing_failed (Err e) d P is how = subst (λ (e : PairError). IsWritingOf (Err e) P) (sym is) how

pub fails_so : (r : Result (Unit {0}) PairError) (d : Device) (P : PairError → Type 0) → IsErrAnd r (λ e. e ≡ errors.Fault d) → P (errors.Fault d) → IfErr r P
fails_so (Ok u) d P is how = elim is [ ]
fails_so (Err e) d P is how = subst P (sym is) how

-- a fault behind good calls
pub rose_behind : (d : Device) (cache mid cache' backing read backing' : DiskFacts) → mid.faults ≡ cache.faults → read.faults ≡ backing.faults → FaultRose (errors.Fault d) mid cache' read backing' → FaultRose (errors.Fault d) cache cache' backing backing'
rose_behind device.Cache cache mid cache' backing read backing' one two rose = (subst (λ n. HasRisen n cache'.faults) one rose.0, rose.1 ∙ two)
rose_behind device.Backing cache mid cache' backing read backing' one two rose = (rose.0 ∙ one, subst (λ n. HasRisen n backing'.faults) two rose.1)

pair_as : (g : Geometry) (c c' : CacheSuper) (b b' : BackingSuper) (cache backing : DiskFacts) → c ≡ c' → b ≡ b' → IsPair g c b cache backing → IsPair g c' b' cache backing
pair_as g c c' b b' cache backing is is' found = subst (λ (b : BackingSuper). IsPair g c' b cache backing) is' (subst (λ (c : CacheSuper). IsPair g c b cache backing) is found)

pub finds_new : (p : NewPair) (l : Layout) (g : Geometry) (sectors many : ℕ) (c : CacheSuper) (b : BackingSuper) (cache backing : DiskFacts) → sectors ≡ many → IsLaidOut sectors l → (l.geometry.block ≡ p.block) × (l.geometry.bucket ≡ p.bucket)
    → c ≡ new_cache p l → b ≡ new_backing p → IsPair g c b cache backing → FindsNew p many cache backing
finds_new p l g sectors many c b cache backing same laid sizes is is' found =
    (l, subst (λ n. IsLaidOut n l) same laid, sizes.0, sizes.1, (g, pair_as g c (new_cache p l) b (new_backing p) cache backing is is' found))

pub finds_adopted : (c c' : CacheSuper) (b b' : BackingSuper) (l : Layout) (g : Geometry) (cache cache' backing backing' : DiskFacts) → ReadsCache cache c → ReadsSuper backing b → IsLaidOut (c.bucket * c.nbuckets) l
    → (l.geometry.block ≡ c.block) × (l.geometry.bucket ≡ c.bucket) → c' ≡ adopted_cache c l → b' ≡ adopted_backing c b → IsPair g c' b' cache' backing' → FindsAdopted cache cache' backing backing'
finds_adopted c c' b b' l g cache cache' backing backing' reads says laid sizes is is' found =
    (c, reads, (b, says, (l, laid, sizes.0, sizes.1, (g, pair_as g c' (adopted_cache c l) b' (adopted_backing c b) cache' backing' is is' found))))

module _ {C B : Type 0} (cache_facts : C → DiskFacts) (backing_facts : B → DiskFacts) where
  -- the same pair under other names
  written_as : (g : Geometry) (c c' : CacheSuper) (b b' : BackingSuper) (how : Result (Unit {0}) Device) (cache cache' : C) (backing backing' : B) → c ≡ c' → b ≡ b'
      → PairWritten cache_facts backing_facts g c b how cache cache' backing backing' → PairWritten cache_facts backing_facts g c' b' how cache cache' backing backing'
  written_as g c c' b b' how cache cache' backing backing' is is' written =
      subst (λ (b : BackingSuper). PairWritten cache_facts backing_facts g c' b how cache cache' backing backing') is'
      (subst (λ (c : CacheSuper). PairWritten cache_facts backing_facts g c b how cache cache' backing backing') is written)

  pub formats : (p : NewPair) (l : Layout) (g : Geometry) (sectors : ℕ) (c : CacheSuper) (b : BackingSuper) (how : Result (Unit {0}) Device) (cache cache' : C) (backing backing' : B) → sectors ≡ (cache_facts cache).sectors → IsLaidOut sectors l
      → (l.geometry.block ≡ p.block) × (l.geometry.bucket ≡ p.bucket) → c ≡ new_cache p l → b ≡ new_backing p → IsGeometryOf c g → PairWritten cache_facts backing_facts g c b how cache cache' backing backing'
      → (l : Layout) × IsLaidOut (cache_facts cache).sectors l × (l.geometry.block ≡ p.block) × (l.geometry.bucket ≡ p.bucket)
      × ((g : Geometry) × IsGeometryOf (new_cache p l) g × PairWritten cache_facts backing_facts g (new_cache p l) (new_backing p) how cache cache' backing backing')
  formats p l g sectors c b how cache cache' backing backing' many laid sizes is is' divides written =
      (l, subst (λ n. IsLaidOut n l) many laid, sizes.0, sizes.1, (g, subst (λ (s : CacheSuper). IsGeometryOf s g) is divides, written_as g c (new_cache p l) b (new_backing p) how cache cache' backing backing' is is' written))

  pub adopts : (c c' : CacheSuper) (b b' : BackingSuper) (l : Layout) (g : Geometry) (how : Result (Unit {0}) Device) (cache mid cache' : C) (backing read backing' : B) → AreKept (cache_facts cache) (cache_facts mid) (backing_facts backing) (backing_facts read)
      → IsCounted good (cache_facts cache) (cache_facts mid) × IsCounted good (backing_facts backing) (backing_facts read) → ReadsCache (cache_facts cache) c → ReadsSuper (backing_facts backing) b → IsUnused c b
      → IsLaidOut (c.bucket * c.nbuckets) l → (l.geometry.block ≡ c.block) × (l.geometry.bucket ≡ c.bucket) → c' ≡ adopted_cache c l → b' ≡ adopted_backing c b → IsGeometryOf c' g
      → PairWritten cache_facts backing_facts g c' b' how mid cache' read backing' → Adopts cache_facts backing_facts how cache cache' backing backing'
  adopts c c' b b' l g how cache mid cache' backing read backing' kept counted reads says unused laid sizes is is' divides written = record {
    cache_read = mid;
    backing_read = read;
    cache_kept = (kept.0, counted.0);
    backing_kept = (kept.1, counted.1);
    b = b;
    reads_backing = says;
    c = c;
    reads_cache = reads;
    unused = unused;
    l = l;
    laid_out = laid;
    sizes = sizes;
    g = g;
    geometry = subst (λ (s : CacheSuper). IsGeometryOf s g) is divides;
    written = written_as g c' (adopted_cache c l) b' (adopted_backing c b) how mid cache' read backing' is is' written;
  }

-- ---- where the parts stand

-- the fewest sets that hold all records are as many as a chain has
sets_are : (size n p : ℕ) → 64 ≤ size → n ≤ p * per_set size → (p - 1) * per_set size < n → 0 < n → p ≡ (n + (per_set size - 1)) / per_set size
sets_are size n zero wide_enough hold few some = absurd (omega (arith, zero-mul (per_set size)))
sets_are size n (suc q) wide_enough hold few some =
    let r : 1 ≤ per_set size = omega arith in
    let last : (suc q - 1) * per_set size ≡ q * per_set size = let one : suc q - 1 ≡ q = omega arith in ap (λ k. k * per_set size) one in
    let one_more : (q + 1) * per_set size ≡ suc q * per_set size = let one : q + 1 ≡ suc q = omega arith in ap (λ k. k * per_set size) one in
    sym (div-eq_of_lt-le (per_set size) {m = n + (per_set size - 1)} (omega (arith, few, last, one_more, add-mul q 1 (per_set size))) (omega (arith, hold, add-mul (suc q) 1 (per_set size))))

-- a superblock says of its device what the division does
pub record SameDivision (l : Layout) (g : Geometry) : Type 0 where
  pub bucket : g.bucket ≡ l.geometry.bucket
  pub nbuckets : g.nbuckets ≡ l.geometry.nbuckets
  pub first : g.first_bucket ≡ l.geometry.first_bucket
  pub journal : g.journal ≡ l.geometry.journal

pub new_division : (p : NewPair) (l : Layout) (c : CacheSuper) (g : Geometry) → c ≡ new_cache p l → IsGeometryOf c g → (l.geometry.block ≡ p.block) × (l.geometry.bucket ≡ p.bucket) → SameDivision l g
new_division p l c g is geometry sizes =
    let of : IsGeometryOf (new_cache p l) g = subst (λ (s : CacheSuper). IsGeometryOf s g) is geometry in
    record { bucket = of.bucket ∙ sym sizes.1; nbuckets = of.nbuckets; first = of.first_bucket; journal = of.journal }

pub adopted_division : (c c' : CacheSuper) (l : Layout) (g : Geometry) → c' ≡ adopted_cache c l → IsGeometryOf c' g → (l.geometry.block ≡ c.block) × (l.geometry.bucket ≡ c.bucket) → l.geometry.nbuckets ≡ c.nbuckets → SameDivision l g
adopted_division c c' l g is geometry sizes many =
    let of : IsGeometryOf (adopted_cache c l) g = subst (λ (s : CacheSuper). IsGeometryOf s g) is geometry in
    record { bucket = of.bucket ∙ sym sizes.1; nbuckets = of.nbuckets ∙ sym many; first = of.first_bucket; journal = of.journal }

pub adopted_superblocks : (c c' : CacheSuper) (b b' : BackingSuper) (sectors : ℕ) (l : Layout) → c' ≡ adopted_cache c l → b' ≡ adopted_backing c b → IsUnused c b → IsLaidOut sectors l → HasSuperblocks b' c'
adopted_superblocks c c' b b' sectors l is is' (sync, none, state) laid =
    subst (λ (b : BackingSuper). HasSuperblocks b c') (sym is') (subst (λ (c' : CacheSuper). HasSuperblocks (adopted_backing c b) c') (sym is)
    (record { initialised = (omega arith, omega (arith, laid.journal)); same_set = refl; state = inl (omega arith) }))

module _ (sectors : ℕ) (l : Layout) (laid : IsLaidOut sectors l) (g : Geometry) (same : SameDivision l g) where
  pub many_sets : l.p ≡ sets_in_chain g
  unfolding sets_in_chain records_in_set
  many_sets =
      let lb = l.geometry.bucket in
      let some : 0 < l.geometry.nbuckets = omega (arith, laid.enough) in
      sets_are lb l.geometry.nbuckets l.p (wide lb laid.bucket) laid.hold laid.few some
      ∙ ap (λ n. (n + (per_set lb - 1)) / per_set lb) (sym same.nbuckets) ∙ ap (λ k. (g.nbuckets + (per_set k - 1)) / per_set k) (sym same.bucket)

  pub names_buckets : NamesBuckets l g
  names_buckets = record {
    prio = omega (arith, laid.prio, same.first, same.journal);
    sets = many_sets;
    uuid = omega (arith, laid.uuid, laid.prio, same.first, same.journal, many_sets);
    root = omega (arith, laid.root, laid.uuid, laid.prio, same.first, same.journal, many_sets);
    leaf = omega (arith, laid.leaf, laid.root, laid.uuid, laid.prio, same.first, same.journal, many_sets);
  }

  pub has_room : HasRoom g sectors
  has_room = record {
    room = subst (λ n. n * g.nbuckets ≤ sectors) (sym same.bucket) (subst (λ n. l.geometry.bucket * n ≤ sectors) (sym same.nbuckets) (room_of sectors l laid));
    within = omega (arith, names_buckets.leaf, laid.within, same.nbuckets);
  }

  pub is_divided : IsDivided g
  is_divided = record {
    first_bucket =
        (let many : 64 ≤ l.geometry.bucket = wide l.geometry.bucket laid.bucket in
        let below : 23 < l.geometry.bucket = omega arith in
        let none : 23 / l.geometry.bucket ≡ 0 = div-eq_of_lt below in
        omega (arith, laid.first_bucket, same.first));
    journal = same.journal ∙ laid.journal ∙ ap (λ n. max 8 (min 256 (n / 128))) (sym same.nbuckets);
  }
