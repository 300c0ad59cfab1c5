-- What the first bytes of a superblock tell of the whole.
use Rattle.std.proofs.Common.{◌≡◌, inl, inr, ℕ, zero, suc, ◌+◌, ◌-◌, ◌*◌, ◌≤◌, List, [], ◌∷◌, ◌++◌, length, take, drop, slice_range, length-drop, refl, sym, ap, ◌∙◌, subst, lit≤, le_trans, mul-le-mul, arith}
use Rattle.std.proofs.lemmas.List.{take-replicate, drop-replicate, take-append-drop}
use Rattle.std.specs.Prelude.{replicate, Option, Some, None, ◌==◌, if◌then◌else◌}
use Rattle.bc_bytes.specs.Fields.{number_at, SameOutside}
use Rattle.bc_bytes.specs.Checksum.{checksum}
use Rattle.bc_model.specs.Sector.{Value, Image, at_run, unless, sectors, values_of, Gives}
use Rattle.bc_model.proofs.Sectors.{values_whole}
use Rattle.bc_disk.specs.Disk.{DiskFacts, IfTold, BothTold, Overwritten}
use Rattle.bc_super.specs.Super.{IsSuper, IsUsable, IsBackingVersion, IsBackingSuper, fields_in, backing_of, count_in}
use Rattle.bc_super.specs.Cache.{IsUsableCache, IsCacheSuper, cache_of}
use Rattle.bc_super.specs.Reading.{OnlyReads, OnlyReadsCache}
use Rattle.bc_super.specs.Writing.{IsStored, IsBackingSector, IsCacheBytes, fields_of}
use Rattle.bc_super.proofs.Buckets.{IsOne, is_one}
use Rattle.bc_super.proofs.Fronts.{number_of_front, part_of_front}
use Rattle.bc_super.specs.declared.backing.BackingSuper.{BackingSuper}
use Rattle.bc_super.specs.declared.cache.CacheSuper.{CacheSuper}
use Rattle.bc_super.specs.declared.fields.Fields.{Fields}

-- equal numbers and parts are equal fields
same_fields : (xs ys : List ℕ) → ((n k : ℕ) → 8 ≤ k → k + n ≤ 208 → number_at n xs k ≡ number_at n ys k) → ((i j : ℕ) → 8 ≤ i → j ≤ 208 → slice_range xs i j ≡ slice_range ys i j) → fields_in xs ≡ fields_in ys
same_fields xs ys numbers parts =
    let version = numbers 8 16 (lit≤ tt) (lit≤ tt) in
    let uuid = parts 40 56 (lit≤ tt) (lit≤ tt) in
    let set_uuid = parts 56 72 (lit≤ tt) (lit≤ tt) in
    let label = parts 72 104 (lit≤ tt) (lit≤ tt) in
    let flags = numbers 8 104 (lit≤ tt) (lit≤ tt) in
    let seq = numbers 8 112 (lit≤ tt) (lit≤ tt) in
    let features = parts 120 144 (lit≤ tt) (lit≤ tt) in
    let nbuckets = numbers 8 184 (lit≤ tt) (lit≤ tt) in
    let block = numbers 2 192 (lit≤ tt) (lit≤ tt) in
    let bucket = numbers 2 194 (lit≤ tt) (lit≤ tt) in
    let devices = numbers 2 196 (lit≤ tt) (lit≤ tt) in
    let device = numbers 2 198 (lit≤ tt) (lit≤ tt) in
    let last_mount = numbers 4 200 (lit≤ tt) (lit≤ tt) in
    let first_bucket = numbers 2 204 (lit≤ tt) (lit≤ tt) in
    let journal = numbers 2 206 (lit≤ tt) (lit≤ tt) in
    λ i. record {
      version = version i;
      uuid = uuid i;
      set_uuid = set_uuid i;
      label = label i;
      flags = flags i;
      seq = seq i;
      features = features i;
      nbuckets = nbuckets i;
      block = block i;
      bucket = bucket i;
      devices = devices i;
      device = device i;
      last_mount = last_mount i;
      first_bucket = first_bucket i;
      journal = journal i;
    }

-- the checksum is none of the fields
pub fields_outside : (old new : List ℕ) → SameOutside 8 old new 0 → fields_in new ≡ fields_in old
fields_outside old new others = same_fields new old (λ n k low high. others.numbers n k (inr low)) (λ i j low high. others.parts i j (inr low))

-- nor is the list
pub fields_before : (n : ℕ) (old new : List ℕ) → SameOutside n old new 208 → fields_in new ≡ fields_in old
fields_before n old new others = same_fields new old (λ m k low high. others.numbers m k (inl high)) (λ i j low high. others.parts i j (inl high))

abbrev pub zeros : ℕ → List ℕ
zeros n = replicate n 0

-- a part of zeros
pub zeros_part : (i n : ℕ) → i ≤ n → slice_range (zeros n) i n ≡ zeros (n - i)
zeros_part i n low = ap (take (n - i)) (drop-replicate i n 0) ∙ take-replicate (n - i) (n - i) 0 (omega arith)

-- all fields stand in the first 208 bytes
pub fields_front : (m : ℕ) (bytes : List ℕ) → 208 ≤ m → fields_in (take m bytes) ≡ fields_in bytes
fields_front m bytes low = same_fields (take m bytes) bytes (λ n k _ high. number_of_front n k m bytes (omega arith)) (λ i j _ high. part_of_front i j m bytes (omega arith))

-- what a superblock is known by stands before the end of its list
pub super_front : (m : ℕ) (bytes : List ℕ) → 208 ≤ m → IsSuper (take m bytes) → 208 + 8 * count_in (take m bytes) ≤ m → IsSuper bytes
super_front m bytes low is fits =
    let count : count_in (take m bytes) ≡ count_in bytes = number_of_front 2 206 m bytes (omega arith) in
    record {
      has_magic = sym (part_of_front 24 40 m bytes (omega arith)) ∙ is.has_magic;
      place = sym (number_of_front 8 8 m bytes (omega arith)) ∙ is.place;
      count = subst (λ n. n ≤ 256) count is.count;
      checksum =
          sym (number_of_front 8 0 m bytes (omega arith)) ∙ is.checksum
          ∙ ap (checksum 0xffff_ffff_ffff_ffff) (part_of_front 8 (208 + 8 * count_in (take m bytes)) m bytes fits ∙ ap (λ n. slice_range bytes 8 (208 + 8 * n)) count);
    }

offset_again : (version offset : ℕ) → IsBackingVersion version → (version ≡ 1 → offset ≡ 16) → (if version == 1 then 16 else (if version == 1 then 0 else offset)) ≡ offset
offset_again version offset (inl one) fixed = rw one (sym (fixed one))
offset_again version offset (inr (inl four)) fixed = rw four refl
offset_again version offset (inr (inr six)) fixed = rw six refl

-- what was written as a backing device's fields is read as it was
pub backing_again : (sectors : ℕ) (s : BackingSuper) → IsUsable sectors s → backing_of (fields_of s) ≡ s
backing_again sectors s usable =
    let offset = offset_again s.version s.data_offset usable.version usable.fixed in
    λ i. record {
      version = s.version;
      uuid = s.uuid;
      set_uuid = s.set_uuid;
      label = s.label;
      flags = s.flags;
      seq = s.seq;
      block = s.block;
      last_mount = s.last_mount;
      data_offset = offset i;
    }

-- bytes that begin with the sector as it is written
pub written_again : (bytes : List ℕ) (sectors : ℕ) (s : BackingSuper) → IsBackingSector (take 512 bytes) s → IsUsable sectors s → IsBackingSuper bytes sectors s
written_again bytes sectors s is usable =
    let none : count_in (take 512 bytes) ≡ 0 = ap (λ (f : Fields). f.journal) is.fields in
    record {
      super = super_front 512 bytes (lit≤ tt) is.super (omega arith);
      spelled = sym (ap backing_of (sym (fields_front 512 bytes (lit≤ tt)) ∙ is.fields) ∙ backing_again sectors s usable);
      features = λ six. ap (λ (f : Fields). f.features) (sym (fields_front 512 bytes (lit≤ tt)) ∙ is.fields);
      usable = usable;
    }

-- a value that stands in sector 8 is the first of whatever is read from there on
first_read : (bytes value : List ℕ) (held before : Image) → length bytes ≡ 2560 → Overwritten 8 (value ∷ []) before held → Gives 8 (values_of bytes) (λ s v. v ≡ held s) → take 512 bytes ≡ value
first_read bytes value held before whole over gives =
    let five = values_whole 5 bytes whole in
    gives 8 (take 512 bytes) (ap (λ vs. at_run 8 vs 8) five) ∙ over 8

pub told_weaker : (holds : Option Image) {P Q : Type 0} → (P → Q) → IfTold holds (λ _. P) → IfTold holds (λ _. Q)
told_weaker None step is = tt
told_weaker (Some held) step is = step is

-- whatever is read there is this superblock
abbrev Says : Option Image → ℕ → BackingSuper → Type 0
Says holds sectors t = (bytes : List ℕ) → length bytes ≡ 2560 → IfTold holds (λ held. Gives 8 (values_of bytes) (λ s v. v ≡ held s)) → IsBackingSuper bytes sectors t

-- what stands where a backing device's superblock was written
pub stored_again : (old new : DiskFacts) (s : BackingSuper) (value : List ℕ) → IsBackingSector value s → IsUsable old.sectors s → IsStored 8 (value ∷ []) old new → OnlyReads new s
stored_again old new s value is usable stored = told_weaker new.holds (λ say bytes read. say bytes read.whole read.read) (go old.holds new.holds stored.holds)
  where
    go : (before after : Option Image) → BothTold (Overwritten 8 (value ∷ [])) before after → IfTold after (λ _. Says after new.sectors s)
    go None None both = tt
    go None (Some held) both = elim both [ ]
    go (Some before) None both = elim both [ ]
    go (Some before) (Some held) both = λ bytes whole read.
        let front = first_read bytes value held before whole both read in
        subst (λ n. IsBackingSuper bytes n s) (sym stored.sectors) (written_again bytes old.sectors s (subst (λ v. IsBackingSector v s) (sym front) is) usable)

-- ---- the superblock of a cache device

-- bytes of as many sectors, each the same
same_sectors : (n : ℕ) (xs ys : List ℕ) → length xs ≡ 512 * n → length ys ≡ 512 * n → sectors n xs ≡ sectors n ys → xs ≡ ys
same_sectors zero [] [] long wide same = refl
same_sectors zero (x ∷ xs) ys long wide same = absurd (omega arith)
same_sectors zero xs (y ∷ ys) long wide same = absurd (omega arith)
same_sectors (suc n) xs ys long wide same =
    let here : take 512 xs ≡ take 512 ys = cc in
    let behind : sectors n (drop 512 xs) ≡ sectors n (drop 512 ys) = cc in
    let rest = same_sectors n (drop 512 xs) (drop 512 ys) (omega (arith, length-drop 512 xs)) (omega (arith, length-drop 512 ys)) behind in
    sym (take-append-drop 512 xs) ∙ ap (λ v. v ++ drop 512 xs) here ∙ ap (λ v. take 512 ys ++ v) rest ∙ take-append-drop 512 ys

-- five sectors that stand on a disk are what is read of them
pub five_read : (bytes value : List ℕ) (held before : Image) → length bytes ≡ 2560 → length value ≡ 2560 → Overwritten 8 (values_of value) before held → Gives 8 (values_of bytes) (λ s v. v ≡ held s) → bytes ≡ value
five_read bytes value held before whole wide over gives =
    let read = values_whole 5 bytes whole in
    let stood = values_whole 5 value wide in
    let at = λ (s : ℕ). over s ∙ ap (λ vs. unless (at_run 8 vs s) (before s)) stood in
    let one : take 512 bytes ≡ take 512 value = gives 8 (take 512 bytes) (ap (λ vs. at_run 8 vs 8) read) ∙ at 8 in
    let two : take 512 (drop 512 bytes) ≡ take 512 (drop 512 value) = gives 9 (take 512 (drop 512 bytes)) (ap (λ vs. at_run 8 vs 9) read) ∙ at 9 in
    let three : take 512 (drop 512 (drop 512 bytes)) ≡ take 512 (drop 512 (drop 512 value)) = gives 10 (take 512 (drop 512 (drop 512 bytes))) (ap (λ vs. at_run 8 vs 10) read) ∙ at 10 in
    let four : take 512 (drop 512 (drop 512 (drop 512 bytes))) ≡ take 512 (drop 512 (drop 512 (drop 512 value))) = gives 11 (take 512 (drop 512 (drop 512 (drop 512 bytes)))) (ap (λ vs. at_run 8 vs 11) read) ∙ at 11 in
    let five : take 512 (drop 512 (drop 512 (drop 512 (drop 512 bytes)))) ≡ take 512 (drop 512 (drop 512 (drop 512 (drop 512 value)))) = gives 12 (take 512 (drop 512 (drop 512 (drop 512 (drop 512 bytes))))) (ap (λ vs. at_run 8 vs 12) read) ∙ at 12 in
    same_sectors 5 bytes value (whole ∙ omega arith) (wide ∙ omega arith) (λ i. one i ∷ two i ∷ three i ∷ four i ∷ five i ∷ [])

cache_again : (bytes : List ℕ) (n : ℕ) (s : CacheSuper) → IsCacheBytes bytes s → IsUsableCache n s → IsCacheSuper bytes n s
cache_again bytes n s is usable = record {
  super = is.super;
  spelled = sym (ap cache_of is.fields);
  features = λ five. ap (λ (f : Fields). f.features) is.fields;
  set_number = (ap (λ (f : Fields). f.devices) is.fields, ap (λ (f : Fields). f.device) is.fields);
  list = is.list;
  usable = usable;
}

abbrev SaysCache : Option Image → ℕ → CacheSuper → Type 0
SaysCache holds n t = (bytes : List ℕ) → length bytes ≡ 2560 → IfTold holds (λ held. Gives 8 (values_of bytes) (λ s v. v ≡ held s)) → IsCacheSuper bytes n t

-- what stands where a cache device's superblock was written
pub cache_stored_again : (old new : DiskFacts) (s : CacheSuper) (value : List ℕ) → IsCacheBytes value s → IsUsableCache old.sectors s → IsStored 8 (values_of value) old new → OnlyReadsCache new s
cache_stored_again old new s value is usable stored = told_weaker new.holds (λ say bytes read. say bytes read.whole read.read) (go old.holds new.holds stored.holds)
  where
    go : (before after : Option Image) → BothTold (Overwritten 8 (values_of value)) before after → IfTold after (λ _. SaysCache after new.sectors s)
    go None None both = tt
    go None (Some held) both = elim both [ ]
    go (Some before) None both = elim both [ ]
    go (Some before) (Some held) both = λ bytes whole read.
        let same = five_read bytes value held before whole is.whole both read in
        subst (λ n. IsCacheSuper bytes n s) (sym stored.sectors) (subst (λ b. IsCacheSuper b old.sectors s) (sym same) (cache_again value old.sectors s is usable))

-- the first of the sectors, and the four behind it
pub five_values : (bytes : List ℕ) → length bytes ≡ 2560 → values_of bytes ≡ take 512 bytes ∷ values_of (drop 512 bytes)
five_values bytes whole =
    values_whole 5 bytes whole ∙ ap (λ (vs : List Value). take 512 bytes ∷ vs) (sym (values_whole 4 (drop 512 bytes) (omega (arith, length-drop 512 bytes))))

-- a device of so many buckets has many sectors
pub large : (n : ℕ) (s : CacheSuper) → IsUsableCache n s → 8192 ≤ n
large n s usable = le_trans (mul-le-mul (wide s.bucket (is_one s.bucket usable.bucket)) usable.fewest) usable.room
  where
    wide : (b : ℕ) → IsOne b → 64 ≤ b
    wide b one = grind arith
