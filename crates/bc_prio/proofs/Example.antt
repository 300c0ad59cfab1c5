-- The example's set is found, and its chain.
use Rattle.std.proofs.Common.{◌≡◌, inl, inr, ℕ, zero, suc, ◌+◌, ◌-◌, ◌*◌, ◌^◌, ◌<◌, ◌≤◌, List, [], ◌∷◌, ◌++◌, length, take, drop, slice_index, slice_index_or, replicate, refl, sym, subst, ap, ◌∙◌, lit<, lit≤, arith}
use Rattle.std.proofs.lemmas.List.{length-append, length-take-le, length-drop, length-replicate, take_all, get_or-drop, get_or-replicate}
use Rattle.byteorder.specs.Endian.{little_bytes}
use Rattle.byteorder.specs.Numbers.{length-bytes_low_first}
use Rattle.bc_bytes.specs.Checksum.{checksum}
use Rattle.bc_bytes.specs.Fields.{number_at, with_number, SameOutside}
use Rattle.bc_bytes.proofs.FieldLaws.{number_at-with_number_same, SameOutside-with_number}
use Rattle.bc_disk.specs.Bytes.{image_of}
use Rattle.bc_disk.specs.Gens.{Gens}
use Rattle.bc_disk.specs.declared.gens.BucketRecord.{BucketRecord}
use Rattle.bc_record.proofs.Parts.{bytes_in-each}
use Rattle.bc_disk.specs.Chain.{records_in_set, sets_in_chain}
use Rattle.bc_prio.specs.Set.{IsSet, IsRecord, HoldsPart, HasChecksum, next_in}
use Rattle.bc_prio.specs.Records.{bucket_in, SetFound, ChainIn}
use Rattle.bc_prio.specs.Example.{example_geometry, unused, example_records, example_blank, example_head, example_half, example_body, example_set, example_image}
use Rattle.bc_prio.proofs.Places.{byte_at, byte_kept, byte_of_zeros}

length-with_number : (n : ℕ) (bytes : List ℕ) (at value : ℕ) → at + n ≤ length bytes → length (with_number n bytes at value) ≡ length bytes
unfolding with_number
length-with_number n bytes at value fits =
    let front : length (take at bytes) ≡ at = length-take-le at bytes (omega arith) in
    let number : length (little_bytes n value) ≡ n = length-bytes_low_first 0 n value in
    let one = length-append (take at bytes ++ little_bytes n value) (drop (at + n) bytes) in
    let two = length-append (take at bytes) (little_bytes n value) in
    one ∙ ap (λ k. k + length (drop (at + n) bytes)) two ∙ omega (arith, front, number, length-drop (at + n) bytes)

-- where each byte is zero
no_bytes : (xs : List ℕ) (k : ℕ) → ((j : ℕ) → slice_index xs j ≡ 0) → number_at 8 xs k ≡ 0
unfolding number_at
no_bytes xs k none =
    omega (
      arith,
      get_or-drop k xs 0 0,
      get_or-drop k xs 1 0,
      get_or-drop k xs 2 0,
      get_or-drop k xs 3 0,
      get_or-drop k xs 4 0,
      get_or-drop k xs 5 0,
      get_or-drop k xs 6 0,
      get_or-drop k xs 7 0,
      none (k + 0),
      none (k + 1),
      none (k + 2),
      none (k + 3),
      none (k + 4),
      none (k + 5),
      none (k + 6),
      none (k + 7),
    )

no_two : (xs : List ℕ) (k : ℕ) → ((j : ℕ) → slice_index xs j ≡ 0) → number_at 2 xs k ≡ 0
unfolding number_at
no_two xs k none = omega (arith, get_or-drop k xs 0 0, get_or-drop k xs 1 0, none (k + 0), none (k + 1))

checksum_small : (start : ℕ) (bytes : List ℕ) → checksum start bytes < 256 ^ 8
unfolding checksum
checksum_small start bytes = omega arith

-- ---- the bytes, over any that are all zeros

module _ (blank head half body set : List ℕ) (sum : ℕ) (long : length blank ≡ 32768) (none : (j : ℕ) → slice_index blank j ≡ 0)
    (head_is : head ≡ with_number 8 blank 8 0x6750_e15f_8733_7f90) (half_is : half ≡ with_number 2 head 40 65535) (body_is : body ≡ with_number 1 half 42 3)
    (set_is : set ≡ with_number 8 body 0 sum) (sum_is : sum ≡ checksum 0xffff_ffff_ffff_ffff (drop 8 body)) where
  head_long : length head ≡ 32768
  head_long = ap (λ (xs : List ℕ). length xs) head_is ∙ length-with_number 8 blank 8 0x6750_e15f_8733_7f90 (omega (arith, long)) ∙ long

  half_long : length half ≡ 32768
  half_long = ap (λ (xs : List ℕ). length xs) half_is ∙ length-with_number 2 head 40 65535 (omega (arith, head_long)) ∙ head_long

  body_long : length body ≡ 32768
  body_long = ap (λ (xs : List ℕ). length xs) body_is ∙ length-with_number 1 half 42 3 (omega (arith, half_long)) ∙ half_long

  pub set_long : length set ≡ 32768
  set_long = ap (λ (xs : List ℕ). length xs) set_is ∙ length-with_number 8 body 0 sum (omega (arith, body_long)) ∙ body_long

  head_kept : SameOutside 8 blank head 8
  head_kept = subst (λ (xs : List ℕ). SameOutside 8 blank xs 8) (sym head_is) (SameOutside-with_number 8 blank 8 0x6750_e15f_8733_7f90 (omega (arith, long)))

  half_kept : SameOutside 2 head half 40
  half_kept = subst (λ (xs : List ℕ). SameOutside 2 head xs 40) (sym half_is) (SameOutside-with_number 2 head 40 65535 (omega (arith, head_long)))

  body_kept : SameOutside 1 half body 42
  body_kept = subst (λ (xs : List ℕ). SameOutside 1 half xs 42) (sym body_is) (SameOutside-with_number 1 half 42 3 (omega (arith, half_long)))

  set_kept : SameOutside 8 body set 0
  set_kept = subst (λ (xs : List ℕ). SameOutside 8 body xs 0) (sym set_is) (SameOutside-with_number 8 body 0 sum (omega (arith, body_long)))

  pub magic_there : number_at 8 set 8 ≡ 0x6750_e15f_8733_7f90
  magic_there =
      set_kept.numbers 8 8 (inr (omega arith)) ∙ body_kept.numbers 8 8 (inl (omega arith)) ∙ half_kept.numbers 8 8 (inl (omega arith))
      ∙ ap (λ xs. number_at 8 xs 8) head_is ∙ number_at-with_number_same 8 blank 8 0x6750_e15f_8733_7f90 (omega (arith, long)) (lit< tt)

  pub no_next : number_at 8 set 32 ≡ 0
  no_next =
      set_kept.numbers 8 32 (inr (omega arith)) ∙ body_kept.numbers 8 32 (inl (omega arith)) ∙ half_kept.numbers 8 32 (inl (omega arith))
      ∙ head_kept.numbers 8 32 (inr (omega arith)) ∙ no_bytes blank 32 none

  rest_kept : drop 8 set ≡ drop 8 body
  rest_kept =
      sym (take_all (32768 - 8) (drop 8 set) (omega (arith, length-drop 8 set, set_long)))
      ∙ set_kept.parts 8 32768 (inr (omega arith))
      ∙ take_all (32768 - 8) (drop 8 body) (omega (arith, length-drop 8 body, body_long))

  pub checksum_there : HasChecksum set
  checksum_there =
      ap (λ xs. number_at 8 xs 0) set_is
      ∙ number_at-with_number_same 8 body 0 sum (omega (arith, body_long)) (subst (λ (n : ℕ). n < 256 ^ 8) (sym sum_is) (checksum_small 0xffff_ffff_ffff_ffff (drop 8 body)))
      ∙ sum_is ∙ ap (checksum 0xffff_ffff_ffff_ffff) (sym rest_kept)

  pub first_record : IsRecord set 0 (record { priority = 65535; generation = 3 })
  first_record = (
    set_kept.numbers 2 40 (inr (omega arith)) ∙ body_kept.numbers 2 40 (inl (omega arith)) ∙ ap (λ xs. number_at 2 xs 40) half_is
        ∙ number_at-with_number_same 2 head 40 65535 (omega (arith, head_long)) (lit< tt),
    sym (byte_at set 42) ∙ set_kept.numbers 1 42 (inr (omega arith)) ∙ ap (λ xs. number_at 1 xs 42) body_is ∙ number_at-with_number_same 1 half 42 3 (omega (arith, half_long)) (lit< tt),
  )

  pub other_record : (k : ℕ) → IsRecord set (suc k) unused
  other_record k = (
    set_kept.numbers 2 (40 + 3 * suc k) (inr (omega arith)) ∙ body_kept.numbers 2 (40 + 3 * suc k) (inr (omega arith)) ∙ half_kept.numbers 2 (40 + 3 * suc k) (inr (omega arith))
        ∙ head_kept.numbers 2 (40 + 3 * suc k) (inr (omega arith)) ∙ no_two blank (40 + 3 * suc k) none,
    byte_kept 8 body set 0 (42 + 3 * suc k) set_kept (inr (omega arith)) ∙ byte_kept 1 half body 42 (42 + 3 * suc k) body_kept (inr (omega arith))
        ∙ byte_kept 2 head half 40 (42 + 3 * suc k) half_kept (inr (omega arith)) ∙ byte_kept 8 blank head 8 (42 + 3 * suc k) head_kept (inr (omega arith)) ∙ none (42 + 3 * suc k),
  )

-- what is known of the bytes
pub record IsExample (set : List ℕ) : Type 0 where
  pub long : length set ≡ 32768
  pub magic : number_at 8 set 8 ≡ 0x6750_e15f_8733_7f90
  pub checksum : HasChecksum set
  pub last : number_at 8 set 32 ≡ 0
  pub first : IsRecord set 0 (record { priority = 65535; generation = 3 })
  pub other : (k : ℕ) → IsRecord set (suc k) unused

blank_is : example_blank ≡ replicate 32768 0
unfolding example_blank
blank_is = refl

blank_long : length example_blank ≡ 32768
blank_long = ap (λ (xs : List ℕ). length xs) blank_is ∙ length-replicate {A = ℕ} 32768 0

head_made : example_head ≡ with_number 8 example_blank 8 0x6750_e15f_8733_7f90
unfolding example_head
head_made = refl

half_made : example_half ≡ with_number 2 example_head 40 65535
unfolding example_half
half_made = refl

body_made : example_body ≡ with_number 1 example_half 42 3
unfolding example_body
body_made = refl

set_made : example_set ≡ with_number 8 example_body 0 (checksum 0xffff_ffff_ffff_ffff (drop 8 example_body))
unfolding example_set
set_made = refl

module _ (blank head half body set : List ℕ) (sum : ℕ) (long : length blank ≡ 32768) (none : (j : ℕ) → slice_index blank j ≡ 0)
    (head_is : head ≡ with_number 8 blank 8 0x6750_e15f_8733_7f90) (half_is : half ≡ with_number 2 head 40 65535) (body_is : body ≡ with_number 1 half 42 3)
    (set_is : set ≡ with_number 8 body 0 sum) (sum_is : sum ≡ checksum 0xffff_ffff_ffff_ffff (drop 8 body)) where
  is_example : IsExample set
  is_example = record {
    long = set_long blank head half body set sum long none head_is half_is body_is set_is sum_is;
    magic = magic_there blank head half body set sum long none head_is half_is body_is set_is sum_is;
    checksum = checksum_there blank head half body set sum long none head_is half_is body_is set_is sum_is;
    last = no_next blank head half body set sum long none head_is half_is body_is set_is sum_is;
    first = first_record blank head half body set sum long none head_is half_is body_is set_is sum_is;
    other = other_record blank head half body set sum long none head_is half_is body_is set_is sum_is;
  }

pub example_is : IsExample example_set
example_is =
    is_example example_blank example_head example_half example_body example_set (checksum 0xffff_ffff_ffff_ffff (drop 8 example_body))
    blank_long (λ j. byte_of_zeros 32768 example_blank j blank_is) head_made half_made body_made set_made refl

-- ---- the chain

bucket_is : bucket_in example_geometry example_image 3 ≡ example_set
bucket_is = bytes_in-each example_image 192 64 example_set example_is.long (λ k low. ap (image_of example_set) (let e : 192 + k - 192 ≡ k = omega arith in e))

one_set_alone : sets_in_chain example_geometry ≡ 1
unfolding sets_in_chain records_in_set
one_set_alone = refl

set_is_set : IsSet example_geometry 0 example_set
set_is_set = record {
  whole = example_is.long;
  magic = example_is.magic;
  checksum = example_is.checksum;
  count = ((λ last. sym one_set_alone), (λ part. example_is.last));
}

record_there : (i : ℕ) → i < 128 → (d : BucketRecord) → IsRecord example_set i (slice_index_or example_records i d)
record_there zero inside d = example_is.first
record_there (suc k) inside d = subst (λ (e : BucketRecord). IsRecord example_set (suc k) e) (sym (get_or-replicate 127 k unused d (omega (arith, inside)))) (example_is.other k)

set_holds : HoldsPart example_geometry example_records 0 example_set
set_holds i fits inside d =
    let here : i ≡ 0 * records_in_set example_geometry + i = omega arith in
    let many : length example_records ≡ 128 = ap suc (length-replicate {A = BucketRecord} 127 unused) in
    subst (λ (n : ℕ). IsRecord example_set i (slice_index_or example_records n d)) here (record_there i (omega (arith, inside, many)) d)

set_is_found : SetFound example_geometry example_image 3 0 0 example_records
set_is_found = record {
  set = subst (λ (bs : List ℕ). IsSet example_geometry 0 bs) (sym bucket_is) set_is_set;
  names = ap next_in bucket_is ∙ example_is.last;
  holds = subst (λ (bs : List ℕ). HoldsPart example_geometry example_records 0 bs) (sym bucket_is) set_holds;
}

abbrev pub example_gens : Gens
example_gens = record { records = example_records; chain = 3 ∷ [] }

pub example_chain : ChainIn example_geometry example_image 3 example_gens
example_chain = record {
  sets = (refl, (lit≤ tt, lit< tt), (0, set_is_found, refl));
  distinct = λ i j d low inside. absurd (omega arith);
  count = sym one_set_alone;
  records = ap suc (length-replicate {A = BucketRecord} 127 unused);
}
