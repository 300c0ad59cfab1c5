-- The entries of a journal, listed so far.
use Rattle.std.proofs.Common.{◌≡◌, ℕ, suc, ◌+◌, ◌-◌, ◌*◌, ◌^◌, ◌<◌, ◌≤◌, List, [], ◌∷◌, ◌++◌, length, take, drop, slice_range, Some, None, sym, subst, ap, ◌∙◌, arith, append_assoc}
use Rattle.std.specs.Prelude.{All, ◌/◌, Option, Result, Ok, Err, IfOk, MatchOption}
use Rattle.std.proofs.lemmas.Nat.{mul-le}
use Rattle.std.proofs.Math.Nat.{mul-add, mul-le-mul_left, lt_of_mul-lt-mul_left}
use Rattle.bc_model.specs.Sector.{Image}
use Rattle.bc_disk.specs.Bytes.{image_of}
use Rattle.bc_disk.specs.declared.geometry.Geometry.{Geometry}
use Rattle.bc_record.specs.Sectors.{bytes_to}
use Rattle.bc_record.specs.Kind.{Kind, sectors_of, IsFound, AreFound, behind}
use Rattle.bc_record.specs.Places.{at_place, placed}
use Rattle.bc_record.specs.declared.placed.Placed.{Placed}
use Rattle.bc_record.proofs.Parts.{bytes_to-image_of}
use Rattle.bc_record.proofs.Blocks.{block_some}
use Rattle.bc_record.proofs.Found.{found_fits, takes_some}
use Rattle.bc_jset.proofs.Records.{entry_codec}
use Rattle.bc_jset.proofs.Entries.{one_stand, one_newest, found_has, found_number}
use Rattle.bc_jset.specs.EntryBytes.{bytes_of}
use Rattle.bc_jset.specs.declared.entry.JEntry.{JEntry}
use Rattle.bc_jset.specs.Records.{entry_kind, entry_sectors, EntryFound}
use Rattle.bc_jset.specs.Entries.{FoundEntry, bucket_end, StandIn, first_with, IsNewest, AreNumbered, AreEntries}

-- the bytes that are read
pub part_is : (bytes part : List ℕ) (end place : ℕ) → place ≤ end → 512 * end ≤ length bytes → part ≡ slice_range bytes (512 * place) (512 * end) → bytes_to (image_of bytes) end place ≡ part
part_is bytes part end place low room is =
    let width : 512 * (end - place) ≡ 512 * end - 512 * place = omega arith in
    bytes_to-image_of bytes end place low room ∙ ap (λ n. take n (drop (512 * place) bytes)) width ∙ sym is

-- what is listed from a place on comes behind what was listed before
abbrev pub ListsOn : {A : Type 0} → Kind A → Image → ℕ → ℕ → List A → ℕ → Type 0
ListsOn {A = A} kind image end start here place = (rest : List A) → AreFound kind image end place rest → AreFound kind image end start (here ++ rest)

pub lists_more : {A : Type 0} (kind : Kind A) (image : Image) (end start place next : ℕ) (here : List A) (e : A) → ListsOn kind image end start here place → IsFound kind image end place e → next ≡ place + sectors_of kind e
    → ListsOn kind image end start (here ++ e ∷ []) next
lists_more {A = A} kind image end start place next here e so found is rest more =
    subst (λ (xs : List A). AreFound kind image end start xs) (sym (append_assoc here (e ∷ []) rest)) (so (e ∷ rest) (found, subst (λ (p : ℕ). AreFound kind image end p rest) is more))

-- one more, with its place
pub placed_more : {A : Type 0} (kind : Kind A) (start place : ℕ) (before : List (Placed A)) (here : List A) (e : A) → place ≡ behind kind start here
    → (before ++ placed kind start here) ++ at_place place e ∷ [] ≡ before ++ placed kind start (here ++ e ∷ [])
placed_more {A} kind start place before here e is =
    append_assoc before (placed kind start here) (at_place place e ∷ []) ∙ ap (λ (ps : List (Placed A)). before ++ ps) (go start here is)
  where
    go : (from : ℕ) (xs : List A) → place ≡ behind kind from xs → placed kind from xs ++ at_place place e ∷ [] ≡ placed kind from (xs ++ e ∷ [])
    go from [] at = ap (λ (p : ℕ). at_place p e ∷ []) at
    go from (x ∷ xs) at = ap (λ (ps : List (Placed A)). at_place from x ∷ ps) (go (from + sectors_of kind x) xs at)

pub behind_more : {A : Type 0} (kind : Kind A) (start place : ℕ) (here : List A) (e : A) → place ≡ behind kind start here → place + sectors_of kind e ≡ behind kind start (here ++ e ∷ [])
behind_more {A} kind start place here e is = go start here is
  where
    go : (from : ℕ) (xs : List A) → place ≡ behind kind from xs → place + sectors_of kind e ≡ behind kind from (xs ++ e ∷ [])
    go from [] at = ap (λ (p : ℕ). p + sectors_of kind e) at
    go from (x ∷ xs) at = go (from + sectors_of kind x) xs at

-- ---- one bucket

-- it lies on the device
pub bucket_within : (g : Geometry) (i : ℕ) → i < g.journal → bucket_end g i ≤ g.bucket * g.nbuckets
bucket_within g i inside =
    let within = g.journal_within in
    let high : g.bucket * (g.first_bucket + i + 1) ≤ g.bucket * g.nbuckets = mul-le-mul_left g.bucket (omega (arith, within)) in
    omega (arith, high, mul-add g.bucket (g.first_bucket + i) 1)

pub device_small : (g : Geometry) → g.bucket * g.nbuckets ≤ 2 ^ 35
device_small g =
    let to = g.buckets_to in
    let some = g.bucket_to in
    mul-le g.bucket g.nbuckets (2 ^ 15) (2 ^ 20) (omega (arith, some)) (omega (arith, to))

-- an entry that was found in a bucket, of which so many blocks are left from its place on
pub record IsTaken (g : Geometry) (end place sectors : ℕ) : Type 0 where
  pub some : 0 < sectors
  pub fits : place + sectors ≤ end
  pub left : ℕ
  pub whole : end ≡ place + sectors + g.block * left

pub taken : (g : Geometry) (image : Image) (end place blocks sectors : ℕ) (e : JEntry) → end ≡ place + g.block * blocks → EntryFound g image end place e → sectors ≡ entry_sectors g e → IsTaken g end place sectors
taken g image end place blocks sectors e whole found is =
    let m = (bytes_of e + (512 * g.block - 1)) / (512 * g.block) in
    let fits : place + g.block * m ≤ end = found_fits (entry_kind g) (entry_codec g) image end place blocks e whole found in
    let some : 0 < g.block * m = takes_some (entry_kind g) (entry_codec g) e in
    let block = block_some g in
    let few : m < blocks + 1 = lt_of_mul-lt-mul_left g.block (omega (arith, fits, whole, block, mul-add g.block blocks 1)) in
    let split : g.block * blocks ≡ g.block * m + g.block * (blocks - m) = ap (λ n. g.block * n) (let e : blocks ≡ m + (blocks - m) = omega (arith, few) in e) ∙ mul-add g.block m (blocks - m) in
    record { some = omega (arith, some, is); fits = omega (arith, fits, is); left = blocks - m; whole = omega (arith, whole, split, is) }

-- ---- numbers

pub numbered_more : (all : List FoundEntry) (low number : ℕ) (list : List FoundEntry) (e : FoundEntry)
    → ((rest : List FoundEntry) (next : ℕ) → AreNumbered all number rest next → AreNumbered all low (list ++ rest) next) → first_with number all ≡ Some e
    → (rest : List FoundEntry) (next : ℕ) → AreNumbered all (suc number) rest next → AreNumbered all low ((list ++ e ∷ []) ++ rest) next
numbered_more all low number list e so is rest next more =
    subst (λ (xs : List FoundEntry). AreNumbered all low xs next) (sym (append_assoc list (e ∷ []) rest)) (so (e ∷ rest) next (is, more))

-- one number more is needed
pub needs_more : (all : List FoundEntry) (number high : ℕ) → number < high → (es : List FoundEntry) → AreNumbered all number es (suc high) → (rest : List FoundEntry) × AreNumbered all (suc number) rest (suc high)
needs_more all number high below [] p = absurd (omega (arith, p))
needs_more all number high below (e ∷ es) p = (es, p.1)

pub none_numbered : (all : List FoundEntry) (number high : ℕ) → number ≤ high → first_with number all ≡ None → (es : List FoundEntry) → AreNumbered all number es (suc high) → ⊥
none_numbered all number high low none [] p = omega (arith, p)
none_numbered all number high low none (e ∷ es) p = let here = p.0 in cc

-- ---- the list

module _ (g : Geometry) (image : Image) (all : List FoundEntry) (stand : StandIn g image g.journal all) where
  -- what a list of entries has as its newest one
  newest_in : (es : List FoundEntry) → (p : AreEntries g image es) → IsNewest all p.newest
  newest_in es p = subst (λ (xs : List FoundEntry). IsNewest xs p.newest) (one_stand g image g.journal p.all all p.stand stand) p.is_newest

  numbered_in : (es : List FoundEntry) → (p : AreEntries g image es) → AreNumbered all p.newest.item.last_seq es (suc p.newest.item.seq)
  numbered_in es p = subst (λ (xs : List FoundEntry). AreNumbered xs p.newest.item.last_seq es (suc p.newest.item.seq)) (one_stand g image g.journal p.all all p.stand stand) p.numbered

  -- the greatest number is no entry's
  pub no_newest : (number : ℕ) → All (λ (e : FoundEntry). e.item.seq ≤ number) all → ((n : ℕ) → All (λ (e : FoundEntry). e.item.seq ≤ n) all → number ≤ n) → first_with number all ≡ None → (es : List FoundEntry) → AreEntries g image es → ⊥
  no_newest number above least none es p =
      let newest = newest_in es p in
      let low = found_has (λ (e : FoundEntry). e.item.seq ≤ number) p.newest.item.seq all p.newest above newest.counts in
      let high = least p.newest.item.seq newest.greatest in
      let same : p.newest.item.seq ≡ number = omega (arith, low, high) in
      let counts = subst (λ (n : ℕ). first_with n all ≡ Some p.newest) same newest.counts in
      cc

  pub newest_above : (newest : FoundEntry) → IsNewest all newest → newest.item.seq < newest.item.last_seq → (es : List FoundEntry) → AreEntries g image es → ⊥
  newest_above newest is above es p =
      let same = one_newest all p.newest newest (newest_in es p) is in
      let reaches = subst (λ (e : FoundEntry). e.item.last_seq ≤ e.item.seq) same p.reaches in
      omega (arith, reaches, above)

  -- an answer on the numbers is one on the entries
  pub listed : {V E : Type 0} (items : V → List FoundEntry) (newest : FoundEntry) → IsNewest all newest → newest.item.last_seq ≤ newest.item.seq → (answer : Result (Option V) E)
      → IfOk answer (λ o. MatchOption o ((es : List FoundEntry) → AreNumbered all newest.item.last_seq es (suc newest.item.seq) → ⊥) (λ list. AreNumbered all newest.item.last_seq (items list) (suc newest.item.seq)))
      → IfOk answer (λ o. MatchOption o ((es : List FoundEntry) → AreEntries g image es → ⊥) (λ list. AreEntries g image (items list)))
  listed items newest is reaches (Err e) numbered = tt
  listed items newest is reaches (Ok None) numbered = λ es p.
      let same = one_newest all p.newest newest (newest_in es p) is in
      numbered es (subst (λ (e : FoundEntry). AreNumbered all e.item.last_seq es (suc e.item.seq)) same (numbered_in es p))
  listed items newest is reaches (Ok (Some list)) numbered = record { all = all; stand = stand; newest = newest; is_newest = is; reaches = reaches; numbered = numbered }

pub newest_is : (all : List FoundEntry) (number : ℕ) (newest : FoundEntry) → All (λ (e : FoundEntry). e.item.seq ≤ number) all → first_with number all ≡ Some newest → IsNewest all newest
newest_is all number newest above found =
    let same : number ≡ newest.item.seq = sym (found_number number all newest found) in
    record { counts = subst (λ (n : ℕ). first_with n all ≡ Some newest) same found; greatest = subst (λ (n : ℕ). All (λ (e : FoundEntry). e.item.seq ≤ n) all) same above }
