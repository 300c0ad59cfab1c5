-- What a disk holds says one thing as a chain.
use Rattle.std.proofs.Common.{◌≡◌, ◌⊎◌, inl, inr, ℕ, zero, suc, ◌+◌, ◌*◌, ◌/◌, ◌%◌, ◌<◌, ◌≤◌, List, [], ◌∷◌, length, get_or, refl, sym, subst, ap, ◌∙◌, arith}
use Rattle.std.specs.Prelude.{Option, Some}
use Rattle.std.proofs.Math.Nat.{div-lt_iff_lt-mul, div-add-mod', mod-lt}
use Rattle.std.proofs.lemmas.Bool.{cases_lt}
use Rattle.std.proofs.lemmas.List.{ext_get_or}
use Rattle.bc_model.specs.Sector.{Image, values_of, Gives}
use Rattle.bc_disk.specs.Bytes.{image_of}
use Rattle.bc_disk.specs.Disk.{DiskFacts, IfTold}
use Rattle.bc_disk.specs.Gens.{Gens}
use Rattle.bc_disk.specs.declared.geometry.Geometry.{Geometry}
use Rattle.bc_disk.specs.declared.gens.BucketRecord.{BucketRecord}
use Rattle.bc_disk.proofs.Sectors.{at_run-sectors, image_of-past, same_image}
use Rattle.bc_disk.specs.Chain.{records_in_set, sets_in_chain}
use Rattle.bc_prio.specs.Set.{HoldsPart, next_in}
use Rattle.bc_prio.specs.Chain.{IsInBucket, IsChain, Leads}
use Rattle.bc_disk.proofs.Amounts.{records_fit, parts_reach}

-- the sectors of a bucket's bytes are those of the image
sector_told : (g : Geometry) (d : DiskFacts) (image : Image) (bucket : ℕ) (bytes : List ℕ) → d.holds ≡ Some image → IsInBucket g d bucket bytes
    → (k : ℕ) → k < g.bucket → image_of bytes k ≡ image (g.bucket * bucket + k)
sector_told g d image bucket bytes told there k inside =
    let read : Gives (g.bucket * bucket) (values_of bytes) (λ s v. v ≡ image s) = subst (λ (o : Option Image). IfTold o (λ held. Gives (g.bucket * bucket) (values_of bytes) (λ s v. v ≡ held s))) told there.read in
    let whole = there.whole in
    let many : k < length bytes / 512 = omega arith in
    read (g.bucket * bucket + k) (image_of bytes k) (at_run-sectors (g.bucket * bucket) (length bytes / 512) k (g.bucket * bucket + k) bytes many refl)

-- so what stands in a bucket is one list of bytes
same_bytes : (g : Geometry) (d : DiskFacts) (image : Image) (bucket : ℕ) (xs ys : List ℕ) → d.holds ≡ Some image → IsInBucket g d bucket xs → IsInBucket g d bucket ys → xs ≡ ys
same_bytes g d image bucket xs ys told x y = same_image xs ys (x.whole ∙ sym y.whole) (λ s. go s (cases_lt s g.bucket))
  where
    go : (s : ℕ) → (s < g.bucket) ⊎ (g.bucket ≤ s) → image_of xs s ≡ image_of ys s
    go s (inl inside) = sector_told g d image bucket xs told x s inside ∙ sym (sector_told g d image bucket ys told y s inside)
    go s (inr past) = let a = x.whole in let b = y.whole in image_of-past xs s (omega arith) ∙ sym (image_of-past ys s (omega arith))

-- each part of either chain has the same bytes
abbrev pub Shared : (P Q : ℕ → List ℕ → Type 0) (k : ℕ) → Type 0
Shared P Q k = (bytes : List ℕ) × P k bytes × Q k bytes

pub record SameSets (P Q : ℕ → List ℕ → Type 0) (part : ℕ) (xs ys : List ℕ) : Type 0 where
  pub chain : xs ≡ ys
  pub shared : (k : ℕ) → part ≤ k → k < part + length xs → Shared P Q k

module _ (g : Geometry) (d : DiskFacts) (image : Image) (told : d.holds ≡ Some image) (P Q : ℕ → List ℕ → Type 0) where
  same_sets : (part from : ℕ) (xs ys : List ℕ) → length xs ≡ length ys → Leads g d P part from xs 0 → Leads g d Q part from ys 0 → SameSets P Q part xs ys
  same_sets part from [] [] long a b = record { chain = refl; shared = λ k low high. absurd (omega arith) }
  same_sets part from [] (y ∷ ys) long a b = absurd (omega arith)
  same_sets part from (x ∷ xs) [] long a b = absurd (omega arith)
  same_sets part from (x ∷ xs) (y ∷ ys) long a b =
      let here : x ≡ y = sym a.0 ∙ b.0 in
      let left = a.2 in
      let right = b.2 in
      let same : left.0 ≡ right.0 = same_bytes g d image x left.0 right.0 told left.1 (subst (λ (n : ℕ). IsInBucket g d n right.0) (sym here) right.1) in
      let lead : Leads g d Q (suc part) (next_in left.0) ys 0 = subst (λ (bs : List ℕ). Leads g d Q (suc part) (next_in bs) ys 0) (sym same) right.4 in
      let rest = same_sets (suc part) (next_in left.0) xs ys (omega arith) left.4 lead in
      record {
        chain = ap (λ (n : ℕ). n ∷ xs) here ∙ ap (λ (zs : List ℕ). y ∷ zs) rest.chain;
        shared = λ k low high. either part k xs left.0 (cases_lt part k) low high left.3 (subst (λ (bs : List ℕ). Q part bs) (sym same) right.3) rest.shared;
      }
    where
      either : (part k : ℕ) (xs bytes : List ℕ) → (part < k) ⊎ (k ≤ part) → part ≤ k → k < part + suc (length xs) → P part bytes → Q part bytes
          → ((j : ℕ) → suc part ≤ j → j < suc part + length xs → Shared P Q j) → Shared P Q k
      either part k xs bytes (inl later) low high p q rest = rest k (omega arith) (omega arith)
      either part k xs bytes (inr first) low high p q rest =
          let is : part ≡ k = omega arith in
          subst (λ (n : ℕ). Shared P Q n) is (bytes, p, q)

abbrev entry_of : ℕ → ℕ → BucketRecord
entry_of priority generation = record { priority = priority; generation = generation }

same_entry : (a b : BucketRecord) → a.priority ≡ b.priority → a.generation ≡ b.generation → a ≡ b
same_entry a b p q = ap (λ (n : ℕ). entry_of n a.generation) p ∙ ap (λ (n : ℕ). entry_of b.priority n) q

pub same_records : (g : Geometry) (xs ys : List BucketRecord) → length xs ≡ g.nbuckets → length ys ≡ g.nbuckets
    → ((k : ℕ) → k < sets_in_chain g → Shared (HoldsPart g xs) (HoldsPart g ys) k) → xs ≡ ys
same_records g xs ys long other shared = ext_get_or (record { priority = 0; generation = 0 }) xs ys (long ∙ sym other) each
  where
    each : (j : ℕ) → j < length xs → get_or xs j (record { priority = 0; generation = 0 }) ≡ get_or ys j (record { priority = 0; generation = 0 })
    each j inside =
        let many = (records_fit g).many in
        let some : zero < records_in_set g = omega arith in
        let part = j / records_in_set g in
        let i = j % records_in_set g in
        let reach = parts_reach g in
        let within : part < sets_in_chain g = (div-lt_iff_lt-mul some).1 (omega arith) in
        let set = shared part within in
        let here : part * records_in_set g + i ≡ j = div-add-mod' j (records_in_set g) in
        let small : i < records_in_set g = mod-lt j some in
        let none : BucketRecord = record { priority = 0; generation = 0 } in
        let x = set.1 i small (omega arith) none in
        let y = set.2 i small (omega arith) none in
        subst (λ (n : ℕ). get_or xs n none ≡ get_or ys n none) here (same_entry _ _ (sym x.0 ∙ y.0) (sym x.1 ∙ y.1))

abbrev gens_of : List BucketRecord → List ℕ → Gens
gens_of records chain = record { records = records; chain = chain }

pub same_gens : (a b : Gens) → a.records ≡ b.records → a.chain ≡ b.chain → a ≡ b
same_gens a b p q = ap (λ (xs : List BucketRecord). gens_of xs a.chain) p ∙ ap (λ (xs : List ℕ). gens_of b.records xs) q

pub one_chain : (g : Geometry) (d : DiskFacts) (image : Image) (first : ℕ) (a b : Gens) → d.holds ≡ Some image → IsChain g d first a → IsChain g d first b → a ≡ b
one_chain g d image first a b told x y =
    let count = x.count in
    let same = same_sets g d image told (HoldsPart g a.records) (HoldsPart g b.records) 0 first a.chain b.chain (x.count ∙ sym y.count) x.sets y.sets in
    same_gens a b (same_records g a.records b.records x.records y.records (λ k inside. same.shared k (omega arith) (omega arith))) same.chain
