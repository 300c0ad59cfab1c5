-- Sets that are found in an image, and the chain of them.
use Rattle.std.proofs.Common.{◌≡◌, ◌≢◌, ◌⊎◌, inl, inr, ℕ, suc, ◌+◌, ◌-◌, ◌*◌, ◌<◌, ◌≤◌, List, [], ◌∷◌, ◌++◌, length, Some, refl, sym, subst, ap, ◌∙◌, arith}
use Rattle.std.specs.Prelude.{Option, Contains}
use Rattle.std.proofs.lemmas.Bool.{cases_lt}
use Rattle.bc_bytes.specs.Fields.{number_at}
use Rattle.bc_model.specs.Sector.{Image, Gives, values_of}
use Rattle.bc_model.specs.Pattern.{zeros}
use Rattle.bc_disk.specs.Disk.{DiskFacts, IfTold}
use Rattle.bc_disk.specs.Gens.{Gens}
use Rattle.bc_disk.specs.declared.geometry.Geometry.{Geometry}
use Rattle.bc_disk.specs.declared.gens.BucketRecord.{BucketRecord}
use Rattle.bc_record.specs.Sectors.{Has, AgreeOn, bytes_in, sector_bytes}
use Rattle.bc_record.proofs.Parts.{bytes_in-agree, bytes_in-has}
use Rattle.bc_prio.specs.Set.{IsSet, HoldsPart, HasCount, IsWrittenSet, magic_of, next_in}
use Rattle.bc_prio.specs.Chain.{IsChain, Leads}
use Rattle.bc_prio.specs.Records.{bucket_in, SetFound, LeadIn, ChainIn}
use Rattle.bc_prio.proofs.Unique.{Shared, SameSets, same_records, same_gens}

-- one set at most is found in a bucket
pub one_next : (g : Geometry) (image : Image) (bucket part p q : ℕ) (xs ys : List BucketRecord) → SetFound g image bucket part p xs → SetFound g image bucket part q ys → p ≡ q
one_next g image bucket part p q xs ys a b = sym a.names ∙ b.names

-- of a set whose bytes these are
found_by : (g : Geometry) (image : Image) (bucket part : ℕ) (bytes : List ℕ) (records : List BucketRecord) → bucket_in g image bucket ≡ bytes → IsSet g part bytes → HoldsPart g records part bytes → SetFound g image bucket part (next_in bytes) records
found_by g image bucket part bytes records same set holds = record {
  set = subst (λ (bs : List ℕ). IsSet g part bs) (sym same) set;
  names = ap next_in same;
  holds = subst (λ (bs : List ℕ). HoldsPart g records part bs) (sym same) holds;
}

pub set_stays : (g : Geometry) (a b : Image) (bucket part next : ℕ) (records : List BucketRecord) → SetFound g a bucket part next records → AgreeOn a b (g.bucket * bucket) (g.bucket * bucket + g.bucket)
    → SetFound g b bucket part next records
set_stays g a b bucket part next records found same =
    let bytes = bytes_in-agree a b (g.bucket * bucket) g.bucket same in
    record {
      set = subst (λ (bs : List ℕ). IsSet g part bs) bytes found.set;
      names = ap next_in (sym bytes) ∙ found.names;
      holds = subst (λ (bs : List ℕ). HoldsPart g records part bs) bytes found.holds;
    }

-- what was written is found, as far as it names a next set where it is not the last
pub set_reads_back : (g : Geometry) (image : Image) (bucket part next : ℕ) (bytes : List ℕ) (records : List BucketRecord) → IsWrittenSet g records part next bytes → HasCount g part bytes → Has image (g.bucket * bucket) (values_of bytes)
    → SetFound g image bucket part next records
set_reads_back g image bucket part next bytes records written count has =
    let same = bytes_in-has image (g.bucket * bucket) g.bucket bytes written.whole has in
    let set : IsSet g part bytes = record { whole = written.whole; magic = written.magic; checksum = written.checksum; count = count } in
    subst (λ n. SetFound g image bucket part n records) written.names (found_by g image bucket part bytes records same set written.holds)

-- the magic would be zero
pub none_in_zeros : (g : Geometry) (image : Image) (bucket part next : ℕ) (records : List BucketRecord) → magic_of g ≢ 0 → image (g.bucket * bucket) ≡ zeros → SetFound g image bucket part next records → ⊥
unfolding bytes_in number_at zeros
none_in_zeros g image bucket part next records some is found =
    let place = g.bucket * bucket in
    let from = g.bucket_from in
    let more : g.bucket ≡ suc (g.bucket - 1) = omega (arith, from) in
    let bytes : bucket_in g image bucket ≡ sector_bytes zeros ++ bytes_in image (suc place) (g.bucket - 1) =
    ap (bytes_in image place) more ∙ ap (λ v. sector_bytes v ++ bytes_in image (suc place) (g.bucket - 1)) is in
    some (sym found.set.magic ∙ ap (λ (bs : List ℕ). number_at 8 bs 8) bytes)

-- ---- the chain

-- a chain on a disk is one in what it holds
leads_in : (g : Geometry) (d : DiskFacts) (image : Image) (records : List BucketRecord) (part from to : ℕ) (chain : List ℕ) → d.holds ≡ Some image → Leads g d (HoldsPart g records) part from chain to → LeadIn g image records part from chain to
leads_in g d image records part from to [] told p = p
leads_in g d image records part from to (bucket ∷ chain) told p =
    let bytes = p.2 in
    let has : Has image (g.bucket * bucket) (values_of bytes.0) = subst (λ (o : Option Image). IfTold o (λ held. Gives (g.bucket * bucket) (values_of bytes.0) (λ s v. v ≡ held s))) told bytes.1.read in
    let same = bytes_in-has image (g.bucket * bucket) g.bucket bytes.0 bytes.1.whole has in
    (p.0, p.1, (next_in bytes.0, found_by g image bucket part bytes.0 records same bytes.2 bytes.3, leads_in g d image records (suc part) (next_in bytes.0) to chain told bytes.4))

pub chain_in : (g : Geometry) (d : DiskFacts) (image : Image) (first : ℕ) (gens : Gens) → d.holds ≡ Some image → IsChain g d first gens → ChainIn g image first gens
chain_in g d image first gens told p = record {
  sets = leads_in g d image gens.records 0 first 0 gens.chain told p.sets;
  distinct = p.distinct;
  count = p.count;
  records = p.records;
}

lead_stays : (g : Geometry) (a b : Image) (records : List BucketRecord) (part from to : ℕ) (chain : List ℕ) → ((bucket : ℕ) → Contains chain bucket → AgreeOn a b (g.bucket * bucket) (g.bucket * bucket + g.bucket))
    → LeadIn g a records part from chain to → LeadIn g b records part from chain to
lead_stays g a b records part from to [] same p = p
lead_stays g a b records part from to (bucket ∷ chain) same p =
    let here = p.2 in
    (p.0, p.1, (here.0, set_stays g a b bucket part here.0 records here.1 (same bucket (0, omega arith, refl)), lead_stays g a b records (suc part) here.0 to chain (λ q inside. same q (suc inside.0, omega (arith, inside.1), inside.2)) here.2))

pub chain_stays : (g : Geometry) (a b : Image) (first : ℕ) (gens : Gens) → ChainIn g a first gens → ((bucket : ℕ) → Contains gens.chain bucket → AgreeOn a b (g.bucket * bucket) (g.bucket * bucket + g.bucket)) → ChainIn g b first gens
chain_stays g a b first gens p same = record {
  sets = lead_stays g a b gens.records 0 first 0 gens.chain same p.sets;
  distinct = p.distinct;
  count = p.count;
  records = p.records;
}

module _ (g : Geometry) (image : Image) (rs ss : List BucketRecord) where
  same_lead : (part from : ℕ) (xs ys : List ℕ) → length xs ≡ length ys → LeadIn g image rs part from xs 0 → LeadIn g image ss part from ys 0 → SameSets (HoldsPart g rs) (HoldsPart g ss) part xs ys
  same_lead part from [] [] long a b = record { chain = refl; shared = λ k low high. absurd (omega arith) }
  same_lead part from [] (y ∷ ys) long a b = absurd (omega arith)
  same_lead part from (x ∷ xs) [] long a b = absurd (omega arith)
  same_lead part from (x ∷ xs) (y ∷ ys) long a b =
      let here : x ≡ y = sym a.0 ∙ b.0 in
      let left = a.2 in
      let right = b.2 in
      let found = subst (λ (n : ℕ). SetFound g image n part right.0 ss) (sym here) right.1 in
      let next : left.0 ≡ right.0 = one_next g image x part left.0 right.0 rs ss left.1 found in
      let rest = same_lead (suc part) left.0 xs ys (omega arith) left.2 (subst (λ (n : ℕ). LeadIn g image ss (suc part) n ys 0) (sym next) right.2) in
      record {
        chain = ap (λ (n : ℕ). n ∷ xs) here ∙ ap (λ (zs : List ℕ). y ∷ zs) rest.chain;
        shared = λ k low high. either part k xs (bucket_in g image x) (cases_lt part k) low high left.1.holds found.holds rest.shared;
      }
    where
      either : (part k : ℕ) (xs bytes : List ℕ) → (part < k) ⊎ (k ≤ part) → part ≤ k → k < part + suc (length xs) → HoldsPart g rs part bytes → HoldsPart g ss part bytes
          → ((j : ℕ) → suc part ≤ j → j < suc part + length xs → Shared (HoldsPart g rs) (HoldsPart g ss) j) → Shared (HoldsPart g rs) (HoldsPart g ss) k
      either part k xs bytes (inl later) low high p q rest = rest k (omega arith) (omega arith)
      either part k xs bytes (inr first) low high p q rest =
          let is : part ≡ k = omega arith in
          subst (λ (n : ℕ). Shared (HoldsPart g rs) (HoldsPart g ss) n) is (bytes, p, q)

pub one_chain_in : (g : Geometry) (image : Image) (first : ℕ) (a b : Gens) → ChainIn g image first a → ChainIn g image first b → a ≡ b
one_chain_in g image first a b x y =
    let count = x.count in
    let same = same_lead g image a.records b.records 0 first a.chain b.chain (x.count ∙ sym y.count) x.sets y.sets in
    same_gens a b (same_records g a.records b.records x.records y.records (λ k inside. same.shared k (omega arith) (omega arith))) same.chain
