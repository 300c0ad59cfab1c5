-- A chain that is found isn't refused, and one that is refused is so for one reason.
use Rattle.std.proofs.Common.{◌≡◌, ◌≢◌, ◌⊎◌, inl, inr, ℕ, suc, ◌+◌, ◌*◌, ◌<◌, ◌≤◌, List, [], ◌∷◌, ◌++◌, length, refl, sym, subst, ap, ◌∙◌, arith}
use Rattle.std.specs.Prelude.{AllPairs, Contains, slice_index_or, Option, Some}
use Rattle.std.proofs.lemmas.Bool.{cases_lt}
use Rattle.std.proofs.lemmas.List.{get_or_default, get_or_append_left, length-append}
use Rattle.bc_model.specs.Sector.{Image, Gives, values_of}
use Rattle.bc_disk.specs.Disk.{DiskFacts, IfTold}
use Rattle.bc_disk.specs.Gens.{Gens}
use Rattle.bc_disk.specs.declared.geometry.Geometry.{Geometry}
use Rattle.bc_disk.specs.declared.gens.BucketRecord.{BucketRecord}
use Rattle.bc_prio.specs.declared.error.PrioError.{PrioError}
use Rattle.bc_prio.specs.declared.error.PrioError.TheVariants as errors
use Rattle.bc_prio.specs.Set.{IsSet, IsWrong, next_in}
use Rattle.bc_record.specs.Sectors.{Has}
use Rattle.bc_record.proofs.Parts.{bytes_in-has}
use Rattle.bc_prio.specs.Chain.{IsPlace, IsInBucket, Leads}
use Rattle.bc_prio.specs.Refusal.{IsFresh, IsMisplaced, StandsWrong, IsCause, IsRefused}
use Rattle.bc_prio.specs.Records.{bucket_in, LeadIn, ChainIn, WholeIn, IsCauseIn, RefusedIn}

lead_whole : (g : Geometry) (image : Image) (records : List BucketRecord) (part from to : ℕ) (chain : List ℕ) → LeadIn g image records part from chain to → WholeIn g image part from chain to
lead_whole g image records part from to [] p = p
lead_whole g image records part from to (bucket ∷ chain) p =
    let found = p.2.1 in
    (p.0, p.1, found.set, lead_whole g image records (suc part) (next_in (bucket_in g image bucket)) to chain (subst (λ (n : ℕ). LeadIn g image records (suc part) n chain to) (sym found.names) p.2.2))

-- of two ways from one bucket the longer one goes on where the shorter one ends
pub record GoesOn (g : Geometry) (image : Image) (part at : ℕ) (xs ys : List ℕ) : Type 0 where
  pub rest : List ℕ
  pub parts : ys ≡ xs ++ at ∷ rest
  pub place : IsPlace g at
  pub set : IsSet g (part + length xs) (bucket_in g image at)

goes_on : (g : Geometry) (image : Image) (part from at to : ℕ) (xs ys : List ℕ) → length xs < length ys → WholeIn g image part from xs at → WholeIn g image part from ys to → GoesOn g image part at xs ys
goes_on g image part from at to [] [] less p q = absurd (omega arith)
goes_on g image part from at to (x ∷ xs) [] less p q = absurd (omega arith)
goes_on g image part from at to [] (y ∷ ys) less p q =
    let here : y ≡ at = sym q.0 ∙ p in
    record {
      rest = ys;
      parts = ap (λ (n : ℕ). n ∷ ys) here;
      place = subst (IsPlace g) here q.1;
      set = subst (λ (n : ℕ). IsSet g n (bucket_in g image at)) (let none : part ≡ part + 0 = omega arith in none) (subst (λ (n : ℕ). IsSet g part (bucket_in g image n)) here q.2);
    }
goes_on g image part from at to (x ∷ xs) (y ∷ ys) less p q =
    let here : y ≡ x = sym q.0 ∙ p.0 in
    let there : WholeIn g image (suc part) (next_in (bucket_in g image x)) ys to = subst (λ (n : ℕ). WholeIn g image (suc part) (next_in (bucket_in g image n)) ys to) here q.3 in
    let on = goes_on g image (suc part) (next_in (bucket_in g image x)) at to xs ys (omega (arith, less)) p.3 there in
    record {
      rest = on.rest;
      parts = ap (λ (n : ℕ). n ∷ ys) here ∙ ap (λ (zs : List ℕ). x ∷ zs) on.parts;
      place = on.place;
      set = subst (λ (n : ℕ). IsSet g n (bucket_in g image at)) (let more : suc part + length xs ≡ part + suc (length xs) = omega arith in more) on.set;
    }

-- what stands in a way isn't wrong
no_wrong : (g : Geometry) (part : ℕ) (bytes : List ℕ) (error : PrioError) → IsSet g part bytes → IsWrong g part bytes error → ⊥
no_wrong g part bytes errors.Magic set wrong = wrong set.magic
no_wrong g part bytes errors.Checksum set wrong = wrong.1 set.checksum
no_wrong g part bytes errors.Count set wrong = wrong.2 set.count
no_wrong g part bytes errors.Range set wrong = wrong
no_wrong g part bytes errors.Cycle set wrong = wrong
no_wrong g part bytes errors.Fault set wrong = wrong
no_wrong g part bytes errors.Memory set wrong = wrong

no_misplaced : (g : Geometry) (chain : List ℕ) (at : ℕ) (error : PrioError) → IsFresh g chain at → IsMisplaced g chain at error → ⊥
no_misplaced g chain at errors.Range fresh wrong = wrong fresh.0
no_misplaced g chain at errors.Cycle fresh wrong = fresh.1 wrong.1
no_misplaced g chain at errors.Magic fresh wrong = wrong
no_misplaced g chain at errors.Checksum fresh wrong = wrong
no_misplaced g chain at errors.Count fresh wrong = wrong
no_misplaced g chain at errors.Fault fresh wrong = wrong
no_misplaced g chain at errors.Memory fresh wrong = wrong

-- what comes behind different buckets in a row of different ones isn't among them
not_again : (xs rest ys : List ℕ) (at : ℕ) → AllPairs (λ a b. a ≢ b) ys → ys ≡ xs ++ at ∷ rest → Contains xs at → ⊥
not_again xs rest ys at distinct parts again =
    let both = subst (λ (zs : List ℕ). AllPairs (λ a b. a ≢ b) zs) parts distinct in
    let inside = again.1 in
    both again.0 (length xs) at inside (omega (arith, length-append xs (at ∷ rest))) (get_or_append_left xs (at ∷ rest) at again.0 inside ∙ again.2 ∙ sym (middle xs))
  where
    middle : (zs : List ℕ) → slice_index_or (zs ++ at ∷ rest) (length zs) at ≡ at
    middle [] = refl
    middle (z ∷ zs) = middle zs

no_cause : (g : Geometry) (image : Image) (xs ys : List ℕ) (at : ℕ) (error : PrioError) → AllPairs (λ a b. a ≢ b) ys → GoesOn g image 0 at xs ys → IsCauseIn g image xs at error → ⊥
no_cause g image xs ys at error distinct on (inl misplaced) = no_misplaced g xs at error (on.place, not_again xs on.rest ys at distinct on.parts) misplaced
no_cause g image xs ys at error distinct on (inr wrong) =
    no_wrong g (length xs) (bucket_in g image at) error (subst (λ (n : ℕ). IsSet g n (bucket_in g image at)) (let none : 0 + length xs ≡ length xs = omega arith in none) on.set) wrong.1

pub never_both : (g : Geometry) (image : Image) (first : ℕ) (gens : Gens) (error : PrioError) → ChainIn g image first gens → RefusedIn g image first error → ⊥
never_both g image first gens error found refused =
    let count = found.count in
    let few = refused.few in
    no_cause g image refused.chain gens.chain refused.at error found.distinct
    (goes_on g image 0 first refused.at 0 refused.chain gens.chain (omega (arith, count, few)) refused.sets (lead_whole g image gens.records 0 first 0 gens.chain found.sets)) refused.cause

-- ---- one reason

pub record SameWay (a b : ℕ) (xs ys : List ℕ) : Type 0 where
  pub at : a ≡ b
  pub chain : xs ≡ ys

same_way : (g : Geometry) (image : Image) (part from a b : ℕ) (xs ys : List ℕ) → length xs ≡ length ys → WholeIn g image part from xs a → WholeIn g image part from ys b → SameWay a b xs ys
same_way g image part from a b [] [] long p q = record { at = sym p ∙ q; chain = refl }
same_way g image part from a b [] (y ∷ ys) long p q = absurd (omega arith)
same_way g image part from a b (x ∷ xs) [] long p q = absurd (omega arith)
same_way g image part from a b (x ∷ xs) (y ∷ ys) long p q =
    let here : y ≡ x = sym q.0 ∙ p.0 in
    let there : WholeIn g image (suc part) (next_in (bucket_in g image x)) ys b = subst (λ (n : ℕ). WholeIn g image (suc part) (next_in (bucket_in g image n)) ys b) here q.3 in
    let rest = same_way g image (suc part) (next_in (bucket_in g image x)) a b xs ys (omega (arith, long)) p.3 there in
    record { at = rest.at; chain = ap (λ (n : ℕ). n ∷ xs) (sym here) ∙ ap (λ (zs : List ℕ). y ∷ zs) rest.chain }

one_misplaced : (g : Geometry) (chain : List ℕ) (at : ℕ) (e f : PrioError) → IsMisplaced g chain at e → IsMisplaced g chain at f → e ≡ f
one_misplaced g chain at errors.Range errors.Range p q = refl
one_misplaced g chain at errors.Range errors.Cycle p q = absurd (p q.0)
one_misplaced g chain at errors.Cycle errors.Range p q = absurd (q p.0)
one_misplaced g chain at errors.Cycle errors.Cycle p q = refl
one_misplaced g chain at errors.Range errors.Magic p q = absurd q
one_misplaced g chain at errors.Range errors.Checksum p q = absurd q
one_misplaced g chain at errors.Range errors.Count p q = absurd q
one_misplaced g chain at errors.Range errors.Fault p q = absurd q
one_misplaced g chain at errors.Range errors.Memory p q = absurd q
one_misplaced g chain at errors.Cycle errors.Magic p q = absurd q
one_misplaced g chain at errors.Cycle errors.Checksum p q = absurd q
one_misplaced g chain at errors.Cycle errors.Count p q = absurd q
one_misplaced g chain at errors.Cycle errors.Fault p q = absurd q
one_misplaced g chain at errors.Cycle errors.Memory p q = absurd q
one_misplaced g chain at errors.Magic f p q = absurd p
one_misplaced g chain at errors.Checksum f p q = absurd p
one_misplaced g chain at errors.Count f p q = absurd p
one_misplaced g chain at errors.Fault f p q = absurd p
one_misplaced g chain at errors.Memory f p q = absurd p

one_wrong : (g : Geometry) (part : ℕ) (bytes : List ℕ) (e f : PrioError) → IsWrong g part bytes e → IsWrong g part bytes f → e ≡ f
one_wrong g part bytes errors.Magic errors.Magic p q = refl
one_wrong g part bytes errors.Magic errors.Checksum p q = absurd (p q.0)
one_wrong g part bytes errors.Magic errors.Count p q = absurd (p q.0)
one_wrong g part bytes errors.Checksum errors.Magic p q = absurd (q p.0)
one_wrong g part bytes errors.Checksum errors.Checksum p q = refl
one_wrong g part bytes errors.Checksum errors.Count p q = absurd (p.1 q.1)
one_wrong g part bytes errors.Count errors.Magic p q = absurd (q p.0)
one_wrong g part bytes errors.Count errors.Checksum p q = absurd (q.1 p.1)
one_wrong g part bytes errors.Count errors.Count p q = refl
one_wrong g part bytes errors.Magic errors.Range p q = absurd q
one_wrong g part bytes errors.Magic errors.Cycle p q = absurd q
one_wrong g part bytes errors.Magic errors.Fault p q = absurd q
one_wrong g part bytes errors.Magic errors.Memory p q = absurd q
one_wrong g part bytes errors.Checksum errors.Range p q = absurd q
one_wrong g part bytes errors.Checksum errors.Cycle p q = absurd q
one_wrong g part bytes errors.Checksum errors.Fault p q = absurd q
one_wrong g part bytes errors.Checksum errors.Memory p q = absurd q
one_wrong g part bytes errors.Count errors.Range p q = absurd q
one_wrong g part bytes errors.Count errors.Cycle p q = absurd q
one_wrong g part bytes errors.Count errors.Fault p q = absurd q
one_wrong g part bytes errors.Count errors.Memory p q = absurd q
one_wrong g part bytes errors.Range f p q = absurd p
one_wrong g part bytes errors.Cycle f p q = absurd p
one_wrong g part bytes errors.Fault f p q = absurd p
one_wrong g part bytes errors.Memory f p q = absurd p

one_cause_in : (g : Geometry) (image : Image) (chain : List ℕ) (at : ℕ) (e f : PrioError) → IsCauseIn g image chain at e → IsCauseIn g image chain at f → e ≡ f
one_cause_in g image chain at e f (inl p) (inl q) = one_misplaced g chain at e f p q
one_cause_in g image chain at e f (inl p) (inr q) = absurd (no_misplaced g chain at e q.0 p)
one_cause_in g image chain at e f (inr p) (inl q) = absurd (no_misplaced g chain at f p.0 q)
one_cause_in g image chain at e f (inr p) (inr q) = one_wrong g (length chain) (bucket_in g image at) e f p.1 q.1

not_shorter : (g : Geometry) (image : Image) (first : ℕ) (e f : PrioError) (p : RefusedIn g image first e) (q : RefusedIn g image first f) → length p.chain < length q.chain → ⊥
not_shorter g image first e f p q less =
    no_cause g image p.chain q.chain p.at e q.distinct (goes_on g image 0 first p.at q.at p.chain q.chain less p.sets q.sets) p.cause

pub one_cause : (g : Geometry) (image : Image) (first : ℕ) (e f : PrioError) → RefusedIn g image first e → RefusedIn g image first f → e ≡ f
one_cause g image first e f p q = elim (cases_lt (length p.chain) (length q.chain)) [
  | inl less ↦ absurd (not_shorter g image first e f p q less)
  | inr le ↦ elim (cases_lt (length q.chain) (length p.chain)) [
    | inl less ↦ absurd (not_shorter g image first f e q p less)
    | inr ge ↦
        let same = same_way g image 0 first q.at p.at q.chain p.chain (omega (arith, le, ge)) q.sets p.sets in
        one_cause_in g image p.chain p.at e f p.cause (subst (λ (n : ℕ). IsCauseIn g image p.chain n f) same.at (subst (λ (zs : List ℕ). IsCauseIn g image zs q.at f) same.chain q.cause))
  ]
]

-- ---- of a disk that tells what it holds

bytes_are : (g : Geometry) (d : DiskFacts) (image : Image) (bucket : ℕ) (bytes : List ℕ) → d.holds ≡ Some image → IsInBucket g d bucket bytes → bucket_in g image bucket ≡ bytes
bytes_are g d image bucket bytes told there =
    let has : Has image (g.bucket * bucket) (values_of bytes) = subst (λ (o : Option Image). IfTold o (λ held. Gives (g.bucket * bucket) (values_of bytes) (λ s v. v ≡ held s))) told there.read in
    bytes_in-has image (g.bucket * bucket) g.bucket bytes there.whole has

whole_in : (g : Geometry) (d : DiskFacts) (image : Image) (part from to : ℕ) (chain : List ℕ) → d.holds ≡ Some image → Leads g d (λ _ _. Unit {0}) part from chain to → WholeIn g image part from chain to
whole_in g d image part from to [] told p = p
whole_in g d image part from to (bucket ∷ chain) told p =
    let bytes = p.2 in
    let same : bytes.0 ≡ bucket_in g image bucket = sym (bytes_are g d image bucket bytes.0 told bytes.1) in
    let rest = whole_in g d image (suc part) (next_in bytes.0) to chain told bytes.4 in
    (p.0, p.1, subst (λ (bs : List ℕ). IsSet g part bs) same bytes.2, subst (λ (bs : List ℕ). WholeIn g image (suc part) (next_in bs) chain to) same rest)

wrong_in : (g : Geometry) (d : DiskFacts) (image : Image) (chain : List ℕ) (at : ℕ) (e : PrioError) → d.holds ≡ Some image → StandsWrong g d chain at e → IsCauseIn g image chain at e
wrong_in g d image chain at e told p =
    let stands = p.1 in
    inr (p.0, subst (λ (bs : List ℕ). IsWrong g (length chain) bs e) (sym (bytes_are g d image at stands.0 told stands.1)) stands.2)

cause_in : (g : Geometry) (d : DiskFacts) (image : Image) (chain : List ℕ) (at : ℕ) (e : PrioError) → d.holds ≡ Some image → e ≢ errors.Fault → e ≢ errors.Memory → IsCause g d chain at e → IsCauseIn g image chain at e
cause_in g d image chain at errors.Range told fault memory p = inl p
cause_in g d image chain at errors.Cycle told fault memory p = inl p
cause_in g d image chain at errors.Magic told fault memory p = wrong_in g d image chain at errors.Magic told p
cause_in g d image chain at errors.Checksum told fault memory p = wrong_in g d image chain at errors.Checksum told p
cause_in g d image chain at errors.Count told fault memory p = wrong_in g d image chain at errors.Count told p
cause_in g d image chain at errors.Fault told fault memory p = absurd (fault refl)
cause_in g d image chain at errors.Memory told fault memory p = absurd (memory refl)

pub refused_in : (g : Geometry) (old new : DiskFacts) (image : Image) (first : ℕ) (e : PrioError) → old.holds ≡ Some image → e ≢ errors.Fault → e ≢ errors.Memory → IsRefused g old new first e → RefusedIn g image first e
refused_in g old new image first e told fault memory p = record {
  chain = p.chain;
  at = p.at;
  sets = whole_in g old image 0 first p.at p.chain told p.sets;
  distinct = p.distinct;
  few = p.few;
  cause = cause_in g old image p.chain p.at e told fault memory p.cause;
}
