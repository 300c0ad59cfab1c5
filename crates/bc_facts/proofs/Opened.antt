-- From the entries and the chain that the formats have to what the machine reads.
use Rattle.std.proofs.Common.{subst, ◌≡◌, ◌≢◌, inl, inr, ℕ, zero, suc, ◌+◌, ◌-◌, ◌*◌, ◌/◌, ◌<◌, ◌≤◌, List, [], ◌∷◌, ◌++◌, length, take, Some, refl, sym, ap, ◌∙◌, arith}
use Rattle.std.specs.Prelude.{AllPairs, Contains, map, slice_index_or}
use Rattle.std.proofs.Math.Nat.{mul-add, mul-zero}
use Rattle.bc_model.specs.Sector.{Image}
use Rattle.bc_disk.specs.Gens.{Gens}
use Rattle.bc_disk.specs.declared.geometry.Geometry.{Geometry}
use Rattle.bc_disk.specs.declared.gens.BucketRecord.{BucketRecord}
use Rattle.bc_record.specs.Kind.{Kind, sectors_of, behind}
use Rattle.bc_record.specs.Sectors.{bytes_to}
use Rattle.bc_jset.specs.Records.{entry_kind, EntryFound}
use Rattle.bc_jset.specs.Entries as jset
use Rattle.bc_jset.specs.Entries.{FoundEntry, StandsInJournal, bucket_start, bucket_end, first_with, AreNumbered}
use Rattle.bc_jset.proofs.Records.{entry_codec}
use Rattle.bc_jset.proofs.Entries.{found_number}
use Rattle.bc_disk.specs.Chain.{bucket_bytes}
use Rattle.bc_prio.specs.Set.{IsSet, next_in}
use Rattle.bc_prio.specs.Chain.{IsPlace}
use Rattle.bc_prio.specs.Records.{bucket_in, LeadIn, ChainIn}
use Rattle.bc_prio.proofs.Found.{one_chain_in}
use Rattle.bc_meta.specs.Facts.{In}
use Rattle.bc_meta.specs.Entries.{Entry, CountDown, AreEntries}
use Rattle.bc_meta.specs.Layout.{Layout, ring_entries}
use Rattle.bc_meta.specs.Chain.{Distinct, Leads, chain_in, prio_at}
use Rattle.bc_meta.proofs.Chains as chains
use Rattle.bc_facts.specs.Seen.{counted, seen_entry, seen_entries, seen_prio}
use Rattle.bc_facts.specs.Layout.{IsLayoutOf}
use Rattle.bc_facts.specs.Reads.{back, gens_of}
use Rattle.bc_facts.proofs.Lists.{put_all, IsSeen, seen_in, in_seen}
use Rattle.bc_facts.proofs.Journal.{listed, listed_is, ring_is, seen_found}
use Rattle.bc_facts.proofs.Made.{bucket_whole}
use Rattle.bc_facts.proofs.Chain as chain
use Rattle.bc_facts.proofs.Place.{of_seen, seen_of}
use Rattle.bc_facts.proofs.Stood.{Stood, all_in, contains_in, find_in, found_behind, numbered_first, stood, stood_within}

-- ---- entries

behind_block : {R : Type 0} (kind : Kind R) (p : ℕ) (rs : List R) → (k : ℕ) × (behind kind p rs ≡ p + kind.block * k)
behind_block kind p [] = (0, (let z = mul-zero kind.block in omega arith))
behind_block kind p (r ∷ rs) =
    let m = (kind.bytes r + (512 * kind.block - 1)) / (512 * kind.block) in
    let ih = behind_block kind (p + sectors_of kind r) rs in
    let both = mul-add kind.block m ih.0 in
    let is = ih.1 in
    (m + ih.0, omega (arith, is, both))

stands : (g : Geometry) (image : Image) (e : FoundEntry) → Stood g image g.journal e → StandsInJournal g image e
stands g image e s =
    let b = behind_block (entry_kind g) (bucket_start g s.bucket) s.before in
    let here = found_behind (entry_kind g) (entry_codec g) image (bucket_end g s.bucket) (bucket_start g s.bucket) s.before (e.item ∷ s.after) s.are in
    let lies = stood_within g image g.journal e s in
    (s.bucket, b.0, s.low, s.place ∙ b.1, subst (λ p. EntryFound g image (bucket_end g s.bucket) p e.item) (sym s.place) here.0, lies.1)

module _ (g : Geometry) (w : Layout) (layout : IsLayoutOf g w) (image : Image) (es : List FoundEntry) (a : jset.AreEntries g image es)
    (no_stray : (e : FoundEntry) → StandsInJournal g image e → a.newest.item.last_seq ≤ e.item.seq → Contains es e) where
  some_same : (d e : FoundEntry) → Some d ≡ Some e → d ≡ e
  some_same d e h = cc

  listed_in : (x : Entry) → In x (listed g a.all) → (f : FoundEntry) × In f a.all × (x ≡ seen_found g f)
  listed_in x i =
      let v : IsSeen (seen_found g) x a.all = elim (seen_in (seen_found g) a.all [] x i) [ inl k ↦ k | inr k ↦ absurd k ] in
      of_seen (seen_found g) x a.all v

  -- of the entries that count each number is found once
  first_is : (f : FoundEntry) → In f a.all → a.newest.item.last_seq ≤ f.item.seq → first_with f.item.seq a.all ≡ Some f
  first_is f i le =
      numbered_first a.all a.newest.item.last_seq (suc a.newest.item.seq) es f a.numbered
      (contains_in es f (no_stray f (stands g image f (stood g image g.journal a.all f a.stand i)) le))

  once : (x y : Entry) → In x (listed g a.all) → In y (listed g a.all) → a.newest.item.last_seq ≤ x.number → x.number ≡ y.number → x ≡ y
  once x y i j le same =
      let f = listed_in x i in
      let h = listed_in y j in
      let fx : x.number ≡ f.0.item.seq = ap (λ (z : Entry). z.number) f.2 in
      let hy : y.number ≡ h.0.item.seq = ap (λ (z : Entry). z.number) h.2 in
      let one : f.0 ≡ h.0 = some_same f.0 h.0 (sym (first_is f.0 f.1 (omega arith)) ∙ ap (λ n. first_with n a.all) (let e : f.0.item.seq ≡ h.0.item.seq = omega arith in e) ∙ first_is h.0 h.1 (omega arith)) in
      f.2 ∙ ap (seen_found g) one ∙ sym h.2

  numbered_down : (low next : ℕ) (xs : List FoundEntry) → a.newest.item.last_seq ≤ low → AreNumbered a.all low xs next → (acc : List Entry) → CountDown (listed g a.all) a.newest.item.last_seq acc low
      → CountDown (listed g a.all) a.newest.item.last_seq (put_all (seen_found g) xs acc) next
  numbered_down low next [] le h acc d = subst (λ (n : ℕ). CountDown (listed g a.all) a.newest.item.last_seq acc n) h d
  numbered_down low next (e ∷ xs) le h acc d =
      let number : e.item.seq ≡ low = found_number low a.all e h.0 in
      let there : In (seen_found g e) (listed g a.all) = in_seen (seen_found g) a.all [] (seen_found g e) (inl (seen_of (seen_found g) e a.all (find_in low a.all e h.0))) in
      numbered_down (suc low) next xs (omega arith) h.1 (seen_found g e ∷ acc)
      (ap suc number, omega arith, there, (λ x i n. once x (seen_found g e) i there (omega arith) n), subst (λ (n : ℕ). CountDown (listed g a.all) a.newest.item.last_seq acc n) (sym number) d)

  pub record Opened : Type 0 where
    pub older : List Entry
    pub seen : seen_entries g es ≡ seen_entry g a.newest.item ∷ older
    pub are : AreEntries (ring_entries w image w.journal) (seen_entry g a.newest.item) older

  there_is : In (seen_found g a.newest) (listed g a.all)
  there_is = in_seen (seen_found g) a.all [] (seen_found g a.newest) (inl (seen_of (seen_found g) a.newest a.all (find_in a.newest.item.seq a.all a.newest a.is_newest.counts)))

  low_all : (x : Entry) → In x (listed g a.all) → x.number ≤ a.newest.item.seq
  low_all x i =
      let f = listed_in x i in
      let n : x.number ≡ f.0.item.seq = ap (λ (z : Entry). z.number) f.2 in
      let le = all_in (λ (e : FoundEntry). e.item.seq ≤ a.newest.item.seq) a.all f.0 a.is_newest.greatest f.1 in
      omega arith

  head_is : (l : List Entry) → CountDown (listed g a.all) a.newest.item.last_seq l (suc a.newest.item.seq) → (older : List Entry) × (l ≡ seen_entry g a.newest.item ∷ older)
  head_is [] d = let reach = a.reaches in absurd (omega arith)
  head_is (x ∷ xs) d = let n = d.0 in let reach = a.reaches in (xs, ap (λ (y : Entry). y ∷ xs) (sym (d.3 (seen_found g a.newest) there_is (omega arith))))

  pub opened_entries : Opened
  opened_entries =
      let d = numbered_down a.newest.item.last_seq (suc a.newest.item.seq) es (omega arith) a.numbered [] refl in
      let r = head_is (listed g es) d in
      record {
        older = r.0;
        seen = sym (listed_is g es) ∙ r.1;
        are = subst (λ (l : List Entry). AreEntries l (seen_entry g a.newest.item) r.0) (sym (ap (ring_entries w image) layout.journal ∙ ring_is g w layout image g.journal a.all a.stand))
            (record { greatest = low_all; down = subst (λ (l : List Entry). CountDown (listed g a.all) a.newest.item.last_seq l (suc a.newest.item.seq)) r.1 d });
      }

-- ---- the chain

module _ (g : Geometry) (w : Layout) (layout : IsLayoutOf g w) (image : Image) where
  turned : (q : ℕ) → IsPlace g q → back g (counted g q) ≡ q
  turned q is = let low = is.0 in omega (arith, low)

  prio_there : (part q : ℕ) → IsPlace g q → IsSet g part (bucket_in g image q) → prio_at w image part (counted g q) ≡ Some (seen_prio g part (bucket_in g image q))
  prio_there part q is set =
      let there = turned q is in
      let place : w.first (counted g q) ≡ g.bucket * q = layout.first (counted g q) ∙ ap (λ n. g.bucket * n) there in
      let end : w.first (counted g q) + w.bucket_sectors ≡ g.bucket * q + g.bucket = let s = layout.bucket_sectors in omega (arith, place, s) in
      let long = bucket_whole g in
      let bytes : take (bucket_bytes g) (bytes_to image (w.first (counted g q) + w.bucket_sectors) (w.first (counted g q))) ≡ bucket_in g image q =
      ap (λ n. take (bucket_bytes g) (bytes_to image n (w.first (counted g q)))) end
      ∙ ap (λ n. take (bucket_bytes g) (bytes_to image (g.bucket * q + g.bucket) n)) place
      ∙ chain.bucket_bytes_in g image q in
      (layout.prios.found image part (w.first (counted g q) + w.bucket_sectors) (w.first (counted g q)) (seen_prio g part (bucket_in g image q))).1
      (bucket_in g image q, ((set, bytes), omega (arith, place, end, long)), refl)

  pub record Back (part from : ℕ) (qs : List ℕ) : Type 0 where
    pub gens : List ℕ
    pub leads : Leads w image part (counted g from) (map (counted g) qs) gens 0
    pub same : map (back g) (map (counted g) qs) ≡ qs

  leads_back : (records : List BucketRecord) (part from : ℕ) (qs : List ℕ) → LeadIn g image records part from qs 0 → Back part from qs
  leads_back records part from [] h = record { gens = []; leads = (ap (counted g) h ∙ (let z : 0 - g.first_bucket ≡ 0 = omega arith in z), refl); same = refl }
  leads_back records part from (q ∷ qs) h =
      let f = h.2.1 in
      let rest = leads_back records (suc part) (next_in (bucket_in g image q)) qs (subst (λ n. LeadIn g image records (suc part) n qs 0) (sym f.names) h.2.2) in
      let low = h.1.0 in
      let high = h.1.1 in
      let j = layout.journal in
      let b = layout.buckets in
      record {
        gens = (seen_prio g part (bucket_in g image q)).gens ++ rest.gens;
        leads = (
          ap (counted g) h.0,
          chains.is_placed w (counted g q) (omega (arith, low, j)) (omega (arith, low, high, b)),
          (seen_prio g part (bucket_in g image q), prio_there part q h.1 f.set, (rest.gens, refl, rest.leads)),
        );
        same = ap (λ n. n ∷ map (back g) (map (counted g) qs)) (turned q h.1) ∙ ap (λ (l : List ℕ). q ∷ l) rest.same;
      }

  in_counted : (qs : List ℕ) (n : ℕ) → In n (map (counted g) qs) → (k : ℕ) × (k < length qs) × ((d : ℕ) → n ≡ counted g (slice_index_or qs k d))
  in_counted [] n i = absurd i
  in_counted (q ∷ qs) n (inl e) = (0, omega arith, (λ d. e))
  in_counted (q ∷ qs) n (inr i) = let k = in_counted qs n i in (suc k.0, (let lt = k.1 in omega arith), k.2)

  distinct : (records : List BucketRecord) (part from : ℕ) (qs : List ℕ) → LeadIn g image records part from qs 0 → AllPairs (λ a b. a ≢ b) qs → Distinct (map (counted g) qs)
  distinct records part from [] h apart = tt
  distinct records part from (q ∷ qs) h apart = (
    (λ i. (let k = in_counted qs (counted g q) i in
        let p = places records (suc part) h.2.0 qs h.2.2 k.0 0 k.1 in
        let low = h.1.0 in
        let also = p.0 in
        let same = k.2 0 in
        apart 0 (suc k.0) 0 (omega arith) (let lt = k.1 in omega arith) (omega (arith, low, also, same)))),
    distinct records (suc part) h.2.0 qs h.2.2 (λ i j d lt inside. apart (suc i) (suc j) d (omega arith) (omega arith)),
  )
    where
      places : (records : List BucketRecord) (part from : ℕ) (qs : List ℕ) → LeadIn g image records part from qs 0 → (k d : ℕ) → k < length qs → IsPlace g (slice_index_or qs k d)
      places records part from [] h k d lt = absurd (omega arith)
      places records part from (q ∷ qs) h zero d lt = h.1
      places records part from (q ∷ qs) h (suc k) d lt = places records (suc part) h.2.0 qs h.2.2 k d (omega arith)

  long_counted : (qs : List ℕ) → length (map (counted g) qs) ≡ length qs
  long_counted [] = refl
  long_counted (q ∷ qs) = ap suc (long_counted qs)

  pub record OpenedChain (first : ℕ) (gens : Gens) : Type 0 where
    pub found : chain_in w image (counted g first) ≡ Some (record { buckets = map (counted g) gens.chain; gens = gens_of gens.records })
    pub apart : Distinct (map (counted g) gens.chain)
    pub same : map (back g) (map (counted g) gens.chain) ≡ gens.chain

  pub opened_chain : 0 < g.journal → (first : ℕ) (gens : Gens) → ChainIn g image first gens → OpenedChain first gens
  opened_chain some first gens are =
      let b = leads_back gens.records 0 first gens.chain are.sets in
      let apart = distinct gens.records 0 first gens.chain are.sets are.distinct in
      let found : chain_in w image (counted g first) ≡ Some (record { buckets = map (counted g) gens.chain; gens = b.gens }) =
      (chains.law_chain w image (counted g first) (record { buckets = map (counted g) gens.chain; gens = b.gens })).1
      (b.leads, long_counted gens.chain ∙ are.count ∙ sym layout.chain_sets) in
      let again = chain.read_chain g w layout image some first (map (counted g) gens.chain) b.gens apart found in
      let one : again.found ≡ gens = one_chain_in g image first again.found gens again.are are in
      let said : b.gens ≡ gens_of gens.records = sym again.gens_are ∙ ap (λ (x : Gens). gens_of x.records) one in
      record {
        found = found ∙ ap (λ (l : List ℕ). Some (record { buckets = map (counted g) gens.chain; gens = l })) said;
        apart = apart;
        same = b.same;
      }
