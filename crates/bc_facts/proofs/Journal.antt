-- The entries of an image, as the format has them and as the machine does.
use Rattle.std.proofs.Common.{subst, ◌≡◌, ◌⊎◌, inl, inr, ℕ, zero, suc, ◌+◌, ◌≤◌, List, [], ◌∷◌, ◌++◌, Some, refl, sym, ap, ◌∙◌, arith, append_assoc, cond}
use Rattle.std.specs.Prelude.{All}
use Rattle.std.proofs.lemmas.List.{append-nil}
use Rattle.std.proofs.lemmas.List.Elements.{All-nil, All-cons}
use Rattle.bc_model.specs.Sector.{Image}
use Rattle.bc_disk.specs.declared.geometry.Geometry.{Geometry}
use Rattle.bc_record.specs.Kind.{sectors_of, AreFound}
use Rattle.bc_record.specs.Places.{placed}
use Rattle.bc_record.proofs.Blocks.{bucket_blocks}
use Rattle.bc_jset.specs.declared.entry.JEntry.{JEntry}
use Rattle.bc_jset.specs.Records.{entry_kind}
use Rattle.bc_jset.specs.Entries as jset
use Rattle.bc_jset.specs.Entries.{FoundEntry, bucket_start, bucket_end, StandIn, first_with, IsNewest, AreNumbered}
use Rattle.bc_jset.proofs.Records.{entry_codec}
use Rattle.bc_jset.proofs.Entries.{found_number}
use Rattle.bc_jset.proofs.Journal.{stand_exists}
use Rattle.bc_meta.specs.Entries.{Entry, CountDown, AreEntries}
use Rattle.bc_meta.specs.Layout.{Layout, bucket_entries, entry_at, entry_len, ring_entries}
use Rattle.bc_meta.proofs.Lists.{by_test}
use Rattle.bc_facts.specs.Seen.{seen_entry, seen_entries}
use Rattle.bc_facts.specs.Layout.{IsLayoutOf}
use Rattle.bc_facts.proofs.Lists.{put_all, put_none, put_append, put_front, IsSeen, seen_in, in_seen}
use Rattle.bc_facts.proofs.Scan.{Finds, scan_is}

abbrev pub seen_found : Geometry → FoundEntry → Entry
seen_found g e = seen_entry g e.item

abbrev pub listed : Geometry → List FoundEntry → List Entry
listed g all = put_all (seen_found g) all []

pub listed_is : (g : Geometry) (es : List FoundEntry) → listed g es ≡ seen_entries g es
listed_is g es = put_none (seen_found g) es

placed_same : (g : Geometry) (place : ℕ) (es : List JEntry) (acc : List Entry) → put_all (seen_found g) (placed (entry_kind g) place es) acc ≡ put_all (seen_entry g) es acc
placed_same g place [] acc = refl
placed_same g place (e ∷ es) acc = placed_same g (place + sectors_of (entry_kind g) e) es (seen_entry g e ∷ acc)

module _ (g : Geometry) (w : Layout) (layout : IsLayoutOf g w) (image : Image) where
  -- the end of a journal bucket
  pub end_is : (b : ℕ) → w.first b + w.bucket_sectors ≡ bucket_end g b
  end_is b = let a = layout.first b in let s = layout.bucket_sectors in omega arith

  pub entry_finds : (b : ℕ) → Finds (entry_kind g) (seen_entry g) image (w.first b + w.bucket_sectors) (entry_at w image b)
  entry_finds b p e = layout.entries.found image tt (w.first b + w.bucket_sectors) p e

  pub bucket_is : (b : ℕ) (here : List JEntry) → AreFound (entry_kind g) image (bucket_end g b) (bucket_start g b) here → bucket_entries w image b ≡ put_all (seen_entry g) here []
  bucket_is b here are =
      let whole = bucket_blocks g in
      let a = layout.first b in
      let s = layout.bucket_sectors in
      scan_is (entry_kind g) (entry_codec g) (seen_entry g) image (w.first b + w.bucket_sectors) (entry_at w image b) (entry_finds b) (entry_len w) (layout.entries.long tt)
      w.bucket_sectors (w.first b) whole.0 [] here (ap (λ (m : ℕ). w.first b + m) (layout.bucket_sectors ∙ whole.1)) (omega arith)
      (subst (λ (p : ℕ). AreFound (entry_kind g) image (w.first b + w.bucket_sectors) p here) (sym a) (subst (λ (p : ℕ). AreFound (entry_kind g) image p (bucket_start g b) here) (sym (end_is b)) are))

  -- all that is found in the journal
  pub ring_is : (n : ℕ) (all : List FoundEntry) → StandIn g image n all → ring_entries w image n ≡ listed g all
  ring_is zero all h = ap (listed g) (sym h)
  ring_is (suc n) all h =
      ap (λ (l : List Entry). l ++ ring_entries w image n) (bucket_is n h.1 h.3)
      ∙ ap (λ (l : List Entry). put_all (seen_entry g) h.1 [] ++ l) (ring_is n h.0 h.2)
      ∙ ap (λ (l : List Entry). l ++ listed g h.0) (sym (placed_same g (bucket_start g n) h.1 []))
      ∙ sym (put_front (seen_found g) (placed (entry_kind g) (bucket_start g n) h.1) (listed g h.0))
      ∙ sym (put_append (seen_found g) h.0 (placed (entry_kind g) (bucket_start g n) h.1) [])
      ∙ ap (listed g) (sym h.4)

-- ---- from the machine's entries to the format's

first_from : (g : Geometry) (n : ℕ) (all : List FoundEntry) (x : Entry) → IsSeen (seen_found g) x all → x.number ≡ n → (r : FoundEntry) × (first_with n all ≡ Some r) × IsSeen (seen_found g) (seen_found g r) all
first_from g n [] x v is = absurd v
first_from g n (a ∷ rest) x v is =
    by_test a.item.seq n (λ b. (r : FoundEntry) × (cond b (Some a) (first_with n rest) ≡ Some r) × ((seen_found g r ≡ seen_found g a) ⊎ IsSeen (seen_found g) (seen_found g r) rest))
    (λ _. (a, refl, inl refl))
    (λ ne. elim v [
      | inl e ↦ absurd (ne (sym (ap (λ (y : Entry). y.number) e) ∙ is))
      | inr k ↦ (let f = first_from g n rest x k is in (f.0, f.1, inr f.2))
    ])

down_numbered : (g : Geometry) (all : List FoundEntry) (low next : ℕ) (es : List Entry) → CountDown (listed g all) low es next → (acc : List FoundEntry) (top : ℕ) → AreNumbered all next acc top
    → (rs : List FoundEntry) × AreNumbered all low rs top × (listed g rs ≡ listed g acc ++ es)
down_numbered g all low next [] h acc top a = (acc, subst (λ (n : ℕ). AreNumbered all n acc top) h a, sym (append-nil (listed g acc)))
down_numbered g all low next (e ∷ es) h acc top a =
    let v : IsSeen (seen_found g) e all = elim (seen_in (seen_found g) all [] e h.2) [ inl k ↦ k | inr i ↦ absurd i ] in
    let f = first_from g e.number all e v refl in
    let same : seen_found g f.0 ≡ e = h.3 (seen_found g f.0) (in_seen (seen_found g) all [] (seen_found g f.0) (inl f.2)) (found_number e.number all f.0 f.1) in
    let ih = down_numbered g all low e.number es h.4 (f.0 ∷ acc) top (f.1, subst (λ (n : ℕ). AreNumbered all n acc top) (sym h.0) a) in (
      ih.0,
      ih.1,
      ih.2
          ∙ ap (λ (l : List Entry). l ++ es) (put_front (seen_found g) acc (seen_found g f.0 ∷ []))
          ∙ append_assoc (listed g acc) (seen_found g f.0 ∷ []) es
          ∙ ap (λ (y : Entry). listed g acc ++ (y ∷ es)) same,
    )

all_low : (g : Geometry) (n : ℕ) (rs : List FoundEntry) → ((x : Entry) → IsSeen (seen_found g) x rs → x.number ≤ n) → All (λ (e : FoundEntry). e.item.seq ≤ n) rs
all_low g n [] h = All-nil (λ (e : FoundEntry). e.item.seq ≤ n)
all_low g n (r ∷ rs) h = All-cons (λ (e : FoundEntry). e.item.seq ≤ n) r rs (h (seen_found g r) (inl refl)) (all_low g n rs (λ x v. h x (inr v)))

-- the entries of an image
pub record Read (g : Geometry) (image : Image) (newest : Entry) (older : List Entry) : Type 0 where
  pub es : List FoundEntry
  pub are : jset.AreEntries g image es
  pub seen : seen_entries g es ≡ newest ∷ older
  pub newest_is : seen_entry g are.newest.item ≡ newest

pub read_entries : (g : Geometry) (w : Layout) → IsLayoutOf g w → (image : Image) (newest : Entry) (older : List Entry) → AreEntries (ring_entries w image w.journal) newest older → Read g image newest older
read_entries g w layout image newest older is =
    let all = stand_exists g image g.journal in
    let same = ap (ring_entries w image) layout.journal ∙ ring_is g w layout image g.journal all.0 all.1 in
    go all.0 all.1 (subst (λ (l : List Entry). AreEntries l newest older) same is)
  where
    go : (all : List FoundEntry) → StandIn g image g.journal all → AreEntries (listed g all) newest older → Read g image newest older
    go all stand h =
        let d = h.down in
        let v : IsSeen (seen_found g) newest all = elim (seen_in (seen_found g) all [] newest d.2) [ inl k ↦ k | inr i ↦ absurd i ] in
        let f = first_from g newest.number all newest v refl in
        let number : f.0.item.seq ≡ newest.number = found_number newest.number all f.0 f.1 in
        let same : seen_found g f.0 ≡ newest = d.3 (seen_found g f.0) (in_seen (seen_found g) all [] (seen_found g f.0) (inl f.2)) number in
        let oldest : f.0.item.last_seq ≡ newest.last_seq = ap (λ (y : Entry). y.last_seq) same in
        let n = down_numbered g all newest.last_seq (suc newest.number) (newest ∷ older) h.down [] (suc newest.number) refl in
        let reach = d.1 in
        record {
          es = n.0;
          are = record {
            all = all;
            stand = stand;
            newest = f.0;
            is_newest = record {
              counts = subst (λ (m : ℕ). first_with m all ≡ Some f.0) (sym number) f.1;
              greatest = subst (λ (m : ℕ). All (λ (e : FoundEntry). e.item.seq ≤ m) all) (sym number) (all_low g newest.number all (λ x k. h.greatest x (in_seen (seen_found g) all [] x (inl k))));
            };
            reaches = omega (arith, number, oldest, reach);
            numbered = subst (λ (m : ℕ). AreNumbered all m n.0 (suc f.0.item.seq)) (sym oldest) (subst (λ (m : ℕ). AreNumbered all newest.last_seq n.0 (suc m)) (sym number) n.1);
          };
          seen = sym (listed_is g n.0) ∙ n.2;
          newest_is = same;
        }
