-- What stands in the journal buckets of an opened pair.
use Rattle.std.proofs.Common.{subst, ◌≡◌, inl, inr, ℕ, zero, suc, ◌+◌, ◌-◌, ◌<◌, ◌≤◌, List, [], ◌∷◌, length, Option, Some, None, refl, sym, ap, ◌∙◌, arith}
use Rattle.std.proofs.lemmas.Bool.{cases_lt}
use Rattle.bc_model.specs.Sector.{Image}
use Rattle.bc_disk.specs.declared.geometry.Geometry.{Geometry}
use Rattle.bc_record.specs.Kind.{AreFound, Kind, sectors_of}
use Rattle.bc_record.specs.Places.{at_place, placed}
use Rattle.bc_record.specs.declared.placed.Placed.{Placed}
use Rattle.bc_jset.specs.declared.entry.JEntry.{JEntry}
use Rattle.bc_jset.specs.Entries.{FoundEntry, StandIn, bucket_end, bucket_start}
use Rattle.bc_jset.specs.Records.{entry_kind}
use Rattle.bc_jset.specs.Ring.{bucket_of}
use Rattle.bc_meta.specs.Entries.{Entry}
use Rattle.bc_meta.specs.Facts.{In, Stand, scan, scan_on}
use Rattle.bc_meta.specs.Layout.{Layout, bucket_entries, entry_at, entry_len}
use Rattle.bc_meta.proofs.Scan.{scan_stands, stands_long}
use Rattle.bc_facts.specs.Layout.{IsLayoutOf}
use Rattle.bc_facts.specs.Reads.{back}
use Rattle.bc_facts.specs.Seen.{seen_entry}
use Rattle.bc_facts.proofs.Journal.{bucket_is}
use Rattle.bc_facts.proofs.Lists.{IsSeen, put_all, seen_in}
use Rattle.bc_facts.proofs.Place.{of_seen}
use Rattle.bc_facts.proofs.Stood.{in_behind, in_front, in_placed, stood_bucket}
use Rattle.bc_opening.specs.Ring.{LawRing}

-- what was found before stays in a scan
scan_keeps : {A : Type 0} (len : A → ℕ) (found : ℕ → Option A) (n p : ℕ) (acc : List A) (x : A) → In x acc → In x (scan len found n p acc)
scan_keeps len found zero p acc x i = i
scan_keeps {A = A} len found (suc n) p acc x i = go (found p) (λ e. scan_keeps len found n (p + len e) (e ∷ acc) x (inr i))
  where
    go : (o : Option A) → ((e : A) → In x (scan len found n (p + len e) (e ∷ acc))) → In x (scan_on (scan len found n) len p acc o)
    go None ih = i
    go (Some e) ih = ih e

placed_in : {A : Type 0} (kind : Kind A) (place : ℕ) (es : List A) (r : A) → In r es → (f : Placed A) × In f (placed kind place es) × (f.item ≡ r)
placed_in kind place [] r i = absurd i
placed_in kind place (e ∷ es) r (inl is) = (at_place place e, inl refl, sym is)
placed_in kind place (e ∷ es) r (inr i) = let k = placed_in kind (place + sectors_of kind e) es r i in (k.0, inr k.1, k.2)

module _ (g : Geometry) (w : Layout) (layout : IsLayoutOf g w) (image : Image) where
  ring_in : (b : ℕ) (es : List Entry) (q : ℕ) → Stand (entry_len w) (entry_at w image b) (w.first b) es q → q ≤ w.first b + w.bucket_sectors → (x : Entry) → In x es → In x (bucket_entries w image b)
  ring_in b es q stand inside x i =
      let long = stands_long (entry_len w) (entry_at w image b) (w.first b) es q w.entries.some stand in
      let k = scan_stands (entry_len w) (entry_at w image b) (w.first b) es q (w.bucket_sectors - length es) stand w.bucket_sectors (omega (arith, long, inside)) in
      subst (λ (l : List Entry). In x l) (sym k) (scan_keeps (entry_len w) (entry_at w image b) (w.bucket_sectors - length es) q es x i)

  record There (all : List FoundEntry) (b : ℕ) (x : Entry) : Type 0 where
    entry : FoundEntry
    in_all : In entry all
    bucket : bucket_of g entry ≡ back g b
    seen : seen_entry g entry.item ≡ x

  found_in : (n : ℕ) (all : List FoundEntry) → StandIn g image n all → (b : ℕ) → b < n → (x : Entry) → In x (bucket_entries w image b) → There all b x
  found_in zero all h b lt x i = absurd (omega (arith, lt))
  found_in (suc n) all h b lt x i = elim (cases_lt b n) [
    | inl less ↦
        (let k = found_in n h.0 h.2 b less x i in
        record {
          entry = k.entry;
          in_all = subst (λ (l : List FoundEntry). In k.entry l) (sym h.4) (in_front k.entry h.0 (placed (entry_kind g) (bucket_start g n) h.1) k.in_all);
          bucket = k.bucket;
          seen = k.seen;
        })
    | inr over ↦
        (let same : b ≡ n = omega (arith, lt, over) in
        let there : In x (put_all (seen_entry g) h.1 []) = subst (λ (l : List Entry). In x l) (bucket_is g w layout image n h.1 h.3) (subst (λ m. In x (bucket_entries w image m)) same i) in
        let v : IsSeen (seen_entry g) x h.1 = elim (seen_in (seen_entry g) h.1 [] x there) [ inl k ↦ k | inr k ↦ absurd k ] in
        let r = of_seen (seen_entry g) x h.1 v in
        let f = placed_in (entry_kind g) (bucket_start g n) h.1 r.0 r.1 in
        let at = in_placed (entry_kind g) (bucket_start g n) h.1 f.0 f.1 in
        record {
          entry = f.0;
          in_all = subst (λ (l : List FoundEntry). In f.0 l) (sym h.4) (in_behind f.0 h.0 (placed (entry_kind g) (bucket_start g n) h.1) f.1);
          bucket = stood_bucket g image (suc n) f.0 (record {
            bucket = n;
            low = omega arith;
            before = at.0;
            after = at.1;
            are = subst (λ (l : List JEntry). AreFound (entry_kind g) image (bucket_end g n) (bucket_start g n) l) at.2 h.3;
            place = at.3;
          }) ∙ ap (back g) (sym same);
          seen = ap (seen_entry g) f.2 ∙ sym r.2;
        })
  ]

pub law_ring : LawRing
law_ring p v layout c w x is_layout is sound all stand b lt e i =
    let lies = subst (λ (l : Layout). IsLayoutOf v.geometry l) (sym is.layout_is) is_layout in
    let j = lies.journal in
    let low : b < w.layout.journal = omega (arith, lt, j) in
    let there = ring_in v.geometry w.layout lies w.store.image b (w.store.ring b) (w.store.ring_next b) (sound.whole.store.whole.stands b low) (sound.whole.store.whole.inside b low) e i in
    let k = found_in v.geometry w.layout lies p.cache v.geometry.journal all stand b lt e (subst (λ (m : Image). In e (bucket_entries w.layout m b)) is.store.image there) in
    (k.entry, k.in_all, k.bucket, k.seen)
