-- Where the journal goes on, and the numbers of the entries in its buckets.
use Rattle.std.proofs.Common.{subst, ◌≡◌, inl, inr, ℕ, zero, suc, ◌+◌, ◌-◌, ◌*◌, ◌<◌, ◌≤◌, List, [], ◌∷◌, ◌++◌, length, refl, sym, ap, ◌∙◌, arith}
use Rattle.std.specs.Prelude.{slice_index}
use Rattle.std.proofs.lemmas.Bool.{cases_lt}
use Rattle.bc_disk.specs.declared.geometry.Geometry.{Geometry}
use Rattle.bc_entries.specs.Journal.{HasJournal, Journal as Read}
use Rattle.bc_facts.specs.Layout.{IsLayoutOf}
use Rattle.bc_facts.specs.Reads.{back}
use Rattle.bc_facts.specs.Seen.{seen_entry}
use Rattle.bc_facts.proofs.Journal.{bucket_is}
use Rattle.bc_facts.proofs.Lists.{IsSeen, seen_in}
use Rattle.bc_facts.proofs.Place.{of_seen}
use Rattle.bc_facts.proofs.Stood.{Stood, all_in, in_behind, in_front, in_placed, stood_bucket}
use Rattle.bc_image.specs.Pair.{Pair}
use Rattle.bc_image.specs.Reading.{View}
use Rattle.bc_journal.specs.Journal.{Journal}
use Rattle.bc_journal.specs.Ring.{Ring}
use Rattle.bc_jset.specs.declared.entry.JEntry.{JEntry}
use Rattle.bc_jset.specs.Entries.{FoundEntry, StandIn, bucket_end, bucket_start}
use Rattle.bc_jset.specs.Records.{entry_kind}
use Rattle.bc_jset.specs.Ring.{IsNextPlace, bucket_of, greatest_in}
use Rattle.bc_jset.proofs.Entries.{newest_is_last}
use Rattle.bc_jset.proofs.Ring.{greatest_above, one_next}
use Rattle.bc_known.specs.Laws.{IsSound}
use Rattle.bc_leaves.specs.Parts as parts
use Rattle.bc_machine.specs.Containers.{IsRingOf}
use Rattle.bc_meta.specs.Entries.{Entry}
use Rattle.bc_meta.specs.Facts.{In, Stand}
use Rattle.bc_meta.specs.Laws as meta
use Rattle.bc_meta.specs.Layout.{Layout, bucket_entries, entry_at, entry_len}
use Rattle.bc_meta.specs.Records.{Records}
use Rattle.bc_meta.proofs.Scan.{scan_keeps, scan_stands, stands_long}
use Rattle.bc_model.specs.Sector.{Image}
use Rattle.bc_record.specs.Kind.{AreFound, Kind, sectors_of}
use Rattle.bc_record.specs.Places.{placed}
use Rattle.bc_record.specs.declared.placed.Placed.{Placed}
use Rattle.bc_resume.specs.Resume.{IsResumed}
use Rattle.bc_shares.specs.Shares.{JournalShare, counts_in, entries_in}
use Rattle.bc_books.specs.Books.{opened}
use Rattle.bc_whole.specs.State.{Opening}
use Rattle.bc_chosen.specs.Parts.{Parts}
use Rattle.bc_begun.specs.Opened.{IsOpenedWith}

-- ---- what stands in a bucket is found there

placed_has : {A : Type 0} (kind : Kind A) (place : ℕ) (es : List A) (e : A) → In e es
    → (f : Placed A) × In f (placed kind place es) × (f.item ≡ e)
placed_has kind place [] e i = absurd i
placed_has kind place (x ∷ xs) e (inl is) = (record { place = place; item = x }, inl refl, sym is)
placed_has kind place (x ∷ xs) e (inr i) =
    let rest = placed_has kind (place + sectors_of kind x) xs e i in (rest.0, inr rest.1, rest.2)

abbrev IsFoundAs : Geometry → List FoundEntry → ℕ → Entry → Type 0
IsFoundAs g all b e = (f : FoundEntry) × In f all × (bucket_of g f ≡ back g b)
    × (f.item.seq ≡ e.number)

module _ (g : Geometry) (w : Layout) (layout : IsLayoutOf g w) (image : Image) where
  here_is : (b : ℕ) (here : List JEntry) (e : Entry)
      → AreFound (entry_kind g) image (bucket_end g b) (bucket_start g b) here
      → In e (bucket_entries w image b)
      → IsFoundAs g (placed (entry_kind g) (bucket_start g b) here) b e
  here_is b here e are i =
      let v : IsSeen (seen_entry g) e here = elim (seen_in (seen_entry g) here [] e
      (subst (λ (l : List Entry). In e l) (bucket_is g w layout image b here are) i))
      [ inl k ↦ k | inr k ↦ absurd k ] in
      let r = of_seen (seen_entry g) e here v in
      let f = placed_has (entry_kind g) (bucket_start g b) here r.0 r.1 in
      let at = in_placed (entry_kind g) (bucket_start g b) here f.0 f.1 in
      let s : Stood g image (suc b) f.0 = record {
        bucket = b;
        low = omega arith;
        before = at.0;
        after = at.1;
        are = subst (λ (l : List JEntry).
            AreFound (entry_kind g) image (bucket_end g b) (bucket_start g b) l)
            {y = at.0 ++ (f.0.item ∷ at.1)} at.2 are;
        place = at.3;
      } in (
        f.0,
        f.1,
        stood_bucket g image (suc b) f.0 s,
        ap (λ (x : JEntry). x.seq) f.2 ∙ sym (ap (λ (x : Entry). x.number) r.2),
      )

  found_in : (n : ℕ) (all : List FoundEntry) (b : ℕ) (e : Entry) → StandIn g image n all → b < n
      → In e (bucket_entries w image b) → IsFoundAs g all b e
  found_in zero all b e h low i = absurd (omega (arith, low))
  found_in (suc n) all b e h low i = subst (λ (l : List FoundEntry). IsFoundAs g l b e) (sym h.4)
      (elim (cases_lt b n) [
        | inl less ↦
            (let f = found_in n h.0 b e h.2 less i in
            (f.0, in_front f.0 h.0 (placed (entry_kind g) (bucket_start g n) h.1) f.1, f.2, f.3))
        | inr more ↦
            (let same : b ≡ n = omega (arith, low, more) in
            let f = here_is n h.1 e h.3
            (subst (λ m. In e (bucket_entries w image m)) same i) in (
              f.0,
              in_behind f.0 h.0 (placed (entry_kind g) (bucket_start g n) h.1) f.1,
              f.2 ∙ ap (back g) (sym same),
              f.3,
            ))
      ])

  -- so no entry in a bucket has a greater number than the greatest one that is found there
  below_greatest : (n : ℕ) (all : List FoundEntry) (b : ℕ) (e : Entry) → StandIn g image n all
      → b < n → In e (bucket_entries w image b) → e.number ≤ greatest_in g (back g b) all
  below_greatest n all b e h low i =
      let f = found_in n all b e h low i in
      let under = all_in (λ (x : FoundEntry).
      bucket_of g x ≡ back g b → x.item.seq ≤ greatest_in g (back g b) all) all f.0
      (greatest_above g (back g b) all) f.1 f.2 in
      let number = f.3 in
      omega (arith, under, number)

-- what stands up to a place in a bucket is among its entries
stands_among : (w : Layout) (image : Image) (b next : ℕ) (es : List Entry) (e : Entry)
    → Stand (entry_len w) (entry_at w image b) (w.first b) es next
    → next ≤ w.first b + w.bucket_sectors → In e es → In e (bucket_entries w image b)
stands_among w image b next es e stands inside i =
    let long = stands_long (entry_len w) (entry_at w image b) (w.first b) es next w.entries.some
    stands in
    let more = w.bucket_sectors - length es in
    subst (λ (l : List Entry). In e l) (sym (scan_stands (entry_len w) (entry_at w image b)
    (w.first b) es next more stands w.bucket_sectors (omega (arith, long, inside))))
    (scan_keeps (entry_len w) (entry_at w image b) more next es e i)

-- ---- the ring

last_same : {A : Type 0} (xs ys : List A) (x y : A) → xs ++ x ∷ [] ≡ ys ++ y ∷ [] → x ≡ y
last_same [] [] x y is = cc
last_same [] (b ∷ []) x y is = absurd (cc)
last_same [] (b ∷ c ∷ ys) x y is = absurd (cc)
last_same (a ∷ []) [] x y is = absurd (cc)
last_same (a ∷ c ∷ xs) [] x y is = absurd (cc)
last_same {A} (a ∷ xs) (b ∷ ys) x y is = last_same xs ys x y (rest is)
  where
    rest : a ∷ (xs ++ x ∷ []) ≡ b ∷ (ys ++ y ∷ []) → xs ++ x ∷ [] ≡ ys ++ y ∷ []
    rest e = cc

module _ (p : Pair) (v : View) (layout : Layout) (x : Parts) (w : Opening) (st : parts.State)
    (read : Read) (j : Journal) (h : IsOpenedWith p v layout x w st) (is : IsSound w st)
    (found : HasJournal v.geometry p.cache read) (entries : read.entries ≡ v.reading.entries)
    (resumed : IsResumed v.geometry read j) where
  abbrev g : Geometry
  g = v.geometry

  abbrev o : meta.Opening
  o = w.store

  divided : IsLayoutOf g w.layout
  divided = subst (λ (l : Layout). IsLayoutOf g l) (sym h.opening.layout_is) h.divided

  newest_is : resumed.newest ≡ v.reading.newest
  newest_is =
      let last = newest_is_last g p.cache v.reading.entries h.view.reading.entries in
      last_same resumed.older last.0 resumed.newest h.view.reading.entries.newest
      (sym resumed.parts ∙ entries ∙ last.1) ∙ h.view.reading.newest

  -- the bucket that is written to
  bucket_same : resumed.at.bucket ≡ o.bucket
  bucket_same =
      let here = resumed.is_at.bucket_is in
      let there = h.opening.store.opens.bucket in
      let newest : bucket_of g resumed.newest ≡ bucket_of g v.reading.newest =
      ap (bucket_of g) newest_is in
      omega (arith, here, there, newest)

  next_same : resumed.next ≡ o.ring_next o.bucket
  next_same = one_next g v.reading.entries v.reading.newest resumed.next (o.ring_next o.bucket)
      (subst (λ (e : FoundEntry). IsNextPlace g v.reading.entries e resumed.next) newest_is
      (subst (λ (es : List FoundEntry). IsNextPlace g es resumed.newest resumed.next) entries
      resumed.place)) h.opening.store.opens.next

  place_same : w.layout.first resumed.at.bucket + resumed.at.sector ≡ o.ring_next o.bucket
  place_same =
      let first = divided.first resumed.at.bucket in
      let bucket = ap (λ n. g.bucket * n) resumed.is_at.bucket_is in
      let sector = resumed.is_at.sector_is in
      let next = next_same in
      omega (arith, first, bucket, sector, next)

  -- no entry in a journal bucket has a greater number than the greatest one that was found there
  below : (b : ℕ) (e : Entry) → In e (o.ring b) → e.number ≤ slice_index resumed.numbers b
  below b e i = elim (cases_lt b w.layout.journal) [
    | inl low ↦
        (let whole = is.whole.store.whole in
        let count = divided.journal in
        let among = subst (λ (image : Image). In e (bucket_entries w.layout image b))
        h.opening.store.image (stands_among w.layout o.image b (o.ring_next b) (o.ring b) e
        (whole.stands b low) (whole.inside b low) i) in
        let under = below_greatest g w.layout divided p.cache g.journal found.entries.all b e
        found.entries.stand (omega (arith, low, count)) among in
        let all : greatest_in g (back g b) found.entries.all ≡ greatest_in g (back g b) read.all =
        ap (greatest_in g (back g b)) found.all in
        let number = resumed.are_newest.greatest b (omega (arith, low, count)) in
        omega (arith, under, all, number))
    | inr high ↦ absurd (subst (λ (l : List Entry). In e l)
        (is.whole.store.whole.only_ring b high) i)
  ]

  abbrev share : Records → JournalShare
  share r = record {
    entries = entries_in r;
    counts = counts_in (opened w.flow.books);
    next = o.ring_next;
  }

  abbrev ring : Ring
  ring = record { geometry = g; next = resumed.at; newest = resumed.numbers }

  pub is_ring : IsRingOf w (share st.records) ring
  is_ring = subst (λ (r : Records). IsRingOf w (share r) ring) (sym h.opening.records) (record {
    layout = divided;
    before = h.opening.before;
    bucket = bucket_same;
    next = place_same;
    newest = below;
    sealed = tt;
  })
