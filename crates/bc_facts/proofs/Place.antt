-- Where the next entry goes, as the format says it and as the machine does.
use Rattle.std.proofs.Common.{subst, ◌≡◌, ◌⊎◌, inl, inr, ℕ, zero, suc, ◌+◌, ◌*◌, ◌<◌, ◌≤◌, Bool, true, false, List, [], ◌∷◌, ◌++◌, Option, refl, sym, ap, ◌∙◌, arith, append_assoc, if◌then◌else◌, ◌==◌, nat_lt}
use Rattle.std.proofs.lemmas.Bool.{cases_lt, lt-ltb, le-ltb}
use Rattle.std.proofs.lemmas.List.{append-nil}
use Rattle.bc_model.specs.Sector.{Image}
use Rattle.bc_disk.specs.declared.geometry.Geometry.{Geometry}
use Rattle.bc_record.specs.Codec.{IsCodec}
use Rattle.bc_record.specs.Kind.{Kind, sectors_of, AreFound, behind}
use Rattle.bc_record.specs.Places.{end_of}
use Rattle.bc_record.proofs.Blocks.{bucket_blocks}
use Rattle.bc_record.proofs.Found.{found_fits, next_blocks, one_run, run_exists}
use Rattle.bc_jset.specs.declared.entry.JEntry.{JEntry}
use Rattle.bc_jset.specs.Records.{entry_kind}
use Rattle.bc_jset.specs.Entries as jset
use Rattle.bc_jset.specs.Entries.{FoundEntry, bucket_start, bucket_end}
use Rattle.bc_jset.specs.Ring.{IsNextPlace, bucket_of}
use Rattle.bc_jset.proofs.Records.{entry_codec}
use Rattle.bc_jset.proofs.Ring.{next_exists}
use Rattle.bc_meta.specs.Facts.{In, Stand}
use Rattle.bc_meta.specs.Entries.{Entry}
use Rattle.bc_meta.specs.Layout.{Layout, bucket_entries, entry_at, entry_len, ring_entries}
use Rattle.bc_meta.specs.Records.{HasRoom}
use Rattle.bc_meta.proofs.Lists.{by_test}
use Rattle.bc_facts.specs.Seen.{seen_entry, seen_entries}
use Rattle.bc_facts.specs.Layout.{IsLayoutOf}
use Rattle.bc_facts.specs.Reads.{back}
use Rattle.bc_facts.proofs.Lists.{put_all, IsSeen, seen_in, in_seen}
use Rattle.bc_facts.proofs.Scan.{Finds, is_found}
use Rattle.bc_facts.proofs.Journal.{bucket_is, end_is, entry_finds, listed_is, seen_found}
use Rattle.bc_facts.proofs.Stood.{Stood, all_in, any_in, behind_fits, behind_more, in_behind, in_front, in_prefix, numbered_in, stood, stood_bucket}

pub by_lt : (a b : ℕ) (P : Bool → Type 0) → (a < b → P true) → (b ≤ a → P false) → P (nat_lt a b)
by_lt a b P yes_ no_ = go (cases_lt a b)
  where
    go : (a < b) ⊎ (b ≤ a) → P (nat_lt a b)
    go (inl lt) = subst P (sym (lt-ltb a b lt)) (yes_ lt)
    go (inr ge) = subst P (sym (le-ltb a b ge)) (no_ ge)

-- records that are found from a place on stand there, the last one first
module _ {R A : Type 0} (kind : Kind R) (codec : IsCodec kind) (seen : R → A) (image : Image) (end : ℕ) (found : ℕ → Option A) (finds : Finds kind seen image end found) (len : A → ℕ) (len_is : (r : R) → len (seen r) ≡ sectors_of kind r) where
  pub stand_on : (start p blocks : ℕ) (acc : List A) (rs more : List R) → end ≡ p + kind.block * blocks → AreFound kind image end p (rs ++ more) → Stand len found start acc p → Stand len found start (put_all seen rs acc) (behind kind p rs)
  stand_on start p blocks acc [] more ends are h = h
  stand_on start p blocks acc (r ∷ rs) more ends are h =
      let fits = found_fits kind codec image end p blocks r ends are.0 in
      let next = next_blocks kind codec r end p blocks ends fits in
      stand_on start (p + sectors_of kind r) next.0 (seen r ∷ acc) rs more next.1 are.1
      (p, h, is_found kind codec seen image end found finds p r (are.0, fits), ap (λ (m : ℕ). p + m) (sym (len_is r)))

seen_more : {R A : Type 0} (seen : R → A) (x : A) (xs ys : List R) → IsSeen seen x xs → IsSeen seen x (xs ++ ys)
seen_more seen x [] ys v = absurd v
seen_more seen x (r ∷ rs) ys (inl e) = inl e
seen_more seen x (r ∷ rs) ys (inr v) = inr (seen_more seen x rs ys v)

pub seen_of : {R A : Type 0} (seen : R → A) (r : R) (rs : List R) → In r rs → IsSeen seen (seen r) rs
seen_of seen r [] i = absurd i
seen_of seen r (x ∷ xs) (inl e) = inl (ap seen e)
seen_of seen r (x ∷ xs) (inr i) = inr (seen_of seen r xs i)

pub of_seen : {R A : Type 0} (seen : R → A) (x : A) (rs : List R) → IsSeen seen x rs → (r : R) × In r rs × (x ≡ seen r)
of_seen seen x [] v = absurd v
of_seen seen x (r ∷ rs) (inl e) = (r, inl refl, e)
of_seen seen x (r ∷ rs) (inr v) = let k = of_seen seen x rs v in (k.0, inr k.1, k.2)

module _ (g : Geometry) (w : Layout) (layout : IsLayoutOf g w) (image : Image) where
  -- what is found in a journal bucket
  whole : (b : ℕ) → (here : List JEntry) × AreFound (entry_kind g) image (bucket_end g b) (bucket_start g b) here
  whole b =
      let blocks = bucket_blocks g in
      run_exists (entry_kind g) (entry_codec g) image (bucket_end g b) (bucket_start g b) blocks.0 (ap (λ m. bucket_start g b + m) blocks.1)

  all_ring : (n b : ℕ) (x : Entry) → b < n → In x (bucket_entries w image b) → In x (ring_entries w image n)
  all_ring zero b x lt i = absurd (omega arith)
  all_ring (suc n) b x lt i = elim (cases_lt b n) [
    | inl less ↦ in_behind x (bucket_entries w image n) (ring_entries w image n) (all_ring n b x less i)
    | inr here ↦ in_front x (bucket_entries w image n) (ring_entries w image n) (subst (λ m. In x (bucket_entries w image m)) (let e : b ≡ n = omega (arith, lt, here) in e) i)
  ]

  pub record Place (es : List FoundEntry) (newest : FoundEntry) (list : List Entry) (newest_ : Entry) (older : List Entry) : Type 0 where
    pub ring : ℕ → List Entry
    pub ring_next : ℕ → ℕ
    pub bucket : ℕ
    pub room : HasRoom list newest_ older ring
    pub stands : (b : ℕ) → b < w.journal → Stand (entry_len w) (entry_at w image b) (w.first b) (ring b) (ring_next b)
    pub inside : (b : ℕ) → b < w.journal → ring_next b ≤ w.first b + w.bucket_sectors
    pub only_ring : (b : ℕ) → w.journal ≤ b → ring b ≡ []
    pub current : bucket < w.journal
    pub at : back g bucket ≡ bucket_of g newest
    pub next : IsNextPlace g es newest (ring_next bucket)

  module _ (es : List FoundEntry) (a : jset.AreEntries g image es) (newest_ : Entry) (older : List Entry) (seen : seen_entries g es ≡ newest_ ∷ older)
      (next : ℕ) (is : IsNextPlace g es a.newest next) (e : FoundEntry) (s : Stood g image g.journal e) (same : bucket_of g e ≡ bucket_of g a.newest) (ends : end_of (entry_kind g) e ≡ next) where
    abbrev cut : List JEntry
    cut = s.before ++ (e.item ∷ [])

    cut_are : AreFound (entry_kind g) image (bucket_end g s.bucket) (bucket_start g s.bucket) ((s.before ++ (e.item ∷ [])) ++ s.after)
    cut_are = subst (λ (l : List JEntry). AreFound (entry_kind g) image (bucket_end g s.bucket) (bucket_start g s.bucket) l) (sym (append_assoc s.before (e.item ∷ []) s.after)) s.are

    -- those before the next place of a bucket
    abbrev front : ℕ → List JEntry
    front b = if b == s.bucket then s.before ++ (e.item ∷ []) else (whole b).0

    run : (b : ℕ) → (rest : List JEntry) × AreFound (entry_kind g) image (bucket_end g b) (bucket_start g b) (front b ++ rest)
    run b =
        by_test b s.bucket (λ t. (rest : List JEntry) × AreFound (entry_kind g) image (bucket_end g b) (bucket_start g b) ((if t then s.before ++ (e.item ∷ []) else (whole b).0) ++ rest))
        (λ here. (s.after, subst (λ n. AreFound (entry_kind g) image (bucket_end g n) (bucket_start g n) ((s.before ++ (e.item ∷ [])) ++ s.after)) (sym here) cut_are))
        (λ ne. ([], subst (λ (l : List JEntry). AreFound (entry_kind g) image (bucket_end g b) (bucket_start g b) l) (sym (append-nil (whole b).0)) (whole b).1))

    next_is : behind (entry_kind g) (bucket_start g s.bucket) (front s.bucket) ≡ next
    next_is = by_test s.bucket s.bucket (λ t. behind (entry_kind g) (bucket_start g s.bucket) (if t then s.before ++ (e.item ∷ []) else (whole s.bucket).0) ≡ next)
        (λ _. behind_more (entry_kind g) (entry_codec g) (bucket_start g s.bucket) s.before (e.item ∷ []) ∙ ap (λ p. p + sectors_of (entry_kind g) e.item) (sym s.place) ∙ ends)
        (λ ne. absurd (ne refl))

    blocks_of : (b : ℕ) → (k : ℕ) × (bucket_end g b ≡ bucket_start g b + g.block * k)
    blocks_of b = let k = bucket_blocks g in (k.0, ap (λ m. bucket_start g b + m) k.1)

    stand : (b : ℕ) → Stand (entry_len w) (entry_at w image b) (w.first b) (put_all (seen_entry g) (front b) []) (behind (entry_kind g) (bucket_start g b) (front b))
    stand b =
        let k = blocks_of b in
        let r = run b in
        let end = end_is g w layout image b in
        stand_on (entry_kind g) (entry_codec g) (seen_entry g) image (w.first b + w.bucket_sectors) (entry_at w image b) (entry_finds g w layout image b) (entry_len w) (layout.entries.long tt)
        (w.first b) (bucket_start g b) k.0 [] (front b) r.0 (end ∙ k.1)
        (subst (λ p. AreFound (entry_kind g) image p (bucket_start g b) (front b ++ r.0)) (sym end) r.1) (sym (layout.first b))

    inside : (b : ℕ) → behind (entry_kind g) (bucket_start g b) (front b) ≤ w.first b + w.bucket_sectors
    inside b =
        let k = blocks_of b in
        let r = run b in
        let left = behind_fits (entry_kind g) (entry_codec g) image (bucket_end g b) (bucket_start g b) k.0 (front b) r.0 k.1 r.1 in
        let end = end_is g w layout image b in
        let upto = left.1 in
        omega (arith, end, upto)

    abbrev ring : ℕ → List Entry
    ring b = if nat_lt b w.journal then put_all (seen_entry g) (front b) [] else []

    stands_in : (b : ℕ) (x : Entry) → In x (ring b) → In x (ring_entries w image w.journal)
    stands_in b x =
        by_lt b w.journal (λ t. In x (if t then put_all (seen_entry g) (front b) [] else []) → In x (ring_entries w image w.journal))
        (λ lt i. (let v : IsSeen (seen_entry g) x (front b) = elim (seen_in (seen_entry g) (front b) [] x i) [ inl k ↦ k | inr k ↦ absurd k ] in
        let r = run b in
        let all = in_seen (seen_entry g) (front b ++ r.0) [] x (inl (seen_more (seen_entry g) x (front b) r.0 v)) in
        all_ring w.journal b x lt (subst (λ (l : List Entry). In x l) (sym (bucket_is g w layout image b (front b ++ r.0) r.1)) all)))
        (λ ge i. absurd i)

    in_front_of : (f : FoundEntry) → In f es → (t : Stood g image g.journal f) → In f.item (front t.bucket)
    in_front_of f i t =
        by_test t.bucket s.bucket (λ b. In f.item (if b then s.before ++ (e.item ∷ []) else (whole t.bucket).0))
        (λ here.
        let lists : t.before ++ (f.item ∷ t.after) ≡ (s.before ++ (e.item ∷ [])) ++ s.after =
        one_run (entry_kind g) (entry_codec g) image (bucket_end g s.bucket) (bucket_start g s.bucket) (t.before ++ (f.item ∷ t.after)) ((s.before ++ (e.item ∷ [])) ++ s.after)
        (subst (λ n. AreFound (entry_kind g) image (bucket_end g n) (bucket_start g n) (t.before ++ (f.item ∷ t.after))) here t.are) cut_are in
        let mine : bucket_of g f ≡ bucket_of g a.newest = stood_bucket g image g.journal f t ∙ ap (back g) here ∙ sym (stood_bucket g image g.journal e s) ∙ same in
        let le = all_in (λ (x : FoundEntry). bucket_of g x ≡ bucket_of g a.newest → end_of (entry_kind g) x ≤ next) es f is.behind i mine in
        let there : f.place ≡ behind (entry_kind g) (bucket_start g s.bucket) t.before = t.place ∙ ap (λ n. behind (entry_kind g) (bucket_start g n) t.before) here in
        let until : behind (entry_kind g) (bucket_start g s.bucket) (s.before ++ (e.item ∷ [])) ≡ next = behind_more (entry_kind g) (entry_codec g) (bucket_start g s.bucket) s.before (e.item ∷ []) ∙ ap (λ p. p + sectors_of (entry_kind g) e.item) (sym s.place) ∙ ends in
        in_prefix (entry_kind g) (entry_codec g) (bucket_start g s.bucket) (s.before ++ (e.item ∷ [])) s.after t.before t.after f.item lists (omega (arith, le, there, until)))
        (λ ne.
        subst (λ (l : List JEntry). In f.item l)
        (one_run (entry_kind g) (entry_codec g) image (bucket_end g t.bucket) (bucket_start g t.bucket) (t.before ++ (f.item ∷ t.after)) (whole t.bucket).0 t.are (whole t.bucket).1)
        (in_behind f.item t.before (f.item ∷ t.after) (inl refl)))

    kept : (x : Entry) → In x (newest_ ∷ older) → (b : ℕ) × In x (ring b)
    kept x i =
        let v : IsSeen (seen_found g) x es = elim (seen_in (seen_found g) es [] x (subst (λ (l : List Entry). In x l) (sym (listed_is g es ∙ seen)) i)) [ inl k ↦ k | inr k ↦ absurd k ] in
        let f = of_seen (seen_found g) x es v in
        let t = stood g image g.journal a.all f.0 a.stand (numbered_in a.all a.newest.item.last_seq (suc a.newest.item.seq) es f.0 a.numbered f.1) in
        let here = in_seen (seen_entry g) (front t.bucket) [] x (inl (subst (λ (y : Entry). IsSeen (seen_entry g) y (front t.bucket)) (sym f.2) (seen_of (seen_entry g) f.0.item (front t.bucket) (in_front_of f.0 f.1 t)))) in (
          t.bucket,
          by_lt t.bucket w.journal (λ b. In x (if b then put_all (seen_entry g) (front t.bucket) [] else [])) (λ _. here)
              (λ ge. let lt = t.low in let j = layout.journal in absurd (omega (arith, lt, j, ge))),
        )

    place_of : Place es a.newest (ring_entries w image w.journal) newest_ older
    place_of =
        record {
          ring = ring;
          ring_next = λ b. behind (entry_kind g) (bucket_start g b) (front b);
          bucket = s.bucket;
          room = record { stands = stands_in; kept = kept };
          stands = λ b lt. by_lt b w.journal (λ t. Stand (entry_len w) (entry_at w image b) (w.first b) (if t then put_all (seen_entry g) (front b) [] else []) (behind (entry_kind g) (bucket_start g b) (front b))) (λ _. stand b) (λ ge. absurd (omega (arith, lt, ge)));
          inside = λ b lt. inside b;
          only_ring = λ b le. by_lt b w.journal (λ t. (if t then put_all (seen_entry g) (front b) [] else []) ≡ []) (λ lt. absurd (omega (arith, lt, le))) (λ _. refl);
          current = (let j = layout.journal in let lt = s.low in omega (arith, j, lt));
          at = sym (stood_bucket g image g.journal e s) ∙ same;
          next = subst (λ m. IsNextPlace g es a.newest m) (sym next_is) is;
        }

  -- the next entry has one place, with all that stands before it
  pub place : (es : List FoundEntry) (a : jset.AreEntries g image es) (newest_ : Entry) (older : List Entry) → seen_entries g es ≡ newest_ ∷ older → Place es a.newest (ring_entries w image w.journal) newest_ older
  place es a newest_ older seen =
      let n = next_exists g image es a in
      let l = any_in (λ e. (bucket_of g e ≡ bucket_of g a.newest) × (end_of (entry_kind g) e ≡ n.0)) es n.1.last in
      place_of es a newest_ older seen n.0 n.1 l.0 (stood g image g.journal a.all l.0 a.stand (numbered_in a.all a.newest.item.last_seq (suc a.newest.item.seq) es l.0 a.numbered l.1)) l.2.0 l.2.1
