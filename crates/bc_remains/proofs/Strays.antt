-- No entry that counts stands elsewhere than where it is read.
use Rattle.std.proofs.Common.{subst, ◌≡◌, ◌≢◌, ◌⊎◌, inl, inr, ℕ, suc, ◌+◌, ◌*◌, ◌<◌, ◌≤◌, List, [], ◌∷◌, ◌++◌, Some, refl, sym, ap, ◌∙◌, arith}
use Rattle.std.proofs.lemmas.Bool.{cases_lt}
use Rattle.bc_model.specs.Sector.{Image}
use Rattle.bc_disk.specs.Device.{MayLeave}
use Rattle.bc_disk.specs.declared.geometry.Geometry.{Geometry}
use Rattle.bc_record.specs.Places.{at_place, bucket_at}
use Rattle.bc_record.proofs.Found.{one_found, takes_some}
use Rattle.bc_jset.specs.declared.entry.JEntry.{JEntry}
use Rattle.bc_jset.specs.Records.{entry_kind, EntryFound}
use Rattle.bc_jset.specs.Entries.{FoundEntry, StandsInJournal, bucket_start, bucket_end, first_with}
use Rattle.bc_jset.proofs.Records.{entry_codec}
use Rattle.bc_jset.proofs.Entries.{stand_in_journal}
use Rattle.bc_meta.specs.Facts.{In, IsAtBlock}
use Rattle.bc_meta.specs.Entries.{Entry, live}
use Rattle.bc_meta.specs.Layout.{Layout, entry_at, entry_len, image_keys}
use Rattle.bc_meta.specs.Records.{Nothing}
use Rattle.bc_meta.specs.Places.{NoChance, Places}
use Rattle.bc_meta.specs.Acts.{State}
use Rattle.bc_meta.specs.Laws.{IsSound, Opening, Survives, opened, reached}
use Rattle.bc_meta.proofs.Keep.{ready_some}
use Rattle.bc_meta.proofs.Scan.{first_block, next_block}
use Rattle.bc_meta.proofs.Acts as acts
use Rattle.bc_image.specs.Reading.{IsReading, Reading}
use Rattle.bc_image.specs.Sound.{HasNoStrayEntry}
use Rattle.bc_image.proofs.Unique.{one_reading}
use Rattle.bc_facts.specs.Seen.{seen_entry, seen_entries}
use Rattle.bc_facts.specs.Layout.{IsLayoutOf}
use Rattle.bc_facts.specs.Reads.{back}
use Rattle.bc_facts.proofs.Journal.{end_is, listed_is, seen_found}
use Rattle.bc_facts.proofs.Lists.{IsSeen, in_seen, seen_in}
use Rattle.bc_facts.proofs.Place.{of_seen, seen_of}
use Rattle.bc_facts.proofs.Stood.{all_in, bucket_lies, contains_in, in_contains, numbered_first}
use Rattle.bc_facts.proofs.Torn.{no_chance}
use Rattle.bc_remains.specs.Means.{Means}
use Rattle.bc_remains.specs.Laws.{LawNoStray}
use Rattle.bc_remains.proofs.Crash.{finds}
use Rattle.bc_remains.proofs.Next.{means}
use Rattle.bc_remains.proofs.Rings.{IsAt, RingOf, at_found, at_in, end_stands, in_at, run_ring, stand_end}

end_block : (w : Layout) (start : ℕ) (es : List Entry) → IsAtBlock w.block start (stand_end w start es)
end_block w start [] = first_block w.block start
end_block w start (e ∷ es) = next_block w.block start (entry_len w e) (stand_end w start es) (w.entries.whole e) (end_block w start es)

at_block : (w : Layout) (start : ℕ) (es : List Entry) (at : ℕ) (x : Entry) → IsAt w start es at x → IsAtBlock w.block start at
at_block w start [] at x h = absurd h
at_block w start (e ∷ es) at x (inl k) = subst (λ n. IsAtBlock w.block start n) (sym k.1) (end_block w start es)
at_block w start (e ∷ es) at x (inr k) = at_block w start es at x k

same_entry : (a b : FoundEntry) → a.place ≡ b.place → a.item ≡ b.item → a ≡ b
same_entry a b place item = ap (λ p. at_place p a.item) place ∙ ap (λ (i : JEntry). at_place b.place i) item

module _ (g : Geometry) (w : Layout) (layout : IsLayoutOf g w) (image : Image) where
  pub record Real (b at : ℕ) (e : Entry) : Type 0 where
    pub found : FoundEntry
    pub place : found.place ≡ at
    pub seen : seen_found g found ≡ e
    pub stands : StandsInJournal g image found
    pub lies : back g b ≡ bucket_at g at

  real_of : (b at : ℕ) (e : Entry) → b < w.journal → IsAtBlock w.block (w.first b) at → entry_at w image b at ≡ Some e → Real b at e
  real_of b at e lt block found =
      let k = (layout.entries.found image tt (w.first b + w.bucket_sectors) at e).0 found in
      let end = end_is g w layout image b in
      let j = layout.journal in
      let start : at ≡ bucket_start g b + g.block * block.0 = block.1 ∙ ap (λ n. n + w.block * block.0) (layout.first b) ∙ ap (λ n. bucket_start g b + n * block.0) layout.block in
      let there : EntryFound g image (bucket_end g b) at k.0 = subst (λ n. EntryFound g image n at k.0) end k.1.0 in
      let fits = k.1.1 in
      let some = takes_some (entry_kind g) (entry_codec g) k.0 in
      record {
        found = at_place at k.0;
        place = refl;
        seen = k.2;
        stands = (b, block.0, omega (arith, lt, j), start, there, omega (arith, fits, end));
        lies = sym (bucket_lies g (back g b) at (omega (arith, start)) (omega (arith, fits, end, some)));
      }

  pub record There (f : FoundEntry) : Type 0 where
    pub bucket : ℕ
    pub low : bucket < w.journal
    pub block : IsAtBlock w.block (w.first bucket) f.place
    pub found : entry_at w image bucket f.place ≡ Some (seen_found g f)
    pub end : EntryFound g image (bucket_end g bucket) f.place f.item

  there_is : (f : FoundEntry) → StandsInJournal g image f → There f
  there_is f s =
      let end = end_is g w layout image s.0 in
      let j = layout.journal in
      let lt = s.2 in
      let first = layout.first s.0 in
      let fits = s.5 in
      record {
        bucket = s.0;
        low = omega (arith, lt, j);
        block = (s.1, s.3 ∙ ap (λ n. n + g.block * s.1) (sym first) ∙ ap (λ n. w.first s.0 + n * s.1) (sym layout.block));
        found = (layout.entries.found image tt (w.first s.0 + w.bucket_sectors) f.place (seen_found g f)).1
            (f.item, (subst (λ n. EntryFound g image n f.place f.item) (sym end) s.4, omega (arith, fits, end)), refl);
        end = s.4;
      }

-- ---- at the opening

module _ (g : Geometry) (w : Layout) (layout : IsLayoutOf g w) (o : Opening) (sound : IsSound w o) (r : Reading) (is : IsReading g o.image r)
    (said : Means g r o.newest o.older (image_keys w o.owners o.image o.newest o.older) o.chain o.gens) (clean : HasNoStrayEntry g o.image r) where
  some_same : (a b : FoundEntry) → Some a ≡ Some b → a ≡ b
  some_same a b e = cc

  floor : r.newest.item.last_seq ≡ o.newest.last_seq
  floor = ap (λ (x : Entry). x.last_seq) said.newest_is

  listed : (f : FoundEntry) → StandsInJournal g o.image f → o.newest.last_seq ≤ f.item.seq → In f r.entries
  listed f stands le = let l = floor in contains_in r.entries f (clean f stands (omega (arith, l, le)))

  one_of : (a b : FoundEntry) → StandsInJournal g o.image a → StandsInJournal g o.image b → o.newest.last_seq ≤ a.item.seq → a.item.seq ≡ b.item.seq → a ≡ b
  one_of a b sa sb le same =
      some_same a b
      (sym (numbered_first is.entries.all is.entries.newest.item.last_seq (suc is.entries.newest.item.seq) r.entries a is.entries.numbered (listed a sa le))
      ∙ ap (λ n. first_with n is.entries.all) same
      ∙ numbered_first is.entries.all is.entries.newest.item.last_seq (suc is.entries.newest.item.seq) r.entries b is.entries.numbered (listed b sb (omega (arith, le, same))))

  in_ring : (b at : ℕ) (x : Entry) → IsAt w (w.first b) (o.ring b) at x → b < w.journal
  in_ring b at x h = elim (cases_lt b w.journal) [
    | inl lt ↦ lt
    | inr ge ↦ absurd (subst (λ (l : List Entry). IsAt w (w.first b) l at x) (sound.whole.only_ring b ge) h)
  ]

  ring_real : (b at : ℕ) (x : Entry) → IsAt w (w.first b) (o.ring b) at x → Real g w layout o.image b at x
  ring_real b at x h =
      let lt = in_ring b at x h in
      real_of g w layout o.image b at x lt (at_block w (w.first b) (o.ring b) at x h)
      (at_found w (entry_at w o.image b) (w.first b) (o.ring b) (o.ring_next b) (sound.whole.stands b lt) at x h)

  once : (b c at bt : ℕ) (x y : Entry) → Real g w layout o.image b at x → Real g w layout o.image c bt y → o.newest.last_seq ≤ x.number → x.number ≡ y.number → (b ≡ c) × (at ≡ bt)
  once b c at bt x y p q le same =
      let nx = ap (λ (z : Entry). z.number) p.seen in
      let ny = ap (λ (z : Entry). z.number) q.seen in
      let one = one_of p.found q.found p.stands q.stands (omega (arith, le, nx)) (omega (arith, nx, ny, same)) in
      let place : at ≡ bt = sym p.place ∙ ap (λ (f : FoundEntry). f.place) one ∙ q.place in
      let bucket : back g b ≡ back g c = p.lies ∙ ap (λ n. bucket_at g n) place ∙ sym q.lies in
      (omega (arith, bucket), place)

  stood : (b at : ℕ) (e : Entry) → b < w.journal → IsAtBlock w.block (w.first b) at → entry_at w o.image b at ≡ Some e → (e.number < o.newest.last_seq) ⊎ IsAt w (w.first b) (o.ring b) at e
  stood b at e lt block found = elim (cases_lt e.number o.newest.last_seq) [ inl low ↦ inl low | inr ge ↦ inr (there ge) ]
    where
      there : o.newest.last_seq ≤ e.number → IsAt w (w.first b) (o.ring b) at e
      there ge =
          let p = real_of g w layout o.image b at e lt block found in
          let n = ap (λ (z : Entry). z.number) p.seen in
          let i = listed p.found p.stands (omega (arith, ge, n)) in
          let seen : In e (o.newest ∷ o.older) =
          subst (λ (x : Entry). In x (o.newest ∷ o.older)) p.seen (subst (λ (l : List Entry). In (seen_found g p.found) l) (listed_is g r.entries ∙ said.entries)
          (in_seen (seen_found g) r.entries [] (seen_found g p.found) (inl (seen_of (seen_found g) p.found r.entries i)))) in
          let kept = sound.whole.room.kept e seen in
          let k = in_at w (w.first kept.0) (o.ring kept.0) e kept.1 in
          let q = ring_real kept.0 k.0 e k.1 in
          let same = once b kept.0 at k.0 e e p q ge refl in
          subst (λ m. IsAt w (w.first m) (o.ring m) at e) (sym same.0) (subst (λ m. IsAt w (w.first kept.0) (o.ring kept.0) m e) (sym same.1) k.1)

  pub opened_ring : RingOf w o.image (opened w o).places
  opened_ring = record {
    stood = stood;
    wrote = λ b at e k. absurd k;
    next = end_stands w (entry_at w o.image o.bucket) (w.first o.bucket) (o.ring o.bucket) (o.ring_next o.bucket) (sound.whole.stands o.bucket sound.whole.current);
    once = λ b c at bt x y h k le same. once b c at bt x y (ring_real b at x h) (ring_real c bt y k) le same;
    low = λ b at x h. sound.whole.sound.entries.greatest x (sound.whole.room.stands b x (at_in w (w.first b) (o.ring b) at x h));
    follows = λ none. absurd (none refl);
  }

-- ---- of what is left

module _ (g : Geometry) (w : Layout) (layout : IsLayoutOf g w) (opening : Image) (p : Places) (ring : RingOf w opening p) (chance : NoChance w opening p) (image : Image) (left : MayLeave p.device image) where
  abbrev Where : ℕ → ℕ → Entry → Type 0
  Where b at e = IsAt w (w.first b) (p.records.ring b) at e ⊎ ((b ≡ p.records.bucket) × (at ≡ p.ring_next p.records.bucket) × (e ≡ p.records.entry) × (p.records.stage ≢ Nothing))

  where_is : (f : FoundEntry) (t : There g w layout image f) → p.records.newest.last_seq ≤ f.item.seq → Where t.bucket f.place (seen_found g f)
  where_is f t le = elim (chance.entries image t.bucket f.place (seen_found g f) left t.low t.block t.found) [
    | inl before ↦ elim (ring.stood t.bucket f.place (seen_found g f) t.low t.block before) [ inl low ↦ absurd (omega (arith, low, le)) | inr at ↦ inl at ]
    | inr wrote ↦ elim (ring.wrote t.bucket f.place (seen_found g f) wrote) [ inl low ↦ absurd (omega (arith, low, le)) | inr x ↦ x ]
  ]

  same_place : (b c at bt : ℕ) (x y : Entry) → Where b at x → Where c bt y → p.records.newest.last_seq ≤ x.number → x.number ≡ y.number → (b ≡ c) × (at ≡ bt)
  same_place b c at bt x y (inl h) (inl k) le same = ring.once b c at bt x y h k le same
  same_place b c at bt x y (inl h) (inr k) le same = let low = ring.low b at x h in let n = (ring.follows k.3).0 in let is = ap (λ (z : Entry). z.number) k.2 in absurd (omega (arith, low, n, is, same))
  same_place b c at bt x y (inr h) (inl k) le same = let low = ring.low c bt y k in let n = (ring.follows h.3).0 in let is = ap (λ (z : Entry). z.number) h.2 in absurd (omega (arith, low, n, is, same))
  same_place b c at bt x y (inr h) (inr k) le same = (h.0 ∙ sym k.0, h.1 ∙ sym k.1)

  one_there : (a b : FoundEntry) → StandsInJournal g image a → StandsInJournal g image b → p.records.newest.last_seq ≤ a.item.seq → a.item.seq ≡ b.item.seq → a ≡ b
  one_there a b sa sb le same =
      let ta = there_is g w layout image a sa in
      let tb = there_is g w layout image b sb in
      let k = same_place ta.bucket tb.bucket a.place b.place (seen_found g a) (seen_found g b) (where_is a ta le) (where_is b tb (omega (arith, le, same))) le same in
      let item : a.item ≡ b.item =
      one_found (entry_kind g) (entry_codec g) image (bucket_end g tb.bucket) b.place a.item b.item
      (subst (λ n. EntryFound g image (bucket_end g n) b.place a.item) k.0 (subst (λ n. EntryFound g image (bucket_end g ta.bucket) n a.item) k.1 ta.end)) tb.end in
      same_entry a b k.1 item

  pub no_stray : (newest : Entry) (older : List Entry) (r : Reading) → IsReading g image r → seen_entries g r.entries ≡ newest ∷ older → seen_entry g r.newest.item ≡ newest
      → ((b at : ℕ) (e : Entry) → b < w.journal → IsAtBlock w.block (w.first b) at → entry_at w image b at ≡ Some e → (e.number < newest.last_seq) ⊎ In e (newest ∷ older))
      → p.records.newest.last_seq ≤ newest.last_seq → HasNoStrayEntry g image r
  no_stray newest older r is entries newest_is stray le f stands counts =
      let t = there_is g w layout image f stands in
      let floor = ap (λ (x : Entry). x.last_seq) newest_is in
      elim (stray t.bucket f.place (seen_found g f) t.low t.block t.found) [
        | inl low ↦ absurd (omega (arith, low, floor, counts))
        | inr i ↦
            (let v : IsSeen (seen_found g) (seen_found g f) r.entries = elim (seen_in (seen_found g) r.entries [] (seen_found g f) (subst (λ (l : List Entry). In (seen_found g f) l) (sym (listed_is g r.entries ∙ entries)) i)) [ inl k ↦ k | inr k ↦ absurd k ] in
            let x = of_seen (seen_found g) (seen_found g f) r.entries v in
            let sx = all_in (StandsInJournal g image) r.entries x.0 (stand_in_journal g image r.entries is.entries) x.1 in
            let number = ap (λ (z : Entry). z.number) x.2 in
            let one = one_there f x.0 stands sx (omega (arith, le, floor, counts)) number in
            in_contains r.entries f (subst (λ (y : FoundEntry). In y r.entries) (sym one) x.1))
      ]

module _ (g : Geometry) (w : Layout) (layout : IsLayoutOf g w) (opening : Image) (st : State) (ring : RingOf w opening st.places) (chance : NoChance w opening st.places) (image : Image) (left : MayLeave st.places.device image) where
  left_clean : Survives w st image → (r : Reading) → IsReading g image r → HasNoStrayEntry g image r
  left_clean s r is = elim s.finds [
    | inl f ↦
        (let k = finds g w layout image st st.places.records.newest st.places.records.older st.places.records.index st.durable_chain f in
        let one = one_reading g image k.0 r k.1 is in
        subst (λ (x : Reading). HasNoStrayEntry g image x) one
        (no_stray g w layout opening st.places ring chance image left st.places.records.newest st.places.records.older k.0 k.1 k.2.entries k.2.newest_is f.again.whole.stray (omega arith)))
    | inr f ↦
        (let k = finds g w layout image st st.places.records.entry (live st.places.records.entry.last_seq (st.places.records.newest ∷ st.places.records.older)) (st.places.records.entry.keys ++ st.places.records.index) st.sealed_chain f.1 in
        let one = one_reading g image k.0 r k.1 is in
        subst (λ (x : Reading). HasNoStrayEntry g image x) one
        (no_stray g w layout opening st.places ring chance image left st.places.records.entry (live st.places.records.entry.last_seq (st.places.records.newest ∷ st.places.records.older)) k.0 k.1 k.2.entries k.2.newest_is f.1.again.whole.stray ((ring.follows (ready_some st.places.records.stage f.0)).1)))
  ]

pub law_no_stray : LawNoStray
law_no_stray g w o acts_ run before is clean image left r read =
    let m = means g w run.layout o run.sound in
    let one = one_reading g o.image m.0 before m.1 is in
    let said : Means g before o.newest o.older (image_keys w o.owners o.image o.newest o.older) o.chain o.gens =
    subst (λ (x : Reading). Means g x o.newest o.older (image_keys w o.owners o.image o.newest o.older) o.chain o.gens) one m.2 in
    let chance = no_chance g w run.layout o.image (reached w o acts_).places run.no_torn in
    left_clean g w run.layout o.image (reached w o acts_) (run_ring w o.image (opened w o) acts_ run.run (opened_ring g w run.layout o run.sound before is said clean)) chance image left
    (acts.law_crash w o acts_ run.sound run.run chance image left) r read
