-- What a crash leaves of a ring while an entry is written.
use Rattle.std.proofs.Common.{◌≡◌, ◌⊎◌, inl, inr, ℕ, suc, ◌+◌, ◌*◌, ◌<◌, ◌≤◌, Bool, true, false, ◌&&◌, not, ◌||◌, List, [], ◌∷◌, ◌++◌, length, Some, None, refl, sym, subst, ap, ◌∙◌, arith}
use Rattle.std.specs.Prelude.{All, nat_le, slice_index, slice_set, if◌then◌else◌}
use Rattle.std.proofs.lemmas.Bool.Decides.{nat_tests}
use Rattle.std.proofs.lemmas.Grind.{get_or-set_at}
use Rattle.std.proofs.lemmas.List.{get_or-set_other}
use Rattle.bc_model.specs.Sector.{Image}
use Rattle.bc_model.proofs.Cases.{by_le, by_test}
use Rattle.bc_disk.specs.declared.geometry.Geometry.{Geometry}
use Rattle.bc_record.specs.Sectors.{AgreeOn}
use Rattle.bc_record.specs.Kind.{behind}
use Rattle.bc_record.proofs.Parts.{bytes_to-agree}
use Rattle.bc_jset.specs.declared.entry.JEntry.{JEntry}
use Rattle.bc_jset.specs.EntryBytes.{IsEntry}
use Rattle.bc_jset.specs.Records.{entry_kind, entry_sectors, EntryFound}
use Rattle.bc_record.specs.Places.{items_of}
use Rattle.bc_jset.specs.Entries.{FoundEntry, bucket_start, bucket_end, StandIn, AreEntries, AreNumbered, first_with}
use Rattle.bc_journal.specs.Ring.{Ring, is_free, may_begin, following, place_of, with_entry}
use Rattle.bc_journal.specs.Sealed.{numbers_of, sector_at}
use Rattle.bc_journal.specs.Images.{StandFrom, behind_in, StandsFirm, CountUp, EndsWith, FoundAtBlock, Holds, MayLeave, IsRead, with_sealed}
use Rattle.bc_journal.specs.declared.place.Place.{Place}
use Rattle.bc_journal.specs.declared.place.Numbers.{Numbers}
use Rattle.bc_journal.proofs.Members.{In, in_left, in_right, in_either, in_list, contained, all_in, has_in, count_from, count_to, count_one, count_needed, in_needed, needed_in, needed_of, count_more, FirstIs, first_is, numbered_by, all_items, found_or_none}
use Rattle.bc_journal.proofs.Rows.{in_all, found_at, behind_more, stand_more, stand_part, row_fits, row_stays, buckets_apart, first_bucket_first, bucket_whole}

-- ---- what a reader makes of it

pub read_as : (g : Geometry) (image : Image) (low high : ℕ) (es : List JEntry) (all : List FoundEntry) → CountUp low es (suc high) → EndsWith es low → StandIn g image g.journal all
    → ((e : JEntry) → In e es → In e (items_of all)) → ((x : JEntry) → In x (items_of all) → (x.seq < low) ⊎ In x es) → IsRead g image es
read_as g image low high es all numbers ends stand stays others =
    let newest = ends.newest in
    let last : In newest es = subst (In newest) (sym ends.parts) (in_right newest ends.older (newest ∷ []) (inl refl)) in
    let high_is : newest.seq ≡ high = newest_number low high ends.older newest (subst (λ (xs : List JEntry). CountUp low xs (suc high)) ends.parts numbers) in
    let one : (e : JEntry) → In e es → (x : JEntry) → In x (items_of all) → x.seq ≡ e.seq → x ≡ e =
    λ e p x q same. (elim (others x q) [
      | inl below ↦ absurd (omega (arith, below, same, count_from low (suc high) es e numbers p))
      | inr here ↦ count_one low (suc high) es x e numbers here p same
    ]) in
    let first : (e : JEntry) → In e es → FirstIs all e = λ e p. first_is all e (stays e p) (one e p) in
    let reaches : newest.last_seq ≤ newest.seq = omega (arith, ends.last_seq, count_from low (suc high) es newest numbers last) in
    let top = first newest last in
    let list = numbered_by all low (suc high) es numbers first in
    let greatest = all_items (λ e. e.seq ≤ newest.seq) all (λ x q. (elim (others x q) [
      | inl below ↦ omega (arith, below, reaches, ends.last_seq)
      | inr here ↦ (let to = count_to low (suc high) es x numbers here in omega (arith, to, high_is))
    ])) in (
      list.0,
      list.1,
      record {
        all = all;
        stand = stand;
        newest = top.0;
        is_newest = record {
          counts = subst (λ (e : JEntry). first_with e.seq all ≡ Some top.0) (sym top.1) top.2;
          greatest = subst (λ (e : JEntry). All (λ (f : FoundEntry). f.item.seq ≤ e.seq) all) (sym top.1) greatest;
        };
        reaches = subst (λ (e : JEntry). e.last_seq ≤ e.seq) (sym top.1) reaches;
        numbered =
            subst (λ (e : JEntry). AreNumbered all e.last_seq list.0 (suc e.seq)) (sym top.1)
            (subst (λ n. AreNumbered all n list.0 (suc newest.seq)) (sym ends.last_seq) (subst (λ n. AreNumbered all low list.0 (suc n)) (sym high_is) list.2));
      },
    )
  where
    newest_number : (low high : ℕ) (older : List JEntry) (newest : JEntry) → CountUp low (older ++ newest ∷ []) (suc high) → newest.seq ≡ high
    newest_number low high [] newest p = omega (arith, p.0, p.1)
    newest_number low high (d ∷ ds) newest p = newest_number (suc low) high ds newest p.1

-- ---- where the next entry goes

-- behind the last one, or to the front of a free bucket
abbrev pub Goes : Ring → ℕ → ℕ → Place → Type 0
Goes ring low sectors p =
    ((ring.next ≡ p) × (ring.next.sector + sectors ≤ ring.geometry.bucket))
    ⊎ ((p.sector ≡ 0) × (slice_index ring.newest p.bucket < low) × (following ring.geometry ring.next.bucket ≡ p.bucket))

pick_cases : (here may : Bool) (next front p : Place) → (if here then Some next else (if may then Some front else None)) ≡ Some p
    → ((here ≡ true) × (next ≡ p)) ⊎ ((may ≡ true) × (front ≡ p))
pick_cases true may next front p is = inl (refl, cc)
pick_cases false true next front p is = inr (refl, cc)
pick_cases false false next front p is = absurd (cc)

and_first : (a b : Bool) → (a && b) ≡ true → a ≡ true
and_first true b h = refl
and_first false b h = absurd (cc)

free_is : (ring : Ring) (low bucket : ℕ) → is_free ring low bucket ≡ true → slice_index ring.newest bucket < low
free_is ring low bucket free = grind (arith, nat_tests)

fits_is : (a b : ℕ) → nat_le a b ≡ true → a ≤ b
fits_is a b is = grind (arith, nat_tests)

pub goes : (ring : Ring) (low : ℕ) (keyed : Bool) (sectors : ℕ) (p : Place) → place_of ring low keyed sectors ≡ Some p → Goes ring low sectors p
goes ring low keyed sectors p is =
    let bucket = following ring.geometry ring.next.bucket in
    elim (pick_cases (nat_le (ring.next.sector + sectors) ring.geometry.bucket) (may_begin ring low keyed bucket) ring.next (record { bucket = bucket; sector = 0 }) p is) [
      | inl here ↦ inl (here.1, fits_is (ring.next.sector + sectors) ring.geometry.bucket here.0)
      | inr front ↦ (
          let free : is_free ring low bucket ≡ true = and_first (is_free ring low bucket) (not keyed || is_free ring low (following ring.geometry bucket)) front.0 in
          inr (ap (λ (q : Place). q.sector) (sym front.1), subst (λ n. slice_index ring.newest n < low) (ap (λ (q : Place). q.bucket) front.1) (free_is ring low bucket free), ap (λ (q : Place). q.bucket) front.1))
    ]

-- ---- while an entry is written

-- the entry e goes to p in the ring, over image a, and leaves image b; es are the entries so far
pub record Writes (ring : Ring) (durable : Numbers) (p : Place) (e : JEntry) (a b : Image) (es : List JEntry) : Type 0 where
  pub holds : Holds ring durable a es
  pub goes : Goes ring durable.last_seq (entry_sectors ring.geometry e) p
  pub inside : p.sector + entry_sectors ring.geometry e ≤ ring.geometry.bucket
  pub bucket : p.bucket < ring.geometry.journal
  pub buckets : length ring.newest ≡ ring.geometry.journal
  pub seq : e.seq ≡ suc durable.seq
  pub from : durable.last_seq ≤ e.last_seq
  pub to : e.last_seq ≤ e.seq
  pub leaves : MayLeave (record { geometry = ring.geometry; place = p; entry = e }) a b

-- what lies outside the entry in one bucket stays
stay_in : (ring : Ring) (durable : Numbers) (p : Place) (e : JEntry) (a b : Image) (es : List JEntry) → Writes ring durable p e a b es → (bucket to : ℕ) → bucket < ring.geometry.journal
    → to ≤ bucket_end ring.geometry bucket → (bucket ≡ p.bucket → to ≤ bucket_start ring.geometry bucket + p.sector) → AgreeOn a b (bucket_start ring.geometry bucket) to
stay_in ring durable p e a b es w bucket to within ends before t low high =
    let g = ring.geometry in
    let first = first_bucket_first g bucket in
    let last = buckets_apart g bucket g.journal within in
    let inside = w.inside in
    w.leaves.stay t (omega (arith, first, low)) (omega (arith, last, high, ends)) (by_le bucket p.bucket (λ _. (t < sector_at g p) ⊎ (sector_at g p + entry_sectors g e ≤ t))
    (λ up. by_test bucket p.bucket (λ _. (t < sector_at g p) ⊎ (sector_at g p + entry_sectors g e ≤ t))
    (λ is. inl (let at = before is in let same : bucket_start g bucket ≡ bucket_start g p.bucket = ap (bucket_start g) is in omega (arith, at, same, high)))
    (λ ne. inl (let apart = buckets_apart g bucket p.bucket (omega (arith, up, ne)) in omega (arith, apart, high, ends))))
    (λ below. inr (let apart = buckets_apart g p.bucket bucket below in omega (arith, apart, low, inside))))

-- what a bucket's greatest number is once an entry is in the ring
newest_more : (xs : List ℕ) (i n k seq : ℕ) → seq ≤ slice_index xs k → seq ≤ n → i < length xs → seq ≤ slice_index (slice_set xs i n) k
newest_more xs i n k seq old new inside =
    by_test k i (λ _. seq ≤ slice_index (slice_set xs i n) k)
    (λ is. (let at : slice_index (slice_set xs i n) k ≡ n = get_or-set_at xs i k n 0 is inside in omega (arith, at, new)))
    (λ ne. (let at : slice_index (slice_set xs i n) k ≡ slice_index xs k = get_or-set_other xs i k n 0 ne in omega (arith, at, old)))

-- the older entries stand as before
pub firm_left : (ring : Ring) (durable : Numbers) (p : Place) (e : JEntry) (a b : Image) (es : List JEntry) → Writes ring durable p e a b es → (d : JEntry) → In d es
    → StandsFirm (with_entry ring p (entry_sectors ring.geometry e) e.seq) b d
firm_left ring durable p e a b es w d in_es =
    let g = ring.geometry in
    let firm = has_in (StandsFirm ring a) es d w.holds.firm in_es in
    let low = count_from durable.last_seq (suc durable.seq) es d w.holds.numbers in_es in
    let high = count_to durable.last_seq (suc durable.seq) es d w.holds.numbers in_es in
    let bucket = firm.bucket in
    let row = firm.before ++ d ∷ [] in
    let start = bucket_start g bucket in
    let whole = bucket_whole g bucket in
    let stands : StandFrom g a (bucket_end g bucket) start row = stand_more g a (bucket_end g bucket) start firm.before d firm.stand firm.here in
    let ends : behind (entry_kind g) start row ≤ bucket_end g bucket = row_fits g a (bucket_end g bucket) start whole.0 row whole.1 stands in
    let more = behind_more g start firm.before d in
    let passed : bucket ≡ p.bucket → behind (entry_kind g) start row ≤ start + p.sector =
    λ is. (elim w.goes [
      | inl next ↦ (
          let here = firm.passed (is ∙ ap (λ (q : Place). q.bucket) (sym next.0)) in
          let at : ring.next.sector ≡ p.sector = ap (λ (q : Place). q.sector) next.0 in
          omega (arith, here, at, more))
      | inr front ↦ absurd (let newest = subst (λ n. d.seq ≤ slice_index ring.newest n) is firm.newest in omega (arith, newest, front.1, low))
    ]) in
    let left = row_stays g a b (bucket_end g bucket) start whole.0 row whole.1 stands (stay_in ring durable p e a b es w bucket (behind (entry_kind g) start row) firm.within ends passed) in
    let parts = stand_part g b (bucket_end g bucket) start firm.before d left in
    record {
      bucket = bucket;
      within = firm.within;
      before = firm.before;
      stand = parts.0;
      here = parts.1;
      newest = newest_more ring.newest p.bucket e.seq bucket d.seq firm.newest (omega (arith, high, w.seq)) (omega (arith, w.buckets, w.bucket));
      passed = λ is. (let at = passed is in omega (arith, at, more));
    }

-- whatever is found is older than what is needed, one of the older entries, or the new one
pub others_left : (ring : Ring) (durable : Numbers) (p : Place) (e : JEntry) (a b : Image) (es : List JEntry) → Writes ring durable p e a b es → (bucket block : ℕ) (x : JEntry)
    → FoundAtBlock ring.geometry b bucket block x → (x.seq < durable.last_seq) ⊎ (In x es ⊎ (x ≡ e))
others_left ring durable p e a b es w bucket block x found = elim (w.leaves.no_chance bucket block x found) [
  | inl old ↦ (elim (w.holds.others bucket block x old) [
    | inl below ↦ inl below
    | inr here ↦ inr (inl (in_list x es here))
  ])
  | inr new ↦ inr (inr new.1)
]

-- with the new entry: what is found is older than it needs, or one of those that it keeps, or itself
pub others_with : (ring : Ring) (durable : Numbers) (p : Place) (e : JEntry) (a b : Image) (es : List JEntry) → Writes ring durable p e a b es → (x : JEntry)
    → (x.seq < durable.last_seq) ⊎ (In x es ⊎ (x ≡ e)) → (x.seq < e.last_seq) ⊎ In x (with_sealed es e)
others_with ring durable p e a b es w x (inl below) = inl (let from = w.from in omega (arith, below, from))
others_with ring durable p e a b es w x (inr (inl here)) =
    by_le e.last_seq x.seq (λ _. (x.seq < e.last_seq) ⊎ In x (with_sealed es e)) (λ at. inr (in_left x (needed_of e.last_seq es) (e ∷ []) (in_needed e.last_seq es x here at))) (λ below. inl below)
others_with ring durable p e a b es w x (inr (inr is)) = inr (in_right x (needed_of e.last_seq es) (e ∷ []) (inl is))

numbers_with : (ring : Ring) (durable : Numbers) (p : Place) (e : JEntry) (a b : Image) (es : List JEntry) → Writes ring durable p e a b es → CountUp e.last_seq (with_sealed es e) (suc e.seq)
numbers_with ring durable p e a b es w =
    let to = w.to in
    let seq = w.seq in
    let kept = count_needed durable.last_seq (suc durable.seq) e.last_seq es w.from (omega (arith, to, seq)) w.holds.numbers in
    subst (λ n. CountUp e.last_seq (with_sealed es e) (suc n)) (sym seq) (count_more e.last_seq (suc durable.seq) (needed_of e.last_seq es) e kept seq)

ends_with : (es : List JEntry) (e : JEntry) → EndsWith (with_sealed es e) e.last_seq
ends_with es e = record { older = needed_of e.last_seq es; newest = e; parts = refl; last_seq = refl }

-- ---- the laws

pub crash : (ring : Ring) (durable : Numbers) (p : Place) (e : JEntry) (a b : Image) (es : List JEntry) (all : List FoundEntry) → Writes ring durable p e a b es → StandIn ring.geometry b ring.geometry.journal all
    → IsRead ring.geometry b es ⊎ IsRead ring.geometry b (with_sealed es e)
crash ring durable p e a b es all w stand =
    let g = ring.geometry in
    let old_in : (d : JEntry) → In d es → In d (items_of all) =
    λ d q. (let firm = firm_left ring durable p e a b es w d q in in_all g b g.journal all firm.bucket firm.before d stand firm.within firm.stand firm.here) in
    let found : (x : JEntry) → In x (items_of all) → (x.seq < durable.last_seq) ⊎ (In x es ⊎ (x ≡ e)) =
    λ x q. (let at = found_at g b all x stand q in others_left ring durable p e a b es w at.0 at.1 x at.2) in
    let seq = w.seq in
    elim (found_or_none e.seq (items_of all)) [
      | inl some ↦ (
          let is : some.0 ≡ e = only_new ring durable p e a b es w some.0 some.2 (found some.0 some.1) in
          let there : In e (items_of all) = subst (λ (x : JEntry). In x (items_of all)) is some.1 in
          inr (read_as g b e.last_seq e.seq (with_sealed es e) all (numbers_with ring durable p e a b es w) (ends_with es e) stand
          (λ d q. (elim (in_either d (needed_of e.last_seq es) (e ∷ []) q) [
            | inl kept ↦ old_in d (needed_in e.last_seq es d kept)
            | inr last ↦ (elim last [ inl same ↦ subst (λ (x : JEntry). In x (items_of all)) (sym same) there | inr none ↦ elim none [ ] ])
          ]))
          (λ x q. others_with ring durable p e a b es w x (found x q))))
      | inr none ↦ inl (read_as g b durable.last_seq durable.seq es all w.holds.numbers w.holds.newest stand old_in
          (λ x q. (elim (found x q) [
            | inl below ↦ inl below
            | inr more ↦ (elim more [ inl here ↦ inr here | inr is ↦ absurd (none x q (ap (λ (z : JEntry). z.seq) is)) ])
          ])))
    ]
  where
    only_new : (ring : Ring) (durable : Numbers) (p : Place) (e : JEntry) (a b : Image) (es : List JEntry) → Writes ring durable p e a b es → (x : JEntry) → x.seq ≡ e.seq
        → (x.seq < durable.last_seq) ⊎ (In x es ⊎ (x ≡ e)) → x ≡ e
    only_new ring durable p e a b es w x same (inl below) = absurd (let from = w.from in let to = w.to in omega (arith, below, from, to, same))
    only_new ring durable p e a b es w x same (inr (inl here)) = absurd (let to = count_to durable.last_seq (suc durable.seq) es x w.holds.numbers here in let seq = w.seq in omega (arith, to, seq, same))
    only_new ring durable p e a b es w x same (inr (inr is)) = is

-- the new entry stands behind those that the ring went on behind
new_stands : (ring : Ring) (durable : Numbers) (p : Place) (e : JEntry) (a b : Image) (es : List JEntry) → Writes ring durable p e a b es
    → EntryFound ring.geometry b (bucket_end ring.geometry p.bucket) (sector_at ring.geometry p) e
    → (before : List JEntry) × StandFrom ring.geometry b (bucket_end ring.geometry p.bucket) (bucket_start ring.geometry p.bucket) before × (behind_in ring.geometry p.bucket before ≡ sector_at ring.geometry p)
new_stands ring durable p e a b es w found = elim w.goes [
  | inl next ↦ (
      let g = ring.geometry in
      let on = w.holds.next in
      let bucket = ring.next.bucket in
      let same : ring.next.bucket ≡ p.bucket = ap (λ (q : Place). q.bucket) next.0 in
      let sector : ring.next.sector ≡ p.sector = ap (λ (q : Place). q.sector) next.0 in
      let whole = bucket_whole g bucket in
      let start = bucket_start g bucket in
      let reaches = on.reaches in
      let ends : behind (entry_kind g) start on.before ≤ bucket_end g bucket = omega (arith, reaches, next.1) in
      let left = row_stays g a b (bucket_end g bucket) start whole.0 on.before whole.1 on.stand
      (stay_in ring durable p e a b es w bucket (behind (entry_kind g) start on.before) (subst (λ n. n < g.journal) (sym same) w.bucket) ends (λ _. omega (arith, reaches, sector))) in
      let at : behind_in g p.bucket on.before ≡ bucket_start g p.bucket + ring.next.sector = subst (λ n. behind_in g n on.before ≡ bucket_start g n + ring.next.sector) same reaches in
      (on.before, subst (λ n. StandFrom g b (bucket_end g n) (bucket_start g n) on.before) same left, omega (arith, at, sector)))
  | inr front ↦ ([], tt, omega (arith, front.0))
]

pub written : (ring : Ring) (durable : Numbers) (p : Place) (e : JEntry) (a b : Image) (es : List JEntry) → Writes ring durable p e a b es
    → EntryFound ring.geometry b (bucket_end ring.geometry p.bucket) (sector_at ring.geometry p) e
    → Holds (with_entry ring p (entry_sectors ring.geometry e) e.seq) (numbers_of e) b (with_sealed es e)
written ring durable p e a b es w found =
    let g = ring.geometry in
    let row = new_stands ring durable p e a b es w found in
    let here : EntryFound g b (bucket_end g p.bucket) (behind_in g p.bucket row.0) e = subst (λ n. EntryFound g b (bucket_end g p.bucket) n e) (sym row.2) found in
    let more = behind_more g (bucket_start g p.bucket) row.0 e in
    let at = row.2 in
    let new : StandsFirm (with_entry ring p (entry_sectors g e) e.seq) b e = record {
      bucket = p.bucket;
      within = w.bucket;
      before = row.0;
      stand = row.1;
      here = here;
      newest = (let now : slice_index (slice_set ring.newest p.bucket e.seq) p.bucket ≡ e.seq = get_or-set_at ring.newest p.bucket p.bucket e.seq 0 refl (omega (arith, w.buckets, w.bucket)) in omega (arith, now));
      passed = λ _. omega (arith, at);
    } in
    record {
      numbers = numbers_with ring durable p e a b es w;
      newest = ends_with es e;
      firm = all_in (StandsFirm (with_entry ring p (entry_sectors g e) e.seq) b) (with_sealed es e) (λ d q. (elim (in_either d (needed_of e.last_seq es) (e ∷ []) q) [
        | inl kept ↦ firm_left ring durable p e a b es w d (needed_in e.last_seq es d kept)
        | inr last ↦ (elim last [ inl same ↦ subst (λ (x : JEntry). StandsFirm (with_entry ring p (entry_sectors g e) e.seq) b x) (sym same) new | inr none ↦ elim none [ ] ])
      ]));
      next = record { within = w.bucket; before = row.0 ++ e ∷ []; stand = stand_more g b (bucket_end g p.bucket) (bucket_start g p.bucket) row.0 e row.1 here; reaches = omega (arith, more, at) };
      others = λ bucket block x f. (elim (others_with ring durable p e a b es w x (others_left ring durable p e a b es w bucket block x f)) [
        | inl below ↦ inl below
        | inr kept ↦ inr (contained x (with_sealed es e) kept)
      ]);
    }

-- where nothing is written
pub read_now : (ring : Ring) (durable : Numbers) (image : Image) (es : List JEntry) (all : List FoundEntry) → Holds ring durable image es → StandIn ring.geometry image ring.geometry.journal all → IsRead ring.geometry image es
read_now ring durable image es all holds stand =
    let g = ring.geometry in
    read_as g image durable.last_seq durable.seq es all holds.numbers holds.newest stand
    (λ d q. (let firm = has_in (StandsFirm ring image) es d holds.firm q in in_all g image g.journal all firm.bucket firm.before d stand firm.within firm.stand firm.here))
    (λ x q. (let at = found_at g image all x stand q in elim (holds.others at.0 at.1 x at.2) [ inl below ↦ inl below | inr here ↦ inr (in_list x es here) ]))

-- ---- while nothing is written

row_stays_in : (g : Geometry) (a b : Image) (bucket : ℕ) (row : List JEntry) → bucket < g.journal → AgreeOn a b (bucket_start g 0) (bucket_start g g.journal)
    → StandFrom g a (bucket_end g bucket) (bucket_start g bucket) row → StandFrom g b (bucket_end g bucket) (bucket_start g bucket) row
row_stays_in g a b bucket row within same stand =
    let whole = bucket_whole g bucket in
    let ends = row_fits g a (bucket_end g bucket) (bucket_start g bucket) whole.0 row whole.1 stand in
    let first = first_bucket_first g bucket in
    let last = buckets_apart g bucket g.journal within in
    row_stays g a b (bucket_end g bucket) (bucket_start g bucket) whole.0 row whole.1 stand (λ t low high. same t (omega (arith, first, low)) (omega (arith, last, high, ends)))

found_back : (g : Geometry) (a b : Image) (bucket block : ℕ) (e : JEntry) → AgreeOn a b (bucket_start g 0) (bucket_start g g.journal) → FoundAtBlock g b bucket block e → FoundAtBlock g a bucket block e
found_back g a b bucket block e same found =
    let first = first_bucket_first g bucket in
    let last = buckets_apart g bucket g.journal found.0 in
    let start = bucket_start g bucket in
    let there : AgreeOn b a start (bucket_end g bucket) = λ t low high. sym (same t (omega (arith, first, low)) (omega (arith, last, high))) in
    (found.0, subst (λ (bs : List ℕ). IsEntry g.set_magic bs e) (bytes_to-agree b a start (bucket_end g bucket) (start + g.block * block) (omega arith) there) found.1)

pub holds_stays : (ring : Ring) (durable : Numbers) (a b : Image) (es : List JEntry) → Holds ring durable a es → AgreeOn a b (bucket_start ring.geometry 0) (bucket_start ring.geometry ring.geometry.journal)
    → Holds ring durable b es
holds_stays ring durable a b es holds same =
    let g = ring.geometry in record {
      numbers = holds.numbers;
      newest = holds.newest;
      firm = all_in (StandsFirm ring b) es (λ d q. (
          let firm = has_in (StandsFirm ring a) es d holds.firm q in
          let row = row_stays_in g a b firm.bucket (firm.before ++ d ∷ []) firm.within same (stand_more g a (bucket_end g firm.bucket) (bucket_start g firm.bucket) firm.before d firm.stand firm.here) in
          let parts = stand_part g b (bucket_end g firm.bucket) (bucket_start g firm.bucket) firm.before d row in
          record { bucket = firm.bucket; within = firm.within; before = firm.before; stand = parts.0; here = parts.1; newest = firm.newest; passed = firm.passed }));
      next = record { within = holds.next.within; before = holds.next.before; stand = row_stays_in g a b ring.next.bucket holds.next.before holds.next.within same holds.next.stand; reaches = holds.next.reaches };
      others = λ bucket block x found. holds.others bucket block x (found_back g a b bucket block x same found);
    }
