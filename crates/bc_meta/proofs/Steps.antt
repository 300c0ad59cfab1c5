-- The events of the journal, all events, the opened image, and what a crash image is.
use Rattle.std.proofs.Common.{◌≡◌, ◌≢◌, ◌⊎◌, inl, inr, ℕ, zero, suc, ◌+◌, ◌<◌, ◌≤◌, Bool, true, false, List, [], ◌∷◌, Option, Some, None, refl, sym, ap, ◌∙◌, subst, arith, if◌then◌else◌}
use Rattle.bc_model.specs.Sector.{Image, Value}
use Rattle.bc_model.specs.Pattern.{zeros}
use Rattle.bc_disk.specs.Device.{Content, MayLeave, Only, failed}
use Rattle.bc_record.specs.Sectors.{AgreeOn}
use Rattle.bc_key.specs.declared.key.Key.{Key}
use Rattle.bc_meta.specs.Facts.{In, IsAtBlock, scan, scan_on}
use Rattle.bc_meta.specs.Entries.{Entry}
use Rattle.bc_meta.specs.Tree.{NodeSet, Owner}
use Rattle.bc_meta.specs.Layout.{Layout, entry_at, entry_len, is_within, node_end, of_seq, ring_entries, set_at, set_len, sets_from, sets_in}
use Rattle.bc_meta.specs.Events.{AddKey, AddSet, Barrier, BeginBucket, Elsewhere, Event, FailElsewhere, FailEntry, FailFill, FailSet, Fill, GiveUp, MakeDurable, NewNode, Reuse, SealEntry, WriteEntry}
use Rattle.bc_meta.specs.Records.{Fixed, IsReady, Nothing, Ready, RecordsAllow, Safe, Sent, Stage, after_barrier, put, MayStand, Node}
use Rattle.bc_meta.specs.Places.{CanEnter, CanHappen, IsSoundImage, NoChance, Places, PlacesAllow, Wrote, opened_places, places_after, AreSure}
use Rattle.bc_meta.proofs.Lists.{by_test, decide}
use Rattle.bc_meta.proofs.Firm.{FirmOn, Off, off_run, off_failed, firm_kept, firm_settled, reads_written, laid, laid_below, laid_has, laid_firm, stands_high}
use Rattle.bc_meta.proofs.Place.{OwnNode, node_out, either, Firm, NodeInv, SentOn, sent_settled, fits_back, Inv, entries_stay, sets_stay, of_seq_some, node_off, node_settled, nothing_known, apart, keep_elsewhere, keep_fail_elsewhere, keep_set, keep_fail_set, keep_new, keep_reuse, keep_fill, keep_fail_fill}
use Rattle.bc_meta.proofs.Keep as records_
use Rattle.bc_meta.proofs.Ring.{count_in, count_of}
use Rattle.bc_meta.proofs.Scan.{NodeLeft, ImageLeft}
use Rattle.bc_meta.proofs.Blank.{blank_there}

some_safe : (g : Stage) → g ≡ Safe → g ≢ Nothing
some_safe g e n = absurd (no_safe (sym e ∙ n))
  where
    no_safe : Safe ≡ Nothing → ⊥
    no_safe e = cc

not_ready : (g : Stage) → g ≡ Nothing → IsReady g → ⊥
not_ready g e r = subst (λ x. IsReady x) e r

ready_barrier : (g : Stage) → IsReady g → IsReady (after_barrier g)
ready_barrier Nothing r = r
ready_barrier Fixed r = absurd r
ready_barrier Ready r = r
ready_barrier Sent r = r
ready_barrier Safe r = r

module _ (w : Layout) (c0 : Image) (floor : ℕ) (list : List Entry) (st : Places) (inv : Inv w c0 floor list st) where
  placed_nothing : st.records.stage ≡ Nothing → (b p : ℕ) (e : Entry) → Wrote st.entry_log b p e → In e st.records.log × (e.number ≤ st.records.newest.number)
  placed_nothing is b p e r = let k = inv.placed b p e r in (k.0, elim k.1 [ inl le ↦ le | inr y ↦ absurd (not_ready st.records.stage is y.3) ])

  keep_begin : (b : ℕ) → st.records.stage ≡ Nothing → b < w.journal → Inv w c0 floor list (places_after w st (BeginBucket b))
  keep_begin b is lt = record {
    ring = λ k l. by_test k b (λ t. Firm w st.device k (if t then [] else st.records.ring k) (if t then w.first b else st.ring_next k) × ((if t then w.first b else st.ring_next k) ≤ w.first k + w.bucket_sectors))
        (λ e. ((c0, sym (ap w.first e), λ t ge l2. absurd (let e2 = ap w.first e in omega arith)), let e2 = ap w.first e in omega arith)) (λ _. inv.ring k l);
    only_ring = λ k ge. by_test k b (λ t. (if t then [] else st.records.ring k) ≡ []) (λ _. refl) (λ _. inv.only_ring k ge);
    current = lt;
    sent = subst (λ g. SentOn w st.device (put st.ring_next b (w.first b) b) st.records.entry g) (sym is) tt;
    fits = λ h. absurd (elim h [ inl e ↦ no_sent (sym is ∙ e) | inr e ↦ no_safe (sym is ∙ e) ]);
    nodes = inv.nodes;
    floor_is = inv.floor_is;
    listed = inv.listed;
    placed = λ k p e r. let m = placed_nothing is k p e r in (m.0, inl m.1);
  }
    where
      no_sent : Nothing ≡ Sent → ⊥
      no_sent e = cc

      no_safe : Nothing ≡ Safe → ⊥
      no_safe e = cc

  keep_seal : (e : Entry) (unused : ℕ → Bool) → st.records.stage ≡ Nothing → Inv w c0 floor list (places_after w st (SealEntry e unused))
  keep_seal e unused is = record {
    ring = inv.ring;
    only_ring = inv.only_ring;
    current = inv.current;
    sent = tt;
    fits = λ h. absurd (elim h [ inl e ↦ no_sent e | inr e ↦ no_safe e ]);
    nodes = inv.nodes;
    floor_is = inv.floor_is;
    listed = inv.listed;
    placed = λ k p e r. let m = placed_nothing is k p e r in (m.0, inl m.1);
  }
    where
      no_sent : Fixed ≡ Sent → ⊥
      no_sent e = cc

      no_safe : Fixed ≡ Safe → ⊥
      no_safe e = cc

  pub high : (b : ℕ) → b < w.journal → w.first b ≤ st.ring_next b
  high b lt = let k = inv.ring b lt in stands_high (entry_len w) (entry_at w k.0.0 b) (w.first b) (st.records.ring b) (st.ring_next b) k.0.1

  keep_write : (vs : List Value) → CanEnter w st vs → Inv w c0 floor list (places_after w st (WriteEntry vs))
  keep_write vs can =
      let fits = can.1 in
      let long = w.entries.long tt vs st.records.entry can.0 in
      let b0 = st.records.bucket in
      let up = high st.records.bucket inv.current in
      let cur = inv.current in
      record {
        ring = λ b lt.
            let k = inv.ring b lt in
            let k1 = k.1 in (
              (
                k.0.0,
                k.0.1,
                firm_kept st.device _ k.0.0 (w.first b) (st.ring_next b)
                    (λ t ge l. elim (decide b st.records.bucket) [
                      | inl e ↦ (let e2 = ap st.ring_next e in off_run st.device (st.ring_next st.records.bucket) vs t (λ r. let r0 = r.0 in absurd (omega arith)))
                      | inr ne ↦ (let j = w.journal_within in apart w c0 floor list st inv st.records.bucket (st.ring_next st.records.bucket) vs b t (omega arith) (omega arith) ne up (omega arith) ge (omega arith))
                    ]) k.0.2,
              ),
              k.1,
            );
        only_ring = inv.only_ring;
        current = inv.current;
        sent = (vs, can.0, reads_written st.device (st.ring_next st.records.bucket) vs);
        fits = λ _. fits;
        nodes = λ q. elim (decide q st.records.bucket) [
          | inl e ↦ (let n = inv.nodes q in let l = n.low (inl (omega arith)) in nothing_known w c0 _ (st.records.nodes q) (st.own q) q (st.node_next q) (st.seq q) st.log l.0 l.1 (n.unsent l.0))
          | inr ne ↦ elim (either q w.buckets) [
            | inl lt ↦ node_off w c0 st.device _ (st.records.nodes q) (st.own q) q (st.node_next q) (st.seq q) st.log (λ t from to. let j = w.journal_within in apart w c0 floor list st inv st.records.bucket (st.ring_next st.records.bucket) vs q t lt (omega arith) ne up (omega arith) from (omega arith)) (inv.nodes q)
            | inr out ↦ node_out w c0 st.device _ (st.records.nodes q) (st.own q) q (st.node_next q) (st.seq q) st.log (inr out) (inv.nodes q)
          ]
        ];
        floor_is = inv.floor_is;
        listed = λ e i. let m = inv.listed e i in (inr m.0, m.1);
        placed = λ b p e r. elim r [
          | inl y ↦ (inl y.2, inr (y.0, y.1, y.2, tt))
          | inr old ↦ (let m = inv.placed b p e old in (inr m.0, elim m.1 [ inl le ↦ inl le | inr y ↦ inr (y.0, y.1, y.2, tt) ]))
        ];
      }

  keep_fail : (vs : List Value) → st.records.stage ≡ Ready → CanEnter w st vs → Inv w c0 floor list (places_after w st (FailEntry vs))
  keep_fail vs is can =
      let fits = can.1 in
      let long = w.entries.long tt vs st.records.entry can.0 in
      let b0 = st.records.bucket in
      let up = high st.records.bucket inv.current in
      let cur = inv.current in
      let new : Content = failed (st.ring_next st.records.bucket) vs st.device in
      let away : (b t : ℕ) → b < w.buckets → b ≢ st.records.bucket → w.first b ≤ t → t < w.first b + w.bucket_sectors → Off st.device (failed (st.ring_next st.records.bucket) vs st.device) t
      = λ b t bt ne from to. let j = w.journal_within in off_failed st.device (st.ring_next st.records.bucket) vs t (λ r. let r0 = r.0 in let r1 = r.1 in w.apart b st.records.bucket t bt (omega arith) ne from to (omega arith) (omega arith)) in
      record {
        ring = λ b lt.
            let k = inv.ring b lt in
            let k1 = k.1 in (
              (
                k.0.0,
                k.0.1,
                firm_kept st.device new k.0.0 (w.first b) (st.ring_next b)
                    (λ t ge l. elim (decide b st.records.bucket) [
                      | inl e ↦ (let e2 = ap st.ring_next e in off_failed st.device (st.ring_next st.records.bucket) vs t (λ r. let r0 = r.0 in absurd (omega arith)))
                      | inr ne ↦ (let j = w.journal_within in away b t (omega arith) ne ge (omega arith))
                    ]) k.0.2,
              ),
              k.1,
            );
        only_ring = inv.only_ring;
        current = inv.current;
        sent = subst (λ g. SentOn w (failed (st.ring_next st.records.bucket) vs st.device) (st.ring_next st.records.bucket) st.records.entry g) (sym is) tt;
        fits = λ _. fits;
        nodes = λ q. elim (decide q st.records.bucket) [
          | inl e ↦ (let n = inv.nodes q in let l = n.low (inl (omega arith)) in nothing_known w c0 _ (st.records.nodes q) (st.own q) q (st.node_next q) (st.seq q) st.log l.0 l.1 (n.unsent l.0))
          | inr ne ↦ elim (either q w.buckets) [
            | inl lt ↦ node_off w c0 st.device new (st.records.nodes q) (st.own q) q (st.node_next q) (st.seq q) st.log (λ t from to. away q t lt ne from (omega arith)) (inv.nodes q)
            | inr out ↦ node_out w c0 st.device new (st.records.nodes q) (st.own q) q (st.node_next q) (st.seq q) st.log (inr out) (inv.nodes q)
          ]
        ];
        floor_is = inv.floor_is;
        listed = λ e i. let m = inv.listed e i in (inr m.0, m.1);
        placed = λ b p e r. elim r [
          | inl y ↦ (inl y.2, inr (y.0, y.1, y.2, subst IsReady (sym is) tt))
          | inr old ↦ (let m = inv.placed b p e old in (inr m.0, m.1))
        ];
      }

  keep_barrier : Inv w c0 floor list (places_after w st Barrier)
  keep_barrier = record {
    ring = λ b lt. let k = inv.ring b lt in ((k.0.0, k.0.1, firm_settled st.device k.0.0 (w.first b) (st.ring_next b) k.0.2), k.1);
    only_ring = inv.only_ring;
    current = inv.current;
    sent = sent_settled w st.device (st.ring_next st.records.bucket) st.records.entry st.records.stage inv.sent;
    fits = λ h. inv.fits (fits_back st.records.stage h);
    nodes = λ q. node_settled w c0 st.device (st.records.nodes q) (st.own q) q (st.node_next q) (st.seq q) st.log (st.records.nodes q).sent refl (inv.nodes q);
    floor_is = inv.floor_is;
    listed = inv.listed;
    placed = λ k p e r. let m = inv.placed k p e r in (m.0, elim m.1 [ inl le ↦ inl le | inr y ↦ inr (y.0, y.1, y.2, ready_barrier st.records.stage y.3) ]);
  }

  keep_durable : st.records.stage ≡ Safe → st.records.entry.number ≡ suc st.records.newest.number → Inv w c0 floor list (places_after w st MakeDurable)
  keep_durable is n =
      let b0 = st.records.bucket in
      let fits = inv.fits (inr is) in
      let safe : SentOn w st.device (st.ring_next st.records.bucket) st.records.entry Safe = subst (λ g. SentOn w st.device (st.ring_next st.records.bucket) st.records.entry g) is inv.sent in
      let vs = safe.0 in
      let long = w.entries.long tt vs st.records.entry safe.1 in
      let k = inv.ring st.records.bucket inv.current in
      let z = laid k.0.0 (st.ring_next st.records.bucket) vs in
      let here : Firm w st.device st.records.bucket (st.records.entry ∷ st.records.ring st.records.bucket) (st.ring_next st.records.bucket + entry_len w st.records.entry) = (
        laid k.0.0 (st.ring_next st.records.bucket) vs,
        (
          st.ring_next st.records.bucket,
          entries_stay w k.0.0 z st.records.bucket (st.records.ring st.records.bucket) (st.ring_next st.records.bucket) (λ t ge lt. laid_below k.0.0 (st.ring_next st.records.bucket) vs t lt) k.0.1,
          w.entries.reads_back z tt (w.first st.records.bucket + w.bucket_sectors) (st.ring_next st.records.bucket) vs st.records.entry safe.1 (laid_has k.0.0 (st.ring_next st.records.bucket) vs) fits,
          refl,
        ),
        subst (λ (x : ℕ). FirmOn st.device (laid k.0.0 (st.ring_next st.records.bucket) vs) (w.first st.records.bucket) (st.ring_next st.records.bucket + x)) long (laid_firm st.device k.0.0 (w.first st.records.bucket) (st.ring_next st.records.bucket) vs k.0.2 safe.2 safe.3),
      ) in
      record {
        ring = λ b lt.
            by_test b st.records.bucket
            (λ t. Firm w st.device b (if t then st.records.entry ∷ st.records.ring st.records.bucket else st.records.ring b) (if t then st.ring_next st.records.bucket + entry_len w st.records.entry else st.ring_next b) × ((if t then st.ring_next st.records.bucket + entry_len w st.records.entry else st.ring_next b) ≤ w.first b + w.bucket_sectors))
            (λ e. (subst (λ (n : ℕ). Firm w st.device n (st.records.entry ∷ st.records.ring st.records.bucket) (st.ring_next st.records.bucket + entry_len w st.records.entry)) (sym e) here, let e2 = ap w.first e in omega arith)) (λ _. inv.ring b lt);
        only_ring = λ b ge. let cur = inv.current in by_test b st.records.bucket (λ t. (if t then st.records.entry ∷ st.records.ring st.records.bucket else st.records.ring b) ≡ []) (λ e. absurd (omega arith)) (λ _. inv.only_ring b ge);
        current = inv.current;
        sent = tt;
        fits = λ h. absurd (elim h [ inl e ↦ no_sent e | inr e ↦ no_safe e ]);
        nodes = inv.nodes;
        floor_is = inv.floor_is;
        listed = λ e i. let m = inv.listed e i in let m1 = m.1 in (m.0, omega arith);
        placed = λ b p e r. let m = inv.placed b p e r in (m.0, inl (elim m.1 [ inl le ↦ omega arith | inr y ↦ (let x = ap (λ (y : Entry). y.number) y.2 in omega arith) ]));
      }
    where
      no_sent : Nothing ≡ Sent → ⊥
      no_sent e = cc

      no_safe : Nothing ≡ Safe → ⊥
      no_safe e = cc

  keep_others : (waiting : List Key) (unused : ℕ → Bool) → Inv w c0 floor list (record st { records = record st.records { waiting = waiting; unused = unused } })
  keep_others waiting unused = record { ring = inv.ring; only_ring = inv.only_ring; current = inv.current; sent = inv.sent; fits = inv.fits; nodes = inv.nodes; floor_is = inv.floor_is; listed = inv.listed; placed = inv.placed }

keep_do : (w : Layout) (c0 : Image) (floor : ℕ) (list : List Entry) (st : Places) (e : Event) → records_.Inv st.records → RecordsAllow st.records e → PlacesAllow w st e → Inv w c0 floor list st → Inv w c0 floor list (places_after w st e)
keep_do w c0 floor list st (AddKey key) mi on can inv = keep_others w c0 floor list st inv (key ∷ st.records.waiting) st.records.unused
keep_do w c0 floor list st (BeginBucket b) mi on can inv = keep_begin w c0 floor list st inv b on.0 can
keep_do w c0 floor list st (SealEntry e unused) mi on can inv = keep_seal w c0 floor list st inv e unused on.0
keep_do w c0 floor list st (WriteEntry vs) mi on can inv = keep_write w c0 floor list st inv vs can
keep_do w c0 floor list st (FailEntry vs) mi on can inv = keep_fail w c0 floor list st inv vs on can
keep_do w c0 floor list st Barrier mi on can inv = keep_barrier w c0 floor list st inv
keep_do w c0 floor list st MakeDurable mi on can inv = keep_durable w c0 floor list st inv on (mi.follows (some_safe st.records.stage on)).number
keep_do w c0 floor list st (AddSet q set vs unused) mi on can inv = keep_set w c0 floor list st inv q set vs unused can.0 can.1 on.0.0 on.0.1 on.0.2
keep_do w c0 floor list st (FailSet q set vs) mi on can inv = keep_fail_set w c0 floor list st inv q set vs st.records.unused can.0 can.1 on.0.0 on.0.1 on.0.2
keep_do w c0 floor list st (Reuse q) mi on can inv = keep_reuse w c0 floor list st inv q
keep_do w c0 floor list st (NewNode q o set vs) mi on can inv = keep_new w c0 floor list st inv q o set vs can
keep_do w c0 floor list st (GiveUp unused) mi on can inv = keep_others w c0 floor list st inv st.records.waiting unused
keep_do w c0 floor list st (Fill q at vs) mi on can inv = keep_fill w c0 floor list st inv q at vs can
keep_do w c0 floor list st (FailFill q at vs set) mi on can inv = keep_fail_fill w c0 floor list st inv q at vs set can
keep_do w c0 floor list st (Elsewhere at vs) mi on can inv = keep_elsewhere w c0 floor list st inv at vs can
keep_do w c0 floor list st (FailElsewhere at vs) mi on can inv = keep_fail_elsewhere w c0 floor list st inv at vs can

pub keep_event : (w : Layout) (c0 : Image) (floor : ℕ) (list : List Entry) (st : Places) (e : Event) → records_.Inv st.records → CanHappen w st e → Inv w c0 floor list st → Inv w c0 floor list (places_after w st e)
keep_event w c0 floor list st e mi on inv = keep_do w c0 floor list st e mi on.0 on.1 inv

pub keep_records : (w : Layout) (st : Places) (e : Event) → CanHappen w st e → records_.Inv st.records → records_.Inv (places_after w st e).records
keep_records w st e on inv = records_.keep st.records e on.0 inv

pub only_one : (v : Value) → Only v (v ∷ [])
only_one v x (inl e) = e
only_one v x (inr n) = absurd n

pub opened_inv : (w : Layout) (o0 : ℕ → Owner) (c0 : Image) (newest : Entry) (older : List Entry) (ring : ℕ → List Entry) (ring_next : ℕ → ℕ) (bucket : ℕ) (unused : ℕ → Bool)
    → IsSoundImage w o0 c0 newest older ring ring_next bucket → ((q : ℕ) → (q < w.journal) ⊎ (w.buckets ≤ q) → unused q ≡ true) → Inv w c0 newest.last_seq (newest ∷ older) (opened_places w o0 c0 newest older ring ring_next bucket unused)
opened_inv w o0 c0 newest older ring ring_next bucket unused sound low = record {
  ring = λ b lt. ((c0, sound.stands b lt, λ t ge l. (only_one (c0 t), only_one (c0 t))), sound.inside b lt);
  only_ring = sound.only_ring;
  current = sound.current;
  sent = tt;
  fits = λ h. absurd (elim h [ inl e ↦ no_sent e | inr e ↦ no_safe e ]);
  nodes = λ q. record {
    mine = λ o. absurd (cc);
    old = λ o l. record { firm = λ in_ t ge lt. (only_one (c0 t), only_one (c0 t)); sets = refl; sent = refl };
    low = λ lt. (refl, low q lt);
    unsent = λ _. refl;
  };
  floor_is = refl;
  listed = λ e i. (i, let m = (count_in newest.last_seq (newest ∷ older) (suc newest.number) e (count_of (ring_entries w c0 w.journal) newest.last_seq (newest ∷ older) (suc newest.number) sound.sound.entries.down) i).1 in omega arith);
  placed = λ b p e r. absurd r;
}
  where
    no_sent : Nothing ≡ Sent → ⊥
    no_sent e = cc

    no_safe : Nothing ≡ Safe → ⊥
    no_safe e = cc

-- scans of images that agree
scan_same : {A : Type 0} → (len : A → ℕ) (f g : ℕ → Option A) (start : ℕ) → ((p : ℕ) → start ≤ p → f p ≡ g p) → (n p : ℕ) (acc : List A) → start ≤ p → scan len f n p acc ≡ scan len g n p acc
scan_same len f g start same zero p acc le = refl
scan_same {A} len f g start same (suc n) p acc le = ap (λ o. scan_on (scan len f n) len p acc o) (same p le) ∙ go (g p) (λ e. scan_same len f g start same n (p + len e) (e ∷ acc) (omega arith))
  where
    go : (o : Option A) → ((e : A) → scan len f n (p + len e) (e ∷ acc) ≡ scan len g n (p + len e) (e ∷ acc)) → scan_on (scan len f n) len p acc o ≡ scan_on (scan len g n) len p acc o
    go None ih = refl
    go (Some e) ih = ih e

found_same : (w : Layout) (o : Owner) (c d : Image) → AgreeOn c d (w.begins o) (node_end w o) → (p : ℕ) → w.begins o ≤ p → w.sets.found c o (node_end w o) p ≡ w.sets.found d o (node_end w o) p
found_same w o c d same p le = go (w.sets.found c o (node_end w o) p) (w.sets.found d o (node_end w o) p) refl refl
  where
    stay : (a b : Image) (e : NodeSet) → AgreeOn a b (w.begins o) (node_end w o) → w.sets.found a o (node_end w o) p ≡ Some e → w.sets.found b o (node_end w o) p ≡ Some e
    stay a b e eq is = let fits = w.sets.fits a o (node_end w o) p e is in w.sets.stays a b o (node_end w o) p e is (λ t from to. eq t (omega arith) (omega arith))

    go : (x y : Option NodeSet) → w.sets.found c o (node_end w o) p ≡ x → w.sets.found d o (node_end w o) p ≡ y → x ≡ y
    go None None a b = refl
    go (Some e) y a b = sym (stay c d e same a) ∙ b
    go None (Some e) a b = sym a ∙ stay d c e (λ t ge lt. sym (same t ge lt)) b

-- a node reads the same where images agree on it
node_same : (w : Layout) (o : Owner) (c d : Image) (q : ℕ) → (is_within w q o ≡ true → AgreeOn c d (w.begins o) (node_end w o)) → sets_in w c o q ≡ sets_in w d o q
node_same w o c d q same = within (is_within w q o) refl
  where
    go : AgreeOn c d (w.begins o) (node_end w o) → (x : Option NodeSet) → sets_from w c o x ≡ sets_from w d o x
    go agree None = refl
    go agree (Some x) = scan_same (set_len w) (set_at w c o x.seq) (set_at w d o x.seq) (w.begins o) (λ p le. ap (λ y. of_seq x.seq y) (found_same w o c d agree p le)) w.node_sectors (w.begins o) [] (omega arith)

    within : (b : Bool) → is_within w q o ≡ b → (if b then sets_from w c o (w.sets.found c o (node_end w o) (w.begins o)) else []) ≡ (if b then sets_from w d o (w.sets.found d o (node_end w o) (w.begins o)) else [])
    within true is = ap (λ x. sets_from w c o x) (found_same w o c d (same is) (w.begins o) (omega arith)) ∙ go (same is) (w.sets.found d o (node_end w o) (w.begins o))
    within false is = refl

-- a set may stand behind a node's, or none may
stands : (n : Node) → (MayStand n → ⊥) ⊎ MayStand n
stands n = go n.sent n.failed refl refl
  where
    no_true : (b : Bool) → b ≡ true → b ≡ false → ⊥
    no_true b x y = absurd (cc)

    go : (a b : Bool) → n.sent ≡ a → n.failed ≡ b → (MayStand n → ⊥) ⊎ MayStand n
    go true b s f = inr (inl s)
    go false true s f = inr (inr f)
    go false false s f = inl (λ m. elim m [ inl e ↦ no_true n.sent e s | inr e ↦ no_true n.failed e f ])

pub firm_there : (d : Content) (z : Image) (a b : ℕ) (c : Image) → MayLeave d c → FirmOn d z a b → (t : ℕ) → a ≤ t → t < b → z t ≡ c t
firm_there d z a b c left f t ge lt = sym ((f t ge lt).1 (c t) (left t))

module _ (w : Layout) (c0 : Image) (newest : Entry) (older : List Entry) (st : Places) (inv : Inv w c0 newest.last_seq (newest ∷ older) st) (chance : NoChance w c0 st)
    (stray : (b p : ℕ) (e : Entry) → b < w.journal → IsAtBlock w.block (w.first b) p → entry_at w c0 b p ≡ Some e → (e.number < newest.last_seq) ⊎ In e (newest ∷ older)) (c : Image) (left : MayLeave st.device c) where
  -- no set is found where the first sector is zeros
  not_blank : (q p : ℕ) (e : NodeSet) → w.sets.found c (st.records.nodes q).owner (node_end w (st.records.nodes q).owner) p ≡ Some e → c p ≡ zeros → ⊥
  not_blank q p e found blank = some_none (w.sets.found c (st.records.nodes q).owner (node_end w (st.records.nodes q).owner) p) e found (w.blank c (st.records.nodes q).owner (node_end w (st.records.nodes q).owner) p blank)
    where
      some_none : (o : Option NodeSet) (e : NodeSet) → o ≡ Some e → o ≡ None → ⊥
      some_none o e a b = cc

  -- what a crash can't tear behind a node's sets is zeros
  not_sure : (q : ℕ) (e : NodeSet) → OwnNode w st.device (st.records.nodes q) q (st.node_next q) (st.seq q) st.log → (st.records.nodes q).loose ≡ false
      → w.sets.found c (st.records.nodes q).owner (node_end w (st.records.nodes q).owner) (st.node_next q) ≡ Some e → AreSure st.device (st.node_next q) (st.node_next q + set_len w e) → ⊥
  not_sure q e m known found sure =
      let fits = w.sets.fits c (st.records.nodes q).owner (node_end w (st.records.nodes q).owner) (st.node_next q) e found in
      let some = w.sets.some e in
      not_blank q (st.node_next q) e found (sure (st.node_next q) (omega arith) (omega arith) (c (st.node_next q)) zeros (left (st.node_next q)) (m.blank.left known (st.node_next q) (omega arith) (omega arith)).0)

  -- and so is what lies behind a last set
  not_behind : (q p : ℕ) (e : NodeSet) → OwnNode w st.device (st.records.nodes q) q (st.node_next q) (st.seq q) st.log → (st.records.nodes q).loose ≡ false
      → w.sets.found c (st.records.nodes q).owner (node_end w (st.records.nodes q).owner) p ≡ Some e → st.node_next q ≤ p → (MayStand (st.records.nodes q) → st.node_next q + set_len w (st.records.nodes q).last ≤ p) → ⊥
  not_behind q p e m known found ge behind =
      let fits = w.sets.fits c (st.records.nodes q).owner (node_end w (st.records.nodes q).owner) p e found in
      let some = w.sets.some e in
      not_blank q p e found (blank_there w st.device (st.records.nodes q) (st.node_next q) c m.blank known left p ge (omega arith) behind)

  none_behind : (q : ℕ) → OwnNode w st.device (st.records.nodes q) q (st.node_next q) (st.seq q) st.log → (st.records.nodes q).loose ≡ false
      → (o : Option NodeSet) → w.sets.found c (st.records.nodes q).owner (node_end w (st.records.nodes q).owner) (st.node_next q + set_len w (st.records.nodes q).last) ≡ o
      → of_seq (st.seq q) o ≡ None
  none_behind q m known None is = refl
  none_behind q m known (Some e) is = absurd (not_behind q (st.node_next q + set_len w (st.records.nodes q).last) e m known is (omega arith) (λ _. omega arith))

  node_there : (q : ℕ) → ((st.records.nodes q).loose ≡ true) ⊎ (sets_in w c (st.records.nodes q).owner q ≡ (st.records.nodes q).sets) ⊎ NodeLeft w (st.records.nodes q) c q
  node_there q = go (st.records.nodes q).loose refl (st.own q) refl
    where
      n : NodeInv w c0 st.device (st.records.nodes q) (st.own q) q (st.node_next q) (st.seq q) st.log
      n = inv.nodes q

      go : (l : Bool) → (st.records.nodes q).loose ≡ l → (o : Bool) → st.own q ≡ o → ((st.records.nodes q).loose ≡ true) ⊎ (sets_in w c (st.records.nodes q).owner q ≡ (st.records.nodes q).sets) ⊎ NodeLeft w (st.records.nodes q) c q
      go true is o own = inl is
      go false is false own = let m = (inv.nodes q).old own is in inr (inl (sym (node_same w (st.records.nodes q).owner c0 c q (λ in_. firm_there st.device c0 (w.begins (st.records.nodes q).owner) (node_end w (st.records.nodes q).owner) c left (m.firm in_))) ∙ sym m.sets))
      go false is true own =
          let m = (inv.nodes q).mine own in
          inr (inr record {
            seq = st.seq q;
            next = st.node_next q;
            stands = sets_stay w m.stands.0 c (st.records.nodes q).owner (st.seq q) (st.records.nodes q).sets (st.node_next q) (firm_there st.device m.stands.0 (w.begins (st.records.nodes q).owner) (st.node_next q) c left m.stands.2) m.stands.1;
            some = m.some is;
            inside = m.inside;
            within = m.within;
            chance = λ e f.
                let k = of_seq_some (st.seq q) (w.sets.found c (st.records.nodes q).owner (node_end w (st.records.nodes q).owner) (st.node_next q)) e f in
                elim (stands (st.records.nodes q)) [
                  | inl none_ ↦ absurd (not_behind q (st.node_next q) e m is k.0 (omega arith) (λ stand. absurd (none_ stand)))
                  | inr stand ↦ elim (chance.sets c q e left own is stand k.1 k.0) [
                    | inl sure ↦ absurd (not_sure q e m is k.0 sure)
                    | inr wrote ↦ elim (m.log (st.node_next q) e wrote k.1) [ inl lt ↦ absurd (omega arith) | inr y ↦ (y.0, y.2) ]
                  ]
                ];
            blank = λ stand. none_behind q m is (w.sets.found c (st.records.nodes q).owner (node_end w (st.records.nodes q).owner) (st.node_next q + set_len w (st.records.nodes q).last)) refl;
          })

  pub image_left : ImageLeft w st.records c
  image_left = record {
    ring_next = st.ring_next;
    in_ring = λ b. elim (either b w.journal) [ inl lt ↦ inl lt | inr ge ↦ inr (inv.only_ring b ge) ];
    ring = λ b lt. let k = inv.ring b lt in entries_stay w k.0.0 c b (st.records.ring b) (st.ring_next b) (firm_there st.device k.0.0 (w.first b) (st.ring_next b) c left k.0.2) k.0.1;
    ring_inside = λ b lt. (inv.ring b lt).1;
    ring_chance = λ b p e lt ge f. elim (chance.entries c b p e left lt ge f) [
      | inl f0 ↦ elim (stray b p e lt ge f0) [ inl l ↦ inl (let is = inv.floor_is in omega arith) | inr i ↦ inr (inv.listed e i).0 ]
      | inr i ↦ inr (inv.placed b p e i).0
    ];
    nodes = node_there;
  }
