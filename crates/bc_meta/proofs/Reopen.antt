-- A crash image is sound again, with a place for the next entry.
use Rattle.std.proofs.Common.{◌≡◌, ◌⊎◌, inl, inr, ℕ, suc, ◌+◌, ◌<◌, ◌≤◌, true, List, [], ◌∷◌, ◌++◌, Option, Some, None, refl, sym, ap, ◌∙◌, subst, arith, if◌then◌else◌}
use Rattle.bc_model.specs.Sector.{Image}
use Rattle.bc_disk.specs.Device.{MayLeave}
use Rattle.bc_meta.specs.Facts.{In, IsAtBlock, Stand}
use Rattle.bc_meta.specs.Entries.{Entry, live}
use Rattle.bc_meta.specs.Layout.{Layout, entry_at, entry_len, node_sets, ring_entries}
use Rattle.bc_meta.specs.Records.{IsReady, owners, put}
use Rattle.bc_meta.specs.Places.{NoChance, Places}
use Rattle.bc_meta.specs.Laws.{Again}
use Rattle.bc_meta.proofs.Lists.{by_test}
use Rattle.bc_meta.proofs.Ring.{count_in, in_live, live_in}
use Rattle.bc_meta.proofs.Keep as records_
use Rattle.bc_meta.proofs.Keep.{in_put, put_in, ready_some}
use Rattle.bc_meta.proofs.Left as left_
use Rattle.bc_meta.proofs.Left.{put_out}
use Rattle.bc_meta.proofs.Scan.{ImageLeft, stand_at, ring_left, choice_left, ring_place, next_read}
use Rattle.bc_meta.proofs.Place as place
use Rattle.bc_meta.proofs.Steps as all_steps

module _ (w : Layout) (c0 : Image) (newest : Entry) (older : List Entry) (st : Places) (inv : place.Inv w c0 newest.last_seq (newest ∷ older) st) (mi : records_.Inv st.records) (chance : NoChance w c0 st)
    (stray : (b p : ℕ) (e : Entry) → b < w.journal → IsAtBlock w.block (w.first b) p → entry_at w c0 b p ≡ Some e → (e.number < newest.last_seq) ⊎ In e (newest ∷ older)) (c : Image) (left : MayLeave st.device c)
    (low : (q : ℕ) → (q < w.journal) ⊎ (w.buckets ≤ q) → st.records.unused q ≡ true) where
  il : ImageLeft w st.records c
  il = all_steps.image_left w c0 newest older st inv chance stray c left

  Known : Entry → Type 0
  Known e = (e.number < st.records.newest.last_seq) ⊎ In e (st.records.newest ∷ st.records.older)

  AtNext : ℕ → ℕ → Entry → Type 0
  AtNext b p e = (b ≡ st.records.bucket) × (p ≡ st.ring_next st.records.bucket) × (e ≡ st.records.entry) × IsReady st.records.stage

  old_known : (e : Entry) → In e st.records.log → e.number ≤ st.records.newest.number → (e.number < st.records.newest.last_seq) ⊎ In e (st.records.newest ∷ st.records.older)
  old_known e i le =
      elim (mi.log e i) [
        | inl lt ↦ inl lt
        | inr (inl k) ↦ inr k
        | inr (inr k) ↦ (let n = (mi.follows (ready_some st.records.stage k.1)).number in let m = ap (λ (y : Entry). y.number) k.0 in absurd (omega arith))
      ]

  -- whatever is found anywhere in a journal bucket
  found_known : (b p : ℕ) (e : Entry) → b < w.journal → IsAtBlock w.block (w.first b) p → entry_at w c b p ≡ Some e
      → ((e.number < st.records.newest.last_seq) ⊎ In e (st.records.newest ∷ st.records.older)) ⊎ ((b ≡ st.records.bucket) × (p ≡ st.ring_next st.records.bucket) × (e ≡ st.records.entry) × IsReady st.records.stage)
  found_known b p e lt ge f =
      elim (chance.entries c b p e left lt ge f) [
        | inl f0 ↦ elim (stray b p e lt ge f0) [
          | inl l ↦ inl (inl (let fl = inv.floor_is in let fm = mi.floor in omega arith))
          | inr i ↦ (let m = inv.listed e i in inl (old_known e m.0 m.1))
        ]
        | inr wrote ↦ (let m = inv.placed b p e wrote in elim m.1 [ inl le ↦ inl (old_known e m.0 le) | inr y ↦ inr y ])
      ]

  known_low : (e : Entry) → (e.number < st.records.newest.last_seq) ⊎ In e (st.records.newest ∷ st.records.older) → e.number ≤ st.records.newest.number
  known_low e (inl lt) = let l = mi.count.1 in omega arith
  known_low e (inr i) = let r = (count_in st.records.newest.last_seq (st.records.newest ∷ st.records.older) (suc st.records.newest.number) e mi.count i).1 in omega arith

  -- the sealed entry isn't at the next place
  durable : (entry_at w c st.records.bucket (st.ring_next st.records.bucket) ≡ Some st.records.entry → IsReady st.records.stage → ⊥) → Again w st c st.records.newest st.records.older st.records.index
  durable none_ =
      let rd = left_.read_durable st.records mi (ring_entries w c w.journal) (node_sets w (owners st.records.nodes) c) (ring_left w st.records c (all_steps.image_left w c0 newest older st inv chance stray c left)) (choice_left w st.records c (all_steps.image_left w c0 newest older st inv chance stray c left))
      (λ x i n. let r = ring_place w c w.journal x i in elim (known r.0 r.1 x r.2 r.3 r.4) [ inl lt ↦ (let k = known_low x (inl lt) in absurd (omega arith)) | inr k ↦ (let m = known_low x (inr k) in absurd (omega arith)) ]) in
      let rl = ring_left w st.records c (all_steps.image_left w c0 newest older st inv chance stray c left) in
      record {
        ring = st.records.ring;
        ring_next = st.ring_next;
        whole = record {
          sound = rd.sound;
          room = record { stands = rl.firm; kept = mi.ringed };
          stands = λ b lt. all_stands b lt;
          inside = λ b lt. (inv.ring b lt).1;
          only_ring = inv.only_ring;
          current = inv.current;
          stray = λ b p e lt ge f. known b p e lt ge f;
        };
        keeps = rd.keeps;
        low = low;
        named = left_.durable_named st.records mi (node_sets w (owners st.records.nodes) c) (choice_left w st.records c (all_steps.image_left w c0 newest older st inv chance stray c left));
        same = rd.same;
      }
    where
      known : (b p : ℕ) (e : Entry) → b < w.journal → IsAtBlock w.block (w.first b) p → entry_at w c b p ≡ Some e → (e.number < st.records.newest.last_seq) ⊎ In e (st.records.newest ∷ st.records.older)
      known b p e lt ge f =
          elim (found_known b p e lt ge f) [
            | inl k ↦ k
            | inr y ↦ absurd (none_ (subst (λ (n : ℕ). entry_at w c n (st.ring_next st.records.bucket) ≡ Some st.records.entry) y.0 (subst (λ (q : ℕ). entry_at w c b q ≡ Some st.records.entry) y.1 (f ∙ ap Some y.2))) y.3)
          ]

      all_stands : (b : ℕ) → b < w.journal → Stand (entry_len w) (entry_at w c b) (w.first b) (st.records.ring b) (st.ring_next b)
      all_stands b lt = let k = inv.ring b lt in place.entries_stay w k.0.0 c b (st.records.ring b) (st.ring_next b) (all_steps.firm_there st.device k.0.0 (w.first b) (st.ring_next b) c left k.0.2) k.0.1

  sealed : entry_at w c st.records.bucket (st.ring_next st.records.bucket) ≡ Some st.records.entry → IsReady st.records.stage → Again w st c st.records.entry (live st.records.entry.last_seq (st.records.newest ∷ st.records.older)) (st.records.entry.keys ++ st.records.index)
  sealed is ready =
      let il2 = all_steps.image_left w c0 newest older st inv chance stray c left in
      let rl = ring_left w st.records c (all_steps.image_left w c0 newest older st inv chance stray c left) in
      let found : In st.records.entry (ring_entries w c w.journal) = there in
      let rd = left_.read_sealed st.records mi (ring_entries w c w.journal) (node_sets w (owners st.records.nodes) c) rl (choice_left w st.records c (all_steps.image_left w c0 newest older st inv chance stray c left)) there ready in
      let f = mi.follows (ready_some st.records.stage ready) in
      let fl = f.low in
      record {
        ring = put st.records.ring st.records.bucket (st.records.entry ∷ st.records.ring st.records.bucket);
        ring_next = put st.ring_next st.records.bucket (st.ring_next st.records.bucket + entry_len w st.records.entry);
        whole = record {
          sound = rd.sound;
          room = record {
            stands = λ b x i. elim (put_out st.records.ring st.records.bucket b x st.records.entry i) [ inl e ↦ subst (λ (y : Entry). In y (ring_entries w c w.journal)) (sym e) there | inr k ↦ rl.firm b x k ];
            kept = λ x i. elim i [
              | inl e ↦ (st.records.bucket, subst (λ (y : Entry). In y (put st.records.ring st.records.bucket (st.records.entry ∷ st.records.ring st.records.bucket) st.records.bucket)) (sym e) (put_in st.records.ring st.records.bucket st.records.entry))
              | inr r ↦ (let k = mi.ringed x (live_in st.records.entry.last_seq (st.records.newest ∷ st.records.older) x r) in (k.0, in_put st.records.ring st.records.bucket k.0 x st.records.entry k.1))
            ];
          };
          stands = λ b lt.
              by_test b st.records.bucket (λ t. Stand (entry_len w) (entry_at w c b) (w.first b) (if t then st.records.entry ∷ st.records.ring st.records.bucket else st.records.ring b) (if t then st.ring_next st.records.bucket + entry_len w st.records.entry else st.ring_next b))
              (λ e. subst (λ (n : ℕ). Stand (entry_len w) (entry_at w c n) (w.first n) (st.records.entry ∷ st.records.ring st.records.bucket) (st.ring_next st.records.bucket + entry_len w st.records.entry)) (sym e) (st.ring_next st.records.bucket, one_stands st.records.bucket inv.current, is, refl)) (λ _. one_stands b lt);
          inside = λ b lt. by_test b st.records.bucket (λ t. (if t then st.ring_next st.records.bucket + entry_len w st.records.entry else st.ring_next b) ≤ w.first b + w.bucket_sectors)
              (λ e. let k = w.entries.fits c tt (w.first st.records.bucket + w.bucket_sectors) (st.ring_next st.records.bucket) st.records.entry is in let e2 = ap w.first e in omega arith) (λ _. (inv.ring b lt).1);
          only_ring = λ b ge. let cur = inv.current in by_test b st.records.bucket (λ t. (if t then st.records.entry ∷ st.records.ring st.records.bucket else st.records.ring b) ≡ []) (λ e. absurd (omega arith)) (λ _. inv.only_ring b ge);
          current = inv.current;
          stray = λ b p e lt ge fd. elim (found_known b p e lt ge fd) [
            | inl (inl l) ↦ inl (omega arith)
            | inl (inr i) ↦ elim (in_live st.records.newest.last_seq st.records.entry.last_seq (st.records.newest ∷ st.records.older) (suc st.records.newest.number) e mi.count i) [ inl l ↦ inl l | inr k ↦ inr (inr k) ]
            | inr y ↦ inr (inl y.2)
          ];
        };
        keeps = rd.keeps;
        low = low;
        named = left_.sealed_named st.records mi (node_sets w (owners st.records.nodes) c) (choice_left w st.records c (all_steps.image_left w c0 newest older st inv chance stray c left)) ready;
        same = rd.same;
      }
    where
      one_stands : (b : ℕ) → b < w.journal → Stand (entry_len w) (entry_at w c b) (w.first b) (st.records.ring b) (st.ring_next b)
      one_stands b lt = let k = inv.ring b lt in place.entries_stay w k.0.0 c b (st.records.ring b) (st.ring_next b) (all_steps.firm_there st.device k.0.0 (w.first b) (st.ring_next b) c left k.0.2) k.0.1

      there : In st.records.entry (ring_entries w c w.journal)
      there = next_read w st.records c (all_steps.image_left w c0 newest older st inv chance stray c left) st.records.bucket (st.ring_next st.records.bucket) st.records.entry inv.current (one_stands st.records.bucket inv.current) (inv.ring st.records.bucket inv.current).1 is

  pub again : Again w st c st.records.newest st.records.older st.records.index ⊎ (IsReady st.records.stage × Again w st c st.records.entry (live st.records.entry.last_seq (st.records.newest ∷ st.records.older)) (st.records.entry.keys ++ st.records.index))
  again = go (entry_at w c st.records.bucket (st.ring_next st.records.bucket)) refl
    where
      none_some : (x : Option Entry) (e f : Entry) → x ≡ Some e → x ≡ Some f → e ≡ f
      none_some x e f a b = cc

      go : (o : Option Entry) → entry_at w c st.records.bucket (st.ring_next st.records.bucket) ≡ o → Again w st c st.records.newest st.records.older st.records.index ⊎ (IsReady st.records.stage × Again w st c st.records.entry (live st.records.entry.last_seq (st.records.newest ∷ st.records.older)) (st.records.entry.keys ++ st.records.index))
      go None is = inl (durable (λ k r. absurd (cc (is, k))))
      go (Some e) is =
          let k0 = inv.ring st.records.bucket inv.current in
          let at = stand_at w.block (entry_len w) w.entries.whole (entry_at w k0.0.0 st.records.bucket) (w.first st.records.bucket) (st.records.ring st.records.bucket) (st.ring_next st.records.bucket) k0.0.1 in
          elim (found_known st.records.bucket (st.ring_next st.records.bucket) e inv.current at is) [
            | inl k ↦ inl (durable (λ f r. let n = (mi.follows (ready_some st.records.stage r)).number in let le = known_low e k in let m = ap (λ (y : Entry). y.number) (none_some (entry_at w c st.records.bucket (st.ring_next st.records.bucket)) e st.records.entry is f) in absurd (omega arith)))
            | inr y ↦ inr (y.3, sealed (is ∙ ap Some y.2) y.3)
          ]
