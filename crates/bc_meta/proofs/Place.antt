-- Each event keeps what stands on the device, and so each crash image reads as one of the contents.
use Rattle.std.proofs.Common.{◌≡◌, ◌≢◌, ◌⊎◌, inl, inr, ℕ, ◌+◌, ◌<◌, ◌≤◌, Bool, true, false, List, [], ◌∷◌, length, Option, Some, None, refl, sym, ap, ◌∙◌, subst, arith, if◌then◌else◌, ◌&&◌, nat_le}
use Rattle.bc_model.specs.Sector.{Image, Value}
use Rattle.bc_disk.specs.Device.{Content, failed, settled, written}
use Rattle.bc_meta.specs.Facts.{In, Stand}
use Rattle.bc_meta.specs.Entries.{Entry}
use Rattle.bc_meta.specs.Tree.{NodeSet, Owner}
use Rattle.bc_meta.specs.Layout.{Layout, entry_at, entry_len, is_within, node_end, of_seq, set_at, set_len, sets_in}
use Rattle.bc_meta.specs.Events.{Elsewhere, FailElsewhere, FailFill, Fill, NewNode, Reuse}
use Rattle.bc_meta.specs.Records.{Fixed, IsReady, MayStand, Node, Nothing, Ready, Safe, Sent, Stage, after_barrier, failed_node, loose_node, new_node, put, records_after, sent_node}
use Rattle.bc_meta.specs.Places.{CanAppend, CanFill, CanStart, IsOutside, Places, Wrote, places_after, with_set}
use Rattle.bc_meta.proofs.Lists.{by_test, by_le, decide}
use Rattle.bc_meta.proofs.Blank.{Blank, blank_off, first_long, first_reads, settled_sent, settled_still, sent_blank, failed_blank, new_blank}
use Rattle.bc_meta.proofs.Firm.{FirmOn, Off, off_run, off_failed, off_write, off_fail_write, firm_kept, firm_settled, ReadsOn, LeavesOn, reads_written, reads_kept, leaves_kept, laid, laid_below, laid_has, laid_firm, stands_high}

both_ : (b : Bool) → b ≡ true → b ≡ false → ⊥
both_ b x y = absurd (cc)

-- entries that stand firm
abbrev pub Firm : Layout → Content → ℕ → List Entry → ℕ → Type 0
Firm w d b es q = (z : Image) × Stand (entry_len w) (entry_at w z b) (w.first b) es q × FirmOn d z (w.first b) q

abbrev pub FirmSets : Layout → Content → Owner → ℕ → List NodeSet → ℕ → Type 0
FirmSets w d o seq es n = (z : Image) × Stand (set_len w) (set_at w z o seq) (w.begins o) es n × FirmOn d z (w.begins o) n

pub record OwnNode (w : Layout) (d : Content) (n : Node) (q next seq : ℕ) (wrote : List (ℕ × ℕ × NodeSet)) : Type 0 where
  pub stands : FirmSets w d n.owner seq n.sets next
  pub within : is_within w q n.owner ≡ true
  pub inside : next ≤ node_end w n.owner
  pub sent : n.sent ≡ true → (n.last.seq ≡ seq) × (next + set_len w n.last ≤ node_end w n.owner) × ((vs : List Value) × (w.sets.spelled n.owner vs ≡ Some n.last) × ReadsOn d next vs)
  pub log : (p : ℕ) (e : NodeSet) → Wrote wrote q p e → e.seq ≡ seq → (p < next) ⊎ (MayStand n × (p ≡ next) × (e ≡ n.last))
  pub blank : Blank w d n next
  pub some : n.loose ≡ false → n.sets ≢ []

pub record OldNode (w : Layout) (c0 : Image) (d : Content) (n : Node) (q : ℕ) : Type 0 where
  pub firm : is_within w q n.owner ≡ true → FirmOn d c0 (w.begins n.owner) (node_end w n.owner)
  pub sets : n.sets ≡ sets_in w c0 n.owner q
  pub sent : n.sent ≡ false

pub record NodeInv (w : Layout) (c0 : Image) (d : Content) (n : Node) (own : Bool) (q next seq : ℕ) (log : List (ℕ × ℕ × NodeSet)) : Type 0 where
  pub mine : own ≡ true → OwnNode w d n q next seq log
  pub old : own ≡ false → n.loose ≡ false → OldNode w c0 d n q
  pub low : (q < w.journal) ⊎ (w.buckets ≤ q) → (own ≡ false) × (n.loose ≡ true)
  pub unsent : own ≡ false → n.sent ≡ false

-- the entry was sent, and what is read there spells it; after a barrier a crash leaves it too
abbrev pub SentOn : Layout → Content → ℕ → Entry → Stage → Type 0
SentOn w d p e Nothing = Unit {0}
SentOn w d p e Fixed = Unit {0}
SentOn w d p e Ready = Unit {0}
SentOn w d p e Sent = (vs : List Value) × (w.entries.spelled tt vs ≡ Some e) × ReadsOn d p vs
SentOn w d p e Safe = (vs : List Value) × (w.entries.spelled tt vs ≡ Some e) × ReadsOn d p vs × LeavesOn d p vs

pub record Inv (w : Layout) (c0 : Image) (floor : ℕ) (list : List Entry) (st : Places) : Type 0 where
  pub ring : (b : ℕ) → b < w.journal → Firm w st.device b (st.records.ring b) (st.ring_next b) × (st.ring_next b ≤ w.first b + w.bucket_sectors)
  pub only_ring : (b : ℕ) → w.journal ≤ b → st.records.ring b ≡ []
  pub current : st.records.bucket < w.journal
  pub sent : SentOn w st.device (st.ring_next st.records.bucket) st.records.entry st.records.stage
  pub fits : (st.records.stage ≡ Sent) ⊎ (st.records.stage ≡ Safe) → st.ring_next st.records.bucket + entry_len w st.records.entry ≤ w.first st.records.bucket + w.bucket_sectors
  pub nodes : (q : ℕ) → NodeInv w c0 st.device (st.records.nodes q) (st.own q) q (st.node_next q) (st.seq q) st.log
  pub floor_is : st.records.floor ≡ floor
  pub listed : (e : Entry) → In e list → In e st.records.log × (e.number ≤ st.records.newest.number)
  pub placed : (b p : ℕ) (e : Entry) → Wrote st.entry_log b p e → In e st.records.log × ((e.number ≤ st.records.newest.number) ⊎ ((b ≡ st.records.bucket) × (p ≡ st.ring_next st.records.bucket) × (e ≡ st.records.entry) × IsReady st.records.stage))

sent_map : (w : Layout) (old new : Content) (p : ℕ) (e : Entry) (g : Stage) → ((t : ℕ) → p ≤ t → t < p + entry_len w e → Off old new t) → SentOn w old p e g → SentOn w new p e g
sent_map w old new p e Nothing f h = tt
sent_map w old new p e Fixed f h = tt
sent_map w old new p e Ready f h = tt
sent_map w old new p e Sent f h = let l = w.entries.long tt h.0 e h.1 in (h.0, h.1, reads_kept old new p h.0 (λ t ge lt. f t ge (omega arith)) h.2)
sent_map w old new p e Safe f h =
    let l = w.entries.long tt h.0 e h.1 in
    (h.0, h.1, reads_kept old new p h.0 (λ t ge lt. f t ge (omega arith)) h.2, leaves_kept old new p h.0 (λ t ge lt. f t ge (omega arith)) h.3)

pub sent_settled : (w : Layout) (d : Content) (p : ℕ) (e : Entry) (g : Stage) → SentOn w d p e g → SentOn w (settled d) p e (after_barrier g)
sent_settled w d p e Nothing h = tt
sent_settled w d p e Fixed h = tt
sent_settled w d p e Ready h = tt
sent_settled w d p e Sent h = (h.0, h.1, h.2, h.2)
sent_settled w d p e Safe h = (h.0, h.1, h.2, h.2)

pub fits_back : (g : Stage) → (after_barrier g ≡ Sent) ⊎ (after_barrier g ≡ Safe) → (g ≡ Sent) ⊎ (g ≡ Safe)
fits_back Nothing h = absurd (elim h [ inl e ↦ none_sent e | inr e ↦ none_safe e ])
  where
    none_sent : Nothing ≡ Sent → ⊥
    none_sent e = cc

    none_safe : Nothing ≡ Safe → ⊥
    none_safe e = cc
fits_back Fixed h = absurd (elim h [ inl e ↦ ready_sent e | inr e ↦ ready_safe e ])
  where
    ready_sent : Ready ≡ Sent → ⊥
    ready_sent e = cc

    ready_safe : Ready ≡ Safe → ⊥
    ready_safe e = cc
fits_back Ready h = absurd (elim h [ inl e ↦ ready_sent e | inr e ↦ ready_safe e ])
  where
    ready_sent : Ready ≡ Sent → ⊥
    ready_sent e = cc

    ready_safe : Ready ≡ Safe → ⊥
    ready_safe e = cc
fits_back Sent h = inl refl
fits_back Safe h = inr refl

-- where a node lies
pub within_of : (w : Layout) (q : ℕ) (o : Owner) → is_within w q o ≡ true → (w.first q ≤ w.begins o) × (w.begins o + w.node_sectors ≤ w.first q + w.bucket_sectors)
within_of w q o =
    by_le (w.first q) (w.begins o) (λ b. (b && nat_le (node_end w o) (w.first q + w.bucket_sectors)) ≡ true → (w.first q ≤ w.begins o) × (w.begins o + w.node_sectors ≤ w.first q + w.bucket_sectors))
    (λ le. by_le (node_end w o) (w.first q + w.bucket_sectors) (λ b. b ≡ true → (w.first q ≤ w.begins o) × (w.begins o + w.node_sectors ≤ w.first q + w.bucket_sectors)) (λ up _. (le, up)) (λ _ h. absurd (cc)))
    (λ _ h. absurd (cc))

-- the device changes outside a node's bucket
pub node_off : (w : Layout) (c0 : Image) (old new : Content) (n : Node) (own : Bool) (q next seq : ℕ) (log : List (ℕ × ℕ × NodeSet)) → ((t : ℕ) → w.first q ≤ t → t < w.first q + w.bucket_sectors → Off old new t) → NodeInv w c0 old n own q next seq log → NodeInv w c0 new n own q next seq log
node_off w c0 old new n own q next seq log same h = record {
  mine = λ is.
      let m = h.mine is in
      let inside = m.inside in
      let in_it = within_of w q n.owner m.within in
      let in0 = in_it.0 in
      let in1 = in_it.1 in
      let high = stands_high (set_len w) (set_at w m.stands.0 n.owner seq) (w.begins n.owner) n.sets next m.stands.1 in
      record {
        stands = (m.stands.0, m.stands.1, firm_kept old new m.stands.0 (w.begins n.owner) next (λ t ge lt. same t (omega arith) (omega arith)) m.stands.2);
        within = m.within;
        inside = m.inside;
        sent = λ s. let k = m.sent s in let k1 = k.1 in let l = w.sets.long n.owner k.2.0 n.last k.2.1 in (k.0, k.1, (k.2.0, k.2.1, reads_kept old new next k.2.0 (λ t ge lt. same t (omega arith) (omega arith)) k.2.2));
        log = m.log;
        blank = blank_off w old new n next (λ t ge lt. same t (omega arith) (omega arith)) m.blank;
        some = m.some;
      };
  old = λ is l. let m = h.old is l in record { firm = λ in_ t ge lt. (let k = within_of w q n.owner in_ in let k0 = k.0 in let k1 = k.1 in firm_kept old new c0 (w.begins n.owner) (node_end w n.owner) (λ x a b. same x (omega arith) (omega arith)) (m.firm in_) t ge lt); sets = m.sets; sent = m.sent };
  low = h.low;
  unsent = h.unsent;
}

pub of_seq_some : (seq : ℕ) (o : Option NodeSet) (e : NodeSet) → of_seq seq o ≡ Some e → (o ≡ Some e) × (e.seq ≡ seq)
of_seq_some seq None e = λ h. absurd (cc)
of_seq_some seq (Some x) e =
    by_test x.seq seq (λ b. (if b then Some x else None) ≡ Some e → (Some x ≡ Some e) × (e.seq ≡ seq))
    (λ is h. (h, same x e h is)) (λ ne h. absurd (cc))
  where
    same : (x e : NodeSet) → Some x ≡ Some e → x.seq ≡ seq → e.seq ≡ seq
    same x e h is = cc

of_seq_is : (seq : ℕ) (o : Option NodeSet) (e : NodeSet) → o ≡ Some e → e.seq ≡ seq → of_seq seq o ≡ Some e
of_seq_is seq o e is n = ap (λ (x : Option NodeSet). of_seq seq x) is ∙ by_test e.seq seq (λ b. (if b then Some e else None) ≡ Some e) (λ _. refl) (λ ne. absurd (ne n))

pub stands_stay : {A : Type 0} → (len : A → ℕ) (f g : ℕ → Option A) (start : ℕ) (es : List A) (q : ℕ) → ((p : ℕ) (e : A) → start ≤ p → p + len e ≤ q → f p ≡ Some e → g p ≡ Some e) → Stand len f start es q → Stand len g start es q
stands_stay len f g start [] q keep h = h
stands_stay len f g start (e ∷ es) q keep h =
    let high = stands_high len f start es h.0 h.1 in
    let is = h.3 in
    (h.0, stands_stay len f g start es h.0 (λ p x ge le k. keep p x ge (omega arith) k) h.1, keep h.0 e high (omega arith) h.2, h.3)

pub entries_stay : (w : Layout) (z c : Image) (b : ℕ) (es : List Entry) (q : ℕ) → ((t : ℕ) → w.first b ≤ t → t < q → z t ≡ c t) → Stand (entry_len w) (entry_at w z b) (w.first b) es q → Stand (entry_len w) (entry_at w c b) (w.first b) es q
entries_stay w z c b es q same = stands_stay (entry_len w) (entry_at w z b) (entry_at w c b) (w.first b) es q (λ p e ge le k. w.entries.stays z c tt (w.first b + w.bucket_sectors) p e k (λ t from to. same t (omega arith) (omega arith)))

pub sets_stay : (w : Layout) (z c : Image) (o : Owner) (seq : ℕ) (es : List NodeSet) (n : ℕ) → ((t : ℕ) → w.begins o ≤ t → t < n → z t ≡ c t) → Stand (set_len w) (set_at w z o seq) (w.begins o) es n → Stand (set_len w) (set_at w c o seq) (w.begins o) es n
sets_stay w z c o seq es n same =
    stands_stay (set_len w) (set_at w z o seq) (set_at w c o seq) (w.begins o) es n
    (λ p e ge le k. let m = of_seq_some seq _ e k in of_seq_is seq _ e (w.sets.stays z c o (node_end w o) p e m.0 (λ t from to. same t (omega arith) (omega arith))) m.1)

wrote_other : (w : Layout) (c0 : Image) (d : Content) (n : Node) (own : Bool) (q next seq k p0 : ℕ) (set : NodeSet) (log : List (ℕ × ℕ × NodeSet)) → q ≢ k → NodeInv w c0 d n own q next seq log → NodeInv w c0 d n own q next seq ((k, p0, set) ∷ log)
wrote_other w c0 d n own q next seq k p0 set log ne h = record {
  mine = λ is. let m = h.mine is in record { stands = m.stands; within = m.within; inside = m.inside; sent = m.sent; log = λ p e r s. elim r [ inl x ↦ absurd (ne x.0) | inr y ↦ m.log p e y s ]; blank = m.blank; some = m.some };
  old = h.old;
  low = h.low;
  unsent = h.unsent;
}

wrote_with : (w : Layout) (c0 : Image) (d : Content) (n : Node) (own : Bool) (q next seq k p0 : ℕ) (what : Option NodeSet) (log : List (ℕ × ℕ × NodeSet)) → q ≢ k → NodeInv w c0 d n own q next seq log → NodeInv w c0 d n own q next seq (with_set k p0 what log)
wrote_with w c0 d n own q next seq k p0 None log ne h = h
wrote_with w c0 d n own q next seq k p0 (Some set) log ne h = wrote_other w c0 d n own q next seq k p0 set log ne h

-- a node that nothing is known of
pub nothing_known : (w : Layout) (c0 : Image) (d : Content) (n : Node) (own : Bool) (q next seq : ℕ) (log : List (ℕ × ℕ × NodeSet)) → own ≡ false → n.loose ≡ true → n.sent ≡ false → NodeInv w c0 d n own q next seq log
nothing_known w c0 d n own q next seq log a b c = record { mine = λ is. absurd (cc (is, a)); old = λ _ l. absurd (cc (l, b)); low = λ _. (a, b); unsent = λ _. c }

-- of a place that is no node's nothing is asked
pub node_out : (w : Layout) (c0 : Image) (old new : Content) (n : Node) (own : Bool) (q next seq : ℕ) (log : List (ℕ × ℕ × NodeSet)) → (q < w.journal) ⊎ (w.buckets ≤ q) → NodeInv w c0 old n own q next seq log → NodeInv w c0 new n own q next seq log
node_out w c0 old new n own q next seq log out h = let l = h.low out in nothing_known w c0 new n own q next seq log l.0 l.1 (h.unsent l.0)

pub either : (b n : ℕ) → (b < n) ⊎ (n ≤ b)
either b n = grind arith

pub mine_in : (w : Layout) (c0 : Image) (d : Content) (n : Node) (own : Bool) (q next seq : ℕ) (log : List (ℕ × ℕ × NodeSet)) → own ≡ true → NodeInv w c0 d n own q next seq log → q < w.buckets
mine_in w c0 d n own q next seq log is h = elim (either q w.buckets) [ inl lt ↦ lt | inr ge ↦ absurd (cc ((h.low (inr ge)).0, is)) ]

pub mine_above : (w : Layout) (c0 : Image) (d : Content) (n : Node) (own : Bool) (q next seq : ℕ) (log : List (ℕ × ℕ × NodeSet)) → own ≡ true → NodeInv w c0 d n own q next seq log → w.journal ≤ q
mine_above w c0 d n own q next seq log is h = elim (either q w.journal) [ inl lt ↦ absurd (cc ((h.low (inl lt)).0, is)) | inr ge ↦ ge ]

-- after a barrier
pub node_settled : (w : Layout) (c0 : Image) (d : Content) (n : Node) (own : Bool) (q next seq : ℕ) (log : List (ℕ × ℕ × NodeSet)) (b : Bool) → n.sent ≡ b → NodeInv w c0 d n own q next seq log
    → NodeInv w c0 (settled d) (record { loose = if b then false else n.loose; owner = n.owner; sets = if b then n.last ∷ n.sets else n.sets; last = n.last; sent = false; failed = if b then false else n.failed }) own q (if b then next + set_len w n.last else next) seq log
node_settled w c0 d n own q next seq log true is h = record {
  mine = λ o.
      let m = h.mine o in
      let k = m.sent is in
      let vs = k.2.0 in
      let some = w.sets.some n.last in
      let l = w.sets.long n.owner vs n.last k.2.1 in
      let z = m.stands.0 in
      record {
        stands = (
          laid z next vs,
          (next, sets_stay w z (laid z next vs) n.owner seq n.sets next (λ t ge lt. laid_below z next vs t lt) m.stands.1, of_seq_is seq _ n.last (w.sets.reads_back (laid z next vs) n.owner (node_end w n.owner) next vs n.last k.2.1 (laid_has z next vs) k.1) k.0, refl),
          subst (λ (x : ℕ). FirmOn (settled d) (laid z next vs) (w.begins n.owner) (next + x)) l (laid_firm (settled d) z (w.begins n.owner) next vs (firm_settled d z (w.begins n.owner) next m.stands.2) k.2.2 k.2.2),
        );
        within = m.within;
        inside = k.1;
        sent = λ e. absurd (cc);
        log = λ p e r s. elim (m.log p e r s) [ inl lt ↦ inl (omega arith) | inr y ↦ inl (let y1 = y.1 in omega arith) ];
        blank = settled_sent w d n next is m.blank;
        some = λ _ e. absurd (cc);
      };
  old = λ o _. absurd (cc (h.unsent o, is));
  low = λ lt. absurd (cc (h.unsent (h.low lt).0, is));
  unsent = λ _. refl;
}
node_settled w c0 d n own q next seq log false is h = record {
  mine = λ o. let m = h.mine o in record {
    stands = (m.stands.0, m.stands.1, firm_settled d m.stands.0 (w.begins n.owner) next m.stands.2);
    within = m.within;
    inside = m.inside;
    sent = λ e. absurd (cc);
    log = λ p e r s. elim (m.log p e r s) [ inl lt ↦ inl lt | inr y ↦ inr (elim y.0 [ inl x ↦ absurd (cc (x, is)) | inr x ↦ inr x ], y.1, y.2) ];
    blank = settled_still w d n next is m.blank;
    some = m.some;
  };
  old = λ o l. let m = h.old o l in record { firm = λ in_. firm_settled d c0 (w.begins n.owner) (node_end w n.owner) (m.firm in_); sets = m.sets; sent = refl };
  low = h.low;
  unsent = λ _. refl;
}

module _ (w : Layout) (c0 : Image) (floor : ℕ) (list : List Entry) (st : Places) (inv : Inv w c0 floor list st) where
  -- a write in one bucket leaves the others
  pub apart : (k place : ℕ) (vs : List Value) (b t : ℕ) → b < w.buckets → k < w.buckets → b ≢ k → w.first k ≤ place → place + length vs ≤ w.first k + w.bucket_sectors → w.first b ≤ t → t < w.first b + w.bucket_sectors → Off st.device (written place vs st.device) t
  apart k place vs b t bt kt ne ge le from to = off_run st.device place vs t (λ r. let r0 = r.0 in let r1 = r.1 in w.apart b k t bt kt ne from to (omega arith) (omega arith))

  pub apart_failed : (k place : ℕ) (vs : List Value) (b t : ℕ) → b < w.buckets → k < w.buckets → b ≢ k → w.first k ≤ place → place + length vs ≤ w.first k + w.bucket_sectors → w.first b ≤ t → t < w.first b + w.bucket_sectors → Off st.device (failed place vs st.device) t
  apart_failed k place vs b t bt kt ne ge le from to = off_failed st.device place vs t (λ r. let r0 = r.0 in let r1 = r.1 in w.apart b k t bt kt ne from to (omega arith) (omega arith))

  -- the entries, where the device changes away from them
  pub ring_off : (new : Content) → ((b t : ℕ) → b < w.journal → w.first b ≤ t → t < w.first b + w.bucket_sectors → Off st.device new t) → (b : ℕ) → b < w.journal → Firm w new b (st.records.ring b) (st.ring_next b) × (st.ring_next b ≤ w.first b + w.bucket_sectors)
  ring_off new same b lt =
      let k = inv.ring b lt in
      let k1 = k.1 in
      ((k.0.0, k.0.1, firm_kept st.device new k.0.0 (w.first b) (st.ring_next b) (λ t ge l. same b t lt ge (omega arith)) k.0.2), k.1)

  sent_off : (new : Content) → ((b t : ℕ) → b < w.journal → w.first b ≤ t → t < w.first b + w.bucket_sectors → Off st.device new t) → SentOn w new (st.ring_next st.records.bucket) st.records.entry st.records.stage
  sent_off new same = go st.records.stage inv.fits inv.sent
    where
      at : (st.ring_next st.records.bucket + entry_len w st.records.entry ≤ w.first st.records.bucket + w.bucket_sectors) → (t : ℕ) → st.ring_next st.records.bucket ≤ t → t < st.ring_next st.records.bucket + entry_len w st.records.entry → Off st.device new t
      at fits t ge l =
          let k = inv.ring st.records.bucket inv.current in
          let high = stands_high (entry_len w) (entry_at w k.0.0 st.records.bucket) (w.first st.records.bucket) (st.records.ring st.records.bucket) (st.ring_next st.records.bucket) k.0.1 in
          same st.records.bucket t inv.current (omega arith) (omega arith)

      go : (g : Stage) → ((g ≡ Sent) ⊎ (g ≡ Safe) → st.ring_next st.records.bucket + entry_len w st.records.entry ≤ w.first st.records.bucket + w.bucket_sectors) → SentOn w st.device (st.ring_next st.records.bucket) st.records.entry g → SentOn w new (st.ring_next st.records.bucket) st.records.entry g
      go Nothing f h = tt
      go Fixed f h = tt
      go Ready f h = tt
      go Sent f h = sent_map w st.device new (st.ring_next st.records.bucket) st.records.entry Sent (at (f (inl refl))) h
      go Safe f h = sent_map w st.device new (st.ring_next st.records.bucket) st.records.entry Safe (at (f (inr refl))) h

  -- the device changes outside all buckets
  above : (new : Content) → ((b t : ℕ) → b < w.buckets → w.first b ≤ t → t < w.first b + w.bucket_sectors → Off st.device new t) → Inv w c0 floor list (record st { device = new })
  above new off =
      record {
        ring = ring_off new (λ b t lt from to. let j = w.journal_within in off b t (omega arith) from to);
        only_ring = inv.only_ring;
        current = inv.current;
        sent = sent_off new (λ b t lt from to. let j = w.journal_within in off b t (omega arith) from to);
        fits = inv.fits;
        nodes = λ q. elim (either q w.buckets) [
          | inl lt ↦ node_off w c0 st.device new (st.records.nodes q) (st.own q) q (st.node_next q) (st.seq q) st.log (λ t from to. off q t lt from (omega arith)) (inv.nodes q)
          | inr out ↦ node_out w c0 st.device new (st.records.nodes q) (st.own q) q (st.node_next q) (st.seq q) st.log (inr out) (inv.nodes q)
        ];
        floor_is = inv.floor_is;
        listed = inv.listed;
        placed = inv.placed;
      }

  pub keep_elsewhere : (place : ℕ) (vs : List Value) → IsOutside w place vs → Inv w c0 floor list (places_after w st (Elsewhere place vs))
  keep_elsewhere place vs out = above (written place vs st.device) (λ b t lt from to. off_write st.device place vs t (out b t lt from to))

  pub keep_fail_elsewhere : (place : ℕ) (vs : List Value) → IsOutside w place vs → Inv w c0 floor list (places_after w st (FailElsewhere place vs))
  keep_fail_elsewhere place vs out = above (failed place vs st.device) (λ b t lt from to. off_fail_write st.device place vs t (out b t lt from to))

  -- the device changes in the bucket of node k alone
  into_node : (k : ℕ) (new : Content) (nodes : ℕ → Node) (unused : ℕ → Bool) (next : ℕ → ℕ) (own : ℕ → Bool) (seq : ℕ → ℕ) (log : List (ℕ × ℕ × NodeSet))
      → w.journal ≤ k → k < w.buckets → ((b t : ℕ) → b < w.buckets → b ≢ k → w.first b ≤ t → t < w.first b + w.bucket_sectors → Off st.device new t)
      → NodeInv w c0 new (nodes k) (own k) k (next k) (seq k) log
      → ((q : ℕ) → q ≢ k → NodeInv w c0 st.device (nodes q) (own q) q (next q) (seq q) log)
      → Inv w c0 floor list (record { device = new; records = record st.records { nodes = nodes; unused = unused }; ring_next = st.ring_next; node_next = next; own = own; seq = seq; log = log; entry_log = st.entry_log })
  into_node k new nodes unused next own seq log high kt away here others =
      let off : (b t : ℕ) → b < w.journal → w.first b ≤ t → t < w.first b + w.bucket_sectors → Off st.device new t = λ b t lt from to. let j = w.journal_within in away b t (omega arith) (λ e. absurd (omega arith)) from to in
      record {
        ring = ring_off new off;
        only_ring = inv.only_ring;
        current = inv.current;
        sent = sent_off new off;
        fits = inv.fits;
        nodes = λ q. elim (decide q k) [
          | inl e ↦ subst (λ (n : ℕ). NodeInv w c0 new (nodes n) (own n) n (next n) (seq n) log) (sym e) here
          | inr ne ↦ elim (either q w.buckets) [
            | inl lt ↦ node_off w c0 st.device new (nodes q) (own q) q (next q) (seq q) log (λ t from to. away q t lt ne from (omega arith)) (others q ne)
            | inr out ↦ node_out w c0 st.device new (nodes q) (own q) q (next q) (seq q) log (inr out) (others q ne)
          ]
        ];
        floor_is = inv.floor_is;
        listed = inv.listed;
        placed = inv.placed;
      }

  -- a set behind a node's last
  pub keep_set : (k : ℕ) (set : NodeSet) (vs : List Value) (unused : ℕ → Bool) → w.journal ≤ k → CanAppend w st k set vs → (st.records.nodes k).loose ≡ false → (st.records.nodes k).sent ≡ false → (st.records.nodes k).failed ≡ false
      → Inv w c0 floor list (record { device = written (st.node_next k) vs st.device; records = record st.records { nodes = put st.records.nodes k (sent_node set (st.records.nodes k)); unused = unused }; ring_next = st.ring_next; node_next = st.node_next; own = st.own; seq = st.seq; log = (k, st.node_next k, set) ∷ st.log; entry_log = st.entry_log })
  keep_set k set vs unused high can loose sent failed_ =
      let m = (inv.nodes k).mine can.0 in
      let up = stands_high (set_len w) (set_at w m.stands.0 (st.records.nodes k).owner (st.seq k)) (w.begins (st.records.nodes k).owner) (st.records.nodes k).sets (st.node_next k) m.stands.1 in
      let c2 = can.2 in
      let in_it = within_of w k (st.records.nodes k).owner m.within in
      let in0 = in_it.0 in
      let in1 = in_it.1 in
      let long = w.sets.long (st.records.nodes k).owner vs set can.3 in
      let p = st.node_next k in
      let x : Node = sent_node set (st.records.nodes k) in
      let log : List (ℕ × ℕ × NodeSet) = (k, st.node_next k, set) ∷ st.log in
      let kt = mine_in w c0 st.device (st.records.nodes k) (st.own k) k (st.node_next k) (st.seq k) st.log can.0 (inv.nodes k) in
      into_node k (written (st.node_next k) vs st.device) (put st.records.nodes k x) unused st.node_next st.own st.seq log high kt (λ b t bt ne. apart k (st.node_next k) vs b t bt kt ne (omega arith) (omega arith))
      (by_test k k (λ b. NodeInv w c0 (written (st.node_next k) vs st.device) (if b then sent_node set (st.records.nodes k) else st.records.nodes k) (st.own k) k (st.node_next k) (st.seq k) ((k, st.node_next k, set) ∷ st.log))
      (λ _. record {
        mine = λ _. record {
          stands = (m.stands.0, m.stands.1, firm_kept st.device (written (st.node_next k) vs st.device) m.stands.0 (w.begins (st.records.nodes k).owner) (st.node_next k) (λ t ge lt. off_run st.device (st.node_next k) vs t (λ r. let r0 = r.0 in absurd (omega arith))) m.stands.2);
          within = m.within;
          inside = m.inside;
          sent = λ _. (can.1, can.2, (vs, can.3, reads_written st.device (st.node_next k) vs));
          log = λ p e r s. elim r [ inl y ↦ inr (inl refl, y.1, y.2) | inr y ↦ elim (m.log p e y s) [ inl lt ↦ inl lt | inr y2 ↦ absurd (elim y2.0 [ inl x ↦ both_ _ x sent | inr x ↦ both_ _ x failed_ ]) ] ];
          blank = sent_blank w st.device (st.records.nodes k) set (st.node_next k) vs long loose sent failed_ m.blank;
          some = λ _. m.some loose;
        };
        old = λ o. absurd (cc (o, can.0));
        low = λ lt. absurd (cc (((inv.nodes k).low lt).0, can.0));
        unsent = λ o. absurd (cc (o, can.0));
      }) (λ ne. absurd (ne refl)))
      (λ q ne. by_test q k (λ b. NodeInv w c0 st.device (if b then sent_node set (st.records.nodes k) else st.records.nodes q) (st.own q) q (st.node_next q) (st.seq q) ((k, st.node_next k, set) ∷ st.log))
      (λ e. absurd (ne e)) (λ _. wrote_other w c0 st.device (st.records.nodes q) (st.own q) q (st.node_next q) (st.seq q) k (st.node_next k) set st.log ne (inv.nodes q)))

  -- one whose write failed
  pub keep_fail_set : (k : ℕ) (set : NodeSet) (vs : List Value) (unused : ℕ → Bool) → w.journal ≤ k → CanAppend w st k set vs → (st.records.nodes k).loose ≡ false → (st.records.nodes k).sent ≡ false → (st.records.nodes k).failed ≡ false
      → Inv w c0 floor list (record { device = failed (st.node_next k) vs st.device; records = record st.records { nodes = put st.records.nodes k (failed_node set (st.records.nodes k)); unused = unused }; ring_next = st.ring_next; node_next = st.node_next; own = st.own; seq = st.seq; log = (k, st.node_next k, set) ∷ st.log; entry_log = st.entry_log })
  keep_fail_set k set vs unused high can loose sent failed_ =
      let m = (inv.nodes k).mine can.0 in
      let up = stands_high (set_len w) (set_at w m.stands.0 (st.records.nodes k).owner (st.seq k)) (w.begins (st.records.nodes k).owner) (st.records.nodes k).sets (st.node_next k) m.stands.1 in
      let c2 = can.2 in
      let in_it = within_of w k (st.records.nodes k).owner m.within in
      let in0 = in_it.0 in
      let in1 = in_it.1 in
      let long = w.sets.long (st.records.nodes k).owner vs set can.3 in
      let p = st.node_next k in
      let x : Node = failed_node set (st.records.nodes k) in
      let log : List (ℕ × ℕ × NodeSet) = (k, st.node_next k, set) ∷ st.log in
      let kt = mine_in w c0 st.device (st.records.nodes k) (st.own k) k (st.node_next k) (st.seq k) st.log can.0 (inv.nodes k) in
      into_node k (failed (st.node_next k) vs st.device) (put st.records.nodes k x) unused st.node_next st.own st.seq log high kt (λ b t bt ne. apart_failed k (st.node_next k) vs b t bt kt ne (omega arith) (omega arith))
      (by_test k k (λ b. NodeInv w c0 (failed (st.node_next k) vs st.device) (if b then failed_node set (st.records.nodes k) else st.records.nodes k) (st.own k) k (st.node_next k) (st.seq k) ((k, st.node_next k, set) ∷ st.log))
      (λ _. record {
        mine = λ _. record {
          stands = (m.stands.0, m.stands.1, firm_kept st.device (failed (st.node_next k) vs st.device) m.stands.0 (w.begins (st.records.nodes k).owner) (st.node_next k) (λ t ge lt. off_failed st.device (st.node_next k) vs t (λ r. let r0 = r.0 in absurd (omega arith))) m.stands.2);
          within = m.within;
          inside = m.inside;
          sent = λ e. absurd (no_true e);
          log = λ p e r s. elim r [ inl y ↦ inr (inr refl, y.1, y.2) | inr y ↦ elim (m.log p e y s) [ inl lt ↦ inl lt | inr y2 ↦ absurd (elim y2.0 [ inl x ↦ both_ _ x sent | inr x ↦ both_ _ x failed_ ]) ] ];
          blank = failed_blank w st.device (st.records.nodes k) set (st.node_next k) vs long loose sent failed_ m.blank;
          some = λ _. m.some loose;
        };
        old = λ o. absurd (cc (o, can.0));
        low = λ lt. absurd (cc (((inv.nodes k).low lt).0, can.0));
        unsent = λ o. absurd (cc (o, can.0));
      }) (λ ne. absurd (ne refl)))
      (λ q ne. by_test q k (λ b. NodeInv w c0 st.device (if b then failed_node set (st.records.nodes k) else st.records.nodes q) (st.own q) q (st.node_next q) (st.seq q) ((k, st.node_next k, set) ∷ st.log))
      (λ e. absurd (ne e)) (λ _. wrote_other w c0 st.device (st.records.nodes q) (st.own q) q (st.node_next q) (st.seq q) k (st.node_next k) set st.log ne (inv.nodes q)))
    where
      no_true : false ≡ true → ⊥
      no_true e = cc

  pub keep_new : (k : ℕ) (o : Owner) (set : NodeSet) (vs : List Value) → CanStart w st k o set vs → Inv w c0 floor list (places_after w st (NewNode k o set vs))
  keep_new k o set vs can =
      let long = first_long w o set vs can.first can.room in
      let room = can.room in
      let in_it = within_of w k o can.inside in
      let in0 = in_it.0 in
      let in1 = in_it.1 in
      let high = can.low in
      let x : Node = new_node o set in
      into_node k (written (w.begins o) vs st.device) (put st.records.nodes k x) st.records.unused (put st.node_next k (w.begins o)) (put st.own k true) (put st.seq k set.seq) ((k, w.begins o, set) ∷ st.log) high can.high (λ b t bt ne. apart k (w.begins o) vs b t bt can.high ne (omega arith) (omega arith))
      (by_test k k (λ b. NodeInv w c0 (written (w.begins o) vs st.device) (if b then new_node o set else st.records.nodes k) (if b then true else st.own k) k (if b then w.begins o else st.node_next k) (if b then set.seq else st.seq k) ((k, w.begins o, set) ∷ st.log))
      (λ _. record {
        mine = λ _. record {
          stands = (c0, refl, λ t ge lt. absurd (omega arith));
          within = can.inside;
          inside = omega arith;
          sent = λ _. (refl, can.room, (can.first.front, can.first.spelled, first_reads w o set vs can.first can.room st.device));
          log = λ p e r s. elim r [ inl y ↦ inr (inl refl, y.1, y.2) | inr y ↦ absurd (can.unheard p e y s) ];
          blank = new_blank w st.device o set vs can.first can.room;
          some = λ l. absurd (cc);
        };
        old = λ o. absurd (cc);
        low = λ lt. let kt = can.high in elim lt [ inl a ↦ absurd (omega arith) | inr b ↦ absurd (omega arith) ];
        unsent = λ o. absurd (cc);
      }) (λ ne. absurd (ne refl)))
      (λ q ne. by_test q k (λ b. NodeInv w c0 st.device (if b then new_node o set else st.records.nodes q) (if b then true else st.own q) q (if b then w.begins o else st.node_next q) (if b then set.seq else st.seq q) ((k, w.begins o, set) ∷ st.log))
      (λ e. absurd (ne e)) (λ _. wrote_other w c0 st.device (st.records.nodes q) (st.own q) q (st.node_next q) (st.seq q) k (w.begins o) set st.log ne (inv.nodes q)))

  scratch_nodes : (k : ℕ) (d : Content) → ((q : ℕ) → q ≢ k → NodeInv w c0 d (st.records.nodes q) (st.own q) q (st.node_next q) (st.seq q) st.log) → (q : ℕ) → NodeInv w c0 d (put st.records.nodes k loose_node q) (put st.own k false q) q (st.node_next q) (st.seq q) st.log
  scratch_nodes k d others q =
      by_test q k (λ b. NodeInv w c0 d (if b then loose_node else st.records.nodes q) (if b then false else st.own q) q (st.node_next q) (st.seq q) st.log)
      (λ e. nothing_known w c0 d _ false q (st.node_next q) (st.seq q) st.log refl refl refl) (λ ne. others q ne)

  pub keep_reuse : (k : ℕ) → Inv w c0 floor list (places_after w st (Reuse k))
  keep_reuse k = record {
    ring = inv.ring;
    only_ring = inv.only_ring;
    current = inv.current;
    sent = inv.sent;
    fits = inv.fits;
    nodes = scratch_nodes k st.device (λ q ne. inv.nodes q);
    floor_is = inv.floor_is;
    listed = inv.listed;
    placed = inv.placed;
  }

  -- nothing is known of the node any more
  loosened : (k place : ℕ) (what : Option NodeSet) (new : Content) → w.journal ≤ k → k < w.buckets → ((b t : ℕ) → b < w.buckets → b ≢ k → w.first b ≤ t → t < w.first b + w.bucket_sectors → Off st.device new t)
      → Inv w c0 floor list (record st { device = new; records = records_after st.records (Reuse k); own = put st.own k false; log = with_set k place what st.log })
  loosened k place what new high kt away =
      into_node k new (put st.records.nodes k loose_node) st.records.unused st.node_next (put st.own k false) st.seq (with_set k place what st.log) high kt away
      (by_test k k (λ b. NodeInv w c0 new (if b then loose_node else st.records.nodes k) (if b then false else st.own k) k (st.node_next k) (st.seq k) (with_set k place what st.log))
      (λ e. nothing_known w c0 new loose_node false k (st.node_next k) (st.seq k) (with_set k place what st.log) refl refl refl) (λ ne. absurd (ne refl)))
      (λ q ne. wrote_with w c0 st.device (put st.records.nodes k loose_node q) (put st.own k false q) q (st.node_next q) (st.seq q) k place what st.log ne (scratch_nodes k st.device (λ r n2. inv.nodes r) q))

  pub keep_fill : (k place : ℕ) (vs : List Value) → CanFill w k place vs → Inv w c0 floor list (places_after w st (Fill k place vs))
  keep_fill k place vs can = loosened k place None (written place vs st.device) can.0 can.3 (λ b t bt ne. apart k place vs b t bt can.3 ne can.1 can.2)

  pub keep_fail_fill : (k place : ℕ) (vs : List Value) (what : Option NodeSet) → CanFill w k place vs → Inv w c0 floor list (places_after w st (FailFill k place vs what))
  keep_fail_fill k place vs what can = loosened k place what (failed place vs st.device) can.0 can.3
      (λ b t bt ne from to. let le = can.1 in let up = can.2 in off_failed st.device place vs t (λ r. let r0 = r.0 in let r1 = r.1 in w.apart b k t bt can.3 ne from to (omega arith) (omega arith)))
