-- An event of the journal and the nodes leaves every bucket alone in which no node stands and that it isn't told to write.
use Rattle.std.proofs.Common.{◌≡◌, ◌≢◌, inl, inr, ℕ, ◌+◌, ◌<◌, ◌≤◌, Bool, true, false, List, ◌∷◌, length, None, refl, sym, subst, arith, if◌then◌else◌, ◌==◌}
use Rattle.bc_model.specs.Sector.{Image, Value, at_run}
use Rattle.bc_disk.specs.Device.{Content}
use Rattle.bc_meta.specs.Entries.{Entry}
use Rattle.bc_meta.specs.Tree.{NodeSet, Owner}
use Rattle.bc_meta.specs.Layout.{Layout, set_at, set_len}
use Rattle.bc_meta.specs.Chain.{EachOf}
use Rattle.bc_meta.specs.Events.{AddKey, AddSet, Barrier, BeginBucket, Elsewhere, Event, FailElsewhere, FailEntry, FailFill, FailSet, Fill, GiveUp, MakeDurable, NewNode, Reuse, SealEntry, WriteEntry}
use Rattle.bc_meta.specs.Records.{Fixed, Node, Nothing, Ready, Safe, Sent, Stage, after_barrier, loose_node}
use Rattle.bc_meta.specs.Places.{Call, CanAppend, CanHappen, FailedCall, NoCall, Places, SyncCall, WriteCall, call_of, called, places_after, writes}
use Rattle.bc_meta.specs.Acts.{is_plain}
use Rattle.bc_meta.proofs.Lists.{by_test}
use Rattle.bc_meta.proofs.Runs.{at_miss}
use Rattle.bc_meta.proofs.Firm.{off_write, off_fail_write, stands_high}
use Rattle.bc_meta.proofs.Place as place_
use Rattle.bc_meta.proofs.Place.{within_of}
use Rattle.bc_meta.proofs.Steps as steps_
use Rattle.bc_meta.proofs.Chains.{Calm, CalmIn, StandsBy, by_calm, by_barrier}

-- nothing is known of a node there, and no set was sent
pub record Quiet (w : Layout) (n : Node) (q : ℕ) : Type 0 where
  pub loose : n.loose ≡ true
  pub unsent : n.sent ≡ false
  pub low : w.journal ≤ q
  pub high : q < w.buckets

-- what writes nothing there is calm
calm_call : (call : Call) (d : Content) (a b : ℕ) → ((t : ℕ) → a ≤ t → t < b → writes call t ≡ None) → Calm d (called call d) a b
calm_call NoCall d a b none_ = inr (λ t ge lt. (refl, refl))
calm_call SyncCall d a b none_ = inl refl
calm_call (WriteCall at vs) d a b none_ = inr (λ t ge lt. off_write d at vs t (none_ t ge lt))
calm_call (FailedCall at vs) d a b none_ = inr (λ t ge lt. off_fail_write d at vs t (none_ t ge lt))

pub calm_event : (w : Layout) (st : Places) (e : Event) (a b : ℕ) → ((t : ℕ) → a ≤ t → t < b → writes (call_of w st e) t ≡ None) → Calm st.device (places_after w st e).device a b
calm_event w st e a b none_ = calm_call (call_of w st e) st.device a b none_

-- a run inside one bucket misses every other
pub other_bucket : (w : Layout) (k place : ℕ) (vs : List Value) (q t : ℕ) → k < w.buckets → q < w.buckets → q ≢ k → w.first k ≤ place → place + length vs ≤ w.first k + w.bucket_sectors → w.first q ≤ t → t < w.first q + w.bucket_sectors → at_run place vs t ≡ None
other_bucket w k place vs q t kt qt ne ge le from to = at_miss place vs t (λ r. let r0 = r.0 in let r1 = r.1 in w.apart q k t qt kt ne from to (omega arith) (omega arith))

true_false : (b : Bool) → b ≡ true → b ≡ false → ⊥
true_false b x y = absurd (cc)

module _ (w : Layout) (c0 : Image) (floor : ℕ) (list : List Entry) (st : Places) (inv : place_.Inv w c0 floor list st) where
  apart_set : (k : ℕ) (set : NodeSet) (vs : List Value) → CanAppend w st k set vs → (st.records.nodes k).loose ≡ false → (q t : ℕ) → Quiet w (st.records.nodes q) q → w.first q ≤ t → t < w.first q + w.bucket_sectors → at_run (st.node_next k) vs t ≡ None
  apart_set k set vs can loose q t calm from to =
      let m = (inv.nodes k).mine can.0 in
      let up = stands_high (set_len w) (set_at w m.stands.0 (st.records.nodes k).owner (st.seq k)) (w.begins (st.records.nodes k).owner) (st.records.nodes k).sets (st.node_next k) m.stands.1 in
      let c2 = can.2 in
      let long = w.sets.long (st.records.nodes k).owner vs set can.3 in
      let in_it = within_of w k (st.records.nodes k).owner m.within in
      let in0 = in_it.0 in
      let in1 = in_it.1 in
      other_bucket w k (st.node_next k) vs q t (place_.mine_in w c0 st.device (st.records.nodes k) (st.own k) k (st.node_next k) (st.seq k) st.log can.0 (inv.nodes k)) calm.high
      (λ e. true_false (st.records.nodes q).loose calm.loose (subst (λ (x : ℕ). (st.records.nodes x).loose ≡ false) (sym e) loose)) (omega arith) (omega arith) from to

  pub spares_event : (e : Event) → is_plain e ≡ true → CanHappen w st e → (q : ℕ) → Quiet w (st.records.nodes q) q → (t : ℕ) → w.first q ≤ t → t < w.first q + w.bucket_sectors → writes (call_of w st e) t ≡ None
  spares_event (AddKey key) is on q calm t from to = refl
  spares_event (BeginBucket k) is on q calm t from to = refl
  spares_event (SealEntry e unused) is on q calm t from to = refl
  spares_event (WriteEntry vs) is on q calm t from to =
      let cur = inv.current in
      let can = on.1.1 in
      let long = w.entries.long tt vs st.records.entry on.1.0 in
      let j = w.journal_within in
      let low = calm.low in
      let high = calm.high in
      other_bucket w st.records.bucket (st.ring_next st.records.bucket) vs q t (omega arith) calm.high (λ e. absurd (omega arith)) (steps_.high w c0 floor list st inv st.records.bucket inv.current) (omega arith) from to
  spares_event (FailEntry vs) is on q calm t from to =
      let cur = inv.current in
      let can = on.1.1 in
      let long = w.entries.long tt vs st.records.entry on.1.0 in
      let j = w.journal_within in
      let low = calm.low in
      let high = calm.high in
      other_bucket w st.records.bucket (st.ring_next st.records.bucket) vs q t (omega arith) calm.high (λ e. absurd (omega arith)) (steps_.high w c0 floor list st inv st.records.bucket inv.current) (omega arith) from to
  spares_event Barrier is on q calm t from to = refl
  spares_event MakeDurable is on q calm t from to = refl
  spares_event (AddSet k set vs unused) is on q calm t from to = apart_set k set vs on.1.1 on.0.0.0 q t calm from to
  spares_event (FailSet k set vs) is on q calm t from to = apart_set k set vs on.1.1 on.0.0.0 q t calm from to
  spares_event (Reuse k) is on q calm t from to = refl
  spares_event (NewNode k o set vs) is on q calm t from to = absurd (cc)
  spares_event (GiveUp unused) is on q calm t from to = refl
  spares_event (Elsewhere place vs) is on q calm t from to = on.1 q t calm.high from to
  spares_event (FailElsewhere place vs) is on q calm t from to = on.1 q t calm.high from to
  spares_event (Fill k place vs) is on q calm t from to = absurd (cc)
  spares_event (FailFill k place vs set) is on q calm t from to = absurd (cc)

put_quiet : (w : Layout) (nodes : ℕ → Node) (k : ℕ) (x : Node) (q : ℕ) → Quiet w (nodes q) q → (q ≡ k → Quiet w x q) → Quiet w (if q == k then x else nodes q) q
put_quiet w nodes k x q h here = by_test q k (λ b. Quiet w (if b then x else nodes q) q) here (λ _. h)

pub calm_node : (w : Layout) (q : ℕ) → w.journal ≤ q → q < w.buckets → Quiet w loose_node q
calm_node w q low high = record { loose = refl; unsent = refl; low = low; high = high }

settled_quiet : (w : Layout) (n : Node) (q : ℕ) (b : Bool) → n.sent ≡ b → Quiet w n q → Quiet w (record { loose = if b then false else n.loose; owner = n.owner; sets = if b then n.last ∷ n.sets else n.sets; last = n.last; sent = false; failed = if b then false else n.failed }) q
settled_quiet w n q true is h = absurd (true_false n.sent is h.unsent)
settled_quiet w n q false is h = record { loose = h.loose; unsent = refl; low = h.low; high = h.high }

pub quiet_event : (w : Layout) (st : Places) (e : Event) (q : ℕ) → CanHappen w st e → ((k : ℕ) (o : Owner) (set : NodeSet) (vs : List Value) → e ≡ (NewNode k o set vs) → q ≢ k) → Quiet w (st.records.nodes q) q → Quiet w ((places_after w st e).records.nodes q) q
quiet_event w st (AddKey key) q on new h = h
quiet_event w st (BeginBucket k) q on new h = h
quiet_event w st (SealEntry e unused) q on new h = h
quiet_event w st (WriteEntry vs) q on new h = h
quiet_event w st (FailEntry vs) q on new h = h
quiet_event w st Barrier q on new h = settled_quiet w (st.records.nodes q) q (st.records.nodes q).sent refl h
quiet_event w st MakeDurable q on new h = h
quiet_event w st (AddSet k set vs unused) q on new h = put_quiet w st.records.nodes k _ q h (λ e. absurd (true_false (st.records.nodes q).loose h.loose (subst (λ (x : ℕ). (st.records.nodes x).loose ≡ false) (sym e) on.0.0.0)))
quiet_event w st (FailSet k set vs) q on new h = put_quiet w st.records.nodes k _ q h (λ e. absurd (true_false (st.records.nodes q).loose h.loose (subst (λ (x : ℕ). (st.records.nodes x).loose ≡ false) (sym e) on.0.0.0)))
quiet_event w st (Reuse k) q on new h = put_quiet w st.records.nodes k _ q h (λ e. calm_node w q h.low h.high)
quiet_event w st (NewNode k o set vs) q on new h = put_quiet w st.records.nodes k _ q h (λ e. absurd (new k o set vs refl e))
quiet_event w st (GiveUp unused) q on new h = h
quiet_event w st (Elsewhere place vs) q on new h = h
quiet_event w st (FailElsewhere place vs) q on new h = h
quiet_event w st (Fill k place vs) q on new h = put_quiet w st.records.nodes k _ q h (λ e. calm_node w q h.low h.high)
quiet_event w st (FailFill k place vs set) q on new h = put_quiet w st.records.nodes k _ q h (λ e. calm_node w q h.low h.high)

-- what a plain event leaves of the entries
pub plain_newest : (w : Layout) (st : Places) (e : Event) → is_plain e ≡ true → (places_after w st e).records.newest ≡ st.records.newest
plain_newest w st (AddKey key) is = refl
plain_newest w st (BeginBucket k) is = refl
plain_newest w st (SealEntry e unused) is = refl
plain_newest w st (WriteEntry vs) is = refl
plain_newest w st (FailEntry vs) is = refl
plain_newest w st Barrier is = refl
plain_newest w st MakeDurable is = absurd (cc)
plain_newest w st (AddSet k set vs unused) is = refl
plain_newest w st (FailSet k set vs) is = refl
plain_newest w st (Reuse k) is = refl
plain_newest w st (NewNode k o set vs) is = refl
plain_newest w st (GiveUp unused) is = refl
plain_newest w st (Elsewhere place vs) is = refl
plain_newest w st (FailElsewhere place vs) is = refl
plain_newest w st (Fill k place vs) is = refl
plain_newest w st (FailFill k place vs set) is = refl

pub idle_barrier : (g : Stage) → after_barrier g ≡ Nothing → g ≡ Nothing
idle_barrier Nothing e = refl
idle_barrier Fixed e = absurd (cc)
idle_barrier Ready e = absurd (cc)
idle_barrier Sent e = absurd (cc)
idle_barrier Safe e = absurd (cc)

pub plain_idle : (w : Layout) (st : Places) (e : Event) → is_plain e ≡ true → (places_after w st e).records.stage ≡ Nothing → st.records.stage ≡ Nothing
plain_idle w st (AddKey key) is h = h
plain_idle w st (BeginBucket k) is h = h
plain_idle w st (SealEntry e unused) is h = absurd (cc)
plain_idle w st (WriteEntry vs) is h = absurd (sent_nothing h)
  where
    sent_nothing : Sent ≡ Nothing → ⊥
    sent_nothing e = cc
plain_idle w st (FailEntry vs) is h = h
plain_idle w st Barrier is h = idle_barrier st.records.stage h
plain_idle w st MakeDurable is h = absurd (cc)
plain_idle w st (AddSet k set vs unused) is h = h
plain_idle w st (FailSet k set vs) is h = h
plain_idle w st (Reuse k) is h = h
plain_idle w st (NewNode k o set vs) is h = h
plain_idle w st (GiveUp unused) is h = h
plain_idle w st (Elsewhere place vs) is h = h
plain_idle w st (FailElsewhere place vs) is h = h
plain_idle w st (Fill k place vs) is h = h
plain_idle w st (FailFill k place vs set) is h = h

-- the sealed entry's chain
pub plain_sealed : (w : Layout) (st : Places) (e : Event) (qs gens : List ℕ) → is_plain e ≡ true → CanHappen w st e → EachOf (CalmIn w st.device (places_after w st e).device) qs
    → StandsBy w st.device st.records.entry.prio qs gens st.records.stage → StandsBy w (places_after w st e).device (places_after w st e).records.entry.prio qs gens (places_after w st e).records.stage
plain_sealed w st (AddKey key) qs gens is on calm h = h
plain_sealed w st (BeginBucket k) qs gens is on calm h = h
plain_sealed w st (SealEntry e unused) qs gens is on calm h = absurd (cc)
plain_sealed w st (WriteEntry vs) qs gens is on calm h =
    by_calm w st.device (places_after w st (WriteEntry vs)).device st.records.entry.prio qs gens Sent calm (subst (λ (g : Stage). StandsBy w st.device st.records.entry.prio qs gens g) on.0 h)
plain_sealed w st (FailEntry vs) qs gens is on calm h = by_calm w st.device _ st.records.entry.prio qs gens st.records.stage calm h
plain_sealed w st Barrier qs gens is on calm h = by_barrier w st.device st.records.entry.prio qs gens st.records.stage h
plain_sealed w st MakeDurable qs gens is on calm h = absurd (cc)
plain_sealed w st (AddSet k set vs unused) qs gens is on calm h = by_calm w st.device _ st.records.entry.prio qs gens st.records.stage calm h
plain_sealed w st (FailSet k set vs) qs gens is on calm h = by_calm w st.device _ st.records.entry.prio qs gens st.records.stage calm h
plain_sealed w st (Reuse k) qs gens is on calm h = h
plain_sealed w st (NewNode k o set vs) qs gens is on calm h = absurd (cc)
plain_sealed w st (GiveUp unused) qs gens is on calm h = h
plain_sealed w st (Elsewhere place vs) qs gens is on calm h = by_calm w st.device _ st.records.entry.prio qs gens st.records.stage calm h
plain_sealed w st (FailElsewhere place vs) qs gens is on calm h = by_calm w st.device _ st.records.entry.prio qs gens st.records.stage calm h
plain_sealed w st (Fill k place vs) qs gens is on calm h = absurd (cc)
plain_sealed w st (FailFill k place vs set) qs gens is on calm h = absurd (cc)
