-- Each act keeps the chains, and so each crash image is read with the generations that its entry means.
use Rattle.std.proofs.Common.{◌≡◌, ◌≢◌, ◌⊎◌, inl, inr, ℕ, zero, suc, ◌+◌, ◌<◌, ◌≤◌, Bool, true, false, List, [], ◌∷◌, ◌++◌, length, Option, Some, None, refl, sym, ap, ◌∙◌, subst, arith, if◌then◌else◌, ◌==◌}
use Rattle.bc_model.specs.Sector.{Image, Value, at_run}
use Rattle.bc_disk.specs.Device.{MayLeave, settled}
use Rattle.bc_key.specs.declared.key.Key.{Key}
use Rattle.bc_meta.specs.Facts.{In}
use Rattle.bc_meta.specs.Entries.{Entry, live}
use Rattle.bc_meta.specs.Tree.{NodeSet, Owner}
use Rattle.bc_meta.specs.Layout.{Layout, PrioSet, node_sets, ring_entries}
use Rattle.bc_meta.specs.Chain.{Distinct, EachOf, bytes_of, chain_from}
use Rattle.bc_meta.specs.Events.{Event, FailFill, Fill, MakeDurable, NewNode, Reuse, SealEntry}
use Rattle.bc_meta.specs.Records.{Fixed, IsReady, Nothing, Records, Stage, loose_node, owners, put, records_after}
use Rattle.bc_meta.specs.Places.{CanHappen, NoChance, call_of, places_after, writes}
use Rattle.bc_meta.specs.Acts.{Act, ChainReady, Durable, FailData, FailHeld, IsBuilt, IsEnabled, IsRun, KeepSpare, LetGo, Made, Plain, Seal, SealChain, State, StaysUnused, Take, WriteData, WriteNode, WriteSet, after, event_of, fold, given_up, head_of, is_plain, put_all}
use Rattle.bc_meta.specs.Laws.{Again, Finds, IsSound, LawCrash, LawNext, LawUntouched, Opening, Survives, act_writes, opened, reached, LawZeros, LawOnlyTorn}
use Rattle.bc_meta.proofs.Lists.{by_test, decide}
use Rattle.bc_meta.proofs.Firm.{reads_written}
use Rattle.bc_meta.proofs.Blank.{first_long, blank_there}
use Rattle.bc_meta.proofs.Place as place_
use Rattle.bc_meta.proofs.Place.{within_of}
use Rattle.bc_meta.proofs.Steps as steps_
use Rattle.bc_meta.proofs.Keep as keep_
use Rattle.bc_meta.proofs.Left as law_
use Rattle.bc_meta.proofs.Reopen as reopen_
use Rattle.bc_meta.proofs.Chains.{Stands, StandsBy, Calm, CalmIn, stands_calm, by_calm, by_ready, reads_calm, stands_read, MadeWell, set_long, built, chain_places}
use Rattle.bc_meta.proofs.Scan.{choice_left}
use Rattle.bc_meta.proofs.Calm.{Quiet, calm_event, other_bucket, spares_event, quiet_event, calm_node, plain_newest, plain_idle, plain_sealed}

-- a bucket that is kept for chains is in none, or in one that comes
pub record Kept (w : Layout) (chain_of : ℕ → Option ℕ) (ready q : ℕ) : Type 0 where
  pub free : (chain_of q ≡ None) ⊎ ((n : ℕ) × (chain_of q ≡ Some n) × (ready < n))
  pub low : w.journal ≤ q
  pub high : q < w.buckets

pub record Inv (w : Layout) (o : Opening) (st : State) : Type 0 where
  pub place : place_.Inv w o.image o.newest.last_seq (o.newest ∷ o.older) st.places
  pub records : keep_.Inv st.places.records
  pub order : (st.ready_chain ≤ st.durable_chain) × (st.durable_chain ≤ st.sealed_chain)
  pub idle : st.places.records.stage ≡ Nothing → st.sealed_chain ≡ st.durable_chain
  pub named : (n : ℕ) → st.ready_chain ≤ n → n ≤ st.sealed_chain → EachOf (λ q. st.chain_of q ≡ Some n) (st.buckets n)
  pub range : (q n : ℕ) → st.chain_of q ≡ Some n → n ≤ st.sealed_chain
  pub members : (q n : ℕ) → st.chain_of q ≡ Some n → In q (st.buckets n)
  pub shape : (n : ℕ) → st.ready_chain ≤ n → n ≤ st.sealed_chain → Distinct (st.buckets n) × (length (st.buckets n) ≡ w.chain_sets)
  pub quiet : (q n : ℕ) → st.chain_of q ≡ Some n → Quiet w (st.places.records.nodes q) q
  pub made : (q : ℕ) (m : Made) → st.made q ≡ Some m → Quiet w (st.places.records.nodes q) q × MadeWell w st.places.device q m
  pub durable : Stands w st.places.device st.places.records.newest.prio (st.buckets st.durable_chain) (bytes_of (st.gens st.durable_chain))
  pub sealed : StandsBy w st.places.device st.places.records.entry.prio (st.buckets st.sealed_chain) (bytes_of (st.gens st.sealed_chain)) st.places.records.stage
  pub spare : EachOf (Kept w st.chain_of st.ready_chain) st.spare
  pub spare_shape : Distinct st.spare × (length st.spare ≡ w.chain_sets)
  pub unused : StaysUnused w st st.places.records.unused

some_none : {A : Type 0} → (o : Option A) (x : A) → o ≡ Some x → o ≡ None → ⊥
some_none o x a b = absurd (cc)

some_same : (o : Option ℕ) (a b : ℕ) → o ≡ Some a → o ≡ Some b → a ≡ b
some_same o a b x y = cc

made_same : (a b : Made) → Some a ≡ Some b → a ≡ b
made_same a b e = cc

pub put_all_cases : {A : Type 0} → (f : ℕ → A) (ks : List ℕ) (x : A) (q : ℕ) → (In q ks × (put_all f ks x q ≡ x)) ⊎ ((In q ks → ⊥) × (put_all f ks x q ≡ f q))
put_all_cases f [] x q = inr ((λ i. i), refl)
put_all_cases {A = A} f (k ∷ ks) x q =
    let ih = put_all_cases f ks x q in
    by_test q k (λ b. (((q ≡ k) ⊎ In q ks) × ((if b then x else put_all f ks x q) ≡ x)) ⊎ ((((q ≡ k) ⊎ In q ks) → ⊥) × ((if b then x else put_all f ks x q) ≡ f q)))
    (λ e. inl (inl e, refl))
    (λ ne. elim ih [ inl h ↦ inl (inr h.0, h.1) | inr h ↦ inr ((λ i. elim i [ inl e ↦ ne e | inr j ↦ h.0 j ]), h.1) ])

pub given_some : (ready : ℕ) (o : Option ℕ) (n : ℕ) → given_up ready o ≡ Some n → (o ≡ Some n) × (n ≢ ready)
given_some ready None n = λ h. absurd (cc)
given_some ready (Some m) n = by_test m ready (λ b. (if b then None else Some m) ≡ Some n → (Some m ≡ Some n) × (n ≢ ready)) (λ _ h. absurd (cc)) (λ ne h. (h, λ e. ne (some_same (Some m) m ready refl (h ∙ ap Some e))))

given_kept : (ready n : ℕ) → n ≢ ready → given_up ready (Some n) ≡ Some n
given_kept ready n ne = by_test n ready (λ b. (if b then None else Some n) ≡ Some n) (λ e. absurd (ne e)) (λ _. refl)

given_at : (ready : ℕ) → given_up ready (Some ready) ≡ None
given_at ready = by_test ready ready (λ b. (if b then None else Some ready) ≡ None) (λ _. refl) (λ ne. absurd (ne refl))

module _ (w : Layout) (o : Opening) (st : State) (inv : Inv w o st) where
  calm_named : (e : Event) → ((q n : ℕ) → st.chain_of q ≡ Some n → (t : ℕ) → w.first q ≤ t → t < w.first q + w.bucket_sectors → writes (call_of w st.places e) t ≡ None)
      → (q n : ℕ) → st.chain_of q ≡ Some n → CalmIn w st.places.device (places_after w st.places e).device q
  calm_named e none_ q n is = calm_event w st.places e (w.first q) (w.first q + w.bucket_sectors) (none_ q n is)

  -- an event that leaves the chains' buckets alone, with what was made since
  by_event : (e : Event) (holder : ℕ → Option ℕ) (made : ℕ → Option Made) → CanHappen w st.places e
      → ((q n : ℕ) → st.chain_of q ≡ Some n → (t : ℕ) → w.first q ≤ t → t < w.first q + w.bucket_sectors → writes (call_of w st.places e) t ≡ None)
      → ((k : ℕ) (p : Owner) (set : NodeSet) (vs : List Value) → e ≡ (NewNode k p set vs) → st.chain_of k ≡ None)
      → ((q : ℕ) (m : Made) → made q ≡ Some m → Quiet w ((places_after w st.places e).records.nodes q) q × MadeWell w (places_after w st.places e).device q m)
      → (places_after w st.places e).records.newest ≡ st.places.records.newest
      → (EachOf (CalmIn w st.places.device (places_after w st.places e).device) (st.buckets st.sealed_chain) → StandsBy w (places_after w st.places e).device (places_after w st.places e).records.entry.prio (st.buckets st.sealed_chain) (bytes_of (st.gens st.sealed_chain)) (places_after w st.places e).records.stage)
      → ((places_after w st.places e).records.stage ≡ Nothing → st.sealed_chain ≡ st.durable_chain)
      → StaysUnused w st (places_after w st.places e).records.unused
      → Inv w o (record st { places = places_after w st.places e; holder = holder; made = made })
  by_event e holder made on none_ fresh made_well same sealed idle unused =
      let ord = inv.order in
      let a = ord.0 in
      let b = ord.1 in
      let calm : (n : ℕ) → st.ready_chain ≤ n → n ≤ st.sealed_chain → EachOf (CalmIn w st.places.device (places_after w st.places e).device) (st.buckets n) = λ n le up q i. calm_named e none_ q n (inv.named n le up q i) in
      record {
        place = steps_.keep_event w o.image o.newest.last_seq (o.newest ∷ o.older) st.places e inv.records on inv.place;
        records = steps_.keep_records w st.places e on inv.records;
        order = inv.order;
        idle = idle;
        named = inv.named;
        members = inv.members;
        range = inv.range;
        shape = inv.shape;
        quiet = λ q n is. quiet_event w st.places e q on (λ k p set vs is_new q_is. some_none (st.chain_of q) n is (ap st.chain_of q_is ∙ fresh k p set vs is_new)) (inv.quiet q n is);
        made = made_well;
        durable = subst (λ (x : Entry). Stands w (places_after w st.places e).device x.prio (st.buckets st.durable_chain) (bytes_of (st.gens st.durable_chain))) (sym same)
            (stands_calm w st.places.device (places_after w st.places e).device st.places.records.newest.prio (st.buckets st.durable_chain) (bytes_of (st.gens st.durable_chain)) (calm st.durable_chain ord.0 ord.1) inv.durable);
        sealed = sealed (calm st.sealed_chain (omega arith) (omega arith));
        spare = inv.spare;
        spare_shape = inv.spare_shape;
        unused = unused;
      }

  -- what was made stays, where an event leaves it alone
  made_kept : (e : Event) → CanHappen w st.places e → (q : ℕ) (m : Made) → st.made q ≡ Some m → ((k : ℕ) (p : Owner) (set : NodeSet) (vs : List Value) → e ≡ (NewNode k p set vs) → q ≢ k)
      → ((t : ℕ) → w.first q ≤ t → t < w.first q + w.bucket_sectors → writes (call_of w st.places e) t ≡ None)
      → Quiet w ((places_after w st.places e).records.nodes q) q × MadeWell w (places_after w st.places e).device q m
  made_kept e on q m is new none_ =
      let k = inv.made q m is in
      let well = k.1 in
      let calm : CalmIn w st.places.device (places_after w st.places e).device q = calm_event w st.places e (w.first q) (w.first q + w.bucket_sectors) none_ in (
        quiet_event w st.places e q on new k.0,
        record {
          values = well.values;
          spelled = well.spelled;
          reads = reads_calm st.places.device (places_after w st.places e).device (w.first q) well.values (subst (λ (n : ℕ). Calm st.places.device (places_after w st.places e).device (w.first q) (w.first q + n)) (sym (set_long w m.part well.values m.set well.spelled)) calm) well.reads;
          low = well.low;
          high = well.high;
        },
      )

  keep_plain : (e : Event) → IsEnabled w st (Plain e) → Inv w o (after w st (Plain e))
  keep_plain e on =
      by_event e st.holder st.made on.0
      (λ q n is. spares_event w o.image o.newest.last_seq (o.newest ∷ o.older) st.places inv.place e on.1.0 on.0 q (inv.quiet q n is))
      (λ k p set vs is. absurd (no_new e on.1.0 k p set vs is))
      (λ q m is. made_kept e on.0 q m is (λ k p set vs is_new. absurd (no_new e on.1.0 k p set vs is_new)) (spares_event w o.image o.newest.last_seq (o.newest ∷ o.older) st.places inv.place e on.1.0 on.0 q (inv.made q m is).0))
      (plain_newest w st.places e on.1.0)
      (λ calm. plain_sealed w st.places e (st.buckets st.sealed_chain) (bytes_of (st.gens st.sealed_chain)) on.1.0 on.0 calm inv.sealed)
      (λ idle. inv.idle (plain_idle w st.places e on.1.0 idle))
      on.1.1
    where
      no_new : (e : Event) → is_plain e ≡ true → (k : ℕ) (p : Owner) (set : NodeSet) (vs : List Value) → e ≡ (NewNode k p set vs) → ⊥
      no_new e is k p set vs same = absurd (false_true (sym (ap is_plain same) ∙ is))
        where
          false_true : false ≡ true → ⊥
          false_true e = cc

  -- the chains' buckets are others than one that isn't in a chain
  other : (k : ℕ) → st.chain_of k ≡ None → (q n : ℕ) → st.chain_of q ≡ Some n → q ≢ k
  other k free q n is e = some_none (st.chain_of q) n is (ap st.chain_of e ∙ free)

  -- a set that is put into one bucket
  made_put : (e : Event) (k : ℕ) (x : Option Made) → CanHappen w st.places e → ((m : Made) → x ≡ Some m → Quiet w ((places_after w st.places e).records.nodes k) k × MadeWell w (places_after w st.places e).device k m)
      → ((j : ℕ) (p : Owner) (set : NodeSet) (vs : List Value) → e ≡ (NewNode j p set vs) → j ≡ k)
      → ((q t : ℕ) → q ≢ k → w.journal ≤ q → q < w.buckets → w.first q ≤ t → t < w.first q + w.bucket_sectors → writes (call_of w st.places e) t ≡ None)
      → (q : ℕ) (m : Made) → put st.made k x q ≡ Some m → Quiet w ((places_after w st.places e).records.nodes q) q × MadeWell w (places_after w st.places e).device q m
  made_put e k x on here only none_ q m =
      by_test q k (λ b. (if b then x else st.made q) ≡ Some m → Quiet w ((places_after w st.places e).records.nodes q) q × MadeWell w (places_after w st.places e).device q m)
      (λ is h. subst (λ (n : ℕ). Quiet w ((places_after w st.places e).records.nodes n) n × MadeWell w (places_after w st.places e).device n m) (sym is) (here m h))
      (λ ne h. let y = (inv.made q m h).0 in made_kept e on q m h (λ j p set vs is_new e2. ne (e2 ∙ only j p set vs is_new)) (λ t from to. none_ q t ne y.low y.high from to))

  keep_take : (i q : ℕ) → IsEnabled w st (Take i q) → Inv w o (after w st (Take i q))
  keep_take i q on =
      by_event (Reuse q) (put st.holder q (Some i)) (put st.made q None) on.0 (λ k n is t from to. refl) (λ k p set vs is. absurd (reuse_new q k p set vs is))
      (made_put (Reuse q) q None on.0 (λ m h. absurd (none_some m h)) (λ k p set vs is. absurd (reuse_new q k p set vs is)) (λ k t ne low high from to. refl))
      refl (λ calm. inv.sealed) inv.idle inv.unused
    where
      reuse_new : (q k : ℕ) (p : Owner) (set : NodeSet) (vs : List Value) → (Reuse q) ≡ (NewNode k p set vs) → ⊥
      reuse_new q k p set vs e = cc

      none_some : (m : Made) → None ≡ Some m → ⊥
      none_some m e = cc

  keep_let_go : (i q : ℕ) → Inv w o (after w st (LetGo i q))
  keep_let_go i q = record {
    place = inv.place;
    records = inv.records;
    order = inv.order;
    idle = inv.idle;
    named = inv.named;
    members = inv.members;
    range = inv.range;
    shape = inv.shape;
    quiet = inv.quiet;
    made = λ k m. by_test k q (λ b. (if b then None else st.made k) ≡ Some m → Quiet w (st.places.records.nodes k) k × MadeWell w st.places.device k m) (λ _ h. absurd (cc)) (λ _ h. inv.made k m h);
    durable = inv.durable;
    sealed = inv.sealed;
    spare = inv.spare;
    spare_shape = inv.spare_shape;
    unused = inv.unused;
  }

  keep_spare : (spare : List ℕ) → IsEnabled w st (KeepSpare spare) → Inv w o (after w st (KeepSpare spare))
  keep_spare spare on = record {
    place = inv.place;
    records = inv.records;
    order = inv.order;
    idle = inv.idle;
    named = inv.named;
    members = inv.members;
    range = inv.range;
    shape = inv.shape;
    quiet = inv.quiet;
    made = inv.made;
    durable = inv.durable;
    sealed = inv.sealed;
    spare = λ q j. let k = on.1.2 q j in record { free = k.free; low = k.low; high = k.high };
    spare_shape = (on.1.0, on.1.1);
    unused = λ q a. elim a [
      | inl lt ↦ inv.unused q (inl lt)
      | inr (inl ge) ↦ inv.unused q (inr (inl ge))
      | inr (inr (inl y)) ↦ inv.unused q (inr (inr (inl y)))
      | inr (inr (inr j)) ↦ (on.1.2 q j).unused
    ];
  }

  keep_write_node : (i q : ℕ) (p : Owner) (set : NodeSet) (vs : List Value) → IsEnabled w st (WriteNode i q p set vs) → Inv w o (after w st (WriteNode i q p set vs))
  keep_write_node i q p set vs on =
      let in_it = within_of w q p on.0.1.inside in
      let in0 = in_it.0 in
      let in1 = in_it.1 in
      let long = first_long w p set vs on.0.1.first on.0.1.room in
      let off : (k t : ℕ) → k ≢ q → k < w.buckets → w.first k ≤ t → t < w.first k + w.bucket_sectors → at_run (w.begins p) vs t ≡ None
      = λ k t ne high from to. other_bucket w q (w.begins p) vs k t on.0.1.high high ne (omega arith) (omega arith) from to in
      by_event (NewNode q p set vs) st.holder (put st.made q None) on.0 (λ k n is t from to. off k t (other q on.1.1 k n is) (inv.quiet k n is).high from to)
      (λ k p2 set2 vs2 is. ap st.chain_of (new_same k q p2 p set2 set vs2 vs is) ∙ on.1.1)
      (made_put (NewNode q p set vs) q None on.0 (λ m h. absurd (none_some m h)) (λ k p2 set2 vs2 is. new_same k q p2 p set2 set vs2 vs is) (λ k t ne low high from to. off k t ne high from to))
      refl (λ calm. by_calm w st.places.device (places_after w st.places (NewNode q p set vs)).device st.places.records.entry.prio (st.buckets st.sealed_chain) (bytes_of (st.gens st.sealed_chain)) st.places.records.stage calm inv.sealed) inv.idle inv.unused
    where
      none_some : (m : Made) → None ≡ Some m → ⊥
      none_some m e = cc

      new_same : (k q : ℕ) (p r : Owner) (a b : NodeSet) (vs us : List Value) → (NewNode q r b us) ≡ (NewNode k p a vs) → k ≡ q
      new_same k q p r a b vs us e = cc

  -- where a set is written, well or not
  set_off : (q part : ℕ) (set : PrioSet) (vs : List Value) → w.prios.spelled part vs ≡ Some set → q < w.buckets → (k t : ℕ) → k ≢ q → k < w.buckets → w.first k ≤ t → t < w.first k + w.bucket_sectors → at_run (w.first q) vs t ≡ None
  set_off q part set vs is high k t ne kt from to = let len = set_long w part vs set is in other_bucket w q (w.first q) vs k t high kt ne (omega arith) (omega arith) from to

  keep_write_set : (i q part : ℕ) (set : PrioSet) (vs : List Value) → IsEnabled w st (WriteSet i q part set vs) → Inv w o (after w st (WriteSet i q part set vs))
  keep_write_set i q part set vs on =
      let low = on.0.1.0 in
      let high = on.0.1.3 in
      by_event (Fill q (w.first q) vs) st.holder (put st.made q (Some (record { part = part; set = set }))) on.0 (λ k n is t from to. set_off q part set vs on.1.1 on.0.1.3 k t (other q on.1.0.1 k n is) (inv.quiet k n is).high from to)
      (λ k p2 set2 vs2 is. absurd (fill_new q k (w.first q) vs p2 set2 vs2 is))
      (made_put (Fill q (w.first q) vs) q (Some (record { part = part; set = set })) on.0
      (λ m h. subst (λ (x : Made). Quiet w ((places_after w st.places (Fill q (w.first q) vs)).records.nodes q) q × MadeWell w (places_after w st.places (Fill q (w.first q) vs)).device q x) (made_same (record { part = part; set = set }) m h)
      (here q low high, record { values = vs; spelled = on.1.1; reads = reads_written st.places.device (w.first q) vs; low = low; high = high }))
      (λ k p2 set2 vs2 is. absurd (fill_new q k (w.first q) vs p2 set2 vs2 is)) (λ k t ne lo hi from to. set_off q part set vs on.1.1 on.0.1.3 k t ne hi from to))
      refl (λ calm. by_calm w st.places.device (places_after w st.places (Fill q (w.first q) vs)).device st.places.records.entry.prio (st.buckets st.sealed_chain) (bytes_of (st.gens st.sealed_chain)) st.places.records.stage calm inv.sealed) inv.idle inv.unused
    where
      fill_new : (q k p : ℕ) (vs : List Value) (r : Owner) (set : NodeSet) (us : List Value) → Fill q p vs ≡ (NewNode k r set us) → ⊥
      fill_new q k p vs r set us e = cc

      here : (q : ℕ) → w.journal ≤ q → q < w.buckets → Quiet w (if q == q then loose_node else st.places.records.nodes q) q
      here q low high = by_test q q (λ b. Quiet w (if b then loose_node else st.places.records.nodes q) q) (λ _. calm_node w q low high) (λ ne. absurd (ne refl))

  -- values written into one bucket that isn't a chain's, well or not
  keep_values : (fill : ℕ → ℕ → List Value → Event) (q place : ℕ) (vs : List Value) → st.chain_of q ≡ None → CanHappen w st.places (fill q place vs)
      → (w.first q ≤ place) × (place + length vs ≤ w.first q + w.bucket_sectors) × (q < w.buckets)
      → ((t : ℕ) → at_run place vs t ≡ None → writes (call_of w st.places (fill q place vs)) t ≡ None)
      → ((k : ℕ) (p : Owner) (set : NodeSet) (us : List Value) → fill q place vs ≡ (NewNode k p set us) → ⊥)
      → (places_after w st.places (fill q place vs)).records ≡ records_after st.places.records (Reuse q)
      → Inv w o (record st { places = places_after w st.places (fill q place vs); made = put st.made q None })
  keep_values fill q place vs free on in_it none_ new same =
      let off : (k t : ℕ) → k ≢ q → k < w.buckets → w.first k ≤ t → t < w.first k + w.bucket_sectors → writes (call_of w st.places (fill q place vs)) t ≡ None
      = λ k t ne high from to. none_ t (other_bucket w q place vs k t in_it.2 high ne in_it.0 in_it.1 from to) in
      by_event (fill q place vs) st.holder (put st.made q None) on (λ k n is t from to. off k t (other q free k n is) (inv.quiet k n is).high from to)
      (λ k p set2 us is. absurd (new k p set2 us is))
      (made_put (fill q place vs) q None on (λ m h. absurd (none_some m h)) (λ k p set2 us is. absurd (new k p set2 us is)) (λ k t ne lo hi from to. off k t ne hi from to))
      (ap (λ (m : Records). m.newest) same)
      (λ calm. subst (λ (m : Records). StandsBy w (places_after w st.places (fill q place vs)).device m.entry.prio (st.buckets st.sealed_chain) (bytes_of (st.gens st.sealed_chain)) m.stage) (sym same)
      (by_calm w st.places.device (places_after w st.places (fill q place vs)).device st.places.records.entry.prio (st.buckets st.sealed_chain) (bytes_of (st.gens st.sealed_chain)) st.places.records.stage calm inv.sealed))
      (λ idle. inv.idle (sym (ap (λ (m : Records). m.stage) same) ∙ idle))
      (subst (λ (m : Records). StaysUnused w st m.unused) (sym same) inv.unused)
    where
      none_some : (m : Made) → None ≡ Some m → ⊥
      none_some m e = cc

  fill_new : (q p : ℕ) (vs : List Value) (k : ℕ) (r : Owner) (set : NodeSet) (us : List Value) → Fill q p vs ≡ (NewNode k r set us) → ⊥
  fill_new q p vs k r set us e = cc

  fail_fill_new : (q p : ℕ) (vs : List Value) (what : Option NodeSet) (k : ℕ) (r : Owner) (set : NodeSet) (us : List Value) → FailFill q p vs what ≡ (NewNode k r set us) → ⊥
  fail_fill_new q p vs what k r set us e = cc

  keep_fail_held : (i q place : ℕ) (vs : List Value) (what : Option NodeSet) → IsEnabled w st (FailHeld i q place vs what) → Inv w o (after w st (FailHeld i q place vs what))
  keep_fail_held i q place vs what on = keep_values (λ a b c. FailFill a b c what) q place vs on.1.1 on.0 (on.0.1.1, on.0.1.2, on.0.1.3) (λ t e. e) (λ k r set us e. fail_fill_new q place vs what k r set us e) refl

  keep_write_data : (q place : ℕ) (vs : List Value) → IsEnabled w st (WriteData q place vs) → Inv w o (after w st (WriteData q place vs))
  keep_write_data q place vs on = keep_values Fill q place vs on.1.0 on.0 (on.0.1.1, on.0.1.2, on.0.1.3) (λ t e. e) (λ k r set us e. fill_new q place vs k r set us e) refl

  keep_fail_data : (q place : ℕ) (vs : List Value) → IsEnabled w st (FailData q place vs) → Inv w o (after w st (FailData q place vs))
  keep_fail_data q place vs on = keep_values (λ a b c. FailFill a b c None) q place vs on.1.0 on.0 (on.0.1.1, on.0.1.2, on.0.1.3) (λ t e. e) (λ k r set us e. fail_fill_new q place vs None k r set us e) refl

  -- a seal that names the chain of the entry before
  keep_seal : (e : Entry) (unused : ℕ → Bool) → IsEnabled w st (Seal e unused) → Inv w o (after w st (Seal e unused))
  keep_seal e unused on =
      by_event (SealEntry e unused) st.holder st.made on.0 (λ k n is t from to. refl) (λ k p set vs is. absurd (seal_new e unused k p set vs is))
      (λ q m is. made_kept (SealEntry e unused) on.0 q m is (λ k p set vs is_new. absurd (seal_new e unused k p set vs is_new)) (λ t from to. refl))
      refl
      (λ calm. subst (λ (first : ℕ). Stands w (settled st.places.device) first (st.buckets st.sealed_chain) (bytes_of (st.gens st.sealed_chain))) (sym on.1.1)
      (subst (λ (n : ℕ). Stands w (settled st.places.device) st.places.records.newest.prio (st.buckets n) (bytes_of (st.gens n))) (sym (inv.idle on.0.0.0))
      (stands_calm w st.places.device (settled st.places.device) st.places.records.newest.prio (st.buckets st.durable_chain) (bytes_of (st.gens st.durable_chain)) (λ q i. inl refl) inv.durable)))
      (λ idle. absurd (fixed_nothing idle)) on.1.0
    where
      seal_new : (e : Entry) (f : ℕ → Bool) (k : ℕ) (p : Owner) (set : NodeSet) (vs : List Value) → (SealEntry e f) ≡ (NewNode k p set vs) → ⊥
      seal_new e f k p set vs is = cc

      fixed_nothing : Fixed ≡ Nothing → ⊥
      fixed_nothing e = cc

  keep_durable : IsEnabled w st Durable → Inv w o (after w st Durable)
  keep_durable on =
      let ord = inv.order in
      let a = ord.0 in
      let b = ord.1 in
      record {
        place = steps_.keep_event w o.image o.newest.last_seq (o.newest ∷ o.older) st.places MakeDurable inv.records on.0 inv.place;
        records = steps_.keep_records w st.places MakeDurable on.0 inv.records;
        order = (omega arith, omega arith);
        idle = λ _. refl;
        named = inv.named;
        members = inv.members;
        range = inv.range;
        shape = inv.shape;
        quiet = inv.quiet;
        made = inv.made;
        durable = subst (λ (g : Stage). StandsBy w st.places.device st.places.records.entry.prio (st.buckets st.sealed_chain) (bytes_of (st.gens st.sealed_chain)) g) on.0.0 inv.sealed;
        sealed = tt;
        spare = inv.spare;
        spare_shape = inv.spare_shape;
        unused = inv.unused;
      }

  -- an entry with a new chain is sealed
  module _ (i : ℕ) (qs gens : List ℕ) (entry : Entry) (unused : ℕ → Bool) (on : IsEnabled w st (SealChain i qs gens entry unused)) where
    number : ℕ
    number = suc st.sealed_chain

    cases : (q : ℕ) → (In q qs × (put_all st.chain_of qs (Some (suc st.sealed_chain)) q ≡ Some (suc st.sealed_chain))) ⊎ ((In q qs → ⊥) × (put_all st.chain_of qs (Some (suc st.sealed_chain)) q ≡ st.chain_of q))
    cases q = put_all_cases st.chain_of qs (Some (suc st.sealed_chain)) q

    old_out : (q n : ℕ) → st.chain_of q ≡ Some n → In q qs → ⊥
    old_out q n is j = some_none (st.chain_of q) n is (on.1.1 q j).1

    named_new : (n : ℕ) → st.ready_chain ≤ n → n ≤ suc st.sealed_chain → EachOf (λ q. put_all st.chain_of qs (Some (suc st.sealed_chain)) q ≡ Some n) (put st.buckets (suc st.sealed_chain) qs n)
    named_new n le up =
        by_test n (suc st.sealed_chain) (λ b. EachOf (λ q. put_all st.chain_of qs (Some (suc st.sealed_chain)) q ≡ Some n) (if b then qs else st.buckets n))
        (λ e q j. elim (cases q) [ inl h ↦ h.1 ∙ ap Some (sym e) | inr h ↦ absurd (h.0 j) ])
        (λ ne q j. let k = inv.named n le (omega arith) q j in elim (cases q) [ inl h ↦ absurd (old_out q n k h.0) | inr h ↦ h.1 ∙ k ])

    members_new : (q n : ℕ) → put_all st.chain_of qs (Some (suc st.sealed_chain)) q ≡ Some n → In q (put st.buckets (suc st.sealed_chain) qs n)
    members_new q n is =
        by_test n (suc st.sealed_chain) (λ b. In q (if b then qs else st.buckets n))
        (λ e. elim (cases q) [ inl h ↦ h.0 | inr h ↦ absurd (too_high q n e (sym h.1 ∙ is)) ])
        (λ ne. elim (cases q) [ inl h ↦ absurd (ne (some_same (Some n) n (suc st.sealed_chain) refl (sym is ∙ h.1))) | inr h ↦ inv.members q n (sym h.1 ∙ is) ])
      where
        too_high : (q n : ℕ) → n ≡ suc st.sealed_chain → st.chain_of q ≡ Some n → ⊥
        too_high q n e is = let r = inv.range q n is in omega arith

    range_new : (q n : ℕ) → put_all st.chain_of qs (Some (suc st.sealed_chain)) q ≡ Some n → n ≤ suc st.sealed_chain
    range_new q n is = elim (cases q) [ inl h ↦ (let e = some_same (Some n) n (suc st.sealed_chain) refl (sym is ∙ h.1) in omega arith) | inr h ↦ (let r = inv.range q n (sym h.1 ∙ is) in omega arith) ]

    shape_new : (n : ℕ) → st.ready_chain ≤ n → n ≤ suc st.sealed_chain → Distinct (put st.buckets (suc st.sealed_chain) qs n) × (length (put st.buckets (suc st.sealed_chain) qs n) ≡ w.chain_sets)
    shape_new n le up =
        by_test n (suc st.sealed_chain) (λ b. Distinct (if b then qs else st.buckets n) × (length (if b then qs else st.buckets n) ≡ w.chain_sets))
        (λ e. (on.1.3, on.1.4)) (λ ne. inv.shape n le (omega arith))

    made_in : (part from : ℕ) (xs g : List ℕ) → IsBuilt st.made part from xs g → (q : ℕ) → In q xs → (m : Made) × (st.made q ≡ Some m)
    made_in part from [] g h q j = absurd j
    made_in part from (x ∷ xs) g h q j =
        elim j [
          | inl e ↦ (record { part = part; set = h.1.0 }, ap st.made e ∙ h.1.1)
          | inr k ↦ made_in (suc part) h.1.0.next xs h.1.2.0 h.1.2.2 q k
        ]

    quiet_new : (q n : ℕ) → put_all st.chain_of qs (Some (suc st.sealed_chain)) q ≡ Some n → Quiet w (st.places.records.nodes q) q
    quiet_new q n is =
        elim (cases q) [
          | inl h ↦ (let k = made_in 0 (head_of qs) qs (bytes_of gens) on.1.5 q h.0 in (inv.made q k.0 k.1).0)
          | inr h ↦ inv.quiet q n (sym h.1 ∙ is)
        ]

    spare_new : (q : ℕ) → In q st.spare → Kept w (put_all st.chain_of qs (Some (suc st.sealed_chain))) st.ready_chain q
    spare_new q j =
        let k = inv.spare q j in
        let ord = inv.order in
        let a = ord.0 in
        let b = ord.1 in
        elim (cases q) [
          | inl h ↦ record { free = inr (suc st.sealed_chain, h.1, omega arith); low = k.low; high = k.high }
          | inr h ↦ record { free = elim k.free [ inl e ↦ inl (h.1 ∙ e) | inr y ↦ inr (y.0, h.1 ∙ y.1, y.2) ]; low = k.low; high = k.high }
        ]

    unused_new : StaysUnused w (after w st (SealChain i qs gens entry unused)) unused
    unused_new q (inl lt) = on.1.0 q (inl lt)
    unused_new q (inr (inl ge)) = on.1.0 q (inr (inl ge))
    unused_new q (inr (inr (inl y))) = elim (cases q) [ inl h ↦ on.1.2 q h.0 | inr h ↦ on.1.0 q (inr (inr (inl (y.0, sym h.1 ∙ y.1)))) ]
    unused_new q (inr (inr (inr j))) = on.1.0 q (inr (inr (inr j)))

    stands_new : Stands w (settled st.places.device) entry.prio (put st.buckets (suc st.sealed_chain) qs (suc st.sealed_chain)) (bytes_of (put st.gens (suc st.sealed_chain) gens (suc st.sealed_chain)))
    stands_new =
        let k = built w st.places.device st.made o.image (λ q m is. (inv.made q m is).1) 0 (head_of qs) qs (bytes_of gens) on.1.3 on.1.5 in
        subst (λ (first : ℕ). Stands w (settled st.places.device) first (put st.buckets (suc st.sealed_chain) qs (suc st.sealed_chain)) (bytes_of (put st.gens (suc st.sealed_chain) gens (suc st.sealed_chain)))) (sym on.1.6)
        (by_test (suc st.sealed_chain) (suc st.sealed_chain) (λ b. Stands w (settled st.places.device) (head_of qs) (if b then qs else st.buckets (suc st.sealed_chain)) (bytes_of (if b then gens else st.gens (suc st.sealed_chain))))
        (λ _. (k.0, subst (λ (n : ℕ). chain_from w k.0 n 0 (head_of qs) ≡ Some (record { buckets = qs; gens = bytes_of gens })) on.1.4 k.1, k.2)) (λ ne. absurd (ne refl)))

    durable_new : Stands w st.places.device st.places.records.newest.prio (put st.buckets (suc st.sealed_chain) qs st.durable_chain) (bytes_of (put st.gens (suc st.sealed_chain) gens st.durable_chain))
    durable_new =
        let ord = inv.order in
        let b = ord.1 in
        by_test st.durable_chain (suc st.sealed_chain) (λ b. Stands w st.places.device st.places.records.newest.prio (if b then qs else st.buckets st.durable_chain) (bytes_of (if b then gens else st.gens st.durable_chain)))
        (λ e. absurd (omega arith)) (λ _. inv.durable)

    keep_seal_chain : Inv w o (after w st (SealChain i qs gens entry unused))
    keep_seal_chain =
        let ord = inv.order in
        let a = ord.0 in
        let b = ord.1 in
        let e = (SealEntry entry unused) in
        record {
          place = steps_.keep_event w o.image o.newest.last_seq (o.newest ∷ o.older) st.places (SealEntry entry unused) inv.records on.0 inv.place;
          records = steps_.keep_records w st.places (SealEntry entry unused) on.0 inv.records;
          order = (ord.0, omega arith);
          idle = λ idle. absurd (fixed_nothing idle);
          named = named_new;
          members = members_new;
          range = range_new;
          shape = shape_new;
          quiet = quiet_new;
          made = λ q m is. inv.made q m is;
          durable = durable_new;
          sealed = stands_new;
          spare = spare_new;
          spare_shape = inv.spare_shape;
          unused = unused_new;
        }
      where
        fixed_nothing : Fixed ≡ Nothing → ⊥
        fixed_nothing e = cc

  -- the replaced chain is given up
  keep_ready : (i : ℕ) (spare : List ℕ) → IsEnabled w st (ChainReady i spare) → Inv w o (after w st (ChainReady i spare))
  keep_ready i spare on =
      let ord = inv.order in
      let lt = on.1.0 in
      let b = ord.1 in
      record {
        place = inv.place;
        records = inv.records;
        order = (omega arith, ord.1);
        idle = inv.idle;
        named = λ n le up q j. ap (λ (x : Option ℕ). given_up st.ready_chain x) (inv.named n (omega arith) up q j) ∙ given_kept st.ready_chain n (λ e. absurd (omega arith));
        members = λ q n is. inv.members q n (given_some st.ready_chain (st.chain_of q) n is).0;
        range = λ q n is. inv.range q n (given_some st.ready_chain (st.chain_of q) n is).0;
        shape = λ n le up. inv.shape n (omega arith) up;
        quiet = λ q n is. inv.quiet q n (given_some st.ready_chain (st.chain_of q) n is).0;
        made = λ q m is. inv.made q m (still q m is);
        durable = inv.durable;
        sealed = inv.sealed;
        spare = spare_kept;
        spare_shape = (on.1.2, on.1.3);
        unused = unused_kept;
      }
    where
      none_some : (m : Made) → None ≡ Some m → ⊥
      none_some m e = cc

      still : (q : ℕ) (m : Made) → put_all {A = Option Made} st.made (st.buckets (suc st.ready_chain)) None q ≡ Some m → st.made q ≡ Some m
      still q m is = elim (put_all_cases {A = Option Made} st.made (st.buckets (suc st.ready_chain)) None q) [ inl h ↦ absurd (none_some m (sym h.1 ∙ is)) | inr h ↦ sym h.1 ∙ is ]

      spare_kept : (q : ℕ) → In q spare → Kept w (λ k. given_up st.ready_chain (st.chain_of k)) (suc st.ready_chain) q
      spare_kept q j =
          elim (on.1.4 q j) [
            | inl is ↦ (let y = inv.quiet q st.ready_chain is in record { free = inl (ap (λ (x : Option ℕ). given_up st.ready_chain x) is ∙ given_at st.ready_chain); low = y.low; high = y.high })
            | inr h ↦ (let k = inv.spare q h.0 in record {
              free = elim k.free [
                | inl e ↦ inl (ap (λ (x : Option ℕ). given_up st.ready_chain x) e)
                | inr y ↦ inr (y.0, ap (λ (x : Option ℕ). given_up st.ready_chain x) y.1 ∙ given_kept st.ready_chain y.0 (λ e. let y2 = y.2 in absurd (omega arith)), later y.0 y.2 (λ e. h.1 (y.1 ∙ ap Some e)))
              ];
              low = k.low;
              high = k.high;
            })
          ]
        where
          later : (n : ℕ) → st.ready_chain < n → n ≢ suc st.ready_chain → suc st.ready_chain < n
          later n lt ne = omega arith

      unused_kept : StaysUnused w (after w st (ChainReady i spare)) st.places.records.unused
      unused_kept q (inl lt) = inv.unused q (inl lt)
      unused_kept q (inr (inl ge)) = inv.unused q (inr (inl ge))
      unused_kept q (inr (inr (inl y))) = inv.unused q (inr (inr (inl (y.0, (given_some st.ready_chain (st.chain_of q) y.0 y.1).0))))
      unused_kept q (inr (inr (inr j))) = elim (on.1.4 q j) [ inl is ↦ inv.unused q (inr (inr (inl (st.ready_chain, is)))) | inr h ↦ inv.unused q (inr (inr (inr h.0))) ]

pub keep_act : (w : Layout) (o : Opening) (st : State) (m : Act) → IsEnabled w st m → Inv w o st → Inv w o (after w st m)
keep_act w o st (Plain e) on inv = keep_plain w o st inv e on
keep_act w o st (Take i q) on inv = keep_take w o st inv i q on
keep_act w o st (LetGo i q) on inv = keep_let_go w o st inv i q
keep_act w o st (WriteNode i q p set vs) on inv = keep_write_node w o st inv i q p set vs on
keep_act w o st (WriteSet i q part set vs) on inv = keep_write_set w o st inv i q part set vs on
keep_act w o st (FailHeld i q place vs what) on inv = keep_fail_held w o st inv i q place vs what on
keep_act w o st (WriteData q place vs) on inv = keep_write_data w o st inv q place vs on
keep_act w o st (FailData q place vs) on inv = keep_fail_data w o st inv q place vs on
keep_act w o st (Seal entry unused) on inv = keep_seal w o st inv entry unused on
keep_act w o st (SealChain i qs gens entry unused) on inv = keep_seal_chain w o st inv i qs gens entry unused on
keep_act w o st Durable on inv = keep_durable w o st inv on
keep_act w o st (ChainReady i spare) on inv = keep_ready w o st inv i spare on
keep_act w o st (KeepSpare spare) on inv = keep_spare w o st inv spare on

pub keep_acts : (w : Layout) (o : Opening) (st : State) (ms : List Act) → IsRun w st ms → Inv w o st → Inv w o (fold w st ms)
keep_acts w o st [] run inv = inv
keep_acts w o st (m ∷ ms) run inv = keep_acts w o (after w st m) ms run.1 (keep_act w o st m run.0 inv)

-- the opened image
pub opened_cases : (chain : List ℕ) (q : ℕ) → (In q chain × (put_all {A = Option ℕ} (λ k. None) chain (Some 0) q ≡ Some 0)) ⊎ ((In q chain → ⊥) × (put_all {A = Option ℕ} (λ k. None) chain (Some 0) q ≡ None))
opened_cases chain q = put_all_cases {A = Option ℕ} (λ k. None) chain (Some 0) q

pub chained : (chain : List ℕ) (q n : ℕ) → put_all {A = Option ℕ} (λ k. None) chain (Some 0) q ≡ Some n → In q chain × (n ≡ 0)
chained chain q n is =
    elim (opened_cases chain q) [
      | inl h ↦ (h.0, some_same (Some n) n 0 refl (sym is ∙ h.1))
      | inr h ↦ absurd (none_some n (sym h.1 ∙ is))
    ]
  where
    none_some : (n : ℕ) → None ≡ Some n → ⊥
    none_some n e = cc

pub inv_opened : (w : Layout) (o : Opening) → IsSound w o → Inv w o (opened w o)
inv_opened w o sound =
    let places = chain_places w o.image w.chain_sets 0 o.newest.prio (record { buckets = o.chain; gens = bytes_of o.gens }) sound.chain in
    record {
      place = steps_.opened_inv w o.owners o.image o.newest o.older o.ring o.ring_next o.bucket o.unused sound.whole sound.outside;
      records = law_.inv_opened o.owners (ring_entries w o.image w.journal) (node_sets w o.owners o.image) o.newest o.older o.ring o.bucket o.unused sound.whole.sound sound.whole.room sound.keeps sound.named;
      order = (omega arith, omega arith);
      idle = λ _. refl;
      named = λ n le up q j. elim (opened_cases o.chain q) [ inl h ↦ h.1 ∙ ap Some (least n up) | inr h ↦ absurd (h.0 j) ];
      members = λ q n is. (chained o.chain q n is).0;
      range = λ q n is. let e = (chained o.chain q n is).1 in omega arith;
      shape = λ n le up. (sound.distinct, places.1);
      quiet = λ q n is. let k = chained o.chain q n is in let p = places.0 q k.0 in record { loose = sound.free q k.0; unsent = refl; low = p.0; high = p.1 };
      made = λ q m is. absurd (none_some m is);
      durable = (o.image, sound.chain, λ q i t ge lt. (steps_.only_one (o.image t), steps_.only_one (o.image t)));
      sealed = tt;
      spare = λ q j. let k = sound.spare q j in record { free = elim (opened_cases o.chain q) [ inl h ↦ absurd (k.1 h.0) | inr h ↦ inl h.1 ]; low = k.2; high = k.3 };
      spare_shape = (sound.spare_distinct, sound.spare_count);
      unused = unused_at;
    }
  where
    none_some : (m : Made) → None ≡ Some m → ⊥
    none_some m e = cc

    least : (n : ℕ) → n ≤ 0 → 0 ≡ n
    least n up = omega arith

    unused_at : StaysUnused w (opened w o) o.unused
    unused_at q (inl lt) = sound.outside q (inl lt)
    unused_at q (inr (inl ge)) = sound.outside q (inr ge)
    unused_at q (inr (inr (inl y))) = sound.free q (chained o.chain q y.0 y.1).0
    unused_at q (inr (inr (inr j))) = (sound.spare q j).0

-- so many buckets are spare beside a chain
pub record SpareBeside (w : Layout) (st : State) (n : ℕ) : Type 0 where
  pub list : List ℕ
  pub each : EachOf (λ q. (st.places.records.unused q ≡ true) × (In q (st.buckets n) → ⊥) × (w.journal ≤ q) × (q < w.buckets)) list
  pub distinct : Distinct list
  pub count : length list ≡ w.chain_sets
  pub kept : (q : ℕ) → In q list → ((m : ℕ) × (st.chain_of q ≡ Some m)) ⊎ In q st.spare

module _ (w : Layout) (o : Opening) (st : State) (inv : Inv w o st) where
  -- that was made ready last: those that are kept; a later one: the buckets of the one before it
  spare_beside : (n : ℕ) → st.ready_chain ≤ n → n ≤ st.sealed_chain → SpareBeside w st n
  spare_beside n le up = elim (decide n st.ready_chain) [ inl e ↦ at_ready e | inr ne ↦ later n ne le up ]
    where
      at_ready : n ≡ st.ready_chain → SpareBeside w st n
      at_ready e = record {
        list = st.spare;
        each = λ q j. let k = inv.spare q j in (
          inv.unused q (inr (inr (inr j))),
          λ i. (let is = inv.named n le up q i in elim k.free [ inl free ↦ some_none (st.chain_of q) n is free | inr y ↦ (let m = some_same (st.chain_of q) n y.0 is y.1 in let y2 = y.2 in absurd (omega arith)) ]),
          k.low,
          k.high,
        );
        distinct = inv.spare_shape.0;
        count = inv.spare_shape.1;
        kept = λ q j. inr j;
      }

      later : (m : ℕ) → m ≢ st.ready_chain → st.ready_chain ≤ m → m ≤ st.sealed_chain → SpareBeside w st m
      later zero ne le up = absurd (omega arith)
      later (suc m) ne le up =
          let lo : st.ready_chain ≤ m = omega arith in
          let hi : m ≤ st.sealed_chain = omega arith in
          record {
            list = st.buckets m;
            each = λ q j. let is = inv.named m lo hi q j in let y = inv.quiet q m is in (
              inv.unused q (inr (inr (inl (m, is)))),
              λ i. (let is2 = inv.named (suc m) le up q i in let e = some_same (st.chain_of q) m (suc m) is is2 in absurd (omega arith)),
              y.low,
              y.high,
            );
            distinct = (inv.shape m lo hi).0;
            count = (inv.shape m lo hi).1;
            kept = λ q j. inl (m, inv.named m lo hi q j);
          }

  outside : (q : ℕ) → (q < w.journal) ⊎ (w.buckets ≤ q) → st.places.records.unused q ≡ true
  outside q (inl lt) = inv.unused q (inl lt)
  outside q (inr ge) = inv.unused q (inr (inl ge))

  finds : (c : Image) (newest : Entry) (older : List Entry) (index : List Key) (n : ℕ) → MayLeave st.places.device c → st.ready_chain ≤ n → n ≤ st.sealed_chain → Again w st.places c newest older index
      → Stands w st.places.device newest.prio (st.buckets n) (bytes_of (st.gens n)) → Finds w st c newest older index n
  finds c newest older index n left le up again stands =
      let spare = spare_beside n le up in
      let chain = stands_read w st.places.device newest.prio (st.buckets n) (bytes_of (st.gens n)) c left stands in
      record {
        again = again;
        chain = chain;
        opening = record { image = c; owners = owners st.places.records.nodes; newest = newest; older = older; ring = again.ring; ring_next = again.ring_next; bucket = st.places.records.bucket; unused = st.places.records.unused; chain = st.buckets n; gens = st.gens n; spare = spare.list };
        image_is = refl;
        owners_are = refl;
        entries_are = (refl, refl);
        unused_is = refl;
        chain_is = (refl, refl);
        kept = λ q i. elim i [ inl j ↦ inl (n, inv.named n le up q j) | inr j ↦ spare.kept q j ];
        sound = record {
          whole = again.whole;
          keeps = again.keeps;
          outside = again.low;
          named = again.named;
          chain = chain;
          distinct = (inv.shape n le up).0;
          free = λ q j. inv.unused q (inr (inr (inl (n, inv.named n le up q j))));
          spare = spare.each;
          spare_distinct = spare.distinct;
          spare_count = spare.count;
        };
      }

  pub survives : IsSound w o → NoChance w o.image st.places → (image : Image) → MayLeave st.places.device image → Survives w st image
  survives sound chance image left =
      let ord = inv.order in
      let a = ord.0 in
      let b = ord.1 in
      let r = st.places.records in
      record {
        nodes = choice_left w r image (steps_.image_left w o.image o.newest o.older st.places inv.place chance sound.whole.stray image left);
        finds = elim (reopen_.again w o.image o.newest o.older st.places inv.place inv.records chance sound.whole.stray image left outside) [
          | inl k ↦ inl (finds image r.newest r.older r.index st.durable_chain left ord.0 ord.1 k inv.durable)
          | inr k ↦ inr (
            k.0,
            finds image r.entry (live r.entry.last_seq (r.newest ∷ r.older)) (r.entry.keys ++ r.index) st.sealed_chain left (omega arith) (omega arith) k.1
                (by_ready w st.places.device r.entry.prio (st.buckets st.sealed_chain) (bytes_of (st.gens st.sealed_chain)) r.stage k.0 inv.sealed),
          )
        ];
      }

  -- what a chain's bucket is spared
  pub untouched : (n : ℕ) → st.ready_chain ≤ n → n ≤ st.sealed_chain → (act : Act) → IsEnabled w st act → (q t : ℕ) → In q (st.buckets n) → w.first q ≤ t → t < w.first q + w.bucket_sectors → act_writes w st (event_of w act) t ≡ None
  untouched n le up (Plain e) on q t i from to = spares_event w o.image o.newest.last_seq (o.newest ∷ o.older) st.places inv.place e on.1.0 on.0 q (inv.quiet q n (inv.named n le up q i)) t from to
  untouched n le up (WriteNode s k p set vs) on q t i from to =
      let is = inv.named n le up q i in
      let long = first_long w p set vs on.0.1.first on.0.1.room in
      let in_it = within_of w k p on.0.1.inside in
      let in0 = in_it.0 in
      let in1 = in_it.1 in
      other_bucket w k (w.begins p) vs q t on.0.1.high (inv.quiet q n is).high (other w o st inv k on.1.1 q n is) (omega arith) (omega arith) from to
  untouched n le up (WriteSet s k part set vs) on q t i from to = let is = inv.named n le up q i in set_off w o st inv k part set vs on.1.1 on.0.1.3 q t (other w o st inv k on.1.0.1 q n is) (inv.quiet q n is).high from to
  untouched n le up (FailHeld s k place vs what) on q t i from to = let is = inv.named n le up q i in other_bucket w k place vs q t on.0.1.3 (inv.quiet q n is).high (other w o st inv k on.1.1 q n is) on.0.1.1 on.0.1.2 from to
  untouched n le up (WriteData k place vs) on q t i from to = let is = inv.named n le up q i in other_bucket w k place vs q t on.0.1.3 (inv.quiet q n is).high (other w o st inv k on.1.0 q n is) on.0.1.1 on.0.1.2 from to
  untouched n le up (FailData k place vs) on q t i from to = let is = inv.named n le up q i in other_bucket w k place vs q t on.0.1.3 (inv.quiet q n is).high (other w o st inv k on.1.0 q n is) on.0.1.1 on.0.1.2 from to
  untouched n le up act on q t i from to = refl

pub law_crash : LawCrash
law_crash w o acts sound run chance image left = survives w o (fold w (opened w o) acts) (keep_acts w o (opened w o) acts run (inv_opened w o sound)) sound chance image left

pub law_next : LawNext
law_next w o acts sound run chance image left = go (law_crash w o acts sound run chance image left).finds
  where
    go : (let r = (reached w o acts).places.records in
        Finds w (reached w o acts) image r.newest r.older r.index (reached w o acts).durable_chain
        ⊎ (IsReady r.stage × Finds w (reached w o acts) image r.entry (live r.entry.last_seq (r.newest ∷ r.older)) (r.entry.keys ++ r.index) (reached w o acts).sealed_chain)) → (next : Opening) × (next.image ≡ image) × IsSound w next
    go (inl f) = (f.opening, f.image_is, f.sound)
    go (inr f) = (f.1.opening, f.1.image_is, f.1.sound)

pub law_untouched : LawUntouched
law_untouched w o acts sound run n le up act on q s i from to = untouched w o (fold w (opened w o) acts) (keep_acts w o (opened w o) acts run (inv_opened w o sound)) n le up act on q s i from to

pub law_zeros : LawZeros
law_zeros w o acts sound run image left q s own known ge lt behind =
    let st = fold w (opened w o) acts in
    let inv = keep_acts w o (opened w o) acts run (inv_opened w o sound) in
    blank_there w st.places.device (st.places.records.nodes q) (st.places.node_next q) image ((inv.place.nodes q).mine own).blank known left s ge lt behind

pub law_only_torn : LawOnlyTorn
law_only_torn w p sure image q e left own known stand seq found = inl (λ s ge lt. sure s)
