-- What a seat knows behind a read, and what it leaves.
use Rattle.std.specs.Prelude.{Result, Ok, Err, OnOk, IfErr, if◌then◌else◌}
use Rattle.std.proofs.Common.{◌≡◌, ◌⊎◌, inl, inr, ℕ, suc, ◌+◌, ◌-◌, ◌*◌, ◌/◌, ◌<◌, ◌≤◌, Bool, false, List, [], ◌∷◌, ◌++◌, length, Option, Some, None, refl, sym, ap, ◌∙◌, subst, arith}
use Rattle.std.proofs.lemmas.List.{append-nil}
use Rattle.bc_bucket.specs.Buckets.{Buckets}
use Rattle.bc_data.specs.Data.{BackingRead}
use Rattle.bc_data.specs.Seats.{Seat, noted, put_seat}
use Rattle.bc_data.specs.After.{learnt}
use Rattle.bc_disk.specs.Disk.{DiskFacts}
use Rattle.bc_events.specs.Run as core
use Rattle.bc_events.specs.declared.event.Deed.{Deed}
use Rattle.bc_events.specs.declared.event.Deed.TheVariants as deed
use Rattle.bc_fetch.proofs.of_bc_hand.Knowing.{View, note_committed, note_waited}
use Rattle.bc_fetch.specs.bc_hand.Seats.{by, note, IsCoreSeat, Did}
use Rattle.bc_fetch.specs.bc_hand.declared.error.StepError.{StepError}
use Rattle.bc_fetch.specs.bc_hand.declared.error.StepError.TheVariants as error
use Rattle.bc_fetch.specs.bc_machine.Frame.{by_test}
use Rattle.bc_fetch.specs.bc_machine.Note.{Note, note_after}
use Rattle.bc_fetch.specs.bc_machine.World.{replay}
use Rattle.bc_model.proofs.Runs.{at_miss, at_range}
use Rattle.bc_model.specs.Sector.{Value, at_run}
use Rattle.bc_node.specs.Leaf.{Leaf}
use Rattle.bc_fetch.proofs.of_bc_deed.May.{did_nothing}
use Rattle.bc_fetch.proofs.of_bc_deed.Sequence.{done_one, done_then, one_of}
use Rattle.bc_fetch.specs.bc_deed.Asked.{HasFailedOr}
use Rattle.bc_fetch.specs.bc_deed.Flushed.{HasDone}
use Rattle.bc_reads.proofs.of_bc_sight.Claims.{claim_committed}
use Rattle.bc_reads.proofs.of_bc_sight.Reading.{knows_read}
use Rattle.bc_reads.specs.bc_sight.Asked.{HasFailedReadOr}
use Rattle.bc_reads.specs.bc_sight.Sight.{IsOnBacking, Knows, OfClaim, but_firm, with_values}
use Rattle.bc_reads.proofs.Still.{law_backing, law_clean}
use Rattle.bc_reads.specs.Reads.{IsReadFrom, IsRun, moved}
use Rattle.bc_reads.specs.declared.runs.ReadRun.{ReadRun}
use Rattle.bc_reads.specs.declared.source.ReadFrom.{ReadFrom}
use Rattle.bc_reads.specs.declared.source.ReadFrom.TheVariants.{Backing, Cache}
use Rattle.bc_reader.specs.Deeds.{AreRunDeeds, HasDoneSome, HasStoppedBy, HasTurned, IsDirty, RunStop, backing_fault, cache_fault}
use Rattle.bc_reader.specs.Known.{HasValues, IsReadAs, IsSameClaim}

-- ---- the claim

put_own : (seats : ℕ → Seat) (i : ℕ) (x : Seat) → put_seat seats i x i ≡ x
put_own seats i x = by_test i i (λ b. (if b then x else seats i) ≡ x) (λ is. refl) (λ ne. absurd (ne refl))

backing_claim : (w : core.Opening) (st : core.State) (i first : ℕ) (values : List Value)
    → but_firm ((core.after w st (by i (deed.BackingRead first values))).machine.whole.flow.seats i).claim
    ≡ but_firm (learnt w.machine.flow st.machine.whole.flow.books
    (st.machine.whole.flow.seats i).claim (BackingRead first values))
backing_claim w st i first values = ap (λ (x : Seat). but_firm x.claim)
    (put_own st.machine.whole.flow.seats i _)

failed_claim : (w : core.Opening) (st : core.State) (i : ℕ)
    → but_firm ((core.after w st (by i cache_fault)).machine.whole.flow.seats i).claim
    ≡ but_firm (st.machine.whole.flow.seats i).claim
failed_claim w st i = ap (λ (x : Seat). but_firm x.claim) (put_own st.machine.whole.flow.seats i _)

pub same_both : (a b c : Note) → IsSameClaim a b → IsSameClaim b c → IsSameClaim a c
same_both a b c x y = record { range = y.range ∙ x.range; looked = y.looked ∙ x.looked }

-- ---- values

pub long_of : (n m : ℕ) → n ≡ 512 * m → n / 512 ≡ m
long_of n m is = omega arith

at_append : (first : ℕ) (xs ys : List Value) (s : ℕ) (v : Value) → at_run first (xs ++ ys) s ≡ Some v
    → (at_run first xs s ≡ Some v) ⊎ (at_run (first + length xs) ys s ≡ Some v)
at_append first [] ys s v is = inr (subst (λ n. at_run n ys s ≡ Some v) (omega arith) is)
at_append first (x ∷ xs) ys s v is = by_test first s
    (λ b. (if b then Some x else at_run (suc first) (xs ++ ys) s) ≡ Some v
    → ((if b then Some x else at_run (suc first) xs s) ≡ Some v)
    ⊎ (at_run (first + suc (length xs)) ys s ≡ Some v)) (λ _ h. inl h)
    (λ _ h. elim (at_append (suc first) xs ys s v h) [
      | inl a ↦ inl a
      | inr b ↦ inr (subst (λ n. at_run n ys s ≡ Some v) (omega arith) b)
    ]) is

before_it : (first at : ℕ) (own : List Value) (s : ℕ) → s < at → at ≡ first → at_run first own s ≡ None
before_it first at own s low is = at_miss first own s (λ p. let a = p.0 in omega arith)

as_before : (leaf : Leaf) (b : Buckets) (c k c' k' : Option Value) (s : ℕ) (value : Value)
    → c' ≡ c → k' ≡ k → IsReadAs leaf b c k s value → IsReadAs leaf b c' k' s value
as_before leaf b c k c' k' s value p q (inl x) = inl (q ∙ x.0, x.1)
as_before leaf b c k c' k' s value p q (inr x) = inr (x.0, x.1, p ∙ x.2, x.3)

module _ {C B : Type 0} (cache_facts : C → DiskFacts) (backing_facts : B → DiskFacts) where
  -- ---- what it knows

  knows_backing : (v w : View cache_facts backing_facts) → IsCoreSeat cache_facts backing_facts v
      → (first : ℕ) (values : List Value)
      → Did cache_facts backing_facts (Some (deed.BackingRead first values)) v w
      → (leaf : Leaf) (buckets : Buckets) (read : ℕ → Option Value)
      → OfClaim cache_facts backing_facts v (λ o c. Knows o leaf buckets read c)
      → OfClaim cache_facts backing_facts w (λ o c. Knows o leaf buckets read c)
  knows_backing v w seat first values did leaf buckets read knows =
      claim_committed cache_facts backing_facts v w (deed.BackingRead first values) seat
      (λ o c. Knows o leaf buckets read c) (λ o c. Knows o leaf buckets read c) did
      (λ o is course h. subst (Knows o leaf buckets read)
      (sym (backing_claim o.opening (replay o did.is.before.log) v.first first values)) (record {
        look = record { looked = h.look.looked; sight = h.look.sight };
        uses = record { cut = h.uses.cut; data_from = h.uses.data_from; uses = h.uses.uses };
        read_is = h.read_is;
      })) knows

  knows_failed : (v w : View cache_facts backing_facts) → IsCoreSeat cache_facts backing_facts v
      → Did cache_facts backing_facts (Some cache_fault) v w
      → (P : Rattle.bc_fetch.specs.bc_machine.World.Origin → Rattle.bc_data.specs.Seats.Claim → Type 0)
      → OfClaim cache_facts backing_facts v P → OfClaim cache_facts backing_facts w P
  knows_failed v w seat did P knows = claim_committed cache_facts backing_facts v w cache_fault seat P P did
      (λ o is course h. subst (P o)
      (sym (failed_claim o.opening (replay o did.is.before.log) v.first)) h) knows

  module _ (leaf : Leaf) (b : Buckets) (first : ℕ) (values : List Value)
      (v w : View cache_facts backing_facts) (seat : IsCoreSeat cache_facts backing_facts v) where
    pub values_failed : Did cache_facts backing_facts (Some cache_fault) v w
        → HasValues cache_facts backing_facts leaf b first values v
        → HasValues cache_facts backing_facts leaf b first values w
    values_failed did h =
        let firm = note_committed cache_facts backing_facts v w cache_fault seat did.is in record {
          read = h.read;
          knows = knows_failed v w seat did (λ o c. Knows o leaf b h.read c) h.knows;
          gives = λ s value here. as_before leaf b (h.read s)
              ((note cache_facts backing_facts v).read s) _ _ s value refl (firm.read s)
              (h.gives s value here);
        }

    module _ (at : ℕ) (own : List Value) (behind : at ≡ first + length values)
        (h : HasValues cache_facts backing_facts leaf b first values v) where
      pub values_backing : Did cache_facts backing_facts (Some (deed.BackingRead at own)) v w
          → ((s : ℕ) → at ≤ s → s < at + length own → IsOnBacking leaf s)
          → HasValues cache_facts backing_facts leaf b first (values ++ own) w
      values_backing did on =
          let firm = note_committed cache_facts backing_facts v w (deed.BackingRead at own) seat did.is in
          record {
            read = h.read;
            knows = knows_backing v w seat at own did leaf b h.read h.knows;
            gives = λ s value here. elim (at_append first values own s value here) [
              | inl old ↦
                  let none = before_it at (first + length values) own s
                  (at_range first values s value old).1 (sym behind) in
                  as_before leaf b (h.read s) ((note cache_facts backing_facts v).read s) _ _ s value
                  refl (firm.read s
                  ∙ ap (λ o. noted o ((note cache_facts backing_facts v).read s)) none)
                  (h.gives s value old)
              | inr new ↦
                  let hit : at_run at own s ≡ Some value =
                  subst (λ n. at_run n own s ≡ Some value) (sym behind) new in
                  let inside = at_range at own s value hit in inl (
                    firm.read s ∙ ap (λ o. noted o ((note cache_facts backing_facts v).read s)) hit,
                    on s inside.0 inside.1,
                  )
            ];
          }

      pub values_cache : (place : ℕ) (dirty : Bool)
          → Did cache_facts backing_facts (Some (deed.CacheRead place (Some at) own)) v w
          → ((s : ℕ) → at ≤ s → s < at + length own
          → IsReadFrom leaf b s (Cache (place + (s - at)) dirty))
          → HasValues cache_facts backing_facts leaf b first (values ++ own) w
      values_cache place dirty did from =
          let firm = note_committed cache_facts backing_facts v w
          (deed.CacheRead place (Some at) own) seat did.is in record {
            read = with_values at own h.read;
            knows = knows_read cache_facts backing_facts v w seat place at own did leaf b h.read h.knows;
            gives = λ s value here. elim (at_append first values own s value here) [
              | inl old ↦
                  let none = before_it at (first + length values) own s
                  (at_range first values s value old).1 (sym behind) in
                  as_before leaf b (h.read s) ((note cache_facts backing_facts v).read s) _ _ s value
                  (ap (λ o. noted o (h.read s)) none) (firm.read s) (h.gives s value old)
              | inr new ↦
                  let hit : at_run at own s ≡ Some value =
                  subst (λ n. at_run n own s ≡ Some value) (sym behind) new in
                  let inside = at_range at own s value hit in inr (
                    place + (s - at),
                    dirty,
                    ap (λ o. noted o (h.read s)) hit,
                    from s inside.0 inside.1,
                  )
            ];
          }

  -- ---- what it leaves

  pub same_waited : (v w : View cache_facts backing_facts) → IsCoreSeat cache_facts backing_facts v
      → Did cache_facts backing_facts None v w
      → IsSameClaim (note cache_facts backing_facts v) (note cache_facts backing_facts w)
  same_waited v w seat did = let firm = note_waited cache_facts backing_facts v w seat did.is in
      record { range = firm.range; looked = firm.looked }

  pub same_done : (d : Deed) (v w : View cache_facts backing_facts)
      → IsCoreSeat cache_facts backing_facts v
      → ((plain : Bool) → IsSameClaim (note cache_facts backing_facts v)
      (note_after plain (note cache_facts backing_facts v) d))
      → Did cache_facts backing_facts (Some d) v w
      → IsSameClaim (note cache_facts backing_facts v) (note cache_facts backing_facts w)
  same_done d v w seat same did =
      let firm = note_committed cache_facts backing_facts v w d seat did.is in
      record { range = firm.range ∙ (same _).range; looked = firm.looked ∙ (same _).looked }

  pub same_backing : {A : Type 0} (r : Result A StepError) (first : ℕ) (values : List Value)
      (v w : View cache_facts backing_facts) → IsCoreSeat cache_facts backing_facts v
      → OnOk r (Did cache_facts backing_facts (Some (deed.BackingRead first values)) v w)
      → IfErr r (λ e. HasFailedOr cache_facts backing_facts e backing_fault v w)
      → IsSameClaim (note cache_facts backing_facts v) (note cache_facts backing_facts w)
  same_backing (Ok a) first values v w seat did err = same_done (deed.BackingRead first values) v w seat
      (λ plain. record { range = refl; looked = refl }) did
  same_backing (Err (error.Fault d)) first values v w seat ok err = same_done backing_fault v w seat
      (λ plain. record { range = refl; looked = refl }) err.1
  same_backing (Err (error.Halted d)) first values v w seat ok err = same_waited v w seat err.1
  same_backing (Err error.Memory) first values v w seat ok err = same_waited v w seat err

  pub same_cache : {A : Type 0} (r : Result A StepError) (at first : ℕ) (values : List Value)
      (v w : View cache_facts backing_facts) → IsCoreSeat cache_facts backing_facts v
      → OnOk r (Did cache_facts backing_facts (Some (deed.CacheRead at (Some first) values)) v w)
      → IfErr r (λ e. HasFailedReadOr cache_facts backing_facts e v w)
      → IsSameClaim (note cache_facts backing_facts v) (note cache_facts backing_facts w)
  same_cache (Ok a) at first values v w seat did err =
      same_done (deed.CacheRead at (Some first) values) v w seat
      (λ plain. record { range = refl; looked = refl }) did
  same_cache (Err (error.Fault d)) at first values v w seat ok err = same_done cache_fault v w seat
      (λ plain. record { range = refl; looked = refl }) err.1
  same_cache (Err (error.Halted d)) at first values v w seat ok err = same_waited v w seat err.1
  same_cache (Err error.Memory) at first values v w seat ok err = same_waited v w seat err

  left_did : (o : Option Deed) (v w : View cache_facts backing_facts)
      → Did cache_facts backing_facts o v w → v.promises ≤ w.promises + 1
  left_did None v w did = let p = did.is.promises in omega (arith, p)
  left_did (Some d) v w did = let p = did.is.promises in omega (arith, p)

  pub left_backing : {A : Type 0} (r : Result A StepError) (first : ℕ) (values : List Value)
      (v w : View cache_facts backing_facts)
      → OnOk r (Did cache_facts backing_facts (Some (deed.BackingRead first values)) v w)
      → IfErr r (λ e. HasFailedOr cache_facts backing_facts e backing_fault v w)
      → v.promises ≤ w.promises + 1
  left_backing (Ok a) first values v w did err = left_did (Some (deed.BackingRead first values)) v w did
  left_backing (Err (error.Fault d)) first values v w ok err = left_did (Some backing_fault) v w err.1
  left_backing (Err (error.Halted d)) first values v w ok err = left_did None v w err.1
  left_backing (Err error.Memory) first values v w ok err = left_did None v w err

  pub left_cache : {A : Type 0} (r : Result A StepError) (at first : ℕ) (values : List Value)
      (v w : View cache_facts backing_facts)
      → OnOk r (Did cache_facts backing_facts (Some (deed.CacheRead at (Some first) values)) v w)
      → IfErr r (λ e. HasFailedReadOr cache_facts backing_facts e v w)
      → v.promises ≤ w.promises + 1
  left_cache (Ok a) at first values v w did err =
      left_did (Some (deed.CacheRead at (Some first) values)) v w did
  left_cache (Err (error.Fault d)) at first values v w ok err = left_did (Some cache_fault) v w err.1
  left_cache (Err (error.Halted d)) at first values v w ok err = left_did None v w err.1
  left_cache (Err error.Memory) at first values v w ok err = left_did None v w err

  -- ---- one run

  pub did_none : (v : View cache_facts backing_facts) → IsCoreSeat cache_facts backing_facts v
      → HasDone cache_facts backing_facts [] v v
  did_none v seat = done_one cache_facts backing_facts None v v
      (did_nothing cache_facts backing_facts v seat)

  pub backing_ok : (r : ReadRun) (values : List Value) (v w : View cache_facts backing_facts)
      → r.from ≡ Backing
      → Did cache_facts backing_facts (Some (deed.BackingRead r.first values)) v w
      → HasDoneSome cache_facts backing_facts (AreRunDeeds r values) v w
  backing_ok r values v w from did = (
    deed.BackingRead r.first values ∷ [],
    inr ([], inl (from, refl), refl),
    done_one cache_facts backing_facts (Some (deed.BackingRead r.first values)) v w did,
  )

  pub cache_ok : (r : ReadRun) (at : ℕ) (dirty : Bool) (values : List Value)
      (v w : View cache_facts backing_facts) → r.from ≡ Cache at dirty
      → Did cache_facts backing_facts (Some (deed.CacheRead at (Some r.first) values)) v w
      → HasDoneSome cache_facts backing_facts (AreRunDeeds r values) v w
  cache_ok r at dirty values v w from did = (
    deed.CacheRead at (Some r.first) values ∷ [],
    inl (at, dirty, from, refl),
    done_one cache_facts backing_facts (Some (deed.CacheRead at (Some r.first) values)) v w did,
  )

  -- what comes before the backing device is called
  turned : (r : ReadRun) (before : List Deed) (v : View cache_facts backing_facts)
      (u : View cache_facts backing_facts) → HasDone cache_facts backing_facts before u v
      → HasTurned r before → (o : Option Deed) (w : View cache_facts backing_facts)
      → Did cache_facts backing_facts o v w
      → HasDone cache_facts backing_facts (before ++ one_of o) u w
  turned r before v u done is o w did = done_then cache_facts backing_facts before o u v w done did

  pub backing_stop : (r : ReadRun) (before : List Deed) (u v w : View cache_facts backing_facts)
      → HasDone cache_facts backing_facts before u v → HasTurned r before → (e : StepError)
      → HasFailedOr cache_facts backing_facts e backing_fault v w
      → HasStoppedBy cache_facts backing_facts e (RunStop e r) u w
  backing_stop r before u v w done is (error.Fault d) why = (
    tt,
    (
      before ++ backing_fault ∷ [],
      inr (before, why.0, is, refl),
      turned r before v u done is (Some backing_fault) w why.1,
    ),
  )
  backing_stop r before u v w done is (error.Halted d) why = (
    why.0,
    (
      before,
      inr is,
      subst (λ (l : List Deed). HasDone cache_facts backing_facts l u w) (append-nil before)
          (turned r before v u done is None w why.1),
    ),
  )
  backing_stop r before u v w done is error.Memory why = (
    tt,
    (
      before,
      inr is,
      subst (λ (l : List Deed). HasDone cache_facts backing_facts l u w) (append-nil before)
          (turned r before v u done is None w why),
    ),
  )

  -- a read of the cache device that isn't done again elsewhere
  pub cache_stop : (r : ReadRun) (v w : View cache_facts backing_facts) (e : StepError)
      → ((d : _) → e ≡ error.Fault d → IsDirty r)
      → HasFailedReadOr cache_facts backing_facts e v w
      → HasStoppedBy cache_facts backing_facts e (RunStop e r) v w
  cache_stop r v w (error.Fault d) dirty why = (
    tt,
    (
      cache_fault ∷ [],
      inl (why.0, dirty d refl, refl),
      done_one cache_facts backing_facts (Some cache_fault) v w why.1,
    ),
  )
  cache_stop r v w (error.Halted d) dirty why =
      (why.0, ([], inl refl, done_one cache_facts backing_facts None v w why.1))
  cache_stop r v w error.Memory dirty why =
      (tt, ([], inl refl, done_one cache_facts backing_facts None v w why))

  pub is_failed : (e : StepError) (d : _) (v w : View cache_facts backing_facts) → e ≡ error.Fault d
      → HasFailedReadOr cache_facts backing_facts e v w
      → Did cache_facts backing_facts (Some cache_fault) v w
  is_failed e d v w is why = (subst (λ (x : StepError).
      HasFailedReadOr cache_facts backing_facts x v w) is why).1

  -- the values of a run, from where it is read
  module _ (leaf : Leaf) (b : Buckets) (first : ℕ) (values : List Value) (r : ReadRun)
      (own : List Value) (long : length own ≡ r.count)
      (v w : View cache_facts backing_facts) (seat : IsCoreSeat cache_facts backing_facts v)
      (h : HasValues cache_facts backing_facts leaf b first values v) (is : IsRun leaf b r)
      (behind : r.first ≡ first + length values) where
    from_it : (from : ReadFrom) → r.from ≡ from → (s : ℕ) → r.first ≤ s → s < r.first + length own
        → IsReadFrom leaf b s (moved from (s - r.first))
    from_it from there s low high = subst (λ (f : ReadFrom). IsReadFrom leaf b s (moved f (s - r.first)))
        there (is s low (omega (arith, high, long)))

    pub run_backing : r.from ≡ Backing
        → Did cache_facts backing_facts (Some (deed.BackingRead r.first own)) v w
        → HasValues cache_facts backing_facts leaf b first (values ++ own) w
    run_backing there did = values_backing leaf b first values v w seat r.first own behind h did
        (λ s low high. law_backing leaf b s (from_it Backing there s low high))

    pub run_clean : (at : ℕ) → r.from ≡ Cache at false
        → Did cache_facts backing_facts (Some (deed.BackingRead r.first own)) v w
        → HasValues cache_facts backing_facts leaf b first (values ++ own) w
    run_clean at there did = values_backing leaf b first values v w seat r.first own behind h did
        (λ s low high. law_clean leaf b s (at + (s - r.first))
        (from_it (Cache at false) there s low high))

    pub run_cache : (at : ℕ) (dirty : Bool) → r.from ≡ Cache at dirty
        → Did cache_facts backing_facts (Some (deed.CacheRead at (Some r.first) own)) v w
        → HasValues cache_facts backing_facts leaf b first (values ++ own) w
    run_cache at dirty there did = values_cache leaf b first values v w seat r.first own behind h at
        dirty did (λ s low high. from_it (Cache at dirty) there s low high)
