-- A piece, from its claim to its release, and with an entry of the journal between two tries.
use Rattle.std.specs.Prelude.{All, Result, Ok, Err, IfErr, IfOk, OnOk}
use Rattle.std.proofs.Common.{◌≡◌, ◌≢◌, inl, inr, ℕ, Bool, true, List, [], ◌∷◌, length, None, Some, refl, ap, ◌∙◌, subst, arith}
use Rattle.std.proofs.lemmas.List.Elements.{All-nil}
use Rattle.bc_flush.proofs.of_bc_deed.May.{did_nothing}
use Rattle.bc_around.specs.Past.{HasComeTo, HasMadeDurable, HasNotPassed, HasNotTried, HasPassed, HasStopped, HasTried}
use Rattle.bc_around.specs.declared.past.Past.{Past}
use Rattle.bc_around.specs.declared.past.Past.TheVariants as past
use Rattle.bc_around.specs.declared.past.PastError.{PastError}
use Rattle.bc_around.specs.declared.past.PastError.TheVariants as error
use Rattle.bc_flush.specs.bc_deed.Asked.{IsHalted, IsHaltedOr, IsWithin, MayWrite}
use Rattle.bc_flush.specs.bc_deed.Flushed.{HasDone}
use Rattle.bc_flush.proofs.of_bc_deed.Sequence.{done_both, done_first}
use Rattle.bc_disk.specs.Disk.{DiskFacts}
use Rattle.bc_events.specs.declared.event.Deed.{Deed}
use Rattle.bc_events.specs.declared.event.Deed.TheVariants as deed
use Rattle.bc_events.specs.declared.event.LineNumber.{LineNumber}
use Rattle.bc_flight.specs.declared.claim.Share.TheVariants.{Exclusive}
use Rattle.bc_flush.specs.Sync.{HasNotSynced, HasSynced}
use Rattle.bc_flush.specs.declared.error.FlushError.{FlushError}
use Rattle.bc_flush.proofs.Flushing.{IsUnnoted, all_sync_cut, note_still, synced_unnoted}
use Rattle.bc_flush.proofs.Syncing.{cut_on, entry_on}
use Rattle.bc_flush.specs.bc_hand.Seats.{Did, IsCoreSeat, Works, by, empty, note}
use Rattle.bc_flush.specs.bc_hand.declared.error.StepError.{StepError}
use Rattle.bc_flush.specs.bc_hand.declared.error.StepError.TheVariants as step
use Rattle.bc_flush.specs.bc_hand.declared.hand.Hand.{Hand}
use Rattle.bc_flush.specs.bc_request.Asked.{IsIdle}
use Rattle.bc_events.specs.declared.event.Event.{Event}
use Rattle.bc_flush.proofs.of_bc_hand.Knowing.{View, note_committed_is}
use Rattle.bc_flush.specs.bc_machine.Frame.{Range}
use Rattle.bc_flush.specs.bc_machine.Note.{Note}
use Rattle.bc_flush.specs.bc_machine.World.{cache_among}
use Rattle.bc_flush.specs.bc_machine.declared.part.CorePart.{CorePart}
use Rattle.bc_model.specs.declared.values.Values.{Values}
use Rattle.bc_parts.specs.Seat.{PartsView}
use Rattle.bc_flush.proofs.of_bc_reader.Finding.{note_done}
use Rattle.bc_flush.specs.bc_reader.Look.{IsOver}

within_itself : (r : Range) (first count : ℕ)
    → r ≡ record { first = first; count = count; exclusive = true } → IsWithin r first count
within_itself r first count is =
    let f = ap (λ (q : Range). q.first) is in
    let n = ap (λ (q : Range). q.count) is in (omega arith, omega arith)

-- a claim of just these sectors is over them
pub over_within : (r : Range) (first count : ℕ) → IsWithin r first count → r.count ≡ count
    → IsOver first count r
over_within r first count within long = let a = within.0 in let b = within.1 in
    record { from = omega arith; long = long }

pub halted_or : (e : StepError) (es : List Event) → IsHalted e es → IsHaltedOr e es
halted_or (step.Fault d) es is = absurd is
halted_or (step.Halted d) es is = is
halted_or step.Memory es is = absurd is

module _ {C B : Type 0} (cache_facts : C → DiskFacts) (backing_facts : B → DiskFacts) where
  -- ---- the claim

  pub may_write_claimed : (v w : View cache_facts backing_facts) (first count : ℕ)
      → HasDone cache_facts backing_facts (deed.Claim first count Exclusive ∷ []) v w
      → (note cache_facts backing_facts w).range
      ≡ record { first = first; count = count; exclusive = true }
      → MayWrite (note cache_facts backing_facts w) first count
  may_write_claimed v w first count done range = record {
    exclusive = ap (λ (r : Range). r.exclusive) range;
    first_write = ap (λ (n : Note). n.wrote)
        (note_done cache_facts backing_facts (deed.Claim first count Exclusive ∷ []) v w done);
    covered = within_itself (note cache_facts backing_facts w).range first count range;
  }

  pub not_claimed : (p : PartsView (CorePart C B)) (force : Bool) (of : LineNumber) (first : ℕ)
      (values : Values) (e : StepError) (t u w : View cache_facts backing_facts)
      → HasDone cache_facts backing_facts [] t u → HasDone cache_facts backing_facts [] u w
      → IsHaltedOr e w.seen
      → HasNotTried cache_facts backing_facts (error.Claim e) p force of first values t w
  not_claimed p force of first values e t u w before then why = inl (record {
    cause = e;
    is = refl;
    why = why;
    done = done_both cache_facts backing_facts [] [] t u w before then;
  })

  pub no_memory : (p : PartsView (CorePart C B)) (force : Bool) (of : LineNumber) (first : ℕ)
      (values : Values) (v : View cache_facts backing_facts)
      → IsCoreSeat cache_facts backing_facts v
      → HasNotTried cache_facts backing_facts (error.Claim step.Memory) p force of first values v v
  no_memory p force of first values v seat =
      let none = done_first cache_facts backing_facts None v v
      (did_nothing cache_facts backing_facts v seat) in
      not_claimed p force of first values step.Memory v v v none none tt

  pub claim_of_all : (u v : View cache_facts backing_facts) (first count : ℕ) (values : Values)
      → count ≡ length values
      → HasDone cache_facts backing_facts (deed.Claim first count Exclusive ∷ []) u v
      → HasDone cache_facts backing_facts (deed.Claim first (length values) Exclusive ∷ []) u v
  claim_of_all u v first count values is = subst (λ n. HasDone cache_facts backing_facts
      (deed.Claim first n Exclusive ∷ []) u v) is

  pub come_same : (r : Result Past PastError) (p : PartsView (CorePart C B)) (force : Bool)
      (of : LineNumber) (first : ℕ) (own values : Values) (v x : View cache_facts backing_facts)
      → own ≡ values
      → IfOk r (λ o. HasComeTo cache_facts backing_facts o p force of first own v x)
      → IfOk r (λ o. HasComeTo cache_facts backing_facts o p force of first values v x)
  come_same r p force of first own values v x is = subst (λ (l : Values).
      IfOk r (λ o. HasComeTo cache_facts backing_facts o p force of first l v x)) is

  pub stop_same : (r : Result Past PastError) (p : PartsView (CorePart C B)) (force : Bool)
      (of : LineNumber) (first : ℕ) (own values : Values) (v x : View cache_facts backing_facts)
      → own ≡ values
      → IfErr r (λ e. HasStopped cache_facts backing_facts e p force of first own v x)
      → IfErr r (λ e. HasStopped cache_facts backing_facts e p force of first values v x)
  stop_same r p force of first own values v x is = subst (λ (l : Values).
      IfErr r (λ e. HasStopped cache_facts backing_facts e p force of first l v x)) is

  -- ---- a try

  module _ (p : PartsView (CorePart C B)) (force : Bool) (of : LineNumber) (first : ℕ)
      (values : Values) (t u v x w : View cache_facts backing_facts)
      (before : HasDone cache_facts backing_facts [] t u)
      (claim : HasDone cache_facts backing_facts
      (deed.Claim first (length values) Exclusive ∷ []) u v)
      (release : Did cache_facts backing_facts (Some deed.Release) x w) where
    claimed : HasDone cache_facts backing_facts
        (deed.Claim first (length values) Exclusive ∷ []) t v
    claimed = done_both cache_facts backing_facts []
        (deed.Claim first (length values) Exclusive ∷ []) t u v before claim

    released : HasDone cache_facts backing_facts (deed.Release ∷ []) x w
    released = done_first cache_facts backing_facts (Some deed.Release) x w release

    pub tried_there : (r : Result Past PastError)
        → IfOk r (λ o. HasComeTo cache_facts backing_facts o p force of first values v x)
        → IfOk r (λ o. HasTried cache_facts backing_facts o p force of first values t w)
    tried_there (Ok o) come = record {
      claimed = v;
      claim = claimed;
      tried = x;
      outcome = come;
      released = released;
    }
    tried_there (Err e) come = tt

    pub stopped_there : (r : Result Past PastError)
        → IfErr r (λ e. HasStopped cache_facts backing_facts e p force of first values v x)
        → IfErr r (λ e. HasNotTried cache_facts backing_facts e p force of first values t w)
    stopped_there (Ok o) stop = tt
    stopped_there (Err e) stop = inr (record {
      claimed = v;
      claim = claimed;
      tried = x;
      stop = stop;
      released = released;
    })

  -- ---- idle seats

  idle_with : (p : PartsView (CorePart C B)) (v w : View cache_facts backing_facts) (h : Hand C B)
      → IsIdle cache_facts backing_facts p v → h ≡ empty → Works cache_facts backing_facts p w h
      → (note cache_facts backing_facts w).range.count ≡ 0 → IsIdle cache_facts backing_facts p w
  idle_with p v w h idle is works none = record {
    works = subst (λ (x : Hand C B). Works cache_facts backing_facts p w x) is works;
    cached = idle.cached;
    leaves = idle.leaves;
    unclaimed = none;
  }

  pub idle_again : (p : PartsView (CorePart C B)) (u v w : View cache_facts backing_facts)
      (h : Hand C B) → IsIdle cache_facts backing_facts p u → h ≡ empty
      → Works cache_facts backing_facts p w h
      → Did cache_facts backing_facts (Some deed.Release) v w → IsIdle cache_facts backing_facts p w
  idle_again p u v w h idle is works did = idle_with p u w h idle is works
      (ap (λ (n : Note). n.range.count)
      (note_committed_is cache_facts backing_facts v w (by v.first deed.Release) did.is))

  -- ---- an entry

  pub synced_behind : {A E : Type 0} (r : Result A E)
      (t u w : View cache_facts backing_facts) → HasDone cache_facts backing_facts [] t u
      → OnOk r (HasSynced cache_facts backing_facts u w)
      → OnOk r (HasSynced cache_facts backing_facts t w)
  synced_behind (Ok a) t u w before h = record {
    deeds = h.deeds;
    are = h.are;
    stood = entry_on cache_facts backing_facts [] t u before h.deeds h.are h.stood;
    done = done_both cache_facts backing_facts [] h.deeds t u w before h.done;
  }
  synced_behind (Err e) t u w before h = tt

  pub not_synced_behind : {A : Type 0} (r : Result A FlushError) (sectors : ℕ)
      (t u w : View cache_facts backing_facts) → HasDone cache_facts backing_facts [] t u
      → IfErr r (λ e. HasNotSynced cache_facts backing_facts sectors e u w)
      → IfErr r (λ e. HasNotSynced cache_facts backing_facts sectors e t w)
  not_synced_behind (Ok a) sectors t u w before h = tt
  not_synced_behind (Err e) sectors t u w before h = record {
    deeds = h.deeds;
    cut = h.cut;
    stood = cut_on cache_facts backing_facts [] t u before sectors e h.deeds h.cut h.stood;
    halt = h.halt;
    done = done_both cache_facts backing_facts [] h.deeds t u w before h.done;
  }

  count_still : (t u w : View cache_facts backing_facts) (ds : List Deed)
      → HasDone cache_facts backing_facts [] t u → HasDone cache_facts backing_facts ds u w
      → All IsUnnoted ds → (note cache_facts backing_facts t).range.count ≡ 0
      → (note cache_facts backing_facts w).range.count ≡ 0
  count_still t u w ds before done all none = ap (λ (n : Note). n.range.count)
      (note_still cache_facts backing_facts ds u w done all
      ∙ note_still cache_facts backing_facts [] t u before (All-nil IsUnnoted)) ∙ none

  pub idle_synced : {A : Type 0} (r : Result A FlushError) (p : PartsView (CorePart C B))
      (sectors : ℕ) (t u w : View cache_facts backing_facts)
      → IsIdle cache_facts backing_facts p t → HasDone cache_facts backing_facts [] t u
      → Works cache_facts backing_facts p w empty
      → OnOk r (HasSynced cache_facts backing_facts u w)
      → IfErr r (λ e. HasNotSynced cache_facts backing_facts sectors e u w)
      → IsIdle cache_facts backing_facts p w
  idle_synced (Ok a) p sectors t u w idle before works ok err =
      idle_with p t w empty idle refl works (count_still t u w ok.deeds before ok.done
      (synced_unnoted ok.deeds ok.are) idle.unclaimed)
  idle_synced (Err e) p sectors t u w idle before works ok err =
      idle_with p t w empty idle refl works (count_still t u w err.deeds before err.done
      (all_sync_cut IsUnnoted (λ low bucket rest plain o. refl) (λ plain o. refl)
      (λ s values plain o. refl) (λ s values plain o. refl) (λ plain o. refl) sectors e
      err.deeds err.cut) idle.unclaimed)

  -- ---- two tries

  module _ (p : PartsView (CorePart C B)) (force : Bool) (of : LineNumber) (first : ℕ)
      (values : Values) where
    pub passed_first : (o q : Past) (v w : View cache_facts backing_facts) → o ≡ q
        → q ≢ past.Waiting → HasTried cache_facts backing_facts o p force of first values v w
        → HasPassed cache_facts backing_facts q p force of first values v w
    passed_first o q v w is ne tried = inl (
      ne,
      subst (λ (x : Past). HasTried cache_facts backing_facts x p force of first values v w) is
          tried,
    )

    pub written_first : past.Written ≢ past.Waiting
    written_first is = cc

    pub cached_first : past.Cached ≢ past.Waiting
    cached_first is = cc

    pub waited_first : (o : Past) (v w : View cache_facts backing_facts) → o ≡ past.Waiting
        → HasTried cache_facts backing_facts o p force of first values v w
        → HasTried cache_facts backing_facts past.Waiting p force of first values v w
    waited_first o v w is = subst (λ (x : Past).
        HasTried cache_facts backing_facts x p force of first values v w) is

    abbrev Sectors : ℕ
    Sectors = (cache_among cache_facts backing_facts p.run.start).sectors

    pub not_durable : (e : FlushError) (v u w : View cache_facts backing_facts)
        → HasTried cache_facts backing_facts past.Waiting p force of first values v u
        → HasNotSynced cache_facts backing_facts Sectors e u w
        → HasNotPassed cache_facts backing_facts (error.Journal e) p force of first values v w
    not_durable e v u w waited refused = inr (inl (record {
      cause = e;
      is = refl;
      at = u;
      waited = waited;
      refused = refused;
    }))

    module _ (v u x w : View cache_facts backing_facts)
        (waited : HasTried cache_facts backing_facts past.Waiting p force of first values v u)
        (synced : HasSynced cache_facts backing_facts u x) where
      made : HasMadeDurable cache_facts backing_facts p force of first values v x
      made = record { at = u; waited = waited; synced = synced }

      pub passed_then : (r : Result Past PastError)
          → IfOk r (λ o. HasTried cache_facts backing_facts o p force of first values x w)
          → IfOk r (λ o. HasPassed cache_facts backing_facts o p force of first values v w)
      passed_then (Ok o) tried = inr (x, made, tried)
      passed_then (Err e) tried = tt

      pub stopped_then : (r : Result Past PastError)
          → IfErr r (λ e. HasNotTried cache_facts backing_facts e p force of first values x w)
          → IfErr r (λ e. HasNotPassed cache_facts backing_facts e p force of first values
          v w)
      stopped_then (Ok o) stop = tt
      stopped_then (Err e) stop = inr (inr (x, made, stop))
