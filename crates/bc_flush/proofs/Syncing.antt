-- What the journal in hand tells of the entry that is owed, and what was done about it.
use Rattle.std.proofs.Common.{◌≡◌, ◌≢◌, inl, inr, ℕ, ◌+◌, ◌<◌, ◌≤◌, false, List, [], ◌∷◌, ◌++◌, length, Option, Some, None, refl, sym, ap, ◌∙◌, subst, arith}
use Rattle.std.specs.Prelude.{IfErr, IsSome, OnOk, Ok, Err, Result, reverse}
use Rattle.std.proofs.lemmas.List.{append-nil, reverse-reverse}
use Rattle.bc_entry.proofs.of_bc_deed.May.{did_nothing}
use Rattle.bc_entry.proofs.of_bc_deed.Sequence.{done_both, done_one}
use Rattle.bc_entry.specs.bc_deed.Flushed.{HasDone}
use Rattle.bc_disk.specs.Disk.{DiskFacts}
use Rattle.bc_entry.proofs.Course.{is_sealed, nothing_course, waits_course}
use Rattle.bc_entry.specs.Put.{HasCut, HasPut, IsCause, IsCut}
use Rattle.bc_entry.specs.Seal.{CanSeal}
use Rattle.bc_events.specs.declared.event.Deed.{Deed}
use Rattle.bc_entry.specs.bc_hand.Seats.{IsCoreSeat, world}
use Rattle.bc_entry.specs.bc_hand.declared.error.StepError.{StepError}
use Rattle.bc_entry.specs.bc_hand.declared.error.StepError.TheVariants as step
use Rattle.bc_entry.proofs.of_bc_hand.Knowing.{View, m}
use Rattle.bc_journal.proofs.Journals.{words_two}
use Rattle.bc_journal.specs.Journal.{IsJournal as IsGoodJournal, Journal, place_for, waiting_words}
use Rattle.bc_key.specs.declared.key.Key.{Key}
use Rattle.bc_entry.specs.bc_machine.Containers.{sealed_numbers}
use Rattle.bc_entry.specs.bc_machine.World.{FromEach, IsJournal, Origin, World, replay}
use Rattle.bc_meta.specs.Entries.{Entry}
use Rattle.bc_meta.specs.Records.{Stage, Nothing, Fixed, Ready, Sent, Safe}
use Rattle.bc_entry.specs.bc_sealing.Laws.{stage_in}
use Rattle.bc_seats.proofs.Knowing.{waited}
use Rattle.bc_seats.specs.Seats.{Waited}
use Rattle.bc_shares.specs.Shares.{books_of, if_sealed, journal_share}
use Rattle.bc_flush.specs.Durable.{AreDurable, HaveComeIn}
use Rattle.bc_flush.specs.Refusals.{refusal}
use Rattle.bc_flush.specs.Sync.{AreSynced, HasNotSynced, HasSynced, IsHaltOf, IsSyncCut, OfCut, OfEntry, StoodBehind}
use Rattle.bc_flush.specs.declared.error.FlushError.{FlushError}
use Rattle.bc_flush.specs.declared.error.FlushError.TheVariants as flush
use Rattle.bc_flush.proofs.Counting.{come_lasts, durable_lasts, turn_replay}
use Rattle.bc_flush.proofs.Walking.{lasts_done}

-- ---- where keys wait, an entry has its number and its place

some_words : (keys : List Key) → keys ≢ [] → 0 < length keys
some_words [] some = absurd (some refl)
some_words (k ∷ ks) some = omega arith

waits_some : (j : Journal) → j.waiting ≢ [] → 0 < waiting_words j
waits_some j some = let one = some_words j.waiting some in let two = words_two j.waiting in
    omega (arith, one, two)

pub can_seal : (j : Journal) → IsGoodJournal j → j.sealed ≡ None → j.waiting ≢ [] → CanSeal j
can_seal j good none some = record {
  none = none;
  room = record {
    few = let few = good.few in omega (arith, few);
    place = subst (λ n. IsSome (place_for j n)) (zero_more (waiting_words j))
        (good.placed (waits_some j some));
  };
  numbered = good.numbered (waits_some j some);
}
  where
    zero_more : (n : ℕ) → n ≡ n + 0
    zero_more n = omega arith

-- ---- where none waits, all is durable

none_turned : (keys : List Key) → [] ≡ reverse keys → keys ≡ []
none_turned keys is = sym (reverse-reverse keys) ∙ ap (λ (ks : List Key). reverse ks) (sym is)

none_sealed : (o : Option Entry) → None ≡ sealed_numbers o → o ≡ None
none_sealed None is = refl
none_sealed (Some e) is = absurd (cc)

no_stage : (g : Stage) (e : Entry) → if_sealed g e ≡ None → g ≡ Nothing
no_stage Nothing e is = refl
no_stage Fixed e is = absurd (cc)
no_stage Ready e is = absurd (cc)
no_stage Sent e is = absurd (cc)
no_stage Safe e is = absurd (cc)

all_through : (n count sealed durable : ℕ) → n ≤ count → count ≤ sealed → sealed ≤ durable
    → n ≤ durable
all_through n count sealed durable a b c = omega (arith, a, b, c)

module _ {C B : Type 0} (cache_facts : C → DiskFacts) (backing_facts : B → DiskFacts) where
  abbrev seen : View cache_facts backing_facts → World
  seen v = world cache_facts backing_facts v

  pub none_done : (v : View cache_facts backing_facts) → IsCoreSeat cache_facts backing_facts v
      → HasDone cache_facts backing_facts [] v v
  none_done v seat = done_one cache_facts backing_facts None v v
      (did_nothing cache_facts backing_facts v seat)

  module _ (v : View cache_facts backing_facts) (seat : IsCoreSeat cache_facts backing_facts v)
      (j : Journal) (stands : IsJournal j (seen v)) where
    pub none_owed : j.sealed ≡ None → j.waiting ≡ [] → (n : Origin → ℕ)
        → FromEach (seen v) (HaveComeIn n) → FromEach (seen v) (AreDurable n)
    none_owed none empty_ n come o is course =
        let st = replay o (seen v).log in
        let on = stands.stands o is course in
        let x = journal_share st.machine in
        let stage = no_stage (stage_in st) st.machine.whole.parts.records.entry
        (none_sealed x.entries.sealed (sym none ∙ on.sealed)) in
        let idle : (books_of st.machine).journal.waiting ≡ false =
        waits_course o is.sound (seen v).log course
        ∙ ap is_sealed (nothing_course o is.sound (seen v).log course stage) in
        let all = on.all_wait (none_turned x.entries.waiting (sym empty_ ∙ on.waiting)) in
        all_through (n o) x.counts.count x.counts.journal.sealed x.counts.journal.durable
        (come o is course) all ((turn_replay o (seen v).log).settled idle)

    -- it stands for what the seat sees
    pub stood_here : StoodBehind cache_facts backing_facts v j
    stood_here = record {
      at = v;
      before = [];
      went = none_done v seat;
      stands = stands;
    }

  -- ---- what was done

  pub as_waited : (v w : View cache_facts backing_facts) → Waited (m cache_facts backing_facts) v w
      → HasDone cache_facts backing_facts [] v w
  as_waited v w h = waited (m cache_facts backing_facts) v w h

  -- a part was taken and is in hand
  pub taken_done : (t u v : View cache_facts backing_facts)
      → Waited (m cache_facts backing_facts) t u → Waited (m cache_facts backing_facts) u v
      → HasDone cache_facts backing_facts [] t v
  taken_done t u v first then =
      done_both cache_facts backing_facts [] [] t u v (as_waited t u first) (as_waited u v then)

  done_around : (ds : List Deed) (t u v w : View cache_facts backing_facts)
      → HasDone cache_facts backing_facts [] t u → HasDone cache_facts backing_facts ds u v
      → HasDone cache_facts backing_facts [] v w → HasDone cache_facts backing_facts ds t w
  done_around ds t u v w a b c = subst (λ (l : List Deed).
      HasDone cache_facts backing_facts l t w) (append-nil ds)
      (done_both cache_facts backing_facts ds [] t v w
      (done_both cache_facts backing_facts [] ds t u v a b) c)

  pub synced_none : (v : View cache_facts backing_facts)
      → IsCoreSeat cache_facts backing_facts v → HasSynced cache_facts backing_facts v v
  synced_none v seat =
      record { deeds = []; are = inl refl; stood = tt; done = none_done v seat }

  pub synced_put : (j : Journal) (v w : View cache_facts backing_facts)
      → IsCoreSeat cache_facts backing_facts v → IsJournal j (seen v) → j.waiting ≢ []
      → HasPut cache_facts backing_facts j v w → HasSynced cache_facts backing_facts v w
  synced_put j v w seat stands waits put = record {
    deeds = put.deeds;
    are = inr (record {
      journal = j;
      waits = waits;
      sealed = put.sealed;
      behind = put.behind;
      entry = put.entry;
      put = put.put;
    });
    stood = stood_here v seat j stands;
    done = put.done;
  }

  pub refused_none : (sectors : ℕ) (e : FlushError) (v : View cache_facts backing_facts)
      → IsCoreSeat cache_facts backing_facts v → (cut : IsSyncCut sectors e [])
      → OfCut sectors e [] cut (StoodBehind cache_facts backing_facts v) → IsHaltOf e v.seen
      → HasNotSynced cache_facts backing_facts sectors e v v
  refused_none sectors e v seat cut stood halt = record {
    deeds = [];
    cut = cut;
    stood = stood;
    halt = halt;
    done = none_done v seat;
  }

  none_cut : (j : Journal) (ds : List Deed) → IsCut step.Memory j ds → ds ≡ []
  none_cut j ds (inl none) = none.1
  none_cut j ds (inr at) = absurd at.cut

  pub refused_put : (sectors : ℕ) (e : StepError) (j : Journal)
      (v w : View cache_facts backing_facts) → IsCoreSeat cache_facts backing_facts v
      → IsJournal j (seen v) → HasCut cache_facts backing_facts e j v w
      → IsCause e w.seen
      → HasNotSynced cache_facts backing_facts sectors (refusal e) v w
  refused_put sectors (step.Fault device) j v w seat stands cut cause = record {
    deeds = cut.deeds;
    cut = (j, cut.cut);
    stood = stood_here v seat j stands;
    halt = tt;
    done = cut.done;
  }
  refused_put sectors (step.Halted device) j v w seat stands cut cause = record {
    deeds = cut.deeds;
    cut = (j, cut.cut);
    stood = stood_here v seat j stands;
    halt = cause;
    done = cut.done;
  }
  refused_put sectors step.Memory j v w seat stands cut cause = record {
    deeds = cut.deeds;
    cut = none_cut j cut.deeds cut.cut;
    stood = tt;
    halt = tt;
    done = cut.done;
  }

  -- ---- what stood behind some deeds more

  pub stood_on : (ds : List Deed) (t u : View cache_facts backing_facts)
      → HasDone cache_facts backing_facts ds t u → (j : Journal)
      → StoodBehind cache_facts backing_facts u j → StoodBehind cache_facts backing_facts t j
  stood_on ds t u first j h = record {
    at = h.at;
    before = ds ++ h.before;
    went = done_both cache_facts backing_facts ds h.before t u h.at first h.went;
    stands = h.stands;
  }

  pub entry_on : (ds : List Deed) (t u : View cache_facts backing_facts)
      → HasDone cache_facts backing_facts ds t u → (es : List Deed) (are : AreSynced es)
      → OfEntry es are (StoodBehind cache_facts backing_facts u)
      → OfEntry es are (StoodBehind cache_facts backing_facts t)
  entry_on ds t u first es (inl none) h = tt
  entry_on ds t u first es (inr entry) h = stood_on ds t u first entry.journal h

  pub cut_on : (ds : List Deed) (t u : View cache_facts backing_facts)
      → HasDone cache_facts backing_facts ds t u → (sectors : ℕ) (e : FlushError)
      (es : List Deed) (cut : IsSyncCut sectors e es)
      → OfCut sectors e es cut (StoodBehind cache_facts backing_facts u)
      → OfCut sectors e es cut (StoodBehind cache_facts backing_facts t)
  cut_on ds t u first sectors (flush.Fault device) es cut h = stood_on ds t u first cut.0 h
  cut_on ds t u first sectors (flush.Halted device) es cut h = stood_on ds t u first cut.0 h
  cut_on ds t u first sectors flush.Memory es cut h = tt
  cut_on ds t u first sectors flush.Outside es cut h = tt

  -- ---- between taking a part and giving it back

  module _ (t u v w : View cache_facts backing_facts)
      (first : HasDone cache_facts backing_facts [] t u)
      (last : HasDone cache_facts backing_facts [] v w) where
    pub synced_around : {A E : Type 0} (r : Result A E)
        → OnOk r (HasSynced cache_facts backing_facts u v)
        → OnOk r (HasSynced cache_facts backing_facts t w)
    synced_around (Ok a) h = record {
      deeds = h.deeds;
      are = h.are;
      stood = entry_on [] t u first h.deeds h.are h.stood;
      done = done_around h.deeds t u v w first h.done last;
    }
    synced_around (Err e) h = tt

    pub durable_around : {A E : Type 0} (r : Result A E)
        → OnOk r ((n : Origin → ℕ) → FromEach (seen u) (HaveComeIn n)
        → FromEach (seen v) (AreDurable n))
        → OnOk r ((n : Origin → ℕ) → FromEach (seen t) (HaveComeIn n)
        → FromEach (seen w) (AreDurable n))
    durable_around (Ok a) h = λ n come. lasts_done cache_facts backing_facts (AreDurable n)
        (durable_lasts n) [] v w last (h n (lasts_done cache_facts backing_facts (HaveComeIn n)
        (come_lasts n) [] t u first come))
    durable_around (Err e) h = tt

    pub refused_around : {A : Type 0} (sectors : ℕ) (r : Result A FlushError) → w.seen ≡ v.seen
        → IfErr r (λ e. HasNotSynced cache_facts backing_facts sectors e u v)
        → IfErr r (λ e. HasNotSynced cache_facts backing_facts sectors e t w)
    refused_around sectors (Ok a) same h = tt
    refused_around sectors (Err e) same h = record {
      deeds = h.deeds;
      cut = h.cut;
      stood = cut_on [] t u first sectors e h.deeds h.cut h.stood;
      halt = subst (IsHaltOf e) (sym same) h.halt;
      done = done_around h.deeds t u v w first h.done last;
    }
