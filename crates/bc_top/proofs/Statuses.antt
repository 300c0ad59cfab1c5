-- What the status of a run tells.
use Rattle.std.proofs.Common.{◌≡◌, ◌⊎◌, inl, inr, ℕ, suc, Bool, true, false, ◌||◌, List, [], ◌∷◌, ◌++◌, Option, Some, None, refl, sym, ap, ◌∙◌, subst}
use Rattle.std.specs.Prelude.{All, Result, Ok, Err, MatchResult, OnOk, IfErr, is_some}
use Rattle.std.specs.List.{list_any}
use Rattle.std.specs.Result.{is_err}
use Rattle.bc_disk.specs.Device.{HasRisen, next_count}
use Rattle.bc_disk.specs.Disk.{DiskFacts}
use Rattle.bc_disk.specs.Stream.{StreamFacts}
use Rattle.bc_model.specs.declared.history.Entry.{Entry}
use Rattle.bc_book.specs.declared.pass.Pass.{Pass}
use Rattle.bc_events.specs.declared.event.Event.{Event}
use Rattle.bc_session_laws.specs.bc_machine.declared.part.BackingPart.{BackingPart}
use Rattle.bc_script.specs.declared.line.Action.{Action}
use Rattle.bc_script.specs.declared.line.Action.TheVariants.{Write, ForcedWrite, Read, Flush, Round}
use Rattle.bc_script.specs.declared.line.Line.{Line}
use Rattle.bc_script.specs.declared.line.Line.TheVariants as line
use Rattle.bc_script.specs.Proper.{IsLine}
use Rattle.bc_script.proofs.Marks.{of_first, one_by_one}
use Rattle.bc_sound_reads.specs.bc_serve.Run.{AreServedBy, HasRun}
use Rattle.bc_script.specs.declared.answer.Answer.{Answer}
use Rattle.bc_script.specs.declared.answer.Answer.TheVariants.{Silent, Done, Runs, Refused}
use Rattle.bc_script.specs.declared.answer.Refusal.TheVariants as refusal
use Rattle.bc_script.specs.Expected.{IsAsked, IsAnswered, AllAnswered}
use Rattle.bc_script.specs.Served.{ServesAction, ServesLine, ServedFrom, Served}
use Rattle.bc_output.specs.declared.answers.Printed.{Printed}
use Rattle.bc_output.specs.declared.put.WriteFault.{WriteFault}
use Rattle.bc_output.specs.declared.put.WriteFault.TheVariants.{Failed, TookNothing}
use Rattle.bc_output.specs.Lines.{AreLines, StandForAll, IsCut}
use Rattle.bc_output.specs.declared.message.Message.{Message}
use Rattle.bc_output.specs.declared.status.Status.{Status}
use Rattle.bc_output.specs.declared.status.Status.TheVariants as statuses
use Rattle.bc_output.specs.Put.{Takes, IsWriteFault}
use Rattle.bc_output.proofs.Taken.{took_nothing}
use Rattle.bc_output.proofs.Standing.{all_whole}
use Rattle.bc_top.specs.Ended.{says_fault, says_memory, says_node, has_failed, status_of_end, message_of_closing, message_of_end, ArePut, IsPutBehind, IsEnd, IsDone, HasStopped}
use Rattle.bc_sound_reads.specs.bc_serve.declared.closing.Closing.{Closing}
use Rattle.bc_sound_reads.specs.bc_serve.declared.closing.Closing.TheVariants as closing
use Rattle.bc_sound_reads.proofs.of_bc_serve.Counted.{run_rises}
use Rattle.bc_sound_reads.proofs.of_bc_serve.Failing.{failed_in, failed_left, next_rises}
use Rattle.bc_top.proofs.Raising.{said_failed, closed_failed}

-- no run ends with another status than these
abbrev pub IsEndStatus : Status → Type 0
IsEndStatus n = (n ≡ statuses.Done) ⊎ (n ≡ statuses.Device) ⊎ (n ≡ statuses.Sink)
    ⊎ (n ≡ statuses.Memory) ⊎ (n ≡ statuses.Image)

end_status : (fault : Bool) (how : Closing) (unsound memory cut : Bool)
    → IsEndStatus (status_of_end fault how unsound memory cut)
end_status true how unsound memory cut = inr (inl refl)
end_status false (closing.Failed d) unsound memory cut = inr (inl refl)
end_status false (closing.Halted d) unsound memory cut = inr (inl refl)
end_status false closing.Memory true memory cut = inr (inr (inr (inr refl)))
end_status false closing.Memory false true cut = inr (inr (inr (inl refl)))
end_status false closing.Memory false false cut = inr (inr (inr (inl refl)))
end_status false closing.Done true memory cut = inr (inr (inr (inr refl)))
end_status false closing.Done false true cut = inr (inr (inr (inl refl)))
end_status false closing.Done false false true = inr (inr (inl refl))
end_status false closing.Done false false false = inl refl

six : (fault : Bool) (how : Closing) (unsound memory cut : Bool)
    → status_of_end fault how unsound memory cut ≡ statuses.Device
    → (fault ≡ true) ⊎ (has_failed how ≡ true)
six true how unsound memory cut is = inl refl
six false (closing.Failed d) unsound memory cut is = inr refl
six false (closing.Halted d) unsound memory cut is = inr refl
six false closing.Memory true memory cut is = absurd (cc)
six false closing.Memory false true cut is = absurd (cc)
six false closing.Memory false false cut is = absurd (cc)
six false closing.Done true memory cut is = absurd (cc)
six false closing.Done false true cut is = absurd (cc)
six false closing.Done false false true is = absurd (cc)
six false closing.Done false false false is = absurd (cc)

eight : (fault : Bool) (how : Closing) (unsound memory cut : Bool)
    → status_of_end fault how unsound memory cut ≡ statuses.Sink → cut ≡ true
eight true how unsound memory cut is = absurd (cc)
eight false (closing.Failed d) unsound memory cut is = absurd (cc)
eight false (closing.Halted d) unsound memory cut is = absurd (cc)
eight false closing.Memory true memory cut is = absurd (cc)
eight false closing.Memory false true cut is = absurd (cc)
eight false closing.Memory false false cut is = absurd (cc)
eight false closing.Done true memory cut is = absurd (cc)
eight false closing.Done false true cut is = absurd (cc)
eight false closing.Done false false true is = refl
eight false closing.Done false false false is = absurd (cc)

five : (fault : Bool) (how : Closing) (unsound memory cut : Bool)
    → status_of_end fault how unsound memory cut ≡ statuses.Image → unsound ≡ true
five true how unsound memory cut is = absurd (cc)
five false (closing.Failed d) unsound memory cut is = absurd (cc)
five false (closing.Halted d) unsound memory cut is = absurd (cc)
five false closing.Memory true memory cut is = refl
five false closing.Memory false true cut is = absurd (cc)
five false closing.Memory false false cut is = absurd (cc)
five false closing.Done true memory cut is = refl
five false closing.Done false true cut is = absurd (cc)
five false closing.Done false false true is = absurd (cc)
five false closing.Done false false false is = absurd (cc)

none : (fault : Bool) (how : Closing) (unsound memory cut : Bool)
    → status_of_end fault how unsound memory cut ≡ statuses.Done
    → (fault ≡ false) × (how ≡ closing.Done) × (memory ≡ false) × (cut ≡ false) × (unsound ≡ false)
none true how unsound memory cut is = absurd (cc)
none false (closing.Failed d) unsound memory cut is = absurd (cc)
none false (closing.Halted d) unsound memory cut is = absurd (cc)
none false closing.Memory true memory cut is = absurd (cc)
none false closing.Memory false true cut is = absurd (cc)
none false closing.Memory false false cut is = absurd (cc)
none false closing.Done true memory cut is = absurd (cc)
none false closing.Done false true cut is = absurd (cc)
none false closing.Done false false true is = absurd (cc)
none false closing.Done false false false is = (refl, refl, refl, refl, refl)

-- of buckets and the journal such a run says nothing
abbrev pub IsPlain : Answer → Type 0
IsPlain (Refused (refusal.NoBucket purpose none_len own_len)) = ⊥
IsPlain (Refused refusal.JournalEnd) = ⊥
IsPlain a = Unit {0}

abbrev pub ArePlain : List Answer → Type 0
ArePlain [] = Unit {0}
ArePlain (a ∷ others) = IsPlain a × ArePlain others

plain_one : (a : Answer) (seen : List Event) (ds : _) →
    Rattle.bc_sound_reads.specs.bc_serve.Causes.IsCaused a seen ds → IsPlain a
plain_one (Refused (refusal.NoBucket purpose none_len own_len)) seen ds h = h
plain_one (Refused refusal.JournalEnd) seen ds h = h
plain_one a seen ds h = tt

-- one over the backing device alone says nothing of nodes
no_node : (a : Answer) (seen : List Event) (ds : _) →
    Rattle.bc_sound_reads.specs.bc_serve.Causes.IsCaused a seen ds
    → says_node a ≡ false
no_node (Refused (refusal.Node bucket why)) seen ds h = absurd h
no_node (Refused (refusal.NoBucket purpose none_len own_len)) seen ds h = absurd h
no_node (Refused refusal.JournalEnd) seen ds h = absurd h
no_node (Refused refusal.OutOfRange) seen ds h = refl
no_node (Refused (refusal.Fault d)) seen ds h = refl
no_node (Refused (refusal.Halted d)) seen ds h = refl
no_node (Refused refusal.Memory) seen ds h = refl
no_node Silent seen ds h = refl
no_node Done seen ds h = refl
no_node (Runs at values) seen ds h = refl

pub no_nodes : (size i number : ℕ) (ls : List Line) (answers : List Answer)
    (before last : List Event)
    → AreServedBy size i number ls answers before last → list_any says_node answers ≡ false
no_nodes size i number [] [] before last served = refl
no_nodes size i number [] (a ∷ others) before last served = absurd served
no_nodes size i number (l ∷ ls) [] before last served = absurd served
no_nodes size i number (l ∷ ls) (a ∷ others) before last served =
    both_false (says_node a) (list_any says_node others)
    (no_node a (before ++ served.0) served.1 served.2.caused)
    (no_nodes size i (suc number) ls others (before ++ served.0) last served.3)
  where
    both_false : (a b : Bool) → a ≡ false → b ≡ false → (a || b) ≡ false
    both_false true b one two = absurd (cc)
    both_false false b one two = two

pub all_plain : (size i number : ℕ) (ls : List Line) (answers : List Answer)
    (before last : List Event)
    → AreServedBy size i number ls answers before last → ArePlain answers
all_plain size i number [] [] before last served = tt
all_plain size i number [] (a ∷ others) before last served = absurd served
all_plain size i number (l ∷ ls) [] before last served = tt
all_plain size i number (l ∷ ls) (a ∷ others) before last served = (
  plain_one a (before ++ served.0) served.1 served.2.caused,
  all_plain size i (suc number) ls others (before ++ served.0) last served.3,
)

-- a request that says neither fault nor memory nor node was answered as it should be
asked : (size worker number : ℕ) (action : Action) (answer : Answer) (own : List Entry)
    → ServesAction size worker number action answer own → IsPlain answer → says_fault answer ≡ false
    → says_memory answer ≡ false → says_node answer ≡ false → IsAsked size action answer
asked size worker number (ForcedWrite first count stamp) Silent own serves why f m n = absurd serves
asked size worker number (ForcedWrite first count stamp) Done own serves why f m n = inl
    (serves.0, refl)
asked size worker number (ForcedWrite first count stamp) (Runs at values) own serves why f m n =
    absurd serves
asked size worker number (ForcedWrite first count stamp) (Refused refusal.OutOfRange) own serves why
    f m n =
    inr (serves.0, refl)
asked size worker number (Write first count stamp) Silent own serves why f m n = absurd serves
asked size worker number (Write first count stamp) Done own serves why f m n = inl (serves.0, refl)
asked size worker number (Write first count stamp) (Runs at values) own serves why f m n = absurd
    serves
asked size worker number (Write first count stamp) (Refused refusal.OutOfRange) own serves why f m n
    = inr (serves.0, refl)
asked size worker number (Read first count) Silent own serves why f m n = absurd serves
asked size worker number (Read first count) Done own serves why f m n = absurd serves
asked size worker number (Read first count) (Runs at values) own serves why f m n = inl
    (serves.0, (values, ap (λ k. Runs k values) serves.1))
asked size worker number (Read first count) (Refused refusal.OutOfRange) own serves why f m n = inr
    (serves.0, refl)
asked size worker number Flush Silent own serves why f m n = absurd serves
asked size worker number Flush Done own serves why f m n = refl
asked size worker number Flush (Runs at values) own serves why f m n = absurd serves
asked size worker number Flush (Refused refusal.OutOfRange) own serves why f m n = absurd serves
asked size worker number (Round round) Silent own serves why f m n = absurd serves
asked size worker number (Round round) Done own serves why f m n = refl
asked size worker number (Round round) (Runs at values) own serves why f m n = absurd serves
asked size worker number (Round round) (Refused refusal.OutOfRange) own serves why f m n = absurd
    (serves.1 tt)
asked size worker number action (Refused (refusal.NoBucket purpose none_len own_len)) own serves why
    f m n = absurd why
asked size worker number action (Refused refusal.JournalEnd) own serves why f m n = absurd why
asked size worker number action (Refused (refusal.Node bucket number')) own serves why f m n =
    absurd (cc)
asked size worker number action (Refused (refusal.Fault d)) own serves why f m n = absurd (cc)
asked size worker number action (Refused (refusal.Halted d)) own serves why f m n = absurd (cc)
asked size worker number action (Refused refusal.Memory) own serves why f m n = absurd (cc)

-- so was a line
answered : (size number : ℕ) (l : Line) (answer : Answer) (own : List Entry)
    → ServesLine size number l answer own → IsPlain answer → says_fault answer ≡ false → says_memory
    answer ≡ false → says_node answer ≡ false → IsAnswered size l answer
answered size number line.Silent answer own serves why f m n = serves.0
answered size number (line.Request worker phase action) answer own serves why f m n =
    asked size worker number action answer own serves why f m n

neither : (a b : Bool) → (a || b) ≡ false → (a ≡ false) × (b ≡ false)
neither true b is = absurd (cc)
neither false b is = (refl, is)

all_answered : (size number : ℕ) (lines : List Line) (answers : List Answer) (history : List Entry)
    → ServedFrom size number lines answers history → ArePlain answers
    → list_any says_fault answers ≡ false → list_any says_memory answers ≡ false
    → list_any says_node answers ≡ false → AllAnswered size lines answers
all_answered size number [] [] history served why f m n = tt
all_answered size number [] (a ∷ others) history served why f m n = absurd served
all_answered size number (l ∷ ls) [] history served why f m n = absurd served
all_answered size number (l ∷ ls) (a ∷ others) history served why f m n =
    let fs = neither (says_fault a) (list_any says_fault others) f in
    let ms = neither (says_memory a) (list_any says_memory others) m in
    let ns = neither (says_node a) (list_any says_node others) n in (
      answered size number l a served.0 served.3 why.0 fs.0 ms.0 ns.0,
      all_answered size (suc number) ls others served.1 served.4 why.1 fs.1 ms.1 ns.1,
    )

pub of_lines : {C B : Type 0} (cache_facts : C → DiskFacts) (backing_facts : B → DiskFacts)
    (backing left : BackingPart B) (lines others : List Line) (answers : List Answer)
    (how : Closing)
    (events : List Event) (pass : Pass) → lines ≡ others
    → HasRun cache_facts backing_facts backing left lines answers how events pass
    → HasRun cache_facts backing_facts backing left others answers how events pass
of_lines cache_facts backing_facts backing left lines others answers how events pass is run =
    subst (λ (ls : List Line). HasRun cache_facts backing_facts backing left ls answers how events
    pass) is run

-- the sink behind whole lines, where no message follows
none_behind : (put : Result (Unit {0}) WriteFault) (old new : StreamFacts) → IsPutBehind put None
    old new → new ≡ old
none_behind (Ok u) old new h = h
none_behind (Err cause) old new h = h

-- a sink that failed to take a text
pub fault_stops : (cause : WriteFault) (text : List ℕ) (old new : StreamFacts) → IsWriteFault cause
    text old new → HasStopped old new
fault_stops Failed text old new fault =
    let last = fault.last in
    inl (subst (HasRisen old.faults) (ap (λ n. next_count n) (sym last.1.faults) ∙ sym last.2.1.1)
    (next_rises old.faults))
fault_stops TookNothing text old new fault =
    let last = fault.last in
    inr (subst (HasRisen old.stops) (ap (λ n. next_count n) (sym last.1.stops) ∙ sym
    (took_nothing fault.rest last.0.stops fault.unfinished) ∙ sym last.2.3)
    (next_rises old.stops))

-- and so one that took some text before
later_stops : (text : List ℕ) (old between new : StreamFacts) → Takes text old between → HasStopped
    between new → HasStopped old new
later_stops text old between new taken (inl rose) = inl
    (subst (λ n. HasRisen n new.faults) taken.faults rose)
later_stops text old between new taken (inr rose) = inr
    (subst (λ n. HasRisen n new.stops) taken.stops rose)

-- what a sink that cut the lines short did
cut_stops : (missed : Bool) (cause : WriteFault) (answers : List Answer) (old new : StreamFacts) →
    IsCut missed cause answers old new → HasStopped old new
cut_stops missed cause answers old new cut = later_stops cut.text old cut.between new cut.taken
    (fault_stops cause cut.line cut.between new cut.fault)

stops : (printed : Printed) (put : Result (Unit {0}) WriteFault) (answers : List Answer)
    (old between new : StreamFacts) (m : Option Message)
    → MatchResult put (λ _. (text : List ℕ) × StandForAll printed.memory_missed answers text × Takes
    text old between) (λ cause. IsCut printed.memory_missed cause answers old between)
    → IsPutBehind put m between new → is_err put ≡ true → HasStopped old new
stops printed (Ok u) answers old between new m cut behind is = absurd (cc)
stops printed (Err cause) answers old between new m cut behind is = subst (HasStopped old)
    (sym behind) (cut_stops printed.memory_missed cause answers old between cut)

-- where they were put whole, with memory for each and no message
whole : (printed : Printed) (put : Result (Unit {0}) WriteFault) (answers : List Answer)
    (old between new : StreamFacts) → printed.memory_missed ≡ false
    → MatchResult put (λ _. (text : List ℕ) × StandForAll printed.memory_missed answers text × Takes
    text old between) (λ cause. IsCut printed.memory_missed cause answers old between)
    → IsPutBehind put None between new → is_err put ≡ false → (text : List ℕ) × AreLines answers
    text × Takes text old new
whole printed (Ok u) answers old between new found put behind is = (
  put.0,
  all_whole answers put.0 (subst (λ b. StandForAll b answers put.0) found put.1),
  subst
      (Takes put.0 old) (sym behind) put.2,
)
whole printed (Err cause) answers old between new found put behind is = absurd (cc)

-- how the lines were put
pub are_put : (printed : Printed) (answers : List Answer) (old new : StreamFacts) → OnOk printed.put
    ((text : List ℕ) × StandForAll printed.memory_missed answers text × Takes text old new)
    → IfErr printed.put (λ cause. IsCut printed.memory_missed cause answers old new) → ArePut
    printed answers old new
are_put printed answers old new = by printed.put
  where
    by : (put : Result (Unit {0}) WriteFault) → OnOk put
        ((text : List ℕ) × StandForAll printed.memory_missed answers text × Takes text old new) →
        IfErr put (λ cause. IsCut printed.memory_missed cause answers old new)
        → MatchResult put (λ _. (text : List ℕ) × StandForAll printed.memory_missed answers text ×
        Takes text old new) (λ cause. IsCut printed.memory_missed cause answers old new)
    by (Ok u) ok err = ok
    by (Err cause) ok err = err

apart : {A B C D E : Type 0} → (A → ⊥) → (B → ⊥) → (C → ⊥) → (D → ⊥) → (E → ⊥)
    → A ⊎ B ⊎ C ⊎ D ⊎ E → ⊥
apart a b c d e (inl x) = a x
apart a b c d e (inr (inl x)) = b x
apart a b c d e (inr (inr (inl x))) = c x
apart a b c d e (inr (inr (inr (inl x)))) = d x
apart a b c d e (inr (inr (inr (inr x)))) = e x

none_stopped : (stopped : Option ℕ) → is_some stopped ≡ false → stopped ≡ None
none_stopped None is = refl
none_stopped (Some line) is = absurd (cc)

module _ (status : Status) (answers : List Answer) (stopped : Option ℕ) (how : Closing)
    (old new : StreamFacts) (end : IsEnd status answers stopped how old new) where
  abbrev fault : Bool
  fault = list_any says_fault answers

  abbrev unsound : Bool
  unsound = list_any says_node answers || is_some stopped

  abbrev memory : Bool
  memory = list_any says_memory answers || end.printed.memory_missed

  abbrev cut : Bool
  cut = is_err end.printed.put

  pub known : IsEndStatus status
  known = subst IsEndStatus (sym end.ends) (end_status fault how unsound memory cut)

  -- it isn't a refusal of the words, nor a failed source
  pub never_usage : status ≡ statuses.Usage → ⊥
  never_usage is = apart (λ e. let no : statuses.Done ≡ statuses.Usage = sym e ∙ is in cc)
      (λ e. let no : statuses.Device ≡ statuses.Usage = sym e ∙ is in cc)
      (λ e. let no : statuses.Sink ≡ statuses.Usage = sym e ∙ is in cc)
      (λ e. let no : statuses.Memory ≡ statuses.Usage = sym e ∙ is in cc)
      (λ e. let no : statuses.Image ≡ statuses.Usage = sym e ∙ is in cc) known

  pub never_source : status ≡ statuses.Source → ⊥
  never_source is = apart (λ e. let no : statuses.Done ≡ statuses.Source = sym e ∙ is in cc)
      (λ e. let no : statuses.Device ≡ statuses.Source = sym e ∙ is in cc)
      (λ e. let no : statuses.Sink ≡ statuses.Source = sym e ∙ is in cc)
      (λ e. let no : statuses.Memory ≡ statuses.Source = sym e ∙ is in cc)
      (λ e. let no : statuses.Image ≡ statuses.Source = sym e ∙ is in cc) known

  pub sink_stopped : status ≡ statuses.Sink → HasStopped old new
  sink_stopped is = stops end.printed end.printed.put answers old end.between new _ end.lines
      end.message
      (eight fault how unsound memory cut (sym end.ends ∙ is))

  -- with neither a failed device nor a sink that stopped, and of a sound index, all was done or
  -- memory was missed
  pub only_done : (status ≡ statuses.Device → ⊥) → (HasStopped old new → ⊥)
      → (list_any says_node answers || is_some stopped) ≡ false
      → (status ≡ statuses.Done) ⊎ (status ≡ statuses.Memory)
  only_done device takes sound = left known
    where
      left : IsEndStatus status → (status ≡ statuses.Done) ⊎ (status ≡ statuses.Memory)
      left (inl zero) = inl zero
      left (inr (inl six)) = absurd (device six)
      left (inr (inr (inl eight))) = absurd (takes (sink_stopped eight))
      left (inr (inr (inr (inl nine)))) = inr nine
      left (inr (inr (inr (inr is)))) = absurd (let said : unsound ≡ true =
          five fault how unsound memory cut (sym end.ends ∙ is) in
          let no : true ≡ false = sym said ∙ sound in cc)

  -- at status `Done` nothing of that was said
  pub all_told : status ≡ statuses.Done
      → (fault ≡ false) × (how ≡ closing.Done) × (memory ≡ false) × (cut ≡ false) ×
      (unsound ≡ false)
  all_told is = none fault how unsound memory cut (sym end.ends ∙ is)

  pub not_stopped : status ≡ statuses.Done → stopped ≡ None
  not_stopped is = none_stopped stopped
      (neither (list_any says_node answers) (is_some stopped) (all_told is).4).1

  pub done : (size : ℕ) (lines : List Line) (history : List Entry) → All IsLine lines
      → ArePlain answers → Served size lines answers history → status ≡ statuses.Done
      → IsDone size lines answers old new
  done size lines history are why served is =
      let ends = all_told is in
      let found = neither (list_any says_memory answers) end.printed.memory_missed ends.2 in
      let node = neither (list_any says_node answers) (is_some stopped) ends.4 in
      let told : Bool = list_any says_node answers || memory in
      let no_message : message_of_end stopped fault how told ≡ None =
      ap (λ (o : Option ℕ). message_of_end o fault how told) (not_stopped is)
      ∙ ap (λ (h : Closing). message_of_closing fault h told) ends.1 in
      let text = whole end.printed end.printed.put answers old end.between new found.1 end.lines
      (subst (λ (m : Option Message). IsPutBehind end.printed.put m end.between new) no_message
      end.message) ends.3 in
      record {
        answered = all_answered size 1 lines answers history
            (one_by_one size 1 lines answers history (of_first lines are) served) why ends.0 found.0
            node.0;
        text = text.0;
        are_lines = text.1;
        taken = text.2;
      }

  pub closed_whole : status ≡ statuses.Done → how ≡ closing.Done
  closed_whole is = (all_told is).1

  -- a line said fault, or the closing did
  pub failed_by : status ≡ statuses.Device → (fault ≡ true) ⊎ (has_failed how ≡ true)
  failed_by is = six fault how unsound memory cut (sym end.ends ∙ is)

  -- the device failed in this run
  pub device_failed : {C B : Type 0} (cache_facts : C → DiskFacts) (backing_facts : B → DiskFacts)
      (backing left : BackingPart B) (lines : List Line) (events : List Event) (pass : Pass)
      → HasRun cache_facts backing_facts backing left lines answers how events pass
      → status ≡ statuses.Device
      → HasRisen (backing_facts backing.disk).faults (backing_facts left.disk).faults
  device_failed cache_facts backing_facts backing left lines events pass run is =
      run_rises cache_facts backing_facts backing left lines answers how events pass run
      (failed (failed_by is))
    where
      failed : (list_any says_fault answers ≡ true) ⊎ (has_failed how ≡ true) → failed_in events ≡
          true
      failed (inl said) = subst (λ (es : List Event). failed_in es ≡ true) (sym run.closing)
          (failed_left run.seen _ (said_failed backing.size 16 1 lines answers [] run.seen
          run.by_line said))
      failed (inr closed) = closed_failed how run.last run.seen events run.closing run.closed closed
