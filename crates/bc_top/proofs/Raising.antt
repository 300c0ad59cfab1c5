-- Where an answer or the closing says that a device failed, a call among the events did.
use Rattle.std.proofs.Common.{◌≡◌, ℕ, suc, Bool, true, false, ◌||◌, List, [], ◌∷◌, ◌++◌, Some, sym, ap, ◌∙◌, subst}
use Rattle.std.specs.Prelude.{map}
use Rattle.std.specs.List.{list_any}
use Rattle.bc_events.specs.declared.event.Deed.{Deed}
use Rattle.bc_events.specs.declared.event.Event.{Event}
use Rattle.bc_session_laws.specs.bc_hand.Seats.{by}
use Rattle.bc_script.specs.declared.answer.Answer.{Answer}
use Rattle.bc_script.specs.declared.answer.Answer.TheVariants.{Silent, Done, Runs, Refused}
use Rattle.bc_script.specs.declared.answer.Refusal.TheVariants as refusal
use Rattle.bc_script.specs.declared.line.Line.{Line}
use Rattle.bc_sound_reads.specs.bc_serve.Closed.{ClosedBy}
use Rattle.bc_sound_reads.specs.bc_serve.Run.{AreServedBy, IsServedBy, events_by}
use Rattle.bc_sound_reads.specs.bc_serve.declared.closing.Closing.{Closing}
use Rattle.bc_sound_reads.specs.bc_serve.declared.closing.Closing.TheVariants as closing
use Rattle.bc_sound_reads.proofs.of_bc_serve.Failing.{failed_in, failed_left, failed_map, failed_own, failed_right, halt_failed}
use Rattle.bc_sound_reads.proofs.of_bc_serve.Lines.{extends}
use Rattle.bc_top.specs.Ended.{says_fault, has_failed}

-- an answer that says so has seen it
answer_failed : (size i number : ℕ) (l : Line) (a : Answer) (before seen : List Event)
    (ds : List Deed)
    → IsServedBy size i number l a before seen ds → says_fault a ≡ true → failed_in seen ≡ true
answer_failed size i number l Silent before seen ds served is = absurd (cc)
answer_failed size i number l Done before seen ds served is = absurd (cc)
answer_failed size i number l (Runs at values) before seen ds served is = absurd (cc)
answer_failed size i number l (Refused refusal.OutOfRange) before seen ds served is = absurd (cc)
answer_failed size i number l (Refused (refusal.NoBucket purpose none_len own_len)) before seen ds
    served is =
    absurd (cc)
answer_failed size i number l (Refused refusal.JournalEnd) before seen ds served is = absurd (cc)
answer_failed size i number l (Refused (refusal.Node bucket why)) before seen ds served is = absurd
    (cc)
answer_failed size i number l (Refused (refusal.Fault d)) before seen ds served is =
    failed_own i seen (subst (λ (es : List Event). failed_in es ≡ true) (sym served.its)
    (failed_right (events_by i before) (map (by i) ds) (failed_map i ds ∙ served.caused.1)))
answer_failed size i number l (Refused (refusal.Halted d)) before seen ds served is =
    halt_failed seen d served.caused.0
answer_failed size i number l (Refused refusal.Memory) before seen ds served is = absurd (cc)

first_or : {P : Type 0} (a b : Bool) → (a || b) ≡ true → (a ≡ true → P) → (b ≡ true → P) → P
first_or true b is here later = here Rattle.std.proofs.Common.refl
first_or false b is here later = later is

pub said_failed : (size i number : ℕ) (ls : List Line) (answers : List Answer)
    (before last : List Event)
    → AreServedBy size i number ls answers before last → list_any says_fault answers ≡ true
    → failed_in last ≡ true
said_failed size i number [] [] before last served is = absurd (cc)
said_failed size i number [] (a ∷ others) before last served is = absurd served
said_failed size i number (l ∷ ls) [] before last served is = absurd served
said_failed size i number (l ∷ ls) (a ∷ others) before last served is =
    let rest = extends size i (suc number) ls others (before ++ served.0) last served.3 in
    first_or (says_fault a) (list_any says_fault others) is
    (λ here. subst (λ (es : List Event). failed_in es ≡ true) (sym rest.1)
    (failed_left (before ++ served.0) rest.0
    (answer_failed size i number l a before (before ++ served.0) served.1 served.2 here)))
    (said_failed size i (suc number) ls others (before ++ served.0) last served.3)

-- a closing that failed or that a halt forbade, too
pub closed_failed : (how : Closing) (ds : List Deed) (before events : List Event)
    → events ≡ before ++ map (by 0) ds → ClosedBy how ds events → has_failed how ≡ true
    → failed_in events ≡ true
closed_failed closing.Done ds before events is closed said = absurd (cc)
closed_failed (closing.Failed d) ds before events is closed said =
    subst (λ (es : List Event). failed_in es ≡ true) (sym is)
    (failed_right before (map (by 0) ds) (failed_map 0 ds
    ∙ ap Rattle.bc_sound_reads.specs.bc_serve.Causes.has_failed closed.1))
closed_failed (closing.Halted d) ds before events is closed said = halt_failed events d closed.1
closed_failed closing.Memory ds before events is closed said = absurd (cc)
