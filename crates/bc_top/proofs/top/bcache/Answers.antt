use Rattle.std.proofs.Common.{◌≡◌, ◌∙◌, inl, inr, refl, sym, ap, subst}
use Rattle.std.specs.Prelude.{map, string_bytes}
use Rattle.bc_words.specs.Reading.{IsCause}
use Rattle.bc_words.specs.declared.command.Command.{Command}
use Rattle.bc_words.specs.declared.command.Command.TheVariants.{Format, Adopt, Show, Check, Serve}
use Rattle.bc_output.specs.Message.{message_text}
use Rattle.bc_top.specs.Ended.{IsPutOf}
use Rattle.bc_top.specs.Stops.{message_of, status_of}
use Rattle.bc_top.specs.Top.{Does, Says}
use Rattle.bc_top.specs.declared.stop.Stop.{Stop}
use Rattle.bc_top.specs.declared.stop.Stop.TheVariants as stop
use Rattle.bc_top.proofs.Judging.{nine_answers}
use Rattle.bc_top.proofs.Settled.{same_self}
use Rattle.bc_top.proofs.Unread.{at_error, found_is, lacks, never_read}
use Rattle.bc_top.proofs.Checking.{same_checked, checking_rises, checking_stops, checking_ends, not_usage, not_source}
use Rattle.bc_top.proofs.Pairing.{adopt_unwritten, format_unwritten, keeps_kept, printing_ends, printing_never, printing_rose, printing_stops, same_both, silent_ends, silent_never, silent_rose}
use Rattle.bc_top.proofs.top.bcache.Goals as goal

pub returns-in-Ok-Format-clause-does : goal.returns-in-Ok-Format-clause-does
returns-in-Ok-Format-clause-does g c = λ command says.
    let f = c.in-Ok-Format in
    let is : Format f.set f.cuuid f.buuid f.block f.bucket f.mode f.offset ≡ command =
    sym f.field-0-is ∙ found_is c.read_words.result f.field-0 command f.is (c.read_words.ensures.read command says.0 says.1) in
    inl (subst (λ (x : Command). Does g.C.Disk.facts g.B.Disk.facts x c.format_pair.result.status c.args.cache c.format_pair.result.cache c.args.backing c.format_pair.result.backing (g.K.Sink.facts c.args.out.now) (g.K.Sink.facts c.format_pair.new.out)) is
    (_, refl, refl, refl, refl, refl, refl, refl, c.format_pair.ensures.formatted))

pub returns-in-Err-clause-does : goal.returns-in-Err-clause-does
returns-in-Err-clause-does g c = λ command says. inr (lacks _ c.in-Err.error _ command
    (at_error (λ e. IsCause (map string_bytes c.args.words.now) e) c.read_words.result c.in-Err.error c.in-Err.is c.read_words.ensures.refused) says (c.tell.ensures.status ∙ ap (λ (s : Stop). status_of s) c.from.ensures)
    (subst (λ (s : Stop). IsPutOf (message_text (message_of s)) (g.K.Sink.facts c.args.out.now) (g.K.Sink.facts c.tell.new.out)) c.from.ensures c.tell.ensures.put))

pub returns-in-Ok-Show-clause-data : goal.returns-in-Ok-Show-clause-data
returns-in-Ok-Show-clause-data g c = λ _. keeps_kept (g.B.Disk.facts c.args.backing) (g.B.Disk.facts c.print_pair.result.backing) c.print_pair.ensures.shown.kept.1

pub returns-in-Ok-Format-clause-ends : goal.returns-in-Ok-Format-clause-ends
returns-in-Ok-Format-clause-ends g c = λ other still takes.
    let did = c.format_pair.ensures.formatted in
    inl (silent_ends (g.C.Disk.facts c.args.cache) (g.C.Disk.facts c.format_pair.result.cache) (g.B.Disk.facts c.args.backing) (g.B.Disk.facts c.format_pair.result.backing) still did.answer c.format_pair.result.status (g.K.Sink.facts c.args.out.now) (g.K.Sink.facts c.format_pair.new.out) did.faults did.ends)

pub returns-in-Ok-Adopt-clause-ends : goal.returns-in-Ok-Adopt-clause-ends
returns-in-Ok-Adopt-clause-ends g c = λ other still takes.
    let did = c.adopt_pair.ensures.adopted in
    inl (silent_ends (g.C.Disk.facts c.args.cache) (g.C.Disk.facts c.adopt_pair.result.cache) (g.B.Disk.facts c.args.backing) (g.B.Disk.facts c.adopt_pair.result.backing) still did.answer c.adopt_pair.result.status (g.K.Sink.facts c.args.out.now) (g.K.Sink.facts c.adopt_pair.new.out) did.faults did.ends)

pub returns-in-Ok-Show-clause-ends : goal.returns-in-Ok-Show-clause-ends
returns-in-Ok-Show-clause-ends g c = λ other still takes.
    let did = c.print_pair.ensures.shown in
    inl (printing_ends (g.C.Disk.facts c.args.cache) (g.C.Disk.facts c.print_pair.result.cache) (g.B.Disk.facts c.args.backing) (g.B.Disk.facts c.print_pair.result.backing) still did.answer c.print_pair.result.status (g.K.Sink.facts c.args.out.now) (g.K.Sink.facts c.print_pair.new.out) did.faults did.ends takes)

pub returns-in-Ok-Check-clause-does : goal.returns-in-Ok-Check-clause-does
returns-in-Ok-Check-clause-does g c = λ command says.
    let f = c.in-Ok-Check in
    let is : Check f.list ≡ command = sym f.field-0-is ∙ found_is c.read_words.result f.field-0 command f.is (c.read_words.ensures.read command says.0 says.1) in
    inl (subst (λ (x : Command). Does g.C.Disk.facts g.B.Disk.facts x c.print_check.result.status c.args.cache c.print_check.result.cache c.args.backing c.print_check.result.backing (g.K.Sink.facts c.args.out.now) (g.K.Sink.facts c.print_check.new.out)) is
    c.print_check.ensures.checked)

pub returns-in-Ok-Check-clause-data : goal.returns-in-Ok-Check-clause-data
returns-in-Ok-Check-clause-data g c = λ _. keeps_kept (g.B.Disk.facts c.args.backing) (g.B.Disk.facts c.print_check.result.backing) c.print_check.ensures.checked.kept.backing_kept

pub returns-in-Ok-Check-clause-usage : goal.returns-in-Ok-Check-clause-usage
returns-in-Ok-Check-clause-usage g c = λ two. (let did = c.print_check.ensures.checked in absurd (not_usage (g.C.Disk.facts c.args.cache) (g.C.Disk.facts c.print_check.result.cache) (g.B.Disk.facts c.args.backing) (g.B.Disk.facts c.print_check.result.backing) did.answer c.print_check.result.status (g.K.Sink.facts c.args.out.now) (g.K.Sink.facts c.print_check.new.out) did.cause did.faults did.ends two))

pub returns-in-Ok-Check-clause-told : goal.returns-in-Ok-Check-clause-told
returns-in-Ok-Check-clause-told g c = λ two. (let did = c.print_check.ensures.checked in absurd (not_usage (g.C.Disk.facts c.args.cache) (g.C.Disk.facts c.print_check.result.cache) (g.B.Disk.facts c.args.backing) (g.B.Disk.facts c.print_check.result.backing) did.answer c.print_check.result.status (g.K.Sink.facts c.args.out.now) (g.K.Sink.facts c.print_check.new.out) did.cause did.faults did.ends two))

pub returns-in-Ok-Check-clause-ends : goal.returns-in-Ok-Check-clause-ends
returns-in-Ok-Check-clause-ends g c = λ other still takes.
    let did = c.print_check.ensures.checked in
    elim (checking_ends (g.C.Disk.facts c.args.cache) (g.C.Disk.facts c.print_check.result.cache) (g.B.Disk.facts c.args.backing) (g.B.Disk.facts c.print_check.result.backing) did.answer c.print_check.result.status (g.K.Sink.facts c.args.out.now) (g.K.Sink.facts c.print_check.new.out) did.cause did.faults did.ends still takes) [
      | inl quiet ↦ inl quiet
      | inr five ↦ inr (five, (c.in-Ok-Check.list, subst (λ (x : Command). Says c.args.words.now x) c.in-Ok-Check.field-0-is c.in-Ok-Check.ensures.spelled))
    ]

pub returns-in-Ok-Format-clause-cause : goal.returns-in-Ok-Format-clause-cause
returns-in-Ok-Format-clause-cause g c = record {
  unwritten = λ none refused. format_unwritten g.C.Disk.facts g.B.Disk.facts c.args.cache c.format_pair.result.cache
      c.args.backing c.format_pair.result.backing c.format_pair.ensures.formatted.answer c.format_pair.result.status (g.K.Sink.facts c.args.out.now)
      (g.K.Sink.facts c.format_pair.new.out) c.format_pair.ensures.formatted.untouched c.format_pair.ensures.formatted.ends refused;
  by_device = silent_rose (g.C.Disk.facts c.args.cache) (g.C.Disk.facts c.format_pair.result.cache)
      (g.B.Disk.facts c.args.backing) (g.B.Disk.facts c.format_pair.result.backing) c.format_pair.ensures.formatted.answer c.format_pair.result.status (g.K.Sink.facts c.args.out.now)
      (g.K.Sink.facts c.format_pair.new.out) c.format_pair.ensures.formatted.faults c.format_pair.ensures.formatted.ends;
  by_source = λ is. absurd (silent_never c.format_pair.ensures.formatted.answer c.format_pair.result.status (g.K.Sink.facts c.args.out.now)
      (g.K.Sink.facts c.format_pair.new.out) c.format_pair.ensures.formatted.ends (inl is));
  by_sink = λ is. absurd (silent_never c.format_pair.ensures.formatted.answer c.format_pair.result.status (g.K.Sink.facts c.args.out.now)
      (g.K.Sink.facts c.format_pair.new.out) c.format_pair.ensures.formatted.ends (inr is));
}

pub returns-in-Ok-Format-clause-serves : goal.returns-in-Ok-Format-clause-serves
returns-in-Ok-Format-clause-serves g c = λ serves. absurd (let f = c.in-Ok-Format in
    let is : Format f.set f.cuuid f.buuid f.block f.bucket f.mode f.offset ≡ Serve serves.0 = sym f.field-0-is
    ∙ found_is c.read_words.result f.field-0 (Serve serves.0) f.is (c.read_words.ensures.read (Serve serves.0) serves.1.0 serves.1.1) in cc)

pub returns-in-Ok-Adopt-clause-cause : goal.returns-in-Ok-Adopt-clause-cause
returns-in-Ok-Adopt-clause-cause g c = record {
  unwritten = λ none refused.
      let did = c.adopt_pair.ensures.adopted in
      adopt_unwritten g.C.Disk.facts g.B.Disk.facts c.args.cache c.adopt_pair.result.cache c.args.backing c.adopt_pair.result.backing did.answer c.adopt_pair.result.status (g.K.Sink.facts c.args.out.now) (g.K.Sink.facts c.adopt_pair.new.out) did.leaves did.ends refused;
  by_device = silent_rose (g.C.Disk.facts c.args.cache) (g.C.Disk.facts c.adopt_pair.result.cache)
      (g.B.Disk.facts c.args.backing) (g.B.Disk.facts c.adopt_pair.result.backing) c.adopt_pair.ensures.adopted.answer c.adopt_pair.result.status (g.K.Sink.facts c.args.out.now)
      (g.K.Sink.facts c.adopt_pair.new.out) c.adopt_pair.ensures.adopted.faults c.adopt_pair.ensures.adopted.ends;
  by_source = λ is. absurd (silent_never c.adopt_pair.ensures.adopted.answer c.adopt_pair.result.status (g.K.Sink.facts c.args.out.now)
      (g.K.Sink.facts c.adopt_pair.new.out) c.adopt_pair.ensures.adopted.ends (inl is));
  by_sink = λ is. absurd (silent_never c.adopt_pair.ensures.adopted.answer c.adopt_pair.result.status (g.K.Sink.facts c.args.out.now)
      (g.K.Sink.facts c.adopt_pair.new.out) c.adopt_pair.ensures.adopted.ends (inr is));
}

pub returns-in-Ok-Adopt-clause-serves : goal.returns-in-Ok-Adopt-clause-serves
returns-in-Ok-Adopt-clause-serves g c = λ serves. absurd (let f = c.in-Ok-Adopt in
    let is : Adopt ≡ Serve serves.0 = sym f.field-0-is
    ∙ found_is c.read_words.result f.field-0 (Serve serves.0) f.is (c.read_words.ensures.read (Serve serves.0) serves.1.0 serves.1.1) in cc)

pub returns-in-Ok-Show-clause-cause : goal.returns-in-Ok-Show-clause-cause
returns-in-Ok-Show-clause-cause g c = record {
  unwritten = λ none refused. same_both (g.C.Disk.facts c.args.cache) (g.C.Disk.facts c.print_pair.result.cache) (g.B.Disk.facts c.args.backing) (g.B.Disk.facts c.print_pair.result.backing) c.print_pair.ensures.shown.kept;
  by_device = printing_rose (g.C.Disk.facts c.args.cache) (g.C.Disk.facts c.print_pair.result.cache)
      (g.B.Disk.facts c.args.backing) (g.B.Disk.facts c.print_pair.result.backing) c.print_pair.ensures.shown.answer c.print_pair.result.status (g.K.Sink.facts c.args.out.now)
      (g.K.Sink.facts c.print_pair.new.out) c.print_pair.ensures.shown.faults c.print_pair.ensures.shown.ends;
  by_source = λ is. absurd (printing_never c.print_pair.ensures.shown.answer c.print_pair.result.status (g.K.Sink.facts c.args.out.now)
      (g.K.Sink.facts c.print_pair.new.out) c.print_pair.ensures.shown.ends is);
  by_sink = printing_stops c.print_pair.ensures.shown.answer c.print_pair.result.status (g.K.Sink.facts c.args.out.now) (g.K.Sink.facts c.print_pair.new.out) c.print_pair.ensures.shown.ends;
}

pub returns-in-Ok-Show-clause-serves : goal.returns-in-Ok-Show-clause-serves
returns-in-Ok-Show-clause-serves g c = λ serves. absurd (let f = c.in-Ok-Show in
    let is : Show ≡ Serve serves.0 = sym f.field-0-is
    ∙ found_is c.read_words.result f.field-0 (Serve serves.0) f.is (c.read_words.ensures.read (Serve serves.0) serves.1.0 serves.1.1) in cc)

pub returns-in-Ok-Check-clause-cause : goal.returns-in-Ok-Check-clause-cause
returns-in-Ok-Check-clause-cause g c = record {
  unwritten = λ none refused. same_checked (g.C.Disk.facts c.args.cache) (g.C.Disk.facts c.print_check.result.cache) (g.B.Disk.facts c.args.backing) (g.B.Disk.facts c.print_check.result.backing) c.print_check.ensures.checked.kept;
  by_device = (let did = c.print_check.ensures.checked in checking_rises (g.C.Disk.facts c.args.cache) (g.C.Disk.facts c.print_check.result.cache) (g.B.Disk.facts c.args.backing) (g.B.Disk.facts c.print_check.result.backing) did.answer c.print_check.result.status (g.K.Sink.facts c.args.out.now) (g.K.Sink.facts c.print_check.new.out) did.cause did.faults did.ends);
  by_source = λ seven. (let did = c.print_check.ensures.checked in absurd (not_source (g.C.Disk.facts c.args.cache) (g.C.Disk.facts c.print_check.result.cache) (g.B.Disk.facts c.args.backing) (g.B.Disk.facts c.print_check.result.backing) did.answer c.print_check.result.status (g.K.Sink.facts c.args.out.now) (g.K.Sink.facts c.print_check.new.out) did.cause did.faults did.ends seven));
  by_sink = (let did = c.print_check.ensures.checked in checking_stops (g.C.Disk.facts c.args.cache) (g.C.Disk.facts c.print_check.result.cache) (g.B.Disk.facts c.args.backing) (g.B.Disk.facts c.print_check.result.backing) did.answer c.print_check.result.status (g.K.Sink.facts c.args.out.now) (g.K.Sink.facts c.print_check.new.out) did.cause did.faults did.ends);
}

pub returns-in-Ok-Check-clause-serves : goal.returns-in-Ok-Check-clause-serves
returns-in-Ok-Check-clause-serves g c = λ serves. absurd (let f = c.in-Ok-Check in
    let is : Check f.list ≡ Serve serves.0 = sym f.field-0-is
    ∙ found_is c.read_words.result f.field-0 (Serve serves.0) f.is (c.read_words.ensures.read (Serve serves.0) serves.1.0 serves.1.1) in cc)

pub returns-in-Err-clause-serves : goal.returns-in-Err-clause-serves
returns-in-Err-clause-serves g c = λ serves.
    let lacking = lacks {cache = c.args.cache} {backing = c.args.backing} _ c.in-Err.error _ (Serve serves.0)
    (at_error (λ e. IsCause (map string_bytes c.args.words.now) e) c.read_words.result c.in-Err.error c.in-Err.is c.read_words.ensures.refused) serves.1 (c.tell.ensures.status ∙ ap (λ (s : Stop). status_of s) c.from.ensures)
    (subst (λ (s : Stop). IsPutOf (message_text (message_of s)) (g.K.Sink.facts c.args.out.now) (g.K.Sink.facts c.tell.new.out)) c.from.ensures c.tell.ensures.put) in record {
      stopped = λ none. inl (stop.Memory, lacking.status_is, inl (refl, (refl, refl)), lacking.told, (same_self (g.C.Disk.facts c.args.cache), same_self (g.B.Disk.facts c.args.backing)));
      run = tt;
      complete = λ spells asks quiet still takes. inr lacking.status_is;
      judged = nine_answers _ (g.S.Source.facts c.args.trace.now) (g.S.Source.facts c.args.trace.now) (g.C.Disk.facts c.args.cache) (g.C.Disk.facts c.args.cache) (g.B.Disk.facts c.args.backing) (g.B.Disk.facts c.args.backing) c.tell.result (g.K.Sink.facts c.args.out.now) (g.K.Sink.facts c.tell.new.out) lacking.status_is;
    }

pub returns-in-Err-clause-cause : goal.returns-in-Err-clause-cause
returns-in-Err-clause-cause g c = record {
  unwritten = λ none refused. (same_self (g.C.Disk.facts c.args.cache), same_self (g.B.Disk.facts c.args.backing));
  by_device = λ is. absurd (never_read c.in-Err.error c.tell.result (c.tell.ensures.status ∙ ap (λ (s : Stop). status_of s) c.from.ensures) (inl is));
  by_source = λ is. absurd (never_read c.in-Err.error c.tell.result (c.tell.ensures.status ∙ ap (λ (s : Stop). status_of s) c.from.ensures) (inr (inl is)));
  by_sink = λ is. absurd (never_read c.in-Err.error c.tell.result (c.tell.ensures.status ∙ ap (λ (s : Stop). status_of s) c.from.ensures) (inr (inr is)));
}
