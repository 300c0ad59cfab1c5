use Rattle.std.proofs.Common.{◌≡◌, ◌||◌, inl, inr, Bool, List, [], None, true, false, sym, ap, ◌∙◌, subst, refl}
use Rattle.bc_disk.specs.Device.{HasRisen}
use Rattle.bc_disk.specs.Disk.{DiskFacts, IfTold}
use Rattle.bc_session_laws.specs.bc_machine.declared.part.BackingPart.{BackingPart}
use Rattle.bc_session_laws.specs.bc_plain_laws.Promises.{LeavesLastWrites, IsUntouched, Survives}
use Rattle.bc_script.specs.declared.answer.Answer.{Answer}
use Rattle.bc_super.specs.Super.{data_sectors}
use Rattle.bc_super.proofs.Told.{reads_before}
use Rattle.std.specs.List.{list_any}
use Rattle.bc_top.specs.Ended.{IsEnd, says_node}
use Rattle.bc_top.specs.Opened.{IsOpened, IsSameDevice}
use Rattle.bc_top.specs.Ready.{IsReady}
use Rattle.std.specs.Prelude.{All, IfSome}
use Rattle.bc_sound_reads.specs.bc_cached_serve.Answered.{KeepsValues}
use Rattle.bc_script.specs.declared.line.Line.{Line}
use Rattle.bc_top.specs.Top.{AskNothing, AskSomething}
use Rattle.bc_top.specs.declared.serve.Opening.{Opening}
use Rattle.bc_output.specs.declared.status.Status.TheVariants as statuses
use Rattle.bc_top.specs.Cached.{HasReported}
use Rattle.bc_top.proofs.Reading.{kept_caused, kept_known, kept_served}
use Rattle.bc_top.proofs.Idle.{all_rose, all_unwritten, answers, asks, asks_none, asks_nothing, not_sink, not_source, nothing_if_cached, shows}
use Rattle.bc_top.specs.declared.stop.Stop.TheVariants as stop
use Rattle.bc_top.proofs.Telling.{told_before, expected, legal_of}
use Rattle.bc_top.proofs.Statuses.{all_plain, closed_whole, device_failed, never_source, no_nodes, sink_stopped, done, of_lines, only_done}
use Rattle.bc_top.proofs.Completing.{device_rose, never_sink, only_memory, source_rose}
use Rattle.bc_top.proofs.Judging.{alone_answers, nine_answers, stopped_answers}
use Rattle.bc_top.proofs.serve.serve.Goals as goal

pub returns-in-Err-clause-serves : goal.returns-in-Err-clause-serves
returns-in-Err-clause-serves g c = record {
  stopped = λ none. inl (
    c.in-Err.stop,
    c.tell.ensures.status,
    c.in-Err.ensures.cause,
    c.tell.ensures.put,
    c.in-Err.ensures.same,
  );
  run = tt;
  complete = λ spells asks quiet still takes.
      inr (c.tell.ensures.status ∙ only_memory (g.C.Disk.facts c.args.cache)
      (g.C.Disk.facts c.prepare.new.cache) (g.B.Disk.facts c.args.backing)
      (g.B.Disk.facts c.prepare.new.backing) asks c.in-Err.ensures.same.1
      (g.S.Source.facts c.args.trace.now) (g.S.Source.facts c.prepare.new.trace) c.in-Err.stop
      spells quiet still c.in-Err.ensures.cause);
  judged = stopped_answers _ (g.C.Disk.facts c.args.cache) (g.C.Disk.facts c.prepare.new.cache)
      (g.B.Disk.facts c.args.backing) (g.B.Disk.facts c.prepare.new.backing) c.in-Err.ensures.same
      (g.S.Source.facts c.args.trace.now) (g.S.Source.facts c.prepare.new.trace) c.in-Err.stop
      c.in-Err.ensures.cause
      c.tell.result (g.K.Sink.facts c.args.out.now) (g.K.Sink.facts c.tell.new.out)
      c.tell.ensures.status c.tell.ensures.put;
}

pub returns-in-Err-clause-cause : goal.returns-in-Err-clause-cause
returns-in-Err-clause-cause g c = record {
  unwritten = λ none refused. c.in-Err.ensures.same;
  by_device = λ six.
      device_rose (g.C.Disk.facts c.args.cache) (g.C.Disk.facts c.prepare.new.cache)
      (g.B.Disk.facts c.args.backing) (g.B.Disk.facts c.prepare.new.backing)
      (g.S.Source.facts c.args.trace.now) (g.S.Source.facts c.prepare.new.trace) c.in-Err.stop
      c.in-Err.ensures.cause (sym c.tell.ensures.status ∙ six);
  by_source = λ is. source_rose (g.S.Source.facts c.args.trace.now)
      (g.S.Source.facts c.prepare.new.trace)
      (g.C.Disk.facts c.args.cache) (g.C.Disk.facts c.prepare.new.cache)
      (g.B.Disk.facts c.args.backing)
      (g.B.Disk.facts c.prepare.new.backing) c.in-Err.stop c.in-Err.ensures.cause
      (sym c.tell.ensures.status ∙ is);
  by_sink = λ is. absurd (never_sink c.in-Err.stop (sym c.tell.ensures.status ∙ is));
}

pub returns-then-ask_something-clause-serves : goal.returns-then-ask_something-clause-serves
returns-then-ask_something-clause-serves g c = kept_served g.C.Disk.facts g.B.Disk.facts
    g.B.Disk.honest
    c.in-Cached.superblock c.in-Cached.survey c.args.cache c.prepare.new.cache c.args.backing
    c.prepare.new.backing c.serve_cached.result (g.S.Source.facts c.args.trace.now)
    (g.S.Source.facts c.prepare.new.trace) (g.K.Sink.facts c.args.out.now)
    (g.K.Sink.facts c.serve_cached.new.out) c.in-Ok.prepared.lines.items c.in-Ok.ensures.lines.0
    c.in-Ok.ensures.lines.1 (
      subst AskSomething c.deref.ensures.value (asks c.ask_something.result c.deref.result.now
          c.if-ask_something.true c.ask_something.ensures),
      nothing_if_cached (All KeepsValues c.in-Ok.prepared.lines.items) c.in-Ok.prepared.opening
          c.in-Cached.superblock c.in-Cached.survey c.in-Cached.is c.in-Ok.ensures.keep,
    )
    (subst (λ (o : Opening). IsReady g.C.Disk.facts g.B.Disk.facts c.args.cache
    c.prepare.new.cache c.args.backing c.prepare.new.backing o) c.in-Cached.is
    c.in-Ok.ensures.ready)
    (subst (λ (ls : List Line). IfSome c.serve_cached.result.pass (HasReported g.C.Disk.facts
    g.B.Disk.facts c.in-Cached.superblock c.in-Cached.survey c.prepare.new.cache
    c.prepare.new.backing ls c.serve_cached.result (g.K.Sink.facts c.args.out.now)
    (g.K.Sink.facts c.serve_cached.new.out))) c.deref-then-ask_something.ensures.value
    c.serve_cached.ensures.ran) c.serve_cached.ensures.unopened c.serve_cached.ensures.left

pub returns-then-ask_something-clause-cause : goal.returns-then-ask_something-clause-cause
returns-then-ask_something-clause-cause g c = kept_caused g.C.Disk.facts g.B.Disk.facts
    g.B.Disk.honest
    c.in-Cached.superblock c.in-Cached.survey c.args.cache c.prepare.new.cache c.args.backing
    c.prepare.new.backing c.serve_cached.result (g.S.Source.facts c.args.trace.now)
    (g.S.Source.facts c.prepare.new.trace) (g.K.Sink.facts c.args.out.now)
    (g.K.Sink.facts c.serve_cached.new.out) c.in-Ok.prepared.lines.items c.in-Ok.ensures.lines.0
    c.in-Ok.ensures.lines.1 (
      subst AskSomething c.deref.ensures.value (asks c.ask_something.result c.deref.result.now
          c.if-ask_something.true c.ask_something.ensures),
      nothing_if_cached (All KeepsValues c.in-Ok.prepared.lines.items) c.in-Ok.prepared.opening
          c.in-Cached.superblock c.in-Cached.survey c.in-Cached.is c.in-Ok.ensures.keep,
    )
    (subst (λ (o : Opening). IsReady g.C.Disk.facts g.B.Disk.facts c.args.cache
    c.prepare.new.cache c.args.backing c.prepare.new.backing o) c.in-Cached.is
    c.in-Ok.ensures.ready)
    (subst (λ (ls : List Line). IfSome c.serve_cached.result.pass (HasReported g.C.Disk.facts
    g.B.Disk.facts c.in-Cached.superblock c.in-Cached.survey c.prepare.new.cache
    c.prepare.new.backing ls c.serve_cached.result (g.K.Sink.facts c.args.out.now)
    (g.K.Sink.facts c.serve_cached.new.out))) c.deref-then-ask_something.ensures.value
    c.serve_cached.ensures.ran) c.serve_cached.ensures.unopened c.serve_cached.ensures.left

pub returns-then-ask_something-clause-used : goal.returns-then-ask_something-clause-used
returns-then-ask_something-clause-used g c = kept_known g.C.Disk.facts g.B.Disk.facts
    g.B.Disk.honest
    c.in-Cached.superblock c.in-Cached.survey c.args.cache c.prepare.new.cache c.args.backing
    c.prepare.new.backing c.serve_cached.result (g.S.Source.facts c.args.trace.now)
    (g.S.Source.facts c.prepare.new.trace) (g.K.Sink.facts c.args.out.now)
    (g.K.Sink.facts c.serve_cached.new.out) c.in-Ok.prepared.lines.items c.in-Ok.ensures.lines.0
    c.in-Ok.ensures.lines.1 (
      subst AskSomething c.deref.ensures.value (asks c.ask_something.result c.deref.result.now
          c.if-ask_something.true c.ask_something.ensures),
      nothing_if_cached (All KeepsValues c.in-Ok.prepared.lines.items) c.in-Ok.prepared.opening
          c.in-Cached.superblock c.in-Cached.survey c.in-Cached.is c.in-Ok.ensures.keep,
    )
    (subst (λ (o : Opening). IsReady g.C.Disk.facts g.B.Disk.facts c.args.cache
    c.prepare.new.cache c.args.backing c.prepare.new.backing o) c.in-Cached.is
    c.in-Ok.ensures.ready)
    (subst (λ (ls : List Line). IfSome c.serve_cached.result.pass (HasReported g.C.Disk.facts
    g.B.Disk.facts c.in-Cached.superblock c.in-Cached.survey c.prepare.new.cache
    c.prepare.new.backing ls c.serve_cached.result (g.K.Sink.facts c.args.out.now)
    (g.K.Sink.facts c.serve_cached.new.out))) c.deref-then-ask_something.ensures.value
    c.serve_cached.ensures.ran) c.serve_cached.ensures.unopened c.serve_cached.ensures.left

pub returns-in-Cached-clause-serves : goal.returns-in-Cached-clause-serves
returns-in-Cached-clause-serves g c = record {
  stopped = λ none.
      let ready = subst (λ (o : Opening). IsReady g.C.Disk.facts g.B.Disk.facts c.args.cache
      c.prepare.new.cache c.args.backing c.prepare.new.backing o) c.in-Cached.is
      c.in-Ok.ensures.ready in
      let lines = c.in-Ok.prepared.lines.items in
      inr (inl (record {
        trace = (
          lines,
          c.in-Ok.ensures.lines.0,
          c.in-Ok.ensures.lines.1,
          subst AskNothing c.deref.ensures.value
              (asks_nothing c.ask_something.result c.deref.result.now c.if-ask_something.false
              c.ask_something.ensures),
        );
        superblock = c.in-Cached.superblock;
        survey = c.in-Cached.survey;
        tested_cache = c.prepare.new.cache;
        tested = c.prepare.new.backing;
        is_tested = ready;
        ends = c.open_idle-status.ensures.ends;
        shows = shows g.C.Disk.facts g.B.Disk.facts c.in-Cached.superblock c.in-Cached.survey
            c.args.cache
            c.prepare.new.cache c.open_idle-status.result.1 c.args.backing c.prepare.new.backing
            c.open_idle-status.result.2 c.open_idle-status.result.0 (g.K.Sink.facts c.args.out.now)
            (g.K.Sink.facts c.open_idle-status.new.out) ready c.open_idle-status.ensures.ends
            c.open_idle-status.ensures.left;
      }));
  run = tt;
  complete = λ spells asks quiet still takes.
      let ready = subst (λ (o : Opening). IsReady g.C.Disk.facts g.B.Disk.facts c.args.cache
      c.prepare.new.cache c.args.backing c.prepare.new.backing o) c.in-Cached.is
      c.in-Ok.ensures.ready in
      absurd (asks_none g.C.Disk.facts g.B.Disk.facts c.in-Cached.superblock c.in-Cached.survey
      c.args.cache
      c.prepare.new.cache c.open_idle-status.result.1 c.args.backing c.prepare.new.backing
      c.open_idle-status.result.2 c.open_idle-status.result.0 (g.K.Sink.facts c.args.out.now)
      (g.K.Sink.facts c.open_idle-status.new.out) ready c.open_idle-status.ensures.ends asks);
  judged = let ready = subst (λ (o : Opening). IsReady g.C.Disk.facts g.B.Disk.facts c.args.cache
      c.prepare.new.cache c.args.backing c.prepare.new.backing o) c.in-Cached.is
      c.in-Ok.ensures.ready in
      let lines = c.in-Ok.prepared.lines.items in
      answers g.C.Disk.facts g.B.Disk.facts c.in-Cached.superblock c.in-Cached.survey c.args.cache
      c.prepare.new.cache c.open_idle-status.result.1 c.args.backing c.prepare.new.backing
      c.open_idle-status.result.2 c.open_idle-status.result.0 (g.K.Sink.facts c.args.out.now)
      (g.K.Sink.facts c.open_idle-status.new.out) ready c.open_idle-status.ensures.ends _
      (g.S.Source.facts c.args.trace.now) (g.S.Source.facts c.prepare.new.trace) lines
      c.in-Ok.ensures.lines.1 (subst AskNothing c.deref.ensures.value
      (asks_nothing c.ask_something.result c.deref.result.now c.if-ask_something.false
      c.ask_something.ensures));
}

pub returns-in-Cached-clause-cause : goal.returns-in-Cached-clause-cause
returns-in-Cached-clause-cause g c = record {
  unwritten = λ none. let ready = subst (λ (o : Opening). IsReady g.C.Disk.facts g.B.Disk.facts
      c.args.cache
      c.prepare.new.cache c.args.backing c.prepare.new.backing o) c.in-Cached.is
      c.in-Ok.ensures.ready in
      all_unwritten g.C.Disk.facts g.B.Disk.facts c.in-Cached.superblock c.in-Cached.survey
      c.args.cache
      c.prepare.new.cache c.open_idle-status.result.1 c.args.backing c.prepare.new.backing
      c.open_idle-status.result.2 c.open_idle-status.result.0 (g.K.Sink.facts c.args.out.now)
      (g.K.Sink.facts c.open_idle-status.new.out) ready c.open_idle-status.ensures.ends;
  by_device = let ready = subst (λ (o : Opening). IsReady g.C.Disk.facts g.B.Disk.facts c.args.cache
      c.prepare.new.cache c.args.backing c.prepare.new.backing o) c.in-Cached.is
      c.in-Ok.ensures.ready in
      all_rose g.C.Disk.facts g.B.Disk.facts c.in-Cached.superblock c.in-Cached.survey c.args.cache
      c.prepare.new.cache c.open_idle-status.result.1 c.args.backing c.prepare.new.backing
      c.open_idle-status.result.2 c.open_idle-status.result.0 (g.K.Sink.facts c.args.out.now)
      (g.K.Sink.facts c.open_idle-status.new.out) ready c.open_idle-status.ensures.ends;
  by_source = λ is. absurd (not_source g.C.Disk.facts g.B.Disk.facts c.in-Cached.superblock
      c.in-Cached.survey
      c.prepare.new.cache c.open_idle-status.result.1 c.prepare.new.backing
      c.open_idle-status.result.2
      c.open_idle-status.result.0 (g.K.Sink.facts c.args.out.now)
      (g.K.Sink.facts c.open_idle-status.new.out)
      c.open_idle-status.ensures.ends is);
  by_sink = λ is. absurd (not_sink g.C.Disk.facts g.B.Disk.facts c.in-Cached.superblock
      c.in-Cached.survey
      c.prepare.new.cache c.open_idle-status.result.1 c.prepare.new.backing
      c.open_idle-status.result.2
      c.open_idle-status.result.0 (g.K.Sink.facts c.args.out.now)
      (g.K.Sink.facts c.open_idle-status.new.out)
      c.open_idle-status.ensures.ends is);
}

pub returns-in-Ok-run_trace-clause-serves : goal.returns-in-Ok-run_trace-clause-serves
returns-in-Ok-run_trace-clause-serves g c = record {
  stopped = λ none. absurd (let no : true ≡ false = none in cc);
  run = let ready = subst (λ (o : Opening). IsReady g.C.Disk.facts g.B.Disk.facts c.args.cache
      c.prepare.new.cache
      c.args.backing c.prepare.new.backing o) c.in-Alone.is c.in-Ok.ensures.ready in
      let outcome = c.in-Ok-run_trace.outcome in
      let run = c.in-Ok-run_trace.ensures.run in
      let d = g.B.Disk.facts c.prepare.new.backing in
      let s = c.in-Alone.superblock in
      let n = data_sectors d.sectors s in
      let end = subst (λ (l : List Answer). IsEnd c.report.result l None outcome.closing
      (g.K.Sink.facts c.args.out.now)
      (g.K.Sink.facts c.report.new.out)) c.deref-in-Ok-run_trace.ensures.value c.report.ensures in
      let size : c.data_sectors-size.result ≡ n = c.data_sectors-size.ensures
      ∙ ap (λ k. data_sectors k s) c.sectors.ensures in
      let old = g.B.Disk.facts c.args.backing in
      let is = ready.1 in
      let reads = reads_before old d is.sectors is.holds s is.reads in
      let before : c.data_sectors-size.result ≡ data_sectors old.sectors s =
      c.data_sectors-size.ensures
      ∙ ap (λ k. data_sectors k s) (c.sectors.ensures ∙ is.sectors) in
      let has = of_lines g.C.Disk.facts g.B.Disk.facts _ outcome.backing _ _ outcome.answers.items
      outcome.closing
      run.0 outcome.pass c.deref-2.ensures.value run.1 in
      inl (record {
        untouched = ready.2;
        served = record {
          opened = _;
          left = outcome.backing;
          super = s;
          lines = c.in-Ok.prepared.lines.items;
          answers = outcome.answers.items;
          how = outcome.closing;
          events = run.0;
          alone = ready.0;
          is_opened = ready.1;
          offset = refl;
          size = size;
          trace = c.in-Ok.ensures.lines.0;
          whole = c.in-Ok.ensures.lines.1;
          run = has;
          left_is = refl;
          ends = end;
          done = done c.report.result outcome.answers.items None outcome.closing
              (g.K.Sink.facts c.args.out.now)
              (g.K.Sink.facts c.report.new.out) end c.data_sectors-size.result
              c.in-Ok.prepared.lines.items outcome.pass.entries.items
              c.in-Ok.ensures.lines.0.proper (all_plain c.data_sectors-size.result 16 1
              c.in-Ok.prepared.lines.items
              outcome.answers.items _ has.seen has.by_line) has.served;
          expected = expected (g.B.Disk.facts c.args.backing).holds d.holds s.data_offset
              c.data_sectors-size.result
              c.in-Ok.prepared.lines.items outcome.answers.items outcome.pass.entries.items
              ready.1.holds
              (legal_of d.holds s.data_offset outcome.pass.entries.items
              (g.B.Disk.facts outcome.backing.disk)
              c.in-Ok-run_trace.ensures.survives) c.in-Ok.ensures.lines.0.proper has.served;
          survives = told_before old old.holds d.holds s (λ s image. Survives s.data_offset image
              outcome.pass.entries.items (g.B.Disk.facts outcome.backing.disk)) is.holds reads
              c.in-Ok-run_trace.ensures.survives;
          stable = λ zero. told_before old old.holds d.holds s
              (λ s image. LeavesLastWrites s.data_offset image
              outcome.pass.entries.items (g.B.Disk.facts outcome.backing.disk)) is.holds reads
              (c.in-Ok-run_trace.ensures.stable
              (closed_whole c.report.result c.deref-in-Ok-run_trace.result.now
              None outcome.closing (g.K.Sink.facts c.args.out.now) (g.K.Sink.facts c.report.new.out)
              c.report.ensures zero));
          spared = told_before old old.holds d.holds s (λ s image. IsUntouched s.data_offset
              (data_sectors old.sectors s) image (g.B.Disk.facts outcome.backing.disk)) is.holds
              reads
              (subst (λ n. IfTold d.holds (λ image. IsUntouched s.data_offset n image
              (g.B.Disk.facts outcome.backing.disk))) before c.in-Ok-run_trace.ensures.outside);
        };
      });
  complete = λ spells asks quiet still takes.
      let ready = subst (λ (o : Opening). IsReady g.C.Disk.facts g.B.Disk.facts c.args.cache
      c.prepare.new.cache
      c.args.backing c.prepare.new.backing o) c.in-Alone.is c.in-Ok.ensures.ready in
      only_done c.report.result c.deref-in-Ok-run_trace.result.now None
      c.in-Ok-run_trace.outcome.closing (g.K.Sink.facts c.args.out.now)
      (g.K.Sink.facts c.report.new.out) c.report.ensures (λ six.
      let outcome = c.in-Ok-run_trace.outcome in
      let run = c.in-Ok-run_trace.ensures.run in
      let end = subst (λ (l : List Answer). IsEnd c.report.result l None outcome.closing
      (g.K.Sink.facts c.args.out.now) (g.K.Sink.facts c.report.new.out))
      c.deref-in-Ok-run_trace.ensures.value c.report.ensures in
      still (subst (λ n. HasRisen n (g.B.Disk.facts outcome.backing.disk).faults) ready.1.faults
      (device_failed c.report.result outcome.answers.items None outcome.closing
      (g.K.Sink.facts c.args.out.now) (g.K.Sink.facts c.report.new.out) end
      g.C.Disk.facts g.B.Disk.facts _ outcome.backing c.deref-2.result.now run.0 outcome.pass run.1
      six))) takes
      (subst (λ (l : List Answer). (list_any says_node l || false) ≡ false)
      (sym c.deref-in-Ok-run_trace.ensures.value)
      (ap (λ (b : Bool). b || false) (no_nodes _ 16 1 _ c.in-Ok-run_trace.outcome.answers.items [] _
      c.in-Ok-run_trace.ensures.run.1.by_line)));
  judged = let ready = subst (λ (o : Opening). IsReady g.C.Disk.facts g.B.Disk.facts c.args.cache
      c.prepare.new.cache
      c.args.backing c.prepare.new.backing o) c.in-Alone.is c.in-Ok.ensures.ready in
      let old = g.B.Disk.facts c.args.backing in
      let opened = g.B.Disk.facts c.prepare.new.backing in
      let s = c.in-Alone.superblock in
      let is = ready.1 in
      alone_answers _ (g.S.Source.facts c.args.trace.now) (g.S.Source.facts c.prepare.new.trace)
      (g.C.Disk.facts c.args.cache) (g.C.Disk.facts c.prepare.new.cache) old
      (g.B.Disk.facts c.in-Ok-run_trace.outcome.backing.disk) s
      (reads_before old opened is.sectors is.holds s is.reads) ready.0
      c.report.result (g.K.Sink.facts c.args.out.now) (g.K.Sink.facts c.report.new.out);
}

pub returns-in-Ok-run_trace-clause-cause : goal.returns-in-Ok-run_trace-clause-cause
returns-in-Ok-run_trace-clause-cause g c = record {
  unwritten = λ none refused. absurd (let no : true ≡ false = none in cc);
  by_device = λ six.
      let ready = subst (λ (o : Opening). IsReady g.C.Disk.facts g.B.Disk.facts c.args.cache
      c.prepare.new.cache
      c.args.backing c.prepare.new.backing o) c.in-Alone.is c.in-Ok.ensures.ready in
      let outcome = c.in-Ok-run_trace.outcome in
      let run = c.in-Ok-run_trace.ensures.run in
      let end = subst (λ (l : List Answer). IsEnd c.report.result l None outcome.closing
      (g.K.Sink.facts c.args.out.now)
      (g.K.Sink.facts c.report.new.out)) c.deref-in-Ok-run_trace.ensures.value c.report.ensures in
      inr (subst (λ n. HasRisen n (g.B.Disk.facts outcome.backing.disk).faults) ready.1.faults
      (device_failed c.report.result outcome.answers.items None outcome.closing
      (g.K.Sink.facts c.args.out.now)
      (g.K.Sink.facts c.report.new.out) end g.C.Disk.facts g.B.Disk.facts _ outcome.backing
      c.deref-2.result.now run.0
      outcome.pass run.1 six));
  by_source = λ is. absurd (never_source c.report.result c.deref-in-Ok-run_trace.result.now None
      c.in-Ok-run_trace.outcome.closing (g.K.Sink.facts c.args.out.now)
      (g.K.Sink.facts c.report.new.out) c.report.ensures is);
  by_sink = sink_stopped c.report.result c.deref-in-Ok-run_trace.result.now None
      c.in-Ok-run_trace.outcome.closing (g.K.Sink.facts c.args.out.now)
      (g.K.Sink.facts c.report.new.out) c.report.ensures;
}

pub returns-clause-serves : goal.returns-clause-serves
returns-clause-serves g c = record {
  stopped = λ none.
      let ready = subst (λ (o : Opening). IsReady g.C.Disk.facts g.B.Disk.facts c.args.cache
      c.prepare.new.cache
      c.args.backing c.prepare.new.backing o) c.in-Alone.is c.in-Ok.ensures.ready in
      inl (
        stop.Memory,
        c.tell-in-Err-run_trace.ensures.status,
        inr (
          (c.in-Ok.prepared.lines.items, c.in-Ok.ensures.lines.0, c.in-Ok.ensures.lines.1),
          inl (
            ap (λ (d : _). (g.C.Disk.facts d).calls) ready.2,
            (
              c.in-Alone.superblock,
              ready.0,
              subst
                  (λ (d : DiskFacts). IsOpened c.in-Alone.superblock (g.B.Disk.facts c.args.backing)
                  d) (sym (ap (λ (b : BackingPart _). g.B.Disk.facts b.disk)
                  c.in-Err-run_trace.ensures.err)) ready.1,
            ),
          ),
        ),
        c.tell-in-Err-run_trace.ensures.put,
        (
          c.in-Ok.ensures.same.0,
          subst (λ (d : DiskFacts). IsSameDevice (g.B.Disk.facts c.args.backing) d)
              (sym (ap (λ (b : BackingPart _). g.B.Disk.facts b.disk)
              c.in-Err-run_trace.ensures.err)) c.in-Ok.ensures.same.1,
        ),
      );
  run = tt;
  complete = λ spells asks quiet still takes. inr c.tell-in-Err-run_trace.ensures.status;
  judged = nine_answers _ (g.S.Source.facts c.args.trace.now) (g.S.Source.facts c.prepare.new.trace)
      (g.C.Disk.facts c.args.cache) (g.C.Disk.facts c.prepare.new.cache)
      (g.B.Disk.facts c.args.backing) (g.B.Disk.facts c.in-Err-run_trace.backing.disk)
      c.tell-in-Err-run_trace.result (g.K.Sink.facts c.args.out.now)
      (g.K.Sink.facts c.tell-in-Err-run_trace.new.out) c.tell-in-Err-run_trace.ensures.status;
}

pub returns-clause-cause : goal.returns-clause-cause
returns-clause-cause g c = record {
  unwritten = λ none refused. (
    c.in-Ok.ensures.same.0,
    subst (λ (d : DiskFacts). IsSameDevice (g.B.Disk.facts c.args.backing) d)
        (sym (ap (λ (b : BackingPart _). g.B.Disk.facts b.disk) c.in-Err-run_trace.ensures.err))
        c.in-Ok.ensures.same.1,
  );
  by_device = λ is. absurd (let no : statuses.Memory ≡ statuses.Device = sym
      c.tell-in-Err-run_trace.ensures.status ∙ is in cc);
  by_source = λ is. absurd (let no : statuses.Memory ≡ statuses.Source = sym
      c.tell-in-Err-run_trace.ensures.status ∙ is in cc);
  by_sink = λ is. absurd (let no : statuses.Memory ≡ statuses.Sink = sym
      c.tell-in-Err-run_trace.ensures.status ∙ is in cc);
}
