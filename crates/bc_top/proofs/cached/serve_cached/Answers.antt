use Rattle.std.proofs.Common.{List, Option, ℕ, refl, subst}
use Rattle.bc_script.specs.declared.answer.Answer.{Answer}
use Rattle.bc_sound_reads.specs.bc_serve.declared.closing.Closing.{Closing}
use Rattle.bc_top.specs.Cached.{closing_of, stopped_at}
use Rattle.bc_top.specs.Ended.{IsEnd}
use Rattle.bc_top.proofs.Reading.{reported_done, reported_served}
use Rattle.bc_top.proofs.cached.serve_cached.Goals as goal

pub returns-in-Ok-clause-ran : goal.returns-in-Ok-clause-ran
returns-in-Ok-clause-ran g c =
    let o = c.in-Ok.outcome in
    let old = g.K.Sink.facts c.args.out.now in
    let new = g.K.Sink.facts c.report.new.out in
    let ends = subst (λ (l : List Answer). IsEnd c.report.result l (stopped_at o.served)
    (closing_of o.closed.result) old new) c.deref.ensures.value
    (subst (λ (h : Closing). IsEnd c.report.result c.deref.result.now (stopped_at o.served) h old
    new)
    c.closing_of-closing.ensures
    (subst (λ (x : Option ℕ). IsEnd c.report.result c.deref.result.now x c.closing_of-closing.result
    old new) c.stopped_at-stopped.ensures c.report.ensures)) in
    record {
      outcome = o;
      run = c.in-Ok.ensures.run;
      pass_is = refl;
      cache_is = refl;
      backing_is = refl;
      ends = ends;
      done = reported_done g.C.Disk.facts g.B.Disk.facts c.args.superblock.now c.args.survey.now
          c.args.cache c.args.backing c.args.lines.now o c.in-Ok.ensures.run c.requires.lines
          c.report.result old new ends;
      served = reported_served g.C.Disk.facts g.B.Disk.facts g.B.Disk.honest c.args.superblock.now
          c.args.survey.now c.args.cache c.args.backing c.args.lines.now o c.in-Ok.ensures.run
          c.requires.lines c.report.result old new ends;
    }
