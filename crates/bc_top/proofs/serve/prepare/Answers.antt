use Rattle.std.proofs.Common.{◌∙◌, List, subst}
use Rattle.std.specs.Prelude.{All}
use Rattle.bc_sound_reads.specs.bc_cached_serve.Answered.{KeepsValues}
use Rattle.bc_script.specs.declared.line.Line.{Line}
use Rattle.bc_top.specs.Top.{AskMore}
use Rattle.bc_top.proofs.Idle.{asks_more, keeps_values}
use Rattle.bc_top.specs.Stops.{trace_stop}
use Rattle.bc_top.specs.Top.{IsServeCause}
use Rattle.bc_top.specs.declared.stop.Stop.{Stop}
use Rattle.bc_top.proofs.Completing.{unread}
use Rattle.bc_top.proofs.Judging.{turned}
use Rattle.bc_top.proofs.Settled.{open_cause}
use Rattle.bc_top.proofs.serve.prepare.Goals as goal

pub returns-in_err-script-clause-cause : goal.returns-in_err-script-clause-cause
returns-in_err-script-clause-cause g c =
    let source = g.S.Source.facts c.args.trace.now in
    let left = g.S.Source.facts c.read_trace.new.source in
    let cache = g.C.Disk.facts c.args.cache.now in
    let backing = g.B.Disk.facts c.args.backing.now in
    let e = c.in_err-script.field-0.0 in
    turned c.from_residual.result (trace_stop e)
    (λ (why : Stop). IsServeCause why source left cache cache backing backing)
    c.from_residual.ensures.1 (unread source left cache backing e c.in_err-script.ensures.cause)

pub returns-in_err-opening-clause-cause : goal.returns-in_err-opening-clause-cause
returns-in_err-opening-clause-cause g c =
    let source = g.S.Source.facts c.args.trace.now in
    let left = g.S.Source.facts c.read_trace.new.source in
    let cache = g.C.Disk.facts c.args.cache.now in
    let cache' = g.C.Disk.facts c.open.new.cache in
    let backing = g.B.Disk.facts c.args.backing.now in
    let backing' = g.B.Disk.facts c.open.new.backing in
    let why = c.in_err-opening.field-0.0 in
    turned c.from_residual-in_err-opening.result why
    (λ (why : Stop). IsServeCause why source left cache cache' backing backing')
    c.from_residual-in_err-opening.ensures.1
    (open_cause source left cache cache' backing backing'
    (c.in_ok-script.script, c.in_ok-script.ensures.trace, c.in_ok-script.ensures.whole) why
    (λ is. subst AskMore (c.deref.ensures.value ∙ c.into_lines-lines.ensures)
    (asks_more c.keep_values-keep.result c.deref.result.now (c.in_err-opening.ensures.unserved is)
    c.keep_values-keep.ensures))
    c.in_err-opening.ensures.cause)

pub returns-clause-keep : goal.returns-clause-keep
returns-clause-keep g c = λ cached. subst (λ (ls : List Line). All KeepsValues ls)
    c.deref.ensures.value
    (keeps_values c.keep_values-keep.result c.deref.result.now
    (c.in_ok-opening.ensures.served cached)
    c.keep_values-keep.ensures)
