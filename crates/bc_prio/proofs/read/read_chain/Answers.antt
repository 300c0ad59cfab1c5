use Rattle.std.proofs.Common.{ℕ, List, length, ap, ◌∙◌, arith}
use Rattle.std.proofs.lemmas.Result.{err_from_is_err_and}
use Rattle.bc_prio.proofs.Readings.{none_read, read_refused, read_more, read_whole, buffer_kept}
use Rattle.bc_prio.proofs.read.read_chain.Goals as goal

pub returns-in_err-gens-clause-refused : goal.returns-in_err-gens-clause-refused
returns-in_err-gens-clause-refused g c =
    let p = err_from_is_err_and c.from_residual.result c.from_residual.ensures.1 in
    rw (p.1, p.2) (none_read c.args.g.now (g.D.Disk.facts c.args.disk.now) c.args.first)

pub returns-in_err-buffer-clause-refused : goal.returns-in_err-buffer-clause-refused
returns-in_err-buffer-clause-refused g c =
    let p = err_from_is_err_and c.from_residual-in_err-buffer.result c.from_residual-in_err-buffer.ensures.1 in
    rw (p.1, p.2) (none_read c.args.g.now (g.D.Disk.facts c.args.disk.now) c.args.first)

pub returns-in_err-at-clause-refused : goal.returns-in_err-at-clause-refused
returns-in_err-at-clause-refused g c =
    let p = err_from_is_err_and c.from_residual-in_err-at.result c.from_residual-in_err-at.ensures.1 in
    rw (p.1, p.2)
    (read_refused c.args.g.now (g.D.Disk.facts c.args.disk.now) (g.D.Disk.facts c.loop-part.disk) (g.D.Disk.facts c.read_next.new.disk) c.args.first c.loop-part.gens c.loop-part.at c.loop-part.part
    c.in_err-at.field-0.0 c.loop-part.invariant.so (omega (arith, c.sets_in_chain-part-end.ensures)) c.in_err-at.ensures.refused c.in_err-at.ensures.calls)

pub loop-part-preserved : goal.loop-part-preserved
loop-part-preserved g c = record {
  so = read_more c.args.g.now (g.D.Disk.facts c.args.disk.now) (g.D.Disk.facts c.loop-part.disk) (g.D.Disk.facts c.read_next.new.disk) c.args.first c.loop-part.gens c.read_next.new.gens c.loop-part.at c.in_ok-at.at c.loop-part.part
      c.loop-part.invariant.so c.in_ok-at.ensures.ok c.in_ok-at.ensures.kept c.in_ok-at.ensures.read;
  whole = buffer_kept c.loop-part.buffer.len _ c.read_next.new.buffer c.loop-part.buffer.items c.loop-part.buffer.ok.0
      (c.read_next.auto.buffer ∙ ap (λ (xs : List ℕ). length xs) c.deref_mut.ensures.value) c.loop-part.invariant.whole;
}

pub returns-clause-ok : goal.returns-clause-ok
returns-clause-ok g c =
    read_whole c.args.g.now (g.D.Disk.facts c.args.disk.now) (g.D.Disk.facts c.loop-part.disk) c.args.first c.loop-part.gens c.loop-part.at c.loop-part.part c.loop-part.invariant.so
    (omega (arith, c.sets_in_chain-part-end.ensures))
