use Rattle.std.proofs.Common.{◌∙◌}
use Rattle.std.proofs.lemmas.Result.{err_from_is_err_and}
use Rattle.bc_prio.proofs.Readings.{refused_at}
use Rattle.bc_prio.proofs.read.read_next.Goals as goal

pub returns-in_err-next-clause-refused : goal.returns-in_err-next-clause-refused
returns-in_err-next-clause-refused g c =
    let p = err_from_is_err_and c.from_residual-in_err-next.result c.from_residual-in_err-next.ensures.1 in
    rw (p.1, p.2)
    (refused_at c.args.g.now (g.D.Disk.facts c.args.disk.now) c.chain.result.now c.args.gens.now.chain c.args.part c.args.at c.from.result c.from-2.result c.read.new.into c.in_err-next.field-0.0
    c.chain.ensures c.requires.chain c.in_ok-bucket.ensures.ok.1 c.from.ensures (c.from-2.ensures ∙ c.in_ok-bucket.ensures.ok.0) (c.read.auto.into ∙ c.requires.whole) c.in_ok-read.ensures.ok c.in_err-next.ensures.refused)

pub returns-in_err-add_to_chain-clause-calls : goal.returns-in_err-add_to_chain-clause-calls
returns-in_err-add_to_chain-clause-calls g c =
    let p = err_from_is_err_and c.from_residual-in_err-add_to_chain.result c.from_residual-in_err-add_to_chain.ensures.1 in
    rw (p.1, p.2) (1, record { calls = c.in_ok-read.ensures.counted.0; faults = c.in_ok-read.ensures.counted.1 })
