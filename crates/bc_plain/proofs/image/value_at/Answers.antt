use Rattle.std.proofs.Common.{◌-◌, sym, arith}
use Rattle.bc_model.proofs.Runs.{at_miss}
use Rattle.bc_plain.proofs.Images.{at_run-slice_get}
use Rattle.bc_plain.proofs.image.value_at.Goals as goal
use Rattle.bc_plain.proofs.image.value_at.Goals.{then-sector-first-via-then-sector-first, then-sector-first-via-else-sector-first+then-sector-first-2}

pub returns-then-sector-first : goal.returns-then-sector-first
returns-then-sector-first c =
    sym (at_miss c.args.first c.args.values.now c.args.sector (λ inside. elim c.then-sector-first.branch [ then-sector-first-via-then-sector-first w ↦ omega arith | then-sector-first-via-else-sector-first+then-sector-first-2 w ↦ omega arith ]))

pub returns : goal.returns
returns c = sym (at_run-slice_get c.args.first (c.args.sector - c.from-first.result) c.args.sector c.args.values.now c.get.result (omega arith) c.get.ensures)
