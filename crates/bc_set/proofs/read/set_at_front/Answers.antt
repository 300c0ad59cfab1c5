use Rattle.std.proofs.Common.{inr}
use Rattle.std.proofs.lemmas.Result.{err_from_is_err_and}
use Rattle.bc_set.proofs.SetLaws.{bad_kept}
use Rattle.bc_set.proofs.read.set_at_front.Goals as goal

pub returns-in_err-header-clause-refused : goal.returns-in_err-header-clause-refused
returns-in_err-header-clause-refused c =
    let p = err_from_is_err_and c.from_residual.result c.from_residual.ensures.1 in
    rw (p.1, p.2) (inr (c.in_err-header.ensures.refused c.args.kind))

pub returns-then-not-are_of_kind-clause-refused : goal.returns-then-not-are_of_kind-clause-refused
returns-then-not-are_of_kind-clause-refused c =
    inr (c.in_ok-header.ensures.whole, bad_kept c.args.kind c.args.bytes.now c.in_ok-header.header.count c.in_ok-keys.keys c.as_slice.result.now c.in_ok-header.ensures.count c.in_ok-keys.ensures.found c.as_slice.ensures c.if-not-are_of_kind.ensures)
