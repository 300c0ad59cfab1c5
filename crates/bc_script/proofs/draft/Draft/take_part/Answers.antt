use Rattle.std.proofs.Common.{arith, length, ◌<◌, ◌+◌}
use Rattle.std.proofs.lemmas.Result.{err_from_is_err_and}
use Rattle.bc_script.proofs.Lines.{pushed_all}
use Rattle.bc_script.proofs.draft.Draft.take_part.Goals as goal

pub returns-in_err-check-clause-text : goal.returns-in_err-check-clause-text
returns-in_err-check-clause-text c = λ text left h.
    let p = err_from_is_err_and c.from_residual.result c.from_residual.ensures.1 in
    let some : 0 < length c.args.bytes.now + length left = grind arith in
    rw (p.1, p.2) (c.in_err-check.ensures.text text left some h)

pub returns-clause-text : goal.returns-clause-text
returns-clause-text c = λ text left h. pushed_all text _ _ _ c.args.bytes.now _ left c.requires.part c.in_ok-extend_from_slice.ensures.items h
