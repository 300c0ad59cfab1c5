use Rattle.std.proofs.Common.{sym, ◌∙◌, ap}
use Rattle.bc_flight.specs.Candidates.{is_wanted}
use Rattle.bc_flight.specs.declared.candidate.Candidate.{Candidate}
use Rattle.bc_flight.proofs.Waiting.{found}
use Rattle.bc_flight.proofs.candidate.place_of.Goals as goal

pub returns-then-is_wanted-clause-some : goal.returns-then-is_wanted-clause-some
returns-then-is_wanted-clause-some c =
    let is = ap (λ (x : Candidate). is_wanted c.args.wanted x) (sym c.index-items-i.is) ∙ sym c.is_wanted.ensures ∙ c.if-is_wanted.true in
    (c.loop-i-test.true, found c.args.wanted c.args.items.now c.loop-i.i c.index-items-i.result c.loop-i-test.true c.loop-i.invariant.0 is)
