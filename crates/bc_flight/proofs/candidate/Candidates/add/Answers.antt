use Rattle.std.proofs.Common.{false, ◌+◌, List, ◌<◌, length, sym, subst, arith, refl}
use Rattle.bc_flight.specs.Candidates.{AreNumbered, Waiting}
use Rattle.bc_flight.specs.declared.candidate.Candidate.{Candidate}
use Rattle.bc_flight.proofs.Waiting.{numbered_more}
use Rattle.bc_flight.proofs.candidate.Candidates.add.Goals as goal

pub invariant_of-self : goal.invariant_of-self
invariant_of-self c =
    let room = subst (λ (f : Waiting). length f.candidates < 64) (sym c.self.view_is) c.requires.room in
    let new : Candidate = record { number = c.self.inside.next; key = c.args.key; killed = false } in
    let P : List Candidate → Type 0 = λ cs. AreNumbered 0 (c.self.inside.next + 1) cs in
    let some = c.self.invariant in (
      subst P (sym c.in-Ok.ensures.items) (numbered_more 0 c.self.inside.next c.self.inside.items.items new refl c.self.invariant.0),
      omega (arith, c.in-Ok.ensures.len),
      omega (arith, c.in-Ok.ensures.capacity),
    )
