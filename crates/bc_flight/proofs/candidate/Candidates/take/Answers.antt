use Rattle.std.proofs.Common.{◌≡◌, ◌<◌, List, length, sym, ap, subst, arith, ◌∙◌}
use Rattle.std.specs.Prelude.{slice_get, Some}
use Rattle.std.specs.List.{remove}
use Rattle.std.proofs.lemmas.Option.{slice_get-get_or}
use Rattle.bc_flight.specs.Candidates.{AreNumbered, Waiting, without_first, first_of, key_of}
use Rattle.bc_flight.specs.declared.candidate.Candidate.{Candidate}
use Rattle.bc_flight.proofs.Waiting.{numbered_without, fewer}
use Rattle.bc_flight.proofs.candidate.Candidates.take.Goals as goal

rest : (c : goal.After-result-1) → c.remove-taken.new.self.items ≡ without_first c.args.wanted c.self.inside.items.items
rest c = c.remove-taken.ensures.items ∙ subst (λ cs. remove cs c.in-Some.place ≡ without_first c.args.wanted cs) c.deref.ensures.value (sym c.in-Some.ensures.rest)

pub invariant_of-self : goal.invariant_of-self
invariant_of-self c = (
  subst (λ (cs : List Candidate). AreNumbered 0 c.self.inside.next cs) (sym (rest c)) (numbered_without c.args.wanted 0 c.self.inside.next c.self.inside.items.items c.self.invariant.0),
  omega (arith, ap (λ (cs : List Candidate). length cs) (rest c), fewer c.args.wanted c.self.inside.items.items, c.self.invariant.1),
  omega (arith, c.self.invariant.2, c.remove-taken.ensures.capacity),
)

pub returns-clause-key : goal.returns-clause-key
returns-clause-key c =
    let inside = c.in-Some.ensures.some.0 in
    let P : List Candidate → Type 0 = λ cs. (c.in-Some.place < length cs) × (first_of c.args.wanted cs ≡ slice_get cs c.in-Some.place) in
    let there = subst P c.deref.ensures.value c.in-Some.ensures.some in
    let at = there.1 ∙ slice_get-get_or c.self.inside.items.items c.in-Some.place c.remove-taken.result there.0 in
    sym (ap key_of (subst (λ (f : Waiting). first_of c.args.wanted f.candidates ≡ Some c.remove-taken.result) c.self.view_is (at ∙ ap Some (sym c.remove-taken.ensures.value))))
