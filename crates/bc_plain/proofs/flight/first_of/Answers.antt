use Rattle.std.proofs.Common.{◌≡◌, List, Option, Some, None, drop, refl, sym, ap, ◌∙◌, arith}
use Rattle.std.proofs.lemmas.List.{drop_all}
use Rattle.std.specs.Option.{option_or}
use Rattle.bc_flight.specs.Candidates.{first_of}
use Rattle.bc_flight.specs.declared.candidate.Candidate.{Candidate}
use Rattle.bc_plain.proofs.flight.first_of.Goals as goal

or_none : (o : Option Candidate) → option_or o None ≡ o
or_none None = refl
or_none (Some x) = refl

pub returns : goal.returns
returns c = sym (or_none c.loop-candidate.first) ∙ ap (λ (cs : List Candidate). option_or c.loop-candidate.first (first_of c.args.wanted cs)) (sym (drop_all c.loop-candidate.candidate-index c.args.candidates.now c.loop-candidate-test.false)) ∙ c.loop-candidate.invariant
