use Rattle.std.proofs.Common.{◌≡◌, ℕ, ◌<◌, List, [], ◌∷◌, ◌++◌, None, sym, subst, ◌∙◌, arith}
use Rattle.bc_flight.specs.declared.claim.Claim.{Claim}
use Rattle.bc_flight.specs.Flight.{claim_of}
use Rattle.bc_flight.proofs.Ordered.{claim_of_old}
use Rattle.bc_containers_bench.proofs.claims.claim_one.Goals as goal

-- another seat has no claim still
kept : (cs ds : List Claim) (x : Claim) (k : ℕ) → ds ≡ cs ++ x ∷ [] → x.seat < k → claim_of k cs ≡ None → claim_of k ds ≡ None
kept cs ds x k e above none = subst (λ (ys : List Claim). claim_of k ys ≡ None) (sym e) (claim_of_old k cs x (λ same. omega arith) ∙ none)

pub returns-in-Some-clause-others : goal.returns-in-Some-clause-others
returns-in-Some-clause-others c = λ k above none. kept _ _ _ k c.in-Some.ensures.claimed above none
