use Rattle.std.proofs.Common.{◌≡◌, take}
use Rattle.std.specs.Prelude.{All}
use Rattle.bc_jset.specs.Entries.{FoundEntry}
use Rattle.bc_plain_pair.proofs.ring.stands_at.Given as goal

abbrev pub invariant-loop-entry : goal.invariant-loop-entry
invariant-loop-entry l = All (λ (e : FoundEntry). e.place ≡ l.place → ⊥) (take l.entry-index l.entries)
