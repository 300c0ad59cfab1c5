use Rattle.std.proofs.Common.{◌≡◌, ◌-◌, ◌≤◌, ℕ, List, ◌++◌, length}
use Rattle.bc_disk.specs.Stream.{BothToldText}
use Rattle.bc_script.specs.Draft.{IsDraft, IsSoFar, bytes_read}
use Rattle.bc_script.proofs.trace.read_trace.Given as goal

abbrev pub invariant-loop-count : goal.invariant-loop-count
invariant-loop-count g l =
    let facts = g.S.Source.facts in
    record {
      draft : IsDraft l.draft.lines.items l.draft.phase l.draft.part.items;
      count : l.taken ≤ bytes_read l.draft.lines.items l.draft.part.items;
      told : BothToldText (λ text left. (got : List ℕ) × (text ≡ got ++ left) × (length got ≡ l.taken) × IsSoFar text l.draft.lines.items l.draft.phase l.draft.part.items left) (facts l.fn.source).text (facts l.source).text;
      faults : (facts l.source).faults ≡ (facts l.fn.source).faults;
    }

abbrev pub decreases-loop-count : goal.decreases-loop-count
decreases-loop-count g l = 21233665 - l.taken
