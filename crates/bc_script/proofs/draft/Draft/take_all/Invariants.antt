use Rattle.std.proofs.Common.{◌+◌, ◌≤◌, ℕ, List, ◌++◌, length}
use Rattle.bc_script.specs.Draft.{IsDraft, IsSoFar, bytes_read}
use Rattle.bc_script.proofs.draft.Draft.take_all.Given as goal

abbrev pub invariant-loop-line : goal.invariant-loop-line
invariant-loop-line l = record {
  draft : IsDraft l.self.lines.items l.self.phase l.self.part.items;
  lines : length l.fn.self.lines.items ≤ length l.self.lines.items;
  more : bytes_read l.fn.self.lines.items l.fn.self.part.items + length l.bytes ≤ bytes_read l.self.lines.items l.self.part.items + length l.rest;
  text : (text left : List ℕ) → IsSoFar text l.fn.self.lines.items l.fn.self.phase l.fn.self.part.items (l.bytes ++ left) → IsSoFar text l.self.lines.items l.self.phase l.self.part.items (l.rest ++ left);
}

abbrev pub decreases-loop-line : goal.decreases-loop-line
decreases-loop-line l = length l.rest
