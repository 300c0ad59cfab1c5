use Rattle.std.proofs.Common.{◌≡◌, ℕ, ◌<◌, [], length, get_or}
use Rattle.bc_replay.specs.Marks.{IsMarkedFor}
use Rattle.bc_replay.specs.declared.uses.Use.TheVariants as uses
use Rattle.bc_replay.proofs.uses.Table.new.Given as goal

abbrev pub invariant-loop-bucket : goal.invariant-loop-bucket
invariant-loop-bucket l = record {
  long : length l.uses.items ≡ l.bucket;
  told : (b : ℕ) → b < l.bucket → IsMarkedFor l.g [] b (get_or l.uses.items b uses.None);
}
