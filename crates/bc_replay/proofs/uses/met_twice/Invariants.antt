use Rattle.std.proofs.Common.{true, ◌<◌, ◌^◌, take}
use Rattle.std.specs.Prelude.{IfSome}
use Rattle.bc_replay.specs.Marks.{IsLeastOf}
use Rattle.bc_replay.specs.Refused.{TellTrue}
use Rattle.bc_replay.specs.Used.{IsMetTwice}
use Rattle.bc_replay.proofs.uses.met_twice.Given as goal

abbrev pub invariant-loop-visit : goal.invariant-loop-visit
invariant-loop-visit l = record {
  least : TellTrue l.g true l.seen → IsLeastOf (IsMetTwice l.g (take l.visit-index l.seen)) l.least;
  small : IfSome l.least (λ b. b < 2 ^ 32);
}
