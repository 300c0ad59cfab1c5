use Rattle.std.proofs.Common.{subst}
use Rattle.std.specs.Prelude.{All}
use Rattle.std.proofs.lemmas.List.{take_all}
use Rattle.std.proofs.lemmas.List.Elements.{All-more}
use Rattle.bc_reader.specs.Noted.{IsUnchanged}
use Rattle.bc_reader.proofs.noted.are_unchanged.Goals as goal

pub loop-seen-preserved : goal.loop-seen-preserved
loop-seen-preserved c = All-more (IsUnchanged c.args.buckets.now) c.args.noted.now
    c.loop-seen.seen-index _ c.loop-seen-test.true c.loop-seen.invariant
    c.if-not-is_unchanged.ensures

pub returns : goal.returns
returns c = subst (All (IsUnchanged c.args.buckets.now))
    (take_all c.loop-seen.seen-index c.args.noted.now c.loop-seen-test.false) c.loop-seen.invariant
