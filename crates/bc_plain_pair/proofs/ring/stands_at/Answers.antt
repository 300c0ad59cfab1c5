use Rattle.std.proofs.Common.{◌≡◌}
use Rattle.bc_jset.specs.Entries.{FoundEntry}
use Rattle.bc_plain_pair.proofs.Alls.{any_here, any_more, any_none}
use Rattle.bc_plain_pair.proofs.ring.stands_at.Goals as goal

pub returns-then-entry-place : goal.returns-then-entry-place
returns-then-entry-place c = any_here (λ (e : FoundEntry). e.place ≡ c.args.place) c.args.entries.now c.loop-entry.entry-index c.entry-item.result c.loop-entry-test.true c.entry-item.is c.if-entry-place.true

pub loop-entry-preserved : goal.loop-entry-preserved
loop-entry-preserved c =
    any_more (λ (e : FoundEntry). e.place ≡ c.args.place) c.args.entries.now c.loop-entry.entry-index c.entry-item.result c.loop-entry-test.true c.entry-item.is c.if-entry-place.false c.loop-entry.invariant

pub returns : goal.returns
returns c = any_none (λ (e : FoundEntry). e.place ≡ c.args.place) c.args.entries.now c.loop-entry.entry-index c.loop-entry-test.false c.loop-entry.invariant
