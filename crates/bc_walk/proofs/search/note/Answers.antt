use Rattle.std.proofs.Common.{inr}
use Rattle.bc_walk.specs.declared.visit.Visit.TheVariants as visits
use Rattle.bc_walk.proofs.Flags.{flags_past, flags_met, met_again, is_new}
use Rattle.bc_walk.proofs.search.note.Goals as goal

pub returns-in_default-clause-flags : goal.returns-in_default-clause-flags
returns-in_default-clause-flags c =
    flags_past c.args.g.now c.args.visits.now.items c.push.new.self.items (visits.Barred c.args.key.now) c.args.taken.now c.in_ok-push.ensures.items (λ b none. none) c.requires

pub returns-then-taken-bucket-clause-flags : goal.returns-then-taken-bucket-clause-flags
returns-then-taken-bucket-clause-flags c =
    flags_past c.args.g.now c.args.visits.now.items c.push-then-taken-bucket.new.self.items (visits.Again c.args.key.now) c.args.taken.now c.in_ok-push-2.ensures.items (λ b none. none) c.requires

pub returns-then-taken-bucket-clause-noted : goal.returns-then-taken-bucket-clause-noted
returns-then-taken-bucket-clause-noted c =
    inr (met_again c.args.g.now c.args.visits.now.items c.args.key.now c.in-Some.bucket c.args.taken.now _ c.requires c.in-Some.ensures c.if-taken-bucket.true, c.in_ok-push-2.ensures.items)

pub returns-clause-flags : goal.returns-clause-flags
returns-clause-flags c =
    flags_met c.args.g.now c.args.visits.now.items c.push-2.new.self.items c.args.level c.args.from c.args.key.now c.in-Some.bucket c.args.taken.now c.in_ok-push-3.ensures.items c.in-Some.ensures c.requires

pub returns-clause-noted : goal.returns-clause-noted
returns-clause-noted c =
    (is_new c.args.g.now c.args.visits.now.items c.args.key.now c.in-Some.bucket c.args.taken.now _ c.requires c.in-Some.ensures c.if-taken-bucket.false, c.in_ok-push-3.ensures.items)
