use Rattle.std.proofs.Common.{◌≤◌, Some, ap, ◌∙◌, subst}
use Rattle.std.specs.Prelude.{IfSome, Option}
use Rattle.bc_cache.specs.declared.slots.Cached.{Cached}
use Rattle.bc_journal.specs.Journal.{Journal}
use Rattle.bc_cached.specs.bc_machine.declared.part.BucketsPart.{BucketsPart}
use Rattle.bc_step_rows.specs.Drop.{HasPlaceFor}
use Rattle.bc_step_rows.proofs.Dropping.{can_drop, if_both}
use Rattle.bc_step_rows.proofs.drops.can_drop.Goals as goal

pub returns : goal.returns
returns g c =
    let cached = c.in-Some-slot.cached in
    let there = c.slot.ensures ∙ ap (λ (o : Option Cached). Some o) c.in-Some-slot.is in
    let place = subst (λ (j : Journal). HasPlaceFor cached c.args.number j c.args.key.now)
    c.get.ensures c.in_ok-has_room.ensures in
    let size = subst (λ (p : BucketsPart). IfSome c.are_backed.result
    (λ _. c.args.count ≤ p.buckets.size)) c.get-2.ensures c.are_backed.ensures.size in
    if_both c.are_backed.result (λ u few backed. can_drop c.args.hand.now c.args.parts c.args.number
    c.args.first c.args.count c.in-Some-find.slot c.args.key.now c.in-Some.leaves
    c.in-Some-journal.journal c.in-Some-buckets.part cached c.in-Some.is c.in-Some-journal.is
    c.in-Some-buckets.is c.requires.part there place c.requires.key c.requires.some few backed) size
    c.are_backed.ensures.backed
