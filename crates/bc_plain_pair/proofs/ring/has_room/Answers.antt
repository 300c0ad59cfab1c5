use Rattle.std.proofs.Common.{◌+◌, ◌*◌, ℕ, Some, None, subst, ap, ◌∙◌, arith}
use Rattle.std.specs.Bool.{MatchBool}
use Rattle.bc_jset.specs.Ring.{bucket_after}
use Rattle.bc_plain_pair.specs.Rooms.{AreOld, IsBehind}
use Rattle.bc_plain_pair.proofs.Rings.{no_place, room_after, room_behind}
use Rattle.bc_plain_pair.proofs.ring.has_room.Goals as goal

pub returns-in_default : goal.returns-in_default
returns-in_default c =
    no_place c.args.g.now c.args.all.now c.args.entries.now c.args.newest.now
    (subst (λ (b : ℕ). IsBehind c.args.g.now c.args.entries.now b None) c.bucket_at-bucket.ensures (rw c.in_default.is at c.place_behind.ensures))

pub returns-then-next-last : goal.returns-then-next-last
returns-then-next-last c =
    let place = subst (λ (b : ℕ). IsBehind c.args.g.now c.args.entries.now b (Some c.in-Some.next)) c.bucket_at-bucket.ensures (rw c.in-Some.is at c.place_behind.ensures) in
    let end = c.last_block-last.ensures ∙ ap (λ (b : ℕ). c.args.g.now.bucket * (b + 1)) c.bucket_at-bucket.ensures in
    let low = c.if-next-last.true in
    room_behind c.args.g.now c.args.all.now c.args.entries.now c.args.newest.now c.in-Some.next place (omega (arith, end, low))

pub returns : goal.returns
returns c =
    let place = subst (λ (b : ℕ). IsBehind c.args.g.now c.args.entries.now b (Some c.in-Some.next)) c.bucket_at-bucket.ensures (rw c.in-Some.is at c.place_behind.ensures) in
    let end = c.last_block-last.ensures ∙ ap (λ (b : ℕ). c.args.g.now.bucket * (b + 1)) c.bucket_at-bucket.ensures in
    let high = c.if-next-last.false in
    let after = c.bucket_after.ensures ∙ ap (bucket_after c.args.g.now) c.bucket_at-bucket.ensures in
    room_after c.args.g.now c.args.all.now c.args.entries.now c.args.newest.now c.in-Some.next place c.is_free.result (λ fits. absurd (omega (arith, end, high, fits)))
    (subst (λ (b : ℕ). MatchBool c.is_free.result (AreOld c.args.g.now c.args.all.now c.args.newest.now.item.last_seq b) (AreOld c.args.g.now c.args.all.now c.args.newest.now.item.last_seq b → ⊥)) after c.is_free.ensures)
