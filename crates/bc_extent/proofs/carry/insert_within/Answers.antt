use Rattle.std.proofs.Common.{◌≡◌, ◌<◌, ◌*◌, length, ◌+◌, ◌-◌, ◌/◌, ◌%◌, set, take, sym, ap, ◌∙◌, subst, arith}
use Rattle.std.specs.Prelude.{insert}
use Rattle.bc_extent.specs.Rings.{joined}
use Rattle.bc_extent.proofs.Joins.{appended, grown_part, full_put}
use Rattle.bc_extent.proofs.carry.insert_within.Goals as goal

pub returns-clause-keys : goal.returns-clause-keys
returns-clause-keys c =
    let i = c.args.i in
    let n = c.args.count in
    let push = c.push_through in
    grown_part c.args.rings.now push.new.rings (i / 512) (n / 512 + 1 - i / 512) c.requires.full (omega (arith, c.requires)) (i % 512) i n c.args.slot push.result (omega arith) (omega arith) (omega (arith, c.requires)) c.requires.within (omega (arith, c.requires)) push.ensures.moved

pub returns-clause-full : goal.returns-clause-full
returns-clause-full c = full_put c.args.rings.now c.push_through.new.rings (c.args.i / 512) (c.args.count / 512 + 1 - c.args.i / 512) c.requires.full c.push_through.ensures.full

pub returns-then-i-count-clause-keys : goal.returns-then-i-count-clause-keys
returns-then-i-count-clause-keys c =
    let rings = c.args.rings.now in
    let i = c.args.i in
    let now = c.swap_in.new.self in
    let low : i < 512 * length rings = omega (arith, c.requires, c.if-i-count.true) in
    subst (λ m. take (m + 1) (joined (set rings (i / 512) now)) ≡ insert (take m (joined rings)) i c.args.slot) c.if-i-count.true
    (appended rings i c.index-rings-i.result now c.requires.full low c.index-rings-i.is c.args.slot
    (c.swap_in.ensures.new ∙ ap (λ ring. set ring (i % 512) c.args.slot) (sym c.index-rings-i.is)))
