use Rattle.std.proofs.Common.{◌≡◌, ◌+◌, ◌-◌, ◌/◌, ◌%◌, length, drop, ◌∙◌, arith, length-drop}
use Rattle.std.proofs.lemmas.List.{length-take-le}
use Rattle.bc_extent.proofs.Joins.{shrunk_part, full_put}
use Rattle.bc_extent.proofs.carry.remove_within.Goals as goal

pub returns-clause-keys : goal.returns-clause-keys
returns-clause-keys c =
    let i = c.args.i in
    let n = c.args.count in
    let pull = c.pull_through in
    let rings = c.args.rings.now in
    let a = i / 512 in
    let k = (n - 1) / 512 + 1 - i / 512 in
    let long : length pull.new.rings ≡ k = pull.auto.rings ∙ length-take-le k (drop a rings) (omega (arith, length-drop a rings, c.requires)) in
    shrunk_part rings pull.new.rings a k c.requires.full (omega (arith, c.requires)) (i % 512) i n c.empty.result pull.result (omega arith) (omega arith) (omega (arith, c.requires)) c.requires.within (omega (arith, c.requires)) pull.ensures.full long pull.ensures.moved

pub returns-clause-full : goal.returns-clause-full
returns-clause-full c = full_put c.args.rings.now c.pull_through.new.rings (c.args.i / 512) ((c.args.count - 1) / 512 + 1 - c.args.i / 512) c.requires.full c.pull_through.ensures.full
