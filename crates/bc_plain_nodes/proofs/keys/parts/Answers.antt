use Rattle.std.proofs.Common.{inl, inr, None, refl, sym, subst, arith}
use Rattle.bc_plain_nodes.specs.Look.{look_of}
use Rattle.bc_plain_nodes.proofs.Looks.{look_outside}
use Rattle.bc_plain_nodes.proofs.Parts.{AreUpTo, none_yet, with_gap, with_part, all_shown, rest_whole, rest_none}
use Rattle.bc_plain_nodes.proofs.keys.parts.Goals as goal

pub loop-at-init : goal.loop-at-init
loop-at-init c =
    let look = look_of c.args.bare c.args.keys.now in
    subst (AreUpTo look c.args.from) (sym c.new-parts.ensures.items)
    (none_yet look c.args.from (λ sector before. look_outside c.args.bare c.args.keys.now c.args.from c.args.end sector c.requires.within (inl before)))

pub loop-at-preserved-in-Continue-1 : goal.loop-at-preserved-in-Continue-1
loop-at-preserved-in-Continue-1 c =
    let look = look_of c.args.bare c.args.keys.now in
    let rest = rest_whole look (look c.loop-at.at) c.in-Some.part c.in-Some.ensures.rest in
    let there = c.in-Some.ensures.there in
    subst (AreUpTo look c.in-Some.part.end) (sym c.in_ok-push-in-Some.ensures.items)
    (with_part look c.loop-at.at c.loop-at.parts.items rest.0 c.in-Some.part c.loop-at.invariant rest.1 rest.2 there.0 there.1)

pub loop-at-preserved : goal.loop-at-preserved
loop-at-preserved c =
    let look = look_of c.args.bare c.args.keys.now in
    with_gap look c.loop-at.at c.loop-at.parts.items c.loop-at.invariant (rest_none look (look c.loop-at.at) None refl c.in-None.ensures.rest)

pub returns-clause-shown : goal.returns-clause-shown
returns-clause-shown c =
    let look = look_of c.args.bare c.args.keys.now in
    all_shown look c.loop-at.at c.loop-at.parts.items c.loop-at.invariant (λ sector from. look_outside c.args.bare c.args.keys.now c.args.from c.args.end sector c.requires.within (inr (omega (arith, c.loop-at-test.false))))
