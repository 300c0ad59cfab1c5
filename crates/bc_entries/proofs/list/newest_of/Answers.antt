use Rattle.std.proofs.Common.{◌≡◌, ◌-◌, suc, length, drop, get_or, subst, arith}
use Rattle.std.proofs.lemmas.Option.{slice_get-get_or}
use Rattle.bc_jset.specs.Entries.{IsNewest}
use Rattle.bc_entries.proofs.Lists.{some_at, newest_single, newest_here, newest_later}
use Rattle.bc_entries.proofs.list.newest_of.Goals as goal

pub loop-at-init : goal.loop-at-init
loop-at-init c =
    let all = c.args.all.now in
    let e = some_at all (length all - 1) (omega (arith, c.requires)) in
    record { within = omega (arith, c.requires); inside = omega (arith, c.requires); newest = newest_single all (length all - 1) e.0 (omega arith) e.1 }

pub loop-at-preserved-then-all-newest : goal.loop-at-preserved-then-all-newest
loop-at-preserved-then-all-newest c =
    let all = c.args.all.now in
    let at = c.loop-at.at in
    let so = c.loop-at.invariant in
    let e = get_or all (at - 1) c.index-all-at.result in
    let n = get_or all c.loop-at.newest c.index-all-newest.result in
    let here = slice_get-get_or all (at - 1) c.index-all-at.result (omega arith) in
    let there = slice_get-get_or all c.loop-at.newest c.index-all-newest.result so.inside in
    record {
      within = omega arith;
      inside = omega arith;
      newest = newest_here all (at - 1) at c.loop-at.newest e n (omega arith) here there c.if-all-newest.true so.newest;
    }

pub loop-at-preserved : goal.loop-at-preserved
loop-at-preserved c =
    let all = c.args.all.now in
    let at = c.loop-at.at in
    let so = c.loop-at.invariant in
    let e = get_or all (at - 1) c.index-all-at.result in
    let n = get_or all c.loop-at.newest c.index-all-newest.result in
    let here = slice_get-get_or all (at - 1) c.index-all-at.result (omega arith) in
    let there = slice_get-get_or all c.loop-at.newest c.index-all-newest.result so.inside in
    record {
      within = omega arith;
      inside = so.inside;
      newest = newest_later all (at - 1) at c.loop-at.newest e n (omega arith) here there c.if-all-newest.false so.newest;
    }

pub returns : goal.returns
returns c =
    let so = c.loop-at.invariant.newest in
    let first : c.loop-at.at ≡ 0 = omega arith in
    (so.0, so.1, subst (λ n. IsNewest (drop n c.args.all.now) so.0) first so.2)
