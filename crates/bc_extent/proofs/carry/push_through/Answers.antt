use Rattle.std.proofs.Common.{◌≡◌, ◌≢◌, ◌<◌, ◌≤◌, List, [], ◌∷◌, ◌++◌, length, get_or, insert, subst, ◌∙◌, arith, length-set}
use Rattle.std.proofs.lemmas.List.{get_or_default, get_or-set_other}
use Rattle.bc_key.specs.declared.key.Key.{Key}
use Rattle.bc_extent.specs.Rings.{joined}
use Rattle.bc_extent.proofs.Joins.{pushed_first, pushed_on, full_set, same_long, same_long_at}
use Rattle.bc_extent.proofs.carry.push_through.Goals as goal

pub loop-i-init : goal.loop-i-init
loop-i-init c =
    let old = c.args.rings.now in
    let some = c.requires.some in
    let ring = c.push_at-carried.new.self in
    let first : get_or old 0 c.index-rings-0.result ≡ get_or old 0 [] = get_or_default old 0 c.index-rings-0.result [] some in
    let long : length (get_or old 0 []) ≡ 512 = c.requires.full 0 [] some in
    let is = subst (λ (r : List Key). ring ++ c.push_at-carried.result ∷ [] ≡ insert r c.args.place c.args.slot) first c.push_at-carried.ensures in
    record {
      moved = pushed_first old ring c.args.place c.args.slot c.push_at-carried.result some (omega (arith, c.requires.place)) is;
      rest = λ k d high. let other : k ≢ 0 = omega arith in get_or-set_other old 0 k ring d other;
      full = full_set old 0 ring c.requires.full (same_long_at ring (get_or old 0 []) c.args.place c.push_at-carried.result c.args.slot is c.requires.place long);
    }

pub loop-i-preserved : goal.loop-i-preserved
loop-i-preserved c =
    let i = c.loop-i.i in
    let now = c.loop-i.rings in
    let old = c.args.rings.now in
    let keeps = c.loop-i.invariant in
    let same = c.loop-i.auto.rings in
    let push = c.push_front-carried in
    let at_least : i ≤ i = omega arith in
    let below = c.loop-i-test.true in
    let there : i < length old = omega (arith, length-set old 0 c.push_at-carried.new.self) in
    let here : i < length now = omega (arith, length-set old 0 c.push_at-carried.new.self) in
    let mine : get_or now i c.index-rings-i.result ≡ get_or old i [] = get_or_default now i c.index-rings-i.result [] here ∙ keeps.rest i [] at_least in
    let is = subst (λ (r : List Key). push.new.self ++ push.result ∷ [] ≡ c.loop-i.carried ∷ r) mine push.ensures in
    record {
      moved = pushed_on now old (insert (joined old) c.args.place c.args.slot) i push.new.self c.loop-i.carried push.result here there keeps.moved is;
      rest = λ k d high. let other : k ≢ i = omega arith in get_or-set_other now i k push.new.self d other ∙ keeps.rest k d (omega arith);
      full = full_set now i push.new.self keeps.full (same_long push.new.self (get_or old i []) push.result c.loop-i.carried is (c.requires.full i [] there));
    }
