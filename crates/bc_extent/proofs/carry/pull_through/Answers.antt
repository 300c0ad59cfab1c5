use Rattle.std.proofs.Common.{◌≡◌, ◌≢◌, ◌+◌, ◌-◌, ◌<◌, List, [], ◌∷◌, ◌++◌, length, get_or, take, drop, insert, sym, subst, ◌∙◌, arith, length-set}
use Rattle.std.proofs.lemmas.List.{get_or_default, get_or-set_other}
use Rattle.bc_key.specs.declared.key.Key.{Key}
use Rattle.bc_extent.specs.Rings.{joined}
use Rattle.bc_extent.proofs.Joins.{pulled_first, pulled_back, full_set, same_long_back, same_long_out}
use Rattle.bc_extent.proofs.carry.pull_through.Goals as goal

pub loop-i-preserved : goal.loop-i-preserved
loop-i-preserved c =
    let i = c.loop-i.i - 1 in
    let now = c.loop-i.rings in
    let old = c.args.rings.now in
    let all = joined old ++ c.args.slot ∷ [] in
    let keeps = c.loop-i.invariant in
    let same = c.loop-i.auto.rings in
    let push = c.push_back-carried in
    let some = c.loop-i-test.true in
    let here : i < length now = omega (arith, keeps.few) in
    let there : i < length old = omega arith in
    let next : i + 1 ≡ c.loop-i.i = omega arith in
    let kept = subst (λ n. joined (take n old) ++ c.loop-i.carried ∷ joined (drop n now) ≡ all) (sym next) keeps.moved in
    let mine : get_or now i c.index-rings-i.result ≡ get_or old i [] = get_or_default now i c.index-rings-i.result [] here ∙ keeps.rest i [] (omega arith) in
    let is = subst (λ (r : List Key). push.result ∷ push.new.self ≡ r ++ c.loop-i.carried ∷ []) mine push.ensures in
    record {
      moved = pulled_back now old all i push.new.self c.loop-i.carried push.result here there kept is;
      rest = λ k d low. let other : k ≢ i = omega arith in get_or-set_other now i k push.new.self d other ∙ keeps.rest k d (omega arith);
      full = full_set now i push.new.self keeps.full (same_long_back push.new.self (get_or old i []) push.result c.loop-i.carried is (c.requires.full i [] there));
      some = omega arith;
      few = omega (arith, length-set now i push.new.self);
    }

pub returns-clause-moved : goal.returns-clause-moved
returns-clause-moved c =
    let now = c.loop-i.rings in
    let old = c.args.rings.now in
    let all = joined old ++ c.args.slot ∷ [] in
    let keeps = c.loop-i.invariant in
    let some = c.requires.some in
    let here : 0 < length now = omega (arith, keeps.few, keeps.some) in
    let at : c.loop-i.i ≡ 1 = omega (arith, keeps.some, c.loop-i-test.false) in
    let kept = subst (λ n. joined (take n old) ++ c.loop-i.carried ∷ joined (drop n now) ≡ all) at keeps.moved in
    let first : get_or now 0 c.index-rings-0.result ≡ get_or old 0 [] = get_or_default now 0 c.index-rings-0.result [] here ∙ keeps.rest 0 [] (omega (arith, keeps.some)) in
    let is = subst (λ (r : List Key). insert c.pull_at.new.self c.args.place c.pull_at.result ≡ r ++ c.loop-i.carried ∷ []) first c.pull_at.ensures in
    let long = same_long_out c.pull_at.new.self (get_or old 0 []) c.args.place c.pull_at.result c.loop-i.carried is (c.requires.full 0 [] some) in
    pulled_first now old all c.pull_at.new.self c.args.place c.loop-i.carried c.pull_at.result here some (omega (arith, c.requires.place)) kept is
