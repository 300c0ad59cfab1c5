use Rattle.std.proofs.Common.{◌≡◌, ◌++◌, length, take, drop, option_to_list, Some, ap, subst, arith, length-append}
use Rattle.std.proofs.lemmas.Option.{MatchOption-at_some}
use Rattle.bc_key.specs.declared.key.Key.{Key}
use Rattle.bc_key.specs.Key.{start_of}
use Rattle.bc_extent.specs.LastKey.{last_key}
use Rattle.bc_extent.specs.Extents.{IsRange, IsInOrder, Shows, overlaid}
use Rattle.bc_extent.proofs.Changes.{sides_meet, few_between}
use Rattle.bc_plain.proofs.Vectors.{added, regrouped}
use Rattle.bc_extent.proofs.Shown.{overlaid_order, overlaid_shows}
use Rattle.bc_plain.proofs.vector.change.change_for.Goals as goal

pub returns-clause-places : goal.returns-clause-places
returns-clause-places c =
    let left = c.side_below-left.ensures in
    let right = c.side_above-right.ensures in
    (sides_meet c.args.keys.now c.requires.order c.args.first c.args.end c.side_below-left.result.place c.side_above-right.result.place c.requires.some left.place left.ended right.later, right.place)

parts_are : (c : goal.After-add-3) → c.add-3.new.self ≡ option_to_list c.side_below-left.result.part ++ (option_to_list c.args.key ++ option_to_list c.side_above-right.result.part)
parts_are c = added c.new-parts.result c.add.new.self c.add-2.new.self c.add-3.new.self c.side_below-left.result.part c.args.key c.side_above-right.result.part c.new-parts.ensures c.add.ensures c.add-2.ensures c.add-3.ensures

pub returns-clause-few : goal.returns-clause-few
returns-clause-few c =
    let left = c.side_below-left.ensures in
    let right = c.side_above-right.ensures in
    let all = ap length (parts_are c) in
    let few = few_between c.args.keys.now c.requires.order c.args.first c.args.end c.side_below-left.result.place c.side_above-right.result.place c.requires.some left.place left.ended right.later c.side_below-left.result.part c.side_above-right.result.part c.args.key left.cut right.cut in
    omega (arith, all, few, length-append (option_to_list c.side_below-left.result.part) (option_to_list c.args.key ++ option_to_list c.side_above-right.result.part), length-append (option_to_list c.args.key) (option_to_list c.side_above-right.result.part))

fits : (c : goal.After-add-3) (key : Key) → c.args.key ≡ Some key → IsRange key × (start_of key ≡ c.args.first) × (key.end ≡ c.args.end)
fits c key is = MatchOption-at_some _ (λ k. IsRange k × (start_of k ≡ c.args.first) × (k.end ≡ c.args.end)) key is c.requires.key

keys_are : (c : goal.After-add-3) → (take c.side_below-left.result.place c.args.keys.now ++ option_to_list c.side_below-left.result.part) ++ (option_to_list c.args.key ++ (option_to_list c.side_above-right.result.part ++ drop c.side_above-right.result.place c.args.keys.now))
    ≡ take c.side_below-left.result.place c.args.keys.now ++ (c.add-3.new.self ++ drop c.side_above-right.result.place c.args.keys.now)
keys_are c = regrouped (take c.side_below-left.result.place c.args.keys.now) (drop c.side_above-right.result.place c.args.keys.now) c.add-3.new.self c.side_below-left.result.part c.args.key c.side_above-right.result.part (parts_are c)

pub returns-clause-shows : goal.returns-clause-shows
returns-clause-shows c = subst (Shows (overlaid c.args.first c.args.end c.args.key (last_key c.args.keys.now))) (keys_are c) (overlaid_shows c.args.keys.now c.requires.order c.args.first c.args.end c.requires.some c.args.key (fits c) _ _ c.side_below-left.ensures.below c.side_above-right.ensures.above)

pub returns-clause-order : goal.returns-clause-order
returns-clause-order c = subst IsInOrder (keys_are c) (overlaid_order c.args.keys.now c.requires.order c.args.first c.args.end c.requires.some c.args.key (fits c) _ _ c.side_below-left.ensures.below c.side_above-right.ensures.above)
