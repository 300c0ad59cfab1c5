use Rattle.std.proofs.Common.{◌≡◌, ◌++◌, take, drop, option_to_list, Some, sym, subst, ap, ◌∙◌, arith}
use Rattle.std.proofs.lemmas.Option.{MatchOption-at_some}
use Rattle.bc_key.specs.declared.key.Key.{Key}
use Rattle.bc_key.specs.Key.{start_of}
use Rattle.bc_extent.specs.LastKey.{last_key}
use Rattle.bc_extent.specs.Extents.{IsRange, IsInOrder, Shows, overlaid}
use Rattle.bc_extent.proofs.Changes.{few_between}
use Rattle.bc_extent.proofs.Edits.{put_three}
use Rattle.bc_extent.proofs.Shown.{overlaid_order, overlaid_shows}
use Rattle.bc_extent.proofs.change.overlay.Goals as goal

pub fill-gap-requires-3-clause-room : goal.fill-gap-requires-3-clause-room
fill-gap-requires-3-clause-room c =
    let left = c.side_below-left in
    let right = c.side_above-right in
    let few = few_between c.args.rows.now.keys c.requires.order c.args.first c.args.end left.result.place right.result.place c.requires.some left.ensures.place left.ensures.ended right.ensures.later left.result.part right.result.part c.args.key.now left.ensures.cut right.ensures.cut in
    omega (arith, few, c.requires.room, c.fill-gap.ensures.room, c.fill-gap-2.ensures.room, right.ensures.from)

-- the row after the call
abbrev Laid : goal.After-close → Type 0
Laid c = c.close.new.rows.keys ≡ (take c.side_below-left.result.place c.args.rows.now.keys ++ option_to_list c.side_below-left.result.part) ++ (option_to_list c.args.key.now ++ (option_to_list c.side_above-right.result.part ++ drop c.side_above-right.result.place c.args.rows.now.keys))

laid : (c : goal.After-close) → Laid c
laid c =
    let left = c.side_below-left.result in
    let right = c.side_above-right.result in
    let old = c.args.rows.now.keys in
    let one = c.fill-gap in
    let two = c.fill-gap-2 in
    let three = c.fill-gap-3 in
    put_three (take left.place old) (drop right.place old) (take one.result.from one.new.rows.keys) (take two.result.from two.new.rows.keys) (take three.result.from three.new.rows.keys)
    (option_to_list left.part) (option_to_list c.args.key.now) (option_to_list right.part) c.close.new.rows.keys one.ensures.before two.ensures.before three.ensures.before
    (c.close.ensures.keys ∙ ap (λ xs. take three.result.from three.new.rows.keys ++ xs) (three.ensures.behind ∙ two.ensures.behind ∙ one.ensures.behind))

fits : (c : goal.After-close) (key : Key) → c.args.key.now ≡ Some key → IsRange key × (start_of key ≡ c.args.first) × (key.end ≡ c.args.end)
fits c key is = MatchOption-at_some _ (λ k. IsRange k × (start_of k ≡ c.args.first) × (k.end ≡ c.args.end)) key is c.requires.key

pub returns-clause-shows : goal.returns-clause-shows
returns-clause-shows c = subst (Shows (overlaid c.args.first c.args.end c.args.key.now (last_key c.args.rows.now.keys))) (sym (laid c)) (overlaid_shows c.args.rows.now.keys c.requires.order c.args.first c.args.end c.requires.some c.args.key.now (fits c) _ _ c.side_below-left.ensures.below c.side_above-right.ensures.above)

pub returns-clause-order : goal.returns-clause-order
returns-clause-order c = subst IsInOrder (sym (laid c)) (overlaid_order c.args.rows.now.keys c.requires.order c.args.first c.args.end c.requires.some c.args.key.now (fits c) _ _ c.side_below-left.ensures.below c.side_above-right.ensures.above)

pub returns-clause-room : goal.returns-clause-room
returns-clause-room c =
    let left = c.side_below-left in
    let right = c.side_above-right in
    let few = few_between c.args.rows.now.keys c.requires.order c.args.first c.args.end left.result.place right.result.place c.requires.some left.ensures.place left.ensures.ended right.ensures.later left.result.part right.result.part c.args.key.now left.ensures.cut right.ensures.cut in
    omega (arith, few, c.fill-gap.ensures.room, c.fill-gap-2.ensures.room, c.fill-gap-3.ensures.room, c.close.ensures.spare, right.ensures.from)
