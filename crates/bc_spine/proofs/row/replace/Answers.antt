use Rattle.std.proofs.Common.{◌+◌, ◌++◌, take, drop, ap, ◌∙◌}
use Rattle.std.proofs.lemmas.List.{take_rest}
use Rattle.bc_spine.proofs.Lists.{three_parts}
use Rattle.bc_spine.proofs.row.replace.Goals as goal

pub returns-clause-leaves : goal.returns-clause-leaves
returns-clause-leaves c =
    let one = c.overwrite.new.row.items in
    let kept = c.min-kept.result in
    let come = c.args.come.now in
    let second = c.put_in.ensures.leaves ∙ ap (λ xs. (take (c.args.at + kept) one ++ xs) ++ drop (c.args.at + kept) one) (take_rest come kept) in
    three_parts c.args.row.now.items come one c.put_in.new.row.items c.take_out.new.row.items c.args.at c.args.gone kept c.requires.within c.min-kept.ensures c.overwrite.ensures.leaves second c.take_out.ensures.leaves
