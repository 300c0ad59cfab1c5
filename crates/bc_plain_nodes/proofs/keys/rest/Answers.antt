use Rattle.std.proofs.Common.{◌-◌, sym}
use Rattle.std.proofs.lemmas.List.Elements.{All-contains}
use Rattle.bc_key.specs.Key.{IsExtent}
use Rattle.bc_plain_nodes.proofs.Looks.{look_found, is_rest}
use Rattle.bc_plain_nodes.proofs.keys.rest.Goals as goal

pub part_of-requires-clause-extent : goal.part_of-requires-clause-extent
part_of-requires-clause-extent c =
    let found = look_found c.args.bare c.args.keys.now c.args.sector c.in_ok-whole.whole (sym c.in_ok-whole.ensures) in
    All-contains IsExtent c.args.keys.now c.in_ok-whole.whole c.requires found.0

pub returns-clause-rest : goal.returns-clause-rest
returns-clause-rest c =
    is_rest c.args.bare c.args.keys.now c.args.sector c.in_ok-whole.whole c.part_of.result c.first_of-first.result c.end_of-end.result
    (sym c.in_ok-whole.ensures) c.first_of-first.ensures.all c.first_of-first.ensures.before c.end_of-end.ensures.all c.end_of-end.ensures.behind
    c.part_of.ensures.part c.part_of.ensures.from c.part_of.ensures.end
