use Rattle.std.proofs.Common.{ap, ◌∙◌}
use Rattle.bc_image.specs.Reading.{Reading}
use Rattle.bc_plain_pair.proofs.Sectors.{aged_by}
use Rattle.bc_plain_pair.proofs.data.is_aged.Goals as goal

pub returns-in-Some : goal.returns-in-Some
returns-in-Some c =
    aged_by c.args.v.now c.args.keys.now c.args.sector c.in-Some.key c.last_key.result c.requires c.last_key.ensures c.in-Some.is c.is_aged_key.result c.geometry.result.now c.gens.result.now c.geometry.ensures
    (c.gens.ensures ∙ ap (λ (r : Reading). r.gens) c.reading.ensures) c.is_aged_key.ensures
