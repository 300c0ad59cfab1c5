use Rattle.std.proofs.Common.{ap, sym, ◌∙◌}
use Rattle.bc_disk.specs.declared.geometry.Geometry.{Geometry}
use Rattle.bc_image.specs.Reading.{Reading}
use Rattle.bc_record.specs.Places.{bucket_at}
use Rattle.bc_plain_pair.proofs.Lives.{lies_there, none_live, not_live}
use Rattle.bc_plain_pair.proofs.uses.live_bucket.Goals as goal

pub returns-in_default : goal.returns-in_default
returns-in_default c = none_live c.args.v.now c.args.keys.now c.args.sector c.last_key.result c.requires c.last_key.ensures c.in_default.is

pub returns-then-not-is_live : goal.returns-then-not-is_live
returns-then-not-is_live c =
    not_live c.args.v.now c.args.keys.now c.args.sector c.last_key.result c.requires c.last_key.ensures c.in-Some.key c.in-Some.is c.geometry-g.result.now c.gens-gens.result.now c.geometry-g.ensures
    (c.gens-gens.ensures ∙ ap (λ (r : Reading). r.gens) c.reading.ensures) (sym c.is_live.ensures ∙ c.if-not-is_live.true)

pub returns : goal.returns
returns c =
    let at = c.bucket_at.ensures ∙ ap (λ (x : Geometry). bucket_at x c.place_of.result) c.geometry-g.ensures ∙ ap (bucket_at c.args.v.now.geometry) c.place_of.ensures in
    lies_there c.args.v.now c.args.keys.now c.args.sector c.last_key.result c.requires c.last_key.ensures c.in-Some.key c.in-Some.is c.geometry-g.result.now c.gens-gens.result.now c.geometry-g.ensures
    (c.gens-gens.ensures ∙ ap (λ (r : Reading). r.gens) c.reading.ensures) c.bucket_at.result (sym c.is_live.ensures ∙ c.if-not-is_live.false) at
