use Rattle.std.proofs.Common.{Some, length, refl, ◌∙◌, ap}
use Rattle.std.proofs.lemmas.Option.{slice_get_read}
use Rattle.bc_cache.proofs.cache.NodeCache.held.Goals as goal

pub returns-in-None : goal.returns-in-None
returns-in-None c =
    let within = rw (← c.self.view_is) at c.requires in
    rw (← c.self.view_is) (slice_get_read c.self.inside.slots.items (length c.self.inside.slots.items) c.args.slot c.index.result.now refl within c.index.ensures ∙ ap Some c.in-None.is)

pub returns-in-Some : goal.returns-in-Some
returns-in-Some c =
    let within = rw (← c.self.view_is) at c.requires in
    rw (← c.self.view_is) (c.in-Some.cached, slice_get_read c.self.inside.slots.items (length c.self.inside.slots.items) c.args.slot c.index.result.now refl within c.index.ensures ∙ ap Some c.in-Some.is, refl)
