use Rattle.std.proofs.Common.{◌-◌, get_or, sym, ap, ◌∙◌, arith}
use Rattle.bc_key.specs.Key.{start_of}
use Rattle.bc_extent.specs.declared.slot.Front.{Front}
use Rattle.bc_extent.proofs.Kept.{key_at}
use Rattle.bc_extent.proofs.slots.Slots.start.Goals as goal

pub returns : goal.returns
returns c = λ d.
    let slots = c.self.inside in
    let front = c.index.result.now in
    c.start.ensures
    ∙ ap (λ (f : Front). f.end - f.size) c.index.ensures
    ∙ ap start_of (sym (key_at slots.fronts.items slots.tails.items c.args.i d front (omega (arith, c.self.invariant.0, c.requires))) ∙ ap (λ keys. get_or keys c.args.i d) c.self.view_is)
