use Rattle.std.proofs.Common.{◌/◌, get_or, sym, ap, ◌∙◌, arith}
use Rattle.bc_key.specs.declared.key.Key.{Key}
use Rattle.bc_extent.specs.declared.slot.Front.{Front}
use Rattle.bc_extent.proofs.Kept.{key_at}
use Rattle.bc_extent.proofs.slots.Slots.pointers.Goals as goal

pub returns : goal.returns
returns c = λ d.
    let slots = c.self.inside in
    let front = c.index.result.now in
    c.pointers.ensures
    ∙ ap (λ (f : Front). f.tags / 4) c.index.ensures
    ∙ ap (λ (key : Key). key.count) (sym (key_at slots.fronts.items slots.tails.items c.args.i d front (omega (arith, c.self.invariant.0, c.requires))) ∙ ap (λ keys. get_or keys c.args.i d) c.self.view_is)
