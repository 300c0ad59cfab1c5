use Rattle.std.proofs.Common.{get_or, sym, ap, ◌∙◌, arith}
use Rattle.bc_key.specs.declared.key.Key.{Key}
use Rattle.bc_extent.specs.declared.slot.Front.{Front}
use Rattle.bc_extent.proofs.Kept.{key_at}
use Rattle.bc_extent.proofs.slots.Slots.end.Goals as goal

pub returns : goal.returns
returns c = λ d.
    let slots = c.self.inside in
    let front = c.index.result.now in
    c.end.ensures
    ∙ ap (λ (f : Front). f.end) c.index.ensures
    ∙ ap (λ (key : Key). key.end) (sym (key_at slots.fronts.items slots.tails.items c.args.i d front (omega (arith, c.self.invariant.0, c.requires))) ∙ ap (λ keys. get_or keys c.args.i d) c.self.view_is)
