use Rattle.std.proofs.Common.{◌<◌, sym, ap, ◌∙◌, refl, subst}
use Rattle.bc_parts.specs.Rule.{Fresh}
use Rattle.bc_parts.proofs.Keeping.{opens}
use Rattle.bc_parts.proofs.Opening.{Fresh-laid, laid-injective}
use Rattle.bc_parts.proofs.parts.Parts.new.Goals as goal

pub new-requires : goal.new-requires
new-requires g c = let m = g.M.Machine in let slots = c.in-Ok-lay.ensures.ok in
    let fresh = Fresh-laid m c.args.parts.items c.from.result c.len-count.result c.as_slice.result.now c.in-Ok-lay.slots.items c.args.book slots.0 (c.len-count.ensures ∙ c.args.parts.ok.0) (c.as_slice.ensures.value ∙ c.in-Ok.ensures) slots.1 slots.2 slots.3 c.requires.stand c.requires.empty in
    opens m c.of.result.value.items c.from.result record { seats = c.from.result; parts = c.of.result } c.as_slice.result.now c.in-Ok-lay.slots.items refl refl (subst (λ n. 0 < n) (sym c.from.ensures) c.requires.seats)
    (subst (λ ps. Fresh m ps c.from.result c.as_slice.result.now c.in-Ok-lay.slots.items) (sym (ap (λ v. v.items) c.of.ensures)) fresh)

pub unlay-requires : goal.unlay-requires
unlay-requires g c = let slots = c.in-Ok-lay.ensures.ok in
    (c.args.parts.items, c.args.book, slots.0, c.in-Err-new.ensures.err ∙ slots.1, slots.2, slots.3)

pub returns-clause-err : goal.returns-clause-err
returns-clause-err g c = let slots = c.in-Ok-lay.ensures.ok in let back = c.unlay.ensures in
    laid-injective c.unlay.result.parts.items c.args.parts.items c.unlay.result.book c.args.book back.0 slots.0 (sym back.1 ∙ (c.in-Err-new.ensures.err ∙ slots.1))
