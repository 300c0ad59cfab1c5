use Rattle.std.proofs.Common.{Some, refl, sym, ap, ◌∙◌, subst}
use Rattle.bc_leaf_walk.proofs.Doing.{at_with}
use Rattle.bc_leaf_walk.specs.Pieces.{HasCounted}
use Rattle.bc_leaf_walk.specs.Steps.{ComesNext}
use Rattle.bc_mark.proofs.InHand.{on_ok, same_some}
use Rattle.bc_mark.specs.bc_machine.declared.part.BucketsPart.{BucketsPart}
use Rattle.bc_leaf_walk.proofs.leaf.walk_leaf.Goals as goal

pub walk_in-done-requires-clause-can : goal.walk_in-done-requires-clause-can
walk_in-done-requires-clause-can g c =
    let both = c.requires.can.0 in (
      both.slot,
      at_with c.args.hand.now _ both.slot c.args.leaf both.leaf,
      subst (λ (p : BucketsPart). ComesNext p both.leaf.cached.leaf)
          (same_some c.args.hand.now.buckets both.part c.get_mut.result.now both.is
          (sym c.take.ensures.value ∙ c.in-Some.is ∙ ap Some (sym c.get_mut.ensures.part)))
          c.requires.can.1,
    )

pub returns-clause-part : goal.returns-clause-part
returns-clause-part g c = on_ok c.walk_in-done.result (λ is.
    let both = c.requires.can.0 in (
      both,
      c.walk_in-done.new.part,
      refl,
      subst (λ (p : BucketsPart). HasCounted c.args.before both.leaf.cached.leaf p
          c.walk_in-done.new.part)
          (sym (same_some c.args.hand.now.buckets both.part c.get_mut.result.now both.is
          (sym c.take.ensures.value ∙ c.in-Some.is ∙ ap Some (sym c.get_mut.ensures.part))))
          (is both.slot (at_with c.args.hand.now _ both.slot c.args.leaf both.leaf)),
    )) c.walk_in-done.ensures.part
