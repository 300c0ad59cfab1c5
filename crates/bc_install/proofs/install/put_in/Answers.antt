use Rattle.std.proofs.Common.{◌-◌, refl, sym, ◌∙◌, subst}
use Rattle.bc_change.specs.Goes.{numbers}
use Rattle.bc_change.specs.bc_machine.declared.part.SpinePart.{SpinePart}
use Rattle.bc_install.specs.Installed.{AreTakenOut}
use Rattle.bc_install.proofs.Placed.{put_in_all, was_in}
use Rattle.bc_install.proofs.install.put_in.Goals as goal
use Rattle.bc_spine.specs.Exchange.{going}
use Rattle.bc_tree.specs.Plan.{Fits}

pub put_tree-new-requires : goal.put_tree-new-requires
put_tree-new-requires g c = subst (λ (s : SpinePart). Fits s.spine c.args.plan)
    (sym (was_in c.args.hand.now.spine c.take.result c.requires.at.spine c.in-Some.spine
    c.get_mut-2.result.now c.in-Some.is c.take.ensures.value c.requires.at.is_spine
    c.get_mut-2.ensures.part)) c.requires.at.fits

pub returns : goal.returns
returns g c =
    let sp = c.get_mut-2.ensures.part in
    put_in_all c.args.hand.now c.args.count c.args.plan c.args.first c.args.come.now c.args.gone.now c.requires.at
    c.get_mut-2.result.now c.put_tree-new.new.part c.in-Some-take.leaves c.take_going.new.cache
    c.bring_leaves.new.cache (c.in-Some-take.leaves.part - 6) c.get_mut.result.now
    c.put_buckets.new.part
    (was_in c.args.hand.now.spine c.take.result c.requires.at.spine c.in-Some.spine
    c.get_mut-2.result.now c.in-Some.is c.take.ensures.value c.requires.at.is_spine sp)
    (was_in c.args.hand.now.leaves c.take-2.result c.requires.at.leaves c.in-Some-take.leaves
    c.in-Some-take.leaves c.in-Some-take.is c.take-2.ensures.value c.requires.at.are_leaves refl)
    (was_in c.args.hand.now.buckets c.take-3.result c.requires.at.buckets c.in-Some-take-2.buckets
    c.get_mut.result.now c.in-Some-take-2.is c.take-3.ensures.value c.requires.at.are_buckets
    c.get_mut.ensures.part)
    refl c.put_tree-new.ensures.tree
    (subst (λ (s : SpinePart). AreTakenOut (numbers (going s.spine.leaves c.args.plan.leaves))
    c.in-Some-take.leaves.cache c.take_going.new.cache) (c.get.ensures ∙ sym sp) c.take_going.ensures)
    (c.bring_leaves.ensures c.args.plan c.put_tree-new.ensures.leaves c.put_tree-new.ensures.first
    c.put_tree-new.ensures.second) c.put_buckets.ensures
