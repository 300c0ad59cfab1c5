use Rattle.std.proofs.Common.{◌≡◌, List, Option, Some, ap, refl, sym, subst, ◌∙◌}
use Rattle.bc_inner.specs.Inner.{Inner}
use Rattle.bc_key.specs.declared.key.Key.{Key}
use Rattle.bc_plan.specs.Parent.{HasMoreIn, TakesBy}
use Rattle.bc_tree.specs.Append.{CanAppend, IsSetWrite}
use Rattle.bc_tree.specs.declared.change.NodeChange.{NodeChange}
use Rattle.bc_tree.specs.declared.change.NodeChange.TheVariants.{Move, Set}
use Rattle.bc_plan.proofs.Parents.{takes_change, takes_low}
use Rattle.bc_plan.proofs.parent.write_parent.Goals as goal

pub append_at-requires-clause-can : goal.append_at-requires-clause-can
append_at-requires-clause-can g c =
    let s = c.args.spine.now in
    let set = c.requires.set in
    let takes = takes_low s c.args.plan.now set.0 set.1 c.in-Set.keys c.in-Set.is set.2 in
    (set.0, takes.0, subst (λ (ks : List Key). CanAppend s.geometry (g.D.Disk.facts c.args.disk.now).sectors set.0 ks) (takes.1 ∙ sym c.as_slice.ensures) set.3)

pub returns-in-Set-clause-set : goal.returns-in-Set-clause-set
returns-in-Set-clause-set g c =
    let s = c.args.spine.now in
    let plan = c.args.plan.now in
    let keys = c.in-Set.keys in
    let is = c.append_at.ensures.set in (
      is.0,
      keys,
      subst (λ (ch : NodeChange). TakesBy s plan.place ch plan.top is.0 keys) (sym c.in-Set.is) (is.1, refl),
      subst (λ (ks : List Key). IsSetWrite s.geometry is.0 ks c.append_at.new.buffer (g.D.Disk.facts c.args.disk.now) (g.D.Disk.facts c.append_at.new.disk) c.append_at.result) c.as_slice.ensures is.2,
    )

pub append_top-requires-clause-can : goal.append_top-requires-clause-can
append_top-requires-clause-can g c =
    let s = c.args.spine.now in
    let plan = c.args.plan.now in
    let set = c.requires.set in
    let takes = subst (λ (t : Option NodeChange). TakesBy s plan.place (Move c.in-Move.field-0) t set.0 set.1) c.in-Some.is (subst (λ (ch : NodeChange). TakesBy s plan.place ch plan.top set.0 set.1) c.in-Move.is set.2) in
    let is = takes_change s plan.place c.in-Move.field-0 set.0 c.in-Some.change set.1 takes in
    (set.1, is.1, subst (λ (n : Inner). CanAppend s.geometry (g.D.Disk.facts c.args.disk.now).sectors n set.1) is.0 set.3)

pub returns-in-Some-clause-set : goal.returns-in-Some-clause-set
returns-in-Some-clause-set g c =
    let s = c.args.spine.now in
    let plan = c.args.plan.now in
    let is = c.append_top.ensures.set in
    let top : plan.top ≡ Some (Set is.0) = c.in-Some.is ∙ ap (λ (ch : NodeChange). Some ch) is.1 in (
      s.root,
      is.0,
      subst (λ (ch : NodeChange). TakesBy s plan.place ch plan.top s.root is.0) (sym c.in-Move.is) (subst (λ (t : Option NodeChange). TakesBy s plan.place (Move c.in-Move.field-0) t s.root is.0) (sym top) (refl, refl)),
      is.2,
    )

pub returns-in-Set-clause-more : goal.returns-in-Set-clause-more
returns-in-Set-clause-more g c =
    let s = c.args.spine.now in
    let plan = c.args.plan.now in
    let keys = c.in-Set.keys in
    let is = c.append_at.ensures.more in (
      is.0,
      keys,
      subst (λ (ch : NodeChange). TakesBy s plan.place ch plan.top is.0 keys) (sym c.in-Set.is) (is.1, refl),
      subst (λ (ks : List Key). HasMoreIn c.append_at.result is.0 ks s c.append_at.new.spine) c.as_slice.ensures is.2,
    )

pub returns-in-Some-clause-more : goal.returns-in-Some-clause-more
returns-in-Some-clause-more g c =
    let s = c.args.spine.now in
    let plan = c.args.plan.now in
    let is = c.append_top.ensures.more in
    let top : plan.top ≡ Some (Set is.0) = c.in-Some.is ∙ ap (λ (ch : NodeChange). Some ch) is.1 in (
      s.root,
      is.0,
      subst (λ (ch : NodeChange). TakesBy s plan.place ch plan.top s.root is.0) (sym c.in-Move.is) (subst (λ (t : Option NodeChange). TakesBy s plan.place (Move c.in-Move.field-0) t s.root is.0) (sym top) (refl, refl)),
      is.2,
    )
