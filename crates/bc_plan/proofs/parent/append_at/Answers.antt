use Rattle.std.proofs.Common.{◌==◌, List, length, ap, sym, subst, ◌∙◌}
use Rattle.std.specs.Prelude.{slice_get}
use Rattle.bc_inner.specs.Inner.{Inner}
use Rattle.bc_plan.specs.Parent.{HasMoreIn}
use Rattle.bc_tree.specs.Append.{CanAppend, IsSetWrite}
use Rattle.bc_tree.proofs.Spines.{bottom_is, none_of, some_of}
use Rattle.bc_plan.proofs.Parents.{at_root, below_fits_more, below_kept, below_more, root_fits_more, root_kept, root_more}
use Rattle.bc_plan.proofs.parent.append_at.Goals as goal

pub append_root-requires-clause-can : goal.append_root-requires-clause-can
append_root-requires-clause-can g c =
    let s = c.args.spine.now in
    let can = c.requires.can in
    let none = none_of (length s.below) (ap (λ (ns : List Inner). length ns == 0) (sym c.below.ensures) ∙ sym c.is_empty.ensures ∙ c.if-is_empty.true) in
    subst (λ (n : Inner). CanAppend s.geometry (g.D.Disk.facts c.args.disk.now).sectors n c.args.keys.now) (at_root s.root s.below c.args.place can.0 none can.1) can.2

pub returns-then-is_empty-clause-set : goal.returns-then-is_empty-clause-set
returns-then-is_empty-clause-set g c =
    let s = c.args.spine.now in
    let can = c.requires.can in
    let none = none_of (length s.below) (ap (λ (ns : List Inner). length ns == 0) (sym c.below.ensures) ∙ sym c.is_empty.ensures ∙ c.if-is_empty.true) in (
      can.0,
      can.1,
      subst (λ (n : Inner). IsSetWrite s.geometry n c.args.keys.now c.append_root.new.buffer (g.D.Disk.facts c.args.disk.now) (g.D.Disk.facts c.append_root.new.disk) c.append_root.result)
          (sym (at_root s.root s.below c.args.place can.0 none can.1)) c.append_root.ensures.set,
    )

pub returns-then-is_empty-clause-kept : goal.returns-then-is_empty-clause-kept
returns-then-is_empty-clause-kept g c = root_kept c.append_root.result c.args.keys.now c.args.spine.now c.append_root.new.self c.append_root.ensures.tree

pub returns-then-is_empty-clause-fits : goal.returns-then-is_empty-clause-fits
returns-then-is_empty-clause-fits g c plan fits = root_fits_more c.append_root.result c.args.keys.now c.args.spine.now c.append_root.new.self plan c.append_root.ensures.tree fits

pub append_below-requires-clause-can : goal.append_below-requires-clause-can
append_below-requires-clause-can g c =
    let s = c.args.spine.now in
    let can = c.requires.can in
    let some = some_of (length s.below) (ap (λ (ns : List Inner). length ns == 0) (sym c.below.ensures) ∙ sym c.is_empty.ensures ∙ c.if-is_empty.false) in
    (can.0, ap (λ (ns : List Inner). slice_get ns c.args.place) (sym (bottom_is s.root s.below some)) ∙ can.1, can.2)

pub returns-clause-set : goal.returns-clause-set
returns-clause-set g c =
    let s = c.args.spine.now in
    let some = some_of (length s.below) (ap (λ (ns : List Inner). length ns == 0) (sym c.below.ensures) ∙ sym c.is_empty.ensures ∙ c.if-is_empty.false) in
    let is = c.append_below.ensures.set in
    (is.0, ap (λ (ns : List Inner). slice_get ns c.args.place) (bottom_is s.root s.below some) ∙ is.1, is.2)

pub returns-clause-kept : goal.returns-clause-kept
returns-clause-kept g c = below_kept c.append_below.result c.args.place c.args.keys.now c.args.spine.now c.append_below.new.self c.append_below.ensures.tree

pub returns-clause-fits : goal.returns-clause-fits
returns-clause-fits g c plan fits = below_fits_more c.append_below.result c.args.place c.args.keys.now c.args.spine.now c.append_below.new.self plan c.append_below.ensures.tree fits

pub returns-then-is_empty-clause-more : goal.returns-then-is_empty-clause-more
returns-then-is_empty-clause-more g c =
    let s = c.args.spine.now in
    let can = c.requires.can in
    let none = none_of (length s.below) (ap (λ (ns : List Inner). length ns == 0) (sym c.below.ensures) ∙ sym c.is_empty.ensures ∙ c.if-is_empty.true) in (
      can.0,
      can.1,
      subst (λ (n : Inner). HasMoreIn c.append_root.result n c.args.keys.now s c.append_root.new.self)
          (sym (at_root s.root s.below c.args.place can.0 none can.1))
          (root_more c.append_root.result c.args.keys.now s c.append_root.new.self c.append_root.ensures.tree),
    )

pub returns-clause-more : goal.returns-clause-more
returns-clause-more g c =
    let s = c.args.spine.now in
    let some = some_of (length s.below) (ap (λ (ns : List Inner). length ns == 0) (sym c.below.ensures) ∙ sym c.is_empty.ensures ∙ c.if-is_empty.false) in
    let tree = c.append_below.ensures.tree in (
      tree.node,
      ap (λ (ns : List Inner). slice_get ns c.args.place) (bottom_is s.root s.below some) ∙ tree.there,
      below_more c.append_below.result c.args.place c.args.keys.now s c.append_below.new.self tree,
    )
