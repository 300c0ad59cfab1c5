use Rattle.std.proofs.Common.{◌≡◌, ◌==◌, ◌+◌, ◌-◌, ◌%◌, ◌^◌, List, [], ◌∷◌, length, drop, ap, sym, subst, ◌∙◌, arith, length-drop}
use Rattle.std.proofs.lemmas.List.{take_all}
use Rattle.bc_key.specs.declared.key.Key.{Key}
use Rattle.bc_key.specs.declared.ptr.Ptr.{Ptr}
use Rattle.bc_tree.specs.Change.{IsChangeOf}
use Rattle.bc_tree.specs.Plan.{Names}
use Rattle.std.specs.Prelude.{slice_get}
use Rattle.bc_inner.specs.Inner.{Inner}
use Rattle.bc_tree.specs.Next.{node_next}
use Rattle.bc_tree.specs.declared.change.NodeChange.{NodeChange}
use Rattle.bc_tree.proofs.Coming.{top_moves}
use Rattle.bc_tree.proofs.Spines.{bottom_is, some_of}
use Rattle.bc_tree.proofs.spine.Spine.top_change.Goals as goal

pub root_change-requires-clause-below : goal.root_change-requires-clause-below
root_change-requires-clause-below c =
    let s = c.args.self.now in
    let some = some_of (length s.below) (ap (λ (ns : List Inner). length ns == 0) (sym c.below.ensures) ∙ sym c.is_empty.ensures ∙ c.if-is_empty.false) in (
      c.requires.node.0,
      ap (λ (ns : List Inner). slice_get ns c.args.place) (sym (bottom_is s.root s.below some)) ∙ c.requires.node.1,
      subst (λ (ch : NodeChange). (node_next c.requires.node.0 ch).end ≡ c.requires.node.0.end) c.in-Move.is c.requires.node.2,
    )

pub returns-in_ok-top-in-Move : goal.returns-in_ok-top-in-Move
returns-in_ok-top-in-Move c =
    let s = c.args.self.now in
    let some = some_of (length s.below) (ap (λ (ns : List Inner). length ns == 0) (sym c.below.ensures) ∙ sym c.is_empty.ensures ∙ c.if-is_empty.false) in
    top_moves s.geometry s.root s.below c.args.place c.in-Move.next c.args.change.now c.args.to.now c.args.seq c.in_ok-top-in-Move.top some c.in-Move.is
    (subst (λ (ts : List Ptr). (x : Key) × Names x c.in-Move.next × IsChangeOf s.geometry s.root c.args.place 1 (x ∷ []) ts ((c.args.seq + 1) % 2 ^ 64) c.in_ok-top-in-Move.top)
    (take_all (length c.args.to.now - 1) (drop 1 c.args.to.now) (omega (arith, length-drop 1 c.args.to.now))) c.in_ok-top-in-Move.ensures)
