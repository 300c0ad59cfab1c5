use Rattle.std.proofs.Common.{◌==◌, ◌-◌, List, length, drop, ap, sym, ◌∙◌, arith, length-drop}
use Rattle.std.proofs.lemmas.List.{take_all}
use Rattle.std.proofs.lemmas.Option.{slice_get_within}
use Rattle.bc_inner.specs.Inner.{Inner}
use Rattle.bc_tree.specs.Spine.{bottom}
use Rattle.bc_tree.proofs.Halving.{beside_root, halved_high, halved_low, halves_some, node_here, root_can_halve, two_read}
use Rattle.bc_tree.proofs.Moves.{proper_at}
use Rattle.bc_tree.proofs.Spines.{none_of, some_of}
use Rattle.bc_tree.proofs.spine.Spine.halved.Goals as goal

pub node-node-requires : goal.node-node-requires
node-node-requires c = let s = c.args.self.now in slice_get_within (bottom s.root s.below) c.args.place c.requires.can.0 c.requires.can.1.there

pub raised-requires-clause-beside : goal.raised-requires-clause-beside
raised-requires-clause-beside c =
    let s = c.args.self.now in
    let place = c.args.place in
    let at = c.args.at in
    let come = c.args.come.now in
    let to = c.args.to.now in
    let node = c.node-node.result.now in
    let low = c.in_ok-two.two.low in
    let high = c.in_ok-two.two.high in
    let can = node_here s place at come c.requires.can.0 node c.requires.can.1 c.node-node.ensures in
    let two = two_read node low high at c.from.result c.end.result c.len.result c.children.result.now c.deref.result.now c.in_ok-all.all.items come to c.args.seq c.from.ensures c.end.ensures c.children.ensures.children
    c.in_ok-all.ensures c.deref.ensures.value (c.len.ensures ∙ c.in_ok-all.all.ok.0) c.in_ok-two.ensures in
    let none = none_of (length s.below) (ap (λ (ns : List Inner). length ns == 0) (sym c.below.ensures) ∙ sym c.is_empty.ensures ∙ c.if-is_empty.true) in
    beside_root s.geometry s.root s.below s.leaves place at come to c.args.seq node low high (proper_at s place node c.root.ensures.spine c.node-node.ensures) can two none

pub returns-then-is_empty : goal.returns-then-is_empty
returns-then-is_empty c =
    let s = c.args.self.now in
    let place = c.args.place in
    let at = c.args.at in
    let come = c.args.come.now in
    let to = c.args.to.now in
    let node = c.node-node.result.now in
    let low = c.in_ok-two.two.low in
    let high = c.in_ok-two.two.high in
    let two = two_read node low high at c.from.result c.end.result c.len.result c.children.result.now c.deref.result.now c.in_ok-all.all.items come to c.args.seq c.from.ensures c.end.ensures c.children.ensures.children
    c.in_ok-all.ensures c.deref.ensures.value (c.len.ensures ∙ c.in_ok-all.all.ok.0) c.in_ok-two.ensures in
    let none = none_of (length s.below) (ap (λ (ns : List Inner). length ns == 0) (sym c.below.ensures) ∙ sym c.is_empty.ensures ∙ c.if-is_empty.true) in
    let rest = take_all (length to - 2) (drop 2 to) (omega (arith, length-drop 2 to)) in
    halved_low s place at come to _ c.args.seq node low high c.raised.result c.node-node.ensures rest two none c.raised.ensures.root c.raised.ensures.beside

pub slice_bounds-halved_below-count : goal.slice_bounds-halved_below-count
slice_bounds-halved_below-count c = omega (arith, halves_some c.args.self.now, c.requires.places)

pub slice_bounds-halved_below-start : goal.slice_bounds-halved_below-start
slice_bounds-halved_below-start c = omega (arith, halves_some c.args.self.now, c.requires.places)

pub halved_below-requires-clause-can : goal.halved_below-requires-clause-can
halved_below-requires-clause-can c a b one other =
    let s = c.args.self.now in
    let place = c.args.place in
    let at = c.args.at in
    let come = c.args.come.now in
    let to = c.args.to.now in
    let node = c.node-node.result.now in
    let low = c.in_ok-two.two.low in
    let high = c.in_ok-two.two.high in
    let can = node_here s place at come c.requires.can.0 node c.requires.can.1 c.node-node.ensures in
    let two = two_read node low high at c.from.result c.end.result c.len.result c.children.result.now c.deref.result.now c.in_ok-all.all.items come to c.args.seq c.from.ensures c.end.ensures c.children.ensures.children
    c.in_ok-all.ensures c.deref.ensures.value (c.len.ensures ∙ c.in_ok-all.all.ok.0) c.in_ok-two.ensures in
    let some = some_of (length s.below) (ap (λ (ns : List Inner). length ns == 0) (sym c.below.ensures) ∙ sym c.is_empty.ensures ∙ c.if-is_empty.false) in
    root_can_halve s.geometry s.root s.below s.leaves place at come to c.args.seq node low high c.root.ensures.spine (proper_at s place node c.root.ensures.spine c.node-node.ensures) can two some a b one other

pub returns : goal.returns
returns c =
    let s = c.args.self.now in
    let place = c.args.place in
    let at = c.args.at in
    let come = c.args.come.now in
    let to = c.args.to.now in
    let node = c.node-node.result.now in
    let low = c.in_ok-two.two.low in
    let high = c.in_ok-two.two.high in
    let two = two_read node low high at c.from.result c.end.result c.len.result c.children.result.now c.deref.result.now c.in_ok-all.all.items come to c.args.seq c.from.ensures c.end.ensures c.children.ensures.children
    c.in_ok-all.ensures c.deref.ensures.value (c.len.ensures ∙ c.in_ok-all.all.ok.0) c.in_ok-two.ensures in
    let some = some_of (length s.below) (ap (λ (ns : List Inner). length ns == 0) (sym c.below.ensures) ∙ sym c.is_empty.ensures ∙ c.if-is_empty.false) in
    let rest = take_all (length to - 2) (drop 2 to) (omega (arith, length-drop 2 to)) in
    halved_high s place at come to _ c.args.seq node low high c.halved_below.result c.node-node.ensures rest two some c.halved_below.ensures.root c.halved_below.ensures.beside
