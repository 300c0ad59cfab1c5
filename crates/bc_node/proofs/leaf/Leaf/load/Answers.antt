use Rattle.std.proofs.Common.{get_or, ap, ◌∙◌, sym, subst, arith, List}
use Rattle.std.proofs.lemmas.List.{get_or_default}
use Rattle.bc_key.specs.Ptr.{no_ptr}
use Rattle.bc_key.specs.Words.{ptr_word}
use Rattle.bc_key.specs.declared.ptr.Ptr.{Ptr}
use Rattle.bc_set.specs.declared.set.Set.{Set}
use Rattle.bc_node.specs.Loading.{AreLeafSets}
use Rattle.bc_node.proofs.Leaves.{leaf_sets, leaf_held, leaf_refused}
use Rattle.bc_node.proofs.leaf.Leaf.load.Goals as goal

pub returns-clause-found : goal.returns-clause-found
returns-clause-found g c =
    let key = c.args.key.now in
    let six = key.six_places in
    let first = get_or_default key.ptrs 0 c.index-key-0.result no_ptr (omega (arith, six)) in
    let old = g.D.Disk.facts c.args.disk.now in
    let read = get_or key.ptrs 0 c.index-key-0.result in
    let held = leaf_sets c.args.g.now key old c.word_of.result read.offset c.in_ok-sets.sets.items c.requires.pointer (c.word_of.ensures ∙ ap ptr_word first) (ap (λ (p : Ptr). p.offset) first)
    c.in_ok-sets.ensures.proper.some c.in_ok-sets.ensures.found in
    leaf_held c.args.g.now key c.args.from old c.as_slice.result.now c.leaf_of.result (subst (λ (ss : List Set). AreLeafSets c.args.g.now key old ss) (sym c.as_slice.ensures.value) held) c.leaf_of.ensures.ok

pub returns-clause-refused : goal.returns-clause-refused
returns-clause-refused g c =
    let key = c.args.key.now in
    let six = key.six_places in
    let first = get_or_default key.ptrs 0 c.index-key-0.result no_ptr (omega (arith, six)) in
    let old = g.D.Disk.facts c.args.disk.now in
    let read = get_or key.ptrs 0 c.index-key-0.result in
    let held = leaf_sets c.args.g.now key old c.word_of.result read.offset c.in_ok-sets.sets.items c.requires.pointer (c.word_of.ensures ∙ ap ptr_word first) (ap (λ (p : Ptr). p.offset) first)
    c.in_ok-sets.ensures.proper.some c.in_ok-sets.ensures.found in
    leaf_refused c.args.g.now key c.args.from old (g.D.Disk.facts c.load_sets.new.disk) c.as_slice.result.now c.leaf_of.result (subst (λ (ss : List Set). AreLeafSets c.args.g.now key old ss) (sym c.as_slice.ensures.value) held)
    c.in_ok-sets.ensures.read c.leaf_of.ensures.refused
