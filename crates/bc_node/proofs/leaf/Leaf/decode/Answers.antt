use Rattle.std.proofs.Common.{◌≢◌, [], get_or, ap, ◌∙◌, sym, subst, arith, List}
use Rattle.std.proofs.lemmas.List.{get_or_default}
use Rattle.bc_key.specs.Key.{ptr_at}
use Rattle.bc_key.specs.Ptr.{no_ptr}
use Rattle.bc_key.specs.Words.{ptr_word}
use Rattle.bc_set.specs.declared.set.Set.{Set}
use Rattle.bc_set.specs.declared.set.SetKind.TheVariants.{Extents}
use Rattle.bc_node.specs.Sets.{AreSetsOf}
use Rattle.bc_node.proofs.Leaves.{decoded, undecoded}
use Rattle.bc_node.proofs.leaf.Leaf.decode.Goals as goal

pub returns-clause-ok : goal.returns-clause-ok
returns-clause-ok c =
    let key = c.args.key.now in
    let six = key.six_places in
    let first = get_or_default key.ptrs 0 c.index-key-0.result no_ptr (omega (arith, six)) in
    let sets : AreSetsOf c.args.g.now (ptr_word (ptr_at key 0)) Extents c.args.bytes.now c.as_slice.result.now =
    subst (λ n. AreSetsOf c.args.g.now n Extents c.args.bytes.now c.as_slice.result.now)
    (c.word_of.ensures ∙ ap ptr_word first)
    (subst (λ (ss : List Set). AreSetsOf c.args.g.now c.word_of.result Extents c.args.bytes.now ss)
    (sym c.as_slice.ensures.value) c.in_ok-sets.ensures.found) in
    decoded c.args.g.now key c.args.from c.args.bytes.now c.as_slice.result.now c.leaf_of.result
    c.requires.pointer (subst (λ (ss : List Set). ss ≢ []) (sym c.as_slice.ensures.value) c.in_ok-sets.ensures.proper.some)
    sets c.leaf_of.ensures.ok

pub returns-clause-refused : goal.returns-clause-refused
returns-clause-refused c =
    let key = c.args.key.now in
    let six = key.six_places in
    let first = get_or_default key.ptrs 0 c.index-key-0.result no_ptr (omega (arith, six)) in
    let sets : AreSetsOf c.args.g.now (ptr_word (ptr_at key 0)) Extents c.args.bytes.now c.as_slice.result.now =
    subst (λ n. AreSetsOf c.args.g.now n Extents c.args.bytes.now c.as_slice.result.now)
    (c.word_of.ensures ∙ ap ptr_word first)
    (subst (λ (ss : List Set). AreSetsOf c.args.g.now c.word_of.result Extents c.args.bytes.now ss)
    (sym c.as_slice.ensures.value) c.in_ok-sets.ensures.found) in
    undecoded c.args.g.now key c.args.from c.args.bytes.now c.as_slice.result.now c.leaf_of.result
    sets c.leaf_of.ensures.refused
