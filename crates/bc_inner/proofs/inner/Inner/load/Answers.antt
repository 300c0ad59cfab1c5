use Rattle.std.proofs.Common.{get_or, ap, ◌∙◌, sym, subst, arith, List}
use Rattle.std.proofs.lemmas.List.{get_or_default}
use Rattle.bc_key.specs.Ptr.{no_ptr}
use Rattle.bc_key.specs.Words.{ptr_word}
use Rattle.bc_key.specs.declared.ptr.Ptr.{Ptr}
use Rattle.bc_set.specs.declared.set.Set.{Set}
use Rattle.bc_inner.specs.Loading.{AreInnerSets}
use Rattle.bc_inner.proofs.Nodes.{inner_sets, inner_held, inner_refused}
use Rattle.bc_inner.proofs.inner.Inner.load.Goals as goal

pub returns-clause-found : goal.returns-clause-found
returns-clause-found g c =
    let key = c.args.key.now in
    let six = key.six_places in
    let first = get_or_default key.ptrs 0 c.index-key-0.result no_ptr (omega (arith, six)) in
    let old = g.D.Disk.facts c.args.disk.now in
    let read = get_or key.ptrs 0 c.index-key-0.result in
    let held = inner_sets c.args.g.now key c.args.level old c.word_of.result read.offset c.in_ok-sets.sets.items c.requires.level c.requires.pointer (c.word_of.ensures ∙ ap ptr_word first) (ap (λ (p : Ptr). p.offset) first)
    c.in_ok-sets.ensures.proper.some c.in_ok-sets.ensures.found in
    inner_held c.args.g.now key c.args.level c.args.from old c.as_slice.result.now c.inner_of.result (subst (λ (ss : List Set). AreInnerSets c.args.g.now key c.args.level old ss) (sym c.as_slice.ensures.value) held) c.inner_of.ensures.ok

pub returns-clause-refused : goal.returns-clause-refused
returns-clause-refused g c =
    let key = c.args.key.now in
    let six = key.six_places in
    let first = get_or_default key.ptrs 0 c.index-key-0.result no_ptr (omega (arith, six)) in
    let old = g.D.Disk.facts c.args.disk.now in
    let read = get_or key.ptrs 0 c.index-key-0.result in
    let held = inner_sets c.args.g.now key c.args.level old c.word_of.result read.offset c.in_ok-sets.sets.items c.requires.level c.requires.pointer (c.word_of.ensures ∙ ap ptr_word first) (ap (λ (p : Ptr). p.offset) first)
    c.in_ok-sets.ensures.proper.some c.in_ok-sets.ensures.found in
    inner_refused c.args.g.now key c.args.level c.args.from old (g.D.Disk.facts c.load_sets.new.disk) c.as_slice.result.now c.inner_of.result
    (subst (λ (ss : List Set). AreInnerSets c.args.g.now key c.args.level old ss) (sym c.as_slice.ensures.value) held) c.in_ok-sets.ensures.read c.inner_of.ensures.refused
