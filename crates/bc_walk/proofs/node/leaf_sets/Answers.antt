use Rattle.std.proofs.Common.{get_or, ap, ◌∙◌, sym, subst, arith, List}
use Rattle.std.specs.Prelude.{All}
use Rattle.std.proofs.lemmas.List.{get_or_default}
use Rattle.bc_image.specs.Sound.{LiesWithin}
use Rattle.bc_image.specs.Tree.{set_keys}
use Rattle.bc_key.specs.Ptr.{no_ptr}
use Rattle.bc_key.specs.Words.{ptr_word}
use Rattle.bc_key.specs.declared.ptr.Ptr.{Ptr}
use Rattle.bc_set.specs.declared.set.Set.{Set}
use Rattle.bc_node.proofs.Leaves.{leaf_sets}
use Rattle.bc_walk.specs.Loading.{IsUnread}
use Rattle.bc_walk.proofs.Nodes.{leaf_unread, leaf_whole, out_of_range}
use Rattle.bc_walk.proofs.node.leaf_sets.Goals as goal

pub returns-then-not-lie_within-clause-refused : goal.returns-then-not-lie_within-clause-refused
returns-then-not-lie_within-clause-refused g c =
    let key = c.args.key.now in
    let six = key.six_places in
    let first = get_or_default key.ptrs 0 c.index-key-0.result no_ptr (omega (arith, six)) in
    let old = g.D.Disk.facts c.args.disk.now in
    let read = get_or key.ptrs 0 c.index-key-0.result in
    let held = leaf_sets c.args.g.now key old c.word_of.result read.offset c.in-Ok.sets.items c.requires.proper.some (c.word_of.ensures ∙ ap ptr_word first) (ap (λ (p : Ptr). p.offset) first)
    c.in-Ok.ensures.proper.some c.in-Ok.ensures.found in
    out_of_range old c.args.g.now 0 c.args.from key c.args.bucket c.in-Ok.sets.items held
    (λ keeps. c.if-not-lie_within.ensures (subst (λ (ss : List Set). All (LiesWithin 0 c.args.from key.end) (set_keys ss)) (sym c.deref.ensures.value) keeps.within))

pub returns-else-not-lie_within-clause-found : goal.returns-else-not-lie_within-clause-found
returns-else-not-lie_within-clause-found g c =
    let key = c.args.key.now in
    let six = key.six_places in
    let first = get_or_default key.ptrs 0 c.index-key-0.result no_ptr (omega (arith, six)) in
    let old = g.D.Disk.facts c.args.disk.now in
    let read = get_or key.ptrs 0 c.index-key-0.result in
    let held = leaf_sets c.args.g.now key old c.word_of.result read.offset c.in-Ok.sets.items c.requires.proper.some (c.word_of.ensures ∙ ap ptr_word first) (ap (λ (p : Ptr). p.offset) first)
    c.in-Ok.ensures.proper.some c.in-Ok.ensures.found in
    leaf_whole old c.args.g.now c.args.from key c.in-Ok.sets.items held (subst (λ (ss : List Set). All (LiesWithin 0 c.args.from key.end) (set_keys ss)) c.deref.ensures.value c.if-not-lie_within.ensures)

pub returns-in-Err-clause-refused : goal.returns-in-Err-clause-refused
returns-in-Err-clause-refused g c =
    let key = c.args.key.now in
    let six = key.six_places in
    let first = get_or_default key.ptrs 0 c.index-key-0.result no_ptr (omega (arith, six)) in
    let old = g.D.Disk.facts c.args.disk.now in
    let read = get_or key.ptrs 0 c.index-key-0.result in
    subst (IsUnread old c.args.g.now 0 c.args.from key c.args.bucket) (sym c.error_of.ensures)
    (leaf_unread old (g.D.Disk.facts c.load_sets.new.disk) c.args.g.now c.args.from key c.args.bucket c.word_of.result read.offset c.in-Err.why (c.word_of.ensures ∙ ap ptr_word first) (ap (λ (p : Ptr). p.offset) first) c.in-Err.ensures.refused)
