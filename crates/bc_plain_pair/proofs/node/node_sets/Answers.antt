use Rattle.std.proofs.Common.{◌+◌, ◌++◌, sym, ap, ◌∙◌}
use Rattle.bc_disk.specs.Bytes.{image_of}
use Rattle.bc_record.proofs.Blocks.{node_blocks}
use Rattle.bc_plain_pair.proofs.Sets.{sets_there, no_first}
use Rattle.bc_plain_pair.proofs.node.node_sets.Goals as goal

pub add_further-requires-clause-blocks : goal.add_further-requires-clause-blocks
add_further-requires-clause-blocks c =
    let k = node_blocks c.args.g.now in
    (k.0, ap (λ n. c.in-Some.ptr.offset + n) (c.from.ensures ∙ k.1))

pub returns-in_default-2 : goal.returns-in_default-2
returns-in_default-2 c =
    let none = rw c.in_default-2.is at c.in_ok-first.ensures in
    no_first c.args.g.now (image_of c.args.image.now) c.args.level c.word_of-word.result (c.in-Some.ptr.offset + c.from.result) c.kind_at-kind.result c.args.key.now c.in-Some.ptr
    (sym c.pointer.ensures ∙ c.in-Some.is) c.word_of-word.ensures c.kind_at-kind.ensures (ap (λ n. c.in-Some.ptr.offset + n) c.from.ensures) none

pub returns : goal.returns
returns c =
    let found = rw c.in-Some-2.is at c.in_ok-first.ensures in
    let list = c.in_ok-add_further.ensures in
    rw (list.2 ∙ ap (λ xs. xs ++ list.0) c.new-sets.ensures.items)
    (sets_there c.args.g.now (image_of c.args.image.now) c.args.level c.word_of-word.result (c.in-Some.ptr.offset + c.from.result) c.kind_at-kind.result c.args.key.now c.in-Some.ptr c.in-Some-2.first list.0
    (sym c.pointer.ensures ∙ c.in-Some.is) c.word_of-word.ensures c.kind_at-kind.ensures (ap (λ n. c.in-Some.ptr.offset + n) c.from.ensures) found list.1)
