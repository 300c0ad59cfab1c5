use Rattle.std.proofs.Common.{◌≡◌, List, [], ◌∷◌, ◌++◌, subst, sym, ap, ◌∙◌, arith}
use Rattle.bc_disk.specs.Bytes.{image_of}
use Rattle.bc_record.specs.Sectors.{in_blocks}
use Rattle.bc_set.specs.declared.set.Set.{Set}
use Rattle.bc_set.specs.Records.{set_sectors, numbered_kind}
use Rattle.bc_set.proofs.SetLaws.{set_fits}
use Rattle.bc_record.specs.Kind.{AreFound}
use Rattle.bc_node.specs.Sets.{AreSetsFrom, AreProper, taken_by}
use Rattle.bc_node.proofs.Rows.{run_short}
use Rattle.bc_node.proofs.Bytes.{blocks_left, sets_there, proper_from}
use Rattle.bc_node.proofs.read.with_further.Goals as goal

pub in_blocks-from-requires-clause-bytes : goal.in_blocks-from-requires-clause-bytes
in_blocks-from-requires-clause-bytes c =
    let g = c.args.g.now in
    let fits = set_fits c.args.word g.set_magic c.args.kind c.args.bytes.now c.args.first c.requires.first in
    let few = g.node_is_one in
    omega (arith, fits, c.requires.whole, few, c.bytes.ensures)

pub add_further-requires-clause-blocks : goal.add_further-requires-clause-blocks
add_further-requires-clause-blocks c =
    let g = c.args.g.now in
    blocks_left g c.args.word c.args.kind c.args.bytes.now c.args.first c.in_blocks-from.result c.requires.whole c.requires.first (c.in_blocks-from.ensures ∙ ap (λ n. in_blocks g.block n) c.bytes.ensures)

pub returns-clause-sets : goal.returns-clause-sets
returns-clause-sets c = λ image from has.
    let g = c.args.g.now in
    let first = c.args.first in
    let more = c.in_ok-add_further.ensures in
    let size : c.in_blocks-from.result ≡ set_sectors g first = c.in_blocks-from.ensures ∙ ap (λ n. in_blocks g.block n) c.bytes.ensures in
    let further = subst (λ n. AreFound (numbered_kind g c.args.word c.args.kind first.seq) (image_of c.args.bytes.now) g.node_sectors n more.0) size more.1 in
    let items : c.add_further.new.sets.items ≡ first ∷ more.0 =
    more.2 ∙ ap (λ (xs : List Set). xs ++ more.0) (c.in_ok-push.ensures.items ∙ ap (λ (xs : List Set). xs ++ first ∷ []) c.new-sets.ensures.items) in
    subst (λ (xs : List Set). AreSetsFrom g c.args.word c.args.kind from image xs) (sym items)
    (sets_there g c.args.word c.args.kind c.args.bytes.now image from first more.0 c.requires.whole has c.requires.first further)

pub returns-clause-proper : goal.returns-clause-proper
returns-clause-proper c =
    let g = c.args.g.now in
    let first = c.args.first in
    let more = c.in_ok-add_further.ensures in
    let items : c.add_further.new.sets.items ≡ first ∷ more.0 =
    more.2 ∙ ap (λ (xs : List Set). xs ++ more.0) (c.in_ok-push.ensures.items ∙ ap (λ (xs : List Set). xs ++ first ∷ []) c.new-sets.ensures.items) in
    subst (AreProper c.args.kind) (sym items) (proper_from g c.args.word c.args.kind first.seq (image_of c.args.bytes.now) g.node_sectors c.in_blocks-from.result first more.0 c.requires.first.proper more.1)

pub returns-clause-short : goal.returns-clause-short
returns-clause-short c =
    let g = c.args.g.now in
    let first = c.args.first in
    let more = c.in_ok-add_further.ensures in
    let size : c.in_blocks-from.result ≡ set_sectors g first = c.in_blocks-from.ensures ∙ ap (λ n. in_blocks g.block n) c.bytes.ensures in
    let items : c.add_further.new.sets.items ≡ first ∷ more.0 =
    more.2 ∙ ap (λ (xs : List Set). xs ++ more.0) (c.in_ok-push.ensures.items ∙ ap (λ (xs : List Set). xs ++ first ∷ []) c.new-sets.ensures.items) in
    let left = blocks_left g c.args.word c.args.kind c.args.bytes.now first c.in_blocks-from.result c.requires.whole c.requires.first size in
    let short = run_short g c.args.word c.args.kind first.seq (image_of c.args.bytes.now) c.in_blocks-from.result left.0 more.0 left.1 more.1 in
    omega (arith, short, size, ap (λ (xs : List Set). taken_by g xs) items)
