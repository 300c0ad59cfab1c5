use Rattle.std.proofs.Common.{◌/◌, ap, ◌∙◌, arith}
use Rattle.std.proofs.lemmas.List.{get_or_default}
use Rattle.bc_key.specs.Key.{ptr_at}
use Rattle.bc_key.specs.Ptr.{no_ptr}
use Rattle.bc_key.specs.declared.ptr.Ptr.{Ptr}
use Rattle.bc_walk.proofs.Nodes.{node_in}
use Rattle.bc_walk.proofs.pointers.bucket_of.Goals as goal

pub returns : goal.returns
returns c =
    let key = c.args.key.now in
    let six = key.six_places in
    let some = c.if-key-eq0.false in
    let first = get_or_default key.ptrs 0 c.index-key-0.result no_ptr (omega (arith, six)) in
    node_in c.args.g.now key _ (record { size = c.if-key-g.false; some = omega (arith, some); ptrs = c.if-not-points_into_data.ensures })
    (ap (λ (q : Ptr). q.offset / c.from.result) first ∙ ap (λ n. (ptr_at key 0).offset / n) c.from.ensures)
