use Rattle.std.proofs.Common.{◌-◌, ◌<◌, List, ◌∷◌, [], ◌++◌, length, get_or, take, sym, ap, ◌∙◌, subst, arith}
use Rattle.std.specs.Prelude.{Option}
use Rattle.std.proofs.lemmas.List.{length_push}
use Rattle.bc_alloc.proofs.Loops.{stored_more}
use Rattle.bc_alloc.specs.Reserves.{returned_all, stored_all}
use Rattle.bc_alloc.specs.declared.purpose.Purpose.{Purpose}
use Rattle.bc_events.specs.declared.event.Listing.{Listing}
use Rattle.bc_raise.specs.bc_renew.Goes.{goes_to}
use Rattle.bc_ready.specs.Free.{AreFree}
use Rattle.bc_ready.proofs.Free.{listings_more}
use Rattle.bc_ready.proofs.plan.list_named.Goals as goal

pub loop-place-preserved : goal.loop-place-preserved
loop-place-preserved c =
    let l = c.loop-place in
    let before = c.args.before in
    let rs = c.args.reserves.now.raised in
    let ls = returned_all c.args.old.now c.args.reserves.now.lists in
    let k = get_or rs l.place 0 in
    let below = c.loop-place-test.true in
    let end = l.auto.place-end in
    let named = c.requires.named in
    let items = c.push_reserved.ensures.items in
    let capacity = c.push_reserved.ensures.capacity in
    let few = l.invariant.2 in
    let room = l.invariant.3 in
    let inside : l.place < length rs = omega (arith, below, named, end) in
    let its = c.next_list-list.ensures (stored_all (take l.place rs) ls) k l.invariant.0 in
    let long = ap (λ (x : List Listing). length x) items ∙ length_push l.listed.items
    (record { bucket = c.saturating_sub-bucket.result; list = c.next_list-list.result }) in (
      subst (AreFree c.next_list-list.new.free) (sym (stored_more rs l.place ls inside)) its.1,
      items
          ∙ ap (λ n. l.listed.items ++ record { bucket = n; list = c.next_list-list.result } ∷ [])
          (c.saturating_sub-bucket.ensures ∙ ap (λ m. m - before) c.raised.ensures)
          ∙ ap (λ (o : Option Purpose). l.listed.items ++ record { bucket = k - before; list = o }
          ∷ []) its.0
          ∙ ap (λ (xs : List Listing). xs ++ record {
            bucket = k - before;
            list = goes_to (stored_all (take l.place rs) ls);
          } ∷ []) l.invariant.1 ∙ sym (listings_more before rs l.place ls inside),
      omega (arith, long, few),
      omega (arith, capacity, room),
    )
