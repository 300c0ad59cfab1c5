use Rattle.std.proofs.Common.{◌≡◌, List, get_or, set, sym, ap, ◌∙◌, subst}
use Rattle.std.proofs.lemmas.List.{get_or_default}
use Rattle.bc_alloc.specs.Reserve.{Reserve, no_reserve, appended}
use Rattle.bc_alloc.specs.Reserves.{Reserves, stored}
use Rattle.bc_alloc.proofs.Stores.{stored_at, IsFirst}
use Rattle.bc_plain.proofs.reserves.PlainReserves.store.Goals as goal

pub returns : goal.returns
returns c =
    let items = c.self.inside.lists.items in
    let place = c.in-Some.place in
    let found = subst (λ (ls : List Reserve). IsFirst ls place) c.deref.ensures.value c.in-Some.ensures.some in
    let list : c.push.new.self ≡ appended c.args.bucket (get_or items place no_reserve) =
    c.in_ok-push.ensures ∙ ap (λ (l : Reserve). appended c.args.bucket l) (c.index_mut-list.ensures.value ∙ sym (get_or_default items place no_reserve c.index_mut-list.result.now found.0)) in
    let whole = ap (λ (l : Reserve). set items place l) list ∙ sym (stored_at c.args.bucket items place found.0 found.1 found.2) in
    ap (λ (ls : List Reserve). record { count = c.self.inside.count; lists = ls; raised = c.self.inside.raised.items }) whole
    ∙ ap (λ (r : Reserves). record r { lists = stored c.args.bucket r.lists }) c.self.view_is
