use Rattle.std.proofs.Common.{◌≡◌, inl, ℕ, suc, ◌<◌, ◌≤◌, List, Some, length, get_or, refl, subst, sym, ap, arith}
use Rattle.std.specs.Prelude.{All, Contains}
use Rattle.std.proofs.lemmas.List.Elements.{All-push, Contains-push}
use Rattle.std.proofs.lemmas.Option.{slice_get_within, get_or_from_slice_get}
use Rattle.std.proofs.lemmas.Result.{err_from_is_err_and}
use Rattle.bc_jset.specs.Entries.{FoundEntry, first_with, AreNumbered}
use Rattle.bc_entries.specs.Lists.{picked}
use Rattle.bc_entries.proofs.Lists.{numbered_more, unlisted_by}
use Rattle.bc_entries.proofs.list.list.Goals as goal

pub returns-then-high-low-clause-unlisted : goal.returns-then-high-low-clause-unlisted
returns-then-high-low-clause-unlisted c =
    let all = c.args.all.now in
    let so = c.newest_of-newest.ensures in
    let i = c.newest_of-newest.result in
    let first = ap (λ (e : FoundEntry). e.item.seq) (get_or_from_slice_get all i so.0 c.index-all-newest.result so.1) in
    let last = ap (λ (e : FoundEntry). e.item.last_seq) (get_or_from_slice_get all i so.0 c.index-all-newest-2.result so.1) in
    (so.0, so.2, inl (record { newer = omega (arith, c.if-high-low.true, first, last); first = first; last = last }))

pub count_up-requires-clause-there : goal.count_up-requires-clause-there
count_up-requires-clause-there c =
    let all = c.args.all.now in
    let so = c.newest_of-newest.ensures in
    let first = ap (λ (e : FoundEntry). e.item.seq) (get_or_from_slice_get all c.newest_of-newest.result so.0 c.index-all-newest.result so.1) in
    (so.0, subst (λ n. first_with n all ≡ Some so.0) (sym first) so.2.counts)

pub returns-in_err-order-clause-unlisted : goal.returns-in_err-order-clause-unlisted
returns-in_err-order-clause-unlisted c =
    let all = c.args.all.now in
    let so = c.newest_of-newest.ensures in
    let last = ap (λ (e : FoundEntry). e.item.last_seq) (get_or_from_slice_get all c.newest_of-newest.result so.0 c.index-all-newest-2.result so.1) in
    let p = err_from_is_err_and c.from_residual-in_err-order.result c.from_residual-in_err-order.ensures.1 in
    rw (p.1, p.2) (unlisted_by all so.0 (get_or all c.newest_of-newest.result c.index-all-newest-2.result).item.last_seq c.in_err-order.field-0.0 so.2 last c.in_err-order.ensures.gap)

pub returns-clause-listed : goal.returns-clause-listed
returns-clause-listed c =
    let all = c.args.all.now in
    let i = c.newest_of-newest.result in
    let so = c.newest_of-newest.ensures in
    let e = so.0 in
    let order = c.in_ok-order.order.items in
    let first = ap (λ (x : FoundEntry). x.item.seq) (get_or_from_slice_get all i so.0 c.index-all-newest.result so.1) in
    let last = ap (λ (x : FoundEntry). x.item.last_seq) (get_or_from_slice_get all i so.0 c.index-all-newest-2.result so.1) in
    let low = subst (λ n. AreNumbered all n (picked all order) (get_or all i c.index-all-newest.result).item.seq) last c.in_ok-order.ensures.listed in
    let both = subst (λ n. AreNumbered all e.item.last_seq (picked all order) n) first low in
    let more = numbered_more all e.item.last_seq e.item.seq (suc e.item.seq) order i e refl both so.1 so.2.counts in (
      e,
      so.1,
      record {
        is_newest = so.2;
        reaches = omega (arith, c.if-high-low.false, first, last);
        numbered = subst (λ (xs : List ℕ). AreNumbered all e.item.last_seq (picked all xs) (suc e.item.seq)) (sym c.in_ok-push.ensures.items) more;
      },
    )

pub returns-clause-places : goal.returns-clause-places
returns-clause-places c =
    let all = c.args.all.now in
    let so = c.newest_of-newest.ensures in
    subst (λ (xs : List ℕ). All (λ p. p < length all) xs) (sym c.in_ok-push.ensures.items)
    (All-push (λ p. p < length all) c.in_ok-order.order.items c.newest_of-newest.result c.in_ok-order.ensures.places (slice_get_within all c.newest_of-newest.result so.0 so.1))

pub returns-clause-counts : goal.returns-clause-counts
returns-clause-counts c = subst (λ (xs : List ℕ). Contains xs c.newest_of-newest.result) (sym c.in_ok-push.ensures.items) (Contains-push c.in_ok-order.order.items c.newest_of-newest.result)
