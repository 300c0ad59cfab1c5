use Rattle.std.proofs.Common.{◌≡◌, ℕ, ◌+◌, ◌<◌, ◌∷◌, [], List, get_or, set, length-set, sym, ap, ◌∙◌, subst, arith}
use Rattle.std.proofs.lemmas.List.{get_or_default}
use Rattle.bc_alloc.specs.Reserve.{Reserve, no_reserve, appended, times}
use Rattle.bc_alloc.specs.Reserves.{Reserves, stored, times_listed}
use Rattle.bc_alloc.specs.Inside.{reserves_in}
use Rattle.bc_alloc.proofs.Times.{appended_fits, flagged_put, short_set, times-append, times_put}
use Rattle.bc_alloc.proofs.Stores.{stored_at, IsFirst}
use Rattle.bc_alloc.proofs.reserves.Reserves.store.Goals as goal

found : (c : goal.After-self-2-1) → IsFirst c.self.inside.lists.items c.in-Some.place
found c = subst (λ (ls : List Reserve). IsFirst ls c.in-Some.place) c.deref.ensures.value c.in-Some.ensures.some

list : (c : goal.After-self-2-1) → c.push.new.self ≡ appended c.args.bucket (get_or c.self.inside.lists.items c.in-Some.place no_reserve)
list c =
    c.push.ensures ∙ ap (λ (l : Reserve). appended c.args.bucket l) (c.index_mut-list.ensures.value ∙ sym (get_or_default c.self.inside.lists.items c.in-Some.place no_reserve c.index_mut-list.result.now (found c).0))

more : (c : goal.After-self-2-1) (j : ℕ) → times j c.push.new.self.buckets ≡ times j (get_or c.self.inside.lists.items c.in-Some.place no_reserve).buckets + times j (c.args.bucket ∷ [])
more c j = ap (λ (l : Reserve). times j l.buckets) (list c) ∙ times-append j (get_or c.self.inside.lists.items c.in-Some.place no_reserve).buckets (c.args.bucket ∷ [])

pub invariant_of-self : goal.invariant_of-self
invariant_of-self c =
    let loose = subst (λ (r : Reserves). times_listed r c.args.bucket ≡ 0) (sym c.self.view_is) c.requires.loose in
    let below = subst (λ (r : Reserves). c.args.bucket < r.count) (sym c.self.view_is) c.requires.bucket in
    record {
      four = length-set c.self.inside.lists.items c.in-Some.place c.push.new.self ∙ c.self.invariant.four;
      short = short_set c.self.inside.lists.items c.in-Some.place c.push.new.self c.self.invariant.short (found c).0 (appended_fits c.push.new.self (get_or c.self.inside.lists.items c.in-Some.place no_reserve) c.args.bucket (list c) (found c).1);
      flagged = flagged_put (reserves_in c.self.inside) c.self.inside.listed.items c.in-Some.place c.push.new.self c.args.bucket c.self.invariant.flagged (found c).0 below loose (more c);
      raised_room = c.self.invariant.raised_room;
      heap_room = c.self.invariant.heap_room;
      taken_room = c.self.invariant.taken_room;
    }

pub returns-clause-lists : goal.returns-clause-lists
returns-clause-lists c =
    ap (λ (ls : List Reserve). record (reserves_in c.self.inside) { lists = ls })
    (ap (λ (l : Reserve). set c.self.inside.lists.items c.in-Some.place l) (list c) ∙ sym (stored_at c.args.bucket c.self.inside.lists.items c.in-Some.place (found c).0 (found c).1 (found c).2))
    ∙ ap (λ (r : Reserves). record r { lists = stored c.args.bucket r.lists }) c.self.view_is

pub returns-clause-times : goal.returns-clause-times
returns-clause-times c = λ k.
    let e = times_put (reserves_in c.self.inside) c.in-Some.place c.push.new.self c.args.bucket (found c).0 (more c) k in
    let same = ap (λ (r : Reserves). times_listed r k) c.self.view_is in
    omega arith
