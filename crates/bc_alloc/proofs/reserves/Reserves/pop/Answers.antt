use Rattle.std.proofs.Common.{get_or, set, length-set, sym, ap, ◌∙◌, subst, arith}
use Rattle.bc_alloc.specs.Reserve.{Reserve, no_reserve}
use Rattle.bc_alloc.specs.Reserves.{Reserves, TakesFirst, times_listed}
use Rattle.bc_alloc.specs.Inside.{reserves_in}
use Rattle.bc_alloc.proofs.Times.{got_loose, takes_first, first_is_listed, flagged_got, list_there, first_fits, short_set, times_first, times_got}
use Rattle.bc_alloc.proofs.reserves.Reserves.pop.Goals as goal

pub index_mut-requires : goal.index_mut-requires
index_mut-requires c =
    let four = c.self.invariant.four in
    let p = c.place.ensures.small in
    let there = list_there c.self.inside.lists.items c.place.result c.index_mut-list.result.now (omega arith) c.index_mut-list.ensures.value in
    let first = ap (λ (l : Reserve). l.buckets) there ∙ c.in_ok-bucket.ensures.some in
    let below = first_is_listed (reserves_in c.self.inside) c.self.inside.listed.items c.place.result c.pop.new.self c.in_ok-bucket.bucket c.self.invariant.flagged (omega arith) first in
    omega (arith, c.self.inside.listed.ok.0)

pub returns-clause-some : goal.returns-clause-some
returns-clause-some c =
    let four = c.self.invariant.four in
    let p = c.place.ensures.small in
    let there = list_there c.self.inside.lists.items c.place.result c.index_mut-list.result.now (omega arith) c.index_mut-list.ensures.value in
    let first = ap (λ (l : Reserve). l.buckets) there ∙ c.in_ok-bucket.ensures.some in
    subst (λ (r : Reserves). TakesFirst c.args.purpose c.in_ok-bucket.bucket r (record (reserves_in c.self.inside) { lists = set c.self.inside.lists.items c.place.result c.pop.new.self })) c.self.view_is
    (subst (λ n. TakesFirst c.args.purpose c.in_ok-bucket.bucket (reserves_in c.self.inside) (record (reserves_in c.self.inside) { lists = set c.self.inside.lists.items n c.pop.new.self })) (sym c.place.ensures.place)
    (takes_first (reserves_in c.self.inside) c.args.purpose c.pop.new.self c.in_ok-bucket.bucket (let e = c.place.ensures.place in omega arith) (ap (λ n. (get_or c.self.inside.lists.items n no_reserve).buckets) (sym c.place.ensures.place) ∙ first) (c.in_ok-bucket.ensures.room ∙ ap (λ (l : Reserve). l.room) (sym there) ∙ ap (λ n. (get_or c.self.inside.lists.items n no_reserve).room) c.place.ensures.place)))

pub returns-clause-below : goal.returns-clause-below
returns-clause-below c =
    let four = c.self.invariant.four in
    let p = c.place.ensures.small in
    let there = list_there c.self.inside.lists.items c.place.result c.index_mut-list.result.now (omega arith) c.index_mut-list.ensures.value in
    let first = ap (λ (l : Reserve). l.buckets) there ∙ c.in_ok-bucket.ensures.some in
    let below = first_is_listed (reserves_in c.self.inside) c.self.inside.listed.items c.place.result c.pop.new.self c.in_ok-bucket.bucket c.self.invariant.flagged (omega arith) first in
    let all = c.self.invariant.flagged.all in
    let same = ap (λ (r : Reserves). r.count) c.self.view_is in
    omega arith

pub returns-clause-loose : goal.returns-clause-loose
returns-clause-loose c =
    let four = c.self.invariant.four in
    let p = c.place.ensures.small in
    let there = list_there c.self.inside.lists.items c.place.result c.index_mut-list.result.now (omega arith) c.index_mut-list.ensures.value in
    let first = ap (λ (l : Reserve). l.buckets) there ∙ c.in_ok-bucket.ensures.some in
    got_loose (reserves_in c.self.inside) (record (reserves_in c.self.inside) { lists = set c.self.inside.lists.items c.place.result c.pop.new.self }) c.self.inside.listed.items c.in_ok-bucket.bucket c.self.invariant.flagged
    (times_got (reserves_in c.self.inside) c.place.result c.pop.new.self c.in_ok-bucket.bucket (omega arith) (times_first c.pop.new.self.buckets (get_or c.self.inside.lists.items c.place.result no_reserve).buckets c.in_ok-bucket.bucket first) c.in_ok-bucket.bucket)

pub returns-clause-times : goal.returns-clause-times
returns-clause-times c =
    let four = c.self.invariant.four in
    let p = c.place.ensures.small in
    let there = list_there c.self.inside.lists.items c.place.result c.index_mut-list.result.now (omega arith) c.index_mut-list.ensures.value in
    let first = ap (λ (l : Reserve). l.buckets) there ∙ c.in_ok-bucket.ensures.some in
    λ k. times_got (reserves_in c.self.inside) c.place.result c.pop.new.self c.in_ok-bucket.bucket (omega arith) (times_first c.pop.new.self.buckets (get_or c.self.inside.lists.items c.place.result no_reserve).buckets c.in_ok-bucket.bucket first) k
    ∙ ap (λ (r : Reserves). times_listed r k) c.self.view_is

pub invariant_of-self-2 : goal.invariant_of-self-2
invariant_of-self-2 c =
    let four = c.self.invariant.four in
    let p = c.place.ensures.small in
    let there = list_there c.self.inside.lists.items c.place.result c.index_mut-list.result.now (omega arith) c.index_mut-list.ensures.value in
    let first = ap (λ (l : Reserve). l.buckets) there ∙ c.in_ok-bucket.ensures.some in
    let below = first_is_listed (reserves_in c.self.inside) c.self.inside.listed.items c.place.result c.pop.new.self c.in_ok-bucket.bucket c.self.invariant.flagged (omega arith) first in
    record {
      four = length-set c.self.inside.lists.items c.place.result c.pop.new.self ∙ four;
      short = short_set c.self.inside.lists.items c.place.result c.pop.new.self c.self.invariant.short (omega arith) (first_fits c.self.inside.lists.items c.place.result c.pop.new.self c.in_ok-bucket.bucket c.self.invariant.short first (c.in_ok-bucket.ensures.room ∙ ap (λ (l : Reserve). l.room) (sym there)));
      flagged = flagged_got (reserves_in c.self.inside) c.self.inside.listed.items c.place.result c.pop.new.self c.in_ok-bucket.bucket c.self.invariant.flagged (omega arith) below (times_first c.pop.new.self.buckets (get_or c.self.inside.lists.items c.place.result no_reserve).buckets c.in_ok-bucket.bucket first);
      raised_room = c.self.invariant.raised_room;
      heap_room = c.self.invariant.heap_room;
      taken_room = c.self.invariant.taken_room;
    }
