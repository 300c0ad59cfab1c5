use Rattle.std.proofs.Common.{ℕ, ◌<◌, ◌^◌, ◌++◌, List, Bool, length, drop, rules, sym, ap, ◌∙◌, subst, arith}
use Rattle.bc_bucket.specs.Bucket.{raised}
use Rattle.bc_bucket.specs.Buckets.{Buckets}
use Rattle.bc_alloc.specs.Reserve.{Reserve, IsDistinct, times}
use Rattle.bc_alloc.specs.Reserves.{Reserves, wanted}
use Rattle.bc_alloc.specs.Victims.{AreFirst, IsCandidate, IsOpen}
use Rattle.bc_alloc.specs.Inside.{reserves_in}
use Rattle.bc_alloc.specs.Buckets.{AreFor, all_changed}
use Rattle.bc_alloc.proofs.Raising.{distinct, each_chosen, for_all, newly, seen_as, room_for_victims, victims}
use Rattle.bc_alloc.proofs.reserves.Reserves.refill.Goals as goal

pub raise_all-requires-clause-distinct : goal.raise_all-requires-clause-distinct
raise_all-requires-clause-distinct c =
    let found = seen_as c.args.b.now.records c.records-records.result.now c.self.inside.listed.items c.deref.result.now c.wanted-most.result c.find_first.new.taken.items c.records-records.ensures c.deref.ensures.value c.find_first.ensures.first in
    subst (λ (ks : List ℕ). IsDistinct ks) (sym c.deref-2.ensures.value) (distinct (IsOpen c.args.b.now.records c.self.inside.listed.items) c.args.b.now.records c.wanted-most.result c.find_first.new.taken.items found)

pub raise_all-requires-clause-candidates : goal.raise_all-requires-clause-candidates
raise_all-requires-clause-candidates c = λ k some.
    let found = seen_as c.args.b.now.records c.records-records.result.now c.self.inside.listed.items c.deref.result.now c.wanted-most.result c.find_first.new.taken.items c.records-records.ensures c.deref.ensures.value c.find_first.ensures.first in
    let there = subst (λ (ks : List ℕ). 0 < times k ks) c.deref-2.ensures.value some in
    subst (λ (fs : List Bool). IsOpen c.args.b.now.records fs k) (sym c.deref_mut.ensures.value)
    (each_chosen (IsOpen c.args.b.now.records c.self.inside.listed.items) c.args.b.now.records c.wanted-most.result c.find_first.new.taken.items found k there)

pub raise_all-requires-clause-room : goal.raise_all-requires-clause-room
raise_all-requires-clause-room c =
    let found = seen_as c.args.b.now.records c.records-records.result.now c.self.inside.listed.items c.deref.result.now c.wanted-most.result c.find_first.new.taken.items c.records-records.ensures c.deref.ensures.value c.find_first.ensures.first in
    let room = room_for_victims (reserves_in c.self.inside) c.self.inside.listed.items c.args.b.now c.wanted-most.result c.find_first.new.taken.items c.self.invariant.flagged (c.requires.same_count ∙ ap (λ (r : Reserves). r.count) (sym c.self.view_is)) found in
    let same = ap (λ (ks : List ℕ). length ks) c.deref-2.ensures.value in
    let all = c.self.invariant.raised_room in
    omega arith

pub overflow_cast-result : goal.overflow_cast-result
overflow_cast-result c =
    let found = seen_as c.args.b.now.records c.records-records.result.now c.self.inside.listed.items c.deref.result.now c.wanted-most.result c.find_first.new.taken.items c.records-records.ensures c.deref.ensures.value c.find_first.ensures.first in
    let room = room_for_victims (reserves_in c.self.inside) c.self.inside.listed.items c.args.b.now c.wanted-most.result c.find_first.new.taken.items c.self.invariant.flagged (c.requires.same_count ∙ ap (λ (r : Reserves). r.count) (sym c.self.view_is)) found in
    let small : c.self.inside.count < 2 ^ 32 = omega arith in
    let len = c.len.ensures in
    let fits : c.len.result < 2 ^ 32 = omega (arith, c.find_first.new.taken.ok.0) in
    search rules

pub returns-clause-victims : goal.returns-clause-victims
returns-clause-victims c =
    let vs = c.find_first.new.taken.items in
    let found = seen_as c.args.b.now.records c.records-records.result.now c.self.inside.listed.items c.deref.result.now c.wanted-most.result c.find_first.new.taken.items c.records-records.ensures c.deref.ensures.value c.find_first.ensures.first in
    let of_fields = victims (reserves_in c.self.inside) c.args.b.now c.self.inside.listed.items c.wanted-most.result vs c.self.invariant.flagged found in
    let whole = subst (λ (r : Reserves). AreFirst (IsCandidate r c.args.b.now) c.args.b.now.records c.wanted-most.result vs) c.self.view_is of_fields in
    let counted = subst (λ n. AreFirst (IsCandidate c.args.self.now c.args.b.now) c.args.b.now.records n vs) c.wanted-most.ensures whole in
    let added = ap (λ (l : Reserve). l.buckets) c.raise_all.ensures.list ∙ ap (λ (ks : List ℕ). c.self.inside.raised.buckets ++ ks) c.deref-2.ensures.value in
    let same = ap (λ (ks : List ℕ). drop (length c.args.self.now.raised) ks) added ∙ ap (λ (r : Reserves). drop (length r.raised) (c.self.inside.raised.buckets ++ vs)) (sym c.self.view_is) ∙ newly (reserves_in c.self.inside) vs in
    subst (λ (ks : List ℕ). AreFirst (IsCandidate c.args.self.now c.args.b.now) c.args.b.now.records (wanted c.args.self.now) ks) (sym same) counted

pub returns-clause-fit : goal.returns-clause-fit
returns-clause-fit c =
    let vs = c.find_first.new.taken.items in
    let found = seen_as c.args.b.now.records c.records-records.result.now c.self.inside.listed.items c.deref.result.now c.wanted-most.result c.find_first.new.taken.items c.records-records.ensures c.deref.ensures.value c.find_first.ensures.first in
    let fit = for_all (reserves_in c.self.inside) c.self.inside.listed.items c.args.b.now c.wanted-most.result vs c.self.invariant.flagged (subst (λ (r : Reserves). AreFor r c.args.b.now) (sym c.self.view_is) c.requires) found in
    let added = ap (λ (l : Reserve). l.buckets) c.raise_all.ensures.list ∙ ap (λ (ks : List ℕ). c.self.inside.raised.buckets ++ ks) c.deref-2.ensures.value in
    let changed_all = c.raise_all.ensures.buckets ∙ ap (λ (ks : List ℕ). all_changed raised ks c.args.b.now) c.deref-2.ensures.value in
    subst (λ (ks : List ℕ). AreFor (record (reserves_in c.self.inside) { raised = ks }) c.raise_all.new.b) (sym added)
    (subst (λ (d : Buckets). AreFor (record (reserves_in c.self.inside) { raised = c.self.inside.raised.buckets ++ vs }) d) (sym changed_all) fit)
