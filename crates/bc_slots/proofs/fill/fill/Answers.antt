use Rattle.std.proofs.Common.{◌≡◌, ◌*◌, ◌+◌, ◌%◌, ◌<◌, ◌≤◌, ◌∙◌, List, [], length, get_or, take, refl, sym, subst, ap, arith}
use Rattle.std.specs.Prelude.{All, true}
use Rattle.std.proofs.lemmas.List.{get_or_default, take_all}
use Rattle.std.proofs.lemmas.Nat.{mod_below}
use Rattle.std.proofs.lemmas.Option.{slice_get_read}
use Rattle.bc_cache.specs.Slots.{Misses}
use Rattle.bc_pending.specs.declared.numbered.Numbered.{Numbered}
use Rattle.bc_prio.proofs.Chains.{kept_both}
use Rattle.bc_reload.specs.Reload.{FitsRange}
use Rattle.bc_replay.proofs.Pairs.{passed_on}
use Rattle.bc_spine.specs.declared.leaf.LeafRange.{LeafRange}
use Rattle.bc_spine.proofs.Rows.{counted_at}
use Rattle.bc_super.specs.Writing.{count_after}
use Rattle.bc_slots.specs.Filling.{TakesLeaf, calls_with}
use Rattle.bc_slots.specs.Parts.{IsPartsCause}
use Rattle.bc_slots.specs.Places.{has_keys, readings}
use Rattle.bc_slots.proofs.Calls.{readings_next}
use Rattle.bc_slots.proofs.Loads.{parts_cause, taken_back}
use Rattle.bc_slots.proofs.Steps.{all_end, all_next, few_filled, is_new, next_is_empty, part_at}
use Rattle.bc_slots.proofs.fill.fill.Goals as goal

pub take_leaf-requires-clause-room : goal.take_leaf-requires-clause-room
take_leaf-requires-clause-room g c = subst (λ n. c.args.g.now.bucket * c.args.g.now.nbuckets ≤ n) (sym c.loop-i.invariant.kept.sectors) c.requires.room

pub take_leaf-requires-clause-fit : goal.take_leaf-requires-clause-fit
take_leaf-requires-clause-fit g c =
    let leaves = c.args.leaves.now in
    let pending = c.args.pending.now in
    let i = c.loop-i.i in
    let range = c.index-leaves-i.result in
    let item = c.index-pending-i.result in
    let low : i < length leaves = c.loop-i-test.true in
    let each = c.requires.keys.each in
    let inside : i < length pending = omega (arith, low, each) in
    let fit = c.requires.keys.fit i range low in
    subst (λ (ks : List Numbered). All (FitsRange range) ks) (get_or_default pending i [] item inside ∙ sym c.index-pending-i.is ∙ sym c.as_slice-keys.ensures)
    (subst (λ (r : LeafRange). All (FitsRange r) (get_or pending i [])) (sym c.index-leaves-i.is) fit)

pub returns-in_err-take_leaf-clause-refused : goal.returns-in_err-take_leaf-clause-refused
returns-in_err-take_leaf-clause-refused g c =
    let leaves = c.args.leaves.now in
    let pending = c.args.pending.now in
    let i = c.loop-i.i in
    let range = c.index-leaves-i.result in
    let item = c.index-pending-i.result in
    let d = g.C.Disk.facts c.args.cache.now in
    let e = g.C.Disk.facts c.loop-i.cache in
    let low : i < length leaves = c.loop-i-test.true in
    let each = c.requires.keys.each in
    let inside : i < length pending = omega (arith, low, each) in
    let there = slice_get_read leaves (length leaves) i range refl low c.index-leaves-i.is in
    let keys = subst (λ (ks : List Numbered). has_keys ks ≡ true) (c.as_slice-keys.ensures ∙ c.index-pending-i.is ∙ get_or_default pending i item [] inside) c.in_err-take_leaf.ensures.keys in
    let why = c.in_err-take_leaf.field-0.0 in
    passed_on c.from_residual-in_err-take_leaf.result why (IsPartsCause c.args.g.now leaves pending d) c.from_residual-in_err-take_leaf.ensures.1
    (parts_cause c.args.g.now leaves pending d e i range why there keys c.loop-i.invariant.kept c.in_err-take_leaf.ensures.refused)

pub returns-in_err-take_leaf-clause-kept : goal.returns-in_err-take_leaf-clause-kept
returns-in_err-take_leaf-clause-kept g c =
    kept_both (g.C.Disk.facts c.args.cache.now) (g.C.Disk.facts c.loop-i.cache) (g.C.Disk.facts c.take_leaf.new.cache) c.loop-i.invariant.kept c.in_err-take_leaf.ensures.kept

pub take_leaf-requires-clause-few : goal.take_leaf-requires-clause-few
take_leaf-requires-clause-few g c =
    let leaves = c.args.leaves.now in
    let pending = c.args.pending.now in
    let count = length c.args.parts.items in
    let d = g.C.Disk.facts c.args.cache.now in
    let i = c.loop-i.i in
    let parts = c.loop-i.parts.items in
    let filled = c.loop-i.filled.items in
    let so = c.loop-i.invariant.filled in
    let many = so.many in
    let each = so.each in
    let range = c.index-leaves-i.result in
    let length_is : c.len-in-loop-i.result ≡ count = omega (arith, c.len-in-loop-i.ensures, c.loop-i.parts.ok, many) in
    let at = range.number % c.len-in-loop-i.result in
    let below : at < count = subst (λ n. range.number % n < count) (sym length_is) (mod_below range.number count c.requires.some) in
    let inside : at < length filled = omega (arith, below, each) in
    let next_is = c.index_mut-next.ensures.value ∙ get_or_default filled at c.index_mut-next.result.now 0 inside in
    let low : i < length leaves = c.loop-i-test.true in
    let part = part_at c.args.g.now leaves pending count d i at parts filled c.index_mut-part.result.now c.index_mut-next.result.now below c.index_mut-part.ensures.value next_is so in
    let few = few_filled c.args.g.now leaves pending count d at i c.index_mut-part.result.now c.index_mut-next.result.now part in
    omega (arith, few, low, c.requires.few)

pub take_leaf-requires-clause-empty : goal.take_leaf-requires-clause-empty
take_leaf-requires-clause-empty g c =
    let leaves = c.args.leaves.now in
    let pending = c.args.pending.now in
    let count = length c.args.parts.items in
    let d = g.C.Disk.facts c.args.cache.now in
    let i = c.loop-i.i in
    let parts = c.loop-i.parts.items in
    let filled = c.loop-i.filled.items in
    let so = c.loop-i.invariant.filled in
    let many = so.many in
    let each = so.each in
    let range = c.index-leaves-i.result in
    let length_is : c.len-in-loop-i.result ≡ count = omega (arith, c.len-in-loop-i.ensures, c.loop-i.parts.ok, many) in
    let at = range.number % c.len-in-loop-i.result in
    let below : at < count = subst (λ n. range.number % n < count) (sym length_is) (mod_below range.number count c.requires.some) in
    let inside : at < length filled = omega (arith, below, each) in
    let next_is = c.index_mut-next.ensures.value ∙ get_or_default filled at c.index_mut-next.result.now 0 inside in
    next_is_empty c.args.g.now leaves pending count d at i c.index_mut-part.result.now c.index_mut-next.result.now
    (part_at c.args.g.now leaves pending count d i at parts filled c.index_mut-part.result.now c.index_mut-next.result.now below c.index_mut-part.ensures.value next_is so)

pub take_leaf-requires-clause-new : goal.take_leaf-requires-clause-new
take_leaf-requires-clause-new g c =
    let leaves = c.args.leaves.now in
    let pending = c.args.pending.now in
    let count = length c.args.parts.items in
    let d = g.C.Disk.facts c.args.cache.now in
    let i = c.loop-i.i in
    let parts = c.loop-i.parts.items in
    let filled = c.loop-i.filled.items in
    let so = c.loop-i.invariant.filled in
    let many = so.many in
    let each = so.each in
    let range = c.index-leaves-i.result in
    let low : i < length leaves = c.loop-i-test.true in
    let number : range.number ≡ i =
    (let at_place = counted_at 0 leaves c.requires.counted i range low in let is = ap (λ (r : LeafRange). r.number) c.index-leaves-i.is in omega (arith, at_place, is)) in
    let length_is : c.len-in-loop-i.result ≡ count = omega (arith, c.len-in-loop-i.ensures, c.loop-i.parts.ok, many) in
    let at = range.number % c.len-in-loop-i.result in
    let below : at < count = subst (λ n. range.number % n < count) (sym length_is) (mod_below range.number count c.requires.some) in
    let inside : at < length filled = omega (arith, below, each) in
    let next_is = c.index_mut-next.ensures.value ∙ get_or_default filled at c.index_mut-next.result.now 0 inside in
    subst (λ n. Misses c.index_mut-part.result.now.slots n) (sym number)
    (is_new c.args.g.now leaves pending count d at i c.index_mut-part.result.now c.index_mut-next.result.now
    (part_at c.args.g.now leaves pending count d i at parts filled c.index_mut-part.result.now c.index_mut-next.result.now below c.index_mut-part.ensures.value next_is so))

pub loop-i-preserved : goal.loop-i-preserved
loop-i-preserved g c =
    let leaves = c.args.leaves.now in
    let pending = c.args.pending.now in
    let count = length c.args.parts.items in
    let d = g.C.Disk.facts c.args.cache.now in
    let e = g.C.Disk.facts c.loop-i.cache in
    let i = c.loop-i.i in
    let parts = c.loop-i.parts.items in
    let filled = c.loop-i.filled.items in
    let so = c.loop-i.invariant.filled in
    let many = so.many in
    let each = so.each in
    let range = c.index-leaves-i.result in
    let item = c.index-pending-i.result in
    let old = c.index_mut-part.result.now in
    let n = c.index_mut-next.result.now in
    let low : i < length leaves = c.loop-i-test.true in
    let lists = c.requires.keys.each in
    let within : i < length pending = omega (arith, low, lists) in
    let number : range.number ≡ i =
    (let at_place = counted_at 0 leaves c.requires.counted i range low in let is = ap (λ (r : LeafRange). r.number) c.index-leaves-i.is in omega (arith, at_place, is)) in
    let length_is : c.len-in-loop-i.result ≡ count = omega (arith, c.len-in-loop-i.ensures, c.loop-i.parts.ok, many) in
    let at = range.number % c.len-in-loop-i.result in
    let same : i % count ≡ at = ap (λ k. k % count) (sym number) ∙ ap (λ k. range.number % k) (sym length_is) in
    let below : at < count = subst (λ n. range.number % n < count) (sym length_is) (mod_below range.number count c.requires.some) in
    let inside : at < length filled = omega (arith, below, each) in
    let next_is = c.index_mut-next.ensures.value ∙ get_or_default filled at n 0 inside in
    let there = slice_get_read leaves (length leaves) i range refl low c.index-leaves-i.is in
    let took = taken_back c.args.g.now range c.as_slice-keys.result.now d e old c.take_leaf.new.part n c.take_leaf.new.filled c.loop-i.invariant.kept c.in_ok-take_leaf.ensures.taken in
    let same_keys = c.as_slice-keys.ensures ∙ c.index-pending-i.is ∙ get_or_default pending i item [] within in
    let calls : (g.C.Disk.facts c.take_leaf.new.cache).calls ≡ count_after (readings (take (i + 1) pending)) d.calls =
    c.in_ok-take_leaf.ensures.calls ∙ ap (λ (ks : List Numbered). calls_with ks e.calls) same_keys ∙ ap (calls_with (get_or pending i [])) c.loop-i.invariant.calls ∙ sym (readings_next pending i d.calls within) in
    let here = subst (λ (ks : List Numbered). TakesLeaf c.args.g.now range ks d old c.take_leaf.new.part n c.take_leaf.new.filled) same_keys took in
    record {
      filled = all_next c.args.g.now leaves pending count d i at parts filled old c.take_leaf.new.part n c.take_leaf.new.filled range within same below c.index_mut-part.ensures.value next_is there number here so;
      kept = kept_both d e (g.C.Disk.facts c.take_leaf.new.cache) c.loop-i.invariant.kept c.in_ok-take_leaf.ensures.kept;
      calls = calls;
      faults = c.in_ok-take_leaf.ensures.faults ∙ c.loop-i.invariant.faults;
    }

pub returns-clause-found : goal.returns-clause-found
returns-clause-found g c =
    let lists = c.requires.keys.each in
    let all = c.loop-i-test.false in
    all_end c.args.g.now c.args.leaves.now c.args.pending.now (length c.args.parts.items) (g.C.Disk.facts c.args.cache.now) c.loop-i.i c.loop-i.parts.items c.loop-i.filled.items (omega (arith, all, lists)) c.loop-i.invariant.filled

pub returns-clause-calls : goal.returns-clause-calls
returns-clause-calls g c =
    let lists = c.requires.keys.each in
    let pending = c.args.pending.now in
    let n = (g.C.Disk.facts c.args.cache.now).calls in
    c.loop-i.invariant.calls ∙ ap (λ (ls : List (List Numbered)). count_after (readings ls) n)
    (take_all c.loop-i.i pending (omega (arith, c.loop-i-test.false, lists)))
