use Rattle.std.proofs.Common.{ℕ, [], ◌∷◌, ◌++◌, List, sym, subst, ap, ◌∙◌, arith}
use Rattle.std.specs.BinaryHeap.{heap_items}
use Rattle.std.proofs.lemmas.List.{nil_from_length}
use Rattle.std.proofs.lemmas.List.Sorted.{le_from_greatest}
use Rattle.bc_alloc.specs.Choice.{AreChosen}
use Rattle.bc_alloc.proofs.Chosen.{one_taken}
use Rattle.bc_alloc.proofs.victims.take_all.Goals as goal

pub loop-i-preserved : goal.loop-i-preserved
loop-i-preserved c =
    let n = c.loop-i.invariant.2 in
    let all = c.loop-i.invariant.3 in
    let caps = c.loop-i.invariant.4 in
    let vecs = c.loop-i.invariant.5 in
    let len = c.in-Some.ensures.len in
    let cap = c.in-Some.ensures.capacity in
    let more = c.in-Ok.ensures.len in
    let grows = c.in-Ok.ensures.capacity in (
      (c.in-Some.ensures.heap_order c.loop-i.invariant.0).0,
      λ records listed n most h.
          subst (λ (xs : List ℕ). AreChosen records listed n most (heap_items c.pop.new.self) xs) (sym (c.in-Ok.ensures.items ∙ ap (λ k. c.loop-i.taken.items ++ k ∷ []) c.number_of.ensures))
          (one_taken records listed n most c.in-Some.rank (heap_items c.loop-i.ranks) (heap_items c.pop.new.self) c.loop-i.taken.items (c.loop-i.invariant.1 records listed n most h) c.in-Some.ensures.permutation
          (le_from_greatest c.in-Some.rank (heap_items c.pop.new.self) (c.in-Some.ensures.below_top c.loop-i.invariant.0))),
      omega arith,
      omega arith,
      omega arith,
      omega arith,
    )

pub returns-clause-chosen : goal.returns-clause-chosen
returns-clause-chosen c = λ records listed n most h.
    let done = c.loop-i-test.false in
    let end = c.loop-i.auto._i-end in
    let taken = c.loop-i.invariant.2 in
    let all = c.loop-i.invariant.3 in
    let first = c.len-i-end.ensures in
    subst (λ (xs : List ℕ). AreChosen records listed n most xs c.loop-i.taken.items) (nil_from_length (heap_items c.loop-i.ranks) (omega (arith, c.loop-i.ranks.data.ok.0))) (c.loop-i.invariant.1 records listed n most h)
