use Rattle.std.proofs.Common.{ℕ, [], List, length, sym, subst}
use Rattle.std.specs.BinaryHeap.{heap_items}
use Rattle.bc_alloc.specs.Choice.{AreChosen}
use Rattle.bc_alloc.specs.Victims.{AreFirst, IsOpen}
use Rattle.bc_alloc.proofs.Chosen.{all_taken}
use Rattle.bc_alloc.proofs.victims.find_first.Goals as goal

pub returns-clause-first : goal.returns-clause-first
returns-clause-first c =
    let records = c.args.records.now in
    let listed = c.args.listed.now in
    let collected = subst (λ (n : ℕ). AreChosen records listed n c.args.most (heap_items c.collect.new.ranks) []) (sym c.requires.records) c.collect.ensures.chosen in
    let taken = c.take_all.ensures.chosen records listed (length records) c.args.most collected in
    subst (λ (ks : List ℕ). AreFirst (IsOpen records listed) records c.args.most ks) (sym c.reverse.ensures.items) (all_taken records listed c.args.most c.take_all.new.taken.items taken)
