use Rattle.std.proofs.Common.{◌≤◌, take, subst, arith}
use Rattle.std.proofs.Math.Nat.{le-max_left, le-max_right}
use Rattle.std.proofs.lemmas.List.{take_all}
use Rattle.std.proofs.lemmas.List.Elements.{All-more, All-weaker}
use Rattle.std.specs.Prelude.{All}
use Rattle.bc_spine.specs.declared.leaf.LeafRange.{LeafRange}
use Rattle.bc_spine.proofs.numbers.greatest.Goals as goal

pub loop-leaf-preserved : goal.loop-leaf-preserved
loop-leaf-preserved c =
    let leaves = c.args.leaves.now in
    let i = c.loop-leaf.leaf-index in
    let leaf = c.leaf-item.result in
    let is = c.max-most.ensures in
    let low = le-max_left c.loop-leaf.most leaf.number in
    let high = le-max_right c.loop-leaf.most leaf.number in
    let inside = c.loop-leaf-test.true in
    let this : leaf.number ≤ c.max-most.result = omega arith in
    record {
      from = omega (arith, c.loop-leaf.invariant.from);
      all = All-more (λ (x : LeafRange). x.number ≤ c.max-most.result) leaves i leaf inside
          (All-weaker (λ (x : LeafRange). x.number ≤ c.loop-leaf.most) (λ (x : LeafRange). x.number ≤ c.max-most.result) (λ x h. omega arith) (take i leaves) c.loop-leaf.invariant.all)
          (subst (λ (x : LeafRange). x.number ≤ c.max-most.result) c.leaf-item.is this);
    }

pub returns-clause-all : goal.returns-clause-all
returns-clause-all c =
    subst (λ xs. All (λ (x : LeafRange). x.number ≤ c.loop-leaf.most) xs)
    (take_all c.loop-leaf.leaf-index c.args.leaves.now c.loop-leaf-test.false) c.loop-leaf.invariant.all
