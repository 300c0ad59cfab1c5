use Rattle.std.proofs.Common.{◌≡◌, ◌≤◌, ◌+◌, Option, Some, sym, ap, ◌∙◌, subst, arith}
use Rattle.std.specs.Prelude.{slice_get}
use Rattle.std.proofs.lemmas.Bool.{leb-true, leb-false}
use Rattle.bc_cache.specs.Slots.{IsOccupied, NodeCache}
use Rattle.bc_cache.specs.declared.slots.Cached.{Cached}
use Rattle.bc_node.specs.Leaf.{Leaf}
use Rattle.bc_fetch.proofs.Fetching.{of_leaves}
use Rattle.bc_fetch.proofs.leaf.has_range.Goals as goal

pub leaf-leaf-requires : goal.leaf-leaf-requires
leaf-leaf-requires g c = of_leaves c.args.hand.now
    (λ (x : NodeCache). IsOccupied x.slots c.args.slot) c.requires.slot c.in-Some.leaves c.in-Some.is

pub returns-then-from-first-clause-all : goal.returns-then-from-first-clause-all
returns-then-from-first-clause-all g c on = let is = c.leaf-leaf.ensures in (
  c.in-Some.leaves,
  c.in-Some.is,
  (
    is.0,
    is.1,
    subst (λ (l : Leaf). l.from ≤ c.args.first) (sym is.2)
        (let low = c.if-from-first.true in let from = c.from.ensures in omega (arith, low, from)),
    subst (λ (l : Leaf). c.args.first + c.args.count ≤ l.end) (sym is.2)
        (let many = c.from-then-from-first.ensures in let end = c.end.ensures in
        let fits = leb-true _ _ on in omega (arith, fits, many, end)),
  ),
)

same_leaf : (a b : Cached) (leaf : Leaf) (o : Option (Option Cached)) → o ≡ Some (Some a)
    → o ≡ Some (Some b) → leaf ≡ b.leaf → a.leaf ≡ leaf
same_leaf a b leaf o p q is =
    let same : a ≡ b = cc in ap (λ (x : Cached). x.leaf) same ∙ sym is

pub returns-then-from-first-clause-short : goal.returns-then-from-first-clause-short
returns-then-from-first-clause-short g c off of =
    let is = c.leaf-leaf.ensures in
    let one = of_leaves c.args.hand.now (λ (x : NodeCache). (cached : Cached)
    × (slice_get x.slots c.args.slot ≡ Some (Some cached)) × (cached.leaf.from ≤ c.args.first)
    × (c.args.first + c.args.count ≤ cached.leaf.end)) of c.in-Some.leaves c.in-Some.is in
    let same = same_leaf one.0 is.0 c.leaf-leaf.result.now
    (slice_get c.in-Some.leaves.cache.slots c.args.slot) one.1 is.1 (sym is.2) in
    let all = subst (λ (l : Leaf). c.args.first + c.args.count ≤ l.end) same one.3 in
    let many = c.from-then-from-first.ensures in
    let end = c.end.ensures in
    let past = leb-false _ _ off in
    absurd (omega (arith, all, many, end, past))

pub returns-else-from-first-clause-short : goal.returns-else-from-first-clause-short
returns-else-from-first-clause-short g c off of =
    let is = c.leaf-leaf.ensures in
    let one = of_leaves c.args.hand.now (λ (x : NodeCache). (cached : Cached)
    × (slice_get x.slots c.args.slot ≡ Some (Some cached)) × (cached.leaf.from ≤ c.args.first)
    × (c.args.first + c.args.count ≤ cached.leaf.end)) of c.in-Some.leaves c.in-Some.is in
    let same = same_leaf one.0 is.0 c.leaf-leaf.result.now
    (slice_get c.in-Some.leaves.cache.slots c.args.slot) one.1 is.1 (sym is.2) in
    let low = subst (λ (l : Leaf). l.from ≤ c.args.first) same one.2 in
    let from = c.from.ensures in
    let behind = c.if-from-first.false in
    absurd (omega (arith, low, from, behind))
