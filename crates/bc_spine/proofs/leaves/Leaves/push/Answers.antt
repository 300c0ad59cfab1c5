use Rattle.std.proofs.Common.{◌≡◌, ◌++◌, ◌<◌, [], ◌∷◌, length, refl, sym, ap, ◌∙◌, subst, arith}
use Rattle.bc_spine.specs.declared.leaf.LeafRange.{LeafRange}
use Rattle.bc_spine.specs.Leaves.{Leaves, AreLeaves, AreCounted}
use Rattle.bc_spine.proofs.Rows.{counted_push, leaves_pushed}
use Rattle.bc_spine.proofs.leaves.Leaves.push.Goals as goal

pub invariant_of-self-2 : goal.invariant_of-self-2
invariant_of-self-2 c =
    let row = c.self.inside.row.items in
    let leaf : LeafRange = record { number = c.len-2.result; from = c.self.inside.end; end = c.args.end; ptr = c.args.ptr } in
    let long : c.len-2.result ≡ length row = omega (arith, c.len-2.ensures, c.self.inside.row.ok) in
    let old = subst (λ (v : Leaves). AreCounted 0 v.leaves) (sym c.self.view_is) c.requires.counted in
    let above = subst (λ (v : Leaves). v.end < c.args.end) (sym c.self.view_is) c.requires.end in
    let counted = counted_push 0 row leaf old (omega (arith, long)) in
    subst (λ xs. AreLeaves xs c.args.end) (sym c.in_ok-push.ensures.items) (leaves_pushed row leaf c.self.inside.end c.self.invariant counted refl above c.requires.cut)

pub returns-clause-ok : goal.returns-clause-ok
returns-clause-ok c =
    let row = c.self.inside.row.items in
    let leaf : LeafRange = record { number = c.len-2.result; from = c.self.inside.end; end = c.args.end; ptr = c.args.ptr } in
    let long : c.len-2.result ≡ length row = omega (arith, c.len-2.ensures, c.self.inside.row.ok) in
    let old = subst (λ (v : Leaves). AreCounted 0 v.leaves) (sym c.self.view_is) c.requires.counted in
    record {
      leaf = leaf;
      leaves = c.in_ok-push.ensures.items ∙ ap (λ (v : Leaves). v.leaves ++ leaf ∷ []) c.self.view_is;
      number = long ∙ ap (λ (v : Leaves). length v.leaves) c.self.view_is;
      ends = refl;
      stands = refl;
      behind = refl;
      counted = subst (λ xs. AreCounted 0 xs) (sym c.in_ok-push.ensures.items) (counted_push 0 row leaf old (omega (arith, long)));
    }
