-- Two neighbouring leaves.
use Rattle.std.proofs.Common.{◌≡◌, ℕ, zero, suc, ◌<◌, List, [], ◌∷◌, Some, sym, ap, ◌∙◌, arith}
use Rattle.std.specs.Prelude.{slice_get}
use Rattle.bc_spine.specs.Leaves.{IsRow}
use Rattle.bc_spine.specs.declared.leaf.LeafRange.{LeafRange}

pub row_next : (a b : ℕ) (leaves : List LeafRange) (i : ℕ) (left right : LeafRange) → IsRow a leaves b → slice_get leaves i ≡ Some left → slice_get leaves (suc i) ≡ Some right → (right.from ≡ left.end) × (right.from < right.end)
row_next a b [] i left right row one two = absurd (cc)
row_next a b (l ∷ []) zero left right row one two = absurd (cc)
row_next a b (l ∷ (r ∷ leaves)) zero left right row one two =
    let first : l ≡ left = cc in
    let second : r ≡ right = cc in
    let rest = row.2 in
    (ap (λ (x : LeafRange). x.from) (sym second) ∙ rest.0 ∙ ap (λ (x : LeafRange). x.end) first, omega (arith, rest.0, rest.1, ap (λ (x : LeafRange). x.from) second, ap (λ (x : LeafRange). x.end) second))
row_next a b (l ∷ leaves) (suc i) left right row one two = row_next l.end b leaves i left right row.2 one two
