-- The first set of a leaf says nothing of sectors outside of its range.
use Rattle.std.proofs.Common.{◌≡◌, ℕ, ◌≤◌, ◌<◌, List, [], ◌∷◌, Some, None, refl, ap, ◌∙◌, arith}
use Rattle.std.specs.Prelude.{if◌then◌else◌, reverse}
use Rattle.std.proofs.lemmas.List.{reverse-append}
use Rattle.std.proofs.lemmas.List.Elements.{All-head, All-tail}
use Rattle.bc_extent.proofs.LastKeys.{by_cover}
use Rattle.bc_image.specs.Sound.{LiesWithin}
use Rattle.bc_key.specs.Key.{pointer_of}
use Rattle.bc_key.specs.declared.key.Key.{Key}
use Rattle.bc_leaves.proofs.Said.{last_append, or_else}
use Rattle.bc_leaves.specs.Keys.{last_said}
use Rattle.bc_meta.specs.Keys.{ref_by}
use Rattle.bc_node.specs.Leaf.{AreProperKeys, AreWithin}
use Rattle.bc_set.specs.SetBytes.{AreSetKeys}
use Rattle.bc_set.specs.declared.set.SetKind.TheVariants.{Extents}
use Rattle.bc_extent.specs.Extents.{IsRange}
use Rattle.bc_key.specs.Key.{IsExtent}
use Rattle.std.proofs.lemmas.List.Elements.{All-weaker}

one_outside : (from end s : ℕ) (k : Key) → LiesWithin 0 from end k → ((from ≤ s) × (s < end) → ⊥)
    → last_said (k ∷ []) s ≡ None
one_outside from end s k within out = by_cover k s
    (λ b. (if b then Some (ref_by k s (pointer_of k)) else None) ≡ None)
    (λ at. absurd (out (
      let low = at.0 in let first = within.0 in omega (arith, low, first),
      let high = at.1 in let last = within.1 in omega (arith, high, last),
    )))
    (λ off. refl)

pub none_outside : (from end s : ℕ) (ks : List Key) → AreWithin from end ks
    → ((from ≤ s) × (s < end) → ⊥) → last_said (reverse ks) s ≡ None
none_outside from end s [] within out = refl
none_outside from end s (k ∷ ks) within out =
    ap (λ (l : List Key). last_said l s) (reverse-append (k ∷ []) ks)
    ∙ last_append (reverse ks) (k ∷ []) s
    ∙ ap (λ o. or_else o (last_said (k ∷ []) s)) (none_outside from end s ks
    (All-tail (LiesWithin 0 from end) k ks within) out)
    ∙ one_outside from end s k (All-head (LiesWithin 0 from end) k ks within) out

-- and they are keys of a leaf's set
pub proper_keys : (from end : ℕ) (ks : List Key) → AreProperKeys from end ks → AreSetKeys Extents ks
proper_keys from end ks proper = record {
  each = All-weaker IsRange IsExtent (λ (k : Key) range. range.0) ks proper.order.0;
  order = proper.order.1;
}
