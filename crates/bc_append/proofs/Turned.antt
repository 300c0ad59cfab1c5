-- Keys in order say the same turned round: no two of them have a sector in common.
use Rattle.std.proofs.Common.{◌≡◌, ℕ, suc, ◌≤◌, Bool, true, false, List, [], ◌∷◌, Option, Some, None, refl, sym, ap, ◌∙◌, arith, if◌then◌else◌}
use Rattle.std.specs.Prelude.{reverse}
use Rattle.std.proofs.lemmas.List.{reverse-append}
use Rattle.std.specs.Option.{option_or}
use Rattle.bc_extent.proofs.LastKeys.{by_cover, last_key_none}
use Rattle.bc_extent.specs.Extents.{IsInOrder}
use Rattle.bc_extent.specs.LastKey.{covers, last_key}
use Rattle.bc_facts.proofs.Stood.{all_in, in_all}
use Rattle.bc_key.specs.Key.{Covers, pointer_of, start_of}
use Rattle.bc_key.specs.declared.key.Key.{Key}
use Rattle.bc_leaves.proofs.Said.{last_append, or_else}
use Rattle.bc_leaves.specs.Keys.{last_said}
use Rattle.bc_meta.specs.Keys.{Ref, ref_by}

none_later : (k : Key) (ks : List Key) (s : ℕ) → IsInOrder (k ∷ ks) → Covers k s
    → last_key ks s ≡ None
none_later k ks s order at = last_key_none ks s (in_all (λ (y : Key). ¬ (Covers y s)) ks (λ y i c.
    let after = all_in (λ (y : Key). k.end ≤ start_of y) ks y
    (λ j d lt. order.1 0 (suc j) d (omega arith) (omega (arith, lt))) i in
    let low = at.1 in let high = c.0 in omega (arith, after, low, high)))

rest_order : (k : Key) (ks : List Key) → IsInOrder (k ∷ ks) → IsInOrder ks
rest_order k ks order = (
  (λ j d lt. order.0 (suc j) d (omega (arith, lt))),
  (λ i j d lt inside. order.1 (suc i) (suc j) d (omega (arith, lt)) (omega (arith, inside))),
)

-- what the key says that has the sector
abbrev said_by : Option Key → ℕ → Option (Option Ref)
said_by None s = None
said_by (Some k) s = Some (ref_by k s (pointer_of k))

or_none : (o : Option Key) → option_or o None ≡ o
or_none None = refl
or_none (Some k) = refl

in_order : (ks : List Key) (s : ℕ) → IsInOrder ks → last_said ks s ≡ said_by (last_key ks s) s
in_order [] s order = refl
in_order (k ∷ ks) s order = by_cover k s
    (λ b. (if b then Some (ref_by k s (pointer_of k)) else last_said ks s)
    ≡ said_by (option_or (last_key ks s) (if b then Some k else None)) s)
    (λ at. sym (ap (λ o. said_by (option_or o (Some k)) s) (none_later k ks s order at)))
    (λ off. in_order ks s (rest_order k ks order)
    ∙ sym (ap (λ o. said_by o s) (or_none (last_key ks s))))

turned : (ks : List Key) (s : ℕ) → last_said (reverse ks) s ≡ said_by (last_key ks s) s
turned [] s = refl
turned (k ∷ ks) s = ap (λ (l : List Key). last_said l s) (reverse-append (k ∷ []) ks)
    ∙ last_append (reverse ks) (k ∷ []) s
    ∙ ap (λ o. or_else o (last_said (k ∷ []) s)) (turned ks s) ∙ go (last_key ks s) (covers k s)
  where
    go : (o : Option Key) (b : Bool)
        → or_else (said_by o s) (if b then Some (ref_by k s (pointer_of k)) else None)
        ≡ said_by (option_or o (if b then Some k else None)) s
    go (Some x) b = refl
    go None true = refl
    go None false = refl

pub turned_says : (ks : List Key) (s : ℕ) → IsInOrder ks → last_said (reverse ks) s ≡ last_said ks s
turned_says ks s order = turned ks s ∙ sym (in_order ks s order)
