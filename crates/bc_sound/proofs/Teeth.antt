-- A key of no sectors.
use Rattle.std.proofs.Common.{◌≡◌, ◌≤◌, ℕ, ◌<◌, false, [], ◌∷◌, Some, None, refl, arith, if◌then◌else◌, nat_lt, ◌&&◌, lit<}
use Rattle.bc_key.specs.declared.key.Key.{Key}
use Rattle.bc_key.specs.Key.{pointer_of}
use Rattle.bc_keys.proofs.OnePointer.{one_pointer_key, ptr_to}
use Rattle.bc_meta.specs.Keys.{ref_by}
use Rattle.bc_meta.proofs.Lists.{by_le}
use Rattle.bc_leaves.specs.Keys.{last_said}
use Rattle.bc_facts.proofs.Place.{by_lt}
use Rattle.bc_sound.specs.Teeth.{NeedsSectors}

abbrev key : Key
key = one_pointer_key 0 0 false (ptr_to 120 0 (lit< tt) (lit< tt)) (lit< tt) (lit< tt)

none_said : (s : ℕ) → last_said (key ∷ []) s ≡ None
none_said s =
    by_le 0 s (λ b. (if b && nat_lt s 0 then Some (ref_by key s (pointer_of key)) else None) ≡ None)
    (λ _. by_lt s 0 (λ b. (if b then Some (ref_by key s (pointer_of key)) else None) ≡ None) (λ lt. absurd (omega (arith, lt))) (λ _. refl))
    (λ lt. absurd (omega (arith, lt)))

pub law_teeth_sectors : NeedsSectors
law_teeth_sectors = (key, none_said, λ x some h. (let low : x.first ≤ 0 = h.0 in omega (arith, some, low)))
