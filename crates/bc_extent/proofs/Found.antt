-- Which key a place found by the ends is.
use Rattle.std.proofs.Common.{◌≡◌, inl, inr, ℕ, ◌<◌, ◌≤◌, List, length, get_or, None, subst, arith}
use Rattle.std.specs.Prelude.{Contains}
use Rattle.std.specs.List.{AllWithin}
use Rattle.std.proofs.lemmas.Bool.{cases_lt, cases_order}
use Rattle.bc_key.specs.declared.key.Key.{Key}
use Rattle.bc_key.specs.Key.{start_of}
use Rattle.bc_extent.specs.LastKey.{last_key}
use Rattle.bc_extent.specs.Extents.{IsInOrder}
use Rattle.bc_extent.proofs.LastKeys.{starts_rise, last_key_none}

module _ (keys : List Key) (order : IsInOrder keys) (sector place : ℕ) (ended : AllWithin (λ key. key.end ≤ sector) keys 0 place) (later : AllWithin (λ key. sector < key.end) keys place (length keys)) where
  -- no key covers the sector where the first key that ends behind it begins behind it
  pub nothing_there : (place < length keys → (d : Key) → sector < start_of (get_or keys place d)) → last_key keys sector ≡ None
  nothing_there begins = last_key_none keys sector (λ k d inside hit.
      elim (cases_lt k place) [
        | inl before ↦ let low = ended k d (omega arith) before in let high = hit.1 in omega arith
        | inr behind ↦
            let rise = starts_rise keys order place k d behind inside in
            let first = begins (omega arith) d in
            let from = hit.0 in
            omega arith
      ])

  -- a key that begins at the sector stands there
  pub stands_there : (key : Key) (here : Contains keys key) → start_of key ≡ sector → here.0 ≡ place
  stands_there key here from = elim (cases_order here.0 place) [
    | inl same ↦ same
    | inr apart ↦ elim apart [
      | inl before ↦
          let range = order.0 here.0 key here.1 in
          let low = ended here.0 key (omega arith) before in
          let known = subst (λ (k : Key). k.end ≤ sector) here.2 low in
          let own = subst (λ (k : Key). (k.size ≤ k.end) × (0 < k.size)) here.2 range in
          let extent = own.0 in
          let size = own.1 in
          absurd (omega arith)
      | inr behind ↦
          let across = order.1 place here.0 key behind here.1 in
          let known = subst (λ (k : Key). (get_or keys place key).end ≤ start_of k) here.2 across in
          let high = later place key (omega arith) (omega (arith, here.1)) in
          absurd (omega arith)
    ]
  ]
