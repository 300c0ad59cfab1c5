-- What a look-up gives.
use Rattle.std.proofs.Common.{◌≡◌, ◌≢◌, ◌⊎◌, inl, inr, ℕ, ◌-◌, ◌<◌, ◌≤◌, Bool, true, false, List, Option, Some, None, refl, sym, subst, ap, ◌∙◌, arith, if◌then◌else◌}
use Rattle.std.proofs.lemmas.Bool.{cases_lt}
use Rattle.std.proofs.lemmas.List.Elements.{All-contains}
use Rattle.std.specs.Prelude.{nat_lt, Contains, MatchOption, IsSomeAnd}
use Rattle.bc_image.specs.Sound.{LiesWithin}
use Rattle.bc_key.specs.declared.key.Key.{Key}
use Rattle.bc_key.specs.Key.{Covers, start_of}
use Rattle.bc_extent.specs.LastKey.{last_key}
use Rattle.bc_extent.specs.Extents.{IsPart, IsRest}
use Rattle.bc_extent.specs.Calls.{with_pointer}
use Rattle.bc_extent.proofs.LastKeys.{last_key_found}
use Rattle.bc_plain_nodes.specs.Look.{look_of}
use Rattle.bc_node.specs.Leaf.{AreWithin}
use Rattle.bc_plain_nodes.specs.declared.keys.Bare.{Bare}
use Rattle.bc_plain_nodes.specs.declared.keys.Bare.TheVariants.{Counts, Hides}

pointed : (given : Option Key) (found : Key) → with_pointer given ≡ Some found → given ≡ Some found
pointed None found is = absurd (cc)
pointed (Some key) found is = go (nat_lt 0 key.count) is
  where
    go : (b : Bool) → (if b then Some key else None) ≡ Some found → Some key ≡ Some found
    go true same = same
    go false same = absurd (cc)

-- it is a key of the list, and covers the sector
pub look_found : (bare : Bare) (keys : List Key) (sector : ℕ) (found : Key) → look_of bare keys sector ≡ Some found → Contains keys found × Covers found sector
look_found Counts keys sector found is = last_key_found keys sector found is
look_found Hides keys sector found is = last_key_found keys sector found (pointed (last_key keys sector) found is)

-- what it gives of keys in a range lies there
none_or : (given : Option Key) → ((key : Key) → given ≡ Some key → ⊥) → given ≡ None
none_or None never = refl
none_or (Some key) never = absurd (never key refl)

pub look_outside : (bare : Bare) (keys : List Key) (from end sector : ℕ) → AreWithin from end keys → (sector < from) ⊎ (end ≤ sector) → look_of bare keys sector ≡ None
look_outside bare keys from end sector within out = none_or (look_of bare keys sector) (λ key is.
    let found = look_found bare keys sector key is in
    let low = found.1.0 in
    let high = found.1.1 in
    let here = All-contains (LiesWithin 0 from end) keys key within found.0 in
    let begin = here.0 in
    let last = here.1 in
    elim out [
      | inl before ↦ omega arith
      | inr behind ↦ omega arith
    ])

-- a part of a key from the first to the last of the sectors around one for which the look-up gives it
abbrev pub Rest : (ℕ → Option Key) → ℕ → Option Key → Type 0
Rest look sector found = MatchOption (look sector) (found ≡ None) (λ whole. IsSomeAnd found (IsRest look whole))

pub is_rest : (bare : Bare) (keys : List Key) (sector : ℕ) (whole part : Key) (first last : ℕ) → look_of bare keys sector ≡ Some whole
    → ((s : ℕ) → first ≤ s → s ≤ sector → look_of bare keys s ≡ Some whole)
    → (first ≡ start_of whole) ⊎ (look_of bare keys (first - 1) ≢ Some whole)
    → ((s : ℕ) → sector ≤ s → s < last → look_of bare keys s ≡ Some whole) → look_of bare keys last ≢ Some whole
    → IsPart whole part → start_of part ≡ first → part.end ≡ last → Rest (look_of bare keys) sector (Some part)
is_rest bare keys sector whole part first last is below before above behind cut from to =
    subst (λ (given : Option Key). MatchOption given (Some part ≡ None) (λ w. IsSomeAnd (Some part) (IsRest (look_of bare keys) w))) (sym is) (record {
      cut = cut;
      inside = λ s hit. elim (cases_lt s sector) [
        | inl low ↦ let begin = hit.0 in below s (omega (arith, from)) (omega arith)
        | inr high ↦ let end = hit.1 in above s high (omega (arith, to))
      ];
      before = λ s next given. elim before [
        | inl same ↦
            let found = look_found bare keys s whole given in
            let low = found.1.0 in
            omega (arith, from)
        | inr other ↦ other (ap (look_of bare keys) (omega (arith, from)) ∙ given)
      ];
      behind = λ given. behind (ap (look_of bare keys) (sym to) ∙ given);
    })
