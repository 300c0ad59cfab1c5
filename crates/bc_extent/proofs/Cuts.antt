-- The keys on one side of a sector.
use Rattle.std.proofs.Common.{◌≡◌, inl, inr, ℕ, zero, ◌+◌, ◌-◌, ◌<◌, ◌≤◌, List, [], ◌∷◌, ◌++◌, length, get_or, take, drop, refl, sym, ap, ◌∙◌, subst, arith, length-drop}
use Rattle.std.specs.Prelude.{All, Contains}
use Rattle.std.specs.List.{AllWithin}
use Rattle.std.proofs.lemmas.Bool.{cases_lt, cases_order}
use Rattle.std.proofs.lemmas.List.{append-nil, get_or-take, get_or-drop, get_or_default, length-take-le}
use Rattle.std.proofs.lemmas.List.Elements.{All-take, All-drop, All-push, All-nil, All-cons, Contains-get_or, Contains-append_left, Contains-append_right, Contains-push}
use Rattle.std.proofs.lemmas.List.Quantifiers.{all_pairs_push}
use Rattle.bc_key.specs.declared.key.Key.{Key}
use Rattle.bc_key.specs.Key.{start_of, Covers}
use Rattle.bc_extent.specs.Extents.{IsRange, IsInOrder, IsPart}
use Rattle.bc_extent.specs.Sides.{IsOneBelow, IsOneAbove, IsBelow, IsAbove}
use Rattle.bc_extent.proofs.LastKeys.{starts_rise, ends_rise}
use Rattle.bc_extent.proofs.Shown.{IsPart-refl, AllPairs-append}

abbrev Apart : Key → Key → Type 0
Apart a b = a.end ≤ start_of b

module _ (keys : List Key) (order : IsInOrder keys) (sector place : ℕ) (within : place ≤ length keys) where
  -- a key of the list, with what is known of its place
  at_place : (whole : Key) (here : Contains keys whole) (P : Key → Type 0) → ((d : Key) → P (get_or keys here.0 d)) → P whole
  at_place whole here P all = subst P here.2 (all whole)

  module _ (ended : AllWithin (λ key. key.end ≤ sector) keys 0 place) where
    taken : length (take place keys) ≡ place
    taken = length-take-le place keys within

    taken_order : IsInOrder (take place keys)
    taken_order = (
      All-take IsRange place keys order.0,
      λ i j d before inside.
          let low : i < place = omega (arith, taken) in
          let high : j < place = omega (arith, taken) in
          subst (λ (a : Key). Apart a (get_or (take place keys) j d)) (sym (get_or-take place keys i d low))
          (subst (λ (b : Key). Apart (get_or keys i d) b) (sym (get_or-take place keys j d high)) (order.1 i j d before (omega arith))),
    )

    taken_below : All (λ key. key.end ≤ sector) (take place keys)
    taken_below = λ k d inside.
        let low : k < place = omega (arith, taken) in
        subst (λ (key : Key). key.end ≤ sector) (sym (get_or-take place keys k d low)) (ended k d (omega arith) low)

    taken_each : All (IsOneBelow sector keys) (take place keys)
    taken_each = λ k d inside.
        let low : k < place = omega (arith, taken) in
        subst (IsOneBelow sector keys) (sym (get_or-take place keys k d low)) (get_or keys k d, Contains-get_or keys k d (omega arith), IsPart-refl (get_or keys k d), refl, inl refl)

    taken_held : (whole : Key) (here : Contains keys whole) → here.0 < place → Contains (take place keys) whole
    taken_held whole here low = (here.0, omega (arith, taken), get_or-take place keys here.0 whole low ∙ here.2)

    pub uncut_below : (place < length keys → (d : Key) → sector ≤ start_of (get_or keys place d)) → IsBelow sector keys (take place keys ++ [])
    uncut_below begins = subst (IsBelow sector keys) (sym (append-nil (take place keys))) (record {
      order = taken_order;
      below = taken_below;
      each = taken_each;
      all = λ s whole low here hit. elim (cases_lt here.0 place) [
        | inl before ↦ (whole, taken_held whole here before, hit)
        | inr behind ↦
            let high : sector ≤ start_of whole = at_place whole here (λ key. sector ≤ start_of key) (λ d. let rise = starts_rise keys order place here.0 d behind here.1 in let first = begins (omega (arith, here.1)) d in omega arith) in
            let from = hit.0 in
            absurd (omega arith)
      ];
    })

    pub cut_below : (whole part : Key) → place < length keys → whole ≡ get_or keys place whole → IsPart whole part → IsRange part → sector < whole.end → start_of part ≡ start_of whole → part.end ≡ sector → IsBelow sector keys (take place keys ++ part ∷ [])
    cut_below whole part inside is cut range crossed from to = record {
      order = (
        All-push IsRange (take place keys) part taken_order.0 range,
        all_pairs_push Apart (take place keys) part taken_order.1 (λ k d low.
            let early : k < place = omega (arith, taken) in
            subst (λ (key : Key). Apart key part) (sym (get_or-take place keys k d early))
            (let apart : Apart (get_or keys k d) (get_or keys place d) = order.1 k place d early inside in
            let same : get_or keys place d ≡ whole = get_or_default keys place d whole inside ∙ sym is in
            let known = subst (λ (key : Key). Apart (get_or keys k d) key) same apart in
            omega arith)),
      );
      below = All-push (λ key. key.end ≤ sector) (take place keys) part taken_below (omega arith);
      each = All-push (IsOneBelow sector keys) (take place keys) part taken_each (whole, (place, inside, sym is), cut, from, inr to);
      all = λ s other low here hit. elim (cases_order here.0 place) [
        | inl same ↦
            let one : whole ≡ other = is ∙ get_or_default keys place whole other inside ∙ ap (λ n. get_or keys n other) (sym same) ∙ here.2 in
            (part, Contains-push (take place keys) part, (let known = subst (λ (key : Key). Covers key s) (sym one) hit in (omega (arith, known.0), omega arith)))
        | inr apart ↦ elim apart [
          | inl before ↦ (other, Contains-append_left (take place keys) (part ∷ []) other (taken_held other here before), hit)
          | inr behind ↦
              let high : sector < start_of other = at_place other here (λ key. sector < start_of key) (λ d.
              let apart : Apart (get_or keys place d) (get_or keys here.0 d) = order.1 place here.0 d behind here.1 in
              let same : get_or keys place d ≡ whole = get_or_default keys place d whole inside ∙ sym is in
              let known = subst (λ (key : Key). Apart key (get_or keys here.0 d)) same apart in
              omega arith) in
              let from = hit.0 in
              absurd (omega arith)
        ]
      ];
    }

  module _ (later : AllWithin (λ key. sector ≤ start_of key) keys place (length keys)) where
    left : length (drop place keys) ≡ length keys - place
    left = length-drop place keys

    left_order : IsInOrder (drop place keys)
    left_order = (
      All-drop IsRange place keys order.0,
      λ i j d before inside.
          subst (λ (a : Key). Apart a (get_or (drop place keys) j d)) (sym (get_or-drop place keys i d))
          (subst (λ (b : Key). Apart (get_or keys (place + i) d) b) (sym (get_or-drop place keys j d)) (order.1 (place + i) (place + j) d (omega arith) (omega (arith, left)))),
    )

    left_above : All (λ key. sector ≤ start_of key) (drop place keys)
    left_above = λ k d inside.
        subst (λ (key : Key). sector ≤ start_of key) (sym (get_or-drop place keys k d)) (later (place + k) d (omega arith) (omega (arith, left)))

    left_each : All (IsOneAbove sector keys) (drop place keys)
    left_each = λ k d inside.
        subst (IsOneAbove sector keys) (sym (get_or-drop place keys k d)) (get_or keys (place + k) d, Contains-get_or keys (place + k) d (omega (arith, left)), IsPart-refl (get_or keys (place + k) d), refl, inl refl)

    left_held : (whole : Key) (here : Contains keys whole) → place ≤ here.0 → Contains (drop place keys) whole
    left_held whole here high =
        let low = here.1 in
        let same : place + (here.0 - place) ≡ here.0 = omega arith in
        (here.0 - place, omega (arith, left), get_or-drop place keys (here.0 - place) whole ∙ ap (λ n. get_or keys n whole) same ∙ here.2)

    pub uncut_above : (0 < place → (d : Key) → (get_or keys (place - 1) d).end ≤ sector) → IsAbove sector keys (drop place keys)
    uncut_above ends = record {
      order = left_order;
      above = left_above;
      each = left_each;
      all = λ s whole high here hit. elim (cases_lt here.0 place) [
        | inl before ↦
            let low : whole.end ≤ sector = at_place whole here (λ key. key.end ≤ sector) (λ d. let rise = ends_rise keys order here.0 (place - 1) d (omega arith) (omega arith) in let last = ends (omega arith) d in omega arith) in
            let to = hit.1 in
            absurd (omega arith)
        | inr behind ↦ (whole, left_held whole here behind, hit)
      ];
    }

    pub cut_above : (whole part : Key) → 0 < place → whole ≡ get_or keys (place - 1) whole → IsPart whole part → IsRange part → start_of whole < sector → start_of part ≡ sector → part.end ≡ whole.end → IsAbove sector keys (part ∷ drop place keys)
    cut_above whole part some is cut range crossed from to = record {
      order = (
        All-cons IsRange part (drop place keys) range left_order.0,
        AllPairs-append Apart (part ∷ []) (drop place keys) (λ i j d before inside. absurd (omega arith)) left_order.1
            (All-cons (λ x. All (Apart x) (drop place keys)) part [] (λ k d low.
            subst (λ (key : Key). Apart part key) (sym (get_or-drop place keys k d))
            (let apart : Apart (get_or keys (place - 1) d) (get_or keys (place + k) d) = order.1 (place - 1) (place + k) d (omega arith) (omega (arith, left)) in
            let same : get_or keys (place - 1) d ≡ whole = get_or_default keys (place - 1) d whole (omega arith) ∙ sym is in
            let known = subst (λ (key : Key). Apart key (get_or keys (place + k) d)) same apart in
            omega arith)) (All-nil (λ x. All (Apart x) (drop place keys)))),
      );
      above = All-cons (λ key. sector ≤ start_of key) part (drop place keys) (omega arith) left_above;
      each = All-cons (IsOneAbove sector keys) part (drop place keys) (whole, (place - 1, omega arith, sym is), cut, to, inr from) left_each;
      all = λ s other high here hit. elim (cases_lt here.0 place) [
        | inr behind ↦ (other, Contains-append_right (part ∷ []) (drop place keys) other (left_held other here behind), hit)
        | inl before ↦ elim (cases_lt here.0 (place - 1)) [
          | inl early ↦
              let low : other.end ≤ start_of whole = at_place other here (λ key. key.end ≤ start_of whole) (λ d.
              let apart : Apart (get_or keys here.0 d) (get_or keys (place - 1) d) = order.1 here.0 (place - 1) d early (omega arith) in
              let same : get_or keys (place - 1) d ≡ whole = get_or_default keys (place - 1) d whole (omega arith) ∙ sym is in
              subst (λ (key : Key). Apart (get_or keys here.0 d) key) same apart) in
              let to_other = hit.1 in
              absurd (omega arith)
          | inr late ↦
              let same : place - 1 ≡ here.0 = omega arith in
              let one : whole ≡ other = is ∙ get_or_default keys (place - 1) whole other (omega arith) ∙ ap (λ n. get_or keys n other) same ∙ here.2 in
              (part, (zero, omega arith, refl), (let known = subst (λ (key : Key). Covers key s) (sym one) hit in (omega arith, omega (arith, known.1))))
        ]
      ];
    }
