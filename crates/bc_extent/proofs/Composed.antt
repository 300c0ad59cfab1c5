-- Calls one after another.
use Rattle.std.proofs.Common.{◌≡◌, ◌⊎◌, inl, inr, ℕ, ◌+◌, ◌<◌, ◌≤◌, List, [], ◌∷◌, ◌++◌, Option, Some, None, refl, sym, ap, ◌∙◌, subst, arith, if◌then◌else◌}
use Rattle.std.specs.Prelude.{MatchOption, IsSomeAnd}
use Rattle.std.proofs.lemmas.Bool.{cases_lt}
use Rattle.std.proofs.lemmas.List.{append_assoc, append-nil}
use Rattle.std.proofs.lemmas.Option.{same_Some}
use Rattle.bc_key.specs.declared.key.Key.{Key}
use Rattle.bc_key.specs.Key.{start_of, Covers}
use Rattle.bc_extent.specs.LastKey.{last_key}
use Rattle.bc_extent.specs.Extents.{IsInOrder, IsPart, IsRest, Shows, overlaid, erased}
use Rattle.bc_extent.specs.Inserts.{AreInserted}
use Rattle.bc_extent.proofs.LastKeys.{covers_tells, last_key_found, last_key_at, last_key-push}
use Rattle.bc_extent.proofs.Shown.{shows_same}
use Rattle.bc_extent.proofs.Outcomes.{by_range}

IsPart-trans : (whole part piece : Key) → IsPart whole part → IsPart part piece → IsPart whole piece
IsPart-trans whole part piece p q = record {
  kind = record { inode = q.kind.inode ∙ p.kind.inode; dirty = q.kind.dirty ∙ p.kind.dirty; csum = q.kind.csum ∙ p.kind.csum; count = q.kind.count ∙ p.kind.count };
  from = let a = p.from in let b = q.from in omega arith;
  to = let a = p.to in let b = q.to in omega arith;
  devices = λ i inside.
      let inner : i < part.count = (let same = p.kind.count in omega arith) in
      record { dev = (q.devices i inner).dev ∙ (p.devices i inside).dev; generation = (q.devices i inner).generation ∙ (p.devices i inside).generation };
  places = λ sector i hit inside.
      let inner : i < part.count = (let same = p.kind.count in omega arith) in
      let low = q.from in
      let high = q.to in
      q.places sector i hit inner ∙ p.places sector i (omega (arith, hit.0), omega (arith, hit.1)) inside;
}

-- what a list shows of a sector that has a key
abbrev Shown : (ℕ → Option Key) → List Key → ℕ → Key → Type 0
Shown look keys sector whole = (part : Key) × (last_key keys sector ≡ Some part) × IsRest look whole part

shown_at : (look : ℕ → Option Key) (keys : List Key) (sector : ℕ) (whole : Key) → Shows look keys → look sector ≡ Some whole → Shown look keys sector whole
shown_at look keys sector whole shows is = go (last_key keys sector) refl (subst (λ given. MatchOption given (last_key keys sector ≡ None) (λ w. IsSomeAnd (last_key keys sector) (IsRest look w))) is (shows sector))
  where
    go : (found : Option Key) → last_key keys sector ≡ found → IsSomeAnd found (IsRest look whole) → Shown look keys sector whole
    go None has rest = absurd rest
    go (Some part) has rest = (part, has, rest)

none_at : (look : ℕ → Option Key) (keys : List Key) (sector : ℕ) → Shows look keys → look sector ≡ None → last_key keys sector ≡ None
none_at look keys sector shows is = subst (λ given. MatchOption given (last_key keys sector ≡ None) (λ w. IsSomeAnd (last_key keys sector) (IsRest look w))) is (shows sector)

module _ (look : ℕ → Option Key) (old : List Key) (order : IsInOrder old) (shown : Shows look old) (first end : ℕ) (middle : Option Key) (fits : (key : Key) → middle ≡ Some key → (start_of key ≡ first) × (key.end ≡ end)) where
  -- the look-up with the range, and the list's own
  abbrev Whole : ℕ → Option Key
  Whole = overlaid first end middle look

  abbrev Step : ℕ → Option Key
  Step = overlaid first end middle (last_key old)

  -- outside the range
  abbrev Outside : ℕ → Type 0
  Outside sector = (sector < first) ⊎ (end ≤ sector)

  abbrev Within : ℕ → Type 0
  Within sector = (first ≤ sector) × (sector < end) × (Whole sector ≡ middle) × (Step sector ≡ middle)

  abbrev Beside : ℕ → Type 0
  Beside sector = Outside sector × (Whole sector ≡ look sector) × (Step sector ≡ last_key old sector)

  place : (sector : ℕ) → Within sector ⊎ Beside sector
  place sector = by_range first end sector (λ b. ((first ≤ sector) × (sector < end) × ((if b then middle else look sector) ≡ middle) × ((if b then middle else last_key old sector) ≡ middle)) ⊎ (Outside sector × ((if b then middle else look sector) ≡ look sector) × ((if b then middle else last_key old sector) ≡ last_key old sector)))
      (λ low high. inl (low, high, refl, refl)) (λ out. inr (out, refl, refl))

  look_covers : (sector : ℕ) (whole : Key) → look sector ≡ Some whole → Covers whole sector
  look_covers sector whole is =
      let at = shown_at look old sector whole shown is in
      let hit = (last_key_found old sector at.0 at.1).1 in
      let low = at.2.cut.from in
      let high = at.2.cut.to in
      (omega (arith, hit.0), omega (arith, hit.1))

  middle_covers : (sector : ℕ) (whole : Key) → first ≤ sector → sector < end → middle ≡ Some whole → Covers whole sector
  middle_covers sector whole low high is = let at = fits whole is in let from = at.0 in let to = at.1 in (omega arith, omega arith)

  whole_covers : (sector : ℕ) (whole : Key) → Whole sector ≡ Some whole → Covers whole sector
  whole_covers sector whole is = elim (place sector) [
    | inl in_range ↦ middle_covers sector whole in_range.0 in_range.1 (sym in_range.2 ∙ is)
    | inr out ↦ look_covers sector whole (sym out.1 ∙ is)
  ]

  -- what the range has covers nothing outside it
  middle_apart : (sector : ℕ) (whole : Key) → middle ≡ Some whole → Covers whole sector → Outside sector → ⊥
  middle_apart sector whole is hit out =
      let at = fits whole is in
      let from = at.0 in
      let to = at.1 in
      let low = hit.0 in
      let high = hit.1 in
      elim out [ inl below ↦ omega arith | inr above ↦ omega arith ]

  rest_within : (whole part : Key) → middle ≡ Some whole → IsRest Step whole part → IsRest Whole whole part
  rest_within whole part is rest = record {
    cut = rest.cut;
    inside = λ sector hit. elim (place sector) [
      | inl in_range ↦ in_range.2 ∙ is
      | inr out ↦
          let low = rest.cut.from in
          let high = rest.cut.to in
          absurd (middle_apart sector whole is (omega (arith, hit.0), omega (arith, hit.1)) out.0)
    ];
    before = λ sector next given. elim (place sector) [
      | inl in_range ↦ rest.before sector next (in_range.3 ∙ is)
      | inr out ↦ middle_apart sector whole is (whole_covers sector whole given) out.0
    ];
    behind = λ given. elim (place part.end) [
      | inl in_range ↦ rest.behind (in_range.3 ∙ is)
      | inr out ↦ middle_apart part.end whole is (whole_covers part.end whole given) out.0
    ];
  }

  module _ (sector : ℕ) (out : Outside sector) (whole part piece : Key) (given : look sector ≡ Some whole) (has : last_key old sector ≡ Some part) (rest : IsRest look whole part) (next : IsRest Step part piece) (hit : Covers piece sector) where
    -- the range has neither of the two keys
    not_middle : (key : Key) → Covers key sector → middle ≡ Some key → ⊥
    not_middle key covered is = middle_apart sector key is covered out

    part_hit : Covers part sector
    part_hit = (last_key_found old sector part has).1

    -- where the part covers a sector outside the range, the list's own look-up gives it
    step_gives : (t : ℕ) → Covers part t → Outside t → Step t ≡ Some part
    step_gives t covered aside = elim (place t) [
      | inl in_range ↦ let low = in_range.0 in let high = in_range.1 in elim aside [ inl below ↦ absurd (omega arith) | inr above ↦ absurd (omega arith) ]
      | inr beside ↦ beside.2 ∙ last_key_at old t part order (last_key_found old sector part has).0 covered
    ]

    -- the look-up with the range gives the whole for no sector next to the piece
    not_next : (t : ℕ) → (Step t ≡ Some part → ⊥) → (¬ (Covers part t) → look t ≡ Some whole → ⊥) → Whole t ≡ Some whole → ⊥
    not_next t step own is = elim (place t) [
      | inl in_range ↦ not_middle whole (look_covers sector whole given) (sym in_range.2 ∙ is)
      | inr beside ↦ elim (covers_tells part t) [
        | inl covered ↦ step (step_gives t covered.1 beside.0)
        | inr missed ↦ own missed.1 (sym beside.1 ∙ is)
      ]
    ]

    rest_beside : IsRest Whole whole piece
    rest_beside = record {
      cut = IsPart-trans whole part piece rest.cut next.cut;
      inside = λ t covered. elim (place t) [
        | inl in_range ↦ absurd (not_middle part part_hit (sym in_range.3 ∙ next.inside t covered))
        | inr beside ↦
            let low = next.cut.from in
            let high = next.cut.to in
            beside.1 ∙ rest.inside t (omega (arith, covered.0), omega (arith, covered.1))
      ];
      before = λ t ahead. not_next t (next.before t ahead) (λ missed.
          let low = next.cut.from in
          let high = next.cut.to in
          let from = hit.0 in
          let to = hit.1 in
          let starts : t + 1 ≡ start_of part = elim (cases_lt t (start_of part)) [ inl before ↦ omega arith | inr behind ↦ absurd (missed (behind, omega arith)) ] in
          rest.before t starts);
      behind = not_next piece.end next.behind (λ missed.
          let low = next.cut.from in
          let high = next.cut.to in
          let from = hit.0 in
          let to = hit.1 in
          let ends : part.end ≡ piece.end = elim (cases_lt piece.end part.end) [ inl before ↦ absurd (missed (omega arith, before)) | inr behind ↦ omega arith ] in
          λ is. rest.behind (ap look ends ∙ is));
    }

  pub composed : (new : List Key) → Shows Step new → Shows Whole new
  composed new shows sector = point (Whole sector) refl
    where
      point : (found : Option Key) → Whole sector ≡ found → MatchOption found (last_key new sector ≡ None) (λ w. IsSomeAnd (last_key new sector) (IsRest Whole w))
      point None is = none_at Step new sector shows (elim (place sector) [
        | inl in_range ↦ in_range.3 ∙ sym in_range.2 ∙ is
        | inr out ↦ out.2 ∙ none_at look old sector shown (sym out.1 ∙ is)
      ])
      point (Some whole) is = elim (place sector) [
        | inl in_range ↦
            let fit = sym in_range.2 ∙ is in
            let at = shown_at Step new sector whole shows (in_range.3 ∙ fit) in
            subst (λ found. IsSomeAnd found (IsRest Whole whole)) (sym at.1) (rest_within whole at.0 fit at.2)
        | inr out ↦
            let given = sym out.1 ∙ is in
            let old_at = shown_at look old sector whole shown given in
            let at = shown_at Step new sector old_at.0 shows (out.2 ∙ old_at.1) in
            subst (λ found. IsSomeAnd found (IsRest Whole whole)) (sym at.1) (rest_beside sector out.0 whole old_at.0 at.0 given old_at.1 old_at.2 at.2 (last_key_found new sector at.0 at.1).1)
      ]

pub erase_composed : (look : ℕ → Option Key) (keys new : List Key) (first count : ℕ) → IsInOrder keys → Shows look keys → Shows (erased first count (last_key keys)) new → Shows (erased first count look) new
erase_composed look keys new first count order shown = composed look keys order shown first (first + count) None (λ key is. absurd (cc)) new

-- one more key of the list
one_more : (list old new : List Key) (key : Key) → IsInOrder old → Shows (last_key list) old → Shows (last_key (old ++ key ∷ [])) new → Shows (last_key (list ++ key ∷ [])) new
one_more list old new key order shown shows =
    shows_same (overlaid (start_of key) key.end (Some key) (last_key list)) (last_key (list ++ key ∷ [])) new (λ sector. sym (last_key-push list key sector))
    (composed (last_key list) old order shown (start_of key) key.end (Some key) (λ k is. let same = same_Some key k is in (sym (ap start_of same), sym (ap (λ (x : Key). x.end) same))) new
    (shows_same (last_key (old ++ key ∷ [])) (overlaid (start_of key) key.end (Some key) (last_key old)) new (last_key-push old key) shows))

pub inserted_shows : (keys list old new : List Key) → IsInOrder old → Shows (last_key list) old → AreInserted keys old new → Shows (last_key (list ++ keys)) new
inserted_shows [] list old new order shown is = subst (λ keys. Shows (last_key keys) new) (sym (append-nil list)) (subst (Shows (last_key list)) (sym is) shown)
inserted_shows (key ∷ keys) list old new order shown run =
    subst (λ all. Shows (last_key all) new) (append_assoc list (key ∷ []) keys)
    (inserted_shows keys (list ++ key ∷ []) run.0 new run.1 (one_more list old run.0 key order shown run.2) run.3)
