-- What a look-up leaves of its keys, collected from a sector on.
use Rattle.std.proofs.Common.{◌≡◌, ◌≢◌, inl, inr, ℕ, ◌+◌, ◌-◌, ◌<◌, ◌≤◌, List, [], ◌∷◌, ◌++◌, Option, Some, None, refl, sym, subst, ap, ◌∙◌, arith}
use Rattle.std.specs.Prelude.{All, MatchOption, IsSomeAnd}
use Rattle.std.proofs.lemmas.Bool.{cases_lt}
use Rattle.std.proofs.lemmas.List.Elements.{All-push, All-nil}
use Rattle.std.proofs.lemmas.List.Quantifiers.{all_pairs_push}
use Rattle.bc_key.specs.declared.key.Key.{Key}
use Rattle.bc_key.specs.Key.{Covers, IsExtent, start_of}
use Rattle.bc_extent.specs.LastKey.{last_key}
use Rattle.bc_extent.specs.Extents.{IsInOrder, IsRange, IsRest, Shows}
use Rattle.bc_extent.proofs.LastKeys.{last_key_none, push_covers, push_misses}

-- for the sector the parts have what the look-up gives
abbrev pub Shown : (ℕ → Option Key) → List Key → ℕ → Type 0
Shown look parts sector = MatchOption (look sector) (last_key parts sector ≡ None) (λ whole. IsSomeAnd (last_key parts sector) (IsRest look whole))

-- the parts are those up to a sector, at which none goes on
pub record AreUpTo (look : ℕ → Option Key) (at : ℕ) (parts : List Key) : Type 0 where
  pub order : IsInOrder parts
  pub ended : All (λ part. part.end ≤ at) parts
  pub shown : (sector : ℕ) → sector < at → Shown look parts sector
  pub fresh : (whole : Key) → 0 < at → look at ≡ Some whole → look (at - 1) ≢ Some whole

abbrev Apart : Key → Key → Type 0
Apart a b = a.end ≤ start_of b

shown_none : (look : ℕ → Option Key) (parts : List Key) (sector : ℕ) → look sector ≡ None → last_key parts sector ≡ None → Shown look parts sector
shown_none look parts sector is none =
    subst (λ (given : Option Key). MatchOption given (last_key parts sector ≡ None) (λ whole. IsSomeAnd (last_key parts sector) (IsRest look whole))) (sym is) none

shown_some : (look : ℕ → Option Key) (parts : List Key) (sector : ℕ) (whole part : Key) → look sector ≡ Some whole → last_key parts sector ≡ Some part → IsRest look whole part → Shown look parts sector
shown_some look parts sector whole part is found rest =
    subst (λ (given : Option Key). MatchOption given (last_key parts sector ≡ None) (λ w. IsSomeAnd (last_key parts sector) (IsRest look w))) (sym is)
    (subst (λ (given : Option Key). IsSomeAnd given (IsRest look whole)) (sym found) rest)

shown_same : (look : ℕ → Option Key) (one other : List Key) (sector : ℕ) → last_key other sector ≡ last_key one sector → Shown look one sector → Shown look other sector
shown_same look one other sector same shown =
    subst (λ (given : Option Key). MatchOption (look sector) (given ≡ None) (λ whole. IsSomeAnd given (IsRest look whole))) (sym same) shown

none_there : (at sector : ℕ) (parts : List Key) → All (λ part. part.end ≤ at) parts → at ≤ sector → last_key parts sector ≡ None
none_there at sector parts ended from = last_key_none parts sector (λ k d inside hit. (let to = ended k d inside in let high = hit.1 in omega arith))

no_both : (key : Key) (given : Option Key) → given ≡ None → given ≡ Some key → ⊥
no_both key given none some = absurd (cc)

module _ (look : ℕ → Option Key) where
  pub none_yet : (from : ℕ) → ((sector : ℕ) → sector < from → look sector ≡ None) → AreUpTo look from []
  none_yet from none = record {
    order = (All-nil IsRange, λ i j d before inside. absurd (omega arith));
    ended = All-nil (λ part. part.end ≤ from);
    shown = λ sector before. shown_none look [] sector (none sector before) refl;
    fresh = λ whole some is same. no_both whole (look (from - 1)) (none (from - 1) (omega arith)) same;
  }

  pub with_gap : (at : ℕ) (parts : List Key) → AreUpTo look at parts → look at ≡ None → AreUpTo look (at + 1) parts
  with_gap at parts p none = record {
    order = p.order;
    ended = λ k d inside. (let old = p.ended k d inside in omega arith);
    shown = λ sector before. elim (cases_lt sector at) [
      | inl low ↦ p.shown sector low
      | inr from ↦
          let here : sector ≡ at = omega arith in
          shown_none look parts sector (ap look here ∙ none) (none_there at sector parts p.ended from)
    ];
    fresh = λ whole some is same. no_both whole (look at) none (ap look (omega arith) ∙ same);
  }

  module _ (at : ℕ) (parts : List Key) (whole part : Key) (p : AreUpTo look at parts) (is : look at ≡ Some whole) (rest : IsRest look whole part) (extent : IsExtent part) (covered : Covers part at) where
    -- it begins there
    begins : start_of part ≡ at
    begins = elim (cases_lt (start_of part) at) [
      | inr from ↦ let low = covered.0 in omega arith
      | inl before ↦
          let low = covered.0 in
          let high = covered.1 in
          absurd (p.fresh whole (omega arith) is (rest.inside (at - 1) (omega arith, omega arith)))
    ]

    pub with_part : AreUpTo look part.end (parts ++ part ∷ [])
    with_part =
        let high = covered.1 in
        let size : 0 < part.size = omega (arith, begins) in
        record {
          order = (
            All-push IsRange parts part p.order.0 (extent, size),
            all_pairs_push Apart parts part p.order.1 (λ k d inside. (let old = p.ended k d inside in omega (arith, begins))),
          );
          ended = All-push (λ key. key.end ≤ part.end) parts part (λ k d inside. (let old = p.ended k d inside in omega arith)) (omega arith);
          shown = λ sector before. elim (cases_lt sector at) [
            | inl low ↦ shown_same look parts (parts ++ part ∷ []) sector (push_misses parts part sector (λ hit. (let first = hit.0 in omega (arith, begins)))) (p.shown sector low)
            | inr from ↦
                let hit : Covers part sector = (omega (arith, begins), before) in
                shown_some look (parts ++ part ∷ []) sector whole part (rest.inside sector hit) (push_covers parts part sector hit) rest
          ];
          fresh = λ next some given same. rest.behind (given ∙ sym same ∙ rest.inside (part.end - 1) (omega (arith, begins), omega arith));
        }

  pub all_shown : (at : ℕ) (parts : List Key) → AreUpTo look at parts → ((sector : ℕ) → at ≤ sector → look sector ≡ None) → Shows look parts
  all_shown at parts p none sector = elim (cases_lt sector at) [
    | inl low ↦ p.shown sector low
    | inr from ↦ shown_none look parts sector (none sector from) (none_there at sector parts p.ended from)
  ]

-- ---- what a rest tells

pub rest_whole : (look : ℕ → Option Key) (given : Option Key) (part : Key) → MatchOption given (Some part ≡ None) (λ whole. IsSomeAnd (Some part) (IsRest look whole)) → (whole : Key) × (given ≡ Some whole) × IsRest look whole part
rest_whole look None part rest = absurd (cc)
rest_whole look (Some whole) part rest = (whole, refl, rest)

pub rest_none : (look : ℕ → Option Key) (given : Option Key) → (o : Option Key) → o ≡ None → MatchOption given (o ≡ None) (λ whole. IsSomeAnd o (IsRest look whole)) → given ≡ None
rest_none look None o none rest = refl
rest_none look (Some whole) o none rest = absurd (subst (λ (found : Option Key). IsSomeAnd found (IsRest look whole)) none rest)
