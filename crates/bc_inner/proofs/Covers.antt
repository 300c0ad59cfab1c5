-- Keys in the range of an inner node, and children that cover it.
use Rattle.std.proofs.Common.{◌≡◌, inl, inr, ℕ, zero, suc, ◌<◌, ◌%◌, Bool, true, false, List, [], ◌∷◌, refl, subst, sym, ap, ◌∙◌, arith}
use Rattle.std.specs.Prelude.{All, Any}
use Rattle.std.specs.Bool.{MatchBool}
use Rattle.std.proofs.lemmas.Bool.{cases_Bool}
use Rattle.std.proofs.lemmas.List.Elements.{All-nil, All-cons}
use Rattle.bc_image.specs.Children.{is_bare, child_before, with_child, with_children, children_of}
use Rattle.bc_image.specs.Sound.{LiesWithin, CoverUpTo, KeepsRange}
use Rattle.bc_image.specs.Tree.{node_of, set_keys}
use Rattle.bc_image.proofs.Children.{Way, below, same, above, way, children_rise}
use Rattle.bc_key.specs.declared.key.Key.{Key}
use Rattle.bc_set.specs.declared.set.Set.{Set}
use Rattle.bc_inner.specs.Inner.{CoverRange}

abbrev pub IsMultiple : Key → Type 0
IsMultiple c = c.end % 256 ≡ 0

-- ---- what all keys have, the children among them have

module _ (P : Key → Type 0) where
  all_before : (key : Key) (cs : List Key) → P key → All P cs → All P (child_before key cs)
  all_before key cs p all = elim (cases_Bool (is_bare key)) [
    | inl bare ↦ (let at : child_before key cs ≡ cs = rw bare refl in subst (λ (xs : List Key). All P xs) (sym at) all)
    | inr kept ↦ (let at : child_before key cs ≡ key ∷ cs = rw kept refl in subst (λ (xs : List Key). All P xs) (sym at) (All-cons P key cs p all))
  ]

  all_child : (key : Key) (cs : List Key) → P key → All P cs → All P (with_child key cs)
  all_child key [] p all = all_before key [] p all
  all_child key (c ∷ cs) p all = go (way key c cs) (all_child key cs p (λ k d inside. all (suc k) d (omega (arith, inside))))
    where
      go : Way key c cs → All P (with_child key cs) → All P (with_child key (c ∷ cs))
      go (below lt at) rest = subst (λ (xs : List Key). All P xs) (sym at) (all_before key (c ∷ cs) p all)
      go (same is at) rest = subst (λ (xs : List Key). All P xs) (sym at) (all_before key cs p (λ k d inside. all (suc k) d (omega (arith, inside))))
      go (above gt at) rest = subst (λ (xs : List Key). All P xs) (sym at) (All-cons P c (with_child key cs) (all 0 c (omega arith)) rest)

  all_children : (keys cs : List Key) → All P keys → All P cs → All P (with_children keys cs)
  all_children [] cs all more = more
  all_children (key ∷ keys) cs all more = all_children keys (with_child key cs) (λ k d inside. all (suc k) d (omega (arith, inside))) (all_child key cs (all 0 key (omega arith)) more)

-- ---- at any level above leaves

reach_of : (cs : List Key) (end : ℕ) → CoverUpTo 1 cs end → Any (λ c. c.end ≡ end) cs
reach_of cs end (multiples, reach) = reach

pub cover_range : (from end : ℕ) (keys : List Key) → All (LiesWithin 1 from end) keys → CoverUpTo 1 (children_of keys) end → CoverRange from end (children_of keys)
cover_range from end keys within cover = record {
  order = children_rise keys;
  within = all_children (LiesWithin 1 from end) keys [] within (All-nil (LiesWithin 1 from end));
  multiples = cover.0;
  reach = reach_of (children_of keys) end cover;
}

pub keeps_range : (level from : ℕ) (key : Key) (sets : List Set) → 0 < level → All (LiesWithin 1 from key.end) (set_keys sets) → CoverUpTo 1 (children_of (set_keys sets)) key.end → KeepsRange (node_of level from key sets)
keeps_range zero from key sets some within cover = absurd (omega (arith, some))
keeps_range (suc level) from key sets some within cover = record { within = within; cover = cover }

pub not_within : (level from : ℕ) (key : Key) (sets : List Set) → 0 < level → ¬ (All (LiesWithin 1 from key.end) (set_keys sets)) → ¬ (KeepsRange (node_of level from key sets))
not_within zero from key sets some not = absurd (omega (arith, some))
not_within (suc level) from key sets some not = λ keeps. not keeps.within

pub not_covered : (level from : ℕ) (key : Key) (sets : List Set) → 0 < level → ¬ (CoverUpTo 1 (children_of (set_keys sets)) key.end) → ¬ (KeepsRange (node_of level from key sets))
not_covered zero from key sets some not = absurd (omega (arith, some))
not_covered (suc level) from key sets some not = λ keeps. not keeps.cover

-- ---- tests

pub no_multiples : (cs : List Key) (end : ℕ) → Any (λ c. ¬ (IsMultiple c)) cs → ¬ (CoverUpTo 1 cs end)
no_multiples cs end some = λ cover. some.4 (subst IsMultiple some.3 (cover.0 some.0 some.1 some.2))

none_reaches : (cs : List Key) (end : ℕ) → All (λ c. ¬ (c.end ≡ end)) cs → Any (λ c. c.end ≡ end) cs → ⊥
none_reaches cs end none some = none some.0 some.1 some.2 (ap (λ (c : Key). c.end) some.3 ∙ some.4)

pub cover_if : (b : Bool) (cs : List Key) (end : ℕ) → All IsMultiple cs → MatchBool b (Any (λ c. c.end ≡ end) cs) (All (λ c. ¬ (c.end ≡ end)) cs) → MatchBool b (CoverUpTo 1 cs end) (¬ (CoverUpTo 1 cs end))
cover_if true cs end all reach = (all, reach)
cover_if false cs end all none = λ cover. none_reaches cs end none (reach_of cs end cover)
