-- The children of an inner node.
use Rattle.std.proofs.Common.{◌≡◌, ◌≢◌, ◌==◌, inl, inr, ℕ, zero, suc, ◌<◌, ◌≤◌, true, List, [], ◌∷◌, Option, Some, None, if◌then◌else◌, refl, sym, subst, ap, ◌∙◌, eq-eqb, arith}
use Rattle.std.specs.Prelude.{All, AllPairs}
use Rattle.std.specs.Option.{option_or}
use Rattle.std.proofs.lemmas.Bool.{cases_Bool, cases_lt, lt-ltb, le-ltb}
use Rattle.std.proofs.lemmas.Bool.Decides.{eqb_tells}
use Rattle.std.proofs.lemmas.List.Elements.{All-nil, All-cons, All-weaker}
use Rattle.bc_key.specs.declared.key.Key.{Key}
use Rattle.bc_image.specs.Children.{is_bare, child_before, with_child, with_children, children_of, last_ending, unless_bare}

-- in order, each end above a bound
abbrev pub Rise : ℕ → List Key → Type 0
Rise low [] = Unit {0}
Rise low (c ∷ cs) = (low ≤ c.end) × Rise (suc c.end) cs

rise_less : (low high : ℕ) (cs : List Key) → low ≤ high → Rise high cs → Rise low cs
rise_less low high [] le r = tt
rise_less low high (c ∷ cs) le r = (omega (arith, le, r.0), r.1)

before_rises : (low : ℕ) (key : Key) (cs : List Key) → low ≤ key.end → Rise (suc key.end) cs → Rise low (child_before key cs)
before_rises low key cs le r = elim (cases_Bool (is_bare key)) [
  | inl bare ↦ (let at : child_before key cs ≡ cs = rw bare refl in subst (Rise low) (sym at) (rise_less low (suc key.end) cs (omega (arith, le)) r))
  | inr kept ↦ (let at : child_before key cs ≡ key ∷ cs = rw kept refl in subst (Rise low) (sym at) (le, r))
]

-- which of three ways a key comes in
pub data Way (key child : Key) (cs : List Key) : Type 0 where
  below : key.end < child.end → with_child key (child ∷ cs) ≡ child_before key (child ∷ cs) → Way key child cs
  same : key.end ≡ child.end → with_child key (child ∷ cs) ≡ child_before key cs → Way key child cs
  above : child.end < key.end → with_child key (child ∷ cs) ≡ child ∷ with_child key cs → Way key child cs

pub way : (key child : Key) (cs : List Key) → Way key child cs
way key child cs = elim (cases_lt key.end child.end) [
  | inl lt ↦ (let test = lt-ltb key.end child.end lt in let at : with_child key (child ∷ cs) ≡ child_before key (child ∷ cs) = rw test refl in below lt at)
  | inr ge ↦ (let no_less = le-ltb key.end child.end ge in elim (eqb_tells key.end child.end) [
    | inl t ↦ (let test = t.0 in let at : with_child key (child ∷ cs) ≡ child_before key cs = rw (no_less, test) refl in same t.1 at)
    | inr t ↦ (let test = t.0 in let differs = t.1 in let at : with_child key (child ∷ cs) ≡ child ∷ with_child key cs = rw (no_less, test) refl in above (elim (cases_lt child.end key.end) [ inl lt ↦ lt | inr le ↦ absurd (differs (omega (arith, ge, le))) ]) at)
  ])
]

pub with_rises : (low : ℕ) (key : Key) (cs : List Key) → low ≤ key.end → Rise low cs → Rise low (with_child key cs)
with_rises low key [] le r = before_rises low key [] le tt
with_rises low key (c ∷ cs) le r = go (way key c cs) (λ m up. with_rises m key cs up)
  where
    go : Way key c cs → ((m : ℕ) → m ≤ key.end → Rise m cs → Rise m (with_child key cs)) → Rise low (with_child key (c ∷ cs))
    go (below lt at) on = subst (Rise low) (sym at) (before_rises low key (c ∷ cs) le (omega (arith, lt), r.1))
    go (same is at) on = subst (Rise low) (sym at) (before_rises low key cs le (rise_less (suc key.end) (suc c.end) cs (omega (arith, is)) r.1))
    go (above gt at) on = subst (Rise low) (sym at) (r.0, on (suc c.end) (omega (arith, gt)) r.1)

all_rise : (keys cs : List Key) → Rise 0 cs → Rise 0 (with_children keys cs)
all_rise [] cs r = r
all_rise (key ∷ keys) cs r = all_rise keys (with_child key cs) (with_rises 0 key cs (omega arith) r)

rise_above : (low : ℕ) (cs : List Key) → Rise low cs → All (λ c. low ≤ c.end) cs
rise_above low [] r = All-nil (λ (c : Key). low ≤ c.end)
rise_above low (c ∷ cs) r = All-cons (λ (d : Key). low ≤ d.end) c cs r.0 (All-weaker (λ (d : Key). suc c.end ≤ d.end) (λ (d : Key). low ≤ d.end) (λ d le. omega (arith, le, r.0)) cs (rise_above (suc c.end) cs r.1))

pub rise_pairs : (low : ℕ) (cs : List Key) → Rise low cs → AllPairs (λ a b. a.end < b.end) cs
rise_pairs low [] r i j d lt inside = absurd (omega arith)
rise_pairs low (c ∷ cs) r zero zero d lt inside = absurd (omega arith)
rise_pairs low (c ∷ cs) r (suc i) zero d lt inside = absurd (omega arith)
rise_pairs low (c ∷ cs) r zero (suc j) d lt inside = let up = rise_above (suc c.end) cs r.1 j d (omega (arith, inside)) in omega (arith, up)
rise_pairs low (c ∷ cs) r (suc i) (suc j) d lt inside = rise_pairs (suc c.end) cs r.1 i j d (omega (arith, lt)) (omega (arith, inside))

pub pairs_rise : (low : ℕ) (cs : List Key) → All (λ c. low ≤ c.end) cs → AllPairs (λ a b. a.end < b.end) cs → Rise low cs
pairs_rise low [] over order = tt
pairs_rise low (c ∷ cs) over order = (
  over 0 c (omega arith),
  pairs_rise (suc c.end) cs (λ k d inside. order 0 (suc k) d (omega arith) (omega (arith, inside))) (λ i j d lt inside. order (suc i) (suc j) d (omega (arith, lt)) (omega (arith, inside))),
)

pub children_rise : (keys : List Key) → AllPairs (λ a b. a.end < b.end) (children_of keys)
children_rise keys = rise_pairs 0 (children_of keys) (all_rise keys [] tt)

-- ---- the last key with an end

abbrev here_or : Key → ℕ → Option Key
here_or key end = if key.end == end then Some key else None

here_is : (key : Key) (end : ℕ) → key.end ≡ end → here_or key end ≡ Some key
here_is key end is = let test : (key.end == end) ≡ true = eq-eqb key.end end is in rw test refl

here_not : (key : Key) (end : ℕ) → key.end ≢ end → here_or key end ≡ None
here_not key end differs = elim (eqb_tells key.end end) [ inl t ↦ absurd (differs t.1) | inr t ↦ (let test = t.0 in rw test refl) ]

none_or : {A : Type 0} → (o : Option A) → option_or None o ≡ o
none_or None = refl
none_or (Some x) = refl

or_none : {A : Type 0} → (o : Option A) → option_or o None ≡ o
or_none None = refl
or_none (Some x) = refl

-- above a bound there is none below it
none_below : (low end : ℕ) (cs : List Key) → end < low → Rise low cs → last_ending cs end ≡ None
none_below low end [] lt r = refl
none_below low end (c ∷ cs) lt r =
    ap (λ (o : Option Key). option_or o (here_or c end)) (none_below (suc c.end) end cs (omega (arith, lt, r.0)) r.1) ∙ none_or (here_or c end) ∙ here_not c end (λ is. (let low_ = r.0 in absurd (omega (arith, is, lt, low_))))

-- a key in front of those above it, for its own end and for another one
before_own : (key : Key) (cs : List Key) → Rise (suc key.end) cs → last_ending (child_before key cs) key.end ≡ unless_bare (Some key)
before_own key cs r = elim (cases_Bool (is_bare key)) [
  | inl bare ↦ (let at : child_before key cs ≡ cs = rw bare refl in let kept : unless_bare (Some key) ≡ None = rw bare refl in
      ap (λ (xs : List Key). last_ending xs key.end) at ∙ none_below (suc key.end) key.end cs (omega arith) r ∙ sym kept)
  | inr held ↦ (let at : child_before key cs ≡ key ∷ cs = rw held refl in let kept : unless_bare (Some key) ≡ Some key = rw held refl in
      ap (λ (xs : List Key). last_ending xs key.end) at ∙ ap (λ (o : Option Key). option_or o (here_or key key.end)) (none_below (suc key.end) key.end cs (omega arith) r) ∙ none_or (here_or key key.end) ∙ here_is key key.end refl ∙ sym kept)
]

before_other : (key : Key) (cs : List Key) (end : ℕ) → key.end ≢ end → last_ending (child_before key cs) end ≡ last_ending cs end
before_other key cs end differs = elim (cases_Bool (is_bare key)) [
  | inl bare ↦ (let at : child_before key cs ≡ cs = rw bare refl in ap (λ (xs : List Key). last_ending xs end) at)
  | inr held ↦ (let at : child_before key cs ≡ key ∷ cs = rw held refl in
      ap (λ (xs : List Key). last_ending xs end) at ∙ ap (option_or (last_ending cs end)) (here_not key end differs) ∙ or_none (last_ending cs end))
]

with_own : (low : ℕ) (key : Key) (cs : List Key) → Rise low cs → last_ending (with_child key cs) key.end ≡ unless_bare (Some key)
with_own low key [] r = before_own key [] tt
with_own low key (c ∷ cs) r = go (way key c cs) (with_own (suc c.end) key cs r.1)
  where
    go : Way key c cs → last_ending (with_child key cs) key.end ≡ unless_bare (Some key) → last_ending (with_child key (c ∷ cs)) key.end ≡ unless_bare (Some key)
    go (below lt at) on = ap (λ (xs : List Key). last_ending xs key.end) at ∙ before_own key (c ∷ cs) (omega (arith, lt), r.1)
    go (same is at) on = ap (λ (xs : List Key). last_ending xs key.end) at ∙ before_own key cs (rise_less (suc key.end) (suc c.end) cs (omega (arith, is)) r.1)
    go (above gt at) on =
        ap (λ (xs : List Key). last_ending xs key.end) at ∙ ap (option_or (last_ending (with_child key cs) key.end)) (here_not c key.end (λ is. absurd (omega (arith, is, gt))))
        ∙ or_none (last_ending (with_child key cs) key.end) ∙ on

with_other : (key : Key) (cs : List Key) (end : ℕ) → key.end ≢ end → last_ending (with_child key cs) end ≡ last_ending cs end
with_other key [] end differs = before_other key [] end differs
with_other key (c ∷ cs) end differs = go (way key c cs) (with_other key cs end differs)
  where
    go : Way key c cs → last_ending (with_child key cs) end ≡ last_ending cs end → last_ending (with_child key (c ∷ cs)) end ≡ last_ending (c ∷ cs) end
    go (below lt at) on = ap (λ (xs : List Key). last_ending xs end) at ∙ before_other key (c ∷ cs) end differs
    go (same is at) on =
        ap (λ (xs : List Key). last_ending xs end) at ∙ before_other key cs end differs
        ∙ sym (ap (option_or (last_ending cs end)) (here_not c end (λ there. differs (is ∙ there))) ∙ or_none (last_ending cs end))
    go (above gt at) on = ap (λ (xs : List Key). last_ending xs end) at ∙ ap (λ (o : Option Key). option_or o (here_or c end)) on

-- what keys over children give
abbrev over : Option Key → Option Key → Option Key
over None o = o
over (Some key) o = unless_bare (Some key)

over_more : (a : Option Key) (key : Key) (o : Option Key) → over a (unless_bare (Some key)) ≡ over (option_or a (Some key)) o
over_more None key o = refl
over_more (Some k) key o = refl

all_last : (keys cs : List Key) (end : ℕ) → Rise 0 cs → last_ending (with_children keys cs) end ≡ over (last_ending keys end) (last_ending cs end)
all_last [] cs end r = refl
all_last (key ∷ keys) cs end r = all_last keys (with_child key cs) end (with_rises 0 key cs (omega arith) r) ∙ elim (eqb_tells key.end end) [
  | inl t ↦ (let own : last_ending (with_child key cs) end ≡ unless_bare (Some key) = subst (λ n. last_ending (with_child key cs) n ≡ unless_bare (Some key)) t.1 (with_own 0 key cs r) in
      ap (over (last_ending keys end)) own ∙ over_more (last_ending keys end) key (last_ending cs end) ∙ ap (λ (o : Option Key). over (option_or (last_ending keys end) o) (last_ending cs end)) (sym (here_is key end t.1)))
  | inr t ↦ ap (over (last_ending keys end)) (with_other key cs end t.1) ∙ ap (λ (o : Option Key). over o (last_ending cs end)) (sym (ap (option_or (last_ending keys end)) (here_not key end t.1) ∙ or_none (last_ending keys end)))
]

over_none : (o : Option Key) → over o None ≡ unless_bare o
over_none None = refl
over_none (Some key) = refl

pub children_last : (keys : List Key) (end : ℕ) → last_ending (children_of keys) end ≡ unless_bare (last_ending keys end)
children_last keys end = all_last keys [] end tt ∙ over_none (last_ending keys end)
