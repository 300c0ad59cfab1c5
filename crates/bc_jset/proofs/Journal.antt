-- Each image has no journal, a gap, or a list of entries.
use Rattle.std.proofs.Common.{◌≡◌, ◌≢◌, ◌⊎◌, ◌==◌, inl, inr, ℕ, zero, suc, ◌+◌, ◌-◌, ◌*◌, ◌<◌, ◌≤◌, List, [], ◌∷◌, ◌++◌, length, cond, true, false, Option, Some, None, refl, sym, subst, ap, ◌∙◌, eq-eqb, arith}
use Rattle.std.specs.Prelude.{All}
use Rattle.std.proofs.lemmas.Bool.{cases_Bool, cases_lt, eqb-true}
use Rattle.std.proofs.lemmas.List.Elements.{All-nil, All-cons, All-weaker}
use Rattle.bc_model.specs.Sector.{Image}
use Rattle.bc_disk.specs.declared.geometry.Geometry.{Geometry}
use Rattle.bc_record.specs.Places.{placed}
use Rattle.bc_record.proofs.Blocks.{bucket_blocks}
use Rattle.bc_record.proofs.Found.{run_exists}
use Rattle.bc_jset.specs.Records.{entry_kind}
use Rattle.bc_jset.specs.Entries.{FoundEntry, bucket_start, bucket_end, StandIn, first_with, IsNewest, AreNumbered, AreEntries, HasNoJournal, IsThere, IsMissing, IsGap, NeedsNewer, HasGap}
use Rattle.bc_jset.proofs.Records.{entry_codec}
use Rattle.bc_jset.proofs.Entries.{one_stand, one_newest, found_number, found_has}

-- ---- what is found

abbrev SomeStand : Geometry → Image → ℕ → Type 0
SomeStand g image n = (all : List FoundEntry) × StandIn g image n all

pub stand_exists : (g : Geometry) (image : Image) (n : ℕ) → SomeStand g image n
stand_exists g image zero = ([], refl)
stand_exists g image (suc n) =
    let before = stand_exists g image n in
    let blocks = bucket_blocks g in
    let here = run_exists (entry_kind g) (entry_codec g) image (bucket_end g n) (bucket_start g n) blocks.0 (ap (λ m. bucket_start g n + m) blocks.1) in
    (before.0 ++ placed (entry_kind g) (bucket_start g n) here.0, (before.0, here.0, before.1, here.1, refl))

some_or_none : {A : Type 0} → (o : Option A) → ((x : A) × (o ≡ Some x)) ⊎ (o ≡ None)
some_or_none (Some x) = inl (x, refl)
some_or_none None = inr refl

there_or_missing : (all : List FoundEntry) (number : ℕ) → IsThere all number ⊎ IsMissing all number
there_or_missing all number = some_or_none (first_with number all)

not_both : (all : List FoundEntry) (number : ℕ) → IsThere all number → IsMissing all number → ⊥
not_both all number there missing = let is = there.1 in absurd (cc)

pub first_here : (number : ℕ) (e : FoundEntry) (es : List FoundEntry) → e.item.seq ≡ number → first_with number (e ∷ es) ≡ Some e
first_here number e es is =
    let test : (e.item.seq == number) ≡ true = eq-eqb e.item.seq number is in
    let at : cond (e.item.seq == number) (Some e) (first_with number es) ≡ Some e = rw test refl in
    at

first_later : (number : ℕ) (e : FoundEntry) (es : List FoundEntry) → e.item.seq ≢ number → first_with number (e ∷ es) ≡ first_with number es
first_later number e es other = elim (cases_Bool (e.item.seq == number)) [
  | inl same ↦ absurd (other (eqb-true e.item.seq number same))
  | inr differs ↦ let at : cond (e.item.seq == number) (Some e) (first_with number es) ≡ first_with number es = rw differs refl in at
]

-- ---- the newest

pub record HasTop (all : List FoundEntry) : Type 0 where
  pub number : ℕ
  pub there : IsThere all number
  pub greatest : All (λ e. e.item.seq ≤ number) all

top_more : (e : FoundEntry) (es : List FoundEntry) → HasTop es → HasTop (e ∷ es)
top_more e es top = elim (cases_lt e.item.seq top.number) [
  | inl less ↦
      record {
        number = top.number;
        there = (top.there.0, first_later top.number e es (λ same. absurd (omega (arith, same, less))) ∙ top.there.1);
        greatest = All-cons (λ (x : FoundEntry). x.item.seq ≤ top.number) e es (omega (arith, less)) top.greatest;
      }
  | inr more ↦
      record {
        number = e.item.seq;
        there = (e, first_here e.item.seq e es refl);
        greatest = All-cons (λ (x : FoundEntry). x.item.seq ≤ e.item.seq) e es (omega arith) (All-weaker (λ (x : FoundEntry). x.item.seq ≤ top.number) (λ (x : FoundEntry). x.item.seq ≤ e.item.seq) (λ x le. omega (arith, le, more)) es top.greatest);
      }
]

top_of : (e : FoundEntry) (es : List FoundEntry) → HasTop (e ∷ es)
top_of e [] = record {
  number = e.item.seq;
  there = (e, first_here e.item.seq e [] refl);
  greatest = All-cons (λ (x : FoundEntry). x.item.seq ≤ e.item.seq) e [] (omega arith) (All-nil (λ (x : FoundEntry). x.item.seq ≤ e.item.seq));
}
top_of e (d ∷ es) = top_more e (d ∷ es) (top_of d es)

pub newest_of : (all : List FoundEntry) → HasTop all → (newest : FoundEntry) × IsNewest all newest
newest_of all top =
    let e = top.there.0 in
    let is : e.item.seq ≡ top.number = found_number top.number all e top.there.1 in (
      e,
      record {
        counts = subst (λ n. first_with n all ≡ Some e) (sym is) top.there.1;
        greatest = subst (λ n. All (λ (x : FoundEntry). x.item.seq ≤ n) all) (sym is) top.greatest;
      },
    )

-- ---- a gap or a list

abbrev SomeGap : List FoundEntry → ℕ → Type 0
SomeGap all low = (from to : ℕ) × IsGap all low from to

abbrev SomeList : List FoundEntry → ℕ → ℕ → Type 0
SomeList all low next = (es : List FoundEntry) × AreNumbered all low es next

-- from a missing number on to the next one that is there
pub record Missing (all : List FoundEntry) (low : ℕ) : Type 0 where
  pub to : ℕ
  pub order : low ≤ to
  pub missing : (k : ℕ) → low ≤ k → k ≤ to → IsMissing all k
  pub behind : IsThere all (suc to)

one_missing : (all : List FoundEntry) (low k : ℕ) → IsMissing all low → low ≤ k → k ≤ low → IsMissing all k
one_missing all low k missing from to = let same : low ≡ k = omega arith in subst (λ n. IsMissing all n) same missing

missing_from : (all : List FoundEntry) (left low high : ℕ) → low + left ≡ high → IsThere all high → IsMissing all low → Missing all low
missing_from all zero low high ends there missing = absurd (not_both all low (subst (λ n. IsThere all n) (let same : high ≡ low = omega arith in same) there) missing)
missing_from all (suc left) low high ends there missing = go (there_or_missing all (suc low)) (λ m. missing_from all left (suc low) high (omega arith) there m)
  where
    go : IsThere all (suc low) ⊎ IsMissing all (suc low) → (IsMissing all (suc low) → Missing all (suc low)) → Missing all low
    go (inl next) on = record { to = low; order = omega arith; missing = λ k from to. one_missing all low k missing from to; behind = next }
    go (inr more) on =
        let rest = on more in
        record {
          to = rest.to;
          order = let low_ = rest.order in omega (arith, low_);
          missing = λ k from to. elim (cases_lt low k) [ inl above ↦ rest.missing k (omega arith) to | inr here ↦ one_missing all low k missing from here ];
          behind = rest.behind;
        }

search_from : (all : List FoundEntry) (left low high : ℕ) → low + left ≡ high → IsThere all high → SomeGap all low ⊎ SomeList all low (suc high)
search_from all zero low high ends there =
    let same : high ≡ low = omega arith in
    let here : IsThere all low = subst (λ n. IsThere all n) same there in
    inr (here.0 ∷ [], (here.1, (let last : suc low ≡ suc high = omega arith in last)))
search_from all (suc left) low high ends there = go (there_or_missing all low) (search_from all left (suc low) high (omega arith) there)
  where
    more : IsThere all low → SomeGap all (suc low) ⊎ SomeList all (suc low) (suc high) → SomeGap all low ⊎ SomeList all low (suc high)
    more here (inr list) = inr (here.0 ∷ list.0, (here.1, list.1))
    more here (inl gap) =
        let from = gap.2.begins in
        inl (
          gap.0,
          gap.1,
          record {
            begins = omega (arith, from);
            order = gap.2.order;
            before = λ k above below. elim (cases_lt low k) [ inl later ↦ gap.2.before k (omega arith) below | inr same ↦ subst (λ n. IsThere all n) (let e : low ≡ k = omega arith in e) here ];
            missing = gap.2.missing;
            behind = gap.2.behind;
          },
        )

    go : IsThere all low ⊎ IsMissing all low → SomeGap all (suc low) ⊎ SomeList all (suc low) (suc high) → SomeGap all low ⊎ SomeList all low (suc high)
    go (inl here) rest = more here rest
    go (inr missing) rest =
        let m = missing_from all (suc left) low high ends there missing in
        inl (low, m.to, record { begins = omega arith; order = m.order; before = λ k above below. absurd (omega arith); missing = m.missing; behind = m.behind })

abbrev OneOfThree : Geometry → Image → Type 0
OneOfThree g image = HasNoJournal g image ⊎ (((from to : ℕ) × HasGap g image from to) ⊎ ((es : List FoundEntry) × AreEntries g image es))

pub one_of_three : (g : Geometry) (image : Image) → OneOfThree g image
one_of_three g image = let all = stand_exists g image g.journal in go all.0 all.1
  where
    found : (all : List FoundEntry) (newest : FoundEntry) → StandIn g image g.journal all → IsNewest all newest → OneOfThree g image
    found all newest stand is = elim (cases_lt newest.item.seq newest.item.last_seq) [
      | inl newer ↦ inr (inl (newest.item.seq, newest.item.last_seq, record { all = all; stand = stand; newest = newest; is_newest = is; gap = inl (record { newer = newer; first = refl; last = refl }) }))
      | inr reaches ↦ elim (search_from all (newest.item.seq - newest.item.last_seq) newest.item.last_seq newest.item.seq (omega arith) (newest, is.counts)) [
        | inl gap ↦ inr (inl (gap.0, gap.1, record { all = all; stand = stand; newest = newest; is_newest = is; gap = inr gap.2 }))
        | inr list ↦ inr (inr (list.0, record { all = all; stand = stand; newest = newest; is_newest = is; reaches = reaches; numbered = list.1 }))
      ]
    ]

    go : (all : List FoundEntry) → StandIn g image g.journal all → OneOfThree g image
    go [] stand = inl stand
    go (e ∷ es) stand = let newest = newest_of (e ∷ es) (top_of e es) in found (e ∷ es) newest.0 stand newest.1

-- ---- and no other

none_newest : (all : List FoundEntry) (newest : FoundEntry) → all ≡ [] → IsNewest all newest → ⊥
none_newest all newest none is =
    let counts : first_with newest.item.seq [] ≡ Some newest = subst (λ (xs : List FoundEntry). first_with newest.item.seq xs ≡ Some newest) none is.counts in
    absurd (cc)

pub no_gap : (g : Geometry) (image : Image) (from to : ℕ) → HasNoJournal g image → HasGap g image from to → ⊥
no_gap g image from to none p = none_newest p.all p.newest (one_stand g image g.journal p.all [] p.stand none) p.is_newest

pub no_list : (g : Geometry) (image : Image) (es : List FoundEntry) → HasNoJournal g image → AreEntries g image es → ⊥
no_list g image es none p = none_newest p.all p.newest (one_stand g image g.journal p.all [] p.stand none) p.is_newest

-- the number of what is there is the newest's at most
there_below : (all : List FoundEntry) (newest : FoundEntry) (number : ℕ) → IsNewest all newest → IsThere all number → number ≤ newest.item.seq
there_below all newest number is there =
    let le = found_has (λ e. e.item.seq ≤ newest.item.seq) number all there.0 is.greatest there.1 in
    omega (arith, le, found_number number all there.0 there.1)

pub numbered_there : (all : List FoundEntry) (low next : ℕ) (es : List FoundEntry) → AreNumbered all low es next → (k : ℕ) → low ≤ k → k < next → IsThere all k
numbered_there all low next [] p k from to = absurd (omega arith)
numbered_there all low next (e ∷ es) p k from to = elim (cases_lt low k) [
  | inl above ↦ numbered_there all (suc low) next es p.1 k (omega arith) to
  | inr here ↦ subst (λ n. IsThere all n) (let same : low ≡ k = omega arith in same) (e, p.0)
]

-- a gap as one of the same entries
pub record GapOf (all : List FoundEntry) (newest : FoundEntry) (from to : ℕ) : Type 0 where
  pub gap : NeedsNewer newest from to ⊎ IsGap all newest.item.last_seq from to

same_gap : (g : Geometry) (image : Image) (all : List FoundEntry) (newest : FoundEntry) (from to : ℕ) → StandIn g image g.journal all → IsNewest all newest → HasGap g image from to → GapOf all newest from to
same_gap g image all newest from to stand is p =
    let same : p.all ≡ all = one_stand g image g.journal p.all all p.stand stand in
    let top : p.newest ≡ newest = one_newest all p.newest newest (subst (λ (xs : List FoundEntry). IsNewest xs p.newest) same p.is_newest) is in
    subst (λ (e : FoundEntry). GapOf all e from to) top (subst (λ (xs : List FoundEntry). GapOf xs p.newest from to) same (record { gap = p.gap }))

pub never_both : (g : Geometry) (image : Image) (from to : ℕ) (es : List FoundEntry) → HasGap g image from to → AreEntries g image es → ⊥
never_both g image from to es p q = go (same_gap g image q.all q.newest from to q.stand q.is_newest p).gap
  where
    go : NeedsNewer q.newest from to ⊎ IsGap q.all q.newest.item.last_seq from to → ⊥
    go (inl needs) = let newer = needs.newer in let reaches = q.reaches in absurd (omega (arith, newer, reaches))
    go (inr gap) =
        let below = there_below q.all q.newest (suc to) q.is_newest gap.behind in
        let order = gap.order in
        not_both q.all from (numbered_there q.all q.newest.item.last_seq (suc q.newest.item.seq) es q.numbered from gap.begins (omega (arith, below, order))) (gap.missing from (omega arith) order)

first_not_above : (all : List FoundEntry) (low a b c d : ℕ) → IsGap all low a b → IsGap all low c d → c ≤ a
first_not_above all low a b c d p q = elim (cases_lt a c) [
  | inl less ↦ absurd (not_both all a (q.before a p.begins less) (p.missing a (omega arith) p.order))
  | inr le ↦ le
]

last_not_above : (all : List FoundEntry) (low a b d : ℕ) → IsGap all low a b → IsGap all low a d → d ≤ b
last_not_above all low a b d p q = elim (cases_lt b d) [
  | inl less ↦ absurd (let order = p.order in not_both all (suc b) p.behind (q.missing (suc b) (omega (arith, order)) (omega arith)))
  | inr le ↦ le
]

not_needed : (all : List FoundEntry) (newest : FoundEntry) (a b c d : ℕ) → IsNewest all newest → NeedsNewer newest a b → IsGap all newest.item.last_seq c d → ⊥
not_needed all newest a b c d is needs gap =
    let below = there_below all newest (suc d) is gap.behind in
    let newer = needs.newer in
    let low = gap.begins in
    let order = gap.order in
    absurd (omega (arith, below, newer, low, order))

pub one_gap : (g : Geometry) (image : Image) (a b c d : ℕ) → HasGap g image a b → HasGap g image c d → (a ≡ c) × (b ≡ d)
one_gap g image a b c d p q = go p.gap (same_gap g image p.all p.newest c d p.stand p.is_newest q).gap
  where
    go : NeedsNewer p.newest a b ⊎ IsGap p.all p.newest.item.last_seq a b → NeedsNewer p.newest c d ⊎ IsGap p.all p.newest.item.last_seq c d → (a ≡ c) × (b ≡ d)
    go (inl x) (inl y) = (x.first ∙ sym y.first, x.last ∙ sym y.last)
    go (inl x) (inr y) = absurd (not_needed p.all p.newest a b c d p.is_newest x y)
    go (inr x) (inl y) = absurd (not_needed p.all p.newest c d a b p.is_newest y x)
    go (inr x) (inr y) =
        let low = first_not_above p.all p.newest.item.last_seq a b c d x y in
        let high = first_not_above p.all p.newest.item.last_seq c d a b y x in
        let first : a ≡ c = omega (arith, low, high) in
        let other : IsGap p.all p.newest.item.last_seq a d = subst (λ n. IsGap p.all p.newest.item.last_seq n d) (sym first) y in
        let under = last_not_above p.all p.newest.item.last_seq a b d x other in
        let over = last_not_above p.all p.newest.item.last_seq a d b other x in
        (first, omega (arith, under, over))
