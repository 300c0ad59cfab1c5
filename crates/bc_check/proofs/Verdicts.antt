-- Of a pair one verdict holds at most, and a sound one where the pair is sound.
use Rattle.std.proofs.Common.{◌≡◌, ◌≢◌, ◌⊎◌, inl, inr, ℕ, zero, suc, ◌+◌, ◌-◌, ◌≤◌, Bool, true, false, List, [], ◌∷◌, Option, Some, None, refl, sym, subst, ap, ◌∙◌, arith}
use Rattle.std.specs.Prelude.{Contains, max}
use Rattle.std.proofs.lemmas.Bool.{cases_lt, cases_Bool}
use Rattle.bc_disk.specs.declared.geometry.Geometry.{Geometry}
use Rattle.bc_extent.proofs.LastKeys.{last_key_found}
use Rattle.bc_image.specs.Pair.{Pair, HasBacking}
use Rattle.bc_image.specs.Reading.{Reading, View, keys_of, key_of}
use Rattle.bc_image.specs.Shown.{is_live}
use Rattle.bc_image.specs.Sound.{HasSuperblocks, ServesAlone, IsSound, AgreesWhereClean}
use Rattle.bc_image.proofs.Unique.{one_backing, one_view, some_same}
use Rattle.bc_key.specs.declared.key.Key.{Key}
use Rattle.bc_replay.specs.declared.error.OpenError.{OpenError}
use Rattle.bc_replay.proofs.Once.{never_both}
use Rattle.bc_super.specs.Division.{IsPassThrough}
use Rattle.bc_super.specs.declared.backing.BackingSuper.{BackingSuper}
use Rattle.bc_super.specs.declared.cache.CacheSuper.{CacheSuper}
use Rattle.bc_check.specs.Apart.{Disagrees}
use Rattle.bc_counts.specs.Counts.{CountsBelow, IsCount}
use Rattle.bc_check.specs.Totals.{IsLiveAs, IsDirtyAt, IsCleanAt}
use Rattle.bc_check.specs.Verdict.{IsLeast, IsVerdictOf, IsOpened, IsVerdict, IsRefusal, NoStray, NoneAged, HasStrayIn}
use Rattle.bc_check.specs.Window.{IsAged, IsLeastAged}
use Rattle.bc_check.specs.declared.verdict.Verdict.{Verdict}
use Rattle.bc_check.specs.declared.verdict.Verdict.TheVariants as verdicts
use Rattle.bc_counts.proofs.Counting.{counts_none}

-- ---- the least one, and counts

one_least : (P : ℕ → Type 0) (a b : ℕ) → IsLeast P a → IsLeast P b → a ≡ b
one_least P a b x y = elim (cases_lt a b) [
  | inl less ↦ absurd (y.least a less x.holds)
  | inr most ↦ elim (cases_lt b a) [ inl less ↦ absurd (x.least b less y.holds) | inr other ↦ omega (arith, most, other) ]
]

module _ (P : ℕ → Type 0) where
  one_below : (n a b : ℕ) → CountsBelow P n a → CountsBelow P n b → a ≡ b
  one_below zero a b x y = x ∙ sym y
  one_below (suc n) a b (less, rest, inl one) (more, other, inl two) = one.1 ∙ ap suc (one_below n less more rest other) ∙ sym two.1
  one_below (suc n) a b (less, rest, inl one) (more, other, inr two) = absurd (two.0 one.0)
  one_below (suc n) a b (less, rest, inr one) (more, other, inl two) = absurd (one.0 two.0)
  one_below (suc n) a b (less, rest, inr one) (more, other, inr two) = one.1 ∙ one_below n less more rest other ∙ sym two.1

  -- up to a bound behind its own
  counts_to : (n count : ℕ) (c : IsCount P count) → c.bound ≤ n → CountsBelow P n count
  counts_to n count c most =
      let parts : c.bound + (n - c.bound) ≡ n = omega (arith, most) in
      subst (λ m. CountsBelow P m count) parts (counts_none P c.bound (n - c.bound) count c.below (λ s from below. c.behind s from))

  one_count : (a b : ℕ) → IsCount P a → IsCount P b → a ≡ b
  one_count a b x y = one_below (x.bound + y.bound) a b (counts_to (x.bound + y.bound) a x (omega arith)) (counts_to (x.bound + y.bound) b y (omega arith))

  -- what can be decided is counted
  count_below : ((n : ℕ) → P n ⊎ ¬ (P n)) → (n : ℕ) → (count : ℕ) × CountsBelow P n count
  count_below decide zero = (0, refl)
  count_below decide (suc n) = with_next (count_below decide n) (decide n)
    where
      with_next : (count : ℕ) × CountsBelow P n count → P n ⊎ ¬ (P n) → (count : ℕ) × CountsBelow P (suc n) count
      with_next (less, rest) (inl holds) = (suc less, (less, rest, inl (holds, refl)))
      with_next (less, rest) (inr not) = (less, (less, rest, inr (not, refl)))

-- ---- the live sectors of a reading

end_of_all : List Key → ℕ
end_of_all [] = 0
end_of_all (key ∷ keys) = max key.end (end_of_all keys)

ends_below : (keys : List Key) (key : Key) → Contains keys key → key.end ≤ end_of_all keys
unfolding end_of_all
ends_below [] key (i, low, is) = absurd (omega (arith, low))
ends_below (x ∷ xs) key (zero, low, is) = let same = ap (λ (k : Key). k.end) is in omega (arith, same)
ends_below (x ∷ xs) key (suc i, low, is) = let rest = ends_below xs key (i, omega (arith, low), is) in omega (arith, rest)

module _ (g : Geometry) (r : Reading) (dirty : Bool) where
  same_bool : (a b : Bool) → (a ≡ b) ⊎ (a ≢ b)
  same_bool true true = inl refl
  same_bool true false = inr (λ e. cc)
  same_bool false true = inr (λ e. cc)
  same_bool false false = inl refl

  decide_live : (sector : ℕ) → IsLiveAs g r dirty sector ⊎ ¬ (IsLiveAs g r dirty sector)
  decide_live sector = by_key (key_of r sector) refl
    where
      by_key : (o : Option Key) → key_of r sector ≡ o → IsLiveAs g r dirty sector ⊎ ¬ (IsLiveAs g r dirty sector)
      by_key None is = inr (λ l. absurd (let other = l.last in cc))
      by_key (Some key) is = by_live (cases_Bool (is_live g r.gens key)) (same_bool key.dirty dirty)
        where
          own : (l : IsLiveAs g r dirty sector) → l.key ≡ key
          own l = some_same l.key key (sym l.last ∙ is)

          by_live : (is_live g r.gens key ≡ true) ⊎ (is_live g r.gens key ≡ false) → (key.dirty ≡ dirty) ⊎ (key.dirty ≢ dirty) → IsLiveAs g r dirty sector ⊎ ¬ (IsLiveAs g r dirty sector)
          by_live (inl live) (inl kind) = inl (record { key = key; last = is; live = live; kind = kind })
          by_live (inl live) (inr other) = inr (λ l. other (ap (λ (k : Key). k.dirty) (sym (own l)) ∙ l.kind))
          by_live (inr dead) kind = inr (λ l. absurd (let alive : is_live g r.gens key ≡ true = ap (is_live g r.gens) (sym (own l)) ∙ l.live in cc))

  some_count : (count : ℕ) × IsCount (IsLiveAs g r dirty) count
  some_count =
      let end = end_of_all (keys_of r) in
      let below = count_below (IsLiveAs g r dirty) decide_live end in (
        below.0,
        record {
          bound = end;
          below = below.1;
          behind = λ n most l.
              (let found = last_key_found (keys_of r) n l.key l.last in
              let low = ends_below (keys_of r) l.key found.0 in
              let covers = found.1 in
              absurd (omega (arith, low, most, covers.1)));
        },
      )

-- ---- parts that exclude each other

module _ (p : Pair) (v : View) where
  stray_or_none : (bucket : ℕ) → HasStrayIn p v bucket → NoStray p v → ⊥
  stray_or_none bucket s none = s.other (none s.entry s.stands s.number)

  aged_or_none : (sector : ℕ) → IsAged v.geometry v.reading sector → NoneAged p v → ⊥
  aged_or_none sector (key, is, (ptr, at, aged)) window =
      let so = window sector key ptr is at in
      elim aged [ inl far ↦ (let near = so.0 in omega (arith, far, near)) | inr some ↦ some.1 (so.1 some.0) ]

  apart_or_none : (sector : ℕ) → Disagrees p v sector → AgreesWhereClean p v → ⊥
  apart_or_none sector d agrees = d.apart (agrees sector d.key d.last d.live d.clean)

  least_aged : (sector : ℕ) → IsLeastAged v.geometry v.reading sector → IsLeast (IsAged v.geometry v.reading) sector
  least_aged sector l = record { holds = l.aged; least = l.least }

  one_says : (a b : Verdict) → IsVerdictOf p v a → IsVerdictOf p v b → a ≡ b
  one_says verdicts.PassThrough b x y = absurd x
  one_says (verdicts.Journal m) verdicts.PassThrough x y = absurd y
  one_says (verdicts.Journal m) (verdicts.Journal n) x y = ap verdicts.Journal (one_least (HasStrayIn p v) m n x y)
  one_says (verdicts.Journal m) (verdicts.Age n) x y = absurd (stray_or_none m x.holds y.0)
  one_says (verdicts.Journal m) (verdicts.Agree n) x y = absurd (stray_or_none m x.holds y.0)
  one_says (verdicts.Journal m) (verdicts.Sound d c) x y = absurd (stray_or_none m x.holds y.0)
  one_says (verdicts.Age m) verdicts.PassThrough x y = absurd y
  one_says (verdicts.Age m) (verdicts.Journal n) x y = absurd (stray_or_none n y.holds x.0)
  one_says (verdicts.Age m) (verdicts.Age n) x y = ap verdicts.Age (one_least (IsAged v.geometry v.reading) m n (least_aged m x.1) (least_aged n y.1))
  one_says (verdicts.Age m) (verdicts.Agree n) x y = absurd (aged_or_none m x.1.aged y.1)
  one_says (verdicts.Age m) (verdicts.Sound d c) x y = absurd (aged_or_none m x.1.aged y.1)
  one_says (verdicts.Agree m) verdicts.PassThrough x y = absurd y
  one_says (verdicts.Agree m) (verdicts.Journal n) x y = absurd (stray_or_none n y.holds x.0)
  one_says (verdicts.Agree m) (verdicts.Age n) x y = absurd (aged_or_none n y.1.aged x.1)
  one_says (verdicts.Agree m) (verdicts.Agree n) x y = ap verdicts.Agree (one_least (Disagrees p v) m n x.2 y.2)
  one_says (verdicts.Agree m) (verdicts.Sound d c) x y = absurd (apart_or_none m x.2.holds y.2)
  one_says (verdicts.Sound d c) verdicts.PassThrough x y = absurd y
  one_says (verdicts.Sound d c) (verdicts.Journal n) x y = absurd (stray_or_none n y.holds x.0)
  one_says (verdicts.Sound d c) (verdicts.Age n) x y = absurd (aged_or_none n y.1.aged x.1)
  one_says (verdicts.Sound d c) (verdicts.Agree n) x y = absurd (apart_or_none n y.2.holds x.2)
  one_says (verdicts.Sound d c) (verdicts.Sound e f) x y =
      let dirty = one_count (IsDirtyAt v.geometry v.reading) d e x.3.0 y.3.0 in
      let clean = one_count (IsCleanAt v.geometry v.reading) c f x.3.1 y.3.1 in
      ap (λ n. verdicts.Sound n c) dirty ∙ ap (λ n. verdicts.Sound e n) clean

pub not_through : (p : Pair) (b : BackingSuper) (c : CacheSuper) → HasBacking p b → HasSuperblocks b c → ServesAlone p → ⊥
not_through p b c has supers (other, there, alone) =
    let same = one_backing p other b there has in
    let through = subst IsPassThrough same alone in
    let none = through.1 in
    elim supers.state [ inl clean ↦ absurd (omega (arith, none, clean)) | inr dirty ↦ absurd (omega (arith, none, dirty)) ]

module _ (p : Pair) where
  not_alone : (a : Verdict) → IsOpened p a → ServesAlone p → ⊥
  not_alone a o alone = not_through p o.view.backing o.view.cache o.is_view.backing o.openable.superblocks alone

  one_opened : (a b : Verdict) → IsOpened p a → IsOpened p b → a ≡ b
  one_opened a b x y =
      let same = one_view p y.view x.view y.is_view x.is_view in
      one_says p x.view a b x.says (subst (λ (v : View). IsVerdictOf p v b) same y.says)

  -- a verdict is that of an opened pair, or the pair needs no cache device
  split : (a : Verdict) → IsVerdict p a → ((a ≡ verdicts.PassThrough) × ServesAlone p) ⊎ IsOpened p a
  split verdicts.PassThrough x = inl (refl, x)
  split (verdicts.Journal n) x = inr x
  split (verdicts.Age n) x = inr x
  split (verdicts.Agree n) x = inr x
  split (verdicts.Sound d c) x = inr x

  pub one_verdict : (a b : Verdict) → IsVerdict p a → IsVerdict p b → a ≡ b
  one_verdict a b x y = go (split a x) (split b y)
    where
      go : ((a ≡ verdicts.PassThrough) × ServesAlone p) ⊎ IsOpened p a → ((b ≡ verdicts.PassThrough) × ServesAlone p) ⊎ IsOpened p b → a ≡ b
      go (inl one) (inl other) = one.0 ∙ sym other.0
      go (inl one) (inr other) = absurd (not_alone b other one.1)
      go (inr one) (inl other) = absurd (not_alone a one other.1)
      go (inr one) (inr other) = one_opened a b one other

  pub never_refused : (a : Verdict) (why : OpenError) → IsVerdict p a → IsRefusal p why → ⊥
  never_refused a why x refused = elim (split a x) [
    | inl alone ↦ refused.0 alone.1
    | inr opened ↦ never_both p opened.view opened.is_view opened.openable why refused.1
  ]

  -- ---- sound

  pub sound_so : (dirty clean : ℕ) → IsVerdict p (verdicts.Sound dirty clean) → IsSound p
  sound_so dirty clean x =
      let o = x.openable in
      let s = x.says in
      inr (
        x.view,
        x.is_view,
        record {
          superblocks = o.superblocks;
          backing = o.backing;
          ranges = o.ranges;
          pointers = o.pointers;
          uses = o.once;
          agrees = s.2;
          window = s.1;
          spare = o.spare;
          no_stray = s.0;
        },
        o.room,
      )

  pub says_sound : IsSound p → IsVerdict p verdicts.PassThrough ⊎ ((dirty clean : ℕ) × IsVerdict p (verdicts.Sound dirty clean))
  says_sound (inl alone) = inl alone
  says_sound (inr (v, view, parts, room)) =
      let dirty = some_count v.geometry v.reading true in
      let clean = some_count v.geometry v.reading false in
      inr (
        dirty.0,
        clean.0,
        record {
          view = v;
          is_view = view;
          openable = record {
            superblocks = parts.superblocks;
            backing = parts.backing;
            ranges = parts.ranges;
            pointers = parts.pointers;
            once = parts.uses;
            spare = parts.spare;
            room = room;
          };
          says = (parts.no_stray, parts.window, parts.agrees, (dirty.1, clean.1));
        },
      )
