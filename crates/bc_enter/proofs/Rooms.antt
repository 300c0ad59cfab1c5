-- An entry without keys has a place in the ring behind the entries that were read.
use Rattle.std.proofs.Common.{◌≡◌, ◌≢◌, ◌⊎◌, inl, inr, ℕ, ◌+◌, ◌<◌, ◌≤◌, ◌==◌, ◌&&◌, ◌||◌, Bool, true, false, not, if◌then◌else◌, List, [], ◌∷◌, refl, sym, ap, ◌∙◌, arith, eq-eqb, ne_eqb, lit≤, Some, None}
use Rattle.std.specs.Prelude.{All, IsSome, nat_le, nat_lt, slice_index}
use Rattle.std.proofs.lemmas.Bool.{cases_eq}
use Rattle.std.proofs.lemmas.Bool.Decides.{nat_tests}
use Rattle.std.proofs.lemmas.List.Elements.{All-nil, All-cons, All-head, All-tail, All-contains}
use Rattle.bc_disk.specs.declared.geometry.Geometry.{Geometry}
use Rattle.bc_record.specs.Places.{end_of}
use Rattle.bc_record.proofs.Blocks.{block_some, blocks_within}
use Rattle.bc_jset.specs.Entries.{FoundEntry}
use Rattle.bc_jset.specs.Records.{entry_kind}
use Rattle.bc_jset.specs.Ring.{IsNextPlace, bucket_after, bucket_of, greatest_in}
use Rattle.bc_journal.specs.Journal.{HasRoom, journal_at}
use Rattle.bc_journal.specs.Ring.{following, is_free, may_begin, sectors_for}
use Rattle.bc_journal.specs.declared.heads.Heads.{Heads}
use Rattle.bc_journal.specs.declared.place.Place.{Place}
use Rattle.bc_resume.specs.Numbers.{number_in}

-- ---- the greatest number of a bucket

number_here : (g : Geometry) (bucket : ℕ) (e : FoundEntry) → bucket_of g e ≡ bucket → number_in g bucket e ≡ e.item.seq
number_here g bucket e same = ap (λ b. if b then e.item.seq else 0) (eq-eqb (bucket_of g e) bucket same)

number_elsewhere : (g : Geometry) (bucket : ℕ) (e : FoundEntry) → bucket_of g e ≢ bucket → number_in g bucket e ≡ 0
number_elsewhere g bucket e other = ap (λ b. if b then e.item.seq else 0) (ne_eqb (bucket_of g e) bucket other)

abbrev IsOlder : Geometry → ℕ → ℕ → FoundEntry → Type 0
IsOlder g bucket low e = bucket_of g e ≡ bucket → e.item.seq < low

pub greatest_free : (g : Geometry) (bucket low : ℕ) (es : List FoundEntry) → greatest_in g bucket es < low → All (IsOlder g bucket low) es
greatest_free g bucket low [] below = All-nil (IsOlder g bucket low)
greatest_free g bucket low (e ∷ es) below =
    All-cons (IsOlder g bucket low) e es (λ same. (let here = number_here g bucket e same in omega (arith, here, below)))
    (greatest_free g bucket low es (omega (arith, below)))

pub free_greatest : (g : Geometry) (bucket low : ℕ) (es : List FoundEntry) → 0 < low → All (IsOlder g bucket low) es → greatest_in g bucket es < low
free_greatest g bucket low [] some free = some
free_greatest g bucket low (e ∷ es) some free =
    let rest = free_greatest g bucket low es some (All-tail (IsOlder g bucket low) e es free) in
    elim (cases_eq (bucket_of g e) bucket) [
      | inl same ↦ (let here = number_here g bucket e same in let first = All-head (IsOlder g bucket low) e es free same in omega (arith, here, first, rest))
      | inr other ↦ (let none = number_elsewhere g bucket e other in omega (arith, none, rest))
    ]

-- ---- the ring's next bucket, as the device counts and from 0

pub after_is : (g : Geometry) (k : ℕ) → k < g.journal → bucket_after g (g.first_bucket + k) ≡ g.first_bucket + following g k
after_is g k inside = elim (cases_eq (g.first_bucket + k + 1) (g.first_bucket + g.journal)) [
  | inl last ↦ (
      let up : (g.first_bucket + k + 1 == g.first_bucket + g.journal) ≡ true = eq-eqb (g.first_bucket + k + 1) (g.first_bucket + g.journal) last in
      let down : nat_lt (k + 1) g.journal ≡ false = (let end : g.journal ≤ k + 1 = omega (arith, last) in grind (arith, nat_tests)) in
      ap (λ b. if b then g.first_bucket else g.first_bucket + k + 1) up ∙ (let none : g.first_bucket ≡ g.first_bucket + 0 = omega arith in none)
      ∙ ap (λ b. g.first_bucket + (if b then k + 1 else 0)) (sym down))
  | inr other ↦ (
      let up : (g.first_bucket + k + 1 == g.first_bucket + g.journal) ≡ false = ne_eqb (g.first_bucket + k + 1) (g.first_bucket + g.journal) other in
      let more : k + 1 < g.journal = omega (arith, inside, other) in
      let down : nat_lt (k + 1) g.journal ≡ true = grind (arith, nat_tests) in
      ap (λ b. if b then g.first_bucket else g.first_bucket + k + 1) up ∙ (let sum : g.first_bucket + k + 1 ≡ g.first_bucket + (k + 1) = omega arith in sum)
      ∙ ap (λ b. g.first_bucket + (if b then k + 1 else 0)) (sym down))
]

-- ---- the next place is one

not_behind : (g : Geometry) (es : List FoundEntry) (newest : FoundEntry) (a b : ℕ) → IsNextPlace g es newest a → IsNextPlace g es newest b → a ≤ b
not_behind g es newest a b one two =
    let last = one.last in
    let e = last.1 in
    let ends = last.4.1 in
    let most = All-contains (λ (x : FoundEntry). bucket_of g x ≡ bucket_of g newest → end_of (entry_kind g) x ≤ b) es e two.behind (last.0, last.2, last.3) last.4.0 in
    omega (arith, ends, most)

pub one_next : (g : Geometry) (es : List FoundEntry) (newest : FoundEntry) (a b : ℕ) → IsNextPlace g es newest a → IsNextPlace g es newest b → a ≡ b
one_next g es newest a b one two = let up = not_behind g es newest a b one two in let down = not_behind g es newest b a two one in omega (arith, up, down)

-- ---- room

some_if : {A : Type 0} (a b : Bool) (x y : A) → (a ≡ true) ⊎ (b ≡ true) → IsSome (if a then Some x else (if b then Some y else None))
some_if true b x y which = refl
some_if false true x y which = refl
some_if false false x y which = elim which [ inl here ↦ absurd (cc) | inr here ↦ absurd (cc) ]

begins : (free next : Bool) → free ≡ true → (free && (not false || next)) ≡ true
begins true next is = refl
begins false next is = absurd (cc)

-- an entry without keys takes a block
pub one_block : (g : Geometry) → sectors_for g 0 ≤ g.block
one_block g =
    let some = block_some g in
    let within = blocks_within g.block 240 1 some (omega (arith, some)) in
    omega (arith, within)

module _ (g : Geometry) (at : Place) (numbers : List ℕ) (low seq : ℕ) (heads : Heads) where
  pub behind_last : at.sector + sectors_for g 0 ≤ g.bucket → HasRoom (journal_at g at numbers low seq heads) 0
  behind_last fits = record {
    few = lit≤ tt;
    place = some_if (nat_le (at.sector + sectors_for g 0) g.bucket) (may_begin (record { geometry = g; next = at; newest = numbers }) low false (following g at.bucket)) at (record { bucket = following g at.bucket; sector = 0 })
        (inl (grind (arith, nat_tests)));
  }

  pub in_front : slice_index numbers (following g at.bucket) < low → HasRoom (journal_at g at numbers low seq heads) 0
  in_front free = record {
    few = lit≤ tt;
    place = some_if (nat_le (at.sector + sectors_for g 0) g.bucket) (may_begin (record { geometry = g; next = at; newest = numbers }) low false (following g at.bucket)) at (record { bucket = following g at.bucket; sector = 0 })
        (inr (begins (is_free (record { geometry = g; next = at; newest = numbers }) low (following g at.bucket)) (is_free (record { geometry = g; next = at; newest = numbers }) low (following g (following g at.bucket))) (grind (arith, nat_tests))));
  }
