-- How often the device was called.
use Rattle.std.proofs.Common.{◌≡◌, ℕ, suc, ◌+◌, ◌<◌, List, [], ◌∷◌, ◌++◌, true, false, cond, length, get_or, take, refl, ap, ◌∙◌, arith, length-append}
use Rattle.std.specs.Prelude.{◌==◌}
use Rattle.std.specs.List.{filter}
use Rattle.std.proofs.lemmas.List.{append-nil}
use Rattle.std.proofs.lemmas.List.Elements.{filter_more}
use Rattle.bc_disk.specs.Device.{next_count}
use Rattle.bc_pending.specs.declared.numbered.Numbered.{Numbered}
use Rattle.bc_super.specs.Writing.{count_after}
use Rattle.bc_slots.specs.Filling.{calls_with}
use Rattle.bc_slots.specs.Places.{has_keys, readings}

pub calls_none : (keys : List Numbered) (n : ℕ) → (length keys == 0) ≡ true → n ≡ calls_with keys n
calls_none [] n none = refl
calls_none (k ∷ ks) n none = absurd (grind arith)

pub calls_some : (keys : List Numbered) (n m : ℕ) → (length keys == 0) ≡ false → m ≡ next_count n → m ≡ calls_with keys n
calls_some [] n m some one = absurd (cc)
calls_some (k ∷ ks) n m some one = one

-- one leaf more
module _ (pending : List (List Numbered)) (i n : ℕ) where
  abbrev before : List (List Numbered)
  before = filter has_keys (take i pending)

  with_one : (keys : List Numbered) → count_after (length (before ++ cond (has_keys keys) (keys ∷ []) [])) n ≡ calls_with keys (count_after (readings (take i pending)) n)
  with_one [] = ap (λ (xs : List (List Numbered)). count_after (length xs) n) (append-nil before)
  with_one (k ∷ ks) =
      let both = length-append before ((k ∷ ks) ∷ []) in
      let long : length (before ++ (k ∷ ks) ∷ []) ≡ suc (length before) = omega (arith, both) in
      ap (λ m. count_after m n) long

  pub readings_next : i < length pending → count_after (readings (take (i + 1) pending)) n ≡ calls_with (get_or pending i []) (count_after (readings (take i pending)) n)
  readings_next low =
      ap (λ (xs : List (List Numbered)). count_after (length xs) n) (filter_more has_keys pending i [] low)
      ∙ with_one (get_or pending i [])
