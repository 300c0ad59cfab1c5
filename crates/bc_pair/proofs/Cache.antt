-- Where the parts of a cache device stand, and what it is made of.
use Rattle.std.proofs.Common.{◌≡◌, ◌⊎◌, inl, inr, ℕ, ◌+◌, ◌*◌, ◌<◌, ◌≤◌, List, [], ◌∷◌, length, take, drop, replicate, length-drop, refl, sym, ap, ◌∙◌, arith}
use Rattle.std.proofs.Math.Nat.{mul-le-mul_left, mul-add}
use Rattle.std.proofs.Common.{mul-le-mul}
use Rattle.std.specs.Prelude.{Option, Some, None, if◌then◌else◌}
use Rattle.bc_model.specs.Sector.{Value, Image, at_run, unless, values_of}
use Rattle.bc_model.proofs.Cases.{by_test}
use Rattle.bc_model.proofs.Runs.{at_miss, at_range}
use Rattle.bc_model.proofs.Sectors.{length_values_of, values_whole}
use Rattle.bc_disk.specs.Disk.{DiskFacts, IfTold, BothTold, Overwritten, IsHonest, IsWritten, IsFailedWrite, IsSettled}
use Rattle.bc_disk.specs.declared.geometry.Geometry.{Geometry}
use Rattle.bc_image.specs.Formatted.{leaf_bucket, root_bucket}
use Rattle.bc_super.specs.Writing.{IsCacheBytes, IsCacheStored, IsCacheTorn, IsLastTorn, LastTorn}
use Rattle.bc_super.specs.declared.backing.BackingSuper.{BackingSuper}
use Rattle.bc_super.specs.declared.cache.CacheSuper.{CacheSuper}
use Rattle.bc_pair.specs.declared.records.Records.{Records}
use Rattle.bc_pair.specs.Made.{IsMadeCache, IsMadeImage, IsUnfinished, IsWrittenSector}
use Rattle.bc_pair.specs.Found.{IsJournalSector}
use Rattle.bc_pair.specs.Records.{AreNew, AreWrites, IsRecordSector}
use Rattle.bc_pair.specs.Runs.{Run, over, written_over, zeros}
use Rattle.bc_pair.specs.Steps.{Becomes, WritesOnly}
use Rattle.bc_pair.proofs.Runs.{length_zeros, values_of_zeros, zeros_more}
use Rattle.bc_pair.proofs.Steps.{LeftBut, Same, SameBut, both_joined, both_weaker, only_failed, only_joined, only_weaker}
use Rattle.bc_pair.proofs.Writes.{Turns}

-- ---- the journal

-- where the buckets behind the first one stand
pub bucket_place : (g : Geometry) (size first place i : ℕ) → size ≡ g.bucket → first ≡ g.first_bucket → place ≡ i → size * (first + place) ≡ g.bucket * g.first_bucket + g.bucket * i
bucket_place g size first place i is begins here =
    ap (λ n. n * (first + place)) is ∙ ap (λ n. g.bucket * (n + place)) begins ∙ ap (λ n. g.bucket * (g.first_bucket + n)) here ∙ mul-add g.bucket g.first_bucket i

pub in_journal : (g : Geometry) (at n i s : ℕ) → at ≡ g.bucket * g.first_bucket + g.bucket * i → n ≡ g.bucket → i < g.journal → at ≤ s → s < at + n → IsJournalSector g s
in_journal g at n i s place size inside low high =
    let up : g.bucket * (g.first_bucket + i + 1) ≤ g.bucket * (g.first_bucket + g.journal) = mul-le-mul_left g.bucket (omega arith) in
    (omega arith, omega (arith, mul-add g.bucket (g.first_bucket + i) 1, mul-add g.bucket g.first_bucket i))

pub zeros_long : (n : ℕ) (bytes : List ℕ) → bytes ≡ replicate (512 * n) 0 → length (values_of bytes) ≡ n
zeros_long n bytes is = ap (λ (vs : List Value). length vs) (values_of_zeros n bytes is) ∙ length_zeros n

-- before any bucket
pub no_zeros : (size start : ℕ) (a : Image) (s : ℕ) → a s ≡ over start (zeros (size * 0)) a s
no_zeros size start a s = let none : 0 ≡ size * 0 = omega arith in ap (λ n. over start (zeros n) a s) none

-- and one more
pub zeros_again : (start size n at : ℕ) (bytes : List ℕ) (old mid new : DiskFacts) → bytes ≡ replicate (512 * size) 0 → at ≡ start + size * n
    → Becomes (over start (zeros (size * n))) old mid → IsWritten at (values_of bytes) mid new → Becomes (over start (zeros (size * (n + 1)))) old new
zeros_again start size n at bytes old mid new is place so_far wrote =
    both_joined (Turns (over start (zeros (size * n)))) (Overwritten at (values_of bytes)) (Turns (over start (zeros (size * (n + 1))))) old.holds mid.holds new.holds
    (λ x y z before after s.
    zeros_more start size n at x y z s place (before s) (after s ∙ ap (λ (vs : List Value). unless (at_run at vs s) (y s)) (values_of_zeros size bytes is)))
    so_far wrote.holds

-- ---- the superblock

-- its first sector and those behind it
pub super_parts : (bytes : List ℕ) → length bytes ≡ 2560 → values_of bytes ≡ take 512 bytes ∷ values_of (drop 512 bytes)
super_parts bytes whole =
    let behind : length (drop 512 bytes) ≡ 512 * 4 = omega (arith, length-drop 512 bytes) in
    values_whole 5 bytes whole ∙ ap (λ (vs : List Value). take 512 bytes ∷ vs) (sym (values_whole 4 (drop 512 bytes) behind))

rest_range : (bytes : List ℕ) → length bytes ≡ 2560 → (s : ℕ) → 9 ≤ s → s < 9 + length (values_of (drop 512 bytes)) → (9 ≤ s) × (s < 13)
rest_range bytes whole s low high =
    let four : length (values_of (drop 512 bytes)) ≡ 4 = length_values_of (drop 512 bytes) ∙ omega (arith, length-drop 512 bytes) in
    (low, omega arith)

-- a sector that the first one's value is given to is the first one
first_only : (first : Value) (s : ℕ) (v : Value) → at_run 8 (first ∷ []) s ≡ Some v → s ≡ 8
first_only first s v given = let range = at_range 8 (first ∷ []) s v given in omega (arith, range.0, range.1)

-- ---- the device

-- the records stand behind the superblock
pub record_high : (g : Geometry) (s : ℕ) → IsRecordSector g s → 64 ≤ s
record_high g s (inl front) =
    let low : 64 * 1 ≤ g.bucket * g.first_bucket = mul-le-mul g.bucket_from g.first_behind_super in
    omega (arith, front.0)
record_high g s (inr (inl root)) =
    let behind : 1 ≤ root_bucket g = omega arith in
    let low : 64 * 1 ≤ g.bucket * root_bucket g = mul-le-mul g.bucket_from behind in
    omega (arith, root.0)
record_high g s (inr (inr leaf)) =
    let behind : 1 ≤ leaf_bucket g = omega arith in
    let low : 64 * 1 ≤ g.bucket * leaf_bucket g = mul-le-mul g.bucket_from behind in
    omega (arith, leaf.0)

module _ (g : Geometry) (c : CacheSuper) (b : BackingSuper) where
  -- no more than other sectors than 8 were written
  unfinished_before : (Q : ℕ → Type 0) → (Q 8 → ⊥) → ((s : ℕ) → Q s → IsWrittenSector g s) → (old new : DiskFacts) → WritesOnly Q old new → IsUnfinished g c b old new
  unfinished_before Q not_first few old new is = record {
    sectors = is.sectors;
    holds = both_weaker (SameBut Q) (SameBut (IsWrittenSector g)) old.holds new.holds (λ x y same s out. same s (λ q. out (few s q))) is.holds;
    leaves = go old.holds is.leaves;
  }
    where
      go : (a : Option Image) → IfTold a (λ _. LeftBut Q old new)
          → IfTold a (λ held. (image : Image) → new.may_leave image
          → ((before : Image) × old.may_leave before × (image 8 ≡ before 8)) ⊎ ((whole : Image) × IsMadeImage g c b held whole × ((s : ℕ) → image s ≡ whole s)))
      go None left = tt
      go (Some held) left = λ image may. let from = left image may in inl (from.0, from.1, from.2 8 not_first)

  not_8 : IsRecordSector g 8 → ⊥
  not_8 in_it = let high = record_high g 8 in_it in omega (arith, high)

  pub unfinished : (old new : DiskFacts) → WritesOnly (IsRecordSector g) old new → IsUnfinished g c b old new
  unfinished old new is = unfinished_before (IsRecordSector g) not_8 (λ s in_it. inr in_it) old new is

  module _ (r : Records) (are_new : AreNew g b r) (runs : List Run) (are_runs : AreWrites g r runs) where
    made_image : (super : List ℕ) → IsCacheBytes super c → (a z : Image) → ((s : ℕ) → z s ≡ over 8 (values_of super) (written_over runs a) s) → IsMadeImage g c b a z
    made_image super is a z same = record { super = super; is_super = is; records = r; are_new = are_new; runs = runs; are_runs = are_runs; is = same }

    module _ (old two three new : DiskFacts) (becomes : Becomes (written_over runs) old two) (others : WritesOnly (IsRecordSector g) old two) (third : IsSettled two three) where
      so_far : Becomes (written_over runs) old three
      so_far = both_joined (Turns (written_over runs)) Same (Turns (written_over runs)) old.holds two.holds three.holds (λ x y z before after s. after s ∙ before s) becomes third.holds

      -- the superblock was written too
      pub made : IsCacheStored c three new → IsMadeCache g c b old new
      made (super, is, stored) = record {
        sectors = stored.sectors ∙ third.sectors ∙ others.sectors;
        holds = both_joined (Turns (written_over runs)) (Overwritten 8 (values_of super)) (IsMadeImage g c b) old.holds three.holds new.holds
            (λ x y z before after. made_image super is x z (λ s. after s ∙ ap (λ (v : Value). unless (at_run 8 (values_of super) s) v) (before s)))
            so_far stored.holds;
        leaves = stored.leaves;
      }

      module _ (honest : IsHonest old) (steps : WritesOnly (IsRecordSector g) old three) (super : List ℕ) (is : IsCacheBytes super c) where
        -- its first sector wasn't written
        torn_rest : IsFailedWrite 9 (values_of (drop 512 super)) three new → IsUnfinished g c b old new
        torn_rest failed =
            unfinished_before Q (λ in_it. elim in_it [ inl rest ↦ absurd (omega (arith, rest.0)) | inr before ↦ absurd (not_8 before) ])
            (λ s in_it. elim in_it [ inl rest ↦ inl (omega (arith, rest.0), rest.1) | inr before ↦ inr before ]) old new
            (only_joined Q old three new (only_weaker (IsRecordSector g) Q (λ s before. inr before) old three steps)
            (only_failed Q 9 (values_of (drop 512 super)) (λ s low high. inl (rest_range super is.whole s low high)) three new failed))
          where
            Q : ℕ → Type 0
            Q s = ((9 ≤ s) × (s < 13)) ⊎ IsRecordSector g s

        -- it may have been, behind the others
        torn_first : IsLastTorn 8 (values_of (drop 512 super)) (take 512 super) three new → IsUnfinished g c b old new
        torn_first torn = record {
          sectors = torn.sectors ∙ steps.sectors;
          holds = both_joined (SameBut (IsRecordSector g)) (LastTorn 8 rest (take 512 super)) (SameBut (IsWrittenSector g)) old.holds three.holds new.holds
              (λ x y z before after s out. outside y z after s out ∙ before s (λ in_it. out (inr in_it))) steps.holds torn.holds;
          leaves = go old.holds three.holds so_far steps.holds honest.possible torn.leaves;
        }
          where
            rest : List Value
            rest = values_of (drop 512 super)

            outside : (y z : Image) → LastTorn 8 rest (take 512 super) y z → SameBut (IsWrittenSector g) y z
            outside y z after s out =
                elim (after s) [
                  | inl same ↦ same ∙ ap (λ (o : Option Value). unless o (y s)) (at_miss 9 rest s (λ inside. let range = rest_range super is.whole s inside.0 inside.1 in out (inl (omega (arith, range.0), range.1))))
                  | inr given ↦ absurd (out (inl (let here = first_only (take 512 super) s (z s) given in (omega arith, omega arith))))
                ]

            whole_then : (a m image : Image) → Turns (written_over runs) a m → LastTorn 8 rest (take 512 super) m image → image 8 ≡ take 512 super → (s : ℕ) → image s ≡ over 8 (values_of super) (written_over runs a) s
            whole_then a m image turns left here s =
                by_test 8 s (λ first. image s ≡ unless (if first then Some (take 512 super) else at_run 9 rest s) (written_over runs a s))
                (λ is_first. ap image (sym is_first) ∙ here)
                (λ other.
                elim (left s) [
                  | inl same ↦ same ∙ ap (λ (v : Value). unless (at_run 9 rest s) v) (turns s)
                  | inr given ↦ absurd (other (sym (first_only (take 512 super) s (image s) given)))
                ])
                ∙ ap (λ (vs : List Value). unless (at_run 8 vs s) (written_over runs a s)) (sym (super_parts super is.whole))

            go : (a m : Option Image) → BothTold (Turns (written_over runs)) a m → BothTold (SameBut (IsRecordSector g)) a m → IfTold a old.may_leave
                → IfTold m (λ held. (image : Image) → new.may_leave image → LastTorn 8 rest (take 512 super) held image)
                → IfTold a (λ held. (image : Image) → new.may_leave image
                → ((before : Image) × old.may_leave before × (image 8 ≡ before 8)) ⊎ ((whole : Image) × IsMadeImage g c b held whole × ((s : ℕ) → image s ≡ whole s)))
            go None m turns same possible left = tt
            go (Some a) None turns same possible left = elim turns [ ]
            go (Some a) (Some m) turns same possible left = λ image may.
                elim (left image may 8) [
                  | inl still ↦
                      inl (a, possible, still ∙ ap (λ (o : Option Value). unless o (m 8)) (at_miss 9 rest 8 (λ inside. omega (arith, inside.0))) ∙ same 8 not_8)
                  | inr given ↦ (let here : take 512 super ≡ image 8 = cc in inr (image, made_image super is a image (whole_then a m image turns (left image may) (sym here)), λ s. refl))
                ]

      pub torn : IsHonest old → WritesOnly (IsRecordSector g) old three → IsCacheTorn c three new → IsUnfinished g c b old new
      torn honest steps (super, is, inl rest) = torn_rest honest steps super is rest
      torn honest steps (super, is, inr first) = torn_first honest steps super is first
