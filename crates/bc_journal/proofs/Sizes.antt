-- What an entry takes at most.
use Rattle.std.proofs.Common.{◌≡◌, ◌==◌, inl, inr, ℕ, ◌*◌, ◌≤◌, List, [], ◌∷◌, true, refl, subst, ap, arith}
use Rattle.std.specs.List.{list_any, AllByRecursion}
use Rattle.std.proofs.lemmas.Bool.{or_cases, eqb-true}
use Rattle.bc_disk.specs.Geometry.{is_block}
use Rattle.bc_disk.specs.declared.geometry.Geometry.{Geometry}
use Rattle.bc_record.specs.Sectors.{in_blocks}
use Rattle.bc_record.proofs.Blocks.{blocks_within, block_some}

-- one of these numbers has what each of them has
among : (n : ℕ) (P : ℕ → Type 0) (xs : List ℕ) → list_any (λ size. size == n) xs ≡ true → AllByRecursion P xs → P n
among n P [] is each = absurd (cc)
among n P (x ∷ xs) is each =
    elim (or_cases (x == n) (list_any (λ size. size == n) xs) is) [
      | inl here ↦ subst P (eqb-true x n here) each.0
      | inr later ↦ among n P xs later each.1
    ]

-- 64 sectors are whole blocks
abbrev FillsMost : ℕ → Type 0
FillsMost n = (k : ℕ) × (64 ≡ n * k)

fills_most : (n : ℕ) → is_block n ≡ true → FillsMost n
fills_most n is = among n FillsMost (1 ∷ 2 ∷ 4 ∷ 8 ∷ []) is ((64, refl), ((32, refl), ((16, refl), ((8, refl), tt))))

-- what 64 sectors hold takes no more of them in whole blocks
pub most_fit : (g : Geometry) (bytes : ℕ) → bytes ≤ 32768 → in_blocks g.block bytes ≤ 64
most_fit g bytes few =
    let all = fills_most g.block g.block_is_one in
    let within = blocks_within g.block bytes all.0 (block_some g) (omega (arith, ap (λ n. 512 * n) all.1)) in
    omega (arith, within, all.1)
