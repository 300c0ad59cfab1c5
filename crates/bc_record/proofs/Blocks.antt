-- Bytes in whole blocks.
use Rattle.std.proofs.Common.{◌≡◌, ◌==◌, inl, inr, ℕ, zero, ◌+◌, ◌-◌, ◌*◌, ◌/◌, ◌<◌, ◌≤◌, List, [], ◌∷◌, true, min, refl, subst, ap, ◌∙◌, lit<, lit≤, arith}
use Rattle.std.specs.List.{list_any, AllByRecursion}
use Rattle.std.proofs.lemmas.Bool.{or_cases, eqb-true, cases_lt}
use Rattle.std.proofs.Math.Nat.{lt-mul-div-succ, mul-div-le, lt_of_mul-lt-mul_left, mul-le-mul_left, mul_assoc, mul-add}
use Rattle.bc_disk.specs.Geometry.{is_block, is_bucket}
use Rattle.bc_disk.specs.declared.geometry.Geometry.{Geometry}
use Rattle.bc_record.specs.Sectors.{in_blocks}

-- they hold the bytes
pub blocks_hold : (block bytes : ℕ) → 0 < block → bytes ≤ 512 * in_blocks block bytes
blocks_hold block bytes some =
    let size = 512 * block in
    let n = (bytes + (size - 1)) / size in
    let positive : zero < size = omega arith in
    let above : bytes + (size - 1) < size * (n + 1) = lt-mul-div-succ (bytes + (size - 1)) positive in
    let all : size * n ≡ 512 * (block * n) = mul_assoc 512 block n in
    let more : size * (n + 1) ≡ size * n + size * 1 = mul-add size n 1 in
    omega (arith, above, all, more)

-- and there are no more than it takes
pub blocks_within : (block bytes n : ℕ) → 0 < block → bytes ≤ 512 * (block * n) → in_blocks block bytes ≤ block * n
blocks_within block bytes n some room =
    let size = 512 * block in
    let m = (bytes + (size - 1)) / size in
    let low : size * m ≤ bytes + (size - 1) = mul-div-le (bytes + (size - 1)) size in
    let all : size * n ≡ 512 * (block * n) = mul_assoc 512 block n in
    let more : size * (n + 1) ≡ size * n + size * 1 = mul-add size n 1 in
    let below : size * m < size * (n + 1) = omega (arith, low, all, more, room) in
    let few : m < n + 1 = lt_of_mul-lt-mul_left size below in
    mul-le-mul_left block (omega (arith, few))

pub some_blocks : (block bytes : ℕ) → 0 < block → 0 < bytes → 0 < in_blocks block bytes
some_blocks block bytes block_some some = let held = blocks_hold block bytes block_some in omega (arith, held, some)

-- ---- the sizes of a cache device

-- one of these numbers has what each of them has
among : (n : ℕ) (P : ℕ → Type 0) (xs : List ℕ) → list_any (λ size. size == n) xs ≡ true → AllByRecursion P xs → P n
among n P [] is each = absurd (cc)
among n P (x ∷ xs) is each =
    elim (or_cases (x == n) (list_any (λ size. size == n) xs) is) [
      | inl here ↦ subst P (eqb-true x n here) each.0
      | inr later ↦ among n P xs later each.1
    ]

-- eight sectors are whole blocks
abbrev FillsEight : ℕ → Type 0
FillsEight n = (0 < n) × ((k : ℕ) × (8 ≡ n * k))

abbrev IsEights : ℕ → Type 0
IsEights n = (k : ℕ) × (n ≡ 8 * k)

fills_eight : (n : ℕ) → is_block n ≡ true → FillsEight n
fills_eight n is = among n FillsEight (1 ∷ 2 ∷ 4 ∷ 8 ∷ []) is ((lit< tt, (8, refl)), ((lit< tt, (4, refl)), ((lit< tt, (2, refl)), ((lit< tt, (1, refl)), tt))))

is_eights : (n : ℕ) → is_bucket n ≡ true → IsEights n
is_eights n is =
    among n IsEights (64 ∷ 128 ∷ 256 ∷ 512 ∷ 1024 ∷ 2048 ∷ 4096 ∷ 8192 ∷ 16384 ∷ 32768 ∷ []) is
    ((8, refl), ((16, refl), ((32, refl), ((64, refl), ((128, refl), ((256, refl), ((512, refl), ((1024, refl), ((2048, refl), ((4096, refl), tt))))))))))

pub block_some : (g : Geometry) → 0 < g.block
block_some g = (fills_eight g.block g.block_is_one).0

-- a bucket is whole blocks
pub bucket_blocks : (g : Geometry) → (k : ℕ) × (g.bucket ≡ g.block * k)
bucket_blocks g =
    let eight = (fills_eight g.block g.block_is_one).1 in
    let many = is_eights g.bucket g.bucket_is_one in
    (eight.0 * many.0, many.1 ∙ ap (λ n. n * many.0) eight.1 ∙ mul_assoc g.block eight.0 many.0)

-- and so is a node, which is as long as a bucket or 512 sectors
pub node_blocks : (g : Geometry) → (k : ℕ) × (g.node_sectors ≡ g.block * k)
node_blocks g = elim (cases_lt g.bucket 512) [
  | inl less ↦ (let all = bucket_blocks g in (all.0, g.node_is_one ∙ (let e : min g.bucket 512 ≡ g.bucket = omega arith in e) ∙ all.1))
  | inr more ↦ (let eight = (fills_eight g.block g.block_is_one).1 in
      (eight.0 * 64, g.node_is_one ∙ (let e : min g.bucket 512 ≡ 8 * 64 = omega arith in e) ∙ ap (λ n. n * 64) eight.1 ∙ mul_assoc g.block eight.0 64))
]

pub block_small : (g : Geometry) → g.block ≤ 8
block_small g = among g.block (λ n. n ≤ 8) (1 ∷ 2 ∷ 4 ∷ 8 ∷ []) g.block_is_one (lit≤ tt, (lit≤ tt, (lit≤ tt, (lit≤ tt, tt))))
