-- The versions of a chain that has the generations in memory.
use Rattle.std.proofs.Common.{◌≡◌, ℕ, zero, suc, ◌+◌, ◌-◌, ◌%◌, ◌<◌, ◌≤◌, List, [], ◌∷◌, length, drop, refl, sym, ap, ◌∙◌, arith}
use Rattle.std.specs.Prelude.{if◌then◌else◌, slice_index}
use Rattle.std.proofs.lemmas.Grind.{common_steps}
use Rattle.bc_events.specs.Keys.{version_by, versions_by}
use Rattle.bc_key.specs.Generation.{behind}
use Rattle.bc_meta.proofs.Lists.{by_le}
use Rattle.bc_meta.specs.Chain.{bytes_of}
use Rattle.bc_whole.specs.Together.{gen_at}

-- the byte of a version tells that version
none_behind : (n : ℕ) → behind n n ≡ 0
none_behind n = let all : n + 256 - n ≡ 256 = omega arith in ap (λ m. m % 256) all

pub own_version : (v byte : ℕ) → byte ≡ v % 256 → version_by v byte ≡ v
own_version v byte is =
    let none = ap (λ b. behind (v % 256) b) is ∙ none_behind (v % 256) in omega (arith, none)

pub byte_small : (v : ℕ) → v % 256 % 256 ≡ v % 256
byte_small v = grind (arith, common_steps)

-- the bytes are the versions' from the bucket `before` on, and bytes before it
abbrev pub AreBytes : (before : ℕ) → (ℕ → ℕ) → ℕ → List ℕ → Type 0
AreBytes before version n bytes = (j : ℕ) → j < length bytes
    → (slice_index bytes j < 256)
    × (before ≤ n + j → slice_index bytes j ≡ version (n + j - before) % 256)

behind_first : (before : ℕ) (version : ℕ → ℕ) (n b : ℕ) (bs : List ℕ)
    → AreBytes before version n (b ∷ bs) → AreBytes before version (suc n) bs
behind_first before version n b bs are j below =
    let its = are (suc j) (omega (arith, below)) in (
      its.0,
      λ from. let same : n + suc j ≡ suc n + j = omega arith in
          its.1 (omega (arith, from)) ∙ ap (λ m. version (m - before) % 256) same,
    )

small_byte : (b : ℕ) → b < 256 → b % 256 ≡ b
small_byte b few = grind (arith, common_steps)

pub versions_bytes : (before : ℕ) (version : ℕ → ℕ) (n : ℕ) (bytes : List ℕ)
    → AreBytes before version n bytes → bytes_of (versions_by before version n bytes) ≡ bytes
versions_bytes before version n [] are = refl
versions_bytes before version n (b ∷ bs) are = cons
    (by_le (suc n) before
    (λ t. (if t then b else version_by (version (n - before)) b) % 256 ≡ b)
    (λ low. small_byte b its.0)
    (λ high. let v = version (n - before) in
    let byte = its.1 (omega (arith, high)) ∙ ap (λ m. version (m - before) % 256) same in
    ap (λ m. m % 256) (own_version v b byte) ∙ sym byte))
    (versions_bytes before version (suc n) bs (behind_first before version n b bs are))
  where
    its : (b < 256) × (before ≤ n + 0 → b ≡ version (n + 0 - before) % 256)
    its = are 0 (omega arith)

    same : n + 0 ≡ n
    same = omega arith

    cons : {x y : ℕ} {xs ys : List ℕ} → x ≡ y → xs ≡ ys → x ∷ xs ≡ y ∷ ys
    cons p q = λ i. p i ∷ q i

-- each is the bucket's own
pub versions_at : (before : ℕ) (version : ℕ → ℕ) (n : ℕ) (bytes : List ℕ) (j : ℕ)
    → AreBytes before version n bytes → j < length bytes → before ≤ n + j
    → gen_at (versions_by before version n bytes) j ≡ version (n + j - before)
versions_at before version n [] j are below from = absurd (omega (arith, below))
versions_at before version n (b ∷ bs) zero are below from = by_le (suc n) before
    (λ t. (if t then b else version_by (version (n - before)) b) ≡ version (n + 0 - before))
    (λ low. absurd (omega (arith, low, from)))
    (λ high. let same : n + 0 ≡ n = omega arith in
    own_version (version (n - before)) b
    ((are 0 (omega arith)).1 from ∙ ap (λ m. version (m - before) % 256) same)
    ∙ ap (λ m. version (m - before)) (sym same))
versions_at before version n (b ∷ bs) (suc j) are below from =
    let same : suc n + j ≡ n + suc j = omega arith in
    versions_at before version (suc n) bs j (behind_first before version n b bs are)
    (omega (arith, below)) (omega (arith, from)) ∙ ap (λ m. version (m - before)) same

-- and behind them there is none
pub versions_past : (before : ℕ) (version : ℕ → ℕ) (n : ℕ) (bytes : List ℕ) (j : ℕ)
    → length bytes ≤ j → gen_at (versions_by before version n bytes) j ≡ 0
versions_past before version n [] j past = refl
versions_past before version n (b ∷ bs) zero past = absurd (omega (arith, past))
versions_past before version n (b ∷ bs) (suc j) past =
    versions_past before version (suc n) bs j (omega (arith, past))

pub gen_drop : (d : ℕ) (gens : List ℕ) (j : ℕ) → gen_at (drop d gens) j ≡ gen_at gens (d + j)
gen_drop zero gens j = ap (gen_at gens) (let e : j ≡ 0 + j = omega arith in e)
gen_drop (suc d) [] j = refl
gen_drop (suc d) (x ∷ xs) j =
    gen_drop d xs j ∙ ap (gen_at (x ∷ xs)) (let e : suc (d + j) ≡ suc d + j = omega arith in e)

-- of a list as long as this
pub gen_past : (gens : List ℕ) (j : ℕ) → length gens ≤ j → gen_at gens j ≡ 0
gen_past [] j past = refl
gen_past (g ∷ gs) zero past = absurd (omega (arith, past))
gen_past (g ∷ gs) (suc j) past = gen_past gs j (omega (arith, past))
