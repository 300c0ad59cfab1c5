-- The chain of priority sets that begins in a bucket, and the generations that it says.
use Rattle.std.specs.Prelude.{◌≡◌, ℕ, zero, suc, ◌+◌, ◌%◌, Bool, true, List, [], ◌∷◌, ◌++◌, length, Option, Some, None, if◌then◌else◌, ◌==◌, ◌&&◌, nat_le}
use Rattle.bc_model.specs.Sector.{Image}
use Rattle.bc_meta.specs.Facts.{In}
use Rattle.bc_meta.specs.Layout.{PrioSet, Layout}

pub record Chain : Type 0 where
  pub buckets : List ℕ
  pub gens : List ℕ

-- a bucket behind those of the journal
abbrev pub is_place : Layout → ℕ → Bool
is_place w q = nat_le w.journal q && nat_le (suc q) w.buckets

abbrev pub prio_at : Layout → Image → ℕ → ℕ → Option PrioSet
prio_at w image part q = w.prios.found image part (w.first q + w.bucket_sectors) (w.first q)

abbrev pub prio_in : Layout → Image → ℕ → ℕ → Option PrioSet
prio_in w image part q = if is_place w q then prio_at w image part q else None

abbrev pub put_prio : ℕ → List ℕ → Option Chain → Option Chain
put_prio q gens None = None
put_prio q gens (Some chain) = Some (record { buckets = q ∷ chain.buckets; gens = gens ++ chain.gens })

abbrev pub with_prio : (ℕ → Option Chain) → ℕ → Option PrioSet → Option Chain
with_prio rest q None = None
with_prio rest q (Some e) = put_prio q e.gens (rest e.next)

-- so many sets from a bucket on, the first of which is that of this part; the last one names no
-- next bucket
abbrev pub chain_from : Layout → Image → ℕ → ℕ → ℕ → Option Chain
chain_from w image zero part q = if q == 0 then Some (record { buckets = []; gens = [] }) else None
chain_from w image (suc n) part q = with_prio (chain_from w image n (suc part)) q (prio_in w image part q)

abbrev pub chain_in : Layout → Image → ℕ → Option Chain
chain_in w image first = chain_from w image w.chain_sets 0 first

-- The same as a relation: sets that are found lead from a bucket through these ones to another, the
-- first of them of this part.
abbrev pub Leads : Layout → Image → ℕ → ℕ → List ℕ → List ℕ → ℕ → Type 0
Leads w image part from [] gens to = (from ≡ to) × (gens ≡ [])
Leads w image part from (q ∷ qs) gens to =
    (from ≡ q) × (is_place w q ≡ true)
    × ((set : PrioSet) × (prio_at w image part q ≡ Some set) × ((rest : List ℕ) × (gens ≡ set.gens ++ rest)
    × Leads w image (suc part) set.next qs rest to))

abbrev pub IsChain : Layout → Image → ℕ → Chain → Type 0
IsChain w image first chain = Leads w image 0 first chain.buckets chain.gens 0 × (length chain.buckets ≡ w.chain_sets)

-- generations count on for ever in a run; a chain has each as a byte
abbrev pub bytes_of : List ℕ → List ℕ
bytes_of [] = []
bytes_of (g ∷ gs) = g % 256 ∷ bytes_of gs

abbrev pub Distinct : List ℕ → Type 0
Distinct [] = Unit {0}
Distinct (x ∷ xs) = (In x xs → ⊥) × Distinct xs

abbrev pub EachOf : (ℕ → Type 0) → List ℕ → Type 0
EachOf P xs = (x : ℕ) → In x xs → P x
