-- The buckets of a pair that was made anew, by what they are for, and numbers one behind the other.
use Rattle.std.proofs.Common.{◌≡◌, inl, inr, ℕ, zero, suc, ◌+◌, ◌<◌, ◌≤◌, Bool, true, false, List, [], ◌∷◌, length, Option, Some, None, refl, ap, arith, if◌then◌else◌, nat_lt}
use Rattle.bc_books.specs.Shelves.{Purpose, Priorities}
use Rattle.bc_books.specs.Marks.{Mark, Metadata, Unmarked}
use Rattle.bc_meta.specs.Facts.{In}
use Rattle.bc_meta.specs.Chain.{Distinct}
use Rattle.bc_facts.proofs.Place.{by_lt}

pub data Class : Type 0 where
  OfFixed OfChain OfNode OfSpare OfNone : Class

abbrev pub is_fixed : Class → Bool
is_fixed OfFixed = true
is_fixed OfChain = false
is_fixed OfNode = false
is_fixed OfSpare = false
is_fixed OfNone = false

abbrev pub is_chain : Class → Bool
is_chain OfFixed = false
is_chain OfChain = true
is_chain OfNode = false
is_chain OfSpare = false
is_chain OfNone = false

abbrev pub is_node : Class → Bool
is_node OfFixed = false
is_node OfChain = false
is_node OfNode = true
is_node OfSpare = false
is_node OfNone = false

abbrev pub list_of : Class → Option Purpose
list_of OfFixed = None
list_of OfChain = None
list_of OfNode = None
list_of OfSpare = Some Priorities
list_of OfNone = None

abbrev pub mark_of : Class → Mark
mark_of OfFixed = Metadata
mark_of OfChain = Metadata
mark_of OfNode = Metadata
mark_of OfSpare = Unmarked
mark_of OfNone = Unmarked

pub fixed_has : (k : Class) → is_fixed k ≡ true → (list_of k ≡ None) × (is_chain k ≡ false) × (is_node k ≡ false) × (mark_of k ≡ Metadata)
fixed_has OfFixed e = (refl, refl, refl, refl)
fixed_has OfChain e = absurd (cc)
fixed_has OfNode e = absurd (cc)
fixed_has OfSpare e = absurd (cc)
fixed_has OfNone e = absurd (cc)

pub node_has : (k : Class) → is_node k ≡ true → (list_of k ≡ None) × (is_chain k ≡ false) × (mark_of k ≡ Metadata)
node_has OfFixed e = absurd (cc)
node_has OfChain e = absurd (cc)
node_has OfNode e = (refl, refl, refl)
node_has OfSpare e = absurd (cc)
node_has OfNone e = absurd (cc)

pub chain_has : (k : Class) → is_chain k ≡ true → (list_of k ≡ None) × (mark_of k ≡ Metadata)
chain_has OfFixed e = absurd (cc)
chain_has OfChain e = (refl, refl)
chain_has OfNode e = absurd (cc)
chain_has OfSpare e = absurd (cc)
chain_has OfNone e = absurd (cc)

pub plain_has : (k : Class) → is_fixed k ≡ false → is_node k ≡ false → is_chain k ≡ false → mark_of k ≡ Metadata → ⊥
plain_has OfFixed e h i m = cc
plain_has OfChain e h i m = cc
plain_has OfNode e h i m = cc
plain_has OfSpare e h i m = cc
plain_has OfNone e h i m = cc

-- The journal, the chain, the uuid table, root and leaf, the buckets for the next chain, the rest,
-- and what lies behind the device.
module _ (j n m : ℕ) where
  abbrev from_none : ℕ → Class
  from_none q = if nat_lt q m then OfNone else OfFixed

  abbrev from_spare : ℕ → Class
  from_spare q = if nat_lt q (j + n + n + 3) then OfSpare else (if nat_lt q m then OfNone else OfFixed)

  abbrev from_node : ℕ → Class
  from_node q = if nat_lt q (j + n + 3) then OfNode else from_spare q

  abbrev from_table : ℕ → Class
  from_table q = if nat_lt q (j + n + 1) then OfFixed else from_node q

  abbrev from_chain : ℕ → Class
  from_chain q = if nat_lt q (j + n) then OfChain else from_table q

  abbrev pub class : ℕ → Class
  class q = if nat_lt q j then OfFixed else from_chain q

  pub by_class : (q : ℕ) (P : Class → Type 0) → (q < j → P OfFixed) → (j ≤ q → q < j + n → P OfChain) → (j + n ≤ q → q < j + n + 1 → P OfFixed)
      → (j + n + 1 ≤ q → q < j + n + 3 → P OfNode) → (j + n + 3 ≤ q → q < j + n + n + 3 → P OfSpare) → (j + n + n + 3 ≤ q → q < m → P OfNone) → (m ≤ q → P OfFixed)
      → P (class q)
  by_class q P a b c d e f h =
      by_lt q j (λ t. P (if t then OfFixed else from_chain q)) a
      (λ one. by_lt q (j + n) (λ t. P (if t then OfChain else from_table q)) (b one)
      (λ two. by_lt q (j + n + 1) (λ t. P (if t then OfFixed else from_node q)) (c two)
      (λ three. by_lt q (j + n + 3) (λ t. P (if t then OfNode else from_spare q)) (d three)
      (λ four. by_lt q (j + n + n + 3) (λ t. P (if t then OfSpare else from_none q)) (e four)
      (λ five. by_lt q m (λ t. P (if t then OfNone else OfFixed)) (f five) h)))))

  module _ (room : j + n + n + 3 ≤ m) where
    pub class_table : class (j + n) ≡ OfFixed
    class_table = by_class (j + n) (λ k. k ≡ OfFixed) (λ a. refl) (λ a b. absurd (omega (arith, b))) (λ a b. refl)
        (λ a b. absurd (omega (arith, a))) (λ a b. absurd (omega (arith, a))) (λ a b. absurd (omega (arith, a))) (λ a. refl)

    pub class_chain : (q : ℕ) → j ≤ q → q < j + n → class q ≡ OfChain
    class_chain q low high = by_class q (λ k. k ≡ OfChain) (λ a. absurd (omega (arith, a, low))) (λ a b. refl) (λ a b. absurd (omega (arith, a, high)))
        (λ a b. absurd (omega (arith, a, high))) (λ a b. absurd (omega (arith, a, high))) (λ a b. absurd (omega (arith, a, high))) (λ a. absurd (omega (arith, a, high, room)))

    pub class_node : (q : ℕ) → j + n + 1 ≤ q → q < j + n + 3 → class q ≡ OfNode
    class_node q low high = by_class q (λ k. k ≡ OfNode) (λ a. absurd (omega (arith, a, low))) (λ a b. absurd (omega (arith, b, low))) (λ a b. absurd (omega (arith, b, low)))
        (λ a b. refl) (λ a b. absurd (omega (arith, a, high))) (λ a b. absurd (omega (arith, a, high))) (λ a. absurd (omega (arith, a, high, room)))

    pub class_spare : (q : ℕ) → j + n + 3 ≤ q → q < j + n + n + 3 → class q ≡ OfSpare
    class_spare q low high = by_class q (λ k. k ≡ OfSpare) (λ a. absurd (omega (arith, a, low))) (λ a b. absurd (omega (arith, b, low))) (λ a b. absurd (omega (arith, b, low)))
        (λ a b. absurd (omega (arith, b, low))) (λ a b. refl) (λ a b. absurd (omega (arith, a, high))) (λ a. absurd (omega (arith, a, high, room)))

    -- what isn't fixed lies behind the journal, on the device
    pub class_area : (q : ℕ) → is_fixed (class q) ≡ false → (j ≤ q) × (q < m)
    class_area q = by_class q (λ k. is_fixed k ≡ false → (j ≤ q) × (q < m)) (λ a e. absurd (cc)) (λ a b e. (a, omega (arith, b, room))) (λ a b e. absurd (cc))
        (λ a b e. (omega (arith, a), omega (arith, b, room))) (λ a b e. (omega (arith, a), omega (arith, b, room))) (λ a b e. (omega (arith, a), b)) (λ a e. absurd (cc))

    pub not_chain : (q : ℕ) → (j ≤ q → q < j + n → ⊥) → is_chain (class q) ≡ false
    not_chain q out = by_class q (λ k. is_chain k ≡ false) (λ a. refl) (λ a b. absurd (out a b)) (λ a b. refl) (λ a b. refl) (λ a b. refl) (λ a b. refl) (λ a. refl)

-- ---- numbers

abbrev pub from_on : ℕ → ℕ → List ℕ
from_on a zero = []
from_on a (suc n) = a ∷ from_on (suc a) n

pub on_within : (a n q : ℕ) → In q (from_on a n) → (a ≤ q) × (q < a + n)
on_within a zero q i = absurd i
on_within a (suc n) q (inl e) = (omega (arith, e), omega (arith, e))
on_within a (suc n) q (inr i) = let k = on_within (suc a) n q i in let low = k.0 in let high = k.1 in (omega (arith, low), omega (arith, high))

pub on_distinct : (a n : ℕ) → Distinct (from_on a n)
on_distinct a zero = tt
on_distinct a (suc n) = ((λ i. (let low = (on_within (suc a) n a i).0 in omega (arith, low))), on_distinct (suc a) n)

pub on_long : (a n : ℕ) → length (from_on a n) ≡ n
on_long a zero = refl
on_long a (suc n) = ap suc (on_long (suc a) n)
