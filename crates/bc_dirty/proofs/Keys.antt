-- Keys in order, and what they say of a sector.
use Rattle.std.proofs.Common.{◌≡◌, inl, inr, ℕ, zero, suc, ◌+◌, ◌<◌, ◌≤◌, Bool, true, false, List, [], ◌∷◌, length, Option, Some, None, refl, sym, ap, ◌∙◌, subst, arith, if◌then◌else◌, ◌&&◌, nat_le, nat_lt}
use Rattle.std.specs.Prelude.{All, AllPairs, slice_get, slice_index_or}
use Rattle.std.proofs.lemmas.Bool.{cases_lt}
use Rattle.bc_key.specs.Key.{pointer_of, ptr_at, start_of}
use Rattle.bc_key.specs.declared.key.Key.{Key}
use Rattle.bc_key.specs.declared.ptr.Ptr.{Ptr}
use Rattle.bc_leaves.specs.Keys.{last_said, ref_said}
use Rattle.bc_meta.specs.Keys.{Ref, covers, ref_by}
use Rattle.bc_meta.proofs.Lists.{by_le}
use Rattle.bc_node.specs.Leaf.{AreProperKeys, Leaf}
use Rattle.bc_dirty.specs.Walk.{HasDirtySector}

-- the key has a pointer, and is dirty
abbrev pub IsDirtyKey : Key → Type 0
IsDirtyKey key = (key.dirty ≡ true) × (0 < key.count)

covers_yes : (key : Key) (s : ℕ) → start_of key ≤ s → s < key.end → covers key s ≡ true
covers_yes key s low high = by_le (start_of key) s (λ b. (b && nat_lt s key.end) ≡ true)
    (λ le. by_le (suc s) key.end (λ b. b ≡ true) (λ lt. refl)
    (λ lt. absurd (omega (arith, high, lt)))) (λ lt. absurd (omega (arith, low, lt)))

covers_no : (key : Key) (s : ℕ) → key.end ≤ s → covers key s ≡ false
covers_no key s high = by_le (suc s) key.end (λ b. (nat_le (start_of key) s && b) ≡ false)
    (λ lt. absurd (omega (arith, high, lt))) (λ lt. off (nat_le (start_of key) s))
  where
    off : (b : Bool) → (b && false) ≡ false
    off true = refl
    off false = refl

pointed : (key : Key) → 0 < key.count → pointer_of key ≡ Some (ptr_at key 0)
pointed key some = by_le 1 key.count (λ b. (if b then Some (ptr_at key 0) else None)
    ≡ Some (ptr_at key 0)) (λ le. refl) (λ lt. absurd (omega (arith, some, lt)))

unpointed : (key : Key) (p : Ptr) → pointer_of key ≡ Some p → 0 < key.count
unpointed key p is = by_le 1 key.count (λ b. (if b then Some (ptr_at key 0) else None) ≡ Some p
    → 0 < key.count) (λ le _. omega (arith, le)) (λ lt e. absurd (cc)) is

all_tail : {A : Type 0} (P : A → Type 0) (x : A) (xs : List A) → All P (x ∷ xs) → All P xs
all_tail P x xs all k d lt = all (suc k) d (omega (arith, lt))

pairs_tail : {A : Type 0} (R : A → A → Type 0) (x : A) (xs : List A) → AllPairs R (x ∷ xs)
    → AllPairs R xs
pairs_tail R x xs all i j d lt high =
    all (suc i) (suc j) d (omega (arith, lt)) (omega (arith, high))

-- the key at a place says what all say of each of its sectors
pub said_at : (keys : List Key) (i : ℕ) (d : Key) (s : ℕ)
    → AllPairs (λ a b. a.end ≤ start_of b) keys → i < length keys
    → start_of (slice_index_or keys i d) ≤ s → s < (slice_index_or keys i d).end
    → last_said keys s ≡ Some (ref_by (slice_index_or keys i d) s
    (pointer_of (slice_index_or keys i d)))
said_at [] i d s order lt low high = absurd (omega (arith, lt))
said_at (key ∷ keys) zero d s order lt low high =
    ap (λ b. if b then Some (ref_by key s (pointer_of key)) else last_said keys s)
    (covers_yes key s low high)
said_at (key ∷ keys) (suc i) d s order lt low high =
    let before = order 0 (suc i) d (omega (arith)) lt in
    ap (λ b. if b then Some (ref_by key s (pointer_of key)) else last_said keys s)
    (covers_no key s (omega (arith, before, low)))
    ∙ said_at keys i d s (pairs_tail (λ (a b : Key). a.end ≤ start_of b) key keys order)
    (omega (arith, lt)) low high

-- so a dirty one shows at its first sector
pub says_dirty : (leaf : Leaf) (i : ℕ) (d : Key) → AreProperKeys leaf.from leaf.end leaf.keys
    → i < length leaf.keys → IsDirtyKey (slice_index_or leaf.keys i d) → HasDirtySector leaf
says_dirty leaf i d proper lt is =
    let key = slice_index_or leaf.keys i d in
    let range = proper.order.0 i d lt in
    let extent = range.0 in
    let some = range.1 in
    let within = proper.within i d lt in
    let low = within.0 in
    let high = within.1 in
    let begins : start_of key < key.end = omega (arith, extent, some) in (
      start_of key,
      record {
        from = low;
        end = omega (arith, begins, high);
        ref = _;
        is = ap ref_said (said_at leaf.keys i d (start_of key) proper.order.1 lt
            (omega (arith)) begins)
            ∙ ap (λ (o : Option Ptr). ref_by key (start_of key) o) (pointed key is.1);
        dirty = is.0;
      },
    )

-- what is said is said by one of them
pub said_by_one : (keys : List Key) (s : ℕ) (r : Ref) → ref_said (last_said keys s) ≡ Some r
    → r.dirty ≡ true → ((i : ℕ) (d : Key) → i < length keys → IsDirtyKey (slice_index_or keys i d) → ⊥)
    → ⊥
said_by_one [] s r is dirty none = cc
said_by_one (key ∷ keys) s r is dirty none = go (covers key s)
    (λ e. said_by_one keys s r e dirty (λ i d lt. none (suc i) d (omega (arith, lt)))) is
  where
    of_key : (o : Option Ptr) → pointer_of key ≡ o → ref_by key s o ≡ Some r → ⊥
    of_key None there e = cc
    of_key (Some p) there e = none 0 key (omega (arith))
        (sym_dirty (some_dirty e), unpointed key p there)
      where
        dirty_in : Option Ref → Option Bool
        dirty_in None = None
        dirty_in (Some x) = Some x.dirty

        some_dirty : ref_by key s (Some p) ≡ Some r → Some key.dirty ≡ Some r.dirty
        some_dirty e = ap dirty_in e

        sym_dirty : Some key.dirty ≡ Some r.dirty → key.dirty ≡ true
        sym_dirty e = cc

    go : (b : Bool) → (ref_said (last_said keys s) ≡ Some r → ⊥)
        → ref_said (if b then Some (ref_by key s (pointer_of key)) else last_said keys s) ≡ Some r
        → ⊥
    go true rest e = of_key (pointer_of key) refl e
    go false rest e = rest e

-- ---- a key that was looked at

got : {A : Type 0} (xs : List A) (i : ℕ) (x : A) → slice_get xs i ≡ Some x
    → (i < length xs) × ((d : A) → slice_index_or xs i d ≡ x)
got [] i x is = absurd (cc)
got (y ∷ ys) zero x is = let same : y ≡ x = cc in (omega (arith), λ d. same)
got (y ∷ ys) (suc i) x is = let rest = got ys i x is in
    let lt = rest.0 in (omega (arith, lt), rest.1)

pub dirty_found : (leaf : Leaf) (xs : List Key) (i : ℕ) (key : Key) → xs ≡ leaf.keys
    → AreProperKeys leaf.from leaf.end leaf.keys → slice_get xs i ≡ Some key
    → key.dirty ≡ true → 0 < key.count → HasDirtySector leaf
dirty_found leaf xs i key same proper is dirty some =
    let at = got leaf.keys i key (subst (λ (ys : List Key). slice_get ys i ≡ Some key) same is) in
    says_dirty leaf i key proper at.0 (subst IsDirtyKey (sym (at.1 key)) (dirty, some))

-- none so far, and not that one
pub none_more : (keys xs : List Key) (i : ℕ) (key : Key) → xs ≡ keys → slice_get xs i ≡ Some key
    → (IsDirtyKey key → ⊥)
    → ((k : ℕ) (d : Key) → k < i → IsDirtyKey (slice_index_or keys k d) → ⊥)
    → (k : ℕ) (d : Key) → k < i + 1 → IsDirtyKey (slice_index_or keys k d) → ⊥
none_more keys xs i key same is not before k d lt dirty = elim (cases_lt k i) [
  | inl low ↦ before k d low dirty
  | inr high ↦ (let here : k ≡ i = omega (arith, lt, high) in
      let at = got keys i key (subst (λ (ys : List Key). slice_get ys i ≡ Some key) same is) in
      not (subst IsDirtyKey (ap (λ n. slice_index_or keys n d) here ∙ at.1 d) dirty))
]
