-- Keys that are kept as fronts and tails.
use Rattle.std.proofs.Common.{◌≡◌, inl, inr, ℕ, zero, suc, ◌+◌, ◌/◌, ◌<◌, ◌≤◌, List, [], ◌∷◌, ◌++◌, length, get_or, set, refl, sym, ap, ◌∙◌, subst, arith, if◌then◌else◌}
use Rattle.std.proofs.lemmas.Bool.{cases_lt, le-ltb, lt-ltb}
use Rattle.std.proofs.lemmas.List.{get_or_past, get_or_default, same_lists}
use Rattle.bc_key.specs.declared.key.Key.{Key}
use Rattle.bc_key.specs.declared.ptr.Ptr.{Ptr}
use Rattle.bc_key.specs.Ptr.{no_ptr}
use Rattle.bc_key.proofs.KeyLaws.{same_key, same_ptr}
use Rattle.bc_extent.specs.declared.slot.Front.{Front}
use Rattle.bc_extent.specs.declared.slot.Tail.{Tail}
use Rattle.bc_extent.specs.Moved.{IsMoved}
use Rattle.bc_extent.specs.PtrWord.{ptr_in}
use Rattle.bc_extent.specs.Ptrs.{ptr_within, ptrs_in}
use Rattle.bc_extent.specs.Slot.{key_in, no_tail, keys_in, AreAll}

-- ---- the pointers of one key

none_there : (count i word : ℕ) → count ≤ i → ptr_within count i word ≡ no_ptr
none_there count i word behind = ap (λ t. if t then ptr_in word else no_ptr) (le-ltb i count behind)

one_there : (count i word : ℕ) → i < count → ptr_within count i word ≡ ptr_in word
one_there count i word inside = ap (λ t. if t then ptr_in word else no_ptr) (lt-ltb i count inside)

first_alone : (count a b c d e f : ℕ) → count ≤ 1 → ptrs_in count a b c d e f ≡ ptr_within count 0 a ∷ no_ptr ∷ no_ptr ∷ no_ptr ∷ no_ptr ∷ no_ptr ∷ []
first_alone count a b c d e f few = λ t. ptr_within count 0 a ∷ none_there count 1 b few t ∷ none_there count 2 c (omega arith) t ∷ none_there count 3 d (omega arith) t ∷ none_there count 4 e (omega arith) t ∷ none_there count 5 f (omega arith) t ∷ []

-- where the key has one pointer at most, its tail says nothing
narrow : (front : Front) (s t : Tail) → front.tags / 4 ≤ 1 → key_in front s ≡ key_in front t
narrow front s t few = same_key (key_in front s) (key_in front t) refl refl refl refl refl refl
    (first_alone (front.tags / 4) front.word s.second s.third s.fourth s.fifth s.sixth few ∙ sym (first_alone (front.tags / 4) front.word t.second t.third t.fourth t.fifth t.sixth few))

-- a pointer of a key, from the word that it was put into
there : (key : Key) (i word : ℕ) (p d : Ptr) → i < 6 → ptr_in word ≡ get_or key.ptrs i p → ptr_within key.count i word ≡ get_or key.ptrs i d
there key i word p d inside is =
    let same = is ∙ get_or_default key.ptrs i p d (omega (arith, key.six_places)) in
    elim (cases_lt i key.count) [
      | inl within ↦ one_there key.count i word within ∙ same
      | inr behind ↦
          let none = key.no_more_ptrs i d behind inside in
          none_there key.count i word behind ∙ same_ptr no_ptr (get_or key.ptrs i d) (sym none.0) (sym none.1) (sym none.2)
    ]

-- the pointer and its word
abbrev IsWordOf : Key → ℕ → ℕ → Type 0
IsWordOf key i word = (p : Ptr) × (ptr_in word ≡ get_or key.ptrs i p)

-- all pointers of a key, from their words
pub all_there : (key : Key) (count a b c d e f : ℕ) → count ≡ key.count → IsWordOf key 0 a → IsWordOf key 1 b → IsWordOf key 2 c → IsWordOf key 3 d → IsWordOf key 4 e → IsWordOf key 5 f → ptrs_in count a b c d e f ≡ key.ptrs
all_there key count a b c d e f is at_a at_b at_c at_d at_e at_f = ap (λ n. ptrs_in n a b c d e f) is ∙ same_lists (ptrs_in key.count a b c d e f) key.ptrs (sym key.six_places) each
  where
    each : (k : ℕ) (z : Ptr) → k < 6 → get_or (ptrs_in key.count a b c d e f) k z ≡ get_or key.ptrs k z
    each zero z inside = there key 0 a at_a.0 z inside at_a.1
    each (suc zero) z inside = there key 1 b at_b.0 z inside at_b.1
    each (suc (suc zero)) z inside = there key 2 c at_c.0 z inside at_c.1
    each (suc (suc (suc zero))) z inside = there key 3 d at_d.0 z inside at_d.1
    each (suc (suc (suc (suc zero)))) z inside = there key 4 e at_e.0 z inside at_e.1
    each (suc (suc (suc (suc (suc zero))))) z inside = there key 5 f at_f.0 z inside at_f.1
    each (suc (suc (suc (suc (suc (suc k)))))) z inside = absurd (omega arith)

-- ---- the keys of all places

pub length_keys : (fronts : List Front) (tails : List Tail) → length (keys_in fronts tails) ≡ length fronts
length_keys [] tails = refl
length_keys (f ∷ fs) [] = ap suc (length_keys fs [])
length_keys (f ∷ fs) (t ∷ ts) = ap suc (length_keys fs ts)

pub key_at : (fronts : List Front) (tails : List Tail) (k : ℕ) (d : Key) (f : Front) → k < length fronts → get_or (keys_in fronts tails) k d ≡ key_in (get_or fronts k f) (get_or tails k no_tail)
key_at [] tails k d f inside = absurd (omega arith)
key_at (f ∷ fs) [] zero d g inside = refl
key_at (f ∷ fs) [] (suc k) d g inside = key_at fs [] k d g (omega arith)
key_at (f ∷ fs) (t ∷ ts) zero d g inside = refl
key_at (f ∷ fs) (t ∷ ts) (suc k) d g inside = key_at fs ts k d g (omega arith)

-- one more tail that says nothing
pub one_more : (fronts : List Front) (tails : List Tail) → keys_in fronts (tails ++ no_tail ∷ []) ≡ keys_in fronts tails
one_more [] tails = refl
one_more (f ∷ fs) [] = refl
one_more (f ∷ fs) (t ∷ ts) = ap (λ ks. key_in f t ∷ ks) (one_more fs ts)

set_both : (fronts : List Front) (tails : List Tail) (k : ℕ) (f : Front) (t : Tail) → k < length tails → keys_in (set fronts k f) (set tails k t) ≡ set (keys_in fronts tails) k (key_in f t)
set_both [] tails k f t inside = refl
set_both (g ∷ gs) [] k f t inside = absurd (omega arith)
set_both (g ∷ gs) (u ∷ us) zero f t inside = refl
set_both (g ∷ gs) (u ∷ us) (suc k) f t inside = ap (λ ks. key_in g u ∷ ks) (set_both gs us k f t (omega arith))

set_front : (fronts : List Front) (k : ℕ) (f : Front) (t : Tail) → f.tags / 4 ≤ 1 → keys_in (set fronts k f) [] ≡ set (keys_in fronts []) k (key_in f t)
set_front [] k f t few = refl
set_front (g ∷ gs) zero f t few = ap (λ key. key ∷ keys_in gs []) (narrow f no_tail t few)
set_front (g ∷ gs) (suc k) f t few = ap (λ ks. key_in g no_tail ∷ ks) (set_front gs k f t few)

-- another key in a place
pub put : (fronts : List Front) (tails : List Tail) (k : ℕ) (f : Front) (t : Tail) → k < 512 → AreAll tails → (1 < f.tags / 4 → length tails ≡ 512) → keys_in (set fronts k f) (set tails k t) ≡ set (keys_in fronts tails) k (key_in f t)
put fronts tails k f t inside (inr all) needed = set_both fronts tails k f t (omega arith)
put fronts tails k f t inside (inl none) needed = elim (cases_lt 1 (f.tags / 4)) [
  | inl several ↦ set_both fronts tails k f t (let all = needed several in omega arith)
  | inr few ↦ subst (λ ts. keys_in (set fronts k f) (set ts k t) ≡ set (keys_in fronts ts) k (key_in f t)) (sym none) (set_front fronts k f t few)
]

-- the key of a place that has got its front, and its tail where there are tails
pub put_there : (fronts : List Front) (tails : List Tail) (k : ℕ) (d : Key) (f : Front) (t : Tail) → k < length fronts → AreAll tails → (1 < f.tags / 4 → length tails ≡ 512) → get_or fronts k f ≡ f → (0 < length tails → get_or tails k no_tail ≡ t) → get_or (keys_in fronts tails) k d ≡ key_in f t
put_there fronts tails k d f t inside all needed front tail =
    key_at fronts tails k d f inside ∙ ap (λ g. key_in g (get_or tails k no_tail)) front ∙ elim all [
      | inr some ↦ ap (λ u. key_in f u) (tail (omega arith))
      | inl none ↦ elim (cases_lt 1 (f.tags / 4)) [
        | inl several ↦ ap (λ u. key_in f u) (tail (let e = needed several in omega arith))
        | inr few ↦ narrow f (get_or tails k no_tail) t few
      ]
    ]

-- keys move with their fronts and their tails
pub moved_keys : (a b : ℕ) (fs gs : List Front) (ts us : List Tail) (f : Front) → a ≤ b → b < length fs → length gs ≡ length fs → IsMoved a b fs gs → IsMoved a b ts us → IsMoved a b (keys_in fs ts) (keys_in gs us)
moved_keys a b fs gs ts us f order inside long m n = record {
  moved = λ k d low high. key_at gs us (k + 1) d f (omega arith) ∙ (λ i. key_in (m.moved k f low high i) (n.moved k no_tail low high i)) ∙ sym (key_at fs ts k d f (omega arith));
  before = λ k d low. key_at gs us k d f (omega arith) ∙ (λ i. key_in (m.before k f low i) (n.before k no_tail low i)) ∙ sym (key_at fs ts k d f (omega arith));
  behind = λ k d high. elim (cases_lt k (length fs)) [
    | inl within ↦ key_at gs us k d f (omega arith) ∙ (λ i. key_in (m.behind k f high i) (n.behind k no_tail high i)) ∙ sym (key_at fs ts k d f (omega arith))
    | inr past ↦ get_or_past (keys_in gs us) k d (omega (arith, length_keys gs us)) ∙ sym (get_or_past (keys_in fs ts) k d (omega (arith, length_keys fs ts)))
  ];
}

no_items : (tails : List Tail) → length tails ≡ 0 → tails ≡ []
no_items [] none = refl
no_items (t ∷ ts) none = absurd (omega arith)

-- as many tails as there were
pub still_all : (tails others : List Tail) → AreAll tails → length others ≡ length tails → AreAll others
still_all tails others (inl none) same = inl (no_items others (let e = ap (λ (ts : List Tail). length ts) none in omega arith))
still_all tails others (inr all) same = inr (same ∙ all)
