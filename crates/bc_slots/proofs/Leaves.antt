-- The parts, leaf by leaf.
use Rattle.std.proofs.Common.{◌≡◌, inl, inr, ℕ, zero, suc, List, [], ◌∷◌, true, length, get_or, Option, Some, None, refl, sym, ap, ◌∙◌, subst, arith}
use Rattle.std.specs.Prelude.{All, slice_get}
use Rattle.std.proofs.lemmas.List.Elements.{All-cons, All-nil}
use Rattle.bc_cache.specs.Slots.{HasLeaf}
use Rattle.bc_cache.specs.declared.slots.Cached.{Cached}
use Rattle.bc_disk.specs.Disk.{DiskFacts}
use Rattle.bc_pending.specs.declared.numbered.Numbered.{Numbered}
use Rattle.bc_pending.specs.Pieces.{ArePieces, IsPiece}
use Rattle.bc_reload.specs.Reload.{FitsRange}
use Rattle.bc_spine.specs.declared.leaf.LeafRange.{LeafRange}
use Rattle.bc_slots.specs.Laws.{EachHasOne, FourMore, LastFourEmpty, NoneOpened, NoOther, PendingFit, SomeCanGo}
use Rattle.bc_slots.specs.Parts.{AreFilled, IsOpened}
use Rattle.bc_slots.specs.Places.{has_keys, is_in, numbers_in}
use Rattle.bc_slots.proofs.Filled.{filled_at, filled_has, filled_length, filled_rest}
use Rattle.bc_slots.proofs.Passed.{found, none, once, passed_all, passed_each}
use Rattle.bc_slots.proofs.Steps.{in_part, keyless}

some_cached : (a b : Cached) (o : Option (Option Cached)) → o ≡ Some (Some a) → o ≡ Some (Some b) → a ≡ b
some_cached a b o p q = cc

pub each_has_one : (d : DiskFacts) → EachHasOne d
each_has_one d g leaves pending count part number cache is low keys same =
    let p = is_in pending count part in
    let k = found p 0 (length pending) number (omega arith) (omega (arith, low)) (in_part pending count part number keys same) in
    let h = filled_has (IsOpened g leaves pending d) (numbers_in pending count part) 4 k.0 number cache.slots is.slots k.1 in
    record {
      slot = k.0;
      cached = h.0;
      there = h.1;
      opened = h.2;
      only = record {
        has = record { cached = h.0; there = h.1; number_is = h.2.number_is };
        only = λ other has. other_is k.0 k.1 other has;
      };
    }
  where
    other_is : (k : ℕ) → slice_get (numbers_in pending count part) k ≡ Some number → (other : ℕ) → HasLeaf cache.slots other number → other ≡ k
    other_is k at other has =
        let h = filled_at (IsOpened g leaves pending d) (numbers_in pending count part) 4 other has.cached cache.slots is.slots has.there in
        let same : h.0 ≡ number = sym h.2.number_is ∙ has.number_is in
        once (is_in pending count part) 0 (length pending) other k number (subst (λ n. slice_get (numbers_in pending count part) other ≡ Some n) same h.1) at

pub no_other : (d : DiskFacts) → NoOther d
no_other d g leaves pending count part slot cached cache is there =
    let p = is_in pending count part in
    let h = filled_at (IsOpened g leaves pending d) (numbers_in pending count part) 4 slot cached cache.slots is.slots there in
    let all = passed_all p (length pending) (length pending) (omega arith) in
    let each = passed_each p (length pending) (length pending) slot h.0 (subst (λ (js : List ℕ). slice_get js slot ≡ Some h.0) (sym all) h.1) in
    let same : h.0 ≡ cached.number = sym h.2.number_is in
    (subst (λ n. p n ≡ true) same each.0, subst (λ n. IsOpened g leaves pending d n cached) same h.2)

pub four_more : (d : DiskFacts) → FourMore d
four_more d g leaves pending count part cache is = filled_length (IsOpened g leaves pending d) (numbers_in pending count part) 4 cache.slots is.slots

pub last_four_empty : (d : DiskFacts) → LastFourEmpty d
last_four_empty d g leaves pending count part slot cache is from below =
    let long = four_more d g leaves pending count part cache is in
    filled_rest (IsOpened g leaves pending d) (numbers_in pending count part) 4 slot cache.slots is.slots from (omega (arith, below, long))

pub some_can_go : (d : DiskFacts) → SomeCanGo d
some_can_go d g leaves pending count part cache is none =
    let n = length (numbers_in pending count part) in
    let long = four_more d g leaves pending count part cache is in
    none n None (last_four_empty d g leaves pending count part n cache is (omega arith) (omega (arith, long))) tt

pub none_opened : (d : DiskFacts) → NoneOpened d
none_opened d g leaves pending count part cache is empty =
    let fails = none (is_in pending count part) 0 (length pending) (λ j. keyless pending count part j (ap has_keys (nothing pending empty j))) in
    subst (λ (js : List ℕ). AreFilled (IsOpened g leaves pending d) js 4 cache.slots) fails is.slots
  where
    nothing : (lists : List (List Numbered)) → All (λ keys. keys ≡ []) lists → (j : ℕ) → get_or lists j [] ≡ []
    nothing [] all zero = refl
    nothing [] all (suc j) = refl
    nothing (xs ∷ lists) all zero = all 0 [] (omega arith)
    nothing (xs ∷ lists) all (suc j) = nothing lists (λ k e low. all (suc k) e (omega (arith, low))) j

-- ---- the keys of leaves

pieces_fit : (leaf : LeafRange) (keys pieces : List Numbered) → ArePieces leaf keys pieces → All (FitsRange leaf) pieces
pieces_fit leaf [] pieces none = subst (λ (ps : List Numbered). All (FitsRange leaf) ps) (sym none) (All-nil (FitsRange leaf))
pieces_fit leaf (key ∷ keys) pieces are = elim are [
  | inl out ↦ pieces_fit leaf keys pieces out.1
  | inr more ↦ subst (λ (ps : List Numbered). All (FitsRange leaf) ps) (sym more.3) (All-cons (FitsRange leaf) more.0 more.1 (fits leaf key more.0 more.2) (pieces_fit leaf keys more.1 more.4))
]
  where
    fits : (leaf : LeafRange) (key piece : Numbered) → IsPiece leaf key piece → FitsRange leaf piece
    fits leaf key piece is = let begins = is.begins in let ends = is.ends in (is.range.0, omega (arith, begins), omega (arith, ends))

pub pending_fit : PendingFit
pending_fit leaves keys lists are = record {
  each = are.each;
  fit = λ i d low. pieces_fit (get_or leaves i d) keys (get_or lists i []) (are.pieces i d low);
}
