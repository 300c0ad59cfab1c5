-- One key more, and its pieces.
use Rattle.std.proofs.Common.{◌≡◌, inl, inr, ℕ, zero, suc, List, [], ◌∷◌, ◌++◌, length, get_or, refl, sym, ap, ◌∙◌, subst, append_assoc}
use Rattle.std.specs.Prelude.{replicate}
use Rattle.bc_spine.specs.declared.leaf.LeafRange.{LeafRange}
use Rattle.bc_pending.specs.declared.numbered.Numbered.{Numbered}
use Rattle.bc_pending.specs.Pieces.{AreGiven, ArePending, ArePieces, GoOn, IsGiven}

given_next : (leaf : LeafRange) (keys old new : List Numbered) (key : Numbered) → ArePieces leaf keys old → IsGiven leaf key old new → ArePieces leaf (keys ++ key ∷ []) new
given_next leaf [] old new key are (inl g) = inl (g.0, g.1 ∙ are)
given_next leaf [] old new key are (inr g) = inr (g.0, [], g.1, g.2 ∙ ap (λ ps. ps ++ g.0 ∷ []) are, refl)
given_next leaf (k ∷ keys) old new key (inl h) g = inl (h.0, given_next leaf keys old new key h.1 g)
given_next leaf (k ∷ keys) old new key (inr h) (inl g) = inr (h.0, h.1, h.2, g.1 ∙ h.3, given_next leaf keys h.1 h.1 key h.4 (inl (g.0, refl)))
given_next leaf (k ∷ keys) old new key (inr h) (inr g) =
    inr (h.0, h.1 ++ g.0 ∷ [], h.2, g.2 ∙ ap (λ ps. ps ++ g.0 ∷ []) h.3, given_next leaf keys h.1 (h.1 ++ g.0 ∷ []) key h.4 (inr (g.0, g.1, refl)))

pending_next : (leaves : List LeafRange) (keys : List Numbered) (key : Numbered) (old new : List (List Numbered)) → ArePending leaves keys old → AreGiven leaves key old new → ArePending leaves (keys ++ key ∷ []) new
pending_next leaves keys key old new p g = record {
  each = g.each ∙ p.each;
  pieces = λ i d inside. given_next (get_or leaves i d) keys (get_or old i []) (get_or new i []) key (p.pieces i d inside) (g.given i d inside);
}

-- ---- lists that go on

pub none_more : (leaves : List LeafRange) (lists : List (List Numbered)) → GoOn leaves [] lists lists
none_more leaves lists = λ keys p. subst (λ ks. ArePending leaves ks lists) (sym (append_nil keys)) p
  where
    append_nil : (xs : List Numbered) → xs ++ [] ≡ xs
    append_nil [] = refl
    append_nil (x ∷ xs) = ap (λ ys. x ∷ ys) (append_nil xs)

pub both : (leaves : List LeafRange) (a b : List Numbered) (old mid new : List (List Numbered)) → GoOn leaves a old mid → GoOn leaves b mid new → GoOn leaves (a ++ b) old new
both leaves a b old mid new first second = λ keys p.
    subst (λ ks. ArePending leaves ks new) (append_assoc keys a b) (second (keys ++ a) (first keys p))

pub one_more : (leaves : List LeafRange) (more : List Numbered) (key : Numbered) (old mid new : List (List Numbered)) → GoOn leaves more old mid → AreGiven leaves key mid new → GoOn leaves (more ++ key ∷ []) old new
one_more leaves more key old mid new go given = both leaves more (key ∷ []) old mid new go (λ keys p. pending_next leaves keys key mid new p given)

-- lists without keys
pub nothing_yet : (leaves : List LeafRange) → ArePending leaves [] (replicate (length leaves) [])
nothing_yet leaves = record { each = many (length leaves); pieces = λ i d inside. empty (length leaves) i }
  where
    many : (n : ℕ) → length (replicate {A = List Numbered} n []) ≡ n
    many zero = refl
    many (suc n) = ap suc (many n)

    empty : (n i : ℕ) → get_or (replicate {A = List Numbered} n []) i [] ≡ []
    empty zero i = refl
    empty (suc n) zero = refl
    empty (suc n) (suc i) = empty n i
