-- A key's pieces for the first leaves.
use Rattle.std.proofs.Common.{◌≡◌, ◌≢◌, ◌⊎◌, inl, inr, ℕ, ◌+◌, ◌<◌, ◌≤◌, List, [], length, get_or, set, refl, sym, ◌∙◌, subst, arith, get_or-set_same, get_or-set_other, length-set}
use Rattle.std.specs.List.{AllWithin}
use Rattle.std.proofs.lemmas.Bool.{cases_eq, cases_order}
use Rattle.std.proofs.lemmas.List.{get_or_default}
use Rattle.bc_key.specs.Key.{start_of}
use Rattle.bc_spine.specs.declared.leaf.LeafRange.{LeafRange}
use Rattle.bc_spine.proofs.Rows.{ends_before, lies_within}
use Rattle.bc_pending.specs.declared.numbered.Numbered.{Numbered}
use Rattle.bc_pending.specs.Pieces.{AreGiven, AreInRow, IsGiven}

-- the first i leaves have got the key's pieces, and the lists of the others are as they were
pub record SharedSoFar (leaves : List LeafRange) (key : Numbered) (old new : List (List Numbered)) (i : ℕ) : Type 0 where
  pub each : length new ≡ length old
  pub given : (k : ℕ) (d : LeafRange) → k < i → k < length leaves → IsGiven (get_or leaves k d) key (get_or old k []) (get_or new k [])
  pub rest : (k : ℕ) → i ≤ k → get_or new k [] ≡ get_or old k []

-- leaves that end before the key begins get nothing
pub none_before : (leaves : List LeafRange) (key : Numbered) (lists : List (List Numbered)) (i : ℕ) → AllWithin (λ leaf. leaf.end ≤ start_of key.key) leaves 0 i → SharedSoFar leaves key lists lists i
none_before leaves key lists i ended = record {
  each = refl;
  given = λ k d before inside. inl ((λ some. let low = ended k d (omega arith) before in omega (arith, low, some.1)), refl);
  rest = λ k from. refl;
}

pub one_shared : (leaves : List LeafRange) (key : Numbered) (old mid : List (List Numbered)) (i : ℕ) (leaf : LeafRange) (list : List Numbered)
    → i < length leaves → i < length mid → get_or leaves i leaf ≡ leaf → SharedSoFar leaves key old mid i
    → IsGiven leaf key (get_or mid i []) list → SharedSoFar leaves key old (set mid i list) (i + 1)
one_shared leaves key old mid i leaf list inside there at so give = record {
  each = length-set mid i list ∙ so.each;
  given = λ k d before within. here k d before within (cases_eq k i);
  rest = λ k from. get_or-set_other mid i k list [] (λ e. omega arith) ∙ so.rest k (omega arith);
}
  where
    here : (k : ℕ) (d : LeafRange) → k < i + 1 → k < length leaves → (k ≡ i) ⊎ (k ≢ i) → IsGiven (get_or leaves k d) key (get_or old k []) (get_or (set mid i list) k [])
    here k d before within (inr other) =
        subst (λ (xs : List Numbered). IsGiven (get_or leaves k d) key (get_or old k []) xs) (sym (get_or-set_other mid i k list [] other)) (so.given k d (omega (arith, other)) within)
    here k d before within (inl same) =
        let leaf_is : leaf ≡ get_or leaves i d = sym at ∙ sym (get_or_default leaves i d leaf inside) in
        let old_is : get_or mid i [] ≡ get_or old i [] = so.rest i (omega arith) in
        let new_is : list ≡ get_or (set mid i list) i [] = sym (get_or-set_same mid i list [] there) in
        subst (λ n. IsGiven (get_or leaves n d) key (get_or old n []) (get_or (set mid i list) n [])) (sym same)
        (subst (λ (l : LeafRange). IsGiven l key (get_or old i []) (get_or (set mid i list) i [])) leaf_is
        (subst (λ (xs : List Numbered). IsGiven leaf key xs (get_or (set mid i list) i [])) old_is
        (subst (λ (xs : List Numbered). IsGiven leaf key (get_or mid i []) xs) new_is give)))

pub all_shared : (leaves : List LeafRange) (key : Numbered) (old new : List (List Numbered)) (i : ℕ) → AreInRow leaves → SharedSoFar leaves key old new i
    → (i < length leaves → (d : LeafRange) → key.key.end ≤ (get_or leaves i d).from) → AreGiven leaves key old new
all_shared leaves key old new i row so over = record {
  each = so.each;
  given = λ k d inside. go k d inside (cases_order k i);
}
  where
    behind : (k : ℕ) (d : LeafRange) → k < length leaves → i ≤ k → key.key.end ≤ (get_or leaves k d).from → IsGiven (get_or leaves k d) key (get_or old k []) (get_or new k [])
    behind k d inside from high = inl ((λ some. omega (arith, some.1, high)), so.rest k from)

    go : (k : ℕ) (d : LeafRange) → k < length leaves → (k ≡ i) ⊎ ((k < i) ⊎ (i < k)) → IsGiven (get_or leaves k d) key (get_or old k []) (get_or new k [])
    go k d inside (inl same) = behind k d inside (omega arith) (subst (λ n. key.key.end ≤ (get_or leaves n d).from) (sym same) (over (omega arith) d))
    go k d inside (inr (inl less)) = so.given k d less inside
    go k d inside (inr (inr more)) =
        let apart = ends_before 0 row.0 leaves row.1 i k d more inside in
        let high = over (omega arith) d in
        let long = (lies_within 0 row.0 leaves row.1 i d (omega arith)).1 in
        behind k d inside (omega arith) (omega (arith, apart, high, long))
