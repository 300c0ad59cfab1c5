-- A child of an inner node that gives way to one with the same end.
use Rattle.std.proofs.Common.{◌≡◌, ◌≢◌, ◌⊎◌, inl, inr, ℕ, zero, suc, ◌+◌, ◌-◌, ◌*◌, ◌<◌, ◌≤◌, ◌%◌, List, [], ◌∷◌, ◌++◌, length, get_or, set, take, drop, Some, refl, sym, subst, ap, ◌∙◌, arith}
use Rattle.std.specs.Prelude.{All, Any, slice_get}
use Rattle.std.proofs.lemmas.Bool.{cases_eq, le-leb}
use Rattle.std.proofs.lemmas.List.{get_or-set_same, get_or-set_other, get_or_default, length-set}
use Rattle.std.proofs.lemmas.List.Elements.{All-nil, All-cons}
use Rattle.std.proofs.lemmas.Option.{slice_get_within, get_or_from_slice_get}
use Rattle.bc_disk.specs.declared.geometry.Geometry.{Geometry}
use Rattle.bc_inner.specs.Inner.{CoverRange, Inner}
use Rattle.bc_key.specs.declared.key.Key.{Key}
use Rattle.bc_keys.proofs.KeyLists.{length-words_of}
use Rattle.bc_tree.specs.Change.{CanChange}
use Rattle.bc_tree.specs.Children.{AreByEnd, HasPointer, children_after}
use Rattle.bc_tree.specs.Needs.{words}
use Rattle.bc_tree.specs.Spine.{Covers, IsProper}
use Rattle.bc_tree.proofs.Proper.{words_cons}

pub after_is_set : {X : Type 0} (xs : List X) (i : ℕ) (x : X) → i < length xs → (take i xs ++ x ∷ []) ++ drop (i + 1) xs ≡ set xs i x
after_is_set [] i x within = absurd (omega arith)
after_is_set (y ∷ ys) zero x within = refl
after_is_set (y ∷ ys) (suc i) x within =
    let e : suc i + 1 ≡ suc (i + 1) = omega arith in
    ap (λ n. (take (suc i) (y ∷ ys) ++ x ∷ []) ++ drop n (y ∷ ys)) e ∙ ap (λ zs. y ∷ zs) (after_is_set ys i x (omega arith))

-- ---- the ends stay

module _ (cs : List Key) (i : ℕ) (old key : Key) (there : slice_get cs i ≡ Some old) (same : key.end ≡ old.end) where
  within : i < length cs
  within = slice_get_within cs i old there

  new : List Key
  new = set cs i key

  end_at : (k : ℕ) (d : Key) → (get_or (set cs i key) k d).end ≡ (get_or cs k d).end
  end_at k d = go (cases_eq k i)
    where
      go : (k ≡ i) ⊎ (k ≢ i) → (get_or (set cs i key) k d).end ≡ (get_or cs k d).end
      go (inl e) =
          subst (λ n. (get_or (set cs i key) n d).end ≡ (get_or cs n d).end) (sym e)
          (ap (λ (x : Key). x.end) (get_or-set_same cs i key d within) ∙ same ∙ sym (ap (λ (x : Key). x.end) (get_or_from_slice_get cs i old d there)))
      go (inr ne) = ap (λ (x : Key). x.end) (get_or-set_other cs i k key d ne)

  order_stays : AreByEnd cs → AreByEnd (set cs i key)
  order_stays order a b d less inside =
      let low = end_at a d in
      let high = end_at b d in
      let was = order a b d less (omega (arith, length-set cs i key)) in
      omega arith

  all_stay : (P : ℕ → Type 0) → All (λ c. P c.end) cs → All (λ c. P c.end) (set cs i key)
  all_stay P all k d inside = subst P (sym (end_at k d)) (all k d (omega (arith, length-set cs i key)))

  reach_stays : (end : ℕ) → Any (λ c. c.end ≡ end) cs → Any (λ c. c.end ≡ end) (set cs i key)
  reach_stays end (k, x, inside, is, at_end) =
      let low : k < length (set cs i key) = omega (arith, length-set cs i key) in
      (k, get_or (set cs i key) k x, low, get_or_default (set cs i key) k (get_or (set cs i key) k x) x low, end_at k x ∙ ap (λ (y : Key). y.end) is ∙ at_end)

  pub cover_stays : (from end : ℕ) → CoverRange from end cs → CoverRange from end (set cs i key)
  cover_stays from end cover = record {
    order = order_stays cover.order;
    within = all_stay (λ e. (from < e) × (e ≤ end)) cover.within;
    multiples = all_stay (λ e. e % 256 ≡ 0) cover.multiples;
    reach = reach_stays end cover.reach;
  }

  live_stays : HasPointer key → All HasPointer cs → All HasPointer (set cs i key)
  live_stays some all k d inside = go (cases_eq k i)
    where
      go : (k ≡ i) ⊎ (k ≢ i) → HasPointer (get_or (set cs i key) k d)
      go (inl e) = subst (λ n. HasPointer (get_or (set cs i key) n d)) (sym e) (subst HasPointer (sym (get_or-set_same cs i key d within)) some)
      go (inr ne) = subst HasPointer (sym (get_or-set_other cs i k key d ne)) (all k d (omega (arith, length-set cs i key)))

words_stay : (cs : List Key) (i : ℕ) (old key : Key) → slice_get cs i ≡ Some old → key.count ≤ old.count → words (set cs i key) ≤ words cs
words_stay [] i old key there few = absurd (cc)
words_stay (c ∷ cs) zero old key there few =
    let is : c ≡ old = cc in
    omega (arith, words_cons c cs, words_cons key cs, length-words_of c, length-words_of key, ap (λ (x : Key). x.count) is)
words_stay (c ∷ cs) (suc i) old key there few = omega (arith, words_cons c cs, words_cons c (set cs i key), words_stay cs i old key there few)

pub can_rename : (g : Geometry) (node : Inner) (i : ℕ) (old key : Key) → IsProper g node → Covers node → slice_get node.children i ≡ Some old → key.end ≡ old.end → key.count ≡ 1
    → CanChange g node i 1 (key ∷ [])
can_rename g node i old key proper cover there same one = record {
  proper = proper;
  way = record {
    some = omega arith;
    within = omega (arith, inside);
    order = cover.order;
    after = subst AreByEnd (sym is) (order_stays node.children i old key there same cover.order);
    live = All-cons HasPointer key [] (omega arith) (All-nil HasPointer);
    ends = record { before = []; last = key; are = refl; ends = λ d. same ∙ ap (λ (x : Key). x.end) (sym (get_or_from_slice_get node.children i old d there)) ∙ ap (λ n. (get_or node.children n d).end) at_i };
    behind = λ k d low. absurd (omega (arith, low));
  };
  cover = subst (CoverRange node.from node.end) (sym is) (cover_stays node.children i old key there same node.from node.end cover);
  fits = le-leb (32 + 8 * words (children_after node.children i 1 (key ∷ []))) (512 * g.node_sectors) (omega (arith, proper.fits, few, ap words is));
}
  where
    inside : i < length node.children
    inside = slice_get_within node.children i old there

    is : children_after node.children i 1 (key ∷ []) ≡ set node.children i key
    is = after_is_set node.children i key inside

    at_i : i ≡ i + 1 - 1
    at_i = omega arith

    old_live : HasPointer old
    old_live = subst HasPointer (get_or_from_slice_get node.children i old old there) (proper.live i old inside)

    few : words (set node.children i key) ≤ words node.children
    few = words_stay node.children i old key there (omega (arith, old_live))
