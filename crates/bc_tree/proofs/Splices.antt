-- Children of a node that give way to others with the same sectors.
use Rattle.std.proofs.Common.{◌≡◌, ℕ, zero, suc, ◌+◌, ◌-◌, ◌*◌, ◌<◌, ◌≤◌, ◌%◌, true, List, [], ◌∷◌, ◌++◌, length, take, drop, refl, sym, subst, ap, ◌∙◌, arith, length-append}
use Rattle.std.specs.Prelude.{All, Any}
use Rattle.std.proofs.lemmas.Bool.{le-leb, leb-true}
use Rattle.std.proofs.lemmas.List.{take-append-drop, drop-drop, length-take-le, length-drop}
use Rattle.std.proofs.lemmas.List.Elements.{All-cons, All-head, All-nil, All-tail}
use Rattle.std.proofs.lemmas.List.Kept.{AllPairs-cons}
use Rattle.bc_disk.specs.declared.geometry.Geometry.{Geometry}
use Rattle.bc_inner.specs.Inner.{CoverRange, Inner}
use Rattle.bc_key.specs.declared.key.Key.{Key}
use Rattle.bc_keys.proofs.KeyLists.{length-words_of}
use Rattle.bc_tree.specs.Change.{CanChange}
use Rattle.bc_tree.specs.Children.{AreByEnd, EndsBefore, HasPointer, children_after}
use Rattle.bc_tree.specs.Needs.{fits_node, words}
use Rattle.bc_tree.specs.Spine.{Covers, IsProper, Rise, last_end}
use Rattle.bc_tree.proofs.Nexts.{drop_all_of, take_all_of}
use Rattle.bc_tree.proofs.Proper.{words_append, words_cons}
use Rattle.bc_tree.proofs.Spines.{cover_ends, cover_rises, end_more}

-- ---- ends that rise

pub end_append : (from : ℕ) (xs ys : List Key) → last_end from (xs ++ ys) ≡ last_end (last_end from xs) ys
end_append from [] ys = refl
end_append from (x ∷ xs) ys = end_append x.end xs ys

pub rise_append : (from : ℕ) (xs ys : List Key) → Rise from xs → Rise (last_end from xs) ys → Rise from (xs ++ ys)
rise_append from [] ys one two = two
rise_append from (x ∷ xs) ys one two = (one.0, one.1, rise_append x.end xs ys one.2 two)

pub rise_take : (n from : ℕ) (xs : List Key) → Rise from xs → Rise from (take n xs)
rise_take zero from xs rise = tt
rise_take (suc n) from [] rise = tt
rise_take (suc n) from (x ∷ xs) rise = (rise.0, rise.1, rise_take n x.end xs rise.2)

pub rise_drop : (n from : ℕ) (xs : List Key) → Rise from xs → Rise (last_end from (take n xs)) (drop n xs)
rise_drop zero from xs rise = rise
rise_drop (suc n) from [] rise = tt
rise_drop (suc n) from (x ∷ xs) rise = rise_drop n x.end xs rise.2

pub end_drop : (n from : ℕ) (xs : List Key) → last_end (last_end from (take n xs)) (drop n xs) ≡ last_end from xs
end_drop zero from xs = refl
end_drop (suc n) from [] = refl
end_drop (suc n) from (x ∷ xs) = end_drop n x.end xs

pub rise_above : (low from : ℕ) (xs : List Key) → low ≤ from → Rise from xs → All (λ c. low < c.end) xs
rise_above low from [] less rise = All-nil (λ (c : Key). low < c.end)
rise_above low from (x ∷ xs) less rise =
    let here = rise.0 in
    All-cons (λ (c : Key). low < c.end) x xs (omega arith) (rise_above low x.end xs (omega arith) rise.2)

pub end_least : (from : ℕ) (xs : List Key) → Rise from xs → from ≤ last_end from xs
end_least from [] rise = omega arith
end_least from (x ∷ xs) rise = omega (arith, rise.0, end_least x.end xs rise.2)

rise_below : (from : ℕ) (xs : List Key) → Rise from xs → All (λ c. c.end ≤ last_end from xs) xs
rise_below from [] rise = All-nil (λ (c : Key). c.end ≤ from)
rise_below from (x ∷ xs) rise = All-cons (λ (c : Key). c.end ≤ last_end x.end xs) x xs (end_least x.end xs rise.2) (rise_below x.end xs rise.2)

rise_order : (from : ℕ) (xs : List Key) → Rise from xs → AreByEnd xs
rise_order from [] rise = λ i j d before inside. absurd (omega (arith, inside))
rise_order from (x ∷ xs) rise = AllPairs-cons EndsBefore x xs (rise_above x.end x.end xs (omega arith) rise.2) (rise_order x.end xs rise.2)

rise_multiples : (from : ℕ) (xs : List Key) → Rise from xs → All (λ c. c.end % 256 ≡ 0) xs
rise_multiples from [] rise = All-nil (λ (c : Key). c.end % 256 ≡ 0)
rise_multiples from (x ∷ xs) rise = All-cons (λ (c : Key). c.end % 256 ≡ 0) x xs rise.1 (rise_multiples x.end xs rise.2)

rise_reaches : (from : ℕ) (xs : List Key) → 0 < length xs → Any (λ c. c.end ≡ last_end from xs) xs
rise_reaches from [] some = absurd (omega (arith, some))
rise_reaches from (x ∷ []) some = (0, x, omega arith, refl, refl)
rise_reaches from (x ∷ (y ∷ ys)) some =
    let rest = rise_reaches x.end (y ∷ ys) (omega arith) in
    (suc rest.0, rest.1, omega (arith, rest.2), rest.3, rest.4)

pub rise_covers : (from end : ℕ) (xs : List Key) → Rise from xs → 0 < length xs → last_end from xs ≡ end → CoverRange from end xs
rise_covers from end xs rise some is = subst (λ e. CoverRange from e xs) is (record {
  order = rise_order from xs rise;
  within = λ k d inside. (rise_above from from xs (omega arith) rise k d inside, rise_below from xs rise k d inside);
  multiples = rise_multiples from xs rise;
  reach = rise_reaches from xs some;
})

-- ---- the words of those that are left

pub live_words : (xs : List Key) → All HasPointer xs → 3 * length xs ≤ words xs
live_words [] live = omega arith
live_words (x ∷ xs) live =
    let some = All-head HasPointer x xs live in
    omega (arith, words_cons x xs, length-words_of x, some, live_words xs (All-tail HasPointer x xs live))

pub words_after : (xs come : List Key) (at gone : ℕ) → All HasPointer xs → at + gone ≤ length xs → words (children_after xs at gone come) + 3 * gone ≤ words xs + words come
words_after xs come at gone live within =
    let middle = take gone (drop at xs) in
    let whole = words_append (take at xs) (drop at xs) in
    let parts = words_append middle (drop gone (drop at xs)) in
    let least = live_words middle (take_all_of HasPointer gone (drop at xs) (drop_all_of HasPointer at xs live)) in
    omega (
      arith,
      whole,
      parts,
      least,
      ap words (take-append-drop at xs),
      ap words (take-append-drop gone (drop at xs)),
      ap words (drop-drop gone at xs),
      length-take-le gone (drop at xs) (omega (arith, length-drop at xs)),
      words_append (take at xs ++ come) (drop (at + gone) xs),
      words_append (take at xs) come,
    )

-- ---- all of it

-- those that come end one behind the other, from where the first one begins that goes, up to where the last one ends
pub record AreInPlace (from : ℕ) (children : List Key) (at gone : ℕ) (come : List Key) : Type 0 where
  pub rise : Rise (last_end from (take at children)) come
  pub end : last_end (last_end from (take at children)) come ≡ last_end from (take (at + gone) children)
  pub some : 0 < length come

after_rises : (from : ℕ) (xs : List Key) (at gone : ℕ) (come : List Key) → Rise from xs → AreInPlace from xs at gone come
    → Rise from (children_after xs at gone come) × (last_end from (children_after xs at gone come) ≡ last_end from xs)
after_rises from xs at gone come rise are =
    let front = take at xs ++ come in
    let reach = end_append from (take at xs) come ∙ are.end in (
      rise_append from front (drop (at + gone) xs) (rise_append from (take at xs) come (rise_take at from xs rise) are.rise) (subst (λ n. Rise n (drop (at + gone) xs)) (sym reach) (rise_drop (at + gone) from xs rise)),
      end_append from front (drop (at + gone) xs) ∙ ap (λ n. last_end n (drop (at + gone) xs)) reach ∙ end_drop (at + gone) from xs,
    )

pub after_covers : (from end : ℕ) (xs : List Key) (at gone : ℕ) (come : List Key) → CoverRange from end xs → AreInPlace from xs at gone come → CoverRange from end (children_after xs at gone come)
after_covers from end xs at gone come cover are =
    let after = after_rises from xs at gone come (cover_rises from end xs cover) are in
    rise_covers from end (children_after xs at gone come) after.0
    (omega (arith, are.some, length-append (take at xs ++ come) (drop (at + gone) xs), length-append (take at xs) come)) (after.1 ∙ cover_ends from end xs cover)

pub can_replace : (g : Geometry) (node : Inner) (at gone more : ℕ) (come before : List Key) (last : Key) → IsProper g node → Covers node → 0 < gone → at + gone ≤ length node.children
    → AreInPlace node.from node.children at gone come → All HasPointer come → come ≡ before ++ last ∷ [] → All (λ child. All (EndsBefore child) come) (take (gone - 1) (drop at node.children))
    → words come ≤ 3 * gone + more → fits_node g (words node.children + more) ≡ true → CanChange g node at gone come
can_replace g node at gone more come before last proper cover some within place live are behind size fits =
    let covers = after_covers node.from node.end node.children at gone come cover place in
    let inside : at + gone - 1 < length node.children = omega arith in
    record {
      proper = proper;
      way = record {
        some = some;
        within = within;
        order = cover.order;
        after = covers.order;
        live = live;
        ends = record {
          before = before;
          last = last;
          are = are;
          ends = λ d.
              sym (end_append (last_end node.from (take at node.children)) before (last ∷ []))
              ∙ ap (last_end (last_end node.from (take at node.children))) (sym are)
              ∙ place.end
              ∙ ap (λ n. last_end node.from (take n node.children)) (let e : at + gone ≡ at + gone - 1 + 1 = omega arith in e)
              ∙ end_more node.from node.children (at + gone - 1) d inside;
        };
        behind = behind;
      };
      cover = covers;
      fits = le-leb (32 + 8 * words (children_after node.children at gone come)) (512 * g.node_sectors)
          (omega (arith, leb-true _ _ fits, words_after node.children come at gone proper.live within, size));
    }
