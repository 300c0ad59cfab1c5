-- How many more buckets each list may have, once one more has gone there.
use Rattle.std.proofs.Common.{◌≡◌, ◌⊎◌, inl, inr, ℕ, suc, ◌+◌, ◌-◌, ◌<◌, ◌≤◌, Bool, true, false, List, [], ◌∷◌, ◌++◌, length, get_or, take, Option, Some, None, refl, sym, ap, ◌∙◌, subst, arith}
use Rattle.std.specs.Prelude.{if◌then◌else◌, map, min}
use Rattle.std.proofs.lemmas.Bool.{cases_lt}
use Rattle.std.proofs.lemmas.List.{take_all, take_more}
use borrow.Author.Tests.{ltb-true}
use Rattle.bc_alloc.specs.Reserve.{Reserve, appended, free, has_room, no_reserve}
use Rattle.bc_alloc.specs.Reserves.{returned_all, stored, stored_all}
use Rattle.bc_alloc.specs.declared.purpose.Purpose.{Purpose}
use Rattle.bc_alloc.specs.declared.purpose.Purpose.TheVariants as list
use Rattle.bc_raise.proofs.of_bc_renew.Goes.{four_of, one_less, room_no, room_yes}
use Rattle.bc_raise.specs.bc_renew.Goes.{goes_to, listings}
use Rattle.bc_ready.specs.Free.{AreFree}
use Rattle.bc_ready.specs.declared.plan.Free.{Free}

-- ---- where the next one goes

-- so many are free, once the next one has gone where it goes
abbrev pub Next : Option Purpose → Free → List Reserve → ℕ → Type 0
Next o f ls k = (o ≡ goes_to ls) × AreFree f (stored k ls)

-- a list of four, of which the first ones have no room
module _ (f : Free) (k : ℕ) (a b c d : Reserve) (h : AreFree f (a ∷ b ∷ c ∷ d ∷ [])) where
  abbrev rest_b : Option Purpose
  rest_b = if has_room b then Some list.Moving
      else (if has_room c then Some list.Tree else (if has_room d then Some list.Plain else None))

  abbrev rest_c : Option Purpose
  rest_c = if has_room c then Some list.Tree else (if has_room d then Some list.Plain else None)

  to_first : 0 < f.priorities → Next (Some list.Priorities)
      (record f { priorities = f.priorities - 1 }) (a ∷ b ∷ c ∷ d ∷ []) k
  to_first some =
      let is = h.priorities in
      subst (λ x. (Some list.Priorities ≡ (if x then Some list.Priorities else rest_b))
      × AreFree (record f { priorities = f.priorities - 1 })
      (if x then appended k a ∷ b ∷ c ∷ d ∷ [] else a ∷ stored k (b ∷ c ∷ d ∷ [])))
      (sym (room_yes a (omega (arith, some, is)))) (
        refl,
        record {
          four = refl;
          priorities = let less = one_less a k (omega (arith, some, is)) in
              omega (arith, is, less);
          moving = h.moving;
          tree = h.tree;
          plain = h.plain;
        },
      )

  module _ (none : f.priorities ≡ 0) where
    full_a : has_room a ≡ false
    full_a = room_no a (let is = h.priorities in omega (arith, none, is))

    past_a : (o : Option Purpose) (g : Free) → (o ≡ rest_b)
        × AreFree g (a ∷ stored k (b ∷ c ∷ d ∷ [])) → Next o g (a ∷ b ∷ c ∷ d ∷ []) k
    past_a o g its = subst (λ x. (o ≡ (if x then Some list.Priorities else rest_b))
        × AreFree g (if x then appended k a ∷ b ∷ c ∷ d ∷ [] else a ∷ stored k (b ∷ c ∷ d ∷ [])))
        (sym full_a) its

    to_second : 0 < f.moving → Next (Some list.Moving) (record f { moving = f.moving - 1 })
        (a ∷ b ∷ c ∷ d ∷ []) k
    to_second some =
        let is = h.moving in
        past_a (Some list.Moving) (record f { moving = f.moving - 1 })
        (subst (λ x. (Some list.Moving ≡ (if x then Some list.Moving else rest_c))
        × AreFree (record f { moving = f.moving - 1 })
        (a ∷ (if x then appended k b ∷ c ∷ d ∷ [] else b ∷ stored k (c ∷ d ∷ []))))
        (sym (room_yes b (omega (arith, some, is)))) (
          refl,
          record {
            four = refl;
            priorities = h.priorities;
            moving = let less = one_less b k (omega (arith, some, is)) in omega (arith, is, less);
            tree = h.tree;
            plain = h.plain;
          },
        ))

    module _ (none_b : f.moving ≡ 0) where
      full_b : has_room b ≡ false
      full_b = room_no b (let is = h.moving in omega (arith, none_b, is))

      past_b : (o : Option Purpose) (g : Free) → (o ≡ rest_c)
          × AreFree g (a ∷ b ∷ stored k (c ∷ d ∷ [])) → Next o g (a ∷ b ∷ c ∷ d ∷ []) k
      past_b o g its = past_a o g
          (subst (λ x. (o ≡ (if x then Some list.Moving else rest_c))
          × AreFree g (a ∷ (if x then appended k b ∷ c ∷ d ∷ [] else b ∷ stored k (c ∷ d ∷ []))))
          (sym full_b) its)

      to_third : 0 < f.tree → Next (Some list.Tree) (record f { tree = f.tree - 1 })
          (a ∷ b ∷ c ∷ d ∷ []) k
      to_third some =
          let is = h.tree in
          past_b (Some list.Tree) (record f { tree = f.tree - 1 })
          (subst (λ x. (Some list.Tree ≡ (if x then Some list.Tree
          else (if has_room d then Some list.Plain else None)))
          × AreFree (record f { tree = f.tree - 1 })
          (a ∷ b ∷ (if x then appended k c ∷ d ∷ [] else c ∷ stored k (d ∷ []))))
          (sym (room_yes c (omega (arith, some, is)))) (
            refl,
            record {
              four = refl;
              priorities = h.priorities;
              moving = h.moving;
              tree = let less = one_less c k (omega (arith, some, is)) in omega (arith, is, less);
              plain = h.plain;
            },
          ))

      module _ (none_c : f.tree ≡ 0) where
        full_c : has_room c ≡ false
        full_c = room_no c (let is = h.tree in omega (arith, none_c, is))

        past_c : (o : Option Purpose) (g : Free)
            → (o ≡ (if has_room d then Some list.Plain else None))
            × AreFree g (a ∷ b ∷ c ∷ stored k (d ∷ [])) → Next o g (a ∷ b ∷ c ∷ d ∷ []) k
        past_c o g its = past_b o g (subst (λ x. (o ≡ (if x then Some list.Tree
            else (if has_room d then Some list.Plain else None)))
            × AreFree g (a ∷ b ∷ (if x then appended k c ∷ d ∷ [] else c ∷ stored k (d ∷ []))))
            (sym full_c) its)

        to_fourth : 0 < f.plain → Next (Some list.Plain) (record f { plain = f.plain - 1 })
            (a ∷ b ∷ c ∷ d ∷ []) k
        to_fourth some =
            let is = h.plain in
            past_c (Some list.Plain) (record f { plain = f.plain - 1 })
            (subst (λ x. (Some list.Plain ≡ (if x then Some list.Plain else None))
            × AreFree (record f { plain = f.plain - 1 })
            (a ∷ b ∷ c ∷ (if x then appended k d ∷ [] else d ∷ [])))
            (sym (room_yes d (omega (arith, some, is)))) (
              refl,
              record {
                four = refl;
                priorities = h.priorities;
                moving = h.moving;
                tree = h.tree;
                plain = let less = one_less d k (omega (arith, some, is)) in
                    omega (arith, is, less);
              },
            ))

        to_none : f.plain ≡ 0 → Next None f (a ∷ b ∷ c ∷ d ∷ []) k
        to_none none_d =
            let is = h.plain in
            past_c None f (subst (λ x. (None ≡ (if x then Some list.Plain else None))
            × AreFree f (a ∷ b ∷ c ∷ (if x then appended k d ∷ [] else d ∷ [])))
            (sym (room_no d (omega (arith, none_d, is)))) (refl, h))

module _ (f : Free) (ls : List Reserve) (k : ℕ) (h : AreFree f ls) where
  by_four : (P : List Reserve → Type 0)
      → ((a b c d : Reserve) → AreFree f (a ∷ b ∷ c ∷ d ∷ []) → P (a ∷ b ∷ c ∷ d ∷ [])) → P ls
  by_four P each = let four = four_of ls h.four in subst P (sym four.are)
      (each four.a four.b four.c four.d (subst (AreFree f) four.are h))

  pub next_first : 0 < f.priorities
      → Next (Some list.Priorities) (record f { priorities = f.priorities - 1 }) ls k
  next_first some = by_four
      (λ xs. Next (Some list.Priorities) (record f { priorities = f.priorities - 1 }) xs k)
      (λ a b c d its. to_first f k a b c d its some)

  pub next_second : f.priorities ≡ 0 → 0 < f.moving
      → Next (Some list.Moving) (record f { moving = f.moving - 1 }) ls k
  next_second none some = by_four
      (λ xs. Next (Some list.Moving) (record f { moving = f.moving - 1 }) xs k)
      (λ a b c d its. to_second f k a b c d its none some)

  pub next_third : f.priorities ≡ 0 → f.moving ≡ 0 → 0 < f.tree
      → Next (Some list.Tree) (record f { tree = f.tree - 1 }) ls k
  next_third none none_b some = by_four
      (λ xs. Next (Some list.Tree) (record f { tree = f.tree - 1 }) xs k)
      (λ a b c d its. to_third f k a b c d its none none_b some)

  pub next_fourth : f.priorities ≡ 0 → f.moving ≡ 0 → f.tree ≡ 0 → 0 < f.plain
      → Next (Some list.Plain) (record f { plain = f.plain - 1 }) ls k
  next_fourth none none_b none_c some = by_four
      (λ xs. Next (Some list.Plain) (record f { plain = f.plain - 1 }) xs k)
      (λ a b c d its. to_fourth f k a b c d its none none_b none_c some)

  pub next_none : f.priorities ≡ 0 → f.moving ≡ 0 → f.tree ≡ 0 → f.plain ≡ 0 → Next None f ls k
  next_none none none_b none_c none_d = by_four (λ xs. Next None f xs k)
      (λ a b c d its. to_none f k a b c d its none none_b none_c none_d)

-- ---- behind what goes back

full_room : (l : Reserve) → has_room l ≡ false → l.room ≤ length l.buckets
full_room l is = go (cases_lt (length l.buckets) l.room)
  where
    go : (length l.buckets < l.room) ⊎ (l.room ≤ length l.buckets) → l.room ≤ length l.buckets
    go (inl less) = absurd (let some = room_yes l (omega (arith, less)) in
        let x : true ≡ false = sym some ∙ is in cc)
    go (inr all) = all

room_some : (l : Reserve) → has_room l ≡ true → 0 < free l
room_some l some = let less = ltb-true (length l.buckets) l.room some in omega (arith, less)

-- the other lists stay, and the list priorities has that much less room
pub free_returned : (ks : List ℕ) (a b c d : Reserve) → let ls = returned_all ks (a ∷ b ∷ c ∷ d ∷
    []) in
    AreFree (record {
      priorities = free a - length ks;
      moving = free b;
      tree = free c;
      plain = free d;
    }) ls
free_returned [] a b c d = record {
  four = refl;
  priorities = omega arith;
  moving = refl;
  tree = refl;
  plain = refl;
}
free_returned (k ∷ ks) a b c d =
    go (has_room a) refl (free_returned ks (appended k a) b c d) (free_returned ks a b c d)
  where
    go : (x : Bool) → has_room a ≡ x
        → AreFree (record {
          priorities = free (appended k a) - length ks;
          moving = free b;
          tree = free c;
          plain = free d;
        }) (returned_all ks (appended k a ∷ b ∷ c ∷ d ∷ []))
        → AreFree (record {
          priorities = free a - length ks;
          moving = free b;
          tree = free c;
          plain = free d;
        }) (returned_all ks (a ∷ b ∷ c ∷ d ∷ []))
        → AreFree (record {
          priorities = free a - suc (length ks);
          moving = free b;
          tree = free c;
          plain = free d;
        }) (returned_all ks ((if has_room a then appended k a else a) ∷ b ∷ c ∷ d ∷ []))
    go true is more full = subst (λ x. AreFree (record {
      priorities = free a - suc (length ks);
      moving = free b;
      tree = free c;
      plain = free d;
    }) (returned_all ks ((if x then appended k a else a) ∷ b ∷ c ∷ d ∷ []))) (sym is) (record {
      four = more.four;
      priorities =
          let less = one_less a k (room_some a is) in
          let was = more.priorities in omega (arith, less, was);
      moving = more.moving;
      tree = more.tree;
      plain = more.plain;
    })
    go false is more full = subst (λ x. AreFree (record {
      priorities = free a - suc (length ks);
      moving = free b;
      tree = free c;
      plain = free d;
    }) (returned_all ks ((if x then appended k a else a) ∷ b ∷ c ∷ d ∷ []))) (sym is) (record {
      four = full.four;
      priorities =
          let none = full_room a is in
          let was = full.priorities in omega (arith, none, was);
      moving = full.moving;
      tree = full.tree;
      plain = full.plain;
    })

pub free_behind : (f : Free) (ls : List Reserve) (ks : List ℕ) → length ls ≡ 4
    → f.priorities ≡ free (get_or ls 0 no_reserve) - length ks
    → f.moving ≡ free (get_or ls 1 no_reserve) → f.tree ≡ free (get_or ls 2 no_reserve)
    → f.plain ≡ free (get_or ls 3 no_reserve) → AreFree f (returned_all ks ls)
free_behind f ls ks four one two three last =
    let of = four_of ls four in
    let a = ap (λ xs. free (get_or xs 0 no_reserve)) of.are in
    let b = ap (λ xs. free (get_or xs 1 no_reserve)) of.are in
    let c = ap (λ xs. free (get_or xs 2 no_reserve)) of.are in
    let d = ap (λ xs. free (get_or xs 3 no_reserve)) of.are in
    let its = free_returned ks of.a of.b of.c of.d in
    subst (λ xs. AreFree f (returned_all ks xs)) (sym of.are) (record {
      four = its.four;
      priorities = let is = its.priorities in omega (arith, one, a, is);
      moving = two ∙ b ∙ its.moving;
      tree = three ∙ c ∙ its.tree;
      plain = last ∙ d ∙ its.plain;
    })

-- ---- the loops

-- as many as there are, or as are asked for
pub take_up_to : (m n : ℕ) (ks : List ℕ) → m ≡ min (length ks) n → take m ks ≡ take n ks
take_up_to m n ks is = go (cases_lt n (length ks))
  where
    go : (n < length ks) ⊎ (length ks ≤ n) → take m ks ≡ take n ks
    go (inl less) = ap (λ i. take i ks) (let e : m ≡ n = omega (arith, is, less) in e)
    go (inr all) = take_all m ks (omega (arith, is, all)) ∙ sym (take_all n ks all)

map_more : (before : ℕ) (ks : List ℕ) (k : ℕ)
    → map (λ n. n - before) (ks ++ k ∷ []) ≡ map (λ n. n - before) ks ++ (k - before) ∷ []
map_more before [] k = refl
map_more before (x ∷ ks) k = ap (λ ns. (x - before) ∷ ns) (map_more before ks k)

pub back_more : (before : ℕ) (ks : List ℕ) (i : ℕ) → i < length ks
    → map (λ n. n - before) (take (i + 1) ks)
    ≡ map (λ n. n - before) (take i ks) ++ (get_or ks i 0 - before) ∷ []
back_more before ks i below = ap (map (λ n. n - before)) (take_more ks i 0 below)
    ∙ map_more before (take i ks) (get_or ks i 0)

listings_append : (before : ℕ) (ks : List ℕ) (k : ℕ) (ls : List Reserve)
    → listings before (ks ++ k ∷ []) ls ≡ listings before ks ls
    ++ record { bucket = k - before; list = goes_to (stored_all ks ls) } ∷ []
listings_append before [] k ls = refl
listings_append before (x ∷ ks) k ls =
    ap (λ xs. record { bucket = x - before; list = goes_to ls } ∷ xs)
    (listings_append before ks k (stored x ls))

pub listings_more : (before : ℕ) (ks : List ℕ) (i : ℕ) (ls : List Reserve) → i < length ks
    → listings before (take (i + 1) ks) ls ≡ listings before (take i ks) ls
    ++ record { bucket = get_or ks i 0 - before; list = goes_to (stored_all (take i ks) ls) } ∷ []
listings_more before ks i ls below = ap (λ xs. listings before xs ls) (take_more ks i 0 below)
    ∙ listings_append before (take i ks) (get_or ks i 0) ls
