-- To which of the four lists a bucket goes, and what that leaves of them.
use Rattle.std.proofs.Common.{◌≡◌, ◌≢◌, ◌⊎◌, inl, inr, ℕ, suc, ◌+◌, ◌<◌, Bool, true, false, List, [], ◌∷◌, length, Option, Some, None, refl, sym, ap, subst, arith}
use Rattle.std.specs.Prelude.{if◌then◌else◌, nat_lt, slice_index_or}
use Rattle.std.proofs.lemmas.Bool.{lt-ltb}
use Rattle.std.proofs.lemmas.List.{length_push}
use borrow.Author.Tests.{ltb-true}
use Rattle.bc_alloc.specs.Reserve.{Reserve, appended, free, has_room, no_reserve, times}
use Rattle.bc_alloc.specs.Reserves.{place_of, returned, stored}
use Rattle.bc_alloc.specs.declared.purpose.Purpose.{Purpose}
use Rattle.bc_alloc.specs.declared.purpose.Purpose.TheVariants as list
use Rattle.bc_alloc.proofs.Times.{times-append}
use Rattle.bc_events.specs.Acts.{purpose_of}
use Rattle.bc_renew.specs.Goes.{first_list, goes_to}

-- the list of a purpose
abbrev pub list_in : Purpose → List Reserve → List ℕ
list_in p ls = (slice_index_or ls (place_of p) no_reserve).buckets

-- four lists
pub record FourOf (ls : List Reserve) : Type 0 where
  pub a : Reserve
  pub b : Reserve
  pub c : Reserve
  pub d : Reserve
  pub are : ls ≡ a ∷ b ∷ c ∷ d ∷ []

pub four_of : (ls : List Reserve) → length ls ≡ 4 → FourOf ls
four_of [] four = absurd (omega (arith, four))
four_of (a ∷ []) four = absurd (omega (arith, four))
four_of (a ∷ b ∷ []) four = absurd (omega (arith, four))
four_of (a ∷ b ∷ c ∷ []) four = absurd (omega (arith, four))
four_of (a ∷ b ∷ c ∷ d ∷ []) four = record { a = a; b = b; c = c; d = d; are = refl }
four_of (a ∷ b ∷ c ∷ d ∷ e ∷ ls) four = absurd (omega (arith, four))

-- ---- room

pub room_yes : (l : Reserve) → 0 < free l → has_room l ≡ true
room_yes l some = lt-ltb (length l.buckets) l.room (omega (arith, some))

pub room_no : (l : Reserve) → free l ≡ 0 → has_room l ≡ false
room_no l none = go (nat_lt (length l.buckets) l.room) refl
  where
    go : (b : Bool) → nat_lt (length l.buckets) l.room ≡ b → nat_lt (length l.buckets) l.room ≡
        false
    go false is = is
    go true is = absurd (let less = ltb-true (length l.buckets) l.room is in omega (
      arith,
      less,
      none,
    ))

pub one_less : (l : Reserve) (k : ℕ) → 0 < free l → free (appended k l) + 1 ≡ free l
one_less l k some = let long = length_push l.buckets k in omega (arith, some, long)

-- ---- what is on a list then

-- the bucket is at the end of this list, and the others are as before
pub record HasGone (n : ℕ) (ls ms : List Reserve) (o : Option Purpose) : Type 0 where
  pub there : (p : Purpose) → o ≡ Some p → (j : ℕ)
      → times j (list_in p ms) ≡ times j (list_in p ls) + times j (n ∷ [])
  pub else_ : (p : Purpose) → (o ≡ Some p → ⊥) → list_in p ms ≡ list_in p ls

at_end : (n : ℕ) (l : Reserve) (j : ℕ)
    → times j (appended n l).buckets ≡ times j l.buckets + times j (n ∷ [])
at_end n l j = times-append j l.buckets (n ∷ [])

-- no list is another one
other : {p r : Purpose} → (p ≡ r → ⊥) → Some p ≡ Some r → ⊥
other ne e = ne cc

nowhere : (n : ℕ) (ls : List Reserve) → HasGone n ls ls None
nowhere n ls = record { there = λ p e. absurd (cc); else_ = λ p never. refl }

pub gone_nowhere : (n : ℕ) (ls : List Reserve) → HasGone n ls ls None
gone_nowhere n ls = nowhere n ls

module _ (n : ℕ) (a b c d : Reserve) where
  to_first : HasGone n (a ∷ b ∷ c ∷ d ∷ []) (appended n a ∷ b ∷ c ∷ d ∷ []) (Some list.Priorities)
  to_first = record { there = there_; else_ = else__ }
    where
      there_ : (p : Purpose) → Some list.Priorities ≡ Some p → (j : ℕ)
          → times j (list_in p (appended n a ∷ b ∷ c ∷ d ∷ []))
          ≡ times j (list_in p (a ∷ b ∷ c ∷ d ∷ [])) + times j (n ∷ [])
      there_ list.Priorities e j = at_end n a j
      there_ list.Moving e j = absurd (cc)
      there_ list.Tree e j = absurd (cc)
      there_ list.Plain e j = absurd (cc)

      else__ : (p : Purpose) → (Some list.Priorities ≡ Some p → ⊥)
          → list_in p (appended n a ∷ b ∷ c ∷ d ∷ []) ≡ list_in p (a ∷ b ∷ c ∷ d ∷ [])
      else__ list.Priorities never = absurd (never refl)
      else__ list.Moving never = refl
      else__ list.Tree never = refl
      else__ list.Plain never = refl

  to_second : HasGone n (a ∷ b ∷ c ∷ d ∷ []) (a ∷ appended n b ∷ c ∷ d ∷ []) (Some list.Moving)
  to_second = record { there = there_; else_ = else__ }
    where
      there_ : (p : Purpose) → Some list.Moving ≡ Some p → (j : ℕ)
          → times j (list_in p (a ∷ appended n b ∷ c ∷ d ∷ []))
          ≡ times j (list_in p (a ∷ b ∷ c ∷ d ∷ [])) + times j (n ∷ [])
      there_ list.Priorities e j = absurd (cc)
      there_ list.Moving e j = at_end n b j
      there_ list.Tree e j = absurd (cc)
      there_ list.Plain e j = absurd (cc)

      else__ : (p : Purpose) → (Some list.Moving ≡ Some p → ⊥)
          → list_in p (a ∷ appended n b ∷ c ∷ d ∷ []) ≡ list_in p (a ∷ b ∷ c ∷ d ∷ [])
      else__ list.Priorities never = refl
      else__ list.Moving never = absurd (never refl)
      else__ list.Tree never = refl
      else__ list.Plain never = refl

  to_third : HasGone n (a ∷ b ∷ c ∷ d ∷ []) (a ∷ b ∷ appended n c ∷ d ∷ []) (Some list.Tree)
  to_third = record { there = there_; else_ = else__ }
    where
      there_ : (p : Purpose) → Some list.Tree ≡ Some p → (j : ℕ)
          → times j (list_in p (a ∷ b ∷ appended n c ∷ d ∷ []))
          ≡ times j (list_in p (a ∷ b ∷ c ∷ d ∷ [])) + times j (n ∷ [])
      there_ list.Priorities e j = absurd (cc)
      there_ list.Moving e j = absurd (cc)
      there_ list.Tree e j = at_end n c j
      there_ list.Plain e j = absurd (cc)

      else__ : (p : Purpose) → (Some list.Tree ≡ Some p → ⊥)
          → list_in p (a ∷ b ∷ appended n c ∷ d ∷ []) ≡ list_in p (a ∷ b ∷ c ∷ d ∷ [])
      else__ list.Priorities never = refl
      else__ list.Moving never = refl
      else__ list.Tree never = absurd (never refl)
      else__ list.Plain never = refl

  to_fourth : HasGone n (a ∷ b ∷ c ∷ d ∷ []) (a ∷ b ∷ c ∷ appended n d ∷ []) (Some list.Plain)
  to_fourth = record { there = there_; else_ = else__ }
    where
      there_ : (p : Purpose) → Some list.Plain ≡ Some p → (j : ℕ)
          → times j (list_in p (a ∷ b ∷ c ∷ appended n d ∷ []))
          ≡ times j (list_in p (a ∷ b ∷ c ∷ d ∷ [])) + times j (n ∷ [])
      there_ list.Priorities e j = absurd (cc)
      there_ list.Moving e j = absurd (cc)
      there_ list.Tree e j = absurd (cc)
      there_ list.Plain e j = at_end n d j

      else__ : (p : Purpose) → (Some list.Plain ≡ Some p → ⊥)
          → list_in p (a ∷ b ∷ c ∷ appended n d ∷ []) ≡ list_in p (a ∷ b ∷ c ∷ d ∷ [])
      else__ list.Priorities never = refl
      else__ list.Moving never = refl
      else__ list.Tree never = refl
      else__ list.Plain never = absurd (never refl)

  abbrev lists : List Reserve
  lists = a ∷ b ∷ c ∷ d ∷ []

  -- the first of them that has room
  gone_by : (ra rb rc rd : Bool) → has_room a ≡ ra → has_room b ≡ rb → has_room c ≡ rc
      → has_room d ≡ rd → HasGone n lists (stored n lists) (goes_to lists)
  gone_by true rb rc rd ia ib ic id_ = subst (λ x. HasGone n lists
      (if x then appended n a ∷ b ∷ c ∷ d ∷ [] else a ∷ stored n (b ∷ c ∷ d ∷ []))
      (if x then Some list.Priorities else (if has_room b then Some list.Moving
      else (if has_room c then Some list.Tree else (if has_room d then Some list.Plain else
      None)))))
      (sym ia) to_first
  gone_by false true rc rd ia ib ic id_ = subst (λ x. HasGone n lists
      (if x then appended n a ∷ b ∷ c ∷ d ∷ [] else a ∷ stored n (b ∷ c ∷ d ∷ []))
      (if x then Some list.Priorities else (if has_room b then Some list.Moving
      else (if has_room c then Some list.Tree else (if has_room d then Some list.Plain else
      None)))))
      (sym ia)
      (subst (λ x. HasGone n lists
      (a ∷ (if x then appended n b ∷ c ∷ d ∷ [] else b ∷ stored n (c ∷ d ∷ [])))
      (if x then Some list.Moving else (if has_room c then Some list.Tree
      else (if has_room d then Some list.Plain else None)))) (sym ib) to_second)
  gone_by false false true rd ia ib ic id_ = subst (λ x. HasGone n lists
      (if x then appended n a ∷ b ∷ c ∷ d ∷ [] else a ∷ stored n (b ∷ c ∷ d ∷ []))
      (if x then Some list.Priorities else (if has_room b then Some list.Moving
      else (if has_room c then Some list.Tree else (if has_room d then Some list.Plain else
      None)))))
      (sym ia)
      (subst (λ x. HasGone n lists
      (a ∷ (if x then appended n b ∷ c ∷ d ∷ [] else b ∷ stored n (c ∷ d ∷ [])))
      (if x then Some list.Moving else (if has_room c then Some list.Tree
      else (if has_room d then Some list.Plain else None)))) (sym ib)
      (subst (λ x. HasGone n lists
      (a ∷ b ∷ (if x then appended n c ∷ d ∷ [] else c ∷ stored n (d ∷ [])))
      (if x then Some list.Tree else (if has_room d then Some list.Plain else None))) (sym ic)
      to_third))
  gone_by false false false true ia ib ic id_ = subst (λ x. HasGone n lists
      (if x then appended n a ∷ b ∷ c ∷ d ∷ [] else a ∷ stored n (b ∷ c ∷ d ∷ []))
      (if x then Some list.Priorities else (if has_room b then Some list.Moving
      else (if has_room c then Some list.Tree else (if has_room d then Some list.Plain else
      None)))))
      (sym ia)
      (subst (λ x. HasGone n lists
      (a ∷ (if x then appended n b ∷ c ∷ d ∷ [] else b ∷ stored n (c ∷ d ∷ [])))
      (if x then Some list.Moving else (if has_room c then Some list.Tree
      else (if has_room d then Some list.Plain else None)))) (sym ib)
      (subst (λ x. HasGone n lists
      (a ∷ b ∷ (if x then appended n c ∷ d ∷ [] else c ∷ stored n (d ∷ [])))
      (if x then Some list.Tree else (if has_room d then Some list.Plain else None))) (sym ic)
      (subst (λ x. HasGone n lists (a ∷ b ∷ c ∷ (if x then appended n d ∷ [] else d ∷ []))
      (if x then Some list.Plain else None)) (sym id_) to_fourth)))
  gone_by false false false false ia ib ic id_ = subst (λ x. HasGone n lists
      (if x then appended n a ∷ b ∷ c ∷ d ∷ [] else a ∷ stored n (b ∷ c ∷ d ∷ []))
      (if x then Some list.Priorities else (if has_room b then Some list.Moving
      else (if has_room c then Some list.Tree else (if has_room d then Some list.Plain else
      None)))))
      (sym ia)
      (subst (λ x. HasGone n lists
      (a ∷ (if x then appended n b ∷ c ∷ d ∷ [] else b ∷ stored n (c ∷ d ∷ [])))
      (if x then Some list.Moving else (if has_room c then Some list.Tree
      else (if has_room d then Some list.Plain else None)))) (sym ib)
      (subst (λ x. HasGone n lists
      (a ∷ b ∷ (if x then appended n c ∷ d ∷ [] else c ∷ stored n (d ∷ [])))
      (if x then Some list.Tree else (if has_room d then Some list.Plain else None))) (sym ic)
      (subst (λ x. HasGone n lists (a ∷ b ∷ c ∷ (if x then appended n d ∷ [] else d ∷ []))
      (if x then Some list.Plain else None)) (sym id_) (nowhere n lists))))

  -- the list priorities, if it has room
  back_by : (ra : Bool) → HasGone n lists ((if ra then appended n a else a) ∷ b ∷ c ∷ d ∷ [])
      (if ra then Some list.Priorities else None)
  back_by true = to_first
  back_by false = nowhere n lists

pub gone_stored : (n : ℕ) (ls : List Reserve) → length ls ≡ 4
    → HasGone n ls (stored n ls) (goes_to ls)
gone_stored n ls four = let f = four_of ls four in
    subst (λ xs. HasGone n xs (stored n xs) (goes_to xs)) (sym f.are)
    (gone_by n f.a f.b f.c f.d (has_room f.a) (has_room f.b) (has_room f.c) (has_room f.d) refl refl
    refl refl)

pub gone_returned : (n : ℕ) (ls : List Reserve) → length ls ≡ 4
    → HasGone n ls (returned n ls) (if has_room (first_list ls) then Some list.Priorities else None)
gone_returned n ls four = let f = four_of ls four in
    subst (λ xs. HasGone n xs (returned n xs)
    (if has_room (first_list xs) then Some list.Priorities else None)) (sym f.are)
    (back_by n f.a f.b f.c f.d (has_room f.a))

-- ---- there are still four

pub stored_four : (n : ℕ) (ls : List Reserve) → length (stored n ls) ≡ length ls
stored_four n [] = refl
stored_four n (l ∷ ls) = go (has_room l) (stored_four n ls)
  where
    go : (b : Bool) → length (stored n ls) ≡ length ls
        → length (if b then appended n l ∷ ls else l ∷ stored n ls) ≡ suc (length ls)
    go true rest = refl
    go false rest = ap suc rest

pub returned_four : (n : ℕ) (ls : List Reserve) → length (returned n ls) ≡ length ls
returned_four n [] = refl
returned_four n (l ∷ ls) = refl

-- ---- purposes

-- two purposes are one, or those of two lists of the core
pub same_list : (p r : Purpose) → (p ≡ r) ⊎ (purpose_of p ≢ purpose_of r)
same_list list.Priorities list.Priorities = inl refl
same_list list.Priorities list.Moving = inr (λ e. absurd (cc))
same_list list.Priorities list.Tree = inr (λ e. absurd (cc))
same_list list.Priorities list.Plain = inr (λ e. absurd (cc))
same_list list.Moving list.Priorities = inr (λ e. absurd (cc))
same_list list.Moving list.Moving = inl refl
same_list list.Moving list.Tree = inr (λ e. absurd (cc))
same_list list.Moving list.Plain = inr (λ e. absurd (cc))
same_list list.Tree list.Priorities = inr (λ e. absurd (cc))
same_list list.Tree list.Moving = inr (λ e. absurd (cc))
same_list list.Tree list.Tree = inl refl
same_list list.Tree list.Plain = inr (λ e. absurd (cc))
same_list list.Plain list.Priorities = inr (λ e. absurd (cc))
same_list list.Plain list.Moving = inr (λ e. absurd (cc))
same_list list.Plain list.Tree = inr (λ e. absurd (cc))
same_list list.Plain list.Plain = inl refl
