-- A chain is made ready: the buckets of the one before and of the next one are put where they go,
-- and the list priorities has as many as a chain asks for.
use Rattle.std.proofs.Common.{◌≡◌, ◌≢◌, ◌⊎◌, inl, inr, ℕ, zero, suc, ◌+◌, ◌-◌, ◌<◌, ◌≤◌, ◌==◌, Bool, true, false, List, [], ◌∷◌, length, get_or, Option, Some, None, refl, sym, ap, ◌∙◌, subst, arith}
use Rattle.std.specs.Prelude.{if◌then◌else◌, map, take}
use Rattle.std.proofs.lemmas.Bool.{cases_eq, cases_lt}
use Rattle.std.proofs.lemmas.List.{length_push}
use Rattle.bc_alloc.proofs.Loops.{there}
use Rattle.bc_alloc.proofs.Times.{by_test, times-append, times-cons}
use Rattle.bc_alloc.specs.Reserve.{IsDistinct, Reserve, appended, free, has_room, times}
use Rattle.bc_alloc.specs.Reserves.{returned, returned_all}
use Rattle.bc_alloc.specs.declared.purpose.Purpose.TheVariants as list
use Rattle.bc_books.specs.After as books
use Rattle.bc_books.specs.After.{mark_at_ready}
use Rattle.bc_books.specs.Books.{Books, ReadyChain, Setup}
use Rattle.bc_books.specs.Chains.{Many, at_ready}
use Rattle.bc_books.specs.Marks.{Metadata, Unmarked}
use Rattle.bc_books.specs.Shelves.{Loose, back}
use Rattle.bc_leaves.specs.After.{has}
use Rattle.bc_places.proofs.Lists.{counted, first_in}
use Rattle.bc_places.specs.Stands.{AreJust}
use Rattle.bc_renew.specs.Goes.{first_list}
use Rattle.bc_renew.proofs.All.{AreRoomy, all_placed, apart_from, back_to, in_rest, not_first, placed_else, placed_there, rest_distinct}
use Rattle.bc_renew.proofs.Goes.{one_less, room_no, room_yes}
use Rattle.bc_renew.proofs.Put.{goes}

-- ---- the books

-- the buckets of a chain are just these
abbrev pub AreOf : (before : ℕ) → Books → List ℕ → ℕ → Type 0
AreOf before k ks c = AreJust before ks (λ q. k.chains.of q ≡ Some c)

module _ (w : Setup) (k : Books) (before : ℕ) (old new : List ℕ) (room : ℕ → Bool)
    (old_of : AreOf before k old k.chains.ready) (new_of : AreOf before k new (suc k.chains.ready))
    (old_distinct : IsDistinct old) (new_distinct : IsDistinct new) where
  -- with the next chain let go and marked
  abbrev pub let_go : Books
  let_go = all_placed before Metadata (λ q. None) new k

  -- and the chain before given back
  abbrev pub put_back : Books
  put_back = all_placed before Unmarked (back_to room) old let_go

  abbrev pub real : Books
  real = books.after w k (ReadyChain room)

  none_of : (ks : List ℕ) (c q : ℕ) → AreOf before k ks c → (k.chains.of q ≡ Some c → ⊥)
      → times (before + q) ks ≡ 0
  none_of ks c q are never = go (cases_lt 0 (times (before + q) ks))
    where
      go : (0 < times (before + q) ks) ⊎ (times (before + q) ks ≤ 0) → times (before + q) ks ≡ 0
      go (inl some) = absurd (never (are.each q some))
      go (inr none) = omega (arith, none)

  back_goes : (b : Bool) → goes (if b then Some list.Priorities else None) ≡ back b
  back_goes true = refl
  back_goes false = refl

  abbrev Alike : ℕ → Type 0
  Alike q = (put_back.mark q ≡ real.mark q) × (put_back.shelf q ≡ real.shelf q)

  -- of neither chain
  untouched : (q : ℕ) → (k.chains.of q ≡ Some k.chains.ready → ⊥)
      → (k.chains.of q ≡ Some (suc k.chains.ready) → ⊥)
      → (put_back.mark q ≡ k.mark q) × (put_back.shelf q ≡ k.shelf q)
  untouched q no_old no_new =
      let one = placed_else before Unmarked (back_to room) old let_go q old_of.behind
      (none_of old k.chains.ready q old_of no_old) in
      let two = placed_else before Metadata (λ q. None) new k q new_of.behind
      (none_of new (suc k.chains.ready) q new_of no_new) in
      (one.0 ∙ two.0, one.1 ∙ two.1)

  by_chain : (q : ℕ) (o : Option ℕ) → k.chains.of q ≡ o
      → (put_back.mark q ≡ mark_at_ready k.chains.ready o (k.mark q))
      × (put_back.shelf q ≡ at_ready k.chains.ready o (room q) (k.shelf q))
  by_chain q None is =
      untouched q (λ e. absurd (let x = sym is ∙ e in cc)) (λ e. absurd (let x = sym is ∙ e in cc))
  by_chain q (Some c) is = go (cases_eq c k.chains.ready) (cases_eq c (suc k.chains.ready))
    where
      Goal : Type 0
      Goal = (put_back.mark q ≡ mark_at_ready k.chains.ready (Some c) (k.mark q))
          × (put_back.shelf q ≡ at_ready k.chains.ready (Some c) (room q) (k.shelf q))

      go : (c ≡ k.chains.ready) ⊎ (c ≢ k.chains.ready)
          → (c ≡ suc k.chains.ready) ⊎ (c ≢ suc k.chains.ready)
          → (put_back.mark q ≡ mark_at_ready k.chains.ready (Some c) (k.mark q))
          × (put_back.shelf q ≡ at_ready k.chains.ready (Some c) (room q) (k.shelf q))
      go (inl e) x =
          let its = placed_there before Unmarked (back_to room) old let_go q old_distinct
          old_of.behind (old_of.all q (is ∙ ap Some e)) in
          by_test c k.chains.ready (λ b.
          (put_back.mark q ≡ (if b then Unmarked
          else (if c == suc k.chains.ready then Metadata else k.mark q)))
          × (put_back.shelf q ≡ (if b then back (room q)
          else (if c == suc k.chains.ready then Loose else k.shelf q))))
          (λ _. (its.0, its.1 ∙ back_goes (room q))) (λ ne. absurd (ne e))
      go (inr ne) (inl e) =
          let other : k.chains.of q ≡ Some k.chains.ready → ⊥
          = λ f. ne (let x : Some c ≡ Some k.chains.ready = sym is ∙ f in cc) in
          let one = placed_else before Unmarked (back_to room) old let_go q old_of.behind
          (none_of old k.chains.ready q old_of other) in
          let two = placed_there before Metadata (λ q. None) new k q new_distinct new_of.behind
          (new_of.all q (is ∙ ap Some e)) in
          by_test c k.chains.ready (λ b.
          (put_back.mark q ≡ (if b then Unmarked
          else (if c == suc k.chains.ready then Metadata else k.mark q)))
          × (put_back.shelf q ≡ (if b then back (room q)
          else (if c == suc k.chains.ready then Loose else k.shelf q))))
          (λ f. absurd (ne f)) (λ _. by_test c (suc k.chains.ready) (λ b.
          (put_back.mark q ≡ (if b then Metadata else k.mark q))
          × (put_back.shelf q ≡ (if b then Loose else k.shelf q)))
          (λ _. (one.0 ∙ two.0, one.1 ∙ two.1)) (λ wrong. absurd (wrong e)))
      go (inr ne) (inr nor) =
          let same = untouched q
          (λ f. ne (let x : Some c ≡ Some k.chains.ready = sym is ∙ f in cc))
          (λ f. nor (let x : Some c ≡ Some (suc k.chains.ready) = sym is ∙ f in cc)) in
          by_test c k.chains.ready (λ b.
          (put_back.mark q ≡ (if b then Unmarked
          else (if c == suc k.chains.ready then Metadata else k.mark q)))
          × (put_back.shelf q ≡ (if b then back (room q)
          else (if c == suc k.chains.ready then Loose else k.shelf q))))
          (λ f. absurd (ne f)) (λ _. by_test c (suc k.chains.ready) (λ b.
          (put_back.mark q ≡ (if b then Metadata else k.mark q))
          × (put_back.shelf q ≡ (if b then Loose else k.shelf q)))
          (λ f. absurd (nor f)) (λ _. same))

  pub alike : (q : ℕ) → Alike q
  alike q = by_chain q (k.chains.of q) refl

-- ---- which ones have room

has_there : (q : ℕ) (qs : List ℕ) → has (q ∷ qs) q ≡ true
has_there q qs = by_test q q (λ b. (if b then true else has qs q) ≡ true) (λ _. refl)
    (λ ne. absurd (ne refl))

has_else : (q r : ℕ) (qs : List ℕ) → q ≢ r → has (r ∷ qs) q ≡ has qs q
has_else q r qs ne = by_test q r (λ b. (if b then true else has qs q) ≡ has qs q)
    (λ e. absurd (ne e)) (λ _. refl)

-- a list that had no room stays as it is, and another one has one place less
free_none : (n : ℕ) (ls : List Reserve) → free (first_list ls) ≡ 0
    → free (first_list (returned n ls)) ≡ 0
free_none n [] none = none
free_none n (l ∷ ls) none =
    ap (λ b. free (if b then appended n l else l)) (room_no l none) ∙ none

free_less : (n m : ℕ) (ls : List Reserve) → free (first_list ls) ≡ suc m
    → free (first_list (returned n ls)) ≡ m
free_less n m [] some = absurd (omega (arith, some))
free_less n m (l ∷ ls) some =
    let one = one_less l n (omega (arith, some)) in
    ap (λ b. free (if b then appended n l else l)) (room_yes l (omega (arith, some)))
    ∙ (let is : free (appended n l) ≡ m = omega (arith, one, some) in is)

pub are_roomy : (before m : ℕ) (room : ℕ → Bool) (ks : List ℕ) (ls : List Reserve)
    → free (first_list ls) ≡ m → IsDistinct ks → ((j : ℕ) → 0 < times j ks → before ≤ j)
    → ((j : ℕ) → 0 < times j ks
    → room (j - before) ≡ has (map (λ n. n - before) (take m ks)) (j - before))
    → AreRoomy before room ks ls
are_roomy before m room [] ls is distinct low same = tt
are_roomy before zero room (n ∷ ks) ls is distinct low same = (
  same n (first_in n ks) ∙ sym (room_no (first_list ls) is),
  are_roomy before 0 room ks (returned n ls) (free_none n ls is) (rest_distinct n ks distinct).0
      (λ j some. low j (in_rest j n ks some)) (λ j some. same j (in_rest j n ks some)),
)
are_roomy before (suc m) room (n ∷ ks) ls is distinct low same = (
  same n (first_in n ks) ∙ has_there (n - before) (map (λ n. n - before) (take m ks))
      ∙ sym (room_yes (first_list ls) (omega (arith, is))),
  are_roomy before m room ks (returned n ls) (free_less n m ls is) (rest_distinct n ks distinct).0
      (λ j some. low j (in_rest j n ks some)) (λ j some. same j (in_rest j n ks some)
      ∙ has_else (j - before) (n - before) (map (λ n. n - before) (take m ks))
      (apart_from before j n (low j (in_rest j n ks some)) (low n (first_in n ks))
      (not_first j n ks (rest_distinct n ks distinct).1 some))),
)

-- ---- as many as a chain asks for

no_room : (l : Reserve) → has_room l ≡ false → l.room ≤ length l.buckets
no_room l is = go (cases_lt (length l.buckets) l.room)
  where
    go : (length l.buckets < l.room) ⊎ (l.room ≤ length l.buckets) → l.room ≤ length l.buckets
    go (inl less) = absurd (let some = room_yes l (omega (arith, less)) in
        let x : true ≡ false = sym some ∙ is in cc)
    go (inr all) = all

-- the list priorities is as long as it was and what comes to it, as far as it has room
pub back_long : (m : ℕ) (ks : List ℕ) (ls : List Reserve)
    → m ≤ length (first_list ls).buckets + length ks → m ≤ (first_list ls).room
    → m ≤ length (first_list (returned_all ks ls)).buckets
back_long m [] ls long fits = omega (arith, long)
back_long m (n ∷ ks) [] long fits = absurd_or (omega (arith, fits))
  where
    absurd_or : m ≡ 0 → m ≤ length (first_list (returned_all ks [])).buckets
    absurd_or none = omega (arith, none)
back_long m (n ∷ ks) (l ∷ ls) long fits = go (has_room l) refl
    (λ more. back_long m ks (appended n l ∷ ls) more fits)
    (λ full. back_long m ks (l ∷ ls) full fits)
  where
    go : (b : Bool) → has_room l ≡ b
        → (m ≤ length (appended n l).buckets + length ks
        → m ≤ length (first_list (returned_all ks (appended n l ∷ ls))).buckets)
        → (m ≤ length l.buckets + length ks
        → m ≤ length (first_list (returned_all ks (l ∷ ls))).buckets)
        → m ≤ length (first_list
        (returned_all ks ((if has_room l then appended n l else l) ∷ ls))).buckets
    go true is more full = subst (λ b. m ≤ length (first_list
        (returned_all ks ((if b then appended n l else l) ∷ ls))).buckets) (sym is)
        (more (let longer = length_push l.buckets n in omega (arith, long, longer)))
    go false is more full = subst (λ b. m ≤ length (first_list
        (returned_all ks ((if b then appended n l else l) ∷ ls))).buckets) (sym is)
        (full (let all = no_room l is in omega (arith, all, fits)))

-- what is on it was there, or came
pub back_times : (j : ℕ) (ks : List ℕ) (ls : List Reserve)
    → times j (first_list (returned_all ks ls)).buckets
    ≤ times j (first_list ls).buckets + times j ks
back_times j [] ls = omega arith
back_times j (n ∷ ks) [] =
    let rest = back_times j ks [] in
    let more = times-cons j n ks in omega (arith, rest, more)
back_times j (n ∷ ks) (l ∷ ls) =
    let rest = back_times j ks ((if has_room l then appended n l else l) ∷ ls) in
    let more = times-cons j n ks in
    let one = first (has_room l) in omega (arith, rest, more, one)
  where
    first : (b : Bool) → times j (if b then appended n l else l).buckets
        ≤ times j l.buckets + times j (n ∷ [])
    first true = let both = times-append j l.buckets (n ∷ []) in omega (arith, both)
    first false = omega arith

-- different ones at different places
places_apart : (ks : List ℕ) (i j : ℕ) → IsDistinct ks → i < length ks → j < length ks
    → get_or ks i 0 ≡ get_or ks j 0 → i ≡ j
places_apart [] i j distinct below other e = absurd (omega (arith, below))
places_apart (k ∷ ks) zero zero distinct below other e = refl
places_apart (k ∷ ks) zero (suc j) distinct below other e =
    absurd (let none = (rest_distinct k ks distinct).1 in
    let some = there ks j (omega (arith, other)) in
    let same = ap (λ n. times n ks) e in omega (arith, none, some, same))
places_apart (k ∷ ks) (suc i) zero distinct below other e =
    absurd (let none = (rest_distinct k ks distinct).1 in
    let some = there ks i (omega (arith, below)) in
    let same = ap (λ n. times n ks) e in omega (arith, none, some, same))
places_apart (k ∷ ks) (suc i) (suc j) distinct below other e = ap suc
    (places_apart ks i j (rest_distinct k ks distinct).0 (omega (arith, below))
    (omega (arith, other)) e)

pub many_on : (count before : ℕ) (ks : List ℕ) (P : ℕ → Type 0) → AreJust before ks P
    → IsDistinct ks → count ≤ length ks → Many count P
many_on count before ks P are distinct long = (
  λ j. get_or ks j 0 - before,
  λ i j below other e. places_apart ks i j distinct (omega (arith, below, long))
      (omega (arith, other, long))
      (let low = are.behind (get_or ks i 0) (there ks i (omega (arith, below, long))) in
      let high = are.behind (get_or ks j 0) (there ks j (omega (arith, other, long))) in
      omega (arith, e, low, high)),
  λ j below. are.each (get_or ks j 0 - before)
      (subst (λ n. 0 < times n ks)
      (sym (counted before (get_or ks j 0)
      (are.behind (get_or ks j 0) (there ks j (omega (arith, below, long))))))
      (there ks j (omega (arith, below, long)))),
)
