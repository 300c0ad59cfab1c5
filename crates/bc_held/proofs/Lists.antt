-- The lists behind a bucket that is taken, and behind one that goes back to the list for priority
-- sets.
use Rattle.std.proofs.Common.{◌≡◌, ◌≢◌, ◌⊎◌, inl, inr, ℕ, ◌+◌, ◌-◌, ◌<◌, ◌≤◌, Bool, true, false, List, [], ◌∷◌, ◌++◌, length, set, refl, sym, ap, ◌∙◌, subst, arith, get_or-set_other, get_or-set_same, length-set}
use Rattle.std.specs.Prelude.{slice_index_or, if◌then◌else◌}
use Rattle.std.proofs.lemmas.Bool.{cases_eq, cases_lt}
use Rattle.std.proofs.lemmas.List.{map-append, set_past}
use Rattle.bc_alloc.proofs.Times.{short_set, times-append, times_first, times_got}
use Rattle.bc_alloc.specs.Buckets.{AreFor}
use Rattle.bc_alloc.specs.Reserve.{Reserve, has_room, no_reserve, prepended, times}
use Rattle.bc_alloc.specs.Reserves.{IsInOrder, Reserves, TakesFirst, list_of, place_of, plain_unless_empty, put_back, serving, times_listed}
use Rattle.bc_alloc.specs.declared.purpose.Purpose.{Purpose}
use Rattle.bc_alloc.specs.declared.purpose.Purpose.TheVariants as list
use Rattle.bc_bucket.specs.Bucket.{with_held}
use Rattle.bc_bucket.specs.Buckets.{Buckets, bucket_of, changed}
use Rattle.bc_fill.proofs.Taken.{still_open}
use Rattle.bc_fill.specs.Fill.{AreOpen, bucket_numbers, just_opened}
use Rattle.bc_fill.specs.declared.fill.Open.{Open}
use Rattle.bc_places.proofs.Lists.{drop_first, first_in, none_in}
use Rattle.bc_places.specs.Stands.{AreJust}

-- ---- the list that serves

-- it is the plain one, or where that is empty the purpose's own
pub serving_is : (p : Purpose) (r : Reserves) → (serving p r ≡ list.Plain) ⊎ (serving p r ≡ p)
serving_is p r = go (list_of list.Plain r).buckets
  where
    go : (ks : List ℕ) → (plain_unless_empty ks p ≡ list.Plain) ⊎ (plain_unless_empty ks p ≡ p)
    go [] = inr refl
    go (k ∷ ks) = inl refl

-- each list but that one stays
pub same_times : (r q : Reserves) (n j : ℕ) (s p : Purpose) → TakesFirst s n r q → j ≢ n
    → times j (list_of p q).buckets ≡ times j (list_of p r).buckets
same_times r q n j s p t ne = go (cases_eq (place_of p) (place_of s))
  where
    go : (place_of p ≡ place_of s) ⊎ (place_of p ≢ place_of s)
        → times j (list_of p q).buckets ≡ times j (list_of p r).buckets
    go (inl e) = ap (λ m. times j (slice_index_or q.lists m no_reserve).buckets) e
        ∙ drop_first n j (list_of s q).buckets ne
        ∙ ap (λ (ks : List ℕ). times j ks) (sym t.first)
        ∙ ap (λ m. times j (slice_index_or r.lists m no_reserve).buckets) (sym e)
    go (inr other) = ap (λ (x : Reserves). times j (list_of p x).buckets) t.others
        ∙ ap (λ (l : Reserve). times j l.buckets) (get_or-set_other r.lists (place_of s) (place_of p)
        (record (list_of s r) { buckets = (list_of s q).buckets }) no_reserve other)

-- nor does any list get another room
abbrev cut_off : Purpose → Reserves → Reserves → Reserve
cut_off s r q = record (list_of s r) { buckets = (list_of s q).buckets }

pub room_stays : (r q : Reserves) (n : ℕ) (s p : Purpose) → TakesFirst s n r q
    → (list_of p q).room ≡ (list_of p r).room
room_stays r q n s p t = go (cases_eq (place_of p) (place_of s))
  where
    go : (place_of p ≡ place_of s) ⊎ (place_of p ≢ place_of s)
        → (list_of p q).room ≡ (list_of p r).room
    go (inl e) = by_place (cases_lt (place_of s) (length r.lists))
      where
        by_place : (place_of s < length r.lists) ⊎ (length r.lists ≤ place_of s)
            → (list_of p q).room ≡ (list_of p r).room
        by_place (inl there) = ap (λ (x : Reserves). (list_of p x).room) t.others
            ∙ ap (λ m. (slice_index_or (set r.lists (place_of s) (cut_off s r q)) m no_reserve).room) e
            ∙ ap (λ (l : Reserve). l.room)
            (get_or-set_same r.lists (place_of s) (cut_off s r q) no_reserve there)
            ∙ ap (λ m. (slice_index_or r.lists m no_reserve).room) (sym e)
        by_place (inr past) = ap (λ (x : Reserves). (list_of p x).room) t.others
            ∙ ap (λ (ls : List Reserve). (slice_index_or ls (place_of p) no_reserve).room)
            (set_past r.lists (place_of s) (cut_off s r q) past)
    go (inr other) = ap (λ (x : Reserves). (list_of p x).room) t.others
        ∙ ap (λ (l : Reserve). l.room)
        (get_or-set_other r.lists (place_of s) (place_of p) (cut_off s r q) no_reserve other)

none_open : (r : Reserves) (b : Buckets) → AreOpen [] r b
none_open r b = record {
  distinct = λ k. let none : times k [] ≡ 0 = refl in omega (arith, none);
  each = λ k some. absurd (none_in k some);
  free = tt;
}

-- what is taken from a list is one of the device's, and on none then
pub its : (r q : Reserves) (b : Buckets) (s : Purpose) (n : ℕ) → IsInOrder r → AreFor r b
    → 0 < b.size → TakesFirst s n r q
    → (n < q.count) × ((bucket_of (changed (with_held true) n b) n).held ≡ true)
    × (times_listed q n ≡ 0)
its r q b s n order fit some t = (still_open [] r q b s n order fit some (none_open r b) t).each n
    (first_in n [])

-- the lists are in order still
pub order_stays : (r q : Reserves) (s : Purpose) (n : ℕ) → IsInOrder r → TakesFirst s n r q
    → IsInOrder q
order_stays r q s n order t =
    let short : length (list_of s q).buckets ≤ (list_of s r).room =
    let all = order.short (place_of s) in
    let long = ap (λ (ks : List ℕ). length ks) t.first in omega (arith, all, long) in
    let in_ = small s in
    let four = order.four in
    let within : place_of s < length r.lists = omega (arith, in_, four) in
    let took : (j : ℕ) → times_listed (record r { lists = set r.lists (place_of s) (left r q s) }) j
    + times j (n ∷ []) ≡ times_listed r j = times_got r (place_of s) (left r q s) n within
    (times_first (list_of s q).buckets (list_of s r).buckets n t.first) in
    subst IsInOrder (sym t.others) (record {
      four = length-set r.lists (place_of s) (left r q s) ∙ order.four;
      short = short_set r.lists (place_of s) (left r q s) order.short within short;
      once = λ j. let most = order.once j in let is = took j in omega (arith, most, is);
      below = λ j far. let none = order.below j far in let is = took j in omega (arith, none, is);
    })
  where
    left : (r q : Reserves) (s : Purpose) → Reserve
    left r q s = record (list_of s r) { buckets = (list_of s q).buckets }

    small : (p : Purpose) → place_of p < 4
    small list.Priorities = omega arith
    small list.Moving = omega arith
    small list.Tree = omega arith
    small list.Plain = omega arith

-- the open buckets are open still
pub opens_stay : (fs : List Open) (r q : Reserves) (b : Buckets) (s : Purpose) (n : ℕ)
    → IsInOrder r → AreFor r b → 0 < b.size → AreOpen fs r b → TakesFirst s n r q
    → AreOpen fs q (changed (with_held true) n b)
opens_stay fs r q b s n order fit some opens t =
    let more = still_open fs r q b s n order fit some opens t in record {
      distinct = opens.distinct;
      each = λ j there. more.each j (in_more j there);
      free = opens.free;
    }
  where
    in_more : (j : ℕ) → 0 < times j (bucket_numbers fs)
        → 0 < times j (bucket_numbers (fs ++ just_opened n ∷ []))
    in_more j there =
        let is = ap (λ (ks : List ℕ). times j ks)
        (map-append (λ (o : Open). o.bucket) fs (just_opened n ∷ []))
        ∙ times-append j (bucket_numbers fs) (n ∷ []) in omega (arith, there, is)

-- ---- one that goes back

pub put_first : (r : Reserves) (n : ℕ) → length r.lists ≡ 4
    → has_room (list_of list.Priorities r) ≡ true
    → (list_of list.Priorities (record r { lists = put_back n r.lists })).buckets
    ≡ n ∷ (list_of list.Priorities r).buckets
put_first r n four room = go r.lists four room
  where
    go : (ls : List Reserve) → length ls ≡ 4 → has_room (slice_index_or ls 0 no_reserve) ≡ true
        → (slice_index_or (put_back n ls) 0 no_reserve).buckets
        ≡ n ∷ (slice_index_or ls 0 no_reserve).buckets
    go [] four room = absurd (omega (arith, four))
    go (l ∷ ls) four room = ap (λ b. (if b then prepended n l else l).buckets) room

-- or is on none, where that is full
pub put_none : (r : Reserves) (n : ℕ) → has_room (list_of list.Priorities r) ≡ false
    → (p : Purpose) → list_of p (record r { lists = put_back n r.lists }) ≡ list_of p r
put_none r n full p = go r.lists full
  where
    go : (ls : List Reserve) → has_room (slice_index_or ls 0 no_reserve) ≡ false
        → slice_index_or (put_back n ls) (place_of p) no_reserve
        ≡ slice_index_or ls (place_of p) no_reserve
    go [] full = refl
    go (l ∷ ls) full = ap (λ b. slice_index_or ((if b then prepended n l else l) ∷ ls) (place_of p)
        no_reserve) full

-- the lists have the room that they had
pub put_room : (r : Reserves) (n : ℕ)
    → (list_of list.Priorities (record r { lists = put_back n r.lists })).room
    ≡ (list_of list.Priorities r).room
put_room r n = go r.lists
  where
    one : (b : Bool) (l : Reserve) → (if b then prepended n l else l).room ≡ l.room
    one true l = refl
    one false l = refl

    go : (ls : List Reserve) → (slice_index_or (put_back n ls) 0 no_reserve).room
        ≡ (slice_index_or ls 0 no_reserve).room
    go [] = refl
    go (l ∷ ls) = one (has_room l) l

pub put_others : (r : Reserves) (n : ℕ) (p : Purpose) → p ≢ list.Priorities
    → list_of p (record r { lists = put_back n r.lists }) ≡ list_of p r
put_others r n p other = go r.lists p other
  where
    go : (ls : List Reserve) (p : Purpose) → p ≢ list.Priorities
        → slice_index_or (put_back n ls) (place_of p) no_reserve
        ≡ slice_index_or ls (place_of p) no_reserve
    go [] p other = refl
    go (l ∷ ls) list.Priorities other = absurd (other refl)
    go (l ∷ ls) list.Moving other = refl
    go (l ∷ ls) list.Tree other = refl
    go (l ∷ ls) list.Plain other = refl

-- one bucket more, which comes first
pub with_first : (before n : ℕ) (ks : List ℕ) (P Q : ℕ → Type 0) → before ≤ n
    → AreJust before ks P → ((q : ℕ) → q ≢ n - before → P q → Q q)
    → ((q : ℕ) → q ≢ n - before → Q q → P q) → Q (n - before) → (P (n - before) → ⊥)
    → AreJust before (n ∷ ks) Q
with_first before n ks P Q low h on back new never = record {
  behind = λ j some. behind j some (cases_eq j n);
  each = λ q some. each q some (cases_eq q (n - before));
  all = λ q is. all q is (cases_eq q (n - before));
}
  where
    behind : (j : ℕ) → 0 < times j (n ∷ ks) → (j ≡ n) ⊎ (j ≢ n) → before ≤ j
    behind j some (inl e) = omega (arith, e, low)
    behind j some (inr ne) = h.behind j (let s = drop_first n j ks ne in omega (arith, some, s))

    each : (q : ℕ) → 0 < times (before + q) (n ∷ ks) → (q ≡ n - before) ⊎ (q ≢ n - before) → Q q
    each q some (inl e) = subst Q (sym e) new
    each q some (inr ne) = on q ne (h.each q (
        let s = drop_first n (before + q) ks (λ e. ne (omega (arith, e))) in
        omega (arith, some, s)))

    all : (q : ℕ) → Q q → (q ≡ n - before) ⊎ (q ≢ n - before) → 0 < times (before + q) (n ∷ ks)
    all q is (inl e) =
        let same : before + q ≡ n = omega (arith, e, low) in
        subst (λ j. 0 < times j (n ∷ ks)) (sym same) (first_in n ks)
    all q is (inr ne) =
        let some = h.all q (back q ne is) in
        let s = drop_first n (before + q) ks (λ e. ne (omega (arith, e))) in
        omega (arith, some, s)
