-- A bucket is taken and opened.
use Rattle.std.proofs.Common.{◌≡◌, ◌≢◌, ◌⊎◌, inl, inr, ℕ, zero, suc, ◌+◌, ◌-◌, ◌*◌, ◌<◌, ◌≤◌, true, List, [], ◌∷◌, get_or, sym, ap, ◌∙◌, subst, arith, get_or-set_other}
use Rattle.std.specs.Prelude.{sum_by}
use Rattle.std.proofs.lemmas.Bool.{cases_eq}
use Rattle.std.proofs.lemmas.List.Sums.{sum_by-cons}
use Rattle.bc_alloc.specs.declared.purpose.Purpose.{Purpose}
use Rattle.bc_alloc.specs.declared.purpose.Purpose.TheVariants as list
use Rattle.bc_alloc.specs.Buckets.{AreFor}
use Rattle.bc_alloc.specs.Reserve.{Reserve, no_reserve, times}
use Rattle.bc_alloc.specs.Reserves.{Reserves, IsInOrder, TakesFirst, list_of, place_of, times_listed}
use Rattle.bc_books.specs.Index.{put}
use Rattle.bc_books.specs.Shelves.{Shelf, Loose, Listed, Raised, Open, Fresh, Plain, IsUnwritten}
use Rattle.bc_books.specs.Shelves as shelf
use Rattle.bc_books.specs.Books.{Setup, Books, Take}
use Rattle.bc_books.specs.Enabled.{CanStep}
use Rattle.bc_books.specs.After as books
use Rattle.bc_books.specs.Invariant as books_order
use Rattle.bc_bucket.specs.Bucket.{with_held}
use Rattle.bc_bucket.specs.Buckets.{Buckets, bucket_of, changed}
use Rattle.bc_events.specs.Acts.{purpose_of}
use Rattle.bc_fill.specs.Fill.{bucket_numbers, just_opened, AreOpen}
use Rattle.bc_fill.specs.Fresh.{IsFreeIn}
use Rattle.bc_fill.proofs.Taken.{still_open}
use Rattle.bc_leaves.proofs.Chains.{put_there, put_else}
use Rattle.bc_places.specs.Stands.{AreJust, StandFor}
use Rattle.bc_places.specs.Laws.{AreSpread}
use Rattle.bc_places.proofs.Lists.{counted, there, none_in, in_one, one_there, without, drop_first, first_in}

pub open_listed : (x : Shelf) (p : shelf.Purpose) → x ≡ Open → x ≡ Listed p → ⊥
open_listed x p a b = cc

pub open_raised : (x : Shelf) → x ≡ Open → x ≡ Raised → ⊥
open_raised x a b = cc

on_one : (ls : List Reserve) (i k : ℕ) → times k (get_or ls i no_reserve).buckets ≤ sum_by (λ (l : Reserve). times k l.buckets) ls
on_one [] i k = omega arith
on_one (l ∷ ls) zero k = let c = sum_by-cons (λ (l : Reserve). times k l.buckets) l ls in omega arith
on_one (l ∷ ls) (suc i) k =
    let c = sum_by-cons (λ (l : Reserve). times k l.buckets) l ls in
    let rest = on_one ls i k in omega arith

-- what is on no list
pub on_no_list : (r : Reserves) (p : Purpose) (k : ℕ) → times_listed r k ≡ 0 → times k (list_of p r).buckets ≡ 0
on_no_list r p k none = let one = on_one r.lists (place_of p) k in omega arith

-- each list but the plain one stays
same_times : (r q : Reserves) (n j : ℕ) (p : Purpose) → TakesFirst list.Plain n r q → j ≢ n → times j (list_of p q).buckets ≡ times j (list_of p r).buckets
same_times r q n j list.Plain t ne =
    drop_first n j (list_of list.Plain q).buckets ne ∙ ap (λ (ks : List ℕ). times j ks) (sym t.first)
same_times r q n j list.Priorities t ne =
    ap (λ (x : Reserves). times j (list_of list.Priorities x).buckets) t.others
    ∙ ap (λ (l : Reserve). times j l.buckets) (get_or-set_other r.lists 3 0 (record (list_of list.Plain r) { buckets = (list_of list.Plain q).buckets }) no_reserve (omega arith))
same_times r q n j list.Moving t ne =
    ap (λ (x : Reserves). times j (list_of list.Moving x).buckets) t.others
    ∙ ap (λ (l : Reserve). times j l.buckets) (get_or-set_other r.lists 3 1 (record (list_of list.Plain r) { buckets = (list_of list.Plain q).buckets }) no_reserve (omega arith))
same_times r q n j list.Tree t ne =
    ap (λ (x : Reserves). times j (list_of list.Tree x).buckets) t.others
    ∙ ap (λ (l : Reserve). times j l.buckets) (get_or-set_other r.lists 3 2 (record (list_of list.Plain r) { buckets = (list_of list.Plain q).buckets }) no_reserve (omega arith))

module _ (w : Setup) (k : Books) (before seat n : ℕ) (r q : Reserves) (b : Buckets)
    (order : books_order.IsInOrder w k) (laid : AreSpread before b.size r.count w)
    (sorted : IsInOrder r) (fit : AreFor r b) (some : 0 < b.size) (opens : AreOpen [] r b)
    (h : StandFor before b.size [] r k) (t : TakesFirst list.Plain n r q) where
  on_list : 0 < times n (list_of list.Plain r).buckets
  on_list = subst (λ (ks : List ℕ). 0 < times n ks) (sym t.first) (first_in n (list_of list.Plain q).buckets)

  low : before ≤ n
  low = (h.lists.lists list.Plain).behind n on_list

  was : k.shelf (n - before) ≡ Listed Plain
  was = there before n (list_of list.Plain r).buckets (λ q. k.shelf q ≡ Listed Plain) (h.lists.lists list.Plain) on_list

  pub can_take : CanStep w k (Take seat Plain (n - before))
  can_take = inl was

  abbrev shelf_then : ℕ → Shelf
  shelf_then = put k.shelf (n - before) Open

  elsewhere : (q : ℕ) → q ≢ n - before → shelf_then q ≡ k.shelf q
  elsewhere q ne = put_else k.shelf (n - before) Open q ne

  is_open : shelf_then (n - before) ≡ Open
  is_open = put_there k.shelf (n - before) Open

  are_open : AreOpen (just_opened n ∷ []) q (changed (with_held true) n b)
  are_open = still_open [] r q b list.Plain n sorted fit some opens t

  its : (n < q.count) × ((bucket_of (changed (with_held true) n b) n).held ≡ true)
      × (times_listed q n ≡ 0)
  its = are_open.each n (first_in n [])

  below : n < r.count
  below = let e = ap (λ (x : Reserves). x.count) t.others in let lt = its.0 in omega arith

  buckets : AreJust before (bucket_numbers (just_opened n ∷ [])) (λ q. shelf_then q ≡ Open)
  buckets = record {
    behind = λ j on. let e = in_one j n on in omega (arith, e, low);
    each = λ j on. let e = in_one (before + j) n on in
        let is : j ≡ n - before = omega arith in
        subst (λ i. shelf_then i ≡ Open) (sym is) is_open;
    all = λ j is. all j is (cases_eq j (n - before));
  }
    where
      all : (j : ℕ) → shelf_then j ≡ Open → (j ≡ n - before) ⊎ (j ≢ n - before) → 0 < times (before + j) (n ∷ [])
      all j is (inl e) = one_there (before + j) n (omega (arith, e, low))
      all j is (inr ne) = absurd (none_in (before + j) (h.opens.buckets.all j (sym (elsewhere j ne) ∙ is)))

  fresh_at : (t : ℕ) → n * b.size ≤ t → t < n * b.size + b.size → k.owner t ≡ Fresh
  fresh_at t lo hi =
      let is = counted before n low in
      let place = laid (n - before) t (omega (arith, is, below))
      (subst (λ i. i * b.size ≤ t) (sym is) lo) (subst (λ i. t < i * b.size + b.size) (sym is) hi) in
      order.placed.unwritten (n - before) (subst (λ (x : Shelf). IsUnwritten x) (sym was) tt) t place

  free : (t : ℕ) → IsFreeIn b.size (just_opened n ∷ []) t → k.owner t ≡ Fresh
  free t (inl at) = fresh_at t (let lo = at.0 in omega arith) at.1
  free t (inr at) = absurd at

  given : (j t : ℕ) → 0 < times j (n ∷ []) → j * b.size ≤ t → t < j * b.size + b.size → IsFreeIn b.size (just_opened n ∷ []) t
  given j t on lo hi =
      let e = in_one j n on in
      inl (let l = subst (λ i. i * b.size ≤ t) e lo in omega arith, subst (λ i. t < i * b.size + b.size) e hi)

  pub opened_stands : StandFor before b.size (just_opened n ∷ []) q (books.after w k (Take seat Plain (n - before)))
  opened_stands = record {
    opens = record { buckets = buckets; free = free; given = λ j t on lo hi _. given j t on lo hi };
    lists = record {
      lists = λ p. without before n (list_of p r).buckets (list_of p q).buckets
          (λ j. k.shelf j ≡ Listed (purpose_of p)) (λ j. shelf_then j ≡ Listed (purpose_of p)) low
          (h.lists.lists p) (λ j ne. same_times r q n j p t ne) (on_no_list q p n its.2)
          (λ j ne is. elsewhere j ne ∙ is) (λ j ne is. sym (elsewhere j ne) ∙ is)
          (λ is. open_listed (shelf_then (n - before)) (purpose_of p) is_open is);
      raised = without before n r.raised q.raised (λ j. k.shelf j ≡ Raised)
          (λ j. shelf_then j ≡ Raised) low h.lists.raised
          (λ j ne. ap (λ (x : Reserves). times j x.raised) t.others)
          (let none = its.2 in omega arith)
          (λ j ne is. elsewhere j ne ∙ is) (λ j ne is. sym (elsewhere j ne) ∙ is)
          (λ is. open_raised (shelf_then (n - before)) is_open is);
    };
  }
