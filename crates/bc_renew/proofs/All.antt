-- Many buckets go, one behind the other: those of the next chain, of the chain before, and the
-- raised ones.
use Rattle.std.proofs.Common.{◌≡◌, ◌≢◌, ◌⊎◌, inl, inr, ℕ, ◌+◌, ◌-◌, ◌<◌, ◌≤◌, Bool, true, false, List, [], ◌∷◌, ◌++◌, length, Option, Some, None, refl, sym, ap, ◌∙◌, subst, arith}
use Rattle.std.specs.Prelude.{if◌then◌else◌}
use Rattle.std.proofs.lemmas.Bool.{cases_eq}
use Rattle.bc_alloc.proofs.Fits.{other_stays, same_length}
use Rattle.bc_alloc.proofs.Times.{times-append, times-cons, times_other, times_same}
use Rattle.bc_alloc.specs.Buckets.{all_changed, made_ready, unmarked}
use Rattle.bc_alloc.specs.Reserve.{IsDistinct, Reserve, has_room, times}
use Rattle.bc_alloc.specs.Reserves.{Reserves, returned, returned_all, stored, stored_all}
use Rattle.bc_alloc.specs.declared.purpose.Purpose.{Purpose}
use Rattle.bc_alloc.specs.declared.purpose.Purpose.TheVariants as list
use Rattle.bc_books.specs.After as books
use Rattle.bc_books.specs.Books.{Books, MakeReady, Setup}
use Rattle.bc_books.specs.Index.{put}
use Rattle.bc_books.specs.Marks as mark
use Rattle.bc_books.specs.Shelves.{Shelf, Loose, Raised, Held, Priorities}
use Rattle.bc_bucket.specs.Buckets.{Buckets, bucket_of, changed}
use Rattle.bc_bucket.specs.declared.bucket.Bucket.{Bucket}
use Rattle.bc_events.specs.Acts as events
use Rattle.bc_events.specs.declared.event.Listing.{Listing}
use Rattle.bc_fill.specs.declared.fill.Open as fill
use Rattle.bc_leaves.proofs.Chains.{put_else, put_there}
use Rattle.bc_places.proofs.Lists.{counted, first_in}
use Rattle.bc_machine.specs.Containers.{is_held}
use Rattle.bc_whole.specs.State.{Opening}
use Rattle.bc_renew.specs.Goes.{first_list, goes_to, listings}
use Rattle.bc_renew.specs.Ready.{chained}
use Rattle.bc_renew.proofs.Goes.{HasGone, gone_nowhere, gone_returned, gone_stored, returned_four, stored_four}
use Rattle.bc_renew.proofs.Put.{IsOff, Stands, goes, placed, put_stands, raised_stay}

-- ---- lists of buckets

-- what is further back on a list of different ones is another one
pub rest_distinct : (n : ℕ) (ks : List ℕ) → IsDistinct (n ∷ ks) → IsDistinct ks × (times n ks ≡ 0)
rest_distinct n ks distinct = (
  λ j. let all = distinct j in let more = times-cons j n ks in omega (arith, all, more),
  let all = distinct n in
      let more = times-cons n n ks in
      let one = times_same n in omega (arith, all, more, one),
)

pub not_first : (j n : ℕ) (ks : List ℕ) → times n ks ≡ 0 → 0 < times j ks → j ≢ n
not_first j n ks none some e =
    let same = ap (λ i. times i ks) e in omega (arith, none, some, same)

pub in_rest : (j n : ℕ) (ks : List ℕ) → 0 < times j ks → 0 < times j (n ∷ ks)
in_rest j n ks some = let more = times-cons j n ks in omega (arith, some, more)

-- the core numbers different buckets differently
pub apart_from : (before j n : ℕ) → before ≤ j → before ≤ n → j ≢ n → j - before ≢ n - before
apart_from before j n low first ne e = ne (omega (arith, low, first, e))

-- ---- the books, with these buckets put where they go

abbrev pub all_placed : (before : ℕ) → mark.Mark → (ℕ → Option Purpose) → List ℕ → Books → Books
all_placed before m x [] k = k
all_placed before m x (n ∷ ks) k =
    all_placed before m x ks (placed (n - before) m (goes (x (n - before))) k)

-- each other one is as it was
pub placed_else : (before : ℕ) (m : mark.Mark) (x : ℕ → Option Purpose) (ks : List ℕ) (k : Books)
    (q : ℕ) → ((j : ℕ) → 0 < times j ks → before ≤ j) → times (before + q) ks ≡ 0
    → ((all_placed before m x ks k).mark q ≡ k.mark q)
    × ((all_placed before m x ks k).shelf q ≡ k.shelf q)
placed_else before m x [] k q low none = (refl, refl)
placed_else before m x (n ∷ ks) k q low none =
    let first = low n (first_in n ks) in
    let more = times-cons (before + q) n ks in
    let ne : q ≢ n - before = λ e. (let at = counted before n first in
    let same : before + q ≡ n = omega (arith, e, at) in
    let one = subst (λ i. times i (n ∷ []) ≡ 1) (sym same) (times_same n) in
    omega (arith, none, more, one)) in
    let rest = placed_else before m x ks (placed (n - before) m (goes (x (n - before))) k) q
    (λ j some. low j (in_rest j n ks some)) (omega (arith, none, more)) in (
      rest.0 ∙ put_else k.mark (n - before) m q ne,
      rest.1 ∙ put_else k.shelf (n - before) (goes (x (n - before))) q ne,
    )

-- and each of these is there
pub placed_there : (before : ℕ) (m : mark.Mark) (x : ℕ → Option Purpose) (ks : List ℕ) (k : Books)
    (q : ℕ) → IsDistinct ks → ((j : ℕ) → 0 < times j ks → before ≤ j) → 0 < times (before + q) ks
    → ((all_placed before m x ks k).mark q ≡ m)
    × ((all_placed before m x ks k).shelf q ≡ goes (x q))
placed_there before m x [] k q distinct low some =
    absurd (let none : times (before + q) [] ≡ 0 = refl in omega (arith, some, none))
placed_there before m x (n ∷ ks) k q distinct low some = go (cases_eq q (n - before))
    (placed_there before m x ks (placed (n - before) m (goes (x (n - before))) k) q
    (rest_distinct n ks distinct).0 (λ j some. low j (in_rest j n ks some)))
  where
    first : before ≤ n
    first = low n (first_in n ks)

    rest : IsDistinct ks × (times n ks ≡ 0)
    rest = rest_distinct n ks distinct

    go : (q ≡ n - before) ⊎ (q ≢ n - before)
        → (0 < times (before + q) ks
        → ((all_placed before m x (n ∷ ks) k).mark q ≡ m)
        × ((all_placed before m x (n ∷ ks) k).shelf q ≡ goes (x q)))
        → ((all_placed before m x (n ∷ ks) k).mark q ≡ m)
        × ((all_placed before m x (n ∷ ks) k).shelf q ≡ goes (x q))
    go (inl e) more =
        let same : before + q ≡ n = omega (arith, e, first) in
        let none = subst (λ i. times i ks ≡ 0) (sym same) rest.1 in
        let still = placed_else before m x ks (placed (n - before) m (goes (x (n - before))) k) q
        (λ j some. low j (in_rest j n ks some)) none in (
          still.0 ∙ ap (put k.mark (n - before) m) e ∙ put_there k.mark (n - before) m,
          still.1 ∙ ap (put k.shelf (n - before) (goes (x (n - before)))) e
              ∙ put_there k.shelf (n - before) (goes (x (n - before))) ∙ ap (λ i. goes (x i)) (sym
              e),
        )
    go (inr ne) more =
        let both = times-cons (before + q) n ks in
        let none = times_other (before + q) n
        (λ same. ne (let at = counted before n first in omega (arith, same, at))) in
        more (omega (arith, some, both, none))

-- nothing else of the books changes
pub placed_owner : (before : ℕ) (m : mark.Mark) (x : ℕ → Option Purpose) (ks : List ℕ) (k : Books)
    → (all_placed before m x ks k).owner ≡ k.owner
placed_owner before m x [] k = refl
placed_owner before m x (n ∷ ks) k =
    placed_owner before m x ks (placed (n - before) m (goes (x (n - before))) k)

pub placed_versions : (before : ℕ) (m : mark.Mark) (x : ℕ → Option Purpose) (ks : List ℕ)
    (k : Books) → (all_placed before m x ks k).generations ≡ k.generations
placed_versions before m x [] k = refl
placed_versions before m x (n ∷ ks) k =
    placed_versions before m x ks (placed (n - before) m (goes (x (n - before))) k)

-- ---- the next chain, whose buckets were held

module _ (w : Opening) (fs : List fill.Open) (r : Reserves) where
  pub chain_stands : (new : List ℕ) (k : Books) (b : Buckets) → Stands w k b r fs → IsDistinct new
      → ((j : ℕ) → 0 < times j new → (w.before ≤ j) × (j < length b.records))
      → ((j : ℕ) → 0 < times j new → (i : ℕ) × (k.shelf (j - w.before) ≡ Held i Priorities))
      → Stands w (all_placed w.before mark.Metadata (λ q. None) new k) (all_changed chained new b) r
      fs
  chain_stands [] k b s distinct inside held = s
  chain_stands (n ∷ new) k b s distinct inside held =
      chain_stands new (placed (n - w.before) mark.Metadata Loose k) (changed chained n b)
      (put_stands w k b r fs s n its.0 its.1 mark.Metadata None chained (record {
        generation = refl;
        uses = refl;
        last_gc = refl;
        pins = refl;
        mark = refl;
        held = refl;
      }) (off (k.shelf (n - w.before)) (held n first)) r (gone_nowhere n r.lists)
      (raised_stay w.before n r.raised (λ q. k.shelf q ≡ Raised) s.places.lists.raised
      (not_raised (k.shelf (n - w.before)) (held n first)))) rest.0
      (λ j some. let at = inside j (in_rest j n new some) in
      (at.0, let long = same_length chained n b in let high = at.1 in omega (arith, long, high)))
      (λ j some. let at = held j (in_rest j n new some) in (
        at.0,
        put_else k.shelf (n - w.before) Loose (j - w.before)
            (apart_from w.before j n (inside j (in_rest j n new some)).0 its.0
            (not_first j n new rest.1 some)) ∙ at.1,
      ))
    where
      first : 0 < times n (n ∷ new)
      first = first_in n new

      its : (w.before ≤ n) × (n < length b.records)
      its = inside n first

      rest : IsDistinct new × (times n new ≡ 0)
      rest = rest_distinct n new distinct

      off : (x : Shelf) → (i : ℕ) × (x ≡ Held i Priorities) → IsOff x
      off x is = (λ e. absurd (let h = is.1 in cc), λ p e. absurd (let h = is.1 in cc))

      not_raised : (x : Shelf) → (i : ℕ) × (x ≡ Held i Priorities) → x ≡ Raised → ⊥
      not_raised x is e = absurd (let h = is.1 in cc)

-- ---- the chain before, whose buckets were nobody's

-- the list priorities has room for just those of which this is true, one behind the other
abbrev pub AreRoomy : (before : ℕ) → (ℕ → Bool) → List ℕ → List Reserve → Type 0
AreRoomy before room [] ls = Unit {0}
AreRoomy before room (n ∷ ks) ls =
    (room (n - before) ≡ has_room (first_list ls)) × AreRoomy before room ks (returned n ls)

abbrev pub back_to : (ℕ → Bool) → ℕ → Option Purpose
back_to room q = if room q then Some list.Priorities else None

abbrev pub with_lists : List Reserve → Reserves → Reserves
with_lists ls r = record r { lists = ls }

module _ (w : Opening) (fs : List fill.Open) (room : ℕ → Bool) where
  pub back_stands : (old : List ℕ) (k : Books) (b : Buckets) (r : Reserves) → Stands w k b r fs
      → IsDistinct old → length r.lists ≡ 4
      → ((j : ℕ) → 0 < times j old → (w.before ≤ j) × (j < length b.records))
      → ((j : ℕ) → 0 < times j old → k.shelf (j - w.before) ≡ Loose)
      → ((j : ℕ) → 0 < times j old → (bucket_of b j).held ≡ false)
      → AreRoomy w.before room old r.lists
      → Stands w (all_placed w.before mark.Unmarked (back_to room) old k)
      (all_changed unmarked old b) (with_lists (returned_all old r.lists) r) fs
  back_stands [] k b r s distinct four inside loose free roomy = s
  back_stands (n ∷ old) k b r s distinct four inside loose free roomy =
      back_stands old (placed (n - w.before) mark.Unmarked (goes (back_to room (n - w.before))) k)
      (changed unmarked n b)
      (with_lists (returned n r.lists) r)
      (put_stands w k b r fs s n its.0 its.1 mark.Unmarked (back_to room (n - w.before)) unmarked
      (record {
        generation = refl;
        uses = refl;
        last_gc = refl;
        pins = refl;
        mark = refl;
        held = free n first ∙ sym (not_held (room (n - w.before)));
      }) (off (k.shelf (n - w.before)) (loose n first)) (with_lists (returned n r.lists) r)
      (subst (λ o. HasGone n r.lists (returned n r.lists) o)
      (ap (λ x. if x then Some list.Priorities else None) (sym roomy.0))
      (gone_returned n r.lists four))
      (raised_stay w.before n r.raised (λ q. k.shelf q ≡ Raised) s.places.lists.raised
      (not_raised (k.shelf (n - w.before)) (loose n first)))) rest.0 (returned_four n r.lists
      ∙ four)
      (λ j some. let at = inside j (in_rest j n old some) in
      (at.0, let long = same_length unmarked n b in let high = at.1 in omega (arith, long, high)))
      (λ j some. put_else k.shelf (n - w.before) (goes (back_to room (n - w.before))) (j - w.before)
      (apart_from w.before j n (inside j (in_rest j n old some)).0 its.0
      (not_first j n old rest.1 some)) ∙ loose j (in_rest j n old some))
      (λ j some. ap (λ (x : Bucket). x.held)
      (other_stays unmarked n b j (not_first j n old rest.1 some)) ∙ free j (in_rest j n old some))
      roomy.1
    where
      first : 0 < times n (n ∷ old)
      first = first_in n old

      its : (w.before ≤ n) × (n < length b.records)
      its = inside n first

      rest : IsDistinct old × (times n old ≡ 0)
      rest = rest_distinct n old distinct

      off : (x : Shelf) → x ≡ Loose → IsOff x
      off x is = (λ e. absurd (cc), λ p e. absurd (cc))

      not_raised : (x : Shelf) → x ≡ Loose → x ≡ Raised → ⊥
      not_raised x is e = absurd (cc)

      not_held : (x : Bool) → is_held (goes (if x then Some list.Priorities else None)) ≡ false
      not_held true = refl
      not_held false = refl

-- ---- the raised ones

-- each of these events may be, behind those before it
abbrev pub AreReady : Setup → Books → List Listing → Type 0
AreReady w k [] = Unit {0}
AreReady w k (x ∷ xs) = (k.shelf x.bucket ≡ Raised)
    × (k.generations.durable x.bucket ≡ k.generations.version x.bucket)
    × AreReady w (books.after w k (MakeReady x.bucket (events.list_of x.list))) xs

abbrev pub all_ready : Setup → Books → List Listing → Books
all_ready w k [] = k
all_ready w k (x ∷ xs) =
    all_ready w (books.after w k (MakeReady x.bucket (events.list_of x.list))) xs

abbrev pub with_raised : List ℕ → List Reserve → Reserves → Reserves
with_raised ks ls r = record r { lists = ls; raised = ks }

pub record HasReady (w : Opening) (fs : List fill.Open) (r : Reserves) (ks rest : List ℕ)
    (ls : List Reserve) (k : Books) (b : Buckets) : Type 0 where
  pub may : AreReady w.flow.books k (listings w.before ks ls)
  pub stand : Stands w (all_ready w.flow.books k (listings w.before ks ls))
      (all_changed made_ready ks b) (with_raised rest (stored_all ks ls) r) fs

pub ready_stands : (w : Opening) (fs : List fill.Open) (r : Reserves) (ks rest : List ℕ)
    (ls : List Reserve) (k : Books) (b : Buckets)
    → Stands w k b (with_raised (ks ++ rest) ls r) fs → IsDistinct (ks ++ rest) → length ls ≡ 4
    → ((j : ℕ) → 0 < times j ks → (j < length b.records) × ((bucket_of b j).held ≡ false))
    → ((j : ℕ) → 0 < times j ks → k.generations.durable (j - w.before)
    ≡ k.generations.version (j - w.before))
    → HasReady w fs r ks rest ls k b
ready_stands w fs r [] rest ls k b s distinct four inside firm = record { may = tt; stand = s }
ready_stands w fs r (n ∷ ks) rest ls k b s distinct four inside firm = with_first
    (ready_stands w fs r ks rest (stored n ls)
    (books.after w.flow.books k (MakeReady (n - w.before) (events.list_of (goes_to ls))))
    (changed made_ready n b) then_ others.0 (stored_four n ls ∙ four)
    (λ j some. let at = inside j (in_rest j n ks some) in (
      let long = same_length made_ready n b in let high = at.0 in omega (arith, long, high),
      ap (λ (x : Bucket). x.held) (other_stays made_ready n b j (not_first j n ks none some))
          ∙ at.1,
    )) (λ j some. firm j (in_rest j n ks some)))
  where
    first : 0 < times n (n ∷ ks)
    first = first_in n ks

    low : w.before ≤ n
    low = s.places.lists.raised.behind n (first_in n (ks ++ rest))

    its : (n < length b.records) × ((bucket_of b n).held ≡ false)
    its = inside n first

    was : k.shelf (n - w.before) ≡ Raised
    was = s.places.lists.raised.each (n - w.before) (subst (λ j. 0 < times j (n ∷ (ks ++ rest)))
        (sym (counted w.before n low)) (first_in n (ks ++ rest)))

    others : IsDistinct (ks ++ rest) × (times n (ks ++ rest) ≡ 0)
    others = rest_distinct n (ks ++ rest) distinct

    none : times n ks ≡ 0
    none =
        let all = others.1 in
        let both = times-append n ks rest in omega (arith, all, both)

    off : (x : Shelf) → x ≡ Raised → IsOff x
    off x is = (λ e. absurd (cc), λ p e. absurd (cc))

    not_held : (o : Option Purpose) → is_held (goes o) ≡ false
    not_held None = refl
    not_held (Some p) = refl

    then_ : Stands w (placed (n - w.before) mark.Unmarked (goes (goes_to ls)) k)
        (changed made_ready n b) (with_raised (ks ++ rest) (stored n ls) r) fs
    then_ = put_stands w k b (with_raised (n ∷ (ks ++ rest)) ls r) fs s n low its.0 mark.Unmarked
        (goes_to ls) made_ready (record {
          generation = refl;
          uses = refl;
          last_gc = refl;
          pins = refl;
          mark = refl;
          held = its.1 ∙ sym (not_held (goes_to ls));
        }) (off (k.shelf (n - w.before)) was) (with_raised (ks ++ rest) (stored n ls) r)
        (gone_stored n ls four) (
          λ j ne. (let more = times-cons j n (ks ++ rest) in
              let zero_ = times_other j n (λ e. ne (sym e)) in omega (arith, more, zero_)),
          others.1,
        )

    with_first : HasReady w fs r ks rest (stored n ls)
        (books.after w.flow.books k (MakeReady (n - w.before) (events.list_of (goes_to ls))))
        (changed made_ready n b) → HasReady w fs r (n ∷ ks) rest ls k b
    with_first more = record { may = (was, firm n first, more.may); stand = more.stand }
