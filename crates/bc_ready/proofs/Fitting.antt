-- Lists, records and open buckets fit each other once buckets are ready.
use Rattle.std.proofs.Common.{◌≡◌, ◌≢◌, ◌⊎◌, inl, inr, ℕ, ◌+◌, ◌<◌, ◌≤◌, Bool, true, false, List, [], ◌∷◌, length, get_or, take, drop, refl, sym, ap, ◌∙◌, subst, arith}
use Rattle.std.proofs.lemmas.Bool.{cases_eq, cases_lt}
use Rattle.std.proofs.lemmas.List.{set_past, take-append-drop}
use Rattle.std.proofs.lemmas.List.Sums.{fold_more}
use Rattle.bc_alloc.proofs.Fits.{changed_twice, other_stays, same_length, this_changes}
use Rattle.bc_alloc.proofs.Loops.{all_changed_more, not_before}
use Rattle.bc_alloc.proofs.Times.{times-append, times-cons, times_same}
use Rattle.bc_alloc.specs.Buckets.{AreFor, AreLoose, all_changed, made_ready, unmarked}
use Rattle.bc_alloc.specs.Reserve.{IsDistinct, times}
use Rattle.bc_alloc.specs.Reserves.{Reserves, times_listed}
use Rattle.bc_bucket.specs.Bucket.{marked, no_bucket, with_held}
use Rattle.bc_bucket.specs.Buckets.{Buckets, bucket_of, changed}
use Rattle.bc_bucket.specs.declared.bucket.Bucket.{Bucket}
use Rattle.bc_bucket.specs.declared.bucket.Mark.TheVariants as marks
use Rattle.bc_fill.specs.Fill.{AreOpen, HaveFree, bucket_numbers}
use Rattle.bc_fill.specs.declared.fill.Open as fill
use Rattle.bc_raise.proofs.of_bc_renew.Parts.{are_open}
use Rattle.bc_raise.specs.bc_machine.declared.part.BucketsPart.{BucketsPart}
use Rattle.bc_raise.specs.bc_renew.Ready.{CanGo, all_touched, chained, touched}

-- a change of many leaves their number and the sizes
pub all_length : (f : Bucket → Bucket) (ks : List ℕ) (b : Buckets)
    → length (all_changed f ks b).records ≡ length b.records
all_length f [] b = refl
all_length f (n ∷ ks) b = all_length f ks (changed f n b) ∙ same_length f n b

pub all_size : (f : Bucket → Bucket) (ks : List ℕ) (b : Buckets) → (all_changed f ks b).size ≡
    b.size
all_size f [] b = refl
all_size f (n ∷ ks) b = all_size f ks (changed f n b)

-- buckets that were let go are held by nobody
free_stays : (f : Bucket → Bucket) → ((x : Bucket) → x.held ≡ false → (f x).held ≡ false)
    → (ks : List ℕ) (b : Buckets) (j : ℕ) → (bucket_of b j).held ≡ false
    → (bucket_of (all_changed f ks b) j).held ≡ false
free_stays f keeps [] b j free = free
free_stays f keeps (n ∷ ks) b j free = free_stays f keeps ks (changed f n b) j
    (go (cases_eq j n) (cases_lt n (length b.records)))
  where
    go : (j ≡ n) ⊎ (j ≢ n) → (n < length b.records) ⊎ (length b.records ≤ n)
        → (bucket_of (changed f n b) j).held ≡ false
    go (inl e) (inl less) = ap (λ i. (bucket_of (changed f n b) i).held) e
        ∙ ap (λ (x : Bucket). x.held) (this_changes f n b less)
        ∙ keeps (bucket_of b n) (ap (λ i. (bucket_of b i).held) (sym e) ∙ free)
    go (inl e) (inr past) =
        ap (λ (xs : List Bucket). (get_or xs j no_bucket).held)
        (set_past b.records n (f (bucket_of b n)) past) ∙ free
    go (inr ne) x = ap (λ (x : Bucket). x.held) (other_stays f n b j ne) ∙ free

-- each other bucket is as it was
pub all_else : (f : Bucket → Bucket) (ks : List ℕ) (b : Buckets) (j : ℕ) → times j ks ≡ 0
    → bucket_of (all_changed f ks b) j ≡ bucket_of b j
all_else f [] b j none = refl
all_else f (n ∷ ks) b j none =
    let more = times-cons j n ks in
    let ne : j ≢ n = λ e. (let one = subst (λ i. times i (n ∷ []) ≡ 1) (sym e) (times_same n) in
    omega (arith, none, more, one)) in
    all_else f ks (changed f n b) j (omega (arith, none, more)) ∙ other_stays f n b j ne

-- ---- the next chain is let go

-- the first so many are, and the next one isn't yet
pub next_held : (new : List ℕ) (i : ℕ) (b d : Buckets) → IsDistinct new → i < length new
    → d ≡ all_changed chained (take i new) b
    → ((k : ℕ) → 0 < times k new → (k < length b.records) × ((bucket_of b k).held ≡ true))
    → 0 < times (get_or new i 0) new
    → (get_or new i 0 < length d.records) × ((bucket_of d (get_or new i 0)).held ≡ true)
next_held new i b d distinct below is each there =
    let its = each (get_or new i 0) there in (
      let long = ap (λ (x : Buckets). length x.records) is ∙ all_length chained (take i new) b in
          let low = its.0 in omega (arith, long, low),
      ap (λ (x : Buckets). (bucket_of x (get_or new i 0)).held) is
          ∙ ap (λ (x : Bucket). x.held)
          (all_else chained (take i new) b (get_or new i 0) (not_before new i distinct below))
          ∙ its.1,
    )

-- one more
pub chained_more : (new : List ℕ) (i n : ℕ) (b d e x : Buckets) → i < length new
    → n ≡ get_or new i 0 → n < length d.records → d ≡ all_changed chained (take i new) b
    → e ≡ changed (with_held false) n d → x ≡ changed (marked marks.Metadata 0) n e
    → x ≡ all_changed chained (take (i + 1) new) b
chained_more new i n b d e x below is there was freed marked_ =
    marked_ ∙ ap (λ (y : Buckets). changed (marked marks.Metadata 0) n y) freed
    ∙ changed_twice (with_held false) (marked marks.Metadata 0) n d there
    ∙ ap (λ (y : Buckets). changed chained n y) was
    ∙ ap (λ j. changed chained j (all_changed chained (take i new) b)) is
    ∙ sym (all_changed_more chained new i b below)

-- ---- buckets that are touched

-- one more
pub touched_more : (new : List ℕ) (i n : ℕ) (b d e : Buckets) → i < length new
    → n ≡ get_or new i 0 → d ≡ all_touched (take i new) b → e ≡ touched n d
    → e ≡ all_touched (take (i + 1) new) b
touched_more new i n b d e below is was did =
    did ∙ ap (λ (x : Buckets). touched n x) was
    ∙ ap (λ j. touched j (all_touched (take i new) b)) is
    ∙ sym (fold_more (λ (x : Buckets) k. touched k x) b new i 0 below)

-- the records stay
pub touched_records : (ks : List ℕ) (b : Buckets) → (all_touched ks b).records ≡ b.records
touched_records [] b = refl
touched_records (n ∷ ks) b = touched_records ks (touched n b)

pub touched_size : (ks : List ℕ) (b : Buckets) → (all_touched ks b).size ≡ b.size
touched_size [] b = refl
touched_size (n ∷ ks) b = touched_size ks (touched n b)

pub touched_fit : (r : Reserves) (ks : List ℕ) (b : Buckets) → AreFor r b
    → AreFor r (all_touched ks b)
touched_fit r [] b fit = fit
touched_fit r (n ∷ ks) b fit = touched_fit r ks (touched n b)
    (record { same_count = fit.same_count; not_held = fit.not_held })

pub touched_open : (fs : List fill.Open) (r : Reserves) (ks : List ℕ) (b : Buckets)
    → AreOpen fs r b → AreOpen fs r (all_touched ks b)
touched_open fs r [] b opens = opens
touched_open fs r (n ∷ ks) b opens = touched_open fs r ks (touched n b)
    (record { distinct = opens.distinct; each = opens.each; free = opens.free })

-- ---- the lists

-- what is listed is held by nobody still
pub chained_fit : (r : Reserves) (new : List ℕ) (b : Buckets) → AreFor r b
    → AreFor r (all_changed chained new b)
chained_fit r new b fit = record {
  same_count = all_length chained new b ∙ fit.same_count;
  not_held = λ k some. free_stays chained (λ x is. refl) new b k (fit.not_held k some);
}

pub chained_loose : (r : Reserves) (old new : List ℕ) (b : Buckets) → AreLoose r b old
    → AreLoose r (all_changed chained new b) old
chained_loose r old new b loose k some = let its = loose k some in (
  its.0,
  its.1,
  free_stays chained (λ x is. refl) new b k its.2,
)

-- ---- the open ones

never : (b : Bool) → b ≡ true → b ≡ false → ⊥
never b is off = cc

none_or : (k : ℕ) (ks : List ℕ) → (0 < times k ks → ⊥) → times k ks ≡ 0
none_or k ks wrong = go (cases_lt 0 (times k ks))
  where
    go : (0 < times k ks) ⊎ (times k ks ≤ 0) → times k ks ≡ 0
    go (inl some) = absurd (wrong some)
    go (inr none) = omega (arith, none)

-- none of them was touched, so they are held, and on no list
pub open_ready : (p : BucketsPart) (named : ℕ) (new : List ℕ) → CanGo p new
    → (r : Reserves) (b : Buckets) → AreFor r b → r.count ≡ p.reserves.count
    → b ≡ all_changed made_ready (take named p.reserves.raised)
    (all_changed unmarked p.chain.items (all_changed chained new p.buckets))
    → b.size ≡ p.buckets.size → AreOpen p.fill r b
open_ready p named new can r b fit count is size = record {
  distinct = (are_open p).distinct;
  each = λ k some. its k some;
  free = subst (λ n. HaveFree n p.fill) (sym size) (are_open p).free;
}
  where
    its : (k : ℕ) → 0 < times k (bucket_numbers p.fill)
        → (k < r.count) × ((bucket_of b k).held ≡ true) × (times_listed r k ≡ 0)
    its k some = (let low = was.0 in omega (arith, low, count), held, unlisted)
      where
        was : (k < p.reserves.count) × ((bucket_of p.buckets k).held ≡ true)
            × (times_listed p.reserves k ≡ 0)
        was = (are_open p).each k some

        none_old : times k p.chain.items ≡ 0
        none_old = none_or k p.chain.items
            (λ there. never (bucket_of p.buckets k).held was.1 (can.loose k there).2)

        none_new : times k new ≡ 0
        none_new = none_or k new (λ there. (let none = (can.taken.each k there).shut in
            omega (arith, none, some)))

        none_named : times k (take named p.reserves.raised) ≡ 0
        none_named =
            let both = times-append k (take named p.reserves.raised) (drop named p.reserves.raised)
            in
            let all = ap (λ xs. times k xs) (take-append-drop named p.reserves.raised) in
            let listed = was.2 in omega (arith, both, all, listed)

        held : (bucket_of b k).held ≡ true
        held = ap (λ (x : Buckets). (bucket_of x k).held) is
            ∙ ap (λ (x : Bucket). x.held)
            (all_else made_ready (take named p.reserves.raised)
            (all_changed unmarked p.chain.items (all_changed chained new p.buckets)) k none_named
            ∙ all_else unmarked p.chain.items (all_changed chained new p.buckets) k none_old
            ∙ all_else chained new p.buckets k none_new) ∙ was.1

        unlisted : times_listed r k ≡ 0
        unlisted = go (cases_lt 0 (times_listed r k))
          where
            go : (0 < times_listed r k) ⊎ (times_listed r k ≤ 0) → times_listed r k ≡ 0
            go (inl there) = absurd (never (bucket_of b k).held held (fit.not_held k there))
            go (inr none) = omega (arith, none)
