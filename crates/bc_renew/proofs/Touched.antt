-- Buckets that a trace round won't settle, and what else a change of many buckets leaves.
use Rattle.std.proofs.Common.{◌≡◌, ◌≢◌, ◌⊎◌, inl, inr, ℕ, ◌<◌, Bool, true, false, List, [], ◌∷◌, length, get_or, set, refl, sym, ◌∙◌, subst, arith, get_or-set_same, get_or-set_other, length-set}
use Rattle.std.specs.Prelude.{if◌then◌else◌}
use Rattle.std.proofs.lemmas.Bool.{cases_eq}
use Rattle.bc_alloc.proofs.Fits.{other_stays}
use Rattle.bc_alloc.proofs.Times.{times-cons, times_other, times_same}
use Rattle.bc_alloc.specs.Buckets.{all_changed}
use Rattle.bc_alloc.specs.Reserve.{Reserve, appended, has_room, times}
use Rattle.bc_alloc.specs.Reserves.{Reserves, returned, returned_all, stored, stored_all}
use Rattle.bc_bucket.specs.Buckets.{Buckets, bucket_of, changed}
use Rattle.bc_bucket.specs.declared.bucket.Bucket.{Bucket}
use Rattle.bc_fill.specs.declared.fill.Open as fill
use Rattle.bc_renew.specs.Goes.{first_list}
use Rattle.bc_renew.specs.Ready.{all_touched, touched}
use Rattle.bc_renew.proofs.Put.{Stands}
use Rattle.bc_books.specs.Books.{Books}
use Rattle.bc_whole.specs.State.{Opening}

-- ---- what touching leaves

pub touched_records : (ks : List ℕ) (b : Buckets) → (all_touched ks b).records ≡ b.records
touched_records [] b = refl
touched_records (n ∷ ks) b = touched_records ks (touched n b)

pub touched_size : (ks : List ℕ) (b : Buckets) → (all_touched ks b).size ≡ b.size
touched_size [] b = refl
touched_size (n ∷ ks) b = touched_size ks (touched n b)

pub touched_data : (ks : List ℕ) (b : Buckets) → (all_touched ks b).data_from ≡ b.data_from
touched_data [] b = refl
touched_data (n ∷ ks) b = touched_data ks (touched n b)

pub touched_long : (ks : List ℕ) (b : Buckets)
    → length (all_touched ks b).touched ≡ length b.touched
touched_long [] b = refl
touched_long (n ∷ ks) b = touched_long ks (touched n b) ∙ length-set b.touched n true

-- what is known of the records is known of them still
pub touched_stands : (w : Opening) (k : Books) (r : Reserves) (fs : List fill.Open) (ks : List ℕ)
    (b : Buckets) → Stands w k b r fs → Stands w k (all_touched ks b) r fs
touched_stands w k r fs [] b s = s
touched_stands w k r fs (n ∷ ks) b s = touched_stands w k r fs ks (touched n b)
    (record { records = s.records; places = s.places })

-- ---- which ones are touched

abbrev pub is_touched : Buckets → ℕ → Bool
is_touched b j = get_or b.touched j false

-- each other one is as it was
pub touched_else : (ks : List ℕ) (b : Buckets) (j : ℕ) → times j ks ≡ 0
    → is_touched (all_touched ks b) j ≡ is_touched b j
touched_else [] b j none = refl
touched_else (n ∷ ks) b j none =
    let more = times-cons j n ks in
    let ne : j ≢ n = λ e. (let one = subst (λ i. times i (n ∷ []) ≡ 1) (sym e) (times_same n) in
    omega (arith, none, more, one)) in
    touched_else ks (touched n b) j (omega (arith, none, more))
    ∙ get_or-set_other b.touched n j true false ne

-- one that is touched stays so
touched_stays : (ks : List ℕ) (b : Buckets) (j : ℕ) → j < length b.touched
    → is_touched b j ≡ true → is_touched (all_touched ks b) j ≡ true
touched_stays [] b j within is = is
touched_stays (n ∷ ks) b j within is = touched_stays ks (touched n b) j
    (let long = length-set b.touched n true in omega (arith, long, within)) (go (cases_eq j n))
  where
    go : (j ≡ n) ⊎ (j ≢ n) → is_touched (touched n b) j ≡ true
    go (inl e) = subst (λ i. get_or (set b.touched i true) j false ≡ true) e
        (get_or-set_same b.touched j true false within)
    go (inr ne) = get_or-set_other b.touched n j true false ne ∙ is

-- and each of these is
pub touched_there : (ks : List ℕ) (b : Buckets) (j : ℕ) → j < length b.touched → 0 < times j ks
    → is_touched (all_touched ks b) j ≡ true
touched_there [] b j within some = absurd (let none : times j [] ≡ 0 = refl in
    omega (arith, some, none))
touched_there (n ∷ ks) b j within some =
    go (cases_eq j n) (λ there. touched_there ks (touched n b) j
    (let same = length-set b.touched n true in omega (arith, same, within)) there)
  where
    go : (j ≡ n) ⊎ (j ≢ n)
        → (0 < times j ks → is_touched (all_touched ks (touched n b)) j ≡ true)
        → is_touched (all_touched ks (touched n b)) j ≡ true
    go (inl e) more = touched_stays ks (touched n b) j
        (let same = length-set b.touched n true in omega (arith, same, within))
        (subst (λ i. get_or (set b.touched i true) j false ≡ true) e
        (get_or-set_same b.touched j true false within))
    go (inr ne) more = more (let both = times-cons j n ks in
        let none = times_other j n (λ e. ne (sym e)) in omega (arith, some, both, none))

-- ---- other buckets, and how long the first list may be

-- each other bucket is as it was
pub all_else : (f : Bucket → Bucket) (ks : List ℕ) (b : Buckets) (j : ℕ) → times j ks ≡ 0
    → bucket_of (all_changed f ks b) j ≡ bucket_of b j
all_else f [] b j none = refl
all_else f (n ∷ ks) b j none =
    let more = times-cons j n ks in
    let ne : j ≢ n = λ e. (let one = subst (λ i. times i (n ∷ []) ≡ 1) (sym e) (times_same n) in
    omega (arith, none, more, one)) in
    all_else f ks (changed f n b) j (omega (arith, none, more)) ∙ other_stays f n b j ne

stored_room : (n : ℕ) (ls : List Reserve) → (first_list (stored n ls)).room ≡ (first_list ls).room
stored_room n [] = refl
stored_room n (l ∷ ls) = go (has_room l)
  where
    go : (b : Bool) → (first_list (if b then appended n l ∷ ls else l ∷ stored n ls)).room ≡ l.room
    go true = refl
    go false = refl

pub stored_all_room : (ks : List ℕ) (ls : List Reserve)
    → (first_list (stored_all ks ls)).room ≡ (first_list ls).room
stored_all_room [] ls = refl
stored_all_room (n ∷ ks) ls = stored_all_room ks (stored n ls) ∙ stored_room n ls

returned_room : (n : ℕ) (ls : List Reserve)
    → (first_list (returned n ls)).room ≡ (first_list ls).room
returned_room n [] = refl
returned_room n (l ∷ ls) = go (has_room l)
  where
    go : (b : Bool) → (if b then appended n l else l).room ≡ l.room
    go true = refl
    go false = refl

pub returned_all_room : (ks : List ℕ) (ls : List Reserve)
    → (first_list (returned_all ks ls)).room ≡ (first_list ls).room
returned_all_room [] ls = refl
returned_all_room (n ∷ ks) ls = returned_all_room ks (returned n ls) ∙ returned_room n ls
