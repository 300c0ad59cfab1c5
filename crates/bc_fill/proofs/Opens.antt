-- Open buckets before and after a place was cut.
use Rattle.std.proofs.Common.{◌≡◌, ◌≢◌, ◌⊎◌, inl, inr, ℕ, ◌+◌, ◌*◌, ◌<◌, ◌≤◌, ◌==◌, Bool, true, false, cond, List, [], ◌∷◌, length, get_or, refl, sym, ap, ◌∙◌, subst, arith, if◌then◌else◌, get_or-set_other}
use Rattle.std.proofs.Math.Nat.{mul-le-mul_left}
use Rattle.std.proofs.lemmas.Bool.{cases_eq}
use Rattle.std.proofs.lemmas.Bool.Decides.{eqb_tells}
use Rattle.std.proofs.lemmas.List.Sums.{sum_by-cons}
use Rattle.bc_bucket.specs.declared.bucket.Bucket.{Bucket}
use Rattle.bc_bucket.specs.Bucket.{no_bucket, with_held}
use Rattle.bc_bucket.specs.Buckets.{Buckets, bucket_of, changed}
use Rattle.bc_alloc.specs.declared.purpose.Purpose.TheVariants as purposes
use Rattle.bc_alloc.specs.Reserve.{times}
use Rattle.bc_alloc.specs.Reserves.{Reserves, plain_unless_empty, times_listed}
use Rattle.bc_fill.specs.declared.fill.Open.{Open}
use Rattle.bc_fill.specs.declared.fill.Placed.{Placed}
use Rattle.bc_fill.specs.Fill.{after, bucket_numbers, shut_if_full, AreOpen, HaveFree, IsCut}

pub by_test : (a b : ℕ) (P : Bool → Type 0) → (a ≡ b → P true) → (a ≢ b → P false) → P (a == b)
by_test a b P same other = go (eqb_tells a b)
  where
    go : (((a == b) ≡ true) × (a ≡ b)) ⊎ (((a == b) ≡ false) × (a ≢ b)) → P (a == b)
    go (inl t) = subst P (sym t.0) (same t.1)
    go (inr t) = subst P (sym t.0) (other t.1)

pub plain_is_plain : (ks : List ℕ) → plain_unless_empty ks purposes.Plain ≡ purposes.Plain
plain_is_plain [] = refl
plain_is_plain (k ∷ ks) = refl

pub times-cons : (k x : ℕ) (xs : List ℕ) → times k (x ∷ xs) ≡ times k (x ∷ []) + times k xs
times-cons k x xs = omega (arith, sum_by-cons (λ (y : ℕ). cond {A = ℕ} (y == k) 1 0) x xs)

pub times_same : (k : ℕ) → times k (k ∷ []) ≡ 1
times_same k = by_test k k (λ b. 0 + cond {A = ℕ} b 1 0 ≡ 1) (λ _. refl) (λ ne. absurd (ne refl))

-- the first one is among them
pub first_there : (fs : List Open) (d : Open) → 0 < length fs → 0 < times (get_or fs 0 d).bucket (bucket_numbers fs)
first_there [] d some = absurd (omega arith)
first_there (o ∷ fs) d some = let c = times-cons o.bucket o.bucket (bucket_numbers fs) in let one = times_same o.bucket in omega arith

pub first_free : (size : ℕ) (fs : List Open) (d : Open) → 0 < length fs → HaveFree size fs → (get_or fs 0 d).next < size
first_free size [] d some h = absurd (omega arith)
first_free size (o ∷ fs) d some h = h.0

-- a place's first sector is below 2 ^ 43
pub small_offset : (k size : ℕ) → k < 1048576 → size ≤ 32768 → k * size ≤ 34359738368
small_offset k size low few = let m = mul-le-mul_left k few in omega arith

still_open : (fs : List Open) (r : Reserves) (b : Buckets) (n : ℕ) (o : Open) (rest : List Open) → fs ≡ o ∷ rest → AreOpen fs r b → o.next + n ≤ b.size → AreOpen (after b.size n o rest) r (shut_if_full b.size n o b)
still_open fs r b n o rest e h most = go (subst (λ (xs : List Open). AreOpen xs r b) e h)
  where
    go : AreOpen (o ∷ rest) r b → AreOpen (after b.size n o rest) r (shut_if_full b.size n o b)
    go h =
        by_test (o.next + n) b.size
        (λ t. AreOpen (if t then rest else record o { next = o.next + n } ∷ rest) r (if t then changed (with_held false) o.bucket b else b))
        (λ full. record {
          distinct = λ k. let c = times-cons k o.bucket (bucket_numbers rest) in let d = h.distinct k in omega arith;
          each = λ k some. each k some (cases_eq k o.bucket);
          free = h.free.1;
        })
        (λ part. record { distinct = h.distinct; each = h.each; free = (omega (arith, part), h.free.1) })
      where
        each : (k : ℕ) → 0 < times k (bucket_numbers rest) → (k ≡ o.bucket) ⊎ (k ≢ o.bucket) → (k < r.count) × ((bucket_of (changed (with_held false) o.bucket b) k).held ≡ true) × (times_listed r k ≡ 0)
        each k some (inl same) =
            absurd (let c = times-cons k o.bucket (bucket_numbers rest) in let d = h.distinct k in let one = subst (λ (j : ℕ). times k (j ∷ []) ≡ 1) same (times_same k) in omega arith)
        each k some (inr ne) =
            let was = h.each k (let c = times-cons k o.bucket (bucket_numbers rest) in omega arith) in
            (was.0, ap (λ (x : Bucket). x.held) (get_or-set_other b.records o.bucket k (with_held false (bucket_of b o.bucket)) no_bucket ne) ∙ was.1, was.2)

pub cut_open : (fs gs : List Open) (r : Reserves) (b d : Buckets) (count : ℕ) (p : Placed) → AreOpen fs r b → IsCut fs gs b d count p → AreOpen gs r d
cut_open fs gs r b d count p h c =
    let free = subst (λ (xs : List Open). HaveFree b.size xs) c.were h.free in
    subst (λ (xs : List Open). AreOpen xs r d) (sym c.are)
    (subst (λ (x : Buckets). AreOpen (after b.size p.count c.first c.rest) r x) (sym c.buckets)
    (still_open fs r b p.count c.first c.rest c.were h (let n = c.placed.sectors in let low = free.0 in omega arith)))

abbrev pub drop_one : List Open → List Open
drop_one [] = []
drop_one (o ∷ fs) = fs

pub head_of : (fs : List Open) (d : Open) → 0 < length fs → fs ≡ get_or fs 0 d ∷ drop_one fs
head_of [] d some = absurd (omega arith)
head_of (o ∷ fs) d some = refl

pub is_none : (n : ℕ) → (n == 0) ≡ true → n ≡ 0
is_none n t = by_test n 0 (λ b. b ≡ true → n ≡ 0) (λ e _. e) (λ ne f. absurd (cc)) t

-- what is held is a bucket of the device
pub first_below : (fs : List Open) (d : Open) (n : ℕ) → 0 < length fs → ((k : ℕ) → 0 < times k (bucket_numbers fs) → k < n) → (get_or fs 0 d).bucket < n
first_below fs d n some low = low (get_or fs 0 d).bucket (first_there fs d some)
