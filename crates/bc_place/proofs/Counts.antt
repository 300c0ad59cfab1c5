-- The count of pins in a bucket's record, changed one by one.
use Rattle.std.proofs.Common.{◌≡◌, ℕ, ◌+◌, ◌-◌, ◌<◌, ◌≤◌, ◌^◌, List, length, sym, ap, ◌∙◌, arith}
use Rattle.std.specs.Prelude.{slice_set}
use Rattle.std.proofs.lemmas.List.{set-get_or}
use Rattle.bc_alloc.proofs.Fits.{changed_twice, same_length, this_changes}
use Rattle.bc_bucket.specs.declared.bucket.Bucket.{Bucket}
use Rattle.bc_bucket.specs.Bucket.{no_bucket, pinned, unpinned}
use Rattle.bc_bucket.specs.Buckets.{Buckets, bucket_of, changed}
use Rattle.bc_place.specs.Next.{with_pins, without_pins}

-- what changes the record alike is the same change
pub same_change : (f g : Bucket → Bucket) (k : ℕ) (b : Buckets) → f (bucket_of b k) ≡ g (bucket_of b k)
    → changed f k b ≡ changed g k b
same_change f g k b is = ap (λ (x : Bucket). record b { records = slice_set b.records k x }) is

-- and what leaves it alone is none
no_change : (f : Bucket → Bucket) (k : ℕ) (b : Buckets) → f (bucket_of b k) ≡ bucket_of b k
    → changed f k b ≡ b
no_change f k b is = ap (λ (x : Bucket). record b { records = slice_set b.records k x }) is
    ∙ ap (λ (xs : List Bucket). record b { records = xs }) (set-get_or b.records k no_bucket)

more_pins : (x : Bucket) (a c : ℕ) → a ≡ c → record x { pins = a } ≡ record x { pins = c }
more_pins x a c is = ap (λ n. record x { pins = n }) is

pub pins_none : (k : ℕ) (b : Buckets) → (bucket_of b k).pins < 2 ^ 32
    → b ≡ changed (with_pins 0) k b
pins_none k b few = sym (no_change (with_pins 0) k b (more_pins (bucket_of b k) _ _ (omega (arith, few))))

-- one more, if it can be counted
pub pins_one : (n k : ℕ) (b c : Buckets) → k < length b.records → c ≡ changed (with_pins n) k b
    → (bucket_of c k).pins < 2 ^ 32 - 1 → changed pinned k c ≡ changed (with_pins (n + 1)) k b
pins_one n k b c inside is less =
    let it = ap (λ d. bucket_of d k) is ∙ this_changes (with_pins n) k b inside in
    let its = ap (λ (x : Bucket). x.pins) it in
    ap (λ d. changed pinned k d) is ∙ changed_twice (with_pins n) pinned k b inside
    ∙ same_change (λ x. pinned (with_pins n x)) (with_pins (n + 1)) k b
    (more_pins (bucket_of b k) _ _ (omega (arith, its, less)))

pub pins_all : (n k : ℕ) (b c : Buckets) → k < length b.records → c ≡ changed (with_pins n) k b
    → 2 ^ 32 - 1 ≤ (bucket_of c k).pins → c ≡ changed (with_pins (n + 1)) k b
pins_all n k b c inside is all =
    let it = ap (λ d. bucket_of d k) is ∙ this_changes (with_pins n) k b inside in
    let its = ap (λ (x : Bucket). x.pins) it in
    is ∙ same_change (with_pins n) (with_pins (n + 1)) k b
    (more_pins (bucket_of b k) _ _ (omega (arith, its, all)))

pub pins_length : (n k : ℕ) (b c : Buckets) → c ≡ changed (with_pins n) k b
    → length c.records ≡ length b.records
pins_length n k b c is = ap (λ (d : Buckets). length d.records) is ∙ same_length (with_pins n) k b

-- ---- fewer pins

pub unpins_none : (k : ℕ) (b : Buckets) → b ≡ changed (without_pins 0) k b
unpins_none k b = sym (no_change (without_pins 0) k b (more_pins (bucket_of b k) _ _ (omega arith)))

pub unpins_one : (n k : ℕ) (b c : Buckets) → k < length b.records → c ≡ changed (without_pins n) k b
    → changed unpinned k c ≡ changed (without_pins (n + 1)) k b
unpins_one n k b c inside is = ap (λ d. changed unpinned k d) is
    ∙ changed_twice (without_pins n) unpinned k b inside
    ∙ same_change (λ x. unpinned (without_pins n x)) (without_pins (n + 1)) k b
    (more_pins (bucket_of b k) _ _ (omega arith))

pub unpins_all : (n k : ℕ) (b c : Buckets) → k < length b.records → c ≡ changed (without_pins n) k b
    → (bucket_of c k).pins ≤ 0 → c ≡ changed (without_pins (n + 1)) k b
unpins_all n k b c inside is none =
    let it = ap (λ d. bucket_of d k) is ∙ this_changes (without_pins n) k b inside in
    let its = ap (λ (x : Bucket). x.pins) it in
    is ∙ same_change (without_pins n) (without_pins (n + 1)) k b
    (more_pins (bucket_of b k) _ _ (omega (arith, its, none)))

pub unpins_length : (n k : ℕ) (b c : Buckets) → c ≡ changed (without_pins n) k b
    → length c.records ≡ length b.records
unpins_length n k b c is = ap (λ (d : Buckets). length d.records) is
    ∙ same_length (without_pins n) k b
