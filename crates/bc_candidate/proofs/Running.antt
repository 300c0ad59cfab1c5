-- The buckets in hand once a run of pinned places is let go.
use Rattle.std.proofs.Common.{◌≡◌, ◌≢◌, ◌⊎◌, inl, inr, ℕ, zero, suc, ◌+◌, ◌-◌, ◌*◌, ◌/◌, ◌<◌, ◌≤◌, Bool, true, false, List, length, refl, sym, ap, ◌∙◌, subst, arith, if◌then◌else◌}
use Rattle.std.specs.Prelude.{nat_lt}
use Rattle.std.proofs.lemmas.Bool.{cases_eq, cases_lt, lt-ltb}
use Rattle.std.proofs.Math.Nat.{div-mul-le_self, lt-div-mul-add, mul-le-mul_right}
use Rattle.bc_alloc.proofs.Fits.{held_stays, other_stays, same_length, still_for, this_changes}
use Rattle.bc_alloc.specs.Buckets.{AreFor}
use Rattle.bc_alloc.specs.Reserves.{Reserves}
use Rattle.bc_books.specs.Index.{within}
use Rattle.bc_books.specs.Shelves.{Owner, Spent, put_run}
use Rattle.bc_books.proofs.Cases.{by_within}
use Rattle.bc_bucket.specs.Buckets.{Buckets, bucket_of, changed}
use Rattle.bc_bucket.specs.declared.bucket.Bucket.{Bucket}
use Rattle.bc_fill.specs.Fill.{AreOpen}
use Rattle.bc_fill.specs.declared.fill.Open.{Open}
use Rattle.bc_place.proofs.Counting.{all_in, both_in, none_before, none_behind}
use Rattle.bc_place.specs.Next.{without_pins}
use Rattle.bc_place.specs.bc_machine.Containers.{pins_in, pins_of}
use Rattle.bc_shares.specs.Shares.{Pinned, use_of}
use Rattle.bc_candidate.specs.Dead.{place_let_go, run_let_go}

-- ---- counts

abbrev one_if : Bool → ℕ
one_if b = if b then 1 else 0

-- a run with one place more
one_more : (at n t : ℕ) → one_if (within at (suc n) t)
    ≡ one_if (within at n t) + one_if (within (at + n) 1 t)
one_more at n t = by_within at (suc n) t
    (λ b. one_if b ≡ one_if (within at n t) + one_if (within (at + n) 1 t))
    (λ all. by_within at n t (λ b. 1 ≡ one_if b + one_if (within (at + n) 1 t))
    (λ old. by_within (at + n) 1 t (λ b. 1 ≡ 1 + one_if b)
    (λ new. let a = old.1 in let c = new.0 in absurd (omega (arith, a, c))) (λ _. omega arith))
    (λ not_old. by_within (at + n) 1 t (λ b. 1 ≡ 0 + one_if b) (λ _. omega arith)
    (λ not_new. let low = all.0 in let high = all.1 in
    absurd (elim (cases_lt t (at + n)) [
      | inl less ↦ not_old (low, less)
      | inr more ↦ not_new (more, omega (arith, high))
    ]))))
    (λ none. by_within at n t (λ b. 0 ≡ one_if b + one_if (within (at + n) 1 t))
    (λ old. let low = old.0 in let high = old.1 in
    absurd (none (low, omega (arith, high))))
    (λ not_old. by_within (at + n) 1 t (λ b. 0 ≡ 0 + one_if b)
    (λ new. let low = new.0 in let high = new.1 in
    absurd (none (omega (arith, low), omega (arith, high)))) (λ _. omega arith)))

both_more : (at n place m : ℕ)
    → both_in at (suc n) place m ≡ both_in at n place m + both_in (at + n) 1 place m
both_more at n place zero = omega arith
both_more at n place (suc m) =
    sums (one_if (within at (suc n) (place + m))) (one_if (within at n (place + m)))
    (one_if (within (at + n) 1 (place + m))) (both_in at (suc n) place m) (both_in at n place m)
    (both_in (at + n) 1 place m) (one_more at n (place + m)) (both_more at n place m)
  where
    sums : (a b c x y z : ℕ) → a ≡ b + c → x ≡ y + z → a + x ≡ (b + y) + (c + z)
    sums a b c x y z one rest = omega (arith, one, rest)

none_both : (at place m : ℕ) → both_in at 0 place m ≡ 0
none_both at place zero = refl
none_both at place (suc m) =
    zeros (one_if (within at 0 (place + m))) (both_in at 0 place m)
    (by_within at 0 (place + m) (λ b. one_if b ≡ 0)
    (λ is. let low = is.0 in let high = is.1 in absurd (omega (arith, low, high))) (λ _. refl))
    (none_both at place m)
  where
    zeros : (a b : ℕ) → a ≡ 0 → b ≡ 0 → a + b ≡ 0
    zeros a b x y = omega (arith, x, y)

-- so many fewer are pinned, once pinned ones are let go
pub pins_gone : (owner : ℕ → Owner) (at n : ℕ)
    → ((t : ℕ) → within at n t ≡ true → use_of (owner t) ≡ Pinned) → (place m : ℕ)
    → both_in at n place m + pins_in (put_run owner at n Spent) place m ≡ pins_in owner place m
pins_gone owner at n own place zero = refl
pins_gone owner at n own place (suc m) =
    go (within at n (place + m)) refl (pins_gone owner at n own place m)
  where
    go : (b : Bool) → within at n (place + m) ≡ b
        → both_in at n place m + pins_in (put_run owner at n Spent) place m
        ≡ pins_in owner place m
        → ((if b then 1 else 0) + both_in at n place m)
        + (pins_of (use_of (if b then Spent else owner (place + m)))
        + pins_in (put_run owner at n Spent) place m)
        ≡ pins_of (use_of (owner (place + m))) + pins_in owner place m
    go true is rest =
        let one = ap pins_of (own (place + m) is) in omega (arith, rest, one)
    go false is rest = omega (arith, rest)

-- ---- one place

-- what no change of pins changes
pub record SameBut (a b : Buckets) : Type 0 where
  pub size : b.size ≡ a.size
  pub data_from : b.data_from ≡ a.data_from
  pub touched : b.touched ≡ a.touched
  pub long : length b.records ≡ length a.records

same_place : (t : ℕ) (b : Buckets) → SameBut b (place_let_go t b)
same_place t b = go (nat_lt (t / b.size) (length b.records))
  where
    go : (c : Bool) → SameBut b (if c then changed (without_pins 1) (t / b.size) b else b)
    go true = record {
      size = refl;
      data_from = refl;
      touched = refl;
      long = same_length (without_pins 1) (t / b.size) b;
    }
    go false = record { size = refl; data_from = refl; touched = refl; long = refl }

pub same_run : (at n : ℕ) (b : Buckets) → SameBut b (run_let_go at n b)
same_run at zero b = record { size = refl; data_from = refl; touched = refl; long = refl }
same_run at (suc n) b =
    let was = same_run at n b in
    let one = same_place (at + n) (run_let_go at n b) in record {
      size = one.size ∙ was.size;
      data_from = one.data_from ∙ was.data_from;
      touched = one.touched ∙ was.touched;
      long = one.long ∙ was.long;
    }

abbrev one_less : Bucket → Bucket
one_less x = without_pins 1 x

fewer_pins : (x : Bucket) (a c : ℕ) → a ≡ c → without_pins a x ≡ without_pins c x
fewer_pins x a c is = ap (λ n. without_pins n x) is

twice : (x : Bucket) (n : ℕ) → without_pins 1 (without_pins n x) ≡ without_pins (n + 1) x
twice x n = ap (λ k. record x { pins = k })
    (let e : (x.pins - n) - 1 ≡ x.pins - (n + 1) = omega arith in e)

none_less : (x : Bucket) → x ≡ without_pins 0 x
none_less x = ap (λ k. record x { pins = k }) (let e : x.pins ≡ x.pins - 0 = omega arith in e)

-- ---- the run

module _ (size : ℕ) (some : 0 < size) where
  -- where one place lies
  lies : (t : ℕ) → ((t / size) * size ≤ t) × (t < (t / size) * size + size)
  lies t = (div-mul-le_self t size, lt-div-mul-add {a = t} some)

  there : (t j : ℕ) → j ≡ t / size → both_in t 1 (j * size) size ≡ 1
  there t j is =
      let e = ap (λ n. n * size) is in
      let l = lies t in
      let low = l.0 in
      let high = l.1 in
      all_in t 1 (j * size) size (omega (arith, e, low)) (omega (arith, e, high))

  elsewhere : (t j : ℕ) → j ≢ t / size → both_in t 1 (j * size) size ≡ 0
  elsewhere t j ne = go (cases_lt j (t / size))
    where
      l : ((t / size) * size ≤ t) × (t < (t / size) * size + size)
      l = lies t

      go : (j < t / size) ⊎ (t / size ≤ j) → both_in t 1 (j * size) size ≡ 0
      go (inl less) =
          let more : (j + 1) * size ≤ (t / size) * size = mul-le-mul_right size
          (omega (arith, less)) in
          let low = l.0 in none_before t 1 (j * size) size (omega (arith, more, low))
      go (inr from) =
          let more : (t / size + 1) * size ≤ j * size =
          mul-le-mul_right size (omega (arith, from, ne)) in
          let high = l.1 in none_behind t 1 (j * size) size (omega (arith, more, high))

  one_place : (t j c : ℕ) (b : Buckets) (x : Bucket) → b.size ≡ size → j < length b.records
      → bucket_of b j ≡ without_pins c x
      → bucket_of (place_let_go t b) j ≡ without_pins (c + both_in t 1 (j * size) size) x
  one_place t j c b x is inside was = at_size b.size (sym is)
    where
      in_it : bucket_of (if nat_lt (t / size) (length b.records)
          then changed (without_pins 1) (t / size) b else b) j
          ≡ without_pins (c + both_in t 1 (j * size) size) x
      in_it = go (cases_eq j (t / size))
        where
          go : (j ≡ t / size) ⊎ (j ≢ t / size)
              → bucket_of (if nat_lt (t / size) (length b.records)
              then changed (without_pins 1) (t / size) b else b) j
              ≡ without_pins (c + both_in t 1 (j * size) size) x
          go (inl e) = ap (λ f. bucket_of (if f then changed (without_pins 1) (t / size) b else b)
              j)
              (lt-ltb (t / size) (length b.records) (omega (arith, e, inside)))
              ∙ subst (λ k. bucket_of (changed (without_pins 1) k b) j
              ≡ without_pins (c + both_in t 1 (j * size) size) x) e
              (this_changes (without_pins 1) j b inside ∙ ap one_less was ∙ twice x c
              ∙ fewer_pins x (c + 1) (c + both_in t 1 (j * size) size)
              (let one = there t j e in omega (arith, one)))
          go (inr ne) = either (nat_lt (t / size) (length b.records))
              ∙ was ∙ fewer_pins x c (c + both_in t 1 (j * size) size)
              (let none = elsewhere t j ne in omega (arith, none))
            where
              either : (f : Bool)
                  → bucket_of (if f then changed (without_pins 1) (t / size) b else b) j
                  ≡ bucket_of b j
              either true = other_stays (without_pins 1) (t / size) b j ne
              either false = refl

      at_size : (n : ℕ) → size ≡ n → bucket_of (if nat_lt (t / n) (length b.records)
          then changed (without_pins 1) (t / n) b else b) j
          ≡ without_pins (c + both_in t 1 (j * size) size) x
      at_size n e = subst (λ m. bucket_of (if nat_lt (t / m) (length b.records)
          then changed (without_pins 1) (t / m) b else b) j
          ≡ without_pins (c + both_in t 1 (j * size) size) x) e in_it

  -- each record has so many pins fewer as the run has places in its bucket
  pub run_records : (at n j : ℕ) (b : Buckets) → b.size ≡ size → j < length b.records
      → bucket_of (run_let_go at n b) j
      ≡ without_pins (both_in at n (j * size) size) (bucket_of b j)
  run_records at zero j b is inside = none_less (bucket_of b j)
      ∙ fewer_pins (bucket_of b j) 0 (both_in at 0 (j * size) size)
      (sym (none_both at (j * size) size))
  run_records at (suc n) j b is inside =
      let same = same_run at n b in
      let long = same.long in
      one_place (at + n) j (both_in at n (j * size) size) (run_let_go at n b) (bucket_of b j)
      (same.size ∙ is) (omega (arith, long, inside)) (run_records at n j b is inside)
      ∙ fewer_pins (bucket_of b j) _ (both_in at (suc n) (j * size) size)
      (sym (both_more at n (j * size) size))

-- ---- lists, records and open buckets fit each other still

fits_place : (t : ℕ) (r : Reserves) (b : Buckets) → AreFor r b → AreFor r (place_let_go t b)
fits_place t r b h = go (nat_lt (t / b.size) (length b.records))
  where
    go : (c : Bool) → AreFor r (if c then changed (without_pins 1) (t / b.size) b else b)
    go true = still_for r r b (changed (without_pins 1) (t / b.size) b) h refl
        (same_length (without_pins 1) (t / b.size) b)
        (λ j some. (some, held_stays (without_pins 1) (λ x. refl) (t / b.size) b j))
    go false = h

pub fits_run : (at n : ℕ) (r : Reserves) (b : Buckets) → AreFor r b → AreFor r (run_let_go at n b)
fits_run at zero r b h = h
fits_run at (suc n) r b h = fits_place (at + n) r (run_let_go at n b) (fits_run at n r b h)

open_place : (t : ℕ) (fs : List Open) (r : Reserves) (b : Buckets) → AreOpen fs r b
    → AreOpen fs r (place_let_go t b)
open_place t fs r b h = go (nat_lt (t / b.size) (length b.records))
  where
    go : (c : Bool) → AreOpen fs r (if c then changed (without_pins 1) (t / b.size) b else b)
    go true = record {
      distinct = h.distinct;
      each = λ j some. let e = h.each j some in
          (e.0, held_stays (without_pins 1) (λ x. refl) (t / b.size) b j ∙ e.1, e.2);
      free = h.free;
    }
    go false = h

pub open_run : (at n : ℕ) (fs : List Open) (r : Reserves) (b : Buckets) → AreOpen fs r b
    → AreOpen fs r (run_let_go at n b)
open_run at zero fs r b h = h
open_run at (suc n) fs r b h =
    open_place (at + n) fs r (run_let_go at n b) (open_run at n fs r b h)
