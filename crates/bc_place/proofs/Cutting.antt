-- The next place of the buckets in hand, and what is cut of it.
use Rattle.std.proofs.Common.{◌≡◌, ℕ, ◌+◌, ◌-◌, ◌<◌, ◌≤◌, ◌==◌, Bool, true, false, List, [], ◌∷◌, length, Option, Some, None, refl, sym, ap, ◌∙◌, subst, arith}
use Rattle.std.specs.Prelude.{min, if◌then◌else◌}
use Rattle.bc_alloc.specs.Reserves.{Reserves}
use Rattle.bc_bucket.specs.Bucket.{with_held}
use Rattle.bc_bucket.specs.Buckets.{Buckets, changed}
use Rattle.bc_fill.specs.Fill.{AreOpen, IsCut, IsOpened, Places, after, shut_if_full, with_opened}
use Rattle.bc_fill.specs.declared.fill.Open as fill
use Rattle.bc_fill.specs.declared.fill.Placed.{Placed}
use Rattle.bc_deed.specs.bc_machine.Frame.{by_test}
use Rattle.bc_deed.specs.bc_machine.declared.part.BucketsPart.{BucketsPart}
use Rattle.bc_places.proofs.Ends.{fills_is}
use Rattle.bc_place.specs.Next.{IsNext}
use Rattle.bc_place.specs.Place.{IsUpTo}
use Rattle.bc_place.proofs.Parts.{are_open}

-- it is in an open bucket
pub next_open : (p : BucketsPart) (count : ℕ) (pl : Placed) (full : Bool) → IsNext p count pl full
    → 0 < length p.fill
next_open p count pl full next = let is = ap (λ (fs : List fill.Open). length fs) next.were in
    omega (arith, is)

-- a bucket that is shut leaves the size of each
pub cut_size : (b d : Buckets) (n : ℕ) (o : fill.Open) → d ≡ shut_if_full b.size n o b
    → d.size ≡ b.size
cut_size b d n o is = ap (λ (x : Buckets). x.size) is ∙ go (o.next + n == b.size)
  where
    go : (full : Bool) → (if full then changed (with_held false) o.bucket b else b).size ≡ b.size
    go true = refl
    go false = refl

-- as many sectors as were asked for, or as the bucket has left
pub next_up_to : (p : BucketsPart) (count : ℕ) (pl : Placed) (full : Bool) → 1 ≤ count
    → IsNext p count pl full → IsUpTo count pl full
next_up_to p count pl full asked next =
    let opens = subst (λ fs. AreOpen fs p.reserves p.buckets) next.were (are_open p) in
    let free = opens.free.0 in
    let sectors = next.placed.sectors in
    let some : 1 ≤ pl.count = omega (arith, sectors, free, asked) in
    let fits : next.first.next + pl.count ≤ p.buckets.size = omega (arith, sectors, free) in
    record {
      device = next.placed.device;
      some = some;
      few = let small = next.small in omega (arith, fits, small);
      most = omega (arith, sectors);
      rest = λ less. next.full_is
          ∙ fills_is next.first.bucket p.buckets.size next.first.next pl.count pl.ptr.offset
          next.placed.offset some fits
          ∙ by_test (next.first.next + pl.count) p.buckets.size (λ b. b ≡ true) (λ _. refl)
          (λ ne. absurd (ne (omega (arith, sectors, free, less))));
    }

-- the place that is cut is the next one
pub cut_is : (part : BucketsPart) (count : ℕ) (p q : Placed) (full : Bool) (gs : List fill.Open)
    (r : Reserves) (d : Buckets) → IsNext part count p full
    → Places q count part.fill gs part.reserves r part.buckets d
    → (r ≡ part.reserves) × IsCut part.fill gs part.buckets d count p
cut_is part count p q full gs r d next placed =
    go q.opened placed.between placed.opening placed.cut
  where
    as_next : IsCut part.fill gs part.buckets d count q → IsCut part.fill gs part.buckets d count p
    as_next c =
        let both : c.first ∷ c.rest ≡ next.first ∷ next.rest = sym c.were ∙ next.were in
        let one : c.first ≡ next.first = cc in
        let others : c.rest ≡ next.rest = cc in
        let sectors : q.count ≡ p.count = c.placed.sectors
        ∙ ap (λ (x : fill.Open). min count (part.buckets.size - x.next)) one
        ∙ sym next.placed.sectors in
        record {
          first = next.first;
          rest = next.rest;
          were = next.were;
          placed = next.placed;
          are = c.are ∙ ap (λ (x : fill.Open). after part.buckets.size q.count x c.rest) one
              ∙ ap (λ (xs : List fill.Open). after part.buckets.size q.count next.first xs) others
              ∙ ap (λ n. after part.buckets.size n next.first next.rest) sectors;
          buckets = c.buckets
              ∙ ap (λ (x : fill.Open). shut_if_full part.buckets.size q.count x part.buckets) one
              ∙ ap (λ n. shut_if_full part.buckets.size n next.first part.buckets) sectors;
        }

    go : (x : Option ℕ) (between : Buckets)
        → IsOpened x part.fill part.reserves r part.buckets between
        → IsCut (with_opened x part.fill) gs between d count q
        → (r ≡ part.reserves) × IsCut part.fill gs part.buckets d count p
    go None between opened cut = (
      opened.1,
      as_next (subst (λ (b : Buckets). IsCut part.fill gs b d count q) opened.2 cut),
    )
    go (Some n) between opened cut =
        let e : [] ≡ next.first ∷ next.rest = sym opened.0 ∙ next.were in absurd (cc)
