-- What takes and raises leave of the buckets in hand, and what they make of them.
use Rattle.std.proofs.Common.{◌≡◌, ℕ, zero, suc, ◌+◌, ◌-◌, ◌≤◌, true, List, [], ◌∷◌, ◌++◌, length, Option, None, Some, refl, sym, ap, ◌∙◌, subst, arith}
use Rattle.std.proofs.lemmas.List.{length-map}
use Rattle.std.proofs.lemmas.List.Elements.{All-map}
use Rattle.std.proofs.lemmas.List.Sums.{sum_by-cons}
use Rattle.std.specs.Prelude.{All, is_some, slice_index_or, slice_set, sum_by}
use Rattle.bc_alloc.proofs.Fits.{same_length}
use Rattle.bc_alloc.specs.Buckets.{all_changed}
use Rattle.bc_alloc.specs.Reserve.{Reserve, free, no_reserve}
use Rattle.bc_alloc.specs.Reserves.{IsInOrder, Reserves, place_of, wanted, with_list}
use Rattle.bc_alloc.specs.declared.purpose.Purpose.{Purpose}
use Rattle.bc_books.specs.Shelves.{Held}
use Rattle.bc_bucket.specs.Bucket.{raised, with_held}
use Rattle.bc_bucket.specs.Buckets.{Buckets, changed}
use Rattle.bc_disk.specs.Chain.{sets_in_chain}
use Rattle.bc_disk.specs.Disk.{DiskFacts}
use Rattle.bc_disk.specs.declared.geometry.Geometry.{Geometry}
use Rattle.bc_events.specs.Acts.{purpose_of}
use Rattle.bc_new_chain.proofs.of_bc_chain.of_bc_hand.Knowing.{View}
use Rattle.bc_new_chain.specs.bc_hand.Seats.{world}
use Rattle.bc_new_chain.specs.bc_chained.bc_chains.Written.{IsForChain}
use Rattle.bc_new_chain.specs.bc_held.Held.{number_in}
use Rattle.bc_new_chain.specs.bc_held.Next.{TakesBucket}
use Rattle.bc_new_chain.specs.bc_held.declared.held.HeldBucket.{HeldBucket}
use Rattle.bc_new_chain.specs.bc_held.declared.held.Want.TheVariants as want
use Rattle.bc_new_chain.specs.bc_machine.World.{replay}
use Rattle.bc_new_chain.specs.bc_machine.declared.part.BucketsPart.{BucketsPart}
use Rattle.bc_new_chain.specs.bc_renew.Raised.{HasRaised}
use Rattle.bc_refill.proofs.Going.{IsCut}
use Rattle.bc_refill.proofs.Holding.{other_numbers}
use Rattle.bc_refill.proofs.Lists.{distinct, which_in}
use Rattle.bc_refill.specs.Most.{most_of}
use Rattle.bc_refill.specs.Raised.{IsSame}
use Rattle.bc_refill.specs.Sets.{AreForSets}
use Rattle.bc_refill.specs.Taken.{AreMine, HaveTaken, IsForSet, IsWithin, numbers_of}

pub some_of : {X : Type 0} (o : Option X) → is_some o ≡ true → (x : X) × (o ≡ Some x)
some_of None is = absurd (cc)
some_of (Some x) is = (x, refl)

-- ---- how many buckets the lists have room for

room_at : (ls : List Reserve) (i j : ℕ) (ks : List ℕ)
    → (slice_index_or (slice_set ls i (record (slice_index_or ls i no_reserve) { buckets = ks })) j
    no_reserve).room ≡ (slice_index_or ls j no_reserve).room
room_at [] i j ks = refl
room_at (l ∷ ls) zero zero ks = refl
room_at (l ∷ ls) zero (suc j) ks = refl
room_at (l ∷ ls) (suc i) zero ks = refl
room_at (l ∷ ls) (suc i) (suc j) ks = room_at ls i j ks

most_with : (p : Purpose) (ks : List ℕ) (r : Reserves) → most_of (with_list p ks r) ≡ most_of r
most_with p ks r =
    let a = room_at r.lists (place_of p) 0 ks in
    let b = room_at r.lists (place_of p) 1 ks in
    let c = room_at r.lists (place_of p) 2 ks in
    let d = room_at r.lists (place_of p) 3 ks in
    omega (arith, a, b, c, d)

four_lists : (ls : List Reserve) → length ls ≡ 4 → sum_by (λ l. free l) ls
    ≤ (slice_index_or ls 0 no_reserve).room + ((slice_index_or ls 1 no_reserve).room
    + ((slice_index_or ls 2 no_reserve).room + (slice_index_or ls 3 no_reserve).room))
four_lists [] is = absurd (omega (arith, is))
four_lists (a ∷ []) is = absurd (omega (arith, is))
four_lists (a ∷ b ∷ []) is = absurd (omega (arith, is))
four_lists (a ∷ b ∷ c ∷ []) is = absurd (omega (arith, is))
four_lists (a ∷ b ∷ c ∷ d ∷ []) is = omega (
  arith,
  sum_by-cons (λ l. free l) a (b ∷ c ∷ d ∷ []),
  sum_by-cons (λ l. free l) b (c ∷ d ∷ []),
  sum_by-cons (λ l. free l) c (d ∷ []),
  sum_by-cons (λ l. free l) d [],
)
four_lists (a ∷ b ∷ c ∷ d ∷ e ∷ ls) is = absurd (omega (arith, is))

pub few_wanted : (r : Reserves) → IsInOrder r → wanted r ≤ most_of r
few_wanted r order = let four = four_lists r.lists order.four in omega (arith, four)

-- ---- what stays

-- of what a chain's entry asks for, and what memory is taken for
pub record StaysFor (p q : BucketsPart) : Type 0 where
  pub each : length q.buckets.records ≡ length p.buckets.records
  pub renewing : q.renewing ≡ p.renewing
  pub chain : q.chain ≡ p.chain
  pub raised : q.reserves.raised ≡ p.reserves.raised
  pub most : most_of q.reserves ≡ most_of p.reserves

stays_take : (b : HeldBucket) (p q : BucketsPart) → TakesBucket want.Chain b p q → StaysFor p q
stays_take b p q take = record {
  each = ap (λ (x : Buckets). length x.records) take.buckets
      ∙ same_length (with_held true) b.bucket p.buckets;
  renewing = take.rest.renewing;
  chain = take.rest.chain;
  raised = ap (λ (x : Reserves). x.raised) take.taken.others;
  most = ap most_of take.taken.others ∙ most_with _ _ p.reserves;
}

stays_both : (p q r : BucketsPart) → StaysFor p q → StaysFor q r → StaysFor p r
stays_both p q r a b = record {
  each = b.each ∙ a.each;
  renewing = b.renewing ∙ a.renewing;
  chain = b.chain ∙ a.chain;
  raised = b.raised ∙ a.raised;
  most = b.most ∙ a.most;
}

module _ {C B : Type 0} (cache_facts : C → DiskFacts) (backing_facts : B → DiskFacts) where
  pub stays_taken : (before : ℕ) (bs : List HeldBucket) (p q : BucketsPart)
      (v w : View cache_facts backing_facts)
      → HaveTaken cache_facts backing_facts before bs p q v w → StaysFor p q
  stays_taken before [] p q v w is = record {
    each = ap (λ (x : BucketsPart). length x.buckets.records) is.0;
    renewing = ap (λ (x : BucketsPart). x.renewing) is.0;
    chain = ap (λ (x : BucketsPart). x.chain) is.0;
    raised = ap (λ (x : BucketsPart). x.reserves.raised) is.0;
    most = ap (λ (x : BucketsPart). most_of x.reserves) is.0;
  }
  stays_taken before (b ∷ bs) p q v w is = stays_both p is.0 q (stays_take b p is.0 is.2.takes)
      (stays_taken before bs is.0 q is.1 w is.3)

  -- ---- buckets for sets

  pub for_sets : (g : Geometry) (bs : List HeldBucket) (v : View cache_facts backing_facts)
      → length bs ≡ sets_in_chain g → All (IsForSet g) bs → AreMine cache_facts backing_facts bs v
      → IsCut g (world cache_facts backing_facts v)
      → AreForSets g v.first (numbers_of bs) (world cache_facts backing_facts v)
  for_sets g bs v many fit mine cut = record {
    many = length-map bs (λ (b : HeldBucket). b.bucket) ∙ many;
    within = All-map (IsWithin g) (λ (b : HeldBucket). b.bucket) bs fit;
    each = λ o is course n some.
        let which = which_in n bs some in
        let its = mine.held which.0 which.1 which.2 o is course in
        let at = its.lies.number in
        let same = which.3 in
        let number : n - o.opening.machine.before ≡ number_in which.1 o = omega (arith, at, same) in (
          omega (arith, at, same),
          subst (λ q. IsForChain v.first q o (replay o (world cache_facts backing_facts v).log))
              (sym number) (record {
                inside = its.lies.inside;
                held = its.held ∙ ap (λ p. Held v.first (purpose_of p))
                    (mine.purpose which.0 which.1 which.2);
                unnamed = its.unnamed;
              }),
        );
    once = λ o is course. distinct bs (λ j k a c below first second. other_numbers a c o
        (mine.held j a first o is course).lies (mine.held k c second o is course).lies
        (mine.apart j k a c below first second o is course));
  }

-- ---- victims

pub count_raised : (ns : List ℕ) (b : Buckets)
    → length (all_changed raised ns b).records ≡ length b.records
count_raised [] b = refl
count_raised (n ∷ ns) b = count_raised ns (changed raised n b) ∙ same_length raised n b

-- what was raised of buckets that are the same
pub raised_of_same : (p q r : BucketsPart) (ns : List ℕ) → IsSame p q → HasRaised q ns r
    → HasRaised p ns r
raised_of_same p q r ns same h = record {
  reserves = h.reserves ∙ ap (λ (x : Reserves). record x { raised = x.raised ++ ns }) same.reserves;
  buckets = h.buckets ∙ ap (λ (b : Buckets). all_changed raised ns b) same.buckets;
  fill = h.fill ∙ same.fill;
  rest = record {
    chain = h.rest.chain ∙ same.rest.chain;
    renewing = h.rest.renewing ∙ same.rest.renewing;
    round = h.rest.round ∙ same.rest.round;
    served = h.rest.served ∙ same.rest.served;
  };
}
