-- Steps with the buckets in hand, one behind the other.
use Rattle.std.proofs.Common.{◌≡◌, ℕ, List, [], ◌∷◌, ◌++◌, Option, None, Some, refl, ap, ◌∙◌, subst, arith}
use Rattle.std.specs.Prelude.{IfNone, IfSome, is_some}
use Rattle.bc_disk.specs.Disk.{DiskFacts}
use Rattle.bc_disk.specs.declared.geometry.Geometry.{Geometry}
use Rattle.bc_facts.specs.Layout.{IsLayoutOf}
use Rattle.bc_journal.specs.Journal.{Journal}
use Rattle.bc_new_chain.proofs.of_bc_chain.of_bc_hand.Knowing.{View}
use Rattle.bc_new_chain.specs.bc_hand.Seats.{Kinds, Works, kinds, world}
use Rattle.bc_new_chain.specs.bc_hand.declared.hand.Hand.{Hand}
use Rattle.bc_new_chain.specs.bc_held.Held.{IsHeldFor}
use Rattle.bc_new_chain.specs.bc_held.Taken.{LetGo, TiesBuckets, Took}
use Rattle.bc_new_chain.specs.bc_held.declared.held.HeldBucket.{HeldBucket}
use Rattle.bc_new_chain.specs.bc_held.declared.held.Want.TheVariants as want
use Rattle.bc_new_chain.specs.bc_machine.World.{FromEach, IsJournal, World}
use Rattle.bc_new_chain.specs.bc_machine.declared.part.BucketsPart.{BucketsPart}
use Rattle.bc_new_chain.specs.bc_machine.declared.part.CorePart.{CorePart}
use Rattle.bc_new_chain.specs.bc_place.Place.{HasBefore}
use Rattle.bc_parts.specs.Seat.{PartsView}
use Rattle.bc_refill.specs.Hands.{HasAll}
use Rattle.bc_refill.specs.Taken.{HaveLetGo, HaveTaken, IsForSet}

-- ---- what a call's answer says

pub if_none : {X : Type 0} (P : Type 0) (o : Option X) → o ≡ None → IfNone o P → P
if_none P None is h = h
if_none P (Some x) is h = absurd (cc)

pub if_some : {X : Type 0} (P : X → Type 0) (o : Option X) (x : X) → o ≡ Some x → IfSome o P → P x
if_some P None x is h = absurd (cc)
if_some P (Some y) x is h = let same : y ≡ x = cc in subst P same h

-- ---- hands

module _ {C B : Type 0} where
  abbrev pub WithBuckets : Hand C B → Hand C B → Type 0
  WithBuckets h k = k ≡ record h { buckets = k.buckets }

  pub rest_then : (h k l : Hand C B) → WithBuckets h k → WithBuckets k l → WithBuckets h l
  rest_then h k l first second = second
      ∙ ap (λ (x : Hand C B). record x { buckets = l.buckets }) first

  pub tied_same : (h : Hand C B) (tie : BucketsPart → BucketsPart → Type 0)
      → ((p : BucketsPart) → tie p p) → TiesBuckets h h tie
  tied_same h tie each p is = (p, is, each p)

  pub tied_then : (h k l : Hand C B) (first second both : BucketsPart → BucketsPart → Type 0)
      → ((p q r : BucketsPart) → first p q → second q r → both p r)
      → TiesBuckets h k first → TiesBuckets k l second → TiesBuckets h l both
  tied_then h k l first second both join a b p is = let x = a p is in let y = b x.0 x.1 in
      (y.0, y.1, join p x.0 y.0 x.2 y.2)

  pub tied_as : (h k : Hand C B) (first second : BucketsPart → BucketsPart → Type 0)
      → ((p q : BucketsPart) → first p q → second p q) → TiesBuckets h k first
      → TiesBuckets h k second
  tied_as h k first second makes a p is = let x = a p is in (x.0, x.1, makes p x.0 x.2)

  -- other buckets in hand are some too
  pub all_on : (g : Geometry) (h k : Hand C B) → kinds k ≡ kinds h → WithBuckets h k → HasAll g h
      → HasAll g k
  all_on g h k same rest all = record {
    buckets = ap (λ (x : Kinds). x.buckets) same ∙ all.buckets;
    journal = all.journal;
    is_journal = ap (λ (x : Hand C B). x.journal) rest ∙ all.is_journal;
    divided = all.divided;
    cache = ap (λ (x : Hand C B). is_some x.cache) rest ∙ all.cache;
  }

-- ---- what the journal in hand says of the device

pub record IsCut (g : Geometry) (x : World) : Type 0 where
  pub layout : FromEach x (λ o st. IsLayoutOf g o.opening.machine.layout)
  pub before : FromEach x (HasBefore g.first_bucket)

pub cut_by : (g : Geometry) (j : Journal) (x : World) → IsJournal j x → j.ring.geometry ≡ g
    → IsCut g x
cut_by g j x stands is = subst (λ (y : Geometry). IsCut y x) is (record {
  layout = λ o origin course. (stands.stands o origin course).ring.layout;
  before = λ o origin course. (stands.stands o origin course).ring.before;
})

module _ {C B : Type 0} (cache_facts : C → DiskFacts) (backing_facts : B → DiskFacts) where
  -- ---- steps

  pub took_more : (before : ℕ) (bs : List HeldBucket) (b : HeldBucket) (p q r : BucketsPart)
      (u v w : View cache_facts backing_facts)
      → HaveTaken cache_facts backing_facts before bs p q u v
      → Took cache_facts backing_facts before want.Chain b q r v w
      → HaveTaken cache_facts backing_facts before (bs ++ b ∷ []) p r u w
  took_more before [] b p q r u v w is more = (
    r,
    w,
    subst (λ (x : View cache_facts backing_facts). Took cache_facts backing_facts before want.Chain
        b p r x w) is.1
        (subst (λ (x : BucketsPart). Took cache_facts backing_facts before want.Chain b x r v w)
        is.0 more),
    (refl, refl),
  )
  took_more before (c ∷ cs) b p q r u v w is more =
      (is.0, is.1, is.2, took_more before cs b is.0 q r is.1 v w is.3 more)

  pub gone_more : (before : ℕ) (bs : List HeldBucket) (b : HeldBucket) (p q r : BucketsPart)
      (u v w : View cache_facts backing_facts)
      → HaveLetGo cache_facts backing_facts before bs p q u v
      → LetGo cache_facts backing_facts before b q r v w
      → HaveLetGo cache_facts backing_facts before (bs ++ b ∷ []) p r u w
  gone_more before [] b p q r u v w is more = (
    r,
    w,
    subst (λ (x : View cache_facts backing_facts). LetGo cache_facts backing_facts before b p r x w)
        is.1
        (subst (λ (x : BucketsPart). LetGo cache_facts backing_facts before b x r v w) is.0 more),
    (refl, refl),
  )
  gone_more before (c ∷ cs) b p q r u v w is more =
      (is.0, is.1, is.2, gone_more before cs b is.0 q r is.1 v w is.3 more)

  -- ---- the journal in hand

  pub cut_in : (p : PartsView (CorePart C B)) (v : View cache_facts backing_facts) (h : Hand C B)
      (g : Geometry) → Works cache_facts backing_facts p v h → HasAll g h
      → IsCut g (world cache_facts backing_facts v)
  cut_in p v h g works all = cut_by g all.journal (world cache_facts backing_facts v)
      (subst (λ (o : Option Journal). IfSome o (λ j. IsJournal j
      (world cache_facts backing_facts v))) all.is_journal works.stand.journal) all.divided

  -- ---- buckets that fit

  -- from each opening a bucket that the seat holds is one of the device's
  pub fits : (v : View cache_facts backing_facts) (g : Geometry) (b : HeldBucket)
      → IsCut g (world cache_facts backing_facts v)
      → FromEach (world cache_facts backing_facts v) (IsHeldFor v.first b)
      → FromEach (world cache_facts backing_facts v) (λ o st. IsForSet g b)
  fits v g b cut held o is course =
      let first = cut.before o is course in
      let many = (cut.layout o is course).buckets in
      let lies = (held o is course).lies in
      let at = lies.number in
      let inside = lies.inside in
      let within = g.journal_within in record {
        low = omega (arith, first, at);
        high = omega (arith, first, at, inside, many, within);
      }
