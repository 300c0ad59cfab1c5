-- Buckets in hand that are the same as others, but for what was written down beside them.
use Rattle.std.proofs.Common.{◌≡◌, ℕ, ◌+◌, ◌*◌, ◌<◌, List, [], length, Option, Some, sym, ap, ◌∙◌, subst}
use Rattle.std.specs.Prelude.{IfSome, Vec}
use Rattle.std.specs.declared.alloc.Global.{Global}
use Rattle.bc_alloc.specs.Reserves.{Reserves, list_of}
use Rattle.bc_alloc.specs.Victims.{AreVictims}
use Rattle.bc_alloc.specs.declared.purpose.Purpose.TheVariants as lists
use Rattle.bc_books.specs.Books.{Books}
use Rattle.bc_bucket.specs.Buckets.{Buckets, bucket_of}
use Rattle.bc_bucket.specs.declared.bucket.Mark.TheVariants as marks
use Rattle.bc_disk.specs.Disk.{DiskFacts}
use Rattle.bc_fill.specs.declared.fill.Open.{Open}
use Rattle.bc_new_chain.proofs.of_bc_chain.of_bc_hand.Knowing.{View}
use Rattle.bc_new_chain.specs.bc_hand.Seats.{Works, with_leaves, with_part, world}
use Rattle.bc_new_chain.specs.bc_hand.declared.hand.Hand.{Hand}
use Rattle.bc_new_chain.specs.bc_machine.Containers.{AreBucketsOf, IsBucketFor, IsChainOf, IsRoundOf, pins_in}
use Rattle.bc_new_chain.specs.bc_machine.World.{AreBuckets}
use Rattle.bc_new_chain.specs.bc_machine.declared.part.BucketsPart.{BucketsPart}
use Rattle.bc_new_chain.specs.bc_machine.declared.part.CorePart.{CorePart}
use Rattle.bc_new_chain.specs.bc_machine.declared.part.Tracing.{Tracing}
use Rattle.bc_parts.specs.Seat.{PartsView}
use Rattle.bc_places.specs.Stands.{IsCutInto, StandFor}
use Rattle.bc_refill.specs.Raised.{IsSame}
use Rattle.bc_shares.specs.Shares.{buckets_in}
use Rattle.bc_whole.specs.State.{Opening}

buckets_same : (w : Opening) (k : Books) (p q : BucketsPart) → IsSame p q → AreBucketsOf w k p
    → AreBucketsOf w k q
buckets_same w k p q same h = record {
  cut = subst (λ (b : Buckets). IsCutInto b.size (length b.records) w) (sym same.buckets) h.cut;
  data_from = ap (λ (b : Buckets). b.data_from) same.buckets ∙ h.data_from;
  records = subst (λ (b : Buckets). (i : ℕ) → w.before + i < length b.records
      → IsBucketFor (w.flow.books.version i) i (buckets_in k)
      (pins_in k.owner ((w.before + i) * b.size) b.size) (bucket_of b (w.before + i)))
      (sym same.buckets) h.records;
  places = subst (λ (b : Buckets). StandFor w.before b.size q.fill q.reserves k)
      (sym same.buckets)
      (subst (λ (f : List Open). StandFor w.before p.buckets.size f q.reserves k) (sym same.fill)
      (subst (λ (r : Reserves). StandFor w.before p.buckets.size p.fill r k) (sym same.reserves)
      h.places));
  outside = subst (λ (b : Buckets). (n : ℕ) → n < w.before → (bucket_of b n).mark
      ≡ marks.Metadata) (sym same.buckets) h.outside;
  room = ap (λ (r : Reserves). (list_of lists.Priorities r).room) same.reserves ∙ h.room;
  chain = subst (λ (c : Vec ℕ Global). IsChainOf w.before w.flow.books.sets k.chains.of
      k.chains.ready k.chains.sealed c.items q.renewing) (sym same.rest.chain)
      (subst (λ r. IsChainOf w.before w.flow.books.sets k.chains.of k.chains.ready k.chains.sealed
      p.chain.items r) (sym same.rest.renewing) h.chain);
  round = subst (λ (b : Buckets). IsRoundOf w.flow.books w.before (length b.records) k.round
      b.touched q.round) (sym same.buckets)
      (subst (λ (t : Tracing). IsRoundOf w.flow.books w.before (length p.buckets.records) k.round
      p.buckets.touched t) (sym same.rest.round) h.round);
}

pub victims_same : (p q : BucketsPart) (vs : List ℕ) → IsSame p q
    → AreVictims p.reserves p.buckets vs → AreVictims q.reserves q.buckets vs
victims_same p q vs same h = subst (λ (r : Reserves). AreVictims r q.buckets vs)
    (sym same.reserves) (subst (λ (b : Buckets). AreVictims p.reserves b vs) (sym same.buckets) h)

module _ {C B : Type 0} (cache_facts : C → DiskFacts) (backing_facts : B → DiskFacts) where
  pub works_same : (ps : PartsView (CorePart C B)) (v : View cache_facts backing_facts)
      (h k : Hand C B) (p q : BucketsPart) → h.buckets ≡ Some p
      → k ≡ record h { buckets = Some q } → IsSame p q
      → Works cache_facts backing_facts ps v h → Works cache_facts backing_facts ps v k
  works_same ps v h k p q is rest same works =
      subst (λ (x : Hand C B). Works cache_facts backing_facts ps v x) (sym rest) (record {
        run = works.run;
        seat = works.seat;
        parts = works.parts
            ∙ ap (λ (o : Option BucketsPart). with_part 5 h.backing (with_part 4 h.cache (with_part 3
            h.journal (with_part 2 o (with_part 1 h.flight (with_leaves h.leaves
            (with_part 0 h.spine []))))))) is;
        stand = record {
          spine = works.stand.spine;
          leaves = works.stand.leaves;
          flight = works.stand.flight;
          buckets = λ o origin course. buckets_same o.opening.machine _ p q same
              (stands o origin course);
          journal = works.stand.journal;
          cache = works.stand.cache;
          backing = works.stand.backing;
        };
      })
    where
      stands : AreBuckets p (world cache_facts backing_facts v)
      stands = subst (λ (o : Option BucketsPart). IfSome o (λ b. AreBuckets b
          (world cache_facts backing_facts v))) is works.stand.buckets
