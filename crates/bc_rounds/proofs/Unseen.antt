-- A part that the core sees no difference in stands for the same books.
use Rattle.std.proofs.Common.{◌≡◌, ℕ, ◌+◌, ◌*◌, ◌<◌, Bool, List, length, sym, ap, ◌∙◌, subst, arith}
use Rattle.std.specs.Prelude.{Vec}
use Rattle.std.specs.declared.alloc.Global.{Global}
use Rattle.bc_alloc.specs.Reserves.{Reserves, list_of}
use Rattle.bc_alloc.specs.declared.purpose.Purpose.TheVariants as lists
use Rattle.bc_books.specs.Books.{Books}
use Rattle.bc_bucket.specs.Buckets.{bucket_of}
use Rattle.bc_bucket.specs.declared.bucket.Bucket.{Bucket}
use Rattle.bc_fill.specs.declared.fill.Open.{Open}
use Rattle.bc_machine.specs.Containers.{AreBucketsOf, IsBucketFor, IsChainOf, IsRoundOf, mark_of, pins_in}
use Rattle.bc_machine.specs.declared.part.BucketsPart.{BucketsPart}
use Rattle.bc_machine.specs.declared.part.Tracing.{Tracing}
use Rattle.bc_places.specs.Stands.{IsCutInto, StandFor}
use Rattle.bc_shares.specs.Shares.{BucketsShare, buckets_in}
use Rattle.bc_whole.specs.State.{Opening}
use Rattle.bc_rounds.specs.Unseen.{HasUnseen, IsAlike, LawUnseen}

alike_stands : (opened q : ℕ) (x : BucketsShare) (pinned : ℕ) (a b : Bucket) → IsAlike a b
    → IsBucketFor opened q x pinned a → IsBucketFor opened q x pinned b
alike_stands opened q x pinned a b same h = record {
  generation = same.generation ∙ h.generation;
  uses = h.uses ∙ ap (λ n. opened + n) (sym same.uses);
  last_gc = same.last_gc ∙ h.last_gc;
  mark = ap mark_of same.mark ∙ h.mark;
  pins = same.pins ∙ h.pins;
  held = same.held ∙ h.held;
}

module _ (w : Opening) (k : Books) (p q : BucketsPart) (h : AreBucketsOf w k p)
    (on : HasUnseen p q) where
  size : q.buckets.size ≡ p.buckets.size
  size = on.buckets.size

  long : length q.buckets.records ≡ length p.buckets.records
  long = on.buckets.long

  its_record : (j : ℕ) → w.before + j < length p.buckets.records
      → IsBucketFor (w.flow.books.version j) j (buckets_in k)
      (pins_in k.owner ((w.before + j) * p.buckets.size) p.buckets.size)
      (bucket_of q.buckets (w.before + j))
  its_record j inside = alike_stands (w.flow.books.version j) j (buckets_in k) _
      (bucket_of p.buckets (w.before + j)) (bucket_of q.buckets (w.before + j))
      (on.buckets.each (w.before + j) inside) (h.records j inside)

  pub unseen : AreBucketsOf w k q
  unseen = record {
    cut = subst (λ n. IsCutInto n (length q.buckets.records) w) (sym size)
        (subst (λ n. IsCutInto p.buckets.size n w) (sym long) h.cut);
    data_from = on.buckets.data_from ∙ h.data_from;
    records = λ j inside. subst (λ n. IsBucketFor (w.flow.books.version j) j (buckets_in k)
        (pins_in k.owner ((w.before + j) * n) n) (bucket_of q.buckets (w.before + j))) (sym size)
        (its_record j (let all = long in omega (arith, inside, all)));
    places = subst (λ n. StandFor w.before n q.fill q.reserves k) (sym size)
        (subst (λ (fs : List Open). StandFor w.before p.buckets.size fs q.reserves k) (sym on.fill)
        (subst (λ (r : Reserves). StandFor w.before p.buckets.size p.fill r k) (sym on.reserves)
        h.places));
    outside = λ n less. (on.buckets.each n (let all = h.cut.buckets in omega (arith, less, all))).mark
        ∙ h.outside n less;
    room = ap (λ (r : Reserves). (list_of lists.Priorities r).room) on.reserves ∙ h.room;
    chain = subst (λ (b : Bool). IsChainOf w.before w.flow.books.sets k.chains.of k.chains.ready
        k.chains.sealed q.chain.items b) (sym on.renewing)
        (subst (λ (c : Vec ℕ Global). IsChainOf w.before w.flow.books.sets k.chains.of
        k.chains.ready k.chains.sealed c.items p.renewing) (sym on.chain) h.chain);
    round = subst (λ (t : Tracing). IsRoundOf w.flow.books w.before (length q.buckets.records)
        k.round q.buckets.touched t) (sym on.round)
        (subst (λ (l : List Bool). IsRoundOf w.flow.books w.before (length q.buckets.records)
        k.round l p.round) (sym on.buckets.touched)
        (subst (λ n. IsRoundOf w.flow.books w.before n k.round p.buckets.touched p.round)
        (sym long) h.round));
  }

pub law_unseen : LawUnseen
law_unseen w k p q h on = unseen w k p q h on
