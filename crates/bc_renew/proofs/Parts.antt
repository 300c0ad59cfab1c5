-- The buckets in hand, in a state of a run.
use Rattle.std.proofs.Common.{◌≡◌, ℕ, ◌<◌, List, [], ◌∷◌, sym, subst, arith, length, true}
use Rattle.std.proofs.Math.Logic.{∥∥₁_elim}
use Rattle.std.proofs.Props.{props}
use Rattle.bc_alloc.specs.Reserve.{times, IsDistinct}
use Rattle.bc_alloc.specs.Reserves.{Reserves, times_listed}
use Rattle.bc_books.specs.Invariant.{IsInOrder}
use Rattle.bc_bucket.specs.Buckets.{Buckets, bucket_of}
use Rattle.bc_events.specs.Run.{State}
use Rattle.bc_events.specs.declared.event.Event.{Event}
use Rattle.bc_fill.specs.Fill.{AreOpen, HaveFree, bucket_numbers}
use Rattle.bc_fill.specs.declared.fill.Open.{Open}
use Rattle.bc_known.proofs.Law.{At, order_at}
use Rattle.bc_known.specs.Known.{AreLaid}
use Rattle.bc_known.specs.Laws.{IsSound}
use Rattle.bc_machine.specs.Standing.{oldest_first, replay_is, replay_runs}
use Rattle.bc_machine.specs.World.{IsCourseOf, Origin, replay}
use Rattle.bc_machine.specs.declared.part.BucketsPart.{BucketsPart}
use Rattle.bc_places.specs.Laws.{AreSpread}
use Rattle.bc_places.specs.Stands.{IsCutInto}
use Rattle.bc_shares.proofs.Law.{at_state}
use Rattle.bc_shares.specs.Shares.{books_of}
use Rattle.bc_whole.specs.State as whole

-- ---- what is true of open buckets has one proof

free_prop : (size : ℕ) (fs : List Open) → IsProp (HaveFree size fs)
free_prop size [] x y = λ i. tt
free_prop size (o ∷ fs) x y =
    let one_prop : IsProp (o.next < size) = hlevel props in
    λ i. (one_prop x.0 y.0 i, free_prop size fs x.1 y.1 i)

open_prop : (fs : List Open) (r : Reserves) (b : Buckets) → IsProp (AreOpen fs r b)
open_prop fs r b x y =
    let distinct_prop : IsProp (IsDistinct (bucket_numbers fs)) = hlevel props in
    let each_prop : IsProp ((k : ℕ) → 0 < times k (bucket_numbers fs)
    → (k < r.count) × ((bucket_of b k).held ≡ true) × (times_listed r k ≡ 0)) = hlevel props in
    λ i. record {
      distinct = distinct_prop x.distinct y.distinct i;
      each = each_prop x.each y.each i;
      free = free_prop b.size fs x.free y.free i;
    }

pub are_open : (p : BucketsPart) → AreOpen p.fill p.reserves p.buckets
are_open p = ∥∥₁_elim p.open (open_prop p.fill p.reserves p.buckets) (λ x. x)

-- ---- a state of a run

pub at_course : (o : Origin) → IsSound o.opening.machine o.parts → (es : List Event) → IsCourseOf o
    es
    → At o.opening.machine o.parts (replay o es).machine
at_course o sound es on = subst (λ (st : State). At o.opening.machine o.parts st.machine)
    (sym (replay_is o es))
    (at_state o.opening o.parts o.next_seq (oldest_first es) sound (replay_runs o es on))

pub order_course : (o : Origin) → IsSound o.opening.machine o.parts → (es : List Event)
    → IsCourseOf o es
    → IsInOrder o.opening.machine.flow.books (books_of (replay o es).machine)
order_course o sound es on = order_at o.opening.machine o.parts (replay o es).machine.whole sound
    (at_course o sound es on).at

-- the sectors of each bucket
pub spread : (w : whole.Opening) (p : BucketsPart) → AreLaid w
    → IsCutInto p.buckets.size (length p.buckets.records) w
    → AreSpread w.before p.buckets.size p.reserves.count w.flow.books
spread w p laid cut = λ q t below lo hi.
    let n = cut.buckets in
    let first = cut.first q in
    let sectors = cut.sectors in
    let same = p.fit.same_count in
    laid.sector q t (omega (arith, n, same, below)) (omega (arith, first, lo))
    (omega (arith, first, sectors, hi))
