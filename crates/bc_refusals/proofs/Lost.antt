-- No dirty data of a sound run is lost, and what is read lies on the device.
use Rattle.std.proofs.Common.{◌≡◌, inl, inr, ℕ, ◌+◌, ◌-◌, ◌*◌, ◌<◌, ◌≤◌, List, [], ◌∷◌, Some, sym, ◌∙◌, subst, arith}
use Rattle.std.specs.Prelude.{length, slice_get}
use Rattle.std.proofs.Math.Nat.{div-lt_iff_lt-mul, mul_comm}
use Rattle.std.proofs.lemmas.List.Elements.{All-cons, All-nil}
use Rattle.bc_books.specs.Index.{latest}
use Rattle.bc_bucket.specs.Buckets.{Buckets}
use Rattle.bc_cache.specs.Slots.{NodeCache}
use Rattle.bc_cache.specs.declared.slots.Cached.{Cached}
use Rattle.bc_disk.specs.Disk.{DiskFacts}
use Rattle.bc_disk.specs.declared.geometry.Geometry.{Geometry}
use Rattle.bc_request.specs.bc_hand.Seats.{world}
use Rattle.bc_request.proofs.of_bc_looks.Law.{law_keys}
use Rattle.bc_request.specs.bc_machine.World.{AreBuckets, AreLeaves, IsCourseOf, IsOrigin, Origin, World, cache_among, replay}
use Rattle.bc_request.specs.bc_machine.declared.part.BucketsPart.{BucketsPart}
use Rattle.bc_request.specs.bc_machine.declared.part.CorePart.{CorePart}
use Rattle.bc_node.specs.Leaf.{Leaf}
use Rattle.bc_parts.specs.Seat.{Run}
use Rattle.bc_request.specs.bc_reader.Look.{IsLostBy}
use Rattle.bc_request.specs.bc_reader.Runs.{EndsBy, LieWithin}
use Rattle.bc_request.specs.bc_reads.Reads.{AreRuns, HasLost, IsReadFrom, moved}
use Rattle.bc_request.specs.bc_reads.declared.runs.ReadRun.{ReadRun}
use Rattle.bc_request.specs.bc_reads.declared.source.ReadFrom.{ReadFrom}
use Rattle.bc_shares.specs.Shares.{books_of}
use Rattle.bc_request.proofs.of_bc_sight.Looking.{some_of}
use Rattle.bc_request.specs.bc_sight.Sight.{said_in}
use Rattle.bc_whole.specs.Together.{ref_of}
use Rattle.bc_refusals.specs.Laws.{LawLost}
use Rattle.bc_refusals.specs.Over.{IsOfDevice}
use Rattle.bc_refusals.proofs.Before.{over_before}
use Rattle.bc_refusals.proofs.Pointed.{live_there}

-- ---- runs

-- the last sector of a run that is read from the cache device lies in a bucket that is known
ends_by : (leaf : Leaf) (b : Buckets) (s end : ℕ) (rs : List ReadRun) → 0 < b.size
    → AreRuns leaf b s end rs → LieWithin rs (length b.records * b.size)
ends_by leaf b s end [] some are = All-nil (EndsBy (length b.records * b.size))
ends_by leaf b s end (r ∷ rs) some are = All-cons (EndsBy (length b.records * b.size)) r rs
    (λ at dirty is.
    let count = are.1 in
    let k = r.first + r.count - 1 - r.first in
    let last = subst (λ (from : ReadFrom).
    IsReadFrom leaf b (r.first + r.count - 1) (moved from k)) is
    (are.2 (r.first + r.count - 1) (omega arith) (omega arith)) in
    let known = last.4.known in
    let below = (div-lt_iff_lt-mul {k = b.size} {x = at + k} {y = length b.records} some).0 known in
    omega arith)
    (ends_by leaf b (s + r.count) end rs some are.3)

further : (end more : ℕ) (rs : List ReadRun) → end ≤ more → LieWithin rs end → LieWithin rs more
further end more rs le all = λ i d lt at dirty is. let here = all i d lt at dirty is in omega arith

-- ---- the index

module _ (x : World) (o : Origin) (g : Geometry) (sectors : ℕ) (is : IsOrigin x o)
    (course : IsCourseOf o x.log) (device : IsOfDevice o g sectors) (part : ℕ) (c : NodeCache)
    (leaves : AreLeaves part c x) (slot : ℕ) (cached : Cached)
    (at : slice_get c.slots slot ≡ Some (Some cached)) (p : BucketsPart) (buckets : AreBuckets p x)
  where
    -- where the leaf's last key points, the core's does
    sight_of : (s : ℕ) → cached.leaf.from ≤ s → s < cached.leaf.end
        → ref_of (latest (books_of (replay o x.log).machine).index s) ≡ said_in cached.leaf s
    sight_of s low high =
        let leaf = (leaves o is course).leaves slot cached at in
        let first = leaf.at.first in
        let end = leaf.at.end_is in
        sym (law_keys x o is course cached.number s leaf.at.role (omega arith, omega arith))
        ∙ sym (leaf.keys s low high)

    none_lost : (first end : ℕ) → cached.leaf.from ≤ first → end ≤ cached.leaf.end
        → ¬ (HasLost cached.leaf p.buckets first end)
    none_lost first end from to lost =
        let low = lost.1 in
        let high = lost.2 in
        let by = lost.3 in
        by.3 (live_there x o g sectors is course device p (buckets o is course) lost.0 by.0
        (sight_of lost.0 (omega arith) (omega arith) ∙ by.1) by.2)

    whole_size : length p.buckets.records * p.buckets.size ≤ sectors
    whole_size =
        let are = buckets o is course in
        let count = are.cut.buckets in
        let before = device.before in
        let all = device.layout.buckets in
        let within = g.journal_within in
        let buckets : length p.buckets.records ≡ g.nbuckets = omega arith in
        let size : p.buckets.size ≡ g.bucket = sym are.cut.sectors ∙ device.layout.bucket_sectors in
        let swap = mul_comm g.nbuckets g.bucket in
        let whole = device.whole in
        subst (λ (n : ℕ). n * p.buckets.size ≤ sectors) (sym buckets)
        (subst (λ (n : ℕ). g.nbuckets * n ≤ sectors) (sym size) (omega arith))

    some_size : 0 < p.buckets.size
    some_size =
        let size : p.buckets.size ≡ g.bucket = sym (buckets o is course).cut.sectors
        ∙ device.layout.bucket_sectors in
        let wide = g.bucket_from in
        omega arith

    not_lost : (first end : ℕ) → cached.leaf.from ≤ first → end ≤ cached.leaf.end
        → ¬ (IsLostBy cached.leaf p.buckets first end sectors)
    not_lost first end from to (inl lost) = none_lost first end from to lost
    not_lost first end from to (inr out) = out.2 (further
        (length p.buckets.records * p.buckets.size) sectors out.0 whole_size
        (ends_by cached.leaf p.buckets first end out.0 some_size out.1))

-- ---- the look

module _ {C B : Type 0} (cache_facts : C → DiskFacts) (backing_facts : B → DiskFacts) where
  pub law_lost : LawLost {C = C} {B = B} cache_facts backing_facts
  law_lost o g p first count v w over h =
      let now = over_before cache_facts backing_facts o g [] h.at w h.then over in
      let x = world cache_facts backing_facts h.at in
      let lost = h.stop.0 in
      let hand = lost.both.leaf.hand in
      let leaves = (some_of (λ l. _ × AreLeaves _ l.cache x) h.hand.leaves hand lost.both.leaf.is
      h.works.stand.leaves).1 in
      let buckets = some_of (λ q. AreBuckets q x) h.hand.buckets lost.both.buckets.part
      lost.both.buckets.is h.works.stand.buckets in
      not_lost x o g (cache_among cache_facts backing_facts p.run.start).sectors now.origin
      now.course
      (subst (λ (r : Run (CorePart C B)). IsOfDevice o g
      (cache_among cache_facts backing_facts r.start).sectors) h.works.run now.device)
      (hand.part - 6) hand.cache leaves lost.both.slot lost.both.cached lost.both.leaf.at
      lost.both.buckets.part buckets first (first + count) lost.both.leaf.from lost.both.leaf.end
      lost.lost
