-- When a seat may answer what it read under its look.
use Rattle.std.proofs.Common.{◌≡◌, inl, inr, ℕ, ◌+◌, ◌-◌, ◌*◌, ◌%◌, ◌<◌, ◌≤◌, Bool, false, length, Option, Some, None, refl, sym, ap, ◌∙◌, subst, arith}
use Rattle.bc_model.specs.Sector.{Value, Gives}
use Rattle.bc_model.specs.declared.values.Values.{Values}
use Rattle.bc_model.proofs.Runs.{at_range}
use Rattle.bc_disk.specs.Disk.{DiskFacts}
use Rattle.bc_parts.specs.Seat.{PartsView, Holds}
use Rattle.bc_seats.specs.Seats.{Since}
use Rattle.bc_books.specs.Index.{Clean, Dirty, Kind, Pointer, is_dirty}
use Rattle.bc_data.specs.Seats.{Claim, Covers}
use Rattle.bc_data.specs.Enabled.{IsBacked, IsKnown}
use Rattle.bc_data.specs.Data as flow
use Rattle.bc_data.specs.Data.{claim_of}
use Rattle.bc_meta.specs.Keys.{Ref}
use Rattle.bc_whole.specs.Together.{ref_of}
use Rattle.bc_node.specs.Leaf.{Leaf}
use Rattle.bc_bucket.specs.Buckets.{Buckets, bucket_of}
use Rattle.bc_events.specs.Run.{Opening}
use Rattle.bc_events.specs.declared.event.LineNumber.{LineNumber}
use Rattle.bc_events.specs.declared.event.Deed.TheVariants as deed
use Rattle.bc_looks.specs.bc_machine.Plain.{worker_of}
use Rattle.bc_looks.specs.bc_machine.declared.part.BucketsPart.{BucketsPart}
use Rattle.bc_looks.specs.bc_machine.declared.part.CorePart.TheVariants as part
use Rattle.bc_looks.specs.bc_machine.Note.{note_of}
use Rattle.bc_looks.specs.bc_machine.World.{World, CanFollow, data_of, are_plain, opening, Origin, IsOrigin, IsSeenFrom, IsCourseOf, seen_from, replay, AreBuckets}
use Rattle.bc_looks.proofs.of_bc_machine.Viewing.{opening_stays}
use Rattle.bc_deed.specs.bc_hand.declared.hand.Hand.{Hand}
use Rattle.bc_deed.specs.bc_hand.Seats.{by, world, note, AtDeed, MayDo, Works}
use Rattle.bc_deed.proofs.of_bc_hand.Knowing.{View, m, is_plain_at}
use Rattle.bc_deed.specs.Asked.{IsWithin}
use Rattle.bc_deed.proofs.May.{can_alone, low}
use Rattle.bc_sight.specs.Sight.{Knows, IsOnBacking, IsStillLive, MayAnswer, OfClaim, claim_from, said_in}
use Rattle.bc_sight.proofs.Claims.{claim_since}
use Rattle.bc_sight.proofs.Looking.{holds_buckets, some_of}
use Rattle.bc_sight.proofs.Reading.{pointer_of}

-- ---- one sector

clean_kind : (k : Kind) → is_dirty k ≡ false → k ≡ Clean
clean_kind Clean is = refl
clean_kind Dirty is = absurd (cc)

-- the backing device has what the sector shows
backed : (leaf : Leaf) (s : ℕ) (o : Option Pointer) → ref_of o ≡ said_in leaf s → IsOnBacking leaf s
    → IsBacked o
backed leaf s None is on = tt
backed leaf s (Some r) is (inl none) = absurd (let same = is ∙ none in cc)
backed leaf s (Some r) is (inr (ref, said, clean)) = clean_kind r.kind (kind_of (is ∙ said))
  where
    dirty_in : Option Ref → Bool
    dirty_in None = false
    dirty_in (Some x) = x.dirty

    kind_of : ref_of (Some r) ≡ Some ref → is_dirty r.kind ≡ false
    kind_of same = ap dirty_in same ∙ clean

generation_of : (o : Option Pointer) (r : Pointer) (ref : Ref) → o ≡ Some r → ref_of o ≡ Some ref
    → r.version % 256 ≡ ref.generation
generation_of o r ref is same = ap generation_in (ap ref_of (sym is) ∙ same)
  where
    generation_in : Option Ref → ℕ
    generation_in None = 0
    generation_in (Some x) = x.generation

-- the pointer is of the bucket's present use
module _ (x : World) (o : Origin) (is : IsOrigin x o) (course : IsCourseOf o x.log)
    (now : BucketsPart) (there : AreBuckets now x)
    (leaf : Leaf) (before : Buckets) (read : ℕ → Option Value) (c : Claim)
    (knows : Knows o leaf before read c) (s : ℕ) (covers : Covers c s)
    (live : IsStillLive leaf before now.buckets s) where
  abbrev pub q : ℕ
  q = live.bucket - o.opening.machine.before

  behind_before : o.opening.machine.before + q ≡ live.bucket
  behind_before = let a = knows.uses.data_from in let b = live.for_data in omega arith

  within : q < o.opening.machine.layout.buckets
  within = let a = knows.uses.cut.buckets in let b = live.known in let e = behind_before in omega arith

  pub pointer : (r : Pointer) × (c.sight s ≡ Some r) × (r.place ≡ live.ref.place)
  pointer = pointer_of (c.sight s) live.ref (knows.look.sight s covers ∙ live.is)

  in_bucket : o.opening.machine.flow.books.bucket pointer.0.place ≡ q
  in_bucket = let first = knows.uses.cut.first q ∙ ap (λ n. n * before.size) behind_before in
      let size = knows.uses.cut.sectors in
      let same = pointer.2 in
      let low = live.low in
      let high = live.high in
      is.sound.laid.sector q pointer.0.place within (omega arith) (omega arith)

  in_before : o.opening.machine.before + q < length before.records
  in_before = let e = behind_before in let k = live.known in omega arith

  in_now : o.opening.machine.before + q < length now.buckets.records
  in_now = let e = behind_before in let k = live.known in
      let a = knows.uses.cut.buckets in let b = (there o is course).cut.buckets in omega arith

  version_is : pointer.0.version ≡ o.opening.machine.flow.books.version q
      + (bucket_of before (o.opening.machine.before + q)).uses
  version_is = knows.uses.uses s q pointer.0 covers pointer.1 in_bucket in_before
      (generation_of (c.sight s) pointer.0 live.ref pointer.1 (knows.look.sight s covers ∙ live.is)
      ∙ live.live ∙ ap (λ k. (bucket_of before k).generation) (sym behind_before))

  pub present : (replay o x.log).machine.whole.flow.books.generations.version
      (o.opening.machine.flow.books.bucket pointer.0.place) ≡ pointer.0.version
  present = ap (λ k. (replay o x.log).machine.whole.flow.books.generations.version k) in_bucket
      ∙ ((there o is course).records q in_now).uses
      ∙ ap (λ n. o.opening.machine.flow.books.version q + n)
      (ap (λ k. (bucket_of now.buckets k).uses) behind_before ∙ live.still
      ∙ ap (λ k. (bucket_of before k).uses) (sym behind_before))
      ∙ sym version_is

-- ---- the step

module _ {C B : Type 0} (cache_facts : C → DiskFacts) (backing_facts : B → DiskFacts) where
  module _ (p : PartsView _) (v : View cache_facts backing_facts) (h : Hand C B)
      (works : Works cache_facts backing_facts p v h)
      (cached_run : are_plain cache_facts backing_facts v.run.start ≡ false)
      (of : LineNumber) (line : worker_of v.first ≡ of.worker)
      (first : ℕ) (values : Values)
      (inside : IsWithin (note cache_facts backing_facts v).range first (length values))
      (leaf : Leaf) (before : Buckets) (read : ℕ → Option Value)
      (knows : OfClaim cache_facts backing_facts v (λ o c. Knows o leaf before read c))
      (now : BucketsPart) (is_now : h.buckets ≡ Some now)
      (may : Gives first values (λ s value. MayAnswer leaf before now.buckets (read s)
      ((note cache_facts backing_facts v).read s) s value)) where
    covers_it : (y : World) → (note_of y v.first).range ≡ (note cache_facts backing_facts v).range
        → (s : ℕ) → first ≤ s → s < first + length values → Covers (claim_of (data_of y) v.first) s
    covers_it y range s a b =
        let f = ap (λ r. r.first) range in
        let n = ap (λ r. r.count) range in
        let low = inside.0 in
        let high = inside.1 in (omega arith, omega arith)

    holds : Holds v.parts 2
    holds = subst (λ ks. Holds ks 2) (sym works.parts) (holds_buckets h now is_now)

    standing : AreBuckets now (world cache_facts backing_facts v)
    standing = some_of (λ q. AreBuckets q (world cache_facts backing_facts v)) h.buckets now is_now works.stand.buckets

    known_value : (x : World) (o : Origin) → IsOrigin x o → IsCourseOf o x.log
        → Since (m cache_facts backing_facts) v x → AreBuckets now x
        → ((s : ℕ) → (note_of (seen_from o x) v.first).read s ≡ (note cache_facts backing_facts v).read s)
        → (s : ℕ) (value : Value) → Covers (claim_of (data_of (seen_from o x)) v.first) s
        → MayAnswer leaf before now.buckets (read s) ((note cache_facts backing_facts v).read s) s value
        → IsKnown o.opening.machine.flow (data_of (seen_from o x))
        (claim_of (data_of (seen_from o x)) v.first) s value
    known_value x o is course since there same s value covers (inl (from, on)) =
        let k = claim_since cache_facts backing_facts v x works.seat (λ o c. Knows o leaf before read c) since knows o is course in
        inl (same s ∙ from, backed leaf s ((claim_from o x.log v.first).sight s) (k.look.sight s covers) on)
    known_value x o is course since there same s value covers (inr (from, live)) =
        let k = claim_since cache_facts backing_facts v x works.seat (λ o c. Knows o leaf before read c) since knows o is course in
        inr (
          (pointer x o is course now there leaf before read (claim_from o x.log v.first) k s covers live).0,
          (pointer x o is course now there leaf before read (claim_from o x.log v.first) k s covers live).1,
          present x o is course now there leaf before read (claim_from o x.log v.first) k s covers live,
          k.read_is s ∙ from,
        )

    line_at : (x y : World) → AtDeed cache_facts backing_facts v (deed.Answer of first values) x y
        → y.opening.worker v.first ≡ of.worker
    line_at x y at = at.worker ∙ ap (λ (o : Opening). o.worker v.first)
        (opening_stays (opening cache_facts backing_facts v.run.start) v.seen) ∙ line

    pub may_answer_cached : MayDo cache_facts backing_facts v (deed.Answer of first values)
    may_answer_cached x y at told =
        let seen = at.from (is_plain_at cache_facts backing_facts v x at.since ∙ cached_run) in
        go x y seen.0 seen.1 at.since (at.stand 2 (part.Buckets now) holds (refl, standing)).1
        at.note.range at.note.looked at.note.read (at.running refl) (line_at x y at)
      where
        go : (x y : World) (o : Origin) → IsSeenFrom o x y → Since (m cache_facts backing_facts) v x
            → AreBuckets now x
            → (note_of y v.first).range ≡ (note cache_facts backing_facts v).range
            → (note_of y v.first).looked ≡ (note cache_facts backing_facts v).looked
            → ((s : ℕ) → (note_of y v.first).read s ≡ (note cache_facts backing_facts v).read s)
            → (data_of y).halted ≡ false → y.opening.worker v.first ≡ of.worker
            → CanFollow y (by v.first (deed.Answer of first values))
        go x y o seen since there range looked same running line = subst (λ (z : World).
            (note_of z v.first).range ≡ (note cache_facts backing_facts v).range
            → ((s : ℕ) → (note_of z v.first).read s ≡ (note cache_facts backing_facts v).read s)
            → (data_of z).halted ≡ false → z.opening.worker v.first ≡ of.worker
            → CanFollow z (by v.first (deed.Answer of first values)))
            (sym seen.is)
            (λ range same running line. can_alone (seen_from o x) v.first (deed.Answer of first values)
            (flow.Say (flow.Answer of.line first values)) (low cache_facts backing_facts v works.seat) refl refl (record {
              heard = running;
              steps = tt;
              can = (
                (claim_since cache_facts backing_facts v x works.seat (λ o c. Knows o leaf before read c) since knows o
                    seen.origin seen.course).look.looked,
                λ s value here.
                    let range_in = at_range first values s value here in
                    let covers = covers_it (seen_from o x) range s range_in.0 range_in.1 in (
                      covers,
                      known_value x o seen.origin seen.course since there same s value covers (may s value here),
                    ),
              );
            }) tt line tt tt) range same running line
