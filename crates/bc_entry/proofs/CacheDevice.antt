-- Calls of the cache device: when the core allows a barrier, and what they leave.
use Rattle.std.proofs.Common.{◌≡◌, ◌≢◌, inr, ℕ, ◌+◌, ◌*◌, ◌<◌, ◌≤◌, Bool, true, false, List, [], ◌∷◌, length, Option, Some, None, refl, sym, ap, ◌∙◌, subst, arith}
use Rattle.std.specs.Prelude.{◌==◌, fold, if◌then◌else◌}
use Rattle.std.proofs.Math.Nat.{mul-add, mul-le-mul_left}
use Rattle.std.proofs.lemmas.Bool.{lt-ltb}
use Rattle.bc_model.specs.Sector.{Value}
use Rattle.bc_disk.specs.Device.{Content, after_barrier, after_failed_write, after_write, failed, settled, written}
use Rattle.bc_disk.specs.Disk.{DiskFacts, IsFailedWrite, IsKept, IsOnDisk, IsSettled, IsWritten, StandsFor}
use Rattle.bc_disk.specs.declared.disk.Device.TheVariants as which
use Rattle.bc_disk.specs.declared.geometry.Geometry.{Geometry}
use Rattle.bc_disk.proofs.Stands.{CountsFault, CountsGood, barrier_stands, failed_write_stands, fault_stands, write_stands}
use Rattle.bc_record.proofs.Found.{takes_some}
use Rattle.bc_jset.specs.Entries.{bucket_start}
use Rattle.bc_jset.specs.Records.{entry_kind, entry_sectors}
use Rattle.bc_jset.proofs.Records.{entry_codec}
use Rattle.bc_journal.specs.Sealed.{AreBytesOf, IsWithin, Sealed, sector_at}
use Rattle.bc_parts.specs.Seat.{Holds, PartsView, Run}
use Rattle.bc_seats.specs.Seats.{Waited}
use Rattle.bc_seats.proofs.Knowing.{held}
use Rattle.bc_data.specs.Data as flow
use Rattle.bc_events.specs.Columns.{Call, call_by, halt_of}
use Rattle.bc_events.specs.declared.event.Deed.{Deed}
use Rattle.bc_events.specs.declared.event.Deed.TheVariants as deed
use Rattle.bc_events.specs.declared.event.Event.{Event}
use Rattle.bc_events.specs.declared.event.Failure.TheVariants as failure
use Rattle.bc_events.specs.declared.event.Written.TheVariants as what
use Rattle.bc_sealing.specs.bc_machine.declared.part.CorePart.{CorePart}
use Rattle.bc_sealing.specs.bc_machine.declared.part.CorePart.TheVariants as part
use Rattle.bc_sealing.specs.bc_machine.Frame.{by_test}
use Rattle.bc_sealing.specs.bc_machine.World.{IsCache, Side, World, after, are_plain, cache_among, called, counted, model, opening, same_device}
use Rattle.bc_deed.specs.bc_hand.Seats.{Did, IsCoreSeat, MayDo, by, world}
use Rattle.bc_deed.specs.bc_hand.declared.error.StepError.{StepError}
use Rattle.bc_deed.specs.bc_hand.declared.error.StepError.TheVariants as error
use Rattle.bc_deed.proofs.of_bc_hand.Between.{did_between}
use Rattle.bc_deed.proofs.of_bc_hand.Knowing.{View, framed, m}
use Rattle.bc_deed.proofs.May.{can_alone, low}
use Rattle.bc_entry.specs.Failed.{HasFailedAtCache}

-- it changes the cache device alone
pub cache_changed : (k : ℕ) → (if k == 0 then false else (if k == 1 then false
    else (if k == 2 then false else (if k == 3 then false else (if k == 4 then true
    else (if k == 5 then false else false)))))) ≡ (k == 4)
cache_changed k = only 0 (λ is. cc) (only 1 (λ is. cc) (only 2 (λ is. cc) (only 3 (λ is. cc)
    (same (k == 4)))))
  where
    off : (b : Bool) → (if b then false else false) ≡ false
    off true = refl
    off false = refl

    same : (b : Bool) → (if b then true else (if k == 5 then false else false)) ≡ b
    same true = refl
    same false = off (k == 5)

    only : (n : ℕ) {rest : Bool} → n ≢ 4 → rest ≡ (k == 4)
        → (if k == n then false else rest) ≡ (k == 4)
    only n {rest} ne is = by_test k n (λ b. (if b then false else rest) ≡ (k == 4))
        (λ at. sym (by_test k 4 (λ b. b ≡ false) (λ four. absurd (ne (sym at ∙ four)))
        (λ no. refl))) (λ no. is)

barrier_model : (x : Side) (c : Content)
    → after_barrier (model x c) ≡ model (counted false x) (settled c)
barrier_model x c = go x.told
  where
    go : (b : Bool) → after_barrier (model (record x { told = b }) c)
        ≡ model (counted false (record x { told = b })) (settled c)
    go true = refl
    go false = refl

write_model : (x : Side) (at : ℕ) (values : List Value) (c : Content)
    → after_write at values (model x c) ≡ model (counted false x) (written at values c)
write_model x at values c = go x.told
  where
    go : (b : Bool) → after_write at values (model (record x { told = b }) c)
        ≡ model (counted false (record x { told = b })) (written at values c)
    go true = refl
    go false = refl

failed_model : (x : Side) (at : ℕ) (values : List Value) (c : Content)
    → after_failed_write at values (model x c) ≡ model (counted true x) (failed at values c)
failed_model x at values c = go x.told
  where
    go : (b : Bool) → after_failed_write at values (model (record x { told = b }) c)
        ≡ model (counted true (record x { told = b })) (failed at values c)
    go true = refl
    go false = refl

-- ---- the place of an entry

bucket_within : (g : Geometry) (i : ℕ) → i < g.journal
    → bucket_start g i + g.bucket ≤ g.bucket * g.nbuckets
bucket_within g i in_ =
    let more : g.bucket * (g.first_bucket + i + 1)
    ≡ g.bucket * (g.first_bucket + i) + g.bucket * 1 = mul-add g.bucket (g.first_bucket + i) 1 in
    let room : g.bucket * (g.first_bucket + i + 1) ≤ g.bucket * g.nbuckets =
    mul-le-mul_left g.bucket (let w = g.journal_within in omega (arith, w, in_)) in
    omega (arith, more, room)

pub entry_on_disk : (s : Sealed) (bytes : List ℕ) (at : ℕ) (d : DiskFacts) → IsWithin s
    → AreBytesOf s.geometry s.entry bytes → at ≡ sector_at s.geometry s.place
    → s.geometry.bucket * s.geometry.nbuckets ≤ d.sectors → IsOnDisk at (length bytes) d
entry_on_disk s bytes at d within are here room =
    let g = s.geometry in
    let inside = within.inside in
    let all = bucket_within g s.place.bucket within.place.bucket in (
      entry_sectors g s.entry,
      takes_some (entry_kind g) (entry_codec g) s.entry,
      are.whole,
      omega (arith, here, inside, all, room),
    )

-- ---- how many sectors the device has

sectors_called : (o : Option Call) (x : Side) → (called which.Cache o x).sectors ≡ x.sectors
sectors_called None x = refl
sectors_called (Some call) x = go (same_device call.device which.Cache)
  where
    go : (b : Bool) → (if b then counted call.failed x else x).sectors ≡ x.sectors
    go true = refl
    go false = refl

sectors_stay : (x : World) (es : List Event) → (fold after x es).cache.sectors ≡ x.cache.sectors
sectors_stay x [] = refl
sectors_stay x (e ∷ es) = sectors_stay (after x e) es ∙ sectors_called (call_by e.deed) x.cache

never : (b : Bool) → b ≡ true → b ≡ false → ⊥
never b is off = cc

module _ {C B : Type 0} (cache_facts : C → DiskFacts) (backing_facts : B → DiskFacts) where
  -- ---- when it may be done

  pub cached_by : (p : PartsView (CorePart C B)) (v : View cache_facts backing_facts)
      → v.run ≡ p.run → are_plain cache_facts backing_facts p.run.start ≡ false
      → are_plain cache_facts backing_facts v.run.start ≡ false
  cached_by p v run cached =
      ap (λ (r : Run (CorePart C B)). are_plain cache_facts backing_facts r.start) run ∙ cached

  pub may_barrier : (v : View cache_facts backing_facts)
      → IsCoreSeat cache_facts backing_facts v → v.heard ≡ None
      → are_plain cache_facts backing_facts v.run.start ≡ false
      → MayDo cache_facts backing_facts v deed.CacheBarrier
  may_barrier v seat untold cached = λ x y at told. record {
    enabled = record {
      seat = lt-ltb v.first 320 (low cache_facts backing_facts v seat);
      course = (
        record {
          data_allows = (record { heard = inr (at.late untold); steps = tt; can = tt }, tt);
          asks = tt;
        },
        tt,
      );
      fit = tt;
      its_line = tt;
      plain = λ plain. absurd (never y.opening.machine.flow.plain plain (at.plain ∙ cached));
    };
    names = tt;
    number = tt;
  }

  pub may_fail_barrier : (v : View cache_facts backing_facts)
      → IsCoreSeat cache_facts backing_facts v → v.heard ≡ None
      → MayDo cache_facts backing_facts v (deed.DeviceFault (failure.Barrier which.Cache))
  may_fail_barrier v seat untold = λ x y at told. can_alone y v.first
      (deed.DeviceFault (failure.Barrier which.Cache)) (flow.Fail flow.BarrierFault)
      (low cache_facts backing_facts v seat) refl refl
      (record { heard = inr (at.late untold); steps = tt; can = tt }) tt tt tt tt

  -- ---- what it leaves

  pub behind_barrier : (old new : C) (x : World) (i : ℕ)
      → IsCache {B = B} cache_facts backing_facts old x
      → IsSettled (cache_facts old) (cache_facts new)
      → CountsGood (cache_facts old) (cache_facts new)
      → IsCache {B = B} cache_facts backing_facts new (after x (by i deed.CacheBarrier))
  behind_barrier old new x i on is counts = record {
    stands = subst (StandsFor (cache_facts new)) (barrier_model x.cache x.held)
        (barrier_stands (cache_facts old) (cache_facts new) (model x.cache x.held) on.stands is
        counts);
  }

  pub behind_failed_barrier : (old new : C) (x : World) (i : ℕ)
      → IsCache {B = B} cache_facts backing_facts old x
      → IsKept (cache_facts old) (cache_facts new)
      → CountsFault (cache_facts old) (cache_facts new)
      → IsCache {B = B} cache_facts backing_facts new
      (after x (by i (deed.DeviceFault (failure.Barrier which.Cache))))
  behind_failed_barrier old new x i on is counts = record {
    stands = fault_stands (cache_facts old) (cache_facts new) (model x.cache x.held) on.stands is
        counts;
  }

  pub behind_write : (old new : C) (x : World) (i at : ℕ) (values : List Value)
      → IsCache {B = B} cache_facts backing_facts old x
      → IsWritten at values (cache_facts old) (cache_facts new)
      → CountsGood (cache_facts old) (cache_facts new)
      → IsCache {B = B} cache_facts backing_facts new
      (after x (by i (deed.CacheWrite at what.Entry values)))
  behind_write old new x i at values on is counts = record {
    stands = subst (StandsFor (cache_facts new)) (write_model x.cache at values x.held)
        (write_stands (cache_facts old) (cache_facts new) (model x.cache x.held) on.stands at values
        is counts);
  }

  pub behind_failed_write : (old new : C) (x : World) (i at : ℕ) (values : List Value)
      → IsCache {B = B} cache_facts backing_facts old x
      → IsFailedWrite at values (cache_facts old) (cache_facts new)
      → CountsFault (cache_facts old) (cache_facts new)
      → IsCache {B = B} cache_facts backing_facts new
      (after x (by i (deed.DeviceFault (failure.CacheWrite at what.Entry values))))
  behind_failed_write old new x i at values on is counts = record {
    stands = subst (StandsFor (cache_facts new)) (failed_model x.cache at values x.held)
        (failed_write_stands (cache_facts old) (cache_facts new) (model x.cache x.held) on.stands at
        values is counts);
  }

  pub cache_sectors : (v : View cache_facts backing_facts) (disk : C)
      → IsCache {B = B} cache_facts backing_facts disk (world cache_facts backing_facts v)
      → (cache_facts disk).sectors ≡ (cache_among cache_facts backing_facts v.run.start).sectors
  cache_sectors v disk on = on.stands.sectors
      ∙ sectors_stay (opening cache_facts backing_facts v.run.start) v.seen

  -- the cache device behind a commit that changed it
  pub committed_cache : (v w : View cache_facts backing_facts) (old new : C) (d : Deed)
      → IsCoreSeat cache_facts backing_facts v → Holds v.parts 4
      → IsCache {B = B} cache_facts backing_facts old (world cache_facts backing_facts v)
      → Did cache_facts backing_facts (Some d) v w
      → ((x : World) → IsCache {B = B} cache_facts backing_facts old x
      → IsCache {B = B} cache_facts backing_facts new (after x (by v.first d)))
      → IsCache {B = B} cache_facts backing_facts new (world cache_facts backing_facts w)
  committed_cache v w old new d seat holds on did step =
      subst (IsCache {B = B} cache_facts backing_facts new) (sym did.is.state)
      (step did.is.before (held (m cache_facts backing_facts) (framed cache_facts backing_facts) v
      did.is.before 4 (part.Cache old) seat.seat did.is.since holds (refl, on)).1)

  -- ---- a step between borrowing the device and returning it

  pub failed_between : (error : StepError) (d : Deed) (u v w x : View cache_facts backing_facts)
      → ((k : ℕ) → Holds u.parts k → Holds v.parts k) → Waited (m cache_facts backing_facts) u v
      → HasFailedAtCache cache_facts backing_facts error d v w
      → Waited (m cache_facts backing_facts) w x → x.seen ≡ w.seen → x.heard ≡ w.heard
      → IsCoreSeat cache_facts backing_facts x
      → HasFailedAtCache cache_facts backing_facts error d u x
  failed_between (error.Fault device) d u v w x still first h last seen told seat = (
    h.0,
    did_between cache_facts backing_facts (Some d) u v w x still first h.1 last seen told seat,
  )
  failed_between (error.Halted device) d u v w x still first h last seen told seat = (
    ap halt_of seen ∙ h.0,
    did_between cache_facts backing_facts None u v w x still first h.1 last seen told seat,
  )
  failed_between error.Memory d u v w x still first h last seen told seat = absurd h
