-- A write of values to a place that the seat pinned: when the core allows it, and what it leaves.
use Rattle.std.proofs.Common.{◌≡◌, ◌≢◌, inr, ℕ, ◌+◌, ◌*◌, ◌≤◌, Bool, true, false, List, [], ◌∷◌, length, Option, Some, None, refl, sym, ap, ◌∙◌, subst, arith}
use Rattle.std.specs.Prelude.{◌==◌, fold, if◌then◌else◌}
use Rattle.std.proofs.lemmas.Bool.{lt-ltb}
use Rattle.bc_model.specs.Sector.{Value}
use Rattle.bc_model.proofs.Runs.{at_range}
use Rattle.bc_model.specs.declared.values.Values.{Values}
use Rattle.bc_data.specs.Enabled.{CanWrite}
use Rattle.bc_data.specs.Data as flow
use Rattle.bc_disk.specs.Device.{Content, after_failed_write, after_write, failed, written}
use Rattle.bc_disk.specs.Disk.{DiskFacts, IsFailedWrite, IsOnDisk, IsWritten, StandsFor}
use Rattle.bc_disk.specs.declared.disk.Device.TheVariants as which
use Rattle.bc_disk.proofs.Stands.{CountsFault, CountsGood, failed_write_stands, write_stands}
use Rattle.bc_events.specs.Columns.{Call, call_by, halt_of}
use Rattle.bc_events.specs.declared.event.Deed.{Deed}
use Rattle.bc_events.specs.declared.event.Deed.TheVariants as deed
use Rattle.bc_events.specs.declared.event.Event.{Event}
use Rattle.bc_events.specs.declared.event.Failure.TheVariants as failure
use Rattle.bc_events.specs.declared.event.UnpinKind.TheVariants as unpin
use Rattle.bc_events.specs.declared.event.Written.TheVariants as what
use Rattle.bc_fill.specs.declared.fill.Placed.{Placed}
use Rattle.bc_deed.specs.bc_hand.Seats.{Did, IsCoreSeat, MayDo, by, world}
use Rattle.bc_deed.specs.bc_hand.declared.hand.Hand.{Hand}
use Rattle.bc_deed.specs.bc_hand.declared.error.StepError.{StepError}
use Rattle.bc_deed.specs.bc_hand.declared.error.StepError.TheVariants as error
use Rattle.bc_deed.proofs.of_bc_hand.Between.{did_between}
use Rattle.bc_deed.proofs.of_bc_hand.Knowing.{View, framed, m}
use Rattle.bc_known.specs.Asked.{IsInBucket}
use Rattle.bc_deed.specs.bc_machine.Frame.{by_test}
use Rattle.bc_deed.specs.bc_machine.World.{FromEach, IsCache, Origin, Side, World, after, are_plain, cache_among, called, counted, model, opening, replay, same_device}
use Rattle.bc_deed.specs.bc_machine.declared.part.CorePart.{CorePart}
use Rattle.bc_deed.specs.bc_machine.declared.part.CorePart.TheVariants as part
use Rattle.bc_meta.specs.Layout.{Layout}
use Rattle.bc_parts.specs.Seat.{Holds, PartsView, Run}
use Rattle.bc_seats.specs.Seats.{Waited}
use Rattle.bc_seats.proofs.Knowing.{held}
use Rattle.bc_events.specs.Run as core
use Rattle.bc_place.specs.Place.{IsOwn, LiesIn}
use Rattle.bc_place.specs.Written.{HasFailedToPlace, HasStored, HasUnpinned, IsNew, KeepsPlaces, not_in, with_written}
use Rattle.bc_place.proofs.Keeping.{keeps_both, keeps_waited, opening_both, own_since}
use Rattle.bc_place.proofs.Knowing.{few, may_each}

-- it changes the cache device alone
pub cache_changed : (k : ℕ) → (if k == 0 then false else (if k == 1 then false
    else (if k == 2 then false else (if k == 3 then false else (if k == 4 then true
    else (if k == 5 then false else false)))))) ≡ (k == 4)
cache_changed k = only 0 (λ is. cc) (only 1 (λ is. cc) (only 2 (λ is. cc) (only 3 (λ is. cc)
    (same (k == 4)))))
  where
    off : (b : Bool) → (if b then false else false) ≡ false
    off true = refl
    off false = refl

    same : (b : Bool) → (if b then true else (if k == 5 then false else false)) ≡ b
    same true = refl
    same false = off (k == 5)

    only : (n : ℕ) {rest : Bool} → n ≢ 4 → rest ≡ (k == 4)
        → (if k == n then false else rest) ≡ (k == 4)
    only n {rest} ne is = by_test k n (λ b. (if b then false else rest) ≡ (k == 4))
        (λ at. sym (by_test k 4 (λ b. b ≡ false) (λ four. absurd (ne (sym at ∙ four)))
        (λ no. refl))) (λ no. is)

-- a hand whose cache device was borrowed and returned
pub same_but_cache : {C B : Type 0} (a b c : Hand C B) (o : Option C)
    → b ≡ record a { cache = None } → c ≡ record b { cache = o } → c ≡ record a { cache = c.cache }
same_but_cache a b c o lent back = back ∙ ap (λ (h : Hand _ _). record h { cache = o }) lent
    ∙ ap (λ (x : Option _). record a { cache = x }) (sym (ap (λ (h : Hand _ _). h.cache) back))

-- ---- the device

write_model : (x : Side) (at : ℕ) (values : List Value) (c : Content)
    → after_write at values (model x c) ≡ model (counted false x) (written at values c)
write_model x at values c = go x.told
  where
    go : (b : Bool) → after_write at values (model (record x { told = b }) c)
        ≡ model (counted false (record x { told = b })) (written at values c)
    go true = refl
    go false = refl

failed_model : (x : Side) (at : ℕ) (values : List Value) (c : Content)
    → after_failed_write at values (model x c) ≡ model (counted true x) (failed at values c)
failed_model x at values c = go x.told
  where
    go : (b : Bool) → after_failed_write at values (model (record x { told = b }) c)
        ≡ model (counted true (record x { told = b })) (failed at values c)
    go true = refl
    go false = refl

sectors_called : (o : Option Call) (x : Side) → (called which.Cache o x).sectors ≡ x.sectors
sectors_called None x = refl
sectors_called (Some call) x = go (same_device call.device which.Cache)
  where
    go : (b : Bool) → (if b then counted call.failed x else x).sectors ≡ x.sectors
    go true = refl
    go false = refl

sectors_stay : (x : World) (es : List Event) → (fold after x es).cache.sectors ≡ x.cache.sectors
sectors_stay x [] = refl
sectors_stay x (e ∷ es) = sectors_stay (after x e) es ∙ sectors_called (call_by e.deed) x.cache

-- some values inside a place lie in its bucket
in_bucket : (w : Layout) (q : ℕ) (p : Placed) (values : List Value) → 1 ≤ length values
    → length values ≤ p.count → LiesIn w q p → IsInBucket w q p.ptr.offset values
in_bucket w q p values some most lies = record {
  some = λ none. let is = ap (λ (vs : List Value). length vs) none in
      absurd (omega (arith, is, some));
  low = lies.low;
  high = let end = lies.high in omega (arith, end, most);
  bucket = lies.bucket;
}

never : (b : Bool) → b ≡ true → b ≡ false → ⊥
never b is off = cc

module _ {C B : Type 0} (cache_facts : C → DiskFacts) (backing_facts : B → DiskFacts) where
  pub cached_by : (p : PartsView (CorePart C B)) (v : View cache_facts backing_facts)
      → v.run ≡ p.run → are_plain cache_facts backing_facts p.run.start ≡ false
      → are_plain cache_facts backing_facts v.run.start ≡ false
  cached_by p v run cached =
      ap (λ (r : Run (CorePart C B)). are_plain cache_facts backing_facts r.start) run ∙ cached

  -- ---- when it may be done

  module _ (v : View cache_facts backing_facts) (seat : IsCoreSeat cache_facts backing_facts v)
      (cached : are_plain cache_facts backing_facts v.run.start ≡ false) (unheard : v.heard ≡ None)
      (p : Placed) (values : Values) (some : 1 ≤ length values) (most : length values ≤ p.count)
      (own : FromEach (world cache_facts backing_facts v) (IsOwn v.first p)) where
    can_write : (o : Origin) (st : core.State) → IsOwn v.first p o st
        → CanWrite o.opening.machine.flow st.machine.whole.flow v.first flow.Data p.ptr.offset values
    can_write o st its = record {
      places = λ t value here. let r = at_range p.ptr.offset values t value here in
          its.own t (r.0, let high = r.1 in omega (arith, high, most));
      sendable = tt;
    }

    pub may_store : MayDo cache_facts backing_facts v
        (deed.CacheWrite p.ptr.offset what.Data values)
    may_store = may_each cache_facts backing_facts v cached
        (deed.CacheWrite p.ptr.offset what.Data values) (λ o x is course at.
        let its = own_since cache_facts backing_facts v x seat at.since p own o is course in (
          record {
            seat = lt-ltb v.first 320 (few cache_facts backing_facts v seat);
            course = (
              record {
                data_allows = (
                  record {
                    heard = inr (at.late unheard);
                    steps = tt;
                    can = can_write o (replay o x.log) its;
                  },
                  tt,
                );
                asks = in_bucket o.opening.machine.layout
                    (o.opening.machine.flow.books.bucket p.ptr.offset) p values some most its.lies;
              },
              tt,
            );
            fit = refl;
            its_line = tt;
            plain = λ plain. absurd (never o.opening.machine.flow.plain plain is.cached);
          },
          tt,
          tt,
        ))

    pub may_fail_store : MayDo cache_facts backing_facts v
        (deed.DeviceFault (failure.CacheWrite p.ptr.offset what.Data values))
    may_fail_store = may_each cache_facts backing_facts v cached
        (deed.DeviceFault (failure.CacheWrite p.ptr.offset what.Data values))
        (λ o x is course at.
        let its = own_since cache_facts backing_facts v x seat at.since p own o is course in (
          record {
            seat = lt-ltb v.first 320 (few cache_facts backing_facts v seat);
            course = (
              record {
                data_allows = (
                  record {
                    heard = inr (at.late unheard);
                    steps = tt;
                    can = can_write o (replay o x.log) its;
                  },
                  tt,
                );
                asks = in_bucket o.opening.machine.layout
                    (o.opening.machine.flow.books.bucket p.ptr.offset) p values some most its.lies;
              },
              tt,
            );
            fit = refl;
            its_line = tt;
            plain = λ plain. absurd (never o.opening.machine.flow.plain plain is.cached);
          },
          tt,
          tt,
        ))

  -- ---- what it leaves of the device

  -- the cache device behind a commit that changed it
  committed_cache : (v w : View cache_facts backing_facts) (old new : C) (d : Deed)
      → IsCoreSeat cache_facts backing_facts v → Holds v.parts 4
      → IsCache {B = B} cache_facts backing_facts old (world cache_facts backing_facts v)
      → Did cache_facts backing_facts (Some d) v w
      → ((x : World) → IsCache {B = B} cache_facts backing_facts old x
      → IsCache {B = B} cache_facts backing_facts new (after x (by v.first d)))
      → IsCache {B = B} cache_facts backing_facts new (world cache_facts backing_facts w)
  committed_cache v w old new d seat holds on did step =
      subst (IsCache {B = B} cache_facts backing_facts new) (sym did.is.state)
      (step did.is.before (held (m cache_facts backing_facts) (framed cache_facts backing_facts) v
      did.is.before 4 (part.Cache old) seat.seat did.is.since holds (refl, on)).1)

  pub stands_stored : (v w : View cache_facts backing_facts) (old new : C) (at : ℕ)
      (values : Values) → IsCoreSeat cache_facts backing_facts v → Holds v.parts 4
      → IsCache {B = B} cache_facts backing_facts old (world cache_facts backing_facts v)
      → Did cache_facts backing_facts (Some (deed.CacheWrite at what.Data values)) v w
      → IsWritten at values (cache_facts old) (cache_facts new)
      → CountsGood (cache_facts old) (cache_facts new)
      → IsCache {B = B} cache_facts backing_facts new (world cache_facts backing_facts w)
  stands_stored v w old new at values seat holds on did is counts = committed_cache v w old new
      (deed.CacheWrite at what.Data values) seat holds on did (λ x h. record {
        stands = subst (StandsFor (cache_facts new)) (write_model x.cache at values x.held)
            (write_stands (cache_facts old) (cache_facts new) (model x.cache x.held) h.stands at
            values is counts);
      })

  pub stands_failed : (v w : View cache_facts backing_facts) (old new : C) (at : ℕ)
      (values : Values) → IsCoreSeat cache_facts backing_facts v → Holds v.parts 4
      → IsCache {B = B} cache_facts backing_facts old (world cache_facts backing_facts v)
      → Did cache_facts backing_facts
      (Some (deed.DeviceFault (failure.CacheWrite at what.Data values))) v w
      → IsFailedWrite at values (cache_facts old) (cache_facts new)
      → CountsFault (cache_facts old) (cache_facts new)
      → IsCache {B = B} cache_facts backing_facts new (world cache_facts backing_facts w)
  stands_failed v w old new at values seat holds on did is counts = committed_cache v w old new
      (deed.DeviceFault (failure.CacheWrite at what.Data values)) seat holds on did (λ x h. record {
        stands = subst (StandsFor (cache_facts new)) (failed_model x.cache at values x.held)
            (failed_write_stands (cache_facts old) (cache_facts new) (model x.cache x.held) h.stands
            at values is counts);
      })

  cache_sectors : (v : View cache_facts backing_facts) (disk : C)
      → IsCache {B = B} cache_facts backing_facts disk (world cache_facts backing_facts v)
      → (cache_facts disk).sectors ≡ (cache_among cache_facts backing_facts v.run.start).sectors
  cache_sectors v disk on = on.stands.sectors
      ∙ sectors_stay (opening cache_facts backing_facts v.run.start) v.seen

  -- the first sectors of a place lie on the device
  pub place_on_disk : (q : PartsView (CorePart C B)) (v : View cache_facts backing_facts)
      → v.run ≡ q.run → (disk : C)
      → IsCache {B = B} cache_facts backing_facts disk (world cache_facts backing_facts v)
      → (p : Placed) (n bytes : ℕ) → 1 ≤ n → n ≤ p.count → bytes ≡ 512 * n
      → p.ptr.offset + p.count ≤ (cache_among cache_facts backing_facts q.run.start).sectors
      → IsOnDisk p.ptr.offset bytes (cache_facts disk)
  place_on_disk q v run disk on p n bytes some most whole room =
      let sectors = cache_sectors v disk on
      ∙ ap (λ (r : Run (CorePart C B)). (cache_among cache_facts backing_facts r.start).sectors) run in (
        n,
        some,
        whole,
        omega (arith, sectors, most, room),
      )

  -- ---- a step between borrowing the device and returning it

  pub stored_between : (at : ℕ) (values : List Value) (u v w x : View cache_facts backing_facts)
      → ((k : ℕ) → Holds u.parts k → Holds v.parts k)
      → IsCoreSeat cache_facts backing_facts u → Waited (m cache_facts backing_facts) u v
      → HasStored cache_facts backing_facts at values v w
      → IsCoreSeat cache_facts backing_facts w → Waited (m cache_facts backing_facts) w x
      → x.seen ≡ w.seen → x.heard ≡ w.heard → IsCoreSeat cache_facts backing_facts x
      → HasStored cache_facts backing_facts at values u x
  stored_between at values u v w x still its first h seat last seen told end =
      let before = keeps_waited cache_facts backing_facts u v its first in
      let behind = keeps_waited cache_facts backing_facts w x seat last in
      record {
        did = did_between cache_facts backing_facts (Some (deed.CacheWrite at what.Data values)) u v w
            x still first h.did last seen told end;
        opening = opening_both cache_facts backing_facts u v x before.opening
            (opening_both cache_facts backing_facts v w x h.opening behind.opening);
        own = λ p known. behind.own p (h.own p (before.own p known));
        written = λ known knows. behind.written (with_written at values known)
            (h.written known (before.written known knows));
      }

  pub unstored_between : (error : StepError) (at : ℕ) (values : List Value)
      (u v w x : View cache_facts backing_facts) → ((k : ℕ) → Holds u.parts k → Holds v.parts k)
      → Waited (m cache_facts backing_facts) u v
      → HasFailedToPlace cache_facts backing_facts error at values v w
      → Waited (m cache_facts backing_facts) w x → x.seen ≡ w.seen → x.heard ≡ w.heard
      → IsCoreSeat cache_facts backing_facts x
      → HasFailedToPlace cache_facts backing_facts error at values u x
  unstored_between (error.Fault device) at values u v w x still first h last seen told seat = (
    h.0,
    did_between cache_facts backing_facts
        (Some (deed.DeviceFault (failure.CacheWrite at what.Data values))) u v w x still first h.1
        last seen told seat,
  )
  unstored_between (error.Halted device) at values u v w x still first h last seen told seat = (
    ap halt_of seen ∙ h.0,
    did_between cache_facts backing_facts None u v w x still first h.1 last seen told seat,
  )
  unstored_between error.Memory at values u v w x still first h last seen told seat =
      did_between cache_facts backing_facts None u v w x still first h last seen told seat

  pub kept_between : (u v w x : View cache_facts backing_facts)
      → IsCoreSeat cache_facts backing_facts u → Waited (m cache_facts backing_facts) u v
      → KeepsPlaces cache_facts backing_facts v w → IsCoreSeat cache_facts backing_facts w
      → Waited (m cache_facts backing_facts) w x → KeepsPlaces cache_facts backing_facts u x
  kept_between u v w x its first h seat last = keeps_both cache_facts backing_facts u v x
      (keeps_waited cache_facts backing_facts u v its first)
      (keeps_both cache_facts backing_facts v w x h
      (keeps_waited cache_facts backing_facts w x seat last))

  pub keeps_nothing : (v : View cache_facts backing_facts) → IsCoreSeat cache_facts backing_facts v
      → KeepsPlaces cache_facts backing_facts v v
  keeps_nothing v seat = record {
    opening = record { apart = λ p q h. h; before = λ n h. h };
    own = λ p h. h;
    written = λ known h. h;
  }

  pub unpinned_between : (place : Placed) (u v w x : View cache_facts backing_facts)
      → ((k : ℕ) → Holds u.parts k → Holds v.parts k)
      → IsCoreSeat cache_facts backing_facts u → Waited (m cache_facts backing_facts) u v
      → HasUnpinned cache_facts backing_facts place v w
      → IsCoreSeat cache_facts backing_facts w → Waited (m cache_facts backing_facts) w x
      → x.seen ≡ w.seen → x.heard ≡ w.heard → IsCoreSeat cache_facts backing_facts x
      → HasUnpinned cache_facts backing_facts place u x
  unpinned_between place u v w x still its first h seat last seen told end =
      let before = keeps_waited cache_facts backing_facts u v its first in
      let behind = keeps_waited cache_facts backing_facts w x seat last in
      record {
        did = did_between cache_facts backing_facts
            (Some (deed.Unpin (unpin.Place place.ptr.offset place.count))) u v w x still first h.did
            last seen told end;
        opening = opening_both cache_facts backing_facts u v x before.opening
            (opening_both cache_facts backing_facts v w x h.opening behind.opening);
        own = λ p apart known. behind.own p (h.own p (before.opening.apart place p apart)
            (before.own p known));
        written = λ known knows. behind.written (not_in place.ptr.offset place.count known)
            (h.written known (before.written known knows));
      }

  pub new_between : (place : Placed) (u v w x : View cache_facts backing_facts)
      → IsCoreSeat cache_facts backing_facts u → Waited (m cache_facts backing_facts) u v
      → IsNew cache_facts backing_facts place v w
      → IsCoreSeat cache_facts backing_facts w → Waited (m cache_facts backing_facts) w x
      → IsNew cache_facts backing_facts place u x
  new_between place u v w x its first h seat last p own =
      (keeps_waited cache_facts backing_facts w x seat last).opening.apart place p
      (h p ((keeps_waited cache_facts backing_facts u v its first).own p own))
