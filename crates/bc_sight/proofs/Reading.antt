-- When a seat may read places of the cache device, and what it knows then.
use Rattle.std.proofs.Common.{◌≡◌, ◌≢◌, ◌⊎◌, inl, inr, ℕ, suc, ◌+◌, ◌-◌, ◌<◌, ◌≤◌, Bool, true, false, List, [], ◌∷◌, length, Option, Some, None, refl, sym, ap, ◌∙◌, subst, arith}
use Rattle.std.specs.Prelude.{fold, ◌==◌, ◌&&◌, if◌then◌else◌}
use Rattle.std.proofs.lemmas.Bool.{cases_lt}
use Rattle.bc_model.specs.Sector.{Value, Gives, at_run}
use Rattle.bc_model.specs.declared.values.Values.{Values}
use Rattle.bc_model.proofs.Runs.{at_range}
use Rattle.bc_disk.specs.Device.{Among, Content}
use Rattle.bc_disk.specs.Disk.{DiskFacts, IsKept, IsRead}
use Rattle.bc_disk.specs.Stands.{MayRead}
use Rattle.bc_disk.proofs.Stands.{CountsFault, CountsGood, fault_stands, read_may, read_stands}
use Rattle.bc_disk.specs.declared.disk.Device.TheVariants as device
use Rattle.bc_parts.specs.Seat.{Holds}
use Rattle.bc_seats.specs.Seats.{Since, Waited}
use Rattle.bc_seats.proofs.Knowing.{held, lasts}
use Rattle.bc_books.specs.Index.{Pointer}
use Rattle.bc_data.specs.Seats.{Covers, noted}
use Rattle.bc_data.specs.Data as flow
use Rattle.bc_data.specs.Data.{claim_of}
use Rattle.bc_meta.specs.Keys.{Ref}
use Rattle.bc_whole.specs.Together.{ref_of}
use Rattle.bc_node.specs.Leaf.{Leaf}
use Rattle.bc_bucket.specs.Buckets.{Buckets}
use Rattle.bc_events.specs.Columns.{call_by, halt_of}
use Rattle.bc_events.specs.declared.event.Event.{Event}
use Rattle.bc_events.specs.declared.event.Deed.{Deed}
use Rattle.bc_events.specs.declared.event.Deed.TheVariants as deed
use Rattle.bc_events.specs.declared.event.Failure.TheVariants as failure
use Rattle.bc_looks.specs.bc_machine.declared.part.CorePart.TheVariants as part
use Rattle.bc_looks.specs.bc_machine.Note.{note_of}
use Rattle.bc_looks.specs.bc_machine.Frame.{by_test}
use Rattle.bc_looks.specs.bc_machine.World.{World, CanFollow, after, called, counted, same_device, Side, cache_among, data_of, is_told, are_plain, model, opening, Origin, IsOrigin, IsSeenFrom, IsCourseOf, seen_from, replay, IsCache}
use Rattle.bc_deed.specs.bc_hand.Seats.{by, world, note, IsCoreSeat, MayDo, Did}
use Rattle.bc_deed.specs.bc_hand.declared.error.StepError.{StepError}
use Rattle.bc_deed.specs.bc_hand.declared.hand.Hand.{Hand}
use Rattle.bc_deed.specs.bc_hand.declared.error.StepError.TheVariants as error
use Rattle.bc_deed.proofs.of_bc_hand.Between.{did_between}
use Rattle.bc_deed.proofs.of_bc_hand.Knowing.{View, m, framed, is_plain_at}
use Rattle.bc_deed.specs.Asked.{IsWithin}
use Rattle.bc_deed.proofs.May.{can_alone, low}
use Rattle.bc_sight.specs.Asked.{HasFailedRead, HasFailedReadOr}
use Rattle.bc_sight.specs.Sight.{HasLooked, Knows, OfClaim, PointsTo, claim_from, with_values}
use Rattle.bc_sight.proofs.Claims.{cached_claim, claim_committed, claim_since, claim_waited}
use Rattle.bc_sight.proofs.Held.{IsHeld, cache_of, held_stays, run_held}

-- a hand whose cache device was borrowed and returned
pub same_but_cache : {C B : Type 0} (a b c : Hand C B) (o : Option C)
    → b ≡ record a { cache = None } → c ≡ record b { cache = o }
    → c ≡ record a { cache = c.cache }
same_but_cache a b c o lent back = back ∙ ap (λ (h : Hand _ _). record h { cache = o }) lent
    ∙ ap (λ (p : Option _). record a { cache = p }) (sym (ap (λ (h : Hand _ _). h.cache) back))

-- a run of values, further on
at_shift : (n first : ℕ) (vs : List Value) (s : ℕ) → at_run (n + first) vs (n + s) ≡ at_run first vs s
at_shift n first [] s = refl
at_shift n first (v ∷ vs) s =
    let next : n + suc first ≡ suc (n + first) = omega arith in
    let rest : at_run (suc (n + first)) vs (n + s) ≡ at_run (suc first) vs s =
    ap (λ k. at_run k vs (n + s)) (sym next) ∙ at_shift n (suc first) vs s in
    by_test (n + first) (n + s) (λ b. (if b then Some v else at_run (suc (n + first)) vs (n + s))
    ≡ (if first == s then Some v else at_run (suc first) vs s))
    (λ e. by_test first s (λ b. Some v ≡ (if b then Some v else at_run (suc first) vs s)) (λ _. refl)
    (λ ne. absurd (ne (omega arith))))
    (λ ne. by_test first s (λ b. at_run (suc (n + first)) vs (n + s)
    ≡ (if b then Some v else at_run (suc first) vs s)) (λ e. absurd (ne (ap (λ k. n + k) e))) (λ _. rest))

-- the same run of values, from one sector on and from a place on
same_run : (first at s t : ℕ) (values : List Value) → t + first ≡ at + s
    → at_run at values t ≡ at_run first values s
same_run first at s t values is = go (cases_lt first at)
  where
    go : (first < at) ⊎ (at ≤ first) → at_run at values t ≡ at_run first values s
    go (inl less) = ap (λ n. at_run n values t) (omega arith)
        ∙ ap (λ n. at_run (at - first + first) values n) (omega arith)
        ∙ at_shift (at - first) first values s
    go (inr more) = sym (ap (λ n. at_run n values s) (omega arith)
        ∙ ap (λ n. at_run (first - at + at) values n) (omega arith)
        ∙ at_shift (first - at) at values t)

-- a pointer that is there
pub pointer_of : (o : Option Pointer) (ref : Ref) → ref_of o ≡ Some ref
    → (r : Pointer) × (o ≡ Some r) × (r.place ≡ ref.place)
pointer_of None ref is = absurd (cc)
pointer_of (Some r) ref is = (r, refl, ap (λ (x : Option Ref). place_in x) is)
  where
    place_in : Option Ref → ℕ
    place_in None = 0
    place_in (Some x) = x.place

and_left : (p q : Bool) → (p && q) ≡ true → p ≡ true
and_left true q is = refl
and_left false q is = absurd (cc)

told_reads : (t : Bool) (content : Content) (at : ℕ) (values : List Value) → t ≡ true
    → MayRead at values (if t then Some content else None)
    → Gives at values (λ t v. Among v (content.reads t))
told_reads true content at values is h = h
told_reads false content at values is h = absurd (cc)

module _ {C B : Type 0} (cache_facts : C → DiskFacts) (backing_facts : B → DiskFacts) where
  -- what the cache device holds to the core, at each state behind the seat's
  held_at : (v : View cache_facts backing_facts) (x : World) → Since (m cache_facts backing_facts) v x → IsHeld x
  held_at v x since = lasts (m cache_facts backing_facts) v x IsHeld (λ y e may h. held_stays y e h) since
      (run_held cache_facts backing_facts v.run.start v.seen)

  module _ (v : View cache_facts backing_facts) (seat : IsCoreSeat cache_facts backing_facts v)
      (cached_run : are_plain cache_facts backing_facts v.run.start ≡ false)
      (disk : C) (holds : Holds v.parts 4)
      (on : IsCache {C = C} {B = B} cache_facts backing_facts disk (world cache_facts backing_facts v))
      (leaf : Leaf) (knows : OfClaim cache_facts backing_facts v (λ o c. HasLooked leaf c))
      (first at : ℕ) (values : Values)
      (within : IsWithin (note cache_facts backing_facts v).range first (length values))
      (points : PointsTo leaf first (length values) at) where
    covers_it : (y : World) → (note_of y v.first).range ≡ (note cache_facts backing_facts v).range
        → (s : ℕ) → first ≤ s → s < first + length values → Covers (claim_of (data_of y) v.first) s
    covers_it y range s a b =
        let f = ap (λ r. r.first) range in
        let n = ap (λ r. r.count) range in
        let low = within.0 in
        let high = within.1 in (omega arith, omega arith)

    -- where the sector points, from the opening
    pointed : (x : World) (o : Origin) → Since (m cache_facts backing_facts) v x → IsOrigin x o
        → IsCourseOf o x.log → (s : ℕ) → first ≤ s → s < first + length values
        → Covers (claim_from o x.log v.first) s
        → (r : Pointer) × ((claim_from o x.log v.first).sight s ≡ Some r) × (r.place + first ≡ at + s)
    pointed x o since is course s a b covers =
        let look = claim_since cache_facts backing_facts v x seat (λ o c. HasLooked leaf c) since knows o is course in
        let key = points s a b in
        let one = pointer_of ((claim_from o x.log v.first).sight s) key.0 (look.sight s covers ∙ key.1) in
        let same = one.2 in
        let there = key.2 in (one.0, one.1, omega arith)

    looked_at : (x : World) (o : Origin) → Since (m cache_facts backing_facts) v x → IsOrigin x o
        → IsCourseOf o x.log → (claim_from o x.log v.first).looked ≡ true
    looked_at x o since is course =
        (claim_since cache_facts backing_facts v x seat (λ o c. HasLooked leaf c) since knows o is course).looked

    -- what was read may be read in the core
    may_read_there : (x : World) (o : Origin) → Since (m cache_facts backing_facts) v x → IsOrigin x o
        → IsCourseOf o x.log → x.cache.told ≡ true
        → IsCache {C = C} {B = B} cache_facts backing_facts disk x → IsRead at values (cache_facts disk)
        → (s t : ℕ) (value : Value) → t + first ≡ at + s → at_run first values s ≡ Some value
        → Among value ((cache_of (replay o x.log)).reads t)
    may_read_there x o since is course told stands read s t value same here =
        subst (Among value) (sym ((held_at v x since o is course).reads t))
        (told_reads x.cache.told x.held at values told
        (read_may (cache_facts disk) (model x.cache x.held) at values stands.stands read) t value
        (same_run first at s t values same ∙ here))

    pub may_read_cache : v.heard ≡ None → IsRead at values (cache_facts disk)
        → MayDo cache_facts backing_facts v (deed.CacheRead at (Some first) values)
    may_read_cache unheard read x y at_ told =
        let seen = at_.from (is_plain_at cache_facts backing_facts v x at_.since ∙ cached_run) in
        go x y seen.0 seen.1 at_.since at_.note.range (at_.late unheard) told
        (at_.stand 4 (part.Cache disk) holds (refl, on)).1
      where
        go : (x y : World) (o : Origin) → IsSeenFrom o x y → Since (m cache_facts backing_facts) v x
            → (note_of y v.first).range ≡ (note cache_facts backing_facts v).range
            → (data_of y).late v.first ≡ false → is_told y ≡ true
            → IsCache {C = C} {B = B} cache_facts backing_facts disk x
            → CanFollow y (by v.first (deed.CacheRead at (Some first) values))
        go x y o seen since range late told stands = subst (λ (z : World). (note_of z v.first).range ≡ (note cache_facts backing_facts v).range
            → (data_of z).late v.first ≡ false → is_told z ≡ true
            → CanFollow z (by v.first (deed.CacheRead at (Some first) values)))
            (sym seen.is)
            (λ range late told. can_alone (seen_from o x) v.first (deed.CacheRead at (Some first) values)
            (flow.Learn (flow.CacheRead first values)) (low cache_facts backing_facts v seat) refl refl (record {
              heard = inr late;
              steps = tt;
              can = (
                looked_at x o since seen.origin seen.course,
                λ s value here.
                    let inside = at_range first values s value here in
                    let covers = covers_it (seen_from o x) range s inside.0 inside.1 in
                    let one = pointed x o since seen.origin seen.course s inside.0 inside.1 covers in (
                      covers,
                      (
                        one.0,
                        one.1,
                        may_read_there x o since seen.origin seen.course
                            (and_left x.cache.told x.backing.told told) stands read s one.0.place value one.2 here,
                      ),
                    ),
              );
            })
            (λ s value here.
            let inside = at_range first values s value here in
            pointed x o since seen.origin seen.course s inside.0 inside.1
            (covers_it (seen_from o x) range s inside.0 inside.1)) tt tt tt)
            range late told

  -- what it knows behind a read
  pub knows_read : (v w : View cache_facts backing_facts) → IsCoreSeat cache_facts backing_facts v
      → (at first : ℕ) (values : Values)
      → Did cache_facts backing_facts (Some (deed.CacheRead at (Some first) values)) v w
      → (leaf : Leaf) (buckets : Buckets) (read : ℕ → Option Value)
      → OfClaim cache_facts backing_facts v (λ o c. Knows o leaf buckets read c)
      → OfClaim cache_facts backing_facts w (λ o c. Knows o leaf buckets (with_values first values read) c)
  knows_read v w seat at first values did leaf buckets read knows =
      claim_committed cache_facts backing_facts v w (deed.CacheRead at (Some first) values) seat
      (λ o c. Knows o leaf buckets read c)
      (λ o c. Knows o leaf buckets (with_values first values read) c) did
      (λ o is course h. subst (Knows o leaf buckets (with_values first values read))
      (sym (cached_claim o.opening (replay o did.is.before.log) v.first at first values)) (record {
        look = record { looked = h.look.looked; sight = h.look.sight };
        uses = record { cut = h.uses.cut; data_from = h.uses.data_from; uses = h.uses.uses };
        read_is = λ s. ap (λ x. noted (at_run first values s) x) (h.read_is s);
      })) knows

  -- what it knows while others act
  pub knows_waited : (v w : View cache_facts backing_facts) → IsCoreSeat cache_facts backing_facts v
      → Waited (m cache_facts backing_facts) v w
      → (leaf : Leaf) (buckets : Buckets) (read : ℕ → Option Value)
      → OfClaim cache_facts backing_facts v (λ o c. Knows o leaf buckets read c)
      → OfClaim cache_facts backing_facts w (λ o c. Knows o leaf buckets read c)
  knows_waited v w seat waited leaf buckets read h = claim_waited cache_facts backing_facts v w seat
      (λ o c. Knows o leaf buckets read c) waited h

  -- ---- the cache device behind a call

  committed_cache : (v w : View cache_facts backing_facts) (old new : C) (d : Deed)
      → IsCoreSeat cache_facts backing_facts v → Holds v.parts 4
      → IsCache {C = C} {B = B} cache_facts backing_facts old (world cache_facts backing_facts v)
      → Did cache_facts backing_facts (Some d) v w
      → ((x : World) → IsCache {C = C} {B = B} cache_facts backing_facts old x
      → IsCache {C = C} {B = B} cache_facts backing_facts new (after x (by v.first d)))
      → IsCache {C = C} {B = B} cache_facts backing_facts new (world cache_facts backing_facts w)
  committed_cache v w old new d seat holds on did step =
      subst (IsCache {C = C} {B = B} cache_facts backing_facts new) (sym did.is.state)
      (step did.is.before (held (m cache_facts backing_facts) (framed cache_facts backing_facts) v
      did.is.before 4 (part.Cache old) seat.seat did.is.since holds (refl, on)).1)

  pub cache_read_stands : (v w : View cache_facts backing_facts) (old new : C) (at first : ℕ) (values : Values)
      → IsCoreSeat cache_facts backing_facts v → Holds v.parts 4
      → IsCache {C = C} {B = B} cache_facts backing_facts old (world cache_facts backing_facts v)
      → Did cache_facts backing_facts (Some (deed.CacheRead at (Some first) values)) v w
      → IsKept (cache_facts old) (cache_facts new) → CountsGood (cache_facts old) (cache_facts new)
      → IsCache {C = C} {B = B} cache_facts backing_facts new (world cache_facts backing_facts w)
  cache_read_stands v w old new at first values seat holds on did kept counts =
      committed_cache v w old new (deed.CacheRead at (Some first) values) seat holds on did
      (λ x h. record { stands = read_stands (cache_facts old) (cache_facts new) (model x.cache x.held) h.stands kept counts })

  pub failed_read_stands : (v w : View cache_facts backing_facts) (old new : C)
      → IsCoreSeat cache_facts backing_facts v → Holds v.parts 4
      → IsCache {C = C} {B = B} cache_facts backing_facts old (world cache_facts backing_facts v)
      → Did cache_facts backing_facts (Some (deed.DeviceFault (failure.Read device.Cache))) v w
      → IsKept (cache_facts old) (cache_facts new) → CountsFault (cache_facts old) (cache_facts new)
      → IsCache {C = C} {B = B} cache_facts backing_facts new (world cache_facts backing_facts w)
  failed_read_stands v w old new seat holds on did kept counts =
      committed_cache v w old new (deed.DeviceFault (failure.Read device.Cache)) seat holds on did
      (λ x h. record { stands = fault_stands (cache_facts old) (cache_facts new) (model x.cache x.held) h.stands kept counts })

  pub may_fail_cache_read : (v : View cache_facts backing_facts) → IsCoreSeat cache_facts backing_facts v
      → v.heard ≡ None → MayDo cache_facts backing_facts v (deed.DeviceFault (failure.Read device.Cache))
  may_fail_cache_read v seat unheard = λ x y at told. can_alone y v.first
      (deed.DeviceFault (failure.Read device.Cache)) (flow.Fail flow.ReadFault) (low cache_facts backing_facts v seat)
      refl refl (record { heard = inr (at.late unheard); steps = tt; can = tt }) tt tt tt tt

  -- how many sectors the cache device has
  sectors_called : (o : Option _) (x : Side) → (called device.Cache o x).sectors ≡ x.sectors
  sectors_called None x = refl
  sectors_called (Some call) x = by_bool (same_device call.device device.Cache)
    where
      by_bool : (b : Bool) → (if b then counted call.failed x else x).sectors ≡ x.sectors
      by_bool true = refl
      by_bool false = refl

  sectors_stay : (x : World) (es : List Event) → (fold after x es).cache.sectors ≡ x.cache.sectors
  sectors_stay x [] = refl
  sectors_stay x (e ∷ es) = sectors_stay (after x e) es ∙ sectors_called (call_by e.deed) x.cache

  pub cache_sectors : (v : View cache_facts backing_facts) (disk : C)
      → IsCache {C = C} {B = B} cache_facts backing_facts disk (world cache_facts backing_facts v)
      → (cache_facts disk).sectors ≡ (cache_among cache_facts backing_facts v.run.start).sectors
  cache_sectors v disk on = on.stands.sectors
      ∙ sectors_stay (opening cache_facts backing_facts v.run.start) v.seen

  -- which parts a call of the cache device changes
  pub cache_changed : (k : ℕ) → (if k == 0 then false else (if k == 1 then false
      else (if k == 2 then false else (if k == 3 then false else (if k == 4 then true
      else (if k == 5 then false else false)))))) ≡ (k == 4)
  cache_changed k = only 0 (λ is. cc) (only 1 (λ is. cc) (only 2 (λ is. cc) (only 3 (λ is. cc) (last (k == 4) (k == 5)))))
    where
      last : (b c : Bool) → (if b then true else (if c then false else false)) ≡ b
      last true c = refl
      last false true = refl
      last false false = refl

      only : (n : ℕ) {rest : Bool} → n ≢ 4 → rest ≡ (k == 4) → (if k == n then false else rest) ≡ (k == 4)
      only n {rest} ne is = by_test k n (λ b. (if b then false else rest) ≡ (k == 4))
          (λ at. sym (by_test k 4 (λ b. b ≡ false) (λ four. absurd (ne (sym at ∙ four))) (λ no. refl)))
          (λ no. is)

  -- a step between borrowing the device and returning it
  pub read_failed_between : (error : StepError) (u v w x : View cache_facts backing_facts)
      → ((k : ℕ) → Holds u.parts k → Holds v.parts k) → Waited (m cache_facts backing_facts) u v
      → HasFailedRead cache_facts backing_facts error v w → Waited (m cache_facts backing_facts) w x
      → x.seen ≡ w.seen → x.heard ≡ w.heard → IsCoreSeat cache_facts backing_facts x
      → HasFailedReadOr cache_facts backing_facts error u x
  read_failed_between (error.Fault which) u v w x still first h last seen heard seat = (
    h.0,
    did_between cache_facts backing_facts (Some (deed.DeviceFault (failure.Read device.Cache))) u v w x
        still first h.1 last seen heard seat,
  )
  read_failed_between (error.Halted which) u v w x still first h last seen heard seat =
      (ap halt_of seen ∙ h.0, did_between cache_facts backing_facts None u v w x still first h.1 last seen heard seat)
  read_failed_between error.Memory u v w x still first h last seen heard seat = absurd h
