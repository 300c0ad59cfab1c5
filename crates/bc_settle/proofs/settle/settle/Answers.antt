use Rattle.std.proofs.Common.{◌≡◌, true, length, refl, sym, ap, ◌∙◌, subst, Some}
use Rattle.std.specs.Prelude.{List, [], ◌∷◌, ◌++◌}
use Rattle.bc_candidate.proofs.Seeing.{all_waited}
use Rattle.bc_candidate.proofs.of_bc_deed.May.{did_nothing}
use Rattle.bc_candidate.proofs.of_bc_hand.Knowing.{m}
use Rattle.bc_candidate.proofs.of_bc_hand.Lending.{works_waited}
use Rattle.bc_candidate.proofs.of_bc_place.Storing.{cached_by}
use Rattle.bc_candidate.specs.bc_hand.Seats.{Did, MayDo, by}
use Rattle.bc_candidate.specs.bc_machine.World.{changes}
use Rattle.bc_candidate.specs.bc_machine.declared.part.CorePart.{CorePart}
use Rattle.bc_events.specs.declared.event.Deed.TheVariants as deed
use Rattle.bc_insert.proofs.InHand.{holds_all_changed}
use Rattle.bc_key.specs.declared.key.Key.{Key}
use Rattle.bc_parts.specs.Seat.{Run}
use Rattle.bc_seats.specs.Seats.{Kept}
use Rattle.bc_settle.specs.Fits.{IsNamedBy, WhyNot}
use Rattle.bc_settle.proofs.Here.{flight_in, has_pointer, has_put, key_extent, key_left, key_made, key_some, put_back, ranged, same_place, settle_here, still_buckets, still_flight}
use Rattle.bc_settle.proofs.Keeping.{kept_settled}
use Rattle.bc_settle.proofs.Settled.{settled_works}
use Rattle.bc_settle.proofs.Settling.{can_put_one, may_settle, settle_into}
use Rattle.bc_settle.proofs.settle.settle.Goals as goal

pub returns-in-Some-clause-err : goal.returns-in-Some-clause-err
returns-in-Some-clause-err g c = did_nothing g.C.Disk.facts g.B.Disk.facts c.args.seat.now
    c.requires.works.seat

pub returns-in-Some-clause-keeps : goal.returns-in-Some-clause-keeps
returns-in-Some-clause-keeps g c =
    let cf = g.C.Disk.facts in
    let bf = g.B.Disk.facts in
    let v = c.args.seat.now in
    all_waited cf bf v v c.requires.works.seat (did_nothing cf bf v c.requires.works.seat).is

pub due_in-requires : goal.due_in-requires
due_in-requires g c = (c.requires.can.2.flight, c.requires.can.2.is_flight)

pub returns-in_default-due_in-clause-ok : goal.returns-in_default-due_in-clause-ok
returns-in_default-due_in-clause-ok g c parts slot cached can = record {
  none = sym (c.due_in.ensures can.flight can.is_flight).0 ∙ c.in_default-due_in.is;
  waited = did_nothing g.C.Disk.facts g.B.Disk.facts c.args.seat.now c.requires.works.seat;
  same = refl;
}

pub returns-in_default-due_in-clause-keeps : goal.returns-in_default-due_in-clause-keeps
returns-in_default-due_in-clause-keeps g c =
    let cf = g.C.Disk.facts in
    let bf = g.B.Disk.facts in
    let v = c.args.seat.now in
    all_waited cf bf v v c.requires.works.seat (did_nothing cf bf v c.requires.works.seat).is

pub unreachable-requires : goal.unreachable-requires
unreachable-requires g c =
    let cf = g.C.Disk.facts in
    let bf = g.B.Disk.facts in
    let p = c.args.parts.now in
    let v = c.args.seat.now in
    let h = c.args.hand.now in
    let can = c.requires.can.2 in
    let one = c.in-Some-due_in.due in
    let due = sym (c.due_in.ensures can.flight can.is_flight).0 ∙ c.in-Some-due_in.is in
    has_pointer cf bf p v h c.requires.works can.flight can.is_flight c.args.before one due
    (sym c.pointer.ensures ∙ c.in_default-pointer.is)

pub slot_in-slot-requires : goal.slot_in-slot-requires
slot_in-slot-requires g c =
    let can = c.requires.can.2 in (
      can.leaves,
      c.requires.can.0,
      can.is,
      record {
        cached = c.requires.can.1;
        there = can.there;
        number_is = can.number_is;
      },
    )

pub next_entry-entry-requires : goal.next_entry-entry-requires
next_entry-entry-requires g c = (c.requires.can.2.journal, c.requires.can.2.is_journal)

pub key_in-requires-clause-can : goal.key_in-requires-clause-can
key_in-requires-clause-can g c =
    let n = length c.args.parts.now.run.start in (
      n,
      c.args.leaf,
      c.requires.can.1,
      settle_here c.args.hand.now c.args.leaf c.slot_in-slot.result c.slot_in-slot.ensures n
          c.requires.can.0 c.requires.can.1 c.requires.can.2,
    )

pub key_in-requires-clause-old : goal.key_in-requires-clause-old
key_in-requires-clause-old g c =
    let cf = g.C.Disk.facts in
    let bf = g.B.Disk.facts in
    let p = c.args.parts.now in
    let v = c.args.seat.now in
    let h = c.args.hand.now in
    let can = c.requires.can.2 in
    let one = c.in-Some-due_in.due in
    let due = sym (c.due_in.ensures can.flight can.is_flight).0 ∙ c.in-Some-due_in.is in
    ranged cf bf p v h c.requires.works can.flight can.is_flight c.args.before one due

pub returns-in-Err-clause-ok : goal.returns-in-Err-clause-ok
returns-in-Err-clause-ok g c parts slot cached can =
    let old = c.in-Some-due_in.due.key in
    let here = settle_here c.args.hand.now c.args.leaf c.slot_in-slot.result
    c.slot_in-slot.ensures parts slot cached can in record {
      candidate = c.in-Some-due_in.due;
      due = sym (c.due_in.ensures can.flight can.is_flight).0 ∙ c.in-Some-due_in.is;
      number_is = refl;
      reason = key_left (IsNamedBy cached.leaf can.buckets.buckets old)
          (λ why. WhyNot why cached.leaf can.buckets.buckets old) c.key_in.result c.in-Err.why
          c.in-Err.is (c.key_in.ensures parts c.args.leaf cached here);
      waited = did_nothing g.C.Disk.facts g.B.Disk.facts c.args.seat.now c.requires.works.seat;
      same = refl;
    }

pub returns-in-Err-clause-keeps : goal.returns-in-Err-clause-keeps
returns-in-Err-clause-keeps g c =
    let cf = g.C.Disk.facts in
    let bf = g.B.Disk.facts in
    let v = c.args.seat.now in
    all_waited cf bf v v c.requires.works.seat (did_nothing cf bf v c.requires.works.seat).is

pub returns-in_default-push-clause-err : goal.returns-in_default-push-clause-err
returns-in_default-push-clause-err g c = did_nothing g.C.Disk.facts g.B.Disk.facts c.args.seat.now
    c.requires.works.seat

pub returns-in_default-push-clause-keeps : goal.returns-in_default-push-clause-keeps
returns-in_default-push-clause-keeps g c =
    let cf = g.C.Disk.facts in
    let bf = g.B.Disk.facts in
    let v = c.args.seat.now in
    all_waited cf bf v v c.requires.works.seat (did_nothing cf bf v c.requires.works.seat).is

pub commit-requires-clause-holds : goal.commit-requires-clause-holds
commit-requires-clause-holds g c =
    let cf = g.C.Disk.facts in
    let bf = g.B.Disk.facts in
    let p = c.args.parts.now in
    let v = c.args.seat.now in
    let h = c.args.hand.now in
    let n = length p.run.start in
    let cached = c.requires.can.1 in
    let found = c.slot_in-slot.result in
    let can = settle_here h c.args.leaf found c.slot_in-slot.ensures n c.requires.can.0 cached
    c.requires.can.2 in
    let one = c.in-Some-due_in.due in
    let due = sym (c.due_in.ensures can.flight can.is_flight).0 ∙ c.in-Some-due_in.is in
    let key = c.in-Ok.key in
    let old = one.key in
    let ranges = ranged cf bf p v h c.requires.works can.flight can.is_flight c.args.before one
    due in
    let named = key_made (IsNamedBy cached.leaf can.buckets.buckets old)
    (λ why. WhyNot why cached.leaf can.buckets.buckets old) c.key_in.result key c.in-Ok.is
    (c.key_in.ensures n c.args.leaf cached can) in
    let extent = key_extent cached.leaf can.buckets.buckets old key ranges named in
    let claims = flight_in cf bf p v h c.requires.works can.flight can.is_flight in
    let put = can_put_one h n found c.args.leaf cached can old key extent named in
    let keys = c.from_vec.ensures ∙ c.in-Ok-push.ensures.items
    ∙ ap (λ (l : List Key). l ++ key ∷ []) c.new-own.ensures.items in
    λ k on. holds_all_changed cf bf p v h c.requires.works c.args.leaf found cached (key ∷ []) put
    (deed.Settle c.args.leaf one.number (key ∷ []))
    (settle_into c.args.leaf one.number (key ∷ [])) claims.0 (length v.run.start)
    (ap (λ (r : Run (CorePart g.row.C.Denot g.row.B.Denot)). length r.start) c.requires.works.run) k
    (subst (λ (l : List Key). changes (length v.run.start)
    (by v.first (deed.Settle c.args.leaf one.number l)) k ≡ true) keys on)

pub commit-requires-clause-may : goal.commit-requires-clause-may
commit-requires-clause-may g c =
    let cf = g.C.Disk.facts in
    let bf = g.B.Disk.facts in
    let p = c.args.parts.now in
    let v = c.args.seat.now in
    let h = c.args.hand.now in
    let n = length p.run.start in
    let cached = c.requires.can.1 in
    let found = c.slot_in-slot.result in
    let can = settle_here h c.args.leaf found c.slot_in-slot.ensures n c.requires.can.0 cached
    c.requires.can.2 in
    let one = c.in-Some-due_in.due in
    let due = sym (c.due_in.ensures can.flight can.is_flight).0 ∙ c.in-Some-due_in.is in
    let key = c.in-Ok.key in
    let old = one.key in
    let ranges = ranged cf bf p v h c.requires.works can.flight can.is_flight c.args.before one
    due in
    let named = key_made (IsNamedBy cached.leaf can.buckets.buckets old)
    (λ why. WhyNot why cached.leaf can.buckets.buckets old) c.key_in.result key c.in-Ok.is
    (c.key_in.ensures n c.args.leaf cached can) in
    let extent = key_extent cached.leaf can.buckets.buckets old key ranges named in
    let claims = flight_in cf bf p v h c.requires.works can.flight can.is_flight in
    let only = c.slot_in-slot.ensures can.leaves can.is in
    let some = key_some cached.leaf can.buckets.buckets old key ranges named in
    let keys = c.from_vec.ensures ∙ c.in-Ok-push.ensures.items
    ∙ ap (λ (l : List Key). l ++ key ∷ []) c.new-own.ensures.items in
    subst (λ (l : List Key). MayDo cf bf v (deed.Settle c.args.leaf one.number l)) (sym keys)
    (may_settle cf bf p v h c.requires.works c.args.leaf found cached can only claims
    c.args.before c.requires.firm one due key extent some named
    (cached_by cf bf p v c.requires.works.run c.requires.cached))

pub returns-in-Err-commit-clause-works : goal.returns-in-Err-commit-clause-works
returns-in-Err-commit-clause-works g c = works_waited g.C.Disk.facts g.B.Disk.facts
    c.args.parts.now c.args.seat.now c.commit.new.seat c.args.hand.now c.requires.works
    c.in-Err-commit.ensures.err.seat.seat c.in-Err-commit.ensures.err.is
    c.commit.ensures.kept.parts

pub returns-in-Err-commit-clause-keeps : goal.returns-in-Err-commit-clause-keeps
returns-in-Err-commit-clause-keeps g c = all_waited g.C.Disk.facts g.B.Disk.facts
    c.args.seat.now c.commit.new.seat c.requires.works.seat c.in-Err-commit.ensures.err.is

pub put_in-requires : goal.put_in-requires
put_in-requires g c =
    let cf = g.C.Disk.facts in
    let bf = g.B.Disk.facts in
    let p = c.args.parts.now in
    let v = c.args.seat.now in
    let h = c.args.hand.now in
    let n = length p.run.start in
    let cached = c.requires.can.1 in
    let found = c.slot_in-slot.result in
    let can = settle_here h c.args.leaf found c.slot_in-slot.ensures n c.requires.can.0 cached
    c.requires.can.2 in
    let one = c.in-Some-due_in.due in
    let due = sym (c.due_in.ensures can.flight can.is_flight).0 ∙ c.in-Some-due_in.is in
    let key = c.in-Ok.key in
    let old = one.key in
    let ranges = ranged cf bf p v h c.requires.works can.flight can.is_flight c.args.before one
    due in
    let named = key_made (IsNamedBy cached.leaf can.buckets.buckets old)
    (λ why. WhyNot why cached.leaf can.buckets.buckets old) c.key_in.result key c.in-Ok.is
    (c.key_in.ensures n c.args.leaf cached can) in
    let extent = key_extent cached.leaf can.buckets.buckets old key ranges named in
    (n, c.args.leaf, cached, can_put_one h n found c.args.leaf cached can old key extent named)

pub take_due-requires : goal.take_due-requires
take_due-requires g c =
    let cf = g.C.Disk.facts in
    let bf = g.B.Disk.facts in
    let p = c.args.parts.now in
    let v = c.args.seat.now in
    let h = c.args.hand.now in
    let n = length p.run.start in
    let cached = c.requires.can.1 in
    let found = c.slot_in-slot.result in
    let can = settle_here h c.args.leaf found c.slot_in-slot.ensures n c.requires.can.0 cached
    c.requires.can.2 in
    let one = c.in-Some-due_in.due in
    let due = sym (c.due_in.ensures can.flight can.is_flight).0 ∙ c.in-Some-due_in.is in
    let key = c.in-Ok.key in
    let old = one.key in
    let ranges = ranged cf bf p v h c.requires.works can.flight can.is_flight c.args.before one
    due in
    let named = key_made (IsNamedBy cached.leaf can.buckets.buckets old)
    (λ why. WhyNot why cached.leaf can.buckets.buckets old) c.key_in.result key c.in-Ok.is
    (c.key_in.ensures n c.args.leaf cached can) in
    let extent = key_extent cached.leaf can.buckets.buckets old key ranges named in
    let put = can_put_one h n found c.args.leaf cached can old key extent named in (
      can.flight,
      still_flight h c.put_in.new.hand found cached (key ∷ []) can.flight can.is_flight
          (c.put_in.ensures n c.args.leaf cached put),
    )

pub name_in-requires : goal.name_in-requires
name_in-requires g c =
    let cf = g.C.Disk.facts in
    let bf = g.B.Disk.facts in
    let p = c.args.parts.now in
    let v = c.args.seat.now in
    let h = c.args.hand.now in
    let n = length p.run.start in
    let cached = c.requires.can.1 in
    let found = c.slot_in-slot.result in
    let can = settle_here h c.args.leaf found c.slot_in-slot.ensures n c.requires.can.0 cached
    c.requires.can.2 in
    let one = c.in-Some-due_in.due in
    let due = sym (c.due_in.ensures can.flight can.is_flight).0 ∙ c.in-Some-due_in.is in
    let key = c.in-Ok.key in
    let old = one.key in
    let ranges = ranged cf bf p v h c.requires.works can.flight can.is_flight c.args.before one
    due in
    let named = key_made (IsNamedBy cached.leaf can.buckets.buckets old)
    (λ why. WhyNot why cached.leaf can.buckets.buckets old) c.key_in.result key c.in-Ok.is
    (c.key_in.ensures n c.args.leaf cached can) in
    let extent = key_extent cached.leaf can.buckets.buckets old key ranges named in
    let put = can_put_one h n found c.args.leaf cached can old key extent named in
    let were = c.put_in.ensures n c.args.leaf cached put in
    let took = c.take_due.ensures can.flight (still_flight h c.put_in.new.hand found cached
    (key ∷ []) can.flight can.is_flight were) in (
      can.buckets,
      still_buckets h c.put_in.new.hand c.take_due.new.hand found cached (key ∷ [])
          can.buckets took.0 can.are_buckets were took.2,
    )

pub returns-clause-works : goal.returns-clause-works
returns-clause-works g c =
    let cf = g.C.Disk.facts in
    let bf = g.B.Disk.facts in
    let p = c.args.parts.now in
    let v = c.args.seat.now in
    let h = c.args.hand.now in
    let n = length p.run.start in
    let cached = c.requires.can.1 in
    let found = c.slot_in-slot.result in
    let can = settle_here h c.args.leaf found c.slot_in-slot.ensures n c.requires.can.0 cached
    c.requires.can.2 in
    let one = c.in-Some-due_in.due in
    let due = sym (c.due_in.ensures can.flight can.is_flight).0 ∙ c.in-Some-due_in.is in
    let key = c.in-Ok.key in
    let old = one.key in
    let ranges = ranged cf bf p v h c.requires.works can.flight can.is_flight c.args.before one
    due in
    let named = key_made (IsNamedBy cached.leaf can.buckets.buckets old)
    (λ why. WhyNot why cached.leaf can.buckets.buckets old) c.key_in.result key c.in-Ok.is
    (c.key_in.ensures n c.args.leaf cached can) in
    let extent = key_extent cached.leaf can.buckets.buckets old key ranges named in
    let claims = flight_in cf bf p v h c.requires.works can.flight can.is_flight in
    let only = c.slot_in-slot.ensures can.leaves can.is in
    let some = key_some cached.leaf can.buckets.buckets old key ranges named in
    let put = can_put_one h n found c.args.leaf cached can old key extent named in
    let keys = c.from_vec.ensures ∙ c.in-Ok-push.ensures.items
    ∙ ap (λ (l : List Key). l ++ key ∷ []) c.new-own.ensures.items in
    let w = c.commit.new.seat in
    settled_works cf bf p v h c.requires.works c.args.leaf found cached can only claims
    c.args.before c.requires.firm one due key extent some named w
    (subst (λ (l : List Key). Did cf bf (Some (deed.Settle c.args.leaf one.number l)) v w) keys
    c.in_default-commit.ensures.ok) c.name_in.new.hand
    (c.due_in.ensures can.flight can.is_flight).1
    (has_put c.args.before h c.put_in.new.hand c.take_due.new.hand c.name_in.new.hand found cached
    key can.flight can.buckets c.in-Some-pointer.ptr.offset named.from.offset old.size
    can.is_flight can.are_buckets
    (same_place c.pointer.result c.in-Some-pointer.ptr named.from c.in-Some-pointer.is
    (c.pointer.ensures ∙ named.from_is))
    (c.put_in.ensures n c.args.leaf cached put) c.take_due.ensures c.name_in.ensures)
    (subst (λ (l : List Key). Kept (m cf bf) v w (changes (length v.run.start)
    (by v.first (deed.Settle c.args.leaf one.number l)))) keys c.commit.ensures.kept)

pub returns-clause-ok : goal.returns-clause-ok
returns-clause-ok g c parts slot cached can =
    let cf = g.C.Disk.facts in
    let bf = g.B.Disk.facts in
    let v = c.args.seat.now in
    let h = c.args.hand.now in
    let w = c.commit.new.seat in
    let found = c.slot_in-slot.result in
    let here = settle_here h c.args.leaf found c.slot_in-slot.ensures parts slot cached can in
    let one = c.in-Some-due_in.due in
    let due = sym (c.due_in.ensures can.flight can.is_flight).0 ∙ c.in-Some-due_in.is in
    let key = c.in-Ok.key in
    let old = one.key in
    let ranges = ranged cf bf c.args.parts.now v h c.requires.works can.flight can.is_flight
    c.args.before one due in
    let named = key_made (IsNamedBy cached.leaf can.buckets.buckets old)
    (λ why. WhyNot why cached.leaf can.buckets.buckets old) c.key_in.result key c.in-Ok.is
    (c.key_in.ensures parts c.args.leaf cached here) in
    let extent = key_extent cached.leaf can.buckets.buckets old key ranges named in
    let put = can_put_one h parts found c.args.leaf cached here old key extent named in
    let keys = c.from_vec.ensures ∙ c.in-Ok-push.ensures.items
    ∙ ap (λ (l : List Key). l ++ key ∷ []) c.new-own.ensures.items in
    record {
      candidate = one;
      due = due;
      number_is = refl;
      key = key;
      named = named;
      did = subst (λ (l : List Key). Did cf bf (Some (deed.Settle c.args.leaf one.number l)) v w)
          keys c.in_default-commit.ensures.ok;
      put = has_put c.args.before h c.put_in.new.hand c.take_due.new.hand c.name_in.new.hand slot
          cached key can.flight can.buckets c.in-Some-pointer.ptr.offset named.from.offset
          old.size can.is_flight can.are_buckets
          (same_place c.pointer.result c.in-Some-pointer.ptr named.from c.in-Some-pointer.is
          (c.pointer.ensures ∙ named.from_is))
          (put_back h c.args.leaf found c.slot_in-slot.ensures parts slot cached can
          c.put_in.new.hand (key ∷ []) (c.put_in.ensures parts c.args.leaf cached put))
          c.take_due.ensures c.name_in.ensures;
    }

pub returns-clause-keeps : goal.returns-clause-keeps
returns-clause-keeps g c =
    let cf = g.C.Disk.facts in
    let bf = g.B.Disk.facts in
    let v = c.args.seat.now in
    let w = c.commit.new.seat in
    let key = c.in-Ok.key in
    let keys = c.from_vec.ensures ∙ c.in-Ok-push.ensures.items
    ∙ ap (λ (l : List Key). l ++ key ∷ []) c.new-own.ensures.items in
    kept_settled c.args.leaf c.in-Some-due_in.due.number (key ∷ []) cf bf v w c.requires.works.seat
    (subst (λ (l : List Key). Did cf bf (Some (deed.Settle c.args.leaf
    c.in-Some-due_in.due.number l)) v w) keys c.in_default-commit.ensures.ok)
