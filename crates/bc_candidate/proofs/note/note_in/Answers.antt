use Rattle.std.proofs.Common.{◌≤◌, List, [], ◌∷◌, ◌++◌, Some, false, inl, inr, sym, ap, ◌∙◌, subst, arith}
use Rattle.std.specs.Prelude.{length}
use Rattle.bc_events.specs.declared.event.Deed.TheVariants as deed
use Rattle.bc_flight.specs.declared.candidate.Candidate.{Candidate}
use Rattle.bc_place.proofs.of_bc_deed.Claiming.{committed_flight, waited_flight}
use Rattle.bc_place.proofs.of_bc_deed.May.{did_nothing}
use Rattle.bc_place.proofs.Storing.{cached_by}
use Rattle.bc_place.specs.bc_hand.Seats.{Did, MayDo, world}
use Rattle.bc_place.specs.bc_machine.World.{IsFlight}
use Rattle.bc_candidate.proofs.Flying.{flight_noted}
use Rattle.bc_candidate.proofs.Noting.{has_noted, its_candidate, may_note}
use Rattle.bc_candidate.proofs.Seeing.{all_waited}
use Rattle.bc_candidate.proofs.note.note_in.Goals.{then-candidates-ge-MOST-via-then-candidates-ge-MOST, then-candidates-ge-MOST-via-else-candidates-ge-MOST+then-number}
use Rattle.bc_candidate.proofs.note.note_in.Goals as goal

pub returns-then-candidates-ge-MOST-clause-ok : goal.returns-then-candidates-ge-MOST-clause-ok
returns-then-candidates-ge-MOST-clause-ok g c =
    let nothing = did_nothing g.C.Disk.facts g.B.Disk.facts c.args.seat.now c.requires.seat in
    record {
      waited = nothing;
      full = record {
        flight = c.args.flight.now;
        stands = c.requires.flight;
        full = elim c.then-candidates-ge-MOST.branch [
          | then-candidates-ge-MOST-via-then-candidates-ge-MOST w ↦
              inl (subst (λ (cs : List Candidate). 64 ≤ length cs) c.candidates.ensures.value
              (w.if-candidates-ge-MOST.true))
          | then-candidates-ge-MOST-via-else-candidates-ge-MOST+then-number w ↦
              inr (let is = w.if-number.true in let next = c.next-number.ensures in
              omega (arith, is, next))
        ];
      };
      keeps = all_waited g.C.Disk.facts g.B.Disk.facts c.args.seat.now c.args.seat.now
          c.requires.seat nothing.is;
    }

pub commit-requires-clause-may : goal.commit-requires-clause-may
commit-requires-clause-may g c =
    let v = c.args.seat.now in
    let f = c.args.flight.now in
    subst (λ n. MayDo g.C.Disk.facts g.B.Disk.facts v
    (deed.Candidate n c.args.first c.args.place.count c.args.place.ptr.offset))
    (sym c.next-number.ensures)
    (may_note g.C.Disk.facts g.B.Disk.facts v c.requires.seat
    (cached_by g.C.Disk.facts g.B.Disk.facts c.args.parts.now v c.requires.run c.requires.cached)
    c.requires.holds f c.requires.flight c.candidates.ensures.numbered c.args.first c.args.place
    c.requires.own c.requires.keep)

pub returns-in-Err-clause-flight : goal.returns-in-Err-clause-flight
returns-in-Err-clause-flight g c = waited_flight g.C.Disk.facts g.B.Disk.facts c.args.seat.now
    c.commit.new.seat c.args.flight.now c.requires.seat c.requires.holds c.requires.flight
    c.in-Err.ensures.err

pub returns-in-Err-clause-keeps : goal.returns-in-Err-clause-keeps
returns-in-Err-clause-keeps g c = all_waited g.C.Disk.facts g.B.Disk.facts c.args.seat.now
    c.commit.new.seat c.requires.seat c.in-Err.ensures.err.is

pub returns-clause-ok : goal.returns-clause-ok
returns-clause-ok g c = has_noted g.C.Disk.facts g.B.Disk.facts c.args.seat.now c.requires.seat
    c.commit.new.seat c.next-number.result c.args.first c.args.place c.in_default.ensures.ok

pub returns-clause-added : goal.returns-clause-added
returns-clause-added g c = record {
  number_is = c.next-number.ensures;
  key = c.new.result;
  its_key = record {
    inode = c.new.ensures.inode;
    end = (let end = c.new.ensures.end in let from = c.from.ensures in omega (arith, end, from));
    size = (let size = c.new.ensures.size in let few = c.requires.count.1 in omega (arith, size, few));
    clean = c.new.ensures.dirty;
    no_csum = c.new.ensures.csum;
    one = c.new.ensures.count;
    pointer = c.new.ensures.pointer;
  };
  candidates = c.candidate.ensures.candidates
      ∙ ap (λ n. c.args.flight.now.candidates
      ++ record { number = n; key = c.new.result; killed = false } ∷ [])
      (c.candidate.ensures.number ∙ sym c.next-number.ensures);
  next = c.candidate.ensures.next;
  claims = c.candidate.ensures.claims;
  seats = c.candidate.ensures.seats;
}

pub returns-clause-flight : goal.returns-clause-flight
returns-clause-flight g c =
    let v = c.args.seat.now in
    let f = c.args.flight.now in
    let p = c.args.place in
    let number = c.next-number.ensures in
    subst (λ n. Did g.C.Disk.facts g.B.Disk.facts (Some (deed.Candidate n c.args.first p.count
    p.ptr.offset)) v c.commit.new.seat → IsFlight c.candidate.new.self
    (world g.C.Disk.facts g.B.Disk.facts c.commit.new.seat)) (sym number)
    (λ did. committed_flight g.C.Disk.facts g.B.Disk.facts v c.commit.new.seat f
    c.candidate.new.self (deed.Candidate f.next c.args.first p.count p.ptr.offset) c.requires.holds
    c.requires.flight did
    (λ x on firm. flight_noted f c.candidate.new.self x v.first c.args.first p.count p.ptr.offset
    (record { number = c.candidate.result; key = c.new.result; killed = false })
    c.candidates.ensures.numbered on
    (its_candidate c.candidate.result c.args.first p c.new.result c.requires.count.0
    (let end = c.new.ensures.end in let from = c.from.ensures in omega (arith, end, from))
    (let size = c.new.ensures.size in let few = c.requires.count.1 in omega (arith, size, few))
    c.new.ensures.pointer)
    c.candidate.ensures.number c.candidate.ensures.seats c.candidate.ensures.claims
    c.candidate.ensures.candidates c.candidate.ensures.next)
    c.requires.seat) c.in_default.ensures.ok
