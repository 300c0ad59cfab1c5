-- When a flush may be acknowledged, and what was done until then.
use Rattle.std.proofs.Common.{◌≡◌, ℕ, ◌≤◌, true, false, refl, sym, ap, ◌∙◌, subst, arith}
use Rattle.bc_data.specs.Data as flow
use Rattle.bc_entry.proofs.of_bc_deed.May.{can_alone, low}
use Rattle.bc_disk.specs.Disk.{DiskFacts}
use Rattle.bc_events.specs.Run.{Opening}
use Rattle.bc_events.specs.declared.event.Deed.TheVariants as deed
use Rattle.bc_events.specs.declared.event.LineNumber.{LineNumber}
use Rattle.bc_entry.specs.bc_hand.Seats.{IsCoreSeat, MayDo, note, world}
use Rattle.bc_entry.proofs.of_bc_hand.Knowing.{View, is_plain_at, m}
use Rattle.bc_entry.proofs.of_bc_machine.Viewing.{opening_stays}
use Rattle.bc_entry.specs.bc_machine.Plain.{worker_of}
use Rattle.bc_entry.specs.bc_machine.World.{FromEach, IsSeenFrom, Origin, World, are_plain, data_of, opening}
use Rattle.bc_seats.specs.Seats.{Since}
use Rattle.bc_seats.proofs.Knowing.{still}
use Rattle.bc_flush.specs.Durable.{IsFlushed}
use Rattle.bc_flush.proofs.Noting.{flushed_other}

module _ {C B : Type 0} (cache_facts : C → DiskFacts) (backing_facts : B → DiskFacts) where
  flushed_since : (v : View cache_facts backing_facts) (x : World)
      → IsCoreSeat cache_facts backing_facts v → Since (m cache_facts backing_facts) v x
      → FromEach (world cache_facts backing_facts v) (IsFlushed v.first)
      → FromEach x (IsFlushed v.first)
  flushed_since v x seat since h = still (m cache_facts backing_facts) v x
      (λ y. FromEach y (IsFlushed v.first)) (λ y e may foreign before.
      flushed_other y e v.first (foreign.0 v.first (omega arith) seat.seat.live) before) since h

  keys_in : (x y : World) (o : Origin) (i : ℕ) → IsSeenFrom o x y → FromEach x (IsFlushed i)
      → ((data_of y).seats i).flush.keys ≤ (data_of y).books.journal.durable
  keys_in x y o i seen h = subst (λ (z : World). ((data_of z).seats i).flush.keys
      ≤ (data_of z).books.journal.durable) (sym seen.is) (h o seen.origin seen.course)

  pub may_end_flush : (v : View cache_facts backing_facts) (of : LineNumber)
      → IsCoreSeat cache_facts backing_facts v → worker_of v.first ≡ of.worker
      → are_plain cache_facts backing_facts v.run.start ≡ false
      → (note cache_facts backing_facts v).flush.going ≡ true
      → (note cache_facts backing_facts v).flush.line ≡ of.line
      → (note cache_facts backing_facts v).flush.firm ≡ true
      → FromEach (world cache_facts backing_facts v) (IsFlushed v.first)
      → MayDo cache_facts backing_facts v (deed.FlushDone of)
  may_end_flush v of seat line cached going its firm flushed = λ x y at told.
      let seen = at.from (is_plain_at cache_facts backing_facts v x at.since ∙ cached) in
      can_alone y v.first (deed.FlushDone of) (flow.Say (flow.EndFlush of.line))
      (low cache_facts backing_facts v seat) refl refl (record {
        heard = at.running refl;
        steps = tt;
        can = record {
          going = at.note.flush.0 ∙ going;
          its_line = at.note.flush.1 ∙ its;
          keys = keys_in x y seen.0 v.first seen.1 (flushed_since v x seat at.since flushed);
          firm = at.note.flush.2 firm;
        };
      }) tt (at.worker ∙ ap (λ (o : Opening). o.worker v.first)
      (opening_stays (opening cache_facts backing_facts v.run.start) v.seen) ∙ line) tt tt
