use Rattle.std.proofs.Common.{◌≡◌, ℕ, ◌+◌, ◌-◌, ◌%◌, inl, inr, sym, ◌∙◌, subst, arith}
use Rattle.bc_disk.specs.Disk.{DiskFacts}
use Rattle.bc_cached.proofs.of_bc_hand.Knowing.{View, m}
use Rattle.bc_cached.specs.bc_hand.declared.error.StepError.TheVariants as steps
use Rattle.bc_seats.specs.Seats.{Same}
use Rattle.bc_request.specs.bc_fetch.Fetch.{HasPart, HasReadOne, HasStoppedAt}
use Rattle.bc_request.specs.bc_fetch.declared.error.LeafError.{LeafError}
use Rattle.bc_request.specs.bc_fetch.declared.error.LeafError.TheVariants as errors
use Rattle.bc_step_rows.proofs.leaves.try_leaf.Goals as goal

only_part : (number count : ℕ) → count ≡ 7 → 6 + number % (count - 6) ≡ 6
only_part number count is = subst (λ n. 6 + number % (n - 6) ≡ 6) (sym is) (omega arith)

module _ {C B : Type 0} (cache_facts : C → DiskFacts) (backing_facts : B → DiskFacts) where
  abbrev HasAll : View cache_facts backing_facts → ℕ → Type 0
  HasAll v seats = (v.first ≡ 0) × (v.end ≡ seats)

  still : (v w : View cache_facts backing_facts) (seats : ℕ)
      → Same (m cache_facts backing_facts) v w → HasAll v seats → HasAll w seats
  still v w seats same all = (same.first ∙ all.0, same.end ∙ all.1)

  read_still : (v w : View cache_facts backing_facts) (seats : ℕ)
      → HasReadOne cache_facts backing_facts v w → HasAll v seats → HasAll w seats
  read_still v w seats (inl done) all = still v w seats done.same all
  read_still v w seats (inr one) all = still v w seats one.1.same all

  stopped_still : (first count : ℕ) (e : LeafError) (v w : View cache_facts backing_facts)
      (seats : ℕ) → HasStoppedAt cache_facts backing_facts first count e v w → HasAll v seats
      → HasAll w seats
  stopped_still first count (errors.Step steps.Memory) v w seats stop all =
      read_still v w seats stop all
  stopped_still first count (errors.Step (steps.Fault d)) v w seats stop all =
      still v w seats stop.1.same all
  stopped_still first count (errors.Step (steps.Halted d)) v w seats stop all =
      still stop.0 w seats stop.3.same (still v stop.0 seats stop.1.same all)
  stopped_still first count errors.Busy v w seats stop all = still stop.now w seats stop.then.same
      (still stop.at stop.now seats stop.did.same (still v stop.at seats stop.way.same all))
  stopped_still first count errors.Outside v w seats stop all =
      still stop.now w seats stop.then.same
      (still stop.at stop.now seats stop.did.same (still v stop.at seats stop.way.same all))
  stopped_still first count errors.Missing v w seats (inl stop) all =
      still stop.at w seats stop.then.same
      (still v stop.at seats stop.way.same all)
  stopped_still first count errors.Missing v w seats (inr stop) all =
      still stop.at w seats stop.then.same
      (read_still v stop.at seats stop.read all)
  stopped_still first count (errors.Node q e) v w seats stop all =
      still stop.now w seats stop.then.same
      (still stop.at stop.now seats stop.did.same (still v stop.at seats stop.way.same all))

pub give_leaves-requires-clause-has : goal.give_leaves-requires-clause-has
give_leaves-requires-clause-has g c = subst (λ n. HasPart c.leaf_at.new.hand n)
    (only_part c.in-Ok.field-0 _ c.requires.parts) c.in-Ok.ensures.part

pub returns-in-Ok-clause-all : goal.returns-in-Ok-clause-all
returns-in-Ok-clause-all g c =
    still g.C.Disk.facts g.B.Disk.facts c.leaf_at.new.seat c.give_leaves.new.seat
    c.args.parts.now.seats c.give_leaves.ensures.waited.same
    (read_still g.C.Disk.facts g.B.Disk.facts c.promise.new.seat c.leaf_at.new.seat
    c.args.parts.now.seats c.in-Ok.ensures.did
    (still g.C.Disk.facts g.B.Disk.facts c.args.seat.now c.promise.new.seat
    c.args.parts.now.seats c.promise.ensures.done.same c.requires.all))

pub returns-in-Err-clause-all : goal.returns-in-Err-clause-all
returns-in-Err-clause-all g c =
    stopped_still g.C.Disk.facts g.B.Disk.facts c.args.first 8 c.in-Err.error c.promise.new.seat
    c.leaf_at.new.seat c.args.parts.now.seats c.in-Err.ensures.stopped
    (still g.C.Disk.facts g.B.Disk.facts c.args.seat.now c.promise.new.seat
    c.args.parts.now.seats c.promise.ensures.done.same c.requires.all)
