use Rattle.std.specs.Prelude.{length}
use Rattle.std.proofs.Common.{rules, sym, ap, ◌∙◌}
use Rattle.bc_parts.proofs.Keeping.{looks}
use Rattle.bc_parts.proofs.Resting.{Rests-looking, still_stopped}
use Rattle.bc_parts.proofs.parts.Parts.meet.Goals as goal

pub load-requires : goal.load-requires
load-requires g c = let key = c.self.inside.table.shared.key in let place = c.seat.inside.place in
    (search rules, search rules, looks g.M.Machine key.parts.value.items key.seats g.met.M.Machine.frame _ place.id place.me c.seat.invariant.0.live)

pub invariant_of-seat : goal.invariant_of-seat
invariant_of-seat g c = let m = g.M.Machine in let me = c.seat.inside.place.me in let looked = c.load.ensures.2 in (
  Rests-looking m me c.load.new.seat.me c.load.new.seat.me.0.seen c.seat.invariant.0 looked.is,
  c.seat.invariant.1 ∙ sym (ap (λ new. new.0.first) looked.is),
  still_stopped m g.met.M.Machine.stays (length me.0.start) me.0.first me.0.middle me.0.held me.0.seen c.load.new.seat.me.0.seen c.seat.inside.heard looked.later.grows c.seat.invariant.2,
)
