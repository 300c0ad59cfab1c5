use Rattle.std.proofs.Common.{length, subst, sym}
use Rattle.std.specs.Prelude.{List}
use Rattle.bc_fetch.specs.bc_deed.Asked.{IsWithin}
use Rattle.bc_fetch.specs.bc_hand.Seats.{note}
use Rattle.bc_model.proofs.Sectors.{length_values_of}
use Rattle.bc_model.specs.Sector.{Gives, Value}
use Rattle.bc_reads.specs.bc_sight.Sight.{MayAnswer}
use Rattle.bc_reader.proofs.claimed.answer_with.Goals as goal

pub answer-requires-clause-covered : goal.answer-requires-clause-covered
answer-requires-clause-covered g c = subst
    (λ (vs : List Value). IsWithin (note g.C.Disk.facts g.B.Disk.facts c.args.seat.now).range
    c.args.first (length vs)) (sym c.in-Ok.ensures)
    (subst (λ n. IsWithin (note g.C.Disk.facts g.B.Disk.facts c.args.seat.now).range c.args.first n)
    (sym (length_values_of c.args.bytes.now)) c.requires.covered)

pub answer-requires-clause-known : goal.answer-requires-clause-known
answer-requires-clause-known g c = let known = c.requires.known in (
  known.leaf,
  known.before,
  known.read,
  known.now,
  known.knows,
  known.is,
  subst (λ (vs : List Value). Gives c.args.first vs (λ s value. MayAnswer known.leaf known.before
      known.now.buckets (known.read s)
      ((note g.C.Disk.facts g.B.Disk.facts c.args.seat.now).read s) s value)) (sym c.in-Ok.ensures)
      known.may,
)
