use Rattle.std.proofs.Common.{Some, ap, ◌∙◌}
use Rattle.bc_settle.specs.bc_hand.declared.hand.Hand.{Hand}
use Rattle.bc_settled.proofs.Coming.{none_both, twice}
use Rattle.bc_settled.proofs.Hands.{four_kinds}
use Rattle.bc_settled.proofs.taken.take_three.Goals as goal

pub borrow_flight-flight-requires-clause-order : goal.borrow_flight-flight-requires-clause-order
borrow_flight-flight-requires-clause-order g c = λ _. record {
  buckets = ap (λ (h : Hand _ _). h.buckets) c.requires.leaves;
  journal = ap (λ (h : Hand _ _). h.journal) c.requires.leaves;
  cache = ap (λ (h : Hand _ _). h.cache) c.requires.leaves;
  backing = ap (λ (h : Hand _ _). h.backing) c.requires.leaves;
}

pub borrow_buckets-buckets-requires-clause-order : goal.borrow_buckets-buckets-requires-clause-order
borrow_buckets-buckets-requires-clause-order g c = λ _. record {
  journal = ap (λ (h : Hand _ _). h.journal) c.return_flight.ensures.hand
      ∙ ap (λ (h : Hand _ _). h.journal) c.borrow_flight-flight.ensures.hand
      ∙ ap (λ (h : Hand _ _). h.journal) c.requires.leaves;
  cache = ap (λ (h : Hand _ _). h.cache) c.return_flight.ensures.hand
      ∙ ap (λ (h : Hand _ _). h.cache) c.borrow_flight-flight.ensures.hand
      ∙ ap (λ (h : Hand _ _). h.cache) c.requires.leaves;
  backing = ap (λ (h : Hand _ _). h.backing) c.return_flight.ensures.hand
      ∙ ap (λ (h : Hand _ _). h.backing) c.borrow_flight-flight.ensures.hand
      ∙ ap (λ (h : Hand _ _). h.backing) c.requires.leaves;
}

pub borrow_journal-journal-requires-clause-order : goal.borrow_journal-journal-requires-clause-order
borrow_journal-journal-requires-clause-order g c = λ _. record {
  cache = ap (λ (h : Hand _ _). h.cache) c.return_buckets.ensures.hand
      ∙ ap (λ (h : Hand _ _). h.cache) c.borrow_buckets-buckets.ensures.hand
      ∙ ap (λ (h : Hand _ _). h.cache) c.return_flight.ensures.hand
      ∙ ap (λ (h : Hand _ _). h.cache) c.borrow_flight-flight.ensures.hand
      ∙ ap (λ (h : Hand _ _). h.cache) c.requires.leaves;
  backing = ap (λ (h : Hand _ _). h.backing) c.return_buckets.ensures.hand
      ∙ ap (λ (h : Hand _ _). h.backing) c.borrow_buckets-buckets.ensures.hand
      ∙ ap (λ (h : Hand _ _). h.backing) c.return_flight.ensures.hand
      ∙ ap (λ (h : Hand _ _). h.backing) c.borrow_flight-flight.ensures.hand
      ∙ ap (λ (h : Hand _ _). h.backing) c.requires.leaves;
}

pub returns-clause-done : goal.returns-clause-done
returns-clause-done g c =
    let cf = g.C.Disk.facts in
    let bf = g.B.Disk.facts in
    let u = c.args.seat.now in
    let w = c.return_flight.new.seat in
    let y = c.return_buckets.new.seat in
    let z = c.return_journal.new.seat in
    none_both cf bf u w z
    (twice cf bf u c.borrow_flight-flight.new.seat w c.borrow_flight-flight.ensures.lent.seat
    c.borrow_flight-flight.ensures.waited
    c.return_flight.ensures.works.seat c.return_flight.ensures.waited)
    (none_both cf bf w y z
    (twice cf bf w c.borrow_buckets-buckets.new.seat y c.borrow_buckets-buckets.ensures.lent.seat
    c.borrow_buckets-buckets.ensures.waited
    c.return_buckets.ensures.works.seat c.return_buckets.ensures.waited)
    (twice cf bf y c.borrow_journal-journal.new.seat z c.borrow_journal-journal.ensures.lent.seat
    c.borrow_journal-journal.ensures.waited
    c.return_journal.ensures.works.seat c.return_journal.ensures.waited))

pub returns-clause-promises : goal.returns-clause-promises
returns-clause-promises g c = c.return_journal.ensures.waited.promises
    ∙ c.borrow_journal-journal.ensures.waited.promises ∙ c.return_buckets.ensures.waited.promises
    ∙ c.borrow_buckets-buckets.ensures.waited.promises ∙ c.return_flight.ensures.waited.promises
    ∙ c.borrow_flight-flight.ensures.waited.promises

pub returns-clause-leaves : goal.returns-clause-leaves
returns-clause-leaves g c = ap (λ (h : Hand _ _). h.leaves) c.return_journal.ensures.hand
    ∙ ap (λ (h : Hand _ _). h.leaves) c.borrow_journal-journal.ensures.hand
    ∙ ap (λ (h : Hand _ _). h.leaves) c.return_buckets.ensures.hand
    ∙ ap (λ (h : Hand _ _). h.leaves) c.borrow_buckets-buckets.ensures.hand
    ∙ ap (λ (h : Hand _ _). h.leaves) c.return_flight.ensures.hand
    ∙ ap (λ (h : Hand _ _). h.leaves) c.borrow_flight-flight.ensures.hand

pub returns-clause-flight : goal.returns-clause-flight
returns-clause-flight g c = (
  c.borrow_flight-flight.result.0,
  ap (λ (h : Hand _ _). h.flight) c.return_journal.ensures.hand
      ∙ ap (λ (h : Hand _ _). h.flight) c.borrow_journal-journal.ensures.hand
      ∙ ap (λ (h : Hand _ _). h.flight) c.return_buckets.ensures.hand
      ∙ ap (λ (h : Hand _ _). h.flight) c.borrow_buckets-buckets.ensures.hand
      ∙ ap (λ (h : Hand _ _). h.flight) c.return_flight.ensures.hand,
)

pub returns-clause-buckets : goal.returns-clause-buckets
returns-clause-buckets g c = (
  c.borrow_buckets-buckets.result.0,
  ap (λ (h : Hand _ _). h.buckets) c.return_journal.ensures.hand
      ∙ ap (λ (h : Hand _ _). h.buckets) c.borrow_journal-journal.ensures.hand
      ∙ ap (λ (h : Hand _ _). h.buckets) c.return_buckets.ensures.hand,
)

pub returns-clause-journal : goal.returns-clause-journal
returns-clause-journal g c = (
  c.borrow_journal-journal.result.0,
  ap (λ (h : Hand _ _). h.journal) c.return_journal.ensures.hand,
)

pub returns-clause-kinds : goal.returns-clause-kinds
returns-clause-kinds g c = λ l is.
    let f = c.borrow_flight-flight.result.0 in
    let k = c.borrow_buckets-buckets.result.0 in
    let j = c.borrow_journal-journal.result.0 in
    four_kinds c.args.hand.now c.return_journal.new.hand l f k j is
    (c.return_journal.ensures.hand
    ∙ ap (λ (h : Hand _ _). record h { journal = Some j }) c.borrow_journal-journal.ensures.hand
    ∙ ap (λ (h : Hand _ _). record h { journal = Some j }) c.return_buckets.ensures.hand
    ∙ ap (λ (h : Hand _ _). record h { buckets = Some k; journal = Some j })
    c.borrow_buckets-buckets.ensures.hand
    ∙ ap (λ (h : Hand _ _). record h { buckets = Some k; journal = Some j })
    c.return_flight.ensures.hand
    ∙ ap (λ (h : Hand _ _). record h { flight = Some f; buckets = Some k; journal = Some j })
    c.borrow_flight-flight.ensures.hand
    ∙ ap (λ (h : Hand _ _). record h { flight = Some f; buckets = Some k; journal = Some j })
    c.requires.leaves)
