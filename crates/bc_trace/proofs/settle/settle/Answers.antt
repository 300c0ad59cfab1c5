use Rattle.std.proofs.Common.{◌≢◌, inl, List, [], refl, sym, ap, ◌∙◌, subst}
use Rattle.bc_flush.proofs.Hands.{is_empty_of, is_some_of, journal_stands, none_of}
use Rattle.bc_flush.proofs.Syncing.{can_seal, refused_none, stood_here, synced_none}
use Rattle.bc_flush.specs.declared.error.FlushError.TheVariants as flush
use Rattle.bc_journal.specs.Journal.{IsJournal as IsGoodJournal, Journal}
use Rattle.bc_key.specs.declared.key.Key.{Key}
use Rattle.bc_leaf_walk.specs.bc_machine.World.{cache_among}
use Rattle.bc_trace.proofs.settle.settle.Goals as goal

pub returns-then-is_some-clause-err : goal.returns-then-is_some-clause-err
returns-then-is_some-clause-err g c =
    let cf = g.C.Disk.facts in
    let bf = g.B.Disk.facts in
    refused_none cf bf (cache_among cf bf c.args.parts.now.run.start).sectors flush.Memory
    c.args.seat.now c.requires.works.seat refl tt tt

pub returns-in-Some-heard-clause-err : goal.returns-in-Some-heard-clause-err
returns-in-Some-heard-clause-err g c =
    let cf = g.C.Disk.facts in
    let bf = g.B.Disk.facts in
    refused_none cf bf (cache_among cf bf c.args.parts.now.run.start).sectors
    (flush.Halted c.in-Some-heard.device) c.args.seat.now c.requires.works.seat
    (c.in-Some.journal, inl (tt, refl))
    (stood_here cf bf c.args.seat.now c.requires.works.seat c.in-Some.journal
    (journal_stands cf bf c.args.parts.now c.args.seat.now c.args.hand.now c.in-Some.journal
    c.requires.works c.in-Some.is))
    (c.in-Some-heard.ensures.stopped c.in-Some-heard.device refl)

pub returns-then-is_empty-clause-ok : goal.returns-then-is_empty-clause-ok
returns-then-is_empty-clause-ok g c = synced_none g.C.Disk.facts g.B.Disk.facts
    c.args.seat.now c.requires.works.seat

pub returns-then-is_empty-clause-settled : goal.returns-then-is_empty-clause-settled
returns-then-is_empty-clause-settled g c = (
  c.in-Some.journal,
  c.in-Some.is,
  ap (λ (j : Journal). j.waiting) (sym c.get-2.ensures) ∙ sym c.waiting.ensures.value
      ∙ is_empty_of c.waiting.result.now c.is_empty.result c.is_empty.ensures c.if-is_empty.true,
  ap (λ (j : Journal). j.sealed) (sym c.get.ensures) ∙ sym c.sealed.ensures.value
      ∙ none_of c.sealed.result (sym c.is_some.ensures ∙ c.if-is_some.false),
)

pub put_waiting-requires-clause-journal : goal.put_waiting-requires-clause-journal
put_waiting-requires-clause-journal g c =
    let some = subst (λ (keys : List Key). keys ≢ []) (c.waiting.ensures.value
    ∙ ap (λ (j : Journal). j.waiting) c.get-2.ensures)
    (is_some_of c.waiting.result.now c.is_empty.result c.is_empty.ensures c.if-is_empty.false) in (
      c.in-Some.journal,
      c.in-Some.is,
      can_seal c.in-Some.journal (subst IsGoodJournal c.get-2.ensures c.waiting.ensures.journal)
          (ap (λ (j : Journal). j.sealed) (sym c.get.ensures) ∙ sym c.sealed.ensures.value
          ∙ none_of c.sealed.result (sym c.is_some.ensures ∙ c.if-is_some.false)) some,
      some,
    )
