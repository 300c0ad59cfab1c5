use Rattle.std.proofs.Common.{sym, ap, ◌∙◌}
use Rattle.bc_parts.proofs.Cargoes.{lends_book, lent_book, same_book, same_some}
use Rattle.bc_parts.proofs.steps.admits.Goals as goal

pub slot_mut-requires : goal.slot_mut-requires
slot_mut-requires g c = (c.requires.table, lends_book g.M.Machine c.args.slot _ _ c.args.place.now.me c.requires.book)

pub book_at-requires : goal.book_at-requires
book_at-requires g c = let b = lent_book g.M.Machine c.args.slot _ _ c.args.place.now.me _ c.requires.book c.slot_mut.ensures.value in (b.book, b.is)

pub returns-clause-same : goal.returns-clause-same
returns-clause-same g c = ap (λ cs. (c.args.place.now.me.0, cs)) (sym c.slot_mut.ensures.value)

pub returns-clause-verdict : goal.returns-clause-verdict
returns-clause-verdict g c = let b = lent_book g.M.Machine c.args.slot _ _ c.args.place.now.me _ c.requires.book c.slot_mut.ensures.value in
    c.admits.ensures ∙ ap (λ es. g.M.Machine.verdict es c.args.event.now) (ap g.M.Machine.events (same_book _ _ (same_some _ _ (sym c.book_at.ensures ∙ b.is))) ∙ b.events)
