use Rattle.std.proofs.Common.{length, sym, ap, ◌∙◌}
use Rattle.bc_entries.specs.Journal.{Journal}
use Rattle.bc_entries.proofs.Lists.{length-picked}
use Rattle.bc_entries.proofs.journal.Journal.len.Goals as goal

pub returns : goal.returns
returns c =
    let inside = c.self.inside in
    c.len.ensures ∙ inside.order.ok.0 ∙ sym (length-picked inside.all.items inside.order.items c.self.invariant) ∙ ap (λ (j : Journal). length j.entries) c.self.view_is
