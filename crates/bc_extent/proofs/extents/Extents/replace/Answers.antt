use Rattle.std.proofs.Common.{◌++◌, [], ◌∷◌, List, set, sym, ap, ◌∙◌, subst}
use Rattle.bc_key.specs.declared.key.Key.{Key}
use Rattle.bc_extent.specs.LastKey.{last_key}
use Rattle.bc_extent.specs.Extents.{Shows}
use Rattle.bc_extent.proofs.Outcomes.{shows_replaced}
use Rattle.bc_extent.proofs.extents.Extents.replace.Goals as goal

pub returns-in-Some-clause-shows : goal.returns-in-Some-clause-shows
returns-in-Some-clause-shows c =
    let old = c.self.inside.rows.keys in
    let new = c.args.new.now in
    let place = c.in-Some.place in
    let found = c.in-Some.ensures.found in
    let shown = shows_replaced old c.self.invariant c.args.old.now new place found.0 found.1 c.requires.end c.requires.size in
    subst (λ (keys : List Key). Shows (last_key (keys ++ new ∷ [])) c.swap_in.new.self.keys) (ap (λ e. e.keys) c.self.view_is)
    (subst (Shows (last_key (old ++ new ∷ []))) (sym (c.swap_in.ensures.keys ∙ ap (λ key. set old place key) c.new.ensures)) shown)
