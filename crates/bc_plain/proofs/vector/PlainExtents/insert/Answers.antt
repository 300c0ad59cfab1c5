use Rattle.std.proofs.Common.{◌++◌, [], ◌∷◌, List, Some, ap, subst}
use Rattle.bc_key.specs.declared.key.Key.{Key}
use Rattle.bc_extent.specs.LastKey.{last_key}
use Rattle.bc_extent.specs.Extents.{Shows, overlaid}
use Rattle.bc_extent.proofs.Outcomes.{shows_inserted, shows_empty}
use Rattle.bc_plain.proofs.vector.PlainExtents.insert.Goals as goal

pub returns-then-key-gt0-clause-shows : goal.returns-then-key-gt0-clause-shows
returns-then-key-gt0-clause-shows c =
    let key = c.args.key.now in
    let new = c.overlay.new.keys.items in
    let shown = subst (λ first. Shows (overlaid first key.end (Some key) (last_key c.self.inside.keys.items)) new) c.start.ensures c.overlay.ensures.shows in
    subst (λ (old : List Key). Shows (last_key (old ++ key ∷ [])) new) (ap (λ e. e.keys) c.self.view_is) (shows_inserted c.self.inside.keys.items key new shown)

pub returns-else-key-gt0-clause-shows : goal.returns-else-key-gt0-clause-shows
returns-else-key-gt0-clause-shows c =
    let key = c.args.key.now in
    let old = c.self.inside.keys.items in
    subst (λ (keys : List Key). Shows (last_key (keys ++ key ∷ [])) keys) (ap (λ e. e.keys) c.self.view_is) (shows_empty old key c.self.invariant c.if-key-gt0.false)
