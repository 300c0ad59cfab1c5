use Rattle.std.proofs.Common.{◌≤◌, ◌++◌, [], ◌∷◌, List, Some, ap, sym, subst, arith}
use Rattle.std.specs.Prelude.{All}
use Rattle.bc_key.specs.declared.key.Key.{Key}
use Rattle.bc_key.specs.Key.{start_of}
use Rattle.bc_extent.specs.LastKey.{last_key}
use Rattle.bc_extent.specs.Extents.{IsInOrder, Shows, overlaid}
use Rattle.bc_extent.proofs.Outcomes.{shows_inserted, shows_empty, order_behind, shows_behind}
use Rattle.bc_extent.proofs.extents.Extents.insert.Goals as goal

ended : (c : goal.After-put_last) → All (λ x. x.end ≤ start_of c.args.key.now) c.self.inside.rows.keys
ended c = λ i d here. omega (arith, c.last_end.ensures.all i d here, c.if-last_end-first.true, c.start-first.ensures)

pub returns-then-last_end-first-clause-shows : goal.returns-then-last_end-first-clause-shows
returns-then-last_end-first-clause-shows c =
    let key = c.args.key.now in
    let old = c.self.inside.rows.keys in
    let shown = shows_behind old c.self.invariant key (c.requires.extent, c.if-key-gt0.true) (ended c) in
    subst (λ (keys : List Key). Shows (last_key (keys ++ key ∷ [])) c.put_last.new.rows.keys) (ap (λ e. e.keys) c.self.view_is) (subst (λ (keys : List Key). Shows (last_key (old ++ key ∷ [])) keys) (sym c.put_last.ensures.keys) shown)

pub returns-then-last_end-first-clause-order : goal.returns-then-last_end-first-clause-order
returns-then-last_end-first-clause-order c = subst IsInOrder (sym c.put_last.ensures.keys) (order_behind c.self.inside.rows.keys c.self.invariant c.args.key.now (c.requires.extent, c.if-key-gt0.true) (ended c))

pub returns-else-last_end-first-clause-shows : goal.returns-else-last_end-first-clause-shows
returns-else-last_end-first-clause-shows c =
    let key = c.args.key.now in
    let new = c.overlay.new.rows.keys in
    let shown = subst (λ first. Shows (overlaid first key.end (Some key) (last_key c.self.inside.rows.keys)) new) c.start-first.ensures c.overlay.ensures.shows in
    subst (λ (old : List Key). Shows (last_key (old ++ key ∷ [])) new) (ap (λ e. e.keys) c.self.view_is) (shows_inserted c.self.inside.rows.keys key new shown)

pub returns-else-key-gt0-clause-shows : goal.returns-else-key-gt0-clause-shows
returns-else-key-gt0-clause-shows c =
    let key = c.args.key.now in
    let old = c.self.inside.rows.keys in
    subst (λ (keys : List Key). Shows (last_key (keys ++ key ∷ [])) keys) (ap (λ e. e.keys) c.self.view_is) (shows_empty old key c.self.invariant c.if-key-gt0.false)
