use Rattle.std.proofs.Common.{◌≡◌, ◌+◌, ◌-◌, ◌^◌, List, ap, ◌∙◌, subst}
use Prim.Native.Nat.{min}
use Rattle.bc_key.specs.declared.key.Key.{Key}
use Rattle.bc_extent.specs.LastKey.{last_key}
use Rattle.bc_extent.specs.Extents.{Shows, erased}
use Rattle.bc_extent.proofs.Outcomes.{shows_erased, shows_kept, none_covers_erased}
use Rattle.bc_plain.proofs.vector.PlainExtents.erase.Goals as goal

shown : (c : goal.After-overlay) → Shows (erased c.args.first c.args.count (last_key c.self.inside.keys.items)) c.overlay.new.keys.items
shown c =
    let capped : c.saturating_add-end.result ≡ min (c.args.first + c.args.count) (2 ^ 64 - 1) = c.saturating_add-end.ensures ∙ ap (λ n. min (c.args.first + n) (2 ^ 64 - 1)) c.from.ensures in
    shows_erased c.self.inside.keys.items c.args.first c.args.count c.saturating_add-end.result capped c.overlay.new.keys.items c.overlay.ensures.shows

pub returns-then-first-end-clause-shows : goal.returns-then-first-end-clause-shows
returns-then-first-end-clause-shows c = subst (λ (keys : List Key). Shows (erased c.args.first c.args.count (last_key keys)) c.overlay.new.keys.items) (ap (λ e. e.keys) c.self.view_is) (shown c)

pub returns-then-first-end-clause-gone : goal.returns-then-first-end-clause-gone
returns-then-first-end-clause-gone c =
    let capped : c.saturating_add-end.result ≡ min (c.args.first + c.args.count) (2 ^ 64 - 1) = c.saturating_add-end.ensures ∙ ap (λ n. min (c.args.first + n) (2 ^ 64 - 1)) c.from.ensures in
    none_covers_erased c.self.inside.keys.items c.args.first c.args.count c.saturating_add-end.result capped c.overlay.new.keys.items (shown c)

pub returns-else-first-end-clause-shows : goal.returns-else-first-end-clause-shows
returns-else-first-end-clause-shows c =
    let old = c.self.inside.keys.items in
    let capped : c.saturating_add-end.result ≡ min (c.args.first + c.args.count) (2 ^ 64 - 1) = c.saturating_add-end.ensures ∙ ap (λ n. min (c.args.first + n) (2 ^ 64 - 1)) c.from.ensures in
    subst (λ (keys : List Key). Shows (erased c.args.first c.args.count (last_key keys)) keys) (ap (λ e. e.keys) c.self.view_is) (shows_kept old c.args.first c.args.count c.saturating_add-end.result capped c.self.invariant c.if-first-end.false)
