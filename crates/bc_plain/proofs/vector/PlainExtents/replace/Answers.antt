use Rattle.std.proofs.Common.{◌≡◌, ◌<◌, ◌++◌, [], ◌∷◌, List, length, get_or, set, ap, subst}
use Rattle.bc_key.specs.declared.key.Key.{Key}
use Rattle.bc_extent.specs.LastKey.{last_key}
use Rattle.bc_extent.specs.Extents.{Shows}
use Rattle.bc_extent.proofs.Outcomes.{shows_replaced}
use Rattle.bc_plain.proofs.vector.PlainExtents.replace.Goals as goal

pub returns-in-Some-clause-shows : goal.returns-in-Some-clause-shows
returns-in-Some-clause-shows c =
    let old = c.self.inside.keys.items in
    let key = c.args.old.now in
    let new = c.args.new.now in
    let place = c.in-Some.place in
    let found = subst (λ (keys : List Key). (place < length keys) × (get_or keys place key ≡ key)) c.deref.ensures.value c.in-Some.ensures.found in
    subst (λ (keys : List Key). Shows (last_key (keys ++ new ∷ [])) (set old place new)) (ap (λ e. e.keys) c.self.view_is) (shows_replaced old c.self.invariant key new place found.0 found.1 c.requires.end c.requires.size)
