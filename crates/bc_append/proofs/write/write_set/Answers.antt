use Rattle.std.proofs.Common.{sym, ap, ◌∙◌}
use Rattle.std.specs.Prelude.{List, Option, slice_get}
use Rattle.bc_append.proofs.Held.{one_cached, set_leaf}
use Rattle.bc_append.proofs.Sending.{is_sent}
use Rattle.bc_cache.specs.declared.slots.Cached.{Cached}
use Rattle.bc_append.proofs.write.write_set.Goals as goal

pub returns : goal.returns
returns g c cached there =
    let at = c.node.ensures.leaf in
    is_sent c.args.slot cached c.append_or_close.result c.append_or_close.new.buffer
    (g.D.Disk.facts c.args.disk.now) (g.D.Disk.facts c.append_or_close.new.disk) c.args.cache.now _
    c.geometry.result.now c.node.result.now c.append_or_close.new.leaf c.geometry.ensures
    (sym at.2 ∙ ap (λ (x : Cached). x.leaf)
    (one_cached (slice_get c.args.cache.now.slots c.args.slot) at.0 cached at.1 there))
    c.append_or_close.ensures.set c.append_or_close.ensures.good c.append_or_close.ensures.failed
    c.append_or_close.ensures.counted c.append_or_close.ensures.behind
    (ap (λ (s : List (Option Cached)). record c.args.cache.now { slots = s })
    (set_leaf c.args.cache.now.slots c.args.slot cached c.append_or_close.new.leaf there))
