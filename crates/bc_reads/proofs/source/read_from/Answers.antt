use Rattle.std.proofs.Common.{inl, sym, ap, ◌∙◌}
use Rattle.bc_extent.specs.LastKey.{last_key}
use Rattle.bc_reads.proofs.Said.{by_leaf, key_said, none_said}
use Rattle.bc_reads.proofs.source.read_from.Goals as goal

pub returns-in-None : goal.returns-in-None
returns-in-None c = inl (none_said c.args.leaf.now c.args.sector c.keys.ensures.proper.order
    (sym c.in-None.is ∙ c.lookup.ensures.last
    ∙ ap (λ ks. last_key ks c.args.sector) c.keys.ensures.keys))

pub returns-in-Some : goal.returns-in-Some
returns-in-Some c = by_leaf c.args.leaf.now c.args.buckets.now c.args.sector c.in-Some.key
    c.of_key.result
    (key_said c.args.leaf.now c.args.sector c.in-Some.key c.keys.ensures.proper.order
    (sym c.in-Some.is ∙ c.lookup.ensures.last
    ∙ ap (λ ks. last_key ks c.args.sector) c.keys.ensures.keys)) c.of_key.ensures
