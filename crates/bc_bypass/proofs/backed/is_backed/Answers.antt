use Rattle.std.proofs.Common.{sym, ap, ◌∙◌}
use Rattle.bc_bypass.proofs.Dirt.{empty_backed, key_backed, none_backed}
use Rattle.bc_extent.specs.LastKey.{last_key}
use Rattle.bc_bypass.proofs.backed.is_backed.Goals as goal

pub returns-in-None : goal.returns-in-None
returns-in-None c = none_backed c.args.leaf.now c.args.sector c.keys.ensures.proper.order
    (sym c.in-None.is ∙ c.lookup.ensures.last
    ∙ ap (λ ks. last_key ks c.args.sector) c.keys.ensures.keys)

pub returns-then-key-eq0 : goal.returns-then-key-eq0
returns-then-key-eq0 c = empty_backed c.args.leaf.now c.args.sector c.in-Some.key
    c.keys.ensures.proper.order
    (sym c.in-Some.is ∙ c.lookup.ensures.last
    ∙ ap (λ ks. last_key ks c.args.sector) c.keys.ensures.keys) c.if-key-eq0.true

pub returns-else-key-eq0 : goal.returns-else-key-eq0
returns-else-key-eq0 c = key_backed c.args.leaf.now c.args.sector c.in-Some.key
    c.keys.ensures.proper.order
    (sym c.in-Some.is ∙ c.lookup.ensures.last
    ∙ ap (λ ks. last_key ks c.args.sector) c.keys.ensures.keys) c.if-key-eq0.false
