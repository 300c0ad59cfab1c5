use Rattle.std.proofs.Common.{refl}
use Rattle.bc_by_root.proofs.Waiting.{missed, none_durable, some_durable}
use Rattle.bc_by_root.proofs.pending.is_durable_to.Goals as goal

pub returns-in_default : goal.returns-in_default
returns-in_default c = (
  λ on. missed c.args.cache.now.slots c.args.upto c.args.number c.in_default.ensures,
  λ all. refl,
)

pub returns-in-None : goal.returns-in-None
returns-in-None c = none_durable c.args.cache.now.slots c.args.upto c.args.number c.in-Some.slot
    c.leaf.result.now c.leaf.ensures c.in-Some.ensures c.entries.result c.entries.ensures
    c.in-None.is

pub returns-in-Some-entries : goal.returns-in-Some-entries
returns-in-Some-entries c = some_durable c.args.cache.now.slots c.args.upto c.args.number
    c.in-Some.slot c.leaf.result.now c.leaf.ensures c.in-Some.ensures c.entries.result
    c.in-Some-entries.entries c.entries.ensures c.in-Some-entries.is
