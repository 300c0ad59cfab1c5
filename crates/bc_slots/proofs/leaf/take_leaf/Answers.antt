use Rattle.std.proofs.Common.{◌≡◌, ◌+◌, ◌∙◌, true, refl, sym}
use Rattle.bc_replay.proofs.Pairs.{passed_on}
use Rattle.bc_slots.specs.Parts.{IsLeafCause}
use Rattle.bc_slots.specs.Places.{has_keys}
use Rattle.bc_slots.proofs.Calls.{calls_none, calls_some}
use Rattle.bc_slots.proofs.Made.{some_of}
use Rattle.bc_slots.proofs.Loads.{taken_nothing, taken_one}
use Rattle.bc_slots.proofs.leaf.take_leaf.Goals as goal

pub returns-then-is_empty-clause-taken : goal.returns-then-is_empty-clause-taken
returns-then-is_empty-clause-taken g c =
    taken_nothing c.args.g.now c.args.range.now c.args.keys.now (g.C.Disk.facts c.args.cache.now) c.args.part.now c.args.filled.now (sym c.is_empty.ensures ∙ c.if-is_empty.true)

pub returns-in_err-leaf-clause-refused : goal.returns-in_err-leaf-clause-refused
returns-in_err-leaf-clause-refused g c =
    passed_on c.from_residual.result c.in_err-leaf.field-0.0 (IsLeafCause c.args.g.now c.args.range.now (g.C.Disk.facts c.args.cache.now)) c.from_residual.ensures.1 c.in_err-leaf.ensures.refused

pub returns-in_err-leaf-clause-keys : goal.returns-in_err-leaf-clause-keys
returns-in_err-leaf-clause-keys g c =
    passed_on c.from_residual.result c.in_err-leaf.field-0.0 (λ e. has_keys c.args.keys.now ≡ true) c.from_residual.ensures.1
    (some_of c.args.keys.now (sym c.is_empty.ensures ∙ c.if-is_empty.false))

pub returns-clause-taken : goal.returns-clause-taken
returns-clause-taken g c =
    taken_one c.args.g.now c.args.range.now c.args.keys.now (g.C.Disk.facts c.args.cache.now) c.args.part.now c.put.new.self c.args.filled.now (c.args.filled.now + 1) (sym c.is_empty.ensures ∙ c.if-is_empty.false) (record {
      leaf = c.in_ok-leaf.leaf;
      is = c.in_ok-leaf.ensures.found;
      after = c.put.ensures;
      more = refl;
    })

pub returns-then-is_empty-clause-calls : goal.returns-then-is_empty-clause-calls
returns-then-is_empty-clause-calls g c =
    calls_none c.args.keys.now (g.C.Disk.facts c.args.cache.now).calls (sym c.is_empty.ensures ∙ c.if-is_empty.true)

pub returns-clause-calls : goal.returns-clause-calls
returns-clause-calls g c =
    calls_some c.args.keys.now (g.C.Disk.facts c.args.cache.now).calls (g.C.Disk.facts c.read_leaf.new.cache).calls (sym c.is_empty.ensures ∙ c.if-is_empty.false) c.in_ok-leaf.ensures.read.0
