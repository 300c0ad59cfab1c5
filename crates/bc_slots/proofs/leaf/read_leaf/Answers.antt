use Rattle.std.proofs.Common.{refl, sym, subst}
use Rattle.std.specs.Prelude.{Err}
use Rattle.bc_node.specs.Leaf.{Leaf}
use Rattle.bc_replay.specs.Causes.{RisesWith}
use Rattle.bc_replay.specs.declared.error.OpenError.{OpenError}
use Rattle.bc_slots.specs.Parts.{IsLeafCause}
use Rattle.bc_slots.proofs.Loads.{leaf_cause, leaf_rises, no_node_key, room_of}
use Rattle.bc_slots.proofs.leaf.read_leaf.Goals as goal

pub reload-requires-clause-room : goal.reload-requires-clause-room
reload-requires-clause-room g c =
    room_of c.args.g.now c.args.range.now c.key_of-key.result c.in-Some.bucket (g.C.Disk.facts c.args.cache.now).sectors c.key_of-key.ensures.names c.in-Some.ensures c.requires.room

pub returns-in_default-clause-refused : goal.returns-in_default-clause-refused
returns-in_default-clause-refused g c = (
  refl,
  no_node_key c.args.g.now c.args.range.now c.key_of-key.result c.key_of-key.ensures.names c.key_of-key.ensures.size c.key_of-key.ensures.count c.in_default.ensures,
)

pub returns-in-Err-clause-refused : goal.returns-in-Err-clause-refused
returns-in-Err-clause-refused g c =
    let old = g.C.Disk.facts c.args.cache.now in
    let new = g.C.Disk.facts c.reload.new.disk in
    subst (IsLeafCause c.args.g.now c.args.range.now old) (sym c.refusal.ensures)
    (leaf_cause old new c.args.g.now c.args.range.now c.key_of-key.result c.in-Some.bucket c.in-Err.why c.key_of-key.ensures.names c.in-Some.ensures c.in-Err.ensures.refused)

pub returns-in-Err-clause-faults : goal.returns-in-Err-clause-faults
returns-in-Err-clause-faults g c =
    let old = g.C.Disk.facts c.args.cache.now in
    let new = g.C.Disk.facts c.reload.new.disk in
    subst (λ (e : OpenError). RisesWith {T = Leaf} (Err e) old.faults new.faults) (sym c.refusal.ensures)
    (leaf_rises old new c.args.g.now c.args.range.now c.in-Some.bucket c.in-Err.why c.in-Err.ensures.refused)
