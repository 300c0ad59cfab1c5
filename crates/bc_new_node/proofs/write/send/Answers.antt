use Rattle.std.proofs.Common.{ℕ, List, drop, length, ap, ◌∙◌}
use Rattle.std.proofs.lemmas.List.{take_at}
use Rattle.bc_model.specs.Sector.{values_of}
use Rattle.bc_new_node.proofs.Sending.{sent_new}
use Rattle.bc_new_node.proofs.write.send.Goals as goal

pub returns-clause-sent : goal.returns-clause-sent
returns-clause-sent g c =
    let node = c.write_node-sent.ensures.node in
    let bytes = c.write_node-sent.new.buffer in
    let back = take_at bytes (drop (length bytes) c.args.buffer.items) c.args.buffer.len
    (c.write_node-sent.auto.buffer ∙ c.deref_mut.ensures.len) in
    sent_new c.args.g.now c.args.plan.now c.args.node c.args.slot c.args.number
    c.write_of-what.result c.from_raw-values.result c.write_node-sent.result
    (g.D.Disk.facts c.args.disk.now) (g.D.Disk.facts c.write_node-sent.new.disk) bytes node.0
    c.write_of-what.ensures node.1 node.2
    (c.write_node-sent.auto.buffer ∙ ap (λ (l : List ℕ). length l) c.deref_mut.ensures.value
    ∙ c.requires.whole) (c.from_raw-values.ensures ∙ ap values_of back)
