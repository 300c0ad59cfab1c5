use Rattle.std.proofs.Common.{length, ◌∙◌}
use Rattle.bc_uuid.proofs.Pieces.{names_uuid, names_label, names_rest}
use Rattle.bc_uuid.proofs.entry.put_names.Goals as goal

pub returns-clause-uuid : goal.returns-clause-uuid
returns-clause-uuid c =
    names_uuid (length c.args.bytes.now) c.fill.new.self c.args.uuid.now c.args.label.now c.copy_from_slice.new.self c.copy_from_slice-2.new.self (c.fill.ensures.after (λ y e. e)) (c.fill.auto.self ∙ c.requires) c.copy_from_slice.ensures.after c.copy_from_slice-2.ensures.after c.told-uuid c.told-label

pub returns-clause-label : goal.returns-clause-label
returns-clause-label c =
    names_label (length c.args.bytes.now) c.fill.new.self c.args.uuid.now c.args.label.now c.copy_from_slice.new.self c.copy_from_slice-2.new.self (c.fill.ensures.after (λ y e. e)) (c.fill.auto.self ∙ c.requires) c.copy_from_slice.ensures.after c.copy_from_slice-2.ensures.after c.told-uuid c.told-label

pub returns-clause-rest : goal.returns-clause-rest
returns-clause-rest c =
    names_rest (length c.args.bytes.now) c.fill.new.self c.args.uuid.now c.args.label.now c.copy_from_slice.new.self c.copy_from_slice-2.new.self (c.fill.ensures.after (λ y e. e)) (c.fill.auto.self ∙ c.requires) c.copy_from_slice.ensures.after c.copy_from_slice-2.ensures.after c.told-uuid c.told-label
