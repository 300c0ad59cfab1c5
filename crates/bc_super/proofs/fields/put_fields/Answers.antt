use Rattle.std.proofs.Common.{inl, inr, ◌∙◌, arith}
use Rattle.bc_super.proofs.fields.put_fields.Goals as goal

pub returns-clause-has_magic : goal.returns-clause-has_magic
returns-clause-has_magic c = c.put_layout.ensures.others.parts 24 40 (inl (omega arith)) ∙ c.put_names.ensures.names.has_magic

pub returns-clause-pad : goal.returns-clause-pad
returns-clause-pad c =
    c.put_layout.ensures.others.parts 120 184 (inl (omega arith)) ∙ c.put_names.ensures.others.parts 120 184 (inr (omega arith))

pub returns-clause-fields : goal.returns-clause-fields
returns-clause-fields c =
    let names = c.put_names.ensures.names in
    let layout = c.put_layout.ensures.layout in
    let others = c.put_layout.ensures.others in
    let version = others.numbers 8 16 (inl (omega arith)) ∙ names.version in
    let uuid = others.parts 40 56 (inl (omega arith)) ∙ names.uuid in
    let set_uuid = others.parts 56 72 (inl (omega arith)) ∙ names.set_uuid in
    let label = others.parts 72 104 (inl (omega arith)) ∙ names.label in
    let flags = others.numbers 8 104 (inl (omega arith)) ∙ names.flags in
    let seq = others.numbers 8 112 (inl (omega arith)) ∙ names.seq in
    let features = others.parts 120 144 (inl (omega arith)) ∙ c.put_names.ensures.others.parts 120 144 (inr (omega arith)) ∙ c.requires.features in
    λ i. record {
      version = version i;
      uuid = uuid i;
      set_uuid = set_uuid i;
      label = label i;
      flags = flags i;
      seq = seq i;
      features = features i;
      nbuckets = layout.nbuckets i;
      block = layout.block i;
      bucket = layout.bucket i;
      devices = layout.devices i;
      device = layout.device i;
      last_mount = layout.last_mount i;
      first_bucket = layout.first_bucket i;
      journal = layout.journal i;
    }
