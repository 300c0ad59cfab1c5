use Rattle.std.proofs.Common.{◌≡◌, slice_range, inr, ap, ◌∙◌, arith}
use Rattle.std.specs.Prelude.{replicate}
use Rattle.bc_super.specs.Super.{fields_in, count_in}
use Rattle.bc_super.specs.Writing.{fields_of}
use Rattle.bc_super.proofs.Sectors.{fields_outside}
use Rattle.bc_super.specs.declared.fields.Fields.{Fields}
use Rattle.bc_super.proofs.backing.encode.Goals as goal

pub returns : goal.returns
returns c =
    let written = c.put_fields.new.bytes in
    let others = c.put_checksum.ensures.others in
    let pad : slice_range written 120 184 ≡ replicate 64 0 = c.put_fields.ensures.pad in
    let rest : slice_range written 208 512 ≡ replicate 304 0 = c.put_fields.ensures.rest 208 512 (omega arith) in
    let fields : fields_in c.put_checksum.new.bytes ≡ fields_of c.args.s.now = fields_outside written c.put_checksum.new.bytes others ∙ c.put_fields.ensures.fields ∙ c.to_fields.ensures in
    let none : count_in c.put_checksum.new.bytes ≡ 0 = ap (λ (f : Fields). f.journal) fields in
    record {
      whole = search arith;
      super = record {
        has_magic = others.parts 24 40 (inr (omega arith)) ∙ c.put_fields.ensures.has_magic;
        place = others.numbers 8 8 (inr (omega arith)) ∙ c.put_fields.ensures.place;
        count = omega arith;
        checksum = c.put_checksum.ensures.has_checksum;
      };
      fields = fields;
      features_and_pad = others.parts 120 184 (inr (omega arith)) ∙ pad;
      behind = others.parts 208 512 (inr (omega arith)) ∙ rest;
    }
