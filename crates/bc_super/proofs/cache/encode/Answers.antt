use Rattle.std.proofs.Common.{◌≡◌, ◌+◌, ◌*◌, ◌-◌, slice_range, inl, inr, ap, ◌∙◌, arith}
use Rattle.bc_super.specs.Super.{fields_in, count_in}
use Rattle.bc_super.specs.Writing.{cache_fields_of}
use Rattle.bc_super.proofs.Sectors.{fields_outside, fields_before, zeros, zeros_part}
use Rattle.bc_super.specs.declared.fields.Fields.{Fields}
use Rattle.bc_super.proofs.cache.encode.Goals as goal

pub returns : goal.returns
returns c =
    let s = c.args.s.now in
    let begun = c.put_fields.new.bytes in
    let listed = c.put_list.new.bytes in
    let last = c.put_checksum.new.bytes in
    let list = c.put_list.ensures.others in
    let others = c.put_checksum.ensures.others in
    let pad : slice_range begun 120 184 ≡ zeros 64 = c.put_fields.ensures.pad in
    let rest : slice_range begun (208 + 8 * s.journal) 2560 ≡ slice_range (zeros 2560) (208 + 8 * s.journal) 2560 = c.put_fields.ensures.rest (208 + 8 * s.journal) 2560 (omega arith) in
    let fields : fields_in last ≡ cache_fields_of s = fields_outside listed last others ∙ fields_before (8 * s.journal) begun listed list ∙ c.put_fields.ensures.fields ∙ c.to_fields.ensures in
    let left : 2560 - (208 + 8 * s.journal) ≡ 2352 - 8 * s.journal = omega arith in
    let count : count_in last ≡ s.journal = ap (λ (f : Fields). f.journal) fields in
    record {
      whole = search arith;
      super = record {
        has_magic = others.parts 24 40 (inr (omega arith)) ∙ list.parts 24 40 (inl (omega arith)) ∙ c.put_fields.ensures.has_magic;
        place = others.numbers 8 8 (inr (omega arith)) ∙ list.numbers 8 8 (inl (omega arith)) ∙ c.put_fields.ensures.place;
        count = omega arith;
        checksum = c.put_checksum.ensures.has_checksum;
      };
      fields = fields;
      list = λ i below. others.numbers 8 (208 + 8 * i) (inr (omega arith)) ∙ c.put_list.ensures.list i below;
      features_and_pad = others.parts 120 184 (inr (omega arith)) ∙ list.parts 120 184 (inl (omega arith)) ∙ pad;
      behind =
          others.parts (208 + 8 * s.journal) 2560 (inr (omega arith)) ∙ list.parts (208 + 8 * s.journal) 2560 (inr (omega arith)) ∙ rest
          ∙ zeros_part (208 + 8 * s.journal) 2560 (omega arith) ∙ ap zeros left;
    }
