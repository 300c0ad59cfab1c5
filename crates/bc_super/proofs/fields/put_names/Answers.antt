use Rattle.std.proofs.Common.{◌≡◌, ℕ, ◌+◌, List, length, slice_range, inl, ap, ◌∙◌, sym, arith}
use Rattle.bc_super.specs.Super.{magic}
use Rattle.bc_super.proofs.fields.put_names.Goals as goal

-- a part of known length
exact : (bytes part : List ℕ) (at n : ℕ) → length part ≡ n → slice_range bytes at (at + length part) ≡ part → slice_range bytes at (at + n) ≡ part
exact bytes part at n long is = ap (λ k. slice_range bytes at (at + k)) (sym long) ∙ is

pub returns-clause-names : goal.returns-clause-names
returns-clause-names c =
    let f = c.args.fields.now in
    let after_place = c.put_u64-2.ensures.others in
    let after_version = c.put_part.ensures.others in
    let after_magic = c.put_part-2.ensures.others in
    let after_uuid = c.put_part-3.ensures.others in
    let after_set = c.put_part-4.ensures.others in
    let after_label = c.put_u64-3.ensures.others in
    let after_flags = c.put_u64-4.ensures.others in
    let magic_part : slice_range c.put_part.new.bytes 24 40 ≡ magic = c.put_part.ensures.part in
    record {
      has_magic =
          after_flags.parts 24 40 (inl (omega arith)) ∙ after_label.parts 24 40 (inl (omega arith)) ∙ after_set.parts 24 40 (inl (omega arith))
          ∙ after_uuid.parts 24 40 (inl (omega arith)) ∙ after_magic.parts 24 40 (inl (omega arith)) ∙ magic_part;
      place =
          after_flags.numbers 8 8 (inl (omega arith)) ∙ after_label.numbers 8 8 (inl (omega arith)) ∙ after_set.numbers 8 8 (inl (omega arith))
          ∙ after_uuid.numbers 8 8 (inl (omega arith)) ∙ after_magic.numbers 8 8 (inl (omega arith)) ∙ after_version.numbers 8 8 (inl (omega arith))
          ∙ after_place.numbers 8 8 (inl (omega arith)) ∙ c.put_u64.ensures.field;
      version =
          after_flags.numbers 8 16 (inl (omega arith)) ∙ after_label.numbers 8 16 (inl (omega arith)) ∙ after_set.numbers 8 16 (inl (omega arith))
          ∙ after_uuid.numbers 8 16 (inl (omega arith)) ∙ after_magic.numbers 8 16 (inl (omega arith)) ∙ after_version.numbers 8 16 (inl (omega arith))
          ∙ c.put_u64-2.ensures.field;
      uuid =
          after_flags.parts 40 56 (inl (omega arith)) ∙ after_label.parts 40 56 (inl (omega arith)) ∙ after_set.parts 40 56 (inl (omega arith))
          ∙ after_uuid.parts 40 56 (inl (omega arith)) ∙ exact c.put_part-2.new.bytes f.uuid 40 16 (omega arith) c.put_part-2.ensures.part;
      set_uuid =
          after_flags.parts 56 72 (inl (omega arith)) ∙ after_label.parts 56 72 (inl (omega arith)) ∙ after_set.parts 56 72 (inl (omega arith))
          ∙ exact c.put_part-3.new.bytes f.set_uuid 56 16 (omega arith) c.put_part-3.ensures.part;
      label =
          after_flags.parts 72 104 (inl (omega arith)) ∙ after_label.parts 72 104 (inl (omega arith))
          ∙ exact c.put_part-4.new.bytes f.label 72 32 (omega arith) c.put_part-4.ensures.part;
      flags = after_flags.numbers 8 104 (inl (omega arith)) ∙ c.put_u64-3.ensures.field;
      seq = c.put_u64-4.ensures.field;
    }
