use Rattle.std.proofs.Common.{◌≡◌, ℕ, ◌+◌, ◌*◌, ◌≤◌, List, inl, sym, refl, ◌∙◌, arith}
use Rattle.std.specs.Prelude.{slice_index}
use Rattle.bc_bytes.specs.Fields.{number_at}
use Rattle.bc_uuid.proofs.Places.{byte_behind, zeros_at}
use Rattle.bc_uuid.proofs.entry.UuidEntry.encode.Goals as goal

pub returns : goal.returns
returns c =
    let b0 = c.put_names.new.bytes in
    let b4 = c.put_u32.new.bytes in
    let b5 = c.put_u64.new.bytes in
    let s4 = c.put_u32.ensures.others in
    let s5 = c.put_u64.ensures.others in
    let zero : (at : ℕ) → 48 ≤ at → number_at 4 b0 at ≡ 0 = λ at low. zeros_at b0 48 at low c.put_names.ensures.rest in
    let time : (at : ℕ) → 48 ≤ at → at + 4 ≤ 60 → number_at 4 b5 at ≡ 0 = λ at low high. s5.numbers 4 at (inl (omega arith)) ∙ s4.numbers 4 at (inl high) ∙ zero at low in
    record {
      says = record {
        uuid = s5.parts 0 16 (inl (omega arith)) ∙ s4.parts 0 16 (inl (omega arith)) ∙ c.put_names.ensures.uuid;
        label = s5.parts 16 48 (inl (omega arith)) ∙ s4.parts 16 48 (inl (omega arith)) ∙ c.put_names.ensures.label;
        first_reg = time 48 (omega arith) (omega arith);
        last_reg = time 52 (omega arith) (omega arith);
        invalidated = time 56 (omega arith) (omega arith);
        flags = s5.numbers 4 60 (inl (omega arith)) ∙ c.put_u32.ensures.field;
        sectors = c.put_u64.ensures.field;
      };
      rest = λ k low.
          byte_behind 8 b4 b5 64 k s5 (omega arith) ∙ byte_behind 4 b0 b4 60 k s4 (omega arith) ∙ c.put_names.ensures.rest k (omega arith);
    }
