-- A pointer in one word.
use Rattle.std.specs.Prelude.{ℕ, ◌%◌, ◌/◌, ◌^◌}
use Rattle.bc_key.specs.declared.ptr.Ptr.{Ptr}
use Rattle.bc_extent.specs.PtrLaws.{dev_small, offset_small, generation_small}

-- the pointer that a word stands for: 8 bits of generation, 43 of the offset, and the device
abbrev pub ptr_in : ℕ → Ptr
ptr_in word = record {
  dev = word / 2 ^ 51 % 2 ^ 12;
  offset = word / 2 ^ 8 % 2 ^ 43;
  generation = word % 2 ^ 8;
  dev_fits = dev_small word;
  offset_fits = offset_small word;
  generation_fits = generation_small word;
}
