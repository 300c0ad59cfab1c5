-- Checksums of the same bytes, one after another.
use Rattle.std.specs.Prelude.{ℕ, zero, suc, List}
use Rattle.bc_bytes.specs.Checksum.{checksum}

-- the last of so many checksums: the first begins with all ones, and each other one with the one before
abbrev pub chain : ℕ → List ℕ → ℕ
chain zero bytes = 0xffff_ffff_ffff_ffff
chain (suc n) bytes = checksum (chain n bytes) bytes
