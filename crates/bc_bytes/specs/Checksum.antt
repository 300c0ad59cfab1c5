use Rattle.std.specs.Prelude.{ℕ, ◌+◌, ◌*◌, ◌^◌, List, [], ◌∷◌, length, bit_xor}
use Rattle.std.specs.Int.{w64, bit_not}
use Rattle.bc_bytes.specs.Division.{remainder}

-- the bits of a message as one number: the first byte stands highest, and so does each byte's first bit
unfoldable pub message : List ℕ → ℕ
message [] = 0
message (byte ∷ bytes) = byte * 2 ^ (8 * length bytes) + message bytes

-- what is divided: the start followed by 8 zero bits for each byte, plus the message followed by 64 zero bits
unfoldable pub dividend : ℕ → List ℕ → ℕ
dividend start bytes = bit_xor (start * 2 ^ (8 * length bytes)) (message bytes * 2 ^ 64)

-- the checksum of bytes from a start: what is left of the dividend once each of their bits has had its
-- place in the long division, inverted
unfoldable pub checksum : ℕ → List ℕ → ℕ
checksum start bytes = bit_not w64 (remainder (8 * length bytes) (dividend start bytes))
