use Rattle.std.proofs.Common.{subst, [], ◌∷◌, ◌*◌, ◌%◌, ◌<◌, ◌^◌, sym, ap, ◌∙◌, arith, get_or, take}
use Rattle.std.proofs.lemmas.List.{take_more, take_all}
use Rattle.bc_bytes.specs.Checksum.{dividend}
use Rattle.bc_bytes.specs.Division.{IsRemainder}
use Rattle.std.specs.Int.{w64, bit_not}
use Rattle.std.specs.Int.Bits.{bit_xor}
use Rattle.bc_bytes.proofs.ChecksumLaws.{left_of-IsRemainder, IsBytes-one, left_of, left_of-nil, left_of-append, left_of-byte, checksum_is}
use Rattle.bc_bytes.proofs.checksum.crc64.Goals as goal

pub loop-byte-init : goal.loop-byte-init
loop-byte-init c = sym (left_of-nil c.args.start)

pub loop-byte-preserved : goal.loop-byte-preserved
loop-byte-preserved c =
    let start = c.args.start in
    let bytes = c.args.bytes.now in
    let i = c.loop-byte.byte-index in
    let register = c.loop-byte.register in
    let byte = get_or bytes i 0 in
    let byte_small : byte < 256 = (c.type_inv.bytes i).fits in
    let one_more = left_of-append start (take i bytes) (byte ∷ []) (IsBytes-one byte byte_small) in
    ap (bit_xor (register * 2 ^ 8 % 2 ^ 64)) c.left_of_byte.ensures
    ∙ sym (left_of-byte register byte c.loop-byte.auto.register-fits.fits)
    ∙ ap (λ k. left_of k (byte ∷ [])) c.loop-byte.invariant
    ∙ sym one_more
    ∙ ap (left_of start) (sym (take_more bytes i 0 (omega arith)))

pub returns : goal.returns
returns c =
    let start = c.args.start in
    let bytes = c.args.bytes.now in
    let all = take_all c.loop-byte.byte-index bytes (omega arith) in
    let value = ap (bit_not w64) (c.loop-byte.invariant ∙ ap (left_of start) all) ∙ sym (checksum_is start bytes) in
    record {
      value = value;
      division = subst (λ k. IsRemainder (dividend start bytes) (bit_not w64 k)) (sym value) (left_of-IsRemainder start bytes (omega arith) (λ k. (c.type_inv.bytes k).fits));
    }
