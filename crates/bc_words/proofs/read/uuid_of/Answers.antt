use Rattle.bc_words.proofs.Uuids.{no_uuid, other_uuid}
use Rattle.bc_words.proofs.read.uuid_of.Goals as goal

pub returns-in_err-uuid : goal.returns-in_err-uuid
returns-in_err-uuid c = rw c.from_residual.ensures (λ uuid is text. no_uuid _ uuid _ is text c.from_hex.ensures c.in_err-uuid.ensures.value)

pub returns-then-ne : goal.returns-then-ne
returns-then-ne c = λ uuid is text.
    other_uuid _ _ _ _ uuid _ _ _ _ is text c.from_hex.ensures c.in_ok-uuid.ensures.value
    c.in_ok-ok.ensures.value c.encode_to_slice.ensures.written c.as_slice.ensures c.as_bytes.ensures.value c.if-ne.ensures
