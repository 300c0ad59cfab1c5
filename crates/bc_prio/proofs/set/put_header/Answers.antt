use Rattle.std.proofs.Common.{◌∙◌, inl, inr, length, arith}
use Rattle.bc_prio.proofs.Places.{byte_kept, byte_of_zeros}
use Rattle.bc_prio.proofs.set.put_header.Goals as goal

pub returns-clause-between : goal.returns-clause-between
returns-clause-between c = λ k low high.
    byte_kept 8 c.put_u64.new.bytes c.put_u64-2.new.bytes 32 k c.put_u64-2.ensures.others (inl high)
    ∙ byte_kept 8 c.fill.new.self c.put_u64.new.bytes 8 k c.put_u64.ensures.others (inr low)
    ∙ byte_of_zeros (length c.args.bytes.now) c.fill.new.self k (c.fill.ensures.after (λ y e. e))

pub returns-clause-behind : goal.returns-clause-behind
returns-clause-behind c = λ k low.
    byte_kept 8 c.put_u64.new.bytes c.put_u64-2.new.bytes 32 k c.put_u64-2.ensures.others (inr low)
    ∙ byte_kept 8 c.fill.new.self c.put_u64.new.bytes 8 k c.put_u64.ensures.others (inr (omega arith))
    ∙ byte_of_zeros (length c.args.bytes.now) c.fill.new.self k (c.fill.ensures.after (λ y e. e))
