use Rattle.std.proofs.Common.{◌+◌, sym, ap, ◌∙◌, arith}
use Rattle.std.proofs.lemmas.List.{take_rest}
use Rattle.bc_bytes.specs.Checksum.{checksum}
use Rattle.bc_disk.specs.Chain.{sets_in_chain}
use Rattle.bc_prio.specs.Set.{next_in}
use Rattle.bc_disk.proofs.Amounts.{sets_few}
use Rattle.bc_prio.proofs.Checked.{same_count, other_count}
use Rattle.bc_prio.proofs.set.next_of.Goals as goal

pub overflow_add-part : goal.overflow_add-part
overflow_add-part c = omega (arith, sets_few c.args.g.now, c.requires.part)

pub returns-then-next-part-clause-refused : goal.returns-then-next-part-clause-refused
returns-then-next-part-clause-refused c =
    let bytes = c.args.bytes.now in
    let whole = ap (checksum 0xffff_ffff_ffff_ffff) (take_rest bytes 8) in (
      sym c.get_u64.ensures ∙ c.if-get_u64-g.false,
      sym c.get_u64-2.ensures ∙ c.if-get_u64-crc64.false ∙ c.crc64.ensures.value ∙ whole,
      other_count c.get_u64-next.result (next_in bytes) (c.args.part + 1) c.sets_in_chain.result (sets_in_chain c.args.g.now) c.get_u64-next.ensures c.sets_in_chain.ensures c.if-next-part.true,
    )

pub returns-clause-ok : goal.returns-clause-ok
returns-clause-ok c =
    let bytes = c.args.bytes.now in
    let whole = ap (checksum 0xffff_ffff_ffff_ffff) (take_rest bytes 8) in (
      record {
        whole = c.requires.whole;
        magic = sym c.get_u64.ensures ∙ c.if-get_u64-g.false;
        checksum = sym c.get_u64-2.ensures ∙ c.if-get_u64-crc64.false ∙ c.crc64.ensures.value ∙ whole;
        count = same_count c.get_u64-next.result (next_in bytes) (c.args.part + 1) c.sets_in_chain.result (sets_in_chain c.args.g.now) c.get_u64-next.ensures c.sets_in_chain.ensures c.if-next-part.false;
      },
      c.get_u64-next.ensures,
    )
