use Rattle.std.proofs.Common.{◌*◌, length, refl, arith}
use Rattle.bc_keys.proofs.WordsAt.{SameOutside-within, SameOutside-both}
use Rattle.bc_node.specs.Writing.{set_of}
use Rattle.bc_node.proofs.Filled.{has_set}
use Rattle.bc_node.proofs.write.fill_map.Goals as goal

pub returns-clause-set : goal.returns-clause-set
returns-clause-set c =
    let s = set_of c.args.seq c.args.keys.now.keys in
    let end = c.write_header-end.result in
    let put = c.put_keys-count.ensures in
    let size = c.write_header-end.ensures.bytes in
    let wide = SameOutside-within (8 * c.put_keys-count.result) end c.fill.new.self c.put_keys-count.new.into 32 0 (omega arith) (omega (arith, size)) put.others in
    has_set c.args.g.now c.args.word s (length c.args.bytes.now) end c.fill.new.self c.write_header-end.new.into
    (c.fill.ensures.after (λ y e. e)) (omega (arith, size, put.count)) (SameOutside-both end c.fill.new.self c.put_keys-count.new.into c.write_header-end.new.into 0 wide c.write_header-end.ensures.behind)
    (λ kind rest proper. c.write_header-end.ensures.written s kind rest refl refl put.written proper)
