use Rattle.std.proofs.Common.{◌≡◌, ◌*◌, ◌≤◌, length, ap, ◌∙◌, arith}
use Rattle.bc_jset.specs.EntryBytes.{bytes_of, with_keys}
use Rattle.bc_record.proofs.Blocks.{blocks_hold, block_some}
use Rattle.bc_record.specs.Sectors.{in_blocks}
use Rattle.bc_journal.proofs.Sizes.{most_fit}
use Rattle.bc_journal.proofs.Bytes.{bytes_with_zeros}
use Rattle.bc_journal.proofs.sealed.fill.Goals as goal

pub returns-clause-bytes : goal.returns-clause-bytes
returns-clause-bytes c =
    let g = c.args.g.now in
    let e = with_keys c.args.e.now c.args.keys.now in
    let end = c.write_entry_with-end.result in
    let whole = 512 * c.in_blocks-whole.result in
    let mid = c.write_entry_with-end.new.into in
    let held : end ≤ 512 * in_blocks g.block end = blocks_hold g.block end (block_some g) in
    let is : c.in_blocks-whole.result ≡ in_blocks g.block (bytes_of e) = c.in_blocks-whole.ensures ∙ ap (λ n. in_blocks g.block n) c.write_entry_with-end.ensures.bytes in
    bytes_with_zeros g e whole end mid c.fill.new.self _ c.write_entry_with-end.ensures.bytes (ap (λ n. 512 * n) is) (omega (arith, held, c.in_blocks-whole.ensures)) (let long : length mid ≡ 32768 = c.write_entry_with-end.auto.into ∙ c.requires.long in let few = c.requires.few in let most = most_fit g end (omega (arith, c.write_entry_with-end.ensures.bytes, few)) in omega (arith, most, c.in_blocks-whole.ensures, long))
    (c.fill.ensures.after (λ y e. e)) c.write_entry_with-end.ensures.written
