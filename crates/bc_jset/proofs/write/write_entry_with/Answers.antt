use Rattle.std.proofs.Common.{◌≡◌, ◌+◌, ◌*◌, ◌≤◌, length, take, ◌++◌, subst, ap, ◌∙◌, sym, arith, rules}
use Rattle.bc_keys.specs.Spelling.{words_of_all}
use Rattle.bc_jset.specs.EntryBytes.{IsEntry, bytes_of, with_keys}
use Rattle.bc_jset.proofs.EntryLaws.{IsEntry-written, written_fields}
use Rattle.bc_jset.proofs.write.write_entry_with.Goals as goal

pub returns : goal.returns
returns c =
    let keys = c.args.keys.now in
    let e = with_keys c.args.e.now keys in
    let count = c.write_keys-count.result in
    let counted : count ≡ length (words_of_all e.keys) = c.write_keys-count.ensures.count in
    let fits : bytes_of e ≤ length c.put_u64.new.bytes = omega arith in
    let numbers = c.put_numbers.ensures.numbers in
    let places = c.put_places.ensures.places in
    let has =
    written_fields c.args.magic e count c.crc64-checksum.result c.write_keys-count.new.into c.put_numbers.new.into c.put_places.new.into c.put_u64.new.bytes
    counted fits c.write_keys-count.ensures.written
    (record { magic = numbers.magic; seq = numbers.seq; version = numbers.version; count = numbers.count; last_seq = numbers.last_seq }) c.put_numbers.ensures.others
    (record { uuid_bucket = places.uuid_bucket; root = places.root; others = places.others }) c.put_places.ensures.others
    c.crc64-checksum.ensures.value c.put_u64.ensures.field c.put_u64.ensures.others in
    let ends : bytes_of e ≡ 240 + 8 * count = omega arith in
    record {
      bytes = sym ends;
      written = λ rest. subst (λ n. IsEntry c.args.magic (take n c.put_u64.new.bytes ++ rest) e) ends (IsEntry-written c.args.magic c.put_u64.new.bytes e has c.requires.few c.requires.level c.requires.extents rest);
      plain = record { uuid_bucket = has.places.uuid_bucket; root = has.places.root; others = has.places.others; keys = has.keys };
      behind = search rules;
    }
