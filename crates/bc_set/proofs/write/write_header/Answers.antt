use Rattle.std.proofs.Common.{◌≡◌, ℕ, ◌+◌, ◌*◌, ◌≤◌, length, take, ◌++◌, List, refl, subst, ap, ◌∙◌, sym, arith}
use Rattle.bc_keys.specs.Spelling.{words_at, words_of_all}
use Rattle.bc_keys.proofs.WordsAt.{length-words_at}
use Rattle.bc_set.specs.declared.set.Set.{Set}
use Rattle.bc_set.specs.SetBytes.{IsSet, bytes_of}
use Rattle.bc_set.proofs.SetLaws.{HasFields, IsSet-written, written_fields}
use Rattle.bc_set.proofs.write.write_header.Goals.{After-slice_known-6-1}
use Rattle.bc_set.proofs.write.write_header.Goals as goal

counted : (count : ℕ) (bytes : List ℕ) (s : Set) → words_at count bytes 32 ≡ words_of_all s.keys → count ≡ length (words_of_all s.keys)
counted count bytes s words = sym (length-words_at count bytes 32) ∙ ap (λ ws. length ws) words

has : (c : After-slice_known-6-1) (s : Set) → s.seq ≡ c.args.seq → s.version ≡ 1 → words_at c.args.count c.args.into.now 32 ≡ words_of_all s.keys → HasFields c.args.start c.args.magic c.put_u64-3.new.bytes s
has c s seq version words =
    let many = counted c.args.count c.args.into.now s words in
    let fits : bytes_of s ≤ length c.put_u64-3.new.bytes = omega (arith, many) in
    written_fields c.args.start c.args.magic s c.args.count c.crc64-checksum.result c.args.into.now c.put_u64.new.bytes c.put_u64-2.new.bytes c.put_u32.new.bytes c.put_u32-2.new.bytes c.put_u64-3.new.bytes
    many fits version words c.put_u64.ensures.field c.put_u64.ensures.others (c.put_u64-2.ensures.field ∙ sym seq) c.put_u64-2.ensures.others (c.put_u32.ensures.field ∙ sym version) c.put_u32.ensures.others
    c.put_u32-2.ensures.field c.put_u32-2.ensures.others c.crc64-checksum.ensures.value c.put_u64-3.ensures.field c.put_u64-3.ensures.others

pub returns-clause-written : goal.returns-clause-written
returns-clause-written c = λ s kind rest seq version words proper.
    let ends : bytes_of s ≡ 32 + 8 * c.args.count = omega (arith, counted c.args.count c.args.into.now s words) in
    subst (λ n. IsSet c.args.start c.args.magic kind (take n c.put_u64-3.new.bytes ++ rest) s) ends
    (IsSet-written c.args.start c.args.magic c.put_u64-3.new.bytes s (has c s seq version words) version kind rest proper)

pub returns-clause-words : goal.returns-clause-words
returns-clause-words c = λ s words. (has c (record { seq = c.args.seq; version = 1; keys = s.keys }) refl refl words).words
