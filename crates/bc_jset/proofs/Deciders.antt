-- Bytes begin with an entry, or with none.
use Rattle.std.proofs.Common.{subst, ◌≡◌, ◌⊎◌, inl, inr, ℕ, ◌-◌, ◌^◌, ◌≤◌, List, length, slice_range, refl, sym, arith}
use Rattle.std.specs.Prelude.{All, bit_xor}
use Rattle.bc_bytes.specs.Checksum.{checksum}
use Rattle.bc_bytes.specs.Fields.{number_at}
use Rattle.bc_key.specs.declared.key.Key.{Key}
use Rattle.bc_key.specs.Key.{IsExtent}
use Rattle.bc_keys.proofs.KeyLists.{one_list}
use Rattle.bc_keys.proofs.Deciders.{IsOrNot, given, equal, at_most, key_or_none, keys_are_or_not, all_or_none}
use Rattle.bc_jset.specs.declared.entry.JEntry.{JEntry}
use Rattle.bc_jset.specs.EntryBytes.{IsEntry, IsLevel, most_words, version_in, count_in, end_in, level_in, words_in, uuid_words, root_words}

level_or_not : (n : ℕ) → IsOrNot (IsLevel n)
level_or_not n = go (equal n 1) (equal n 2)
  where
    go : IsOrNot (n ≡ 1) → IsOrNot (n ≡ 2) → IsOrNot (IsLevel n)
    go (inl e) r = inl (inl e)
    go (inr other) (inl e) = inl (inr e)
    go (inr other) (inr none) = inr (λ h. elim h [ inl e ↦ other e | inr e ↦ none e ])

pub entry_or_none : (magic : ℕ) (bytes : List ℕ) → IsOrNot ((e : JEntry) × IsEntry magic bytes e)
entry_or_none magic bytes =
    given (at_most 240 (length bytes)) (λ k. k.1.whole.header.room) (λ room.
    given (equal (number_at 8 bytes 8) (bit_xor magic 0x2452_35c1_a362_5032)) (λ k. k.1.whole.header.magic) (λ is_magic.
    given (equal (version_in bytes) 1) (λ k. k.1.whole.header.version) (λ version.
    given (at_most (count_in bytes) most_words) (λ k. k.1.whole.few) (λ few.
    given (at_most (end_in bytes) (length bytes)) (λ k. k.1.whole.long) (λ long.
    given (equal (number_at 8 bytes 0) (checksum (2 ^ 64 - 1) (slice_range bytes 8 (end_in bytes)))) (λ k. k.1.whole.checksum) (λ sum.
    given (key_or_none (uuid_words bytes)) (λ k. (k.0.uuid_bucket, k.1.uuid_bucket)) (λ bucket.
    given (key_or_none (root_words bytes)) (λ k. (k.0.root, k.1.root)) (λ top.
    given (level_or_not (level_in bytes)) (λ k. subst IsLevel (sym k.1.level) k.1.known_level) (λ level.
    given (keys_are_or_not (words_in bytes)) (λ k. (k.0.keys, k.1.keys)) (λ keys.
    given (all_or_none IsExtent (λ key. at_most key.size key.end) keys.0) (λ k. subst (λ (ks : List Key). All IsExtent ks) (one_list (words_in bytes) k.0.keys keys.0 k.1.keys keys.1) k.1.extents) (λ extents.
    inl (
      record { seq = number_at 8 bytes 16; last_seq = number_at 8 bytes 32; uuid_bucket = bucket.0; root = top.0; level = level_in bytes; prio = number_at 8 bytes 176; keys = keys.0 },
      record {
        whole = record { header = record { room = room; magic = is_magic; version = version }; few = few; long = long; checksum = sum };
        seq = refl;
        last_seq = refl;
        uuid_bucket = bucket.1;
        root = top.1;
        level = refl;
        known_level = level;
        prio = refl;
        keys = keys.1;
        extents = extents;
      },
    ))))))))))))
