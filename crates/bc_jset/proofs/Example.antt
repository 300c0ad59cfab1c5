-- The example, computed.
use Rattle.std.proofs.Common.{inl, ℕ, zero, suc, ◌+◌, ◌<◌, true, false, [], ◌∷◌, get_or, refl, lit<, lit≤, arith}
use Rattle.bc_bytes.specs.Checksum.{message, dividend, checksum}
use Rattle.bc_bytes.specs.Division.{remainder}
use Rattle.bc_bytes.specs.Fields.{number_at}
use Rattle.bc_key.specs.declared.key.Key.{Key}
use Rattle.bc_key.specs.Key.{IsExtent, ptr_at}
use Rattle.bc_key.specs.Words.{Spells, ReadsAsPtr}
use Rattle.bc_keys.proofs.OnePointer.{one_pointer_key, ptr_to}
use Rattle.bc_keys.specs.Spelling.{words_at}
use Rattle.bc_jset.specs.declared.entry.JEntry.{JEntry}
use Rattle.bc_jset.specs.Example.{example_bytes}
use Rattle.bc_jset.specs.EntryBytes.{IsEntry, HasChecksum, uuid_words, root_words, words_in}

abbrev pub bucket_key : Key
bucket_key = one_pointer_key 64 64 false (ptr_to 640 0 (lit< tt) (lit< tt)) (lit< tt) (lit< tt)

abbrev pub root_key : Key
root_key = one_pointer_key 0x100_0000_0000 64 false (ptr_to 704 0 (lit< tt) (lit< tt)) (lit< tt) (lit< tt)

abbrev pub extent : Key
extent = one_pointer_key 24 8 true (ptr_to 2048 3 (lit< tt) (lit< tt)) (lit< tt) (lit< tt)

abbrev pub example_entry : JEntry
example_entry = record { seq = 7; last_seq = 5; uuid_bucket = bucket_key; root = root_key; level = 1; prio = 9; keys = extent ∷ [] }

bucket_ptrs : (i : ℕ) → i < 1 → ReadsAsPtr (get_or (uuid_words example_bytes) (2 + i) 0) (ptr_at bucket_key i)
unfolding number_at words_at
bucket_ptrs zero h = record { generation = refl; offset = refl; dev = refl }
bucket_ptrs (suc i) h = absurd (omega arith)

bucket_spelled : Spells (uuid_words example_bytes) bucket_key
unfolding number_at words_at
bucket_spelled = record { long = lit≤ tt; high = record { inode = refl; size = refl; dirty = refl; csum = refl; count = refl }; end = refl; ptrs = bucket_ptrs }

root_ptrs : (i : ℕ) → i < 1 → ReadsAsPtr (get_or (root_words example_bytes) (2 + i) 0) (ptr_at root_key i)
unfolding number_at words_at
root_ptrs zero h = record { generation = refl; offset = refl; dev = refl }
root_ptrs (suc i) h = absurd (omega arith)

root_spelled : Spells (root_words example_bytes) root_key
unfolding number_at words_at
root_spelled = record { long = lit≤ tt; high = record { inode = refl; size = refl; dirty = refl; csum = refl; count = refl }; end = refl; ptrs = root_ptrs }

extent_ptrs : (i : ℕ) → i < 1 → ReadsAsPtr (get_or (words_in example_bytes) (2 + i) 0) (ptr_at extent i)
unfolding number_at words_at
extent_ptrs zero h = record { generation = refl; offset = refl; dev = refl }
extent_ptrs (suc i) h = absurd (omega arith)

extent_spelled : Spells (words_in example_bytes) extent
unfolding number_at words_at
extent_spelled = record { long = lit≤ tt; high = record { inode = refl; size = refl; dirty = refl; csum = refl; count = refl }; end = refl; ptrs = extent_ptrs }

example_extents : (k : ℕ) (d : Key) → k < 1 → IsExtent (get_or (extent ∷ []) k d)
example_extents zero d h = lit≤ tt
example_extents (suc k) d h = absurd (omega arith)

example_checksum : HasChecksum example_bytes
unfolding number_at checksum dividend message remainder
example_checksum = refl

pub example_is_entry : IsEntry 1 example_bytes example_entry
unfolding number_at words_at
example_is_entry = record {
  whole = record { header = record { room = lit≤ tt; magic = refl; version = refl }; few = lit≤ tt; long = lit≤ tt; checksum = example_checksum };
  seq = refl;
  last_seq = refl;
  uuid_bucket = bucket_spelled;
  root = root_spelled;
  level = refl;
  known_level = inl refl;
  prio = refl;
  keys = (extent_spelled, refl);
  extents = example_extents;
}
