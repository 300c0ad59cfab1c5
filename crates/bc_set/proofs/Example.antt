-- The example, computed.
use Rattle.std.proofs.Common.{◌≡◌, inr, ℕ, zero, suc, ◌+◌, ◌<◌, true, [], ◌∷◌, get_or, refl, lit<, lit≤, arith}
use Rattle.bc_bytes.specs.Checksum.{message, dividend, checksum}
use Rattle.bc_bytes.specs.Division.{remainder}
use Rattle.bc_bytes.specs.Fields.{number_at}
use Rattle.bc_key.specs.declared.key.Key.{Key}
use Rattle.bc_key.specs.Key.{IsExtent, ptr_at}
use Rattle.bc_key.specs.Words.{Spells, ReadsAsPtr}
use Rattle.bc_keys.proofs.OnePointer.{one_pointer_key, ptr_to}
use Rattle.bc_keys.specs.Spelling.{words_at}
use Rattle.bc_set.specs.declared.set.Set.{Set}
use Rattle.bc_set.specs.declared.set.SetKind.TheVariants.{Extents}
use Rattle.bc_set.specs.Example.{example_bytes}
use Rattle.bc_set.specs.SetBytes.{AreSetKeys, IsSet, HasChecksum, words_in}

abbrev pub example_key : Key
example_key = one_pointer_key 24 8 true (ptr_to 2048 3 (lit< tt) (lit< tt)) (lit< tt) (lit< tt)

abbrev pub example_set : Set
example_set = record { seq = 65537; version = 1; keys = example_key ∷ [] }

example_ptrs : (i : ℕ) → i < 1 → ReadsAsPtr (get_or (0x9000_0010_0080_0000 ∷ 0x18 ∷ 0x8_0003 ∷ []) (2 + i) 0) (ptr_at example_key i)
example_ptrs zero h = record { generation = refl; offset = refl; dev = refl }
example_ptrs (suc i) h = absurd (omega arith)

example_spelled : Spells (0x9000_0010_0080_0000 ∷ 0x18 ∷ 0x8_0003 ∷ []) example_key
example_spelled = record {
  long = lit≤ tt;
  high = record { inode = refl; size = refl; dirty = refl; csum = refl; count = refl };
  end = refl;
  ptrs = example_ptrs;
}

example_extent : (k : ℕ) (d : Key) → k < 1 → IsExtent (get_or (example_key ∷ []) k d)
example_extent zero d h = lit≤ tt
example_extent (suc k) d h = absurd (omega arith)

example_proper : AreSetKeys Extents (example_key ∷ [])
example_proper = record { each = example_extent; order = λ i j d low high. absurd (omega arith) }

example_checksum : HasChecksum 0x8_0003 example_bytes
unfolding number_at checksum dividend message remainder
example_checksum = refl

example_words_are : words_in example_bytes ≡ 0x9000_0010_0080_0000 ∷ 0x18 ∷ 0x8_0003 ∷ []
unfolding number_at words_at
example_words_are = refl

pub example_is_set : IsSet 0x8_0003 1 Extents example_bytes example_set
unfolding number_at words_at
example_is_set = record {
  whole = record { header = record { room = lit≤ tt; magic = refl; version = inr refl }; long = lit≤ tt; checksum = example_checksum };
  seq = refl;
  version = refl;
  keys = (example_spelled, refl);
  proper = example_proper;
}
