-- The bytes of an opening's entry on the small pair that was made anew.
use Rattle.std.proofs.Common.{◌≡◌, inl, ℕ, zero, suc, ◌+◌, ◌<◌, List, [], ◌∷◌, ◌++◌, get_or}
use Rattle.std.proofs.Common.{replicate, refl, lit≤, arith}
use Rattle.std.proofs.lemmas.List.Elements.{All-nil, All-replicate}
use Rattle.bc_bytes.specs.Checksum.{message, dividend, checksum}
use Rattle.bc_bytes.specs.Division.{remainder}
use Rattle.bc_bytes.specs.Fields.{number_at}
use Rattle.bc_disk.specs.declared.geometry.Geometry.{Geometry}
use Rattle.bc_key.specs.Key.{IsExtent, ptr_at}
use Rattle.bc_key.specs.Words.{Spells, ReadsAsPtr}
use Rattle.bc_keys.specs.Spelling.{words_at}
use Rattle.bc_jset.specs.declared.entry.JEntry.{JEntry}
use Rattle.bc_jset.specs.EntryBytes as jset
use Rattle.bc_jset.specs.EntryBytes.{IsEntry}
use Rattle.bc_image.proofs.Examples.{geometry}
use Rattle.bc_image.proofs.NewPair.{root_key, table_key}
use Rattle.bc_journal.specs.Sealed.{AreBytesOf}

abbrev pub small : Geometry
small = geometry 8 (lit≤ tt)

-- entry 2, which needs itself, and names what entry 1 names
abbrev pub second : JEntry
second = record {
  seq = 2;
  last_seq = 2;
  uuid_bucket = table_key;
  root = root_key;
  level = 1;
  prio = 9;
  keys = [];
}

abbrev pub second_sector : List ℕ
second_sector =
    (0x1a ∷ 0xd2 ∷ 0x06 ∷ 0x54 ∷ 0x61 ∷ 0xc4 ∷ 0xaa ∷ 0xb8
    ∷ 0x33 ∷ 0x50 ∷ 0x62 ∷ 0xa3 ∷ 0xc1 ∷ 0x35 ∷ 0x52 ∷ 0x24
    ∷ 0x02 ∷ 0x00 ∷ 0x00 ∷ 0x00 ∷ 0x00 ∷ 0x00 ∷ 0x00 ∷ 0x00
    ∷ 0x01 ∷ 0x00 ∷ 0x00 ∷ 0x00 ∷ 0x00 ∷ 0x00 ∷ 0x00 ∷ 0x00
    ∷ 0x02 ∷ 0x00 ∷ 0x00 ∷ 0x00 ∷ 0x00 ∷ 0x00 ∷ 0x00 ∷ 0x00
    ∷ 0x00 ∷ 0x00 ∷ 0x00 ∷ 0x04 ∷ 0x00 ∷ 0x00 ∷ 0x00 ∷ 0x90
    ∷ 0x40 ∷ 0x00 ∷ 0x00 ∷ 0x00 ∷ 0x00 ∷ 0x00 ∷ 0x00 ∷ 0x00
    ∷ 0x00 ∷ 0x80 ∷ 0x02 ∷ [])
    ++ (replicate 48 0
    ++ ((0x04 ∷ 0x00 ∷ 0x00 ∷ 0x00 ∷ 0x90
    ∷ 0x00 ∷ 0x00 ∷ 0x00 ∷ 0x00 ∷ 0x00 ∷ 0x01 ∷ 0x00 ∷ 0x00
    ∷ 0x00 ∷ 0xc0 ∷ 0x02 ∷ [])
    ++ (replicate 45 0
    ++ ((0x01 ∷ 0x00 ∷ 0x00 ∷ 0x00 ∷ 0x00 ∷ 0x00 ∷ 0x00 ∷ 0x00 ∷ 0x09 ∷ [])
    ++ (replicate 335 0)))))

second_sum : jset.HasChecksum second_sector
unfolding number_at checksum dividend message remainder
second_sum = refl

table_ptrs : (i : ℕ) → i < 1
    → ReadsAsPtr (get_or (jset.uuid_words second_sector) (2 + i) 0) (ptr_at table_key i)
unfolding number_at words_at
table_ptrs zero h = record { generation = refl; offset = refl; dev = refl }
table_ptrs (suc i) h = absurd (omega arith)

root_ptrs : (i : ℕ) → i < 1
    → ReadsAsPtr (get_or (jset.root_words second_sector) (2 + i) 0) (ptr_at root_key i)
unfolding number_at words_at
root_ptrs zero h = record { generation = refl; offset = refl; dev = refl }
root_ptrs (suc i) h = absurd (omega arith)

table_spelled : Spells (jset.uuid_words second_sector) table_key
unfolding number_at words_at
table_spelled = record {
  long = lit≤ tt;
  high = record { inode = refl; size = refl; dirty = refl; csum = refl; count = refl };
  end = refl;
  ptrs = table_ptrs;
}

root_spelled : Spells (jset.root_words second_sector) root_key
unfolding number_at words_at
root_spelled = record {
  long = lit≤ tt;
  high = record { inode = refl; size = refl; dirty = refl; csum = refl; count = refl };
  end = refl;
  ptrs = root_ptrs;
}

second_is : IsEntry 1 second_sector second
unfolding number_at words_at
second_is = record {
  whole = record {
    header = record { room = lit≤ tt; magic = refl; version = refl };
    few = lit≤ tt;
    long = lit≤ tt;
    checksum = second_sum;
  };
  seq = refl;
  last_seq = refl;
  uuid_bucket = table_spelled;
  root = root_spelled;
  level = refl;
  known_level = inl refl;
  prio = refl;
  keys = refl;
  extents = All-nil IsExtent;
}

pub second_bytes : AreBytesOf small second second_sector
second_bytes = record {
  whole = refl;
  entry = second_is;
  zeros = All-replicate (λ (b : ℕ). b ≡ 0) 272 0 refl;
}
