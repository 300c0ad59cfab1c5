-- What stands before the words of an entry once it was written.
use Rattle.std.specs.Prelude.{◌≡◌, ℕ, List, ◌∷◌, replicate}
use Rattle.bc_bytes.specs.Fields.{number_at}
use Rattle.bc_keys.specs.Spelling.{words_at}
use Rattle.bc_jset.specs.declared.entry.JEntry.{JEntry}
use Rattle.bc_jset.specs.EntryBytes.{HasMagic, version_in, count_in, uuid_words, root_words, place_words}

-- the numbers up to byte 40
pub record HasNumbers (set_magic words : ℕ) (bytes : List ℕ) (e : JEntry) : Type 0 where
  pub magic : HasMagic set_magic bytes
  pub seq : number_at 8 bytes 16 ≡ e.seq
  pub version : version_in bytes ≡ 1
  pub count : count_in bytes ≡ words
  pub last_seq : number_at 8 bytes 32 ≡ e.last_seq

-- the keys and numbers behind them
pub record HasPlaces (bytes : List ℕ) (e : JEntry) : Type 0 where
  pub uuid_bucket : uuid_words bytes ≡ place_words e.uuid_bucket
  pub root : root_words bytes ≡ place_words e.root
  pub others : words_at 9 bytes 168 ≡ e.level ∷ e.prio ∷ replicate 7 0
