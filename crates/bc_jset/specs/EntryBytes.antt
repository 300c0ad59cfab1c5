-- An entry of the journal, as `struct jset` in the kernel's `bcache_ondisk.h` lays it out: a checksum, a magic, a
-- number, a version, a count of words, the number of the oldest entry that is still needed, the keys of the uuid
-- bucket and of the root, the root's level, the first priority bucket, and behind these 240 bytes the words of keys.
use Rattle.std.specs.Prelude.{◌≡◌, ◌≢◌, ◌⊎◌, ℕ, ◌+◌, ◌-◌, ◌*◌, ◌^◌, ◌<◌, ◌≤◌, List, ◌∷◌, ◌++◌, length, drop, replicate, slice_range, bit_xor, All, Any}
use Rattle.bc_bytes.specs.Checksum.{checksum}
use Rattle.bc_bytes.specs.Fields.{number_at}
use Rattle.bc_key.specs.Key.{IsExtent}
use Rattle.bc_key.specs.Words.{Spells, Refuses, words_of}
use Rattle.bc_key.specs.declared.error.KeyError.{KeyError}
use Rattle.bc_key.specs.declared.key.Key.{Key}
use Rattle.bc_keys.specs.Spelling.{words_at, words_of_all, SpellKeys, AreRefused, HasSizeOverEnd}
use Rattle.bc_keys.specs.declared.error.KeysError.{KeysError}
use Rattle.bc_keys.specs.declared.error.KeysError.TheVariants as keys_errors
use Rattle.bc_jset.specs.declared.entry.JEntry.{JEntry}
use Rattle.bc_jset.specs.declared.error.JsetError.{JsetError}
use Rattle.bc_jset.specs.declared.error.JsetError.TheVariants as errors

-- how many bytes an entry takes
abbrev pub bytes_of : JEntry → ℕ
bytes_of e = 240 + 8 * length (words_of_all e.keys)

-- the entry with other keys
abbrev pub with_keys : JEntry → List Key → JEntry
with_keys e keys = record { seq = e.seq; last_seq = e.last_seq; uuid_bucket = e.uuid_bucket; root = e.root; level = e.level; prio = e.prio; keys = keys }

-- the most words of keys
abbrev pub most_words : ℕ
most_words = 4066

-- the root is a leaf's parent or that one's parent
abbrev pub IsLevel : ℕ → Type 0
IsLevel level = (level ≡ 1) ⊎ (level ≡ 2)

-- ---- the bytes

abbrev pub version_in : List ℕ → ℕ
version_in bytes = number_at 4 bytes 24

abbrev pub count_in : List ℕ → ℕ
count_in bytes = number_at 4 bytes 28

-- where the words end
abbrev pub end_in : List ℕ → ℕ
end_in bytes = 240 + 8 * count_in bytes

abbrev pub words_in : List ℕ → List ℕ
words_in bytes = words_at (count_in bytes) bytes 240

-- the places of two keys, each with as many words as a key has at most
abbrev pub uuid_words : List ℕ → List ℕ
uuid_words bytes = words_at 8 bytes 40

abbrev pub root_words : List ℕ → List ℕ
root_words bytes = words_at 8 bytes 104

abbrev pub level_in : List ℕ → ℕ
level_in bytes = number_at 2 bytes 168

-- by the first word of the cache set's uuid
abbrev pub HasMagic : ℕ → List ℕ → Type 0
HasMagic set_magic bytes = number_at 8 bytes 8 ≡ bit_xor set_magic 0x2452_35c1_a362_5032

-- over all bytes behind it, by a start of all ones
abbrev pub HasChecksum : List ℕ → Type 0
HasChecksum bytes = number_at 8 bytes 0 ≡ checksum (2 ^ 64 - 1) (slice_range bytes 8 (end_in bytes))

pub record HasHeader (set_magic : ℕ) (bytes : List ℕ) : Type 0 where
  pub room : 240 ≤ length bytes
  pub magic : HasMagic set_magic bytes
  pub version : version_in bytes ≡ 1

-- the header is there, all of its words are, and the checksum is theirs
pub record IsWhole (set_magic : ℕ) (bytes : List ℕ) : Type 0 where
  pub header : HasHeader set_magic bytes
  pub few : count_in bytes ≤ most_words
  pub long : end_in bytes ≤ length bytes
  pub checksum : HasChecksum bytes

-- the bytes begin with this entry
pub record IsEntry (set_magic : ℕ) (bytes : List ℕ) (e : JEntry) : Type 0 where
  pub whole : IsWhole set_magic bytes
  pub seq : number_at 8 bytes 16 ≡ e.seq
  pub last_seq : number_at 8 bytes 32 ≡ e.last_seq
  pub uuid_bucket : Spells (uuid_words bytes) e.uuid_bucket
  pub root : Spells (root_words bytes) e.root
  pub level : level_in bytes ≡ e.level
  pub known_level : IsLevel e.level
  pub prio : number_at 8 bytes 176 ≡ e.prio
  pub keys : SpellKeys (words_in bytes) e.keys
  pub extents : All IsExtent e.keys

-- the entry stands in the bytes from a place on
abbrev pub StandsAt : ℕ → List ℕ → ℕ → JEntry → Type 0
StandsAt set_magic bytes place e = IsEntry set_magic (drop place bytes) e

-- ---- what is written beside that

-- a key's words, and zeros in the words of its place that it doesn't need
abbrev pub place_words : Key → List ℕ
place_words key = words_of key ++ replicate (6 - key.count) 0

-- What a reader ignores is as it is written: the free bits of keys, the words of a key's place that it doesn't need,
-- the bytes behind the level, and the seven words behind the first priority bucket.
pub record IsPlain (bytes : List ℕ) (e : JEntry) : Type 0 where
  pub uuid_bucket : uuid_words bytes ≡ place_words e.uuid_bucket
  pub root : root_words bytes ≡ place_words e.root
  pub others : words_at 9 bytes 168 ≡ e.level ∷ e.prio ∷ replicate 7 0
  pub keys : words_in bytes ≡ words_of_all e.keys

-- ---- what is refused

-- the words in some key's place are no key's, or those behind the header aren't keys' or not all extents'
pub data HasBadKey (bytes : List ℕ) : Type 0 where
  uuid_bucket : (fault : KeyError) → Refuses (uuid_words bytes) fault → HasBadKey bytes
  root : (fault : KeyError) → Refuses (root_words bytes) fault → HasBadKey bytes
  words : (fault : KeyError) → AreRefused (words_in bytes) fault → HasBadKey bytes
  size : (keys : List Key) → SpellKeys (words_in bytes) keys → Any HasSizeOverEnd keys → HasBadKey bytes

-- The bytes begin with no entry, and this is the first reason. Want of memory is none.
abbrev pub IsRefused : ℕ → List ℕ → JsetError → Type 0
IsRefused set_magic bytes errors.Short =
    (length bytes < 240) ⊎ (HasHeader set_magic bytes × ((most_words < count_in bytes) ⊎ (length bytes < end_in bytes)))
IsRefused set_magic bytes errors.Magic = (240 ≤ length bytes) × ¬ (HasMagic set_magic bytes)
IsRefused set_magic bytes errors.Version = (240 ≤ length bytes) × HasMagic set_magic bytes × (version_in bytes ≢ 1)
IsRefused set_magic bytes errors.Checksum =
    HasHeader set_magic bytes × (count_in bytes ≤ most_words) × (end_in bytes ≤ length bytes) × ¬ (HasChecksum bytes)
IsRefused set_magic bytes errors.Level = IsWhole set_magic bytes × ¬ (IsLevel (level_in bytes))
IsRefused set_magic bytes errors.Key = IsWhole set_magic bytes × IsLevel (level_in bytes) × HasBadKey bytes
IsRefused set_magic bytes errors.Memory = ⊥

-- why no entry was read
abbrev pub IsCause : ℕ → List ℕ → JsetError → Type 0
IsCause set_magic bytes e = (e ≡ errors.Memory) ⊎ IsRefused set_magic bytes e

-- the refusal of an entry for that of its keys
abbrev pub error_of : KeysError → JsetError
error_of (keys_errors.Key fault) = errors.Key
error_of keys_errors.Memory = errors.Memory
