-- A set of keys of a node, as `struct bset` in the kernel's `bcache_ondisk.h` lays it out: a checksum, a magic,
-- a sequence number, a version, a count of words, and behind these 32 bytes the words of the keys.
use Rattle.std.specs.Prelude.{◌≡◌, ◌⊎◌, ◌==◌, if◌then◌else◌, ℕ, ◌+◌, ◌-◌, ◌*◌, ◌^◌, ◌<◌, ◌≤◌, List, length, drop, slice_range, bit_xor, All, AllPairs, Any}
use Rattle.bc_bytes.specs.Checksum.{checksum}
use Rattle.bc_bytes.specs.Fields.{number_at}
use Rattle.bc_key.specs.Key.{start_of, IsExtent}
use Rattle.bc_key.specs.declared.error.KeyError.{KeyError}
use Rattle.bc_key.specs.declared.key.Key.{Key}
use Rattle.bc_keys.specs.Spelling.{words_at, words_of_all, SpellKeys, AreRefused, HasSizeOverEnd}
use Rattle.bc_keys.specs.declared.error.KeysError.{KeysError}
use Rattle.bc_keys.specs.declared.error.KeysError.TheVariants as keys_errors
use Rattle.bc_set.specs.declared.error.SetError.{SetError}
use Rattle.bc_set.specs.declared.error.SetError.TheVariants as errors
use Rattle.bc_set.specs.declared.set.Set.{Set}
use Rattle.bc_set.specs.declared.set.SetKind.{SetKind}
use Rattle.bc_set.specs.declared.set.SetKind.TheVariants.{Extents, Children}

-- The formats that are read. Version 0 is older, and only version 1 is written.
abbrev pub IsVersion : ℕ → Type 0
IsVersion version = (version ≡ 0) ⊎ (version ≡ 1)

-- what a checksum begins with: by version 0 all ones, and by version 1 the first pointer's word of the key that points to the node
abbrev pub start_by : ℕ → ℕ → ℕ
start_by version start = if version == 0 then 2 ^ 64 - 1 else start

-- how many bytes a set takes
abbrev pub bytes_of : Set → ℕ
bytes_of s = 32 + 8 * length (words_of_all s.keys)

-- ---- the keys

-- a key may follow another: an extent begins where that one ends, or behind, and a child ends behind it
abbrev pub Follows : SetKind → Key → Key → Type 0
Follows Extents a b = a.end ≤ start_of b
Follows Children a b = a.end < b.end

-- the test of keys of this kind refuses the key; there is none of children
abbrev pub IsRefusedAs : SetKind → Key → Type 0
IsRefusedAs Extents key = HasSizeOverEnd key
IsRefusedAs Children key = ⊥

-- keys that a set of this kind may hold, whatever their order
abbrev pub AreOfKind : SetKind → List Key → Type 0
AreOfKind Extents keys = All IsExtent keys
AreOfKind Children keys = Unit {0}

-- each key follows those before it
abbrev pub AreInOrder : SetKind → List Key → Type 0
AreInOrder kind keys = AllPairs (Follows kind) keys

-- the keys of a set of this kind
pub record AreSetKeys (kind : SetKind) (keys : List Key) : Type 0 where
  pub each : AreOfKind kind keys
  pub order : AreInOrder kind keys

-- ---- the bytes

abbrev pub version_in : List ℕ → ℕ
version_in bytes = number_at 4 bytes 24

abbrev pub count_in : List ℕ → ℕ
count_in bytes = number_at 4 bytes 28

-- where the words end
abbrev pub end_in : List ℕ → ℕ
end_in bytes = 32 + 8 * count_in bytes

abbrev pub words_in : List ℕ → List ℕ
words_in bytes = words_at (count_in bytes) bytes 32

-- by the first word of the cache set's uuid
abbrev pub HasMagic : ℕ → List ℕ → Type 0
HasMagic set_magic bytes = number_at 8 bytes 8 ≡ bit_xor set_magic 0x9013_5c78_b99e_07f5

-- over all bytes behind it, by the start of the version
abbrev pub HasChecksum : ℕ → List ℕ → Type 0
HasChecksum start bytes = number_at 8 bytes 0 ≡ checksum (start_by (version_in bytes) start) (slice_range bytes 8 (end_in bytes))

pub record HasHeader (set_magic : ℕ) (bytes : List ℕ) : Type 0 where
  pub room : 32 ≤ length bytes
  pub magic : HasMagic set_magic bytes
  pub version : IsVersion (version_in bytes)

-- the header is there, all of its words are, and the checksum is theirs
pub record IsWhole (start set_magic : ℕ) (bytes : List ℕ) : Type 0 where
  pub header : HasHeader set_magic bytes
  pub long : end_in bytes ≤ length bytes
  pub checksum : HasChecksum start bytes

-- the bytes begin with this set
pub record IsSet (start set_magic : ℕ) (kind : SetKind) (bytes : List ℕ) (s : Set) : Type 0 where
  pub whole : IsWhole start set_magic bytes
  pub seq : number_at 8 bytes 16 ≡ s.seq
  pub version : version_in bytes ≡ s.version
  pub keys : SpellKeys (words_in bytes) s.keys
  pub proper : AreSetKeys kind s.keys

-- the set stands in the bytes from a place on
abbrev pub StandsAt : ℕ → ℕ → SetKind → List ℕ → ℕ → Set → Type 0
StandsAt start set_magic kind bytes place s = IsSet start set_magic kind (drop place bytes) s

-- ---- what is refused

-- some words are no key's, or some key may not stand in a set of this kind
abbrev pub HasBadKey : SetKind → List ℕ → Type 0
HasBadKey kind words =
    ((fault : KeyError) × AreRefused words fault) ⊎ ((keys : List Key) × SpellKeys words keys × Any (IsRefusedAs kind) keys)

-- The bytes begin with no set, and this is the first reason. Want of memory is none.
abbrev pub IsRefused : ℕ → ℕ → SetKind → List ℕ → SetError → Type 0
IsRefused start set_magic kind bytes errors.Short =
    (length bytes < 32) ⊎ (HasHeader set_magic bytes × (length bytes < end_in bytes))
IsRefused start set_magic kind bytes errors.Magic = (32 ≤ length bytes) × ¬ (HasMagic set_magic bytes)
IsRefused start set_magic kind bytes errors.Version =
    (32 ≤ length bytes) × HasMagic set_magic bytes × ¬ (IsVersion (version_in bytes))
IsRefused start set_magic kind bytes errors.Checksum =
    HasHeader set_magic bytes × (end_in bytes ≤ length bytes) × ¬ (HasChecksum start bytes)
IsRefused start set_magic kind bytes errors.Key = IsWhole start set_magic bytes × HasBadKey kind (words_in bytes)
IsRefused start set_magic kind bytes errors.Order =
    IsWhole start set_magic bytes × (keys : List Key) × SpellKeys (words_in bytes) keys × AreOfKind kind keys × ¬ (AreInOrder kind keys)
IsRefused start set_magic kind bytes errors.Memory = ⊥

-- why no set was read
abbrev pub IsCause : ℕ → ℕ → SetKind → List ℕ → SetError → Type 0
IsCause start set_magic kind bytes e = (e ≡ errors.Memory) ⊎ IsRefused start set_magic kind bytes e

-- the refusal of a set for that of its keys
abbrev pub error_of : KeysError → SetError
error_of (keys_errors.Key fault) = errors.Key
error_of keys_errors.Memory = errors.Memory
