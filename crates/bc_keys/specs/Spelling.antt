-- Keys one behind the other, as words of 64 bits in bytes, the lowest byte of each word first.
use Rattle.std.specs.Prelude.{◌≡◌, ℕ, zero, suc, ◌+◌, ◌<◌, List, [], ◌∷◌, length, drop}
use Rattle.std.specs.List.{flat_map}
use Rattle.bc_bytes.specs.Fields.{number_at}
use Rattle.bc_key.specs.declared.error.KeyError.{KeyError}
use Rattle.bc_key.specs.declared.key.Key.{Key}
use Rattle.bc_key.specs.Words.{Spells, Refuses, words_of}
use Rattle.bc_keys.specs.declared.error.KeysError.{KeysError}
use Rattle.bc_keys.specs.declared.error.KeysError.TheVariants as errors

-- the n words of 64 bits from a place in bytes
unfoldable pub words_at : ℕ → List ℕ → ℕ → List ℕ
words_at zero bytes at = []
words_at (suc n) bytes at = number_at 8 bytes at ∷ words_at n bytes (at + 8)

-- the words are these keys', one behind the other, and then the rest
abbrev pub SpellThen : List ℕ → List Key → List ℕ → Type 0
SpellThen words [] rest = words ≡ rest
SpellThen words (key ∷ keys) rest = Spells words key × SpellThen (drop (2 + key.count) words) keys rest

-- the words are these keys', and no others
abbrev pub SpellKeys : List ℕ → List Key → Type 0
SpellKeys words keys = SpellThen words keys []

-- behind the words of some keys there are more, which are no key's, for this reason
pub record AreRefused (words : List ℕ) (fault : KeyError) : Type 0 where
  pub before : List Key
  pub rest : List ℕ
  pub parts : SpellThen words before rest
  pub more : 0 < length rest
  pub cause : Refuses rest fault

-- why words weren't read as keys
abbrev pub IsCause : List ℕ → KeysError → Type 0
IsCause words (errors.Key fault) = AreRefused words fault
IsCause words errors.Memory = Unit {0}

-- the one written form of keys
abbrev pub words_of_all : List Key → List ℕ
words_of_all keys = flat_map words_of keys

-- the key's range would begin before sector 0, so that it is no extent
abbrev pub HasSizeOverEnd : Key → Type 0
HasSizeOverEnd key = key.end < key.size
