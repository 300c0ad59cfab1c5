-- A key as words of 64 bits: one of counts and sizes, one with the end, and one for each pointer.
use Rattle.std.specs.Prelude.{◌≡◌, ◌≢◌, ℕ, ◌+◌, ◌*◌, ◌/◌, ◌%◌, ◌^◌, ◌<◌, ◌≤◌, Bool, List, ◌∷◌, length, map, take, slice_index, if◌then◌else◌}
use Rattle.bc_key.specs.declared.error.KeyError.{KeyError}
use Rattle.bc_key.specs.declared.error.KeyError.TheVariants.{Short, Pointers, SizeOverOffset}
use Rattle.bc_key.specs.declared.key.Key.{Key}
use Rattle.bc_key.specs.declared.ptr.Ptr.{Ptr}
use Rattle.bc_key.specs.Key.{ptr_at}

-- a bit as a number
abbrev pub bit_of : Bool → ℕ
bit_of b = if b then 1 else 0

-- the word reads as the pointer; bit 63 is free
pub record ReadsAsPtr (word : ℕ) (ptr : Ptr) : Type 0 where
  pub generation : word % 2 ^ 8 ≡ ptr.generation
  pub offset : word / 2 ^ 8 % 2 ^ 43 ≡ ptr.offset
  pub dev : word / 2 ^ 51 % 2 ^ 12 ≡ ptr.dev

-- the word reads as the fields of a key beside its end and its pointers; bits 37 to 55, 58, 59 and 63 are free
pub record ReadsAsHigh (word : ℕ) (key : Key) : Type 0 where
  pub inode : word % 2 ^ 20 ≡ key.inode
  pub size : word / 2 ^ 20 % 2 ^ 16 ≡ key.size
  pub dirty : word / 2 ^ 36 % 2 ≡ bit_of key.dirty
  pub csum : word / 2 ^ 56 % 2 ^ 2 ≡ key.csum
  pub count : word / 2 ^ 60 % 2 ^ 3 ≡ key.count

-- the first of the words are a key's, each bit range of a field the field's value
pub record Spells (words : List ℕ) (key : Key) : Type 0 where
  pub long : 2 + key.count ≤ length words
  pub high : ReadsAsHigh (slice_index words 0) key
  pub end : slice_index words 1 ≡ key.end
  pub ptrs : (i : ℕ) → i < key.count → ReadsAsPtr (slice_index words (2 + i)) (ptr_at key i)

-- the number of pointers that the first word tells; 0 where there is no word
abbrev pub count_in : List ℕ → ℕ
count_in words = slice_index words 0 / 2 ^ 60 % 2 ^ 3

-- why the first of the words are no key's: the first fault from the left
abbrev pub Refuses : List ℕ → KeyError → Type 0
Refuses words Short = (count_in words ≢ 7) × (length words < 2 + count_in words)
Refuses words Pointers = count_in words ≡ 7
Refuses words SizeOverOffset = ⊥

-- the free bits of a key's words are as they are written: bit 63 of the first word is set, and no other of them is
pub record HasPlainBits (words : List ℕ) (count : ℕ) : Type 0 where
  pub top : slice_index words 0 / 2 ^ 63 ≡ 1
  pub upper : slice_index words 0 / 2 ^ 58 % 2 ^ 2 ≡ 0
  pub lower : slice_index words 0 / 2 ^ 37 % 2 ^ 19 ≡ 0
  pub ptrs : (i : ℕ) → i < count → slice_index words (2 + i) / 2 ^ 63 ≡ 0

-- a pointer's one written word
abbrev pub ptr_word : Ptr → ℕ
ptr_word ptr = ptr.dev * 2 ^ 51 + ptr.offset * 2 ^ 8 + ptr.generation

-- a key's written first word
abbrev pub high_word : Key → ℕ
high_word key =
    2 ^ 63 + key.count * 2 ^ 60 + key.csum * 2 ^ 56 + bit_of key.dirty * 2 ^ 36 + key.size * 2 ^ 20 + key.inode

-- a key's one written form
unfoldable pub words_of : Key → List ℕ
words_of key = high_word key ∷ key.end ∷ map ptr_word (take key.count key.ptrs)
