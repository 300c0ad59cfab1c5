-- Keys as records have them, with generations of a byte, and as the books have them, with versions
-- that count on for ever.
use Rattle.std.specs.Prelude.{◌≡◌, ℕ, suc, ◌+◌, ◌-◌, ◌%◌, ◌^◌, ◌<◌, ◌≤◌, List, [], ◌∷◌, Option, Some, None, if◌then◌else◌, nat_lt}
use Rattle.bc_key.specs.declared.key.Key.{Key}
use Rattle.bc_key.specs.declared.ptr.Ptr.{Ptr}
use Rattle.bc_key.specs.Key.{start_of, pointer_of}
use Rattle.bc_books.specs.Index.{Kind, Clean, Dirty}
use Rattle.bc_books.specs.Index as books
use Rattle.bc_books.specs.Versions.{behind}
use Rattle.bc_whole.specs.Together.{SayTheSame}

-- the greatest version up to this one that has this byte
abbrev pub version_by : ℕ → ℕ → ℕ
version_by version byte = version - behind (version % 256) byte

-- where versions are these, by the bucket of a place
abbrev pub kind_of : Key → Kind
kind_of key = if key.dirty then Dirty else Clean

abbrev pub points_by : (bucket version : ℕ → ℕ) → Key → Option Ptr → books.Key
points_by bucket version key None =
    record { first = start_of key; count = key.size; kind = None; place = 0; version = 0 }
points_by bucket version key (Some ptr) = record {
  first = start_of key;
  count = key.size;
  kind = Some (kind_of key);
  place = ptr.offset;
  version = version_by (version (bucket ptr.offset)) ptr.generation;
}

abbrev pub book_key : (bucket version : ℕ → ℕ) → Key → books.Key
book_key bucket version key = points_by bucket version key (pointer_of key)

abbrev pub book_keys : (bucket version : ℕ → ℕ) → List Key → List books.Key
book_keys bucket version [] = []
book_keys bucket version (key ∷ keys) = book_key bucket version key ∷ book_keys bucket version keys

-- the versions that the bytes of a chain stand for, from bucket number n of the device on, of which
-- so many lie before the layout's
abbrev pub versions_by : (before : ℕ) → (version : ℕ → ℕ) → ℕ → List ℕ → List ℕ
versions_by before version n [] = []
versions_by before version n (byte ∷ bytes) =
    (if nat_lt n before then byte else version_by (version (n - before)) byte)
    ∷ versions_by before version (suc n) bytes

-- ---- keys that both have alike

-- A key whose pointer's generation is no older than its bucket has bytes for: of the one device, in
-- a place that is one. The opening has versions from 256 on.
pub record IsPlain (bucket version : ℕ → ℕ) (key : Key) (ptr : Ptr) : Type 0 where
  pub device : ptr.dev ≡ 0
  pub byte : ptr.generation < 256
  pub places : ptr.offset + key.size ≤ 2 ^ 43
  pub counted : 255 ≤ version (bucket ptr.offset)

abbrev pub IfPoints : Option Ptr → (Ptr → Type 0) → Type 0
IfPoints None P = Unit {0}
IfPoints (Some ptr) P = P ptr

abbrev pub ArePlain : (bucket version : ℕ → ℕ) → List Key → Type 0
ArePlain bucket version [] = Unit {0}
ArePlain bucket version (key ∷ keys) = (key.size ≤ key.end)
    × (IfPoints (pointer_of key) (IsPlain bucket version key) × ArePlain bucket version keys)

-- then they say the same of each sector
abbrev pub LawKeys : Type 0
LawKeys = (bucket version : ℕ → ℕ) (keys : List Key) → ArePlain bucket version keys
    → SayTheSame keys (book_keys bucket version keys)
