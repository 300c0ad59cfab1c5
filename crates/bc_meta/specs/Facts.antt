-- What is known of the records of a kind, and records that stand one behind the other. A machine
-- over these facts never sees bytes.
use Rattle.std.specs.Prelude.{◌≡◌, ◌⊎◌, ℕ, zero, suc, ◌+◌, ◌*◌, ◌<◌, ◌≤◌, List, [], ◌∷◌, length, Option, Some, None}
use Rattle.bc_model.specs.Sector.{Value, Image}
use Rattle.bc_model.specs.Pattern.{zeros}
use Rattle.bc_record.specs.Sectors.{Has, AgreeOn}

-- so many blocks behind a first sector
abbrev pub IsAtBlock : ℕ → ℕ → ℕ → Type 0
IsAtBlock block start p = (k : ℕ) × (p ≡ start + block * k)

-- Records A, each read with an O, such as the start of its checksum. Writing is a relation, since
-- pads and ignored bits are free.
pub record Facts (block : ℕ) (O A : Type 0) : Type 0 where
  -- how many sectors a record takes: whole blocks
  pub len : A → ℕ
  pub some : (e : A) → 0 < len e
  pub whole : (e : A) → (k : ℕ) × (len e ≡ block * k)
  -- the record that values spell, from the first to the last
  pub spelled : O → List Value → Option A
  pub long : (o : O) (vs : List Value) (e : A) → spelled o vs ≡ Some e → length vs ≡ len e
  -- the record that a reader finds at a place, who looks no further than an end
  pub found : Image → O → ℕ → ℕ → Option A
  pub fits : (image : Image) (o : O) (end p : ℕ) (e : A) → found image o end p ≡ Some e → p + len e ≤ end
  -- what was written is found
  pub reads_back : (image : Image) (o : O) (end p : ℕ) (vs : List Value) (e : A) → spelled o vs ≡ Some e
      → Has image p vs → p + len e ≤ end → found image o end p ≡ Some e
  -- and it rests on its own sectors alone
  pub stays : (a b : Image) (o : O) (end p : ℕ) (e : A) → found a o end p ≡ Some e → AgreeOn a b p (p + len e)
      → found b o end p ≡ Some e

-- no record is found at a place whose first sector is zeros
abbrev pub FindsNoneInZeros : {block : ℕ} {O A : Type 0} → Facts block O A → Type 0
FindsNoneInZeros {O = O} facts = (image : Image) (o : O) (end p : ℕ) → image p ≡ zeros
    → facts.found image o end p ≡ None

abbrev pub In : {A : Type 0} → A → List A → Type 0
In x [] = ⊥
In x (y ∷ ys) = (x ≡ y) ⊎ In x ys

-- Each record that is found is followed at the place behind it; the first place that has none ends
-- the scan. The last one found comes first.
abbrev pub scan_on : {A : Type 0} → (ℕ → List A → List A) → (A → ℕ) → ℕ → List A → Option A → List A
scan_on next len p acc None = acc
scan_on next len p acc (Some e) = next (p + len e) (e ∷ acc)

abbrev pub scan : {A : Type 0} → (A → ℕ) → (ℕ → Option A) → ℕ → ℕ → List A → List A
scan len found zero p acc = acc
scan len found (suc n) p acc = scan_on (scan len found n) len p acc (found p)

-- these records, newest first, stand one behind the other from a place up to another
abbrev pub Stand : {A : Type 0} → (A → ℕ) → (ℕ → Option A) → ℕ → List A → ℕ → Type 0
Stand len found start [] next = next ≡ start
Stand len found start (e ∷ es) next = (p : ℕ) × Stand len found start es p × (found p ≡ Some e) × (next ≡ p + len e)
