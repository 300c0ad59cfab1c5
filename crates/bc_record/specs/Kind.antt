-- Records of one kind in an image. A record begins at a block, and the next one at the first block behind it.
use Rattle.std.specs.Prelude.{ℕ, ◌+◌, List, [], ◌∷◌}
use Rattle.bc_model.specs.Sector.{Image}
use Rattle.bc_record.specs.Sectors.{bytes_to, in_blocks}

pub record Kind (A : Type 0) : Type 1 where
  -- the sectors of a block
  pub block : ℕ
  -- which bytes begin with a record
  pub Begins : List ℕ → A → Type 0
  -- how many bytes a record takes
  pub bytes : A → ℕ

-- how many sectors a record takes
abbrev pub sectors_of : {A : Type 0} → Kind A → A → ℕ
sectors_of kind e = in_blocks kind.block (kind.bytes e)

-- a reader that looks no further than an end finds the record at a place
abbrev pub IsFound : {A : Type 0} → Kind A → Image → ℕ → ℕ → A → Type 0
IsFound kind image end place e = kind.Begins (bytes_to image end place) e

-- the reader finds none there
abbrev pub NoneFound : {A : Type 0} → Kind A → Image → ℕ → ℕ → Type 0
NoneFound {A = A} kind image end place = (e : A) → IsFound kind image end place e → ⊥

-- Records that a reader finds from a place on, one behind the other: the first place where it finds none ends them.
abbrev pub AreFound : {A : Type 0} → Kind A → Image → ℕ → ℕ → List A → Type 0
AreFound kind image end place [] = NoneFound kind image end place
AreFound kind image end place (e ∷ es) = IsFound kind image end place e × AreFound kind image end (place + sectors_of kind e) es

-- the place behind records that stand one behind the other
abbrev pub behind : {A : Type 0} → Kind A → ℕ → List A → ℕ
behind kind place [] = place
behind kind place (e ∷ es) = behind kind (place + sectors_of kind e) es
