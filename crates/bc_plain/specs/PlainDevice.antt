-- A small device as lists of values, and the model that it stands for.
use Rattle.std.specs.Prelude.{◌≡◌, ℕ, ◌<◌, List, [], ◌∷◌, Option, slice_index_or}
use Rattle.bc_model.specs.Sector.{Value, Image}
use Rattle.bc_disk.specs.Device.{Among, Content, instead, besides}

-- what a read of one sector may give, and what a crash may leave there
pub record Choices : Type 0 where
  pub reads : List Value
  pub leaves : List Value

-- of a sector that the device doesn't have
abbrev pub no_choices : Choices
no_choices = record { reads = []; leaves = [] }

abbrev pub choices_at : List Choices → ℕ → Choices
choices_at device s = slice_index_or device s no_choices

abbrev pub content_of : List Choices → Content
content_of device = record { reads = λ s. (choices_at device s).reads; leaves = λ s. (choices_at device s).leaves }

-- the same of each of the first sectors
pub record SameBelow (sectors : ℕ) (a b : Content) : Type 0 where
  pub reads : (s : ℕ) → s < sectors → a.reads s ≡ b.reads s
  pub leaves : (s : ℕ) → s < sectors → a.leaves s ≡ b.leaves s

-- each of the first sectors of the image is one of its values
abbrev pub AmongBelow : ℕ → Image → (ℕ → List Value) → Type 0
AmongBelow sectors image values = (s : ℕ) → s < sectors → Among (image s) (values s)

-- one sector of a new device, and what a good write, a failed one and a good barrier make of it, where the run of the
-- write gives this value to the sector or none
abbrev pub quiet_choices : Value → Choices
quiet_choices v = record { reads = v ∷ []; leaves = v ∷ [] }

abbrev pub written_choices : Option Value → Choices → Choices
written_choices v c = record { reads = instead v c.reads; leaves = besides v c.leaves }

abbrev pub failed_choices : Option Value → Choices → Choices
failed_choices v c = record { reads = besides v c.reads; leaves = besides v c.leaves }

abbrev pub settled_choices : Choices → Choices
settled_choices c = record { reads = c.reads; leaves = c.reads }
