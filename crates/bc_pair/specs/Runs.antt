-- Runs of values that are written over an image.
use Rattle.std.specs.Prelude.{ℕ, List, [], ◌∷◌, replicate}
use Rattle.bc_model.specs.Sector.{Value, Image, at_run, unless, values_of}

-- an image with these values from a sector on
abbrev pub over : ℕ → List Value → Image → Image
over at values image = λ s. unless (at_run at values s) (image s)

-- so many sectors of zeros
abbrev pub zeros : ℕ → List Value
zeros n = replicate n (replicate 512 0)

-- values that are written from a sector on
pub record Run : Type 0 where
  pub at : ℕ
  pub values : List Value

abbrev pub run_of : ℕ → List ℕ → Run
run_of at bytes = record { at = at; values = values_of bytes }

-- an image once runs were written over it, one after another
abbrev pub written_over : List Run → Image → Image
written_over [] image = image
written_over (r ∷ rs) image = written_over rs (over r.at r.values image)
