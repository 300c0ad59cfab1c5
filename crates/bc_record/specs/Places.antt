-- Records with their places.
use Rattle.std.specs.Prelude.{ℕ, ◌+◌, ◌/◌, List, [], ◌∷◌}
use Rattle.bc_disk.specs.declared.geometry.Geometry.{Geometry}
use Rattle.bc_record.specs.Kind.{Kind, sectors_of}
use Rattle.bc_record.specs.declared.placed.Placed.{Placed}

abbrev pub at_place : {A : Type 0} → ℕ → A → Placed A
at_place place e = record { place = place; item = e }

-- records that stand one behind the other from a place on, each with its own place
abbrev pub placed : {A : Type 0} → Kind A → ℕ → List A → List (Placed A)
placed kind place [] = []
placed kind place (e ∷ es) = at_place place e ∷ placed kind (place + sectors_of kind e) es

-- the first sector behind a record
abbrev pub end_of : {A : Type 0} → Kind A → Placed A → ℕ
end_of kind p = p.place + sectors_of kind p.item

-- the records alone
abbrev pub items_of : {A : Type 0} → List (Placed A) → List A
items_of [] = []
items_of (p ∷ ps) = p.item ∷ items_of ps

-- the bucket of a cache device in which a sector lies
abbrev pub bucket_at : Geometry → ℕ → ℕ
bucket_at g sector = sector / g.bucket
