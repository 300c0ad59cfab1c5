-- Histories whose workers have other numbers. The machine notes the seat that acted; a trace knows
-- the worker that the seat is of.
use Rattle.std.specs.Prelude.{◌≡◌, ◌↔◌, ℕ, Bool, true, List, [], ◌∷◌}
use Rattle.bc_model.specs.Sector.{Value, Image}
use Rattle.bc_model.specs.History.{IsLegal, Allowed, floor}
use Rattle.bc_model.specs.declared.history.Entry.{Entry}
use Rattle.bc_model.specs.declared.history.Entry.TheVariants.{Write, Read, FlushFrom, FlushDone, Durable, Tried}

abbrev pub renamed : (ℕ → ℕ) → Entry → Entry
renamed f (Write worker line first values) = Write (f worker) line first values
renamed f (Read worker line first values) = Read (f worker) line first values
renamed f (FlushFrom worker line) = FlushFrom (f worker) line
renamed f (FlushDone worker line) = FlushDone (f worker) line
renamed f (Durable worker line first count) = Durable (f worker) line first count
renamed f (Tried first values) = Tried first values

abbrev pub all_renamed : (ℕ → ℕ) → List Entry → List Entry
all_renamed f [] = []
all_renamed f (e ∷ es) = renamed f e ∷ all_renamed f es

-- the worker that an entry names, if it names one, is one of these
abbrev pub Names : (ℕ → Type 0) → Entry → Type 0
Names P (Write worker line first values) = P worker
Names P (Read worker line first values) = P worker
Names P (FlushFrom worker line) = P worker
Names P (FlushDone worker line) = P worker
Names P (Durable worker line first count) = P worker
Names P (Tried first values) = Unit {0}

abbrev pub AllName : (ℕ → Type 0) → List Entry → Type 0
AllName P [] = Unit {0}
AllName P (e ∷ es) = Names P e × AllName P es

-- no two of them get one number
abbrev pub AreToldApart : (ℕ → Type 0) → (ℕ → ℕ) → Type 0
AreToldApart P f = (a b : ℕ) → P a → P b → f a ≡ f b → a ≡ b

-- what the history says is the same
pub record SaysTheSame (f : ℕ → ℕ) (opening : Image) (H : List Entry) : Type 0 where
  pub floors : (s : ℕ) → floor (all_renamed f H) s ≡ floor H s
  pub legal : IsLegal opening (all_renamed f H) ↔ IsLegal opening H
  pub allowed : (s : ℕ) (v : Value)
      → Allowed opening (all_renamed f H) s v ↔ Allowed opening H s v

abbrev pub LawWorkers : Type 0
LawWorkers = (these : ℕ → Bool) (f : ℕ → ℕ) (opening : Image) (H : List Entry)
    → AreToldApart (λ w. these w ≡ true) f → AllName (λ w. these w ≡ true) H
    → SaysTheSame f opening H
