-- What a sink has taken after a text was put to it.
use Rattle.std.specs.Prelude.{◌≡◌, ℕ, ◌<◌, List, ◌++◌, length, Result, Ok, Err}
use Rattle.bc_disk.specs.Stream.{StreamFacts, BothToldText, IsPut}
use Rattle.bc_disk.specs.declared.disk.Failed.{Failed as Failure}
use Rattle.bc_output.specs.declared.put.WriteFault.{WriteFault}
use Rattle.bc_output.specs.declared.put.WriteFault.TheVariants.{Failed, TookNothing}

-- these bytes were taken, behind what was taken before, and no put failed or took nothing
pub record Takes (bytes : List ℕ) (old new : StreamFacts) : Type 0 where
  pub text : BothToldText (λ (a b : List ℕ). b ≡ a ++ bytes) old.text new.text
  pub faults : new.faults ≡ old.faults
  pub stops : new.stops ≡ old.stops

-- a put of this piece that ends the putting: it failed, or it took nothing
abbrev pub IsLastPut : WriteFault → List ℕ → StreamFacts → StreamFacts → Type 0
IsLastPut Failed piece old new = (e : Failure)
    × (let answer : Result ℕ Failure = Err e in IsPut answer piece old new)
IsLastPut TookNothing piece old new =
    let answer : Result ℕ Failure = Ok 0 in IsPut answer piece old new

-- the front of the text was taken; the last put was of the rest, which isn't empty, and failed or
-- took nothing
pub record IsWriteFault (cause : WriteFault) (text : List ℕ) (old new : StreamFacts) : Type 0 where
  pub front : List ℕ
  pub rest : List ℕ
  pub whole : text ≡ front ++ rest
  pub unfinished : 0 < length rest
  pub taken : BothToldText (λ (a b : List ℕ). b ≡ a ++ front) old.text new.text
  pub last : (before : StreamFacts) × Takes front old before × IsLastPut cause rest before new
