-- What is said of a pair whose index was read, by the pointers and the buckets in it.
use Rattle.std.specs.Prelude.{ℕ, ◌<◌, ◌≤◌, true, List, Option, All}
use Rattle.bc_disk.specs.Gens.{Gens}
use Rattle.bc_image.specs.Pointers.{PointsIntoData}
use Rattle.bc_key.specs.declared.key.Key.{Key}
use Rattle.bc_prio.specs.Chain.{IsPlace}
use Rattle.bc_disk.specs.Chain.{sets_in_chain}
use Rattle.bc_walk.specs.Rule.{Rule}
use Rattle.bc_walk.specs.declared.visit.Visit.{Visit}
use Rattle.bc_replay.specs.declared.error.OpenError.{OpenError}
use Rattle.bc_replay.specs.declared.error.OpenError.TheVariants as errors
use Rattle.bc_replay.specs.declared.uses.Use.{Use}
use Rattle.bc_replay.specs.Index.{IsIndexed}
use Rattle.bc_replay.specs.Refused.{TellTrue, MayPoint, IsFirstPointer}
use Rattle.bc_replay.specs.Used.{Held, AreUses, HasNoTwice, IsLeastTwice, CountsSpare}

-- what is had of a pair before its pointers are judged
pub record IsKnown (r : Rule) (gens : Gens) (uuid_bucket : Key) (seen : List Visit) (keys index : List Key) (word : Option ℕ) : Type 0 where
  pub indexed : IsIndexed r keys index word
  pub true_ : TellTrue r.geometry true seen
  pub chain : All (IsPlace r.geometry) gens.chain
  pub uuid : PointsIntoData r.geometry uuid_bucket

abbrev pub held_of : Rule → Gens → Key → List Visit → List Key → Held
held_of r gens uuid_bucket seen keys = record { geometry = r.geometry; gens = gens; uuid_bucket = uuid_bucket; seen = seen; keys = keys }

-- which refusal is the first of these three
abbrev pub IsFirstOf : Rule → Held → OpenError → Type 0
IsFirstOf r h (errors.PointerRange word) = IsFirstPointer r h.seen h.keys word
IsFirstOf r h (errors.TwoUses bucket) = MayPoint r h.seen h.keys × IsLeastTwice h bucket
IsFirstOf r h (errors.NoSpare found) = MayPoint r h.seen h.keys × HasNoTwice h × CountsSpare h h.geometry.nbuckets found × (found < sets_in_chain h.geometry)
IsFirstOf r h e = ⊥

-- none of them holds, and the table has the use of each bucket
pub record IsJudged (r : Rule) (h : Held) (table : List Use) : Type 0 where
  pub points : MayPoint r h.seen h.keys
  pub once : HasNoTwice h
  pub uses : AreUses h table
  pub count : ℕ
  pub spare : CountsSpare h h.geometry.nbuckets count
  pub enough : sets_in_chain h.geometry ≤ count

-- why it isn't judged: memory ran out, or this refusal is the first, whatever the keys were of which the index was made
abbrev pub IsJudgedCause : Rule → Gens → Key → List Visit → List Key → Option ℕ → OpenError → Type 0
IsJudgedCause r gens uuid_bucket seen index word (errors.Fault d) = ⊥
IsJudgedCause r gens uuid_bucket seen index word errors.Memory = Unit {0}
IsJudgedCause r gens uuid_bucket seen index word (errors.Super k why) = ⊥
IsJudgedCause r gens uuid_bucket seen index word e = (keys : List Key) → IsKnown r gens uuid_bucket seen keys index word → IsFirstOf r (held_of r gens uuid_bucket seen keys) e
