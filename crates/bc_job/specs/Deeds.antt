-- The deeds of requests, piece by piece.
use Rattle.std.specs.Prelude.{◌≡◌, ◌⊎◌, ℕ, Bool, true, false, List, [], ◌∷◌, ◌++◌, length, Some}
use Rattle.bc_model.specs.Sector.{Value}
use Rattle.bc_model.specs.Pieces.{Piece, piece_of}
use Rattle.bc_disk.specs.declared.disk.Device.TheVariants.{Backing}
use Rattle.bc_flight.specs.declared.claim.Share.{Share}
use Rattle.bc_flight.specs.declared.claim.Share.TheVariants.{Shared, Exclusive}
use Rattle.bc_events.specs.Columns.{halt_of}
use Rattle.bc_events.specs.declared.event.LineNumber.{LineNumber}
use Rattle.bc_events.specs.declared.event.Event.{Event}
use Rattle.bc_events.specs.declared.event.Failure.TheVariants as failure
use Rattle.bc_events.specs.declared.event.Deed.{Deed}
use Rattle.bc_events.specs.declared.event.Deed.TheVariants as deed
use Rattle.bc_job.specs.declared.error.RequestError.{RequestError}
use Rattle.bc_job.specs.declared.error.RequestError.TheVariants as request

-- what is done under a claim of these sectors, between claiming them and letting them go
abbrev pub under : ℕ → ℕ → Share → List Deed → List Deed
under first count share ds = deed.Claim first count share ∷ (ds ++ deed.Release ∷ [])

-- where a halt is said, this device had halted the run by then
abbrev pub IsHaltOf : RequestError → List Event → Type 0
IsHaltOf (request.Halted device) seen = halt_of seen ≡ Some device
IsHaltOf _ seen = Unit {0}

-- ---- reading

-- one read of the backing device, and its answer
abbrev pub read_deeds : LineNumber → ℕ → ℕ → List Value → List Deed
read_deeds of first count values = under first count Shared
    (deed.BackingRead first values ∷ deed.Answer of first values ∷ [])

-- one read of each of these pieces; the values of all stand one behind the other
abbrev pub AreReadDeeds : LineNumber → List Piece → List Value → List Deed → Type 0
AreReadDeeds of [] values ds = (values ≡ []) × (ds ≡ [])
AreReadDeeds of (p ∷ ps) values ds = (own : List Value) × (rest : List Value) × (later : List Deed)
    × (length own ≡ p.count) × (values ≡ own ++ rest)
    × (ds ≡ read_deeds of p.first p.count own ++ later) × AreReadDeeds of ps rest later

-- nothing was done of the piece; or it was claimed and let go; or read in between too
abbrev pub HasBegunRead : ℕ → ℕ → List Deed → Type 0
HasBegunRead first count ds = (ds ≡ []) ⊎ ((ds ≡ under first count Shared [])
    ⊎ ((values : List Value)
    × (ds ≡ under first count Shared (deed.BackingRead first values ∷ []))))

-- what was done of a piece that wasn't answered, by the refusal: at a fault, one read, which failed
abbrev pub ReadStop : RequestError → ℕ → ℕ → List Deed → Type 0
ReadStop request.OutOfRange first count ds = ⊥
ReadStop (request.Fault device) first count ds = (device ≡ Backing)
    × (ds ≡ under first count Shared (deed.DeviceFault (failure.Read Backing) ∷ []))
ReadStop (request.Halted device) first count ds = HasBegunRead first count ds
ReadStop request.Memory first count ds = HasBegunRead first count ds

-- ---- writing

-- one write of the backing device; where it is forced, one barrier behind it and the
-- acknowledgement
abbrev pub written : Bool → LineNumber → ℕ → List Value → List Deed
written false of first values = deed.BackingWrite first (Some of) values ∷ []
written true of first values = deed.BackingWrite first (Some of) values ∷ deed.BackingBarrier
    ∷ deed.Durable of first (length values) ∷ []

-- all of it under one claim
abbrev pub write_deeds : Bool → LineNumber → ℕ → List Value → List Deed
write_deeds force of first values =
    under first (length values) Exclusive (written force of first values)

-- one write of each of these pieces, with its part of the values from `first` on
abbrev pub writes_deeds : Bool → LineNumber → ℕ → List Value → List Piece → List Deed
writes_deeds force of first values [] = []
writes_deeds force of first values (p ∷ ps) =
    write_deeds force of p.first (piece_of first values p) ++ writes_deeds force of first values ps

-- nothing was done of the piece, or it was claimed and let go
abbrev pub HasClaimedOnly : ℕ → ℕ → List Deed → Type 0
HasClaimedOnly first count ds = (ds ≡ []) ⊎ (ds ≡ under first count Exclusive [])

-- it was written, and then a halt came before its acknowledgement
abbrev pub HasWrittenOnly : LineNumber → ℕ → List Value → List Deed → Type 0
HasWrittenOnly of first values ds =
    (ds ≡ under first (length values) Exclusive (deed.BackingWrite first (Some of) values ∷ []))
    ⊎ (ds ≡ under first (length values) Exclusive
    (deed.BackingWrite first (Some of) values ∷ deed.BackingBarrier ∷ []))

-- what failed: the write, or the barrier behind one that is forced
abbrev pub HasFailedWrite : Bool → LineNumber → ℕ → List Value → List Deed → Type 0
HasFailedWrite force of first values ds =
    (ds ≡ under first (length values) Exclusive
    (deed.DeviceFault (failure.BackingWrite first (Some of) values) ∷ []))
    ⊎ ((force ≡ true) × (ds ≡ under first (length values) Exclusive
    (deed.BackingWrite first (Some of) values ∷ deed.DeviceFault (failure.Barrier Backing) ∷ [])))

-- what was done of a piece that wasn't acknowledged, by the refusal. After the write of a piece
-- that is forced no memory is asked for.
abbrev pub WriteStop : RequestError → Bool → LineNumber → ℕ → List Value → List Deed → Type 0
WriteStop request.OutOfRange force of first values ds = ⊥
WriteStop (request.Fault device) force of first values ds =
    (device ≡ Backing) × HasFailedWrite force of first values ds
WriteStop (request.Halted device) force of first values ds =
    HasClaimedOnly first (length values) ds ⊎ ((force ≡ true) × HasWrittenOnly of first values ds)
WriteStop request.Memory force of first values ds = HasClaimedOnly first (length values) ds

-- ---- flushes

abbrev pub flush_deeds : LineNumber → List Deed
flush_deeds of = deed.FlushFrom of ∷ deed.BackingBarrier ∷ deed.FlushDone of ∷ []

-- what was done of a flush that wasn't acknowledged, by the refusal: at a fault its one barrier
-- failed
abbrev pub FlushStop : RequestError → LineNumber → List Deed → Type 0
FlushStop request.OutOfRange of ds = ⊥
FlushStop (request.Fault device) of ds = (device ≡ Backing)
    × (ds ≡ deed.FlushFrom of ∷ deed.DeviceFault (failure.Barrier Backing) ∷ [])
FlushStop (request.Halted device) of ds = (ds ≡ []) ⊎ ((ds ≡ deed.FlushFrom of ∷ [])
    ⊎ (ds ≡ deed.FlushFrom of ∷ deed.BackingBarrier ∷ []))
FlushStop request.Memory of ds = ds ≡ []
