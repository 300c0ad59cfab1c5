-- What a disk in memory is to its callers: which bytes, which written sectors, which calls.
use Rattle.std.specs.Prelude.{◌≡◌, ℕ, ◌+◌, ◌/◌, Bool, nat_le, List, [], ◌++◌, length, Some, if◌then◌else◌}
use Rattle.bc_model.specs.Sector.{Value, Image}
use Rattle.bc_disk.specs.Device.{Among}
use Rattle.bc_disk.specs.Disk.{DiskFacts}
use Rattle.bc_disk.specs.Bytes.{image_of}
use Rattle.bc_disk.specs.Tally.{Tally, none_made}
use Rattle.bc_disk.specs.declared.log.Logged.{Logged}
use Rattle.bc_disk.specs.declared.crash.Pick.{Pick}
use Rattle.bc_disk.specs.Log.{logged, choices}
use Rattle.bc_disk.specs.Crash.{picked}

pub record Memory : Type 0 where
  -- what reads give
  pub bytes : List ℕ
  -- what the last good barrier left
  pub stable : List ℕ
  -- the sectors written since, in their order, those of failed writes too
  pub written : List Logged
  -- how many of them there may be
  pub room : ℕ
  pub calls : Tally

-- so many more sectors have room
abbrev pub has_room : Memory → ℕ → Bool
has_room m sectors = nat_le (length m.written + sectors) m.room

-- the written sectors after a write of these values, which are not kept where they have no room
abbrev pub noted : ℕ → List Value → Memory → List Logged
noted at values m = if has_room m (length values) then m.written ++ logged at values else m.written

-- each sector of the image is one of the choices of a crash
abbrev pub IsPossible : Memory → Image → Type 0
IsPossible m image = (s : ℕ) → Among (image s) (choices m.stable m.written s)

-- as a disk: it tells what it holds
abbrev pub facts_of : Memory → DiskFacts
facts_of m = record { sectors = length m.bytes / 512; holds = Some (image_of m.bytes); may_leave = IsPossible m; calls = m.calls.made; faults = m.calls.faults }

-- a new disk of these bytes, all of them stable
abbrev pub new_disk : List ℕ → ℕ → Memory
new_disk bytes room = record { bytes = bytes; stable = bytes; written = []; room = room; calls = none_made }

-- the disk that a crash leaves: each sector has the choice that is picked
pub record IsCrash (pick : Pick) (old new : Memory) : Type 0 where
  pub sectors : (s : ℕ) → image_of new.bytes s ≡ picked pick old.stable old.written s
  pub size : length new.bytes ≡ length old.bytes
  pub fresh : new ≡ new_disk new.bytes old.room
