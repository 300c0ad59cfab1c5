-- What a crash leaves of a sound pair is a sound pair again.
use Rattle.std.specs.Prelude.{◌≡◌, ℕ, ◌+◌, ◌<◌, List}
use Rattle.bc_disk.specs.Device.{MayLeave}
use Rattle.bc_leaves.specs.Parts as parts
use Rattle.bc_image.specs.Pair.{Pair}
use Rattle.bc_image.specs.Reading.{Reading, View, IsView}
use Rattle.bc_image.specs.Sound.{HasSoundParts, IsSoundButForItsNumber}
use Rattle.bc_whole.specs.State.{Opening}
use Rattle.bc_known.specs.Acts.{State, Event}
use Rattle.bc_known.specs.Run.{run, start}
use Rattle.bc_ranges.specs.Laws.{IsRunOf}

-- A crash may leave this of the pair. The backing device has its superblock before the offset from
-- which on the machine has it, so that nobody writes there.
pub record IsLeftOf (before : Pair) (offset : ℕ) (st : State) (left : Pair) : Type 0 where
  pub cache : MayLeave st.whole.flow.cache left.cache
  pub backing : MayLeave st.whole.flow.backing (λ s. left.backing (offset + s))
  pub front : (s : ℕ) → s < offset → left.backing s ≡ before.backing s
  pub cache_sectors : left.cache_sectors ≡ before.cache_sectors
  pub backing_sectors : left.backing_sectors ≡ before.backing_sectors

-- the same superblocks, and another reading
abbrev pub view_with : View → Reading → View
view_with v r = record { backing = v.backing; cache = v.cache; geometry = v.geometry; reading = r }

-- it has a view, with the superblocks that the pair had, and by that all parts of soundness
abbrev pub IsSoundAgain : Pair → View → Type 0
IsSoundAgain left v = (r : Reading) × IsView left (view_with v r)
    × HasSoundParts left (view_with v r)

-- at the end of every run, and so at every state of one
abbrev pub LawSound : Type 0
LawSound =
    (p : Pair) (v : View) (w : Opening) (x : parts.State) (next_seq : ℕ) (es : List Event)
    → IsRunOf p v w x next_seq es → (left : Pair)
    → IsLeftOf p v.backing.data_offset (run w (start w x next_seq) es) left
    → IsSoundAgain left v × IsSoundButForItsNumber left
