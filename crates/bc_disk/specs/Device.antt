-- A device as a model: what a read may give, what a crash may leave, and how often it was called and failed.
use Rattle.std.specs.Prelude.{◌≡◌, ◌⊎◌, ℕ, suc, ◌<◌, List, [], ◌∷◌, Option, Some, None, if◌then◌else◌, ◌==◌}
use Rattle.bc_model.specs.Sector.{Value, Image, at_run}

abbrev pub Among : Value → List Value → Type 0
Among v [] = ⊥
Among v (x ∷ xs) = (v ≡ x) ⊎ Among v xs

-- nothing else is among them
abbrev pub Only : Value → List Value → Type 0
Only v xs = (x : Value) → Among x xs → x ≡ v

pub record Content : Type 0 where
  -- what a read of a sector may give: one value, and after a failed write some
  pub reads : ℕ → List Value
  -- what a crash may leave there
  pub leaves : ℕ → List Value

-- an image that a crash may leave: for each sector one of its values, independently
abbrev pub MayLeave : Content → Image → Type 0
MayLeave c image = (s : ℕ) → Among (image s) (c.leaves s)

-- each sector reads one value, which is all that a crash leaves there
abbrev pub quiet : Image → Content
quiet image = record { reads = λ s. image s ∷ []; leaves = λ s. image s ∷ [] }

-- the values of a sector that a run went over, or was to go over
abbrev pub instead : Option Value → List Value → List Value
instead None old = old
instead (Some v) old = v ∷ []

abbrev pub besides : Option Value → List Value → List Value
besides None old = old
besides (Some v) old = v ∷ old

-- after a good write, after a failed one, and after a good barrier
abbrev pub written : ℕ → List Value → Content → Content
written at values c = record { reads = λ s. instead (at_run at values s) (c.reads s); leaves = λ s. besides (at_run at values s) (c.leaves s) }

abbrev pub failed : ℕ → List Value → Content → Content
failed at values c = record { reads = λ s. besides (at_run at values s) (c.reads s); leaves = λ s. besides (at_run at values s) (c.leaves s) }

abbrev pub settled : Content → Content
settled c = record { reads = c.reads; leaves = c.reads }

-- a count of faults or calls stays where it is at the end of its type
abbrev pub count_end : ℕ
count_end = 18446744073709551615

abbrev pub next_count : ℕ → ℕ
next_count n = if n == count_end then n else suc n

-- a count rose, or stands at its end
abbrev pub HasRisen : ℕ → ℕ → Type 0
HasRisen old new = (old < new) ⊎ (new ≡ count_end)

-- The content is none where the device doesn't tell what it holds.
pub record DeviceModel : Type 0 where
  pub sectors : ℕ
  pub content : Option Content
  pub calls : ℕ
  pub faults : ℕ

abbrev pub content_map : (Content → Content) → Option Content → Option Content
content_map f None = None
content_map f (Some c) = Some (f c)

-- after each kind of call
abbrev pub after_read : DeviceModel → DeviceModel
after_read d = record d { calls = next_count d.calls }

abbrev pub after_write : ℕ → List Value → DeviceModel → DeviceModel
after_write at values d = record d { content = content_map (written at values) d.content; calls = next_count d.calls }

abbrev pub after_barrier : DeviceModel → DeviceModel
after_barrier d = record d { content = content_map settled d.content; calls = next_count d.calls }

-- after a read or a barrier that failed, and after a write that failed
abbrev pub after_fault : DeviceModel → DeviceModel
after_fault d = record d { calls = next_count d.calls; faults = next_count d.faults }

abbrev pub after_failed_write : ℕ → List Value → DeviceModel → DeviceModel
after_failed_write at values d = record d { content = content_map (failed at values) d.content; calls = next_count d.calls; faults = next_count d.faults }
