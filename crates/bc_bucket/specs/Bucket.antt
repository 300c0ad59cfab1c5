-- What is known of one bucket, and what a call does to it.
use Rattle.std.specs.Prelude.{◌≡◌, ℕ, ◌+◌, ◌-◌, ◌%◌, ◌<◌, ◌^◌, Bool, true, false, nat_le, if◌then◌else◌}
use Rattle.bc_key.specs.Generation.{behind}
use Rattle.bc_bucket.specs.declared.bucket.Bucket.{Bucket}
use Rattle.bc_bucket.specs.declared.bucket.Mark.{Mark}
use Rattle.bc_bucket.specs.declared.bucket.Mark.TheVariants as marks

-- stands where there is no bucket
abbrev pub no_bucket : Bucket
no_bucket = record { generation = 0; durable = 0; last_gc = 0; priority = 0; mark = marks.None; used = 0; uses = 0; pins = 0; held = false }

-- a bucket as it is found at an opening, where nothing is known yet of keys into it
abbrev pub opened : ℕ → ℕ → Bucket
opened priority generation = record no_bucket { generation = generation; durable = generation; last_gc = generation; priority = priority }

abbrev pub is_metadata : Mark → Bool
is_metadata marks.Metadata = true
is_metadata m = false

-- no live dirty data and no metadata
abbrev pub IsFree : Mark → Type 0
IsFree marks.None = Unit {0}
IsFree marks.Reclaimable = Unit {0}
IsFree m = ⊥

-- its generation may rise: nobody needs what is in it, no pointer into it comes to count as newer
-- by that, and its uses can still be counted
pub record IsReclaimable (b : Bucket) : Type 0 where
  pub unpinned : b.pins ≡ 0
  pub not_held : b.held ≡ false
  pub free : IsFree b.mark
  pub near : behind b.generation b.last_gc < 96
  pub countable : b.uses < 2 ^ 64 - 1

abbrev pub pinned : Bucket → Bucket
pinned b = record b { pins = b.pins + 1 }

abbrev pub unpinned : Bucket → Bucket
unpinned b = record b { pins = b.pins - 1 }

abbrev pub with_held : Bool → Bucket → Bucket
with_held held b = record b { held = held }

-- all pointers into it become stale; generations count modulo 256
abbrev pub raised : Bucket → Bucket
raised b = record b { generation = (b.generation + 1) % 256; uses = b.uses + 1 }

abbrev pub made_durable : Bucket → Bucket
made_durable b = record b { durable = b.generation }

-- metadata has the greatest priority, and what was metadata the least
abbrev pub priority_at : Mark → Bucket → ℕ
priority_at mark b = if is_metadata mark then 65535 else (if is_metadata b.mark then 0 else b.priority)

abbrev pub marked : Mark → ℕ → Bucket → Bucket
marked mark used b = record b { mark = mark; used = used; priority = priority_at mark b }

abbrev pub with_last_gc : ℕ → Bucket → Bucket
with_last_gc oldest b = record b { last_gc = oldest }

-- a bucket of a device whose data begins at bucket `data_from` has a data priority
abbrev pub has_data_priority : ℕ → ℕ → Bucket → Bool
has_data_priority data_from k b = if is_metadata b.mark then false else nat_le data_from k

abbrev pub hit : ℕ → ℕ → Bucket → Bucket
hit data_from k b = if has_data_priority data_from k b then record b { priority = 32768 } else b

abbrev pub aged : ℕ → ℕ → Bucket → Bucket
aged data_from k b = if has_data_priority data_from k b then record b { priority = b.priority - 1 } else b
