-- What stands in the journal buckets of an opened pair.
use Rattle.std.specs.Prelude.{◌≡◌, ℕ, ◌<◌, List}
use Rattle.bc_jset.specs.Entries.{FoundEntry, StandIn}
use Rattle.bc_jset.specs.Ring.{bucket_of}
use Rattle.bc_meta.specs.Entries.{Entry}
use Rattle.bc_meta.specs.Facts.{In}
use Rattle.bc_meta.specs.Layout.{Layout}
use Rattle.bc_leaves.specs.Parts as parts
use Rattle.bc_image.specs.Pair.{Pair}
use Rattle.bc_image.specs.Reading.{View}
use Rattle.bc_facts.specs.Layout.{IsLayoutOf}
use Rattle.bc_facts.specs.Reads.{back}
use Rattle.bc_facts.specs.Seen.{seen_entry}
use Rattle.bc_whole.specs.State.{Opening}
use Rattle.bc_known.specs.Laws.{IsSound}
use Rattle.bc_opening.specs.Choices.{Choices}
use Rattle.bc_opening.specs.Opening.{IsOpeningOf}

-- Each entry that the machine knows in a bucket is one that a reader finds there. So a bucket may
-- be begun once the greatest number that is found in it is no longer needed.
abbrev pub LawRing : Type 0
LawRing =
    (p : Pair) (v : View) (layout : Layout) (c : Choices) (w : Opening) (x : parts.State)
    → IsLayoutOf v.geometry layout → IsOpeningOf p v layout c w x → IsSound w x
    → (all : List FoundEntry) → StandIn v.geometry p.cache v.geometry.journal all
    → (b : ℕ) → b < v.geometry.journal → (e : Entry) → In e (w.store.ring b)
    → (f : FoundEntry) × In f all × (bucket_of v.geometry f ≡ back v.geometry b)
    × (seen_entry v.geometry f.item ≡ e)
