-- The keys of the journal's entries, each with the number of its entry.
use Rattle.std.specs.Prelude.{List, map}
use Rattle.std.specs.List.{flat_map}
use Rattle.bc_jset.specs.Entries.{FoundEntry}
use Rattle.bc_pending.specs.declared.numbered.Numbered.{Numbered}
use Rattle.bc_pending.specs.Pieces.{numbered}

-- the keys of an entry, with its number
abbrev pub keys_of : FoundEntry → List Numbered
keys_of e = map (numbered e.item.seq) e.item.keys

-- the keys of entries, the oldest first
abbrev pub keys_in : List FoundEntry → List Numbered
keys_in es = flat_map keys_of es
