-- What the machine of metadata sees of real records. It counts buckets from the journal's first one
-- on, and has the newest key of a record first.
use Rattle.std.specs.Prelude.{ℕ, zero, suc, ◌+◌, ◌-◌, ◌*◌, ◌%◌, Bool, not, nat_lt, if◌then◌else◌}
use Rattle.std.specs.Prelude.{List, [], ◌∷◌, length, map, reverse, slice_index}
use Rattle.bc_disk.specs.declared.geometry.Geometry.{Geometry}
use Rattle.bc_record.specs.Places.{bucket_at}
use Rattle.bc_key.specs.declared.key.Key.{Key}
use Rattle.bc_key.specs.Key.{ptr_at}
use Rattle.bc_key.specs.Words.{ptr_word}
use Rattle.bc_keys.specs.Spelling.{words_of_all}
use Rattle.bc_jset.specs.declared.entry.JEntry.{JEntry}
use Rattle.bc_jset.specs.Entries.{FoundEntry}
use Rattle.bc_set.specs.declared.set.Set.{Set}
use Rattle.bc_set.specs.declared.set.SetKind.{SetKind}
use Rattle.bc_set.specs.declared.set.SetKind.TheVariants.{Extents, Children}
use Rattle.bc_prio.specs.Set.{next_in, records_in}
use Rattle.bc_meta.specs.Entries.{Entry}
use Rattle.bc_meta.specs.Tree.{Child, NodeSet}
use Rattle.bc_meta.specs.Layout.{PrioSet}

-- a bucket of the device, as the machine counts it
abbrev pub counted : Geometry → ℕ → ℕ
counted g bucket = bucket - g.first_bucket

-- the bucket into which a key's first pointer points, and that pointer's word
abbrev pub bucket_of : Geometry → Key → ℕ
bucket_of g key = counted g (bucket_at g (ptr_at key 0).offset)

abbrev pub word_of : Key → ℕ
word_of key = ptr_word (ptr_at key 0)

-- Beside what the machine knows by name: how many words the keys have, the bucket of the chain as
-- it is written, and the words of the keys of the uuid bucket and of the root, so that nothing of a
-- record is lost.
abbrev pub entry_rest : JEntry → List ℕ
entry_rest e = length (words_of_all e.keys) ∷ e.prio ∷ words_of_all (e.uuid_bucket ∷ e.root ∷ [])

abbrev pub seen_entry : Geometry → JEntry → Entry
seen_entry g e = record {
  number = e.seq;
  last_seq = e.last_seq;
  root = bucket_of g e.root;
  word = word_of e.root;
  level = e.level;
  prio = counted g e.prio;
  keys = reverse e.keys;
  rest = entry_rest e;
}

-- of entries with their places, of which the oldest stands first, the newest first
abbrev pub seen_entries : Geometry → List FoundEntry → List Entry
seen_entries g es = reverse (map (λ e. seen_entry g e.item) es)

-- a key without pointers takes a child away
abbrev pub is_gone : Key → Bool
is_gone key = not (nat_lt 0 key.count)

abbrev pub seen_child : Geometry → Key → Child
seen_child g key = record {
  end = key.end;
  bucket = bucket_of g key;
  word = word_of key;
  gone = is_gone key;
}

abbrev pub set_rest : Set → List ℕ
set_rest s = length (words_of_all s.keys) ∷ s.version ∷ words_of_all s.keys

-- of a leaf, and of a parent
abbrev pub seen_set : Geometry → Bool → Set → NodeSet
seen_set g leaf s = record {
  seq = s.seq;
  keys = if leaf then reverse s.keys else [];
  children = if leaf then [] else map (seen_child g) s.keys;
  rest = set_rest s;
}

-- of the sets of a node, one behind the other, the last one first
abbrev pub seen_sets : Geometry → Bool → List Set → List NodeSet
seen_sets g leaf sets = reverse (map (seen_set g leaf) sets)

abbrev pub kind_of : Bool → SetKind
kind_of leaf = if leaf then Extents else Children

-- the generations of so many buckets, from one of a set on
abbrev pub gens_from : List ℕ → ℕ → ℕ → List ℕ
gens_from bytes i zero = []
gens_from bytes i (suc n) = slice_index bytes (42 + 3 * i) % 256 ∷ gens_from bytes (suc i) n

abbrev pub seen_prio : Geometry → ℕ → List ℕ → PrioSet
seen_prio g part bytes = record {
  next = counted g (next_in bytes);
  gens = gens_from bytes 0 (records_in g part);
}
