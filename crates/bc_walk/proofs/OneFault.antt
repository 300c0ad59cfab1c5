-- A node has one fault at most, and none where it is whole.
use Rattle.std.proofs.Common.{◌≡◌, ◌≢◌, ◌⊎◌, inl, inr, ℕ, ◌+◌, ◌-◌, ◌≤◌, List, [], ◌∷◌, Some, None, refl, sym, subst, ap, ◌∙◌, arith}
use Rattle.std.specs.Prelude.{Any, nat_lt, if◌then◌else◌}
use Rattle.std.proofs.lemmas.Bool.{cases_lt, lt-ltb}
use Rattle.bc_disk.specs.declared.geometry.Geometry.{Geometry}
use Rattle.bc_model.specs.Sector.{Image}
use Rattle.bc_image.specs.Sound.{KeepsRange}
use Rattle.bc_image.specs.Tree.{node_of, kind_at, AreSetsAt}
use Rattle.bc_image.proofs.Unique.{one_sets, some_same}
use Rattle.bc_key.specs.Key.{ptr_at, pointer_of}
use Rattle.bc_key.specs.Words.{ptr_word}
use Rattle.bc_key.specs.declared.key.Key.{Key}
use Rattle.bc_key.specs.declared.ptr.Ptr.{Ptr}
use Rattle.bc_keys.specs.Spelling.{SpellKeys}
use Rattle.bc_keys.proofs.KeyLists.{one_list, never_both as keys_never_both}
use Rattle.bc_node.specs.declared.error.NodeError.{NodeError}
use Rattle.bc_node.specs.declared.error.NodeError.TheVariants as nodes
use Rattle.bc_record.specs.Sectors.{bytes_in}
use Rattle.bc_set.specs.Records.{AreNodeSets}
use Rattle.bc_set.specs.SetBytes.{IsRefused, IsRefusedAs, IsSet, HasBadKey, AreOfKind, words_in}
use Rattle.bc_set.specs.declared.error.SetError.{SetError}
use Rattle.bc_set.specs.declared.error.SetError.TheVariants as sets
use Rattle.bc_set.specs.declared.set.Set.{Set}
use Rattle.bc_set.specs.declared.set.SetKind.{SetKind}
use Rattle.bc_set.specs.declared.set.SetKind.TheVariants.{Extents, Children}
use Rattle.bc_set.proofs.SetLaws.{never_both}
use Rattle.bc_walk.specs.Walk.{IsNodeFault, IsWhole}

-- keys that a set of the kind may hold, and words with a bad key
no_refused : (kind : SetKind) (keys : List Key) → AreOfKind kind keys → Any (IsRefusedAs kind) keys → ⊥
no_refused Extents keys each bad = omega (arith, each bad.0 bad.1 bad.2, bad.4, ap (λ (key : Key). key.end) bad.3, ap (λ (key : Key). key.size) bad.3)
no_refused Children keys each bad = bad.4

no_bad_key : (kind : SetKind) (words : List ℕ) (keys : List Key) → SpellKeys words keys → AreOfKind kind keys → HasBadKey kind words → ⊥
no_bad_key kind words keys spelled each (inl bad) = keys_never_both words keys bad.0 spelled bad.1
no_bad_key kind words keys spelled each (inr bad) =
    no_refused kind keys each (subst (λ (ks : List Key). Any (IsRefusedAs kind) ks) (one_list words bad.0 keys bad.1 spelled) bad.2)

module _ (start magic : ℕ) (kind : SetKind) (bytes : List ℕ) where
  abbrev Refused : SetError → Type 0
  Refused e = IsRefused start magic kind bytes e

  short_magic : Refused sets.Short → Refused sets.Magic → ⊥
  short_magic p q = elim p [ inl few ↦ omega (arith, few, q.0) | inr cut ↦ q.1 cut.0.magic ]

  short_version : Refused sets.Short → Refused sets.Version → ⊥
  short_version p q = elim p [ inl few ↦ omega (arith, few, q.0) | inr cut ↦ q.2 cut.0.version ]

  short_checksum : Refused sets.Short → Refused sets.Checksum → ⊥
  short_checksum p q = elim p [ inl few ↦ omega (arith, few, q.0.room) | inr cut ↦ omega (arith, cut.1, q.1) ]

  short_key : Refused sets.Short → Refused sets.Key → ⊥
  short_key p q = elim p [ inl few ↦ omega (arith, few, q.0.header.room) | inr cut ↦ omega (arith, cut.1, q.0.long) ]

  short_order : Refused sets.Short → Refused sets.Order → ⊥
  short_order p q = elim p [ inl few ↦ omega (arith, few, q.0.header.room) | inr cut ↦ omega (arith, cut.1, q.0.long) ]

  key_order : Refused sets.Key → Refused sets.Order → ⊥
  key_order p q = no_bad_key kind (words_in bytes) q.1 q.2 q.3 p.1

  pub one_refused : (e f : SetError) → Refused e → Refused f → e ≡ f
  one_refused sets.Short sets.Short p q = refl
  one_refused sets.Short sets.Magic p q = absurd (short_magic p q)
  one_refused sets.Short sets.Version p q = absurd (short_version p q)
  one_refused sets.Short sets.Checksum p q = absurd (short_checksum p q)
  one_refused sets.Short sets.Key p q = absurd (short_key p q)
  one_refused sets.Short sets.Order p q = absurd (short_order p q)
  one_refused sets.Magic sets.Short p q = absurd (short_magic q p)
  one_refused sets.Magic sets.Magic p q = refl
  one_refused sets.Magic sets.Version p q = absurd (p.1 q.1)
  one_refused sets.Magic sets.Checksum p q = absurd (p.1 q.0.magic)
  one_refused sets.Magic sets.Key p q = absurd (p.1 q.0.header.magic)
  one_refused sets.Magic sets.Order p q = absurd (p.1 q.0.header.magic)
  one_refused sets.Version sets.Short p q = absurd (short_version q p)
  one_refused sets.Version sets.Magic p q = absurd (q.1 p.1)
  one_refused sets.Version sets.Version p q = refl
  one_refused sets.Version sets.Checksum p q = absurd (p.2 q.0.version)
  one_refused sets.Version sets.Key p q = absurd (p.2 q.0.header.version)
  one_refused sets.Version sets.Order p q = absurd (p.2 q.0.header.version)
  one_refused sets.Checksum sets.Short p q = absurd (short_checksum q p)
  one_refused sets.Checksum sets.Magic p q = absurd (q.1 p.0.magic)
  one_refused sets.Checksum sets.Version p q = absurd (q.2 p.0.version)
  one_refused sets.Checksum sets.Checksum p q = refl
  one_refused sets.Checksum sets.Key p q = absurd (p.2 q.0.checksum)
  one_refused sets.Checksum sets.Order p q = absurd (p.2 q.0.checksum)
  one_refused sets.Key sets.Short p q = absurd (short_key q p)
  one_refused sets.Key sets.Magic p q = absurd (q.1 p.0.header.magic)
  one_refused sets.Key sets.Version p q = absurd (q.2 p.0.header.version)
  one_refused sets.Key sets.Checksum p q = absurd (q.2 p.0.checksum)
  one_refused sets.Key sets.Key p q = refl
  one_refused sets.Key sets.Order p q = absurd (key_order p q)
  one_refused sets.Order sets.Short p q = absurd (short_order q p)
  one_refused sets.Order sets.Magic p q = absurd (q.1 p.0.header.magic)
  one_refused sets.Order sets.Version p q = absurd (q.2 p.0.header.version)
  one_refused sets.Order sets.Checksum p q = absurd (q.2 p.0.checksum)
  one_refused sets.Order sets.Key p q = absurd (key_order q p)
  one_refused sets.Order sets.Order p q = refl
  one_refused sets.Memory f p q = absurd p
  one_refused sets.Short sets.Memory p q = absurd q
  one_refused sets.Magic sets.Memory p q = absurd q
  one_refused sets.Version sets.Memory p q = absurd q
  one_refused sets.Checksum sets.Memory p q = absurd q
  one_refused sets.Key sets.Memory p q = absurd q
  one_refused sets.Order sets.Memory p q = absurd q

-- ---- nodes

some_ptr : (key : Key) → (pointer_of key ≡ None) ⊎ (pointer_of key ≡ Some (ptr_at key 0))
some_ptr key = elim (cases_lt 0 key.count) [
  | inl some ↦ inr (let test = lt-ltb 0 key.count some in rw test refl)
  | inr low ↦ inl (ap (λ n. if nat_lt 0 n then Some (ptr_at key 0) else None) (none low))
]
  where
    none : key.count ≤ 0 → key.count ≡ 0
    none low = omega (arith, low)

first_is : (key : Key) (ptr : Ptr) → pointer_of key ≡ Some ptr → ptr ≡ ptr_at key 0
first_is key ptr is = elim (some_ptr key) [ inl none ↦ absurd (let no = sym none ∙ is in cc) | inr some ↦ some_same ptr (ptr_at key 0) (sym is ∙ some) ]

set_or_refused : (g : Geometry) (image : Image) (word : ℕ) (kind : SetKind) (at : ℕ) (ss : List Set) (e : SetError) → AreNodeSets g word kind image (at + g.node_sectors) at ss → ss ≢ []
    → IsRefused word g.set_magic kind (bytes_in image at g.node_sectors) e → ⊥
set_or_refused g image word kind at [] e stand some refused = some refl
set_or_refused g image word kind at (s ∷ ss) e stand some refused =
    let same : (at + g.node_sectors) - at ≡ g.node_sectors = omega arith in
    never_both word g.set_magic kind (bytes_in image at g.node_sectors) s e (subst (λ n. IsSet word g.set_magic kind (bytes_in image at n) s) same stand.0.0) refused

pub sets_or_refused : (g : Geometry) (image : Image) (level : ℕ) (key : Key) (ss : List Set) (e : SetError) → AreSetsAt g image level key ss
    → IsRefused (ptr_word (ptr_at key 0)) g.set_magic (kind_at level) (bytes_in image (ptr_at key 0).offset g.node_sectors) e → ⊥
sets_or_refused g image level key ss e at refused =
    let stand = subst (λ (p : Ptr). AreNodeSets g (ptr_word p) (kind_at level) image (p.offset + g.node_sectors) p.offset ss) (first_is key at.ptr at.points) at.stand in
    set_or_refused g image (ptr_word (ptr_at key 0)) (kind_at level) (ptr_at key 0).offset ss e stand at.some refused

module _ (g : Geometry) (image : Image) (level from : ℕ) (key : Key) where
  pub one_fault : (e f : NodeError) → IsNodeFault g image level from key e → IsNodeFault g image level from key f → e ≡ f
  one_fault (nodes.First a) (nodes.First b) p q =
      ap nodes.First (one_refused (ptr_word (ptr_at key 0)) g.set_magic (kind_at level) (bytes_in image (ptr_at key 0).offset g.node_sectors) a b p q)
  one_fault (nodes.First a) nodes.Ranges p q = absurd (sets_or_refused g image level key q.0 a q.1 p)
  one_fault nodes.Ranges (nodes.First b) p q = absurd (sets_or_refused g image level key p.0 b p.1 q)
  one_fault nodes.Ranges nodes.Ranges p q = refl
  one_fault nodes.Fault f p q = absurd p
  one_fault nodes.Memory f p q = absurd p
  one_fault (nodes.First a) nodes.Fault p q = absurd q
  one_fault (nodes.First a) nodes.Memory p q = absurd q
  one_fault nodes.Ranges nodes.Fault p q = absurd q
  one_fault nodes.Ranges nodes.Memory p q = absurd q

  pub no_fault : (e : NodeError) (ss : List Set) → IsWhole g image level from key ss → IsNodeFault g image level from key e → ⊥
  no_fault (nodes.First a) ss whole p = sets_or_refused g image level key ss a whole.stand p
  no_fault nodes.Ranges ss whole p = p.2 (subst (λ (xs : List Set). KeepsRange (node_of level from key xs)) (one_sets g image level key ss p.0 whole.stand p.1) whole.within)
  no_fault nodes.Fault ss whole p = p
  no_fault nodes.Memory ss whole p = p
