-- A leaf in memory stays a copy of what its device has.
use Rattle.std.proofs.Common.{◌≡◌, ◌≢◌, ◌⊎◌, inl, inr, ℕ, Bool, ◌+◌, ◌*◌, ◌<◌, ◌≤◌, true, false, List, [], ◌∷◌, ◌++◌, length, Option, Some, None, refl, sym, ap, subst, ◌∙◌, arith, if◌then◌else◌}
use Rattle.std.specs.Prelude.{nat_lt}
use Rattle.std.specs.Option.{option_or}
use Rattle.std.proofs.lemmas.Bool.{cases_lt, lt-ltb}
use Rattle.std.proofs.lemmas.Grind.{flat_map-append}
use Rattle.std.proofs.lemmas.List.{append_assoc, append-nil, take_all}
use Rattle.std.proofs.lemmas.List.Elements.{All-weaker}
use Rattle.bc_disk.specs.Disk.{Overwritten, Torn}
use Rattle.bc_disk.specs.declared.geometry.Geometry.{Geometry}
use Rattle.bc_extent.specs.Calls.{live, with_pointer}
use Rattle.bc_extent.specs.Extents.{IsRange}
use Rattle.bc_extent.specs.LastKey.{last_key}
use Rattle.bc_extent.proofs.Looks.{last_key-append}
use Rattle.bc_extent.proofs.Shown.{shows_same}
use Rattle.bc_image.specs.Tree.{AreSetsAt, set_keys}
use Rattle.bc_key.specs.Key.{IsExtent, pointer_of, ptr_at}
use Rattle.bc_key.specs.Words.{ptr_word}
use Rattle.bc_key.specs.declared.key.Key.{Key}
use Rattle.bc_key.specs.declared.ptr.Ptr.{Ptr}
use Rattle.bc_model.specs.Sector.{Image, values_of}
use Rattle.bc_node.specs.Leaf.{Leaf, AreLast, AreLastOfAll, IsAppended, IsFull, pending_set}
use Rattle.bc_node.specs.Sets.{AreSetsFrom, HasSets, HaveNumber, IsClear, NoneByChance, taken_by}
use Rattle.bc_node.specs.Writing.{HasSet, put_values, set_of}
use Rattle.bc_node.proofs.Further.{first_read, further_read, torn_left}
use Rattle.bc_record.specs.Sectors.{AgreeOn}
use Rattle.bc_record.proofs.Blocks.{block_some, some_blocks}
use Rattle.bc_set.specs.Records.{set_sectors}
use Rattle.bc_set.specs.SetBytes.{AreSetKeys, bytes_of}
use Rattle.bc_set.specs.declared.set.Set.{Set}
use Rattle.bc_set.specs.declared.set.SetKind.TheVariants.{Extents}
use Rattle.bc_set.proofs.NodeSets.{node_stays}
use Rattle.bc_cache.specs.Copies.{AreItsSets, AreKeysAdded, AreSteps, CopyIsPending, CopyIsRead, IsBegun, IsCopy, IsLeftAlone, IsMovedTo, IsPendingWritten, IsSetAppended, IsStep, ReadFollows, Standing, StaysCopy, TornIsRead, adds, appends, last_of, leaves, rewrites}
use Rattle.bc_cache.proofs.Pending.{keys_last, pending_last}
use Rattle.bc_cache.proofs.Stands.{none_added, same_sets}

-- ---- the leaf's place

pointer_is : (key : Key) (ptr : Ptr) → pointer_of key ≡ Some ptr → ptr_at key 0 ≡ ptr
pointer_is key ptr is = go (nat_lt 0 key.count) is
  where
    go : (b : Bool) → (if b then Some (ptr_at key 0) else None) ≡ Some ptr → ptr_at key 0 ≡ ptr
    go true e = cc
    go false e = absurd (cc)

some_pointer : (key : Key) → 0 < key.count → pointer_of key ≡ Some (ptr_at key 0)
some_pointer key some = ap (λ b. if b then Some (ptr_at key 0) else None) (lt-ltb 0 key.count some)

-- ---- its sets

its_sets : (g : Geometry) (image : Image) (leaf : Leaf) (ptr : Ptr) (seq taken : ℕ) (s : Set) (ss : List Set) → leaf.ptr ≡ ptr → leaf.seq ≡ seq → leaf.taken ≡ taken
    → HasSets g (ptr_word ptr) Extents ptr.offset seq taken image (s ∷ ss) → (leaf.loaded ≡ false → IsClear g ptr.offset taken image) → AreItsSets g image leaf (s ∷ ss)
its_sets g image leaf ptr seq taken s ss at number size has clear = (
  subst (λ (p : Ptr). HasSets g (ptr_word p) Extents p.offset leaf.seq leaf.taken image (s ∷ ss)) (sym at)
      (subst (λ n. HasSets g (ptr_word ptr) Extents ptr.offset n leaf.taken image (s ∷ ss)) (sym number)
      (subst (λ n. HasSets g (ptr_word ptr) Extents ptr.offset seq n image (s ∷ ss)) (sym size) has)),
  λ fresh. subst (λ (p : Ptr). IsClear g p.offset leaf.taken image) (sym at) (subst (λ n. IsClear g ptr.offset n image) (sym size) (clear fresh)),
)

-- the same sets, where the sectors of the node are the same
its_kept : (g : Geometry) (a b : Image) (old new : Leaf) (sets : List Set) → new.ptr ≡ old.ptr → new.seq ≡ old.seq → new.taken ≡ old.taken → new.loaded ≡ old.loaded
    → AgreeOn a b old.ptr.offset (old.ptr.offset + g.node_sectors) → AreItsSets g a old sets → AreItsSets g b new sets
its_kept g a b old new [] at number size loaded same is = size ∙ is
its_kept g a b old new (s ∷ ss) at number size loaded same is =
    its_sets g b new old.ptr old.seq old.taken s ss at number size
    (record { found = node_stays g (ptr_word old.ptr) Extents a b (old.ptr.offset + g.node_sectors) old.ptr.offset (s ∷ ss) same is.0.found; number = is.0.number; size = is.0.size })
    (λ fresh sector low high. sym (same sector (omega (arith, low)) high) ∙ is.1 (sym loaded ∙ fresh) sector low high)

-- where it was read
its_read : (g : Geometry) (image : Image) (leaf : Leaf) (sets : List Set) (ptr : Ptr) → leaf.ptr ≡ ptr → AreSetsFrom g (ptr_word ptr) Extents ptr.offset image sets → sets ≢ [] → HaveNumber sets leaf.seq → leaf.taken ≡ taken_by g sets → leaf.loaded ≡ true
    → AreItsSets g image leaf sets
its_read g image leaf [] ptr at found some number size loaded = absurd (some refl)
its_read g image leaf (s ∷ ss) ptr at found some number size loaded =
    its_sets g image leaf ptr leaf.seq leaf.taken s ss at refl refl (record { found = found; number = number; size = size }) (λ fresh. absurd (cc))

-- the keys of a leaf in order may stand in a set
set_keys_of : (list keys : List Key) → AreLastOfAll list keys → AreSetKeys Extents keys
set_keys_of list keys is = record { each = All-weaker IsRange IsExtent (λ (k : Key) range. range.0) keys is.order.0; order = is.order.1 }

last_set_keys : (list keys : List Key) → AreLast list keys → AreSetKeys Extents keys
last_set_keys list keys is = record { each = All-weaker IsRange IsExtent (λ (k : Key) range. range.0) keys is.order.0; order = is.order.1 }

-- the first set of a node
first_there : (g : Geometry) (leaf : Leaf) (ptr : Ptr) (a b : Image) (s : Set) (bytes : List ℕ) → length bytes ≡ 512 * g.node_sectors → HasSet g (ptr_word ptr) s bytes → AreSetKeys Extents s.keys → Overwritten ptr.offset (values_of bytes) a b
    → leaf.ptr ≡ ptr → leaf.seq ≡ s.seq → leaf.taken ≡ set_sectors g s → AreItsSets g b leaf (s ∷ [])
first_there g leaf ptr a b s bytes whole set keys written at number size =
    let read = first_read g (ptr_word ptr) Extents ptr.offset a b s bytes whole set keys written in
    its_sets g b leaf ptr s.seq (set_sectors g s) s [] at number size read.0 (λ fresh. read.1)

its_more : (g : Geometry) (a b : Image) (old new : Leaf) (sets : List Set) (bytes : List ℕ) → AreItsSets g a old sets → AreSetKeys Extents old.pending → ¬ (IsFull g old) → old.loaded ≡ false → IsPendingWritten g old bytes a b → IsAppended g old new
    → AreItsSets g b new (sets ++ pending_set old ∷ [])
its_more g a b old new [] bytes none keys free fresh written is =
    first_there g new old.ptr a b (pending_set old) bytes written.whole written.set keys
    (subst (λ (bs : List ℕ). Overwritten old.ptr.offset (values_of bs) a b) (take_all (512 * g.node_sectors) bytes (omega (arith, written.whole)))
    (subst (λ n. Overwritten n (put_values g 0 (pending_set old) bytes) a b) (let e : old.ptr.offset + 0 ≡ old.ptr.offset = omega arith in e)
    (subst (λ n. Overwritten (old.ptr.offset + n) (put_values g n (pending_set old) bytes) a b) none written.written)))
    is.ptr is.seq (omega (arith, is.taken, none))
its_more g a b old new (s ∷ ss) bytes its keys free fresh written is =
    let room : old.taken + set_sectors g (pending_set old) ≤ g.node_sectors = elim (cases_lt g.node_sectors (old.taken + set_sectors g (pending_set old))) [ inl more ↦ absurd (free more) | inr few ↦ few ] in
    let read = further_read g (ptr_word old.ptr) Extents old.ptr.offset old.taken old.seq a b s ss (pending_set old) bytes its.0 (its.1 fresh) refl written.set keys written.whole room written.written in
    its_sets g b new old.ptr old.seq (old.taken + set_sectors g (pending_set old)) s (ss ++ pending_set old ∷ []) is.ptr is.seq is.taken read.0 (λ still. read.1)

sets_push : (sets : List Set) (s : Set) → set_keys (sets ++ s ∷ []) ++ [] ≡ set_keys sets ++ s.keys
sets_push sets s = append-nil (set_keys (sets ++ s ∷ [])) ∙ flat_map-append (λ (x : Set). x.keys) sets (s ∷ []) ∙ ap (λ (ks : List Key). set_keys sets ++ ks) (append-nil s.keys)

nothing : (pending : List Key) → pending ≡ [] → AreLastOfAll [] pending
nothing pending none = subst (λ (ks : List Key). AreLastOfAll [] ks) (sym none) none_added

-- ---- the steps

begun_is : (g : Geometry) (from : ℕ) (s : Standing) → IsBegun g from s → IsCopy g from s
begun_is g from s (inl (sets, at, is)) =
    let there = is.ptr ∙ pointer_is s.key at.ptr at.points in
    record {
      begins = is.begins;
      ends = is.ends;
      points = at.points ∙ ap (λ (p : Ptr). Some p) (sym there);
      sets = sets;
      found = its_read g s.image s.leaf sets at.ptr there at.stand at.some is.seq is.taken is.loaded;
      more = [];
      last = subst (λ (ks : List Key). AreLast ks s.leaf.keys) (sym (append-nil (set_keys sets))) is.last;
      added = nothing s.leaf.pending is.pending.keys;
    }
begun_is g from s (inr (some, is)) = record {
  begins = is.begins;
  ends = is.ends;
  points = some_pointer s.key some ∙ ap (λ (p : Ptr). Some p) (sym is.ptr);
  sets = [];
  found = is.taken;
  more = [];
  last = subst (λ (ks : List Key). AreLast [] ks) (sym is.keys) (record { order = none_added.order; shown = λ sector. refl });
  added = nothing s.leaf.pending is.pending.keys;
}

added_is : (g : Geometry) (from : ℕ) (old new : Standing) → IsCopy g from old → AreKeysAdded old new → IsCopy g from new
added_is g from old new c a = record {
  begins = a.node.from ∙ c.begins;
  ends = a.node.end ∙ c.ends ∙ ap (λ (k : Key). k.end) (sym a.key_is);
  points = ap pointer_of a.key_is ∙ c.points ∙ ap (λ (p : Ptr). Some p) (sym a.node.ptr);
  sets = c.sets;
  found = its_kept g old.image new.image old.leaf new.leaf c.sets a.node.ptr a.node.seq a.node.taken a.node.loaded (λ s low high. ap (λ (i : Image). i s) (sym a.image_is)) c.found;
  more = c.more ++ a.keys;
  last = subst (λ (ks : List Key). AreLast ks new.leaf.keys) (append_assoc (set_keys c.sets) c.more a.keys) (a.put (set_keys c.sets ++ c.more) c.last);
  added = a.added c.more c.added;
}

appended_is : (g : Geometry) (from : ℕ) (old new : Standing) → IsCopy g from old → IsSetAppended g old new → IsCopy g from new
appended_is g from old new c a = record {
  begins = a.appended.from ∙ c.begins;
  ends = a.appended.end ∙ c.ends ∙ ap (λ (k : Key). k.end) (sym a.key_is);
  points = ap pointer_of a.key_is ∙ c.points ∙ ap (λ (p : Ptr). Some p) (sym a.appended.ptr);
  sets = c.sets ++ pending_set old.leaf ∷ [];
  found = its_more g old.image new.image old.leaf new.leaf c.sets a.bytes c.found (set_keys_of c.more old.leaf.pending c.added) a.free a.fresh a.written a.appended;
  more = [];
  last = subst (λ (ks : List Key). AreLast ks new.leaf.keys) (sym (sets_push c.sets (pending_set old.leaf)))
      (subst (λ (ks : List Key). AreLast (set_keys c.sets ++ old.leaf.pending) ks) (sym a.appended.keys) (pending_last (set_keys c.sets) c.more old.leaf.pending old.leaf.keys c.last c.added));
  added = nothing new.leaf.pending a.appended.pending.keys;
}

moved_is : (g : Geometry) (from : ℕ) (old new : Standing) → IsCopy g from old → IsMovedTo g old new → IsCopy g from new
moved_is g from old new c m =
    let own = keys_last (set_keys c.sets ++ c.more) old.leaf.keys c.last in
    let s = set_of m.seq old.leaf.keys in
    record {
      begins = m.rewritten.from ∙ c.begins;
      ends = m.rewritten.end ∙ c.ends ∙ sym m.end;
      points = m.points ∙ ap (λ (p : Ptr). Some p) (sym m.rewritten.ptr);
      sets = s ∷ [];
      found = first_there g new.leaf m.to old.image new.image s m.bytes m.whole m.set (last_set_keys (set_keys c.sets ++ c.more) old.leaf.keys c.last) m.written m.rewritten.ptr m.rewritten.number m.rewritten.taken;
      more = [];
      last = subst (λ (ks : List Key). AreLast ks new.leaf.keys) (sym (sets_push [] s)) (subst (λ (ks : List Key). AreLast old.leaf.keys ks) (sym m.rewritten.keys) own);
      added = nothing new.leaf.pending m.rewritten.pending.keys;
    }

alone_is : (g : Geometry) (from : ℕ) (old new : Standing) → IsCopy g from old → IsLeftAlone g old new → IsCopy g from new
alone_is g from old new c a =
    let leaf = a.leaf_is in
    record {
      begins = ap (λ (l : Leaf). l.from) leaf ∙ c.begins;
      ends = ap (λ (l : Leaf). l.end) leaf ∙ c.ends ∙ ap (λ (k : Key). k.end) (sym a.key_is);
      points = ap pointer_of a.key_is ∙ c.points ∙ ap (λ (l : Leaf). Some l.ptr) (sym leaf);
      sets = c.sets;
      found = its_kept g old.image new.image old.leaf new.leaf c.sets (ap (λ (l : Leaf). l.ptr) leaf) (ap (λ (l : Leaf). l.seq) leaf) (ap (λ (l : Leaf). l.taken) leaf) (ap (λ (l : Leaf). l.loaded) leaf) a.same c.found;
      more = c.more;
      last = subst (λ (l : Leaf). AreLast (set_keys c.sets ++ c.more) l.keys) (sym leaf) c.last;
      added = subst (λ (l : Leaf). AreLastOfAll c.more l.pending) (sym leaf) c.added;
    }

step_is : (g : Geometry) (from : ℕ) (old new : Standing) → IsCopy g from old → IsStep g old new → IsCopy g from new
step_is g from old new c (adds a) = added_is g from old new c a
step_is g from old new c (appends a) = appended_is g from old new c a
step_is g from old new c (rewrites m) = moved_is g from old new c m
step_is g from old new c (leaves a) = alone_is g from old new c a

steps_are : (g : Geometry) (from : ℕ) (s : Standing) (steps : List Standing) → IsCopy g from s → AreSteps g s steps → IsCopy g from (last_of s steps)
steps_are g from s [] c are = c
steps_are g from s (next ∷ more) c are = steps_are g from next more (step_is g from s next c are.0) are.1

pub stays_copy : StaysCopy
stays_copy g from begun steps is are = steps_are g from begun steps (begun_is g from begun is) are

-- ---- what a reader finds

sets_at : (g : Geometry) (image : Image) (key : Key) (leaf : Leaf) (sets found : List Set) → pointer_of key ≡ Some leaf.ptr → AreItsSets g image leaf sets → 0 < leaf.taken → AreSetsAt g image 0 key found → sets ≡ found
sets_at g image key leaf [] found points its some at = absurd (omega (arith, its, some))
sets_at g image key leaf (s ∷ ss) found points its some at = same_sets g image key (s ∷ ss) found (record { ptr = leaf.ptr; points = points; stand = its.0.found; some = λ e. absurd (cc) }) at

pub copy_is_read : CopyIsRead
copy_is_read g from s sets c some at =
    subst (λ (ss : List Set). AreLast (set_keys ss ++ s.leaf.pending) s.leaf.keys) (sets_at g s.image s.key s.leaf c.sets sets c.points c.found some at)
    (pending_last (set_keys c.sets) c.more s.leaf.pending s.leaf.keys c.last c.added)

no_sets : (g : Geometry) (image : Image) (leaf : Leaf) (sets : List Set) → AreItsSets g image leaf sets → leaf.taken ≡ 0 → sets ≡ []
no_sets g image leaf [] its none = refl
no_sets g image leaf (s ∷ ss) its none = absurd (omega (arith, some_blocks g.block (bytes_of s) (block_some g) (omega arith), its.0.size, none))

pub copy_is_pending : CopyIsPending
copy_is_pending g from s c none =
    subst (λ (ss : List Set). AreLast (set_keys ss ++ s.leaf.pending) s.leaf.keys) (no_sets g s.image s.leaf c.sets c.found none)
    (pending_last (set_keys c.sets) c.more s.leaf.pending s.leaf.keys c.last c.added)

pub read_follows : ReadFollows
read_follows g from s sets read again is put = put (set_keys sets) is.last

-- the same keys once more change nothing
once_more : (xs pending keys : List Key) → AreLast (xs ++ pending) keys → AreLast ((xs ++ pending) ++ pending) keys
once_more xs pending keys last = record {
  order = last.order;
  shown = shows_same (live (last_key (xs ++ pending))) (live (last_key ((xs ++ pending) ++ pending))) keys (λ t. ap with_pointer (sym (same t))) last.shown;
}
  where
    twice : (o x : Option Key) → option_or o (option_or o x) ≡ option_or o x
    twice None x = refl
    twice (Some key) x = refl

    same : (t : ℕ) → last_key ((xs ++ pending) ++ pending) t ≡ last_key (xs ++ pending) t
    same t =
        last_key-append (xs ++ pending) pending t
        ∙ ap (λ (o : Option Key). option_or (last_key pending t) o) (last_key-append xs pending t)
        ∙ twice (last_key pending t) (last_key xs t)
        ∙ sym (last_key-append xs pending t)

torn_sets : (g : Geometry) (a b : Image) (key : Key) (leaf : Leaf) (sets found : List Set) (bytes : List ℕ) → pointer_of key ≡ Some leaf.ptr → AreItsSets g a leaf sets → 0 < leaf.taken
    → Torn (leaf.ptr.offset + leaf.taken) (put_values g leaf.taken (pending_set leaf) bytes) a b → NoneByChance g (ptr_word leaf.ptr) Extents leaf.ptr.offset sets (pending_set leaf) b → AreSetsAt g b 0 key found
    → (found ≡ sets) ⊎ (found ≡ sets ++ pending_set leaf ∷ [])
torn_sets g a b key leaf [] found bytes points its some torn chance at = absurd (omega (arith, its, some))
torn_sets g a b key leaf (s ∷ ss) found bytes points its some torn chance at =
    let same : at.ptr ≡ leaf.ptr = (let one = at.points in cc) in
    let stand = subst (λ (p : Ptr). AreSetsFrom g (ptr_word p) Extents p.offset b found) same at.stand in
    torn_left g (ptr_word leaf.ptr) Extents leaf.ptr.offset leaf.taken leaf.seq a b s ss (pending_set leaf) bytes its.0 found refl torn chance stand

pub torn_is_read : TornIsRead
torn_is_read g from s sets bytes image c some torn chance at =
    let last = pending_last (set_keys c.sets) c.more s.leaf.pending s.leaf.keys c.last c.added in
    elim (torn_sets g s.image image s.key s.leaf c.sets sets bytes c.points c.found some torn chance at) [
      | inl same ↦ subst (λ (ss : List Set). AreLast (set_keys ss ++ s.leaf.pending) s.leaf.keys) (sym same) last
      | inr same ↦
          subst (λ (ss : List Set). AreLast (set_keys ss ++ s.leaf.pending) s.leaf.keys) (sym same)
          (subst (λ (ks : List Key). AreLast (ks ++ s.leaf.pending) s.leaf.keys) (sym (sym (append-nil (set_keys (c.sets ++ pending_set s.leaf ∷ []))) ∙ sets_push c.sets (pending_set s.leaf))) (once_more (set_keys c.sets) s.leaf.pending s.leaf.keys last))
    ]
