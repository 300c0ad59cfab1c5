-- The entry of an opening, as the machine has it.
use Rattle.std.proofs.Common.{◌≡◌, ◌≢◌, inl, inr, ℕ, zero, suc, ◌+◌, ◌<◌, ◌≤◌, List, [], ◌∷◌, length, Option, Some, None, refl, sym, ap, ◌∙◌, subst, arith}
use Rattle.std.specs.Prelude.{map, reverse}
use Rattle.bc_model.specs.Sector.{Image, Value}
use Rattle.bc_disk.specs.declared.geometry.Geometry.{Geometry}
use Rattle.bc_key.specs.declared.key.Key.{Key}
use Rattle.bc_jset.specs.declared.entry.JEntry.{JEntry}
use Rattle.bc_jset.specs.Entries.{FoundEntry, bucket_start}
use Rattle.bc_jset.specs.Ring.{bucket_of}
use Rattle.bc_jset.proofs.Ring.{one_next}
use Rattle.bc_meta.specs.Entries.{Entry}
use Rattle.bc_meta.specs.Facts.{In}
use Rattle.bc_meta.specs.Layout.{Layout, entry_len}
use Rattle.bc_meta.specs.Records.{Records}
use Rattle.bc_leaves.specs.Parts.{AllFrom, NoNode, Pending}
use Rattle.bc_leaves.specs.Parts as parts
use Rattle.bc_image.specs.Pair.{Pair}
use Rattle.bc_image.specs.Reading.{Reading, View}
use Rattle.bc_image.specs.Tree.{IsWalk, Node, node_of}
use Rattle.bc_facts.specs.Layout.{IsLayoutOf}
use Rattle.bc_facts.specs.Seen as seen
use Rattle.bc_facts.specs.Seen.{counted, entry_rest, seen_entry, seen_entries, word_of}
use Rattle.bc_facts.proofs.Stood.{all_in}
use Rattle.bc_whole.specs.State as whole
use Rattle.bc_opening.specs.Choices.{Choices}
use Rattle.bc_opening.specs.Opening.{IsOpenedAs}
use Rattle.bc_opening.specs.Read.{leaf_of}
use Rattle.bc_opening.proofs.Nodes.{in_turned}
use Rattle.bc_opening.proofs.Ring.{law_ring}
use Rattle.bc_first_entry.specs.Entry.{Entering, CanFirst, entry_for}
use Rattle.bc_enter.specs.Entry.{IsBehind, IsInFront}
use Rattle.bc_entered.specs.Entry.{IsEntryAt}

-- ---- lists

seen_in : {A B : Type 0} (f : A → B) (xs : List A) (y : B) → In y (map f xs)
    → (x : A) × In x xs × (y ≡ f x)
seen_in f [] y i = absurd i
seen_in f (x ∷ xs) y (inl e) = (x, inl refl, e)
seen_in f (x ∷ xs) y (inr i) = let k = seen_in f xs y i in (k.0, inr k.1, k.2)

-- an entry that the machine knows was read
pub was_read : (g : Geometry) (es : List FoundEntry) (e : Entry) → In e (seen_entries g es)
    → (f : FoundEntry) × In f es × (e ≡ seen_entry g f.item)
was_read g es e i = seen_in (λ f. seen_entry g f.item) es e
    (in_turned e (map (λ (f : FoundEntry). seen_entry g f.item) es) i)

-- the first node that a walk meets
pub root_in : (g : Geometry) (image : Image) (l from : ℕ) (key : Key) (nodes : List Node)
    → IsWalk g image l from key nodes → (n : Node) × In n nodes × (n.key ≡ key)
root_in g image zero from key nodes walk = let n = node_of zero from key walk.0 in
    (n, subst (λ (ns : List Node). In n ns) (sym walk.2) (inl refl), refl)
root_in g image (suc l) from key nodes walk = let n = node_of (suc l) from key walk.0 in
    (n, subst (λ (ns : List Node). In n ns) (sym walk.4) (inl refl), refl)

module _ (p : Pair) (v : View) (layout : Layout) (c : Choices) (w : whole.Opening) (x : parts.State)
    (o : IsOpenedAs p v layout c w x) (e : JEntry) (b at : ℕ) (values : List Value)
    (is : IsEntryAt v.geometry p.cache v.reading e b at values)
    (needed : (i : ℕ) → AllFrom e.last_seq (c.pending i)) where
  abbrev g : Geometry
  g = v.geometry

  abbrev r : Reading
  r = v.reading

  lay : IsLayoutOf g w.layout
  lay = subst (IsLayoutOf g) (sym o.opening.layout_is) o.is_layout

  abbrev pub entering : Option ℕ → Entering
  entering begun = record {
    last_seq = e.last_seq;
    begun = begun;
    rest = entry_rest e;
    values = values;
  }

  newest_is : seen_entry g r.newest.item ≡ w.store.newest
  newest_is = o.opening.store.opens.means.newest_is

  before : x.records.newest ≡ seen_entry g r.newest.item
  before = ap (λ (z : Records). z.newest) o.opening.records ∙ sym newest_is

  pub entry_is : (begun : Option ℕ) → entry_for w x (entering begun) ≡ seen_entry g e
  entry_is begun =
      let n = before in
      let here = ap (λ (z : Entry). z.number) n in
      let next = is.entry.number in
      let number : suc x.records.newest.number ≡ e.seq = omega (arith, here, next) in
      let root = ap (λ (z : Entry). z.root) n ∙ ap (seen.bucket_of g) (sym is.entry.root) in
      let word = ap (λ (z : Entry). z.word) n ∙ ap word_of (sym is.entry.root) in
      let level = ap (λ (z : Entry). z.level) n ∙ sym is.entry.level in
      let prio = ap (λ (z : Entry). z.prio) n ∙ ap (counted g) (sym is.entry.prio) in
      let keys = ap (λ (z : Records). z.waiting) o.opening.records
      ∙ ap (λ (ks : List Key). reverse ks) (sym is.entry.none) in
      λ i. record {
        number = number i;
        last_seq = e.last_seq;
        root = root i;
        word = word i;
        level = level i;
        prio = prio i;
        keys = keys i;
        rest = entry_rest e;
      }

  pub spelled : (begun : Option ℕ)
      → w.layout.entries.spelled tt values ≡ Some (entry_for w x (entering begun))
  spelled begun = (lay.entries.spelled tt values (seen_entry g e)).1 (e, is.spells, refl)
      ∙ ap Some (sym (entry_is begun))

  long : (begun : Option ℕ) → length values ≡ entry_len w.layout (entry_for w x (entering begun))
  long begun = w.layout.entries.long tt values (entry_for w x (entering begun)) (spelled begun)

  low : w.store.newest.last_seq ≤ e.last_seq
  low = let same = ap (λ (z : Entry). z.last_seq) newest_is in
      let from = is.entry.from in omega (arith, same, from)

  high : e.last_seq ≤ w.store.newest.number + 1
  high = let same = ap (λ (z : Entry). z.number) newest_is in
      let to = is.entry.to in let next = is.entry.number in omega (arith, same, to, next)

  pending : (i : ℕ) → (x.leaves i).role ≢ NoNode → AllFrom e.last_seq (x.leaves i).pending
  pending i some = subst (λ (l : parts.Leaf). AllFrom e.last_seq l.pending)
      (sym (o.opening.parts.leaves i)) (go (c.leaf i))
    where
      go : (slot : Option Node) → AllFrom e.last_seq (leaf_of g slot (c.pending i)).pending
      go None = λ y i. absurd i
      go (Some n) = needed i

  -- ---- behind the last entry

  module _ (h : IsBehind v.geometry v.reading.entries v.reading.newest b at) where
    pub same_bucket : w.store.bucket ≡ b
    same_bucket = let here = o.opening.store.opens.bucket in
        let there = h.bucket in omega (arith, here, there)

    pub same_place : w.store.ring_next w.store.bucket ≡ at
    same_place = one_next g r.entries r.newest (w.store.ring_next w.store.bucket) at
        o.opening.store.opens.next h.next

    pub can_behind : CanFirst w x (entering None)
    can_behind = record {
      from = low;
      to = high;
      begun = tt;
      pending = pending;
      spelled = spelled None;
      inside =
          let place = same_place in
          let size = long None in
          let first = lay.first w.store.bucket ∙ ap (bucket_start g) same_bucket in
          let room = is.place.fits in
          let sectors = lay.bucket_sectors in
          omega (arith, place, size, first, room, sectors);
    }

  -- ---- in front of a bucket

  module _ (h : IsInFront v.geometry is.all v.reading.newest b at) where
    pub same_front : w.layout.first b ≡ at
    same_front = lay.first b ∙ sym h.first

    older : (z : Entry) → In z (w.store.ring b) → z.number < w.store.newest.last_seq
    older z i =
        let f = law_ring p v layout c w x o.is_layout o.opening o.sound is.all is.stand b
        is.place.journal z i in
        let less = all_in (λ (f : FoundEntry). bucket_of g f ≡ g.first_bucket + b
        → f.item.seq < r.newest.item.last_seq) is.all f.0 h.free f.1 f.2 in
        let number = ap (λ (y : Entry). y.number) f.3 in
        let same = ap (λ (y : Entry). y.last_seq) newest_is in
        omega (arith, less, number, same)

    pub can_front : CanFirst w x (entering (Some b))
    can_front = record {
      from = low;
      to = high;
      begun = (
        let here = is.place.journal in let same = lay.journal in omega (arith, here, same),
        older,
      );
      pending = pending;
      spelled = spelled (Some b);
      inside =
          let place = same_front in
          let size = long (Some b) in
          let first = lay.first b in
          let room = is.place.fits in
          let sectors = lay.bucket_sectors in
          omega (arith, place, size, first, room, sectors);
    }
