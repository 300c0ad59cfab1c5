-- An opening from which a run that begins is seen.
use Rattle.std.proofs.Common.{◌≡◌, ℕ, zero, suc, ◌+◌, ◌-◌, ◌<◌, ◌&&◌, Bool, true, false, List, [], ◌∷◌, length, Option, refl, sym, ap, ◌∙◌, subst, arith, ◌≢◌, inl, inr, Some, None, if◌then◌else◌}
use Rattle.std.specs.Prelude.{◌^◌, ◌≤◌, ◌/◌, map, nat_le, nat_lt, slice_index_or}
use Rattle.std.proofs.Math.Nat.{div-mul-le_self, mul_comm}
use Rattle.std.proofs.lemmas.Bool.{le-ltb}
use Rattle.std.proofs.lemmas.Nat.{le-div}
use Rattle.bc_cache.specs.Slots.{NodeCache}
use Rattle.bc_chosen.specs.Parts.{ArePartsOf, Parts, choices_of}
use Rattle.bc_chosen.specs.Slots.{slot_at}
use Rattle.bc_chosen.proofs.Parts.{law_stands}
use Rattle.bc_disk.specs.Disk.{DiskFacts}
use Rattle.bc_entries.specs.Journal.{Journal as Read}
use Rattle.bc_events.specs.Run.{Opening}
use Rattle.bc_disk.specs.declared.geometry.Geometry.{Geometry}
use Rattle.bc_facts.specs.Layout.{IsLayoutOf}
use Rattle.bc_facts.specs.Seen.{counted}
use Rattle.bc_facts.proofs.Stood.{in_contains}
use Rattle.bc_image.specs.Pair.{Pair}
use Rattle.bc_image.specs.Reading.{IsView, View}
use Rattle.bc_image.specs.Sound.{HasSoundParts}
use Rattle.bc_image.specs.Tree.{Node}
use Rattle.bc_jset.specs.Entries.{bucket_start}
use Rattle.bc_known.specs.Laws.{IsSound}
use Rattle.bc_leaves.specs.Parts as parts
use Rattle.bc_machine.specs.Containers.{AreLeavesOf, IsInTree}
use Rattle.bc_machine.specs.Plain.{worker_of}
use Rattle.bc_machine.specs.World.{AreLeafParts, HasBegun, IsOrigin, IsReadTree, Origin, World, begun_with, image_of, is_some_image, leaves_among, opening}
use Rattle.bc_machine.specs.declared.part.CorePart.{CorePart}
use Rattle.bc_machine.specs.declared.part.CorePart.TheVariants as part
use Rattle.bc_meta.specs.Facts.{In}
use Rattle.bc_meta.specs.Layout.{Layout}
use Rattle.bc_model.specs.Sector.{Image}
use Rattle.bc_opening.specs.Read.{inner_of, leaf_of}
use Rattle.bc_record.specs.Places.{bucket_at}
use Rattle.bc_spine.specs.declared.leaf.LeafRange.{LeafRange}
use Rattle.bc_whole.specs.State as whole
use Rattle.bc_begun.specs.Begin.{Beginning, BeginsOn, IsSeenAs, first_seq, parts_of}
use Rattle.bc_begun.specs.Laws.{LawOrigin}
use Rattle.bc_begun.specs.Opened.{IsOpenedWith}
use Rattle.bc_begun.proofs.Buckets.{law_buckets}
use Rattle.bc_begun.proofs.Journal.{law_journal}
use Rattle.bc_begun.proofs.Leaves.{in_slots, law_leaves}
use Rattle.bc_begun.proofs.Needs.{law_needs}
use Rattle.bc_begun.proofs.Spine.{law_spine}

-- ---- buckets

div_rises : (k s t : ℕ) → s ≤ t → s / k ≤ t / k
div_rises zero s t le = omega arith
div_rises (suc k) s t le = le-div (s / suc k) t (suc k) (omega arith)
    (let down = div-mul-le_self s (suc k) in omega (arith, down, le))

-- of a lower sector the bucket isn't above
in_order : (g : Geometry) (a b s t : ℕ) → s ≤ t → a ≡ counted g (bucket_at g s)
    → b ≡ counted g (bucket_at g t) → a ≤ b
in_order g a b s t le at_s at_t =
    let up = div_rises g.bucket s t le in omega (arith, at_s, at_t, up)

-- what lies behind a bucket is in a later one
behind_bucket : (g : Geometry) (q t b : ℕ) → 0 < g.bucket → bucket_start g q + g.bucket ≤ t
    → b ≡ counted g (bucket_at g t) → q < b
behind_bucket g q t b some le at =
    let turned = mul_comm g.bucket (g.first_bucket + q) in
    let low : suc (g.first_bucket + q) ≤ t / g.bucket =
    le-div (suc (g.first_bucket + q)) t g.bucket some (omega (arith, turned, le)) in
    omega (arith, at, low)

ends_of : (g : Geometry) (w l : Layout) → IsLayoutOf g l → w ≡ l → (bucket : ℕ → ℕ)
    → ((place : ℕ) → bucket place ≡ counted g (bucket_at g place)) → 0 < w.bucket_sectors
    → (q t : ℕ) → w.first q + w.bucket_sectors ≤ t → q < bucket t
ends_of g w l cut is bucket at some q t le =
    let size : w.bucket_sectors ≡ g.bucket =
    ap (λ (x : Layout). x.bucket_sectors) is ∙ cut.bucket_sectors in
    let begins : w.first q ≡ bucket_start g q = ap (λ (x : Layout). x.first q) is ∙ cut.first q in
    behind_bucket g q t (bucket t) (omega (arith, size, some)) (omega (arith, size, begins, le)) (at t)

-- ---- leaf parts

each_part : (w : Opening) (st : parts.State) (count part : ℕ) (cs : List NodeCache)
    → ((i n : ℕ) (empty : NodeCache) → n ≡ part + i → i < length cs
    → AreLeavesOf w.machine st count n (slice_index_or cs i empty))
    → AreLeafParts w st count part cs
each_part w st count part [] are = tt
each_part w st count part (c ∷ cs) are = (
  are 0 part c (omega arith) (omega arith),
  each_part w st count (suc part) cs
      (λ i n empty at low. are (suc i) n empty (omega (arith, at)) (omega (arith, low))),
)

module _ {C B : Type 0} (cache_facts : C → DiskFacts) (backing_facts : B → DiskFacts) where
  abbrev leaf_parts : List NodeCache → List (CorePart C B)
  leaf_parts cs = map part.Leaves cs

  all_leaves : (cs : List NodeCache) → leaves_among cache_facts backing_facts (leaf_parts cs) ≡ cs
  all_leaves [] = refl
  all_leaves (c ∷ cs) = ap (λ (l : List NodeCache). c ∷ l) (all_leaves cs)

  many : (cs : List NodeCache) → length (leaf_parts cs) ≡ length cs
  many [] = refl
  many (c ∷ cs) = let rest = many cs in omega (arith, rest)

-- ---- nodes

leaf_read : (g : Geometry) (n : Option Node) (pending : List parts.Pending)
    → (leaf_of g n pending).role ≢ parts.NoNode → (leaf_of g n pending).loaded ≡ true
leaf_read g None pending some = absurd (some refl)
leaf_read g (Some n) pending some = refl

inner_read : (g : Geometry) (n : Option Node) → (inner_of g n).role ≢ parts.NoNode
    → (inner_of g n).loaded ≡ true
inner_read g None some = absurd (some refl)
inner_read g (Some n) some = refl

-- a sector behind all leaves is in none
slot_beyond : (leaves : List LeafRange) (s : ℕ) → ((l : LeafRange) → In l leaves → l.end ≤ s)
    → slot_at leaves s ≡ 2 ^ 32
slot_beyond [] s low = refl
slot_beyond (l ∷ ls) s low = go (nat_le l.from s) (slot_beyond ls s (λ m i. low m (inr i)))
  where
    go : (b : Bool) → slot_at ls s ≡ 2 ^ 32
        → (if b && nat_lt s l.end then l.number else slot_at ls s) ≡ 2 ^ 32
    go false rest = rest
    go true rest =
        ap (λ t. if t then l.number else slot_at ls s) (le-ltb s l.end (low l (inl refl))) ∙ rest

module _ (p : Pair) (v : View) (layout : Layout) (x : Parts) (w : Opening) (st : parts.State)
    (h : IsOpenedWith p v layout x w.machine st) (is : IsSound w.machine st) (next_seq : ℕ) where
  live : (r : parts.Role) → IsInTree r → parts.IsLive r
  live parts.NoNode tree = tree
  live parts.Draft tree = tree
  live parts.Free tree = tt
  live parts.Leaving tree = tt
  live parts.Coming tree = absurd tree

  ends : (l : LeafRange) → In l x.tree.leaves → l.end ≤ st.end
  ends l i =
      let at = (law_spine p v layout x w.machine st next_seq h).spine.leaves l
      (in_contains x.tree.leaves l i) in
      let below = is.whole.fits.leaves.below l.number (live (st.leaves l.number).role at.role) in
      let end = at.end_is in omega (arith, below, end)

  pub read_tree : IsReadTree (record { opening = w; parts = st; next_seq = next_seq })
  read_tree = record {
    leaves = λ k. subst (λ (l : parts.Leaf). l.role ≢ parts.NoNode → l.loaded ≡ true)
        (sym (h.opening.parts.leaves k)) (leaf_read v.geometry
        ((choices_of v.geometry v.reading x).leaf k) ((choices_of v.geometry v.reading x).pending k));
    inner_nodes = λ k. subst (λ (n : parts.InnerNode). n.role ≢ parts.NoNode → n.loaded ≡ true)
        (sym (h.opening.parts.inner_nodes k)) (inner_read v.geometry
        ((choices_of v.geometry v.reading x).inner k));
    beyond = λ s far.
        let none = slot_beyond x.tree.leaves s (λ l i.
        (let end = ends l i in omega (arith, end, far))) in
        let slot = h.opening.books.leaf s in omega (arith, none, slot);
  }

-- ---- the opening

module _ {C B : Type 0} (cache_facts : C → DiskFacts) (backing_facts : B → DiskFacts)
    (p : Pair) (v : View) (layout : Layout) (x : Parts) (read : Read) (count : ℕ) (was : C)
    (k : Beginning C B) (view : IsView p v) (sound : HasSoundParts p v)
    (divided : IsLayoutOf v.geometry layout) (are : ArePartsOf v.geometry v.reading x)
    (on : BeginsOn cache_facts backing_facts p v x read count was k) where
  abbrev next_seq : ℕ
  next_seq = first_seq k.journal

  abbrev run : World
  run = opening cache_facts backing_facts (parts_of x.tree k)

  module _ (w : whole.Opening) (st : parts.State) (h : IsOpenedWith p v layout x w st)
      (is : IsSound w st) where
    abbrev o : Origin
    o = record {
      opening = record { machine = w; worker = worker_of };
      parts = st;
      next_seq = next_seq;
    }

    part_count : length (parts_of x.tree k) - 6 ≡ count
    part_count =
        let same = many cache_facts backing_facts k.leaves in
        let each = on.leaves.each in
        omega (arith, same, each)

    leaves : AreLeafParts o.opening st (length (parts_of x.tree k) - 6) 0
        (leaves_among cache_facts backing_facts (parts_of x.tree k))
    leaves = subst (λ n. AreLeafParts o.opening st n 0
        (leaves_among cache_facts backing_facts (parts_of x.tree k))) (sym part_count)
        (subst (λ (cs : List NodeCache). AreLeafParts o.opening st count 0 cs)
        (sym (all_leaves cache_facts backing_facts k.leaves))
        (each_part o.opening st count 0 k.leaves (λ i n empty at low.
        (let each = on.leaves.each in
        let same : i ≡ n = omega (arith, at) in
        subst (λ m. AreLeavesOf w st count m (slice_index_or k.leaves i empty)) same
        (law_leaves (cache_facts was) p v layout x w st count k.leaves i empty h on.cache_was
        on.leaves (omega (arith, low, each)))))))

    begun : HasBegun (begun_with cache_facts backing_facts (parts_of x.tree k)) o
    begun = record {
      read = read_tree p v layout x o.opening st h is next_seq;
      spine = law_spine p v layout x w st next_seq h;
      buckets = law_buckets p v layout x w st k.buckets h on.bytes on.buckets on.reserves on.fill
          on.chain on.renewing on.round;
      journal = law_journal p v layout x o.opening st next_seq read k.journal h is
          on.found on.entries on.resumed;
      needs = law_needs p v layout x o.opening st h next_seq read k.journal on.entries on.resumed;
      leaves = leaves;
    }

    abbrev other : Bool
    other = is_some_image (backing_facts k.backing.disk).holds

    told : (is_some_image (cache_facts k.cache).holds && other) ≡ true
    told = ap (λ (i : Option Image). is_some_image i && other) on.cache
        ∙ ap is_some_image on.backing

    origin : IsOrigin run o
    origin = record {
      with_cache = refl;
      told = told;
      cached = h.opening.devices.plain;
      size = h.opening.books.size_is ∙ sym on.size;
      worker = λ i. refl;
      cache = λ s. ap (λ (i : Image). i s) h.opening.devices.cache
          ∙ sym (ap (λ (i : Option Image). image_of i s) on.cache);
      backing = λ s. h.opening.devices.backing s ∙ sym (on.held s)
          ∙ sym (ap (λ (i : Option Image). image_of i (k.backing.offset + s)) on.backing);
      sound = is;
      slots = in_slots p v layout x w st h;
      order = λ s t le. in_order v.geometry (w.flow.books.bucket s) (w.flow.books.bucket t) s t le
          (h.opening.books.bucket s) (h.opening.books.bucket t);
      ends = ends_of v.geometry w.layout layout divided h.opening.layout_is w.flow.books.bucket
          h.opening.books.bucket;
      calm = h.opening.parts.change;
      begun = begun;
    }

  found : (o : Origin) × IsSeenAs p v layout x next_seq run o
  found =
      let s = law_stands p v layout x view sound divided are in
      let h : IsOpenedWith p v layout x s.0 s.1 = record {
        view = view;
        sound = sound;
        divided = divided;
        read = are;
        opening = s.2;
      } in
      let at = origin s.0 s.1 h s.3 in (
        o s.0 s.1 h s.3,
        record {
          opened = s.2;
          seq = refl;
          origin = at;
          seen = λ untorn. record { is = refl; origin = at; course = untorn };
        },
      )

pub law_origin : {C B : Type 0} (cache_facts : C → DiskFacts) (backing_facts : B → DiskFacts)
    → LawOrigin cache_facts backing_facts
law_origin cache_facts backing_facts p v layout x read count was k view sound divided are on =
    found cache_facts backing_facts p v layout x read count was k view sound divided are on
