-- An opening of a sound pair, by what was chosen.
use Rattle.std.proofs.Common.{subst, ◌≡◌, ◌≢◌, inl, inr, ℕ, zero, suc, ◌+◌, ◌%◌, ◌^◌, ◌≤◌, Bool, true, false, List, [], ◌∷◌, Option, Some, None, refl, sym, ap, ◌∙◌, arith, if◌then◌else◌, nat_lt}
use Rattle.std.specs.Prelude.{◌↔◌, map, not}
use Rattle.std.proofs.lemmas.Bool.{cases_lt}
use Rattle.bc_model.specs.Sector.{Image, Value}
use Rattle.bc_disk.specs.declared.geometry.Geometry.{Geometry}
use Rattle.bc_key.specs.declared.key.Key.{Key}
use Rattle.bc_key.specs.Key.{place_at, ptr_at}
use Rattle.bc_record.specs.Places.{bucket_at}
use Rattle.bc_jset.specs.EntryBytes.{IsLevel}
use Rattle.bc_jset.specs.Entries.{FoundEntry, bucket_end, bucket_start}
use Rattle.bc_jset.specs.Records.{entry_kind}
use Rattle.bc_jset.proofs.Records.{entry_codec}
use Rattle.bc_super.specs.Super.{data_sectors}
use Rattle.bc_books.specs.Books.{Setup}
use Rattle.bc_books.specs.Index.{Clean, Pointer, is_dirty}
use Rattle.bc_books.specs.Shelves.{Priorities}
use Rattle.bc_books.specs.Versions as versions_of
use Rattle.bc_prio.specs.Chain.{IsPlace}
use Rattle.bc_data.specs.Data as flow
use Rattle.bc_data.specs.Laws.{IsPair}
use Rattle.bc_data.specs.Laws as data_law
use Rattle.bc_meta.specs.Chain.{bytes_of, chain_in}
use Rattle.bc_meta.specs.Entries.{Entry}
use Rattle.bc_meta.specs.Facts.{In}
use Rattle.bc_meta.specs.Keys.{last_ref, ref_by}
use Rattle.bc_meta.specs.Layout.{Layout, image_keys, node_sets}
use Rattle.bc_meta.specs.Laws as meta
use Rattle.bc_meta.specs.Places.{IsSoundImage}
use Rattle.bc_meta.specs.Tree as tree
use Rattle.bc_meta.specs.Tree.{Child, Each, IsNamed, Keeps, NodeSet, Other, Owner, Walk, Whole, tree_list}
use Rattle.bc_meta.proofs.Acts.{opened_cases}
use Rattle.bc_leaves.specs.After.{has}
use Rattle.bc_leaves.specs.Fits.{Fits}
use Rattle.bc_leaves.specs.Parts.{InnerNode, Leaf, NoNode}
use Rattle.bc_leaves.specs.Parts as parts
use Rattle.bc_leaves.proofs.Chains.{has_in, in_has}
use Rattle.bc_image.specs.Children.{children_of}
use Rattle.bc_image.specs.Pair.{Pair}
use Rattle.bc_image.specs.Pointers.{LiesInData}
use Rattle.bc_image.specs.Reading.{IsView, Reading, View, key_of}
use Rattle.bc_image.specs.Shown.{age_of, is_fresh, is_stale, shown_by, value_by}
use Rattle.bc_image.specs.Sound.{HasSoundParts}
use Rattle.bc_image.specs.Tree.{AreWalks, IsWalk, Node, node_of, set_keys}
use Rattle.bc_image.specs.Uses.{IsSpare, IsUsedFor, Journal, Priority, Use}
use Rattle.bc_image.specs.Uses as uses
use Rattle.bc_image.proofs.Unique.{some_same}
use Rattle.bc_facts.specs.Layout.{IsLayoutOf}
use Rattle.bc_facts.specs.Reads.{back}
use Rattle.bc_facts.specs.Seen.{bucket_of, counted, seen_child, seen_entries, seen_entry, word_of}
use Rattle.bc_facts.proofs.Stood.{bucket_lies, find_in, found_behind, in_behind, in_front, stood}
use Rattle.bc_remains.specs.Laws.{IsOpened}
use Rattle.bc_remains.specs.Means as means
use Rattle.bc_remains.specs.Opens.{Opens}
use Rattle.bc_remains.proofs.Children.{children_are}
use Rattle.bc_remains.proofs.Open.{law_opened}
use Rattle.bc_whole.specs.State.{Opening}
use Rattle.bc_whole.specs.Together as together
use Rattle.bc_whole.specs.Laws as whole_law
use Rattle.bc_known.specs.Known.{AreLaid}
use Rattle.bc_known.specs.Laws.{IsSound}
use Rattle.bc_opening.specs.Read.{IsFixed, bucket_by, inner_of, kind_of, leaf_of, pointed, pointer_by, version_at, version_of, versions}
use Rattle.bc_opening.specs.Choices.{Choices, MayBeChosen}
use Rattle.bc_opening.specs.Opening.{IsOpeningOf}
use Rattle.bc_opening.specs.Laws.{LawOpening}
use Rattle.bc_opening.proofs.Nodes.{Sits}
use Rattle.bc_opening.proofs.Nodes as nodes
use Rattle.bc_opening.proofs.Pointers.{at_sector, live_is, no_age, pointer_at, stale_is, version_byte, version_bytes}
use Rattle.bc_opening.proofs.Books as books
use Rattle.bc_opening.proofs.Uses.{in_map, not_true}
use Rattle.bc_opening.proofs.Parts as fit

not_false : (b : Bool) → not b ≡ false → b ≡ true
not_false true e = refl
not_false false e = absurd (cc)

dirty_is : (b : Bool) → is_dirty (kind_of b) ≡ b
dirty_is true = refl
dirty_is false = refl

clean_of : (b : Bool) → kind_of b ≡ Clean → b ≡ false
clean_of true e = absurd (cc)
clean_of false e = refl

-- something holds of each node of the tree that holds of each node of the walk
module _ (g : Geometry) (w : Layout) (layout : IsLayoutOf g w) (owners : ℕ → Owner) (image : Image) (P : ℕ → List NodeSet → Type 0) where
  each_row : (level : ℕ) → ((from : ℕ) (key : Key) (ns : List Node) → IsWalk g image level from key ns → ((n : Node) → In n ns → Sits g w layout owners image n)
      → ((n : Node) → In n ns → P (bucket_of g n.key) (node_sets w owners image (bucket_of g n.key))) → Walk P (node_sets w owners image) level (bucket_of g key))
      → (from : ℕ) (keys : List Key) (ns : List Node) → AreWalks (IsWalk g image level) from keys ns → ((n : Node) → In n ns → Sits g w layout owners image n)
      → ((n : Node) → In n ns → P (bucket_of g n.key) (node_sets w owners image (bucket_of g n.key))) → Each (Walk P (node_sets w owners image) level) (map (seen_child g) keys)
  each_row level ih from [] ns walks sits holds = tt
  each_row level ih from (k ∷ ks) ns walks sits holds =
      let front : (n : Node) → In n walks.0 → In n ns = λ n i. subst (λ (l : List Node). In n l) (sym walks.4) (in_front n walks.0 walks.1 i) in
      let rest : (n : Node) → In n walks.1 → In n ns = λ n i. subst (λ (l : List Node). In n l) (sym walks.4) (in_behind n walks.0 walks.1 i) in
      (ih from k walks.0 walks.2 (λ n i. sits n (front n i)) (λ n i. holds n (front n i)), each_row level ih k.end ks walks.1 walks.3 (λ n i. sits n (rest n i)) (λ n i. holds n (rest n i)))

  pub each_node : (level from : ℕ) (key : Key) (ns : List Node) → IsWalk g image level from key ns → ((n : Node) → In n ns → Sits g w layout owners image n)
      → ((n : Node) → In n ns → P (bucket_of g n.key) (node_sets w owners image (bucket_of g n.key))) → Walk P (node_sets w owners image) level (bucket_of g key)
  each_node zero from key ns walk sits holds = holds (node_of zero from key walk.0) (subst (λ (l : List Node). In (node_of zero from key walk.0) l) (sym walk.2) (inl refl))
  each_node (suc level) from key ns walk sits holds =
      let first : In (node_of (suc level) from key walk.0) ns = subst (λ (l : List Node). In (node_of (suc level) from key walk.0) l) (sym walk.4) (inl refl) in
      let rest : (n : Node) → In n walk.1 → In n ns = λ n i. subst (λ (l : List Node). In n l) (sym walk.4) (inr i) in
      let sit = sits (node_of (suc level) from key walk.0) first in
      let below : tree.children_of (node_sets w owners image (bucket_of g key)) ≡ map (seen_child g) (children_of (set_keys walk.0)) = ap tree.children_of sit.seen ∙ children_are g walk.0 in (
        holds (node_of (suc level) from key walk.0) first,
        subst (λ (cs : List Child). Each (Walk P (node_sets w owners image) level) cs) (sym below)
            (each_row level (each_node level) from (children_of (set_keys walk.0)) walk.1 walk.3 (λ n i. sits n (rest n i)) (λ n i. holds n (rest n i))),
      )

module _ (p : Pair) (v : View) (w : Layout) (c : Choices) (view : IsView p v) (sound : HasSoundParts p v) (layout : IsLayoutOf v.geometry w) (chosen : MayBeChosen v.geometry v.reading c) where
  abbrev g : Geometry
  g = v.geometry

  abbrev r : Reading
  r = v.reading

  abbrev size : ℕ
  size = data_sectors p.backing_sectors v.backing

  abbrev start : IsOpened v.geometry w p.cache v.reading
  start = law_opened p v w view sound layout

  abbrev o : meta.Opening
  o = (law_opened p v w view sound layout).opening

  newest_is : o.newest ≡ seen_entry g r.newest.item
  newest_is = sym start.opens.means.newest_is

  pub entries : seen_entries g r.entries ≡ seen_entry g r.newest.item ∷ o.older
  entries = start.opens.means.entries ∙ ap (λ (e : Entry). e ∷ o.older) newest_is

  -- ---- the tree

  known_level : IsLevel r.newest.item.level
  known_level =
      let e = view.reading.entries in
      let s = stood g p.cache g.journal e.all e.newest e.stand (find_in e.newest.item.seq e.all e.newest e.is_newest.counts) in
      let here = found_behind (entry_kind g) (entry_codec g) p.cache (bucket_end g s.bucket) (bucket_start g s.bucket) s.before (e.newest.item ∷ s.after) s.are in
      subst (λ (f : FoundEntry). IsLevel f.item.level) view.reading.newest here.0.known_level

  pub height : (h : ℕ) × (r.newest.item.level ≡ suc h)
  height = elim known_level [ inl e ↦ (0, e) | inr e ↦ (1, e) ]

  pub named : IsNamed o.owners (node_sets w o.owners p.cache) r.newest.item.level (bucket_of g r.newest.item.root) (word_of r.newest.item.root)
  named =
      subst (λ (e : Entry). IsNamed o.owners (node_sets w o.owners p.cache) e.level e.root e.word) newest_is
      (subst (λ (i : Image). IsNamed o.owners (node_sets w o.owners i) o.newest.level o.newest.root o.newest.word) start.image_is start.sound.named)

  pub whole : Walk Whole (node_sets w o.owners p.cache) r.newest.item.level (bucket_of g r.newest.item.root)
  whole =
      subst (λ (e : Entry). Walk Whole (node_sets w o.owners p.cache) e.level e.root) newest_is
      (subst (λ (i : Image). Walk Whole (node_sets w o.owners i) o.newest.level o.newest.root) start.image_is start.sound.whole.sound.whole)

  sits : (n : Node) → In n r.nodes → Sits g w layout o.owners p.cache n
  sits = nodes.sits g w layout o.owners p.cache r.newest.item.level 0 r.newest.item.root r.nodes view.reading.nodes named whole

  pub keys : (s : ℕ) → means.ref_of (key_of r s) s ≡ last_ref (image_keys w o.owners p.cache (seen_entry g r.newest.item) o.older) s
  keys s =
      start.opens.means.keys s ∙ ap (λ (i : Image). last_ref (image_keys w o.owners i o.newest o.older) s) start.image_is
      ∙ ap (λ (e : Entry). last_ref (image_keys w o.owners p.cache e o.older) s) newest_is

  gens_are : bytes_of (versions r.gens) ≡ bytes_of o.gens
  gens_are = version_bytes r.gens.records ∙ start.opens.means.gens_are

  -- ---- the books

  abbrev buckets : List ℕ
  buckets = map (λ (n : Node). bucket_of g n.key) r.nodes

  abbrev pub setup : Setup
  setup = books.setup g p.cache size r view.reading sound.pointers sound.uses sound.window c chosen o.chain start.opens.means.chain start.sound.distinct

  node_is : (q : ℕ) → (has buckets q ≡ true) ↔ IsUsedFor g r uses.Node (back g q)
  node_is = books.node_is g p.cache size r view.reading sound.pointers sound.uses sound.window c chosen o.chain start.opens.means.chain start.sound.distinct

  chain_is : (q : ℕ) → (has o.chain q ≡ true) ↔ IsUsedFor g r Priority (back g q)
  chain_is = books.chain_is g p.cache size r view.reading sound.pointers sound.uses sound.window c chosen o.chain start.opens.means.chain start.sound.distinct

  fixed_is : (q : ℕ) → (setup.fixed q ≡ true) ↔ IsFixed g r q
  fixed_is = books.fixed_is g p.cache size r view.reading sound.pointers sound.uses sound.window c chosen o.chain start.opens.means.chain start.sound.distinct

  node_place : (q : ℕ) → IsUsedFor g r uses.Node (back g q) → IsPlace g (back g q)
  node_place = books.node_place g p.cache size r view.reading sound.pointers sound.uses sound.window c chosen o.chain start.opens.means.chain start.sound.distinct

  in_node : (n : Node) → In n r.nodes → has buckets (bucket_of g n.key) ≡ true
  in_node n i = has_in buckets (bucket_of g n.key) (in_map (λ (m : Node). bucket_of g m.key) r.nodes n i)

  -- ---- the devices

  abbrev pub pair : flow.Opening
  pair = record {
    books = setup;
    plain = false;
    cache = p.cache;
    backing = λ s. p.backing (v.backing.data_offset + s);
    image = λ s. shown_by p v s;
  }

  turned : (b : Bool) (x y : Value) → (if not b then x else y) ≡ (if b then y else x)
  turned true x y = refl
  turned false x y = refl

  value_is : (s : ℕ) (backed : Value) (k : Option Key) → key_of r s ≡ k
      → value_by g r.gens p.cache k s backed ≡ data_law.shown_by setup.bucket setup.version (pointer_by g r.gens k s) p.cache backed
  value_is s backed None e = refl
  value_is s backed (Some key) e = go (nat_lt 0 key.count) refl
    where
      go : (b : Bool) → nat_lt 0 key.count ≡ b
          → (if is_fresh g r.gens (if b then Some (ptr_at key 0) else None) then p.cache (place_at key 0 s) else backed)
          ≡ data_law.shown_by setup.bucket setup.version (pointed g r.gens key s (if b then Some (ptr_at key 0) else None)) p.cache backed
      go false test = refl
      go true test =
          let found : pointer_by g r.gens (key_of r s) s ≡ Some (pointer_at g r.gens key s) =
          ap (λ (k : Option Key). pointer_by g r.gens k s) e ∙ ap (λ (b : Bool). pointed g r.gens key s (if b then Some (ptr_at key 0) else None)) test in
          let a = at_sector g size r sound.pointers view.reading.gens.records s (pointer_at g r.gens key s) found in
          let same : a.key ≡ key = some_same a.key key (sym a.at ∙ e) in
          let lies = subst (λ (k : Key). LiesInData g (ptr_at k 0) k.size) same a.lies in
          let there : counted g (bucket_at g (place_at key 0 s)) ≡ bucket_by g (ptr_at key 0) = a.bucket ∙ ap (λ (k : Key). bucket_by g (ptr_at k 0)) same in
          turned (is_stale (age_of g r.gens (ptr_at key 0))) (p.cache (place_at key 0 s)) backed
          ∙ ap (λ (b : Bool). if b then backed else p.cache (place_at key 0 s))
          (sym (ap (λ q. versions_of.is_stale (version_at g r.gens q % 256) (version_of g r.gens (ptr_at key 0) % 256)) there
          ∙ stale_is g size r sound.pointers view.reading.gens.records (ptr_at key 0) key.size lies))

  pub sound_pair : IsPair pair
  sound_pair = record {
    books = books.sound g p.cache size r view.reading sound.pointers sound.uses sound.window c chosen o.chain start.opens.means.chain start.sound.distinct;
    agree = λ s x e clean same.
        let a = at_sector g size r sound.pointers view.reading.gens.records s x e in
        let none = no_age g size r sound.pointers view.reading.gens.records (ptr_at a.key 0) a.key.size a.lies
        (sym (ap (version_at g r.gens) a.bucket) ∙ same ∙ sym (ap (λ (y : Pointer). y.version) a.is)) in
        ap (λ (y : Pointer). p.cache y.place) (sym a.is)
        ∙ sound.agrees s a.key a.at (live_is g size r sound.pointers view.reading.gens.records a.key a.some none) (clean_of a.key.dirty (ap (λ (y : Pointer). y.kind) a.is ∙ clean));
    plain = λ e. absurd (cc);
    image = λ s. value_is s (p.backing (v.backing.data_offset + s)) (key_of r s) refl;
  }

  -- ---- the metadata

  abbrev pub store : meta.Opening
  store = record {
    image = p.cache;
    owners = o.owners;
    newest = seen_entry g r.newest.item;
    older = o.older;
    ring = o.ring;
    ring_next = o.ring_next;
    bucket = o.bucket;
    unused = λ q. not (has buckets q);
    chain = o.chain;
    gens = versions r.gens;
    spare = c.kept;
  }

  unused_is : (q : ℕ) → (not (has buckets q) ≡ true) ↔ (IsUsedFor g r uses.Node (back g q) → ⊥)
  unused_is q = (
    (λ e used. two (has buckets q) ((node_is q).1 used) e),
    (λ none. go (not_true (has buckets q) (λ e. none ((node_is q).0 e)))),
  )
    where
      two : (b : Bool) → b ≡ true → not b ≡ true → ⊥
      two true x y = cc
      two false x y = cc

      go : has buckets q ≡ false → not (has buckets q) ≡ true
      go e = ap not e

  keeps : Keeps (λ q. not (has buckets q)) (node_sets w o.owners p.cache) r.newest.item.level (bucket_of g r.newest.item.root)
  keeps q free =
      each_node g w layout o.owners p.cache (Other q) r.newest.item.level 0 r.newest.item.root r.nodes view.reading.nodes sits
      (λ n i e. two (has buckets q) (subst (λ m. has buckets m ≡ true) e (in_node n i)) free)
    where
      two : (b : Bool) → b ≡ true → not b ≡ true → ⊥
      two true x y = cc
      two false x y = cc

  -- a bucket of the chain has no other use
  chain_only : (q : ℕ) → In q o.chain → (other : Use) → other ≢ Priority → IsUsedFor g r other (back g q) → ⊥
  chain_only q i other ne used = ne (sound.uses.one (back g q) other Priority used ((chain_is q).0 (has_in o.chain q i)))

  pub sound_store : meta.IsSound w store
  sound_store = record {
    whole = subst (λ (e : Entry). IsSoundImage w o.owners p.cache e o.older o.ring o.ring_next o.bucket) newest_is
        (subst (λ (i : Image). IsSoundImage w o.owners i o.newest o.older o.ring o.ring_next o.bucket) start.image_is start.sound.whole);
    keeps = keeps;
    outside = λ q out. (unused_is q).1 (λ used.
        (let place = node_place q used in
        let low = place.0 in
        let high = place.1 in
        let j = layout.journal in
        let b = layout.buckets in
        elim out [ inl lt ↦ omega (arith, low, j, lt) | inr ge ↦ omega (arith, high, b, ge) ]));
    named = named;
    chain = ap (λ (e : Entry). chain_in w p.cache e.prio) (sym newest_is) ∙ ap (λ (i : Image). chain_in w i o.newest.prio) (sym start.image_is) ∙ start.sound.chain
        ∙ ap (λ (l : List ℕ). Some (record { buckets = o.chain; gens = l })) (sym gens_are);
    distinct = start.sound.distinct;
    free = λ q i. (unused_is q).1 (λ used. chain_only q i uses.Node (λ e. cc) used);
    spare = λ q i.
        let spare = chosen.listed q Priorities (chosen.kept q i) in
        let high = spare.0 in
        let b = layout.buckets in
        let low = spare_low q spare in
        let j = layout.journal in
        ((unused_is q).1 (λ used. spare.1 uses.Node used), (λ k. spare.1 Priority ((chain_is q).0 (has_in o.chain q k))), omega (arith, low, j), omega (arith, high, b));
    spare_distinct = chosen.distinct;
    spare_count = chosen.enough ∙ sym layout.chain_sets;
  }
    where
      spare_low : (q : ℕ) → IsSpare g r (back g q) → g.journal ≤ q
      spare_low q spare = elim (cases_lt q g.journal) [ inl lt ↦ absurd (spare.1 Journal (omega arith, omega (arith, lt))) | inr ge ↦ ge ]

  opens : Opens g w r store
  opens = record {
    means = record { entries = entries; newest_is = refl; keys = keys; chain = start.opens.means.chain; gens_are = start.opens.means.gens_are ∙ sym gens_are };
    bucket = start.opens.bucket;
    next = start.opens.next;
  }

  -- ---- the parts

  pub small : size ≤ 2 ^ 40
  small = omega arith

  pub used : (n : Node) → In n r.nodes → not (has buckets (bucket_of g n.key)) ≡ false
  used n i = ap not (in_node n i)

  abbrev pub held : parts.State
  held = fit.held g w layout p.cache size small r view.reading sound.ranges sound.pointers sound.uses c chosen o.owners o.older o.ring o.bucket (λ q. not (has buckets q)) named whole entries keys used height.0 height.1

  fits : Fits held
  fits = fit.fits g w layout p.cache size small r view.reading sound.ranges sound.pointers sound.uses c chosen o.owners o.older o.ring o.bucket (λ q. not (has buckets q)) named whole entries keys used height.0 height.1

  -- ---- all of it

  abbrev pub opening : Opening
  opening = record { flow = pair; layout = w; before = g.first_bucket; store = store }

  -- what a sector's key says is what the books have
  ref_is : (s : ℕ) (k : Option Key) → key_of r s ≡ k → means.ref_of k s ≡ together.ref_of (pointer_by g r.gens k s)
  ref_is s None e = refl
  ref_is s (Some key) e = go (nat_lt 0 key.count) refl
    where
      go : (b : Bool) → nat_lt 0 key.count ≡ b → ref_by key s (if b then Some (ptr_at key 0) else None) ≡ together.ref_of (pointed g r.gens key s (if b then Some (ptr_at key 0) else None))
      go false test = refl
      go true test =
          let found : pointer_by g r.gens (key_of r s) s ≡ Some (pointer_at g r.gens key s) =
          ap (λ (k : Option Key). pointer_by g r.gens k s) e ∙ ap (λ (b : Bool). pointed g r.gens key s (if b then Some (ptr_at key 0) else None)) test in
          let a = at_sector g size r sound.pointers view.reading.gens.records s (pointer_at g r.gens key s) found in
          let same : a.key ≡ key = some_same a.key key (sym a.at ∙ e) in
          let lies : LiesInData g (ptr_at key 0) key.size = subst (λ (k : Key). LiesInData g (ptr_at k 0) k.size) same a.lies in
          let device = lies.device in
          let byte = version_byte g size r sound.pointers view.reading.gens.records (ptr_at key 0) key.size lies in
          let dirty = dirty_is key.dirty in
          cc

  sound_whole : whole_law.IsSound opening held
  sound_whole = record {
    pair = sound_pair;
    store = sound_store;
    fits = fits;
    records = refl;
    image = refl;
    index = λ s. sym (keys s) ∙ ref_is s (key_of r s) refl;
    gens = λ q. refl;
    chain = λ q. elim (opened_cases o.chain q) [
      | inl h ↦ h.1 ∙ sym (ap (λ (t : Bool). if t then Some 0 else None) (has_in o.chain q h.0))
      | inr h ↦ h.1 ∙ sym (ap (λ (t : Bool). if t then Some 0 else None) (not_true (has o.chain q) (λ e. h.0 (in_has o.chain q e))))
    ];
    nodes = λ q e. not_false (has buckets q) e;
  }

  laid : AreLaid opening
  laid = record {
    area = λ q free.
        let j = layout.journal in
        let b = layout.buckets in
        let inside : (IsFixed g r q → ⊥) = λ fixed. two (setup.fixed q) ((fixed_is q).1 fixed) free in (
          elim (cases_lt q w.journal) [ inl lt ↦ absurd (inside (inl (omega (arith, lt, j)))) | inr ge ↦ ge ],
          elim (cases_lt q w.buckets) [ inl lt ↦ lt | inr ge ↦ absurd (inside (inr (inr (omega (arith, ge, b))))) ],
        );
    sector = λ q t lt low high.
        let first = layout.first q in
        let sectors = layout.bucket_sectors in
        let at = bucket_lies g (g.first_bucket + q) t (omega (arith, first, low)) (omega (arith, first, high, sectors)) in
        omega (arith, at);
    sets = sym layout.chain_sets;
  }
    where
      two : (t : Bool) → t ≡ true → t ≡ false → ⊥
      two t x y = cc

  pub is_sound : IsSound opening held
  is_sound = record {
    whole = sound_whole;
    laid = laid;
    spare = chosen.kept;
    leaves = λ i. leaf (c.leaf i) i refl;
    inner_nodes = λ i. inner (c.inner i) i refl;
  }
    where
      leaf : (x : Option Node) (i : ℕ) → c.leaf i ≡ x → (leaf_of g x (c.pending i)).role ≢ NoNode → has buckets (leaf_of g x (c.pending i)).bucket ≡ true
      leaf None i e ne = absurd (ne refl)
      leaf (Some n) i e ne = in_node n (chosen.leaves.is_node i n e).0

      inner : (x : Option Node) (i : ℕ) → c.inner i ≡ x → (inner_of g x).role ≢ NoNode → has buckets (inner_of g x).bucket ≡ true
      inner None i e ne = absurd (ne refl)
      inner (Some n) i e ne = in_node n (chosen.inner_nodes.is_node i n e).0

  pub is_opening : IsOpeningOf p v w c opening held
  is_opening = record {
    layout_is = refl;
    before = refl;
    devices = record { plain = refl; cache = refl; backing = λ s. refl; image = λ s. refl };
    books = books.are g p.cache size r view.reading sound.pointers sound.uses sound.window c chosen o.chain start.opens.means.chain start.sound.distinct;
    store = record {
      image = refl;
      opens = opens;
      gens = refl;
      owners = λ n i. (sits n i).owner_is;
      unused = unused_is;
      spare = refl;
    };
    parts = fit.are g w layout p.cache size small r view.reading sound.ranges sound.pointers sound.uses c chosen o.owners o.older o.ring o.bucket (λ q. not (has buckets q)) named whole entries keys used height.0 height.1;
    records = refl;
  }

pub law_opening : LawOpening
law_opening p v w c view sound layout chosen =
    (opening p v w c view sound layout chosen, held p v w c view sound layout chosen, is_opening p v w c view sound layout chosen, is_sound p v w c view sound layout chosen)
