-- All parts of soundness, of what a crash leaves.
use Rattle.std.proofs.Common.{◌≡◌, ◌≢◌, ◌⊎◌, inl, inr, ℕ, ◌+◌, ◌*◌, ◌<◌, ◌≤◌, true, false, List, refl, sym, ap, ◌∙◌, subst, arith}
use Rattle.std.proofs.Math.Nat.{mul-le-mul_left}
use Rattle.bc_model.specs.Sector.{Image}
use Rattle.bc_disk.specs.Device.{Content, MayLeave}
use Rattle.bc_disk.specs.declared.geometry.Geometry.{Geometry}
use Rattle.bc_record.specs.Places.{bucket_at}
use Rattle.bc_record.proofs.Parts.{bytes_in-agree}
use Rattle.bc_key.specs.declared.key.Key.{Key}
use Rattle.bc_key.specs.Key.{ptr_at}
use Rattle.bc_uuid.specs.Table.{HoldsEntries}
use Rattle.bc_super.specs.Super.{IsBackingSuper, data_sectors}
use Rattle.bc_super.specs.Cache.{IsCacheSuper}
use Rattle.bc_leaves.specs.Parts as parts
use Rattle.bc_meta.specs.Acts as meta
use Rattle.bc_meta.specs.Layout.{Layout}
use Rattle.bc_image.specs.Pair.{HasBacking, HasCache, Pair, super_bytes}
use Rattle.bc_image.specs.Pointers.{PointsInto, PointsIntoData}
use Rattle.bc_image.specs.Reading.{IsReading, IsView, Reading, View}
use Rattle.bc_image.specs.Sound.{HasNoStrayEntry, HasPointers, HasSoundParts, HasSpareBuckets, NamesBacking}
use Rattle.bc_image.specs.Uses.{Data, IsSpare, IsUsedFor, Journal, Node, Priority, Super, Use, Uuid}
use Rattle.bc_facts.specs.Seen.{counted}
use Rattle.bc_facts.specs.Torn.{NoTornRecord}
use Rattle.bc_facts.proofs.Stood.{all_in, bucket_lies, in_all}
use Rattle.bc_remains.specs.Laws as remains
use Rattle.bc_remains.proofs.Strays.{law_no_stray}
use Rattle.bc_whole.specs.State.{Opening}
use Rattle.bc_whole.specs.State as whole
use Rattle.bc_known.specs.Acts.{State, Event}
use Rattle.bc_known.specs.Run.{run, start}
use Rattle.bc_known.proofs.Law.{law_whole}
use Rattle.bc_origin.proofs.Law.{inv_at}
use Rattle.bc_shows.specs.On.{IsRunOn}
use Rattle.bc_shows.specs.Laws.{Shows}
use Rattle.bc_shows.proofs.Law.{law_shows}
use Rattle.bc_uses.specs.Laws.{HasSpare, HasUses, IsUnneeded}
use Rattle.bc_uses.proofs.Uses.{law_spare_left, law_uses}
use Rattle.bc_opened.proofs.Keys.{law_old_keys}
use Rattle.bc_ranges.specs.Laws.{HasNodes, IsRunOf, frame_of}
use Rattle.bc_ranges.proofs.Law.{law_nodes, run_new}
use Rattle.bc_ranges.proofs.Read.{first_ptr}
use Rattle.bc_sound.specs.Laws.{IsLeftOf, IsSoundAgain, LawSound, view_with}
use Rattle.bc_sound.specs.Still.{IsUntouched}
use Rattle.bc_sound.proofs.Still.{law_still}
use Rattle.bc_sound.proofs.Store.{HasStore, has_store}

module _ (p : Pair) (v : View) (w : Opening) (x : parts.State) (next_seq : ℕ) (es : List Event) (ran : IsRunOf p v w x next_seq es)
    (left : Pair) (is : IsLeftOf p v.backing.data_offset (run w (start w x next_seq) es) left) where
  abbrev st : State
  st = run w (start w x next_seq) es

  abbrev g : Geometry
  g = v.geometry

  abbrev layout : Layout
  layout = w.layout

  abbrev b : Image
  b = λ s. left.backing (v.backing.data_offset + s)

  ran_on : IsRunOn g w x next_seq es
  ran_on = record {
    machine = ran.opening.machine;
    sound = ran.opening.sound;
    course = ran.course;
    old_keys = λ key was. (law_old_keys p v w x ran.opening key was).ptrs;
    keys = λ key new. (run_new (frame_of p v) w (start w x next_seq) es ran.made key new).lies.ptrs;
    no_torn = ran.no_torn;
  }

  shown : (r : Reading) × Shows g w st left.cache b r
  shown = law_shows g w x next_seq es ran_on left.cache b is.cache is.backing

  abbrev r : Reading
  r = shown.0

  nodes : HasNodes g (frame_of p v).size (frame_of p v).uuid r
  nodes = law_nodes p v w x next_seq es ran left.cache is.cache r shown.1.reads

  uses : HasUses g w r
  uses = law_uses g w x next_seq es ran_on left.cache b is.cache is.backing r shown.1.reads

  spare : HasSpare g w r
  spare = law_spare_left g w x next_seq es ran_on left.cache b is.cache is.backing r shown.1.reads

  -- ---- what nobody writes

  same : (s : ℕ) → IsUntouched w s → left.cache s ≡ p.cache s
  same s un = law_still (frame_of p v) w x next_seq es ran.opening.sound ran.course ran.made left.cache is.cache s un ∙ ap (λ (i : Image). i s) ran.opening.cache

  -- sectors in front of the buckets
  front : (s : ℕ) → s < g.bucket * g.first_bucket → IsUntouched w s
  front s lt q inside low high =
      let first = ran.opening.machine.layout.first q in
      let wide : g.bucket * g.first_bucket ≤ g.bucket * (g.first_bucket + q) = mul-le-mul_left g.bucket (omega arith) in
      absurd (omega (arith, first, low, lt, wide))

  super_front : 16 ≤ g.bucket * g.first_bucket
  super_front =
      let wide = g.bucket_from in
      let some = g.first_behind_super in
      let more : g.bucket * 1 ≤ g.bucket * g.first_bucket = mul-le-mul_left g.bucket (omega (arith, some)) in
      omega (arith, wide, more)

  cache_super : HasCache left v.cache
  cache_super =
      let same_bytes : super_bytes p.cache ≡ super_bytes left.cache =
      bytes_in-agree p.cache left.cache 8 5 (λ s low high. sym (same s (front s (let f = super_front in omega (arith, f, high))))) in
      let old = ran.opening.view.cache in (
        subst (λ n. 16 ≤ n) (sym is.cache_sectors) old.0,
        subst (λ n. IsCacheSuper (super_bytes left.cache) n v.cache) (sym is.cache_sectors)
            (subst (λ (bs : List ℕ). IsCacheSuper bs p.cache_sectors v.cache) same_bytes old.1),
      )

  backing_super : HasBacking left v.backing
  backing_super =
      let old = ran.opening.view.backing in
      let offset = old.1.usable.data_offset.0 in
      let same_bytes : super_bytes p.backing ≡ super_bytes left.backing =
      bytes_in-agree p.backing left.backing 8 5 (λ s low high. sym (is.front s (omega (arith, high, offset)))) in (
        subst (λ n. 16 ≤ n) (sym is.backing_sectors) old.0,
        subst (λ n. IsBackingSuper (super_bytes left.backing) n v.backing) (sym is.backing_sectors)
            (subst (λ (bs : List ℕ). IsBackingSuper bs p.backing_sectors v.backing) same_bytes old.1),
      )

  view : IsView left (view_with v r)
  view = record { backing = backing_super; cache = cache_super; geometry = ran.opening.view.geometry; reading = shown.1.reads }

  -- ---- the uuid table

  abbrev uuid : Key
  uuid = v.reading.newest.item.uuid_bucket

  -- its bucket lies behind the journal
  table_place : (bucket : ℕ) → PointsInto g v.reading.newest.item.uuid_bucket bucket → (g.first_bucket + g.journal ≤ bucket) × (bucket < g.nbuckets)
  table_place bucket (ptr, points, at) =
      let k = ran.opening.parts.pointers.uuid in
      let there : bucket_at g (ptr_at v.reading.newest.item.uuid_bucket 0).offset ≡ bucket =
      ap (λ y. bucket_at g y.offset) (first_ptr v.reading.newest.item.uuid_bucket ptr points) ∙ at in
      let place = (k.1 0 k.0).bucket in
      (omega (arith, place.0, there), omega (arith, place.1, there))

  table_sector : (bucket s : ℕ) → PointsInto g v.reading.newest.item.uuid_bucket bucket → g.bucket * bucket ≤ s → s < g.bucket * bucket + g.bucket → IsUntouched w s
  table_sector bucket s points low high q inside from to =
      let place = table_place bucket points in
      let first = ran.opening.machine.layout.first q in
      let sectors = ran.opening.machine.layout.bucket_sectors in
      let journal = ran.opening.machine.layout.journal in
      let here = bucket_lies g bucket s low high in
      let there = bucket_lies g (g.first_bucket + q) s (omega (arith, first, from)) (omega (arith, first, sectors, to)) in
      let q_is : counted g bucket ≡ q = omega (arith, here, there) in (
        omega (arith, here, there, place.0, journal),
        subst (λ n. w.flow.books.fixed n ≡ true) q_is (ran.opening.table bucket points),
      )

  names_backing : NamesBacking (view_with v r) left.cache
  names_backing =
      let old = ran.opening.parts.backing in
      record {
        bucket = old.bucket;
        place = subst (λ (key : Key). PointsInto g key old.bucket) (sym nodes.names) old.place;
        entries = old.entries;
        table = record {
          many = old.table.many;
          holds = subst (λ (bs : List ℕ). HoldsEntries bs old.entries)
              (bytes_in-agree p.cache left.cache (g.bucket * old.bucket) g.bucket (λ s low high. sym (same s (table_sector old.bucket s old.place low high)))) old.table.holds;
        };
        first = old.first;
      }

  -- ---- uses

  in_table : (bucket : ℕ) → IsUsedFor g r Uuid bucket → PointsInto g v.reading.newest.item.uuid_bucket bucket
  in_table bucket u = subst (λ (key : Key). PointsInto g key bucket) nodes.names u

  only_table : (bucket : ℕ) (a : Use) → a ≢ Uuid → IsUsedFor g r Uuid bucket → IsUsedFor g r a bucket → ⊥
  only_table bucket a ne u other =
      let points = in_table bucket u in
      let place = table_place bucket points in
      elim (spare.fixed bucket a (omega (arith, place.0)) (ran.opening.table bucket points) other) [
        | inl e ↦ (let j = subst (λ (y : Use). IsUsedFor g r y bucket) e other in let lt = j.1 in omega (arith, place.0, lt))
        | inr e ↦ ne e
      ]

  is_table : (a : Use) → (a ≡ Uuid) ⊎ (a ≢ Uuid)
  is_table Super = inr (λ e. cc)
  is_table Journal = inr (λ e. cc)
  is_table Priority = inr (λ e. cc)
  is_table Uuid = inl refl
  is_table Node = inr (λ e. cc)
  is_table Data = inr (λ e. cc)

  one : (bucket : ℕ) (a c : Use) → IsUsedFor g r a bucket → IsUsedFor g r c bucket → a ≡ c
  one bucket a c q k = elim (is_table a) [
    | inl e ↦ elim (is_table c) [
      | inl h ↦ e ∙ sym h
      | inr ne ↦ absurd (only_table bucket c ne (subst (λ (y : Use). IsUsedFor g r y bucket) e q) k)
    ]
    | inr ne ↦ elim (is_table c) [
      | inl h ↦ absurd (only_table bucket a ne (subst (λ (y : Use). IsUsedFor g r y bucket) h k) q)
      | inr not ↦ uses.one bucket a c ne not q k
    ]
  ]

  is_spare : (bucket : ℕ) → IsUnneeded g w r bucket → IsSpare g r bucket
  is_spare bucket free = (
    free.inside,
    λ what u. elim (is_table what) [
      | inl e ↦ two (ran.opening.table bucket (in_table bucket (subst (λ (y : Use). IsUsedFor g r y bucket) e u))) free.not_fixed
      | inr ne ↦ free.unused what ne u
    ],
  )
    where
      two : w.flow.books.fixed (counted g bucket) ≡ true → w.flow.books.fixed (counted g bucket) ≡ false → ⊥
      two x_ y_ = cc

  spare_buckets : HasSpareBuckets g r
  spare_buckets = record {
    spare = spare.spare;
    different = spare.different;
    each = in_all (IsSpare g r) spare.spare (λ s i. is_spare s (all_in (IsUnneeded g w r) spare.spare s spare.each i));
    enough = spare.enough;
  }

  -- ---- strays

  stored : HasStore w.layout w.store st.whole.store
  stored =
      let h = law_whole w x next_seq es ran.opening.sound ran.course in
      subst (λ (y : whole.State). HasStore w.layout w.store y.store) (sym h.is) (has_store w x ran.opening.sound.whole h.events h.run)

  no_stray : HasNoStrayEntry g left.cache r
  no_stray =
      let inv = inv_at w x next_seq es ran.opening.sound ran.course in
      let image_is : p.cache ≡ w.store.image = sym (ran.opening.sound.whole.image ∙ ran.opening.cache) in
      let run_of : remains.IsRunOf g w.layout w.store stored.acts = record {
        layout = ran.opening.machine.layout;
        sound = ran.opening.sound.whole.store;
        run = stored.run;
        no_torn = subst (λ (m : meta.State). NoTornRecord g w.store.image m.places) stored.is ran.no_torn;
      } in
      law_no_stray g w.layout w.store stored.acts run_of v.reading
      (subst (λ (i : Image). IsReading g i v.reading) image_is ran.opening.view.reading)
      (subst (λ (i : Image). HasNoStrayEntry g i v.reading) image_is ran.opening.parts.no_stray)
      left.cache (subst (λ (m : meta.State). MayLeave m.places.device left.cache) stored.is (subst (λ (d : Content). MayLeave d left.cache) inv.link.device is.cache))
      r shown.1.reads

  -- ---- all of it

  abbrev IsPointers : ℕ → Type 0
  IsPointers n = HasPointers g n r

  sound_parts : HasSoundParts left (view_with v r)
  sound_parts = record {
    superblocks = ran.opening.parts.superblocks;
    backing = names_backing;
    ranges = nodes.ranges;
    pointers = subst (λ n. IsPointers n) (ap (λ n. data_sectors n v.backing) (sym is.backing_sectors)) (record {
      nodes = nodes.keys;
      root = nodes.root;
      uuid = subst (λ (key : Key). (0 < key.count) × PointsIntoData g key) (sym nodes.names) ran.opening.parts.pointers.uuid;
      data_keys = nodes.data_keys;
    });
    uses = record { one = one; nodes = nodes.apart };
    agrees = λ sector key has live clean. shown.1.agree sector key has live clean;
    window = uses.window;
    spare = spare_buckets;
    no_stray = no_stray;
  }

  pub again : IsSoundAgain left v
  again = (r, view, sound_parts)

pub law_sound : LawSound
law_sound p v w x next_seq es ran left is =
    let k = again p v w x next_seq es ran left is in
    (k, inr (view_with v k.0, k.1, k.2))
