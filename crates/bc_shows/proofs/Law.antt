-- What a crash leaves shows, read by its formats, is what the machine says that it shows.
use Rattle.std.proofs.Common.{subst, ◌≡◌, ◌⊎◌, inl, inr, ℕ, ◌+◌, List, ◌∷◌, ◌++◌, Option, Some, sym, ap, ◌∙◌}
use Rattle.std.specs.Prelude.{reverse}
use Rattle.bc_key.specs.declared.key.Key.{Key}
use Rattle.bc_model.specs.Sector.{Image, Value}
use Rattle.bc_model.specs.History.{Allowed}
use Rattle.bc_disk.specs.Device.{Content, MayLeave}
use Rattle.bc_disk.specs.declared.geometry.Geometry.{Geometry}
use Rattle.bc_meta.specs.Facts.{In}
use Rattle.bc_meta.specs.Keys.{last_ref}
use Rattle.bc_meta.specs.Entries.{Entry, live}
use Rattle.bc_meta.specs.Layout.{ring_entries}
use Rattle.bc_meta.specs.Chain.{Chain, bytes_of, chain_in}
use Rattle.bc_meta.specs.Laws.{Finds, Survives}
use Rattle.bc_meta.proofs.Acts.{survives}
use Rattle.bc_leaves.specs.Parts as parts
use Rattle.bc_facts.specs.Reads.{gens_of}
use Rattle.bc_facts.proofs.Stood.{in_all}
use Rattle.bc_facts.proofs.Torn.{no_chance}
use Rattle.bc_image.specs.Pointers.{PointsIntoData}
use Rattle.bc_image.specs.Reading.{IsReading, Reading, key_of, keys_of}
use Rattle.bc_image.proofs.Unique.{one_reading, some_same}
use Rattle.bc_remains.specs.Means.{ref_of}
use Rattle.bc_remains.proofs.Keys.{last_is}
use Rattle.bc_whole.specs.State.{Opening}
use Rattle.bc_whole.specs.Together.{gen_from}
use Rattle.bc_whole.specs.Laws.{Reads, keys_in, shown_by}
use Rattle.bc_known.specs.Acts.{State, Event}
use Rattle.bc_known.specs.Run.{run, start}
use Rattle.bc_known.proofs.Law as known
use Rattle.bc_origin.specs.Keys.{WasThere, new_keys}
use Rattle.bc_origin.proofs.Lists.{entries_one}
use Rattle.bc_origin.proofs.Law.{inv_at, law_origin}
use Rattle.bc_shows.specs.On.{IsRunOn}
use Rattle.bc_shows.specs.Laws.{LawShown, LawShows, Shows, value_of}
use Rattle.bc_shows.proofs.Lists.{in_reverse, last_covers, last_in}
use Rattle.bc_shows.proofs.Found.{finds}
use Rattle.bc_shows.proofs.Sector.{live_is, value_is}

module _ (g : Geometry) (w : Opening) (x : parts.State) (next_seq : ℕ) (es : List Event) (ran : IsRunOn g w x next_seq es) (c b : Image) where
  abbrev st : State
  st = run w (start w x next_seq) es

  -- what is read of the cache device is what the machine reads of it
  record Joined (m : Reads w st.whole c b) : Type 0 where
    reading : Reading
    is : IsReading g c reading
    keys : reverse (keys_of reading) ≡ keys_in w st.whole c m.newest m.older
    gens : gens_of reading.gens.records ≡ m.chain.gens

  join : (m : Reads w st.whole c b) (newest : Entry) (older : List Entry) (index : List Key) (n : ℕ)
      → Finds w.layout st.whole.store c newest older index n → Joined m
  join m newest older index n f =
      let found = finds g w.layout ran.machine.layout c st.whole.store newest older index n f in
      let same = entries_one (ring_entries w.layout c w.layout.journal) newest m.newest older m.older f.again.whole.sound.entries m.entries in
      record {
        reading = found.reading;
        is = found.is;
        keys = found.keys ∙ ap (λ (e : Entry). keys_in w st.whole c e older) same.newest ∙ ap (λ (l : List Entry). keys_in w st.whole c m.newest l) same.older;
        gens = found.gens_are ∙ ap (λ (k : Chain). k.gens)
            (some_same (record { buckets = st.whole.store.buckets n; gens = bytes_of (st.whole.store.gens n) }) m.chain
            (sym f.chain ∙ ap (λ (e : Entry). chain_in w.layout c e.prio) same.newest ∙ m.chain_is));
      }

  joined : (m : Reads w st.whole c b) → Survives w.layout st.whole.store c → Joined m
  joined m v = elim v.finds [
    | inl f ↦ join m st.whole.store.places.records.newest st.whole.store.places.records.older st.whole.store.places.records.index st.whole.store.durable_chain f
    | inr f ↦ join m st.whole.store.places.records.entry
        (live st.whole.store.places.records.entry.last_seq (st.whole.store.places.records.newest ∷ st.whole.store.places.records.older))
        (st.whole.store.places.records.entry.keys ++ st.whole.store.places.records.index) st.whole.store.sealed_chain f.1
  ]

  shows : (m : Reads w st.whole c b) (j : Joined m)
      → ((key : Key) → In key (keys_in w st.whole c m.newest m.older) → WasThere w key ⊎ In key (new_keys es))
      → Shows g w st c b j.reading
  shows m j came = record {
    reads = j.is;
    allowed = λ s. subst (λ (v : Value). Allowed w.flow.image st.whole.flow.history s v) (sym (value s)) (m.allowed s);
    agree = λ s key at live clean.
        let l = live_is g w ran.machine ran.sound.laid j.reading.gens m.chain.gens j.gens c key s (whole s key at) (last_covers (keys_of j.reading) s key at) live in
        ap c (sym l.place) ∙ m.agree s l.ref (sym (ref_is s) ∙ ap (λ (o : Option Key). ref_of o s) at ∙ l.is) (l.dirty ∙ clean) l.fresh;
    closed = λ done s. value s ∙ m.closed done s;
    keys = in_all (PointsIntoData g) (keys_of j.reading) points;
  }
    where
      points : (key : Key) → In key (keys_of j.reading) → PointsIntoData g key
      points key i = elim (came key (subst (λ (l : List Key). In key l) j.keys (in_reverse key (keys_of j.reading) i))) [
        | inl was ↦ ran.old_keys key was
        | inr new ↦ ran.keys key new
      ]

      whole : (s : ℕ) (key : Key) → key_of j.reading s ≡ Some key → PointsIntoData g key
      whole s key at = points key (last_in (keys_of j.reading) s key at)

      ref_is : (s : ℕ) → ref_of (key_of j.reading s) s ≡ last_ref (keys_in w st.whole c m.newest m.older) s
      ref_is s = last_is (keys_of j.reading) s ∙ ap (λ (l : List Key). last_ref l s) j.keys

      value : (s : ℕ) → value_of g j.reading c b s
          ≡ shown_by w.flow.books.bucket (gen_from w.before m.chain.gens) (last_ref (keys_in w st.whole c m.newest m.older) s) c (b s)
      value s =
          value_is g w ran.machine ran.sound.laid j.reading.gens m.chain.gens j.gens c (key_of j.reading s) s (b s)
          (λ key at. (whole s key at, last_covers (keys_of j.reading) s key at))
          ∙ ap (λ o. shown_by w.flow.books.bucket (gen_from w.before m.chain.gens) o c (b s)) (ref_is s)

  pub at : MayLeave st.whole.flow.cache c → MayLeave st.whole.flow.backing b → (r : Reading) × Shows g w st c b r
  at left back =
      let chance = no_chance g w.layout ran.machine.layout w.store.image st.whole.store.places ran.no_torn in
      let inv = inv_at w x next_seq es ran.sound ran.course in
      let m = known.law_crash w x next_seq es ran.sound ran.course chance c b left back in
      let v = survives w.layout w.store st.whole.store inv.store ran.sound.whole.store chance c (subst (λ (d : Content). MayLeave d c) inv.link.device left) in
      let j = joined m v in
      (j.reading, shows m j (law_origin w x next_seq es ran.sound ran.course chance c left m.newest m.older m.entries))

pub law_shows : LawShows
law_shows g w x next_seq es ran c b left back = at g w x next_seq es ran c b left back

pub law_shown : LawShown
law_shown w x next_seq es p v ran is s =
    let k = at v.geometry w x next_seq es ran p.cache (λ t. p.backing (v.backing.data_offset + t)) is.cache is.backing in
    subst (λ (r : Reading). Allowed w.flow.image (run w (start w x next_seq) es).whole.flow.history s
    (value_of v.geometry r p.cache (λ t. p.backing (v.backing.data_offset + t)) s))
    (one_reading v.geometry p.cache k.0 v.reading k.1.reads is.view.reading) (k.1.allowed s)
