-- Keys of a reading are keys that the machine reads.
use Rattle.std.proofs.Common.{subst, ◌⊎◌, inl, inr, ℕ, List, ◌∷◌, ◌++◌, sym}
use Rattle.bc_key.specs.declared.key.Key.{Key}
use Rattle.bc_model.specs.Sector.{Image}
use Rattle.bc_disk.specs.Device.{Content, MayLeave}
use Rattle.bc_disk.specs.declared.geometry.Geometry.{Geometry}
use Rattle.bc_meta.specs.Facts.{In}
use Rattle.bc_meta.specs.Entries.{Entry, live}
use Rattle.bc_meta.specs.Laws.{Finds, Survives}
use Rattle.bc_meta.proofs.Acts.{survives}
use Rattle.bc_leaves.specs.Parts as parts
use Rattle.bc_facts.specs.Torn.{NoTornRecord}
use Rattle.bc_facts.proofs.Torn.{no_chance}
use Rattle.bc_image.specs.Reading.{IsReading, Reading, keys_of}
use Rattle.bc_image.proofs.Unique.{one_reading}
use Rattle.bc_whole.specs.State.{Opening}
use Rattle.bc_known.specs.Acts.{State, Event}
use Rattle.bc_known.specs.Run.{IsRun, run, start}
use Rattle.bc_known.specs.Laws.{IsSound}
use Rattle.bc_origin.specs.Keys.{WasThere, new_keys}
use Rattle.bc_origin.proofs.Law.{inv_at, law_origin}
use Rattle.bc_shows.specs.On.{IsMachineOf}
use Rattle.bc_shows.specs.Laws.{LawKeys}
use Rattle.bc_shows.proofs.Lists.{in_reverse}
use Rattle.bc_shows.proofs.Found.{finds}

module _ (g : Geometry) (w : Opening) (x : parts.State) (next_seq : ℕ) (es : List Event) (machine : IsMachineOf g w) (sound : IsSound w x)
    (course : IsRun w (start w x next_seq) es) (no_torn : NoTornRecord g w.store.image (run w (start w x next_seq) es).whole.store.places)
    (c : Image) (left : MayLeave (run w (start w x next_seq) es).whole.flow.cache c) (r : Reading) (is : IsReading g c r) (key : Key) (i : In key (keys_of r)) where
  abbrev st : State
  st = run w (start w x next_seq) es

  came : (newest : Entry) (older : List Entry) (index : List Key) (n : ℕ) → Finds w.layout st.whole.store c newest older index n → WasThere w key ⊎ In key (new_keys es)
  came newest older index n f =
      let found = finds g w.layout machine.layout c st.whole.store newest older index n f in
      let there = subst (λ (y : Reading). In key (keys_of y)) (sym (one_reading g c found.reading r found.is is)) i in
      law_origin w x next_seq es sound course (no_chance g w.layout machine.layout w.store.image st.whole.store.places no_torn) c left
      newest older f.again.whole.sound.entries key
      (subst (λ (l : List Key). In key l) found.keys (in_reverse key (keys_of found.reading) there))

  all_came : Survives w.layout st.whole.store c → WasThere w key ⊎ In key (new_keys es)
  all_came v = elim v.finds [
    | inl f ↦ came st.whole.store.places.records.newest st.whole.store.places.records.older st.whole.store.places.records.index st.whole.store.durable_chain f
    | inr f ↦ came st.whole.store.places.records.entry
        (live st.whole.store.places.records.entry.last_seq (st.whole.store.places.records.newest ∷ st.whole.store.places.records.older))
        (st.whole.store.places.records.entry.keys ++ st.whole.store.places.records.index) st.whole.store.sealed_chain f.1
  ]

  origin : WasThere w key ⊎ In key (new_keys es)
  origin =
      let inv = inv_at w x next_seq es sound course in
      all_came (survives w.layout w.store st.whole.store inv.store sound.whole.store
      (no_chance g w.layout machine.layout w.store.image st.whole.store.places no_torn) c (subst (λ (d : Content). MayLeave d c) inv.link.device left))

pub law_keys : LawKeys
law_keys g w x next_seq es machine sound course no_torn c left r is key i = origin g w x next_seq es machine sound course no_torn c left r is key i
