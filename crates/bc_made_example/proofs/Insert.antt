-- A run on a pair that was made anew: a seat claims a sector, and drops what keys say of it.
use Rattle.std.proofs.Common.{◌≡◌, inl, inr, ℕ, ◌<◌, ◌≤◌, true, false, List, [], ◌∷◌, ◌++◌, Option}
use Rattle.std.proofs.Common.{Some, None, refl, sym, ap, ◌∙◌, subst, lit<, lit≤, arith}
use Rattle.std.proofs.Common.{if◌then◌else◌}
use Rattle.bc_disk.specs.declared.geometry.Geometry.{Geometry}
use Rattle.bc_key.specs.declared.key.Key.{Key}
use Rattle.bc_extent.specs.LastKey.{last_key}
use Rattle.bc_jset.specs.Entries.{bucket_end}
use Rattle.bc_jset.specs.Records.{entry_kind}
use Rattle.bc_jset.proofs.Records.{entry_codec}
use Rattle.bc_record.proofs.Found.{found_stays}
use Rattle.bc_super.specs.Division.{IsPassThrough}
use Rattle.bc_super.specs.Super.{data_sectors}
use Rattle.bc_super.specs.declared.backing.BackingSuper.{BackingSuper}
use Rattle.bc_super.specs.declared.cache.CacheSuper.{CacheSuper}
use Rattle.bc_books.specs.Enabled.{CanPut, IsLawful}
use Rattle.bc_books.specs.Index.{Pointer, first_hit, latest, names}
use Rattle.bc_books.specs.Index as books
use Rattle.bc_data.specs.Data as flow
use Rattle.bc_data.specs.Data.{index_of}
use Rattle.bc_data.specs.Enabled.{CanInsert, IsBacked, MayInsert}
use Rattle.bc_data.proofs.Asked.{hit_one, place_one}
use Rattle.bc_meta.proofs.Lists.{by_test}
use Rattle.bc_leaves.specs.Keys.{last_said}
use Rattle.bc_leaves.specs.Parts.{Free, IsWithin, Leaf}
use Rattle.bc_leaves.specs.Parts as parts
use Rattle.bc_leaves.proofs.Pend.{front_miss}
use Rattle.bc_leaves.proofs.Said.{spoken_range}
use Rattle.bc_image.specs.Formatted.{IsFormatted}
use Rattle.bc_image.specs.NewPair.{new_pair}
use Rattle.bc_image.specs.Pair.{Pair}
use Rattle.bc_image.specs.Reading.{IsView, View, key_of}
use Rattle.bc_image.specs.Sound.{HasSoundParts, HasSuperblocks}
use Rattle.bc_image.specs.Tree.{Node, node_of}
use Rattle.bc_image.proofs.Examples.{geometry}
use Rattle.bc_image.proofs.Fresh.{fresh_is_sound, fresh_is_view, fresh_view}
use Rattle.bc_image.proofs.NewPair.{backing, cache, is_formatted, superblocks}
use Rattle.bc_image.proofs.Unique.{one_backing, one_view}
use Rattle.bc_facts.specs.Torn.{NoTornRecord}
use Rattle.bc_facts.proofs.Made.{is_layout, made}
use Rattle.bc_whole.specs.State.{Opening}
use Rattle.bc_whole.specs.Together.{SayTheSame, said_of}
use Rattle.bc_whole.proofs.Toy.{gap_key}
use Rattle.bc_known.specs.Acts.{Alone, Event, Keyed, State, after}
use Rattle.bc_known.specs.Run.{IsEnabled, run, start}
use Rattle.bc_ranges.specs.Laws.{IsRunOf}
use Rattle.bc_ranges.specs.Made.{IsNewKey}
use Rattle.bc_opening.specs.Choices.{Choices, MayBeChosen}
use Rattle.bc_opening.specs.Opening.{IsOpenedAs}
use Rattle.bc_opening.specs.Read.{leaf_of, pointer_by}
use Rattle.bc_opening.proofs.Chosen.{law_choices}
use Rattle.bc_opening.proofs.Whole.{law_opening}
use Rattle.bc_reopened.proofs.Law.{law_opened}
use Rattle.bc_made_example.specs.Laws.{HasInsert, LawInsert}

-- ---- the key: it takes sector 5 out of the index

abbrev gap_book : books.Key
gap_book = record { first = 5; count = 1; kind = None; place = 0; version = 0 }

abbrev drops : ℕ → flow.Act
drops slot = flow.Insert flow.DropKeys slot (gap_book ∷ [])

say_same : SayTheSame (gap_key ∷ []) (gap_book ∷ [])
say_same s = by_test 5 s (λ b. last_said (gap_key ∷ []) s ≡ said_of (first_hit gap_book
    (if b then Some 0 else None) None))
    (λ is. subst (λ (s : ℕ). last_said (gap_key ∷ []) s ≡ Some None) is refl)
    (λ ne. front_miss gap_key [] s (λ c. let r = spoken_range gap_key s c in
    let low : 5 ≤ s = r.0 in let high : s < 6 = r.1 in absurd (omega (arith, low, high, ne))))

no_name : (t : ℕ) → names (gap_book ∷ []) t ≡ true → ⊥
no_name t e = cc

no_true : false ≡ true → ⊥
no_true e = cc

new_key : (g : Geometry) (size : ℕ) (key : Key) → key ≡ gap_key → IsNewKey g size key
new_key g size key is = subst (λ (k : Key). IsNewKey g size k) (sym is) (record {
  lies = record {
    ptrs = λ i inside. absurd (omega (arith, inside));
    end = λ some. absurd (omega (arith, some));
  };
  some = lit< tt;
  start = lit≤ tt;
})

-- ---- the pair, opened

module _ (p : Pair) (b : BackingSuper) (c : CacheSuper) (g : Geometry) (f : IsFormatted p b c g)
    (supers : HasSuperblocks b c) where
  abbrev pub view : View
  view = fresh_view p b c g f

  pub view_is : IsView p view
  view_is = fresh_is_view p b c g f supers.initialised.1

  not_through : (d : BackingSuper) → d ≡ b → IsPassThrough d → ⊥
  not_through d same alone =
      let flags = ap (λ (s : BackingSuper). s.flags) same in
      elim supers.state [
        | inl clean ↦ omega (arith, clean, alone.1, flags)
        | inr dirty ↦ omega (arith, dirty, alone.1, flags)
      ]

  pub parts_are : HasSoundParts p view
  parts_are = elim (fresh_is_sound p b c g f supers) [
    | inl alone ↦ absurd (not_through alone.0 (one_backing p alone.0 b alone.1 f.backing) alone.2)
    | inr k ↦ subst (λ (v : View). HasSoundParts p v) (one_view p k.0 view k.1 view_is) k.2
  ]

  -- no sector has a key
  pub no_key : (s : ℕ) → key_of view.reading s ≡ None
  no_key s =
      ap (λ (ks : List Key). last_key (((ks ++ []) ++ []) ++ (f.entry.keys ++ [])) s) f.empty
      ∙ ap (λ (ks : List Key). last_key (ks ++ []) s) f.first_entry.keys

  abbrev the_leaf : Node
  the_leaf = node_of 0 0 f.leaf (f.leaf_set ∷ [])

  module _ (ch : Choices) (may : MayBeChosen view.geometry view.reading ch) (w : Opening)
      (x : parts.State) (o : IsOpenedAs p view (made g) ch w x)
      (room : 5 < data_sectors p.backing_sectors b) where
    abbrev there : (i : ℕ) × (ch.leaf i ≡ Some the_leaf)
    there = may.leaves.all the_leaf (inr (inl refl)) refl

    abbrev slot : ℕ
    slot = there.0

    leaf_is : x.leaves slot ≡ leaf_of g (Some the_leaf) (ch.pending slot)
    leaf_is = o.opening.parts.leaves slot
        ∙ ap (λ (n : Option Node). leaf_of g n (ch.pending slot)) there.1

    slot_is : w.flow.books.leaf 5 ≡ slot
    slot_is =
        let ends = f.leaf_key.ends in
        o.opening.books.leaf 5
        ∙ may.slots slot the_leaf 5 there.1 (lit≤ tt) (omega (arith, ends))

    none_there : w.flow.books.index 5 ≡ None
    none_there = o.opening.books.index 5
        ∙ ap (λ (k : Option Key). pointer_by g f.gens k 5) (no_key 5)

    size_is : 5 < w.flow.books.size
    size_is = subst (λ n. 5 < n) (sym o.opening.books.size_is) room

    abbrev claims : Event
    claims = record { seat = 0; act = Alone (flow.MakeClaim 5 1 true) }

    abbrev inserts : Event
    inserts = record { seat = 0; act = Keyed (drops slot) slot (gap_key ∷ []) }

    module _ (next_seq : ℕ) where
      abbrev st : State
      st = start w x next_seq

      abbrev claimed : State
      claimed = after w st 0 (Alone (flow.MakeClaim 5 1 true))

      claim : IsEnabled w st 0 (Alone (flow.MakeClaim 5 1 true))
      claim = record {
        data_allows = (
          record {
            heard = refl;
            steps = tt;
            can = record {
              none = refl;
              inside = (let size = size_is in omega (arith, size));
              apart = λ k other. inr (λ s mine its. let low = its.0 in let high = its.1 in
                  absurd (omega (arith, low, high)));
            };
          },
          tt,
        );
        asks = refl;
      }

      can_put : CanPut w.flow.books claimed.whole.flow.books.index
          claimed.whole.flow.books.generations.version claimed.whole.flow.books.owner slot
          (gap_book ∷ [])
      can_put = record {
        whole = (
          lit< tt,
          (λ s q e. place_one 5 0 s q
              (λ s q. w.flow.books.bucket q ≡ w.flow.books.bucket 0) refl e),
          tt,
        );
        inside = λ s o h. hit_one 5 None 0 0 s o
            (λ s o. (s < w.flow.books.size) × (claimed.whole.flow.books.index.leaf s ≡ slot))
            (size_is, slot_is) h;
        lawful = λ s o h. hit_one 5 None 0 0 s o
            (λ s o. IsLawful w.flow.books.bucket claimed.whole.flow.books.generations.version
            claimed.whole.flow.books.owner (latest claimed.whole.flow.books.index s) o) tt h;
        named = λ t n. absurd (no_name t n);
      }

      can_drop : CanInsert w.flow claimed.whole.flow 0 flow.DropKeys (gap_book ∷ [])
      can_drop = record {
        using = λ t n. absurd (no_name t n);
        hits = λ s o h. hit_one 5 None 0 0 s o (MayInsert w.flow claimed.whole.flow 0 flow.DropKeys)
            (record {
              exclusive = refl;
              covers = (lit≤ tt, lit< tt);
              is = refl;
              backed = subst (λ (r : Option Pointer). IsBacked r) (sym none_there) tt;
            }) h;
        not_plain = o.opening.devices.plain;
      }

      insert : IsEnabled w claimed 0 (Keyed (drops slot) slot (gap_key ∷ []))
      insert = record {
        data_allows = (record { heard = refl; steps = (can_put, tt); can = can_drop }, tt);
        asks = (
          (refl, say_same),
          ap (λ (l : Leaf). l.role) leaf_is,
          (
            subst (λ (l : Leaf). IsWithin l gap_key) (sym leaf_is)
                (lit≤ tt, (let ends = f.leaf_key.ends in omega (arith, ends))),
            tt,
          ),
        );
      }

      no_torn : NoTornRecord g w.store.image
          (run w st (claims ∷ inserts ∷ [])).whole.store.places
      no_torn = record {
        entries = λ image q at left lt block e whole. inl (
          found_stays (entry_kind g) (entry_codec g) image w.store.image (bucket_end g q) at e
              whole.0 (λ s low high. elim (left s) [ inl same ↦ same | inr n ↦ absurd n ]) whole.1,
          whole.1,
        );
        sets = λ image q left own known stand s whole. absurd (no_true own);
      }

      run_of : IsRunOf p view w x next_seq (claims ∷ inserts ∷ [])
      run_of = record {
        opening = law_opened p view (made g) ch w x (o, may);
        course = (claim, (insert, tt));
        made = (
          tt,
          (
            λ key i. elim i [
              | inl is ↦ new_key g (data_sectors p.backing_sectors b) key is
              | inr n ↦ absurd n
            ],
            tt,
          ),
        );
        no_torn = no_torn;
      }

pub law_insert : LawInsert
law_insert p b c g f supers room =
    let v = view p b c g f supers in
    let is = view_is p b c g f supers in
    let sound = parts_are p b c g f supers in
    let chosen = law_choices p v is sound in
    let opened = law_opening p v (made g) chosen.0 is sound (is_layout g) chosen.1 in
    let o : IsOpenedAs p v (made g) chosen.0 opened.0 opened.1 = record {
      view = is;
      parts = sound;
      is_layout = is_layout g;
      opening = opened.2;
      sound = opened.3;
    } in
    let i : ℕ = slot p b c g f supers chosen.0 chosen.1 opened.0 opened.1 o room in (
      v,
      refl,
      record {
        opening = opened.0;
        held = opened.1;
        first = record { seat = 0; act = Alone (flow.MakeClaim 5 1 true) };
        seat = 0;
        act = drops i;
        slot = i;
        key = gap_key;
        run = λ next_seq. run_of p b c g f supers chosen.0 chosen.1 opened.0 opened.1 o room
            next_seq;
      },
    )

pub has_insert : HasInsert
has_insert =
    let one = law_insert new_pair backing cache (geometry 8 (lit≤ tt)) is_formatted superblocks
    (lit< tt) in
    (one.0, one.2)
