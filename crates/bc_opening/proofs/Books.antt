-- The books of a sound pair are sound.
use Rattle.std.proofs.Common.{◌≡◌, ◌≢◌, ◌⊎◌, inl, inr, ℕ, ◌<◌, ◌≤◌, Bool, true, false, List, length, Some, None, refl, sym, ap, ◌∙◌, arith}
use Rattle.std.specs.Prelude.{◌↔◌, map}
use Rattle.std.proofs.lemmas.List.{length-map}
use Rattle.bc_model.specs.Sector.{Image}
use Rattle.bc_disk.specs.declared.geometry.Geometry.{Geometry}
use Rattle.bc_key.specs.Key.{ptr_at}
use Rattle.bc_record.specs.Places.{bucket_at}
use Rattle.bc_prio.specs.Chain.{IsPlace}
use Rattle.bc_disk.specs.Chain.{sets_in_chain}
use Rattle.bc_books.specs.Index.{Pointer}
use Rattle.bc_books.specs.Marks.{Metadata}
use Rattle.bc_books.specs.Shelves.{Priorities}
use Rattle.bc_books.specs.Books.{IsSound, Setup, is_listed, unused}
use Rattle.bc_meta.specs.Chain.{Distinct}
use Rattle.bc_leaves.specs.After.{has}
use Rattle.bc_leaves.proofs.Chains.{has_in}
use Rattle.bc_image.specs.Reading.{IsReading, Reading, key_of}
use Rattle.bc_image.specs.Sound.{HasOneUse, HasPointers, IsWithinWindow}
use Rattle.bc_image.specs.Uses.{Data, IsUsedFor, Journal, Node, Priority, Super, Use, Uuid}
use Rattle.bc_facts.specs.Reads.{back}
use Rattle.bc_facts.specs.Seen.{counted}
use Rattle.bc_facts.proofs.Finder.{no_one}
use Rattle.bc_opening.specs.Read.{IsFixed, bucket_by, pointer_by, version_at}
use Rattle.bc_opening.specs.Choices.{Choices, IsMetadata, MayBeChosen}
use Rattle.bc_opening.specs.Opening.{AreBooksOf}
use Rattle.bc_opening.proofs.Uses as use_
use Rattle.bc_opening.proofs.Uses.{dirty_of, four_false, listed_some, many, not_true}
use Rattle.bc_opening.proofs.Pointers.{as_new, at_sector, data_place, lies_live, no_age}

-- ---- the books

module _ (g : Geometry) (image : Image) (size : ℕ) (r : Reading) (is : IsReading g image r) (pointers : HasPointers g size r) (uses : HasOneUse g r) (window : IsWithinWindow g r)
    (c : Choices) (chosen : MayBeChosen g r c) (chain : List ℕ) (chain_are : r.gens.chain ≡ map (back g) chain) (distinct : Distinct chain) where
  abbrev pub is_fixed : ℕ → Bool
  is_fixed = use_.is_fixed g image size r is pointers uses chain chain_are

  abbrev pub node_buckets : List ℕ
  node_buckets = use_.node_buckets g image size r is pointers uses chain chain_are

  abbrev pub setup : Setup
  setup = record {
    bucket = λ t. counted g (bucket_at g t);
    size = size;
    sets = sets_in_chain g;
    fixed = is_fixed;
    index = λ s. pointer_by g r.gens (key_of r s) s;
    leaf = c.slot;
    version = version_at g r.gens;
    last_gc = c.last_gc;
    mark = c.mark;
    listed = c.listed;
    node = has node_buckets;
    chain = has chain;
  }

  -- ---- what each bucket is for

  pub node_is : (q : ℕ) → (has node_buckets q ≡ true) ↔ IsUsedFor g r Node (back g q)
  node_is = use_.node_is g image size r is pointers uses chain chain_are

  pub chain_is : (q : ℕ) → (has chain q ≡ true) ↔ IsUsedFor g r Priority (back g q)
  chain_is = use_.chain_is g image size r is pointers uses chain chain_are

  pub fixed_is : (q : ℕ) → (is_fixed q ≡ true) ↔ IsFixed g r q
  fixed_is = use_.fixed_is g image size r is pointers uses chain chain_are

  in_journal : (q : ℕ) → q < g.journal → IsUsedFor g r Journal (back g q)
  in_journal = use_.in_journal g image size r is pointers uses chain chain_are

  other_use : (q : ℕ) (what other : Use) → IsUsedFor g r what (back g q) → IsUsedFor g r other (back g q) → what ≢ other → ⊥
  other_use = use_.other_use g image size r is pointers uses chain chain_are

  chain_place : (q : ℕ) → IsUsedFor g r Priority (back g q) → IsPlace g (back g q)
  chain_place = use_.chain_place g image size r is pointers uses chain chain_are

  pub node_place : (q : ℕ) → IsUsedFor g r Node (back g q) → IsPlace g (back g q)
  node_place = use_.node_place g image size r is pointers uses chain chain_are

  -- a bucket with a use is on no list
  pub not_listed : (q : ℕ) (what : Use) → IsUsedFor g r what (back g q) → c.listed q ≡ None
  not_listed q what used = no_one (c.listed q) (λ p e. (chosen.listed q p e).1 what used)

  -- ---- they are sound

  fixed_has : (q : ℕ) → IsFixed g r q → (c.listed q ≡ None) × (has chain q ≡ false) × (has node_buckets q ≡ false) × (c.mark q ≡ Metadata)
  fixed_has q (inl lt) =
      let here = in_journal q lt in (
        not_listed q Journal here,
        not_true (has chain q) (λ h. other_use q Journal Priority here ((chain_is q).0 h) (λ e. cc)),
        not_true (has node_buckets q) (λ h. other_use q Journal Node here ((node_is q).0 h) (λ e. cc)),
        chosen.marks.metadata q (inl (Journal, (λ e. cc), here)),
      )
  fixed_has q (inr (inl here)) = (
    not_listed q Uuid here,
    not_true (has chain q) (λ h. other_use q Uuid Priority here ((chain_is q).0 h) (λ e. cc)),
    not_true (has node_buckets q) (λ h. other_use q Uuid Node here ((node_is q).0 h) (λ e. cc)),
    chosen.marks.metadata q (inl (Uuid, (λ e. cc), here)),
  )
  fixed_has q (inr (inr high)) = (
    no_one (c.listed q) (λ p e. (let low = (chosen.listed q p e).0 in omega (arith, low, high))),
    not_true (has chain q) (λ h. (let low = (chain_place q ((chain_is q).0 h)).1 in omega (arith, low, high))),
    not_true (has node_buckets q) (λ h. (let low = (node_place q ((node_is q).0 h)).1 in omega (arith, low, high))),
    chosen.marks.metadata q (inr high),
  )

  metadata_is : (q : ℕ) → is_fixed q ≡ false → has node_buckets q ≡ false → has chain q ≡ false → IsMetadata g r (back g q) ⊎ (g.nbuckets ≤ back g q) → ⊥
  metadata_is q nf nn nc (inr high) = two (is_fixed q) ((fixed_is q).1 (inr (inr high))) nf
    where
      two : (t : Bool) → t ≡ true → t ≡ false → ⊥
      two t x y = cc
  metadata_is q nf nn nc (inl k) = go k.0 k.1 k.2
    where
      two : (t : Bool) → t ≡ true → t ≡ false → ⊥
      two t x y = cc

      go : (what : Use) → what ≢ Data → IsUsedFor g r what (back g q) → ⊥
      go Super ne used = omega (arith, used)
      go Journal ne used = let high = used.1 in two (is_fixed q) ((fixed_is q).1 (inl (omega (arith, high)))) nf
      go Priority ne used = two (has chain q) ((chain_is q).1 used) nc
      go Uuid ne used = two (is_fixed q) ((fixed_is q).1 (inr (inl used))) nf
      go Node ne used = two (has node_buckets q) ((node_is q).1 used) nn
      go Data ne used = ne refl

  -- a bucket with data is for nothing else
  data_used : (q : ℕ) → IsUsedFor g r Data (back g q) → unused setup q ≡ false
  data_used q used =
      four_false (is_listed (c.listed q)) (has chain q) (is_fixed q) (has node_buckets q)
      (λ h. (let p = listed_some (c.listed q) h in (chosen.listed q p.0 p.1).1 Data used))
      (λ h. other_use q Data Priority used ((chain_is q).0 h) (λ e. cc))
      (λ h. fixed ((fixed_is q).0 h))
      (λ h. other_use q Data Node used ((node_is q).0 h) (λ e. cc))
    where
      fixed : IsFixed g r q → ⊥
      fixed (inl lt) = other_use q Data Journal used (in_journal q lt) (λ e. cc)
      fixed (inr (inl there)) = other_use q Data Uuid used there (λ e. cc)
      fixed (inr (inr high)) = let low = (data_place g size r pointers is.gens.records used.0 used.1 (back g q) used.2).1 in omega (arith, low, high)

  pub sound : IsSound setup
  sound = record {
    window = λ q. (chosen.oldest.most q, chosen.oldest.window q);
    inside = λ s x e.
        let a = at_sector g size r pointers is.gens.records s x e in
        let below = a.covers.1 in
        let most = a.of_data.end a.some in
        let there = ap c.last_gc a.bucket in
        let own = ap (version_at g r.gens) a.bucket in
        let version = ap (λ (y : Pointer). y.version) a.is in
        let oldest = chosen.oldest.keys s a.key (ptr_at a.key 0) a.at a.points in
        (omega (arith, below, most), omega (arith, there, version, oldest), omega (arith, own, version));
    dirty = λ s x e kind.
        let a = at_sector g size r pointers is.gens.records s x e in
        let dirty = dirty_of a.key.dirty (ap (λ (y : Pointer). y.kind) a.is ∙ kind) in
        let none = (window s a.key (ptr_at a.key 0) a.at a.points).1 dirty in (
          ap c.mark a.bucket ∙ chosen.marks.dirty (bucket_by g (ptr_at a.key 0)) (s, a.key, lies_live g size r pointers is.gens.records s x a none, dirty),
          ap (version_at g r.gens) a.bucket ∙ as_new g size r pointers is.gens.records (ptr_at a.key 0) a.key.size a.lies none ∙ ap (λ (y : Pointer). y.version) a.is,
        );
    spare = λ s x e same.
        let a = at_sector g size r pointers is.gens.records s x e in
        let none = no_age g size r pointers is.gens.records (ptr_at a.key 0) a.key.size a.lies (sym (ap (version_at g r.gens) a.bucket) ∙ same ∙ sym (ap (λ (y : Pointer). y.version) a.is)) in
        ap (unused setup) a.bucket ∙ data_used (bucket_by g (ptr_at a.key 0)) (s, a.key, lies_live g size r pointers is.gens.records s x a none);
    fixed = λ q h. fixed_has q ((fixed_is q).0 h);
    node = λ q h.
        let here = (node_is q).0 h in
        (not_listed q Node here, not_true (has chain q) (λ k. other_use q Node Priority here ((chain_is q).0 k) (λ e. cc)), chosen.marks.metadata q (inl (Node, (λ e. cc), here)));
    chain = λ q h.
        let here = (chain_is q).0 h in
        (not_listed q Priority here, chosen.marks.metadata q (inl (Priority, (λ e. cc), here)));
    plain = λ q nf nn nc m. metadata_is q nf nn nc (chosen.marks.only q m);
    sets = many (sets_in_chain g) (λ q. has chain q ≡ true) chain distinct (sym (length-map chain (back g)) ∙ sym (ap length chain_are) ∙ is.gens.count) (λ q i. has_in chain q i);
    next = many (sets_in_chain g) (λ q. c.listed q ≡ Some Priorities) c.kept chosen.distinct chosen.enough chosen.kept;
  }

  pub are : AreBooksOf g size r c setup
  are = record {
    bucket = λ t. refl;
    size_is = refl;
    sets = refl;
    fixed = fixed_is;
    node = node_is;
    chain = chain_is;
    index = λ s. refl;
    version = λ q. refl;
    leaf = λ s. refl;
    last_gc = λ q. refl;
    mark = λ q. refl;
    listed = λ q. refl;
  }
