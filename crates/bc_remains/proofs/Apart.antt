-- What the buckets are used for.
use Rattle.std.proofs.Common.{subst, ◌≡◌, ◌≢◌, ◌⊎◌, inl, inr, ℕ, zero, suc, ◌+◌, ◌*◌, ◌/◌, ◌<◌, ◌≤◌, true, List, [], ◌∷◌, length, refl, sym, ap, ◌∙◌, arith, ◌&&◌, nat_le}
use Rattle.std.specs.Prelude.{AllPairs, Contains, map, slice_index_or}
use Rattle.std.proofs.Math.Nat.{div-add-mod}
use Rattle.std.proofs.lemmas.Bool.{cases_lt}
use Rattle.bc_model.specs.Sector.{Image}
use Rattle.bc_disk.specs.declared.geometry.Geometry.{Geometry}
use Rattle.bc_record.specs.Places.{bucket_at}
use Rattle.bc_key.specs.declared.ptr.Ptr.{Ptr}
use Rattle.bc_key.specs.Key.{ptr_at}
use Rattle.bc_prio.specs.Chain.{IsPlace}
use Rattle.bc_meta.specs.Facts.{In}
use Rattle.bc_meta.specs.Entries.{Entry}
use Rattle.bc_meta.specs.Tree.{IsNamed, Other, Owner, Walk, Whole}
use Rattle.bc_meta.specs.Layout.{Layout, image_keys, is_within, node_end, node_sets}
use Rattle.bc_meta.specs.Chain.{Distinct, bytes_of}
use Rattle.bc_meta.specs.Acts.{State}
use Rattle.bc_meta.specs.Laws.{IsSound, Opening, Survives, reached}
use Rattle.bc_meta.proofs.Lists.{by_le}
use Rattle.bc_meta.proofs.Chains.{chain_places}
use Rattle.bc_meta.proofs.Acts as acts
use Rattle.bc_image.specs.Pointers.{PointsInto}
use Rattle.bc_image.specs.Reading.{IsReading, Reading}
use Rattle.bc_image.specs.Tree as tree
use Rattle.bc_image.specs.Uses.{Use, Super, Journal, Priority, Uuid, Node, Data, IsUsedFor}
use Rattle.bc_image.proofs.Unique.{one_reading, one_walk, some_same}
use Rattle.bc_facts.specs.Seen.{bucket_of, word_of}
use Rattle.bc_facts.specs.Layout.{IsLayoutOf}
use Rattle.bc_facts.specs.Reads.{back}
use Rattle.bc_facts.proofs.Stood.{any_in, contains_in, in_all}
use Rattle.bc_facts.proofs.Torn.{no_chance}
use Rattle.bc_remains.specs.Means.{Means}
use Rattle.bc_remains.specs.Apart.{HasApartUses, IsMetadata, LiesWhole}
use Rattle.bc_remains.specs.Laws.{LawApart}
use Rattle.bc_remains.proofs.Next.{means}
use Rattle.bc_remains.proofs.Tree.{Counted, Met, Tree, key_begins, tree_is}

within_is : (w : Layout) (q : ℕ) (o : Owner) → is_within w q o ≡ true → (w.first q ≤ w.begins o) × (node_end w o ≤ w.first q + w.bucket_sectors)
within_is w q o =
    by_le (w.first q) (w.begins o) (λ b. (b && nat_le (node_end w o) (w.first q + w.bucket_sectors)) ≡ true → (w.first q ≤ w.begins o) × (node_end w o ≤ w.first q + w.bucket_sectors))
    (λ le. by_le (node_end w o) (w.first q + w.bucket_sectors) (λ b. b ≡ true → (w.first q ≤ w.begins o) × (node_end w o ≤ w.first q + w.bucket_sectors)) (λ le2 _. (le, le2)) (λ _ h. absurd (cc)))
    (λ _ h. absurd (cc))

in_back : (g : Geometry) (qs : List ℕ) (b : ℕ) → In b (map (back g) qs) → (q : ℕ) × In q qs × (b ≡ back g q)
in_back g [] b i = absurd i
in_back g (q ∷ qs) b (inl e) = (q, inl refl, e)
in_back g (q ∷ qs) b (inr i) = let k = in_back g qs b i in (k.0, inr k.1, k.2)

index_back : (g : Geometry) (qs : List ℕ) (k d : ℕ) → k < length (map (back g) qs) → (q : ℕ) × In q qs × (slice_index_or (map (back g) qs) k d ≡ back g q)
index_back g [] k d lt = absurd (omega arith)
index_back g (q ∷ qs) zero d lt = (q, inl refl, refl)
index_back g (q ∷ qs) (suc k) d lt = let x = index_back g qs k d (omega arith) in (x.0, inr x.1, x.2)

back_apart : (g : Geometry) (qs : List ℕ) → Distinct qs → AllPairs (λ a b. a ≢ b) (map (back g) qs)
back_apart g [] h i j d lt inside = absurd (omega arith)
back_apart g (q ∷ qs) h i zero d lt inside = absurd (omega arith)
back_apart g (q ∷ qs) h zero (suc j) d lt inside =
    λ same. (let k = index_back g qs j d (omega arith) in
    h.0 (subst (λ (n : ℕ). In n qs) (let e = k.2 in let x : k.0 ≡ q = omega (arith, same, e) in x) k.1))
back_apart g (q ∷ qs) h (suc i) (suc j) d lt inside = back_apart g qs h.1 i j d (omega arith) (omega arith)

back_long : (g : Geometry) (qs : List ℕ) → length (map (back g) qs) ≡ length qs
back_long g [] = refl
back_long g (q ∷ qs) = ap suc (back_long g qs)

module _ (g : Geometry) (w : Layout) (layout : IsLayoutOf g w) (o : Opening) (sound : IsSound w o) (r : Reading) (is : IsReading g o.image r)
    (said : Means g r o.newest o.older (image_keys w o.owners o.image o.newest o.older) o.chain o.gens) where
  the_tree : Tree g w layout o.owners o.image r.newest.item.level 0 r.newest.item.root
  the_tree =
      let j = layout.journal in
      let current = sound.whole.current in
      tree_is g w layout o.owners o.image r.newest.item.level 0 r.newest.item.root
      (subst (λ (y : Entry). IsNamed o.owners (node_sets w o.owners o.image) y.level y.root y.word) (sym said.newest_is) sound.named)
      (subst (λ (y : Entry). Walk Whole (node_sets w o.owners o.image) y.level y.root) (sym said.newest_is) sound.whole.sound.whole)
      (subst (λ (y : Entry). Walk Counted (node_sets w o.owners o.image) y.level y.root) (sym said.newest_is) (sound.keeps 0 (sound.outside 0 (inl (omega arith)))))

  nodes_are : the_tree.nodes ≡ r.nodes
  nodes_are = one_walk g o.image r.newest.item.level 0 r.newest.item.root the_tree.nodes r.nodes the_tree.walk is.nodes

  met : (n : tree.Node) → In n r.nodes → Met g w layout o.owners o.image n
  met n i = the_tree.met n (subst (λ (l : List tree.Node). In n l) (sym nodes_are) i)

  -- no node lies in a bucket that is unused
  used : (n : tree.Node) → In n r.nodes → o.unused (bucket_of g n.key) ≡ true → ⊥
  used n i free =
      the_tree.each (bucket_of g n.key)
      (subst (λ (y : Entry). Walk (Other (bucket_of g n.key)) (node_sets w o.owners o.image) y.level y.root) (sym said.newest_is) (sound.keeps (bucket_of g n.key) free))
      n (subst (λ (l : List tree.Node). In n l) (sym nodes_are) i) refl

  node_place : (n : tree.Node) → In n r.nodes → IsPlace g (bucket_at g (ptr_at n.key 0).offset)
  node_place n i =
      let j = layout.journal in
      let b = layout.buckets in
      let current = sound.whole.current in (
        elim (cases_lt (bucket_of g n.key) w.journal) [ inl lt ↦ absurd (used n i (sound.outside (bucket_of g n.key) (inl lt))) | inr ge ↦ omega (arith, ge, j, current) ],
        elim (cases_lt (bucket_of g n.key) w.buckets) [ inl lt ↦ omega (arith, lt, b) | inr ge ↦ absurd (used n i (sound.outside (bucket_of g n.key) (inr ge))) ],
      )

  lies_whole : (n : tree.Node) → In n r.nodes → LiesWhole g n
  lies_whole n i =
      let m = met n i in
      let place = node_place n i in
      let low = place.0 in
      let k = within_is w (bucket_of g n.key) (record { word = word_of n.key; leaf = m.leaf }) m.within in
      let begins : w.begins (record { word = word_of n.key; leaf = m.leaf }) ≡ (ptr_at n.key 0).offset = layout.begins (record { word = word_of n.key; leaf = m.leaf }) ∙ key_begins n.key in
      let there : back g (bucket_of g n.key) ≡ (ptr_at n.key 0).offset / g.bucket = omega (arith, low) in
      let first : w.first (bucket_of g n.key) ≡ g.bucket * ((ptr_at n.key 0).offset / g.bucket) = layout.first (bucket_of g n.key) ∙ ap (λ x. g.bucket * x) there in
      let cut = div-add-mod (ptr_at n.key 0).offset g.bucket in
      let sectors = layout.bucket_sectors in
      let node = layout.node_sectors in
      let high = k.1 in
      record { bucket = place; whole = omega (arith, high, begins, first, cut, sectors, node) }

  -- a bucket of the chain
  chain_bucket : (b : ℕ) → Contains r.gens.chain b → (q : ℕ) × (b ≡ back g q) × (w.journal ≤ q) × (q < w.buckets) × (o.unused q ≡ true)
  chain_bucket b c =
      let k = in_back g o.chain b (subst (λ (l : List ℕ). In b l) said.chain (contains_in r.gens.chain b c)) in
      let p = (chain_places w o.image w.chain_sets 0 o.newest.prio (record { buckets = o.chain; gens = bytes_of o.gens }) sound.chain).0 k.0 k.1 in
      (k.0, k.2, p.0, p.1, sound.free k.0 k.1)

  -- a bucket of a node
  node_bucket : (b : ℕ) → IsUsedFor g r Node b → (n : tree.Node) × In n r.nodes × (b ≡ bucket_at g (ptr_at n.key 0).offset)
  node_bucket b use_ =
      let k = any_in (λ (n : tree.Node). PointsInto g n.key b) r.nodes use_ in
      let ptr = some_same k.2.0 (ptr_at k.0.key 0) (sym k.2.1 ∙ (met k.0 k.1).points) in
      (k.0, k.1, sym k.2.2 ∙ ap (λ (x : Ptr). bucket_at g x.offset) ptr)

  high : (b : ℕ) (a : Use) → (a ≡ Priority) ⊎ (a ≡ Node) → IsUsedFor g r a b → g.first_bucket + g.journal ≤ b
  high b a (inl e) use_ = let k = chain_bucket b (subst (λ (x : Use). IsUsedFor g r x b) e use_) in let at = k.1 in let le = k.2 in let j = layout.journal in omega (arith, at, le, j)
  high b a (inr e) use_ = let k = node_bucket b (subst (λ (x : Use). IsUsedFor g r x b) e use_) in let p = (node_place k.0 k.1).0 in let at = k.2 in omega (arith, p, at)

  no_both : (b : ℕ) → IsUsedFor g r Priority b → IsUsedFor g r Node b → ⊥
  no_both b p n =
      let c = chain_bucket b p in
      let k = node_bucket b n in
      let at = c.1 in
      let there = k.2 in
      used k.0 k.1 (subst (λ q. o.unused q ≡ true) (let e : c.0 ≡ bucket_of g k.0.key = omega (arith, at, there) in e) c.4)

  one : (b : ℕ) (x y : Use) → IsMetadata x → IsMetadata y → IsUsedFor g r x b → IsUsedFor g r y b → x ≡ y
  one b Super Super mx my p q = refl
  one b Super Journal mx my p q = let low = q.0 in absurd (omega (arith, p, low))
  one b Super Priority mx my p q = let h = high b Priority (inl refl) q in absurd (omega (arith, p, h))
  one b Super Node mx my p q = let h = high b Node (inr refl) q in absurd (omega (arith, p, h))
  one b Journal Super mx my p q = let low = p.0 in absurd (omega (arith, q, low))
  one b Journal Journal mx my p q = refl
  one b Journal Priority mx my p q = let h = high b Priority (inl refl) q in let lt = p.1 in absurd (omega (arith, lt, h))
  one b Journal Node mx my p q = let h = high b Node (inr refl) q in let lt = p.1 in absurd (omega (arith, lt, h))
  one b Priority Super mx my p q = let h = high b Priority (inl refl) p in absurd (omega (arith, q, h))
  one b Priority Journal mx my p q = let h = high b Priority (inl refl) p in let lt = q.1 in absurd (omega (arith, lt, h))
  one b Priority Priority mx my p q = refl
  one b Priority Node mx my p q = absurd (no_both b p q)
  one b Node Super mx my p q = let h = high b Node (inr refl) p in absurd (omega (arith, q, h))
  one b Node Journal mx my p q = let h = high b Node (inr refl) p in let lt = q.1 in absurd (omega (arith, lt, h))
  one b Node Priority mx my p q = absurd (no_both b q p)
  one b Node Node mx my p q = refl
  one b Uuid y mx my p q = absurd mx
  one b Data y mx my p q = absurd mx
  one b x Uuid mx my p q = absurd my
  one b x Data mx my p q = absurd my

  none : (q : ℕ) → (o.unused q ≡ true) × (In q o.chain → ⊥) × (w.journal ≤ q) × (q < w.buckets) → (what : Use) → IsMetadata what → IsUsedFor g r what (back g q) → ⊥
  none q free Super m p = absurd (omega (arith, p))
  none q free Journal m p = let lt = p.1 in let le = free.2 in let j = layout.journal in absurd (omega (arith, lt, le, j))
  none q free Priority m p =
      let k = in_back g o.chain (back g q) (subst (λ (l : List ℕ). In (back g q) l) said.chain (contains_in r.gens.chain (back g q) p)) in
      let at = k.2 in
      free.1 (subst (λ n. In n o.chain) (let e : k.0 ≡ q = omega (arith, at) in e) k.1)
  none q free Node m p =
      let k = node_bucket (back g q) p in
      let at = k.2 in
      used k.0 k.1 (subst (λ n. o.unused n ≡ true) (let e : q ≡ bucket_of g k.0.key = omega (arith, at) in e) free.0)
  none q free Uuid m p = m
  none q free Data m p = m

  pub apart : HasApartUses g r
  apart = record {
    one = one;
    nodes = in_all (LiesWhole g) r.nodes lies_whole;
    spare = map (back g) o.spare;
    different = back_apart g o.spare sound.spare_distinct;
    each = in_all (λ s. (s < g.nbuckets) × ((what : Use) → IsMetadata what → IsUsedFor g r what s → ⊥)) (map (back g) o.spare)
        (λ s i. (let k = in_back g o.spare s i in
        let free = sound.spare k.0 k.1 in
        let lt = free.3 in
        let at = k.2 in
        let b = layout.buckets in
        (omega (arith, at, lt, b), (λ what m p. none k.0 free what m (subst (λ n. IsUsedFor g r what n) at p)))));
    enough = (let a = back_long g o.spare in let b = sound.spare_count in let c = layout.chain_sets in omega (arith, a, b, c));
  }

module _ (g : Geometry) (w : Layout) (layout : IsLayoutOf g w) where
  pub apart_of : (o : Opening) → IsSound w o → (r : Reading) → IsReading g o.image r → HasApartUses g r
  apart_of o sound r is =
      let m = means g w layout o sound in
      let one = one_reading g o.image m.0 r m.1 is in
      apart g w layout o sound r is (subst (λ (x : Reading). Means g x o.newest o.older (image_keys w o.owners o.image o.newest o.older) o.chain o.gens) one m.2)

  apart_at : (image : Image) (o : Opening) → o.image ≡ image → IsSound w o → (r : Reading) → IsReading g image r → HasApartUses g r
  apart_at image o same sound r is = apart_of o sound r (subst (λ (i : Image). IsReading g i r) (sym same) is)

  left_apart : (image : Image) (st : State) → Survives w st image → (r : Reading) → IsReading g image r → HasApartUses g r
  left_apart image st s r is = elim s.finds [
    | inl f ↦ apart_at image f.opening f.image_is f.sound r is
    | inr f ↦ apart_at image f.1.opening f.1.image_is f.1.sound r is
  ]

pub law_apart : LawApart
law_apart g w o acts_ run image left r is =
    left_apart g w run.layout image (reached w o acts_)
    (acts.law_crash w o acts_ run.sound run.run (no_chance g w run.layout o.image (reached w o acts_).places run.no_torn) image left) r is
