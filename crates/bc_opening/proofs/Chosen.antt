-- There always is something that may be chosen.
use Rattle.std.proofs.Common.{subst, ◌≡◌, ◌≢◌, ◌⊎◌, inl, inr, ℕ, zero, suc, ◌+◌, ◌-◌, ◌<◌, ◌≤◌, Bool, true, false, List, [], ◌∷◌, length, Option, Some, None, refl, sym, ap, ◌∙◌, arith, if◌then◌else◌, nat_lt, nat_le, ◌==◌, ◌||◌, ◌&&◌}
use Rattle.std.specs.Prelude.{◌↔◌, AllPairs}
use Rattle.std.proofs.lemmas.List.Elements.{All-contains}
use Rattle.bc_disk.specs.declared.geometry.Geometry.{Geometry}
use Rattle.bc_key.specs.declared.key.Key.{Key}
use Rattle.bc_key.specs.declared.ptr.Ptr.{Ptr}
use Rattle.bc_key.specs.Generation.{behind}
use Rattle.bc_key.specs.Key.{place_at, pointer_of, ptr_at}
use Rattle.bc_record.specs.Places.{bucket_at}
use Rattle.bc_extent.proofs.LastKeys.{last_key_found}
use Rattle.bc_disk.specs.Chain.{sets_in_chain}
use Rattle.bc_super.specs.Super.{data_sectors}
use Rattle.bc_books.specs.Index.{is_dirty}
use Rattle.bc_books.specs.Marks.{Dirtied, Mark, Metadata, Unmarked, any, dirty_in}
use Rattle.bc_books.specs.Shelves.{Priorities, Purpose}
use Rattle.bc_meta.specs.Chain.{Distinct}
use Rattle.bc_meta.specs.Entries.{CountDown, Entry}
use Rattle.bc_meta.specs.Facts.{In}
use Rattle.bc_meta.specs.Layout.{Layout, ring_entries}
use Rattle.bc_leaves.specs.After.{has}
use Rattle.bc_leaves.specs.Parts.{Pending}
use Rattle.bc_leaves.proofs.Chains.{has_in, in_has}
use Rattle.bc_leaves_runs.specs.Reopen.{Replays}
use Rattle.bc_leaves_runs.proofs.Replay.{law_replays}
use Rattle.bc_image.specs.Pair.{Pair}
use Rattle.bc_image.specs.Pointers.{LiesInData, PointsInto}
use Rattle.bc_image.specs.Reading.{IsView, Reading, View, key_of, keys_of}
use Rattle.bc_image.specs.Sound.{HasSoundParts, IsDataKey, IsNodeKey, KeepsRange}
use Rattle.bc_image.specs.Tree.{Node}
use Rattle.bc_image.specs.Uses.{Data, IsLiveDirty, IsSpare, IsUsedFor, Journal, Node as NodeUse, Priority, Super, Use, Uuid}
use Rattle.bc_image.proofs.Unique.{some_same}
use Rattle.bc_facts.specs.Reads.{back}
use Rattle.bc_facts.specs.Seen.{bucket_of, counted, seen_entries, seen_entry}
use Rattle.bc_facts.proofs.Made.{law_layout}
use Rattle.bc_facts.proofs.Place.{by_lt}
use Rattle.bc_facts.proofs.Stood.{all_in}
use Rattle.bc_remains.specs.Laws.{IsOpened}
use Rattle.bc_remains.proofs.Open.{law_opened}
use Rattle.bc_opening.specs.Read.{IsFixed, bucket_by, is_leaf, kind_of, pointed, pointer_by, version_at, version_of}
use Rattle.bc_opening.specs.Choices.{AreInSlots, AreMarks, AreOldest, Choices, IsInner, IsLeaf, IsMetadata, MayBeChosen}
use Rattle.bc_opening.specs.Laws.{LawChoices}
use Rattle.bc_opening.proofs.Nodes as nodes
use Rattle.bc_opening.proofs.Pointers.{age_is, data_place, live_counts, pointer_at, some_points}
use Rattle.bc_opening.proofs.Uses as use_
use Rattle.bc_opening.proofs.Uses.{eq_tells, le_tells, lt_tells, not_true, or_behind, or_cases, or_front, points_into}

-- ---- a list by places

abbrev nth : {A : Type 0} → List A → ℕ → Option A
nth [] i = None
nth (x ∷ xs) zero = Some x
nth (x ∷ xs) (suc i) = nth xs i

nth_in : {A : Type 0} (xs : List A) (i : ℕ) (x : A) → nth xs i ≡ Some x → In x xs
nth_in [] i x e = absurd (cc)
nth_in (y ∷ ys) zero x e = inl (cc)
nth_in (y ∷ ys) (suc i) x e = inr (nth_in ys i x e)

in_nth : {A : Type 0} (xs : List A) (x : A) → In x xs → (i : ℕ) × (nth xs i ≡ Some x)
in_nth [] x i = absurd i
in_nth (y ∷ ys) x (inl e) = (0, ap Some (sym e))
in_nth (y ∷ ys) x (inr i) = let k = in_nth ys x i in (suc k.0, k.1)

nth_once : {A : Type 0} (R : A → A → Type 0) (xs : List A) → AllPairs R xs → (x : A) → (R x x → ⊥) → (i k : ℕ) → nth xs i ≡ Some x → nth xs k ≡ Some x → i ≡ k
nth_once R [] pairs x never i k a b = absurd (cc)
nth_once R (y ∷ ys) pairs x never zero zero a b = refl
nth_once R (y ∷ ys) pairs x never zero (suc k) a b = absurd (never (first R y ys x pairs a (nth_in ys k x b)))
  where
    first : {A : Type 0} (R : A → A → Type 0) (y : A) (ys : List A) (x : A) → AllPairs R (y ∷ ys) → Some y ≡ Some x → In x ys → R x x
    first R y ys x pairs e i = subst (λ t. R t x) (some_same y x e) (all_in (λ t. R y t) ys x (λ j d lt. pairs 0 (suc j) d (omega arith) (omega (arith, lt))) i)
nth_once R (y ∷ ys) pairs x never (suc i) zero a b = absurd (never (first R y ys x pairs b (nth_in ys i x a)))
  where
    first : {A : Type 0} (R : A → A → Type 0) (y : A) (ys : List A) (x : A) → AllPairs R (y ∷ ys) → Some y ≡ Some x → In x ys → R x x
    first R y ys x pairs e i = subst (λ t. R t x) (some_same y x e) (all_in (λ t. R y t) ys x (λ j d lt. pairs 0 (suc j) d (omega arith) (omega (arith, lt))) i)
nth_once R (y ∷ ys) pairs x never (suc i) (suc k) a b = ap suc (nth_once R ys (λ j m d lt inside. pairs (suc j) (suc m) d (omega (arith, lt)) (omega (arith, inside))) x never i k a b)

-- ---- slots

abbrev of_kind : (ℕ → Bool) → Option Node → Option Node
of_kind test None = None
of_kind test (Some n) = if test n.level then Some n else None

of_kind_is : (test : ℕ → Bool) (o : Option Node) (n : Node) → of_kind test o ≡ Some n → (o ≡ Some n) × (test n.level ≡ true)
of_kind_is test None n e = absurd (cc)
of_kind_is test (Some m) n e = go (test m.level) refl e
  where
    go : (b : Bool) → test m.level ≡ b → (if b then Some m else None) ≡ Some n → (Some m ≡ Some n) × (test n.level ≡ true)
    go true t h = (h, subst (λ (x : Node). test x.level ≡ true) (some_same m n h) t)
    go false t h = absurd (cc)

in_slots : (ns : List Node) (of : ℕ → Type 0) (test : ℕ → Bool) → ((l : ℕ) → (test l ≡ true) ↔ of l) → ((i k : ℕ) (n : Node) → nth ns i ≡ Some n → nth ns k ≡ Some n → i ≡ k)
    → AreInSlots ns of (λ i. of_kind test (nth ns i))
in_slots ns of test tells once_ = record {
  is_node = λ i n e. (let k = of_kind_is test (nth ns i) n e in (nth_in ns i n k.0, (tells n.level).0 k.1));
  all = λ n i level. (let k = in_nth ns n i in (k.0, ap (of_kind test) k.1 ∙ ap (λ (b : Bool). if b then Some n else None) ((tells n.level).1 level)));
  once = λ i k n a b. once_ i k n (of_kind_is test (nth ns i) n a).0 (of_kind_is test (nth ns k) n b).0;
}

leaf_tells : (l : ℕ) → (is_leaf l ≡ true) ↔ IsLeaf l
leaf_tells zero = ((λ e. refl), (λ e. refl))
leaf_tells (suc l) = ((λ e. absurd (cc)), (λ e. absurd (omega (arith, e))))

inner_tells : (l : ℕ) → (nat_lt 0 l ≡ true) ↔ IsInner l
inner_tells l = lt_tells 0 l

-- ---- the leaf of a sector

abbrev has_at : Node → ℕ → Bool
has_at n s = is_leaf n.level && (nat_le n.from s && nat_lt s n.key.end)

and_both : (a b : Bool) → (a && b) ≡ true → (a ≡ true) × (b ≡ true)
and_both true b e = (refl, e)
and_both false b e = absurd (cc)

both_and : (a b : Bool) → a ≡ true → b ≡ true → (a && b) ≡ true
both_and true b e f = f
both_and false b e f = absurd (cc)

abbrev find_at : List Node → ℕ → ℕ → ℕ
find_at [] i s = i
find_at (n ∷ ns) i s = if has_at n s then i else find_at ns (suc i) s

record FoundAt (ns : List Node) (i s : ℕ) : Type 0 where
  at : ℕ
  node : Node
  is : find_at ns i s ≡ i + at
  here : nth ns at ≡ Some node
  has_it : has_at node s ≡ true

find_is : (ns : List Node) (i s k : ℕ) (n : Node) → nth ns k ≡ Some n → has_at n s ≡ true → FoundAt ns i s
find_is [] i s k n e has_it = absurd (cc)
find_is (y ∷ ys) i s k n e has_it = go (has_at y s) refl k e (λ j h. find_is ys (suc i) s j n h has_it)
  where
    two : (b : Bool) → b ≡ true → b ≡ false → ⊥
    two b x y = cc

    go : (b : Bool) → has_at y s ≡ b → (k : ℕ) → nth (y ∷ ys) k ≡ Some n → ((j : ℕ) → nth ys j ≡ Some n → FoundAt ys (suc i) s) → FoundAt (y ∷ ys) i s
    go true t k e ih = record { at = 0; node = y; is = ap (λ (b : Bool). if b then i else find_at ys (suc i) s) t ∙ (let z : i ≡ i + 0 = omega arith in z); here = refl; has_it = t }
    go false t zero e ih = absurd (two (has_at y s) (subst (λ (m : Node). has_at m s ≡ true) (sym (some_same y n e)) has_it) t)
    go false t (suc k) e ih =
        let f = ih k e in
        let is = f.is in
        record { at = suc f.at; node = f.node; is = ap (λ (b : Bool). if b then i else find_at ys (suc i) s) t ∙ (let z : find_at ys (suc i) s ≡ i + suc f.at = omega (arith, is) in z); here = f.here; has_it = f.has_it }

-- ---- the front of a list of buckets

module _ (g : Geometry) where
  abbrev few : ℕ → List ℕ → List ℕ
  few zero xs = []
  few (suc n) [] = []
  few (suc n) (x ∷ xs) = counted g x ∷ few n xs

  few_in : (n : ℕ) (xs : List ℕ) (q : ℕ) → In q (few n xs) → (s : ℕ) × In s xs × (q ≡ counted g s)
  few_in zero xs q i = absurd i
  few_in (suc n) [] q i = absurd i
  few_in (suc n) (x ∷ xs) q (inl e) = (x, inl refl, e)
  few_in (suc n) (x ∷ xs) q (inr i) = let k = few_in n xs q i in (k.0, inr k.1, k.2)

  few_apart : (n : ℕ) (xs : List ℕ) → ((x : ℕ) → In x xs → g.first_bucket ≤ x) → AllPairs (λ a b. a ≢ b) xs → Distinct (few n xs)
  few_apart zero xs low apart = tt
  few_apart (suc n) [] low apart = tt
  few_apart (suc n) (x ∷ xs) low apart = (
    (λ i. (let k = few_in n xs (counted g x) i in
        let here = low x (inl refl) in
        let there = low k.0 (inr k.1) in
        let same = k.2 in
        all_in (λ y. x ≢ y) xs k.0 (λ j d lt. apart 0 (suc j) d (omega arith) (omega (arith, lt))) k.1 (omega (arith, here, there, same)))),
    few_apart n xs (λ y i. low y (inr i)) (λ i j d lt inside. apart (suc i) (suc j) d (omega (arith, lt)) (omega (arith, inside))),
  )

  few_long : (n : ℕ) (xs : List ℕ) → n ≤ length xs → length (few n xs) ≡ n
  few_long zero xs le = refl
  few_long (suc n) [] le = absurd (omega (arith, le))
  few_long (suc n) (x ∷ xs) le = ap suc (few_long n xs (omega (arith, le)))

-- ---- marks

abbrev marked : Bool → Bool → Mark
marked metadata dirty = if metadata then Metadata else (if dirty then Dirtied else Unmarked)

marked_only : (a b : Bool) → marked a b ≡ Metadata → a ≡ true
marked_only true b e = refl
marked_only false true e = absurd (cc)
marked_only false false e = absurd (cc)

any_true : (n : ℕ) (f : ℕ → Bool) (s : ℕ) → s < n → f s ≡ true → any n f ≡ true
any_true zero f s lt e = absurd (omega (arith, lt))
any_true (suc n) f s lt e = elim le_or [
  | inl same ↦ or_front (f n) (any n f) (ap f (sym same) ∙ e)
  | inr less ↦ or_behind (f n) (any n f) (any_true n f s less e)
]
  where
    le_or : (s ≡ n) ⊎ (s < n)
    le_or = by_lt s n (λ _. (s ≡ n) ⊎ (s < n)) (λ l. inr l) (λ ge. inl (omega (arith, ge, lt)))

dirty_is : (b : Bool) → is_dirty (kind_of b) ≡ b
dirty_is true = refl
dirty_is false = refl

first_of_key : (key : Key) (ptr : Ptr) → pointer_of key ≡ Some ptr → (0 < key.count) × (ptr_at key 0 ≡ ptr)
first_of_key key ptr = by_lt 0 key.count (λ b. (if b then Some (ptr_at key 0) else None) ≡ Some ptr → (0 < key.count) × (ptr_at key 0 ≡ ptr)) (λ lt e. (lt, some_same (ptr_at key 0) ptr e)) (λ _ e. absurd (cc))

module _ (p : Pair) (v : View) (view : IsView p v) (sound : HasSoundParts p v) where
  abbrev g : Geometry
  g = v.geometry

  abbrev r : Reading
  r = v.reading

  abbrev size : ℕ
  size = data_sectors p.backing_sectors v.backing

  abbrev w : Layout
  w = (law_layout v.geometry).0

  start : IsOpened v.geometry (law_layout v.geometry).0 p.cache v.reading
  start = law_opened p v (law_layout v.geometry).0 view sound (law_layout v.geometry).1

  -- ---- the leaves

  keeps : (n : Node) → In n r.nodes → KeepsRange n
  keeps n i = all_in KeepsRange r.nodes n sound.ranges i

  once : (i k : ℕ) (n : Node) → nth r.nodes i ≡ Some n → nth r.nodes k ≡ Some n → i ≡ k
  once i k n a b =
      let key = all_in (λ (x : Node). IsNodeKey g x.key) r.nodes n sound.pointers.nodes (nth_in r.nodes i n a) in
      let here : PointsInto g n.key (back g (bucket_of g n.key)) = (points_into g n.key key.some key.ptrs (bucket_of g n.key)).0 refl in
      nth_once (λ (x y : Node). (b : ℕ) → PointsInto g x.key b → PointsInto g y.key b → ⊥) r.nodes sound.uses.nodes n (λ f. f (back g (bucket_of g n.key)) here here) i k a b

  abbrev leaf : ℕ → Option Node
  leaf i = of_kind is_leaf (nth r.nodes i)

  slot_is : (i : ℕ) (n : Node) (s : ℕ) → leaf i ≡ Some n → n.from ≤ s → s < n.key.end → find_at r.nodes 0 s ≡ i
  slot_is i n s e low high =
      let k = of_kind_is is_leaf (nth r.nodes i) n e in
      let has_it = both_and (is_leaf n.level) (nat_le n.from s && nat_lt s n.key.end) k.1
      (both_and (nat_le n.from s) (nat_lt s n.key.end) ((le_tells n.from s).1 low) ((lt_tells s n.key.end).1 high)) in
      let f = find_is r.nodes 0 s i n k.0 has_it in
      let t = and_both (is_leaf f.node.level) (nat_le f.node.from s && nat_lt s f.node.key.end) f.has_it in
      let range = and_both (nat_le f.node.from s) (nat_lt s f.node.key.end) t.1 in
      let one = nodes.apart g w (law_layout v.geometry).1 start.opening.owners p.cache r.newest.item.level 0 r.newest.item.root r.nodes view.reading.nodes keeps f.node n s
      (nth_in r.nodes f.at f.node f.here) (nth_in r.nodes i n k.0) ((leaf_tells f.node.level).0 t.0) ((leaf_tells n.level).0 k.1)
      ((le_tells f.node.from s).0 range.0, (lt_tells s f.node.key.end).0 range.1) (low, high) in
      let same = once f.at i n (f.here ∙ ap Some one) k.0 in
      let is = f.is in
      omega (arith, is, same)

  -- ---- pending keys

  down : CountDown (ring_entries w start.opening.image w.journal) start.opening.newest.last_seq (start.opening.newest ∷ start.opening.older) (suc start.opening.newest.number)
  down = start.sound.whole.sound.entries.down

  abbrev pend : Option Node → List Pending
  pend None = []
  pend (Some n) = (law_replays (ring_entries w start.opening.image w.journal) n.from n.key.end start.opening.newest start.opening.older down).0

  tail_same : (x y : Entry) (xs ys : List Entry) → x ∷ xs ≡ y ∷ ys → xs ≡ ys
  tail_same x y xs ys e = cc

  pend_is : (o : Option Node) (n : Node) (older : List Entry) → o ≡ Some n → seen_entries g r.entries ≡ seen_entry g r.newest.item ∷ older
      → Replays n.from n.key.end (seen_entry g r.newest.item) older (pend o)
  pend_is o n older e entries =
      let rest : start.opening.older ≡ older = tail_same start.opening.newest (seen_entry g r.newest.item) start.opening.older older (sym start.opens.means.entries ∙ entries) in
      subst (λ (x : Option Node). Replays n.from n.key.end (seen_entry g r.newest.item) older (pend x)) (sym e)
      (subst (λ (x : Entry). Replays n.from n.key.end x older (pend (Some n))) (sym start.opens.means.newest_is)
      (subst (λ (l : List Entry). Replays n.from n.key.end start.opening.newest l (pend (Some n))) rest
      (law_replays (ring_entries w start.opening.image w.journal) n.from n.key.end start.opening.newest start.opening.older down).1))

  -- ---- the lists

  abbrev kept : List ℕ
  kept = few g (sets_in_chain g) sound.spare.spare

  spare_from : (s : ℕ) → IsSpare g r s → g.first_bucket ≤ s
  spare_from s spare = by_lt s g.first_bucket (λ _. g.first_bucket ≤ s) (λ lt. absurd (spare.1 Super lt)) (λ ge. ge)

  spare_all : (s : ℕ) → In s sound.spare.spare → IsSpare g r s
  spare_all s i = all_in (IsSpare g r) sound.spare.spare s sound.spare.each i

  kept_spare : (q : ℕ) → In q kept → IsSpare g r (back g q)
  kept_spare q i =
      let k = few_in g (sets_in_chain g) sound.spare.spare q i in
      let spare = spare_all k.0 k.1 in
      let low = spare_from k.0 spare in
      let same = k.2 in
      subst (IsSpare g r) (let e : k.0 ≡ back g q = omega (arith, low, same) in e) spare

  abbrev listed : ℕ → Option Purpose
  listed q = if has kept q then Some Priorities else None

  listed_spare : (q : ℕ) (b : Bool) (x : Purpose) → has kept q ≡ b → (if b then Some Priorities else None) ≡ Some x → IsSpare g r (back g q)
  listed_spare q true x t e = kept_spare q (in_has kept q t)
  listed_spare q false x t e = absurd (cc)

  -- ---- the marks

  abbrev is_fixed : ℕ → Bool
  is_fixed = use_.is_fixed g p.cache size r view.reading sound.pointers sound.uses start.opening.chain start.opens.means.chain

  abbrev buckets : List ℕ
  buckets = use_.node_buckets g p.cache size r view.reading sound.pointers sound.uses start.opening.chain start.opens.means.chain

  node_is : (q : ℕ) → (has buckets q ≡ true) ↔ IsUsedFor g r NodeUse (back g q)
  node_is = use_.node_is g p.cache size r view.reading sound.pointers sound.uses start.opening.chain start.opens.means.chain

  chain_is : (q : ℕ) → (has start.opening.chain q ≡ true) ↔ IsUsedFor g r Priority (back g q)
  chain_is = use_.chain_is g p.cache size r view.reading sound.pointers sound.uses start.opening.chain start.opens.means.chain

  fixed_is : (q : ℕ) → (is_fixed q ≡ true) ↔ IsFixed g r q
  fixed_is = use_.fixed_is g p.cache size r view.reading sound.pointers sound.uses start.opening.chain start.opens.means.chain

  abbrev metadata : ℕ → Bool
  metadata q = is_fixed q || (has buckets q || has start.opening.chain q)

  fixed_metadata : (q : ℕ) → IsFixed g r q → metadata q ≡ true
  fixed_metadata q is = or_front (is_fixed q) (has buckets q || has start.opening.chain q) ((fixed_is q).1 is)

  metadata_is : (q : ℕ) → IsMetadata g r (back g q) ⊎ (g.nbuckets ≤ back g q) → metadata q ≡ true
  metadata_is q (inr high) = fixed_metadata q (inr (inr high))
  metadata_is q (inl k) = go k.0 k.1 k.2
    where
      go : (what : Use) → what ≢ Data → IsUsedFor g r what (back g q) → metadata q ≡ true
      go Super ne used = absurd (omega (arith, used))
      go Journal ne used = let high = used.1 in fixed_metadata q (inl (omega (arith, high)))
      go Priority ne used = or_behind (is_fixed q) (has buckets q || has start.opening.chain q) (or_behind (has buckets q) (has start.opening.chain q) ((chain_is q).1 used))
      go Uuid ne used = fixed_metadata q (inr (inl used))
      go NodeUse ne used = or_behind (is_fixed q) (has buckets q || has start.opening.chain q) (or_front (has buckets q) (has start.opening.chain q) ((node_is q).1 used))
      go Data ne used = absurd (ne refl)

  metadata_only : (q : ℕ) → metadata q ≡ true → IsMetadata g r (back g q) ⊎ (g.nbuckets ≤ back g q)
  metadata_only q e = elim (or_cases (is_fixed q) (has buckets q || has start.opening.chain q) e) [
    | inl f ↦ elim ((fixed_is q).0 f) [
      | inl lt ↦ inl (Journal, (λ z. cc), (omega arith, omega (arith, lt)))
      | inr (inl used) ↦ inl (Uuid, (λ z. cc), used)
      | inr (inr high) ↦ inr high
    ]
    | inr h ↦ elim (or_cases (has buckets q) (has start.opening.chain q) h) [
      | inl n ↦ inl (NodeUse, (λ z. cc), (node_is q).0 n)
      | inr c ↦ inl (Priority, (λ z. cc), (chain_is q).0 c)
    ]
  ]

  abbrev dirty : ℕ → Bool
  dirty q = any size (λ s. dirty_in (λ t. counted g (bucket_at g t)) q (pointer_by g r.gens (key_of r s) s))

  dirty_found : (q : ℕ) → IsLiveDirty g r (back g q) → dirty q ≡ true
  dirty_found q d =
      let s = d.0 in
      let key = d.1 in
      let live = d.2 in
      let some = live_counts g size r sound.pointers view.reading.gens.records d.1 live.live in
      let f = last_key_found (keys_of r) d.0 d.1 live.last in
      let own = All-contains (IsDataKey g size) (keys_of r) d.1 sound.pointers.data_keys f.0 in
      let end = own.end some in
      let high = f.1.1 in
      let place = live.place in
      let there : counted g (bucket_at g (place_at d.1 0 d.0)) ≡ q = omega (arith, place) in
      let points : pointer_by g r.gens (key_of r d.0) d.0 ≡ Some (pointer_at g r.gens d.1 d.0) =
      ap (λ (k : Option Key). pointer_by g r.gens k d.0) live.last ∙ ap (λ o. pointed g r.gens d.1 d.0 o) (some_points d.1 some) in
      any_true size (λ t. dirty_in (λ t. counted g (bucket_at g t)) q (pointer_by g r.gens (key_of r t) t)) d.0 (omega (arith, end, high))
      (ap (dirty_in (λ t. counted g (bucket_at g t)) q) points
      ∙ both_and (is_dirty (kind_of d.1.dirty)) (counted g (bucket_at g (place_at d.1 0 d.0)) == q) (dirty_is d.1.dirty ∙ d.3) ((eq_tells (counted g (bucket_at g (place_at d.1 0 d.0))) q).1 there))

  data_only : (q : ℕ) → IsLiveDirty g r (back g q) → metadata q ≡ false
  data_only q d = not_true (metadata q) (λ e. elim (metadata_only q e) [
    | inl k ↦ k.1 (sound.uses.one (back g q) k.0 Data k.2 (d.0, d.1, d.2))
    | inr high ↦ (let low = (data_place g size r sound.pointers view.reading.gens.records d.0 d.1 (back g q) d.2).1 in omega (arith, low, high))
  ])

  marks : AreMarks g r (λ q. marked (metadata q) (dirty q))
  marks = record {
    metadata = λ q is. ap (λ (b : Bool). marked b (dirty q)) (metadata_is q is);
    dirty = λ q d. ap (λ (b : Bool). marked b (dirty q)) (data_only q d) ∙ ap (λ (b : Bool). marked false b) (dirty_found q d);
    only = λ q e. metadata_only q (marked_only (metadata q) (dirty q) e);
  }

  -- ---- the oldest keys

  oldest : AreOldest g r (λ q. version_at g r.gens q - 96)
  oldest = record {
    most = λ q. omega arith;
    window = λ q. omega arith;
    keys = λ s key ptr at points.
        let first = first_of_key key ptr points in
        let f = last_key_found (keys_of r) s key at in
        let lies = subst (λ (x : Ptr). LiesInData g x key.size) first.1 ((All-contains (IsDataKey g size) (keys_of r) key sound.pointers.data_keys f.0).ptrs 0 first.0) in
        let age = age_is g size r sound.pointers view.reading.gens.records ptr key.size lies in
        let within = (sound.window s key ptr at points).0 in
        let same : version_of g r.gens ptr ≡ version_at g r.gens (bucket_by g ptr) - behind (version_at g r.gens (bucket_by g ptr)) ptr.generation = refl in
        omega (arith, age, within, same);
  }

  pub chosen : Choices
  chosen = record {
    leaf = leaf;
    inner = λ i. of_kind (nat_lt 0) (nth r.nodes i);
    slot = find_at r.nodes 0;
    pending = λ i. pend (leaf i);
    listed = listed;
    kept = kept;
    mark = λ q. marked (metadata q) (dirty q);
    last_gc = λ q. version_at g r.gens q - 96;
  }

  pub may_be : MayBeChosen g r chosen
  unfolding chosen
  may_be = record {
    leaves = in_slots r.nodes IsLeaf is_leaf leaf_tells once;
    inner_nodes = in_slots r.nodes IsInner (nat_lt 0) inner_tells once;
    slots = slot_is;
    pending = λ i n older e entries. pend_is (leaf i) n older e entries;
    listed = λ q x e. listed_spare q (has kept q) x refl e;
    kept = λ q i. ap (λ (b : Bool). if b then Some Priorities else None) (has_in kept q i);
    distinct = few_apart g (sets_in_chain g) sound.spare.spare (λ s i. spare_from s (spare_all s i)) sound.spare.different;
    enough = few_long g (sets_in_chain g) sound.spare.spare sound.spare.enough;
    marks = marks;
    oldest = oldest;
  }

pub law_choices : LawChoices
law_choices p v view sound = (chosen p v view sound, may_be p v view sound)
