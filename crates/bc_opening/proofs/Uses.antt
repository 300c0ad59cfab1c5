-- What each bucket of a sound reading is for, as tests.
use Rattle.std.proofs.Common.{subst, ◌≡◌, ◌≢◌, ◌⊎◌, inl, inr, ℕ, zero, suc, ◌<◌, ◌≤◌, Bool, true, false, List, [], ◌∷◌, length, Option, Some, None, refl, sym, ap, ◌∙◌, arith, nat_lt, nat_le, ◌==◌, ◌||◌}
use Rattle.std.specs.Prelude.{◌↔◌, map, slice_index_or}
use Rattle.bc_model.specs.Sector.{Image}
use Rattle.bc_disk.specs.declared.gens.BucketRecord.{BucketRecord}
use Rattle.bc_disk.specs.declared.geometry.Geometry.{Geometry}
use Rattle.bc_key.specs.declared.key.Key.{Key}
use Rattle.bc_key.specs.Key.{ptr_at}
use Rattle.bc_record.specs.Places.{bucket_at}
use Rattle.bc_prio.specs.Chain.{IsPlace}
use Rattle.bc_prio.specs.Records.{LeadIn}
use Rattle.bc_books.specs.Index.{Dirty}
use Rattle.bc_books.specs.Shelves.{Purpose}
use Rattle.bc_books.specs.Chains.{Many}
use Rattle.bc_books.specs.Books.{is_listed}
use Rattle.bc_meta.specs.Chain.{Distinct}
use Rattle.bc_meta.specs.Facts.{In}
use Rattle.bc_meta.proofs.Lists.{by_le, by_test}
use Rattle.bc_leaves.specs.After.{has}
use Rattle.bc_leaves.proofs.Chains.{has_in, in_has}
use Rattle.bc_image.specs.Pointers.{PointsInto, PointsIntoData}
use Rattle.bc_image.specs.Reading.{IsReading, Reading}
use Rattle.bc_image.specs.Sound.{HasOneUse, HasPointers, IsNodeKey}
use Rattle.bc_image.specs.Tree as tree
use Rattle.bc_image.specs.Uses.{IsUsedFor, Journal, Node, Priority, Use}
use Rattle.bc_image.proofs.Unique.{some_same}
use Rattle.bc_facts.specs.Reads.{back}
use Rattle.bc_facts.specs.Seen.{bucket_of}
use Rattle.bc_facts.proofs.Place.{by_lt}
use Rattle.bc_facts.proofs.Stood.{all_in, any_in, contains_in, in_contains, index_in}
use Rattle.bc_opening.specs.Read.{IsFixed, kind_of}
use Rattle.bc_opening.proofs.Pointers.{some_points}

-- ---- tests

pub or_cases : (a b : Bool) → (a || b) ≡ true → (a ≡ true) ⊎ (b ≡ true)
or_cases true b e = inl refl
or_cases false b e = inr e

pub or_front : (a b : Bool) → a ≡ true → (a || b) ≡ true
or_front true b e = refl
or_front false b e = absurd (cc)

pub or_behind : (a b : Bool) → b ≡ true → (a || b) ≡ true
or_behind true b e = refl
or_behind false b e = e

pub not_true : (b : Bool) → (b ≡ true → ⊥) → b ≡ false
not_true true h = absurd (h refl)
not_true false h = refl

pub four_false : (a b c d : Bool) → (a ≡ true → ⊥) → (b ≡ true → ⊥) → (c ≡ true → ⊥) → (d ≡ true → ⊥) → (a || (b || (c || d))) ≡ false
four_false a b c d na nb nc nd = not_true (a || (b || (c || d))) (λ e. elim (or_cases a (b || (c || d)) e) [
  | inl h ↦ na h
  | inr f ↦ elim (or_cases b (c || d) f) [ inl h ↦ nb h | inr k ↦ elim (or_cases c d k) [ inl h ↦ nc h | inr h ↦ nd h ] ]
])

pub le_tells : (a b : ℕ) → (nat_le a b ≡ true) ↔ (a ≤ b)
le_tells a b = (by_le a b (λ t. t ≡ true → a ≤ b) (λ le _. le) (λ _ h. absurd (cc)), λ le. by_le a b (λ t. t ≡ true) (λ _. refl) (λ lt. absurd (omega (arith, le, lt))))

pub lt_tells : (a b : ℕ) → (nat_lt a b ≡ true) ↔ (a < b)
lt_tells a b = (by_lt a b (λ t. t ≡ true → a < b) (λ lt _. lt) (λ _ h. absurd (cc)), λ lt. by_lt a b (λ t. t ≡ true) (λ _. refl) (λ le. absurd (omega (arith, le, lt))))

pub eq_tells : (a b : ℕ) → ((a == b) ≡ true) ↔ (a ≡ b)
eq_tells a b = (by_test a b (λ t. t ≡ true → a ≡ b) (λ e _. e) (λ _ h. absurd (cc)), λ e. by_test a b (λ t. t ≡ true) (λ _. refl) (λ ne. absurd (ne e)))

pub has_tells : (xs : List ℕ) (q : ℕ) → (has xs q ≡ true) ↔ In q xs
has_tells xs q = (in_has xs q, has_in xs q)

-- ---- lists

pub map_in : {A : Type 0} (f : A → ℕ) (xs : List A) (q : ℕ) → In q (map f xs) → (x : A) × In x xs × (q ≡ f x)
map_in f [] q i = absurd i
map_in f (x ∷ xs) q (inl e) = (x, inl refl, e)
map_in f (x ∷ xs) q (inr i) = let k = map_in f xs q i in (k.0, inr k.1, k.2)

pub in_map : {A : Type 0} (f : A → ℕ) (xs : List A) (x : A) → In x xs → In (f x) (map f xs)
in_map f [] x i = absurd i
in_map f (y ∷ xs) x (inl e) = inl (ap f e)
in_map f (y ∷ xs) x (inr i) = inr (in_map f xs x i)

at_one : (xs : List ℕ) → Distinct xs → (i j d : ℕ) → i < length xs → j < length xs → slice_index_or xs i d ≡ slice_index_or xs j d → i ≡ j
at_one [] apart i j d a b e = absurd (omega arith)
at_one (x ∷ xs) apart zero zero d a b e = refl
at_one (x ∷ xs) apart zero (suc j) d a b e = absurd (apart.0 (subst (λ q. In q xs) (sym e) (index_in xs j d (omega (arith, b)))))
at_one (x ∷ xs) apart (suc i) zero d a b e = absurd (apart.0 (subst (λ q. In q xs) e (index_in xs i d (omega (arith, a)))))
at_one (x ∷ xs) apart (suc i) (suc j) d a b e = ap suc (at_one xs apart.1 i j d (omega (arith, a)) (omega (arith, b)) e)

-- a list of different numbers has as many of them
pub many : (n : ℕ) (P : ℕ → Type 0) (xs : List ℕ) → Distinct xs → length xs ≡ n → ((q : ℕ) → In q xs → P q) → Many n P
many n P xs apart long each = (
  (λ i. slice_index_or xs i 0),
  (λ i j a b e. at_one xs apart i j 0 (omega (arith, a, long)) (omega (arith, b, long)) e),
  (λ j a. each (slice_index_or xs j 0) (index_in xs j 0 (omega (arith, a, long)))),
)

pub dirty_of : (b : Bool) → kind_of b ≡ Dirty → b ≡ true
dirty_of true e = refl
dirty_of false e = absurd (cc)

pub listed_some : (o : Option Purpose) → is_listed o ≡ true → (p : Purpose) × (o ≡ Some p)
listed_some None e = absurd (cc)
listed_some (Some p) e = (p, refl)

-- the buckets of a chain lie behind the journal
lead_in : (g : Geometry) (image : Image) (records : List BucketRecord) (part from to : ℕ) (chain : List ℕ) → LeadIn g image records part from chain to → (q : ℕ) → In q chain → IsPlace g q
lead_in g image records part from to [] lead q i = absurd i
lead_in g image records part from to (b ∷ chain) lead q (inl e) = subst (IsPlace g) (sym e) lead.1
lead_in g image records part from to (b ∷ chain) lead q (inr i) = lead_in g image records (suc part) lead.2.0 to chain lead.2.2 q i

-- a key that points into data has its bucket
pub points_into : (g : Geometry) (key : Key) → 0 < key.count → PointsIntoData g key → (q : ℕ) → (bucket_of g key ≡ q) ↔ PointsInto g key (back g q)
points_into g key some into q =
    let low = (into 0 some).bucket.0 in
    let points = some_points key some in (
      (λ e. (ptr_at key 0, points, omega (arith, e, low))),
      (λ k. (let same = some_same (ptr_at key 0) k.0 (sym points ∙ k.1) in let at = ap (λ ptr. bucket_at g ptr.offset) same ∙ k.2 in omega (arith, at))),
    )

-- ---- of a sound reading

module _ (g : Geometry) (image : Image) (size : ℕ) (r : Reading) (is : IsReading g image r) (pointers : HasPointers g size r) (uses : HasOneUse g r)
    (chain : List ℕ) (chain_are : r.gens.chain ≡ map (back g) chain) where
  abbrev pub is_fixed : ℕ → Bool
  is_fixed q = nat_lt q g.journal || ((bucket_of g r.newest.item.uuid_bucket == q) || nat_le g.nbuckets (back g q))

  abbrev pub node_buckets : List ℕ
  node_buckets = map (λ (n : tree.Node). bucket_of g n.key) r.nodes

  node_key : (n : tree.Node) → In n r.nodes → IsNodeKey g n.key
  node_key n i = all_in (λ (x : tree.Node). IsNodeKey g x.key) r.nodes n pointers.nodes i

  pub node_at : (n : tree.Node) → In n r.nodes → (q : ℕ) → (bucket_of g n.key ≡ q) ↔ PointsInto g n.key (back g q)
  node_at n i q = let k = node_key n i in points_into g n.key k.some k.ptrs q

  pub node_is : (q : ℕ) → (has node_buckets q ≡ true) ↔ IsUsedFor g r Node (back g q)
  node_is q = (
    (λ h. (let k = map_in (λ (n : tree.Node). bucket_of g n.key) r.nodes q (in_has node_buckets q h) in
        let at = in_contains r.nodes k.0 k.1 in
        (at.0, k.0, at.1, at.2, (node_at k.0 k.1 q).0 (sym k.2)))),
    (λ used. (let k = any_in (λ (n : tree.Node). PointsInto g n.key (back g q)) r.nodes used in
        has_in node_buckets q (subst (λ m. In m node_buckets) ((node_at k.0 k.1 q).1 k.2) (in_map (λ (n : tree.Node). bucket_of g n.key) r.nodes k.0 k.1)))),
  )

  pub chain_is : (q : ℕ) → (has chain q ≡ true) ↔ IsUsedFor g r Priority (back g q)
  chain_is q = (
    (λ h. in_contains r.gens.chain (back g q) (subst (λ (l : List ℕ). In (back g q) l) (sym chain_are) (in_map (back g) chain q (in_has chain q h)))),
    (λ used. (let k = map_in (back g) chain (back g q) (subst (λ (l : List ℕ). In (back g q) l) chain_are (contains_in r.gens.chain (back g q) used)) in
        let same = k.2 in
        let at : q ≡ k.0 = omega (arith, same) in
        has_in chain q (subst (λ m. In m chain) (sym at) k.1))),
  )

  pub fixed_is : (q : ℕ) → (is_fixed q ≡ true) ↔ IsFixed g r q
  fixed_is q =
      let uuid = points_into g r.newest.item.uuid_bucket pointers.uuid.0 pointers.uuid.1 q in
      let a = nat_lt q g.journal in
      let b = bucket_of g r.newest.item.uuid_bucket == q in
      let d = nat_le g.nbuckets (back g q) in (
        (λ h. elim (or_cases (nat_lt q g.journal) ((bucket_of g r.newest.item.uuid_bucket == q) || nat_le g.nbuckets (back g q)) h) [
          | inl e ↦ inl ((lt_tells q g.journal).0 e)
          | inr f ↦ elim (or_cases (bucket_of g r.newest.item.uuid_bucket == q) (nat_le g.nbuckets (back g q)) f) [
            | inl e ↦ inr (inl (uuid.0 ((eq_tells (bucket_of g r.newest.item.uuid_bucket) q).0 e)))
            | inr e ↦ inr (inr ((le_tells g.nbuckets (back g q)).0 e))
          ]
        ]),
        (λ h. elim h [
          | inl lt ↦ or_front (nat_lt q g.journal) ((bucket_of g r.newest.item.uuid_bucket == q) || nat_le g.nbuckets (back g q)) ((lt_tells q g.journal).1 lt)
          | inr (inl used) ↦ or_behind (nat_lt q g.journal) ((bucket_of g r.newest.item.uuid_bucket == q) || nat_le g.nbuckets (back g q))
              (or_front (bucket_of g r.newest.item.uuid_bucket == q) (nat_le g.nbuckets (back g q)) ((eq_tells (bucket_of g r.newest.item.uuid_bucket) q).1 (uuid.1 used)))
          | inr (inr high) ↦ or_behind (nat_lt q g.journal) ((bucket_of g r.newest.item.uuid_bucket == q) || nat_le g.nbuckets (back g q))
              (or_behind (bucket_of g r.newest.item.uuid_bucket == q) (nat_le g.nbuckets (back g q)) ((le_tells g.nbuckets (back g q)).1 high))
        ]),
      )

  pub in_journal : (q : ℕ) → q < g.journal → IsUsedFor g r Journal (back g q)
  in_journal q lt = (omega arith, omega (arith, lt))

  -- a bucket with a use has no other one
  pub other_use : (q : ℕ) (what other : Use) → IsUsedFor g r what (back g q) → IsUsedFor g r other (back g q) → what ≢ other → ⊥
  other_use q what other a b ne = ne (uses.one (back g q) what other a b)

  pub chain_place : (q : ℕ) → IsUsedFor g r Priority (back g q) → IsPlace g (back g q)
  chain_place q used = lead_in g image r.gens.records 0 r.newest.item.prio 0 r.gens.chain is.gens.sets (back g q) (contains_in r.gens.chain (back g q) used)

  pub node_place : (q : ℕ) → IsUsedFor g r Node (back g q) → IsPlace g (back g q)
  node_place q used =
      let k = any_in (λ (n : tree.Node). PointsInto g n.key (back g q)) r.nodes used in
      let key = node_key k.0 k.1 in
      let at = (node_at k.0 k.1 q).1 k.2 in
      let lies = (key.ptrs 0 key.some).bucket in
      let low = lies.0 in
      let high = lies.1 in
      (omega (arith, at, low), omega (arith, at, low, high))
