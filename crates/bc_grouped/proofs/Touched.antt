-- The buckets that keys of leaves point into are those that the core's index does.
use Rattle.std.proofs.Common.{◌≡◌, ◌≢◌, ◌⊎◌, inl, inr, ℕ, zero, suc, ◌+◌, ◌-◌, ◌*◌, ◌/◌, ◌%◌, ◌^◌, ◌<◌, ◌≤◌, Bool, true, false, List, [], ◌∷◌, ◌++◌, length, Option, Some, None, refl, sym, ap, ◌∙◌, subst, arith}
use Rattle.std.specs.Prelude.{All, AllPairs, ◌==◌, ◌&&◌, ◌||◌, if◌then◌else◌, nat_le, nat_lt, slice_index_or}
use Rattle.std.proofs.lemmas.Bool.{cases_lt, le-leb, leb-true, lt-ltb, ltb-true}
use Rattle.std.proofs.Math.Nat.{div-mul-le_self, lt-div-mul-add, mul-le-mul_right, suc-mul}
use Rattle.bc_books.specs.Books.{Books}
use Rattle.bc_books.specs.Index.{Pointer, is_dirty, latest}
use Rattle.bc_books.specs.Invariant.{IsInOrder as AreBooksInOrder}
use Rattle.bc_books.specs.Marks.{any, points_into}
use Rattle.bc_extent.specs.Extents.{IsInOrder}
use Rattle.bc_extent.proofs.LastKeys.{by_cover}
use Rattle.bc_events.specs.Run as core
use Rattle.bc_facts.proofs.Stood.{all_in, in_behind, in_either, in_front}
use Rattle.bc_key.specs.Key.{Covers, place_by, pointer_of, start_of}
use Rattle.bc_key.specs.declared.key.Key.{Key}
use Rattle.bc_key.specs.declared.ptr.Ptr.{Ptr}
use Rattle.bc_known.proofs.Law.{At, order_at}
use Rattle.bc_shares.proofs.Law.{at_state}
use Rattle.bc_leaves.specs.Keys.{last_said, ref_said}
use Rattle.bc_looks.proofs.Law.{law_keys}
use Rattle.bc_looks.specs.bc_machine.Containers.{IsLeafFor}
use Rattle.bc_looks.specs.bc_machine.Standing.{oldest_first, replay_is, replay_runs}
use Rattle.bc_looks.specs.bc_machine.World.{IsCourseOf, IsOrigin, Origin, World, replay}
use Rattle.bc_meta.specs.Facts.{In}
use Rattle.bc_meta.specs.Keys.{Ref, ref_by}
use Rattle.bc_meta.proofs.Lists.{by_test, decide}
use Rattle.bc_node.specs.Leaf.{Leaf}
use Rattle.bc_places.specs.Stands.{IsCutInto}
use Rattle.bc_shares.specs.Shares.{books_of, leaf_share}
use Rattle.bc_whole.specs.State as whole
use Rattle.bc_whole.specs.Together.{ref_of}
use Rattle.bc_grouped.specs.Touched.{AreBetween, AreTouchedBy, IsPointedTo, LawTouched, keys_in, lies_between}

-- ---- answers

same_answer : (a b : Bool) → (a ≡ true → b ≡ true) → (b ≡ true → a ≡ true) → a ≡ b
same_answer true b to from = sym (to refl)
same_answer false true to from = from refl
same_answer false false to from = refl

or_first : (a b : Bool) → a ≡ true → (a || b) ≡ true
or_first true b is = refl
or_first false b is = absurd (cc)

or_second : (a b : Bool) → b ≡ true → (a || b) ≡ true
or_second true b is = refl
or_second false b is = is

or_either : (a b : Bool) → (a || b) ≡ true → (a ≡ true) ⊎ (b ≡ true)
or_either true b is = inl refl
or_either false b is = inr is

and_both : (a b : Bool) → a ≡ true → b ≡ true → (a && b) ≡ true
and_both true b one two = two
and_both false b one two = absurd (cc)

and_left : (a b : Bool) → (a && b) ≡ true → a ≡ true
and_left true b is = refl
and_left false b is = absurd (cc)

and_right : (a b : Bool) → (a && b) ≡ true → b ≡ true
and_right true b is = is
and_right false b is = absurd (cc)

any_here : (n : ℕ) (f : ℕ → Bool) (s : ℕ) → s < n → f s ≡ true → any n f ≡ true
any_here zero f s less is = absurd (omega (arith, less))
any_here (suc n) f s less is = elim (decide s n) [
  | inl at ↦ or_first (f n) (any n f) (subst (λ k. f k ≡ true) at is)
  | inr ne ↦ or_second (f n) (any n f) (any_here n f s (omega (arith, less, ne)) is)
]

any_some : (n : ℕ) (f : ℕ → Bool) → any n f ≡ true → (s : ℕ) × (s < n) × (f s ≡ true)
any_some zero f is = absurd (cc)
any_some (suc n) f is = elim (or_either (f n) (any n f) is) [
  | inl now ↦ (n, omega arith, now)
  | inr later ↦ (let one = any_some n f later in
      let low = one.1 in (one.0, omega (arith, low), one.2))
]

pub between : (low high s : ℕ) → low ≤ s → s < high → lies_between low high s ≡ true
between low high s from end = and_both (nat_le low s) (nat_lt s high) (le-leb low s from)
    (lt-ltb s high end)

pub is_between : (low high s : ℕ) → lies_between low high s ≡ true → (low ≤ s) × (s < high)
is_between low high s is = (
  leb-true low s (and_left (nat_le low s) (nat_lt s high) is),
  ltb-true s high (and_right (nat_le low s) (nat_lt s high) is),
)

equal : (x b : ℕ) → (x == b) ≡ true → x ≡ b
equal x b = by_test x b (λ t. t ≡ true → x ≡ b) (λ same _. same) (λ _ no. absurd (cc))

is_equal : (x b : ℕ) → x ≡ b → (x == b) ≡ true
is_equal x b same = by_test x b (λ t. t ≡ true) (λ _. refl) (λ ne. absurd (ne same))

-- ---- keys in order

rest_order : (k : Key) (ks : List Key) → IsInOrder (k ∷ ks) → IsInOrder ks
rest_order k ks order = (
  (λ j d lt. order.0 (suc j) d (omega (arith, lt))),
  (λ i j d lt inside. order.1 (suc i) (suc j) d (omega (arith, lt)) (omega (arith, inside))),
)

behind_first : (k : Key) (ks : List Key) (y : Key) → IsInOrder (k ∷ ks) → In y ks
    → k.end ≤ start_of y
behind_first k ks y order m = all_in (λ (z : Key). k.end ≤ start_of z) ks y
    (λ j d lt. order.1 0 (suc j) d (omega arith) (omega (arith, lt))) m

-- the key that has a sector is the one that says
says : (ks : List Key) (s : ℕ) (key : Key) → IsInOrder ks → In key ks → Covers key s
    → last_said ks s ≡ Some (ref_by key s (pointer_of key))
says [] s key order m at = absurd m
says (k ∷ ks) s key order (inl here) at = by_cover k s
    (λ b. (if b then Some (ref_by k s (pointer_of k)) else last_said ks s)
    ≡ Some (ref_by key s (pointer_of key)))
    (λ _. ap (λ (y : Key). Some (ref_by y s (pointer_of y))) (sym here))
    (λ miss. absurd (miss (subst (λ (y : Key). Covers y s) here at)))
says (k ∷ ks) s key order (inr later) at = by_cover k s
    (λ b. (if b then Some (ref_by k s (pointer_of k)) else last_said ks s)
    ≡ Some (ref_by key s (pointer_of key)))
    (λ hit. let up = behind_first k ks key order later in let low = at.0 in let high = hit.1 in
    absurd (omega (arith, up, low, high)))
    (λ _. says ks s key (rest_order k ks order) later at)

some_ref : (a b : Option Ref) → Some a ≡ Some b → a ≡ b
some_ref a b is = cc

said_by_key : (ks : List Key) (s : ℕ) (ref : Option Ref) → last_said ks s ≡ Some ref
    → (key : Key) × In key ks × Covers key s × (ref_by key s (pointer_of key) ≡ ref)
said_by_key [] s ref is = absurd (cc)
said_by_key (k ∷ ks) s ref is = by_cover k s
    (λ b. (if b then Some (ref_by k s (pointer_of k)) else last_said ks s) ≡ Some ref
    → (key : Key) × In key (k ∷ ks) × Covers key s × (ref_by key s (pointer_of key) ≡ ref))
    (λ hit e. (k, inl refl, hit, some_ref (ref_by k s (pointer_of k)) ref e))
    (λ _ e. let one = said_by_key ks s ref e in (one.0, inr one.1, one.2, one.3)) is

-- ---- where they point

said_some : (o : Option (Option Ref)) (ref : Ref) → ref_said o ≡ Some ref → o ≡ Some (Some ref)
said_some None ref is = absurd (cc)
said_some (Some said) ref is = ap (λ (x : Option Ref). Some x) is

pointed : (key : Key) (s : ℕ) (o : Option Ptr) (ref : Ref) → ref_by key s o ≡ Some ref
    → (ptr : Ptr) × (o ≡ Some ptr) × (place_by ptr (start_of key) s ≡ ref.place)
pointed key s None ref is = absurd (cc)
pointed key s (Some ptr) ref is = (ptr, refl, place_of is)
  where
    place_of : ref_by key s (Some ptr) ≡ Some ref → place_by ptr (start_of key) s ≡ ref.place
    place_of e = ap place_in e
      where
        place_in : Option Ref → ℕ
        place_in None = 0
        place_in (Some x) = x.place

there : (o : Option Pointer) (ref : Ref) → ref_of o ≡ Some ref
    → (r : Pointer) × (o ≡ Some r) × (r.place ≡ ref.place)
there None ref is = absurd (cc)
there (Some r) ref is = (r, refl, place_of is)
  where
    place_of : ref_of (Some r) ≡ Some ref → r.place ≡ ref.place
    place_of e = ap place_in e
      where
        place_in : Option Ref → ℕ
        place_in None = 0
        place_in (Some x) = x.place

into : (bucket : ℕ → ℕ) (b : ℕ) (o : Option Pointer) → points_into bucket b o ≡ true
    → (r : Pointer) × (o ≡ Some r) × (bucket r.place ≡ b)
into bucket b None is = absurd (cc)
into bucket b (Some r) is = (r, refl, equal (bucket r.place) b is)

into_some : (bucket : ℕ → ℕ) (b : ℕ) (o : Option Pointer) (r : Pointer) → o ≡ Some r
    → bucket r.place ≡ b → points_into bucket b o ≡ true
into_some bucket b o r is at = subst (λ (x : Option Pointer). points_into bucket b x ≡ true)
    (sym is) (is_equal (bucket r.place) b at)

-- ---- the buckets of the device

module _ (x : World) (o : Origin) (is : IsOrigin x o) (course : IsCourseOf o x.log)
    (size count : ℕ) (some : 0 < size) (cut : IsCutInto size count o.opening.machine) where
  abbrev w : whole.Opening
  w = o.opening.machine

  abbrev raw : ℕ → ℕ
  raw t = t / size - w.before + w.before

  module _ (t : ℕ) where
    low : t / size * size ≤ t
    low = div-mul-le_self t size

    high : t < t / size * size + size
    high = lt-div-mul-add some

    -- a place that lies in the device behind the first bucket
    in_it : (b : ℕ) → t / size ≡ w.before + b → b < w.layout.buckets → w.flow.books.bucket t ≡ b
    in_it b at few =
        let first = cut.first b in
        let start : w.layout.first b ≡ t / size * size = first ∙ ap (λ n. n * size) (sym at) in
        let width = cut.sectors in
        is.sound.laid.sector b t few (omega (arith, start, low)) (omega (arith, start, width, high))

    -- one before it
    before_it : t / size < w.before → 0 < w.layout.buckets → w.flow.books.bucket t ≡ 0
    before_it less some_ =
        let first : w.layout.first 0 ≡ w.before * size = cut.first 0
        ∙ ap (λ n. n * size) (omega arith) in
        let more : suc (t / size) * size ≤ w.before * size =
        mul-le-mul_right size (omega (arith, less)) in
        let one : suc (t / size) * size ≡ t / size * size + size = suc-mul (t / size) size in
        let width = cut.sectors in
        let ordered = is.order t (w.layout.first 0) (omega (arith, first, more, one, high)) in
        let zero_is = is.sound.laid.sector 0 (w.layout.first 0) some_ (omega arith)
        (omega (arith, width, some)) in
        omega (arith, ordered, zero_is)

    -- one behind the device
    behind_it : w.before + w.layout.buckets ≤ t / size → 0 < w.layout.buckets
        → w.layout.buckets ≤ w.flow.books.bucket t
    behind_it out some_ =
        let first : w.layout.first (w.layout.buckets - 1)
        ≡ (w.before + (w.layout.buckets - 1)) * size = cut.first (w.layout.buckets - 1) in
        let one : suc (w.before + (w.layout.buckets - 1)) * size
        ≡ (w.before + (w.layout.buckets - 1)) * size + size =
        suc-mul (w.before + (w.layout.buckets - 1)) size in
        let more : suc (w.before + (w.layout.buckets - 1)) * size ≤ t / size * size =
        mul-le-mul_right size (omega (arith, out, some_)) in
        let width = cut.sectors in
        let last = is.ends (omega (arith, width, some)) (w.layout.buckets - 1) t
        (omega (arith, first, one, more, low, width)) in
        omega (arith, last, some_)

    pub to_raw : (b : ℕ) → b < w.layout.buckets → w.flow.books.bucket t ≡ b
        → raw t ≡ w.before + b
    to_raw b few at = elim (cases_lt (t / size) w.before) [
      | inl less ↦ (let none = before_it less (omega (arith, few)) in
          omega (arith, none, at, less))
      | inr from ↦ elim (cases_lt (t / size - w.before) w.layout.buckets) [
        | inl inside ↦ (let same = in_it (t / size - w.before) (omega (arith, from)) inside in
            omega (arith, same, at, from))
        | inr out ↦ (let far = behind_it (omega (arith, from, out)) (omega (arith, few)) in
            absurd (omega (arith, far, at, few)))
      ]
    ]

    pub from_raw : (b : ℕ) → b < w.layout.buckets → raw t ≡ w.before + b
        → w.flow.books.bucket t ≡ b
    from_raw b few at = elim (cases_lt (t / size) w.before) [
      | inl less ↦ (let none = before_it less (omega (arith, few)) in
          let zero_is : 0 ≡ b = omega (arith, at, less) in none ∙ zero_is)
      | inr from ↦ in_it b (omega (arith, at, from)) few
    ]

  -- ---- what the index says

  abbrev k : Books
  k = books_of (replay o x.log).machine

  reached_at : At w o.parts (replay o x.log).machine
  reached_at = subst (λ (st : core.State). At w o.parts st.machine) (sym (replay_is o x.log))
      (at_state o.opening o.parts o.next_seq (oldest_first x.log) is.sound
      (replay_runs o x.log course))

  in_order : AreBooksInOrder w.flow.books k
  in_order = order_at w o.parts (replay o x.log).machine.whole is.sound reached_at.at

  pub within : (s : ℕ) (r : Pointer) → latest k.index s ≡ Some r → s < w.flow.books.size
  within s r at = (in_order.known.keys k.index.count s (let c = in_order.counted in
      let one = c.durable in let two = c.sealed in omega (arith, one, two)) r at).inside

  module _ (slot : ℕ) (leaf : Leaf)
      (stands : IsLeafFor w (leaf_share (replay o x.log).machine.whole.parts slot) leaf)
      (s : ℕ) (from : leaf.from ≤ s) (end : s < leaf.end) where
    pub said : ref_said (last_said leaf.keys s) ≡ ref_of (latest k.index s)
    said =
        let first = stands.at.first in
        let last = stands.at.end_is in
        stands.keys s from end ∙ law_keys x o is course slot s stands.at.role
        (omega (arith, first, from), omega (arith, last, end))

  -- ---- both ways

  in_keys : (leaves : List Leaf) (leaf : Leaf) (key : Key) → In leaf leaves → In key leaf.keys
      → In key (keys_in leaves)
  in_keys [] leaf key m at = absurd m
  in_keys (l ∷ ls) leaf key (inl here) at = in_front key l.keys (keys_in ls)
      (subst (λ (y : Leaf). In key y.keys) here at)
  in_keys (l ∷ ls) leaf key (inr later) at =
      in_behind key l.keys (keys_in ls) (in_keys ls leaf key later at)

  of_leaf : (leaves : List Leaf) (key : Key) → In key (keys_in leaves)
      → (leaf : Leaf) × In leaf leaves × In key leaf.keys
  of_leaf [] key m = absurd m
  of_leaf (l ∷ ls) key m = elim (in_either key l.keys (keys_in ls) m) [
    | inl here ↦ (l, inl refl, here)
    | inr later ↦ (let one = of_leaf ls key later in (one.0, inr one.1, one.2))
  ]

  module _ (low_ high_ : ℕ) (leaves : List Leaf) (between_ : AreBetween low_ high_ leaves)
      (stand : (leaf : Leaf) → In leaf leaves → (slot : ℕ)
      × IsLeafFor w (leaf_share (replay o x.log).machine.whole.parts slot) leaf)
      (b : ℕ) (few : b < w.layout.buckets) where
    abbrev counts : ℕ → Bool
    counts s = lies_between low_ high_ s && points_into w.flow.books.bucket b (latest k.index s)

    to_keys : any w.flow.books.size counts ≡ true
        → IsPointedTo size w.before (keys_in leaves) (w.before + b)
    to_keys is_any =
        let one = any_some w.flow.books.size counts is_any in
        let s = one.0 in
        let range = is_between low_ high_ s (and_left (lies_between low_ high_ s)
        (points_into w.flow.books.bucket b (latest k.index s)) one.2) in
        let r = into w.flow.books.bucket b (latest k.index s)
        (and_right (lies_between low_ high_ s)
        (points_into w.flow.books.bucket b (latest k.index s)) one.2) in
        let leaf = between_.each s range.0 range.1 in
        let at = stand leaf.0 leaf.1 in
        let ref : Ref = record {
          dirty = is_dirty r.0.kind;
          dev = 0;
          place = r.0.place;
          generation = r.0.version % 256;
        } in
        let says_ = said_some (last_said leaf.0.keys s) ref
        (said at.0 leaf.0 at.1 s leaf.2 leaf.3 ∙ ap ref_of r.1) in
        let key = said_by_key leaf.0.keys s (Some ref) says_ in
        let ptr = pointed key.0 s (pointer_of key.0) ref key.3 in record {
          key = key.0;
          among = in_keys leaves leaf.0 key.0 leaf.1 key.1;
          sector = s;
          covers = key.2;
          ptr = ptr.0;
          pointer = ptr.1;
          bucket = ap raw ptr.2 ∙ to_raw r.0.place b few r.2;
        }

    from_keys : IsPointedTo size w.before (keys_in leaves) (w.before + b)
        → any w.flow.books.size counts ≡ true
    from_keys p =
        let one = of_leaf leaves p.key p.among in
        let leaf = one.0 in
        let proper = between_.proper leaf one.1 in
        let inside = all_in (λ (y : Key). (leaf.from ≤ start_of y) × (y.end ≤ leaf.end)) leaf.keys
        p.key proper.within one.2 in
        let s = p.sector in
        let start = inside.0 in
        let last = inside.1 in
        let here = p.covers.0 in
        let under = p.covers.1 in
        let from : leaf.from ≤ s = omega (arith, start, here) in
        let end : s < leaf.end = omega (arith, last, under) in
        let at = stand leaf one.1 in
        let ref : Ref = record {
          dirty = p.key.dirty;
          dev = p.ptr.dev;
          place = place_by p.ptr (start_of p.key) s;
          generation = p.ptr.generation;
        } in
        let says_ : last_said leaf.keys s ≡ Some (Some ref) =
        says leaf.keys s p.key proper.order one.2 p.covers
        ∙ ap (λ (q : Option Ptr). Some (ref_by p.key s q)) p.pointer in
        let r = there (latest k.index s) ref
        (sym (said at.0 leaf at.1 s from end) ∙ ap ref_said says_) in
        let first = between_.from leaf one.1 in
        let behind = between_.end leaf one.1 in
        any_here w.flow.books.size counts s (within s r.0 r.1)
        (and_both (lies_between low_ high_ s)
        (points_into w.flow.books.bucket b (latest k.index s))
        (between low_ high_ s (omega (arith, first, from)) (omega (arith, behind, end)))
        (into_some w.flow.books.bucket b (latest k.index s) r.0 r.1
        (from_raw r.0.place b few (ap raw r.2 ∙ p.bucket))))

pub law_touched : LawTouched
law_touched x o is course size count low high leaves old new some cut long between_ stand touched b inside =
    let w = o.opening.machine in
    let all = cut.buckets in
    let few : b < w.layout.buckets = omega (arith, inside, all) in
    let n = w.before + b in
    let in_ : w.before + b < length old = omega (arith, inside, long) in
    let sectors = any w.flow.books.size (λ s. lies_between low high s
    && points_into w.flow.books.bucket b (latest (books_of (replay o x.log).machine).index s)) in
    same_answer (slice_index_or new n false) (sectors || slice_index_or old n false)
    (λ on. elim (touched.some n in_ on) [
      | inl was ↦ or_second sectors (slice_index_or old n false) was
      | inr points ↦ or_first sectors (slice_index_or old n false)
          (from_keys x o is course size count some cut low high leaves between_ stand b few points)
    ])
    (λ on. elim (or_either sectors (slice_index_or old n false) on) [
      | inl now ↦ touched.all n in_
          (inr (to_keys x o is course size count some cut low high leaves between_ stand b few now))
      | inr was ↦ touched.all n in_ (inl was)
    ])
