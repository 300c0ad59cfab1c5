-- Runs on the small pair that was made anew: a seat takes a bucket, and writes a root or a leaf
-- into it.
use Rattle.std.proofs.Common.{◌≡◌, ◌≢◌, inl, inr, ℕ, zero, suc, ◌+◌, ◌-◌, ◌^◌, ◌<◌, ◌≤◌, Bool, true}
use Rattle.std.proofs.Common.{false, List, [], ◌∷◌, ◌++◌, length, replicate, Option, Some, None}
use Rattle.std.proofs.Common.{refl, sym, ap, ◌∙◌, subst, lit<, lit≤, arith, if◌then◌else◌, ◌==◌}
use Rattle.std.proofs.Common.{◌||◌}
use Rattle.std.specs.Prelude.{All, ◌/◌}
use Rattle.std.proofs.lemmas.List.{length-append, length-replicate}
use Rattle.std.proofs.lemmas.List.Elements.{All-nil, All-cons}
use Rattle.bc_model.specs.Pattern.{zeros}
use Rattle.bc_model.specs.Sector.{Image, Value, at_run}
use Rattle.bc_model.proofs.Runs.{at_miss, at_range}
use Rattle.bc_disk.specs.Device.{Among, MayLeave, besides}
use Rattle.bc_jset.specs.Entries.{bucket_end}
use Rattle.bc_jset.specs.Records.{entry_kind}
use Rattle.bc_jset.proofs.Records.{entry_codec}
use Rattle.bc_record.proofs.Found.{found_stays}
use Rattle.bc_key.specs.declared.key.Key.{Key}
use Rattle.bc_key.specs.Key.{ptr_at}
use Rattle.bc_books.specs.Books.{is_listed}
use Rattle.bc_books.specs.Shelves.{Fresh, IsFor, IsHeldBy, Priorities, Purpose, Spent, Tree}
use Rattle.bc_books.specs.Shelves.{by_room}
use Rattle.bc_data.specs.Data as flow
use Rattle.bc_data.specs.Enabled.{CanWrite, IsSpare as IsSpareAt}
use Rattle.bc_meta.specs.Facts.{In}
use Rattle.bc_meta.specs.Layout.{Layout, is_within, node_end, set_len}
use Rattle.bc_meta.specs.Acts as meta
use Rattle.bc_meta.specs.Acts.{fold}
use Rattle.bc_meta.specs.Places.{Places}
use Rattle.bc_meta.specs.Tree.{NodeSet, Owner}
use Rattle.bc_leaves.specs.Keys.{last_said}
use Rattle.bc_leaves.specs.Parts.{InRange, Draft, InnerNode, Leaf, NoNode}
use Rattle.bc_leaves.proofs.Pend.{front_miss}
use Rattle.bc_leaves.proofs.Said.{spoken_range}
use Rattle.bc_known.specs.Asked.{CanStartNode}
use Rattle.bc_super.specs.Super.{data_sectors}
use Rattle.bc_meta.specs.Records.{Records, loose_node, new_node}
use Rattle.bc_meta.proofs.Lists.{by_test}
use Rattle.bc_leaves.specs.Parts as parts
use Rattle.bc_image.specs.Formatted.{leaf_bucket, root_bucket, table_bucket}
use Rattle.bc_image.specs.NewPair.{new_pair}
use Rattle.bc_image.specs.Pointers.{PointsInto, PointsIntoData}
use Rattle.bc_image.specs.Reading.{IsView, Reading, View}
use Rattle.bc_image.specs.Sound.{HasSoundParts, IsNodeKey}
use Rattle.bc_image.specs.Tree.{Node, node_of}
use Rattle.bc_image.specs.Uses.{IsSpare, IsUsedFor, Use}
use Rattle.bc_image.specs.Uses as uses
use Rattle.bc_image.proofs.Formatted.{key_points, only_bucket}
use Rattle.bc_image.proofs.NewPair.{backing, cache, is_formatted, leaf_key, root_set, superblocks}
use Rattle.bc_image.proofs.Views.{one_set}
use Rattle.bc_facts.specs.Reads.{back}
use Rattle.bc_facts.specs.Seen.{bucket_of}
use Rattle.bc_facts.specs.Torn.{NoTornRecord}
use Rattle.bc_facts.proofs.Made.{is_layout, made}
use Rattle.bc_record.specs.Places.{bucket_at}
use Rattle.bc_disk.specs.Chain.{sets_in_chain}
use Rattle.bc_whole.specs.State.{Opening, OfInner, OfLeaf}
use Rattle.bc_known.specs.Acts.{Event, State, Take, WriteCache, after}
use Rattle.bc_known.specs.Run.{IsEnabled, start}
use Rattle.bc_ranges.specs.Laws.{IsRunOf}
use Rattle.bc_ranges.specs.Made.{IsInnerKey, IsInnerSet, IsNewKey}
use Rattle.bc_opening.specs.Choices.{Choices, IsInner, IsLeaf, MayBeChosen}
use Rattle.bc_opening.specs.Opening.{IsOpenedAs}
use Rattle.bc_opening.specs.Read.{inner_of, leaf_of}
use Rattle.bc_opening.proofs.Chosen.{law_choices}
use Rattle.bc_opening.proofs.Whole.{law_opening}
use Rattle.bc_reopened.proofs.Law.{law_opened}
use Rattle.bc_made_example.specs.Laws.{HasLeaf, HasNode}
use Rattle.bc_made_example.proofs.Bytes.{data_key, front, front_spelled, leaf_front}
use Rattle.bc_made_example.proofs.Bytes.{leaf_front_spelled, leaf_set, leaf_set_long, node_set}
use Rattle.bc_made_example.proofs.Bytes.{owner, set_long, small}
use Rattle.bc_made_example.proofs.Insert as whole

-- ---- the pair, and what it has no use for

abbrev view : View
view = whole.view new_pair backing cache small is_formatted superblocks

abbrev r : Reading
r = view.reading

view_is : IsView new_pair view
view_is = whole.view_is new_pair backing cache small is_formatted superblocks

parts_are : HasSoundParts new_pair view
parts_are = whole.parts_are new_pair backing cache small is_formatted superblocks

abbrev root_node : Node
root_node = node_of 1 0 is_formatted.entry.root (is_formatted.root_set ∷ [])

abbrev leaf_node : Node
leaf_node = node_of 0 0 is_formatted.leaf (is_formatted.leaf_set ∷ [])

root_into : (q : ℕ) → PointsInto small is_formatted.entry.root q → q ≡ root_bucket small
root_into = only_bucket small (root_bucket small) (2 ^ 40) 64 is_formatted.entry.root
    is_formatted.first_entry.root

leaf_into : (q : ℕ) → PointsInto small is_formatted.leaf q → q ≡ leaf_bucket small
leaf_into = only_bucket small (leaf_bucket small) (2 ^ 40) 64 is_formatted.leaf
    is_formatted.leaf_key

one : sets_in_chain small ≡ 1
one = one_set 8 (lit≤ tt)

root_away : bucket_of small is_formatted.entry.root ≡ 19 → ⊥
root_away at =
    let points = key_points small (root_bucket small) (2 ^ 40) 64 is_formatted.entry.root
    is_formatted.first_entry.root in
    let is = root_into (bucket_at small (ptr_at is_formatted.entry.root 0).offset)
    (ptr_at is_formatted.entry.root 0, points, refl) in
    let sets = one in
    omega (arith, at, is, sets)

leaf_away : bucket_of small is_formatted.leaf ≡ 19 → ⊥
leaf_away at =
    let points = key_points small (leaf_bucket small) (2 ^ 40) 64 is_formatted.leaf
    is_formatted.leaf_key in
    let is = leaf_into (bucket_at small (ptr_at is_formatted.leaf 0).offset)
    (ptr_at is_formatted.leaf 0, points, refl) in
    let sets = one in
    omega (arith, at, is, sets)

abbrev IsLow : Node → Type 0
IsLow m = (q : ℕ) → PointsInto small m.key q → q ≤ 12

-- nothing behind the leaf's bucket is used
used_low : (what : Use) (q : ℕ) → IsUsedFor small r what q → q ≤ 12
used_low uses.Super q low = omega (arith, low)
used_low uses.Journal q (low, high) = omega (arith, high)
used_low uses.Priority q (k, inside, at) =
    let here = is_formatted.in_order k q inside in
    let count = is_formatted.chain.count in
    let sets = one in
    omega (arith, here, at, inside, count, sets)
used_low uses.Uuid q into =
    let is = only_bucket small (table_bucket small) 64 64 is_formatted.entry.uuid_bucket
    is_formatted.first_entry.uuid_bucket q into in
    let sets = one in
    omega (arith, is, sets)
used_low uses.Node q (k, n, inside, at, into) =
    let points : All IsLow (root_node ∷ leaf_node ∷ []) = All-cons IsLow root_node (leaf_node ∷ [])
    (λ q p. (let is = root_into q p in let sets = one in omega (arith, is, sets)))
    (All-cons IsLow leaf_node []
    (λ q p. (let is = leaf_into q p in let sets = one in omega (arith, is, sets)))
    (All-nil IsLow)) in
    (subst (λ (m : Node). IsLow m) at (points k n inside)) q into
used_low uses.Data q (s, key, lies) =
    let none = whole.no_key new_pair backing cache small is_formatted superblocks s in
    let last = lies.last in absurd (cc)

spare : (q : ℕ) → 12 < q → q < 128 → IsSpare small r q
spare q low high = (
  high,
  λ what used. let under = used_low what q used in omega (arith, under, low),
)

-- ---- what is chosen: bucket 20 is kept for nodes, bucket 13 for a chain

abbrev any : (c : Choices) × MayBeChosen small r c
any = law_choices new_pair view view_is parts_are

abbrev listed_at : ℕ → Option Purpose
listed_at n = if n == 12 then Some Priorities else (if n == 19 then Some Tree else None)

abbrev inner_at : ℕ → Option Node
inner_at i = if i == 0 then Some root_node else None

abbrev leaf_at : ℕ → Option Node
leaf_at i = if i == 0 then Some leaf_node else None

-- where the leaf is by another choice
abbrev there : (i : ℕ) × (any.0.leaf i ≡ Some leaf_node)
there = any.1.leaves.all leaf_node (inr (inl refl)) refl

abbrev chosen : Choices
chosen = record any.0 {
  leaf = leaf_at;
  inner = inner_at;
  slot = λ s. 0;
  pending = λ i. any.0.pending there.0;
  listed = listed_at;
  kept = 12 ∷ [];
}

is_leaf : (i : ℕ) (n : Node) → leaf_at i ≡ Some n → (i ≡ 0) × (leaf_node ≡ n)
is_leaf i n = by_test i 0
    (λ t. (if t then Some leaf_node else None) ≡ Some n → (i ≡ 0) × (leaf_node ≡ n))
    (λ is e. (is, cc)) (λ other e. absurd (cc))

is_root : (i : ℕ) (n : Node) → inner_at i ≡ Some n → (i ≡ 0) × (root_node ≡ n)
is_root i n = by_test i 0
    (λ t. (if t then Some root_node else None) ≡ Some n → (i ≡ 0) × (root_node ≡ n))
    (λ is e. (is, cc)) (λ other e. absurd (cc))

listed_spare : (q : ℕ) (p : Purpose) → listed_at q ≡ Some p → IsSpare small r (back small q)
listed_spare q p = by_test q 12
    (λ t. (if t then Some Priorities else (if q == 19 then Some Tree else None)) ≡ Some p
    → IsSpare small r (back small q))
    (λ is e. spare (back small q) (omega (arith, is)) (omega (arith, is)))
    (λ other. by_test q 19
    (λ t. (if t then Some Tree else None) ≡ Some p → IsSpare small r (back small q))
    (λ is e. spare (back small q) (omega (arith, is)) (omega (arith, is)))
    (λ no_one e. absurd (cc)))

may_be : MayBeChosen small r chosen
may_be = record {
  leaves = record {
    is_node = λ i n e. (let is = is_leaf i n e in
        subst (λ (m : Node). In m (root_node ∷ leaf_node ∷ []) × IsLeaf m.level) is.1
        (inr (inl refl), refl));
    all = λ n i bottom. elim i [
      | inl is ↦ absurd (omega (arith, bottom, ap (λ (m : Node). m.level) is))
      | inr (inl is) ↦ (0, ap Some (sym is))
      | inr (inr n) ↦ absurd n
    ];
    once = λ i k n a b. (is_leaf i n a).0 ∙ sym (is_leaf k n b).0;
  };
  inner_nodes = record {
    is_node = λ i n e. (let is = is_root i n e in
        subst (λ (m : Node). In m (root_node ∷ leaf_node ∷ []) × IsInner m.level) is.1
        (inl refl, lit< tt));
    all = λ n i inner. elim i [
      | inl is ↦ (0, ap Some (sym is))
      | inr (inl is) ↦ absurd (omega (arith, inner, ap (λ (m : Node). m.level) is))
      | inr (inr n) ↦ absurd n
    ];
    once = λ i k n a b. (is_root i n a).0 ∙ sym (is_root k n b).0;
  };
  slots = λ i n s e low high. sym (is_leaf i n e).0;
  pending = λ i n older e entries. any.1.pending there.0 n older
      (there.1 ∙ ap Some (is_leaf i n e).1) entries;
  listed = listed_spare;
  kept = λ q i. elim i [ inl is ↦ ap listed_at is | inr n ↦ absurd n ];
  distinct = (λ i. i, tt);
  enough = sym one;
  marks = any.1.marks;
  oldest = any.1.oldest;
}

not_true : (t : Bool) → (t ≡ true → ⊥) → t ≡ false
not_true false no_one = refl
not_true true no_one = absurd (no_one refl)

no_true : false ≡ true → ⊥
no_true e = cc

no_false : true ≡ false → ⊥
no_false e = cc

-- ---- the run

abbrev inner : InnerNode
inner = record {
  first = 0;
  end = 2 ^ 40;
  bucket = 19;
  word = 0x50000;
  height = 0;
  role = Draft;
  loaded = false;
}

abbrev leaf : Leaf
leaf = record {
  first = 0;
  end = 2 ^ 40;
  bucket = 19;
  word = 0x50000;
  role = Draft;
  loaded = false;
  pending = [];
}

-- A node of one sector is written, a leaf or not.
module _ (w : Opening) (x : parts.State)
    (o : IsOpenedAs new_pair view (made small) chosen w x) (bottom : Bool) (set : NodeSet)
    (seq_is : set.seq ≡ 65537) (front : List Value) (one_value : length front ≡ 1)
    (front_spelled : (made small).sets.spelled (owner bottom) front ≡ Some set)
    (set_long : (made small).sets.len set ≡ 1) where
  abbrev own : Owner
  own = owner bottom

  layout_is : w.layout ≡ made small
  layout_is = o.opening.layout_is

  abbrev values : List Value
  values = front ++ replicate (w.layout.node_sectors - set_len w.layout set) zeros

  -- they fill the node
  long : length values ≡ 64
  long =
      let sectors = ap (λ (l : Layout). l.node_sectors) layout_is in
      let size = ap (λ (l : Layout). l.sets.len set) layout_is ∙ set_long in
      let more = length-replicate {A = Value}
      (w.layout.node_sectors - set_len w.layout set) zeros in
      let both = length-append front
      (replicate (w.layout.node_sectors - set_len w.layout set) zeros) in
      omega (arith, sectors, size, more, both, one_value)

  begins_is : w.layout.begins own ≡ 1280
  begins_is = ap (λ (l : Layout). l.begins own) layout_is

  listed : w.flow.books.listed 19 ≡ Some Tree
  listed = o.opening.books.listed 19

  no_chain : w.flow.books.chain 19 ≡ false
  no_chain = not_true (w.flow.books.chain 19)
      (λ is. (spare 20 (lit< tt) (lit< tt)).1 uses.Priority ((o.opening.books.chain 19).0 is))

  unused : w.store.unused 19 ≡ true
  unused = (o.opening.store.unused 19).1 ((spare 20 (lit< tt) (lit< tt)).1 uses.Node)

  abbrev takes : Event
  takes = record { seat = 0; act = Take Tree 19 }

  abbrev st : State
  st = start w x 65537

  abbrev taken : State
  taken = after w st 0 (Take Tree 19)

  take_it : IsEnabled w st 0 (Take Tree 19)
  take_it = record {
    data_allows = (
      record {
        heard = refl;
        steps = (
          subst (λ (p : Option Purpose). IsFor Tree (by_room p)) (sym listed) (inr (inl refl)),
          tt,
        );
        can = refl;
      },
      tt,
    );
    asks = λ e. cc;
  }

  no_leaf_there : (k : ℕ) → (x.leaves k).role ≢ NoNode → (x.leaves k).bucket ≢ 19
  no_leaf_there k = subst (λ (l : Leaf). l.role ≢ NoNode → l.bucket ≢ 19)
      (sym (o.opening.parts.leaves k))
      (by_test k 0
      (λ t. (leaf_of small (if t then Some leaf_node else None) (chosen.pending k)).role ≢ NoNode
      → (leaf_of small (if t then Some leaf_node else None) (chosen.pending k)).bucket ≢ 19)
      (λ is some at. leaf_away at) (λ other some at. some refl))

  no_inner_there : (k : ℕ) → (x.inner_nodes k).role ≢ NoNode → (x.inner_nodes k).bucket ≢ 19
  no_inner_there k = subst (λ (n : InnerNode). n.role ≢ NoNode → n.bucket ≢ 19)
      (sym (o.opening.parts.inner_nodes k))
      (by_test k 0 (λ t. (inner_of small (if t then Some root_node else None)).role ≢ NoNode
      → (inner_of small (if t then Some root_node else None)).bucket ≢ 19)
      (λ is some at. root_away at) (λ other some at. some refl))

  -- each place of the bucket is fresh, and the seat's
  bucket_is : (t : ℕ) → 1280 ≤ t → t < 1344 → w.flow.books.bucket t ≡ 19
  bucket_is t low high = o.opening.books.bucket t
      ∙ (let is : t / 64 ≡ 20 = omega (arith, low, high) in
      ap (λ n. n - 1) is)

  places : (t : ℕ) (v : Value) → at_run (w.layout.begins own) values t ≡ Some v
      → IsSpareAt w.flow.books taken.whole.flow.books 0 t
  places t v is =
      let range = at_range (w.layout.begins own) values t v is in
      let low = range.0 in
      let high = range.1 in
      let at = begins_is in
      let n = long in
      let here = bucket_is t (omega (arith, low, at)) (omega (arith, high, at, n)) in record {
        fresh = ap (λ b. if is_listed (w.flow.books.listed b) || (w.flow.books.chain b
            || (w.flow.books.fixed b || w.flow.books.node b)) then Fresh else Spent) here
            ∙ ap (λ (p : Option Purpose). if is_listed p || (w.flow.books.chain 19
            || (w.flow.books.fixed 19 || w.flow.books.node 19)) then Fresh else Spent) listed;
        unnamed = ap (λ b. if w.flow.books.chain b then Some 0 else None) here
            ∙ ap (λ c. if c then Some 0 else None) no_chain;
        apart = inr (subst (λ b. IsHeldBy 0 (taken.whole.flow.books.shelf b)) (sym here)
            (Tree, refl));
      }

  can_write : CanWrite w.flow taken.whole.flow 0 flow.Metadata (w.layout.begins own) values
  can_write = record { places = places; sendable = tt }

  can_start : CanStartNode w taken 0 19 own set values
  can_start = record {
    held = refl;
    unnamed = ap (λ c. if c then Some 0 else None) no_chain;
    vacant = (
      ap (λ (s : Records). s.unused 19) o.opening.records ∙ unused,
      no_leaf_there,
      no_inner_there,
    );
    room = subst (λ (l : Layout). l.begins own + set_len l set ≤ node_end l own) (sym layout_is)
        (let size = set_long in omega (arith, size));
    inside = ap (λ (l : Layout). is_within l 19 own) layout_is;
    first = record {
      front = front;
      spelled = subst (λ (l : Layout). l.sets.spelled own front ≡ Some set) (sym layout_is)
          front_spelled;
      values_are = refl;
    };
    seq = seq_is;
  }

  abbrev last : Places
  last = (fold w.layout taken.whole.store (meta.WriteNode 0 19 own set values ∷ [])).places

  -- the journal is what it was
  journal_stays : (image : Image) → MayLeave last.device image → (s : ℕ)
      → s < 1280 → image s ≡ w.store.image s
  journal_stays image left s low =
      let at = begins_is in
      let none : at_run (w.layout.begins own) values s ≡ None =
      at_miss (w.layout.begins own) values s
      (λ range. let from = range.0 in omega (arith, from, at, low)) in
      elim (subst (λ (v : Option Value). Among (image s) (besides v (w.store.image s ∷ []))) none
      (left s)) [
        | inl same ↦ same
        | inr n ↦ absurd n
      ]

  no_torn : NoTornRecord small w.store.image last
  no_torn = record {
    entries = λ image q at left lt block e whole. inl (
      found_stays (entry_kind small) (entry_codec small) image w.store.image (bucket_end small q) at
          e whole.0 (λ s low high. let within = whole.1 in
          journal_stays image left s (omega (arith, high, within, lt))) whole.1,
      whole.1,
    );
    sets = λ image q left own known stand s whole. absurd (loose q own known);
  }
    where
      loose : (q : ℕ) → last.own q ≡ true
          → (last.records.nodes q).loose ≡ false → ⊥
      loose q = by_test q 19
          (λ t. (if t then true else (if t then false else false)) ≡ true
          → (if t then new_node own set else (if t then loose_node
          else st.whole.store.places.records.nodes q)).loose ≡ false → ⊥)
          (λ is mine firm. no_false firm) (λ other mine firm. no_true mine)

-- ---- of a root with a child, and of a leaf with a key

child_points : IsNodeKey small leaf_key
child_points = record { size = refl; some = lit< tt; ptrs = points }
  where
    points : PointsIntoData small leaf_key
    points zero inside = record {
      device = refl;
      bucket = (omega arith, lit< tt);
      whole = lit≤ tt;
    }
    points (suc i) inside = absurd (omega arith)

well_made : IsInnerSet small 0 (2 ^ 40) node_set
well_made = record {
  set = root_set;
  seen = refl;
  keys = All-cons (IsInnerKey small 0 (2 ^ 40)) leaf_key []
      (record { child = λ _. child_points; low = lit< tt; high = lit≤ tt })
      (All-nil (IsInnerKey small 0 (2 ^ 40)));
}

key_made : (key : Key) → In key leaf_set.keys
    → IsNewKey small (data_sectors 1000 backing) key
key_made key (inl is) = subst (λ (k : Key). IsNewKey small (data_sectors 1000 backing) k) (sym is)
    (record {
      lies = record { ptrs = points; end = λ _. lit≤ tt };
      some = lit< tt;
      start = lit≤ tt;
    })
  where
    points : PointsIntoData small data_key
    points zero inside = record {
      device = refl;
      bucket = (omega arith, lit< tt);
      whole = lit≤ tt;
    }
    points (suc i) inside = absurd (omega arith)
key_made key (inr none) = absurd none

-- it says nothing behind the last sector
said_inside : (s : ℕ) → (InRange leaf s → ⊥) → last_said leaf_set.keys s ≡ None
said_inside s out = front_miss data_key [] s (λ c. let r = spoken_range data_key s c in
    let low = r.0 in let high = r.1 in out (omega (arith, low), omega (arith, high)))

module _ (w : Opening) (x : parts.State)
    (o : IsOpenedAs new_pair view (made small) chosen w x) where
  abbrev node_values : List Value
  node_values = values w x o false node_set refl front refl front_spelled set_long

  abbrev leaf_values : List Value
  leaf_values = values w x o true leaf_set refl leaf_front refl leaf_front_spelled leaf_set_long

  abbrev takes_it : Event
  takes_it = record { seat = 0; act = Take Tree 19 }

  node_run : IsRunOf new_pair view w x 65537
      (takes_it ∷ record { seat = 0; act = WriteCache (OfInner 1 inner node_set) node_values } ∷ [])
  node_run = record {
    opening = law_opened new_pair view (made small) chosen w x (o, may_be);
    course = (
      take_it w x o false node_set refl front refl front_spelled set_long,
      (
        record {
          data_allows = (
            record {
              heard = inl refl;
              steps = tt;
              can = can_write w x o false node_set refl front refl front_spelled set_long;
            },
            tt,
          );
          asks = (
            ap (λ (n : InnerNode). n.role) (o.opening.parts.inner_nodes 1),
            refl,
            can_start w x o false node_set refl front refl front_spelled set_long,
          );
        },
        tt,
      ),
    );
    made = (tt, ((well_made, refl), tt));
    no_torn = no_torn w x o false node_set refl front refl front_spelled set_long;
  }

  leaf_run : IsRunOf new_pair view w x 65537
      (takes_it ∷ record { seat = 0; act = WriteCache (OfLeaf 1 leaf leaf_set) leaf_values } ∷ [])
  leaf_run = record {
    opening = law_opened new_pair view (made small) chosen w x (o, may_be);
    course = (
      take_it w x o true leaf_set refl leaf_front refl leaf_front_spelled leaf_set_long,
      (
        record {
          data_allows = (
            record {
              heard = inl refl;
              steps = tt;
              can = can_write w x o true leaf_set refl leaf_front refl leaf_front_spelled
                  leaf_set_long;
            },
            tt,
          );
          asks = (
            ap (λ (n : Leaf). n.role) (o.opening.parts.leaves 1),
            refl,
            refl,
            said_inside,
            can_start w x o true leaf_set refl leaf_front refl leaf_front_spelled leaf_set_long,
          );
        },
        tt,
      ),
    );
    made = (tt, ((key_made, refl), tt));
    no_torn = no_torn w x o true leaf_set refl leaf_front refl leaf_front_spelled leaf_set_long;
  }

opened : (w : Opening) × (x : parts.State) × IsOpenedAs new_pair view (made small) chosen w x
opened =
    let k = law_opening new_pair view (made small) chosen view_is parts_are (is_layout small)
    may_be in (
      k.0,
      k.1,
      record {
        view = view_is;
        parts = parts_are;
        is_layout = is_layout small;
        opening = k.2;
        sound = k.3;
      },
    )

pub has_node : HasNode
has_node = (
  view,
  record {
    opening = opened.0;
    held = opened.1;
    next_seq = 65537;
    first = record { seat = 0; act = Take Tree 19 };
    seat = 0;
    slot = 1;
    inner = inner;
    set = node_set;
    values = node_values opened.0 opened.1 opened.2;
    some = λ none. cc;
    run = node_run opened.0 opened.1 opened.2;
  },
)

pub has_leaf : HasLeaf
has_leaf = (
  view,
  record {
    opening = opened.0;
    held = opened.1;
    next_seq = 65537;
    first = record { seat = 0; act = Take Tree 19 };
    seat = 0;
    slot = 1;
    leaf = leaf;
    set = leaf_set;
    values = leaf_values opened.0 opened.1 opened.2;
    key = data_key;
    is_key = inl refl;
    pointer = lit< tt;
    run = leaf_run opened.0 opened.1 opened.2;
  },
)
