-- A key without pointers may come into a leaf, and what is in hand for it.
use Rattle.std.proofs.Common.{◌≡◌, inl, inr, ℕ, ◌+◌, ◌-◌, ◌%◌, ◌<◌, ◌≤◌, Bool, true, false, [], ◌∷◌, Option, Some, None, refl, sym, ap, ◌∙◌, subst, arith}
use Rattle.std.specs.Prelude.{All, IfSome, is_some, length, slice_get}
use Rattle.std.proofs.lemmas.Bool.{cases_eq}
use Rattle.std.proofs.lemmas.List.{append-nil}
use Rattle.std.proofs.lemmas.List.Elements.{All-cons, All-nil}
use Rattle.bc_bucket.specs.Buckets.{Buckets}
use Rattle.bc_cache.specs.declared.slots.Cached.{Cached}
use Rattle.bc_cached.specs.bc_deed.Flushed.{HasDone}
use Rattle.bc_cached.proofs.of_bc_deed.Sequence.{done_both}
use Rattle.bc_disk.specs.Disk.{DiskFacts}
use Rattle.bc_request.specs.bc_fetch.Fetch.{HasPart, HasReadOne}
use Rattle.bc_cached.specs.bc_hand.Seats.{IsCoreSeat, Kinds, empty, kinds, note, part_of}
use Rattle.bc_cached.specs.bc_hand.declared.hand.Hand.{Hand}
use Rattle.bc_cached.specs.bc_hand.declared.hand.LeafHand.{LeafHand}
use Rattle.bc_cached.proofs.of_bc_hand.Knowing.{View, m}
use Rattle.bc_image.specs.Sound.{LiesWithin}
use Rattle.bc_insert.specs.Drop.{IsGone}
use Rattle.bc_insert.specs.Insert.{HasPutIn}
use Rattle.bc_journal.specs.Journal.{HasRoom, Journal}
use Rattle.bc_key.specs.Key.{IsExtent}
use Rattle.bc_key.specs.declared.key.Key.{Key}
use Rattle.bc_keys.specs.Spelling.{words_of_all}
use Rattle.bc_keys.proofs.KeyLists.{length-words_of}
use Rattle.bc_key.specs.Words.{words_of}
use Rattle.bc_cached.specs.bc_machine.Frame.{Range}
use Rattle.bc_cached.specs.bc_machine.Note.{Note}
use Rattle.bc_cached.specs.bc_machine.declared.part.BucketsPart.{BucketsPart}
use Rattle.bc_node.specs.Leaf.{Leaf}
use Rattle.bc_request.proofs.of_bc_reader.Finding.{waited_done, way_note, way_of}
use Rattle.bc_request.proofs.of_bc_reader.Looking.{range_still}
use Rattle.bc_seats.specs.Seats.{Same, Waited}
use Rattle.bc_insert.specs.bc_sight.Sight.{IsOnBacking}
use Rattle.bc_step_rows.specs.Drop.{AreBacked, CanDrop, HasPlaceFor, IsEmptyKey, all_three, alone_at}

pub if_both : {A : Type 0} {P Q R : A → Type 0} (o : Option A) → ((a : A) → P a → Q a → R a)
    → IfSome o P → IfSome o Q → IfSome o R
if_both None f h k = tt
if_both (Some a) f h k = f a h k

-- ---- sectors

pub backed_none : (leaf : Leaf) (first : ℕ) → AreBacked leaf first 0
backed_none leaf first s low high = absurd (omega (arith, low, high))

pub backed_more : (leaf : Leaf) (first i : ℕ) → AreBacked leaf first i
    → IsOnBacking leaf (first + i) → AreBacked leaf first (i + 1)
backed_more leaf first i before one s low high = elim (cases_eq s (first + i)) [
  | inl same ↦ subst (λ n. IsOnBacking leaf n) (sym same) one
  | inr other ↦ before s low (omega (arith, high, other))
]

-- ---- the key

two_words : (key : Key) → key.count ≡ 0 → length (words_of_all (key ∷ [])) ≡ 2
two_words key none = ap (λ (ws : _). length ws) (append-nil (words_of key)) ∙ length-words_of key
    ∙ ap (λ n. 2 + n) none

abbrev part_or : Option LeafHand → ℕ
part_or None = 0
part_or (Some l) = l.part

its_part : {C B : Type 0} (h : Hand C B) (l : LeafHand) (n : ℕ) → h.leaves ≡ Some l → HasPart h n
    → l.part ≡ n
its_part h l n is has = ap part_or (sym is ∙ has.is) ∙ has.part_is

is_gone : (leaf : Leaf) (size first count : ℕ) (key : Key) → IsEmptyKey first count key
    → 1 ≤ count → count ≤ size → AreBacked leaf first count
    → IsGone (alone_at first count) leaf size key
is_gone leaf size first count key is some few backed =
    let long = is.size in
    let end = is.end in
    record {
      none = is.none;
      some = omega (arith, long, some);
      few = omega (arith, long, few);
      from = omega (arith, long, end);
      to = omega (arith, end);
      backed = λ s covers. backed s (let low = covers.0 in omega (arith, low, long, end))
          (let high = covers.1 in omega (arith, high, end));
    }

pub can_drop : {C B : Type 0} (h : Hand C B) (parts number first count slot : ℕ) (key : Key)
    (leaves : LeafHand) (j : Journal) (b : BucketsPart) (cached : Cached) → h.leaves ≡ Some leaves
    → h.journal ≡ Some j → h.buckets ≡ Some b → HasPart h (6 + number % (parts - 6))
    → slice_get leaves.cache.slots slot ≡ Some (Some cached) → HasPlaceFor cached number j key
    → IsEmptyKey first count key → 1 ≤ count → count ≤ b.buckets.size
    → AreBacked cached.leaf first count
    → CanDrop h parts number (alone_at first count) key
can_drop h parts number first count slot key leaves j b cached is is_j is_b part there place empty some
    few backed = record {
      slot = slot;
      cached = cached;
      can = record {
        leaves = leaves;
        is = is;
        its_part = its_part h leaves (6 + number % (parts - 6)) is part;
        can = record {
          there = there;
          number_is = place.number_is;
          spare = place.spare;
          extents = All-cons IsExtent key []
              (let long = empty.size in let end = empty.end in omega (arith, long, end))
              (All-nil IsExtent);
          within = All-cons (LiesWithin 0 cached.leaf.from cached.leaf.end) key [] place.within
              (All-nil (LiesWithin 0 cached.leaf.from cached.leaf.end));
        };
        free = place.free;
        journal = j;
        is_journal = is_j;
        room = subst (λ n. HasRoom j n) (sym (two_words key empty.none)) place.room;
        numbered = place.numbered;
        buckets = b;
        are_buckets = is_b;
      };
      may = record {
        some = λ none. cc;
        alone = refl;
        gone = All-cons (IsGone (alone_at first count) cached.leaf b.buckets.size) key []
            (is_gone cached.leaf b.buckets.size first count key empty some few backed)
            (All-nil (IsGone (alone_at first count) cached.leaf b.buckets.size));
      };
    }

-- ---- hands

module _ {C B : Type 0} where
  -- a hand with leaves alone, and then with these three
  pub three : (a b : Hand C B) (l : LeafHand) (k : BucketsPart) (j : Journal) → a.leaves ≡ Some l
      → b ≡ record (empty {C = C} {B = B}) {
        leaves = a.leaves;
        buckets = Some k;
        journal = Some j;
      } → kinds b ≡ all_three l.part
  three a b l k j is then = ap (λ (h : Hand C B). kinds h) then
      ∙ ap (λ (o : Option LeafHand). record (all_three 0) { leaves = part_of o }) is

  -- keys came in, and the same parts are in hand
  pub put_kinds : (a b : Hand C B) (slot : ℕ) (cached : Cached) (key : Key)
      → HasPutIn a b slot cached (key ∷ []) → kinds b ≡ kinds a
  put_kinds a b slot cached key put = ap (λ (h : Hand C B). kinds h) put.is
      ∙ ap (λ (o : Option LeafHand). record (kinds a) { leaves = part_of o; journal = true })
      (sym put.was)
      ∙ ap (λ (o : Option Journal). record (kinds a) { journal = is_some o }) (sym put.was_journal)

pub can_under : {C B : Type 0} (h : Hand C B) (parts count number : ℕ) (r q : Range) (key : Key)
    → parts ≡ count → q ≡ r → CanDrop h parts number r key → CanDrop h count number q key
can_under h parts count number r q key same is can =
    subst (λ (x : Range). CanDrop h count number x key) (sym is)
    (subst (λ n. CanDrop h n number r key) same can)

-- ---- what was waited for

module _ {C B : Type 0} (cache_facts : C → DiskFacts) (backing_facts : B → DiskFacts) where
  pub none_both : (u v w : View cache_facts backing_facts) → HasDone cache_facts backing_facts [] u v
      → HasDone cache_facts backing_facts [] v w → HasDone cache_facts backing_facts [] u w
  none_both u v w a b = done_both cache_facts backing_facts [] [] u v w a b

  -- the buckets were taken, and the journal
  pub took : (u v w x y : View cache_facts backing_facts)
      → IsCoreSeat cache_facts backing_facts v → Waited (m cache_facts backing_facts) u v
      → IsCoreSeat cache_facts backing_facts w → Waited (m cache_facts backing_facts) v w
      → IsCoreSeat cache_facts backing_facts x → Waited (m cache_facts backing_facts) w x
      → IsCoreSeat cache_facts backing_facts y → Waited (m cache_facts backing_facts) x y
      → HasDone cache_facts backing_facts [] u y
  took u v w x y sv a sw b sx c sy d = none_both u w y
      (none_both u v w (waited_done cache_facts backing_facts u v sv a)
      (waited_done cache_facts backing_facts v w sw b))
      (none_both w x y (waited_done cache_facts backing_facts w x sx c)
      (waited_done cache_facts backing_facts x y sy d))

  pub read_same : (v w : View cache_facts backing_facts) → HasReadOne cache_facts backing_facts v w
      → Same (m cache_facts backing_facts) v w
  read_same v w (inl none) = none.same
  read_same v w (inr one) = one.1.same

  -- on the way to a leaf, and while parts are taken, the claim stays
  pub range_kept : (u v w : View cache_facts backing_facts)
      → HasReadOne cache_facts backing_facts u v → HasDone cache_facts backing_facts [] v w
      → (note cache_facts backing_facts w).range ≡ (note cache_facts backing_facts u).range
  range_kept u v w read done = let way = way_of cache_facts backing_facts u v read in
      range_still cache_facts backing_facts v w done
      ∙ ap (λ (n : Note). n.range) (way_note cache_facts backing_facts way.0 u v way.1 way.2)
