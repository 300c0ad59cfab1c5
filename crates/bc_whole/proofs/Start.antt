-- A sound opening of this layout: a root over one leaf, a chain of one set, and no key.
use Rattle.std.proofs.Common.{◌≡◌, ◌≢◌, ◌⊎◌, inl, inr, ℕ, zero, suc, ◌+◌, ◌*◌, ◌/◌, ◌<◌, ◌≤◌, Bool, true, false, List, [], ◌∷◌, Option, Some, None, refl, sym, ap, subst, arith, if◌then◌else◌, ◌==◌, ◌||◌, nat_le}
use Rattle.bc_model.specs.Sector.{Image, Value}
use Rattle.bc_books.specs.Shelves.{Purpose, Priorities, Tree}
use Rattle.bc_books.specs.Marks.{Unmarked, Metadata}
use Rattle.bc_books.specs.Books.{Setup}
use Rattle.bc_books.specs.Books as books
use Rattle.bc_data.specs.Data as flow
use Rattle.bc_data.specs.Laws.{IsPair}
use Rattle.bc_meta.specs.Facts.{In, Stand}
use Rattle.bc_meta.specs.Entries.{Entry}
use Rattle.bc_meta.specs.Tree.{Owner, Keeps}
use Rattle.bc_meta.specs.Layout.{entry_at, node_sets}
use Rattle.bc_meta.specs.Chain.{EachOf}
use Rattle.bc_meta.specs.Records.{no_owner}
use Rattle.bc_meta.specs.Places.{IsSoundImage}
use Rattle.bc_meta.specs.Laws as meta
use Rattle.bc_meta.proofs.Lists.{by_test, by_le}
use Rattle.bc_meta.proofs.Example.{at_list}
use Rattle.bc_leaves.specs.Parts.{Leaf, InnerNode, Draft, Free, NoNode, NoChange, InRange, IsLive, leaf_owner, inner_owner}
use Rattle.bc_leaves.specs.Parts as parts
use Rattle.bc_leaves.specs.Fits.{Fits, Partners, LeafNode, LeafKeys, DraftFits, InnerFits, journal_of}
use Rattle.bc_leaves_runs.proofs.Example.{all_but, no_leaf, no_inner, not_in, only_0}
use Rattle.bc_whole.specs.State.{Opening}
use Rattle.bc_whole.specs.Together.{gen_at}
use Rattle.bc_whole.specs.Laws.{IsSound}
use Rattle.bc_whole.proofs.Toy.{entry_1, entry_read, layout}

abbrev pub old_gens : List ℕ
old_gens = 300 ∷ 300 ∷ 300 ∷ 300 ∷ 300 ∷ 300 ∷ 300 ∷ 300 ∷ 300 ∷ 300 ∷ 300 ∷ []

abbrev pub old_bytes : Value
old_bytes = 44 ∷ 44 ∷ 44 ∷ 44 ∷ 44 ∷ 44 ∷ 44 ∷ 44 ∷ 44 ∷ 44 ∷ 44 ∷ []

abbrev pub table : List Value
table = (1 ∷ []) ∷ [] ∷ [] ∷ [] ∷ [] ∷ [] ∷ [] ∷ [] ∷ (8 ∷ 2 ∷ []) ∷ [] ∷ [] ∷ [] ∷ (0 ∷ 0 ∷ [])
    ∷ old_bytes ∷ []

abbrev pub picture : Image
picture t = if t == 32 then 32 ∷ 1 ∷ [] else at_list table t

abbrev pub ring : ℕ → List Entry
ring b = if b == 0 then entry_1 ∷ [] else []

abbrev pub ring_next : ℕ → ℕ
ring_next b = if b == 0 then 1 else 4 * b

abbrev pub owners : ℕ → Owner
owners q = if q == 8 then record { word = 32; leaf = false } else (if q == 2 then record {
  word = 8;
  leaf = true;
} else no_owner)

abbrev pub store : meta.Opening
store = record {
  image = picture;
  owners = owners;
  newest = entry_1;
  older = [];
  ring = ring;
  ring_next = ring_next;
  bucket = 0;
  unused = all_but (8 ∷ 2 ∷ []);
  chain = 3 ∷ [];
  gens = old_gens;
  spare = 4 ∷ [];
}

-- ---- the records are sound

one_number : (x : Entry) → In x (entry_1 ∷ []) → x ≡ entry_1
one_number x (inl e) = e
one_number x (inr n) = absurd n

pub some_same : {A : Type 0} → (a b : A) → Some a ≡ Some b → a ≡ b
some_same a b e = cc

-- what holds of each number below another
abbrev pub Below : ℕ → (ℕ → Type 0) → Type 0
Below zero P = Unit {0}
Below (suc n) P = P 0 × Below n (λ k. P (suc k))

pub each_below : (n : ℕ) (P : ℕ → Type 0) → Below n P → (p : ℕ) → p < n → P p
each_below zero P h p lt = absurd (omega arith)
each_below (suc n) P h zero lt = h.0
each_below (suc n) P h (suc p) lt = each_below n (λ k. P (suc k)) h.1 p (omega arith)

one_entry : (e : Entry) (p : ℕ) → p < 8 → entry_read tt (picture p) ≡ Some e → e ≡ entry_1
one_entry e p lt = each_below 8 (λ k. entry_read tt (picture k) ≡ Some e → e ≡ entry_1) (
  (λ h. sym (some_same entry_1 e h)),
  (
    (λ h. absurd (cc)),
    (
      (λ h. absurd (cc)),
      (
        (λ h. absurd (cc)),
        (
          (λ h. absurd (cc)),
          (
            (λ h. absurd (cc)),
            (
              (λ h. absurd (cc)),
              (
                (λ h. absurd (cc)),
                tt,
              ),
            ),
          ),
        ),
      ),
    ),
  ),
) p lt

stray : (b p : ℕ) (e : Entry) → b < 2 → (if nat_le (suc p) (4 * b + 4) then entry_read tt
    (picture p) else None) ≡ Some e → e ≡ entry_1
stray b p e lt = by_le (suc p) (4 * b + 4) (λ t. (if t then entry_read tt (picture p) else None)
    ≡ Some e → e ≡ entry_1) (λ le h. one_entry e p (omega arith) h) (λ _ h. absurd (cc))

sound_image : IsSoundImage layout owners picture entry_1 [] ring ring_next 0
sound_image = record {
  sound = record {
    entries = record {
      greatest = λ x i. let e = ap (λ (y : Entry). y.number) (one_number x i) in omega arith;
      down = (refl, (omega arith), inl refl, (λ x i n. one_number x i), refl);
    };
    whole = ((λ e. absurd (cc)), ((λ e. absurd (cc)), tt));
  };
  room = record {
    stands = λ b x. by_test b 0 (λ t. In x (if t then entry_1 ∷ [] else [])
        → In x (entry_1 ∷ [])) (λ _ i. i) (λ _ i. absurd i);
    kept = λ x i. (0, i);
  };
  stands = λ b lt. by_test b 0 (λ t. Stand (λ e. 1) (entry_at layout picture b) (4 * b)
      (if t then entry_1 ∷ [] else []) (if t then 1 else 4 * b))
      (λ e. subst (λ n. Stand (λ e. 1) (entry_at layout picture n) (4 * n) (entry_1 ∷ []) 1) (sym e)
      (0, refl, refl, refl)) (λ _. refl);
  inside = λ b lt. by_test b 0 (λ t. (if t then 1 else 4 * b) ≤ 4 * b + 4) (λ _. omega arith)
      (λ _. omega arith);
  only_ring = λ b ge. by_test b 0 (λ t. (if t then entry_1 ∷ [] else []) ≡ [])
      (λ e. absurd (omega arith)) (λ _. refl);
  current = omega arith;
  stray = λ b p e lt ge f. inr (inl (stray b p e lt f));
}

keeps : Keeps (all_but (8 ∷ 2 ∷ [])) (node_sets layout owners picture) 1 8
keeps p is = (
  not_in (8 ∷ 2 ∷ []) p is 8 (inl refl),
  (
    not_in (8 ∷ 2 ∷ []) p is 2 (inr (inl refl)),
    tt,
  ),
)

-- what is not listed is unused
pub off_list : (ps : List ℕ) (q : ℕ) → (In q ps → ⊥) → all_but ps q ≡ true
off_list [] q out = refl
off_list (p ∷ ps) q out = by_test q p (λ t. (if t then false else all_but ps q) ≡ true)
    (λ e. absurd (out (inl e))) (λ _. off_list ps q (λ i. out (inr i)))

-- a list of one bucket
pub each_one : (P : ℕ → Type 0) (a : ℕ) → P a → EachOf P (a ∷ [])
each_one P a h q (inl e) = subst P (sym e) h
each_one P a h q (inr n) = absurd n

in_two : (a b q : ℕ) (P : Type 0) → (q ≡ a → P) → (q ≡ b → P) → In q (a ∷ b ∷ []) → P
in_two a b q P f g (inl e) = f e
in_two a b q P f g (inr (inl e)) = g e
in_two a b q P f g (inr (inr n)) = absurd n

outside : (q : ℕ) → (q < 2) ⊎ (11 ≤ q) → all_but (8 ∷ 2 ∷ []) q ≡ true
outside q (inl lt) = off_list (8 ∷ 2 ∷ []) q (in_two 8 2 q ⊥ (λ e. omega arith) (λ e. omega arith))
outside q (inr ge) = off_list (8 ∷ 2 ∷ []) q (in_two 8 2 q ⊥ (λ e. omega arith) (λ e. omega arith))

pub sound_store : meta.IsSound layout store
sound_store = record {
  whole = sound_image;
  keeps = keeps;
  outside = outside;
  named = (refl, (refl, tt));
  chain = refl;
  distinct = ((λ i. i), tt);
  free = each_one (λ q. all_but (8 ∷ 2 ∷ []) q ≡ true) 3 refl;
  spare = each_one (λ q. (all_but (8 ∷ 2 ∷ []) q ≡ true) × (In q (3 ∷ []) → ⊥) × (2 ≤ q)
      × (q < 11)) 4 (
        refl,
        (λ i. elim i [ inl e ↦ absurd (cc) | inr n ↦ n ]),
        (omega arith),
        (omega arith),
      );
  spare_distinct = ((λ i. i), tt);
  spare_count = refl;
}

-- ---- the books

abbrev pub first_list : ℕ → Option Purpose
first_list b = if b == 4 then Some Priorities else (if (b == 5) ||
    ((b == 6) || ((b == 9) || (b == 10))) then Some Tree else None)

abbrev pub setup : Setup
setup = record {
  bucket = λ t. t / 4;
  size = 8;
  sets = 1;
  fixed = λ b. nat_le b 1 || nat_le 11 b;
  index = λ s. None;
  leaf = λ s. 0;
  version = gen_at old_gens;
  last_gc = gen_at old_gens;
  mark = λ b. if nat_le b 3 || ((b == 8) || nat_le 11 b) then Metadata else Unmarked;
  listed = first_list;
  node = λ b. (b == 8) || (b == 2);
  chain = λ b. b == 3;
}

is_of : (b c : ℕ) (P : ℕ → Type 0) → P c → (b == c) ≡ true → P b
is_of b c P h = by_test b c (λ z. z ≡ true → P b) (λ is _. subst P (sym is) h) (λ _ x. absurd (cc))

one_of : (b c d : ℕ) (P : ℕ → Type 0) → P c → P d → ((b == c) || (b == d)) ≡ true → P b
one_of b c d P h g = by_test b c (λ z. (z || (b == d)) ≡ true → P b) (λ is _. subst P (sym is) h)
    (λ _ x. is_of b d P g x)

-- a bucket of superblock, journal or uuid table
fixed_has : (b : ℕ) → (nat_le b 1 || nat_le 11 b) ≡ true → (setup.listed b ≡ None)
    × (setup.chain b ≡ false) × (setup.node b ≡ false) × (setup.mark b ≡ Metadata)
fixed_has b e = by_le b 1 (λ t. (t || nat_le 11 b) ≡ true → Fixed) (λ le _. by_test b 0 (λ _. Fixed)
    (λ is. subst Has (sym is) (refl, refl, refl, refl)) (λ ne. subst Has (one b le ne) (
      refl,
      refl,
      refl,
      refl,
    )))
    (λ gt. by_le 11 b (λ t. t ≡ true → Fixed) (λ ge _. high ge) (λ _ x. absurd (cc))) e
  where
    Has : ℕ → Type 0
    Has b = (setup.listed b ≡ None) × (setup.chain b ≡ false) × (setup.node b ≡ false)
        × (setup.mark b ≡ Metadata)

    Fixed : Type 0
    Fixed = Has b

    one : (b : ℕ) → b ≤ 1 → b ≢ 0 → 1 ≡ b
    one b le ne = omega arith

    miss : (c : ℕ) → b ≢ c → (b == c) ≡ false
    miss c ne = by_test b c (λ t. t ≡ false) (λ is. absurd (ne is)) (λ _. refl)

    behind : (b4 b5 b6 b9 b10 b3 b8 b2 low up : Bool) → b4 ≡ false → b5 ≡ false → b6 ≡ false
        → b9 ≡ false → b10 ≡ false → b3 ≡ false → b8 ≡ false → b2 ≡ false → low ≡ false → up ≡ true
        → ((if b4 then Some Priorities else (if b5 || (b6 || (b9 || b10)) then Some Tree else None))
        ≡ None) × (b3 ≡ false) × ((b8 || b2) ≡ false)
        × ((if low || (b8 || up) then Metadata else Unmarked) ≡ Metadata)
    behind b4 b5 b6 b9 b10 b3 b8 b2 low up e4 e5 e6 e9 e10 e3 e8 e2 el eu = (cc, e3, cc, cc)

    high : 11 ≤ b → Has b
    high ge = behind (b == 4) (b == 5) (b == 6) (b == 9) (b == 10) (b == 3) (b == 8) (b == 2)
        (nat_le b 3) (nat_le 11 b) (miss 4 (λ x. omega arith)) (miss 5 (λ x. omega arith))
        (miss 6 (λ x. omega arith)) (miss 9 (λ x. omega arith))
        (miss 10 (λ x. omega arith)) (miss 3 (λ x. omega arith)) (miss 8 (λ x. omega arith))
        (miss 2 (λ x. omega arith)) (by_le b 3 (λ t. t ≡ false) (λ le. absurd (omega arith))
        (λ _. refl)) (by_le 11 b (λ t. t ≡ true) (λ _. refl) (λ lt. absurd (omega arith)))

not_metadata : (b : ℕ) → (nat_le b 1 || nat_le 11 b) ≡ false → ((b == 8) || (b == 2)) ≡ false
    → (b == 3) ≡ false → (if nat_le b 3 || ((b == 8) || nat_le 11 b) then Metadata else Unmarked)
    ≡ Metadata → ⊥
not_metadata b =
    by_le b 1 (λ t. (t || nat_le 11 b) ≡ false → ((b == 8) || (b == 2)) ≡ false → (b == 3) ≡ false
    → Low) (λ _ x y z. absurd (cc))
    (λ n1. by_le 11 b (λ t. t ≡ false → ((b == 8) || (b == 2)) ≡ false → (b == 3) ≡ false
    → (if nat_le b 3 || ((b == 8) || t) then Metadata else Unmarked) ≡ Metadata → ⊥)
    (λ _ x y z. absurd (cc))
    (λ n11 _. by_test b 8 (λ t. (t || (b == 2)) ≡ false → (b == 3) ≡ false
    → (if nat_le b 3 || (t || false) then Metadata else Unmarked) ≡ Metadata → ⊥)
    (λ _ y z. absurd (cc))
    (λ n8. by_test b 2 (λ t. t ≡ false → (b == 3) ≡ false
    → (if nat_le b 3 || false then Metadata else Unmarked) ≡ Metadata → ⊥) (λ _ y z. absurd
    (cc))
    (λ n2 _. by_test b 3 (λ t. t ≡ false → (if nat_le b 3 || false then Metadata else Unmarked)
    ≡ Metadata → ⊥) (λ _ z. absurd (cc))
    (λ n3 _. by_le b 3 (λ t. (if t || false then Metadata else Unmarked) ≡ Metadata → ⊥)
    (λ le _. omega arith) (λ _ e. cc))))))
  where
    Low : Type 0
    Low = (if nat_le b 3 || ((b == 8) || nat_le 11 b) then Metadata else Unmarked) ≡ Metadata → ⊥

pub sound_books : books.IsSound setup
sound_books = record {
  window = λ b. (omega arith, omega arith);
  inside = λ s r e. absurd (cc);
  dirty = λ s r e. absurd (cc);
  spare = λ s r e. absurd (cc);
  fixed = fixed_has;
  node = λ b. one_of b 8 2 (λ b. (setup.listed b ≡ None) × (setup.chain b ≡ false)
      × (setup.mark b ≡ Metadata)) (refl, refl, refl) (refl, refl, refl);
  chain = λ b. is_of b 3 (λ b. (setup.listed b ≡ None) × (setup.mark b ≡ Metadata)) (refl, refl);
  plain = not_metadata;
  sets = ((λ j. 3), (λ i j x y e. omega arith), λ j lt. refl);
  next = ((λ j. 4), (λ i j x y e. omega arith), λ j lt. refl);
}

abbrev pub pair : flow.Opening
pair = record {
  books = setup;
  plain = false;
  cache = picture;
  backing = λ s. [];
  image = λ s. [];
}

pub sound_pair : IsPair pair
sound_pair = record {
  books = sound_books;
  agree = λ s r e. absurd (cc);
  plain = λ e. absurd (cc);
  image = λ s. refl;
}

-- ---- the parts

abbrev pub old_leaf : Leaf
old_leaf = record {
  first = 0;
  end = 8;
  bucket = 2;
  word = 8;
  role = Free;
  loaded = true;
  pending =
      [];
}

abbrev pub old_root : InnerNode
old_root = record {
  first = 0;
  end = 8;
  bucket = 8;
  word = 32;
  height = 0;
  role = Free;
  loaded =
      true;
}

abbrev pub held : parts.State
held = record {
  records = (meta.opened layout store).places.records;
  leaves = λ i. if i == 0 then old_leaf else no_leaf;
  inner_nodes = λ x. if x == 0 then old_root else no_inner;
  end = 8;
  change = NoChange;
  sent = λ q. [];
}

no_sent : (i : ℕ) → IsLive (held.leaves i).role → (held.records.nodes (held.leaves i).bucket).sent
    ≡ true → ⊥
no_sent i l e = cc

no_failed : (i : ℕ) → IsLive (held.leaves i).role → (held.records.nodes
    (held.leaves i).bucket).failed ≡ true → ⊥
no_failed i l e = cc

pub fits : Fits held
fits = record {
  leaves = record {
    node = only_0 (λ i x. IsLive x.role → LeafNode
        (held.records.nodes x.bucket) [] x) old_leaf no_leaf (λ _. record {
          last = λ s. refl;
          sets_inside = λ s out. refl;
          sent_inside = λ s out. refl;
          pending_inside = λ s out. refl;
        })
        (λ i l. absurd l);
    firm = only_0 (λ i x. IsLive x.role → ((held.records.nodes x.bucket).loose ≡ false)
        × ((held.records.nodes x.bucket).sets ≢ [])) old_leaf no_leaf
        (λ _. (refl, (λ e. absurd (cc)))) (λ i l. absurd l);
    keys = only_0 (λ i x. IsLive x.role → LeafKeys (journal_of held.records)
        (held.records.nodes x.bucket).sets [] x) old_leaf no_leaf
        (λ _. record {
          waiting = λ s r. refl;
          sealed = λ ne. absurd (ne refl);
          index = λ s r. refl;
          ordered = tt;
          kept = λ y i. elim i [ inl a ↦ absurd a | inr n ↦ absurd n ];
          low = λ ne. absurd (ne refl);
          sent_low = λ r. absurd r;
        })
        (λ i l. absurd l);
    used = only_0 (λ i x. IsLive x.role → held.records.unused x.bucket ≡ false) old_leaf no_leaf
        (λ _. refl) (λ i l. absurd l);
    below = only_0 (λ i x. IsLive x.role → x.end ≤ 8) old_leaf no_leaf (λ _. omega arith)
        (λ i l. absurd l);
    fresh = λ i l e. absurd (no_sent i l e);
    lost = λ i l e. absurd (no_failed i l e);
    apart = λ i k s. only_0 (λ i x. IsLive x.role → IsLive (held.leaves k).role → InRange x s
        → InRange (held.leaves k) s → (i ≡ k) ⊎ Partners x.role
        (held.leaves k).role) old_leaf no_leaf
        (λ _. only_0 (λ k y. IsLive y.role → InRange old_leaf s → InRange y s → (0 ≡ k)
        ⊎ Partners Free y.role) old_leaf no_leaf (λ _ _ _. inl refl) (λ k l. absurd l) k)
        (λ i l. absurd l) i;
    drafts = only_0 (λ i x. x.role ≡ Draft → DraftFits
        (held.records.nodes x.bucket) [] x) old_leaf no_leaf (λ e. absurd (cc)) (λ i e. absurd
        (cc));
  };
  tree = record {
    inner = only_0 (λ i x. IsLive x.role → InnerFits held.leaves held.inner_nodes NoChange
        (held.records.nodes x.bucket) i x) old_root no_inner
        (λ _. record {
          firm = refl;
          some = λ e. absurd (cc);
          now = (
            (omega arith),
            (
              0,
              tt,
              refl,
              refl,
              refl,
              refl,
            ),
            refl,
          );
          still = λ c s e. (
            (omega arith),
            (
              0,
              tt,
              refl,
              refl,
              refl,
              refl,
            ),
            refl,
          );
          next = λ e. absurd (cc);
          lost = λ e. absurd (cc);
        })
        (λ i l. absurd l);
    inner_used = only_0 (λ i x. IsLive x.role → held.records.unused x.bucket
        ≡ false) old_root no_inner (λ _. refl) (λ i l. absurd l);
  };
  roots = record {
    newest = (0, tt, refl, refl, refl, refl, refl);
    entry = λ ne. absurd (ne refl);
    newest_stays = λ _. (0, tt, refl, refl, refl, refl, refl);
    entry_stays = λ c ne. absurd (ne refl);
    order = tt;
    waiting = λ s _. refl;
    sealed = λ ne. absurd (ne refl);
    index = λ s ge. refl;
  };
  buckets = record {
    one_leaf = λ i k. only_0 (λ i x. x.role ≢ NoNode → (held.leaves k).role ≢ NoNode
        → x.bucket ≡ (held.leaves k).bucket → i ≡ k) old_leaf no_leaf
        (λ _. only_0 (λ k y. y.role ≢ NoNode → 2 ≡ y.bucket → 0 ≡ k) old_leaf no_leaf (λ _ _. refl)
        (λ k ne. absurd (ne refl)) k)
        (λ i ne. absurd (ne refl)) i;
    one_inner = λ i k. only_0 (λ i x. x.role ≢ NoNode → (held.inner_nodes k).role ≢ NoNode
        → x.bucket ≡ (held.inner_nodes k).bucket → i ≡ k) old_root no_inner
        (λ _. only_0 (λ k y. y.role ≢ NoNode → 8 ≡ y.bucket → 0 ≡ k) old_root no_inner (λ _ _. refl)
        (λ k ne. absurd (ne refl)) k)
        (λ i ne. absurd (ne refl)) i;
    one_kind = λ i k. only_0 (λ i x. x.role ≢ NoNode → (held.inner_nodes k).role ≢ NoNode
        → x.bucket ≢ (held.inner_nodes k).bucket) old_leaf no_leaf
        (λ _. only_0 (λ k y. y.role ≢ NoNode → 2 ≢ y.bucket) old_root no_inner (λ _ e. absurd (cc))
        (λ k ne. absurd (ne refl)) k)
        (λ i ne. absurd (ne refl)) i;
    named = only_0 (λ i x. x.role ≢ NoNode → (held.records.nodes x.bucket).owner
        ≡ leaf_owner x) old_leaf no_leaf (λ _. refl) (λ i ne. absurd (ne refl));
    inner_named = only_0 (λ i x. x.role ≢ NoNode → (held.records.nodes x.bucket).owner
        ≡ inner_owner x) old_root no_inner (λ _. refl) (λ i ne. absurd (ne refl));
  };
  quiet = record {
    calm = λ _. only_0 (λ i x. IsLive x.role → x.role ≡ Free) old_leaf no_leaf (λ _. refl)
        (λ i l. absurd l);
    calm_inner = λ _. only_0 (λ i x. IsLive x.role → x.role ≡ Free) old_root no_inner (λ _. refl)
        (λ i l. absurd l);
  };
}

-- ---- all of it

abbrev pub opening : Opening
opening = record { flow = pair; layout = layout; before = 0; store = store }

used_node : (q : ℕ) → all_but (8 ∷ 2 ∷ []) q ≡ false → ((q == 8) || (q == 2)) ≡ true
used_node q = by_test q 8 (λ t. (if t then false else (if q == 2 then false else true)) ≡ false
    → (t || (q == 2)) ≡ true) (λ _ _. refl)
    (λ _. by_test q 2 (λ t. (if t then false else true) ≡ false → t ≡ true) (λ _ _. refl)
    (λ _ e. absurd (cc)))

pub sound : IsSound opening held
sound = record {
  pair = sound_pair;
  store = sound_store;
  fits = fits;
  records = refl;
  image = refl;
  index = λ s. refl;
  gens = λ b. refl;
  chain = λ b. refl;
  nodes = used_node;
}
