-- Parts of a few slots, and runs of them that use most events.
use Rattle.std.proofs.Common.{◌≡◌, ◌≢◌, ◌⊎◌, inl, inr, ℕ, ◌+◌, ◌<◌, ◌≤◌, ◌^◌, Bool, true, false, List, [], ◌∷◌, Option, Some, None, refl, sym, ap, ◌∙◌, subst, arith, if◌then◌else◌, ◌==◌, replicate, lit<, lit≤}
use Rattle.bc_key.specs.declared.key.Key.{Key}
use Rattle.bc_key.specs.Ptr.{no_ptr}
use Rattle.bc_key.specs.Key.{pointer_of, start_of}
use Rattle.bc_meta.specs.Tree.{Child, IsNamed, Keeps, NodeSet, NodeSets, Owner, children_of, set_keys}
use Rattle.bc_meta.specs.Entries.{Entry}
use Rattle.bc_meta.specs.Records.{HasRoom, IsReadable, Nothing, no_owner, opened_records}
use Rattle.bc_meta.specs.Facts.{In}
use Rattle.bc_meta.specs.Keys.{Ref, covers, ref_by}
use Rattle.bc_meta.proofs.Lists.{by_test, decide}
use Rattle.bc_meta.proofs.Example.{no_more}
use Rattle.bc_leaves.specs.Parts.{AllFrom, AllUpTo, Draft, Free, InRange, InnerNode, IsLive, Leaf, Leaving, NoChange, NoNode, Pending, Role, State, Stays, inner_node_of, inner_owner, keys_in_leaf, leaf_owner, node_of}
use Rattle.bc_leaves.specs.Events.{Barrier, BeginChange, Event, Insert, Install, MakeDurable, NewInner, NewLeaf, Seal, SealRoot, SetParent, WriteEntry, WriteSet}
use Rattle.bc_leaves.specs.Enabled.{CanBegin, CanSealNext, IsEnabled, IsRun, IsStable}
use Rattle.bc_leaves.specs.Fits.{DraftFits, Fits, InnerFits, LeafKeys, LeafNode, Partners, journal_of}
use Rattle.bc_leaves.specs.Rows.{Fills}
use Rattle.bc_leaves.specs.Keys.{Speaks, last_said, ref_said}
use Rattle.bc_leaves.specs.After.{after, fold}
use Rattle.bc_leaves.proofs.Pend.{front_hit, front_miss}
use Rattle.bc_leaves.proofs.Said.{spoken_range}
use Rattle.bc_leaves_runs.specs.Example.{HasExample, IsStart, children}

-- a key of inode 0 that is dirty, with one pointer
abbrev pub key_at : (end size offset : ℕ) → end < 2 ^ 64 → size < 2 ^ 16 → offset < 2 ^ 43 → Key
key_at end size offset end_fits size_fits offset_fits =
    record {
      inode = 0;
      end = end;
      size = size;
      dirty = true;
      csum = 0;
      count = 1;
      ptrs = record { dev = 0; offset = offset; generation = 0; dev_fits = lit< tt; offset_fits = offset_fits; generation_fits = lit< tt } ∷ replicate 5 no_ptr;
      inode_fits = lit< tt;
      end_fits = end_fits;
      size_fits = size_fits;
      csum_fits = lit< tt;
      count_fits = lit≤ tt;
      six_places = refl;
      no_more_ptrs = no_more (record { dev = 0; offset = offset; generation = 0; dev_fits = lit< tt; offset_fits = offset_fits; generation_fits = lit< tt });
    }

-- of sectors 1 and 2, of 5, and of 1
abbrev pub key_a : Key
key_a = key_at 3 2 20 (lit< tt) (lit< tt) (lit< tt)

abbrev pub key_b : Key
key_b = key_at 6 1 30 (lit< tt) (lit< tt) (lit< tt)

abbrev pub key_c : Key
key_c = key_at 2 1 40 (lit< tt) (lit< tt) (lit< tt)

abbrev pub keys_set : ℕ → List Key → NodeSet
keys_set seq keys = record { seq = seq; keys = keys; children = []; rest = [] }

abbrev pub children_set : ℕ → List Child → NodeSet
children_set seq children = record { seq = seq; keys = []; children = children; rest = [] }

-- entry 1 has a key that the leaf lacks
abbrev pub entry_1 : Entry
entry_1 = record { number = 1; last_seq = 1; root = 2; word = 102; level = 1; prio = 0; keys = key_a ∷ []; rest = [] }

abbrev pub child : ℕ → ℕ → Child
child end bucket = record { end = end; bucket = bucket; word = 100 + bucket; gone = false }

abbrev pub content : NodeSets
content q = if q == 2 then children_set 6 (child 8 3 ∷ []) ∷ [] else (if q == 3 then keys_set 5 [] ∷ [] else [])

-- what the nodes are read with
abbrev pub names : ℕ → Owner
names q = if q == 2 then record { word = 102; leaf = false } else (if q == 3 then record { word = 103; leaf = true } else no_owner)

abbrev pub ring : ℕ → List Entry
ring b = if b == 0 then entry_1 ∷ [] else []

abbrev pub all_but : List ℕ → ℕ → Bool
all_but [] q = true
all_but (p ∷ ps) q = if q == p then false else all_but ps q

abbrev pub no_leaf : Leaf
no_leaf = record { first = 0; end = 0; bucket = 0; word = 0; role = NoNode; loaded = false; pending = [] }

abbrev pub no_inner : InnerNode
no_inner = record { first = 0; end = 0; bucket = 0; word = 0; height = 0; role = NoNode; loaded = false }

abbrev pub old_leaf : Leaf
old_leaf = record { first = 0; end = 8; bucket = 3; word = 103; role = Free; loaded = true; pending = record { number = 1; key = key_a } ∷ [] }

abbrev pub old_root : InnerNode
old_root = record { first = 0; end = 8; bucket = 2; word = 102; height = 0; role = Free; loaded = true }

abbrev pub start : State
start = record {
  records = opened_records names content entry_1 [] ring 0 (all_but (2 ∷ 3 ∷ []));
  leaves = λ i. if i == 0 then old_leaf else no_leaf;
  inner_nodes = λ x. if x == 0 then old_root else no_inner;
  end = 8;
  change = NoChange;
  sent = λ p. [];
}

abbrev pub new_leaf : ℕ → ℕ → ℕ → Leaf
new_leaf first end bucket = record { first = first; end = end; bucket = bucket; word = 100 + bucket; role = Draft; loaded = false; pending = [] }

abbrev pub second_root : InnerNode
second_root = record { first = 0; end = 8; bucket = 6; word = 106; height = 0; role = Draft; loaded = false }

-- an entry is sealed and made durable
abbrev pub insert_run : List Event
insert_run = Insert 0 key_b ∷ Seal 1 0 [] ∷ Barrier ∷ WriteEntry [] ∷ Barrier ∷ MakeDurable ∷ []

-- the leaf is split, under a new root
abbrev pub split_run : List Event
split_run =
    NewLeaf 1 (new_leaf 0 4 4) (keys_set 7 (key_a ∷ [])) [] ∷ NewLeaf 2 (new_leaf 4 8 5) (keys_set 8 (key_b ∷ [])) [] ∷ NewInner 1 second_root (children_set 9 (child 4 4 ∷ child 8 5 ∷ [])) [] ∷ Barrier
    ∷ BeginChange 0 8 (0 ∷ []) (1 ∷ 2 ∷ []) (0 ∷ []) (1 ∷ []) (all_but (2 ∷ 3 ∷ 4 ∷ 5 ∷ 6 ∷ []))
    ∷ SealRoot 1 0 [] 1 ∷ Barrier ∷ WriteEntry [] ∷ Barrier ∷ MakeDurable ∷ Install (all_but (4 ∷ 5 ∷ 6 ∷ [])) ∷ []

-- entry 4 needs no older one; then the new leaf gets its key as a further set
abbrev pub set_run : List Event
set_run = Insert 1 key_c ∷ Seal 4 0 [] ∷ Barrier ∷ WriteEntry [] ∷ Barrier ∷ MakeDurable ∷ WriteSet 1 (keys_set 7 (key_c ∷ [])) [] ∷ Barrier ∷ []

-- the other leaf is rewritten to the bucket that was given up, by a further set of the root
abbrev pub rewrite_run : List Event
rewrite_run =
    NewLeaf 3 (new_leaf 4 8 3) (keys_set 10 (key_b ∷ [])) [] ∷ Barrier
    ∷ BeginChange 4 8 (2 ∷ []) (3 ∷ []) [] [] (all_but (3 ∷ 4 ∷ 5 ∷ 6 ∷ [])) ∷ SetParent 1 (children_set 9 (child 8 3 ∷ [])) [] ∷ Barrier ∷ Install (all_but (3 ∷ 4 ∷ 6 ∷ []))
    ∷ Seal 5 0 [] ∷ Barrier ∷ WriteEntry [] ∷ Barrier ∷ MakeDurable ∷ []

abbrev pub inserted : State
inserted = fold start insert_run

abbrev pub split : State
split = fold inserted split_run

abbrev pub set : State
set = fold split set_run

abbrev pub rewritten : State
rewritten = fold set rewrite_run

-- the two leaves are merged: the first child's end goes, the second gets the new bucket
abbrev pub merge_run : List Event
merge_run =
    NewLeaf 2 (new_leaf 0 8 5) (keys_set 11 (key_c ∷ key_b ∷ key_a ∷ [])) [] ∷ Barrier
    ∷ BeginChange 0 8 (1 ∷ 3 ∷ []) (2 ∷ []) [] [] (all_but (3 ∷ 4 ∷ 5 ∷ 6 ∷ [])) ∷ SetParent 1 (children_set 9 (record { end = 4; bucket = 0; word = 0; gone = true } ∷ child 8 5 ∷ [])) [] ∷ Barrier ∷ Install (all_but (5 ∷ 6 ∷ [])) ∷ []

abbrev pub higher_root : InnerNode
higher_root = record { first = 0; end = 8; bucket = 3; word = 103; height = 1; role = Draft; loaded = false }

abbrev pub merged : State
merged = fold rewritten merge_run

-- a root above the root
abbrev pub grow_run : List Event
grow_run =
    NewInner 2 higher_root (children_set 12 (child 8 6 ∷ [])) [] ∷ Barrier
    ∷ BeginChange 0 0 [] [] [] (2 ∷ []) (all_but (3 ∷ 5 ∷ 6 ∷ [])) ∷ SealRoot 6 0 [] 2 ∷ Barrier ∷ WriteEntry [] ∷ Barrier ∷ MakeDurable ∷ Install (all_but (3 ∷ 5 ∷ 6 ∷ [])) ∷ []

abbrev pub grown : State
grown = fold merged grow_run

one : (x : Entry) → In x (entry_1 ∷ []) → x ≡ entry_1
one x (inl e) = e
one x (inr n) = absurd n

sound : IsReadable (entry_1 ∷ []) content entry_1 []
sound = record {
  entries = record {
    greatest = λ x i. let e = ap (λ (y : Entry). y.number) (one x i) in omega arith;
    down = (refl, (omega arith), inl refl, (λ x i n. one x i), refl);
  };
  whole = ((λ e. absurd (cc)), ((λ e. absurd (cc)), tt));
}

room : HasRoom (entry_1 ∷ []) entry_1 [] ring
room = record { stands = λ b x. by_test b 0 (λ t. In x (if t then entry_1 ∷ [] else []) → In x (entry_1 ∷ [])) (λ _ i. i) (λ _ i. absurd i); kept = λ x i. (0, i) }

-- what is not listed is the bucket of none that is
pub not_in : (ps : List ℕ) (p : ℕ) → all_but ps p ≡ true → (q : ℕ) → In q ps → q ≢ p
not_in [] p h q m = absurd m
not_in (x ∷ xs) p h q m =
    by_test_is p x
    (λ e. absurd (no (subst (λ (t : Bool). (if t then false else all_but xs p) ≡ true) e h)))
    (λ e. let h2 = subst (λ (t : Bool). (if t then false else all_but xs p) ≡ true) e h in elim m [ inl is ↦ (λ z. differ2 (p == x) (ap (λ (n : ℕ). n == x) (sym z ∙ is) ∙ same_x x) e) | inr r ↦ not_in xs p h2 q r ])
  where
    no : false ≡ true → ⊥
    no e = cc

    differ2 : (t : Bool) → t ≡ true → t ≡ false → ⊥
    differ2 t a b = cc

    same_x : (x : ℕ) → (x == x) ≡ true
    same_x x = by_test x x (λ t. t ≡ true) (λ _. refl) (λ ne. absurd (ne refl))

    by_test_is : {A : Type 0} → (a b : ℕ) → ((a == b) ≡ true → A) → ((a == b) ≡ false → A) → A
    by_test_is a b f g = elim (decide a b) [ inl e ↦ f (by_test a b (λ t. t ≡ true) (λ _. refl) (λ ne. absurd (ne e))) | inr ne ↦ g (by_test a b (λ t. t ≡ false) (λ e. absurd (ne e)) (λ _. refl)) ]

keeps : Keeps (all_but (2 ∷ 3 ∷ [])) content 1 2
keeps p is = (not_in (2 ∷ 3 ∷ []) p is 2 (inl refl), (not_in (2 ∷ 3 ∷ []) p is 3 (inr (inl refl)), tt))

-- slot 0 alone is in use
pub only_0 : {A : Type 0} → (P : ℕ → A → Type 0) (here none_ : A) → P 0 here → ((i : ℕ) → P i none_) → (i : ℕ) → P i (if i == 0 then here else none_)
only_0 P here none_ h f i = by_test i 0 (λ t. P i (if t then here else none_)) (λ e. subst (λ (n : ℕ). P n here) (sym e) h) (λ _. f i)

a_out : (s : ℕ) → (InRange old_leaf s → ⊥) → last_said (key_a ∷ []) s ≡ None
a_out s out = front_miss key_a [] s (λ c. out (let r = spoken_range key_a s c in let r0 : 1 ≤ s = r.0 in let r1 : s < 3 = r.1 in (omega arith, omega arith)))

no_sent : (i : ℕ) → IsLive (start.leaves i).role → (start.records.nodes (start.leaves i).bucket).sent ≡ true → ⊥
no_sent i l e = cc

no_failed : (i : ℕ) → IsLive (start.leaves i).role → (start.records.nodes (start.leaves i).bucket).failed ≡ true → ⊥
no_failed i l e = cc

fits : Fits start
fits = record {
  leaves = record {
    node = only_0 (λ i x. IsLive x.role → LeafNode (start.records.nodes x.bucket) [] x) old_leaf no_leaf (λ _. record { last = λ s. refl; sets_inside = λ s out. refl; sent_inside = λ s out. refl; pending_inside = a_out }) (λ i l. absurd l);
    firm = only_0 (λ i x. IsLive x.role → ((start.records.nodes x.bucket).loose ≡ false) × ((start.records.nodes x.bucket).sets ≢ [])) old_leaf no_leaf (λ _. (refl, (λ e. absurd (cc)))) (λ i l. absurd l);
    keys = only_0 (λ i x. IsLive x.role → LeafKeys (journal_of start.records) (start.records.nodes x.bucket).sets [] x) old_leaf no_leaf
        (λ _. record {
          waiting = λ s r. refl;
          sealed = λ ne. absurd (ne refl);
          index = λ s r. refl;
          ordered = (omega arith, tt);
          kept = λ y i. elim i [ inl a ↦ elim a [ inl e ↦ (entry_1, inl refl, (let n = ap (λ (p : Pending). p.number) e in omega arith), λ s c. front_hit key_a [] s (subst (λ (p : Pending). Speaks p.key s) e c)) | inr n ↦ absurd n ] | inr n ↦ absurd n ];
          low = λ ne. absurd (ne refl);
          sent_low = λ r. absurd r;
        })
        (λ i l. absurd l);
    used = only_0 (λ i x. IsLive x.role → start.records.unused x.bucket ≡ false) old_leaf no_leaf (λ _. refl) (λ i l. absurd l);
    below = only_0 (λ i x. IsLive x.role → x.end ≤ 8) old_leaf no_leaf (λ _. omega arith) (λ i l. absurd l);
    fresh = λ i l e. absurd (no_sent i l e);
    lost = λ i l e. absurd (no_failed i l e);
    apart = λ i k s. only_0 (λ i x. IsLive x.role → IsLive (start.leaves k).role → InRange x s → InRange (start.leaves k) s → (i ≡ k) ⊎ Partners x.role (start.leaves k).role) old_leaf no_leaf
        (λ _. only_0 (λ k y. IsLive y.role → InRange old_leaf s → InRange y s → (0 ≡ k) ⊎ Partners Free y.role) old_leaf no_leaf (λ _ _ _. inl refl) (λ k l. absurd l) k)
        (λ i l. absurd l) i;
    drafts = only_0 (λ i x. x.role ≡ Draft → DraftFits (start.records.nodes x.bucket) [] x) old_leaf no_leaf (λ e. absurd (cc)) (λ i e. absurd (cc));
  };
  tree = record {
    inner = only_0 (λ i x. IsLive x.role → InnerFits start.leaves start.inner_nodes NoChange (start.records.nodes x.bucket) i x) old_root no_inner
        (λ _. record { firm = refl; some = λ e. absurd (cc); now = ((omega arith), (0, tt, refl, refl, refl, refl), refl); still = λ c s e. ((omega arith), (0, tt, refl, refl, refl, refl), refl); next = λ e. absurd (cc); lost = λ e. absurd (cc) })
        (λ i l. absurd l);
    inner_used = only_0 (λ i x. IsLive x.role → start.records.unused x.bucket ≡ false) old_root no_inner (λ _. refl) (λ i l. absurd l);
  };
  roots = record {
    newest = (0, tt, refl, refl, refl, refl, refl);
    entry = λ ne. absurd (ne refl);
    newest_stays = λ _. (0, tt, refl, refl, refl, refl, refl);
    entry_stays = λ c ne. absurd (ne refl);
    order = tt;
    waiting = λ s _. refl;
    sealed = λ ne. absurd (ne refl);
    index = λ s ge. ap ref_said (a_out s (λ r. let r1 = r.1 in absurd (omega arith)));
  };
  buckets = record {
    one_leaf = λ i k. only_0 (λ i x. x.role ≢ NoNode → (start.leaves k).role ≢ NoNode → x.bucket ≡ (start.leaves k).bucket → i ≡ k) old_leaf no_leaf
        (λ _. only_0 (λ k y. y.role ≢ NoNode → 3 ≡ y.bucket → 0 ≡ k) old_leaf no_leaf (λ _ _. refl) (λ k ne. absurd (ne refl)) k)
        (λ i ne. absurd (ne refl)) i;
    one_inner = λ i k. only_0 (λ i x. x.role ≢ NoNode → (start.inner_nodes k).role ≢ NoNode → x.bucket ≡ (start.inner_nodes k).bucket → i ≡ k) old_root no_inner
        (λ _. only_0 (λ k y. y.role ≢ NoNode → 2 ≡ y.bucket → 0 ≡ k) old_root no_inner (λ _ _. refl) (λ k ne. absurd (ne refl)) k)
        (λ i ne. absurd (ne refl)) i;
    one_kind = λ i k. only_0 (λ i x. x.role ≢ NoNode → (start.inner_nodes k).role ≢ NoNode → x.bucket ≢ (start.inner_nodes k).bucket) old_leaf no_leaf
        (λ _. only_0 (λ k y. y.role ≢ NoNode → 3 ≢ y.bucket) old_root no_inner (λ _ e. absurd (cc)) (λ k ne. absurd (ne refl)) k)
        (λ i ne. absurd (ne refl)) i;
    named = only_0 (λ i x. x.role ≢ NoNode → (start.records.nodes x.bucket).owner ≡ leaf_owner x) old_leaf no_leaf (λ _. refl) (λ i ne. absurd (ne refl));
    inner_named = only_0 (λ i x. x.role ≢ NoNode → (start.records.nodes x.bucket).owner ≡ inner_owner x) old_root no_inner (λ _. refl) (λ i ne. absurd (ne refl));
  };
  quiet = record {
    calm = λ _. only_0 (λ i x. IsLive x.role → x.role ≡ Free) old_leaf no_leaf (λ _. refl) (λ i l. absurd l);
    calm_inner = λ _. only_0 (λ i x. IsLive x.role → x.role ≡ Free) old_root no_inner (λ _. refl) (λ i l. absurd l);
  };
}

-- any slot but the first four is of no node
pub by_slots : (P : ℕ → Type 0) → P 0 → P 1 → P 2 → P 3 → ((i : ℕ) → (i == 0) ≡ false → (i == 1) ≡ false → (i == 2) ≡ false → (i == 3) ≡ false → P i) → (i : ℕ) → P i
by_slots P p0 p1 p2 p3 other i =
    is_or i 0 (λ e. subst P (sym e) p0)
    (λ n0. is_or i 1 (λ e. subst P (sym e) p1) (λ n1. is_or i 2 (λ e. subst P (sym e) p2) (λ n2. is_or i 3 (λ e. subst P (sym e) p3) (λ n3. other i n0 n1 n2 n3))))
  where
    is_or : {A : Type 0} → (a b : ℕ) → (a ≡ b → A) → ((a == b) ≡ false → A) → A
    is_or a b f g = elim (decide a b) [ inl e ↦ f e | inr ne ↦ g (by_test a b (λ t. t ≡ false) (λ e. absurd (ne e)) (λ _. refl)) ]

pub one_pending : (n : ℕ) (x y : Pending) → n ≤ x.number → In y (x ∷ []) → n ≤ y.number
one_pending n x y le m = elim m [ inl e ↦ (let k = ap (λ (p : Pending). p.number) e in omega arith) | inr z ↦ absurd z ]

two_pending : (n : ℕ) (x z y : Pending) → n ≤ x.number → n ≤ z.number → In y (x ∷ z ∷ []) → n ≤ y.number
two_pending n x z y le lf m = elim m [ inl e ↦ (let k = ap (λ (p : Pending). p.number) e in omega arith) | inr w ↦ one_pending n z y lf w ]

pend_a : Pending
pend_a = record { number = 1; key = key_a }

pub dead : {A : Type 0} → (NoNode ≢ NoNode) → A
dead ne = absurd (ne refl)

seal_1 : CanSealNext (after start (Insert 0 key_b)) 1
seal_1 = (
  refl,
  (omega arith),
  (omega arith),
  by_slots (λ i. ((after start (Insert 0 key_b)).leaves i).role ≢ NoNode → AllFrom 1 ((after start (Insert 0 key_b)).leaves i).pending)
      (λ _ x m. two_pending 1 (record { number = 2; key = key_b }) (record { number = 1; key = key_a }) x (omega arith) (omega arith) m) (λ ne. dead ne) (λ ne. dead ne) (λ ne. dead ne) (λ i a b c d. simp (a, b, c, d) (λ ne. dead ne)),
)

pub commit_allowed : IsRun start insert_run
commit_allowed = ((refl, ((omega arith), (omega arith))), (seal_1, (tt, (refl, (tt, (refl, tt))))))

-- a list of one key has nothing outside the key's sectors
single_out : (k : Key) (first end : ℕ) → first ≤ start_of k → k.end ≤ end → (s : ℕ) → ((first ≤ s) × (s < end) → ⊥) → last_said (k ∷ []) s ≡ None
single_out k first end le ge s out = front_miss k [] s (λ c. out (let r = spoken_range k s c in let r0 = r.0 in let r1 = r.1 in (omega arith, omega arith)))

abbrev pub split_1 : State
split_1 = after inserted (NewLeaf 1 (new_leaf 0 4 4) (keys_set 7 (key_a ∷ [])) [])

abbrev pub split_2 : State
split_2 = after split_1 (NewLeaf 2 (new_leaf 4 8 5) (keys_set 8 (key_b ∷ [])) [])

abbrev pub split_3 : State
split_3 = after (after split_2 (NewInner 1 second_root (children_set 9 (child 4 4 ∷ child 8 5 ∷ [])) [])) Barrier

pub leaf_1 : IsEnabled inserted (NewLeaf 1 (new_leaf 0 4 4) (keys_set 7 (key_a ∷ [])) [])
leaf_1 = (
  refl,
  (
    refl,
    by_slots (λ k. (inserted.leaves k).role ≢ NoNode → (inserted.leaves k).bucket ≢ 4) (λ _ e. absurd (cc)) (λ ne. dead ne) (λ ne. dead ne) (λ ne. dead ne) (λ k a b c d. simp (a, b, c, d) (λ ne. dead ne)),
    by_slots (λ k. (inserted.inner_nodes k).role ≢ NoNode → (inserted.inner_nodes k).bucket ≢ 4) (λ _ e. absurd (cc)) (λ ne. dead ne) (λ ne. dead ne) (λ ne. dead ne) (λ k a b c d. simp (a, b, c, d) (λ ne. dead ne)),
  ),
  refl,
  refl,
  single_out key_a 0 4 (omega arith) (omega arith),
)

pub leaf_2 : IsEnabled split_1 (NewLeaf 2 (new_leaf 4 8 5) (keys_set 8 (key_b ∷ [])) [])
leaf_2 = (
  refl,
  (
    refl,
    by_slots (λ k. (split_1.leaves k).role ≢ NoNode → (split_1.leaves k).bucket ≢ 5) (λ _ e. absurd (cc)) (λ _ e. absurd (cc)) (λ ne. dead ne) (λ ne. dead ne) (λ k a b c d. simp (a, b, c, d) (λ ne. dead ne)),
    by_slots (λ k. (split_1.inner_nodes k).role ≢ NoNode → (split_1.inner_nodes k).bucket ≢ 5) (λ _ e. absurd (cc)) (λ ne. dead ne) (λ ne. dead ne) (λ ne. dead ne) (λ k a b c d. simp (a, b, c, d) (λ ne. dead ne)),
  ),
  refl,
  refl,
  single_out key_b 4 8 (omega arith) (omega arith),
)

pub root_1 : IsEnabled split_2 (NewInner 1 second_root (children_set 9 (child 4 4 ∷ child 8 5 ∷ [])) [])
root_1 = (
  refl,
  (
    refl,
    by_slots (λ k. (split_2.leaves k).role ≢ NoNode → (split_2.leaves k).bucket ≢ 6) (λ _ e. absurd (cc)) (λ _ e. absurd (cc)) (λ _ e. absurd (cc)) (λ ne. dead ne) (λ k a b c d. simp (a, b, c, d) (λ ne. dead ne)),
    by_slots (λ k. (split_2.inner_nodes k).role ≢ NoNode → (split_2.inner_nodes k).bucket ≢ 6) (λ _ e. absurd (cc)) (λ ne. dead ne) (λ ne. dead ne) (λ ne. dead ne) (λ k a b c d. simp (a, b, c, d) (λ ne. dead ne)),
  ),
  refl,
)

a_before : (s : ℕ) → s < 4 → ref_said (last_said (key_a ∷ []) s) ≡ ref_said (last_said (key_b ∷ key_a ∷ []) s)
a_before s lt = ap ref_said (sym (front_miss key_b (key_a ∷ []) s (λ c. let r : 5 ≤ s = (spoken_range key_b s c).0 in absurd (omega arith))))

b_behind : (s : ℕ) → 4 ≤ s → ref_said (last_said (key_b ∷ []) s) ≡ ref_said (last_said (key_b ∷ key_a ∷ []) s)
b_behind s le = ap (λ (o : Option (Option Ref)). ref_said (if covers key_b s then Some (ref_by key_b s (pointer_of key_b)) else o)) (sym (front_miss key_a [] s (λ c. let r : s < 3 = (spoken_range key_a s c).1 in absurd (omega arith))))

-- more places are listed, so fewer are unused
pub fewer_by : (xs ys : List ℕ) (p : ℕ) → ((q : ℕ) → In q ys → In q xs) → all_but xs p ≡ true → all_but ys p ≡ true
fewer_by xs [] p sub h = refl
fewer_by xs (y ∷ ys) p sub h =
    by_test p y (λ t. (if t then false else all_but ys p) ≡ true) (λ e. absurd (not_in xs p h y (sub y (inl refl)) (sym e))) (λ _. fewer_by xs ys p (λ q m. sub q (inr m)) h)

pub adopt_1 : CanBegin split_3 0 8 (0 ∷ []) (1 ∷ 2 ∷ []) (0 ∷ []) (1 ∷ []) (all_but (2 ∷ 3 ∷ 4 ∷ 5 ∷ 6 ∷ []))
adopt_1 = record {
  no_change = refl;
  old_row = (refl, (omega arith), refl);
  new_row = (refl, (omega arith), (refl, (omega arith), refl));
  within = omega arith;
  gone_leaf = λ i m. elim m [ inl e ↦ subst (λ (n : ℕ). ((split_3.leaves n).role ≡ Free) × AllUpTo 2 (split_3.leaves n).pending) (sym e) (refl, two_up) | inr n ↦ absurd n ];
  come_leaf = λ j m. elim m [ inl e ↦ subst New (sym e) (refl, (refl, refl, (λ e. absurd (cc)), refl)) | inr z ↦ elim z [ inl e ↦ subst New (sym e) (refl, (refl, refl, (λ e. absurd (cc)), refl)) | inr n ↦ absurd n ] ];
  same = λ i j s m n ri rj. elim m [
    | inl e ↦ subst (λ (x : ℕ). ref_said (last_said (set_keys (node_of split_3 j).sets) s) ≡ ref_said (last_said (keys_in_leaf split_3 x) s)) (sym e)
        (elim n [
          | inl f ↦ subst (λ (y : ℕ). InRange (split_3.leaves y) s → ref_said (last_said (set_keys (node_of split_3 y).sets) s) ≡ ref_said (last_said (keys_in_leaf split_3 0) s)) (sym f) (λ r. a_before s r.1) rj
          | inr z ↦ elim z [
            | inl f ↦ subst (λ (y : ℕ). InRange (split_3.leaves y) s → ref_said (last_said (set_keys (node_of split_3 y).sets) s) ≡ ref_said (last_said (keys_in_leaf split_3 0) s)) (sym f) (λ r. b_behind s r.0) rj
            | inr n ↦ absurd n
          ]
        ])
    | inr z ↦ absurd z
  ];
  old_inner = λ x m. elim m [ inl e ↦ subst (λ (n : ℕ). (split_3.inner_nodes n).role ≡ Free) (sym e) refl | inr n ↦ absurd n ];
  new_inner = λ x m. elim m [ inl e ↦ subst (λ (n : ℕ). ((split_3.inner_nodes n).role ≡ Draft) × IsStable (inner_node_of split_3 n)) (sym e) (refl, (refl, refl, (λ e. absurd (cc)), refl)) | inr n ↦ absurd n ];
  filled = λ x m. elim m [ inl e ↦ subst Filled (sym e) ((omega arith), (1, tt, refl, refl, refl, refl), ((omega arith), (2, tt, refl, refl, refl, refl), refl)) | inr n ↦ absurd n ];
  fewer = λ p is. fewer_by (2 ∷ 3 ∷ 4 ∷ 5 ∷ 6 ∷ []) (2 ∷ 3 ∷ []) p (λ q m. elim m [ inl e ↦ inl e | inr z ↦ elim z [ inl e ↦ inr (inl e) | inr n ↦ absurd n ] ]) is;
  leaf_taken = λ j m. elim m [ inl e ↦ subst (λ (n : ℕ). all_but (2 ∷ 3 ∷ 4 ∷ 5 ∷ 6 ∷ []) (split_3.leaves n).bucket ≡ false) (sym e) refl | inr z ↦ elim z [ inl e ↦ subst (λ (n : ℕ). all_but (2 ∷ 3 ∷ 4 ∷ 5 ∷ 6 ∷ []) (split_3.leaves n).bucket ≡ false) (sym e) refl | inr n ↦ absurd n ] ];
  inner_taken = λ x m. elim m [ inl e ↦ subst (λ (n : ℕ). all_but (2 ∷ 3 ∷ 4 ∷ 5 ∷ 6 ∷ []) (split_3.inner_nodes n).bucket ≡ false) (sym e) refl | inr n ↦ absurd n ];
}
  where
    New : ℕ → Type 0
    New j = ((split_3.leaves j).role ≡ Draft) × IsStable (node_of split_3 j)

    Filled : ℕ → Type 0
    Filled x = Fills (after split_3 (BeginChange 0 8 (0 ∷ []) (1 ∷ 2 ∷ []) (0 ∷ []) (1 ∷ []) (all_but (2 ∷ 3 ∷ 4 ∷ 5 ∷ 6 ∷ [])))).leaves (after split_3 (BeginChange 0 8 (0 ∷ []) (1 ∷ 2 ∷ []) (0 ∷ []) (1 ∷ []) (all_but (2 ∷ 3 ∷ 4 ∷ 5 ∷ 6 ∷ [])))).inner_nodes Stays (split_3.inner_nodes x) (children_of (inner_node_of split_3 x).sets)

    two_up : (x : Pending) → In x (record { number = 2; key = key_b } ∷ record { number = 1; key = key_a } ∷ []) → x.number ≤ 2
    two_up x m = elim m [ inl e ↦ (let k = ap (λ (p : Pending). p.number) e in omega arith) | inr z ↦ elim z [ inl e ↦ (let k = ap (λ (p : Pending). p.number) e in omega arith) | inr n ↦ absurd n ] ]

abbrev pub split_4 : State
split_4 = after split_3 (BeginChange 0 8 (0 ∷ []) (1 ∷ 2 ∷ []) (0 ∷ []) (1 ∷ []) (all_but (2 ∷ 3 ∷ 4 ∷ 5 ∷ 6 ∷ [])))

pub seal_root : IsEnabled split_4 (SealRoot 1 0 [] 1)
seal_root = (
  (
    refl,
    (omega arith),
    (omega arith),
    by_slots (λ i. (split_4.leaves i).role ≢ NoNode → AllFrom 1 (split_4.leaves i).pending)
        (λ _ x m. two_pending 1 (record { number = 2; key = key_b }) (record { number = 1; key = key_a }) x (omega arith) (omega arith) m) (λ _ x m. absurd m) (λ _ x m. absurd m) (λ ne. dead ne) (λ i a b c d. simp (a, b, c, d) (λ ne. dead ne)),
  ),
  refl,
  tt,
  refl,
  refl,
  by_slots (λ x. Stays (split_4.inner_nodes x).role → Unit {0} → Fills split_4.leaves split_4.inner_nodes Stays (split_4.inner_nodes x) (children_of (inner_node_of split_4 x).sets))
      (λ s. absurd s) (λ _ _. ((omega arith), (1, tt, refl, refl, refl, refl), ((omega arith), (2, tt, refl, refl, refl, refl), refl))) (λ s. absurd s) (λ s. absurd s) (λ i a b c d. simp (a, b, c, d) (λ s. absurd s)),
)

abbrev pub split_5 : State
split_5 = fold split_4 (SealRoot 1 0 [] 1 ∷ Barrier ∷ WriteEntry [] ∷ Barrier ∷ MakeDurable ∷ [])

-- a bucket that is newly unused is one of these
pub listed_or : (xs ys : List ℕ) (p : ℕ) → all_but ys p ≡ true → (all_but xs p ≡ true) ⊎ In p xs
listed_or [] ys p h = inl refl
listed_or (x ∷ xs) ys p h = by_test p x (λ t. ((if t then false else all_but xs p) ≡ true) ⊎ ((p ≡ x) ⊎ In p xs)) (λ e. inr (inl e)) (λ _. elim (listed_or xs ys p h) [ inl a ↦ inl a | inr b ↦ inr (inr b) ])

pub install_1 : IsEnabled split_5 (Install (all_but (4 ∷ 5 ∷ 6 ∷ [])))
install_1 = (
  (omega arith),
  λ p is. elim (listed_or (2 ∷ 3 ∷ 4 ∷ 5 ∷ 6 ∷ []) (4 ∷ 5 ∷ 6 ∷ []) p is) [
    | inl u ↦ inl u
    | inr m ↦ elim m [
      | inl e ↦ inr (inr (0, refl, sym e))
      | inr m3 ↦ elim m3 [ inl e ↦ inr (inl (0, refl, sym e)) | inr m4 ↦ absurd (not_in (4 ∷ 5 ∷ 6 ∷ []) p is p m4 refl) ]
    ]
  ],
)

pub split_allowed : IsRun inserted split_run
split_allowed = (leaf_1, (leaf_2, (root_1, (tt, (adopt_1, (seal_root, (tt, (refl, (tt, (refl, (install_1, tt)))))))))))

abbrev pub set_1 : State
set_1 = after split (Insert 1 key_c)

-- no older entry is needed
seal_4 : CanSealNext set_1 4
seal_4 = (
  refl,
  (omega arith),
  (omega arith),
  by_slots (λ i. (set_1.leaves i).role ≢ NoNode → AllFrom 4 (set_1.leaves i).pending)
      (λ ne. dead ne) (λ _ x m. one_pending 4 (record { number = 4; key = key_c }) x (omega arith) m) (λ _ x m. absurd m) (λ ne. dead ne) (λ i a b c d. simp (a, b, c, d) (λ ne. dead ne)),
)

pub further_allowed : IsRun split set_run
further_allowed = ((refl, ((omega arith), (omega arith))), (seal_4, (tt, (refl, (tt, (refl, ((refl, refl, (λ e. absurd (cc)), (λ x m. up x m), (λ s. refl), refl), (tt, tt))))))))
  where
    up : (x : Pending) → In x (record { number = 4; key = key_c } ∷ []) → x.number ≤ 4
    up x m = elim m [ inl e ↦ (let k = ap (λ (p : Pending). p.number) e in omega arith) | inr z ↦ absurd z ]

abbrev pub rewrite_1 : State
rewrite_1 = after (after set (NewLeaf 3 (new_leaf 4 8 3) (keys_set 10 (key_b ∷ [])) [])) Barrier

pub leaf_3 : IsEnabled set (NewLeaf 3 (new_leaf 4 8 3) (keys_set 10 (key_b ∷ [])) [])
leaf_3 = (
  refl,
  (
    refl,
    by_slots (λ k. (set.leaves k).role ≢ NoNode → (set.leaves k).bucket ≢ 3) (λ ne. dead ne) (λ _ e. absurd (cc)) (λ _ e. absurd (cc)) (λ ne. dead ne) (λ k a b c d. simp (a, b, c, d) (λ ne. dead ne)),
    by_slots (λ k. (set.inner_nodes k).role ≢ NoNode → (set.inner_nodes k).bucket ≢ 3) (λ ne. dead ne) (λ _ e. absurd (cc)) (λ ne. dead ne) (λ ne. dead ne) (λ k a b c d. simp (a, b, c, d) (λ ne. dead ne)),
  ),
  refl,
  refl,
  single_out key_b 4 8 (omega arith) (omega arith),
)

pub adopt_2 : CanBegin rewrite_1 4 8 (2 ∷ []) (3 ∷ []) [] [] (all_but (3 ∷ 4 ∷ 5 ∷ 6 ∷ []))
adopt_2 = record {
  no_change = refl;
  old_row = (refl, (omega arith), refl);
  new_row = (refl, (omega arith), refl);
  within = omega arith;
  gone_leaf = λ i m. elim m [ inl e ↦ subst (λ (n : ℕ). ((rewrite_1.leaves n).role ≡ Free) × AllUpTo 4 (rewrite_1.leaves n).pending) (sym e) (refl, λ x m. absurd m) | inr n ↦ absurd n ];
  come_leaf = λ j m. elim m [ inl e ↦ subst (λ (n : ℕ). ((rewrite_1.leaves n).role ≡ Draft) × IsStable (node_of rewrite_1 n)) (sym e) (refl, (refl, refl, (λ e. absurd (cc)), refl)) | inr n ↦ absurd n ];
  same = λ i j s m n ri rj. elim m [
    | inl e ↦ subst (λ (x : ℕ). ref_said (last_said (set_keys (node_of rewrite_1 j).sets) s) ≡ ref_said (last_said (keys_in_leaf rewrite_1 x) s)) (sym e)
        (elim n [ inl f ↦ subst (λ (y : ℕ). ref_said (last_said (set_keys (node_of rewrite_1 y).sets) s) ≡ ref_said (last_said (keys_in_leaf rewrite_1 2) s)) (sym f) refl | inr n ↦ absurd n ])
    | inr z ↦ absurd z
  ];
  old_inner = λ x m. absurd m;
  new_inner = λ x m. absurd m;
  filled = λ x m. absurd m;
  fewer = λ p is. fewer_by (3 ∷ 4 ∷ 5 ∷ 6 ∷ []) (4 ∷ 5 ∷ 6 ∷ []) p (λ q m. inr m) is;
  leaf_taken = λ j m. elim m [ inl e ↦ subst (λ (n : ℕ). all_but (3 ∷ 4 ∷ 5 ∷ 6 ∷ []) (rewrite_1.leaves n).bucket ≡ false) (sym e) refl | inr n ↦ absurd n ];
  inner_taken = λ x m. absurd m;
}

abbrev pub rewrite_2 : State
rewrite_2 = after rewrite_1 (BeginChange 4 8 (2 ∷ []) (3 ∷ []) [] [] (all_but (3 ∷ 4 ∷ 5 ∷ 6 ∷ [])))

pub append_root : IsEnabled rewrite_2 (SetParent 1 (children_set 9 (child 8 3 ∷ [])) [])
append_root = (
  refl,
  tt,
  refl,
  ((omega arith), (1, tt, refl, refl, refl, refl), ((omega arith), (3, tt, refl, refl, refl, refl), refl)),
  by_slots (λ x. Stays (rewrite_2.inner_nodes x).role → x ≢ 1 → Fills rewrite_2.leaves rewrite_2.inner_nodes Stays (rewrite_2.inner_nodes x) (children_of (inner_node_of rewrite_2 x).sets))
      (λ s. absurd s) (λ _ ne. absurd (ne refl)) (λ s. absurd s) (λ s. absurd s) (λ i a b c d. simp (a, b, c, d) (λ s. absurd s)),
  by_slots (λ x. (rewrite_2.inner_nodes x).role ≡ Leaving → ((rewrite_2.inner_nodes x).bucket ≢ 6) × (rewrite_2.records.stage ≢ Nothing → (rewrite_2.inner_nodes x).bucket ≢ rewrite_2.records.entry.root))
      (λ e. absurd (cc)) (λ e. absurd (cc)) (λ e. absurd (cc)) (λ e. absurd (cc)) (λ i a b c d. simp (a, b, c, d) (λ e. absurd (no_leave e))),
)
  where
    no_leave : NoNode ≡ Leaving → ⊥
    no_leave e = cc

abbrev pub rewrite_3 : State
rewrite_3 = fold rewrite_2 (SetParent 1 (children_set 9 (child 8 3 ∷ [])) [] ∷ Barrier ∷ [])

pub install_2 : IsEnabled rewrite_3 (Install (all_but (3 ∷ 4 ∷ 6 ∷ [])))
install_2 = (refl, given)
  where
    given : (p : ℕ) → all_but (3 ∷ 4 ∷ 6 ∷ []) p ≡ true → (all_but (3 ∷ 4 ∷ 5 ∷ 6 ∷ []) p ≡ true) ⊎ ((i : ℕ) × ((rewrite_3.leaves i).role ≡ Leaving) × ((rewrite_3.leaves i).bucket ≡ p)) ⊎ ((x : ℕ) × ((rewrite_3.inner_nodes x).role ≡ Leaving) × ((rewrite_3.inner_nodes x).bucket ≡ p))
    given p is =
        elim (listed_or (3 ∷ 4 ∷ 5 ∷ 6 ∷ []) (3 ∷ 4 ∷ 6 ∷ []) p is) [
          | inl u ↦ inl u
          | inr m ↦ elim m [
            | inl e ↦ absurd (not_in (3 ∷ 4 ∷ 6 ∷ []) p is 3 (inl refl) (sym e))
            | inr m4 ↦ elim m4 [
              | inl e ↦ absurd (not_in (3 ∷ 4 ∷ 6 ∷ []) p is 4 (inr (inl refl)) (sym e))
              | inr m5 ↦ elim m5 [
                | inl e ↦ inr (inl (2, refl, sym e))
                | inr m6 ↦ elim m6 [ inl e ↦ absurd (not_in (3 ∷ 4 ∷ 6 ∷ []) p is 6 (inr (inr (inl refl))) (sym e)) | inr n ↦ absurd n ]
              ]
            ]
          ]
        ]

abbrev pub rewrite_4 : State
rewrite_4 = after rewrite_3 (Install (all_but (3 ∷ 4 ∷ 6 ∷ [])))

seal_5 : CanSealNext rewrite_4 5
seal_5 = (
  refl,
  (omega arith),
  (omega arith),
  by_slots (λ i. (rewrite_4.leaves i).role ≢ NoNode → AllFrom 5 (rewrite_4.leaves i).pending)
      (λ ne. dead ne) (λ _ x m. absurd m) (λ ne. dead ne) (λ _ x m. absurd m) (λ i a b c d. simp (a, b, c, d) (λ ne. dead ne)),
)

rewrite_allowed : IsRun set rewrite_run
rewrite_allowed = (leaf_3, (tt, (adopt_2, (append_root, (tt, (install_2, (seal_5, (tt, (refl, (tt, (refl, tt)))))))))))

abbrev pub merge_1 : State
merge_1 = after (after rewritten (NewLeaf 2 (new_leaf 0 8 5) (keys_set 11 (key_c ∷ key_b ∷ key_a ∷ [])) [])) Barrier

three_out : (s : ℕ) → ((0 ≤ s) × (s < 8) → ⊥) → last_said (key_c ∷ key_b ∷ key_a ∷ []) s ≡ None
three_out s out =
    front_miss key_c (key_b ∷ key_a ∷ []) s (λ c. out (let r : s < 2 = (spoken_range key_c s c).1 in (omega arith, omega arith)))
    ∙ front_miss key_b (key_a ∷ []) s (λ c. out (let r : s < 6 = (spoken_range key_b s c).1 in (omega arith, omega arith)))
    ∙ front_miss key_a [] s (λ c. out (let r : s < 3 = (spoken_range key_a s c).1 in (omega arith, omega arith)))

leaf_4 : IsEnabled rewritten (NewLeaf 2 (new_leaf 0 8 5) (keys_set 11 (key_c ∷ key_b ∷ key_a ∷ [])) [])
leaf_4 = (
  refl,
  (
    refl,
    by_slots (λ k. (rewritten.leaves k).role ≢ NoNode → (rewritten.leaves k).bucket ≢ 5) (λ ne. dead ne) (λ _ e. absurd (cc)) (λ ne. dead ne) (λ _ e. absurd (cc)) (λ k a b c d. simp (a, b, c, d) (λ ne. dead ne)),
    by_slots (λ k. (rewritten.inner_nodes k).role ≢ NoNode → (rewritten.inner_nodes k).bucket ≢ 5) (λ ne. dead ne) (λ _ e. absurd (cc)) (λ ne. dead ne) (λ ne. dead ne) (λ k a b c d. simp (a, b, c, d) (λ ne. dead ne)),
  ),
  refl,
  refl,
  three_out,
)

-- the merged leaf's keys are those of the one or the other
low_half : (s : ℕ) → s < 4 → ref_said (last_said (key_c ∷ key_b ∷ key_a ∷ []) s) ≡ ref_said (last_said (key_c ∷ key_a ∷ []) s)
low_half s lt = ap (λ (o : Option (Option Ref)). ref_said (if covers key_c s then Some (ref_by key_c s (pointer_of key_c)) else o)) (front_miss key_b (key_a ∷ []) s (λ c. let r : 5 ≤ s = (spoken_range key_b s c).0 in absurd (omega arith)))

high_half : (s : ℕ) → 4 ≤ s → ref_said (last_said (key_c ∷ key_b ∷ key_a ∷ []) s) ≡ ref_said (last_said (key_b ∷ []) s)
high_half s le =
    ap ref_said (front_miss key_c (key_b ∷ key_a ∷ []) s (λ c. let r : s < 2 = (spoken_range key_c s c).1 in absurd (omega arith)))
    ∙ ap (λ (o : Option (Option Ref)). ref_said (if covers key_b s then Some (ref_by key_b s (pointer_of key_b)) else o)) (front_miss key_a [] s (λ c. let r : s < 3 = (spoken_range key_a s c).1 in absurd (omega arith)))

adopt_3 : CanBegin merge_1 0 8 (1 ∷ 3 ∷ []) (2 ∷ []) [] [] (all_but (3 ∷ 4 ∷ 5 ∷ 6 ∷ []))
adopt_3 = record {
  no_change = refl;
  old_row = (refl, (omega arith), (refl, (omega arith), refl));
  new_row = (refl, (omega arith), refl);
  within = omega arith;
  gone_leaf = λ i m. elim m [ inl e ↦ subst Gone_ok (sym e) (refl, λ x m. absurd m) | inr z ↦ elim z [ inl e ↦ subst Gone_ok (sym e) (refl, λ x m. absurd m) | inr n ↦ absurd n ] ];
  come_leaf = λ j m. elim m [ inl e ↦ subst (λ (n : ℕ). ((merge_1.leaves n).role ≡ Draft) × IsStable (node_of merge_1 n)) (sym e) (refl, (refl, refl, (λ e. absurd (cc)), refl)) | inr n ↦ absurd n ];
  same = λ i j s m n ri rj. elim n [
    | inl f ↦ subst (λ (y : ℕ). ref_said (last_said (set_keys (node_of merge_1 y).sets) s) ≡ ref_said (last_said (keys_in_leaf merge_1 i) s)) (sym f)
        (elim m [
          | inl e ↦ subst (λ (x : ℕ). InRange (merge_1.leaves x) s → ref_said (last_said (set_keys (node_of merge_1 2).sets) s) ≡ ref_said (last_said (keys_in_leaf merge_1 x) s)) (sym e) (λ r. low_half s r.1) ri
          | inr z ↦ elim z [
            | inl e ↦ subst (λ (x : ℕ). InRange (merge_1.leaves x) s → ref_said (last_said (set_keys (node_of merge_1 2).sets) s) ≡ ref_said (last_said (keys_in_leaf merge_1 x) s)) (sym e) (λ r. high_half s r.0) ri
            | inr w ↦ absurd w
          ]
        ])
    | inr w ↦ absurd w
  ];
  old_inner = λ x m. absurd m;
  new_inner = λ x m. absurd m;
  filled = λ x m. absurd m;
  fewer = λ p is. fewer_by (3 ∷ 4 ∷ 5 ∷ 6 ∷ []) (3 ∷ 4 ∷ 6 ∷ []) p (λ q m. elim m [ inl e ↦ inl e | inr z ↦ elim z [ inl e ↦ inr (inl e) | inr y ↦ elim y [ inl e ↦ inr (inr (inr (inl e))) | inr n ↦ absurd n ] ] ]) is;
  leaf_taken = λ j m. elim m [ inl e ↦ subst (λ (n : ℕ). all_but (3 ∷ 4 ∷ 5 ∷ 6 ∷ []) (merge_1.leaves n).bucket ≡ false) (sym e) refl | inr n ↦ absurd n ];
  inner_taken = λ x m. absurd m;
}
  where
    Gone_ok : ℕ → Type 0
    Gone_ok n = ((merge_1.leaves n).role ≡ Free) × AllUpTo 5 (merge_1.leaves n).pending

abbrev pub merge_2 : State
merge_2 = after merge_1 (BeginChange 0 8 (1 ∷ 3 ∷ []) (2 ∷ []) [] [] (all_but (3 ∷ 4 ∷ 5 ∷ 6 ∷ [])))

no_leave_dead : NoNode ≡ Leaving → ⊥
no_leave_dead e = cc

no_leave_free : Free ≡ Leaving → ⊥
no_leave_free e = cc

none_stays : (x : ℕ) → Stays (merge_2.inner_nodes x).role → x ≢ 1 → ⊥
none_stays = by_slots (λ x. Stays (merge_2.inner_nodes x).role → x ≢ 1 → ⊥) (λ s ne. s) (λ _ ne. ne refl) (λ s ne. s) (λ s ne. s) (λ i a b c d. simp (a, b, c, d) (λ s ne. s))

append_merge : IsEnabled merge_2 (SetParent 1 (children_set 9 (record { end = 4; bucket = 0; word = 0; gone = true } ∷ child 8 5 ∷ [])) [])
append_merge = (
  refl,
  tt,
  refl,
  ((omega arith), (2, tt, refl, refl, refl, refl), refl),
  λ x s ne. absurd {A = Fills merge_2.leaves merge_2.inner_nodes Stays (merge_2.inner_nodes x) (children_of (inner_node_of merge_2 x).sets)} (none_stays x s ne),
  by_slots (λ x. (merge_2.inner_nodes x).role ≡ Leaving → ((merge_2.inner_nodes x).bucket ≢ 6) × (merge_2.records.stage ≢ Nothing → (merge_2.inner_nodes x).bucket ≢ merge_2.records.entry.root))
      (λ e. absurd {A = ((merge_2.inner_nodes 0).bucket ≢ 6) × (merge_2.records.stage ≢ Nothing → (merge_2.inner_nodes 0).bucket ≢ merge_2.records.entry.root)} (no_leave_dead e)) (λ e. absurd {A = ((merge_2.inner_nodes 1).bucket ≢ 6) × (merge_2.records.stage ≢ Nothing → (merge_2.inner_nodes 1).bucket ≢ merge_2.records.entry.root)} (no_leave_free e)) (λ e. absurd {A = ((merge_2.inner_nodes 2).bucket ≢ 6) × (merge_2.records.stage ≢ Nothing → (merge_2.inner_nodes 2).bucket ≢ merge_2.records.entry.root)} (no_leave_dead e)) (λ e. absurd {A = ((merge_2.inner_nodes 3).bucket ≢ 6) × (merge_2.records.stage ≢ Nothing → (merge_2.inner_nodes 3).bucket ≢ merge_2.records.entry.root)} (no_leave_dead e)) (λ i a b c d. simp (a, b, c, d) (λ e. absurd (no_leave_dead e))),
)

abbrev pub merge_3 : State
merge_3 = fold merge_2 (SetParent 1 (children_set 9 (record { end = 4; bucket = 0; word = 0; gone = true } ∷ child 8 5 ∷ [])) [] ∷ Barrier ∷ [])

install_3 : IsEnabled merge_3 (Install (all_but (5 ∷ 6 ∷ [])))
install_3 = (
  refl,
  λ p is. elim (listed_or (3 ∷ 4 ∷ 5 ∷ 6 ∷ []) (5 ∷ 6 ∷ []) p is) [
    | inl u ↦ inl u
    | inr m ↦ elim m [
      | inl e ↦ inr (inl (3, refl, sym e))
      | inr m4 ↦ elim m4 [ inl e ↦ inr (inl (1, refl, sym e)) | inr rest ↦ absurd (not_in (5 ∷ 6 ∷ []) p is p rest refl) ]
    ]
  ],
)

merge_allowed : IsRun rewritten merge_run
merge_allowed = (leaf_4, (tt, (adopt_3, (append_merge, (tt, (install_3, tt))))))

abbrev pub grow_1 : State
grow_1 = after (after merged (NewInner 2 higher_root (children_set 12 (child 8 6 ∷ [])) [])) Barrier

root_2 : IsEnabled merged (NewInner 2 higher_root (children_set 12 (child 8 6 ∷ [])) [])
root_2 = (
  refl,
  (
    refl,
    by_slots (λ k. (merged.leaves k).role ≢ NoNode → (merged.leaves k).bucket ≢ 3) (λ ne. dead ne) (λ ne. dead ne) (λ _ e. absurd (cc)) (λ ne. dead ne) (λ k a b c d. simp (a, b, c, d) (λ ne. dead ne)),
    by_slots (λ k. (merged.inner_nodes k).role ≢ NoNode → (merged.inner_nodes k).bucket ≢ 3) (λ ne. dead ne) (λ _ e. absurd (cc)) (λ ne. dead ne) (λ ne. dead ne) (λ k a b c d. simp (a, b, c, d) (λ ne. dead ne)),
  ),
  refl,
)

adopt_4 : CanBegin grow_1 0 0 [] [] [] (2 ∷ []) (all_but (3 ∷ 5 ∷ 6 ∷ []))
adopt_4 = record {
  no_change = refl;
  old_row = refl;
  new_row = refl;
  within = omega arith;
  gone_leaf = λ i m. absurd m;
  come_leaf = λ j m. absurd m;
  same = λ i j s m. absurd m;
  old_inner = λ x m. absurd m;
  new_inner = λ x m. elim m [ inl e ↦ subst (λ (n : ℕ). ((grow_1.inner_nodes n).role ≡ Draft) × IsStable (inner_node_of grow_1 n)) (sym e) (refl, (refl, refl, (λ e. absurd (cc)), refl)) | inr n ↦ absurd n ];
  filled = λ x m. elim m [ inl e ↦ subst (λ (n : ℕ). Fills (after grow_1 (BeginChange 0 0 [] [] [] (2 ∷ []) (all_but (3 ∷ 5 ∷ 6 ∷ [])))).leaves (after grow_1 (BeginChange 0 0 [] [] [] (2 ∷ []) (all_but (3 ∷ 5 ∷ 6 ∷ [])))).inner_nodes Stays (grow_1.inner_nodes n) (children_of (inner_node_of grow_1 n).sets)) (sym e) ((omega arith), (1, tt, refl, refl, refl, refl, refl), refl) | inr n ↦ absurd n ];
  fewer = λ p is. fewer_by (3 ∷ 5 ∷ 6 ∷ []) (5 ∷ 6 ∷ []) p (λ q m. inr m) is;
  leaf_taken = λ j m. absurd m;
  inner_taken = λ x m. elim m [ inl e ↦ subst (λ (n : ℕ). all_but (3 ∷ 5 ∷ 6 ∷ []) (grow_1.inner_nodes n).bucket ≡ false) (sym e) refl | inr n ↦ absurd n ];
}

abbrev pub grow_2 : State
grow_2 = after grow_1 (BeginChange 0 0 [] [] [] (2 ∷ []) (all_but (3 ∷ 5 ∷ 6 ∷ [])))

dead_stays : (r : Role) → r ≡ NoNode → Stays r → ⊥
dead_stays r e s = subst (λ (x : Role). Stays x) e s

dead_slot : (i : ℕ) → (i == 0) ≡ false → (i == 1) ≡ false → (i == 2) ≡ false → (i == 3) ≡ false → (grow_2.inner_nodes i).role ≡ NoNode
dead_slot i a b c d = simp (a, b, c)

seal_root_2 : IsEnabled grow_2 (SealRoot 6 0 [] 2)
seal_root_2 = (
  (
    refl,
    (omega arith),
    (omega arith),
    by_slots (λ i. (grow_2.leaves i).role ≢ NoNode → AllFrom 6 (grow_2.leaves i).pending)
        (λ ne. dead ne) (λ ne. dead ne) (λ _ x m. absurd m) (λ ne. dead ne) (λ i a b c d. simp (a, b, c, d) (λ ne. dead ne)),
  ),
  refl,
  tt,
  refl,
  refl,
  by_slots (λ x. Stays (grow_2.inner_nodes x).role → Unit {0} → Fills grow_2.leaves grow_2.inner_nodes Stays (grow_2.inner_nodes x) (children_of (inner_node_of grow_2 x).sets))
      (λ s. absurd s) (λ _ _. ((omega arith), (2, tt, refl, refl, refl, refl), refl)) (λ _ _. ((omega arith), (1, tt, refl, refl, refl, refl, refl), refl)) (λ s. absurd s) (λ i a b c d s. absurd (dead_stays (grow_2.inner_nodes i).role (dead_slot i a b c d) s)),
)

grow_allowed : IsRun merged grow_run
grow_allowed = (root_2, (tt, (adopt_4, (seal_root_2, (tt, (refl, (tt, (refl, (((omega arith), λ p is. inl is), tt)))))))))

named : IsNamed names content 1 2 102
named = (refl, (refl, tt))

pub is_start : IsStart start
is_start = record {
  owners = names;
  all = entry_1 ∷ [];
  content = content;
  newest = entry_1;
  older = [];
  ring = ring;
  bucket = 0;
  unused = all_but (2 ∷ 3 ∷ []);
  sound = sound;
  room = room;
  keeps = keeps;
  named = named;
  records = refl;
  fits = fits;
}

pub has_example : HasExample
has_example = (
  start,
  insert_run,
  split_run,
  set_run,
  rewrite_run,
  merge_run,
  (
    grow_run,
    record {
      opening = is_start;
      commits = commit_allowed;
      splits = split_allowed;
      writes = further_allowed;
      rewrites = rewrite_allowed;
      merges = merge_allowed;
      grows = grow_allowed;
      index = refl;
      two = ((λ e. absurd (cc)), refl, refl);
      more = (4, refl, refl);
      none_older = refl;
      same_root = (refl, refl);
      one = refl;
      higher = refl;
    },
  ),
)
