-- A layout with records of few numbers, a sound opening, and a run that uses most acts.
use Rattle.std.proofs.Common.{◌≡◌, ◌≢◌, ◌⊎◌, inl, inr, ℕ, zero, suc, ◌+◌, ◌*◌, ◌<◌, ◌≤◌, Bool, true, false, List, [], ◌∷◌, ◌++◌, length, Option, Some, None, refl, sym, ap, ◌∙◌, subst, arith, if◌then◌else◌, ◌==◌, nat_le, replicate, slice_index_or, lit<, lit≤}
use Rattle.std.proofs.lemmas.List.{get_or-replicate}
use Rattle.bc_model.specs.Sector.{Image, Value, at_run}
use Rattle.bc_disk.specs.Device.{Among, MayLeave}
use Rattle.bc_record.specs.Sectors.{AgreeOn, Has}
use Rattle.bc_key.specs.declared.key.Key.{Key}
use Rattle.bc_key.specs.declared.ptr.Ptr.{Ptr}
use Rattle.bc_key.specs.Key.{pointer_of}
use Rattle.bc_key.specs.Ptr.{IsZero, IsZeroFrom, no_ptr}
use Rattle.bc_meta.specs.Keys.{Alike, covers, ref_by}
use Rattle.bc_meta.specs.Facts.{Facts, In, IsAtBlock, Stand, FindsNoneInZeros}
use Rattle.bc_meta.specs.Entries.{Entry, all_keys}
use Rattle.bc_meta.specs.Tree.{NodeSet, NodeSets, Owner, set_keys}
use Rattle.bc_meta.specs.Layout.{Layout, PrioSet, entry_at, node_end}
use Rattle.bc_meta.specs.Chain.{Distinct, EachOf}
use Rattle.bc_meta.specs.Events.{AddKey, AddSet, Barrier, FailEntry, GiveUp, WriteEntry}
use Rattle.bc_meta.specs.Records.{IsFewer, MayHold, MayRead, Node, Reads, put, stable_node, MayStand}
use Rattle.bc_meta.specs.Places.{IsSoundImage, Places, Wrote, CanStart, NoTornSet, AreSure, IsFirstWrite}
use Rattle.bc_meta.specs.Acts.{Act, ChainReady, Durable, FailHeld, Holds, IsApart, IsRun, Plain, SealChain, State, StaysUnused, Take, WriteData, WriteNode, WriteSet, after, fold}
use Rattle.bc_meta.specs.Laws.{IsSound, Opening, opened}
use Rattle.bc_meta.specs.Example.{HasExample}
use Rattle.bc_meta.proofs.Scan.{block_high}
use Rattle.bc_meta.proofs.Lists.{by_test, by_le}
use Rattle.bc_model.specs.Pattern.{zeros}

-- ---- records

first_at : (p : ℕ) (v : Value) (vs : List Value) → at_run p (v ∷ vs) p ≡ Some v
first_at p v vs = by_test p p (λ b. (if b then Some v else at_run (suc p) vs p) ≡ Some v) (λ _. refl) (λ ne. absurd (ne refl))

second_at : (p : ℕ) (v u : Value) (vs : List Value) → at_run p (v ∷ u ∷ vs) (suc p) ≡ Some u
second_at p v u vs = by_test p (suc p) (λ b. (if b then Some v else at_run (suc p) (u ∷ vs) (suc p)) ≡ Some u) (λ e. absurd (omega arith)) (λ _. first_at (suc p) u vs)

-- a record of one sector, read by what its value says
abbrev if_one : {O A : Type 0} → (O → Value → Option A) → O → List Value → Option A
if_one read o (v ∷ []) = read o v
if_one read o vs = None

pub one_long : {O A : Type 0} → (read : O → Value → Option A) (o : O) (vs : List Value) (e : A) → if_one read o vs ≡ Some e → length vs ≡ 1
one_long read o [] e is = absurd (cc)
one_long read o (v ∷ []) e is = refl
one_long read o (v ∷ u ∷ vs) e is = absurd (cc)

pub one_back : {O A : Type 0} → (read : O → Value → Option A) (image : Image) (o : O) (end p : ℕ) (vs : List Value) (e : A) → if_one read o vs ≡ Some e → Has image p vs → p + 1 ≤ end → (if nat_le (suc p) end then read o (image p) else None) ≡ Some e
one_back read image o end p [] e is has le = absurd (cc)
one_back read image o end p (v ∷ []) e is has le =
    by_le (suc p) end (λ b. (if b then read o (image p) else None) ≡ Some e) (λ _. ap (λ (x : Value). read o x) (sym (has p v (first_at p v []))) ∙ is) (λ lt. absurd (omega arith))
one_back read image o end p (v ∷ u ∷ vs) e is has le = absurd (cc)

pub one_stays : {O A : Type 0} → (read : O → Value → Option A) (a b : Image) (o : O) (end p : ℕ) (e : A) → (if nat_le (suc p) end then read o (a p) else None) ≡ Some e → AgreeOn a b p (p + 1) → (if nat_le (suc p) end then read o (b p) else None) ≡ Some e
one_stays read a b o end p e is same =
    by_le (suc p) end (λ t. (if t then read o (a p) else None) ≡ Some e → (if t then read o (b p) else None) ≡ Some e)
    (λ _ h. ap (λ (x : Value). read o x) (sym (same p (omega arith) (omega arith))) ∙ h) (λ _ h. h) is

pub one_fits : {O A : Type 0} → (read : O → Value → Option A) (image : Image) (o : O) (end p : ℕ) (e : A) → (if nat_le (suc p) end then read o (image p) else None) ≡ Some e → p + 1 ≤ end
one_fits read image o end p e = by_le (suc p) end (λ b. (if b then read o (image p) else None) ≡ Some e → p + 1 ≤ end) (λ le _. omega arith) (λ _ h. absurd (cc))

abbrev one_sector : {O A : Type 0} → (O → Value → Option A) → Facts 1 O A
one_sector read = record {
  len = λ e. 1;
  some = λ e. omega arith;
  whole = λ e. (1, refl);
  spelled = if_one read;
  long = one_long read;
  found = λ image o end p. if nat_le (suc p) end then read o (image p) else None;
  fits = one_fits read;
  reads_back = one_back read;
  stays = one_stays read;
}

pub one_blank : {O A : Type 0} → (read : O → Value → Option A) → ((o : O) → read o zeros ≡ None) → FindsNoneInZeros (one_sector read)
one_blank read none_ image o end p is = by_le (suc p) end (λ b. (if b then read o (image p) else None) ≡ None) (λ _. ap (λ (v : Value). read o v) is ∙ none_ o) (λ _. refl)

-- a priority set: its part and the next bucket in its first sector, the generations in its second, and two that are free
abbrev prio_read : ℕ → Value → Value → Option PrioSet
prio_read part (p ∷ next ∷ []) gens = if p == part then Some (record { next = next; gens = gens }) else None
prio_read part _ gens = None

abbrev if_four : ℕ → List Value → Option PrioSet
if_four part (a ∷ b ∷ c ∷ d ∷ []) = prio_read part a b
if_four part _ = None

pub four_long : (part : ℕ) (vs : List Value) (e : PrioSet) → if_four part vs ≡ Some e → length vs ≡ 4
four_long part (a ∷ b ∷ c ∷ d ∷ []) e is = refl
four_long part [] e is = absurd (cc)
four_long part (a ∷ []) e is = absurd (cc)
four_long part (a ∷ b ∷ []) e is = absurd (cc)
four_long part (a ∷ b ∷ c ∷ []) e is = absurd (cc)
four_long part (a ∷ b ∷ c ∷ d ∷ x ∷ vs) e is = absurd (cc)

abbrev four_found : Image → ℕ → ℕ → ℕ → Option PrioSet
four_found image part end p = if nat_le (p + 4) end then prio_read part (image p) (image (suc p)) else None

pub four_back : (image : Image) (part end p : ℕ) (vs : List Value) (e : PrioSet) → if_four part vs ≡ Some e → Has image p vs → p + 4 ≤ end → four_found image part end p ≡ Some e
four_back image part end p (a ∷ b ∷ c ∷ d ∷ []) e is has le =
    by_le (p + 4) end (λ t. (if t then prio_read part (image p) (image (suc p)) else None) ≡ Some e)
    (λ _. ap (λ (x : Value). prio_read part x (image (suc p))) (sym (has p a (first_at p a (b ∷ c ∷ d ∷ [])))) ∙ ap (λ (x : Value). prio_read part a x) (sym (has (suc p) b (second_at p a b (c ∷ d ∷ [])))) ∙ is)
    (λ lt. absurd (omega arith))
four_back image part end p [] e is has le = absurd (cc)
four_back image part end p (a ∷ []) e is has le = absurd (cc)
four_back image part end p (a ∷ b ∷ []) e is has le = absurd (cc)
four_back image part end p (a ∷ b ∷ c ∷ []) e is has le = absurd (cc)
four_back image part end p (a ∷ b ∷ c ∷ d ∷ x ∷ vs) e is has le = absurd (cc)

pub four_stays : (a b : Image) (part end p : ℕ) (e : PrioSet) → four_found a part end p ≡ Some e → AgreeOn a b p (p + 4) → four_found b part end p ≡ Some e
four_stays a b part end p e is same =
    by_le (p + 4) end (λ t. (if t then prio_read part (a p) (a (suc p)) else None) ≡ Some e → (if t then prio_read part (b p) (b (suc p)) else None) ≡ Some e)
    (λ _ h. ap (λ (x : Value). prio_read part x (b (suc p))) (sym (same p (omega arith) (omega arith))) ∙ ap (λ (x : Value). prio_read part (a p) x) (sym (same (suc p) (omega arith) (omega arith))) ∙ h) (λ _ h. h) is

pub four_fits : (image : Image) (part end p : ℕ) (e : PrioSet) → four_found image part end p ≡ Some e → p + 4 ≤ end
four_fits image part end p e = by_le (p + 4) end (λ b. (if b then prio_read part (image p) (image (suc p)) else None) ≡ Some e → p + 4 ≤ end) (λ le _. le) (λ _ h. absurd (cc))

abbrev prios : Facts 1 ℕ PrioSet
prios = record {
  len = λ e. 4;
  some = λ e. omega arith;
  whole = λ e. (4, refl);
  spelled = if_four;
  long = four_long;
  found = four_found;
  fits = four_fits;
  reads_back = four_back;
  stays = four_stays;
}

-- the key of sector 7, whose data lies in bucket 7
pub no_more : (ptr : Ptr) → IsZeroFrom 1 (ptr ∷ replicate 5 no_ptr)
no_more ptr zero d from below = absurd (omega arith)
no_more ptr (suc i) d from below = subst IsZero (sym (get_or-replicate 5 i no_ptr d (omega arith))) (refl, refl, refl)

abbrev data_ptr : Ptr
data_ptr = record { dev = 0; offset = 28; generation = 45; dev_fits = lit< tt; offset_fits = lit< tt; generation_fits = lit< tt }

abbrev key : Key
key = record {
  inode = 0;
  end = 8;
  size = 1;
  dirty = true;
  csum = 0;
  count = 1;
  ptrs = data_ptr ∷ replicate 5 no_ptr;
  inode_fits = lit< tt;
  end_fits = lit< tt;
  size_fits = lit< tt;
  csum_fits = lit< tt;
  count_fits = lit≤ tt;
  six_places = refl;
  no_more_ptrs = no_more data_ptr;
}

abbrev pub first_entry : Entry
first_entry = record { number = 1; last_seq = 1; root = 2; word = 100; level = 0; prio = 3; keys = []; rest = [] }

abbrev pub second_entry : Entry
second_entry = record { number = 2; last_seq = 1; root = 8; word = 200; level = 0; prio = 5; keys = key ∷ []; rest = [] }

abbrev pub entry_read : Unit {0} → Value → Option Entry
entry_read o (suc zero ∷ []) = Some first_entry
entry_read o (suc (suc zero) ∷ []) = Some second_entry
entry_read o _ = None

abbrev old_leaf : NodeSet
old_leaf = record { seq = 5; keys = []; children = []; rest = [] }

abbrev pub new_leaf : NodeSet
new_leaf = record { seq = 6; keys = []; children = []; rest = [] }

abbrev next_set : NodeSet
next_set = record { seq = 6; keys = key ∷ []; children = []; rest = [] }

abbrev set_named : ℕ → Option NodeSet
set_named (suc zero) = Some old_leaf
set_named (suc (suc zero)) = Some new_leaf
set_named (suc (suc (suc zero))) = Some next_set
set_named _ = None

-- a set begins with the word of the pointer to its node
abbrev set_read : Owner → Value → Option NodeSet
set_read o (word ∷ n ∷ []) = if word == o.word then set_named n else None
set_read o _ = None

pub no_set : (o : Owner) → set_read o zeros ≡ None
unfolding zeros
no_set o = refl

-- ---- buckets of four sectors: 0 and 1 are the journal's, 2 has the root, 3 and 4 the chain, 5 and 6 are spare

pub apart : (a b t : ℕ) → a < 9 → b < 9 → a ≢ b → 4 * a ≤ t → t < 4 * a + 4 → 4 * b ≤ t → t < 4 * b + 4 → ⊥
apart a b t la lb ne x y z u = ne (omega arith)

-- a node is three sectors long, and the new one begins at the second sector of its bucket
abbrev pub layout : Layout
layout = record {
  buckets = 9;
  journal = 2;
  first = λ b. 4 * b;
  bucket_sectors = 4;
  block = 1;
  node_sectors = 3;
  begins = λ o. if o.word == 100 then 8 else 33;
  journal_within = omega arith;
  apart = apart;
  entries = one_sector entry_read;
  sets = one_sector set_read;
  blank = one_blank set_read no_set;
  prios = prios;
  fills = λ e. refl;
  chain_sets = 2;
}

abbrev old_gens : List ℕ
old_gens = 300 ∷ 300 ∷ 300 ∷ 300 ∷ 300 ∷ 300 ∷ 300 ∷ 300 ∷ 300 ∷ []

-- bucket 7 is raised
abbrev new_gens : List ℕ
new_gens = 300 ∷ 300 ∷ 300 ∷ 300 ∷ 300 ∷ 300 ∷ 300 ∷ 301 ∷ 300 ∷ []

abbrev first_bytes : Value
first_bytes = 44 ∷ 44 ∷ 44 ∷ 44 ∷ 44 ∷ []

abbrev old_bytes : Value
old_bytes = 44 ∷ 44 ∷ 44 ∷ 44 ∷ []

abbrev new_bytes : Value
new_bytes = 44 ∷ 44 ∷ 45 ∷ 44 ∷ []

abbrev pub at_list : List Value → ℕ → Value
at_list [] n = []
at_list (v ∷ vs) zero = v
at_list (v ∷ vs) (suc n) = at_list vs n

abbrev pub table : List Value
table = (1 ∷ []) ∷ [] ∷ [] ∷ [] ∷ [] ∷ [] ∷ [] ∷ [] ∷ (100 ∷ 1 ∷ []) ∷ [] ∷ [] ∷ [] ∷ (0 ∷ 4 ∷ []) ∷ first_bytes ∷ [] ∷ [] ∷ (1 ∷ 0 ∷ []) ∷ old_bytes ∷ []

-- in bucket 8 a set of the new leaf's seq was left, where it would stand behind the first one
abbrev pub picture : Image
picture s = if s == 34 then 200 ∷ 3 ∷ [] else at_list table s

-- what holds of each number below another
abbrev pub Below : ℕ → (ℕ → Type 0) → Type 0
Below zero P = Unit {0}
Below (suc n) P = P 0 × Below n (λ k. P (suc k))

pub each_below : (n : ℕ) (P : ℕ → Type 0) → Below n P → (p : ℕ) → p < n → P p
each_below zero P h p lt = absurd (omega arith)
each_below (suc n) P h zero lt = h.0
each_below (suc n) P h (suc p) lt = each_below n (λ k. P (suc k)) h.1 p (omega arith)

abbrev old_ring : ℕ → List Entry
old_ring b = if b == 0 then first_entry ∷ [] else []

abbrev old_next : ℕ → ℕ
old_next b = if b == 0 then 1 else 4 * b

-- all but the old root, all but both roots, all but the new root
abbrev first_unused : ℕ → Bool
first_unused q = if q == 2 then false else true

abbrev both_used : ℕ → Bool
both_used q = if q == 2 then false else (if q == 8 then false else true)

abbrev last_unused : ℕ → Bool
last_unused q = if q == 8 then false else true

abbrev pub opening : Opening
opening = record {
  image = picture;
  owners = λ q. record { word = 100; leaf = true };
  newest = first_entry;
  older = [];
  ring = old_ring;
  ring_next = old_next;
  bucket = 0;
  unused = first_unused;
  chain = 3 ∷ 4 ∷ [];
  gens = old_gens;
  spare = 5 ∷ 6 ∷ [];
}

-- ---- the opening is sound

one_number : (x : Entry) → In x (first_entry ∷ []) → x ≡ first_entry
one_number x (inl e) = e
one_number x (inr n) = absurd n

some_same : {A : Type 0} → (a b : A) → Some a ≡ Some b → a ≡ b
some_same a b e = cc

-- only one entry stands in the journal's buckets
one_entry : (e : Entry) (p : ℕ) → p < 8 → entry_read tt (picture p) ≡ Some e → e ≡ first_entry
one_entry e p lt = each_below 8 (λ k. entry_read tt (picture k) ≡ Some e → e ≡ first_entry)
    ((λ h. sym (some_same first_entry e h)), ((λ h. absurd (cc)), ((λ h. absurd (cc)), ((λ h. absurd (cc)), ((λ h. absurd (cc)), ((λ h. absurd (cc)), ((λ h. absurd (cc)), ((λ h. absurd (cc)), tt)))))))) p lt

stray : (b p : ℕ) (e : Entry) → b < 2 → (if nat_le (suc p) (4 * b + 4) then entry_read tt (picture p) else None) ≡ Some e → e ≡ first_entry
stray b p e lt = by_le (suc p) (4 * b + 4) (λ t. (if t then entry_read tt (picture p) else None) ≡ Some e → e ≡ first_entry) (λ le h. one_entry e p (omega arith) h) (λ _ h. absurd (cc))

sound_image : IsSoundImage layout (λ q. record { word = 100; leaf = true }) picture first_entry [] old_ring old_next 0
sound_image = record {
  sound = record {
    entries = record {
      greatest = λ x i. let e = ap (λ (y : Entry). y.number) (one_number x i) in omega arith;
      down = (refl, (omega arith), inl refl, (λ x i n. one_number x i), refl);
    };
    whole = λ e. absurd (cc);
  };
  room = record { stands = λ b x. by_test b 0 (λ t. In x (if t then first_entry ∷ [] else []) → In x (first_entry ∷ [])) (λ _ i. i) (λ _ i. absurd i); kept = λ x i. (0, i) };
  stands = λ b lt. by_test b 0 (λ t. Stand (λ e. 1) (entry_at layout picture b) (4 * b) (if t then first_entry ∷ [] else []) (if t then 1 else 4 * b))
      (λ e. subst (λ n. Stand (λ e. 1) (entry_at layout picture n) (4 * n) (first_entry ∷ []) 1) (sym e) (0, refl, refl, refl)) (λ _. refl);
  inside = λ b lt. by_test b 0 (λ t. (if t then 1 else 4 * b) ≤ 4 * b + 4) (λ _. omega arith) (λ _. omega arith);
  only_ring = λ b ge. by_test b 0 (λ t. (if t then first_entry ∷ [] else []) ≡ []) (λ e. absurd (omega arith)) (λ _. refl);
  current = omega arith;
  stray = λ b p e lt ge f. inr (inl (stray b p e lt f));
}

unused_but : (q : ℕ) → q ≢ 2 → first_unused q ≡ true
unused_but q ne = by_test q 2 (λ t. (if t then false else true) ≡ true) (λ e. absurd (ne e)) (λ _. refl)

in_two : (a b q : ℕ) → In q (a ∷ b ∷ []) → (q ≡ a) ⊎ (q ≡ b)
in_two a b q (inl e) = inl e
in_two a b q (inr (inl e)) = inr e
in_two a b q (inr (inr n)) = absurd n

distinct_two : (a b : ℕ) → a ≢ b → Distinct (a ∷ b ∷ [])
distinct_two a b ne = ((λ i. elim i [ inl e ↦ ne e | inr n ↦ n ]), ((λ i. i), tt))

out_two : (a b q : ℕ) → q ≢ a → q ≢ b → In q (a ∷ b ∷ []) → ⊥
out_two a b q na nb i = elim (in_two a b q i) [ inl e ↦ na e | inr e ↦ nb e ]

each_two : (P : ℕ → Type 0) (a b : ℕ) → P a → P b → EachOf P (a ∷ b ∷ [])
each_two P a b pa pb q i = elim (in_two a b q i) [ inl e ↦ subst P (sym e) pa | inr e ↦ subst P (sym e) pb ]

pub sound_opening : IsSound layout opening
sound_opening = record {
  whole = sound_image;
  keeps = λ p. by_test p 2 (λ t. (if t then false else true) ≡ true → 2 ≢ p) (λ _ h. absurd (cc)) (λ ne _ e. ne (sym e));
  outside = λ q h. unused_but q (λ e. absurd (elim h [ inl lt ↦ absurd (omega arith) | inr ge ↦ absurd (omega arith) ]));
  chain = refl;
  distinct = distinct_two 3 4 (λ e. absurd (cc));
  free = each_two (λ q. first_unused q ≡ true) 3 4 refl refl;
  spare = each_two (λ q. (first_unused q ≡ true) × (In q (3 ∷ 4 ∷ []) → ⊥) × (2 ≤ q) × (q < 9)) 5 6
      (refl, out_two 3 4 5 (λ e. absurd (cc)) (λ e. absurd (cc)), (omega arith), (omega arith))
      (refl, out_two 3 4 6 (λ e. absurd (cc)) (λ e. absurd (cc)), (omega arith), (omega arith));
  spare_distinct = distinct_two 5 6 (λ e. absurd (cc));
  spare_count = refl;
  named = refl;
}

-- ---- a run

abbrev first_set : PrioSet
first_set = record { next = 6; gens = first_bytes }

abbrev last_set : PrioSet
last_set = record { next = 0; gens = new_bytes }

abbrev pub first_values : List Value
first_values = (0 ∷ 6 ∷ []) ∷ first_bytes ∷ [] ∷ [] ∷ []

abbrev pub last_values : List Value
last_values = (1 ∷ 0 ∷ []) ∷ new_bytes ∷ [] ∷ [] ∷ []

abbrev pub new_owner : Owner
new_owner = record { word = 200; leaf = true }

abbrev pub leaf_values : List Value
leaf_values = (200 ∷ 2 ∷ []) ∷ zeros ∷ zeros ∷ []

-- a chain and a new leaf are written, and data with its key
abbrev pub building : List Act
building =
    Take 1 5 ∷ Take 1 6 ∷ FailHeld 1 5 21 ((9 ∷ []) ∷ []) None ∷ WriteSet 1 5 0 first_set first_values ∷ WriteSet 1 6 1 last_set last_values
    ∷ Take 2 8 ∷ WriteNode 2 8 new_owner new_leaf leaf_values ∷ WriteData 7 28 ((77 ∷ []) ∷ []) ∷ Plain (AddKey key) ∷ []

-- an entry names both, and is durable; the old leaf and the old chain are given up, the new leaf gets a set, and an old bucket a priority set
abbrev pub sealing : List Act
sealing =
    SealChain 1 (5 ∷ 6 ∷ []) new_gens second_entry both_used ∷ Plain Barrier ∷ Plain (FailEntry ((2 ∷ []) ∷ [])) ∷ Plain (WriteEntry ((2 ∷ []) ∷ [])) ∷ Plain Barrier ∷ Durable
    ∷ ChainReady 1 (3 ∷ 4 ∷ []) ∷ Plain (GiveUp last_unused) ∷ Plain (AddSet 8 next_set ((200 ∷ 3 ∷ []) ∷ []) last_unused) ∷ Take 3 3 ∷ WriteSet 3 3 0 first_set first_values ∷ []

abbrev pub begun : ℕ → List Act → List Act
begun zero acts = []
begun (suc n) [] = []
begun (suc n) (act ∷ acts) = act ∷ begun n acts

abbrev pub start : State
start = opened layout opening

-- the states after so many acts of each part
abbrev pub built_to : ℕ → State
built_to n = fold layout start (begun n building)

abbrev pub middle : State
middle = fold layout start building

abbrev pub sealed_to : ℕ → State
sealed_to n = fold layout middle (begun n sealing)

abbrev end : State
end = fold layout middle sealing

-- apart from these no node lies
not_two : (st : State) → st.chain_of 2 ≡ None → (In 2 st.spare → ⊥) → (q : ℕ) → IsApart layout st q → q ≢ 2
not_two st none_ out q h e = go h
  where
    some_none : (o : Option ℕ) (n : ℕ) → o ≡ Some n → o ≡ None → ⊥
    some_none o n a b = absurd (cc)

    go : IsApart layout st q → ⊥
    go (inl lt) = absurd (omega arith)
    go (inr (inl ge)) = absurd (omega arith)
    go (inr (inr (inl y))) = some_none (st.chain_of q) y.0 y.1 (ap st.chain_of e ∙ none_)
    go (inr (inr (inr i))) = out (subst (λ (x : ℕ). In x st.spare) e i)

not_eight : (st : State) → st.chain_of 8 ≡ None → (In 8 st.spare → ⊥) → (q : ℕ) → IsApart layout st q → q ≢ 8
not_eight st none_ out q h e = go h
  where
    some_none : (o : Option ℕ) (n : ℕ) → o ≡ Some n → o ≡ None → ⊥
    some_none o n a b = absurd (cc)

    go : IsApart layout st q → ⊥
    go (inl lt) = absurd (omega arith)
    go (inr (inl ge)) = absurd (omega arith)
    go (inr (inr (inl y))) = some_none (st.chain_of q) y.0 y.1 (ap st.chain_of e ∙ none_)
    go (inr (inr (inr i))) = out (subst (λ (x : ℕ). In x st.spare) e i)

both_but : (q : ℕ) → q ≢ 2 → q ≢ 8 → both_used q ≡ true
both_but q n2 n8 = by_test q 2 (λ t. (if t then false else (if q == 8 then false else true)) ≡ true) (λ e. absurd (n2 e)) (λ _. by_test q 8 (λ t. (if t then false else true) ≡ true) (λ e. absurd (n8 e)) (λ _. refl))

last_but : (q : ℕ) → q ≢ 8 → last_unused q ≡ true
last_but q ne = by_test q 8 (λ t. (if t then false else true) ≡ true) (λ e. absurd (ne e)) (λ _. refl)

stays_first : (st : State) → st.chain_of 2 ≡ None → (In 2 st.spare → ⊥) → StaysUnused layout st first_unused
stays_first st none_ out q h = unused_but q (not_two st none_ out q h)

stays_both : (st : State) → st.chain_of 2 ≡ None → (In 2 st.spare → ⊥) → st.chain_of 8 ≡ None → (In 8 st.spare → ⊥) → StaysUnused layout st both_used
stays_both st a b c d q h = both_but q (not_two st a b q h) (not_eight st c d q h)

stays_last : (st : State) → st.chain_of 8 ≡ None → (In 8 st.spare → ⊥) → StaysUnused layout st last_unused
stays_last st a b q h = last_but q (not_eight st a b q h)

fresh : (a b q : ℕ) → (q == a) ≡ false → (q == b) ≡ false → In q (a ∷ b ∷ []) → ⊥
fresh a b q na nb = out_two a b q (λ e. differs q a e na) (λ e. differs q b e nb)
  where
    differs : (x y : ℕ) → x ≡ y → (x == y) ≡ false → ⊥
    differs x y e = by_test x y (λ t. t ≡ false → ⊥) (λ _ h. absurd (cc)) (λ ne _. ne e)

abbrev pub first_write : IsFirstWrite layout new_owner new_leaf leaf_values
first_write = record { front = (200 ∷ 2 ∷ []) ∷ []; spelled = refl; values_are = refl }

can_start : CanStart layout (built_to 6).places 8 new_owner new_leaf leaf_values
can_start = record {
  low = omega arith;
  high = omega arith;
  inside = refl;
  room = omega arith;
  first = first_write;
  unheard = λ at e w. absurd w;
}

pub can_build : IsRun layout start building
can_build = (
  ((refl, (omega arith)), (refl, refl, (omega arith))),
  (
    ((refl, (omega arith)), (refl, refl, (omega arith))),
    (
      ((refl, ((omega arith), (omega arith), (omega arith), (omega arith))), (refl, refl)),
      (
        ((refl, ((omega arith), (omega arith), (omega arith), (omega arith))), ((refl, refl), refl)),
        (
          ((refl, ((omega arith), (omega arith), (omega arith), (omega arith))), ((refl, refl), refl)),
          (
            ((refl, (omega arith)), (refl, refl, (omega arith))),
            (
              ((refl, can_start), (refl, refl)),
              (
                ((refl, ((omega arith), (omega arith), (omega arith), (omega arith))), (refl, fresh 5 6 7 refl refl)),
                (
                  ((tt, tt), (refl, stays_first (built_to 8) refl (fresh 5 6 2 refl refl))),
                  tt,
                ),
              ),
            ),
          ),
        ),
      ),
    ),
  ),
)

pub run_on : (st : State) (xs ys : List Act) → IsRun layout st xs → IsRun layout (fold layout st xs) ys → IsRun layout st (xs ++ ys)
run_on st [] ys a b = b
run_on st (x ∷ xs) ys a b = (a.0, run_on (after layout st x) xs ys a.1 b)

fold_on : (st : State) (xs ys : List Act) → fold layout st (xs ++ ys) ≡ fold layout (fold layout st xs) ys
fold_on st [] ys = refl
fold_on st (x ∷ xs) ys = fold_on (after layout st x) xs ys

-- a leaf with this set or two reads as the index
reads_as : (nodes : ℕ → Node) (unused : ℕ → Bool) (es : List Entry) (index : List Key) → unused 8 ≡ false
    → ((c : NodeSets) → MayRead nodes c → Alike (all_keys es ++ set_keys (c 8)) index × (c 8 ≢ [])) → (nodes 8).owner ≡ new_owner → Reads nodes unused es index 0 8 200
reads_as nodes unused es index used h owner c may = ((h c may).0, (h c may).1, λ p is e. used_not p is e, owner)
  where
    both_ways : (b : Bool) → b ≡ true → b ≡ false → ⊥
    both_ways b x y = absurd (cc)

    used_not : (p : ℕ) → unused p ≡ true → 8 ≡ p → ⊥
    used_not p is e = both_ways (unused p) is (ap unused (sym e) ∙ used)

-- the new leaf reads as its first set
one_set : (nodes : ℕ → Node) → nodes 8 ≡ record { loose = false; owner = new_owner; sets = new_leaf ∷ []; last = new_leaf; sent = false; failed = false } → (c : NodeSets) → MayRead nodes c → c 8 ≡ new_leaf ∷ []
one_set nodes is c may = go (subst (λ (n : Node). MayHold n (c 8)) is (may 8))
  where
    no_true : false ≡ true → ⊥
    no_true e = cc

    go : (false ≡ true) ⊎ (c 8 ≡ new_leaf ∷ []) ⊎ (((false ≡ true) ⊎ (false ≡ true)) × (c 8 ≡ new_leaf ∷ new_leaf ∷ [])) → c 8 ≡ new_leaf ∷ []
    go (inl e) = absurd (no_true e)
    go (inr (inl e)) = e
    go (inr (inr e)) = absurd (elim e.0 [ inl x ↦ no_true x | inr x ↦ no_true x ])

-- or as its first set and the one that was sent
two_sets : (nodes : ℕ → Node) → nodes 8 ≡ record { loose = false; owner = new_owner; sets = new_leaf ∷ []; last = next_set; sent = true; failed = false } → (c : NodeSets) → MayRead nodes c → (c 8 ≡ new_leaf ∷ []) ⊎ (c 8 ≡ next_set ∷ new_leaf ∷ [])
two_sets nodes is c may = go (subst (λ (n : Node). MayHold n (c 8)) is (may 8))
  where
    no_true : false ≡ true → ⊥
    no_true e = cc

    go : (false ≡ true) ⊎ (c 8 ≡ new_leaf ∷ []) ⊎ (((true ≡ true) ⊎ (false ≡ true)) × (c 8 ≡ next_set ∷ new_leaf ∷ [])) → (c 8 ≡ new_leaf ∷ []) ⊎ (c 8 ≡ next_set ∷ new_leaf ∷ [])
    go (inl e) = absurd (no_true e)
    go (inr (inl e)) = inl e
    go (inr (inr e)) = inr e.1

not_none : (x : NodeSet) (xs : List NodeSet) → x ∷ xs ≢ []
not_none x xs e = cc

-- a key twice is a key once
twice : (k : Key) → Alike (k ∷ k ∷ []) (k ∷ [])
twice k s = go (covers k s)
  where
    go : (b : Bool) → (if b then ref_by k s (pointer_of k) else (if b then ref_by k s (pointer_of k) else None)) ≡ (if b then ref_by k s (pointer_of k) else None)
    go true = refl
    go false = refl

seal_reads : Reads (λ q. stable_node (middle.places.records.nodes q)) both_used (first_entry ∷ []) [] 0 8 200
seal_reads = reads_as (λ q. stable_node (middle.places.records.nodes q)) both_used (first_entry ∷ []) [] refl
    (λ c may. let is = one_set (λ q. stable_node (middle.places.records.nodes q)) refl c may in (
      subst (λ (ss : List NodeSet). Alike (all_keys (first_entry ∷ []) ++ set_keys ss) []) (sym is) (λ s. refl),
      subst (λ (ss : List NodeSet). ss ≢ []) (sym is) (not_none new_leaf []),
    )) refl

give_reads : Reads (sealed_to 7).places.records.nodes last_unused (second_entry ∷ first_entry ∷ []) (key ∷ []) 0 8 200
give_reads = reads_as (sealed_to 7).places.records.nodes last_unused (second_entry ∷ first_entry ∷ []) (key ∷ []) refl
    (λ c may. let is = one_set (sealed_to 7).places.records.nodes refl c may in (
      subst (λ (ss : List NodeSet). Alike (all_keys (second_entry ∷ first_entry ∷ []) ++ set_keys ss) (key ∷ [])) (sym is) (λ s. refl),
      subst (λ (ss : List NodeSet). ss ≢ []) (sym is) (not_none new_leaf []),
    )) refl

add_reads : Reads (sealed_to 9).places.records.nodes last_unused (second_entry ∷ first_entry ∷ []) (key ∷ []) 0 8 200
add_reads = reads_as (sealed_to 9).places.records.nodes last_unused (second_entry ∷ first_entry ∷ []) (key ∷ []) refl
    (λ c may. elim (two_sets (sealed_to 9).places.records.nodes refl c may) [
      | inl is ↦ (
        subst (λ (ss : List NodeSet). Alike (all_keys (second_entry ∷ first_entry ∷ []) ++ set_keys ss) (key ∷ [])) (sym is) (λ s. refl),
        subst (λ (ss : List NodeSet). ss ≢ []) (sym is) (not_none new_leaf []),
      )
      | inr is ↦ (
        subst (λ (ss : List NodeSet). Alike (all_keys (second_entry ∷ first_entry ∷ []) ++ set_keys ss) (key ∷ [])) (sym is) (twice key),
        subst (λ (ss : List NodeSet). ss ≢ []) (sym is) (not_none next_set (new_leaf ∷ [])),
      )
    ]) refl

fewer : IsFewer both_used first_unused
fewer q = by_test q 2 (λ t. (if t then false else (if q == 8 then false else true)) ≡ true → (if t then false else true) ≡ true) (λ _ h. h) (λ _ h. refl)

pub can_seal : IsRun layout middle sealing
can_seal = (
  (((refl, (omega arith), (omega arith), fewer, seal_reads, refl, refl), tt), (stays_both middle refl (fresh 5 6 2 refl refl) refl (fresh 5 6 8 refl refl), each_two (Holds middle 1) 5 6 (refl, refl) (refl, refl), each_two (λ q. both_used q ≡ true) 5 6 refl refl, distinct_two 5 6 (λ e. absurd (cc)), refl, (refl, (first_set, refl, (new_bytes, refl, (refl, (last_set, refl, ([], refl, (refl, refl))))))), refl)),
  (
    ((tt, tt), (refl, stays_both (sealed_to 1) refl (fresh 5 6 2 refl refl) refl (fresh 5 6 8 refl refl))),
    (
      ((refl, (refl, (omega arith))), (refl, stays_both (sealed_to 2) refl (fresh 5 6 2 refl refl) refl (fresh 5 6 8 refl refl))),
      (
        ((refl, (refl, (omega arith))), (refl, stays_both (sealed_to 3) refl (fresh 5 6 2 refl refl) refl (fresh 5 6 8 refl refl))),
        (
          ((tt, tt), (refl, stays_both (sealed_to 4) refl (fresh 5 6 2 refl refl) refl (fresh 5 6 8 refl refl))),
          (
            ((refl, tt), tt),
            (
              (tt, ((omega arith), each_two (λ q. (sealed_to 6).holder q ≡ Some 1) 5 6 refl refl, distinct_two 3 4 (λ e. absurd (cc)), refl, each_two (λ q. ((sealed_to 6).chain_of q ≡ Some 0) ⊎ (In q (5 ∷ 6 ∷ []) × ((sealed_to 6).chain_of q ≢ Some 1))) 3 4 (inl refl) (inl refl))),
              (
                (((give_reads, λ ne. absurd (ne refl)), tt), (refl, stays_last (sealed_to 7) refl (fresh 3 4 8 refl refl))),
                (
                  ((((refl, refl, refl), (add_reads, λ ne. absurd (ne refl))), ((omega arith), (refl, refl, (omega arith), refl))), (refl, stays_last (sealed_to 8) refl (fresh 3 4 8 refl refl))),
                  (
                    ((refl, (omega arith)), (refl, refl, (omega arith))),
                    (
                      ((refl, ((omega arith), (omega arith), (omega arith), (omega arith))), ((refl, refl), refl)),
                      tt,
                    ),
                  ),
                ),
              ),
            ),
          ),
        ),
      ),
    ),
  ),
)

-- ---- what a crash may leave at the end

abbrev last : Places
last = end.places

pub one_of : (v x : Value) → Among v (x ∷ []) → v ≡ x
one_of v x (inl e) = e
one_of v x (inr n) = absurd n

-- a value that is one of these is read as one of these
read_one : (v x : Value) (e : Entry) → Among v (x ∷ []) → entry_read tt v ≡ Some e → entry_read tt x ≡ Some e
read_one v x e a h = ap (λ (u : Value). entry_read tt u) (sym (one_of v x a)) ∙ h

none_entry : (e : Entry) → None ≡ Some e → ⊥
none_entry e h = cc

-- the entries stand in the first two sectors
abbrev AtEntry : Image → Entry → ℕ → Type 0
AtEntry image e p = Among (image p) (last.device.leaves p) → entry_read tt (image p) ≡ Some e → ((p ≡ 0) × (e ≡ first_entry)) ⊎ ((p ≡ 1) × (e ≡ second_entry))

entry_left : (image : Image) (e : Entry) (p : ℕ) → p < 8 → AtEntry image e p
entry_left image e p lt = each_below 8 (AtEntry image e) (
  (λ a h. inl (refl, sym (some_same first_entry e (read_one (image 0) (1 ∷ []) e a h)))),
  (
    (λ a h. inr (refl, sym (some_same second_entry e (read_one (image 1) (2 ∷ []) e a h)))),
    (
      (λ a h. absurd (none_entry e (read_one (image 2) [] e a h))),
      (
        (λ a h. absurd (none_entry e (read_one (image 3) [] e a h))),
        (
          (λ a h. absurd (none_entry e (read_one (image 4) [] e a h))),
          (
            (λ a h. absurd (none_entry e (read_one (image 5) [] e a h))),
            (
              (λ a h. absurd (none_entry e (read_one (image 6) [] e a h))),
              ((λ a h. absurd (none_entry e (read_one (image 7) [] e a h))), tt),
            ),
          ),
        ),
      ),
    ),
  ),
) p lt

entry_chance : (image : Image) (b at : ℕ) (e : Entry) → MayLeave last.device image → b < 2 → IsAtBlock 1 (4 * b) at → entry_at layout image b at ≡ Some e → (entry_at layout picture b at ≡ Some e) ⊎ Wrote last.entry_log b at e
entry_chance image b at e left lt block =
    let ge = block_high 1 (4 * b) at block in
    by_le (suc at) (4 * b + 4) (λ t. (if t then entry_read tt (image at) else None) ≡ Some e → (entry_at layout picture b at ≡ Some e) ⊎ Wrote last.entry_log b at e)
    (λ le h. elim (entry_left image e at (omega arith) (left at) h) [
      | inl k ↦ (let k0 = k.0 in inl (subst (λ (q : ℕ). entry_at layout picture q at ≡ Some e) (zero_is b (omega arith)) (subst (λ (p : ℕ). entry_at layout picture 0 p ≡ Some e) (sym k.0) (ap Some (sym k.1)))))
      | inr k ↦ (let k0 = k.0 in inr (inl (sym (zero_is b (omega arith)), k.0, k.1)))
    ]) (λ _ h. absurd (cc))
  where
    zero_is : (b : ℕ) → b ≤ 0 → 0 ≡ b
    zero_is b le = omega arith

-- the run's one node is that in bucket 8
pub put_no : (f : ℕ → Bool) (k : ℕ) → ((q : ℕ) → f q ≡ true → q ≡ 8) → (q : ℕ) → put f k false q ≡ true → q ≡ 8
put_no f k h q = by_test q k (λ t. (if t then false else f q) ≡ true → q ≡ 8) (λ _ e. absurd (cc)) (λ _ e. h q e)

pub put_yes : (f : ℕ → Bool) → ((q : ℕ) → f q ≡ true → q ≡ 8) → (q : ℕ) → put f 8 true q ≡ true → q ≡ 8
put_yes f h q = by_test q 8 (λ t. (if t then true else f q) ≡ true → q ≡ 8) (λ e _. e) (λ _ e. h q e)

own_is : (q : ℕ) → last.own q ≡ true → q ≡ 8
own_is = put_no _ 3 (put_no _ 3 (put_no _ 7 (put_yes _ (put_no _ 8 (put_no _ 6 (put_no _ 5 (put_no _ 5 (put_no _ 6 (put_no _ 5 (λ q e. absurd (cc)))))))))))

read_set : (v : Value) (e : NodeSet) → Among v ((200 ∷ 3 ∷ []) ∷ zeros ∷ []) → set_read new_owner v ≡ Some e → e ≡ next_set
read_set v e (inl is) h = sym (some_same next_set e (ap (λ (u : Value). set_read new_owner u) (sym is) ∙ h))
read_set v e (inr a) h = absurd (none_set e (sym (no_set new_owner) ∙ ap (λ (u : Value). set_read new_owner u) (sym (one_of v zeros a)) ∙ h))
  where
    none_set : (e : NodeSet) → None ≡ Some e → ⊥
    none_set e h = cc

set_chance : NoTornSet layout last
set_chance image q e left own = subst AtNode (sym (own_is q own)) (λ _ _ _ h. inr (inl (refl, refl, read_set (image 34) e (left 34) h)))
  where
    AtNode : ℕ → Type 0
    AtNode n = (last.records.nodes n).loose ≡ false → MayStand (last.records.nodes n) → e.seq ≡ last.seq n → layout.sets.found image (last.records.nodes n).owner (node_end layout (last.records.nodes n).owner) (last.node_next n) ≡ Some e
        → AreSure last.device (last.node_next n) (last.node_next n + 1) ⊎ Wrote last.log n (last.node_next n) e

other_gens : new_gens ≢ old_gens
other_gens e = far (slice_index_or new_gens 7 0) refl (ap (λ (l : List ℕ). slice_index_or l 7 0) e)
  where
    far : (a : ℕ) → a ≡ 301 → a ≡ 300 → ⊥
    far a x y = omega arith

pub has_example : HasExample
has_example = (
  layout,
  opening,
  (
    building ++ sealing,
    record {
      sound = sound_opening;
      run = run_on start building sealing can_build can_seal;
      chance = record { entries = entry_chance; sets = set_chance };
      durable = refl;
      ready = refl;
      other = other_gens;
      again = (3, inl refl, (record { part = 0; set = first_set }, refl));
      root = λ e. absurd (cc);
      leftover = (34, omega arith, (next_set, refl, refl));
      added = refl;
      key = refl;
    },
  ),
)
