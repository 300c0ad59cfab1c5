-- Keys of a write that name places which the seat filled: what the core asks of them.
use Rattle.std.proofs.Common.{◌≡◌, ◌⊎◌, inl, inr, ℕ, zero, suc, ◌+◌, ◌-◌, ◌%◌, ◌<◌, ◌≤◌, Bool, true, false, List, [], ◌∷◌, ◌++◌, length, reverse, Option, Some, None, refl, sym, ap, ◌∙◌, subst, arith}
use Rattle.std.specs.Prelude.{◌||◌, if◌then◌else◌}
use Rattle.std.proofs.lemmas.Bool.{cases_lt}
use Rattle.std.proofs.lemmas.List.{reverse-append}
use Rattle.bc_model.specs.Sector.{Value, at_run}
use Rattle.bc_model.proofs.Cases.{by_test}
use Rattle.bc_model.proofs.Runs.{at_hit, at_range}
use Rattle.bc_books.proofs.Cases.{by_within, place_range}
use Rattle.bc_books.specs.Enabled.{CanPut, IsLawful}
use Rattle.bc_books.specs.Index.{Kind, Clean, Dirty, Pointer, Index, AreWhole, first_hit, hit, if_points, latest, names, pointer_of, run_place, within}
use Rattle.bc_books.specs.Index as index
use Rattle.bc_books.specs.Shelves.{IsPinned, Own, Owner, WasPinned}
use Rattle.bc_data.proofs.Runs.{sector_range}
use Rattle.bc_data.specs.Data.{claim_of}
use Rattle.bc_data.specs.Seats.{Covers}
use Rattle.bc_data.specs.Enabled.{CanInsertWrite, Fits, Hits}
use Rattle.bc_events.specs.Keys.{book_key, book_keys, points_by, version_by}
use Rattle.bc_events.specs.Run.{State}
use Rattle.bc_fill.specs.Fresh.{IsOf}
use Rattle.bc_fill.specs.declared.fill.Placed.{Placed}
use Rattle.bc_key.specs.declared.key.Key.{Key}
use Rattle.bc_key.specs.Key.{start_of}
use Rattle.bc_deed.specs.bc_machine.World.{Origin}
use Rattle.bc_shares.specs.Shares.{books_of}
use Rattle.bc_place.specs.Named.{AreFilled, AreKeysFor, IsFilled, IsKeyFor, sectors_of}

-- ---- lists of keys

abbrev Each : (index.Key → Type 0) → List index.Key → Type 0
Each Q [] = Unit {0}
Each Q (k ∷ ks) = Q k × Each Q ks

each_append : (Q : index.Key → Type 0) (xs ys : List index.Key) → Each Q xs → Each Q ys
    → Each Q (xs ++ ys)
each_append Q [] ys a b = b
each_append Q (x ∷ xs) ys a b = (a.0, each_append Q xs ys a.1 b)

pub turned : {A : Type 0} (x : A) (xs : List A) → reverse (x ∷ xs) ≡ reverse xs ++ x ∷ []
turned x xs = reverse-append (x ∷ []) xs

each_reverse : (Q : index.Key → Type 0) (ks : List index.Key) → Each Q ks → Each Q (reverse ks)
each_reverse Q [] e = tt
each_reverse Q (k ∷ ks) e = subst (Each Q) (sym (turned k ks))
    (each_append Q (reverse ks) (k ∷ []) (each_reverse Q ks e.1) (e.0, tt))

some_pointer : (a b : Option Pointer) → Some a ≡ Some b → a ≡ b
some_pointer a b e = cc

-- what holds where each key points, holds of each hit
each_hit : (P : ℕ → Option Pointer → Type 0) (ks : List index.Key)
    → Each (λ k. (s p : ℕ) → run_place k.first k.place k.count s ≡ Some p
    → P s (pointer_of k.kind p k.version)) ks → Hits ks P
each_hit P [] all s o is = absurd (cc)
each_hit P (k ∷ ks) all s o is =
    go (run_place k.first k.place k.count s) refl (each_hit P ks all.1 s o) is
  where
    go : (x : Option ℕ) → run_place k.first k.place k.count s ≡ x → (hit ks s ≡ Some o → P s o)
        → first_hit k x (hit ks s) ≡ Some o → P s o
    go None at rest later = rest later
    go (Some p) at rest first = subst (P s) (some_pointer _ _ first) (all.0 s p at)

-- and so with the places that they name
each_named : (P : ℕ → Type 0) (ks : List index.Key)
    → Each (λ k. (t : ℕ) → within k.place k.count t ≡ true → P t) ks → (t : ℕ) → names ks t ≡ true
    → P t
each_named P [] all t is = absurd (cc)
each_named P (k ∷ ks) all t is =
    go k.kind (within k.place k.count t) refl (each_named P ks all.1 t) is
  where
    go : (kind : Option Kind) (b : Bool) → within k.place k.count t ≡ b
        → (names ks t ≡ true → P t) → (if_points kind b || names ks t) ≡ true → P t
    go None b at rest later = rest later
    go (Some kind) true at rest first = all.0 t at
    go (Some kind) false at rest later = rest later

abbrev IsWhole : (ℕ → ℕ) → index.Key → Type 0
IsWhole bucket k = (0 < k.count)
    × ((s p : ℕ) → run_place k.first k.place k.count s ≡ Some p → bucket p ≡ bucket k.place)

each_whole : (bucket : ℕ → ℕ) (ks : List index.Key) → Each (IsWhole bucket) ks → AreWhole bucket ks
each_whole bucket [] all = tt
each_whole bucket (k ∷ ks) all = (all.0.0, all.0.1, each_whole bucket ks all.1)

-- ---- what covers a sector

abbrev or_else : {A : Type 0} → Option A → Option A → Option A
or_else None b = b
or_else (Some a) b = Some a

hit_append : (xs ys : List index.Key) (s : ℕ) → hit (xs ++ ys) s ≡ or_else (hit xs s) (hit ys s)
hit_append [] ys s = refl
hit_append (k ∷ ks) ys s = go (run_place k.first k.place k.count s) (hit_append ks ys s)
  where
    go : (x : Option ℕ) → hit (ks ++ ys) s ≡ or_else (hit ks s) (hit ys s)
        → first_hit k x (hit (ks ++ ys) s) ≡ or_else (first_hit k x (hit ks s)) (hit ys s)
    go None rest = rest
    go (Some p) rest = refl

abbrev IsHit : Option (Option Pointer) → Type 0
IsHit h = (o : Option Pointer) × (h ≡ Some o)

first_or : (a b : Option (Option Pointer)) → IsHit a → IsHit (or_else a b)
first_or a b (o, is) = (o, ap (λ x. or_else x b) is)

last_or : (a b : Option (Option Pointer)) → IsHit b → IsHit (or_else a b)
last_or None b h = h
last_or (Some a) b h = (a, refl)

run_hit : (a p n s : ℕ) → a ≤ s → s < a + n → (t : ℕ) × (run_place a p n s ≡ Some t)
run_hit a p zero s low high = absurd (omega (arith, low, high))
run_hit a p (suc n) s low high = by_test a s
    (λ b. (t : ℕ) × ((if b then Some p else run_place (suc a) (suc p) n s) ≡ Some t))
    (λ is. (p, refl))
    (λ ne. run_hit (suc a) (suc p) n s (omega (arith, low, ne)) (omega (arith, high)))

-- ---- the keys of places

module _ (bucket version : ℕ → ℕ) where
  -- a place's key as the books have it
  abbrev pub book_of : ℕ → Placed → index.Key
  book_of n p = record {
    first = n;
    count = p.count;
    kind = Some Dirty;
    place = p.ptr.offset;
    version = version (bucket p.ptr.offset);
  }

  abbrev pub books_for : ℕ → List Placed → List index.Key
  books_for n [] = []
  books_for n (p ∷ ps) = book_of n p ∷ books_for (n + p.count) ps

  -- the byte of the present version
  pub present : (v g : ℕ) → g ≡ v % 256 → version_by v g ≡ v
  present v g is = ap (λ b. v - ((v % 256 + 256) - b) % 256) is
      ∙ ap (λ n. v - n % 256) (let e : (v % 256 + 256) - v % 256 ≡ 256 = omega arith in e)
      ∙ (let all : v - 0 ≡ v = omega arith in all)

  abbrev key_of : (first count place version : ℕ) → Bool → index.Key
  key_of first count place version dirty = record {
    first = first;
    count = count;
    kind = Some (if dirty then Dirty else Clean);
    place = place;
    version = version;
  }

  key_is : (a n c m place v u : ℕ) (d : Bool) → a ≡ n → c ≡ m → d ≡ true → v ≡ u
      → key_of a c place v d ≡ key_of n m place u true
  key_is a n c m place v u d first size dirty at = ap (λ x. key_of x c place v d) first
      ∙ ap (λ x. key_of n x place v d) size
      ∙ ap (λ b. key_of n m place v b) dirty
      ∙ ap (λ x. key_of n m place x true) at

  pub book_is : (n : ℕ) (p : Placed) (key : Key) → IsKeyFor n p key
      → p.ptr.generation ≡ version (bucket p.ptr.offset) % 256
      → book_key bucket version key ≡ book_of n p
  book_is n p key is fresh = ap (points_by bucket version key) is.pointer
      ∙ key_is (start_of key) n key.size p.count p.ptr.offset _ _ key.dirty
      (let end = is.end in let size = is.size in omega (arith, end, size)) is.size is.dirty
      (present (version (bucket p.ptr.offset)) p.ptr.generation fresh)

  books_append : (xs ys : List Key) → book_keys bucket version (xs ++ ys)
      ≡ book_keys bucket version xs ++ book_keys bucket version ys
  books_append [] ys = refl
  books_append (x ∷ xs) ys = ap (λ ks. book_key bucket version x ∷ ks) (books_append xs ys)

  pub books_reverse : (xs : List Key) → book_keys bucket version (reverse xs)
      ≡ reverse (book_keys bucket version xs)
  books_reverse [] = refl
  books_reverse (x ∷ xs) = ap (book_keys bucket version) (turned x xs)
      ∙ books_append (reverse xs) (x ∷ [])
      ∙ ap (λ ks. ks ++ book_key bucket version x ∷ []) (books_reverse xs)
      ∙ sym (turned (book_key bucket version x) (book_keys bucket version xs))

  -- each sector of the places is covered
  covered : (n : ℕ) (ps : List Placed) (s : ℕ) → n ≤ s → s < n + sectors_of ps
      → IsHit (hit (reverse (books_for n ps)) s)
  covered n [] s low high = absurd (omega (arith, low, high))
  covered n (p ∷ ps) s low high = subst IsHit
      (sym (ap (λ ks. hit ks s) (turned (book_of n p) (books_for (n + p.count) ps))
      ∙ hit_append (reverse (books_for (n + p.count) ps)) (book_of n p ∷ []) s))
      (go (λ from. covered (n + p.count) ps s from (omega (arith, high))) (cases_lt s (n + p.count)))
    where
      own : (t : ℕ) → run_place n p.ptr.offset p.count s ≡ Some t
          → IsHit (hit (book_of n p ∷ []) s)
      own t at = (
        Some (record {
          kind = Dirty;
          place = t;
          version = version (bucket p.ptr.offset);
        }),
        ap (λ x. first_hit (book_of n p) x None) at,
      )

      go : (n + p.count ≤ s → IsHit (hit (reverse (books_for (n + p.count) ps)) s))
          → (s < n + p.count) ⊎ (n + p.count ≤ s)
          → IsHit (or_else (hit (reverse (books_for (n + p.count) ps)) s)
          (hit (book_of n p ∷ []) s))
      go rest (inl less) = let at = run_hit n p.ptr.offset p.count s low less in
          last_or (hit (reverse (books_for (n + p.count) ps)) s) _ (own at.0 at.1)
      go rest (inr from) = first_or _ (hit (book_of n p ∷ []) s) (rest from)

-- ---- in a state

module _ (o : Origin) (st : State) (i : ℕ) (want : ℕ → Option Value) where
  abbrev bucket : ℕ → ℕ
  bucket = o.opening.machine.flow.books.bucket

  abbrev version : ℕ → ℕ
  version = (books_of st.machine).generations.version

  books_are : (n : ℕ) (ps : List Placed) (keys : List Key) → AreKeysFor n ps keys
      → AreFilled i n want ps o st → book_keys bucket version keys ≡ books_for bucket version n ps
  books_are n [] [] are filled = refl
  books_are n [] (x ∷ xs) are filled = absurd are
  books_are n (p ∷ ps) [] are filled = absurd are
  books_are n (p ∷ ps) (x ∷ xs) are filled =
      ap (λ k. k ∷ book_keys bucket version xs)
      (book_is bucket version n p x are.0 filled.0.own.generation)
      ∙ ap (λ ks. book_of bucket version n p ∷ ks)
      (books_are (n + p.count) ps xs are.1 filled.1)

  -- as the deed has them, the newest first
  pub keys_are : (n : ℕ) (ps : List Placed) (keys : List Key) → AreKeysFor n ps keys
      → AreFilled i n want ps o st
      → book_keys bucket version (reverse keys) ≡ reverse (books_for bucket version n ps)
  keys_are n ps keys are filled = books_reverse bucket version keys
      ∙ ap (λ ks. reverse ks) (books_are n ps keys are filled)

  -- what holds of a filled place's key between these sectors, holds of each
  each_filled : (Q : index.Key → Type 0) (first end : ℕ)
      → ((n : ℕ) (p : Placed) → first ≤ n → n + p.count ≤ end → IsFilled i n want p o st
      → Q (book_of bucket version n p)) → (n : ℕ) (ps : List Placed) → first ≤ n
      → n + sectors_of ps ≤ end → AreFilled i n want ps o st
      → Each Q (books_for bucket version n ps)
  each_filled Q first end of n [] low high filled = tt
  each_filled Q first end of n (p ∷ ps) low high filled = (
    of n p low (omega (arith, high)) filled.0,
    each_filled Q first end of (n + p.count) ps (omega (arith, low)) (omega (arith, high)) filled.1,
  )

  its_place : (n : ℕ) (p : Placed) (s t : ℕ) → run_place n p.ptr.offset p.count s ≡ Some t
      → IsOf p t
  its_place n p s t at = place_range n p.ptr.offset p.count s t at

  module _ (first : ℕ) (ps : List Placed) (filled : AreFilled i first want ps o st) where
    abbrev end : ℕ
    end = first + sectors_of ps

    abbrev ks : List index.Key
    ks = reverse (books_for bucket version first ps)

    each : (Q : index.Key → Type 0) → ((n : ℕ) (p : Placed) → first ≤ n → n + p.count ≤ end
        → IsFilled i n want p o st → Q (book_of bucket version n p)) → Each Q ks
    each Q of = each_reverse Q (books_for bucket version first ps)
        (each_filled Q first end of first ps (omega arith) (omega arith) filled)

    named_own : (t : ℕ) → names ks t ≡ true → (books_of st.machine).owner t ≡ Own i
    named_own = each_named (λ t. (books_of st.machine).owner t ≡ Own i) ks
        (each (λ k. (t : ℕ) → within k.place k.count t ≡ true
        → (books_of st.machine).owner t ≡ Own i) (λ n p low high its t is.
        its.own.own t (by_within p.ptr.offset p.count t (λ b. b ≡ true → IsOf p t) (λ r _. r)
        (λ _ e. absurd (cc)) is)))

    -- what a sector's key says
    pub record IsNamed (s : ℕ) (x : Option Pointer) : Type 0 where
      pub low : first ≤ s
      pub high : s < end
      pub key : Pointer
      pub is : x ≡ Some key
      pub dirty : key.kind ≡ Dirty
      pub own : (books_of st.machine).owner key.place ≡ Own i
      pub present : key.version ≡ version (bucket key.place)
      pub placed : (v : Value) → want s ≡ Some v
          → (st.machine.whole.flow.seats i).placed key.place ≡ Some v

    pub hits : Hits ks IsNamed
    hits = each_hit IsNamed ks (each (λ k. (s p : ℕ)
        → run_place k.first k.place k.count s ≡ Some p
        → IsNamed s (pointer_of k.kind p k.version)) (λ n p low high its s t at.
        let r = sector_range n p.ptr.offset p.count s t at in
        let from = r.0 in
        let to = r.1 in
        record {
          low = omega (arith, low, from);
          high = omega (arith, high, to);
          key = record { kind = Dirty; place = t; version = version (bucket p.ptr.offset) };
          is = refl;
          dirty = refl;
          own = its.own.own t (its_place n p s t at);
          present = ap version (sym (its.own.bucket t (its_place n p s t at)));
          placed = λ v is. (its.holds s t v at is).placed;
        }))

    pinned_own : (x : Owner) → x ≡ Own i → IsPinned x
    pinned_own x is = subst IsPinned (sym is) tt

    was_own : (x : Owner) → x ≡ Own i → WasPinned x
    was_own x is = subst WasPinned (sym is) tt

    lawful : (old x : Option Pointer) (s : ℕ) → IsNamed s x
        → IsLawful bucket version (books_of st.machine).owner old x
    lawful old x s h = subst (IsLawful bucket version (books_of st.machine).owner old) (sym h.is)
        (inl (pinned_own ((books_of st.machine).owner h.key.place) h.own, h.present))

    pub can_put : (leaf : ℕ)
        → ((s : ℕ) → first ≤ s → s < end → (s < o.opening.machine.flow.books.size)
        × ((books_of st.machine).index.leaf s ≡ leaf))
        → CanPut o.opening.machine.flow.books (books_of st.machine).index version
        (books_of st.machine).owner leaf ks
    can_put leaf inside = record {
      whole = each_whole bucket ks (each (IsWhole bucket) (λ n p low high its. (
        its.own.some,
        λ s t at. its.own.bucket t (its_place n p s t at),
      )));
      inside = λ s x is. let h = hits s x is in inside s h.low h.high;
      lawful = λ s x is. lawful (latest (books_of st.machine).index s) x s (hits s x is);
      named = λ t is. was_own ((books_of st.machine).owner t) (named_own t is);
    }

    pub can_insert_write : (values : List Value) → ((s : ℕ) → want s ≡ at_run first values s)
        → sectors_of ps ≡ length values → 1 ≤ length values
        → (claim_of st.machine.whole.flow i).exclusive ≡ true
        → (claim_of st.machine.whole.flow i).wrote ≡ false
        → ((s : ℕ) → first ≤ s → s < end → Covers (claim_of st.machine.whole.flow i) s)
        → o.opening.machine.flow.plain ≡ false
        → CanInsertWrite o.opening.machine.flow st.machine.whole.flow i ks first values
    can_insert_write values wanted total some alone fresh covers cached = record {
      some = λ none. let is = ap (λ (vs : List Value). length vs) none in
          absurd (omega (arith, is, some));
      exclusive = alone;
      first_write = fresh;
      using = λ t is. inl (named_own t is);
      fits = λ s. fit s (hit ks s) (at_run first values s) refl refl;
      not_plain = cached;
    }
      where
        fit : (s : ℕ) (h : Option (Option Pointer)) (v : Option Value) → hit ks s ≡ h
            → at_run first values s ≡ v
            → Fits o.opening.machine.flow st.machine.whole.flow i s h v
        fit s None None at has = tt
        fit s None (Some v) at has =
            let r = at_range first values s v has in
            let low = r.0 in
            let high = r.1 in
            let covered_ = covered bucket version first ps s low (omega (arith, high, total)) in
            let e : None ≡ Some covered_.0 = sym at ∙ covered_.1 in absurd (cc)
        fit s (Some x) None at has =
            let h = hits s x at in
            let low = h.low in
            let high = h.high in
            let v = at_hit first values s low (omega (arith, high, total)) in
            let e : None ≡ Some v.0 = sym has ∙ v.1 in absurd (cc)
        fit s (Some x) (Some v) at has = let h = hits s x at in record {
          covers = covers s h.low h.high;
          key = h.key;
          is = h.is;
          dirty = h.dirty;
          placed = record {
            version = h.present;
            own = h.own;
            placed = h.placed v (wanted s ∙ has);
          };
        }
