-- The rows of an index that point into one bucket, as references of it.
use Rattle.std.proofs.Common.{◌≡◌, ◌≢◌, ◌⊎◌, inl, inr, ℕ, zero, suc, ◌+◌, ◌<◌, ◌≤◌, ◌==◌, Bool, true, false, cond, ◌||◌, List, [], ◌∷◌, ◌++◌, length, get_or, Option, Some, None, if◌then◌else◌, refl, sym, ap, ◌∙◌, subst, arith, append_assoc, eq-eqb, length-append, ne_eqb, zero-add}
use Rattle.std.specs.Prelude.{Contains, not, sum_by}
use Rattle.std.specs.List.{list_any}
use Rattle.std.proofs.lemmas.Bool.{cases_Bool, cases_eq}
use Rattle.std.proofs.lemmas.List.Elements.{Contains-append_cases, Contains-append_left, Contains-append_right, filter-append}
use Rattle.std.proofs.lemmas.List.Folds.{list_any-append}
use Rattle.std.proofs.lemmas.List.Sums.{sum_by-append}
use Rattle.bc_bucket.specs.Meaning.{live_ones}
use Rattle.bc_bucket.specs.Walk.{is_stale}
use Rattle.bc_bucket.specs.declared.walk.Reference.{Reference}
use Rattle.bc_counts.specs.Counts.{Asks, CountsBelow, HasRow, IsAdded, IsCount, IsLiveRow}
use Rattle.bc_counts.proofs.Counting.{Between, between_first, between_next, counted, counts_next}
use Rattle.bc_disk.specs.Gens.{Gens}
use Rattle.bc_disk.specs.declared.geometry.Geometry.{Geometry}
use Rattle.bc_extent.specs.Extents.{IsInOrder}
use Rattle.bc_image.specs.Pointers.{PointsInto}
use Rattle.bc_image.specs.Shown.{generation_of, is_fresh, is_live, is_stale as is_stale_age}
use Rattle.bc_key.specs.Generation.{behind}
use Rattle.bc_key.specs.Key.{pointer_of}
use Rattle.bc_key.specs.declared.key.Key.{Key}
use Rattle.bc_key.specs.declared.ptr.Ptr.{Ptr}
use Rattle.bc_record.specs.Places.{bucket_at}
use Rattle.bc_traced.specs.Rows.{pointed, reference_in, reference_of, references}

same_ptr : (o : Option Ptr) (a b : Ptr) → o ≡ Some a → o ≡ Some b → a ≡ b
same_ptr o a b p q = cc

module _ (g : Geometry) (gens : Gens) (k : ℕ) where
  abbrev pub own : ℕ
  own = generation_of gens k

  abbrev pub lives : List Reference → List Reference
  lives refs = live_ones own refs

  -- what a row is to the bucket: one live reference, or none
  abbrev pub IsOneOrNone : Key → List Reference → Type 0
  IsOneOrNone row refs =
      ((ptr : Ptr) × IsLiveRow g gens row k × (refs ≡ reference_of row ptr ∷ []))
      ⊎ (¬ (IsLiveRow g gens row k) × (refs ≡ []))

  one_or_none : (row : Key) → IsOneOrNone row (lives (reference_in g k row))
  one_or_none row = go (pointer_of row) refl
    where
      fresh : (ptr : Ptr) (b : Bool) → pointer_of row ≡ Some ptr → bucket_at g ptr.offset ≡ k → not (is_stale own ptr.generation) ≡ b → is_live g gens row ≡ b
      fresh ptr b is same test =
          ap (is_fresh g gens) is ∙ ap (λ n. not (is_stale_age (behind (generation_of gens n) ptr.generation))) same ∙ test

      here : (ptr : Ptr) → pointer_of row ≡ Some ptr → bucket_at g ptr.offset ≡ k → (not (is_stale own ptr.generation) ≡ true) ⊎ (not (is_stale own ptr.generation) ≡ false)
          → IsOneOrNone row (lives (reference_of row ptr ∷ []))
      here ptr is same (inl live) = inl (ptr, (fresh ptr true is same live, (ptr, is, same)), ap (λ b. cond b (reference_of row ptr ∷ []) []) live)
      here ptr is same (inr stale) =
          inr ((λ l. let yes = l.0 in let no = fresh ptr false is same stale in absurd (cc)), ap (λ b. cond b (reference_of row ptr ∷ []) []) stale)

      some : (ptr : Ptr) → pointer_of row ≡ Some ptr → (bucket_at g ptr.offset ≡ k) ⊎ (bucket_at g ptr.offset ≢ k) → IsOneOrNone row (lives (pointed g k row (Some ptr)))
      some ptr is (inl same) =
          let test : (bucket_at g ptr.offset == k) ≡ true = eq-eqb (bucket_at g ptr.offset) k same in
          subst (λ b. IsOneOrNone row (lives (if b then reference_of row ptr ∷ [] else []))) (sym test)
          (here ptr is same (cases_Bool (not (is_stale own ptr.generation))))
      some ptr is (inr other) =
          let test : (bucket_at g ptr.offset == k) ≡ false = ne_eqb (bucket_at g ptr.offset) k other in
          subst (λ b. IsOneOrNone row (lives (if b then reference_of row ptr ∷ [] else []))) (sym test)
          (inr ((λ l. let p = l.1 in other (ap (λ (q : Ptr). bucket_at g q.offset) (same_ptr (pointer_of row) ptr p.0 is p.1) ∙ p.2)), refl))

      go : (o : Option Ptr) → pointer_of row ≡ o → IsOneOrNone row (lives (pointed g k row o))
      go None is = inr ((λ l. let p = l.1.1 in absurd (cc)), refl)
      go (Some ptr) is = some ptr is (cases_eq (bucket_at g ptr.offset) k)

  split : (row : Key) (rows : List Key) → lives (references g k (row ∷ rows)) ≡ lives (reference_in g k row) ++ lives (references g k rows)
  split row rows = filter-append (λ (x : Reference). not (is_stale own x.generation)) (reference_in g k row) (references g k rows)

  -- ---- whether there are live ones, and dirty ones

  abbrev pub LiveRow : List Key → Key → Type 0
  LiveRow rows row = Contains rows row × IsLiveRow g gens row k

  later : (x : Key) (rows : List Key) (row : Key) → Contains rows row → Contains (x ∷ rows) row
  later x rows row has = Contains-append_right (x ∷ []) rows row has

  first : (x : Key) (rows : List Key) → Contains (x ∷ rows) x
  first x rows = (0, omega arith, refl)

  which : (x : Key) (rows : List Key) (row : Key) → Contains (x ∷ rows) row → (x ≡ row) ⊎ Contains rows row
  which x rows row (zero, low, is) = inl is
  which x rows row (suc i, low, is) = inr (i, omega (arith, low), is)

  -- there is a live row, and a live reference; or there is neither
  pub data Lives (rows : List Key) (refs : List Reference) : Type 0 where
    live_some : (row : Key) → LiveRow rows row → (r : Reference) (rs : List Reference) → refs ≡ r ∷ rs → Lives rows refs
    live_none : ((row : Key) → ¬ (LiveRow rows row)) → refs ≡ [] → Lives rows refs

  pub lives_of : (rows : List Key) → Lives rows (lives (references g k rows))
  lives_of [] = live_none (λ row l. let low = l.0.1 in absurd (omega (arith, low))) refl
  lives_of (x ∷ rows) = subst (λ (rs : List Reference). Lives (x ∷ rows) rs) (sym (split x rows)) (go (lives (reference_in g k x)) (lives (references g k rows)) (one_or_none x) (lives_of rows))
    where
      go : (here more : List Reference) → IsOneOrNone x here → Lives rows more → Lives (x ∷ rows) (here ++ more)
      go here more (inl (ptr, live, is)) rest =
          live_some x (first x rows, live) (reference_of x ptr) more (ap (λ (rs : List Reference). rs ++ more) is)
      go here more (inr (not_live, is)) (live_some row l r rs are) =
          live_some row (later x rows row l.0, l.1) r rs (ap (λ (us : List Reference). us ++ more) is ∙ are)
      go here more (inr (not_live, is)) (live_none all are) =
          live_none (λ row l. elim (which x rows row l.0) [ inl same ↦ not_live (subst (λ (y : Key). IsLiveRow g gens y k) (sym same) l.1) | inr has ↦ all row (has, l.1) ])
          (ap (λ (us : List Reference). us ++ more) is ∙ are)

  -- there is a live row that is dirty, or there is none
  pub data Dirties (rows : List Key) (any : Bool) : Type 0 where
    dirty_some : (row : Key) → LiveRow rows row → row.dirty ≡ true → any ≡ true → Dirties rows any
    dirty_none : ((row : Key) → LiveRow rows row → row.dirty ≡ true → ⊥) → any ≡ false → Dirties rows any

  abbrev pub any_dirty : List Reference → Bool
  any_dirty refs = list_any (λ (r : Reference). r.dirty) refs

  one_any : (b : Bool) → (b || false) ≡ b
  one_any true = refl
  one_any false = refl

  pub dirties_of : (rows : List Key) → Dirties rows (any_dirty (lives (references g k rows)))
  dirties_of [] = dirty_none (λ row l. let low = l.0.1 in absurd (omega (arith, low))) refl
  dirties_of (x ∷ rows) =
      let sum : any_dirty (lives (references g k (x ∷ rows))) ≡ (any_dirty (lives (reference_in g k x)) || any_dirty (lives (references g k rows))) =
      ap any_dirty (split x rows) ∙ list_any-append (λ (r : Reference). r.dirty) (lives (reference_in g k x)) (lives (references g k rows)) in
      subst (λ b. Dirties (x ∷ rows) b) (sym sum) (go (lives (reference_in g k x)) (any_dirty (lives (references g k rows))) (one_or_none x) (dirties_of rows))
    where
      from_later : (more : Bool) → ¬ (IsLiveRow g gens x k × (x.dirty ≡ true)) → Dirties rows more → Dirties (x ∷ rows) more
      from_later more not_here (dirty_some row l dirty is) = dirty_some row (later x rows row l.0, l.1) dirty is
      from_later more not_here (dirty_none all is) =
          dirty_none (λ row l dirty. elim (which x rows row l.0) [
            | inl same ↦ not_here (subst (λ (y : Key). IsLiveRow g gens y k) (sym same) l.1, subst (λ (y : Key). y.dirty ≡ true) (sym same) dirty)
            | inr has ↦ all row (has, l.1) dirty
          ]) is

      one : (ptr : Ptr) (more : Bool) → IsLiveRow g gens x k → Dirties rows more → (x.dirty ≡ true) ⊎ (x.dirty ≡ false) → Dirties (x ∷ rows) ((x.dirty || false) || more)
      one ptr more live rest (inl dirty) = dirty_some x (first x rows, live) dirty (ap (λ b. (b || false) || more) dirty)
      one ptr more live rest (inr clean) =
          subst (λ b. Dirties (x ∷ rows) ((b || false) || more)) (sym clean)
          (from_later more (λ p. let yes = p.1 in absurd (cc)) rest)

      go : (here : List Reference) (more : Bool) → IsOneOrNone x here → Dirties rows more → Dirties (x ∷ rows) (any_dirty here || more)
      go here more (inl (ptr, live, is)) rest =
          subst (λ (rs : List Reference). Dirties (x ∷ rows) (any_dirty rs || more)) (sym is) (one ptr more live rest (cases_Bool x.dirty))
      go here more (inr (not_live, is)) rest =
          subst (λ (rs : List Reference). Dirties (x ∷ rows) (any_dirty rs || more)) (sym is) (from_later more (λ p. not_live p.0) rest)

  -- ---- all of them, live or not

  pub record RowTo (rows : List Key) (r : Reference) : Type 0 where
    pub row : Key
    pub has : Contains rows row
    pub ptr : Ptr
    pub points : pointer_of row ≡ Some ptr
    pub place : bucket_at g ptr.offset ≡ k
    pub is : reference_of row ptr ≡ r

  pub row_to : (rows : List Key) (r : Reference) → Contains (references g k rows) r → RowTo rows r
  row_to [] r has = let low = has.1 in absurd (omega (arith, low))
  row_to (x ∷ rows) r has = go (λ c. row_to rows r c) (Contains-append_cases (reference_in g k x) (references g k rows) r has)
    where
      none_in : Contains [] r → RowTo (x ∷ rows) r
      none_in c = let low = c.1 in absurd (omega (arith, low))

      only : (a : Reference) → Contains (a ∷ []) r → a ≡ r
      only a (zero, low, is) = is
      only a (suc i, low, is) = absurd (omega (arith, low))

      some_in : (ptr : Ptr) → pointer_of x ≡ Some ptr → (bucket_at g ptr.offset ≡ k) ⊎ (bucket_at g ptr.offset ≢ k) → Contains (pointed g k x (Some ptr)) r → RowTo (x ∷ rows) r
      some_in ptr is (inl same) c =
          let test : (bucket_at g ptr.offset == k) ≡ true = eq-eqb (bucket_at g ptr.offset) k same in
          record {
            row = x;
            has = first x rows;
            ptr = ptr;
            points = is;
            place = same;
            is = only (reference_of x ptr) (subst (λ b. Contains (if b then reference_of x ptr ∷ [] else []) r) test c);
          }
      some_in ptr is (inr other) c =
          let test : (bucket_at g ptr.offset == k) ≡ false = ne_eqb (bucket_at g ptr.offset) k other in
          none_in (subst (λ b. Contains (if b then reference_of x ptr ∷ [] else []) r) test c)

      in_one : (o : Option Ptr) → pointer_of x ≡ o → Contains (pointed g k x o) r → RowTo (x ∷ rows) r
      in_one None is c = none_in c
      in_one (Some ptr) is c = some_in ptr is (cases_eq (bucket_at g ptr.offset) k) c

      go : (Contains (references g k rows) r → RowTo rows r) → Contains (reference_in g k x) r ⊎ Contains (references g k rows) r → RowTo (x ∷ rows) r
      go more (inl here) = in_one (pointer_of x) refl here
      go more (inr rest) =
          let f = more rest in
          record { row = f.row; has = later x rows f.row f.has; ptr = f.ptr; points = f.points; place = f.place; is = f.is }

  pub to_row : (rows : List Key) (row : Key) (ptr : Ptr) → Contains rows row → pointer_of row ≡ Some ptr → bucket_at g ptr.offset ≡ k → Contains (references g k rows) (reference_of row ptr)
  to_row [] row ptr has is same = let low = has.1 in absurd (omega (arith, low))
  to_row (x ∷ rows) row ptr has is same = go (λ c. to_row rows row ptr c is same) (which x rows row has)
    where
      in_own : Contains (reference_in g k row) (reference_of row ptr)
      in_own =
          let test : (bucket_at g ptr.offset == k) ≡ true = eq-eqb (bucket_at g ptr.offset) k same in
          subst (λ (o : Option Ptr). Contains (pointed g k row o) (reference_of row ptr)) (sym is)
          (subst (λ b. Contains (if b then reference_of row ptr ∷ [] else []) (reference_of row ptr)) (sym test) (0, omega arith, refl))

      go : (Contains rows row → Contains (references g k rows) (reference_of row ptr)) → (x ≡ row) ⊎ Contains rows row → Contains (reference_in g k x ++ references g k rows) (reference_of row ptr)
      go more (inl here) =
          Contains-append_left (reference_in g k x) (references g k rows) (reference_of row ptr)
          (subst (λ (y : Key). Contains (reference_in g k y) (reference_of row ptr)) (sym here) in_own)
      go more (inr rest) = Contains-append_right (reference_in g k x) (references g k rows) (reference_of row ptr) (more rest)

  -- ---- how many sectors are live

  abbrev pub sectors_in : List Reference → ℕ
  sectors_in refs = sum_by (λ (r : Reference). r.sectors) refs

  module _ (rows : List Key) (order : IsInOrder rows) where
    abbrev P : ℕ → Type 0
    P = HasRow g gens rows (Asks false) k

    added : (row : Key) (refs : List Reference) (old : ℕ) → IsOneOrNone row refs → IsAdded g gens (Asks false) row k old (old + sectors_in refs)
    added row refs old (inl (ptr, live, is)) =
        let one : sectors_in refs ≡ row.size = ap sectors_in is ∙ zero-add row.size in
        inl (tt, live, ap (λ n. old + n) one)
    added row refs old (inr (not_live, is)) =
        let none : sectors_in refs ≡ 0 = ap sectors_in is in
        inr ((λ l. not_live l.1), omega (arith, none))

    at_join : (before : List Key) (row : Key) (rest : List Key) (d : Key) → get_or (before ++ row ∷ rest) (length before) d ≡ row
    at_join [] row rest d = refl
    at_join (x ∷ before) row rest d = at_join before row rest d

    -- behind the rows before, of which so many sectors are live
    count_from : (rest before : List Key) (end count : ℕ) → rows ≡ before ++ rest → Between rows (length before) end → CountsBelow P end count
        → IsCount P (count + sectors_in (lives (references g k rest)))
    count_from [] before end count is between counts =
        let long = ap (λ (xs : List Key). length xs) is in
        let sum = length-append before [] in
        let same : count + 0 ≡ count = omega arith in
        subst (λ n. IsCount P n) (sym same) (counted rows order (length before) end (omega (arith, long, sum)) between g gens (Asks false) k count counts)
    count_from (row ∷ rest) before end count is between counts =
        let i = length before in
        let long = ap (λ (xs : List Key). length xs) is in
        let sum = length-append before (row ∷ rest) in
        let low : i < length rows = omega (arith, long, sum) in
        let at : row ≡ get_or rows i row = sym (ap (λ (xs : List Key). get_or xs i row) is ∙ at_join before row rest row) in
        let refs = lives (reference_in g k row) in
        let new = count + sectors_in refs in
        let more = counts_next rows order i end row low at between g gens (Asks false) k count new counts (added row refs count (one_or_none row)) in
        let next = between_next rows order i end row low at between in
        let count_next : i + 1 ≡ length (before ++ row ∷ []) = sym (length-append before (row ∷ [])) in
        let rest_is : rows ≡ (before ++ row ∷ []) ++ rest = is ∙ sym (append_assoc before (row ∷ []) rest) in
        let all = count_from rest (before ++ row ∷ []) row.end new rest_is (subst (λ n. Between rows n row.end) count_next next) more in
        let parts : sectors_in (lives (references g k (row ∷ rest))) ≡ sectors_in refs + sectors_in (lives (references g k rest)) =
        ap sectors_in (split row rest) ∙ sum_by-append (λ (r : Reference). r.sectors) refs (lives (references g k rest)) in
        let total : new + sectors_in (lives (references g k rest)) ≡ count + sectors_in (lives (references g k (row ∷ rest))) = omega (arith, parts) in
        subst (λ n. IsCount P n) total all

    pub live_sectors : IsCount P (sectors_in (lives (references g k rows)))
    live_sectors = subst (λ n. IsCount P n) (zero-add (sectors_in (lives (references g k rows)))) (count_from rows [] 0 0 refl (between_first rows) refl)
