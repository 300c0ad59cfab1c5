-- A table of uses, one mark after another.
use Rattle.std.proofs.Common.{◌≡◌, ◌≢◌, ◌⊎◌, inl, inr, ℕ, zero, suc, ◌+◌, ◌<◌, ◌≤◌, Bool, true, false, List, [], ◌∷◌, ◌++◌, length, get_or, set, take, Option, Some, None, refl, sym, subst, ap, ◌∙◌, arith, min}
use Rattle.std.specs.Prelude.{Contains}
use Rattle.std.proofs.lemmas.Bool.{cases_lt, cases_eq}
use Rattle.std.specs.List.{flat_map}
use Rattle.std.proofs.lemmas.Grind.{flat_map-append}
use Rattle.std.proofs.lemmas.List.{append_assoc, append-nil, get_or-set_same, get_or-set_other}
use Rattle.std.proofs.lemmas.List.Elements.{Contains-append_left, Contains-append_right, Contains-append_cases}
use Rattle.bc_disk.specs.declared.geometry.Geometry.{Geometry}
use Rattle.bc_replay.specs.declared.uses.Use.{Use}
use Rattle.bc_replay.specs.declared.uses.Use.TheVariants as uses
use Rattle.bc_replay.specs.Marks.{Mark, mark, IsMarked, IsMarkedFor, IsClear, IsLeastMixed, AreMarked, IsLeastOf, lower_of, CountsNone}

-- the use that a table has for a bucket
abbrev pub use_at : List Use → ℕ → Use
use_at table bucket = get_or table bucket uses.None

module _ (g : Geometry) where
  pub marked_more : (marks more : List Mark) (k : Use) (b : ℕ) → IsMarked g marks k b → IsMarked g (marks ++ more) k b
  marked_more marks more k b (inl laid) = inl laid
  marked_more marks more k b (inr c) = inr (Contains-append_left marks more (mark k b) c)

  pub marked_last : (marks : List Mark) (k : Use) (b : ℕ) → IsMarked g (marks ++ mark k b ∷ []) k b
  marked_last marks k b = inr (Contains-append_right marks (mark k b ∷ []) (mark k b) (0, omega arith, refl))

  is_one : (one other : Mark) → Contains (one ∷ []) other → one ≡ other
  is_one one other (zero, low, is) = is
  is_one one other (suc i, low, is) = absurd (omega (arith, low))

  pub marked_cases : (marks : List Mark) (kind : Use) (bucket : ℕ) (k : Use) (b : ℕ) → IsMarked g (marks ++ mark kind bucket ∷ []) k b → IsMarked g marks k b ⊎ ((kind ≡ k) × (bucket ≡ b))
  marked_cases marks kind bucket k b (inl laid) = inl (inl laid)
  marked_cases marks kind bucket k b (inr c) = go (Contains-append_cases marks (mark kind bucket ∷ []) (mark k b) c)
    where
      go : Contains marks (mark k b) ⊎ Contains (mark kind bucket ∷ []) (mark k b) → IsMarked g marks k b ⊎ ((kind ≡ k) × (bucket ≡ b))
      go (inl old) = inl (inr old)
      go (inr new) = let same = is_one (mark kind bucket) (mark k b) new in inr (ap (λ (m : Mark). m.use_) same, ap (λ (m : Mark). m.bucket) same)

  -- what the table tells of a bucket
  told_more : (marks more : List Mark) (b : ℕ) (u : Use) → (u ≡ uses.None → (k : Use) → IsMarked g (marks ++ more) k b → IsMarked g marks k b) → IsMarkedFor g marks b u → IsMarkedFor g (marks ++ more) b u
  told_more marks more b uses.None back told = λ k new. told k (back refl k new)
  told_more marks more b uses.Super back told = marked_more marks more uses.Super b told
  told_more marks more b uses.Journal back told = marked_more marks more uses.Journal b told
  told_more marks more b uses.Priority back told = marked_more marks more uses.Priority b told
  told_more marks more b uses.Uuid back told = marked_more marks more uses.Uuid b told
  told_more marks more b uses.Node back told = marked_more marks more uses.Node b told
  told_more marks more b uses.Data back told = marked_more marks more uses.Data b told

  told_of : (marks : List Mark) (b : ℕ) (u : Use) → u ≢ uses.None → IsMarked g marks u b → IsMarkedFor g marks b u
  told_of marks b uses.None some marked = absurd (some refl)
  told_of marks b uses.Super some marked = marked
  told_of marks b uses.Journal some marked = marked
  told_of marks b uses.Priority some marked = marked
  told_of marks b uses.Uuid some marked = marked
  told_of marks b uses.Node some marked = marked
  told_of marks b uses.Data some marked = marked

  pub marked_of : (marks : List Mark) (b : ℕ) (u : Use) → u ≢ uses.None → IsMarkedFor g marks b u → IsMarked g marks u b
  marked_of marks b uses.None some told = absurd (some refl)
  marked_of marks b uses.Super some told = told
  marked_of marks b uses.Journal some told = told
  marked_of marks b uses.Priority some told = told
  marked_of marks b uses.Uuid some told = told
  marked_of marks b uses.Node some told = told
  marked_of marks b uses.Data some told = told

  pub none_told : (marks : List Mark) (b : ℕ) (u : Use) → u ≡ uses.None → IsMarkedFor g marks b u → (k : Use) → IsMarked g marks k b → ⊥
  none_told marks b u is told = subst (λ (v : Use). IsMarkedFor g marks b v) is told

  -- ---- the same table

  module _ (marks more : List Mark) (table : List Use) (fits : (b : ℕ) (k : Use) → b < g.nbuckets → IsMarked g (marks ++ more) k b → IsMarked g marks k b ⊎ ((use_at table b ≡ k) × (k ≢ uses.None))) where
    same_told : (mixed : Option ℕ) → AreMarked g marks table mixed → (b : ℕ) → b < g.nbuckets → IsMarkedFor g (marks ++ more) b (use_at table b)
    same_told mixed are b low = told_more marks more b (use_at table b) (λ none k new. old none k (fits b k low new)) (are.told b low)
      where
        old : use_at table b ≡ uses.None → (k : Use) → IsMarked g marks k b ⊎ ((use_at table b ≡ k) × (k ≢ uses.None)) → IsMarked g marks k b
        old none k (inl was) = was
        old none k (inr new) = absurd (new.1 (sym new.0 ∙ none))

    same_clear : (n : ℕ) → n ≤ g.nbuckets → IsClear g marks table n → IsClear g (marks ++ more) table n
    same_clear n most clear b k low new = go (fits b k (omega (arith, low, most)) new)
      where
        go : IsMarked g marks k b ⊎ ((use_at table b ≡ k) × (k ≢ uses.None)) → use_at table b ≡ k
        go (inl was) = clear b k low was
        go (inr is) = is.0

    pub same_table : (mixed : Option ℕ) → AreMarked g marks table mixed → AreMarked g (marks ++ more) table mixed
    same_table None are = record { each = are.each; told = same_told None are; least = same_clear g.nbuckets (omega arith) are.least }
    same_table (Some t) are =
        let l = are.least in
        let within = l.within in
        record {
          each = are.each;
          told = same_told (Some t) are;
          least = record { within = l.within; other = l.other; marked = marked_more marks more l.other t l.marked; differs = l.differs; clear = same_clear t (omega (arith, within)) l.clear };
        }

  -- ---- one mark more

  module _ (marks : List Mark) (kind : Use) (bucket : ℕ) (some : kind ≢ uses.None) (table : List Use) where
    abbrev next : List Mark
    next = marks ++ mark kind bucket ∷ []

    pub note_out : (mixed : Option ℕ) → length table ≤ bucket → AreMarked g marks table mixed → AreMarked g next table mixed
    note_out mixed out are = same_table marks (mark kind bucket ∷ []) table fits mixed are
      where
        fits : (b : ℕ) (k : Use) → b < g.nbuckets → IsMarked g next k b → IsMarked g marks k b ⊎ ((use_at table b ≡ k) × (k ≢ uses.None))
        fits b k low new = go (marked_cases marks kind bucket k b new)
          where
            go : IsMarked g marks k b ⊎ ((kind ≡ k) × (bucket ≡ b)) → IsMarked g marks k b ⊎ ((use_at table b ≡ k) × (k ≢ uses.None))
            go (inl was) = inl was
            go (inr same) = let at = same.1 in let each = are.each in absurd (omega (arith, at, each, out, low))

    pub note_same : (mixed : Option ℕ) → use_at table bucket ≡ kind → AreMarked g marks table mixed → AreMarked g next table mixed
    note_same mixed is are = same_table marks (mark kind bucket ∷ []) table fits mixed are
      where
        fits : (b : ℕ) (k : Use) → b < g.nbuckets → IsMarked g next k b → IsMarked g marks k b ⊎ ((use_at table b ≡ k) × (k ≢ uses.None))
        fits b k low new = go (marked_cases marks kind bucket k b new)
          where
            go : IsMarked g marks k b ⊎ ((kind ≡ k) × (bucket ≡ b)) → IsMarked g marks k b ⊎ ((use_at table b ≡ k) × (k ≢ uses.None))
            go (inl was) = inl was
            go (inr same) = inr (subst (λ n. use_at table n ≡ k) same.1 (is ∙ same.0), subst (λ (u : Use). u ≢ uses.None) same.0 some)

    -- a use where there was none
    module _ (within : bucket < length table) (free : use_at table bucket ≡ uses.None) where
      abbrev filled : List Use
      filled = set table bucket kind

      here : use_at filled bucket ≡ kind
      here = get_or-set_same table bucket kind uses.None within

      there : (b : ℕ) → b ≢ bucket → use_at filled b ≡ use_at table b
      there b other = get_or-set_other table bucket b kind uses.None other

      unmarked : (mixed : Option ℕ) → AreMarked g marks table mixed → (k : Use) → IsMarked g marks k bucket → ⊥
      unmarked mixed are k = let each = are.each in none_told marks bucket (use_at table bucket) free (are.told bucket (omega (arith, each, within))) k

      set_told : (mixed : Option ℕ) → AreMarked g marks table mixed → (b : ℕ) → b < g.nbuckets → IsMarkedFor g next b (use_at filled b)
      set_told mixed are b low = elim (cases_eq b bucket) [
        | inl same ↦ subst (λ n. IsMarkedFor g next n (use_at filled n)) (sym same) (subst (λ (u : Use). IsMarkedFor g next bucket u) (sym here) (told_of next bucket kind some (marked_last marks kind bucket)))
        | inr other ↦ subst (λ (u : Use). IsMarkedFor g next b u) (sym (there b other)) (told_more marks (mark kind bucket ∷ []) b (use_at table b) (λ none k new. back other k (marked_cases marks kind bucket k b new)) (are.told b low))
      ]
        where
          back : b ≢ bucket → (k : Use) → IsMarked g marks k b ⊎ ((kind ≡ k) × (bucket ≡ b)) → IsMarked g marks k b
          back other k (inl was) = was
          back other k (inr same) = absurd (other (sym same.1))

      set_clear : (mixed : Option ℕ) → AreMarked g marks table mixed → (n : ℕ) → IsClear g marks table n → IsClear g next filled n
      set_clear mixed are n clear b k low new = go (marked_cases marks kind bucket k b new) (cases_eq b bucket)
        where
          go : IsMarked g marks k b ⊎ ((kind ≡ k) × (bucket ≡ b)) → (b ≡ bucket) ⊎ (b ≢ bucket) → use_at filled b ≡ k
          go (inr same) at = ap (use_at filled) (sym same.1) ∙ here ∙ same.0
          go (inl was) (inl same) = absurd (unmarked mixed are k (subst (λ n. IsMarked g marks k n) same was))
          go (inl was) (inr other) = there b other ∙ clear b k low was

      pub note_set : (mixed : Option ℕ) → length filled ≡ length table → AreMarked g marks table mixed → AreMarked g next filled mixed
      note_set None long are = record { each = long ∙ are.each; told = set_told None are; least = set_clear None are g.nbuckets are.least }
      note_set (Some t) long are =
          let l = are.least in
          let apart : t ≢ bucket = λ same. unmarked (Some t) are l.other (subst (λ n. IsMarked g marks l.other n) same l.marked) in
          record {
            each = long ∙ are.each;
            told = set_told (Some t) are;
            least = record {
              within = l.within;
              other = l.other;
              marked = marked_more marks (mark kind bucket ∷ []) l.other t l.marked;
              differs = λ is. l.differs (sym (there t apart) ∙ is);
              clear = set_clear (Some t) are t l.clear;
            };
          }

    -- another use than the one that there is
    module _ (within : bucket < length table) (used : use_at table bucket ≢ uses.None) (differs : use_at table bucket ≢ kind) where
      mixed_told : (mixed : Option ℕ) → AreMarked g marks table mixed → (b : ℕ) → b < g.nbuckets → IsMarkedFor g next b (use_at table b)
      mixed_told mixed are b low = told_more marks (mark kind bucket ∷ []) b (use_at table b) (λ none k new. back none k (marked_cases marks kind bucket k b new)) (are.told b low)
        where
          back : use_at table b ≡ uses.None → (k : Use) → IsMarked g marks k b ⊎ ((kind ≡ k) × (bucket ≡ b)) → IsMarked g marks k b
          back none k (inl was) = was
          back none k (inr same) = absurd (used (ap (use_at table) same.1 ∙ none))

      below : (n : ℕ) → n ≤ bucket → IsClear g marks table n → IsClear g next table n
      below n most clear b k low new = go (marked_cases marks kind bucket k b new)
        where
          go : IsMarked g marks k b ⊎ ((kind ≡ k) × (bucket ≡ b)) → use_at table b ≡ k
          go (inl was) = clear b k low was
          go (inr same) = let at = same.1 in absurd (omega (arith, at, low, most))

      at_bucket : (mixed : Option ℕ) → AreMarked g marks table mixed → IsClear g marks table bucket → IsLeastMixed g next table bucket
      at_bucket mixed are clear = let each = are.each in record { within = omega (arith, each, within); other = kind; marked = marked_last marks kind bucket; differs = differs; clear = below bucket (omega arith) clear }

      pub note_mixed : (mixed : Option ℕ) → AreMarked g marks table mixed → AreMarked g next table (lower_of mixed (Some bucket))
      note_mixed None are = record { each = are.each; told = mixed_told None are; least = at_bucket None are (λ b k low was. are.least b k (let each = are.each in omega (arith, each, low, within)) was) }
      note_mixed (Some t) are = record { each = are.each; told = mixed_told (Some t) are; least = go (cases_lt bucket t) }
        where
          go : (bucket < t) ⊎ (t ≤ bucket) → IsLeastMixed g next table (min t bucket)
          go (inl less) =
              let is : min t bucket ≡ bucket = omega (arith, less) in
              subst (λ n. IsLeastMixed g next table n) (sym is) (at_bucket (Some t) are (λ b k low was. are.least.clear b k (omega (arith, low, less)) was))
          go (inr most) =
              let is : min t bucket ≡ t = omega (arith, most) in
              let l = are.least in
              subst (λ n. IsLeastMixed g next table n) (sym is)
              (record { within = l.within; other = l.other; marked = marked_more marks (mark kind bucket ∷ []) l.other t l.marked; differs = l.differs; clear = below t most l.clear })

-- ---- lists of marks

pub taken_marks : {X : Type 0} (f : X → List Mark) (marks : List Mark) (xs : List X) (i : ℕ) (x : X) → take (i + 1) xs ≡ take i xs ++ x ∷ [] → (marks ++ flat_map f (take i xs)) ++ f x ≡ marks ++ flat_map f (take (i + 1) xs)
taken_marks {X} f marks xs i x is =
    append_assoc marks (flat_map f (take i xs)) (f x)
    ∙ ap (λ (ms : List Mark). marks ++ ms) (sym (ap (flat_map f) is ∙ flat_map-append f (take i xs) (x ∷ []) ∙ ap (λ (ms : List Mark). flat_map f (take i xs) ++ ms) (append-nil (f x))))

-- ---- the least

pub least_more : (P Q : ℕ → Type 0) (least : Option ℕ) (bucket : ℕ) → ((b : ℕ) → Q b → P b ⊎ (bucket ≡ b)) → ((b : ℕ) → P b → Q b) → Q bucket → IsLeastOf P least → IsLeastOf Q (lower_of least (Some bucket))
least_more P Q None bucket cases more here none = (here, λ k low q. elim (cases k q) [ inl p ↦ none k p | inr same ↦ absurd (omega (arith, same, low)) ])
least_more P Q (Some t) bucket cases more here least = go (cases_lt bucket t)
  where
    go : (bucket < t) ⊎ (t ≤ bucket) → IsLeastOf Q (Some (min t bucket))
    go (inl less) =
        let is : min t bucket ≡ bucket = omega (arith, less) in
        subst (λ n. IsLeastOf Q (Some n)) (sym is) (here, λ k low q. elim (cases k q) [ inl p ↦ least.1 k (omega (arith, low, less)) p | inr same ↦ absurd (omega (arith, same, low)) ])
    go (inr most) =
        let is : min t bucket ≡ t = omega (arith, most) in
        subst (λ n. IsLeastOf Q (Some n)) (sym is) (more t least.0, λ k low q. elim (cases k q) [ inl p ↦ least.1 k low p | inr same ↦ absurd (omega (arith, same, low, most)) ])

pub least_same : (P Q : ℕ → Type 0) (least : Option ℕ) → ((b : ℕ) → Q b → P b) → ((b : ℕ) → P b → Q b) → IsLeastOf P least → IsLeastOf Q least
least_same P Q None back more none = λ k q. none k (back k q)
least_same P Q (Some t) back more least = (more t least.0, λ k low q. least.1 k low (back k q))

-- the least of which one of two holds
pub least_either : (P Q R : ℕ → Type 0) (a b : Option ℕ) → ((n : ℕ) → R n → P n ⊎ Q n) → ((n : ℕ) → P n → R n) → ((n : ℕ) → Q n → R n) → IsLeastOf P a → IsLeastOf Q b → IsLeastOf R (lower_of a b)
least_either P Q R None None cases left right p q = λ k r. elim (cases k r) [ inl x ↦ p k x | inr y ↦ q k y ]
least_either P Q R None (Some b) cases left right p q = (right b q.0, λ k low r. elim (cases k r) [ inl x ↦ p k x | inr y ↦ q.1 k low y ])
least_either P Q R (Some a) None cases left right p q = (left a p.0, λ k low r. elim (cases k r) [ inl x ↦ p.1 k low x | inr y ↦ q k y ])
least_either P Q R (Some a) (Some b) cases left right p q = go (cases_lt b a)
  where
    go : (b < a) ⊎ (a ≤ b) → IsLeastOf R (Some (min a b))
    go (inl less) =
        let is : min a b ≡ b = omega (arith, less) in
        subst (λ n. IsLeastOf R (Some n)) (sym is) (right b q.0, λ k low r. elim (cases k r) [ inl x ↦ p.1 k (omega (arith, low, less)) x | inr y ↦ q.1 k low y ])
    go (inr most) =
        let is : min a b ≡ a = omega (arith, most) in
        subst (λ n. IsLeastOf R (Some n)) (sym is) (left a p.0, λ k low r. elim (cases k r) [ inl x ↦ p.1 k low x | inr y ↦ q.1 k (omega (arith, low, most)) y ])
