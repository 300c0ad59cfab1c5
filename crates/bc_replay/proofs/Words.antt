-- The first pointer that may not be as it is, in lists of keys.
use Rattle.std.proofs.Common.{◌≡◌, ◌⊎◌, inl, inr, ℕ, zero, suc, ◌<◌, Bool, true, false, List, [], ◌∷◌, ◌++◌, length, take, drop, get_or, Option, Some, None, refl, sym, subst, ap, ◌∙◌, ◌+◌, arith}
use Rattle.std.specs.Prelude.{All, is_some, MatchOption}
use Rattle.std.proofs.lemmas.List.{append-nil, append_assoc, drop_more, take_more}
use Rattle.std.proofs.lemmas.List.Elements.{All-nil, All-head, All-tail, All-cons, All-append, All-same}
use Rattle.bc_disk.specs.declared.geometry.Geometry.{Geometry}
use Rattle.bc_image.specs.Pointers.{PointsInto}
use Rattle.bc_image.specs.Sound.{IsDataKey, IsNodeKey}
use Rattle.bc_image.proofs.Unique.{some_same}
use Rattle.bc_key.specs.Key.{ptr_at}
use Rattle.bc_key.specs.declared.key.Key.{Key}
use Rattle.bc_key.specs.declared.ptr.Ptr.{Ptr}
use Rattle.bc_record.specs.Places.{bucket_at}
use Rattle.bc_walk.specs.Rule.{Rule}
use Rattle.bc_walk.specs.declared.visit.Visit.{Visit}
use Rattle.bc_walk.specs.declared.visit.Visit.TheVariants as visits
use Rattle.bc_replay.specs.Marks.{IsLeastOf, lower_of}
use Rattle.bc_replay.specs.Used.{IsMetTwice}
use Rattle.bc_replay.proofs.Marks.{least_either}
use Rattle.bc_replay.specs.Refused.{IsFirstPtr, IsNodeWord, MayBeNode, MayBeRead, MayBeData, IsFirstNode, NoneBarred, TellTrue, IsDataWord, AreData, IsFirstData, KeepsWord}

-- ---- one key

pub data_key : (r : Rule) (key : Key) → ((i : ℕ) → i < key.count → MayBeData r key (ptr_at key i)) → IsDataKey r.geometry r.size key
data_key r key may = record { ptrs = λ i low. (may i low).lies; end = λ some. (may 0 some).end }

pub no_node_word : (g : Geometry) (root : Bool) (key : Key) (count : ℕ) → count ≡ key.count → ((i : ℕ) → i < count → MayBeNode g root key (ptr_at key i)) → ¬ (MayBeRead g root key) → IsNodeWord g root key 0
no_node_word g root key zero is may not = inl (sym is, refl)
no_node_word g root key (suc n) is may not = absurd (not (record { some = subst (λ m. 0 < m) is (omega arith); ptrs = λ i low. may i (subst (λ m. i < m) (sym is) low) }))

-- ---- keys of data

module _ (r : Rule) where
  abbrev IsData : Key → Type 0
  IsData key = IsDataKey r.geometry r.size key

  pub first_data_more : (seen more : List Key) (w : ℕ) → IsFirstData r seen w → IsFirstData r (seen ++ more) w
  first_data_more [] more w first = absurd first
  first_data_more (key ∷ keys) more w (inl here) = inl here
  first_data_more (key ∷ keys) more w (inr (good, rest)) = inr (good, first_data_more keys more w rest)

  pub first_data_behind : (seen more : List Key) (w : ℕ) → AreData r seen → IsFirstData r more w → IsFirstData r (seen ++ more) w
  first_data_behind [] more w good first = first
  first_data_behind (key ∷ keys) more w good first = inr (All-head IsData key keys good, first_data_behind keys more w (All-tail IsData key keys good) first)

  pub first_data_at : (keys : List Key) (i : ℕ) (key : Key) (w : ℕ) → i < length keys → key ≡ get_or keys i key → AreData r (take i keys) → IsDataWord r key w → IsFirstData r keys w
  first_data_at [] i key w low is good word = absurd (omega (arith, low))
  first_data_at (k ∷ ks) zero key w low is good word = inl (subst (λ (x : Key). IsDataWord r x w) is word)
  first_data_at (k ∷ ks) (suc i) key w low is good word =
      inr (All-head IsData k (take i ks) good, first_data_at ks i key w (omega (arith, low)) is (All-tail IsData k (take i ks) good) word)

  -- a word that is kept stays
  pub kept_some : (seen more : List Key) (word : Option ℕ) → is_some word ≡ true → KeepsWord r seen word → KeepsWord r (seen ++ more) word
  kept_some seen more None is kept = absurd (cc)
  kept_some seen more (Some w) is kept = first_data_more seen more w kept

  pub kept_none : (seen : List Key) (word : Option ℕ) → is_some word ≡ false → KeepsWord r seen word → AreData r seen
  kept_none seen None is kept = kept
  kept_none seen (Some w) is kept = absurd (cc)

  -- the first key of several that has one
  pub kept_found : (keys seen : List Key) (i : ℕ) (key : Key) (word : Option ℕ) → is_some word ≡ true → i < length keys → key ≡ get_or keys i key → AreData r (take i keys) → MatchOption word (IsData key) (IsDataWord r key) → AreData r seen
      → KeepsWord r (seen ++ keys) word
  kept_found keys seen i key None is low at good match before = absurd (cc)
  kept_found keys seen i key (Some w) is low at good match before = first_data_behind seen keys w before (first_data_at keys i key w low at good match)

  pub good_key : (key : Key) (word : Option ℕ) → is_some word ≡ false → MatchOption word (IsData key) (IsDataWord r key) → IsData key
  good_key key None is match = match
  good_key key (Some w) is match = absurd (cc)

  pub good_more : (before more : List Key) (key : Key) → more ≡ before ++ key ∷ [] → AreData r before → IsData key → AreData r more
  good_more before more key is good here = All-same IsData more (before ++ key ∷ []) is (All-append IsData before (key ∷ []) good (All-cons IsData key [] here (All-nil IsData)))

  pub good_both : (seen keys : List Key) → AreData r seen → AreData r keys → AreData r (seen ++ keys)
  good_both seen keys a b = All-append IsData seen keys a b

  -- more keys, in parts
  pub kept_parts : (seen before here more : List Key) (word : Option ℕ) → more ≡ before ++ here → KeepsWord r ((seen ++ before) ++ here) word → KeepsWord r (seen ++ more) word
  kept_parts seen before here more word is kept =
      subst (λ (ks : List Key). KeepsWord r (seen ++ ks) word) (sym is) (subst (λ (ks : List Key). KeepsWord r ks word) (append_assoc seen before here) kept)

  pub kept_nil : (seen : List Key) (word : Option ℕ) → KeepsWord r seen word → KeepsWord r (seen ++ []) word
  kept_nil seen word kept = subst (λ (ks : List Key). KeepsWord r ks word) (sym (append-nil seen)) kept

-- ---- the nodes

-- of a word for the first barred node, from the visits that are left to all of them
abbrev pub Words : Geometry → Bool → List Visit → Option ℕ → Type 0
Words g root seen word = TellTrue g root seen → MatchOption word (NoneBarred seen) (IsFirstNode g root seen)

pub words_none : (g : Geometry) (root : Bool) → Words g root [] None
words_none g root = λ told. tt

pub words_barred : (g : Geometry) (root : Bool) (key : Key) (rest : List Visit) (w : ℕ) → (¬ (MayBeRead g root key) → IsNodeWord g root key w) → Words g root (visits.Barred key ∷ rest) (Some w)
words_barred g root key rest w word = λ told. word told.0

pub words_past : (g : Geometry) (root : Bool) (visit : Visit) (rest : List Visit) (word : Option ℕ) → ((key : Key) → visit ≡ visits.Barred key → ⊥) → Words g false rest word → Words g root (visit ∷ rest) word
words_past g root (visits.Met level from key) rest None other words = λ told. words told.1
words_past g root (visits.Met level from key) rest (Some w) other words = λ told. words told.1
words_past g root (visits.Again key) rest None other words = λ told. words told.1
words_past g root (visits.Again key) rest (Some w) other words = λ told. words told.1
words_past g root (visits.Barred key) rest word other words = absurd (other key refl)

pub visit_left : (seen : List Visit) (i : ℕ) (visit : Visit) → i < length seen → visit ≡ get_or seen i visit → drop i seen ≡ visit ∷ drop (i + 1) seen
visit_left seen i visit low is = drop_more seen i visit low ∙ ap (λ (v : Visit). v ∷ drop (i + 1) seen) (sym is)

pub taken_visit : (seen : List Visit) (i : ℕ) (visit : Visit) → i < length seen → visit ≡ get_or seen i visit → take (i + 1) seen ≡ take i seen ++ visit ∷ []
taken_visit seen i visit low is = take_more seen i visit low ∙ ap (λ (v : Visit). take i seen ++ v ∷ []) (sym is)

-- ---- nodes that were met twice

twice_cases : (g : Geometry) (xs ys : List Visit) (b : ℕ) → IsMetTwice g (xs ++ ys) b → IsMetTwice g xs b ⊎ IsMetTwice g ys b
twice_cases g [] ys b met = inr met
twice_cases g (visits.Met level from key ∷ xs) ys b met = twice_cases g xs ys b met
twice_cases g (visits.Barred key ∷ xs) ys b met = twice_cases g xs ys b met
twice_cases g (visits.Again key ∷ xs) ys b (inl here) = inl (inl here)
twice_cases g (visits.Again key ∷ xs) ys b (inr later) = elim (twice_cases g xs ys b later) [ inl x ↦ inl (inr x) | inr y ↦ inr y ]

twice_left : (g : Geometry) (xs ys : List Visit) (b : ℕ) → IsMetTwice g xs b → IsMetTwice g (xs ++ ys) b
twice_left g [] ys b met = absurd met
twice_left g (visits.Met level from key ∷ xs) ys b met = twice_left g xs ys b met
twice_left g (visits.Barred key ∷ xs) ys b met = twice_left g xs ys b met
twice_left g (visits.Again key ∷ xs) ys b (inl here) = inl here
twice_left g (visits.Again key ∷ xs) ys b (inr later) = inr (twice_left g xs ys b later)

twice_right : (g : Geometry) (xs ys : List Visit) (b : ℕ) → IsMetTwice g ys b → IsMetTwice g (xs ++ ys) b
twice_right g [] ys b met = met
twice_right g (visits.Met level from key ∷ xs) ys b met = twice_right g xs ys b met
twice_right g (visits.Barred key ∷ xs) ys b met = twice_right g xs ys b met
twice_right g (visits.Again key ∷ xs) ys b met = inr (twice_right g xs ys b met)

pub more_twice : (g : Geometry) (before more : List Visit) (visit : Visit) (a b : Option ℕ) → more ≡ before ++ visit ∷ [] → IsLeastOf (IsMetTwice g before) a → IsLeastOf (IsMetTwice g (visit ∷ [])) b → IsLeastOf (IsMetTwice g more) (lower_of a b)
more_twice g before more visit a b is p q =
    subst (λ (vs : List Visit). IsLeastOf (IsMetTwice g vs) (lower_of a b)) (sym is)
    (least_either (IsMetTwice g before) (IsMetTwice g (visit ∷ [])) (IsMetTwice g (before ++ visit ∷ [])) a b (λ n m. twice_cases g before (visit ∷ []) n m) (λ n m. twice_left g before (visit ∷ []) n m)
    (λ n m. twice_right g before (visit ∷ []) n m) p q)

pub again_proper : (g : Geometry) (root : Bool) (seen : List Visit) (i : ℕ) (visit : Visit) → TellTrue g root seen → i < length seen → visit ≡ get_or seen i visit → (key : Key) → visit ≡ visits.Again key → IsNodeKey g key
again_proper g root [] i visit told low is key again = absurd (omega (arith, low))
again_proper g root (v ∷ seen) (suc i) visit told low is key again = again_proper g false seen i visit (rest v told) (omega (arith, low)) is key again
  where
    rest : (w : Visit) → TellTrue g root (w ∷ seen) → TellTrue g false seen
    rest (visits.Met level from k) told = told.1
    rest (visits.Again k) told = told.1
    rest (visits.Barred k) told = told.1
again_proper g root (v ∷ seen) zero visit told low is key again = here (subst (λ (w : Visit). TellTrue g root (w ∷ seen)) (sym is ∙ again) told)
  where
    here : TellTrue g root (visits.Again key ∷ seen) → IsNodeKey g key
    here told = told.0

pub none_twice : (g : Geometry) (visit : Visit) → ((key : Key) → visit ≡ visits.Again key → ⊥) → (k : ℕ) → IsMetTwice g (visit ∷ []) k → ⊥
none_twice g (visits.Met level from key) other k met = met
none_twice g (visits.Barred key) other k met = met
none_twice g (visits.Again key) other k met = other key refl

pub one_twice : (g : Geometry) (key : Key) (bucket : ℕ) → PointsInto g key bucket → IsLeastOf (IsMetTwice g (visits.Again key ∷ [])) (Some bucket)
one_twice g key bucket place = (
  inl place,
  λ k low met. elim met [
    | inl here ↦ (let same = place_same here in absurd (omega (arith, same, low)))
    | inr none ↦ none
  ],
)
  where
    place_same : {k : ℕ} → PointsInto g key k → bucket ≡ k
    place_same (ptr, is, at) = let one : place.0 ≡ ptr = some_same place.0 ptr (sym place.1 ∙ is) in sym place.2 ∙ ap (λ (p : Ptr). bucket_at g p.offset) one ∙ at
