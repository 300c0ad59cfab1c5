-- Keys of lists, and which entries are found.
use Rattle.std.proofs.Common.{◌≡◌, inl, inr, ℕ, suc, Bool, true, false, List, [], ◌∷◌, ◌++◌, refl, sym, ap, ◌∙◌, subst, arith, if◌then◌else◌, nat_le}
use Rattle.bc_key.specs.declared.key.Key.{Key}
use Rattle.bc_meta.specs.Facts.{In}
use Rattle.bc_meta.specs.Entries.{AreEntries, CountDown, Entry, all_keys, live}

abbrev pub AllHave : (Key → Type 0) → List Key → Type 0
AllHave P keys = (key : Key) → In key keys → P key

pub all_join : (P : Key → Type 0) (xs ys : List Key) → AllHave P xs → AllHave P ys → AllHave P (xs ++ ys)
all_join P [] ys a b key i = b key i
all_join P (x ∷ xs) ys a b key (inl e) = a key (inl e)
all_join P (x ∷ xs) ys a b key (inr i) = all_join P xs ys (λ k j. a k (inr j)) b key i

pub all_front : (P : Key → Type 0) (xs ys : List Key) → AllHave P (xs ++ ys) → AllHave P xs
all_front P (x ∷ xs) ys a key (inl e) = a key (inl e)
all_front P (x ∷ xs) ys a key (inr i) = all_front P xs ys (λ k j. a k (inr j)) key i
all_front P [] ys a key i = absurd i

pub all_behind : (P : Key → Type 0) (xs ys : List Key) → AllHave P (xs ++ ys) → AllHave P ys
all_behind P [] ys a = a
all_behind P (x ∷ xs) ys a = all_behind P xs ys (λ k j. a k (inr j))

pub all_live : (P : Key → Type 0) (low : ℕ) (es : List Entry) → AllHave P (all_keys es) → AllHave P (all_keys (live low es))
all_live P low [] a = a
all_live P low (e ∷ es) a = go (nat_le low e.number) (all_live P low es (all_behind P e.keys (all_keys es) a))
  where
    go : (b : Bool) → AllHave P (all_keys (live low es)) → AllHave P (all_keys (if b then e ∷ live low es else []))
    go true rest = all_join P e.keys (all_keys (live low es)) (all_front P e.keys (all_keys es) a) rest
    go false rest = λ key i. absurd i

-- ---- only some entries are found

down_one : (all : List Entry) (low : ℕ) (xs ys : List Entry) (next : ℕ) → CountDown all low xs next → CountDown all low ys next → xs ≡ ys
down_one all low [] [] next p q = refl
down_one all low [] (y ∷ ys) next p q = let a = q.0 in let b = q.1 in absurd (omega (arith, p, a, b))
down_one all low (x ∷ xs) [] next p q = let a = p.0 in let b = p.1 in absurd (omega (arith, q, a, b))
down_one all low (x ∷ xs) (y ∷ ys) next p q =
    let a = p.0 in let b = q.0 in
    let same : y ≡ x = p.3 y q.2 (omega (arith, a, b)) in
    let rest : xs ≡ ys = down_one all low xs ys x.number p.4 (subst (λ (e : Entry). CountDown all low ys e.number) same q.4) in
    ap (λ (e : Entry). e ∷ xs) (sym same) ∙ ap (λ (l : List Entry). y ∷ l) rest

pub record SameEntries (a b : Entry) (olds news : List Entry) : Type 0 where
  pub newest : a ≡ b
  pub older : olds ≡ news

cut : (x y : Entry) (xs ys : List Entry) → x ∷ xs ≡ y ∷ ys → xs ≡ ys
cut x y xs ys e = ap (λ l. tail l) e
  where
    tail : List Entry → List Entry
    tail [] = []
    tail (z ∷ zs) = zs

pub entries_one : (all : List Entry) (a b : Entry) (olds news : List Entry) → AreEntries all a olds → AreEntries all b news → SameEntries a b olds news
entries_one all a b olds news x y =
    let p = y.greatest a x.down.2 in
    let q = x.greatest b y.down.2 in
    let same : b ≡ a = x.down.3 b y.down.2 (omega (arith, p, q)) in
    record {
      newest = sym same;
      older = cut a b olds news (down_one all a.last_seq (a ∷ olds) (b ∷ news) (suc a.number) x.down
          (subst (λ (e : Entry). CountDown all e.last_seq (b ∷ news) (suc e.number)) same y.down));
    }
