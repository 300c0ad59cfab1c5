-- Children that lie one behind the other, and what a walk of them finds at a sector.
use Rattle.std.proofs.Common.{◌≡◌, ◌≢◌, ◌⊎◌, inl, inr, ℕ, ◌<◌, ◌≤◌, true, List, [], ◌∷◌, ◌++◌, Option, Some, None, refl, sym, ap, ◌∙◌, subst, arith, if◌then◌else◌}
use Rattle.bc_key.specs.declared.key.Key.{Key}
use Rattle.bc_meta.specs.Tree.{Child, Each, EachChild, forest}
use Rattle.bc_meta.specs.Facts.{In}
use Rattle.bc_meta.specs.Keys.{Ref}
use Rattle.bc_meta.specs.Records.{put}
use Rattle.bc_meta.proofs.Lists.{by_le, by_test}
use Rattle.bc_leaves.specs.Rows.{ChildRow, Row}
use Rattle.bc_leaves.specs.Parts.{InRange, Leaf}
use Rattle.bc_leaves.specs.After.{has}
use Rattle.bc_leaves.specs.Keys.{last_said}
use Rattle.bc_leaves.proofs.Pend.{append_none}
use Rattle.bc_leaves.proofs.Said.{last_append, or_else}

pub chain_map : (P Q : ℕ → ℕ → ℕ → ℕ → Type 0) (a : ℕ) (ks : List Child) (b : ℕ) → ((x w m n : ℕ) → m < n → P x w m n → Q x w m n) → ChildRow P a ks b → ChildRow Q a ks b
chain_map P Q a [] b f h = h
chain_map P Q a (k ∷ ks) b f h = (h.0, f k.bucket k.word a k.end h.0 h.1, chain_map P Q k.end ks b f h.2)

pub chain_each : (P : ℕ → ℕ → ℕ → ℕ → Type 0) (Q : ℕ → Type 0) (a : ℕ) (ks : List Child) (b : ℕ) → ((x w m n : ℕ) → P x w m n → Q x) → ChildRow P a ks b → Each Q ks
chain_each P Q a [] b f h = tt
chain_each P Q a (k ∷ ks) b f h = (f k.bucket k.word a k.end h.1, chain_each P Q k.end ks b f h.2)

pub row_find : (leaves : ℕ → Leaf) (a : ℕ) (is : List ℕ) (b s : ℕ) → Row leaves a is b → a ≤ s → s < b → (i : ℕ) × In i is × InRange (leaves i) s
row_find leaves a [] b s h le lt = absurd (omega arith)
row_find leaves a (i ∷ is) b s h le lt = go (row_find leaves (leaves i).end is b s h.2)
  where
    go : ((leaves i).end ≤ s → s < b → (k : ℕ) × In k is × InRange (leaves k) s) → (k : ℕ) × In k (i ∷ is) × InRange (leaves k) s
    go ih = by_le (leaves i).end s (λ t. (k : ℕ) × In k (i ∷ is) × InRange (leaves k) s) (λ ge. let r = ih ge lt in (r.0, inr r.1, r.2)) (λ l. (i, inl refl, (let h0 = h.0 in omega arith, l)))

pub row_up : (leaves : ℕ → Leaf) (a : ℕ) (is : List ℕ) (b : ℕ) → Row leaves a is b → a ≤ b
row_up leaves a [] b h = omega arith
row_up leaves a (i ∷ is) b h = let r = row_up leaves (leaves i).end is b h.2 in let h1 = h.1 in omega arith

pub row_in : (leaves : ℕ → Leaf) (a : ℕ) (is : List ℕ) (b i : ℕ) → Row leaves a is b → In i is → (a ≤ (leaves i).first) × ((leaves i).end ≤ b)
row_in leaves a [] b i h m = absurd m
row_in leaves a (k ∷ is) b i h m = go m (row_in leaves (leaves k).end is b i h.2)
  where
    go : (i ≡ k) ⊎ In i is → (In i is → ((leaves k).end ≤ (leaves i).first) × ((leaves i).end ≤ b)) → (a ≤ (leaves i).first) × ((leaves i).end ≤ b)
    go (inl e) ih = subst (λ (n : ℕ). (a ≤ (leaves n).first) × ((leaves n).end ≤ b)) (sym e) (let h0 = h.0 in omega arith, row_up leaves (leaves k).end is b h.2)
    go (inr r) ih = let t = ih r in let t0 = t.0 in let h1 = h.1 in (omega arith, t.1)

pub row_one : (leaves : ℕ → Leaf) (a : ℕ) (is : List ℕ) (b i k s : ℕ) → Row leaves a is b → In i is → In k is → InRange (leaves i) s → InRange (leaves k) s → i ≡ k
row_one leaves a [] b i k s h m n p q = absurd m
row_one leaves a (x ∷ is) b i k s h m n p q = go (row_one leaves (leaves x).end is b i k s h.2) m n
  where
    behind : (y : ℕ) → In y is → (leaves x).end ≤ (leaves y).first
    behind y r = (row_in leaves (leaves x).end is b y h.2 r).0

    go : (In i is → In k is → InRange (leaves i) s → InRange (leaves k) s → i ≡ k) → (i ≡ x) ⊎ In i is → (k ≡ x) ⊎ In k is → i ≡ k
    go ih (inl e) (inl f) = e ∙ sym f
    go ih (inl e) (inr r) = let t = behind k r in let p2 = (subst (λ (y : ℕ). InRange (leaves y) s) e p).1 in let q2 = q.0 in absurd (omega arith)
    go ih (inr r) (inl f) = let t = behind i r in let q2 = (subst (λ (y : ℕ). InRange (leaves y) s) f q).1 in let p2 = p.0 in absurd (omega arith)
    go ih (inr r) (inr t) = ih r t p q

pub has_in : (is : List ℕ) (k : ℕ) → In k is → has is k ≡ true
has_in [] k m = absurd m
has_in (i ∷ is) k m = by_test k i (λ t. (if t then true else has is k) ≡ true) (λ _. refl) (λ ne. elim m [ inl e ↦ absurd (ne e) | inr r ↦ has_in is k r ])

pub in_has : (is : List ℕ) (k : ℕ) → has is k ≡ true → In k is
in_has [] k = λ h. absurd (cc)
in_has (i ∷ is) k = by_test k i (λ t. (if t then true else has is k) ≡ true → (k ≡ i) ⊎ In k is) (λ e _. inl e) (λ _ h. inr (in_has is k h))

-- At a sector from a to b a list has what one of the lists `at i` has, and elsewhere nothing.
abbrev pub Local : (ℕ → List Key) → (ℕ → ℕ → Type 0) → List Key → ℕ → ℕ → Type 0
Local at good ks a b = (s : ℕ) → ((a ≤ s) × (s < b) → (i : ℕ) × good i s × (last_said ks s ≡ last_said (at i) s)) × (((a ≤ s) × (s < b) → ⊥) → last_said ks s ≡ None)

pub append_clear : (xs ys : List Key) (s : ℕ) → last_said ys s ≡ None → last_said (xs ++ ys) s ≡ last_said xs s
append_clear xs ys s h = last_append xs ys s ∙ ap (λ (o : Option (Option Ref)). or_else (last_said xs s) o) h ∙ same (last_said xs s)
  where
    same : (o : Option (Option Ref)) → or_else o None ≡ o
    same None = refl
    same (Some r) = refl

pub chain_up : (f at : ℕ → List Key) (good : ℕ → ℕ → Type 0) (m : ℕ) (ks : List Child) (n : ℕ) → ChildRow (λ x w m n. Local at good (f x) m n) m ks n → m ≤ n
chain_up f at good m [] n c = omega arith
chain_up f at good m (x ∷ xs) n c = let r = chain_up f at good x.end xs n c.2 in let c0 = c.0 in omega arith

chain_front : (f at : ℕ → List Key) (good : ℕ → ℕ → Type 0) (a : ℕ) (k : Child) (ks : List Child) (b : ℕ) → ChildRow (λ x w m n. Local at good (f x) m n) a (k ∷ ks) b → Local at good (forest f ks) k.end b → Local at good (forest f ks ++ f k.bucket) a b
chain_front f at good a k ks b h ih s =
    by_le k.end s (λ t. ((a ≤ s) × (s < b) → (i : ℕ) × good i s × (last_said (forest f ks ++ f k.bucket) s ≡ last_said (at i) s)) × (((a ≤ s) × (s < b) → ⊥) → last_said (forest f ks ++ f k.bucket) s ≡ None))
    (λ ge.
    let clear = append_clear (forest f ks) (f k.bucket) s ((h.1 s).1 (λ r. let r1 = r.1 in omega arith)) in
    let h0 = h.0 in
    ((λ r. let i = (ih s).0 (ge, r.1) in (i.0, i.1, clear ∙ i.2)), (λ out. clear ∙ (ih s).1 (λ r. out (omega arith, r.1)))))
    (λ lt.
    let clear = append_none (forest f ks) (f k.bucket) s ((ih s).1 (λ r. let r0 = r.0 in omega arith)) in
    ((λ r. let i = (h.1 s).0 (r.0, lt) in (i.0, i.1, clear ∙ i.2)), (λ out. clear ∙ (h.1 s).1 (λ r. out (r.0, (let u = chain_up f at good k.end ks b h.2 in omega arith))))))

pub chain_local : (f at : ℕ → List Key) (good : ℕ → ℕ → Type 0) (a : ℕ) (ks : List Child) (b : ℕ) → ChildRow (λ x w m n. Local at good (f x) m n) a ks b → Local at good (forest f ks) a b
chain_local f at good a [] b h s = ((λ r. let r0 = r.0 in let r1 = r.1 in absurd (omega arith)), λ _. refl)
chain_local f at good a (k ∷ ks) b h s = chain_front f at good a k ks b h (chain_local f at good k.end ks b h.2) s

-- what is put at a number, and elsewhere
pub put_there : {A : Type 0} → (f : ℕ → A) (k : ℕ) (x : A) → put f k x k ≡ x
put_there f k x = by_test k k (λ t. (if t then x else f k) ≡ x) (λ _. refl) (λ ne. absurd (ne refl))

pub put_else : {A : Type 0} → (f : ℕ → A) (k : ℕ) (x : A) (n : ℕ) → n ≢ k → put f k x n ≡ f n
put_else f k x n ne = by_test n k (λ t. (if t then x else f n) ≡ f n) (λ e. absurd (ne e)) (λ _. refl)

-- each child has a fact of its bucket and its word
pub chain_child : (P : ℕ → ℕ → ℕ → ℕ → Type 0) (Q : ℕ → ℕ → Type 0) (a : ℕ) (ks : List Child) (b : ℕ) → ((x w m n : ℕ) → P x w m n → Q x w) → ChildRow P a ks b → EachChild (λ k. Q k.bucket k.word) ks
chain_child P Q a [] b f h = tt
chain_child P Q a (k ∷ ks) b f h = (f k.bucket k.word a k.end h.1, chain_child P Q k.end ks b f h.2)
