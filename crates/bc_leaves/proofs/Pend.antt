-- Pending keys cut at an entry's number, and the sectors that keys have.
use Rattle.std.proofs.Common.{◌≡◌, ◌≢◌, ◌⊎◌, inl, inr, ℕ, suc, ◌<◌, ◌≤◌, Bool, true, false, List, [], ◌∷◌, ◌++◌, Option, Some, None, refl, sym, ap, ◌∙◌, subst, arith, if◌then◌else◌}
use Rattle.bc_key.specs.declared.key.Key.{Key}
use Rattle.bc_key.specs.Key.{pointer_of}
use Rattle.bc_meta.specs.Entries.{Entry, all_keys}
use Rattle.bc_meta.specs.Records.{Fixed, Nothing, Ready, Safe, Sent, Stage, after_barrier}
use Rattle.bc_meta.specs.Facts.{In}
use Rattle.bc_meta.specs.Keys.{Ref, covers, ref_by}
use Rattle.bc_meta.proofs.Lists.{by_le}
use Rattle.bc_leaves.specs.Keys.{AnySpeaks, Speaks, last_said, ref_said}
use Rattle.bc_leaves.specs.Fits.{Ordered}
use Rattle.bc_leaves.specs.Parts.{Pending, beyond, keys_of, sealed_number, up_to}
use Rattle.bc_leaves.proofs.Said.{last_append, or_else, or_said}

pub keys_split : (n : ℕ) (p : List Pending) → keys_of p ≡ keys_of (beyond n p) ++ keys_of (up_to n p)
keys_split n [] = refl
keys_split n (x ∷ xs) =
    by_le x.number n (λ t. x.key ∷ keys_of xs ≡ keys_of (if t then [] else x ∷ beyond n xs) ++ keys_of (if t then x ∷ xs else up_to n xs))
    (λ _. refl) (λ _. ap (λ (l : List Key). x.key ∷ l) (keys_split n xs))

pub upto_upto : (m n : ℕ) (p : List Pending) → m ≤ n → up_to m (up_to n p) ≡ up_to m p
upto_upto m n [] le = refl
upto_upto m n (x ∷ xs) le =
    by_le x.number n (λ t. up_to m (if t then x ∷ xs else up_to n xs) ≡ up_to m (x ∷ xs))
    (λ _. refl)
    (λ gt. by_le x.number m (λ t. up_to m (up_to n xs) ≡ (if t then x ∷ xs else up_to m xs)) (λ l2. absurd (omega arith)) (λ _. upto_upto m n xs le))

pub upto_head : (n : ℕ) (p : List Pending) → ((x : Pending) → In x p → x.number ≤ n) → up_to n p ≡ p
upto_head n [] h = refl
upto_head n (x ∷ xs) h = let k = h x (inl refl) in by_le x.number n (λ t. (if t then x ∷ xs else up_to n xs) ≡ x ∷ xs) (λ _. refl) (λ gt. absurd (omega arith))

pub beyond_head : (n : ℕ) (p : List Pending) → ((x : Pending) → In x p → x.number ≤ n) → beyond n p ≡ []
beyond_head n [] h = refl
beyond_head n (x ∷ xs) h = let k = h x (inl refl) in by_le x.number n (λ t. (if t then [] else x ∷ beyond n xs) ≡ []) (λ _. refl) (λ gt. absurd (omega arith))

pub ordered_in : (n : ℕ) (p : List Pending) (x : Pending) → Ordered n p → In x p → x.number ≤ n
ordered_in n [] x o i = absurd i
ordered_in n (y ∷ ys) x o i = elim i [ inl e ↦ (let o0 = o.0 in let n = ap (λ (z : Pending). z.number) e in omega arith) | inr r ↦ (let k = ordered_in y.number ys x o.1 r in let o0 = o.0 in omega arith) ]

pub ordered_more : (n m : ℕ) (p : List Pending) → n ≤ m → Ordered n p → Ordered m p
ordered_more n m [] le o = tt
ordered_more n m (x ∷ xs) le o = (let o0 = o.0 in omega arith, o.1)

pub ordered_upto : (n m : ℕ) (p : List Pending) (x : Pending) → Ordered m p → In x (up_to n p) → x.number ≤ n
ordered_upto n m [] x o = λ i. absurd i
ordered_upto n m (y ∷ ys) x o =
    by_le y.number n (λ t. In x (if t then y ∷ ys else up_to n ys) → x.number ≤ n)
    (λ le i. elim i [ inl e ↦ (let k = ap (λ (z : Pending). z.number) e in omega arith) | inr r ↦ (let k = ordered_in y.number ys x o.1 r in omega arith) ])
    (λ _. ordered_upto n y.number ys x o.1)

pub in_upto : (n : ℕ) (p : List Pending) (x : Pending) → In x (up_to n p) → In x p
in_upto n [] x = λ i. i
in_upto n (y ∷ ys) x = by_le y.number n (λ t. In x (if t then y ∷ ys else up_to n ys) → (x ≡ y) ⊎ In x ys) (λ _ i. i) (λ _ i. inr (in_upto n ys x i))

pub in_either : (n : ℕ) (p : List Pending) (x : Pending) → In x p → In x (beyond n p) ⊎ In x (up_to n p)
in_either n [] x i = absurd i
in_either n (y ∷ ys) x i =
    by_le y.number n (λ t. In x (if t then [] else y ∷ beyond n ys) ⊎ In x (if t then y ∷ ys else up_to n ys))
    (λ _. inr i)
    (λ _. elim i [ inl e ↦ inl (inl e) | inr r ↦ elim (in_either n ys x r) [ inl a ↦ inl (inr a) | inr b ↦ inr b ] ])

pub in_beyond : (n : ℕ) (p : List Pending) (x : Pending) → In x (beyond n p) → In x p
in_beyond n [] x = λ i. i
in_beyond n (y ∷ ys) x = by_le y.number n (λ t. In x (if t then [] else y ∷ beyond n ys) → (x ≡ y) ⊎ In x ys) (λ _ i. absurd i) (λ _ i. elim i [ inl e ↦ inl e | inr r ↦ inr (in_beyond n ys x r) ])

pub upto_more : (m n : ℕ) (p : List Pending) (x : Pending) → m ≤ n → In x (up_to m p) → In x (up_to n p)
upto_more m n p x le i = in_upto m (up_to n p) x (subst (λ (l : List Pending). In x l) (sym (upto_upto m n p le)) i)

-- a key that comes in with a later number
pub upto_later : (n : ℕ) (x : Pending) (p : List Pending) → n < x.number → up_to n (x ∷ p) ≡ up_to n p
upto_later n x p lt = by_le x.number n (λ t. (if t then x ∷ p else up_to n p) ≡ up_to n p) (λ le. absurd (omega arith)) (λ _. refl)

pub beyond_later : (n : ℕ) (x : Pending) (p : List Pending) → n < x.number → beyond n (x ∷ p) ≡ x ∷ beyond n p
beyond_later n x p lt = by_le x.number n (λ t. (if t then [] else x ∷ beyond n p) ≡ x ∷ beyond n p) (λ le. absurd (omega arith)) (λ _. refl)

pub some_or_none : {A : Type 0} → (o : Option A) → ((x : A) × (o ≡ Some x)) ⊎ (o ≡ None)
some_or_none None = inr refl
some_or_none (Some x) = inl (x, refl)

pub not_both : {A : Type 0} → (o : Option A) (x : A) → o ≡ Some x → o ≡ None → ⊥
not_both o x a b = cc

-- a key at the front of the list
pub front_miss : (k : Key) (ks : List Key) (s : ℕ) → (Speaks k s → ⊥) → last_said (k ∷ ks) s ≡ last_said ks s
front_miss k ks s out = go (covers k s) refl
  where
    go : (b : Bool) → covers k s ≡ b → (if b then Some (ref_by k s (pointer_of k)) else last_said ks s) ≡ last_said ks s
    go true e = absurd (out e)
    go false e = refl

pub front_hit : (k : Key) (ks : List Key) (s : ℕ) → Speaks k s → AnySpeaks (k ∷ ks) s
front_hit k ks s c = (ref_by k s (pointer_of k), ap (λ (b : Bool). if b then Some (ref_by k s (pointer_of k)) else last_said ks s) c)

pub front_more : (k : Key) (ks : List Key) (s : ℕ) → AnySpeaks ks s → AnySpeaks (k ∷ ks) s
front_more k ks s h = go (covers k s)
  where
    go : (b : Bool) → (r : Option Ref) × ((if b then Some (ref_by k s (pointer_of k)) else last_said ks s) ≡ Some r)
    go false = h
    go true = (ref_by k s (pointer_of k), refl)

pub hit_of : (p : List Pending) (x : Pending) (s : ℕ) → In x p → Speaks x.key s → AnySpeaks (keys_of p) s
hit_of [] x s i c = absurd i
hit_of (y ∷ ys) x s i c =
    elim i [
      | inl e ↦ front_hit y.key (keys_of ys) s (subst (λ (z : Pending). Speaks z.key s) e c)
      | inr r ↦ front_more y.key (keys_of ys) s (hit_of ys x s r c)
    ]

-- a sector that none of the keys has
pub none_of : (p : List Pending) (s : ℕ) → ((x : Pending) → In x p → Speaks x.key s → ⊥) → last_said (keys_of p) s ≡ None
none_of [] s h = refl
none_of (x ∷ xs) s h = front_miss x.key (keys_of xs) s (h x (inl refl)) ∙ none_of xs s (λ y i. h y (inr i))

pub append_hit : (xs ys : List Key) (s : ℕ) → AnySpeaks xs s → AnySpeaks (xs ++ ys) s
append_hit xs ys s h = (h.0, last_append xs ys s ∙ ap (λ (o : Option (Option Ref)). or_else o (last_said ys s)) h.1)

pub append_same : (xs ys : List Key) (s : ℕ) (r : Option Ref) → last_said xs s ≡ Some r → last_said (xs ++ ys) s ≡ Some r
append_same xs ys s r h = last_append xs ys s ∙ ap (λ (o : Option (Option Ref)). or_else o (last_said ys s)) h

pub append_none : (xs ys : List Key) (s : ℕ) → last_said xs s ≡ None → last_said (xs ++ ys) s ≡ last_said ys s
append_none xs ys s h = last_append xs ys s ∙ ap (λ (o : Option (Option Ref)). or_else o (last_said ys s)) h

pub append_hit_more : (xs ys : List Key) (s : ℕ) → AnySpeaks ys s → AnySpeaks (xs ++ ys) s
append_hit_more xs ys s h = elim (some_or_none (last_said xs s)) [ inl k ↦ append_hit xs ys s k | inr n ↦ (h.0, append_none xs ys s n ∙ h.1) ]

pub append_both : (xs ys us vs : List Key) (s : ℕ) → last_said xs s ≡ last_said us s → last_said ys s ≡ last_said vs s → last_said (xs ++ ys) s ≡ last_said (us ++ vs) s
append_both xs ys us vs s a b = last_append xs ys s ∙ ap (λ (o : Option (Option Ref)). or_else o (last_said ys s)) a ∙ ap (λ (o : Option (Option Ref)). or_else (last_said us s) o) b ∙ sym (last_append us vs s)

-- nothing anywhere in a joined list
pub none_left : (xs ys : List Key) (s : ℕ) → last_said (xs ++ ys) s ≡ None → last_said xs s ≡ None
none_left xs ys s h = elim (some_or_none (last_said xs s)) [ inl k ↦ (let m = append_hit xs ys s k in absurd (not_both _ m.0 m.1 h)) | inr n ↦ n ]

pub none_right : (xs ys : List Key) (s : ℕ) → last_said (xs ++ ys) s ≡ None → last_said ys s ≡ None
none_right xs ys s h = sym (append_none xs ys s (none_left xs ys s h)) ∙ h

pub entry_hit : (es : List Entry) (e : Entry) (s : ℕ) → In e es → AnySpeaks e.keys s → AnySpeaks (all_keys es) s
entry_hit [] e s i h = absurd i
entry_hit (x ∷ xs) e s i h =
    elim i [
      | inl is ↦ append_hit x.keys (all_keys xs) s (subst (λ (z : Entry). AnySpeaks z.keys s) is h)
      | inr r ↦ append_hit_more x.keys (all_keys xs) s (entry_hit xs e s r h)
    ]

pub top_barrier : (g : Stage) (n : ℕ) → sealed_number (after_barrier g) n ≡ sealed_number g n
top_barrier Nothing n = refl
top_barrier Fixed n = refl
top_barrier Ready n = refl
top_barrier Sent n = refl
top_barrier Safe n = refl

pub top_some : (g : Stage) (n : ℕ) → g ≢ Nothing → sealed_number g n ≡ suc n
top_some Nothing n ne = absurd (ne refl)
top_some Fixed n ne = refl
top_some Ready n ne = refl
top_some Sent n ne = refl
top_some Safe n ne = refl

pub top_le : (g : Stage) (n : ℕ) → n ≤ sealed_number g n
top_le Nothing n = omega arith
top_le Fixed n = omega arith
top_le Ready n = omega arith
top_le Sent n = omega arith
top_le Safe n = omega arith

pub top_most : (g : Stage) (n : ℕ) → sealed_number g n ≤ suc n
top_most Nothing n = omega arith
top_most Fixed n = omega arith
top_most Ready n = omega arith
top_most Sent n = omega arith
top_most Safe n = omega arith

-- joined lists, where what is gone counts as none
pub append_seen : (xs ys us vs : List Key) (s : ℕ) → last_said xs s ≡ last_said us s → ref_said (last_said ys s) ≡ ref_said (last_said vs s) → ref_said (last_said (xs ++ ys) s) ≡ ref_said (last_said (us ++ vs) s)
append_seen xs ys us vs s a b =
    ap ref_said (last_append xs ys s ∙ ap (λ (o : Option (Option Ref)). or_else o (last_said ys s)) a)
    ∙ or_said (last_said us s) (last_said ys s) (last_said vs s) b
    ∙ sym (ap ref_said (last_append us vs s))
