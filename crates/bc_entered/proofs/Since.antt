-- What a leaf gets back of the entries from a number on, where the older ones have no keys.
use Rattle.std.proofs.Common.{◌≡◌, ◌≢◌, inl, inr, ℕ, ◌<◌, ◌≤◌, Bool, true, false, List, [], ◌∷◌, Some, refl, sym, ap, ◌∙◌, arith}
use Rattle.std.specs.Prelude.{Option, None, nat_le, if◌then◌else◌}
use Rattle.bc_key.specs.declared.key.Key.{Key}
use Rattle.bc_key.specs.Key.{pointer_of}
use Rattle.bc_meta.specs.Entries.{Entry}
use Rattle.bc_meta.specs.Facts.{In}
use Rattle.bc_meta.specs.Keys.{Ref, covers, ref_by}
use Rattle.bc_meta.proofs.Lists.{by_le}
use Rattle.bc_leaves.specs.Fits.{Ordered}
use Rattle.bc_leaves.specs.Keys.{AnySpeaks, Speaks, last_said}
use Rattle.bc_leaves.specs.Parts.{AllFrom, Pending, keys_of}
use Rattle.bc_leaves_runs.specs.Reopen.{Replays}

-- those with a number from this one on
abbrev pub since : ℕ → List Pending → List Pending
since low [] = []
since low (x ∷ xs) = if nat_le low x.number then x ∷ since low xs else since low xs

since_in : (low : ℕ) (xs : List Pending) (y : Pending) → In y (since low xs) → In y xs
since_in low [] y i = i
since_in low (x ∷ xs) y i = by_le low x.number
    (λ b. In y (if b then x ∷ since low xs else since low xs) → In y (x ∷ xs))
    (λ le i. elim i [ inl e ↦ inl e | inr j ↦ inr (since_in low xs y j) ])
    (λ lt i. inr (since_in low xs y i)) i

pub since_from : (low : ℕ) (xs : List Pending) → AllFrom low (since low xs)
since_from low [] y i = absurd i
since_from low (x ∷ xs) y i = by_le low x.number
    (λ b. In y (if b then x ∷ since low xs else since low xs) → low ≤ y.number)
    (λ le i. elim i [
      | inl e ↦ (let same = ap (λ (z : Pending). z.number) e in omega (arith, le, same))
      | inr j ↦ since_from low xs y j
    ]) (λ lt i. since_from low xs y i) i

lower : (n m : ℕ) (xs : List Pending) → n ≤ m → Ordered n xs → Ordered m xs
lower n m [] le o = tt
lower n m (x ∷ xs) le o = (let top = o.0 in omega arith, o.1)

since_ordered : (low n : ℕ) (xs : List Pending) → Ordered n xs → Ordered n (since low xs)
since_ordered low n [] o = tt
since_ordered low n (x ∷ xs) o = by_le low x.number
    (λ b. Ordered n (if b then x ∷ since low xs else since low xs))
    (λ le. (o.0, since_ordered low x.number xs o.1))
    (λ lt. lower x.number n (since low xs) o.0 (since_ordered low x.number xs o.1))

-- the others say nothing
abbrev Mute : ℕ → List Pending → Type 0
Mute low xs = (y : Pending) → In y xs → y.number < low → (s : ℕ) → Speaks y.key s → ⊥

not_true : (b : Bool) → (b ≡ true → ⊥) → b ≡ false
not_true false h = refl
not_true true h = absurd (h refl)

said_behind : (x : Pending) (rest : Option (Option Ref)) (s : ℕ) → (Speaks x.key s → ⊥)
    → (if covers x.key s then Some (ref_by x.key s (pointer_of x.key)) else rest) ≡ rest
said_behind x rest s mute = ap (λ b. if b then Some (ref_by x.key s (pointer_of x.key)) else rest)
    (not_true (covers x.key s) mute)

since_same : (low : ℕ) (xs : List Pending) → Mute low xs → (s : ℕ)
    → last_said (keys_of (since low xs)) s ≡ last_said (keys_of xs) s
since_same low [] mute s = refl
since_same low (x ∷ xs) mute s =
    let below = since_same low xs (λ y i. mute y (inr i)) s in
    by_le low x.number
    (λ b. last_said (keys_of (if b then x ∷ since low xs else since low xs)) s
    ≡ last_said (keys_of (x ∷ xs)) s)
    (λ le. ap (λ o. if covers x.key s then Some (ref_by x.key s (pointer_of x.key)) else o) below)
    (λ lt. below ∙ sym (said_behind x (last_said (keys_of xs) s) s (mute x (inl refl) lt s)))

-- entries with keys have a number from this one on
abbrev pub AreNeeded : ℕ → List Entry → Type 0
AreNeeded low es = (e : Entry) → In e es → e.keys ≢ [] → low ≤ e.number

none_said : (keys : List Key) (s : ℕ) → keys ≡ [] → AnySpeaks keys s → ⊥
none_said keys s none any =
    let is : None ≡ Some any.0 = ap (λ (ks : List Key). last_said ks s) (sym none) ∙ any.1 in cc

is_none : (keys : List Key) → (keys ≢ [] → ⊥) → keys ≡ []
is_none [] h = refl
is_none (k ∷ ks) h = absurd (h (λ e. cc))

pub since_replays : (a b low : ℕ) (newest : Entry) (older : List Entry) (xs : List Pending)
    → AreNeeded low (newest ∷ older) → Replays a b newest older xs
    → Replays a b newest older (since low xs)
since_replays a b low newest older xs needed h = record {
  same = λ s from to. since_same low xs mute s ∙ h.same s from to;
  inside = λ s out. since_same low xs mute s ∙ h.inside s out;
  ordered = since_ordered low newest.number xs h.ordered;
  of_entry = λ y i. h.of_entry y (since_in low xs y i);
}
  where
    mute : Mute low xs
    mute y i lt s speaks =
        let k = h.of_entry y i in
        none_said k.0.keys s
        (is_none k.0.keys (λ some. let from = needed k.0 k.1 some in let is = k.2 in absurd (omega arith)))
        (k.3 s speaks)
