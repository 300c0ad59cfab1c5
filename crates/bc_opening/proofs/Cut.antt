-- Keys of entries, cut to a leaf's range, are what it may get back.
use Rattle.std.proofs.Common.{subst, ◌≡◌, inl, inr, ℕ, suc, ◌<◌, ◌≤◌, Bool, true, false, List, [], ◌∷◌, ◌++◌, Some, refl, sym, ap, ◌∙◌, arith, if◌then◌else◌}
use Rattle.bc_key.specs.declared.key.Key.{Key}
use Rattle.bc_key.specs.Key.{pointer_of}
use Rattle.bc_meta.specs.Entries.{CountDown, Entry, all_keys}
use Rattle.bc_meta.specs.Facts.{In}
use Rattle.bc_meta.specs.Keys.{covers, ref_by}
use Rattle.bc_leaves.specs.Fits.{Ordered}
use Rattle.bc_leaves.specs.Keys.{AnySpeaks, Speaks, last_said}
use Rattle.bc_leaves.specs.Parts.{Pending, keys_of}
use Rattle.bc_leaves.proofs.Pend.{append_both, front_hit, front_miss, front_more, none_of, ordered_more}
use Rattle.bc_facts.proofs.Stood.{in_either}
use Rattle.bc_opening.specs.Cut.{AreCut, AreCutFrom, IsCutTo, LawCut}

said_here : (key : Key) (keys : List Key) (s : ℕ) → covers key s ≡ true → last_said (key ∷ keys) s ≡ Some (ref_by key s (pointer_of key))
said_here key keys s h = ap (λ (t : Bool). if t then Some (ref_by key s (pointer_of key)) else last_said keys s) h

keys_join : (xs ys : List Pending) → keys_of (xs ++ ys) ≡ keys_of xs ++ keys_of ys
keys_join [] ys = refl
keys_join (x ∷ xs) ys = ap (λ (l : List Key). x.key ∷ l) (keys_join xs ys)

module _ (a b : ℕ) where
  -- ---- of one entry

  cut_said : (whole part : Key) (keys rest : List Key) (s : ℕ) → a ≤ s → s < b → IsCutTo a b whole part → last_said rest s ≡ last_said keys s → last_said (part ∷ rest) s ≡ last_said (whole ∷ keys) s
  cut_said whole part keys rest s low high cut same = go (covers part s) refl
    where
      two : (t : Bool) → t ≡ true → t ≡ false → ⊥
      two t x y = cc

      go : (t : Bool) → covers part s ≡ t → last_said (part ∷ rest) s ≡ last_said (whole ∷ keys) s
      go true e = said_here part rest s e ∙ ap Some (cut.says s e) ∙ sym (said_here whole keys s ((cut.sectors s).0 e).2)
      go false e = front_miss part rest s (λ says. two (covers part s) says e) ∙ same ∙ sym (front_miss whole keys s (λ says. two (covers part s) ((cut.sectors s).1 (low, high, says)) e))

  cut_same : (n : ℕ) (keys : List Key) (pending : List Pending) (s : ℕ) → a ≤ s → s < b → AreCut a b n keys pending → last_said (keys_of pending) s ≡ last_said keys s
  cut_same n [] pending s low high are = ap (λ (l : List Pending). last_said (keys_of l) s) are
  cut_same n (k ∷ ks) pending s low high (inl out) = cut_same n ks pending s low high out.1 ∙ sym (front_miss k ks s (out.0 s low high))
  cut_same n (k ∷ ks) pending s low high (inr c) =
      ap (λ (l : List Pending). last_said (keys_of l) s) c.2 ∙ cut_said k c.0.key ks (keys_of c.1) s low high c.4 (cut_same n ks c.1 s low high c.5)

  -- each is of the entry, and lies in the range
  record Of (n : ℕ) (keys : List Key) (y : Pending) : Type 0 where
    number : y.number ≡ n
    says : (s : ℕ) → Speaks y.key s → (a ≤ s) × (s < b) × AnySpeaks keys s

  more : (n : ℕ) (k : Key) (ks : List Key) (y : Pending) → Of n ks y → Of n (k ∷ ks) y
  more n k ks y o = record { number = o.number; says = λ s h. (let t = o.says s h in (t.0, t.1, front_more k ks s t.2)) }

  cut_of : (n : ℕ) (keys : List Key) (pending : List Pending) → AreCut a b n keys pending → (y : Pending) → In y pending → Of n keys y
  cut_of n [] pending are y i = absurd (subst (λ (l : List Pending). In y l) are i)
  cut_of n (k ∷ ks) pending (inl out) y i = more n k ks y (cut_of n ks pending out.1 y i)
  cut_of n (k ∷ ks) pending (inr c) y i = elim (subst (λ (l : List Pending). In y l) c.2 i) [
    | inl e ↦ subst (λ (z : Pending). Of n (k ∷ ks) z) (sym e)
        (record { number = c.3; says = λ s h. (let t = (c.4.sectors s).0 h in (t.0, t.1, front_hit k ks s t.2)) })
    | inr j ↦ more n k ks y (cut_of n ks c.1 c.5 y j)
  ]

  ordered_cut : (n m : ℕ) (keys : List Key) (here rest : List Pending) → n ≤ m → AreCut a b n keys here → Ordered n rest → Ordered m (here ++ rest)
  ordered_cut n m [] here rest le are down = subst (λ (l : List Pending). Ordered m (l ++ rest)) (sym are) (ordered_more n m rest le down)
  ordered_cut n m (k ∷ ks) here rest le (inl out) down = ordered_cut n m ks here rest le out.1 down
  ordered_cut n m (k ∷ ks) here rest le (inr c) down =
      let number = c.3 in
      subst (λ (l : List Pending). Ordered m (l ++ rest)) (sym c.2) (omega (arith, number, le), ordered_cut n c.0.number ks c.1 rest (omega (arith, number)) c.5 down)

  -- ---- of all

  all_same : (es : List Entry) (pending : List Pending) (s : ℕ) → a ≤ s → s < b → AreCutFrom a b es pending → last_said (keys_of pending) s ≡ last_said (all_keys es) s
  all_same [] pending s low high are = ap (λ (l : List Pending). last_said (keys_of l) s) are
  all_same (e ∷ es) pending s low high c =
      ap (λ (l : List Pending). last_said (keys_of l) s) c.2 ∙ ap (λ (l : List Key). last_said l s) (keys_join c.0 c.1)
      ∙ append_both (keys_of c.0) (keys_of c.1) e.keys (all_keys es) s (cut_same e.number e.keys c.0 s low high c.3) (all_same es c.1 s low high c.4)

  all_of : (es : List Entry) (pending : List Pending) → AreCutFrom a b es pending → (y : Pending) → In y pending → (e : Entry) × In e es × Of e.number e.keys y
  all_of [] pending are y i = absurd (subst (λ (l : List Pending). In y l) are i)
  all_of (e ∷ es) pending c y i = elim (in_either y c.0 c.1 (subst (λ (l : List Pending). In y l) c.2 i)) [
    | inl j ↦ (e, inl refl, cut_of e.number e.keys c.0 c.3 y j)
    | inr j ↦ (let k = all_of es c.1 c.4 y j in (k.0, inr k.1, k.2))
  ]

  all_ordered : (all : List Entry) (low : ℕ) (es : List Entry) (next m : ℕ) (pending : List Pending) → CountDown all low es next → next ≤ suc m → AreCutFrom a b es pending → Ordered m pending
  all_ordered all low [] next m pending down le are = subst (λ (l : List Pending). Ordered m l) (sym are) tt
  all_ordered all low (e ∷ es) next m pending down le c =
      let number = down.0 in
      subst (λ (l : List Pending). Ordered m l) (sym c.2)
      (ordered_cut e.number m e.keys c.0 c.1 (omega (arith, number, le)) c.3 (all_ordered all low es e.number e.number c.1 down.4 (omega arith) c.4))

pub law_cut : LawCut
law_cut all a b newest older pending down cut = record {
  same = λ s low high. all_same a b (newest ∷ older) pending s low high cut;
  inside = λ s out. none_of pending s (λ y i says. (let t = (all_of a b (newest ∷ older) pending cut y i).2.says s says in out (t.0, t.1)));
  ordered = all_ordered a b all newest.last_seq (newest ∷ older) (suc newest.number) newest.number pending down (omega arith) cut;
  of_entry = λ y i. (let k = all_of a b (newest ∷ older) pending cut y i in (k.0, k.1, k.2.number, λ s says. (k.2.says s says).2));
}
