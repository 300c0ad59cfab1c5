-- Keys of the journal by the numbers of their entries, which rise.
use Rattle.std.proofs.Common.{◌≡◌, ◌≢◌, inl, inr, ℕ, suc, ◌≤◌, List, [], ◌∷◌, ◌++◌, Option, Some, None, refl, sym, ap, ◌∙◌, subst, arith, if◌then◌else◌}
use Rattle.std.specs.Prelude.{map, reverse}
use Rattle.std.proofs.lemmas.List.{reverse-append}
use Rattle.bc_chosen.specs.Waiting.{all_waiting, waiting}
use Rattle.bc_facts.proofs.Stood.{in_either}
use Rattle.bc_image.proofs.Unique.{some_same}
use Rattle.bc_jset.specs.Entries.{AreNumbered, FoundEntry, first_with}
use Rattle.bc_key.specs.declared.key.Key.{Key}
use Rattle.bc_leaves.specs.Parts.{Pending}
use Rattle.bc_machine.specs.Containers.{AreEntriesOf}
use Rattle.bc_meta.specs.Facts.{In}
use Rattle.bc_model.proofs.Cases.{by_test}
use Rattle.bc_node.specs.declared.pending.Entries.{Entries}
use Rattle.bc_pending.specs.Entries.{keys_in, keys_of}
use Rattle.bc_pending.specs.Pieces.{ArePieces, numbered}
use Rattle.bc_pending.specs.declared.numbered.Numbered.{Numbered}
use Rattle.bc_reload.specs.Added.{noted_all}
use Rattle.bc_spine.specs.declared.leaf.LeafRange.{LeafRange}

abbrev pub From : ℕ → List Numbered → Type 0
From n xs = (y : Numbered) → In y xs → n ≤ y.entry

abbrev pub Rising : List Numbered → Type 0
Rising [] = Unit {0}
Rising (x ∷ xs) = From x.entry xs × Rising xs

rising_both : (xs ys : List Numbered) → Rising xs → Rising ys
    → ((x y : Numbered) → In x xs → In y ys → x.entry ≤ y.entry) → Rising (xs ++ ys)
rising_both [] ys a b apart = b
rising_both (x ∷ xs) ys a b apart = (
  (λ y i. elim (in_either y xs ys i) [
    | inl here ↦ a.0 y here
    | inr later ↦ apart x y (inl refl) later
  ]),
  rising_both xs ys a.1 b (λ z y i j. apart z y (inr i) j),
)

-- ---- the keys of entries

of_entry : (n : ℕ) (ks : List Key) (y : Numbered) → In y (map (numbered n) ks) → y.entry ≡ n
of_entry n [] y i = absurd i
of_entry n (k ∷ ks) y (inl e) = ap (λ (z : Numbered). z.entry) e
of_entry n (k ∷ ks) y (inr i) = of_entry n ks y i

same_rises : (n : ℕ) (ks : List Key) → Rising (map (numbered n) ks)
same_rises n [] = tt
same_rises n (k ∷ ks) = (
  (λ y i. (let is = of_entry n ks y i in omega (arith, is))),
  same_rises n ks,
)

number_found : (n : ℕ) (all : List FoundEntry) (e : FoundEntry) → first_with n all ≡ Some e
    → e.item.seq ≡ n
number_found n [] e is = absurd (cc)
number_found n (x ∷ xs) e is = by_test x.item.seq n
    (λ t. (if t then Some x else first_with n xs) ≡ Some e → e.item.seq ≡ n)
    (λ same f. ap (λ (y : FoundEntry). y.item.seq) (sym (some_same x e f)) ∙ same)
    (λ _ f. number_found n xs e f) is

pub keys_rise : (all : List FoundEntry) (low : ℕ) (es : List FoundEntry) (next : ℕ)
    → AreNumbered all low es next → Rising (keys_in es) × From low (keys_in es)
keys_rise all low [] next is = (tt, (λ y i. absurd i))
keys_rise all low (e ∷ es) next is =
    let number = number_found low all e is.0 in
    let rest = keys_rise all (suc low) es next is.1 in (
      rising_both (keys_of e) (keys_in es) (same_rises e.item.seq e.item.keys) rest.0
          (λ x y i j. (let own = of_entry e.item.seq e.item.keys x i in let later = rest.1 y j in
          omega (arith, own, later, number))),
      (λ y i. elim (in_either y (keys_of e) (keys_in es) i) [
        | inl here ↦
            (let own = of_entry e.item.seq e.item.keys y here in omega (arith, own, number))
        | inr later ↦ (let after = rest.1 y later in omega (arith, after))
      ]),
    )

-- ---- their pieces

pub pieces_rise : (leaf : LeafRange) (keys pieces : List Numbered) → ArePieces leaf keys pieces
    → Rising keys → Rising pieces × ((n : ℕ) → From n keys → From n pieces)
pieces_rise leaf [] pieces are rises = (
  subst Rising (sym are) tt,
  (λ n from. subst (From n) (sym are) (λ y i. absurd i)),
)
pieces_rise leaf (k ∷ keys) pieces (inl none) rises =
    let rest = pieces_rise leaf keys pieces none.1 rises.1 in (
      rest.0,
      (λ n from. rest.1 n (λ y i. from y (inr i))),
    )
pieces_rise leaf (k ∷ keys) pieces (inr some) rises =
    let piece = some.0 in
    let others = some.1 in
    let entry = some.2.entry in
    let rest = pieces_rise leaf keys others some.4 rises.1 in (
      subst Rising (sym some.3) (
        (λ y i. (let later = rest.1 k.entry rises.0 y i in omega (arith, later, entry))),
        rest.0,
      ),
      (λ n from. subst (From n) (sym some.3) (λ y i. elim i [
        | inl e ↦ (let own = from k (inl refl) in let is = ap (λ (z : Numbered). z.entry) e in
            omega (arith, own, is, entry))
        | inr j ↦ rest.1 n (λ z h. from z (inr h)) y j
      ])),
    )

-- ---- the entries that hold them

abbrev last_of : ℕ → List Numbered → ℕ
last_of n [] = n
last_of n (x ∷ xs) = last_of x.entry xs

noted_more : (xs : List Numbered) (first last : ℕ)
    → noted_all xs (Some (record { first = first; last = last }))
    ≡ Some (record { first = first; last = last_of last xs })
noted_more [] first last = refl
noted_more (x ∷ xs) first last = noted_more xs first x.entry

up_to_last : (n : ℕ) (xs : List Numbered) → From n xs → Rising xs
    → (n ≤ last_of n xs) × ((y : Numbered) → In y xs → y.entry ≤ last_of n xs)
up_to_last n [] from rises = (omega arith, (λ y i. absurd i))
up_to_last n (x ∷ xs) from rises =
    let rest = up_to_last x.entry xs rises.0 rises.1 in
    let own = from x (inl refl) in
    let last = rest.0 in (
      omega (arith, own, last),
      (λ y i. elim i [
        | inl e ↦ (let is = ap (λ (z : Numbered). z.entry) e in omega (arith, is, last))
        | inr j ↦ rest.1 y j
      ]),
    )

pub in_map : (xs : List Numbered) (z : Pending) → In z (map waiting xs)
    → (y : Numbered) × In y xs × (z.number ≡ y.entry)
in_map [] z i = absurd i
in_map (x ∷ xs) z (inl e) = (x, inl refl, ap (λ (p : Pending). p.number) e)
in_map (x ∷ xs) z (inr i) = let k = in_map xs z i in (k.0, inr k.1, k.2)

pub in_reverse : (zs : List Pending) (z : Pending) → In z (reverse zs) → In z zs
in_reverse [] z i = i
in_reverse (x ∷ zs) z i = elim (in_either z (reverse zs) (x ∷ [])
    (subst (λ (l : List Pending). In z l) (reverse-append (x ∷ []) zs) i)) [
      | inl j ↦ inr (in_reverse zs z j)
      | inr (inl e) ↦ inl e
      | inr (inr none) ↦ absurd none
    ]

some_left : (zs : List Pending) (z : Pending) → (zs ++ z ∷ []) ≢ []
some_left [] z none = absurd (cc)
some_left (y ∷ ys) z none = absurd (cc)

pub entries_of : (xs : List Numbered) → Rising xs
    → AreEntriesOf (noted_all xs None) (all_waiting xs)
entries_of [] rises = refl
entries_of (x ∷ xs) rises = subst (λ (o : Option Entries). AreEntriesOf o (all_waiting (x ∷ xs)))
    (sym (noted_more xs x.entry x.entry)) (
      (λ none. some_left (reverse (map waiting xs)) (waiting x)
          (sym (reverse-append (waiting x ∷ []) (map waiting xs)) ∙ none)),
      (λ z i. (let y = in_map (x ∷ xs) z (in_reverse (map waiting (x ∷ xs)) z i) in
          let is = y.2 in low y.0 y.1 z is)),
      (λ z i. (let y = in_map (x ∷ xs) z (in_reverse (map waiting (x ∷ xs)) z i) in
          let is = y.2 in high y.0 y.1 z is)),
    )
  where
    low : (y : Numbered) → In y (x ∷ xs) → (z : Pending) → z.number ≡ y.entry → x.entry ≤ z.number
    low y (inl e) z is = let own = ap (λ (n : Numbered). n.entry) e in omega (arith, own, is)
    low y (inr i) z is = let later = rises.0 y i in omega (arith, later, is)

    high : (y : Numbered) → In y (x ∷ xs) → (z : Pending) → z.number ≡ y.entry
        → z.number ≤ last_of x.entry xs
    high y (inl e) z is = let own = ap (λ (n : Numbered). n.entry) e in
        let last = (up_to_last x.entry xs rises.0 rises.1).0 in omega (arith, own, is, last)
    high y (inr i) z is =
        let last = (up_to_last x.entry xs rises.0 rises.1).1 y i in omega (arith, is, last)
