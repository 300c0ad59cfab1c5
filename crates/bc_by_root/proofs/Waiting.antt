-- What is pending of the leaves that go, one behind the other.
use Rattle.std.proofs.Common.{◌≡◌, inl, inr, ℕ, zero, suc, ◌+◌, ◌<◌, ◌≤◌, Bool, true, false, List, [], ◌∷◌, ◌++◌, Option, None, Some, drop, take, refl, sym, ap, ◌∙◌, subst, arith}
use Rattle.std.specs.Prelude.{◌*◌, ◌↔◌, IfSome, IsTrue, nat_le, slice_get}
use Rattle.std.proofs.lemmas.Bool.{le-leb, leb-true}
use Rattle.bc_cache.specs.Fetch.{IsLeafIn}
use Rattle.bc_disk.specs.declared.geometry.Geometry.{Geometry}
use Rattle.bc_install.specs.bc_hand.declared.hand.Hand.{Hand}
use Rattle.bc_install.specs.bc_hand.declared.hand.LeafHand.{LeafHand}
use Rattle.bc_install.specs.bc_machine.declared.part.SpinePart.{SpinePart}
use Rattle.bc_journal.specs.Journal.{Journal}
use Rattle.bc_node.specs.Leaf.{Leaf}
use Rattle.bc_spine.specs.Exchange.{going}
use Rattle.bc_tree.specs.declared.plan.Plan.{Plan}
use Rattle.bc_cache.specs.Slots.{IsSlotOf, Misses}
use Rattle.bc_cache.specs.declared.slots.Cached.{Cached}
use Rattle.bc_facts.proofs.Stood.{contains_in, in_behind, in_contains, in_either}
use Rattle.bc_meta.specs.Facts.{In}
use Rattle.bc_node.specs.declared.pending.Entries.{Entries}
use Rattle.bc_spine.specs.declared.leaf.LeafRange.{LeafRange}
use Rattle.bc_by_root.specs.Given.{AreDurableTo, IsDurableTo}

off_on : false ≡ true → ⊥
off_on is = cc

-- ---- lists

next_taken : (xs : List LeafRange) (p i : ℕ) (x : LeafRange) (n : ℕ) → n ≡ p + i
    → slice_get xs n ≡ Some x → take (suc i) (drop p xs) ≡ take i (drop p xs) ++ x ∷ []
next_taken [] p i x n same at = absurd (cc)
next_taken (y ∷ ys) zero zero x zero same at = ap (λ (z : LeafRange). z ∷ []) (one_of at)
  where
    one_of : {A : Type 0} {a b : A} → Some a ≡ Some b → a ≡ b
    one_of is = cc
next_taken (y ∷ ys) zero zero x (suc n) same at = absurd (omega (arith, same))
next_taken (y ∷ ys) zero (suc i) x zero same at = absurd (omega (arith, same))
next_taken (y ∷ ys) zero (suc i) x (suc n) same at =
    ap (λ (zs : List LeafRange). y ∷ zs) (next_taken ys zero i x n (omega (arith, same)) at)
next_taken (y ∷ ys) (suc p) i x zero same at = absurd (omega (arith, same))
next_taken (y ∷ ys) (suc p) i x (suc n) same at =
    next_taken ys p i x n (omega (arith, same)) at

taken_more : (xs : List LeafRange) (i n : ℕ) (x : LeafRange) → i ≤ n → In x (take i xs)
    → In x (take n xs)
taken_more [] zero zero x up m = m
taken_more [] zero (suc n) x up m = m
taken_more [] (suc i) zero x up m = m
taken_more [] (suc i) (suc n) x up m = m
taken_more (y ∷ ys) zero n x up m = absurd m
taken_more (y ∷ ys) (suc i) zero x up m = absurd (omega (arith, up))
taken_more (y ∷ ys) (suc i) (suc n) x up (inl here) = inl here
taken_more (y ∷ ys) (suc i) (suc n) x up (inr later) =
    inr (taken_more ys i n x (omega (arith, up)) later)

-- ---- leaves

module _ (slots : List (Option Cached)) (upto : ℕ) where
  pub none_go : (xs : List LeafRange) → AreDurableTo slots (take 0 xs) upto
  none_go [] range m = absurd (contains_in [] range m)
  none_go (x ∷ xs) range m = absurd (contains_in [] range m)

  pub next_goes : (xs : List LeafRange) (p i : ℕ) (x : LeafRange)
      → slice_get xs (p + i) ≡ Some x → IsDurableTo slots x.number upto
      → AreDurableTo slots (take i (drop p xs)) upto
      → AreDurableTo slots (take (i + 1) (drop p xs)) upto
  next_goes xs p i x at one before range m =
      let same : i + 1 ≡ suc i = omega arith in
      let there = subst (λ (ys : List LeafRange). In range ys)
      (ap (λ n. take n (drop p xs)) same ∙ next_taken xs p i x (p + i) refl at)
      (contains_in (take (i + 1) (drop p xs)) range m) in
      elim (in_either range (take i (drop p xs)) (x ∷ []) there) [
        | inl early ↦ before range (in_contains (take i (drop p xs)) range early)
        | inr (inl here) ↦ subst (λ (r : LeafRange). IsDurableTo slots r.number upto)
            (sym here) one
        | inr (inr none) ↦ absurd none
      ]

  -- one that goes isn't durable
  pub one_stays : (xs : List LeafRange) (p i n : ℕ) (x : LeafRange)
      → slice_get xs (p + i) ≡ Some x → i < n → (IsDurableTo slots x.number upto → ⊥)
      → AreDurableTo slots (take n (drop p xs)) upto → ⊥
  one_stays xs p i n x at up not all = not (all x (in_contains (take n (drop p xs)) x
      (taken_more (drop p xs) (suc i) n x (omega (arith, up))
      (subst (λ (ys : List LeafRange). In x ys)
      (sym (next_taken xs p i x (p + i) refl at))
      (in_behind x (take i (drop p xs)) (x ∷ []) (inl refl))))))

  -- ---- one leaf

  pub missed : (number : ℕ) → Misses slots number → IsDurableTo slots number upto
  missed number none slot cached there is =
      absurd (none slot (record { cached = cached; there = there; number_is = is }))

  -- the one that is in its slot
  pub found : (number slot : ℕ) (cached : Cached) → IsSlotOf slots number slot
      → slice_get slots slot ≡ Some (Some cached)
      → IfSome cached.leaf.entries (λ (e : Entries). e.last ≤ upto)
      → IsDurableTo slots number upto
  found number slot cached is at durable other another there same =
      let here = is.only other (record { cached = another; there = there; number_is = same }) in
      subst (λ (c : Cached). IfSome c.leaf.entries (λ (e : Entries). e.last ≤ upto))
      (one_of (sym at ∙ subst (λ n. slice_get slots n ≡ Some (Some another)) here there)) durable
    where
      one_of : {a b : Cached} → Some (Some a) ≡ Some (Some b) → a ≡ b
      one_of is = cc

  -- its entries tell
  pub not_pending : (number slot : ℕ) (leaf : Leaf) → IsLeafIn slots slot leaf
      → IsSlotOf slots number slot → (o : Option Entries) → o ≡ leaf.entries
      → IfSome o (λ (e : Entries). e.last ≤ upto) → IsDurableTo slots number upto
  not_pending number slot leaf at is o o_is h = found number slot at.0 is at.1
      (subst (λ (x : Option Entries). IfSome x (λ (e : Entries). e.last ≤ upto))
      (o_is ∙ sym (ap (λ (x : Leaf). x.entries) at.2)) h)

  pub entries_of : (number slot : ℕ) (leaf : Leaf) → IsLeafIn slots slot leaf
      → IsSlotOf slots number slot → (o : Option Entries) → o ≡ leaf.entries
      → IsDurableTo slots number upto → IfSome o (λ (e : Entries). e.last ≤ upto)
  entries_of number slot leaf at is o o_is all =
      subst (λ (x : Option Entries). IfSome x (λ (e : Entries). e.last ≤ upto))
      (ap (λ (x : Leaf). x.entries) at.2 ∙ sym o_is)
      (all slot at.0 at.1 (ap (λ (c : Cached). c.number) (one_of (sym at.1 ∙ is.has.there))
      ∙ is.has.number_is))
    where
      one_of : {a b : Cached} → Some (Some a) ≡ Some (Some b) → a ≡ b
      one_of same = cc

  pub none_durable : (number slot : ℕ) (leaf : Leaf) → IsLeafIn slots slot leaf
      → IsSlotOf slots number slot → (o : Option Entries) → o ≡ leaf.entries → o ≡ None
      → IsTrue true ↔ IsDurableTo slots number upto
  none_durable number slot leaf at is o o_is none = (
    λ on. not_pending number slot leaf at is o o_is
        (subst (λ (x : Option Entries). IfSome x (λ (e : Entries). e.last ≤ upto)) (sym none) tt),
    λ all. refl,
  )

  pub some_durable : (number slot : ℕ) (leaf : Leaf) → IsLeafIn slots slot leaf
      → IsSlotOf slots number slot → (o : Option Entries) (e : Entries) → o ≡ leaf.entries
      → o ≡ Some e → IsTrue (nat_le e.last upto) ↔ IsDurableTo slots number upto
  some_durable number slot leaf at is o e o_is some = (
    λ on. not_pending number slot leaf at is o o_is
        (subst (λ (x : Option Entries). IfSome x (λ (y : Entries). y.last ≤ upto)) (sym some)
        (leb-true e.last upto on)),
    λ all. le-leb e.last upto
        (subst (λ (x : Option Entries). IfSome x (λ (y : Entries). y.last ≤ upto)) some
        (entries_of number slot leaf at is o o_is all)),
  )

  -- ---- the loop

  pub stops : (xs : List LeafRange) (p i n : ℕ) (x : LeafRange) → slice_get xs (p + i) ≡ Some x
      → i < n → (b : Bool) → IsTrue b ↔ IsDurableTo slots x.number upto → b ≡ false
      → IsTrue false ↔ AreDurableTo slots (take n (drop p xs)) upto
  stops xs p i n x at up b says is = (
    λ on. absurd (off_on on),
    λ all. absurd (one_stays xs p i n x at up (λ one. off_on (sym is ∙ says.1 one)) all),
  )

  pub all_go : (xs : List LeafRange) (p i n : ℕ) → n ≤ i → i ≤ n
      → AreDurableTo slots (take i (drop p xs)) upto
      → IsTrue true ↔ AreDurableTo slots (take n (drop p xs)) upto
  all_go xs p i n to from h = (
    λ on. let same : i ≡ n = omega (arith, to, from) in
        subst (λ m. AreDurableTo slots (take m (drop p xs)) upto) same h,
    λ all. refl,
  )

-- ---- of what is in hand

pub same_some : {A : Type 0} (o : Option A) (a b : A) → o ≡ Some a → o ≡ Some b → a ≡ b
same_some o a b is at = let both : Some a ≡ Some b = sym is ∙ at in cc

module _ {C B : Type 0} (h : Hand C B) (plan : Plan) where
  pub told : (b : Bool) (jr js j : Journal) (pr ps p : SpinePart) (ls l : LeafHand) (n : ℕ)
      → h.journal ≡ Some js → h.spine ≡ Some ps → h.leaves ≡ Some ls → jr ≡ js → pr ≡ ps
      → n ≡ jr.durable.seq
      → IsTrue b ↔ AreDurableTo ls.cache.slots (going pr.spine.leaves plan.leaves) n
      → h.journal ≡ Some j → h.spine ≡ Some p → h.leaves ≡ Some l
      → IsTrue b ↔ AreDurableTo l.cache.slots (going p.spine.leaves plan.leaves) j.durable.seq
  told b jr js j pr ps p ls l n js_is ps_is ls_is jr_is pr_is n_is says j_is p_is l_is =
      let first = n_is ∙ ap (λ (x : Journal). x.durable.seq)
      (jr_is ∙ same_some h.journal js j js_is j_is) in
      let second = pr_is ∙ same_some h.spine ps p ps_is p_is in
      let third = same_some h.leaves ls l ls_is l_is in
      subst (λ m. IsTrue b ↔ AreDurableTo l.cache.slots (going p.spine.leaves plan.leaves) m) first
      (subst (λ (x : SpinePart). IsTrue b
      ↔ AreDurableTo l.cache.slots (going x.spine.leaves plan.leaves) n) second
      (subst (λ (x : LeafHand). IsTrue b
      ↔ AreDurableTo x.cache.slots (going pr.spine.leaves plan.leaves) n) third says))

pub never_both : (b : Bool) → b ≡ false → IsTrue b → ⊥
never_both b is on = off_on (sym is ∙ on)

pub within_as : (g : Geometry) (j : Journal) (a b s t : ℕ) → a ≡ g.bucket → b ≡ g.nbuckets
    → g ≡ j.ring.geometry → s ≡ t → a * b ≤ s
    → j.ring.geometry.bucket * j.ring.geometry.nbuckets ≤ t
within_as g j a b s t a_is b_is g_is s_is up = subst (λ n. n ≤ t)
    (ap (λ n. n * b) (a_is ∙ ap (λ (x : Geometry). x.bucket) g_is)
    ∙ ap (λ n. j.ring.geometry.bucket * n) (b_is ∙ ap (λ (x : Geometry). x.nbuckets) g_is))
    (subst (λ n. a * b ≤ n) s_is up)
