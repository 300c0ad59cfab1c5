-- The node that takes a set, among the nodes of the tree before and behind the change.
use Rattle.std.proofs.Common.{◌≡◌, ◌≢◌, ◌⊎◌, inl, inr, ℕ, zero, suc, ◌+◌, List, [], ◌∷◌, ◌++◌, length, take, drop, Option, Some, None, refl, sym, subst, ap, ◌∙◌, arith}
use Rattle.std.specs.Prelude.{slice_get}
use Rattle.bc_facts.proofs.Stood.{in_either}
use Rattle.bc_inner.specs.Inner.{Inner}
use Rattle.bc_key.specs.declared.key.Key.{Key}
use Rattle.bc_meta.specs.Facts.{In}
use Rattle.bc_tree.specs.Group.{CanStand}
use Rattle.bc_tree.specs.Next.{below_next, beside_next, node_next, nodes_next, root_next}
use Rattle.bc_plan.specs.Parent.{TakesBy, TakesSet}
use Rattle.bc_tree.specs.Plan.{Fits}
use Rattle.bc_tree.specs.Spine.{Spine, bottom}
use Rattle.bc_tree.specs.declared.beside.Beside.{Beside}
use Rattle.bc_tree.specs.declared.beside.Beside.TheVariants.{Comes, Goes, Moves, Stays, Under}
use Rattle.bc_tree.specs.declared.change.NodeChange.{NodeChange}
use Rattle.bc_tree.specs.declared.change.NodeChange.TheVariants.{Move, Set}
use Rattle.bc_tree.specs.declared.plan.Plan.{Plan}
use Rattle.bc_change.specs.Goes.{beside_come, beside_gone, gives_way, moved, top_gives_way, top_moved}
use Rattle.bc_change.proofs.Lists.{first_behind, in_get}
use Rattle.bc_change.proofs.Nexts.{TakesAt, at_place_stays, inserted, next_at, removed, same_long, set_in}
use Rattle.bc_parent_set.specs.Takes.{IsTaker, TakesAlone}

one_there : (a n : Inner) (j : ℕ) → slice_get (a ∷ []) j ≡ Some n → j ≡ 0
one_there a n zero there = refl
one_there a n (suc j) there = absurd (cc)

some_same : (a b : Inner) → Some a ≡ Some b → b ≡ a
some_same a b e = cc

nothing_there : (i : ℕ) (o : Inner) → slice_get [] i ≡ Some o → ⊥
nothing_there zero o e = cc
nothing_there (suc i) o e = cc

-- no other node takes one
pub only_taker : (root : Inner) (below : List Inner) (place : ℕ) (b : NodeChange)
    (top : Option NodeChange) (at : ℕ) (keys : List Key) → TakesAlone below place b top at keys
    → (j : ℕ) (n : Inner) → slice_get (root ∷ below) j ≡ Some n → TakesAt below place b top j → j ≡ at
only_taker root [] place (Set set) None at keys h j n there takes =
    one_there root n j there ∙ sym h.0
only_taker root [] place (Set set) (Some x) at keys h j n there takes = absurd h
only_taker root [] place (Move next) top at keys h j n there takes = absurd h
only_taker root (x ∷ xs) place (Set set) None at keys h j n there (inl low) = low.1 ∙ sym h.0
only_taker root (x ∷ xs) place (Set set) None at keys h j n there (inr high) = absurd high.0
only_taker root (x ∷ xs) place (Set set) (Some y) at keys h j n there takes = absurd h
only_taker root (x ∷ xs) place (Move next) None at keys h j n there takes = absurd h
only_taker root (x ∷ xs) place (Move next) (Some (Set set)) at keys h j n there (inl low) =
    absurd low.0
only_taker root (x ∷ xs) place (Move next) (Some (Set set)) at keys h j n there (inr high) =
    high.1 ∙ sym h.0
only_taker root (x ∷ xs) place (Move next) (Some (Move up)) at keys h j n there takes = absurd h

set_there : (xs : List Inner) (p : ℕ) (n : Inner) (keys : List Key) → slice_get xs p ≡ Some n
    → slice_get (nodes_next xs p (Set keys)) p ≡ Some (node_next n (Set keys))
set_there [] p n keys e = absurd (cc)
set_there (x ∷ xs) zero n keys e =
    ap (λ (y : Inner). Some (node_next y (Set keys))) (sym (some_same x n e))
set_there (x ∷ xs) (suc p) n keys e = set_there xs p n keys e

-- it stands in the tree that is made, with its new children
pub taker_next : (root : Inner) (below : List Inner) (place room : ℕ) (b : NodeChange)
    (top : Option NodeChange) (beside : Beside) (at : ℕ) (taker : Inner) (keys : List Key)
    → TakesAlone below place b top at keys → slice_get (root ∷ below) at ≡ Some taker
    → CanStand (length below) room place beside
    → In (node_next taker (Set keys))
    (root_next root below b top ∷ below_next below place b beside)
taker_next root [] place room (Set set) None beside at taker keys h there can =
    let here = subst (λ k. slice_get (root ∷ []) k ≡ Some taker) h.0 there in
    inl (ap (λ (ks : List Key). node_next taker (Set ks)) h.1
    ∙ ap (λ (n : Inner). node_next n (Set set)) (some_same root taker here))
taker_next root [] place room (Set set) (Some x) beside at taker keys h there can = absurd h
taker_next root [] place room (Move next) top beside at taker keys h there can = absurd h
taker_next root (x ∷ xs) place room (Set set) None beside at taker keys h there can =
    let here = subst (λ k. slice_get (root ∷ x ∷ xs) k ≡ Some taker) h.0 there in
    let long = same_long (x ∷ xs) place (Set set) in
    inr (subst (λ (ks : List Key).
    In (node_next taker (Set ks)) (below_next (x ∷ xs) place (Set set) beside)) (sym h.1)
    (at_place_stays (nodes_next (x ∷ xs) place (Set set)) place room beside
    (node_next taker (Set set)) (omega (arith, long))
    (subst (λ k. CanStand k room place beside) (sym long) can)
    (set_there (x ∷ xs) place taker set here)))
taker_next root (x ∷ xs) place room (Set set) (Some y) beside at taker keys h there can = absurd h
taker_next root (x ∷ xs) place room (Move next) None beside at taker keys h there can = absurd h
taker_next root (x ∷ xs) place room (Move next) (Some (Set set)) beside at taker keys h there can =
    let here = subst (λ k. slice_get (root ∷ x ∷ xs) k ≡ Some taker) h.0 there in
    inl (ap (λ (ks : List Key). node_next taker (Set ks)) h.1
    ∙ ap (λ (n : Inner). node_next n (Set set)) (some_same root taker here))
taker_next root (x ∷ xs) place room (Move next) (Some (Move up)) beside at taker keys h there can =
    absurd h

-- ---- what the change leaves of each node

-- A node of the tree that is made comes, or is the one that took the set, or stood there as it is.
abbrev pub IsOneOf : List Inner → NodeChange → Option NodeChange → Beside → ℕ → Inner → List Key
    → Inner → Type 0
IsOneOf nodes b top beside at taker keys n =
    In n (moved b ++ (top_moved top ++ beside_come beside))
    ⊎ (n ≡ node_next taker (Set keys))
    ⊎ ((j : ℕ) × (slice_get nodes j ≡ Some n) × (j ≢ at))

-- by what comes beside a node
beside_one : (xs : List Inner) (p : ℕ) (s : Beside) (n : Inner) → In n (beside_next xs p s)
    → ((j : ℕ) × (slice_get xs j ≡ Some n)) ⊎ In n (beside_come s)
beside_one xs p Stays n m = inl (in_get xs n m)
beside_one xs p (Comes x) n m = elim (inserted xs (p + 1) x n m) [
  | inl new ↦ inr (inl new)
  | inr old ↦ inl (in_get xs n old)
]
beside_one xs p (Moves x) n m = elim (set_in xs (p + 1) x n m) [
  | inl new ↦ inr (inl new)
  | inr old ↦ inl (old.0, old.2)
]
beside_one xs p Goes n m = let one = removed xs (p + 1) n m in inl (one.0, one.2)
beside_one xs p (Under low high) n m = inr m

module _ (root x : Inner) (xs : List Inner) (place : ℕ) (beside : Beside) (taker : Inner)
    (keys : List Key) where
  -- where the node above leaves takes it
  low_one : (set : List Key) (at : ℕ) → at ≡ suc place → keys ≡ set
      → slice_get (root ∷ x ∷ xs) at ≡ Some taker → (n : Inner)
      → In n (below_next (x ∷ xs) place (Set set) beside)
      → IsOneOf (root ∷ x ∷ xs) (Set set) None beside at taker keys n
  low_one set at is same there n m =
      elim (beside_one (nodes_next (x ∷ xs) place (Set set)) place beside n m) [
        | inr new ↦ inl new
        | inl old ↦ elim (next_at (x ∷ xs) place (Set set) old.0 n old.1) [
          | inl here ↦ inr (inl (
              let now = subst (λ k. slice_get (root ∷ x ∷ xs) k ≡ Some taker) is there in
              let one : here.1.0 ≡ taker = some_same taker here.1.0 (sym now ∙ here.1.1) in
              here.1.2 ∙ ap (λ (y : Inner). node_next y (Set set)) one
              ∙ ap (λ (ks : List Key). node_next taker (Set ks)) (sym same)))
          | inr other ↦ inr (inr (
            suc old.0,
            other.1,
            λ e.
                let a : suc old.0 ≡ suc place = e ∙ is in other.0 (omega (arith, a)),
          ))
        ]
      ]

  -- where the root does, and the one below it moves
  high_one : (next : Inner) (at : ℕ) (top : Option NodeChange) → at ≡ 0 → (n : Inner)
      → In n (below_next (x ∷ xs) place (Move next) beside)
      → IsOneOf (root ∷ x ∷ xs) (Move next) top beside at taker keys n
  high_one next at top is n m =
      elim (beside_one (nodes_next (x ∷ xs) place (Move next)) place beside n m) [
        | inr new ↦ inl (inr (in_more (top_moved top) (beside_come beside) n new))
        | inl old ↦ elim (next_at (x ∷ xs) place (Move next) old.0 n old.1) [
          | inl here ↦ inl (inl here.1.2)
          | inr other ↦ inr (inr (
            suc old.0,
            other.1,
            λ e.
                let a : suc old.0 ≡ 0 = e ∙ is in omega (arith, a),
          ))
        ]
      ]
    where
      in_more : (ys zs : List Inner) (n : Inner) → In n zs → In n (ys ++ zs)
      in_more [] zs n m = m
      in_more (y ∷ ys) zs n m = inr (in_more ys zs n m)

pub one_of_next : (root : Inner) (below : List Inner) (place : ℕ) (b : NodeChange)
    (top : Option NodeChange) (beside : Beside) (at : ℕ) (taker : Inner) (keys : List Key)
    → TakesAlone below place b top at keys → slice_get (root ∷ below) at ≡ Some taker → (n : Inner)
    → In n (root_next root below b top ∷ below_next below place b beside)
    → IsOneOf (root ∷ below) b top beside at taker keys n
one_of_next root [] place (Set set) None beside at taker keys h there n (inl up) =
    let here = subst (λ k. slice_get (root ∷ []) k ≡ Some taker) h.0 there in
    inr (inl (up ∙ ap (λ (y : Inner). node_next y (Set set)) (sym (some_same root taker here))
    ∙ ap (λ (ks : List Key). node_next taker (Set ks)) (sym h.1)))
one_of_next root [] place (Set set) None beside at taker keys h there n (inr more) =
    elim (beside_one [] place beside n more) [
      | inl old ↦ absurd (nothing_there old.0 n old.1)
      | inr new ↦ inl new
    ]
one_of_next root [] place (Set set) (Some y) beside at taker keys h there n m = absurd h
one_of_next root [] place (Move next) top beside at taker keys h there n m = absurd h
one_of_next root (x ∷ xs) place (Set set) None beside at taker keys h there n (inl up) =
    inr (inr (0, ap Some (sym up), λ e. let a : 0 ≡ suc place = e ∙ h.0 in omega (arith, a)))
one_of_next root (x ∷ xs) place (Set set) None beside at taker keys h there n (inr low) =
    low_one root x xs place beside taker keys set at h.0 h.1 there n low
one_of_next root (x ∷ xs) place (Set set) (Some y) beside at taker keys h there n m = absurd h
one_of_next root (x ∷ xs) place (Move next) None beside at taker keys h there n m = absurd h
one_of_next root (x ∷ xs) place (Move next) (Some (Set set)) beside at taker keys h there n (inl up) =
    let here = subst (λ k. slice_get (root ∷ x ∷ xs) k ≡ Some taker) h.0 there in
    inr (inl (up ∙ ap (λ (y : Inner). node_next y (Set set)) (sym (some_same root taker here))
    ∙ ap (λ (ks : List Key). node_next taker (Set ks)) (sym h.1)))
one_of_next root (x ∷ xs) place (Move next) (Some (Set set)) beside at taker keys h there n (inr low) =
    high_one root x xs place beside taker keys next at (Some (Set set)) h.0 n low
one_of_next root (x ∷ xs) place (Move next) (Some (Move up)) beside at taker keys h there n m =
    absurd h

-- ---- what goes stands below the root, at another place

behind_at : (s : Beside) (xs : List Inner) (o : Inner) → In o (beside_gone s xs)
    → In o (take 1 xs)
behind_at Stays xs o m = absurd m
behind_at (Comes x) xs o m = absurd m
behind_at (Moves x) xs o m = m
behind_at Goes xs o m = m
behind_at (Under x y) xs o m = absurd m

pub gone_at : (root : Inner) (below : List Inner) (place : ℕ) (b : NodeChange)
    (top : Option NodeChange) (beside : Beside) (at : ℕ) (keys : List Key)
    → TakesAlone below place b top at keys → (o : Inner)
    → In o (gives_way b (take 1 (drop place (bottom root below)))
    ++ (top_gives_way top root ++ beside_gone beside (drop (place + 1) below)))
    → (i : ℕ) × (slice_get below i ≡ Some o) × (suc i ≢ at)
gone_at root [] place (Set set) None beside at keys h o m =
    absurd (nothing_there (place + 1) o (first_behind [] (place + 1) o
    (behind_at beside (drop (place + 1) []) o m)))
gone_at root [] place (Set set) (Some y) beside at keys h o m = absurd h
gone_at root [] place (Move next) top beside at keys h o m = absurd h
gone_at root (x ∷ xs) place (Set set) None beside at keys h o m = (
  place + 1,
  first_behind (x ∷ xs) (place + 1) o (behind_at beside (drop (place + 1) (x ∷ xs)) o m),
  λ e. let a : suc (place + 1) ≡ suc place = e ∙ h.0 in omega (arith, a),
)
gone_at root (x ∷ xs) place (Set set) (Some y) beside at keys h o m = absurd h
gone_at root (x ∷ xs) place (Move next) None beside at keys h o m = absurd h
gone_at root (x ∷ xs) place (Move next) (Some (Set set)) beside at keys h o m =
    elim (in_either o (take 1 (drop place (x ∷ xs)))
    (beside_gone beside (drop (place + 1) (x ∷ xs))) m) [
      | inl low ↦ (
        place,
        first_behind (x ∷ xs) place o low,
        λ e. let a : suc place ≡ 0 = e ∙ h.0 in omega (arith, a),
      )
      | inr next ↦ (
        place + 1,
        first_behind (x ∷ xs) (place + 1) o
            (behind_at beside (drop (place + 1) (x ∷ xs)) o next),
        λ e. let a : suc (place + 1) ≡ 0 = e ∙ h.0 in omega (arith, a),
      )
    ]
gone_at root (x ∷ xs) place (Move next) (Some (Move up)) beside at keys h o m = absurd h

-- ---- there is one alone

alone_same : (below : List Inner) (place : ℕ) (b : NodeChange) (top : Option NodeChange)
    (i j : ℕ) (p q : List Key) → TakesAlone below place b top i p → TakesAlone below place b top j q
    → (i ≡ j) × (p ≡ q)
alone_same [] place (Set set) None i j p q x y = (x.0 ∙ sym y.0, x.1 ∙ sym y.1)
alone_same [] place (Set set) (Some z) i j p q x y = absurd x
alone_same [] place (Move n) top i j p q x y = absurd x
alone_same (m ∷ ms) place (Set set) None i j p q x y = (x.0 ∙ sym y.0, x.1 ∙ sym y.1)
alone_same (m ∷ ms) place (Set set) (Some z) i j p q x y = absurd x
alone_same (m ∷ ms) place (Move n) None i j p q x y = absurd x
alone_same (m ∷ ms) place (Move n) (Some (Set set)) i j p q x y = (x.0 ∙ sym y.0, x.1 ∙ sym y.1)
alone_same (m ∷ ms) place (Move n) (Some (Move up)) i j p q x y = absurd x

at_both : (xs : List Inner) (i j : ℕ) (a b : Inner) → slice_get xs i ≡ Some a
    → slice_get xs j ≡ Some b → i ≡ j → a ≡ b
at_both xs i j a b at there same =
    let both : Some a ≡ Some b = sym at ∙ ap (λ k. slice_get xs k) same ∙ there in cc

pub same_taker : (sp : Spine) (plan : Plan) (i j : ℕ) (a b : Inner) (p q : List Key)
    → IsTaker sp plan i a p → IsTaker sp plan j b q → (a ≡ b) × (p ≡ q)
same_taker sp plan i j a b p q x y =
    let one = alone_same sp.below plan.place plan.bottom plan.top i j p q x.takes y.takes in
    (at_both (sp.root ∷ sp.below) i j a b x.there y.there one.0, one.1)

-- ---- it takes the set that is written

pub takes_set : (sp : Spine) (plan : Plan) (at : ℕ) (taker : Inner) (put : List Key)
    → Fits sp plan → IsTaker sp plan at taker put → TakesSet sp plan taker put
takes_set sp plan at taker put fits take = go sp.below plan.bottom plan.top refl refl refl take.takes
  where
    go : (below : List Inner) (b : NodeChange) (top : Option NodeChange) → sp.below ≡ below
        → plan.bottom ≡ b → plan.top ≡ top → TakesAlone below plan.place b top at put
        → TakesBy sp plan.place plan.bottom plan.top taker put
    go [] (Set set) None below_is b_is top_is h =
        let here = ap (λ (xs : List Inner). slice_get (bottom sp.root xs) plan.place) (sym below_is)
        ∙ fits.there in
        let zero_ = one_there sp.root fits.node plan.place here in
        subst (λ (ch : NodeChange). TakesBy sp plan.place ch plan.top taker put) (sym b_is) (
          ap (λ (xs : List Inner). slice_get (bottom sp.root xs) plan.place) below_is
              ∙ ap (λ k. slice_get (sp.root ∷ []) k) (zero_ ∙ sym h.0)
              ∙ ap (λ (xs : List Inner). slice_get (sp.root ∷ xs) at) (sym below_is) ∙ take.there,
          h.1,
        )
    go [] (Set set) (Some z) below_is b_is top_is h = absurd h
    go [] (Move n) top below_is b_is top_is h = absurd h
    go (m ∷ ms) (Set set) None below_is b_is top_is h =
        subst (λ (ch : NodeChange). TakesBy sp plan.place ch plan.top taker put) (sym b_is) (
          ap (λ (xs : List Inner). slice_get (bottom sp.root xs) plan.place) below_is
              ∙ ap (λ k. slice_get (sp.root ∷ m ∷ ms) k) (sym h.0)
              ∙ ap (λ (xs : List Inner). slice_get (sp.root ∷ xs) at) (sym below_is) ∙ take.there,
          h.1,
        )
    go (m ∷ ms) (Set set) (Some z) below_is b_is top_is h = absurd h
    go (m ∷ ms) (Move n) None below_is b_is top_is h = absurd h
    go (m ∷ ms) (Move n) (Some (Set set)) below_is b_is top_is h =
        subst (λ (ch : NodeChange). TakesBy sp plan.place ch plan.top taker put) (sym b_is)
        (subst (λ (t : Option NodeChange). TakesBy sp plan.place (Move n) t taker put) (sym top_is) (
          at_both (sp.root ∷ sp.below) at 0 taker sp.root take.there refl h.0,
          h.1,
        ))
    go (m ∷ ms) (Move n) (Some (Move up)) below_is b_is top_is h = absurd h

pub same_takes : (sp : Spine) (place : ℕ) (b : NodeChange) (top : Option NodeChange) (m n : Inner)
    (p q : List Key) → TakesBy sp place b top m p → TakesBy sp place b top n q
    → (m ≡ n) × (p ≡ q)
same_takes sp place (Set set) top m n p q x y =
    (at_both (bottom sp.root sp.below) place place m n x.0 y.0 refl, x.1 ∙ sym y.1)
same_takes sp place (Move next) None m n p q x y = absurd x
same_takes sp place (Move next) (Some (Set set)) m n p q x y = (x.0 ∙ sym y.0, x.1 ∙ sym y.1)
same_takes sp place (Move next) (Some (Move up)) m n p q x y = absurd x
