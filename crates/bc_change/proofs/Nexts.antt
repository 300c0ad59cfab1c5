-- Each inner node of the tree after a change is one that comes, or one that stood there before and
-- doesn't go.
use Rattle.std.proofs.Common.{◌≡◌, ◌≢◌, ◌⊎◌, inl, inr, ℕ, zero, suc, ◌+◌, ◌<◌, List, [], ◌∷◌, ◌++◌, length, take, drop, Option, Some, None, refl, sym, subst, ap, ◌∙◌, arith}
use Rattle.std.specs.Prelude.{slice_get, slice_set}
use Rattle.std.specs.List.{insert, remove}
use Rattle.bc_facts.proofs.Stood.{in_behind, in_either, in_front}
use Rattle.bc_inner.specs.Inner.{Inner}
use Rattle.bc_meta.specs.Facts.{In}
use Rattle.bc_meta.proofs.Lists.{decide}
use Rattle.bc_tree.specs.Group.{CanStand}
use Rattle.bc_tree.specs.Next.{below_next, beside_next, node_next, nodes_next, root_next}
use Rattle.bc_tree.specs.Spine.{bottom}
use Rattle.bc_tree.specs.declared.beside.Beside.{Beside}
use Rattle.bc_tree.specs.declared.beside.Beside.TheVariants.{Comes, Goes, Moves, Stays, Under}
use Rattle.bc_tree.specs.declared.change.NodeChange.{NodeChange}
use Rattle.bc_tree.specs.declared.change.NodeChange.TheVariants.{Move, Set}
use Rattle.bc_change.specs.Goes.{beside_come, beside_gone, gives_way, moved, top_gives_way, top_moved}
use Rattle.bc_change.proofs.Lists.{first_behind, get_in, in_get}

-- the same node, whatever its children
pub record SameSite (m n : Inner) : Type 0 where
  pub from : n.from ≡ m.from
  pub end : n.end ≡ m.end
  pub ptr : n.ptr ≡ m.ptr
  pub level : n.level ≡ m.level

site_itself : (n : Inner) → SameSite n n
site_itself n = record { from = refl; end = refl; ptr = refl; level = refl }

-- a node at a place among these, none of which goes
pub record Remains (nodes gone : List Inner) (n : Inner) : Type 0 where
  pub at : ℕ
  pub before : Inner
  pub there : slice_get nodes at ≡ Some before
  pub site : SameSite before n
  pub apart : (o : Inner) → In o gone → (i : ℕ) × (slice_get nodes i ≡ Some o) × (i ≢ at)

-- ---- lists that change at a place

some_same : (a b : Inner) → Some a ≡ Some b → b ≡ a
some_same a b e = cc

pub next_at : (xs : List Inner) (p : ℕ) (c : NodeChange) (j : ℕ) (n : Inner)
    → slice_get (nodes_next xs p c) j ≡ Some n
    → ((j ≡ p) × ((m : Inner) × (slice_get xs p ≡ Some m) × (n ≡ node_next m c)))
    ⊎ ((j ≢ p) × (slice_get xs j ≡ Some n))
next_at [] p c zero n e = absurd (cc)
next_at [] p c (suc j) n e = absurd (cc)
next_at (x ∷ xs) zero c zero n e = inl (refl, (x, refl, some_same (node_next x c) n e))
next_at (x ∷ xs) zero c (suc j) n e = inr (λ same. omega (arith, same), e)
next_at (x ∷ xs) (suc p) c zero n e = inr (λ same. omega (arith, same), e)
next_at (x ∷ xs) (suc p) c (suc j) n e = elim (next_at xs p c j n e) [
  | inl here ↦ (let same = here.0 in inl (omega (arith, same), here.1))
  | inr other ↦ inr (λ same. other.0 (omega (arith, same)), other.1)
]

pub inserted : (xs : List Inner) (k : ℕ) (y n : Inner) → In n (insert xs k y) → (n ≡ y) ⊎ In n xs
inserted xs zero y n m = elim m [ inl here ↦ inl here | inr later ↦ inr later ]
inserted [] (suc k) y n m = elim m [ inl here ↦ inl here | inr later ↦ inr later ]
inserted (x ∷ xs) (suc k) y n (inl here) = inr (inl here)
inserted (x ∷ xs) (suc k) y n (inr later) = elim (inserted xs k y n later) [
  | inl new ↦ inl new
  | inr old ↦ inr (inr old)
]

pub set_in : (xs : List Inner) (k : ℕ) (y n : Inner) → In n (slice_set xs k y)
    → (n ≡ y) ⊎ ((j : ℕ) × (j ≢ k) × (slice_get xs j ≡ Some n))
set_in [] zero y n m = absurd m
set_in [] (suc k) y n m = absurd m
set_in (x ∷ xs) zero y n (inl here) = inl here
set_in (x ∷ xs) zero y n (inr later) = let one = in_get xs n later in
    inr (suc one.0, (λ same. omega (arith, same)), one.1)
set_in (x ∷ xs) (suc k) y n (inl here) = inr (zero, (λ same. omega (arith, same)), ap Some (sym here))
set_in (x ∷ xs) (suc k) y n (inr later) = elim (set_in xs k y n later) [
  | inl new ↦ inl new
  | inr old ↦ inr (suc old.0, (λ same. old.1 (omega (arith, same))), old.2)
]

pub removed : (xs : List Inner) (k : ℕ) (n : Inner) → In n (remove xs k)
    → (j : ℕ) × (j ≢ k) × (slice_get xs j ≡ Some n)
removed [] zero n m = absurd m
removed [] (suc k) n m = absurd m
removed (x ∷ xs) zero n m = let one = in_get xs n m in
    (suc one.0, (λ same. omega (arith, same)), one.1)
removed (x ∷ xs) (suc k) n (inl here) = (zero, (λ same. omega (arith, same)), ap Some (sym here))
removed (x ∷ xs) (suc k) n (inr later) = let one = removed xs k n later in
    (suc one.0, (λ same. one.1 (omega (arith, same))), one.2)

-- ---- below a root that isn't above leaves

module _ (root b : Inner) (bs : List Inner) (place : ℕ) (bottom_change : NodeChange)
    (top : Option NodeChange) (beside : Beside) where
  abbrev below : List Inner
  below = b ∷ bs

  abbrev come : List Inner
  come = moved bottom_change ++ (top_moved top ++ beside_come beside)

  abbrev gone : List Inner
  gone = gives_way bottom_change (take 1 (drop place below))
      ++ (top_gives_way top root ++ beside_gone beside (drop (place + 1) below))

  -- a node of the tree that goes has one of these places
  abbrev Stands : ℕ → Type 0
  Stands at = (o : Inner) → In o gone → (i : ℕ) × (slice_get (root ∷ below) i ≡ Some o) × (i ≢ at)

  stands : (at : ℕ) → ((o : Inner) → In o (gives_way bottom_change (take 1 (drop place below))) → at ≢ suc place)
      → ((o : Inner) → In o (top_gives_way top root) → (o ≡ root) × (at ≢ 0))
      → ((o : Inner) → In o (beside_gone beside (drop (place + 1) below))
      → (slice_get below (place + 1) ≡ Some o) × (at ≢ suc (place + 1))) → Stands at
  stands at low high next o m = elim (in_either o (gives_way bottom_change (take 1 (drop place below)))
      (top_gives_way top root ++ beside_gone beside (drop (place + 1) below)) m) [
        | inl first ↦ (suc place, way bottom_change first, λ same. low o first (sym same))
        | inr more ↦ elim (in_either o (top_gives_way top root)
            (beside_gone beside (drop (place + 1) below)) more) [
              | inl second ↦ (0, ap Some (sym (high o second).0), λ same. (high o second).1 (sym same))
              | inr third ↦ (suc (place + 1), (next o third).0, λ same. (next o third).1 (sym same))
            ]
      ]
    where
      way : (c : NodeChange) → In o (gives_way c (take 1 (drop place below)))
          → slice_get (root ∷ below) (suc place) ≡ Some o
      way (Set keys) k = absurd k
      way (Move next_node) k = first_behind below place o k

  behind : (c : Beside) (o : Inner) → In o (beside_gone c (drop (place + 1) below))
      → slice_get below (place + 1) ≡ Some o
  behind Stays o m = absurd m
  behind (Comes n) o m = absurd m
  behind (Moves n) o m = first_behind below (place + 1) o m
  behind Goes o m = first_behind below (place + 1) o m
  behind (Under l h) o m = absurd m

  root_way : (t : Option NodeChange) (o : Inner) → In o (top_gives_way t root) → o ≡ root
  root_way None o m = absurd m
  root_way (Some (Set keys)) o m = absurd m
  root_way (Some (Move n)) o (inl here) = here
  root_way (Some (Move n)) o (inr later) = absurd later

  -- a node below the root, at a place where none goes
  low_stands : (j : ℕ) → ((o : Inner) → In o (gives_way bottom_change (take 1 (drop place below))) → j ≢ place)
      → ((o : Inner) → In o (beside_gone beside (drop (place + 1) below)) → j ≢ place + 1)
      → Stands (suc j)
  low_stands j low next = stands (suc j) (λ o m same. low o m (omega (arith, same)))
      (λ o m. (root_way top o m, λ same. omega (arith, same)))
      (λ o m. (behind beside o m, λ same. next o m (omega (arith, same))))

  low_next : (j : ℕ) (n : Inner) → slice_get (nodes_next below place bottom_change) j ≡ Some n
      → ((o : Inner) → In o (beside_gone beside (drop (place + 1) below)) → j ≢ place + 1)
      → In n come ⊎ Remains (root ∷ below) gone n
  low_next j n e next = elim (next_at below place bottom_change j n e) [
    | inl here ↦ at_place bottom_change refl here.0 here.1.0 here.1.1 here.1.2
    | inr other ↦ inr (record {
      at = suc j;
      before = n;
      there = other.1;
      site = site_itself n;
      apart = low_stands j (λ o m. other.0) next;
    })
  ]
    where
      at_place : (c : NodeChange) → bottom_change ≡ c → j ≡ place → (m : Inner)
          → slice_get below place ≡ Some m → n ≡ node_next m bottom_change
          → In n come ⊎ Remains (root ∷ below) gone n
      at_place (Set keys) is at m there same =
          let next_is = same ∙ ap (node_next m) is in inr (record {
            at = suc j;
            before = m;
            there = ap (λ k. slice_get below k) at ∙ there;
            site = record {
              from = ap (λ (x : Inner). x.from) next_is;
              end = ap (λ (x : Inner). x.end) next_is;
              ptr = ap (λ (x : Inner). x.ptr) next_is;
              level = ap (λ (x : Inner). x.level) next_is;
            };
            apart = low_stands j
                (λ o k. absurd (subst (λ (x : NodeChange). In o (gives_way x (take 1 (drop place below)))) is k))
                next;
          })
      at_place (Move next_node) is at m there same = inl (in_front n (moved bottom_change)
          (top_moved top ++ beside_come beside)
          (subst (λ (x : NodeChange). In n (moved x)) (sym is) (inl (same ∙ ap (node_next m) is))))

  root_is : (t : Option NodeChange) → top ≡ t → (n : Inner) → n ≡ root_next root below bottom_change top
      → In n come ⊎ Remains (root ∷ below) gone n
  root_is None is n same = let next_is = same ∙ ap (root_next root below bottom_change) is in
      inr (record {
        at = 0;
        before = root;
        there = refl;
        site = record {
          from = ap (λ (x : Inner). x.from) next_is;
          end = ap (λ (x : Inner). x.end) next_is;
          ptr = ap (λ (x : Inner). x.ptr) next_is;
          level = ap (λ (x : Inner). x.level) next_is;
        };
        apart = stands 0 (λ o m at. omega (arith, at))
            (λ o m. absurd (subst (λ (x : Option NodeChange). In o (top_gives_way x root)) is m))
            (λ o m. (behind beside o m, λ at. omega (arith, at)));
      })
  root_is (Some (Set keys)) is n same = let next_is = same ∙ ap (root_next root below bottom_change) is in
      inr (record {
        at = 0;
        before = root;
        there = refl;
        site = record {
          from = ap (λ (x : Inner). x.from) next_is;
          end = ap (λ (x : Inner). x.end) next_is;
          ptr = ap (λ (x : Inner). x.ptr) next_is;
          level = ap (λ (x : Inner). x.level) next_is;
        };
        apart = stands 0 (λ o m at. omega (arith, at))
            (λ o m. absurd (subst (λ (x : Option NodeChange). In o (top_gives_way x root)) is m))
            (λ o m. (behind beside o m, λ at. omega (arith, at)));
      })
  root_is (Some (Move next_node)) is n same = inl (in_behind n (moved bottom_change)
      (top_moved top ++ beside_come beside) (in_front n (top_moved top) (beside_come beside)
      (subst (λ (x : Option NodeChange). In n (top_moved x)) (sym is)
      (inl (same ∙ ap (root_next root below bottom_change) is)))))

  new_beside : (n : Inner) → In n (beside_come beside) → In n come
  new_beside n m = in_behind n (moved bottom_change) (top_moved top ++ beside_come beside)
      (in_behind n (top_moved top) (beside_come beside) m)

  below_is : (s : Beside) → beside ≡ s → (room : ℕ) → CanStand (suc (length bs)) room place s
      → (n : Inner) → In n (beside_next (nodes_next below place bottom_change) place s)
      → In n come ⊎ Remains (root ∷ below) gone n
  below_is Stays is room can n m = let one = in_get (nodes_next below place bottom_change) n m in
      low_next one.0 n one.1
      (λ o at. absurd (subst (λ (x : Beside). In o (beside_gone x (drop (place + 1) below))) is at))
  below_is (Comes node) is room can n m =
      elim (inserted (nodes_next below place bottom_change) (place + 1) node n m) [
        | inl new ↦ inl (new_beside n (subst (λ (x : Beside). In n (beside_come x)) (sym is) (inl new)))
        | inr old ↦ (let one = in_get (nodes_next below place bottom_change) n old in
            low_next one.0 n one.1
            (λ o at. absurd (subst (λ (x : Beside). In o (beside_gone x (drop (place + 1) below))) is at)))
      ]
  below_is (Moves node) is room can n m =
      elim (set_in (nodes_next below place bottom_change) (place + 1) node n m) [
        | inl new ↦ inl (new_beside n (subst (λ (x : Beside). In n (beside_come x)) (sym is) (inl new)))
        | inr old ↦ low_next old.0 n old.2 (λ o at. old.1)
      ]
  below_is Goes is room can n m =
      let one = removed (nodes_next below place bottom_change) (place + 1) n m in
      low_next one.0 n one.2 (λ o at. one.1)
  below_is (Under low high) is room can n m = let none = can.0 in absurd (omega (arith, none))

-- ---- any tree

-- what is to be shown of a tree whose root is above leaves
abbrev LowNext : Inner → ℕ → Option NodeChange → Beside → Inner → NodeChange → Type 0
LowNext root place top beside n c = In n (moved c ++ (top_moved top ++ beside_come beside))
    ⊎ Remains (root ∷ []) (gives_way c (take 1 (drop place (root ∷ [])))
    ++ (top_gives_way top root ++ beside_gone beside (drop (place + 1) []))) n

-- each node of the tree that is made comes, or remains
pub next_is : (root : Inner) (below : List Inner) (place room : ℕ) (bottom_change : NodeChange)
    (top : Option NodeChange) (beside : Beside) → (length below ≡ 0 → top ≡ None)
    → CanStand (length below) room place beside → (n : Inner)
    → In n (root_next root below bottom_change top ∷ below_next below place bottom_change beside)
    → In n (moved bottom_change ++ (top_moved top ++ beside_come beside))
    ⊎ Remains (root ∷ below) (gives_way bottom_change (take 1 (drop place (bottom root below)))
    ++ (top_gives_way top root ++ beside_gone beside (drop (place + 1) below))) n
next_is root (b ∷ bs) place room bottom_change top beside alone can n (inl here) =
    root_is root b bs place bottom_change top beside top refl n here
next_is root (b ∷ bs) place room bottom_change top beside alone can n (inr later) =
    below_is root b bs place bottom_change top beside beside refl room can n later
next_is root [] place room bottom_change top beside alone can n (inl here) = go bottom_change refl
  where
    none_beside : (s : Beside) (o : Inner) → CanStand 0 room place s
        → In o (beside_gone s (drop (place + 1) [])) → ⊥
    none_beside Stays o c m = m
    none_beside (Comes x) o c m = m
    none_beside (Moves x) o c m = omega (arith, c)
    none_beside Goes o c m = omega (arith, c)
    none_beside (Under x y) o c m = m

    go : (c : NodeChange) → bottom_change ≡ c → LowNext root place top beside n bottom_change
    go (Set keys) is = subst (LowNext root place top beside n) (sym is) (let next_is = here ∙ ap (node_next root) is in inr (record {
      at = 0;
      before = root;
      there = refl;
      site = record {
        from = ap (λ (x : Inner). x.from) next_is;
        end = ap (λ (x : Inner). x.end) next_is;
        ptr = ap (λ (x : Inner). x.ptr) next_is;
        level = ap (λ (x : Inner). x.level) next_is;
      };
      apart = λ o m. absurd (elim (in_either o (top_gives_way top root)
          (beside_gone beside (drop (place + 1) [])) m) [
            | inl up ↦ subst (λ (t : Option NodeChange). In o (top_gives_way t root)) (alone refl) up
            | inr next ↦ none_beside beside o can next
          ]);
    }))
    go (Move next) is = subst (LowNext root place top beside n) (sym is) (inl (inl (here ∙ ap (node_next root) is)))
next_is root [] place room bottom_change top beside alone can n (inr later) = go beside refl later
  where
    go : (s : Beside) → beside ≡ s → In n (beside_next [] place s)
        → LowNext root place top beside n bottom_change
    go Stays is m = absurd m
    go (Comes x) is m = (let c = subst (CanStand 0 room place) is can in
        let low = c.0 in absurd (omega (arith, low)))
    go (Moves x) is m = (let c = subst (CanStand 0 room place) is can in absurd (omega (arith, c)))
    go Goes is m = (let c = subst (CanStand 0 room place) is can in absurd (omega (arith, c)))
    go (Under x y) is m = inl (in_behind n (moved bottom_change) (top_moved top ++ beside_come beside)
        (in_behind n (top_moved top) (beside_come beside)
        (subst (λ (z : Beside). In n (beside_come z)) (sym is) m)))

-- ---- what comes is in the tree

in_inserted : (xs : List Inner) (k : ℕ) (y : Inner) → In y (insert xs k y)
in_inserted xs zero y = inl refl
in_inserted [] (suc k) y = inl refl
in_inserted (x ∷ xs) (suc k) y = inr (in_inserted xs k y)

stays_inserted : (xs : List Inner) (k : ℕ) (y n : Inner) → In n xs → In n (insert xs k y)
stays_inserted xs zero y n m = inr m
stays_inserted [] (suc k) y n m = absurd m
stays_inserted (x ∷ xs) (suc k) y n (inl here) = inl here
stays_inserted (x ∷ xs) (suc k) y n (inr later) = inr (stays_inserted xs k y n later)

in_set : (xs : List Inner) (k : ℕ) (y : Inner) → k < length xs → In y (slice_set xs k y)
in_set [] k y lt = absurd (omega (arith, lt))
in_set (x ∷ xs) zero y lt = inl refl
in_set (x ∷ xs) (suc k) y lt = inr (in_set xs k y (omega (arith, lt)))

stays_set : (xs : List Inner) (k j : ℕ) (y n : Inner) → slice_get xs j ≡ Some n → j ≢ k
    → In n (slice_set xs k y)
stays_set [] k zero y n e other = absurd (cc)
stays_set [] k (suc j) y n e other = absurd (cc)
stays_set (x ∷ xs) zero zero y n e other = absurd (other refl)
stays_set (x ∷ xs) zero (suc j) y n e other = inr (get_in xs j n e)
stays_set (x ∷ xs) (suc k) zero y n e other = inl (some_same x n e)
stays_set (x ∷ xs) (suc k) (suc j) y n e other =
    inr (stays_set xs k j y n e (λ same. other (omega (arith, same))))

stays_removed : (xs : List Inner) (k j : ℕ) (n : Inner) → slice_get xs j ≡ Some n → j ≢ k
    → In n (remove xs k)
stays_removed [] k zero n e other = absurd (cc)
stays_removed [] k (suc j) n e other = absurd (cc)
stays_removed (x ∷ xs) zero zero n e other = absurd (other refl)
stays_removed (x ∷ xs) zero (suc j) n e other = get_in xs j n e
stays_removed (x ∷ xs) (suc k) zero n e other = inl (some_same x n e)
stays_removed (x ∷ xs) (suc k) (suc j) n e other =
    inr (stays_removed xs k j n e (λ same. other (omega (arith, same))))

moved_there : (xs : List Inner) (p : ℕ) (m next : Inner) → slice_get xs p ≡ Some m
    → slice_get (nodes_next xs p (Move next)) p ≡ Some next
moved_there [] zero m next e = absurd (cc)
moved_there [] (suc p) m next e = absurd (cc)
moved_there (x ∷ xs) zero m next e = refl
moved_there (x ∷ xs) (suc p) m next e = moved_there xs p m next e

pub same_long : (xs : List Inner) (p : ℕ) (c : NodeChange) → length (nodes_next xs p c) ≡ length xs
same_long [] p c = refl
same_long (x ∷ xs) zero c = refl
same_long (x ∷ xs) (suc p) c = ap suc (same_long xs p c)

moved_is : (c : NodeChange) (n : Inner) → In n (moved c) → c ≡ Move n
moved_is (Set keys) n m = absurd m
moved_is (Move next) n (inl here) = ap Move (sym here)
moved_is (Move next) n (inr later) = absurd later

top_is : (t : Option NodeChange) (n : Inner) → In n (top_moved t) → t ≡ Some (Move n)
top_is None n m = absurd m
top_is (Some change) n m = ap Some (moved_is change n m)

-- the node at a place stays there, whatever becomes of the one behind it
pub at_place_stays : (xs : List Inner) (p room : ℕ) (s : Beside) (n : Inner) → 0 < length xs
    → CanStand (length xs) room p s → slice_get xs p ≡ Some n → In n (beside_next xs p s)
at_place_stays xs p room Stays n some can e = get_in xs p n e
at_place_stays xs p room (Comes node) n some can e =
    stays_inserted xs (p + 1) node n (get_in xs p n e)
at_place_stays xs p room (Moves node) n some can e =
    stays_set xs (p + 1) p node n e (λ same. omega (arith, same))
at_place_stays xs p room Goes n some can e =
    stays_removed xs (p + 1) p n e (λ same. omega (arith, same))
at_place_stays xs p room (Under low high) n some can e =
    let none = can.0 in absurd (omega (arith, none, some))

beside_there : (xs : List Inner) (p room : ℕ) (s : Beside) (n : Inner)
    → CanStand (length xs) room p s → In n (beside_come s) → In n (beside_next xs p s)
beside_there xs p room Stays n can m = absurd m
beside_there xs p room (Comes node) n can (inl here) =
    subst (λ (x : Inner). In x (insert xs (p + 1) node)) (sym here) (in_inserted xs (p + 1) node)
beside_there xs p room (Comes node) n can (inr later) = absurd later
beside_there xs p room (Moves node) n can (inl here) =
    subst (λ (x : Inner). In x (slice_set xs (p + 1) node)) (sym here) (in_set xs (p + 1) node can)
beside_there xs p room (Moves node) n can (inr later) = absurd later
beside_there xs p room Goes n can m = absurd m
beside_there xs p room (Under low high) n can m = m

pub new_in : (root : Inner) (below : List Inner) (place room : ℕ) (bottom_change : NodeChange)
    (top : Option NodeChange) (beside : Beside) (node : Inner)
    → slice_get (bottom root below) place ≡ Some node → (length below ≡ 0 → top ≡ None)
    → CanStand (length below) room place beside → (n : Inner)
    → In n (moved bottom_change ++ (top_moved top ++ beside_come beside))
    → In n (root_next root below bottom_change top ∷ below_next below place bottom_change beside)
new_in root [] place room bottom_change top beside node there alone can n m =
    elim (in_either n (moved bottom_change) (top_moved top ++ beside_come beside) m) [
      | inl low ↦ inl (sym (ap (node_next root) (moved_is bottom_change n low)))
      | inr more ↦ elim (in_either n (top_moved top) (beside_come beside) more) [
        | inl up ↦ absurd (subst (λ (t : Option NodeChange). In n (top_moved t)) (alone refl) up)
        | inr next ↦ inr (beside_there [] place room beside n can next)
      ]
    ]
new_in root (b ∷ bs) place room bottom_change top beside node there alone can n m =
    elim (in_either n (moved bottom_change) (top_moved top ++ beside_come beside) m) [
      | inl low ↦ inr (at_place_stays (nodes_next (b ∷ bs) place bottom_change) place room beside n
          (let long = same_long (b ∷ bs) place bottom_change in omega (arith, long)) stand
          (subst (λ (c : NodeChange). slice_get (nodes_next (b ∷ bs) place c) place ≡ Some n)
          (sym (moved_is bottom_change n low)) (moved_there (b ∷ bs) place node n there)))
      | inr more ↦ elim (in_either n (top_moved top) (beside_come beside) more) [
        | inl up ↦ inl (sym (ap (root_next root (b ∷ bs) bottom_change) (top_is top n up)))
        | inr next ↦ inr (beside_there (nodes_next (b ∷ bs) place bottom_change) place room beside n stand next)
      ]
    ]
  where
    stand : CanStand (length (nodes_next (b ∷ bs) place bottom_change)) room place beside
    stand = subst (λ k. CanStand k room place beside)
        (sym (same_long (b ∷ bs) place bottom_change)) can

-- ---- what goes is in the tree before

one_of : {A : Type 0} (xs : List A) (k : ℕ) (x : A) → In x (take 1 (drop k xs)) → In x xs
one_of xs k x m = get_in xs k x (first_behind xs k x m)

in_bottom : (root : Inner) (below : List Inner) (n : Inner) → In n (bottom root below)
    → In n (root ∷ below)
in_bottom root [] n m = m
in_bottom root (b ∷ bs) n m = inr m

way_in : (c : NodeChange) (xs : List Inner) (n : Inner) → In n (gives_way c xs) → In n xs
way_in (Set keys) xs n m = absurd m
way_in (Move next) xs n m = m

top_in : (t : Option NodeChange) (root n : Inner) → In n (top_gives_way t root) → n ≡ root
top_in None root n m = absurd m
top_in (Some change) root n m = elim (way_in change (root ∷ []) n m) [
  | inl here ↦ here
  | inr later ↦ absurd later
]

behind_in : (s : Beside) (xs : List Inner) (n : Inner) → In n (beside_gone s xs) → In n (take 1 xs)
behind_in Stays xs n m = absurd m
behind_in (Comes x) xs n m = absurd m
behind_in (Moves x) xs n m = m
behind_in Goes xs n m = m
behind_in (Under x y) xs n m = absurd m

pub old_in : (root : Inner) (below : List Inner) (place : ℕ) (bottom_change : NodeChange)
    (top : Option NodeChange) (beside : Beside) (n : Inner)
    → In n (gives_way bottom_change (take 1 (drop place (bottom root below)))
    ++ (top_gives_way top root ++ beside_gone beside (drop (place + 1) below)))
    → In n (root ∷ below)
old_in root below place bottom_change top beside n m =
    elim (in_either n (gives_way bottom_change (take 1 (drop place (bottom root below))))
    (top_gives_way top root ++ beside_gone beside (drop (place + 1) below)) m) [
      | inl low ↦ in_bottom root below n (one_of (bottom root below) place n
          (way_in bottom_change (take 1 (drop place (bottom root below))) n low))
      | inr more ↦ elim (in_either n (top_gives_way top root)
          (beside_gone beside (drop (place + 1) below)) more) [
            | inl up ↦ inl (top_in top root n up)
            | inr next ↦ inr (one_of below (place + 1) n
                (behind_in beside (drop (place + 1) below) n next))
          ]
    ]

-- ---- what stays as it is

abbrev pub IsSet : NodeChange → Type 0
IsSet (Set keys) = Unit {0}
IsSet (Move next) = ⊥

abbrev pub IsTopSet : Option NodeChange → Type 0
IsTopSet None = ⊥
IsTopSet (Some change) = IsSet change

-- The node at a place takes a set: the one above leaves, or the root.
abbrev pub TakesAt : List Inner → ℕ → NodeChange → Option NodeChange → ℕ → Type 0
TakesAt [] place bottom_change top at = IsSet bottom_change
TakesAt (b ∷ bs) place bottom_change top at =
    (IsSet bottom_change × (at ≡ suc place)) ⊎ (IsTopSet top × (at ≡ 0))

first_at : {A : Type 0} (xs : List A) (n : ℕ) (x : A) → slice_get xs n ≡ Some x
    → In x (take 1 (drop n xs))
first_at [] zero x e = absurd (cc)
first_at [] (suc n) x e = absurd (cc)
first_at (y ∷ ys) zero x e = inl (is y x e)
  where
    is : {A : Type 0} (a b : A) → Some a ≡ Some b → b ≡ a
    is a b same = cc
first_at (y ∷ ys) (suc n) x e = first_at ys n x e

-- a node at another place stays
other_next : (xs : List Inner) (p : ℕ) (c : NodeChange) (j : ℕ) (n : Inner) → j ≢ p
    → slice_get xs j ≡ Some n → slice_get (nodes_next xs p c) j ≡ Some n
other_next [] p c j n other e = e
other_next (x ∷ xs) zero c zero n other e = absurd (other refl)
other_next (x ∷ xs) zero c (suc j) n other e = e
other_next (x ∷ xs) (suc p) c zero n other e = e
other_next (x ∷ xs) (suc p) c (suc j) n other e =
    other_next xs p c j n (λ same. other (omega (arith, same))) e

set_or_move : (c : NodeChange) → IsSet c ⊎ ((next : Inner) × (c ≡ Move next))
set_or_move (Set keys) = inl tt
set_or_move (Move next) = inr (next, refl)

-- Of the tree before, a node that doesn't go and takes no set is in the tree that is made.
module _ (root b : Inner) (bs : List Inner) (place room : ℕ) (bottom_change : NodeChange)
    (top : Option NodeChange) (beside : Beside)
    (can : CanStand (suc (length bs)) room place beside) where
  abbrev HighNext : Inner → Type 0
  HighNext n = In n (root_next root (b ∷ bs) bottom_change top
      ∷ below_next (b ∷ bs) place bottom_change beside)

  abbrev HighGone : List Inner
  HighGone = gives_way bottom_change (take 1 (drop place (b ∷ bs)))
      ++ (top_gives_way top root ++ beside_gone beside (drop (place + 1) (b ∷ bs)))

  top_goes : (up : Inner) → top ≡ Some (Move up) → In root HighGone
  top_goes up is = in_behind root (gives_way bottom_change (take 1 (drop place (b ∷ bs))))
      (top_gives_way top root ++ beside_gone beside (drop (place + 1) (b ∷ bs)))
      (in_front root (top_gives_way top root) (beside_gone beside (drop (place + 1) (b ∷ bs)))
      (subst (λ (t : Option NodeChange). In root (top_gives_way t root)) (sym is) (inl refl)))

  bottom_goes : (n next : Inner) → slice_get (b ∷ bs) place ≡ Some n → bottom_change ≡ Move next
      → In n HighGone
  bottom_goes n next e is = in_front n (gives_way bottom_change (take 1 (drop place (b ∷ bs))))
      (top_gives_way top root ++ beside_gone beside (drop (place + 1) (b ∷ bs)))
      (subst (λ (c : NodeChange). In n (gives_way c (take 1 (drop place (b ∷ bs))))) (sym is)
      (first_at (b ∷ bs) place n e))

  next_goes : (n : Inner) → In n (beside_gone beside (drop (place + 1) (b ∷ bs))) → In n HighGone
  next_goes n m = in_behind n (gives_way bottom_change (take 1 (drop place (b ∷ bs))))
      (top_gives_way top root ++ beside_gone beside (drop (place + 1) (b ∷ bs)))
      (in_behind n (top_gives_way top root) (beside_gone beside (drop (place + 1) (b ∷ bs))) m)

  root_kept : (t : Option NodeChange) → top ≡ t → (In root HighGone → ⊥)
      → HighNext root ⊎ TakesAt (b ∷ bs) place bottom_change top 0
  root_kept None is stays = inl (inl (sym (ap (root_next root (b ∷ bs) bottom_change) is)))
  root_kept (Some (Set keys)) is stays =
      inr (inr (subst IsTopSet (sym is) tt, refl))
  root_kept (Some (Move up)) is stays = absurd (stays (top_goes up is))

  -- below the root
  low_kept : (s : Beside) → beside ≡ s → (j : ℕ) (n : Inner)
      → slice_get (nodes_next (b ∷ bs) place bottom_change) j ≡ Some n
      → slice_get (b ∷ bs) j ≡ Some n → (In n HighGone → ⊥)
      → In n (beside_next (nodes_next (b ∷ bs) place bottom_change) place s)
  low_kept Stays is j n e old stays = get_in (nodes_next (b ∷ bs) place bottom_change) j n e
  low_kept (Comes node) is j n e old stays =
      stays_inserted (nodes_next (b ∷ bs) place bottom_change) (place + 1) node n
      (get_in (nodes_next (b ∷ bs) place bottom_change) j n e)
  low_kept (Moves node) is j n e old stays =
      stays_set (nodes_next (b ∷ bs) place bottom_change) (place + 1) j node n e
      (λ same. stays (next_goes n
      (subst (λ (x : Beside). In n (beside_gone x (drop (place + 1) (b ∷ bs)))) (sym is)
      (first_at (b ∷ bs) (place + 1) n
      (subst (λ k. slice_get (b ∷ bs) k ≡ Some n) same old)))))
  low_kept Goes is j n e old stays =
      stays_removed (nodes_next (b ∷ bs) place bottom_change) (place + 1) j n e
      (λ same. stays (next_goes n
      (subst (λ (x : Beside). In n (beside_gone x (drop (place + 1) (b ∷ bs)))) (sym is)
      (first_at (b ∷ bs) (place + 1) n
      (subst (λ k. slice_get (b ∷ bs) k ≡ Some n) same old)))))
  low_kept (Under low high) is j n e old stays =
      let c = subst (CanStand (suc (length bs)) room place) is can in
      let none = c.0 in absurd (omega (arith, none))

  below_kept : (j : ℕ) (n : Inner) → slice_get (b ∷ bs) j ≡ Some n → (In n HighGone → ⊥)
      → HighNext n ⊎ TakesAt (b ∷ bs) place bottom_change top (suc j)
  below_kept j n e stays = elim (decide j place) [
    | inr other ↦ inl (inr (low_kept beside refl j n
        (other_next (b ∷ bs) place bottom_change j n other e) e stays))
    | inl same ↦ elim (set_or_move bottom_change) [
      | inl set ↦ inr (inl (set, ap suc same))
      | inr moves ↦ absurd (stays (bottom_goes n moves.0
          (subst (λ k. slice_get (b ∷ bs) k ≡ Some n) same e) moves.1))
    ]
  ]

pub kept_next : (root : Inner) (below : List Inner) (place room : ℕ) (bottom_change : NodeChange)
    (top : Option NodeChange) (beside : Beside) (node : Inner)
    → slice_get (bottom root below) place ≡ Some node → CanStand (length below) room place beside
    → (j : ℕ) (n : Inner) → slice_get (root ∷ below) j ≡ Some n
    → (In n (gives_way bottom_change (take 1 (drop place (bottom root below)))
    ++ (top_gives_way top root ++ beside_gone beside (drop (place + 1) below))) → ⊥)
    → In n (root_next root below bottom_change top ∷ below_next below place bottom_change beside)
    ⊎ TakesAt below place bottom_change top j
kept_next root (b ∷ bs) place room bottom_change top beside node there can zero n e stays =
    subst (λ (x : Inner). (In x (HighGone root b bs place room bottom_change top beside can) → ⊥)
    → HighNext root b bs place room bottom_change top beside can x
    ⊎ TakesAt (b ∷ bs) place bottom_change top 0) (sym (some_same root n e))
    (root_kept root b bs place room bottom_change top beside can top refl) stays
kept_next root (b ∷ bs) place room bottom_change top beside node there can (suc j) n e stays =
    below_kept root b bs place room bottom_change top beside can j n e stays
kept_next root [] place room bottom_change top beside node there can (suc zero) n e stays = absurd (cc)
kept_next root [] place room bottom_change top beside node there can (suc (suc j)) n e stays = absurd (cc)
kept_next root [] place room bottom_change top beside node there can zero n e stays =
    elim (set_or_move bottom_change) [
      | inl set ↦ inr set
      | inr moves ↦ absurd (stays (in_front n (gives_way bottom_change (take 1 (drop place (root ∷ []))))
          (top_gives_way top root ++ beside_gone beside (drop (place + 1) []))
          (subst (λ (c : NodeChange). In n (gives_way c (take 1 (drop place (root ∷ [])))))
          (sym moves.1) (first_at (root ∷ []) place n (at place there)))))
    ]
  where
    at : (p : ℕ) → slice_get (root ∷ []) p ≡ Some node → slice_get (root ∷ []) p ≡ Some n
    at zero f = e
    at (suc zero) f = absurd (cc)
    at (suc (suc p)) f = absurd (cc)
