-- The leaf in memory, once keys came in.
use Rattle.std.proofs.Common.{◌≡◌, ◌≢◌, inl, inr, ℕ, ◌<◌, ◌≤◌, List, [], ◌∷◌, ◌++◌, Option, Some, None, refl, sym, ap, ◌∙◌, subst, arith}
use Rattle.std.specs.Prelude.{reverse}
use Rattle.std.proofs.lemmas.List.{append_assoc, reverse-append}
use Rattle.bc_begun.proofs.Said.{keys_say, pending_say}
use Rattle.bc_facts.proofs.Stood.{in_either}
use Rattle.bc_key.specs.declared.key.Key.{Key}
use Rattle.bc_key.specs.declared.ptr.Ptr.{Ptr}
use Rattle.bc_leaves.specs.Keys.{last_said, ref_said}
use Rattle.bc_leaves.specs.Parts.{AllFrom, AllUpTo, Pending, keys_of}
use Rattle.bc_leaves.proofs.Said.{last_append, or_else, or_said}
use Rattle.bc_begun.specs.bc_machine.Containers.{AreEntriesOf, HasLists, IsLeafFor, IsTreeLeaf}
use Rattle.bc_meta.specs.Facts.{In}
use Rattle.bc_meta.specs.Tree.{set_keys}
use Rattle.bc_node.specs.Leaf as node
use Rattle.bc_node.specs.Leaf.{noted, noted_for}
use Rattle.bc_node.specs.declared.pending.Entries.{Entries}
use Rattle.bc_shares.specs.Shares.{LeafShare, shape_of}
use Rattle.bc_whole.specs.State.{Opening}
use Rattle.bc_keyed.specs.Came.{LawLeaf, WereAdded, pending_as, with_keys}

-- ---- what waits

number_is : (n : ℕ) (ks : List Key) (z : Pending) → In z (pending_as n ks) → z.number ≡ n
number_is n [] z i = absurd i
number_is n (k ∷ ks) z (inl e) = ap (λ (p : Pending). p.number) e
number_is n (k ∷ ks) z (inr i) = number_is n ks z i

keys_are : (n : ℕ) (ks : List Key) (xs : List Pending)
    → keys_of (pending_as n ks ++ xs) ≡ ks ++ keys_of xs
keys_are n [] xs = refl
keys_are n (k ∷ ks) xs = ap (λ (l : List Key). k ∷ l) (keys_are n ks xs)

some_pending : (n : ℕ) (ks : List Key) (k : Key) (xs : List Pending)
    → (pending_as n (ks ++ k ∷ []) ++ xs) ≢ []
some_pending n [] k xs none = absurd (cc)
some_pending n (l ∷ ks) k xs none = absurd (cc)

some_left : (n : ℕ) (k : Key) (ks : List Key) (xs : List Pending)
    → (pending_as n (reverse (k ∷ ks)) ++ xs) ≢ []
some_left n k ks xs = subst (λ (l : List Key). (pending_as n l ++ xs) ≢ [])
    (sym (reverse-append (k ∷ []) ks)) (some_pending n (reverse ks) k xs)

-- the first of the entries isn't above the number of what waits
first_low : (n : ℕ) (e : Entries) (xs : List Pending) → AreEntriesOf (Some e) xs → AllUpTo n xs
    → e.first ≤ n
first_low n e [] are up = absurd (are.0 refl)
first_low n e (x ∷ xs) are up =
    let from = are.1 x (inl refl) in
    let to = up x (inl refl) in
    omega (arith, from, to)

module _ (n : ℕ) (ks : List Key) (xs : List Pending) (up : AllUpTo n xs) where
  all_up : AllUpTo n (pending_as n ks ++ xs)
  all_up z i = elim (in_either z (pending_as n ks) xs i) [
    | inl new ↦ (let is = number_is n ks z new in omega (arith, is))
    | inr old ↦ up z old
  ]

  all_from : (low : ℕ) → low ≤ n → AllFrom low xs → AllFrom low (pending_as n ks ++ xs)
  all_from low least from z i = elim (in_either z (pending_as n ks) xs i) [
    | inl new ↦ (let is = number_is n ks z new in omega (arith, least, is))
    | inr old ↦ from z old
  ]

entries_are : (n : ℕ) (keys : List Key) (o : Option Entries) (xs : List Pending)
    → AreEntriesOf o xs → AllUpTo n xs
    → AreEntriesOf (noted_for keys n o) (pending_as n (reverse keys) ++ xs)
entries_are n [] o xs are up = are
entries_are n (k ∷ ks) None xs are up = (
  some_left n k ks xs,
  all_from n (reverse (k ∷ ks)) xs up n (omega arith) (subst (AllFrom n) (sym are) (λ z i. absurd i)),
  all_up n (reverse (k ∷ ks)) xs up,
)
entries_are n (k ∷ ks) (Some e) xs are up = (
  some_left n k ks xs,
  all_from n (reverse (k ∷ ks)) xs up e.first (first_low n e xs are up) are.1,
  all_up n (reverse (k ∷ ks)) xs up,
)

-- ---- the leaf

module _ (w : Opening) (x : LeafShare) (n : ℕ) (keys : List Key) (old new : node.Leaf)
    (h : IsLeafFor w x old) (up : AllUpTo n x.leaf.pending) (is : WereAdded keys n old new) where
  abbrev lists : HasLists old
  lists = h.lists

  at : IsTreeLeaf w new.from new.end new.ptr (shape_of x.leaf)
  at = subst (λ a. IsTreeLeaf w a new.end new.ptr (shape_of x.leaf)) (sym is.same.from)
      (subst (λ b. IsTreeLeaf w old.from b new.ptr (shape_of x.leaf)) (sym is.same.end)
      (subst (λ (q : Ptr). IsTreeLeaf w old.from old.end q (shape_of x.leaf)) (sym is.same.ptr)
      h.at))

  -- what the new keys say, or else the ones that were there
  over : (a b : List Key) (s : ℕ) → last_said (reverse (a ++ b)) s
      ≡ or_else (last_said (reverse b) s) (last_said (reverse a) s)
  over a b s = ap (λ (l : List Key). last_said l s) (reverse-append a b)
      ∙ last_append (reverse b) (reverse a) s

  abbrev waiting : List Pending
  waiting = pending_as n (reverse keys) ++ x.leaf.pending

  behind : (sets : List Key) (s : ℕ) → last_said (keys_of waiting ++ sets) s
      ≡ or_else (last_said (reverse keys) s) (last_said (keys_of x.leaf.pending ++ sets) s)
  behind sets s = ap (λ (l : List Key). last_said (l ++ sets) s)
      (keys_are n (reverse keys) x.leaf.pending)
      ∙ ap (λ (l : List Key). last_said l s)
      (append_assoc (reverse keys) (keys_of x.leaf.pending) sets)
      ∙ last_append (reverse keys) (keys_of x.leaf.pending ++ sets) s

  keys_say_so : (s : ℕ) → new.from ≤ s → s < new.end → ref_said (last_said new.keys s)
      ≡ ref_said (last_said (keys_of waiting ++ set_keys x.node.sets) s)
  keys_say_so s low high =
      let put = is.put lists.list lists.last in
      let from = is.same.from in
      let end = is.same.end in
      let was = sym (keys_say lists.list old.keys s lists.last.order lists.last.shown)
      ∙ h.keys s (omega (arith, low, from)) (omega (arith, high, end)) in
      keys_say (lists.list ++ keys) new.keys s put.order put.shown
      ∙ ap ref_said (over lists.list keys s)
      ∙ or_said (last_said (reverse keys) s) (last_said (reverse lists.list) s)
      (last_said (keys_of x.leaf.pending ++ set_keys x.node.sets) s) was
      ∙ sym (ap ref_said (behind (set_keys x.node.sets) s))

  pending_says_so : (s : ℕ) → last_said new.pending s ≡ last_said (keys_of waiting) s
  pending_says_so s =
      let added = is.added lists.added lists.last_added in
      let was = sym (pending_say lists.added old.pending s lists.last_added.order
      lists.last_added.shown) ∙ h.pending s in
      pending_say (lists.added ++ keys) new.pending s added.order added.shown
      ∙ over lists.added keys s
      ∙ ap (or_else (last_said (reverse keys) s)) was
      ∙ sym (last_append (reverse keys) (keys_of x.leaf.pending) s)
      ∙ sym (ap (λ (l : List Key). last_said l s) (keys_are n (reverse keys) x.leaf.pending))

  pub leaf_is : IsLeafFor w (record x { leaf = with_keys n (reverse keys) x.leaf }) new
  leaf_is = record {
    at = at;
    loaded = λ on. is.same.loaded ∙ h.loaded on;
    own = λ off. let had = h.own (sym is.same.loaded ∙ off) in record {
      number = λ e i. had.number e i ∙ sym is.same.seq;
      taken_is = is.same.taken ∙ had.taken_is;
    };
    whole = λ off. h.whole (sym is.same.loaded ∙ off);
    keys = keys_say_so;
    pending = pending_says_so;
    entries = subst (λ (o : Option Entries). AreEntriesOf o waiting) (sym is.entries)
        (entries_are n keys old.entries x.leaf.pending h.entries up);
    lists = record {
      list = lists.list ++ keys;
      last = is.put lists.list lists.last;
      added = lists.added ++ keys;
      last_added = is.added lists.added lists.last_added;
    };
  }

pub law_leaf : LawLeaf
law_leaf w x number keys old new h up is = leaf_is w x number keys old new h up is
