-- The run begins: a bucket is raised, a priority set with its new generation is written, and a new
-- leaf and a new root are.
use Rattle.std.proofs.Common.{◌≡◌, ◌≢◌, inl, inr, ℕ, suc, ◌/◌, ◌<◌, ◌≤◌, Bool, true, false, List, [], ◌∷◌, Option, Some, None, refl, sym, subst, arith, if◌then◌else◌, ◌==◌, ◌&&◌, nat_le}
use Rattle.bc_model.specs.Sector.{Value, at_run}
use Rattle.bc_books.specs.Shelves.{Priorities, Tree, IsPinned, Fresh, Spent}
use Rattle.bc_books.specs.Books.{Raise, unused}
use Rattle.bc_books.specs.Enabled.{CanRaise}
use Rattle.bc_data.specs.Data as flow
use Rattle.bc_data.specs.Enabled.{IsSpare, IsHeard, Calls}
use Rattle.bc_meta.specs.Facts.{In}
use Rattle.bc_meta.specs.Layout.{PrioSet}
use Rattle.bc_meta.specs.Acts.{IsApart, StaysUnused}
use Rattle.bc_meta.specs.Acts as meta
use Rattle.bc_meta.proofs.Lists.{by_test, by_le}
use Rattle.bc_leaves.specs.Parts.{Leaf, InnerNode, Draft, NoNode}
use Rattle.bc_leaves.specs.Enabled.{IsVacant}
use Rattle.bc_leaves_runs.proofs.Example.{all_but, by_slots, dead}
use Rattle.bc_whole.specs.State.{State, Alone, WriteCache, CacheBarrier, Take, OfPriorities, OfLeaf, OfInner, Event, Act}
use Rattle.bc_whole.specs.Run.{IsEnabled, IsRun, after, start}
use Rattle.bc_whole.proofs.Toy.{layout, new_leaf_set, new_root_set}
use Rattle.bc_whole.proofs.Start.{opening, held, setup, off_list}
use Rattle.bc_model.specs.Pattern.{zeros}

abbrev pub new_gens : List ℕ
new_gens = 300 ∷ 300 ∷ 300 ∷ 300 ∷ 300 ∷ 300 ∷ 300 ∷ 301 ∷ 300 ∷ 300 ∷ 300 ∷ []

abbrev pub new_bytes : Value
new_bytes = 44 ∷ 44 ∷ 44 ∷ 44 ∷ 44 ∷ 44 ∷ 44 ∷ 45 ∷ 44 ∷ 44 ∷ 44 ∷ []

abbrev pub new_prio : PrioSet
new_prio = record { next = 0; gens = new_bytes }

abbrev pub prio_values : List Value
prio_values = (0 ∷ 0 ∷ []) ∷ new_bytes ∷ [] ∷ [] ∷ []

abbrev pub new_leaf : Leaf
new_leaf = record {
  first = 0;
  end = 8;
  bucket = 5;
  word = 20;
  role = Draft;
  loaded = false;
  pending = [];
}

abbrev pub new_root : InnerNode
new_root = record {
  first = 0;
  end = 8;
  bucket = 6;
  word = 24;
  height = 0;
  role = Draft;
  loaded =
      false;
}

-- a node's first set, and zeros behind it
abbrev pub with_zeros : Value → List Value
with_zeros v = v ∷ zeros ∷ zeros ∷ zeros ∷ []

abbrev pub leaf_values : List Value
leaf_values = with_zeros (20 ∷ 3 ∷ [])

abbrev pub root_values : List Value
root_values = with_zeros (24 ∷ 4 ∷ [])

-- by seat 1
abbrev pub by_one : List Act → List Event
by_one [] = []
by_one (act ∷ acts) = record { seat = 1; act = act } ∷ by_one acts

abbrev pub building : List Act
building =
    Alone (flow.Shelve (Raise 7)) ∷ Take Priorities 4 ∷ WriteCache
    (OfPriorities 4 0 new_prio) prio_values
    ∷ Take Tree 5 ∷ Take Tree 6 ∷ WriteCache (OfLeaf 1 new_leaf new_leaf_set) leaf_values
    ∷ WriteCache (OfInner 1 new_root new_root_set) root_values ∷ CacheBarrier ∷ []

abbrev pub s0 : State
s0 = start opening held

abbrev pub s1 : State
s1 = after opening s0 1 (Alone (flow.Shelve (Raise 7)))

abbrev pub s2 : State
s2 = after opening s1 1 (Take Priorities 4)

abbrev pub s3 : State
s3 = after opening s2 1 (WriteCache (OfPriorities 4 0 new_prio) prio_values)

abbrev pub s4 : State
s4 = after opening s3 1 (Take Tree 5)

abbrev pub s5 : State
s5 = after opening s4 1 (Take Tree 6)

abbrev pub s6 : State
s6 = after opening s5 1 (WriteCache (OfLeaf 1 new_leaf new_leaf_set) leaf_values)

abbrev pub s7 : State
s7 = after opening s6 1 (WriteCache (OfInner 1 new_root new_root_set) root_values)

abbrev pub s8 : State
s8 = after opening s7 1 CacheBarrier

-- ---- what acts ask for

-- the sectors of a run of one value, and of four
pub at_one : (p : ℕ) (a : Value) (t : ℕ) (v : Value) → at_run p (a ∷ []) t ≡ Some v
    → (P : ℕ → Type 0) → P p → P t
at_one p a t v e P h = by_test p t (λ b. (if b then Some a else None) ≡ Some v → P t)
    (λ is _. subst P is h) (λ _ x. absurd (cc)) e

pub at_four : (p : ℕ) (a b c d : Value) (t : ℕ) (v : Value) → at_run p (a ∷ b ∷ c ∷ d ∷ []) t ≡ Some v
    → (P : ℕ → Type 0) → P p → P (suc p) → P (suc (suc p)) → P (suc (suc (suc p))) → P t
at_four p a b c d t v e P h0 h1 h2 h3 =
    by_test p t (λ z. (if z then Some a else at_run (suc p) (b ∷ c ∷ d ∷ []) t) ≡ Some v → P t)
    (λ is _. subst P is h0)
    (λ _. by_test (suc p) t (λ z. (if z then Some b else at_run (suc (suc p)) (c ∷ d ∷ []) t)
    ≡ Some v → P t) (λ is _. subst P is h1)
    (λ _. by_test (suc (suc p)) t (λ z. (if z then Some c else at_run (suc (suc (suc p)))
    (d ∷ []) t) ≡ Some v → P t) (λ is _. subst P is h2)
    (λ _ x. at_one (suc (suc (suc p))) d t v x P h3))) e

-- no node lies in a bucket, of which the tree and the first slots have none
vacant : (q : ℕ) → 3 ≤ q → q < 8 → all_but (8 ∷ 2 ∷ []) q ≡ true → IsVacant held q
vacant q ge lt unused_is = (
  unused_is,
  by_slots (λ k. (held.leaves k).role ≢ NoNode → (held.leaves k).bucket ≢ q) (λ _ e. absurd
      (omega arith)) (λ n. dead n) (λ n. dead n) (λ n. dead n) (λ k a b c d. simp (a, b, c, d)
      (λ n. dead n)),
  by_slots (λ k. (held.inner_nodes k).role ≢ NoNode → (held.inner_nodes k).bucket ≢ q)
      (λ _ e. absurd (omega arith)) (λ n. dead n) (λ n. dead n) (λ n. dead n) (λ k a b c d. simp
      (a, b, c, d) (λ n. dead n)),
)

-- a bucket of a node, of no chain and none that is kept for one
abbrev is_none : Option ℕ → Bool
is_none None = true
is_none (Some n) = false

abbrev lacks : List ℕ → ℕ → Bool
lacks [] p = true
lacks (q ∷ qs) p = if p == q then false else lacks qs p

abbrev pub are_off : meta.State → List ℕ → Bool
are_off st [] = true
are_off st (p ∷ ps) =
    (nat_le 2 p && nat_le (suc p) 11) &&
    ((is_none (st.chain_of p) && lacks st.spare p) && are_off st ps)

and_left : (a b : Bool) → (a && b) ≡ true → a ≡ true
and_left true b e = refl
and_left false b e = e

and_right : (a b : Bool) → (a && b) ≡ true → b ≡ true
and_right true b e = e
and_right false b e = absurd (cc)

lacks_not : (qs : List ℕ) (p : ℕ) → lacks qs p ≡ true → In p qs → ⊥
lacks_not [] p e i = i
lacks_not (q ∷ qs) p e i = by_test p q (λ t. (if t then false else lacks qs p) ≡ true → ⊥)
    (λ _ x. absurd (cc))
    (λ ne x. elim i [ inl is ↦ ne is | inr r ↦ lacks_not qs p x r ]) e

off_apart : (st : meta.State) (p q : ℕ) → (nat_le 2 p && nat_le (suc p) 11) ≡ true
    → (is_none (st.chain_of p) && lacks st.spare p) ≡ true → IsApart layout st q → q ≢ p
off_apart st p q range off (inl low) e = absurd (omega (arith, low_is))
  where
    low_is : 2 ≤ p
    low_is = by_le 2 p (λ t. t ≡ true → 2 ≤ p) (λ le _. le) (λ _ x. absurd (cc))
        (and_left (nat_le 2 p) (nat_le (suc p) 11) range)
off_apart st p q range off (inr (inl high)) e = absurd (omega (arith, high_is))
  where
    high_is : suc p ≤ 11
    high_is = by_le (suc p) 11 (λ t. t ≡ true → suc p ≤ 11) (λ le _. le) (λ _ x. absurd (cc))
        (and_right (nat_le 2 p) (nat_le (suc p) 11) range)
off_apart st p q range off (inr (inr (inl y))) e =
    not_some (st.chain_of p) y.0 (and_left (is_none (st.chain_of p)) (lacks st.spare p) off)
    (subst (λ (x : ℕ). st.chain_of x ≡ Some y.0) e y.1)
  where
    not_some : (o : Option ℕ) (n : ℕ) → is_none o ≡ true → o ≡ Some n → ⊥
    not_some None n a b = cc
    not_some (Some m) n a b = cc
off_apart st p q range off (inr (inr (inr i))) e =
    lacks_not st.spare p (and_right (is_none (st.chain_of p)) (lacks st.spare p) off)
    (subst (λ (x : ℕ). In x st.spare) e i)

pub stays : (st : meta.State) (ps : List ℕ) → are_off st ps ≡ true → StaysUnused layout st
    (all_but ps)
stays st ps off q h = off_list ps q (no ps off)
  where
    no : (ps : List ℕ) → are_off st ps ≡ true → In q ps → ⊥
    no [] off i = i
    no (p ∷ ps) off (inl e) =
        off_apart st p q (and_left (nat_le 2 p && nat_le (suc p) 11) _ off)
        (and_left (is_none (st.chain_of p) && lacks st.spare p) (are_off st ps)
        (and_right (nat_le 2 p && nat_le (suc p) 11) _ off)) h e
    no (p ∷ ps) off (inr i) =
        no ps (and_right (is_none (st.chain_of p) && lacks st.spare p) (are_off st ps)
        (and_right (nat_le 2 p && nat_le (suc p) 11) _ off)) i

pub not_one : (p q : ℕ) → (p == q) ≡ false → In p (q ∷ []) → ⊥
not_one p q e i = elim i [ inl is ↦ differs p q is e | inr n ↦ n ]
  where
    differs : (x y : ℕ) → x ≡ y → (x == y) ≡ false → ⊥
    differs x y is = by_test x y (λ t. t ≡ false → ⊥) (λ _ h. absurd (cc)) (λ ne _. ne is)

-- a barrier, where so many buckets have nodes
pub barrier : (st : State) (seat : ℕ) (ps : List ℕ) → IsHeard st.flow.halted
    (st.flow.late seat) Calls → st.store.places.records.unused ≡ all_but ps → are_off st.store ps
    ≡ true → IsEnabled opening st seat CacheBarrier
barrier st seat ps heard same off = record {
  together = tt;
  flow = (record { heard = heard; steps = tt; can = tt }, tt);
  store = (
    refl,
    (tt, tt),
    tt,
    (
      refl,
      subst (StaysUnused layout st.store) (sym same)
          (stays st.store ps off),
    ),
    tt,
  );
}

unpinned : (t : ℕ) → t / 4 ≡ 7 → IsPinned (if unused setup (t / 4) then Fresh else Spent) → ⊥
unpinned t is = subst (λ (b : ℕ). IsPinned (if unused setup b then Fresh else Spent) → ⊥) (sym is)
    (λ h. h)

can_raise : CanRaise setup s0.flow.books 7
can_raise = (
  record {
    unpinned = unpinned;
    not_held = ((λ e. cc), λ i h. let e = h.1 in cc);
    free = refl;
    near = omega arith;
  },
  refl,
)

on0 : IsEnabled opening s0 1 (Alone (flow.Shelve (Raise 7)))
on0 = record {
  together = refl;
  flow = (
    record { heard = refl; steps = (can_raise, tt); can = tt },
    tt,
  );
  store = tt;
}

on1 : IsEnabled opening s1 1 (Take Priorities 4)
on1 = record {
  together = λ e. cc;
  flow = (record { heard = refl; steps = (inr (inl refl), tt); can = refl }, tt);
  store = (
    refl,
    (vacant 4 (omega arith) (omega arith) refl, tt),
    (omega arith),
    (refl, refl, (omega arith)),
    tt,
  );
}

on2 : IsEnabled opening s2 1 (WriteCache (OfPriorities 4 0 new_prio) prio_values)
on2 = record {
  together = tt;
  flow = (
    record {
      heard = inl refl;
      steps = tt;
      can = record {
        places = λ t v e. at_four 16 (0 ∷ 0 ∷ []) new_bytes [] [] t v e
            (λ t. IsSpare setup s2.flow.books 1 t)
            (record { fresh = refl; unnamed = refl; apart = inr (Priorities, refl) })
            (record { fresh = refl; unnamed = refl; apart = inr (Priorities, refl) })
            (record { fresh = refl; unnamed = refl; apart = inr (Priorities, refl) })
            (record { fresh = refl; unnamed = refl; apart = inr (Priorities, refl) });
        sendable = tt;
      };
    },
    tt,
  );
  store = (
    refl,
    (vacant 4 (omega arith) (omega arith) refl, tt),
    (
      (omega arith),
      (omega arith),
      (omega arith),
      (omega arith),
    ),
    ((refl, refl), refl),
    tt,
  );
}

on3 : IsEnabled opening s3 1 (Take Tree 5)
on3 = record {
  together = λ e. cc;
  flow = (record { heard = refl; steps = (inr (inl refl), tt); can = refl }, tt);
  store = (
    refl,
    (vacant 5 (omega arith) (omega arith) refl, tt),
    (omega arith),
    (refl, refl, (omega arith)),
    tt,
  );
}

on4 : IsEnabled opening s4 1 (Take Tree 6)
on4 = record {
  together = λ e. cc;
  flow = (record { heard = refl; steps = (inr (inl refl), tt); can = refl }, tt);
  store = (
    refl,
    (vacant 6 (omega arith) (omega arith) refl, tt),
    (omega arith),
    (refl, refl, (omega arith)),
    tt,
  );
}

on5 : IsEnabled opening s5 1 (WriteCache (OfLeaf 1 new_leaf new_leaf_set) leaf_values)
on5 = record {
  together = tt;
  flow = (
    record {
      heard = inl refl;
      steps = tt;
      can = record {
        places = λ t v e. at_four 20 (20 ∷ 3 ∷ []) zeros zeros zeros t v e
            (λ t. IsSpare setup s5.flow.books 1 t)
            (record { fresh = refl; unnamed = refl; apart = inr (Tree, refl) })
            (record { fresh = refl; unnamed = refl; apart = inr (Tree, refl) })
            (record { fresh = refl; unnamed = refl; apart = inr (Tree, refl) })
            (record { fresh = refl; unnamed = refl; apart = inr (Tree, refl) });
        sendable = tt;
      };
    },
    tt,
  );
  store = (
    refl,
    ((refl, vacant 5 (omega arith) (omega arith) refl, refl, refl, λ s out. refl), tt),
    record {
      low = omega arith;
      high = omega arith;
      inside = refl;
      room = omega arith;
      first = record { front = (20 ∷ 3 ∷ []) ∷ []; spelled = refl; values_are = refl };
      unheard = λ at e w. absurd w;
    },
    (refl, refl),
    tt,
  );
}

vacant_6 : IsVacant s6.parts 6
vacant_6 = (
  refl,
  by_slots (λ k. (s6.parts.leaves k).role ≢ NoNode → (s6.parts.leaves k).bucket ≢ 6)
      (λ _ e. absurd (cc)) (λ _ e. absurd (cc)) (λ n. dead n) (λ n. dead n) (λ k a b c d. simp
      (a, b, c, d) (λ n. dead n)),
  by_slots (λ k. (s6.parts.inner_nodes k).role ≢ NoNode → (s6.parts.inner_nodes k).bucket ≢ 6)
      (λ _ e. absurd (cc)) (λ n. dead n) (λ n. dead n) (λ n. dead n) (λ k a b c d. simp (
        a,
        b,
        c,
        d,
      ) (λ n. dead n)),
)

on6 : IsEnabled opening s6 1 (WriteCache (OfInner 1 new_root new_root_set) root_values)
on6 = record {
  together = tt;
  flow = (
    record {
      heard = inl refl;
      steps = tt;
      can = record {
        places = λ t v e. at_four 24 (24 ∷ 4 ∷ []) zeros zeros zeros t v e
            (λ t. IsSpare setup s6.flow.books 1 t)
            (record { fresh = refl; unnamed = refl; apart = inr (Tree, refl) })
            (record { fresh = refl; unnamed = refl; apart = inr (Tree, refl) })
            (record { fresh = refl; unnamed = refl; apart = inr (Tree, refl) })
            (record { fresh = refl; unnamed = refl; apart = inr (Tree, refl) });
        sendable = tt;
      };
    },
    tt,
  );
  store = (
    refl,
    ((refl, vacant_6, refl), tt),
    record {
      low = omega arith;
      high = omega arith;
      inside = refl;
      room = omega arith;
      first = record { front = (24 ∷ 4 ∷ []) ∷ []; spelled = refl; values_are = refl };
      unheard = λ at e w. elim w [
        | inl x ↦ (let x0 = x.0 in absurd (omega arith))
        | inr n ↦ absurd n
      ];
    },
    (refl, refl),
    tt,
  );
}

on7 : IsEnabled opening s7 1 CacheBarrier
on7 = barrier s7 1 (8 ∷ 2 ∷ []) (inl refl) refl refl

pub builds : IsRun opening s0 (by_one building)
builds = (on0, (on1, (on2, (on3, (on4, (on5, (on6, (on7, tt))))))))
