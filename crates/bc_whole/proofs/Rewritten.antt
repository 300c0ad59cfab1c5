-- The example's run, up to the further set, goes on: a draft is given up, and the leaf is rewritten
-- under its parent.
use Rattle.std.proofs.Common.{◌≡◌, ◌≢◌, ◌⊎◌, inl, inr, ℕ, ◌<◌, Bool, true, false, List, [], ◌∷◌, None, refl, sym, subst, arith, if◌then◌else◌, ◌==◌}
use Rattle.bc_books.specs.Shelves.{Tree, Held}
use Rattle.bc_books.specs.Books.{MakeNode, Regroup, DropNode}
use Rattle.bc_data.specs.Enabled.{IsSpare}
use Rattle.bc_meta.specs.Facts.{In}
use Rattle.bc_meta.specs.Tree.{NodeSet, set_keys, children_of}
use Rattle.bc_meta.specs.Records.{Nothing}
use Rattle.bc_meta.specs.Places.{Wrote}
use Rattle.bc_meta.specs.Acts.{MayKeep}
use Rattle.bc_meta.proofs.Lists.{by_test}
use Rattle.bc_leaves.specs.Parts.{Leaf, NoNode, Draft, Free, Leaving, Stays, AllUpTo, InRange, node_of, inner_node_of, keys_in_leaf}
use Rattle.bc_leaves.specs.Rows.{Fills}
use Rattle.bc_leaves.specs.Keys.{last_said, ref_said}
use Rattle.bc_leaves.specs.Enabled.{IsVacant, CanBegin, CanSetParent, CanInstall, IsStable}
use Rattle.bc_leaves.proofs.Pend.{front_miss}
use Rattle.bc_leaves.proofs.Said.{spoken_range}
use Rattle.bc_leaves_runs.proofs.Example.{all_but, by_slots, dead, fewer_by, listed_or, not_in}
use Rattle.bc_whole.specs.State.{State, WriteCache, CacheBarrier, BeginBucket, Take, LetGo, KeepSpare, BeginChange, Install, ForgetDrafts, OfLeaf, OfParent, Act}
use Rattle.bc_whole.specs.Together.{AreHeldFor}
use Rattle.bc_whole.specs.Run.{IsEnabled, IsRun, after}
use Rattle.bc_whole.proofs.Toy.{layout, stored_key, draft_set, moved_set, parent_set}
use Rattle.bc_whole.proofs.Start.{opening, setup, each_one}
use Rattle.bc_whole.proofs.Built.{by_one, at_one, at_four, barrier, stays, with_zeros}
use Rattle.bc_whole.proofs.Grown.{used_in}
use Rattle.bc_whole.proofs.Stored.{s28}
use Rattle.bc_whole.proofs.Failed.{s29, set_act, on28}
use Rattle.bc_model.specs.Pattern.{zeros}

abbrev pub draft_leaf : Leaf
draft_leaf = record {
  first = 0;
  end = 8;
  bucket = 9;
  word = 36;
  role = Draft;
  loaded = false;
  pending = [];
}

abbrev pub next_leaf : Leaf
next_leaf = record {
  first = 0;
  end = 8;
  bucket = 10;
  word = 40;
  role = Draft;
  loaded = false;
  pending = [];
}

-- what is unused while the leaf is changed, and after that
abbrev unused_3 : ℕ → Bool
unused_3 = all_but (5 ∷ 6 ∷ 10 ∷ [])

abbrev unused_4 : ℕ → Bool
unused_4 = all_but (6 ∷ 10 ∷ [])

abbrev draft_act : Act
draft_act = WriteCache (OfLeaf 2 draft_leaf draft_set) (with_zeros (36 ∷ 6 ∷ []))

abbrev leaf_act : Act
leaf_act = WriteCache (OfLeaf 2 next_leaf moved_set) (with_zeros (40 ∷ 7 ∷ []))

abbrev change_act : Act
change_act = BeginChange 0 8 (1 ∷ []) (2 ∷ []) [] [] unused_3

abbrev parent_act : Act
parent_act = WriteCache (OfParent 1 parent_set) ((24 ∷ 8 ∷ []) ∷ [])

abbrev over_act : Act
over_act = Install unused_4 (MakeNode 1 10 ∷ Regroup (λ s. 2) (λ l. 1) (λ s. false) 1 ∷ DropNode 5
    ∷ [])

-- a draft is given up, and its bucket let go; the leaf is rewritten under its parent
abbrev pub rewriting : List Act
rewriting =
    set_act ∷ CacheBarrier ∷ KeepSpare (2 ∷ []) ∷ BeginBucket 1 ∷ Take Tree 9 ∷ draft_act
    ∷ ForgetDrafts ∷ LetGo 9 false
    ∷ Take Tree 10 ∷ leaf_act ∷ CacheBarrier ∷ change_act ∷ parent_act ∷ CacheBarrier ∷ over_act
    ∷ []

abbrev v0 : State
v0 = after opening s29 1 CacheBarrier

abbrev v1 : State
v1 = after opening v0 1 (KeepSpare (2 ∷ []))

abbrev v2 : State
v2 = after opening v1 1 (BeginBucket 1)

abbrev v3 : State
v3 = after opening v2 1 (Take Tree 9)

abbrev v4 : State
v4 = after opening v3 1 draft_act

abbrev v5 : State
v5 = after opening v4 1 ForgetDrafts

abbrev v6 : State
v6 = after opening v5 1 (LetGo 9 false)

abbrev v7 : State
v7 = after opening v6 1 (Take Tree 10)

abbrev v8 : State
v8 = after opening v7 1 leaf_act

abbrev v9 : State
v9 = after opening v8 1 CacheBarrier

abbrev v10 : State
v10 = after opening v9 1 change_act

abbrev v11 : State
v11 = after opening v10 1 parent_act

abbrev v12 : State
v12 = after opening v11 1 CacheBarrier

abbrev pub v13 : State
v13 = after opening v12 1 over_act

-- no set was written to this bucket
abbrev absent : ℕ → List (ℕ × ℕ × NodeSet) → Bool
absent q [] = true
absent q (x ∷ xs) = if q == x.0 then false else absent q xs

not_logged : {A : Type 0} → (q at : ℕ) (e : NodeSet) (log : List (ℕ × ℕ × NodeSet))
    → absent q log ≡ true → Wrote log q at e → A
not_logged q at e [] h w = absurd w
not_logged {A} q at e (x ∷ xs) h w = by_test q x.0 (λ t. (if t then false else absent q xs) ≡ true
    → A) (λ _ z. absurd (cc))
    (λ ne z. elim w [ inl is ↦ absurd (ne is.0) | inr rest ↦ not_logged q at e xs z rest ]) h

-- ---- the leaf is rewritten

first_barrier : IsEnabled opening s29 1 CacheBarrier
first_barrier = barrier s29 1 (5 ∷ 6 ∷ []) (inl refl) refl refl

on0 : IsEnabled opening v0 1 (KeepSpare (2 ∷ []))
on0 = record {
  together = tt;
  flow = tt;
  store = (
    refl,
    tt,
    tt,
    (
      ((λ i. i), tt),
      refl,
      each_one (MayKeep layout v0.store) 2
          (record { free = inl refl; unused = refl; low = omega arith; high = omega arith }),
    ),
    tt,
  );
}

on1 : IsEnabled opening v1 1 (BeginBucket 1)
on1 = record {
  together = tt;
  flow = tt;
  store = (
    refl,
    ((refl, (λ x i. absurd i)), tt),
    (omega arith),
    (
      refl,
      stays v1.store (5 ∷ 6
          ∷ []) refl,
    ),
    tt,
  );
}

vacant_9 : IsVacant v2.parts 9
vacant_9 = (
  refl,
  by_slots (λ k. (v2.parts.leaves k).role ≢ NoNode → (v2.parts.leaves k).bucket ≢ 9) (λ n. dead n)
      (λ _ e. absurd (cc)) (λ n. dead n) (λ n. dead n) (λ k a b c d. simp (a, b, c, d)
      (λ n. dead n)),
  by_slots (λ k. (v2.parts.inner_nodes k).role ≢ NoNode → (v2.parts.inner_nodes k).bucket ≢ 9)
      (λ n. dead n) (λ _ e. absurd (cc)) (λ n. dead n) (λ n. dead n) (λ k a b c d. simp (
        a,
        b,
        c,
        d,
      ) (λ n. dead n)),
)

on2 : IsEnabled opening v2 1 (Take Tree 9)
on2 = record {
  together = λ e. cc;
  flow = (record { heard = refl; steps = (inr (inl refl), tt); can = refl }, tt);
  store = (refl, (vacant_9, tt), (omega arith), (refl, refl, (omega arith)), tt);
}

on3 : IsEnabled opening v3 1 draft_act
on3 = record {
  together = tt;
  flow = (
    record {
      heard = inl refl;
      steps = tt;
      can = record {
        places = λ t v e. at_four 36 (36 ∷ 6 ∷ []) zeros zeros zeros t v e
            (λ t. IsSpare setup v3.flow.books 1 t)
            (record { fresh = refl; unnamed = refl; apart = inr (Tree, refl) })
            (record { fresh = refl; unnamed = refl; apart = inr (Tree, refl) })
            (record { fresh = refl; unnamed = refl; apart = inr (Tree, refl) })
            (record { fresh = refl; unnamed = refl; apart = inr (Tree, refl) });
        sendable = tt;
      };
    },
    tt,
  );
  store = (
    refl,
    ((refl, vacant_9, refl, refl, λ s out. refl), tt),
    record {
      low = omega arith;
      high = omega arith;
      inside = refl;
      room = omega arith;
      first = record { front = (36 ∷ 6 ∷ []) ∷ []; spelled = refl; values_are = refl };
      unheard = λ at e. not_logged 9 at e v3.store.places.log refl;
    },
    (refl, refl),
    tt,
  );
}

on4 : IsEnabled opening v4 1 ForgetDrafts
on4 = record { together = tt; flow = tt; store = tt }

on5 : IsEnabled opening v5 1 (LetGo 9 false)
on5 = record {
  together = refl;
  flow = (record { heard = refl; steps = (((Tree, refl), refl), tt); can = refl }, tt);
  store = (refl, tt, tt, (refl, refl), tt);
}

vacant_10 : IsVacant v6.parts 10
vacant_10 = (
  refl,
  by_slots (λ k. (v6.parts.leaves k).role ≢ NoNode → (v6.parts.leaves k).bucket ≢ 10)
      (λ n. dead n) (λ _ e. absurd (cc)) (λ n. dead n) (λ n. dead n) (λ k a b c d. simp (
        a,
        b,
        c,
        d,
      ) (λ n. dead n)),
  by_slots (λ k. (v6.parts.inner_nodes k).role ≢ NoNode → (v6.parts.inner_nodes k).bucket ≢ 10)
      (λ n. dead n) (λ _ e. absurd (cc)) (λ n. dead n) (λ n. dead n) (λ k a b c d. simp (
        a,
        b,
        c,
        d,
      ) (λ n. dead n)),
)

on6 : IsEnabled opening v6 1 (Take Tree 10)
on6 = record {
  together = λ e. cc;
  flow = (record { heard = refl; steps = (inr (inl refl), tt); can = refl }, tt);
  store = (refl, (vacant_10, tt), (omega arith), (refl, refl, (omega arith)), tt);
}

-- the key lies in the leaf
in_leaf : (s : ℕ) → (InRange next_leaf s → ⊥) → last_said (stored_key ∷ []) s ≡ None
in_leaf s out = front_miss stored_key [] s (λ c. out (let r = spoken_range stored_key s c in
    let r1 : s < 1 = r.1 in (omega arith, omega arith)))

on7 : IsEnabled opening v7 1 leaf_act
on7 = record {
  together = tt;
  flow = (
    record {
      heard = inl refl;
      steps = tt;
      can = record {
        places = λ t v e. at_four 40 (40 ∷ 7 ∷ []) zeros zeros zeros t v e
            (λ t. IsSpare setup v7.flow.books 1 t)
            (record { fresh = refl; unnamed = refl; apart = inr (Tree, refl) })
            (record { fresh = refl; unnamed = refl; apart = inr (Tree, refl) })
            (record { fresh = refl; unnamed = refl; apart = inr (Tree, refl) })
            (record { fresh = refl; unnamed = refl; apart = inr (Tree, refl) });
        sendable = tt;
      };
    },
    tt,
  );
  store = (
    refl,
    ((refl, vacant_10, refl, refl, in_leaf), tt),
    record {
      low = omega arith;
      high = omega arith;
      inside = refl;
      room = omega arith;
      first = record { front = (40 ∷ 7 ∷ []) ∷ []; spelled = refl; values_are = refl };
      unheard = λ at e. not_logged 10 at e v7.store.places.log refl;
    },
    (refl, refl),
    tt,
  );
}

on8 : IsEnabled opening v8 1 CacheBarrier
on8 = barrier v8 1 (5 ∷ 6 ∷ []) (inl refl) refl refl

held_for : AreHeldFor v9 1 unused_3
held_for q h = go (used_in (5 ∷ 6 ∷ 10 ∷ []) q h)
  where
    Have : ℕ → Type 0
    Have q = (v9.parts.records.unused q ≡ false) ⊎ (v9.flow.books.shelf q ≡ Held 1 Tree)

    go : In q (5 ∷ 6 ∷ 10 ∷ []) → Have q
    go (inl e) = subst Have (sym e) (inl refl)
    go (inr (inl e)) = subst Have (sym e) (inl refl)
    go (inr (inr (inl e))) = subst Have (sym e) (inr refl)
    go (inr (inr (inr n))) = absurd n

can_begin : CanBegin v9.parts 0 8 (1 ∷ []) (2 ∷ []) [] [] unused_3
can_begin = record {
  no_change = refl;
  old_row = (refl, (omega arith), refl);
  new_row = (refl, (omega arith), refl);
  within = omega arith;
  gone_leaf = each_one (λ n. ((v9.parts.leaves n).role ≡ Free) × AllUpTo 3
      (v9.parts.leaves n).pending) 1 (refl, λ x m. absurd m);
  come_leaf = each_one (λ n. ((v9.parts.leaves n).role ≡ Draft) × IsStable (node_of v9.parts n)) 2
      (refl, (refl, refl, (λ e. absurd (cc)), refl));
  same = λ i j s m n ri rj. each_one (λ x. ref_said
      (last_said (set_keys (node_of v9.parts j).sets) s) ≡ ref_said
      (last_said (keys_in_leaf v9.parts x) s)) 1
      (each_one (λ y. ref_said (last_said (set_keys (node_of v9.parts y).sets) s) ≡ ref_said
      (last_said (keys_in_leaf v9.parts 1) s)) 2 refl j n) i m;
  old_inner = λ x m. absurd m;
  new_inner = λ x m. absurd m;
  filled = λ x m. absurd m;
  fewer = λ p is. fewer_by (5 ∷ 6 ∷ 10 ∷ []) (5 ∷ 6 ∷ []) p (λ q m. elim m [
    | inl e ↦ inl e
    | inr z ↦
        elim z [ inl e ↦ inr (inl e) | inr n ↦ absurd n ]
  ]) is;
  leaf_taken = each_one (λ n. unused_3 (v9.parts.leaves n).bucket ≡ false) 2 refl;
  inner_taken = λ x m. absurd m;
}

on9 : IsEnabled opening v9 1 change_act
on9 = record {
  together = held_for;
  flow = tt;
  store = (
    refl,
    (can_begin, tt),
    tt,
    (refl, stays v9.store (5 ∷ 6 ∷ 10 ∷ []) refl),
    tt,
  );
}

can_set : CanSetParent v10.parts 1 parent_set
can_set = (
  refl,
  tt,
  refl,
  ((omega arith), (2, tt, refl, refl, refl, refl), refl),
  by_slots (λ x. Stays (v10.parts.inner_nodes x).role → x ≢ 1
      → Fills v10.parts.leaves v10.parts.inner_nodes Stays (v10.parts.inner_nodes x)
      (children_of (inner_node_of v10.parts x).sets))
      (λ s. absurd s) (λ _ ne. absurd (ne refl)) (λ s. absurd s) (λ s. absurd s) (λ i a b c d. simp
      (a, b, c, d) (λ s. absurd s)),
  by_slots (λ x. (v10.parts.inner_nodes x).role ≡ Leaving → ((v10.parts.inner_nodes x).bucket ≢ 6)
      × (v10.parts.records.stage ≢ Nothing → (v10.parts.inner_nodes x).bucket
      ≢ v10.parts.records.entry.root))
      (λ e. absurd (no_leave e)) (λ e. absurd (cc)) (λ e. absurd (no_leave e))
      (λ e. absurd (no_leave e)) (λ i a b c d. simp (a, b, c, d) (λ e. absurd (no_leave e))),
)
  where
    no_leave : NoNode ≡ Leaving → ⊥
    no_leave e = cc

on10 : IsEnabled opening v10 1 parent_act
on10 = record {
  together = tt;
  flow = (
    record {
      heard = inl refl;
      steps = tt;
      can = record {
        places = λ t v e. at_one 25 (24 ∷ 8
            ∷ []) t v e (λ t. IsSpare setup v10.flow.books 1 t) (record {
              fresh = refl;
              unnamed = refl;
              apart = inl (inr refl);
            });
        sendable = tt;
      };
    },
    tt,
  );
  store = (
    refl,
    (can_set, tt),
    ((omega arith), (refl, refl, (omega arith), refl)),
    (refl, stays v10.store (5 ∷ 6 ∷ 10 ∷ []) refl),
    tt,
  );
}

on11 : IsEnabled opening v11 1 CacheBarrier
on11 = barrier v11 1 (5 ∷ 6 ∷ 10 ∷ []) (inl refl) refl refl

can_install : CanInstall v12.parts unused_4
can_install = (
  refl,
  λ p is. elim (listed_or (5 ∷ 6 ∷ 10 ∷ []) (6 ∷ 10 ∷ []) p is) [
    | inl u ↦ inl u
    | inr m ↦ elim m [
      | inl e ↦ inr (inl (1, refl, sym e))
      | inr m6 ↦ absurd
          (not_in (6 ∷ 10 ∷ []) p is p m6 refl)
    ]
  ],
)

on12 : IsEnabled opening v12 1 over_act
on12 = record {
  together = (
    (λ p is. fewer_by (5 ∷ 6 ∷ 10 ∷ []) (6 ∷ 10 ∷ []) p (λ q m. inr m) is),
    (tt, (tt, (refl, tt))),
  );
  flow = (
    record { heard = refl; steps = (refl, tt); can = refl },
    (
      record {
        heard = refl;
        steps = (
          record {
            later = λ s. omega arith;
            known = λ l. omega arith;
            waits = λ s e. omega arith;
            last_known = omega arith;
          },
          tt,
        );
        can = tt;
      },
      (record { heard = refl; steps = (refl, tt); can = tt }, tt),
    ),
  );
  store = (
    refl,
    (can_install, tt),
    tt,
    (refl, stays v12.store (6 ∷ 10 ∷ []) refl),
    (
      refl,
      tt,
      tt,
      (refl, refl),
      tt,
    ),
  );
}

pub rewrites : IsRun opening s28 (by_one rewriting)
rewrites = (
  on28,
  (
    first_barrier,
    (
      on0,
      (
        on1,
        (
          on2,
          (
            on3,
            (on4, (on5, (on6, (on7, (on8, (on9, (on10, (on11, (on12, tt))))))))),
          ),
        ),
      ),
    ),
  ),
)
