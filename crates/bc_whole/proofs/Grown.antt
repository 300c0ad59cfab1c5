-- The run goes on: the new leaf takes the place of the old one under the new root, which an entry
-- names with the new chain; old nodes and the old chain are given up.
use Rattle.std.proofs.Common.{◌≡◌, ◌≢◌, ◌⊎◌, inl, inr, ℕ, zero, suc, ◌≤◌, Bool, true, false, List, [], ◌∷◌, Some, None, refl, sym, subst, arith, if◌then◌else◌, ◌==◌}
use Rattle.bc_books.specs.Shelves.{Priorities, Tree, Plain, Held}
use Rattle.bc_books.specs.Books.{Step, MakeNode, Regroup, DropNode, MakeReady}
use Rattle.bc_data.specs.Data as flow
use Rattle.bc_data.specs.Enabled.{IsSpare}
use Rattle.bc_meta.specs.Facts.{In}
use Rattle.bc_meta.specs.Tree.{set_keys, children_of}
use Rattle.bc_meta.specs.Acts.{Holds}
use Rattle.bc_meta.proofs.Lists.{by_test}
use Rattle.bc_leaves.specs.Parts.{Draft, Free, NoNode, Stays, AllFrom, AllUpTo, node_of, inner_node_of, keys_in_leaf}
use Rattle.bc_leaves.specs.Rows.{Fills}
use Rattle.bc_leaves.specs.Keys.{last_said, ref_said}
use Rattle.bc_leaves.specs.After.{has}
use Rattle.bc_leaves.specs.Enabled.{CanBegin, CanSealRoot, CanInstall, IsStable}
use Rattle.bc_leaves_runs.proofs.Example.{all_but, by_slots, dead, not_in, fewer_by, listed_or}
use Rattle.bc_whole.specs.State.{State, Alone, WriteCache, CacheBarrier, Seal, MakeDurable, ReadyChain, BeginChange, Install, OfEntry, NewRoot, NewChain, Act}
use Rattle.bc_whole.specs.Together.{gen_at, AreHeldFor}
use Rattle.bc_whole.specs.Run.{IsEnabled, IsRun, after}
use Rattle.bc_whole.proofs.Start.{opening, setup, old_gens, each_one}
use Rattle.bc_whole.proofs.Built.{barrier, s8, new_gens, new_prio, by_one, at_one, stays}

-- what is unused once the new nodes may be of the tree, and once the old ones aren't any more
abbrev pub unused_1 : ℕ → Bool
unused_1 = all_but (8 ∷ 2 ∷ 5 ∷ 6 ∷ [])

abbrev pub unused_2 : ℕ → Bool
unused_2 = all_but (5 ∷ 6 ∷ [])

abbrev pub begin_act : Act
begin_act = BeginChange 0 8 (0 ∷ []) (1 ∷ []) (0 ∷ []) (1 ∷ []) unused_1

abbrev pub seal_act : Act
seal_act = Seal 1 [] (NewRoot 1) (NewChain (4 ∷ []) new_gens)

abbrev pub entry_act : Act
entry_act = WriteCache OfEntry ((2 ∷ []) ∷ [])

-- the sectors of the old leaf are in the new one
abbrev pub regroup : Step
regroup = Regroup (λ s. 1) (λ l. 0) (λ s. false) 0

abbrev pub install_act : Act
install_act = Install unused_2 (MakeNode 1 5 ∷ MakeNode 1 6 ∷ regroup ∷ DropNode 8 ∷ DropNode 2
    ∷ [])

abbrev pub ready_act : Act
ready_act = ReadyChain (λ b. true) (3 ∷ [])

abbrev pub listed_act : Act
listed_act = Alone (flow.Shelve (MakeReady 7 (Some Plain)))

abbrev pub growing : List Act
growing = begin_act ∷ seal_act ∷ CacheBarrier ∷ entry_act ∷ CacheBarrier ∷ MakeDurable ∷ install_act
    ∷ ready_act ∷ listed_act ∷ []

abbrev pub s9 : State
s9 = after opening s8 1 begin_act

abbrev pub s10 : State
s10 = after opening s9 1 seal_act

abbrev pub s11 : State
s11 = after opening s10 1 CacheBarrier

abbrev pub s12 : State
s12 = after opening s11 1 entry_act

abbrev pub s13 : State
s13 = after opening s12 1 CacheBarrier

abbrev pub s14 : State
s14 = after opening s13 1 MakeDurable

abbrev pub s15 : State
s15 = after opening s14 1 install_act

abbrev pub s16 : State
s16 = after opening s15 1 ready_act

abbrev pub s17 : State
s17 = after opening s16 1 listed_act

-- ---- the change begins

-- a bucket that is used is one of the list's
pub used_in : (ps : List ℕ) (q : ℕ) → all_but ps q ≡ false → In q ps
used_in [] q = λ e. absurd (cc)
used_in (p ∷ ps) q = by_test q p (λ t. (if t then false else all_but ps q) ≡ false → (q ≡ p)
    ⊎ In q ps) (λ e _. inl e) (λ _ h. inr (used_in ps q h))

held_for : AreHeldFor s8 1 unused_1
held_for q h = go (used_in (8 ∷ 2 ∷ 5 ∷ 6 ∷ []) q h)
  where
    Have : ℕ → Type 0
    Have q = (s8.parts.records.unused q ≡ false) ⊎ (s8.flow.books.shelf q ≡ Held 1 Tree)

    go : In q (8 ∷ 2 ∷ 5 ∷ 6 ∷ []) → Have q
    go (inl e) = subst Have (sym e) (inl refl)
    go (inr (inl e)) = subst Have (sym e) (inl refl)
    go (inr (inr (inl e))) = subst Have (sym e) (inr refl)
    go (inr (inr (inr (inl e)))) = subst Have (sym e) (inr refl)
    go (inr (inr (inr (inr n)))) = absurd n

can_begin : CanBegin s8.parts 0 8 (0 ∷ []) (1 ∷ []) (0 ∷ []) (1 ∷ []) unused_1
can_begin = record {
  no_change = refl;
  old_row = (refl, (omega arith), refl);
  new_row = (refl, (omega arith), refl);
  within = omega arith;
  gone_leaf = each_one (λ n. ((s8.parts.leaves n).role ≡ Free) × AllUpTo 1
      (s8.parts.leaves n).pending) 0 (refl, λ x m. absurd m);
  come_leaf = each_one (λ n. ((s8.parts.leaves n).role ≡ Draft) × IsStable (node_of s8.parts n)) 1
      (refl, (refl, refl, (λ e. absurd (cc)), refl));
  same = λ i j s m n ri rj. each_one (λ x. ref_said
      (last_said (set_keys (node_of s8.parts j).sets) s) ≡ ref_said
      (last_said (keys_in_leaf s8.parts x) s)) 0
      (each_one (λ y. ref_said (last_said (set_keys (node_of s8.parts y).sets) s) ≡ ref_said
      (last_said (keys_in_leaf s8.parts 0) s)) 1 refl j n) i m;
  old_inner = each_one (λ n. (s8.parts.inner_nodes n).role ≡ Free) 0 refl;
  new_inner = each_one (λ n. ((s8.parts.inner_nodes n).role ≡ Draft) × IsStable
      (inner_node_of s8.parts n)) 1 (refl, (refl, refl, (λ e. absurd (cc)), refl));
  filled = each_one (λ x. Fills s9.parts.leaves s9.parts.inner_nodes Stays (s8.parts.inner_nodes x)
      (children_of (inner_node_of s8.parts x).sets)) 1 (
        (omega arith),
        (
          1,
          tt,
          refl,
          refl,
          refl,
          refl,
        ),
        refl,
      );
  fewer = λ p is. fewer_by (8 ∷ 2 ∷ 5 ∷ 6 ∷ []) (8 ∷ 2 ∷ []) p (λ q m. elim m [
    | inl e ↦ inl e
    | inr z ↦ elim z [ inl e ↦ inr (inl e) | inr n ↦ absurd n ]
  ]) is;
  leaf_taken = each_one (λ n. unused_1 (s8.parts.leaves n).bucket ≡ false) 1 refl;
  inner_taken = each_one (λ n. unused_1 (s8.parts.inner_nodes n).bucket ≡ false) 1 refl;
}

pub on8 : IsEnabled opening s8 1 begin_act
on8 = record {
  together = held_for;
  flow = tt;
  store = (refl, (can_begin, tt), tt, (refl, stays s8.store (8 ∷ 2 ∷ 5 ∷ 6 ∷ []) refl), tt);
}

-- ---- an entry with a new root and a new chain

-- no generation goes back, and none is newer than in memory
new_bounds : (b : ℕ) → (gen_at old_gens b ≤ gen_at new_gens b) × (gen_at new_gens b ≤
    (if b == 7 then suc (gen_at old_gens 7) else gen_at old_gens b))
new_bounds zero = (omega arith, omega arith)
new_bounds (suc zero) = (omega arith, omega arith)
new_bounds (suc (suc zero)) = (omega arith, omega arith)
new_bounds (suc (suc (suc zero))) = (omega arith, omega arith)
new_bounds (suc (suc (suc (suc zero)))) = (omega arith, omega arith)
new_bounds (suc (suc (suc (suc (suc zero))))) = (omega arith, omega arith)
new_bounds (suc (suc (suc (suc (suc (suc zero)))))) = (omega arith, omega arith)
new_bounds (suc (suc (suc (suc (suc (suc (suc zero))))))) = (omega arith, omega arith)
new_bounds (suc (suc (suc (suc (suc (suc (suc (suc zero)))))))) = (omega arith, omega arith)
new_bounds (suc (suc (suc (suc (suc (suc (suc (suc (suc zero))))))))) = (omega arith, omega arith)
new_bounds (suc (suc (suc (suc (suc (suc (suc (suc (suc (suc zero)))))))))) = (
  omega arith,
  omega arith,
)
new_bounds (suc (suc (suc (suc (suc (suc (suc (suc (suc (suc (suc b))))))))))) = (
  omega arith,
  omega arith,
)

only_four : (b : ℕ) → has (4 ∷ []) b ≡ true → (s9.flow.books.shelf b ≡ Held 1 Priorities)
    × (s9.flow.books.chains.of b ≡ None)
only_four b = by_test b 4 (λ z. (if z then true else false) ≡ true → Have b) (λ is _. subst Have
    (sym is) (refl, refl)) (λ _ e. absurd (cc))
  where
    Have : ℕ → Type 0
    Have b = (s9.flow.books.shelf b ≡ Held 1 Priorities) × (s9.flow.books.chains.of b ≡ None)

can_seal : CanSealRoot s9.parts 1 1
can_seal = (
  (
    refl,
    (omega arith),
    (omega arith),
    by_slots (λ i. (s9.parts.leaves i).role ≢ NoNode → AllFrom 1
        (s9.parts.leaves i).pending) (λ _ x m. absurd m) (λ _ x m. absurd m) (λ n. dead n)
        (λ n. dead n) (λ i a b c d. simp (a, b, c, d) (λ n. dead n)),
  ),
  refl,
  tt,
  refl,
  refl,
  by_slots (λ x. Stays (s9.parts.inner_nodes x).role → Unit {0}
      → Fills s9.parts.leaves s9.parts.inner_nodes Stays (s9.parts.inner_nodes x)
      (children_of (inner_node_of s9.parts x).sets))
      (λ s. absurd s) (λ _ _. ((omega arith), (1, tt, refl, refl, refl, refl), refl))
      (λ s. absurd s) (λ s. absurd s) (λ i a b c d. simp (a, b, c, d) (λ s. absurd s)),
)

pub on9 : IsEnabled opening s9 1 seal_act
on9 = record {
  together = tt;
  flow = (
    record {
      heard = refl;
      steps = (
        record {
          none_waits = refl;
          order = new_bounds;
          held = only_four;
          sets = ((λ j. 4), (λ i j x y e. omega arith), λ j lt. refl);
        },
        tt,
      );
      can = refl;
    },
    tt,
  );
  store = (
    refl,
    (can_seal, tt),
    tt,
    (
      stays s9.store (8 ∷ 2 ∷ 5 ∷ 6 ∷ []) refl,
      each_one (Holds s9.store 1) 4 (refl, refl),
      each_one (λ q. unused_1 q ≡ true) 4 refl,
      ((λ i. i), tt),
      refl,
      (refl, (new_prio, refl, ([], refl, (refl, refl)))),
      refl,
    ),
    tt,
  );
}

pub on10 : IsEnabled opening s10 1 CacheBarrier
on10 = barrier s10 1 (8 ∷ 2 ∷ 5 ∷ 6 ∷ []) (inl refl) refl refl

pub on11 : IsEnabled opening s11 1 entry_act
on11 = record {
  together = tt;
  flow = (
    record {
      heard = inl refl;
      steps = tt;
      can = record {
        places = λ t v e. at_one 1
            (2 ∷ []) t v e (λ t. IsSpare setup s11.flow.books 1 t) (record {
              fresh = refl;
              unnamed = refl;
              apart = inl (inl refl);
            });
        sendable = refl;
      };
    },
    tt,
  );
  store = (
    refl,
    (refl, tt),
    (refl, (omega arith)),
    (
      refl,
      stays s11.store (8 ∷ 2 ∷ 5 ∷ 6
          ∷ []) refl,
    ),
    tt,
  );
}

pub on12 : IsEnabled opening s12 1 CacheBarrier
on12 = barrier s12 1 (8 ∷ 2 ∷ 5 ∷ 6 ∷ []) (inl refl) refl refl

pub on13 : IsEnabled opening s13 1 MakeDurable
on13 = record {
  together = tt;
  flow = (record { heard = refl; steps = (refl, tt); can = refl }, tt);
  store = (refl, (refl, tt), tt, tt, tt);
}

-- ---- the change is over

pub can_install : CanInstall s14.parts unused_2
can_install = (
  (omega arith),
  λ p is. elim (listed_or (8 ∷ 2 ∷ 5 ∷ 6 ∷ []) (5 ∷ 6 ∷ []) p is) [
    | inl u ↦ inl u
    | inr m ↦ elim m [
      | inl e ↦ inr (inr (0, refl, sym e))
      | inr m2 ↦ elim m2 [
        | inl e ↦ inr (inl (0, refl, sym e))
        | inr m5 ↦ absurd
            (not_in (5 ∷ 6 ∷ []) p is p m5 refl)
      ]
    ]
  ],
)

on14 : IsEnabled opening s14 1 install_act
on14 = record {
  together = (
    (λ p is. fewer_by (8 ∷ 2 ∷ 5 ∷ 6 ∷ []) (5 ∷ 6 ∷ []) p (λ q m. inr (inr m)) is),
    (tt, (tt, (tt, (refl, (refl, tt))))),
  );
  flow = (
    record { heard = refl; steps = (refl, tt); can = refl },
    (
      record { heard = refl; steps = (refl, tt); can = refl },
      (
        record {
          heard = refl;
          steps = (
            record {
              later = λ s. omega arith;
              known = λ l. omega arith;
              waits = λ s e. omega arith;
              last_known = omega arith;
            },
            tt,
          );
          can = tt;
        },
        (
          record { heard = refl; steps = (refl, tt); can = tt },
          (record { heard = refl; steps = (refl, tt); can = tt }, tt),
        ),
      ),
    ),
  );
  store = (
    refl,
    (can_install, tt),
    tt,
    (refl, stays s14.store (5 ∷ 6 ∷ []) refl),
    (refl, tt, tt, (refl, refl), (refl, tt, tt, (refl, refl), tt)),
  );
}

on15 : IsEnabled opening s15 1 ready_act
on15 = record {
  together = tt;
  flow = (record { heard = refl; steps = ((omega arith), tt); can = tt }, tt);
  store = (
    refl,
    tt,
    tt,
    (
      (omega arith),
      each_one (λ q. s15.store.holder q ≡ Some 1) 4 refl,
      ((λ i. i), tt),
      refl,
      each_one (λ q. (s15.store.chain_of q ≡ Some 0) ⊎ (In q s15.store.spare
          × (s15.store.chain_of q ≢ Some 1))) 3 (inl refl),
    ),
    tt,
  );
}

on16 : IsEnabled opening s16 1 listed_act
on16 = record {
  together = refl;
  flow = (
    record {
      heard = refl;
      steps = ((refl, refl), tt);
      can = tt;
    },
    tt,
  );
  store = tt;
}

pub grows : IsRun opening s8 (by_one growing)
grows = (on8, (on9, (on10, (on11, (on12, (on13, (on14, (on15, (on16, tt)))))))))
