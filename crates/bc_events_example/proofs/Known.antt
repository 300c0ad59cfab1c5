-- The tree and the chain of the example, changed as events change them: what is unused follows from
-- the nodes that come and go, and sectors get their leaf before buckets become nodes.
use Rattle.std.proofs.Common.{◌≡◌, ◌⊎◌, inl, inr, ℕ, ◌≤◌, Bool, true, false, List, [], ◌∷◌, Some, Global, refl, sym, subst, arith, if◌then◌else◌, ◌==◌, ◌||◌}
use Rattle.bc_books.specs.Shelves.{Plain, Tree, Held}
use Rattle.bc_books.specs.Books.{Step, MakeNode, DropNode, MakeReady}
use Rattle.bc_books.proofs.Cases.{by_bool}
use Rattle.bc_data.specs.Data as flow
use Rattle.bc_meta.specs.Records.{IsFewer}
use Rattle.bc_meta.proofs.Lists.{by_test}
use Rattle.bc_leaves.specs.Parts.{Leaving}
use Rattle.bc_leaves.specs.After.{has}
use Rattle.bc_leaves.specs.Enabled.{CanBegin}
use Rattle.bc_whole.specs.State.{OfEntry, NewRoot, NewChain, State}
use Rattle.bc_whole.specs.State as whole
use Rattle.bc_whole.specs.Together.{AreHeldFor}
use Rattle.bc_whole.specs.Run as whole_run
use Rattle.bc_whole.proofs.Start.{opening, each_one}
use Rattle.bc_whole.proofs.Built.{s8, new_gens}
use Rattle.bc_whole.proofs.Grown.{can_install, grows}
use Rattle.bc_known.specs.Acts.{Act, CacheBarrier, MakeDurable, ReadyChain, BeginChange, Install}
use Rattle.bc_known.specs.Run.{IsEnabled}
use Rattle.bc_known_example.proofs.Leads.{at}
use Rattle.bc_known_example.proofs.Grown.{seal_act, entry_act, listed_act, grows_on}
use Rattle.bc_events.specs.declared.event.Change.{Change}
use Rattle.bc_events.specs.Changes.{without, with, regroup}
use denote.RawPtr.{null_ptr}

-- what vectors of an event are made with
abbrev pub heap : Global
heap = record { memory = record { seal = tt } }

-- the old leaf and the old root go, the new ones come
abbrev pub change : Change
change = record {
  low = 0;
  high = 8;
  gone = record {
    ptr = null_ptr;
    len = 1;
    cap = 1;
    alloc = heap;
    items = 0 ∷ [];
    ok = (refl, omega arith);
    small = omega arith;
  };
  come = record {
    ptr = null_ptr;
    len = 1;
    cap = 1;
    alloc = heap;
    items = 1 ∷ [];
    ok = (refl, omega arith);
    small = omega arith;
  };
  old = record {
    ptr = null_ptr;
    len = 1;
    cap = 1;
    alloc = heap;
    items = 0 ∷ [];
    ok = (refl, omega arith);
    small = omega arith;
  };
  new = record {
    ptr = null_ptr;
    len = 1;
    cap = 1;
    alloc = heap;
    items = 1 ∷ [];
    ok = (refl, omega arith);
    small = omega arith;
  };
}

abbrev pub unused_1 : ℕ → Bool
unused_1 = without s8.parts.records.unused (5 ∷ 6 ∷ [])

abbrev pub begin_act : Act
begin_act = BeginChange 0 8 (0 ∷ []) (1 ∷ []) (0 ∷ []) (1 ∷ []) unused_1

abbrev pub t9 : State
t9 = whole_run.after opening s8 1
    (whole.BeginChange 0 8 (0 ∷ []) (1 ∷ []) (0 ∷ []) (1 ∷ []) unused_1)

abbrev pub t10 : State
t10 = whole_run.after opening t9 1 (whole.Seal 1 [] (NewRoot 1) (NewChain (4 ∷ []) new_gens))

abbrev pub t11 : State
t11 = whole_run.after opening t10 1 whole.CacheBarrier

abbrev pub t12 : State
t12 = whole_run.after opening t11 1 (whole.WriteCache OfEntry ((2 ∷ []) ∷ []))

abbrev pub t13 : State
t13 = whole_run.after opening t12 1 whole.CacheBarrier

abbrev pub t14 : State
t14 = whole_run.after opening t13 1 whole.MakeDurable

abbrev pub unused_2 : ℕ → Bool
unused_2 = with t14.parts.records.unused (2 ∷ 8 ∷ [])

abbrev pub steps : List Step
steps = regroup t14.flow.books.index t14.parts.leaves change ∷ MakeNode 1 5 ∷ MakeNode 1 6
    ∷ DropNode 8 ∷ DropNode 2 ∷ []

abbrev pub install_act : Act
install_act = Install unused_2 steps

abbrev pub t15 : State
t15 = whole_run.after opening t14 1 (whole.Install unused_2 steps)

abbrev pub ready_act : Act
ready_act = ReadyChain (has (3 ∷ []))

abbrev pub t16 : State
t16 = whole_run.after opening t15 1 (whole.ReadyChain (has (3 ∷ [])) (3 ∷ []))

abbrev pub t17 : State
t17 = whole_run.after opening t16 1 (whole.Alone (flow.Shelve (MakeReady 7 (Some Plain))))

-- ---- the change begins

fewer_1 : IsFewer unused_1 s8.parts.records.unused
fewer_1 q = by_bool (has (5 ∷ 6 ∷ []) q)
    (λ z. (if z then false else s8.parts.records.unused q) ≡ true
    → s8.parts.records.unused q ≡ true) (λ _ e. absurd (cc)) (λ _ e. e)

held_for : AreHeldFor s8 1 unused_1
held_for q = by_test q 5 (λ z. (if (if z then true else has (6 ∷ []) q) then false
    else s8.parts.records.unused q) ≡ false → Have q) (λ is _. subst Have (sym is) (inr refl))
    (λ _. by_test q 6 (λ z. (if (if z then true else false) then false
    else s8.parts.records.unused q) ≡ false → Have q) (λ is _. subst Have (sym is) (inr refl))
    (λ _ e. inl e))
  where
    Have : ℕ → Type 0
    Have q = (s8.parts.records.unused q ≡ false) ⊎ (s8.flow.books.shelf q ≡ Held 1 Tree)

can_begin : CanBegin s8.parts 0 8 (0 ∷ []) (1 ∷ []) (0 ∷ []) (1 ∷ []) unused_1
can_begin = let on = grows.0.store.1.0 in record {
  no_change = on.no_change;
  old_row = on.old_row;
  new_row = on.new_row;
  within = on.within;
  gone_leaf = on.gone_leaf;
  come_leaf = on.come_leaf;
  same = on.same;
  old_inner = on.old_inner;
  new_inner = on.new_inner;
  filled = on.filled;
  fewer = fewer_1;
  leaf_taken = each_one (λ n. unused_1 (s8.parts.leaves n).bucket ≡ false) 1 refl;
  inner_taken = each_one (λ n. unused_1 (s8.parts.inner_nodes n).bucket ≡ false) 1 refl;
}

pub on8 : IsEnabled opening (at s8 9) 1 begin_act
on8 = record { data_allows = tt; asks = (can_begin, held_for) }

pub on9 : IsEnabled opening (at t9 9) 1 seal_act
on9 = let on = grows_on.course.1.0 in record { data_allows = on.data_allows; asks = on.asks }

pub on10 : IsEnabled opening (at t10 9) 1 CacheBarrier
on10 = record { data_allows = grows.1.1.0.flow; asks = tt }

pub on11 : IsEnabled opening (at t11 9) 1 entry_act
on11 = record { data_allows = grows.1.1.1.0.flow; asks = (refl, (refl, (omega arith))) }

pub on12 : IsEnabled opening (at t12 9) 1 CacheBarrier
on12 = record { data_allows = grows.1.1.1.1.0.flow; asks = tt }

pub on13 : IsEnabled opening (at t13 9) 1 MakeDurable
on13 = record { data_allows = grows.1.1.1.1.1.0.flow; asks = refl }

-- ---- the change is over

now_unused : (q : ℕ) → unused_2 q ≡ true → (t14.parts.records.unused q ≡ true)
    ⊎ ((i : ℕ) × ((t14.parts.leaves i).role ≡ Leaving) × ((t14.parts.leaves i).bucket ≡ q))
    ⊎ ((x : ℕ) × ((t14.parts.inner_nodes x).role ≡ Leaving)
    × ((t14.parts.inner_nodes x).bucket ≡ q))
now_unused q = by_test q 2 (λ z. ((if z then true else has (8 ∷ []) q)
    || t14.parts.records.unused q) ≡ true → Have) (λ is _. inr (inl (0, refl, sym is)))
    (λ _. by_test q 8 (λ z. ((if z then true else false) || t14.parts.records.unused q) ≡ true
    → Have) (λ is _. inr (inr (0, refl, sym is))) (λ _ e. inl e))
  where
    Have : Type 0
    Have = (t14.parts.records.unused q ≡ true)
        ⊎ ((i : ℕ) × ((t14.parts.leaves i).role ≡ Leaving) × ((t14.parts.leaves i).bucket ≡ q))
        ⊎ ((x : ℕ) × ((t14.parts.inner_nodes x).role ≡ Leaving)
        × ((t14.parts.inner_nodes x).bucket ≡ q))

fewer_2 : IsFewer t14.parts.records.unused unused_2
fewer_2 q u = by_bool (has (2 ∷ 8 ∷ []) q) (λ z. (z || t14.parts.records.unused q) ≡ true)
    (λ _. refl) (λ _. u)

-- no key came in before the change
none_later : (l : ℕ) → (if l == 1 then 0 else 0) ≤ 0
none_later l = by_test l 1 (λ z. (if z then 0 else 0) ≤ 0) (λ _. omega arith) (λ _. omega arith)

pub on14 : IsEnabled opening (at t14 9) 1 install_act
on14 = let on = grows_on.course.1.1.1.1.1.1.0.asks.2 in record {
  data_allows = (
    record {
      heard = refl;
      steps = (
        record {
          later = λ s. omega arith;
          known = λ l. none_later l;
          waits = λ s e. none_later _;
          last_known = omega arith;
        },
        tt,
      );
      can = tt;
    },
    (
      record { heard = refl; steps = (refl, tt); can = refl },
      (
        record { heard = refl; steps = (refl, tt); can = refl },
        (
          record { heard = refl; steps = (refl, tt); can = tt },
          (record { heard = refl; steps = (refl, tt); can = tt }, tt),
        ),
      ),
    ),
  );
  asks = (
    (can_install.0, now_unused),
    fewer_2,
    (tt, (refl, (refl, ((refl, on.1.1.1.0.1), ((refl, on.1.1.1.1.0.1), tt))))),
  );
}

pub on15 : IsEnabled opening (at t15 9) 1 ready_act
on15 = record {
  data_allows = (record { heard = refl; steps = ((omega arith), tt); can = tt }, tt);
  asks = (
    inr ((λ j. 3), (λ i j x y e. omega arith), λ j lt. refl),
    grows_on.course.1.1.1.1.1.1.1.0.asks.1,
  );
}

pub on16 : IsEnabled opening (at t16 9) 1 listed_act
on16 = record {
  data_allows = (record { heard = refl; steps = ((refl, refl), tt); can = tt }, tt);
  asks = refl;
}
