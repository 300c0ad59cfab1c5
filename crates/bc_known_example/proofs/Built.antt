-- The run begins: a bucket is raised, a priority set with its new generation is written, and a new
-- leaf and a new root are.
use Rattle.std.proofs.Common.{List, [], ◌∷◌, refl, arith}
use Rattle.bc_books.specs.Shelves.{Priorities, Tree}
use Rattle.bc_books.specs.Books.{Raise}
use Rattle.bc_data.specs.Data as flow
use Rattle.bc_whole.specs.State.{OfPriorities, OfLeaf, OfInner}
use Rattle.bc_whole.proofs.Toy.{new_leaf_set, new_root_set}
use Rattle.bc_whole.proofs.Start.{opening}
use Rattle.bc_whole.proofs.Built.{s0, s1, s2, s3, s4, s5, s6, s7, s8, new_leaf, new_root, new_prio, prio_values, leaf_values, root_values, builds}
use Rattle.bc_known.specs.Acts.{Act, Alone, WriteCache, CacheBarrier, Take, Event}
use Rattle.bc_known.specs.Run.{IsEnabled}
use Rattle.bc_known_example.proofs.Leads.{Leads, at, one, stay, go}

abbrev pub raise_act : Act
raise_act = Alone (flow.Shelve (Raise 7))

abbrev pub chain_act : Act
chain_act = WriteCache (OfPriorities 4 0 new_prio) prio_values

abbrev pub leaf_act : Act
leaf_act = WriteCache (OfLeaf 1 new_leaf new_leaf_set) leaf_values

abbrev pub root_act : Act
root_act = WriteCache (OfInner 1 new_root new_root_set) root_values

abbrev pub building : List Event
building = one raise_act ∷ one (Take Priorities 4) ∷ one chain_act ∷ one (Take Tree 5)
    ∷ one (Take Tree 6) ∷ one leaf_act ∷ one root_act ∷ one CacheBarrier ∷ []

on0 : IsEnabled opening (at s0 7) 1 raise_act
on0 = record { data_allows = builds.0.flow; asks = refl }

on1 : IsEnabled opening (at s1 7) 1 (Take Priorities 4)
on1 = record { data_allows = builds.1.0.flow; asks = λ e. cc }

on2 : IsEnabled opening (at s2 7) 1 chain_act
on2 = record {
  data_allows = builds.1.1.0.flow;
  asks = (
    record {
      held = refl;
      unnamed = refl;
      within = record {
        some = λ e. cc;
        low = omega arith;
        high = omega arith;
        bucket = omega arith;
      };
    },
    refl,
  );
}

on3 : IsEnabled opening (at s3 7) 1 (Take Tree 5)
on3 = record { data_allows = builds.1.1.1.0.flow; asks = λ e. cc }

on4 : IsEnabled opening (at s4 7) 1 (Take Tree 6)
on4 = record { data_allows = builds.1.1.1.1.0.flow; asks = λ e. cc }

on5 : IsEnabled opening (at s5 7) 1 leaf_act
on5 =
    let on = builds.1.1.1.1.1.0 in record {
      data_allows = on.flow;
      asks = (
        refl,
        refl,
        refl,
        (λ s out. refl),
        record {
          held = refl;
          unnamed = refl;
          vacant = on.store.1.0.1;
          room = omega arith;
          inside = refl;
          first = on.store.2.first;
          seq = refl;
        },
      );
    }

on6 : IsEnabled opening (at s6 8) 1 root_act
on6 =
    let on = builds.1.1.1.1.1.1.0 in record {
      data_allows = on.flow;
      asks = (
        refl,
        refl,
        record {
          held = refl;
          unnamed = refl;
          vacant = on.store.1.0.1;
          room = omega arith;
          inside = refl;
          first = on.store.2.first;
          seq = refl;
        },
      );
    }

on7 : IsEnabled opening (at s7 9) 1 CacheBarrier
on7 = record { data_allows = builds.1.1.1.1.1.1.1.0.flow; asks = tt }

pub builds_on : Leads (at s0 7) building (at s8 9)
builds_on = go (at s0 7) (one raise_act) (at s1 7) on0 refl
    (go (at s1 7) (one (Take Priorities 4)) (at s2 7) on1 refl
    (go (at s2 7) (one chain_act) (at s3 7) on2 refl
    (go (at s3 7) (one (Take Tree 5)) (at s4 7) on3 refl
    (go (at s4 7) (one (Take Tree 6)) (at s5 7) on4 refl
    (go (at s5 7) (one leaf_act) (at s6 8) on5 refl
    (go (at s6 8) (one root_act) (at s7 9) on6 refl
    (go (at s7 9) (one CacheBarrier) (at s8 9) on7 refl stay)))))))
