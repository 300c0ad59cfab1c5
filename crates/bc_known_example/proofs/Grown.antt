-- The run goes on: the new leaf takes the place of the old one under the new root, which an entry
-- names with the new chain; old nodes and the old chain are given up.
use Rattle.std.proofs.Common.{◌≡◌, ◌≢◌, inl, ℕ, Bool, true, false, List, [], ◌∷◌, Option, Some, None, refl, sym, subst, arith, if◌then◌else◌, ◌==◌}
use Rattle.bc_books.specs.Shelves.{Priorities, Plain, Held}
use Rattle.bc_books.specs.Books.{MakeNode, DropNode, MakeReady}
use Rattle.bc_data.specs.Data as flow
use Rattle.bc_meta.proofs.Lists.{by_test}
use Rattle.bc_leaves_runs.proofs.Example.{by_slots}
use Rattle.bc_whole.specs.State.{OfEntry, NewRoot, NewChain}
use Rattle.bc_whole.proofs.Start.{opening}
use Rattle.bc_whole.proofs.Built.{s8, new_gens, new_prio}
use Rattle.bc_whole.proofs.Grown.{s9, s10, s11, s12, s13, s14, s15, s16, s17, unused_1, unused_2, regroup, can_install, grows}
use Rattle.bc_known.specs.Acts.{Act, Alone, WriteCache, CacheBarrier, Seal, MakeDurable, ReadyChain, BeginChange, Install, Event}
use Rattle.bc_known.specs.Asked.{IsAfter, IsGivenUp, HoldsNext}
use Rattle.bc_known.specs.Run.{IsEnabled}
use Rattle.bc_known_example.proofs.Leads.{Leads, at, one, stay, go}

abbrev pub begin_act : Act
begin_act = BeginChange 0 8 (0 ∷ []) (1 ∷ []) (0 ∷ []) (1 ∷ []) unused_1

abbrev pub seal_act : Act
seal_act = Seal 1 [] (NewRoot 1) (NewChain (4 ∷ []) new_gens)

abbrev pub entry_act : Act
entry_act = WriteCache OfEntry ((2 ∷ []) ∷ [])

abbrev pub install_act : Act
install_act = Install unused_2 (MakeNode 1 5 ∷ MakeNode 1 6 ∷ regroup ∷ DropNode 8 ∷ DropNode 2
    ∷ [])

abbrev pub ready_act : Act
ready_act = ReadyChain (λ b. true)

abbrev pub listed_act : Act
listed_act = Alone (flow.Shelve (MakeReady 7 (Some Plain)))

abbrev pub growing : List Event
growing = one begin_act ∷ one seal_act ∷ one CacheBarrier ∷ one entry_act ∷ one CacheBarrier
    ∷ one MakeDurable ∷ one install_act ∷ one ready_act ∷ one listed_act ∷ []

on8 : IsEnabled opening (at s8 9) 1 begin_act
on8 = let on = grows.0 in record { data_allows = tt; asks = (on.store.1.0, on.together) }

on9 : IsEnabled opening (at s9 9) 1 seal_act
on9 = let on = grows.1.0 in record {
  data_allows = on.flow;
  asks = (
    on.store.1.0,
    (((λ i. i), tt), refl, (refl, (new_prio, refl, ([], refl, (refl, refl))))),
  );
}

on10 : IsEnabled opening (at s10 9) 1 CacheBarrier
on10 = record { data_allows = grows.1.1.0.flow; asks = tt }

on11 : IsEnabled opening (at s11 9) 1 entry_act
on11 = record { data_allows = grows.1.1.1.0.flow; asks = (refl, (refl, (omega arith))) }

on12 : IsEnabled opening (at s12 9) 1 CacheBarrier
on12 = record { data_allows = grows.1.1.1.1.0.flow; asks = tt }

on13 : IsEnabled opening (at s13 9) 1 MakeDurable
on13 = record { data_allows = grows.1.1.1.1.1.0.flow; asks = refl }

-- the old nodes are the only ones in their buckets
given_8 : IsGivenUp s14.parts 8
given_8 = (
  by_slots (λ k. IsAfter (s14.parts.leaves k).role → (s14.parts.leaves k).bucket ≢ 8)
      (λ n. absurd n) (λ _ e. absurd (cc)) (λ n. absurd n) (λ n. absurd n) (λ k a b c d. simp (a, b)
      (λ n. absurd n)),
  by_slots (λ k. IsAfter (s14.parts.inner_nodes k).role → (s14.parts.inner_nodes k).bucket ≢ 8)
      (λ n. absurd n) (λ _ e. absurd (cc)) (λ n. absurd n) (λ n. absurd n) (λ k a b c d. simp (a, b)
      (λ n. absurd n)),
)

given_2 : IsGivenUp s14.parts 2
given_2 = (
  by_slots (λ k. IsAfter (s14.parts.leaves k).role → (s14.parts.leaves k).bucket ≢ 2)
      (λ n. absurd n) (λ _ e. absurd (cc)) (λ n. absurd n) (λ n. absurd n) (λ k a b c d. simp (a, b)
      (λ n. absurd n)),
  by_slots (λ k. IsAfter (s14.parts.inner_nodes k).role → (s14.parts.inner_nodes k).bucket ≢ 2)
      (λ n. absurd n) (λ _ e. absurd (cc)) (λ n. absurd n) (λ n. absurd n) (λ k a b c d. simp (a, b)
      (λ n. absurd n)),
)

on14 : IsEnabled opening (at s14 9) 1 install_act
on14 = let on = grows.1.1.1.1.1.1.0 in record {
  data_allows = on.flow;
  asks = (
    can_install,
    on.together.0,
    (refl, (refl, (tt, ((refl, given_8), ((refl, given_2), tt))))),
  );
}

-- the chain of bucket 4, of bucket 3 and of others
abbrev chain_by : (four three : Bool) → Option ℕ
chain_by four three =
    if (if four then true else false) then Some 1 else (if three then Some 0 else None)

not_next : {A : Type 0} → (three : Bool) → chain_by false three ≡ Some 1 → A
not_next true e = absurd (cc)
not_next false e = absurd (cc)

-- the next chain is the bucket that the seat took for it
holds_next : HoldsNext (at s15 9) 1
holds_next b = by_test b 4 (λ z. chain_by z (b == 3) ≡ Some 1 → Mine b)
    (λ is _. subst Mine (sym is) refl) (λ _ e. not_next (b == 3) e)
  where
    Mine : ℕ → Type 0
    Mine b = s15.flow.books.shelf b ≡ Held 1 Priorities

on15 : IsEnabled opening (at s15 9) 1 ready_act
on15 = record {
  data_allows = grows.1.1.1.1.1.1.1.0.flow;
  asks = (inl (λ b. refl), holds_next);
}

on16 : IsEnabled opening (at s16 9) 1 listed_act
on16 = record { data_allows = grows.1.1.1.1.1.1.1.1.0.flow; asks = refl }

-- the old chain's bucket, which is on its list again, is the one that is kept for the next chain
pub grows_on : Leads (at s8 9) growing (at s17 9)
grows_on = go (at s8 9) (one begin_act) (at s9 9) on8 refl
    (go (at s9 9) (one seal_act) (at s10 9) on9 refl
    (go (at s10 9) (one CacheBarrier) (at s11 9) on10 refl
    (go (at s11 9) (one entry_act) (at s12 9) on11 refl
    (go (at s12 9) (one CacheBarrier) (at s13 9) on12 refl
    (go (at s13 9) (one MakeDurable) (at s14 9) on13 refl
    (go (at s14 9) (one install_act) (at s15 9) on14 refl
    (go (at s15 9) (one ready_act) (at s16 9) on15 refl
    (go (at s16 9) (one listed_act) (at s17 9) on16 refl stay))))))))
