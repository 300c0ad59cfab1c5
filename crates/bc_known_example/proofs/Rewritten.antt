-- The run that wrote a further set goes on: a draft is given up, and the leaf is rewritten under its
-- parent.
use Rattle.std.proofs.Common.{◌≢◌, inr, ℕ, Bool, false, List, [], ◌∷◌, refl, arith}
use Rattle.bc_model.specs.Sector.{Value}
use Rattle.bc_books.specs.Shelves.{Tree}
use Rattle.bc_books.specs.Books.{Step, MakeNode, Regroup, DropNode}
use Rattle.bc_leaves.specs.Parts.{NoNode}
use Rattle.bc_leaves.specs.Enabled.{IsVacant}
use Rattle.bc_leaves_runs.proofs.Example.{all_but, by_slots, dead}
use Rattle.bc_whole.specs.State.{OfLeaf, OfParent}
use Rattle.bc_whole.specs.State as whole
use Rattle.bc_whole.specs.Run as whole_run
use Rattle.bc_whole.proofs.Toy.{draft_set, moved_set, parent_set}
use Rattle.bc_whole.proofs.Start.{opening}
use Rattle.bc_whole.proofs.Built.{with_zeros}
use Rattle.bc_whole.proofs.Failed.{s29}
use Rattle.bc_whole.proofs.Rewritten.{draft_leaf, next_leaf, rewrites}
use Rattle.bc_known.specs.Acts.{Act, WriteCache, CacheBarrier, BeginBucket, Take, LetGo, BeginChange, Install, ForgetDrafts, Event}
use Rattle.bc_known.specs.Asked.{IsAfter, IsGivenUp}
use Rattle.bc_known.specs.Run.{IsEnabled}
use Rattle.bc_known_example.proofs.Leads.{Leads, at, one, stay, go}

-- what is unused while the leaf is changed, and after that
abbrev unused_3 : ℕ → Bool
unused_3 = all_but (5 ∷ 6 ∷ 10 ∷ [])

abbrev unused_4 : ℕ → Bool
unused_4 = all_but (6 ∷ 10 ∷ [])

abbrev draft_write : whole.Write
draft_write = OfLeaf 2 draft_leaf draft_set

abbrev draft_values : List Value
draft_values = with_zeros (36 ∷ 6 ∷ [])

abbrev leaf_write : whole.Write
leaf_write = OfLeaf 2 next_leaf moved_set

abbrev leaf_values : List Value
leaf_values = with_zeros (40 ∷ 7 ∷ [])

abbrev parent_write : whole.Write
parent_write = OfParent 1 parent_set

abbrev parent_values : List Value
parent_values = (24 ∷ 8 ∷ []) ∷ []

abbrev over_steps : List Step
over_steps = MakeNode 1 10 ∷ Regroup (λ s. 2) (λ l. 1) (λ s. false) 1 ∷ DropNode 5 ∷ []

abbrev draft_act : Act
draft_act = WriteCache draft_write draft_values

abbrev leaf_act : Act
leaf_act = WriteCache leaf_write leaf_values

abbrev change_act : Act
change_act = BeginChange 0 8 (1 ∷ []) (2 ∷ []) [] [] unused_3

abbrev parent_act : Act
parent_act = WriteCache parent_write parent_values

abbrev over_act : Act
over_act = Install unused_4 over_steps

-- as the whole machine's run, but that no other bucket is kept for chains
abbrev w0 : whole.State
w0 = whole_run.after opening s29 1 whole.CacheBarrier

abbrev w1 : whole.State
w1 = whole_run.after opening w0 1 (whole.BeginBucket 1)

abbrev w2 : whole.State
w2 = whole_run.after opening w1 1 (whole.Take Tree 9)

abbrev w3 : whole.State
w3 = whole_run.after opening w2 1 (whole.WriteCache draft_write draft_values)

abbrev w4 : whole.State
w4 = whole_run.after opening w3 1 whole.ForgetDrafts

abbrev w5 : whole.State
w5 = whole_run.after opening w4 1 (whole.LetGo 9 false)

abbrev w6 : whole.State
w6 = whole_run.after opening w5 1 (whole.Take Tree 10)

abbrev w7 : whole.State
w7 = whole_run.after opening w6 1 (whole.WriteCache leaf_write leaf_values)

abbrev w8 : whole.State
w8 = whole_run.after opening w7 1 whole.CacheBarrier

abbrev w9 : whole.State
w9 = whole_run.after opening w8 1 (whole.BeginChange 0 8 (1 ∷ []) (2 ∷ []) [] [] unused_3)

abbrev w10 : whole.State
w10 = whole_run.after opening w9 1 (whole.WriteCache parent_write parent_values)

abbrev w11 : whole.State
w11 = whole_run.after opening w10 1 whole.CacheBarrier

abbrev pub w12 : whole.State
w12 = whole_run.after opening w11 1 (whole.Install unused_4 over_steps)

-- a draft is given up, and its bucket let go; the leaf is rewritten under its parent
abbrev pub rewriting : List Event
rewriting = one CacheBarrier ∷ one (BeginBucket 1) ∷ one (Take Tree 9) ∷ one draft_act ∷ one ForgetDrafts ∷ one (LetGo 9 false) ∷ one (Take Tree 10) ∷ one leaf_act ∷ one CacheBarrier ∷ one change_act ∷ one parent_act ∷ one CacheBarrier ∷ one over_act ∷ []

-- ---- what acts ask for

-- once the draft is forgotten no node lies in its bucket
vacant_9 : IsVacant w4.parts 9
vacant_9 = (
  refl,
  by_slots (λ k. (w4.parts.leaves k).role ≢ NoNode → (w4.parts.leaves k).bucket ≢ 9) (λ n. dead n)
      (λ _ e. absurd (cc)) (λ n. dead n) (λ n. dead n) (λ k a b c d. simp (a, b, c)
      (λ n. dead n)),
  by_slots (λ k. (w4.parts.inner_nodes k).role ≢ NoNode → (w4.parts.inner_nodes k).bucket ≢ 9)
      (λ n. dead n) (λ _ e. absurd (cc)) (λ n. dead n) (λ n. dead n) (λ k a b c d. simp (a, b)
      (λ n. dead n)),
)

-- the old leaf is the only node in its bucket
given_5 : IsGivenUp w11.parts 5
given_5 = (
  by_slots (λ k. IsAfter (w11.parts.leaves k).role → (w11.parts.leaves k).bucket ≢ 5)
      (λ n. absurd n) (λ n. absurd n) (λ _ e. absurd (cc)) (λ n. absurd n) (λ k a b c d. simp
      (a, b, c) (λ n. absurd n)),
  by_slots (λ k. IsAfter (w11.parts.inner_nodes k).role → (w11.parts.inner_nodes k).bucket ≢ 5)
      (λ n. absurd n) (λ _ e. absurd (cc)) (λ n. absurd n) (λ n. absurd n) (λ k a b c d. simp
      (a, b) (λ n. absurd n)),
)

known_0 : IsEnabled opening (at s29 9) 1 CacheBarrier
known_0 = record { data_allows = rewrites.1.0.flow; asks = tt }

known_1 : IsEnabled opening (at w0 9) 1 (BeginBucket 1)
known_1 = let on = rewrites.1.1.1.0 in record { data_allows = on.flow; asks = (on.store.1.0, (omega arith)) }

known_2 : IsEnabled opening (at w1 9) 1 (Take Tree 9)
known_2 = record { data_allows = rewrites.1.1.1.1.0.flow; asks = λ e. cc }

known_3 : IsEnabled opening (at w2 9) 1 draft_act
known_3 = let on = rewrites.1.1.1.1.1.0 in record {
  data_allows = on.flow;
  asks = (
    refl,
    refl,
    refl,
    on.store.1.0.4,
    record {
      held = refl;
      unnamed = refl;
      vacant = on.store.1.0.1;
      room = omega arith;
      inside = refl;
      first = on.store.2.first;
      seq = refl;
    },
  );
}

known_4 : IsEnabled opening (at w3 10) 1 ForgetDrafts
known_4 = record { data_allows = rewrites.1.1.1.1.1.1.0.flow; asks = tt }

known_5 : IsEnabled opening (at w4 10) 1 (LetGo 9 false)
known_5 = record { data_allows = rewrites.1.1.1.1.1.1.1.0.flow; asks = (inr ((λ j. 3), (λ i j x y e. omega arith), λ j lt. refl), λ h. vacant_9) }

known_6 : IsEnabled opening (at w5 10) 1 (Take Tree 10)
known_6 = record { data_allows = rewrites.1.1.1.1.1.1.1.1.0.flow; asks = λ e. cc }

known_7 : IsEnabled opening (at w6 10) 1 leaf_act
known_7 = let on = rewrites.1.1.1.1.1.1.1.1.1.0 in record {
  data_allows = on.flow;
  asks = (
    refl,
    refl,
    refl,
    on.store.1.0.4,
    record {
      held = refl;
      unnamed = refl;
      vacant = on.store.1.0.1;
      room = omega arith;
      inside = refl;
      first = on.store.2.first;
      seq = refl;
    },
  );
}

known_8 : IsEnabled opening (at w7 11) 1 CacheBarrier
known_8 = record { data_allows = rewrites.1.1.1.1.1.1.1.1.1.1.0.flow; asks = tt }

known_9 : IsEnabled opening (at w8 11) 1 change_act
known_9 = let on = rewrites.1.1.1.1.1.1.1.1.1.1.1.0 in record { data_allows = on.flow; asks = (on.store.1.0, on.together) }

known_10 : IsEnabled opening (at w9 11) 1 parent_act
known_10 = let on = rewrites.1.1.1.1.1.1.1.1.1.1.1.1.0 in record { data_allows = on.flow; asks = (on.store.1.0, on.store.2.1) }

known_11 : IsEnabled opening (at w10 11) 1 CacheBarrier
known_11 = record { data_allows = rewrites.1.1.1.1.1.1.1.1.1.1.1.1.1.0.flow; asks = tt }

known_12 : IsEnabled opening (at w11 11) 1 over_act
known_12 = let on = rewrites.1.1.1.1.1.1.1.1.1.1.1.1.1.1.0 in record { data_allows = on.flow; asks = (on.store.1.0, on.together.0, (refl, (tt, ((refl, given_5), tt)))) }

pub rewrites_on : Leads (at s29 9) rewriting (at w12 11)
rewrites_on = go (at s29 9) (one CacheBarrier) (at w0 9) known_0 refl
    (go (at w0 9) (one (BeginBucket 1)) (at w1 9) known_1 refl
    (go (at w1 9) (one (Take Tree 9)) (at w2 9) known_2 refl
    (go (at w2 9) (one draft_act) (at w3 10) known_3 refl
    (go (at w3 10) (one ForgetDrafts) (at w4 10) known_4 refl
    (go (at w4 10) (one (LetGo 9 false)) (at w5 10) known_5 refl
    (go (at w5 10) (one (Take Tree 10)) (at w6 10) known_6 refl
    (go (at w6 10) (one leaf_act) (at w7 11) known_7 refl
    (go (at w7 11) (one CacheBarrier) (at w8 11) known_8 refl
    (go (at w8 11) (one change_act) (at w9 11) known_9 refl
    (go (at w9 11) (one parent_act) (at w10 11) known_10 refl
    (go (at w10 11) (one CacheBarrier) (at w11 11) known_11 refl
    (go (at w11 11) (one over_act) (at w12 11) known_12 refl stay))))))))))))
