-- The contents that read wrongly.
use Rattle.std.proofs.Common.{◌≡◌, inl, inr, ℕ, List, [], ◌∷◌, ◌++◌, Some, None, refl, sym, subst, arith, lit<, if◌then◌else◌, ◌==◌}
use Rattle.bc_key.specs.declared.key.Key.{Key}
use Rattle.bc_meta.specs.Events as event
use Rattle.bc_meta.specs.Records.{MayHold, MayRead, Node, records_after, stable_node}
use Rattle.bc_meta.specs.Tree.{NodeSet, NodeSets}
use Rattle.bc_meta.specs.Keys.{Ref}
use Rattle.bc_meta.proofs.Lists.{by_test}
use Rattle.bc_leaves.specs.Events.{Barrier, BeginChange, Event, FailParent, Insert, NewInner, NewLeaf, SealRoot, SetParent, WriteEntry}
use Rattle.bc_leaves.specs.Enabled.{IsRun}
use Rattle.bc_leaves.specs.Parts.{State}
use Rattle.bc_leaves.specs.After.{after, fold}
use Rattle.bc_leaves_runs.specs.Teeth.{LawTeethDurable, LawTeethInstall, LawTeethLost, LawTeethRoot, LawTeethSeal, LawTeethStable}
use Rattle.bc_leaves_runs.proofs.Example.{adopt_1, adopt_2, all_but, append_root, child, children_set, commit_allowed, further_allowed, insert_run, inserted, install_1, install_2, is_start, key_a, key_at, key_b, keys_set, leaf_1, leaf_2, leaf_3, new_leaf, root_1, seal_root, second_root, set, set_run, split, split_allowed, split_run, start}

-- each node has its sets, but one, which has these
abbrev pub but : (ℕ → Node) → ℕ → List NodeSet → NodeSets
but nodes q ss p = if p == q then ss else (nodes p).sets

but_choice : (nodes : ℕ → Node) (q : ℕ) (ss : List NodeSet) → MayHold (nodes q) ss → MayRead nodes (but nodes q ss)
but_choice nodes q ss m p = by_test p q (λ t. MayHold (nodes p) (if t then ss else (nodes p).sets)) (λ e. subst (λ (n : ℕ). MayHold (nodes n) ss) (sym e) m) (λ _. inr (inl refl))

none_some : (r : Ref) → None ≡ Some r → ⊥
none_some r e = cc

some_none : (r : Ref) → Some r ≡ None → ⊥
some_none r e = cc

run_then : (st : State) (xs ys : List Event) → IsRun st xs → IsRun (fold st xs) ys → IsRun st (xs ++ ys)
run_then st [] ys a b = b
run_then st (x ∷ xs) ys a b = (a.0, run_then (after st x) xs ys a.1 b)

-- up to the further set
abbrev pub first_runs : List Event
first_runs = insert_run ++ (split_run ++ set_run)

first_run : (more : List Event) → IsRun set more → IsRun start (insert_run ++ (split_run ++ (set_run ++ more)))
first_run more r = run_then start insert_run (split_run ++ (set_run ++ more)) commit_allowed (run_then inserted split_run (set_run ++ more) split_allowed (run_then split set_run more further_allowed r))

abbrev pub key_d : Key
key_d = key_at 7 1 50 (lit< tt) (lit< tt) (lit< tt)

abbrev pub with_key : State
with_key = after set (Insert 2 key_d)

abbrev pub with_leaf : State
with_leaf = after set (NewLeaf 3 (new_leaf 4 8 3) (keys_set 10 (key_b ∷ [])) [])

abbrev pub key_nodes : ℕ → Node
key_nodes = (records_after with_key.records (event.AddSet 5 (keys_set 8 (key_d ∷ [])) [] with_key.records.unused)).nodes

abbrev pub leaf_nodes : ℕ → Node
leaf_nodes = (records_after with_leaf.records (event.AddSet 6 (children_set 9 (child 8 3 ∷ [])) [] with_leaf.records.unused)).nodes

abbrev pub change_run : List Event
change_run = NewLeaf 3 (new_leaf 4 8 3) (keys_set 10 (key_b ∷ [])) [] ∷ Barrier ∷ BeginChange 4 8 (2 ∷ []) (3 ∷ []) [] [] (all_but (3 ∷ 4 ∷ 5 ∷ 6 ∷ [])) ∷ SetParent 1 (children_set 9 (child 8 3 ∷ [])) [] ∷ []

-- the same set, but its write failed, and a barrier came after it
abbrev pub lost_run : List Event
lost_run = NewLeaf 3 (new_leaf 4 8 3) (keys_set 10 (key_b ∷ [])) [] ∷ Barrier ∷ BeginChange 4 8 (2 ∷ []) (3 ∷ []) [] [] (all_but (3 ∷ 4 ∷ 5 ∷ 6 ∷ [])) ∷ FailParent 1 (children_set 9 (child 8 3 ∷ [])) [] ∷ Barrier ∷ []

abbrev pub with_set : State
with_set = fold set change_run

abbrev pub with_lost : State
with_lost = fold set lost_run

pub law_teeth_seal : LawTeethSeal
law_teeth_seal = (
  start,
  Insert 0 key_b ∷ [],
  (
    2,
    record {
      opening = is_start;
      run = (commit_allowed.0, tt);
      rest = (refl, (omega arith), (omega arith));
      refused = λ on. none_some _ ((on.0.4 (λ p. (stable_node ((after start (Insert 0 key_b)).records.nodes p)).sets) (λ p. inr (inl refl))).0 1);
    },
  ),
)

pub law_teeth_durable : LawTeethDurable
law_teeth_durable = (
  start,
  insert_run ++ (split_run ++ (set_run ++ (Insert 2 key_d ∷ []))),
  2,
  (
    keys_set 8 (key_d ∷ []),
    record {
      opening = is_start;
      run = first_run (Insert 2 key_d ∷ []) ((refl, ((omega arith), (omega arith))), tt);
      rest = (refl, refl, (λ e. absurd (cc)), (λ s. refl), refl);
      refused = λ on. some_none _ ((on.0.1.0 (but key_nodes 5 ((key_nodes 5).last ∷ (key_nodes 5).sets)) (but_choice key_nodes 5 ((key_nodes 5).last ∷ (key_nodes 5).sets) (inr (inr (inl refl, refl))))).0 6);
    },
  ),
)

pub law_teeth_stable : LawTeethStable
law_teeth_stable = (
  start,
  insert_run ++ (split_run ++ (set_run ++ (NewLeaf 3 (new_leaf 4 8 3) (keys_set 10 (key_b ∷ [])) [] ∷ []))),
  1,
  3,
  child 8 3,
  (
    children_set 9 (child 8 3 ∷ []),
    record {
      opening = is_start;
      run = first_run (NewLeaf 3 (new_leaf 4 8 3) (keys_set 10 (key_b ∷ [])) [] ∷ []) (leaf_3, tt);
      rest = (tt, refl, refl, refl, inl refl, refl);
      refused = λ on. (on.0.1.0 (but leaf_nodes 6 ((leaf_nodes 6).last ∷ (leaf_nodes 6).sets)) (but_choice leaf_nodes 6 ((leaf_nodes 6).last ∷ (leaf_nodes 6).sets) (inr (inr (inl refl, refl))))).1.1.1.0 refl;
    },
  ),
)

pub law_teeth_install : LawTeethInstall
law_teeth_install = (
  start,
  insert_run ++ (split_run ++ (set_run ++ change_run)),
  1,
  (
    all_but (3 ∷ 4 ∷ 6 ∷ []),
    record {
      opening = is_start;
      run = first_run change_run (leaf_3, (tt, (adopt_2, (append_root, tt))));
      rest = (refl, install_2.1);
      refused = λ on. ((on.0.0 (λ p. (with_set.records.nodes p).sets) (λ p. inr (inl refl))).2 5 refl).1.1.0 refl;
    },
  ),
)

pub law_teeth_lost : LawTeethLost
law_teeth_lost = (
  start,
  insert_run ++ (split_run ++ (set_run ++ lost_run)),
  (
    all_but (3 ∷ 4 ∷ 6 ∷ []),
    record {
      opening = is_start;
      run = first_run lost_run (leaf_3, (tt, (adopt_2, (append_root, (tt, tt)))));
      rest = (refl, install_2.1);
      refused = λ on. ((on.0.0 (λ p. (with_lost.records.nodes p).sets) (λ p. inr (inl refl))).2 5 refl).1.1.0 refl;
    },
  ),
)

-- the new root's entry is written, and not durable
abbrev root_run : List Event
root_run =
    NewLeaf 1 (new_leaf 0 4 4) (keys_set 7 (key_a ∷ [])) [] ∷ NewLeaf 2 (new_leaf 4 8 5) (keys_set 8 (key_b ∷ [])) [] ∷ NewInner 1 second_root (children_set 9 (child 4 4 ∷ child 8 5 ∷ [])) [] ∷ Barrier
    ∷ BeginChange 0 8 (0 ∷ []) (1 ∷ 2 ∷ []) (0 ∷ []) (1 ∷ []) (all_but (2 ∷ 3 ∷ 4 ∷ 5 ∷ 6 ∷ []))
    ∷ SealRoot 1 0 [] 1 ∷ Barrier ∷ WriteEntry [] ∷ Barrier ∷ []

abbrev with_root : State
with_root = fold inserted root_run

pub law_teeth_root : LawTeethRoot
law_teeth_root = (
  start,
  insert_run ++ root_run,
  3,
  (
    all_but (4 ∷ 5 ∷ 6 ∷ []),
    record {
      opening = is_start;
      run = run_then start insert_run root_run commit_allowed (leaf_1, (leaf_2, (root_1, (tt, (adopt_1, (seal_root, (tt, (refl, (tt, tt)))))))));
      rest = (refl, install_1.1);
      refused = λ on. ((on.0.0 (λ p. (with_root.records.nodes p).sets) (λ p. inr (inl refl))).2 2 refl).0 refl;
    },
  ),
)
