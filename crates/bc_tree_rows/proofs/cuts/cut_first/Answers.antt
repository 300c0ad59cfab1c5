use Rattle.std.proofs.Common.{[], ◌∷◌, refl, arith}
use Rattle.std.proofs.lemmas.List.Elements.{All-nil, All-cons}
use Rattle.std.proofs.lemmas.List.Kept.{AllPairs-cons}
use Rattle.std.specs.Prelude.{All}
use Rattle.bc_key.specs.declared.key.Key.{Key}
use Rattle.bc_tree.specs.Children.{EndsBefore, HasPointer}
use Rattle.bc_tree_rows.proofs.cuts.cut_first.Goals as goal

pub set_keys-requires : goal.set_keys-requires
set_keys-requires c =
    let low = c.args.low.now in
    let high = c.args.high.now in
    let other = c.args.other.now in
    let last = AllPairs-cons EndsBefore other [] (All-nil (EndsBefore other)) (λ i j d before inside. absurd (omega arith)) in
    let old = AllPairs-cons EndsBefore high (other ∷ []) (All-cons (EndsBefore high) other [] c.requires.behind (All-nil (EndsBefore high))) last in
    record {
      some = omega arith;
      within = omega arith;
      order = old;
      after = AllPairs-cons EndsBefore low (high ∷ other ∷ [])
          (All-cons (EndsBefore low) high (other ∷ []) c.requires.order
          (All-cons (EndsBefore low) other [] (omega (arith, c.requires.order, c.requires.behind)) (All-nil (EndsBefore low))))
          old;
      live = All-cons HasPointer low (high ∷ []) c.requires.low (All-cons HasPointer high [] c.requires.high (All-nil HasPointer));
      ends = record { before = low ∷ []; last = high; are = refl; ends = λ d. refl };
      behind = All-nil (λ (child : Key). All (EndsBefore child) (low ∷ high ∷ []));
    }
