use Rattle.std.proofs.Common.{[], ◌∷◌, ◌++◌, ◌+◌, ◌≡◌, ◌∙◌, List, length, refl, ap, arith, lit≤, length-append}
use Rattle.bc_model.specs.declared.history.Entry.{Entry}
use Rattle.bc_model.specs.Values.{patterns}
use Rattle.bc_script.specs.Served.{ServedFrom}
use Rattle.bc_model.specs.declared.history.Entry.TheVariants.{Write, Read, FlushFrom, FlushDone}
use Rattle.bc_script.specs.Example.{example_values, example_lines, example_answers, example_history, unfinished_history}
use Rattle.bc_script.proofs.Marks.{is_served, one_by_one}
use Rattle.bc_script.proofs.laws.served_example.Goals as goal

pub returns-clause-meets : goal.returns-clause-meets
returns-clause-meets c = is_served 64 example_lines example_answers example_history (
  Write 1 1 0 (patterns 7 0 8) ∷ [],
  Read 1 2 0 example_values ∷ FlushFrom 1 3 ∷ FlushDone 1 3 ∷ [],
  refl,
  (lit≤ tt, refl),
  (
    Read 1 2 0 example_values ∷ [],
    FlushFrom 1 3 ∷ FlushDone 1 3 ∷ [],
    refl,
    (lit≤ tt, refl, (example_values, [], [], refl, refl, refl, (refl, refl))),
    (FlushFrom 1 3 ∷ FlushDone 1 3 ∷ [], [], refl, refl, refl),
  ),
)

-- four entries are wanted, and three are there
unfinished : ServedFrom 64 1 example_lines example_answers unfinished_history → ⊥
unfinished (f, l, is, s, (g, m, js, t, (h, n, ks, u, end))) =
    let count = λ (es : List Entry). length es in
    let a : 3 ≡ length (f ++ l) = ap count is in
    let b = length-append f l in
    let c : length l ≡ length (g ++ m) = ap count js in
    let d = length-append g m in
    let e : length m ≡ length (h ++ n) = ap count ks in
    let i = length-append h n in
    let one : length f ≡ 1 = ap count s.1 in
    let two : length g ≡ length (t.2.2) + 1 = ap count t.2.5 ∙ omega arith in
    let three : length h ≡ 2 = ap count u in
    omega arith

pub returns-clause-misses : goal.returns-clause-misses
returns-clause-misses c = λ h. unfinished (one_by_one 64 1 example_lines example_answers unfinished_history (refl, (refl, (refl, tt))) h)
