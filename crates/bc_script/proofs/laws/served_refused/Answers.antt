use Rattle.std.proofs.Common.{[], ◌∷◌, ◌++◌, ◌∙◌, inr, refl, ap, List, append-nil, lit≤}
use Rattle.bc_model.specs.declared.history.Entry.{Entry}
use Rattle.bc_model.specs.Values.{patterns}
use Rattle.bc_model.specs.declared.history.Entry.TheVariants.{Tried}
use Rattle.bc_script.proofs.Examples.{first_piece, second_piece, missing}
use Rattle.bc_script.proofs.Marks.{is_served, one_by_one}
use Rattle.bc_script.specs.Example.{refused_lines, refused_answers, refused_history, missing_history}
use Rattle.bc_script.proofs.laws.served_refused.Goals as goal

pub returns-clause-meets : goal.returns-clause-meets
returns-clause-meets c = is_served 1024 refused_lines refused_answers refused_history (
  refused_history,
  [],
  refl,
  (lit≤ tt, first_piece ∷ [], second_piece, Tried 256 (patterns 7 256 10) ∷ [], ([], refl), inr refl, refl),
  refl,
)

pub returns-clause-misses : goal.returns-clause-misses
returns-clause-misses c = λ h.
    let f = one_by_one 1024 1 refused_lines refused_answers missing_history (refl, tt) h in
    let s = f.3 in
    missing s.1 s.4.0 s.2 s.3 s.4.1 s.5 (f.2 ∙ ap (λ (es : List Entry). f.0 ++ es) f.4 ∙ append-nil f.0 ∙ s.6)
