use Rattle.std.proofs.Common.{[], ◌∷◌, inl, inr, refl, lit≤, arith}
use Rattle.bc_model.specs.Values.{patterns}
use Rattle.bc_model.specs.declared.history.Entry.TheVariants.{Write, Read, Durable}
use Rattle.bc_script.specs.Example.{beside_values}
use Rattle.bc_script.proofs.Examples.{undurable}
use Rattle.bc_script.proofs.laws.served_beside.Goals as goal

pub returns-clause-meets : goal.returns-clause-meets
returns-clause-meets c = record {
  marked = record { number = 2; entry = Write 2 2 8 (patterns 9 8 8) } ∷ record { number = 1; entry = Write 1 1 0 (patterns 7 0 8) }
      ∷ record { number = 2; entry = Durable 2 2 8 8 } ∷ record { number = 4; entry = Read 1 4 0 beside_values } ∷ [];
  entries = refl;
  known = ((lit≤ tt, lit≤ tt), ((lit≤ tt, lit≤ tt), ((lit≤ tt, lit≤ tt), ((lit≤ tt, lit≤ tt), tt))));
  serves = ((lit≤ tt, refl), ((lit≤ tt, refl), ((refl, refl), ((lit≤ tt, refl, (beside_values, [], [], refl, refl, refl, (refl, refl))), tt))));
  order = (
    (inr ((λ same. absurd (omega (arith, same))), refl), (inl (lit≤ tt), (inl (lit≤ tt), tt))),
    ((inl (lit≤ tt), (inl (lit≤ tt), tt)), ((inl (lit≤ tt), tt), (tt, tt))),
  );
}

pub returns-clause-misses : goal.returns-clause-misses
returns-clause-misses c = λ h. undurable h.marked h.entries h.serves
