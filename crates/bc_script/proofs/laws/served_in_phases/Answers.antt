use Rattle.std.proofs.Common.{[], ◌∷◌, inl, refl, lit≤}
use Rattle.bc_model.specs.Values.{patterns}
use Rattle.bc_model.specs.declared.history.Entry.TheVariants.{Write, Read}
use Rattle.bc_script.proofs.Examples.{broken}
use Rattle.bc_script.proofs.laws.served_in_phases.Goals as goal

pub returns-clause-meets : goal.returns-clause-meets
returns-clause-meets c = record {
  marked = record { number = 1; entry = Write 1 1 0 (patterns 7 0 8) } ∷ record { number = 3; entry = Read 2 3 0 (patterns 7 0 8) } ∷ [];
  entries = refl;
  known = ((lit≤ tt, lit≤ tt), ((lit≤ tt, lit≤ tt), tt));
  serves = ((lit≤ tt, refl), ((refl, refl), ((lit≤ tt, refl, (patterns 7 0 8, [], [], refl, refl, refl, (refl, refl))), tt)));
  order = ((inl (lit≤ tt), tt), (tt, tt));
}

pub returns-clause-broken : goal.returns-clause-broken
returns-clause-broken c = λ h. broken h.marked h.entries h.known h.serves h.order
