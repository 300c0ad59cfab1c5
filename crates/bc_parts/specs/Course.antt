-- Lists of events, each of which may happen behind those before it.
use Rattle.std.specs.Prelude.{List, [], ◌∷◌}

abbrev pub IsCourse : {S E : Type 0} → (S → E → Type 0) → (S → E → S) → S → List E → Type 0
IsCourse enabled after x [] = Unit {0}
IsCourse enabled after x (e ∷ es) = enabled x e × IsCourse enabled after (after x e) es
