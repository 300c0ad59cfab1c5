-- Words that are kept as parts of a text.
use Rattle.std.specs.Prelude.{ℕ, List, map}
use Rattle.std.specs.Borrow.{Bor}

-- what they are
abbrev pub texts : List (Bor (List ℕ)) → List (List ℕ)
texts said = map (λ word. word.now) said
