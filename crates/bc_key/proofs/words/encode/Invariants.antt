use Rattle.std.proofs.Common.{◌≡◌, ◌+◌, ◌∷◌, ◌++◌, map, take, drop}
use Rattle.bc_key.specs.Words.{high_word, ptr_word}
use Rattle.bc_key.proofs.words.encode.Given as goal

abbrev pub invariant-loop-i : goal.invariant-loop-i
invariant-loop-i l =
    l.into ≡ (high_word l.k ∷ l.k.end ∷ map ptr_word (take l.i l.k.ptrs)) ++ drop (2 + l.i) l.fn.into
