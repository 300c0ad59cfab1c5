-- What a format is good for: the laws that finding records rests on.
use Rattle.std.specs.Prelude.{◌≡◌, ◌⊎◌, ℕ, ◌<◌, ◌≤◌, List, length, take}
use Rattle.bc_record.specs.Kind.{Kind}

-- it holds, or it doesn't
abbrev pub Decided : Type 0 → Type 0
Decided P = P ⊎ (P → ⊥)

pub record IsCodec {A : Type 0} (kind : Kind A) : Type 0 where
  pub block : 0 < kind.block
  pub some : (e : A) → 0 < kind.bytes e
  -- bytes begin with one record or with none
  pub decide : (bytes : List ℕ) → Decided ((e : A) × kind.Begins bytes e)
  pub one : (bytes : List ℕ) (d e : A) → kind.Begins bytes d → kind.Begins bytes e → d ≡ e
  -- a record is whole, and rests on its own bytes alone
  pub fits : (bytes : List ℕ) (e : A) → kind.Begins bytes e → kind.bytes e ≤ length bytes
  pub stays : (old new : List ℕ) (e : A) → kind.Begins old e → take (kind.bytes e) new ≡ take (kind.bytes e) old → kind.Begins new e
