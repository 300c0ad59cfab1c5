-- The sizes that blocks and buckets may have, in sectors.
use Rattle.std.specs.Prelude.{ℕ, Bool, [], ◌∷◌, ◌==◌}
use Rattle.std.specs.List.{list_any}

abbrev pub is_block : ℕ → Bool
is_block n = list_any (λ size. size == n) (1 ∷ 2 ∷ 4 ∷ 8 ∷ [])

abbrev pub is_bucket : ℕ → Bool
is_bucket n = list_any (λ size. size == n) (64 ∷ 128 ∷ 256 ∷ 512 ∷ 1024 ∷ 2048 ∷ 4096 ∷ 8192 ∷ 16384 ∷ 32768 ∷ [])
