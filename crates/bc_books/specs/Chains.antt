-- Priority chains: the priority sets of an entry, one in each of its buckets. They are numbered as
-- entries with a new chain are sealed, the opening's being 0.
use Rattle.std.specs.Prelude.{◌≡◌, ℕ, suc, ◌<◌, Bool, false, Option, Some, None, if◌then◌else◌, ◌==◌}
use Rattle.bc_books.specs.Shelves.{Shelf, Loose, back}

pub record Chains : Type 0 where
  -- the chain that a bucket is of
  pub of : ℕ → Option ℕ
  -- the chain whose buckets were marked last and whose generations the lists stand on
  pub ready : ℕ
  -- the chains of the durable entry and of the sealed one
  pub durable : ℕ
  pub sealed : ℕ

-- so many buckets of which P holds, each another one
abbrev pub Many : ℕ → (ℕ → Type 0) → Type 0
Many count P = (at : ℕ → ℕ) × ((i j : ℕ) → i < count → j < count → at i ≡ at j → i ≡ j)
    × ((j : ℕ) → j < count → P (at j))

-- whether it is of chain number n
abbrev pub is_chain : Option ℕ → ℕ → Bool
is_chain None n = false
is_chain (Some c) n = c == n

-- a bucket of the chain that is replaced is of no chain
abbrev pub given_up : ℕ → Option ℕ → Option ℕ
given_up ready None = None
given_up ready (Some c) = if c == ready then None else Some c

-- where a bucket stands once the next chain is ready: those of the replaced one go back to their
-- list, those of the next one are let go
abbrev pub at_ready : ℕ → Option ℕ → Bool → Shelf → Shelf
at_ready ready None room old = old
at_ready ready (Some c) room old =
    if c == ready then back room else (if c == suc ready then Loose else old)
