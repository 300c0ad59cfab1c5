-- Which way a piece of a write goes, and whether a read fills the cache.
use Rattle.std.specs.Prelude.{ℕ, Bool, true, false, ◌&&◌, ◌||◌, not, nat_lt, nat_le, List, [], ◌∷◌, Option, Some, None, if◌then◌else◌}
use Rattle.bc_mode.specs.declared.mode.Mode.{Mode}
use Rattle.bc_mode.specs.declared.mode.Mode.TheVariants as modes
use Rattle.bc_mode.specs.declared.path.Path.{Path}
use Rattle.bc_mode.specs.declared.path.Path.TheVariants as paths

abbrev pub is_none : Mode → Bool
is_none modes.None = true
is_none m = false

abbrev pub is_writearound : Mode → Bool
is_writearound modes.Writearound = true
is_writearound m = false

abbrev pub is_writeback : Mode → Bool
is_writeback modes.Writeback = true
is_writeback m = false

abbrev pub is_writethrough : Mode → Bool
is_writethrough modes.Writethrough = true
is_writethrough m = false

-- a streak that is too long for the cache; with a cutoff of 0 none is
abbrev pub is_long : ℕ → ℕ → Bool
is_long streak cutoff = nat_lt 0 cutoff && nat_le cutoff streak

-- a rule's condition, and the path that it gives
abbrev pub Rule : Type 0
Rule = Bool × Path

-- the rules for a piece of a write, in order
abbrev pub rules_for : Mode → Bool → ℕ → ℕ → List Rule
rules_for mode overlaps_dirty streak cutoff =
    (overlaps_dirty, paths.Writeback)
    ∷ (is_none mode || is_writearound mode, paths.Around)
    ∷ (is_long streak cutoff, paths.Around)
    ∷ (is_writeback mode, paths.Writeback)
    ∷ (is_writethrough mode, paths.Through)
    ∷ []

-- the path of the first rule whose condition holds
abbrev pub first_fit : List Rule → Option Path
first_fit [] = None
first_fit (r ∷ rs) = if r.0 then Some r.1 else first_fit rs

-- whether a read's sectors that come from the backing device are put into the cache
abbrev pub fills : Mode → ℕ → ℕ → Bool
fills mode streak cutoff = not (is_none mode || is_long streak cutoff)
