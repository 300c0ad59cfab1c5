-- The newest entry, and whether one can come behind it.
use Rattle.std.proofs.Common.{◌≡◌, inl, inr, List, [], ◌∷◌, ◌++◌, sym, ap, ◌∙◌, subst}
use Rattle.bc_disk.specs.declared.geometry.Geometry.{Geometry}
use Rattle.bc_enter.specs.Next.{IsOdd}
use Rattle.bc_entries.specs.Journal.{Journal}
use Rattle.bc_entries.specs.Lists.{IsFit}
use Rattle.bc_jset.specs.Entries.{FoundEntry}
use Rattle.bc_jset.specs.EntryBytes.{IsLevel}
use Rattle.bc_resume.proofs.Held.{newest_of}

-- the last of them is one
pub not_odd : (g : Geometry) (read : Journal) → IsFit g read.all read.entries
    → (older : List FoundEntry) (newest : FoundEntry) → read.entries ≡ older ++ newest ∷ []
    → IsLevel newest.item.level → ¬ (newest.item.last_seq ≡ 0) → ¬ (IsOdd read)
not_odd g read fit older newest parts level some odd =
    let same : odd.newest ≡ newest =
    sym (newest_of g read.all read.entries fit odd.older odd.newest odd.parts)
    ∙ newest_of g read.all read.entries fit older newest parts in
    elim odd.odd [
      | inl never ↦ never (subst (λ (e : FoundEntry). IsLevel e.item.level) (sym same) level)
      | inr none ↦ some (sym (ap (λ (e : FoundEntry). e.item.last_seq) same) ∙ none)
    ]
