-- Where buckets go that are ready to be taken again, and that the event says so.
use Rattle.std.specs.Prelude.{ℕ, zero, suc, ◌-◌, List, [], ◌∷◌, map, take, slice_index_or, Option, Some, None, if◌then◌else◌}
use Rattle.bc_alloc.specs.Reserve.{Reserve, free, has_room, no_reserve}
use Rattle.bc_alloc.specs.Reserves.{stored}
use Rattle.bc_alloc.specs.declared.purpose.Purpose.{Purpose}
use Rattle.bc_alloc.specs.declared.purpose.Purpose.TheVariants as list
use Rattle.bc_events.specs.declared.event.Listing.{Listing}

-- the purpose of the list at this place
abbrev pub purpose_at : ℕ → Purpose
purpose_at zero = list.Priorities
purpose_at (suc zero) = list.Moving
purpose_at (suc (suc zero)) = list.Tree
purpose_at (suc (suc (suc i))) = list.Plain

-- the first list that has room, of those from this place on
abbrev pub goes_from : ℕ → List Reserve → Option Purpose
goes_from i [] = None
goes_from i (l ∷ ls) = if has_room l then Some (purpose_at i) else goes_from (suc i) ls

abbrev pub goes_to : List Reserve → Option Purpose
goes_to ls = goes_from 0 ls

-- Buckets that go one after the other to the first list that has room, or to none. The core counts
-- them from the journal's first one on.
abbrev pub listings : (before : ℕ) → List ℕ → List Reserve → List Listing
listings before [] ls = []
listings before (k ∷ ks) ls =
    record { bucket = k - before; list = goes_to ls } ∷ listings before ks (stored k ls)

-- the list priorities
abbrev pub first_list : List Reserve → Reserve
first_list ls = slice_index_or ls 0 no_reserve

-- the first ones of the chain before, as many as the list priorities has room for
abbrev pub given_back : (before : ℕ) → List ℕ → List Reserve → List ℕ
given_back before ks ls = map (λ k. k - before) (take (free (first_list ls)) ks)
