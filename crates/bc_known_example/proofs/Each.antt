-- Each kind of act is in the run.
use Rattle.std.proofs.Common.{◌≡◌, ◌≢◌, inl, inr, ℕ, zero, suc, List, [], ◌∷◌, ◌++◌, Option, Some, None, refl, sym}
use Rattle.bc_meta.specs.Facts.{In}
use Rattle.bc_whole.specs.Uses.{Kind, Quiet, Keys, Data, Entry, Set, ParentSet, Leaf, Inner, Priorities, Elsewhere, Fault, Barrier, Sealed, Durable, NextBucket, Taken, Released, Chain, Spare, Change, Installed, Drafts}
use Rattle.bc_whole.proofs.Start.{opening, held}
use Rattle.bc_whole.proofs.Built.{s0}
use Rattle.bc_known.specs.Acts.{Event}
use Rattle.bc_known_example.specs.Uses.{HasKind, HasAllActs}
use Rattle.bc_known_example.proofs.Opened.{sound}
use Rattle.bc_known_example.proofs.Leads.{Leads, at, then}
use Rattle.bc_known_example.proofs.Ended.{before, begins_on}
use Rattle.bc_known_example.proofs.Rewritten.{rewriting, rewrites_on}
use Rattle.bc_known_example.proofs.Used.{w21, dropping, drops_on}

abbrev pub events : List Event
events = before ++ (rewriting ++ dropping)

leads : Leads (at s0 7) events (at w21 11)
leads = then before (rewriting ++ dropping) begins_on
    (then rewriting dropping rewrites_on drops_on)

-- the event at a place of a list
abbrev nth : List Event → ℕ → Option Event
nth [] n = None
nth (e ∷ es) zero = Some e
nth (e ∷ es) (suc n) = nth es n

nth_in : (es : List Event) (n : ℕ) (e : Event) → nth es n ≡ Some e → In e es
nth_in [] n e h = absurd (cc)
nth_in (x ∷ xs) zero e h = inl (sym (some_event x e h))
  where
    some_event : (a b : Event) → Some a ≡ Some b → a ≡ b
    some_event a b e = cc
nth_in (x ∷ xs) (suc n) e h = inr (nth_in xs n e h)

each_kind : (k : Kind) → k ≢ Spare → HasKind events k
each_kind Quiet ne = (_, nth_in events 0 _ refl, refl)
each_kind Keys ne = (_, nth_in events 21 _ refl, refl)
each_kind Data ne = (_, nth_in events 19 _ refl, refl)
each_kind Entry ne = (_, nth_in events 11 _ refl, refl)
each_kind Set ne = (_, nth_in events 28 _ refl, refl)
each_kind ParentSet ne = (_, nth_in events 39 _ refl, refl)
each_kind Leaf ne = (_, nth_in events 5 _ refl, refl)
each_kind Inner ne = (_, nth_in events 6 _ refl, refl)
each_kind Priorities ne = (_, nth_in events 2 _ refl, refl)
each_kind Elsewhere ne = (_, nth_in events 50 _ refl, refl)
each_kind Fault ne = (_, nth_in events 47 _ refl, refl)
each_kind Barrier ne = (_, nth_in events 7 _ refl, refl)
each_kind Sealed ne = (_, nth_in events 9 _ refl, refl)
each_kind Durable ne = (_, nth_in events 13 _ refl, refl)
each_kind NextBucket ne = (_, nth_in events 30 _ refl, refl)
each_kind Taken ne = (_, nth_in events 1 _ refl, refl)
each_kind Released ne = (_, nth_in events 34 _ refl, refl)
each_kind Chain ne = (_, nth_in events 15 _ refl, refl)
each_kind Spare ne = absurd (ne refl)
each_kind Change ne = (_, nth_in events 8 _ refl, refl)
each_kind Installed ne = (_, nth_in events 14 _ refl, refl)
each_kind Drafts ne = (_, nth_in events 33 _ refl, refl)

pub has_all_acts : HasAllActs
has_all_acts = (
  opening,
  held,
  7,
  (events, record { sound = sound; course = leads.course; each = each_kind }),
)
