-- Each kind of act is in the run.
use Rattle.std.proofs.Common.{◌≡◌, inl, inr, ℕ, zero, suc, List, [], ◌∷◌, ◌++◌, Option, Some, None, refl, sym}
use Rattle.bc_meta.specs.Facts.{In}
use Rattle.bc_whole.specs.State.{Event}
use Rattle.bc_whole.specs.Run.{IsRun, run}
use Rattle.bc_whole.specs.Uses.{Kind, Quiet, Keys, Data, Entry, Set, ParentSet, Leaf, Inner, Priorities, Elsewhere, Fault, Barrier, Sealed, Durable, NextBucket, Taken, Released, Chain, Spare, Change, Installed, Drafts, HasKind, HasAllActs}
use Rattle.bc_whole.proofs.Start.{opening, held, sound}
use Rattle.bc_whole.proofs.Built.{s0, building, builds, by_one}
use Rattle.bc_whole.proofs.Grown.{growing, grows}
use Rattle.bc_whole.proofs.Stored.{s28, storing, stores}
use Rattle.bc_whole.proofs.Failed.{run_on}
use Rattle.bc_whole.proofs.Rewritten.{v13, rewriting, rewrites}
use Rattle.bc_whole.proofs.Used.{dropping, late, drops, lates}

abbrev pub events : List Event
events = by_one building ++ (by_one growing ++ (by_one storing ++ (by_one rewriting
    ++ (by_one dropping ++ late))))

run_all : IsRun opening s0 events
run_all = run_on s0 (by_one building) (by_one growing ++ (by_one storing ++ (by_one rewriting
    ++ (by_one dropping ++ late)))) builds
    (run_on (run opening s0 (by_one building)) (by_one growing) (by_one storing ++ (by_one rewriting
    ++ (by_one dropping ++ late))) grows
    (run_on (run opening (run opening s0 (by_one building)) (by_one growing)) (by_one storing)
    (by_one rewriting ++ (by_one dropping ++ late)) stores
    (run_on s28 (by_one rewriting) (by_one dropping ++ late) rewrites
    (run_on v13 (by_one dropping) late drops lates))))

-- the event at a place of a list
abbrev nth : List Event → ℕ → Option Event
nth [] n = None
nth (e ∷ es) zero = Some e
nth (e ∷ es) (suc n) = nth es n

nth_in : (es : List Event) (n : ℕ) (e : Event) → nth es n ≡ Some e → In e es
nth_in [] n e h = absurd (cc)
nth_in (x ∷ xs) zero e h = inl (sym (some_event x e h))
  where
    some_event : (a b : Event) → Some a ≡ Some b → a ≡ b
    some_event a b e = cc
nth_in (x ∷ xs) (suc n) e h = inr (nth_in xs n e h)

each_kind : (k : Kind) → HasKind events k
each_kind Quiet = (_, nth_in events 0 _ refl, refl)
each_kind Keys = (_, nth_in events 21 _ refl, refl)
each_kind Data = (_, nth_in events 19 _ refl, refl)
each_kind Entry = (_, nth_in events 11 _ refl, refl)
each_kind Set = (_, nth_in events 28 _ refl, refl)
each_kind ParentSet = (_, nth_in events 40 _ refl, refl)
each_kind Leaf = (_, nth_in events 5 _ refl, refl)
each_kind Inner = (_, nth_in events 6 _ refl, refl)
each_kind Priorities = (_, nth_in events 2 _ refl, refl)
each_kind Elsewhere = (_, nth_in events 51 _ refl, refl)
each_kind Fault = (_, nth_in events 48 _ refl, refl)
each_kind Barrier = (_, nth_in events 7 _ refl, refl)
each_kind Sealed = (_, nth_in events 9 _ refl, refl)
each_kind Durable = (_, nth_in events 13 _ refl, refl)
each_kind NextBucket = (_, nth_in events 31 _ refl, refl)
each_kind Taken = (_, nth_in events 1 _ refl, refl)
each_kind Released = (_, nth_in events 35 _ refl, refl)
each_kind Chain = (_, nth_in events 15 _ refl, refl)
each_kind Spare = (_, nth_in events 30 _ refl, refl)
each_kind Change = (_, nth_in events 8 _ refl, refl)
each_kind Installed = (_, nth_in events 14 _ refl, refl)
each_kind Drafts = (_, nth_in events 34 _ refl, refl)

pub has_all_acts : HasAllActs
has_all_acts = (
  opening,
  held,
  (
    events,
    record {
      sound = sound;
      course = run_all;
      each = each_kind;
    },
  ),
)
