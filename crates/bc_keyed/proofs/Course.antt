-- What the parts that keys come into say in each state of a run.
use Rattle.std.proofs.Common.{◌≡◌, ◌≢◌, inl, inr, ℕ, suc, ◌+◌, List, [], ◌∷◌, Option, refl, sym, ap, ◌∙◌, subst, arith}
use Rattle.bc_events.specs.Run.{State}
use Rattle.bc_events.specs.declared.event.Event.{Event}
use Rattle.bc_journal.specs.Journal.{Journal, newest_of, number_of}
use Rattle.bc_journal.specs.declared.place.Numbers.{Numbers}
use Rattle.bc_known.specs.Laws.{IsSound}
use Rattle.bc_known.proofs.Law.{At, inv_at}
use Rattle.bc_leaves.specs.Fits.{Ordered}
use Rattle.bc_leaves.specs.Parts.{AllUpTo, Coming, Draft, Free, IsLive, Leaving, NoNode, Pending, Role, next_number, sealed_number}
use Rattle.bc_begun.specs.bc_machine.Containers.{IsInTree, IsJournalOf, numbers_in, sealed_numbers}
use Rattle.bc_begun.specs.bc_machine.Standing.{oldest_first, replay_is, replay_runs}
use Rattle.bc_begun.specs.bc_machine.World.{IsCourseOf, Origin, replay}
use Rattle.bc_meta.specs.Records.{Fixed, Nothing, Ready, Records, Safe, Sent, Stage}
use Rattle.bc_shares.specs.Shares.{if_sealed, journal_share}
use Rattle.bc_shares.proofs.Law.{at_state}
use Rattle.bc_whole.proofs.Kept.{Inv}

pub at_course : (o : Origin) → IsSound o.opening.machine o.parts → (es : List Event)
    → IsCourseOf o es → At o.opening.machine o.parts (replay o es).machine
at_course o sound es on = subst (λ (st : State). At o.opening.machine o.parts st.machine)
    (sym (replay_is o es))
    (at_state o.opening o.parts o.next_seq (oldest_first es) sound (replay_runs o es on))

pub inv_course : (o : Origin) → IsSound o.opening.machine o.parts → (es : List Event)
    → IsCourseOf o es → Inv o.opening.machine (replay o es).machine.whole
inv_course o sound es on = inv_at o.opening.machine o.parts (replay o es).machine.whole sound
    (at_course o sound es on).at

-- ---- what waits is of no later entry than the next

ordered_up : (n : ℕ) (xs : List Pending) → Ordered n xs → AllUpTo n xs
ordered_up n [] h z i = absurd i
ordered_up n (x ∷ xs) h z (inl e) =
    let same = ap (λ (p : Pending). p.number) e in let up = h.0 in omega (arith, same, up)
ordered_up n (x ∷ xs) h z (inr i) =
    let rest = ordered_up x.number xs h.1 z i in let up = h.0 in omega (arith, rest, up)

live_in : (r : Role) → IsInTree r → IsLive r
live_in NoNode h = h
live_in Draft h = h
live_in Free h = tt
live_in Leaving h = tt
live_in Coming h = tt

pub pending_up : (o : Origin) → IsSound o.opening.machine o.parts → (es : List Event)
    → IsCourseOf o es → (k : ℕ)
    → IsInTree ((replay o es).machine.whole.parts.leaves k).role
    → AllUpTo (next_number (replay o es).machine.whole.parts.records)
    ((replay o es).machine.whole.parts.leaves k).pending
pending_up o sound es on k tree =
    let st = (replay o es).machine.whole.parts in
    ordered_up (next_number st.records) (st.leaves k).pending
    ((inv_course o sound es on).fits.leaves.keys k (live_in (st.leaves k).role tree)).ordered

-- ---- the number of the entry for which keys wait

module _ (o : Origin) (sound : IsSound o.opening.machine o.parts) (es : List Event)
    (on : IsCourseOf o es) where
  abbrev r : Records
  r = (replay o es).machine.whole.parts.records

  abbrev Is : Stage → Type 0
  Is g = newest_of (numbers_in r.newest) (sealed_numbers (if_sealed g r.entry)) + 1
      ≡ suc (sealed_number g r.newest.number)

  behind : r.stage ≢ Nothing → r.entry.number ≡ suc r.newest.number
  behind some = ((inv_course o sound es on).records.follows some).number

  by_stage : (g : Stage) → r.stage ≡ g → Is g
  by_stage Nothing is = omega arith
  by_stage Fixed is = let next = behind (λ none. (let same : Fixed ≡ Nothing = sym is ∙ none in
      absurd (cc))) in omega (arith, next)
  by_stage Ready is = let next = behind (λ none. (let same : Ready ≡ Nothing = sym is ∙ none in
      absurd (cc))) in omega (arith, next)
  by_stage Sent is = let next = behind (λ none. (let same : Sent ≡ Nothing = sym is ∙ none in
      absurd (cc))) in omega (arith, next)
  by_stage Safe is = let next = behind (λ none. (let same : Safe ≡ Nothing = sym is ∙ none in
      absurd (cc))) in omega (arith, next)

  pub number_is : (j : Journal)
      → IsJournalOf o.opening.machine (journal_share (replay o es).machine) j
      → number_of j ≡ next_number r
  number_is j h = ap (λ (d : Numbers). newest_of d j.sealed + 1) h.durable
      ∙ ap (λ (s : Option Numbers). newest_of (numbers_in r.newest) s + 1) h.sealed
      ∙ by_stage r.stage refl
