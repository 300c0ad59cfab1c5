-- Leaves that no event touches.
use Rattle.std.proofs.Common.{◌≡◌, ◌≢◌, ℕ, ◌<◌, List, [], ◌∷◌, length, refl, sym, ap, ◌∙◌, subst}
use Rattle.std.specs.Prelude.{fold}
use Rattle.bc_events.specs.Run as core
use Rattle.bc_events.specs.declared.event.Deed.TheVariants as deed
use Rattle.bc_events.specs.declared.event.Event.{Event}
use Rattle.bc_events.specs.declared.event.Failure.TheVariants as failure
use Rattle.bc_known.specs.Laws.{IsSound}
use Rattle.bc_leaves.specs.Parts.{NoNode}
use Rattle.bc_leaves.specs.Parts as parts
use Rattle.bc_request.specs.bc_machine.Standing.{ends_named, oldest_first, replay_is, replay_runs}
use Rattle.bc_request.specs.bc_machine.World.{IsCourseOf, Origin, World, after, replay}
use Rattle.bc_shares.proofs.Law.{law_leaf, law_slot}
use Rattle.bc_shares.specs.Shares.{leaf_share}
use Rattle.bc_shares.specs.Touched.{NamesItsChange}
use Rattle.bc_refusals.specs.Made.{LawReads, TouchNoLeaf}
use Rattle.bc_refusals.specs.Room.{LawStays, LawStill}

-- each slot of the machine has the leaf that it had, or none
pub same_leaf : (o : Origin) (es : List Event) → IsCourseOf o es → TouchNoLeaf es → (k : ℕ)
    → (replay o es).machine.whole.parts.leaves k ≡ o.parts.leaves k
same_leaf o [] course off k = refl
same_leaf o (e ∷ es) course off k =
    law_slot o.opening (replay o es) e course.0.enabled k (off.0 k)
    (ends_named (replay o es).machine.whole.parts e.deed course.0.names)
    ∙ same_leaf o es course.2 off.1 k

-- and its node, what it had
pub still : (o : Origin) → IsSound o.opening.machine o.parts → (es : List Event) → IsCourseOf o es
    → TouchNoLeaf es → (k : ℕ) → ((replay o es).machine.whole.parts.leaves k).role ≢ NoNode
    → leaf_share (replay o es).machine.whole.parts k ≡ leaf_share o.parts k
still o sound [] course off k some = refl
still o sound (e ∷ es) course off k some =
    let slot = law_slot o.opening (replay o es) e course.0.enabled k (off.0 k)
    (ends_named (replay o es).machine.whole.parts e.deed course.0.names) in
    let there : ((replay o es).machine.whole.parts.leaves k).role ≢ NoNode
    = λ none. some (ap (λ (l : parts.Leaf). l.role) slot ∙ none) in
    subst (λ (st : core.State). core.IsEnabled o.opening st e
    → NamesItsChange st.machine.whole.parts e.deed → (st.machine.whole.parts.leaves k).role ≢ NoNode
    → leaf_share (core.after o.opening st e).machine.whole.parts k
    ≡ leaf_share st.machine.whole.parts k) (sym (replay_is o es))
    (λ enabled names some. law_leaf o.opening o.parts o.next_seq (oldest_first es) e (record {
      sound = sound;
      course = replay_runs o es course.2;
      enabled = enabled;
    }) k (off.0 k) names some) course.0.enabled
    (ends_named (replay o es).machine.whole.parts e.deed course.0.names) there
    ∙ still o sound es course.2 off.1 k there

pub law_still : LawStill
law_still x o is course off k some = still o is.sound x.log course off k some

-- what no event touched, none before them did
pub untouched_before : (es : List Event) (x : World) → TouchNoLeaf (fold after x es).log
    → TouchNoLeaf x.log
untouched_before [] x off = off
untouched_before (e ∷ es) x off = (untouched_before es (after x e) off).1

pub law_stays : LawStays
law_stays x o is course off count part was now room as_begun = record {
  once = as_begun.once;
  unheld = as_begun.unheld;
  waiting = room.waiting;
  each = λ k its some. room.each k its (λ none.
      some (ap (λ (l : parts.Leaf). l.pending) (same_leaf o x.log course off k) ∙ none));
  more = subst (λ n. length room.waiting < n) (sym as_begun.slots) room.more;
}

-- ---- reads

pub law_reads : LawReads
law_reads (deed.Claim first count how) of k = refl
law_reads deed.Release of k = refl
law_reads (deed.Look leaf) of k = refl
law_reads (deed.CacheRead at first values) of k = refl
law_reads (deed.BackingRead first values) of k = refl
law_reads (deed.Answer line first values) of k = refl
law_reads (deed.DeviceFault (failure.Read device)) of k = refl
law_reads d of k = absurd of
