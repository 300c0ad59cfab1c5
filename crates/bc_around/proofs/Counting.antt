-- How many insertions a look counts: those up to the leaf's last one, which have come in.
use Rattle.std.proofs.Common.{◌≡◌, ℕ, ◌≤◌, List, sym, ap, refl, subst, arith}
use Rattle.bc_data.specs.Seats.{Claim}
use Rattle.bc_events.specs.Run as core
use Rattle.bc_events.specs.declared.event.Deed.TheVariants as deed
use Rattle.bc_events.specs.declared.event.Event.{Event}
use Rattle.bc_flush.specs.Durable.{HaveComeIn}
use Rattle.bc_flush.specs.bc_hand.Seats.{by}
use Rattle.bc_known.specs.Laws.{IsSound}
use Rattle.bc_known.proofs.Law.{At, order_at}
use Rattle.bc_flush.specs.bc_machine.Standing.{oldest_first, origin_before, replay_is, replay_runs}
use Rattle.bc_flush.specs.bc_machine.World.{FromEach, IsCourseOf, Origin, World, after, replay}
use Rattle.bc_shares.specs.Shares.{books_of}
use Rattle.bc_shares.proofs.Law.{at_state}
use Rattle.bc_flush.specs.bc_sight.Sight.{claim_from}
use Rattle.bc_flush.proofs.of_bc_sight.Claims.{looked_claim}

at_course : (o : Origin) → IsSound o.opening.machine o.parts → (es : List Event) → IsCourseOf o es
    → At o.opening.machine o.parts (replay o es).machine
at_course o sound es on = subst (λ (st : core.State). At o.opening.machine o.parts st.machine)
    (sym (replay_is o es))
    (at_state o.opening o.parts o.next_seq (oldest_first es) sound (replay_runs o es on))

-- no leaf counts what hasn't come in
few_changed : (o : Origin) → IsSound o.opening.machine o.parts → (es : List Event)
    → IsCourseOf o es → (leaf : ℕ)
    → (books_of (replay o es).machine).index.changed leaf
    ≤ (books_of (replay o es).machine).index.count
few_changed o sound es on leaf = (order_at o.opening.machine o.parts (replay o es).machine.whole
    sound (at_course o sound es on).at).counted.leaves leaf

-- how many the seat counted at its last look, by each opening
abbrev pub keys_at : World → ℕ → Origin → ℕ
keys_at x i o = (claim_from o x.log i).keys

looked_keys : (w : core.Opening) (st : core.State) (i leaf : ℕ)
    → ((core.after w st (by i (deed.Look leaf))).machine.whole.flow.seats i).claim.keys
    ≡ (books_of st.machine).index.changed leaf
looked_keys w st i leaf = ap (λ (c : Claim). c.keys) (looked_claim w st i leaf)

same_count : (w : core.Opening) (st : core.State) (i leaf : ℕ)
    → (books_of (core.after w st (by i (deed.Look leaf))).machine).index.count
    ≡ (books_of st.machine).index.count
same_count w st i leaf = refl

pub come_looked : (x : World) (i leaf : ℕ) → FromEach (after x (by i (deed.Look leaf)))
    (HaveComeIn (keys_at (after x (by i (deed.Look leaf))) i))
come_looked x i leaf o is course =
    let before = origin_before x (by i (deed.Look leaf)) o is in
    let st = replay o x.log in
    let few = few_changed o before.sound x.log course.2 leaf in
    let same = looked_keys o.opening st i leaf in
    let count = same_count o.opening st i leaf in omega (arith, few, same, count)
