-- When an entry with a new root may be sealed, and what that leaves.
use Rattle.std.proofs.Common.{◌≡◌, ℕ, suc, ◌+◌, ◌<◌, ◌≤◌, Bool, true, false, List, None, refl, sym, ap, ◌∙◌, subst, arith}
use Rattle.bc_disk.specs.declared.geometry.Geometry.{Geometry}
use Rattle.bc_events.specs.declared.event.Change.{Change}
use Rattle.bc_events.specs.declared.event.Event.{Event}
use Rattle.bc_facts.specs.Seen.{counted, entry_rest, seen_entry}
use Rattle.bc_facts.proofs.Stood.{in_contains}
use Rattle.bc_inner.specs.Inner.{Inner}
use Rattle.bc_journal.specs.Journal.{IsJournal as IsGoodJournal, IsSealed, Journal, newest_of, number_of}
use Rattle.bc_journal.specs.Ring.{is_free}
use Rattle.bc_journal.specs.Sealed.{Sealed}
use Rattle.bc_journal.specs.declared.heads.Heads.{Heads}
use Rattle.bc_journal.specs.declared.place.Numbers.{Numbers}
use Rattle.bc_known.specs.Acts.{Act, BeginBucket, BeginChange, Seal, State, after}
use Rattle.bc_known.specs.Run.{IsEnabled}
use Rattle.bc_known.specs.Laws.{IsSound}
use Rattle.bc_leaves.specs.Enabled.{CanBegin, CanSealNext, CanSealRoot}
use Rattle.bc_leaves.specs.Keys.{last_said, ref_said}
use Rattle.bc_leaves.specs.Parts.{keys_in_leaf}
use Rattle.bc_entry.specs.bc_machine.Containers.{IsJournalOf, IsLeafFor, sealed_numbers}
use Rattle.bc_entry.specs.bc_machine.World.{IsCourseOf, Origin, replay}
use Rattle.bc_meta.specs.Entries.{Entry}
use Rattle.bc_meta.specs.Records.{Fixed, Nothing, Ready, Records, Safe, Sent, Stage}
use Rattle.bc_needs.specs.Needs.{NeedsNone}
use Rattle.bc_node.specs.Leaf.{Leaf}
use Rattle.bc_nodes_known.specs.Nodes.{AreStill}
use Rattle.bc_entry.specs.bc_sealing.Laws.{Seals, front_of}
use Rattle.bc_entry.proofs.of_bc_sealing.Acts.{law_acts}
use Rattle.bc_entry.proofs.of_bc_sealing.Ring.{law_places}
use Rattle.bc_shares.specs.Shares.{JournalShare, books_of, if_sealed, journal_share, leaf_share}
use Rattle.bc_shares.proofs.Acts.{journal_kept}
use Rattle.bc_tree.specs.LastKeys.{LeafKeys}
use Rattle.bc_tree.specs.Spine.{Spine}
use Rattle.bc_tree.specs.declared.plan.Plan.{Plan}
use Rattle.bc_whole.specs.State as whole
use Rattle.bc_whole.specs.State.{NewRoot, SameChain}
use Rattle.bc_whole.specs.Together.{AreHeldFor, entry_of}
use Rattle.bc_entry.specs.Seal.{CanSeal}
use Rattle.bc_entry.proofs.Course.{is_sealed, nothing_course, waits_course}
use Rattle.bc_entry.proofs.Sealing.{Leaves, Names, entry_is, has_rest, named_so, sealed_behind, sealed_in_front}
use Rattle.bc_change.specs.Goes.{BringsRoot, IsChangeBy, new_nodes}
use Rattle.bc_change.specs.Laws.{unused_for}
use Rattle.bc_change.specs.Ready.{HoldsNew, IsReadyChange}
use Rattle.bc_change.specs.Root.{NamesNext}
use Rattle.bc_change.proofs.Begins.{begins, held}
use Rattle.bc_change.proofs.Left.{can_seal_root, root_new}

never : (b : Bool) → b ≡ true → b ≡ false → ⊥
never b is off = cc

none_sealed : (g : Stage) (e : Entry) → sealed_numbers (if_sealed g e) ≡ None → g ≡ Nothing
none_sealed Nothing e is = refl
none_sealed Fixed e is = absurd (cc)
none_sealed Ready e is = absurd (cc)
none_sealed Sent e is = absurd (cc)
none_sealed Safe e is = absurd (cc)

-- In a state of a run.
module _ (o : Origin) (sound : IsSound o.opening.machine o.parts) (es : List Event)
    (on : IsCourseOf o es) (j : Journal) (good : IsGoodJournal j) (can : CanSeal j)
    (h : IsJournalOf o.opening.machine (journal_share (replay o es).machine) j)
    (sp : Spine) (plan : Plan) (keys : LeafKeys) (c : Change) (i : ℕ)
    (ready : IsReadyChange o.opening.machine (replay o es).machine.whole.parts sp plan keys)
    (holds : HoldsNew o.opening.machine (books_of (replay o es).machine) i plan)
    (is_change : IsChangeBy o.opening.machine sp plan c)
    (root : Inner) (brings : BringsRoot sp plan root) (heads : Heads) (slot : ℕ)
    (names : NamesNext j.ring.geometry heads root slot o (replay o es))
    (prio : heads.prio ≡ j.heads.prio)
    (said : (k s : ℕ) (leaf : Leaf)
    → IsLeafFor o.opening.machine (leaf_share (replay o es).machine.whole.parts k) leaf
    → leaf.from ≤ s → s < leaf.end → ref_said (last_said leaf.keys s)
    ≡ ref_said (last_said (keys_in_leaf (replay o es).machine.whole.parts k) s))
    (still : AreStill (replay o es).machine.whole.parts) where
  abbrev w : whole.Opening
  w = o.opening.machine

  abbrev st : State
  st = (replay o es).machine

  abbrev r : Records
  r = st.whole.parts.records

  -- the act by which the change begins
  abbrev begin : Act
  begin = BeginChange c.low c.high c.gone.items c.come.items c.old.items c.new.items
      (unused_for st.whole.parts c)

  abbrev seal : List ℕ → Act
  seal rest = Seal j.needed rest (NewRoot slot) SameChain

  pub can_begin : CanBegin st.whole.parts c.low c.high c.gone.items c.come.items c.old.items c.new.items
      (unused_for st.whole.parts c)
  can_begin = begins w st.whole.parts sp plan keys c ready is_change said

  is_held : AreHeldFor st.whole i (unused_for st.whole.parts c)
  is_held = held w st i sp plan keys c ready holds is_change

  idle : r.stage ≡ Nothing
  idle = none_sealed r.stage r.entry (sym h.sealed ∙ can.none)

  pub seq_is : j.durable.seq ≡ r.newest.number
  seq_is = ap (λ (n : Numbers). n.seq) h.durable

  low_is : j.durable.last_seq ≡ r.newest.last_seq
  low_is = ap (λ (n : Numbers). n.last_seq) h.durable

  pub number_is : number_of j ≡ j.durable.seq + 1
  number_is = ap (λ n. newest_of j.durable n + 1) can.none

  can_seal : NeedsNone j.needed (replay o es) → CanSealNext st.whole.parts j.needed
  can_seal needs =
      let seq = seq_is in
      let least = low_is in
      let number = number_is in
      let from = good.needed_from in
      let to = good.needed_to in
      (idle, omega (arith, least, from), omega (arith, to, number, seq), needs)

  not_waiting : st.whole.flow.books.journal.waiting ≡ false
  not_waiting = waits_course o sound es on ∙ ap is_sealed (nothing_course o sound es on idle)

  -- ---- it may

  pub may_begin : IsEnabled w st i begin
  may_begin = record { data_allows = tt; asks = (can_begin, is_held) }

  abbrev begun_bucket : ℕ → State
  begun_bucket b = after w st i (BeginBucket b)

  pub may_begin_behind : (b : ℕ) → IsEnabled w (begun_bucket b) i begin
  may_begin_behind b = record {
    data_allows = tt;
    asks = (
      record {
        no_change = can_begin.no_change;
        old_row = can_begin.old_row;
        new_row = can_begin.new_row;
        within = can_begin.within;
        gone_leaf = can_begin.gone_leaf;
        come_leaf = can_begin.come_leaf;
        same = can_begin.same;
        old_inner = can_begin.old_inner;
        new_inner = can_begin.new_inner;
        filled = can_begin.filled;
        fewer = can_begin.fewer;
        leaf_taken = can_begin.leaf_taken;
        inner_taken = can_begin.inner_taken;
      },
      is_held,
    );
  }

  -- a bucket that is begun has older entries alone
  pub may_begin_bucket : (b : ℕ) → b < j.ring.geometry.journal
      → is_free j.ring j.durable.last_seq b ≡ true → IsEnabled w st i (BeginBucket b)
  may_begin_bucket b in_ free = record {
    data_allows = tt;
    asks = (
      (
        idle,
        law_places.free w (journal_share st) j.ring b h.ring
            (subst (λ n. is_free j.ring n b ≡ true) low_is free),
      ),
      let same = h.ring.layout.journal in omega (arith, in_, same),
    );
  }

  module _ (needs : NeedsNone j.needed (replay o es)) (rest : List ℕ) where
    pub may_seal : st.whole.flow.halted ≡ false → IsEnabled w (after w st i begin) i (seal rest)
    may_seal running = record {
      data_allows = (record { heard = running; steps = (not_waiting, tt); can = tt }, tt);
      asks = (
        subst (λ k. CanSealRoot (after w st i begin).whole.parts j.needed k) names.slot_is
            (can_seal_root w st.whole.parts sp plan keys c ready is_change said still root brings
            j.needed (can_seal needs)),
        tt,
      );
    }

    pub may_seal_behind : (b : ℕ) → st.whole.flow.halted ≡ false
        → IsEnabled w (after w (begun_bucket b) i begin) i (seal rest)
    may_seal_behind b running = record {
      data_allows = (record { heard = running; steps = (not_waiting, tt); can = tt }, tt);
      asks = (
        subst (λ k. CanSealRoot (after w (begun_bucket b) i begin).whole.parts j.needed k)
            names.slot_is
            (can_seal_root w st.whole.parts sp plan keys c ready is_change said still root brings
            j.needed (can_seal needs)),
        tt,
      );
    }

  -- ---- what it leaves of the journal

  module _ (s : Sealed) (new : Journal) (is : IsSealed j heads s new) (rest : List ℕ)
      (rest_is : rest ≡ entry_rest s.entry) where
    abbrev g : Geometry
    g = j.ring.geometry

    abbrev e : Entry
    e = seen_entry g s.entry

    abbrev x : JournalShare
    x = journal_share st

    -- what the machine's entry names
    named : Names g heads
        (entry_of (after w st i begin).whole j.needed rest (NewRoot slot) SameChain)
    named =
        let new_root = ready.ready.new root (in_contains (new_nodes plan) root
        (root_new w st.whole.parts sp plan keys c ready is_change said still root brings)) in
        let here = names.slot_is in
        let old = named_so g j.heads r.newest h.heads in record {
          root = ap (λ k. (st.whole.parts.inner_nodes k).bucket) (sym here)
              ∙ new_root.new.bucket ∙ here ∙ names.bucket;
          word = ap (λ k. (st.whole.parts.inner_nodes k).word) (sym here)
              ∙ new_root.new.word ∙ names.word;
          level = ap (λ k. suc (st.whole.parts.inner_nodes k).height) (sym here)
              ∙ new_root.new.level ∙ names.level;
          prio = old.prio ∙ ap (λ n. counted g n) (sym prio);
        }

    pub entry_same : entry_of (after w st i begin).whole j.needed rest (NewRoot slot) SameChain ≡ e
    entry_same = entry_is w x j good can h heads s new is (after w st i begin).whole.parts.records
        refl refl rest rest_is
        (entry_of (after w st i begin).whole j.needed rest (NewRoot slot) SameChain)
        (has_rest (after w st i begin).whole j.needed rest (NewRoot slot) SameChain) named

    sealed_as : (before : State) → Seals (entry_of before.whole j.needed rest (NewRoot slot) SameChain)
        (journal_share before) (journal_share (after w before i (seal rest)))
    sealed_as before = law_acts.seals w before i j.needed rest (NewRoot slot) SameChain

    -- the change itself is nothing to the journal
    same_share : journal_share (after w st i begin) ≡ x
    same_share = journal_kept.one w st i begin refl may_begin

    same_share_behind : (b : ℕ)
        → journal_share (after w (begun_bucket b) i begin) ≡ journal_share (begun_bucket b)
    same_share_behind b = journal_kept.one w (begun_bucket b) i begin refl (may_begin_behind b)

    abbrev LeftIn : State → Type 0
    LeftIn a = Leaves w x j good can h heads s new is (journal_share a)

    pub leaves_behind : s.place ≡ j.ring.next → LeftIn (after w (after w st i begin) i (seal rest))
    leaves_behind place =
        let y = journal_share (after w (after w st i begin) i (seal rest)) in
        sealed_behind w x j good can h heads s new is y
        (subst (λ (z : Entry). Seals z x y) entry_same
        (subst (λ (a : JournalShare). Seals (entry_of (after w st i begin).whole j.needed rest
        (NewRoot slot) SameChain) a y) same_share (sealed_as (after w st i begin)))) place

    pub leaves_in_front : (b : ℕ) → b < g.journal → s.place ≡ front_of b
        → LeftIn (after w (after w (begun_bucket b) i begin) i (seal rest))
    leaves_in_front b in_ place =
        let y = journal_share (begun_bucket b) in
        let z = journal_share (after w (after w (begun_bucket b) i begin) i (seal rest)) in
        sealed_in_front w x j good can h heads s new is b y z (law_acts.begins w st i b)
        (subst (λ (d : Entry). Seals d y z) entry_same
        (subst (λ (a : JournalShare). Seals (entry_of (after w (begun_bucket b) i begin).whole
        j.needed rest (NewRoot slot) SameChain) a z) (same_share_behind b)
        (sealed_as (after w (begun_bucket b) i begin)))) in_ place
