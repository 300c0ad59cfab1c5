-- The entry with a new root as a deed: when it may be done, and what it leaves of the parts in
-- hand.
use Rattle.std.proofs.Common.{◌≡◌, ◌≢◌, inl, inr, ℕ, suc, ◌%◌, ◌<◌, ◌≤◌, Bool, true, false, List, Option, Some, None, refl, sym, ap, ◌∙◌, subst, arith}
use Rattle.std.specs.Prelude.{Vec}
use Rattle.std.specs.declared.alloc.Global.{Global}
use Rattle.std.proofs.lemmas.Bool.{lt-ltb}
use Rattle.bc_cache.specs.Slots.{NodeCache}
use Rattle.bc_events.specs.Run as core
use Rattle.bc_events.specs.declared.event.Change.{Change}
use Rattle.bc_events.specs.declared.event.Deed.{Deed}
use Rattle.bc_events.specs.declared.event.Deed.TheVariants as deed
use Rattle.bc_events.specs.declared.event.Event.{Event}
use Rattle.bc_facts.specs.Seen.{entry_rest}
use Rattle.bc_facts.proofs.Stood.{in_contains}
use Rattle.bc_entry.specs.bc_hand.Seats.{by}
use Rattle.bc_inner.specs.Inner.{Inner}
use Rattle.bc_journal.specs.Journal.{IsJournal as IsGoodJournal, IsSealed, Journal}
use Rattle.bc_journal.specs.Sealed.{Sealed}
use Rattle.bc_journal.specs.declared.heads.Heads.{Heads}
use Rattle.bc_journal.specs.declared.place.Place.{Place}
use Rattle.bc_known.specs.Laws.{IsSound}
use Rattle.bc_leaves.specs.Enabled.{CanBegin}
use Rattle.bc_leaves.specs.Keys.{last_said, ref_said}
use Rattle.bc_leaves.specs.Parts.{ByRoot, BySet, keys_in_leaf}
use Rattle.bc_entry.specs.bc_machine.Containers.{AreLeavesOf, IsHeldIn, IsJournalOf, IsLeafFor, IsSpinePartOf}
use Rattle.bc_entry.specs.bc_machine.World.{IsCourseOf, Origin, replay}
use Rattle.bc_entry.specs.bc_machine.declared.part.SpinePart.{SpinePart}
use Rattle.bc_meta.specs.Facts.{In}
use Rattle.bc_needs.specs.Needs.{NeedsNone}
use Rattle.bc_node.specs.Leaf.{Leaf}
use Rattle.bc_nodes_known.specs.Nodes.{AreStill}
use Rattle.bc_shares.specs.Shares.{books_of, journal_share, leaf_share}
use Rattle.bc_tree.specs.LastKeys.{LeafKeys}
use Rattle.bc_tree.specs.declared.plan.Plan.{Plan}
use Rattle.bc_entry.specs.Entry.{IsFixedEntry}
use Rattle.bc_entry.specs.Seal.{CanSeal}
use Rattle.bc_entry.proofs.Sealing.{GoesTo}
use Rattle.bc_change.specs.Goes.{BringsRoot, IsChangeBy, new_nodes}
use Rattle.bc_change.specs.Laws.{unused_for}
use Rattle.bc_change.specs.Ready.{HoldsNew, IsReadyChange}
use Rattle.bc_change.specs.Root.{NamesNext}
use Rattle.bc_change.specs.Under.{IsByRoot}
use Rattle.bc_change.proofs.Left.{root_new}
use Rattle.bc_change.proofs.Rooting.{can_begin, leaves_behind, leaves_in_front, may_begin, may_begin_behind, may_begin_bucket, may_seal, may_seal_behind, number_is, seq_is}
use Rattle.bc_change.proofs.Turned.{leaves_stand, spine_stands, under_way}

never : (b : Bool) → b ≡ true → b ≡ false → ⊥
never b is off = cc

abbrev pub sealing : Journal → Option ℕ → Vec ℕ Global → ℕ → Change → Deed
sealing j begun rest slot c = deed.Seal j.needed begun rest
    (Some (record { inner = slot; change = c })) None

-- It leaves so of the parts in hand, and of what the seat knows.
pub record IsLeft (o : Origin) (es : List Event) (sp : SpinePart) (plan : Plan) (c : Change)
    (i slot : ℕ) (s : Sealed) (new : Journal) (a : core.State) : Type 0 where
  pub journal : IsJournalOf o.opening.machine (journal_share a.machine) new
  pub fixed : IsFixedEntry s o a
  pub spine : IsSpinePartOf o.opening.machine a.machine sp
  pub leaves : (count part : ℕ) (cache : NodeCache)
      → ((k : ℕ) → In k c.gone.items → k % count ≡ part → IsHeldIn cache.slots k)
      → AreLeavesOf o.opening.machine (replay o es).machine.whole.parts count part cache
      → AreLeavesOf o.opening.machine a.machine.whole.parts count part cache
  pub under : IsByRoot i plan c s.entry.seq slot o a

module _ (o : Origin) (sound : IsSound o.opening.machine o.parts)
    (not_plain : o.opening.machine.flow.plain ≡ false) (es : List Event)
    (on : IsCourseOf o es) (j : Journal) (good : IsGoodJournal j) (can : CanSeal j)
    (h : IsJournalOf o.opening.machine (journal_share (replay o es).machine) j)
    (sp : SpinePart) (plan : Plan) (keys : LeafKeys) (c : Change) (i : ℕ)
    (ready : IsReadyChange o.opening.machine (replay o es).machine.whole.parts sp.spine plan keys)
    (holds : HoldsNew o.opening.machine (books_of (replay o es).machine) i plan)
    (is_change : IsChangeBy o.opening.machine sp.spine plan c)
    (root : Inner) (brings : BringsRoot sp.spine plan root) (heads : Heads) (slot : ℕ)
    (names : NamesNext j.ring.geometry heads root slot o (replay o es))
    (prio : heads.prio ≡ j.heads.prio)
    (said : (k s : ℕ) (leaf : Leaf)
    → IsLeafFor o.opening.machine (leaf_share (replay o es).machine.whole.parts k) leaf
    → leaf.from ≤ s → s < leaf.end → ref_said (last_said leaf.keys s)
    ≡ ref_said (last_said (keys_in_leaf (replay o es).machine.whole.parts k) s))
    (still : AreStill (replay o es).machine.whole.parts) (rest : Vec ℕ Global) where
  pub enabled : (begun : Option ℕ) (p : Place) → GoesTo j p begun → i < 320
      → NeedsNone j.needed (replay o es) → (replay o es).machine.whole.flow.halted ≡ false
      → core.IsEnabled o.opening (replay o es) (by i (sealing j begun rest slot c))
  enabled begun p (inl (is, place)) few needs running =
      subst (λ (b : Option ℕ). core.IsEnabled o.opening (replay o es) (by i (sealing j b rest slot c)))
      (sym is) (record {
        seat = lt-ltb i 320 few;
        course = (
          may_begin o sound es on j good can h sp.spine plan keys c i ready holds is_change root
              brings heads slot names prio said still,
          (
            may_seal o sound es on j good can h sp.spine plan keys c i ready holds is_change root
                brings heads slot names prio said still needs rest.items running,
            tt,
          ),
        );
        fit = tt;
        its_line = tt;
        plain = λ plain. absurd (never o.opening.machine.flow.plain plain not_plain);
      })
  enabled begun p (inr (b, is, place, in_, free)) few needs running =
      subst (λ (b : Option ℕ). core.IsEnabled o.opening (replay o es) (by i (sealing j b rest slot c)))
      (sym is) (record {
        seat = lt-ltb i 320 few;
        course = (
          may_begin_bucket o sound es on j good can h sp.spine plan keys c i ready holds is_change
              root brings heads slot names prio said still b in_ free,
          (
            may_begin_behind o sound es on j good can h sp.spine plan keys c i ready holds
                is_change root brings heads slot names prio said still b,
            (
              may_seal_behind o sound es on j good can h sp.spine plan keys c i ready holds
                  is_change root brings heads slot names prio said still needs rest.items b running,
              tt,
            ),
          ),
        );
        fit = tt;
        its_line = tt;
        plain = λ plain. absurd (never o.opening.machine.flow.plain plain not_plain);
      })

  -- ---- what it leaves

  module _ (changing : sp.changing ≡ true) (next : sp.next_seq ≡ (replay o es).machine.next_seq)
      (s : Sealed) (new : Journal) (is : IsSealed j heads s new)
      (rest_is : rest.items ≡ entry_rest s.entry) where
    number : suc (replay o es).machine.whole.parts.records.newest.number ≡ s.entry.seq
    number =
        let seq = seq_is o sound es on j good can h sp.spine plan keys c i ready holds is_change root
        brings heads slot names prio said still in
        let all = number_is o sound es on j good can h sp.spine plan keys c i ready holds is_change
        root brings heads slot names prio said still in
        let same = ap (λ x. x.seq) is.entry in omega (arith, seq, all, same)

    begins : CanBegin (replay o es).machine.whole.parts c.low c.high c.gone.items c.come.items
        c.old.items c.new.items (unused_for (replay o es).machine.whole.parts c)
    begins = can_begin o sound es on j good can h sp.spine plan keys c i ready holds is_change root
        brings heads slot names prio said still

    -- the root's bucket is its slot
    root_bucket : ((replay o es).machine.whole.parts.inner_nodes slot).bucket ≡ slot
    root_bucket = let new = ready.ready.new root (in_contains (new_nodes plan) root
        (root_new o.opening.machine (replay o es).machine.whole.parts sp.spine plan keys c ready
        is_change said still root brings)) in
        ap (λ k. ((replay o es).machine.whole.parts.inner_nodes k).bucket) (sym names.slot_is)
        ∙ new.new.bucket ∙ names.slot_is

    no_set : (n x : ℕ) → ByRoot n ≢ BySet x
    no_set n x same = cc

    pub left : (begun : Option ℕ) → GoesTo j s.place begun → IsLeft o es sp plan c i slot s new
        (core.after o.opening (replay o es) (by i (sealing j begun rest slot c)))
    left begun (inl (none, place)) = subst (λ (b : Option ℕ). IsLeft o es sp plan c i slot s new
        (core.after o.opening (replay o es) (by i (sealing j b rest slot c)))) (sym none)
        (let both = leaves_behind o sound es on j good can h sp.spine plan keys c i ready holds
        is_change root brings heads slot names prio said still s new is rest.items rest_is place in
        let e = by i (sealing j None rest slot c) in
        let a = core.after o.opening (replay o es) e in
        let r = a.machine.whole.parts.records in
        let st = (replay o es).machine.whole.parts in record {
          journal = both.0;
          fixed = record { sealed = both.1; stage = tt };
          spine = record {
            spine = spine_stands o.opening.machine st sp.spine plan keys c ready is_change begins r
                refl (ByRoot (suc st.records.newest.number)) (no_set (suc st.records.newest.number));
            next_seq = next;
            rest = λ off. absurd (never sp.changing changing off);
          };
          leaves = leaves_stand o.opening.machine st sp.spine plan keys c ready is_change begins r
              refl (ByRoot (suc st.records.newest.number)) (no_set (suc st.records.newest.number));
          under = record {
            under = under_way o.opening.machine st sp.spine plan keys c ready is_change begins r
                refl (ByRoot (suc st.records.newest.number))
                (no_set (suc st.records.newest.number));
            holds = record { leaves = holds.leaves; inner_nodes = holds.inner_nodes };
            change = ap ByRoot number;
            root = record {
              made = let same = number in omega (arith, same);
              newest = λ low. let same = number in absurd (omega (arith, low, same));
              sealed = λ some. root_bucket;
            };
          };
        })
    left begun (inr (b, some, place, in_, free)) = subst (λ (x : Option ℕ). IsLeft o es sp plan c i slot s new
        (core.after o.opening (replay o es) (by i (sealing j x rest slot c)))) (sym some)
        (let both = leaves_in_front o sound es on j good can h sp.spine plan keys c i ready holds
        is_change root brings heads slot names prio said still s new is rest.items rest_is b in_ place in
        let e = by i (sealing j (Some b) rest slot c) in
        let a = core.after o.opening (replay o es) e in
        let r = a.machine.whole.parts.records in
        let st = (replay o es).machine.whole.parts in record {
          journal = both.0;
          fixed = record { sealed = both.1; stage = tt };
          spine = record {
            spine = spine_stands o.opening.machine st sp.spine plan keys c ready is_change begins r
                refl (ByRoot (suc st.records.newest.number)) (no_set (suc st.records.newest.number));
            next_seq = next;
            rest = λ off. absurd (never sp.changing changing off);
          };
          leaves = leaves_stand o.opening.machine st sp.spine plan keys c ready is_change begins r
              refl (ByRoot (suc st.records.newest.number)) (no_set (suc st.records.newest.number));
          under = record {
            under = under_way o.opening.machine st sp.spine plan keys c ready is_change begins r
                refl (ByRoot (suc st.records.newest.number))
                (no_set (suc st.records.newest.number));
            holds = record { leaves = holds.leaves; inner_nodes = holds.inner_nodes };
            change = ap ByRoot number;
            root = record {
              made = let same = number in omega (arith, same);
              newest = λ low. let same = number in absurd (omega (arith, low, same));
              sealed = λ some. root_bucket;
            };
          };
        })
