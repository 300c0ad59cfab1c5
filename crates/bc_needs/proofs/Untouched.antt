-- What a leaf waits for: an event that doesn't touch the journal adds nothing to it.
use Rattle.std.proofs.Common.{◌≡◌, ◌≢◌, ◌⊎◌, inl, inr, ℕ, Bool, true, false, List, [], refl, sym, ◌∙◌, subst}
use Rattle.std.specs.Prelude.{◌==◌, if◌then◌else◌}
use Rattle.bc_model.specs.Sector.{Value}
use Rattle.bc_leaves.specs.Parts.{Role, NoNode, Draft, Free, Leaving, Coming, Leaf, AllFrom}
use Rattle.bc_leaves.specs.Parts as parts
use Rattle.bc_leaves.specs.Enabled as parts_act
use Rattle.bc_leaves.specs.Events as parts_event
use Rattle.bc_leaves.specs.After as parts_step
use Rattle.bc_leaves.specs.After.{has}
use Rattle.bc_leaves.proofs.Chains.{in_has}
use Rattle.bc_whole.specs.State.{Opening, Write, OfData, OfEntry, OfSet, OfParent, OfLeaf, OfInner, OfPriorities, Outside}
use Rattle.bc_known.specs.Acts.{State, Act, Keyed, WriteCache, FailCache, Seal, MakeDurable, BeginBucket, BeginChange, Install, ForgetDrafts, after}
use Rattle.bc_known.specs.Run.{IsEnabled}
use Rattle.bc_events.specs.Acts.{acts_of}
use Rattle.bc_events.specs.Run.{acts_or_none}
use Rattle.bc_shares.proofs.Acts.{journal_act, kept_run, released_parts}
use Rattle.bc_shares.proofs.Acts as shares
use Rattle.bc_shares.proofs.Law.{in_order}
use Rattle.bc_shares.proofs.Rows.{journal_row}
use Rattle.bc_needs.specs.Needs.{LawUntouched}

-- of a node that is there, nothing is pending, or it was there before and that was
abbrev pub IsFrom : Leaf → Leaf → Type 0
IsFrom a b = b.role ≢ NoNode → (b.pending ≡ []) ⊎ ((a.role ≢ NoNode) × (b.pending ≡ a.pending))

abbrev pub AreFrom : parts.State → parts.State → Type 0
AreFrom a b = (k : ℕ) → IsFrom (a.leaves k) (b.leaves k)

as_before : (a : parts.State) → AreFrom a a
as_before a k some = inr (some, refl)

emptied : (x : Leaf) (b : Bool) → IsFrom x (parts_step.with_pending (if b then [] else x.pending) x)
emptied x true some = inl refl
emptied x false some = inr (some, refl)

new_leaf : (x leaf : Leaf) (b : Bool) → leaf.pending ≡ [] → IsFrom x (if b then leaf else x)
new_leaf x leaf true none some = inl none
new_leaf x leaf false none some = inr (some, refl)

written : (w : Opening) (st : State) (i : ℕ) (y : Write) (values : List Value)
    → IsEnabled w st i (WriteCache y values)
    → AreFrom st.whole.parts (after w st i (WriteCache y values)).whole.parts
written w st i (OfSet slot set) values on = λ k. emptied (st.whole.parts.leaves k) (k == slot)
written w st i (OfLeaf j leaf set) values on =
    λ k. new_leaf (st.whole.parts.leaves k) leaf (k == j) on.asks.2
written w st i (OfData q place) values on = as_before st.whole.parts
written w st i OfEntry values on = as_before st.whole.parts
written w st i (OfParent slot set) values on = as_before st.whole.parts
written w st i (OfInner slot inner set) values on = as_before st.whole.parts
written w st i (OfPriorities q part set) values on = as_before st.whole.parts
written w st i (Outside place) values on = as_before st.whole.parts

lost : (w : Opening) (st : State) (i : ℕ) (y : Write) (values : List Value)
    → AreFrom st.whole.parts (after w st i (FailCache y values)).whole.parts
lost w st i (OfSet slot set) values = as_before st.whole.parts
lost w st i (OfLeaf j leaf set) values = as_before st.whole.parts
lost w st i (OfData q place) values = as_before st.whole.parts
lost w st i OfEntry values = as_before st.whole.parts
lost w st i (OfParent slot set) values = as_before st.whole.parts
lost w st i (OfInner slot inner set) values = as_before st.whole.parts
lost w st i (OfPriorities q part set) values = as_before st.whole.parts
lost w st i (Outside place) values = as_before st.whole.parts

-- roles
was_there : (r : Role) → parts_step.installed r ≢ NoNode → r ≢ NoNode
was_there NoNode some = λ is. some refl
was_there Draft some = λ is. absurd (cc)
was_there Free some = λ is. absurd (cc)
was_there Leaving some = λ is. absurd (cc)
was_there Coming some = λ is. absurd (cc)

not_forgotten : (r : Role) → parts_step.forgotten r ≢ NoNode → r ≢ NoNode
not_forgotten NoNode some = λ is. some refl
not_forgotten Draft some = λ is. absurd (cc)
not_forgotten Free some = λ is. absurd (cc)
not_forgotten Leaving some = λ is. absurd (cc)
not_forgotten Coming some = λ is. absurd (cc)

no_draft : (r : Role) → r ≡ Draft → r ≢ NoNode
no_draft r draft none = let same : NoNode ≡ Draft = sym none ∙ draft in absurd (cc)

no_free : (r : Role) → r ≡ Free → r ≢ NoNode
no_free r free none = let same : NoNode ≡ Free = sym none ∙ free in absurd (cc)

not_new : (st : parts.State) (low high : ℕ) (gone come old new : List ℕ) (un : ℕ → Bool)
    → parts_act.CanBegin st low high gone come old new un → (k : ℕ)
    → parts_step.changed gone come k (st.leaves k).role ≢ NoNode → (st.leaves k).role ≢ NoNode
not_new st low high gone come old new un can k = go (has gone k) (has come k) refl refl
  where
    go : (g c : Bool) → has gone k ≡ g → has come k ≡ c
        → (if g then Leaving else (if c then Coming else (st.leaves k).role)) ≢ NoNode
        → (st.leaves k).role ≢ NoNode
    go true c is at some = no_free (st.leaves k).role (can.gone_leaf k (in_has gone k is)).0
    go false true is at some = no_draft (st.leaves k).role (can.come_leaf k (in_has come k at)).0
    go false false is at some = some

pub one_act : (w : Opening) (st : State) (i : ℕ) (act : Act) → journal_act act ≡ false
    → IsEnabled w st i act → AreFrom st.whole.parts (after w st i act).whole.parts
one_act w st i (Keyed act slot keys) off on = absurd (cc)
one_act w st i (Seal last_seq rest root chain) off on = absurd (cc)
one_act w st i MakeDurable off on = absurd (cc)
one_act w st i (BeginBucket b) off on = absurd (cc)
one_act w st i (WriteCache y values) off on = written w st i y values on
one_act w st i (FailCache y values) off on = lost w st i y values
one_act w st i (BeginChange low high gone come old new un) off on = λ k some.
    inr (not_new st.whole.parts low high gone come old new un on.asks.0 k some, refl)
one_act w st i (Install un steps) off on = subst (λ (p : parts.State). AreFrom st.whole.parts p)
    (sym (released_parts (parts_step.after st.whole.parts (parts_event.Install un)) steps))
    (λ k some. inr (was_there (st.whole.parts.leaves k).role some, refl))
one_act w st i ForgetDrafts off on = λ k some.
    inr (not_forgotten (st.whole.parts.leaves k).role some, refl)
one_act w st i act off on = as_before st.whole.parts

abbrev pub Needs : ℕ → State → Type 0
Needs low st = (k : ℕ) → (st.whole.parts.leaves k).role ≢ NoNode
    → AllFrom low (st.whole.parts.leaves k).pending

pub from_old : (low : ℕ) (a b : State) → AreFrom a.whole.parts b.whole.parts → Needs low a
    → Needs low b
from_old low a b h needs k some = elim (h k some) [
  | inl none ↦ subst (λ xs. AllFrom low xs) (sym none) (λ x i. absurd i)
  | inr old ↦ subst (λ xs. AllFrom low xs) (sym old.1) (needs k old.0)
]

kept : (low : ℕ) → shares.IsKept (λ act. journal_act act ≡ false) (λ a b. Needs low a → Needs low b)
kept low = record {
  same = λ a h. h;
  both = λ a b c x y h. y (x h);
  one = λ w st i act off on. from_old low st (after w st i act) (one_act w st i act off on);
}

pub law_untouched : LawUntouched
law_untouched w st e on off low = kept_run (λ act. journal_act act ≡ false)
    (λ a b. Needs low a → Needs low b) (kept low) w.machine st.machine e.seat
    (acts_or_none (acts_of w.machine st.machine e.seat e.deed))
    (journal_row w.machine st.machine e.seat e.deed off)
    (in_order w st e (acts_of w.machine st.machine e.seat e.deed) on)
