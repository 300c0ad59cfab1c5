-- A bucket that no node lies in stays so while nobody changes the tree.
use Rattle.std.proofs.Common.{◌≡◌, ℕ, Bool, false, List, [], ◌∷◌, refl, sym, ap, ◌∙◌}
use Rattle.bc_model.specs.Sector.{Value}
use Rattle.bc_key.specs.declared.key.Key.{Key}
use Rattle.bc_meta.specs.Acts as meta
use Rattle.bc_meta.specs.Events as event
use Rattle.bc_leaves.specs.Parts.{InnerNode}
use Rattle.bc_leaves.specs.Parts as parts
use Rattle.bc_leaves.specs.Events as parts_event
use Rattle.bc_leaves.specs.Laws.{parts_of}
use Rattle.bc_whole.specs.State.{Opening, Write, OfData, OfEntry, OfSet, OfParent, OfLeaf, OfInner, OfPriorities, Outside, SameRoot, NewRoot}
use Rattle.bc_whole.specs.Together.{inserted, step}
use Rattle.bc_known.specs.Acts.{State, Act, Keyed, WriteCache, FailCache, CacheBarrier, Seal, Take, BeginChange, Install, ForgetDrafts, after}
use Rattle.bc_known.specs.Laws.{IsSound}
use Rattle.bc_known.proofs.Keyed.{parts_join}
use Rattle.bc_known.proofs.Slots.{AreOld}
use Rattle.bc_shares.specs.Shares.{Shape}
use Rattle.bc_shares.proofs.Parts.{IsKeptAt, keyed_parts, spine_act}
use Rattle.bc_nodes_known.specs.Nodes.{StayVacant}

still_vacant : (a b : parts.State) → b.records.unused ≡ a.records.unused → AreOld a b
    → StayVacant a b
still_vacant a b same old q vacant = (
  ap (λ (f : ℕ → Bool). f q) same ∙ vacant.0,
  (λ k some here. let one = old.leaves k some in vacant.1 k one.0 (sym one.1 ∙ here)),
  (λ x some here. let one = old.inner_nodes x some in vacant.2 x one.0 (sym one.1 ∙ here)),
)

keyed_unused : (p : parts.State) (slot : ℕ) (keys : List Key)
    → (parts_of p (inserted slot keys)).records.unused ≡ p.records.unused
keyed_unused p slot [] = refl
keyed_unused p slot (key ∷ keys) = ap (λ (s : parts.State). s.records.unused)
    (parts_join p (inserted slot keys)
    (step (meta.Plain (event.AddKey key)) (parts_event.Insert slot key)))
    ∙ keyed_unused p slot keys

keyed_old : (p : parts.State) (slot : ℕ) (keys : List Key)
    → AreOld p (parts_of p (inserted slot keys))
keyed_old p slot keys = let one = keyed_parts p slot keys in record {
  leaves = λ k some. (
    λ none. some (ap (λ (x : Shape). x.role) (one.leaves k) ∙ none),
    ap (λ (x : Shape). x.bucket) (one.leaves k),
  );
  inner_nodes = λ x some. (
    λ none. some (ap (λ (f : ℕ → InnerNode). (f x).role) one.slots ∙ none),
    ap (λ (f : ℕ → InnerNode). (f x).bucket) one.slots,
  );
}

written : (w : Opening) (st : State) (i : ℕ) (y : Write) (values : List Value)
    → spine_act (WriteCache y values) ≡ false
    → StayVacant st.whole.parts (after w st i (WriteCache y values)).whole.parts
written w st i (OfParent j set) values off = absurd (cc)
written w st i (OfLeaf j leaf set) values off = absurd (cc)
written w st i (OfInner j inner set) values off = absurd (cc)
written w st i (OfData q place) values off = λ q vacant. vacant
written w st i OfEntry values off = λ q vacant. vacant
written w st i (OfSet slot set) values off = λ q vacant. vacant
written w st i (OfPriorities b part set) values off = λ q vacant. vacant
written w st i (Outside place) values off = λ q vacant. vacant

failed : (w : Opening) (st : State) (i : ℕ) (y : Write) (values : List Value)
    → spine_act (FailCache y values) ≡ false
    → StayVacant st.whole.parts (after w st i (FailCache y values)).whole.parts
failed w st i (OfParent j set) values off = absurd (cc)
failed w st i (OfLeaf j leaf set) values off = absurd (cc)
failed w st i (OfInner j inner set) values off = absurd (cc)
failed w st i (OfData q place) values off = λ q vacant. vacant
failed w st i OfEntry values off = λ q vacant. vacant
failed w st i (OfSet slot set) values off = λ q vacant. vacant
failed w st i (OfPriorities b part set) values off = λ q vacant. vacant
failed w st i (Outside place) values off = λ q vacant. vacant

vacant_one : (w : Opening) (st : State) (i : ℕ) (act : Act) → spine_act act ≡ false
    → StayVacant st.whole.parts (after w st i act).whole.parts
vacant_one w st i (Keyed act slot keys) off = let p = st.whole.parts in
    still_vacant p (parts_of p (inserted slot keys)) (keyed_unused p slot keys)
    (keyed_old p slot keys)
vacant_one w st i (WriteCache y values) off = written w st i y values off
vacant_one w st i (FailCache y values) off = failed w st i y values off
vacant_one w st i CacheBarrier off = λ q vacant. vacant
vacant_one w st i (Seal last_seq rest SameRoot chain) off = λ q vacant. vacant
vacant_one w st i (Seal last_seq rest (NewRoot r) chain) off = absurd (cc)
vacant_one w st i (Take p b) off = λ q vacant. vacant
vacant_one w st i (BeginChange low high gone come old new un) off = absurd (cc)
vacant_one w st i (Install un steps) off = absurd (cc)
vacant_one w st i ForgetDrafts off = absurd (cc)
vacant_one w st i act off = λ q vacant. vacant

pub vacant_kept : (w : Opening) (x : parts.State) → IsSound w x
    → IsKeptAt w x (λ act. spine_act act ≡ false)
    (λ a b. StayVacant a.whole.parts b.whole.parts)
vacant_kept w x sound = record {
  same = λ a q vacant. vacant;
  both = λ a b c first later q vacant. later q (first q vacant);
  one = λ st i act at off on. vacant_one w st i act off;
}
