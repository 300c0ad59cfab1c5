-- What no leaf of a part waits for, none ever will: keys that come in are of entries to come.
use Rattle.std.proofs.Common.{◌≡◌, ◌≢◌, ◌⊎◌, inl, inr, ℕ, suc, ◌%◌, ◌≤◌, Bool, true, false, List, [], ◌∷◌, refl, sym, ap, ◌∙◌, subst, arith}
use Rattle.std.specs.Prelude.{◌==◌, if◌then◌else◌}
use Rattle.bc_append.proofs.Course.{at_course}
use Rattle.bc_events.specs.Acts.{acts_of}
use Rattle.bc_events.specs.Run.{acts_or_none}
use Rattle.bc_key.specs.declared.key.Key.{Key}
use Rattle.bc_known.proofs.Keyed.{parts_join}
use Rattle.bc_known.proofs.Law.{At, inv_at}
use Rattle.bc_known.specs.Acts.{Act, BeginBucket, Keyed, MakeDurable, Seal, State, after}
use Rattle.bc_known.specs.Laws.{IsSound}
use Rattle.bc_known.specs.Run.{IsEnabled}
use Rattle.bc_leaves.specs.Events as parts_event
use Rattle.bc_leaves.specs.Laws.{parts_of}
use Rattle.bc_leaves.specs.Parts.{AllFrom, NoNode, Pending, Role, next_number, sealed_number}
use Rattle.bc_leaves.specs.Parts as parts
use Rattle.bc_append.specs.bc_machine.Standing.{origin_before}
use Rattle.bc_append.specs.bc_machine.World.{FromEach, World, replay}
use Rattle.bc_append.specs.bc_machine.World.{after as world_after}
use Rattle.bc_events.specs.declared.event.Event.{Event}
use Rattle.bc_meta.specs.Acts as meta
use Rattle.bc_meta.specs.Entries.{Entry}
use Rattle.bc_meta.specs.Events as event
use Rattle.bc_meta.specs.Facts.{In}
use Rattle.bc_meta.specs.Records.{Fixed, Nothing, Ready, Safe, Sent, Stage}
use Rattle.bc_needs.proofs.Lasting.{IsLater}
use Rattle.bc_needs.proofs.Untouched.{AreFrom, one_act}
use Rattle.bc_shares.proofs.Acts.{AllActs, journal_kept}
use Rattle.bc_shares.proofs.Law.{in_order}
use Rattle.bc_shares.proofs.Parts.{IsKeptAt, kept_at}
use Rattle.bc_shares.specs.Shares.{JournalShare, journal_share}
use Rattle.bc_whole.specs.State.{NewRoot, Opening, SameRoot}
use Rattle.bc_whole.specs.Together.{inserted, step}
use Rattle.bc_turn.specs.Laws.{LawLasts}
use Rattle.bc_turn.specs.Need.{PartNeedsFrom}

-- ---- keys that come in

sealed_above : (g : Stage) (n : ℕ) → n ≤ sealed_number g n
sealed_above Nothing n = omega arith
sealed_above Fixed n = omega arith
sealed_above Ready n = omega arith
sealed_above Sent n = omega arith
sealed_above Safe n = omega arith

put_one : (n m : ℕ) (key : Key) (xs : List Pending) (here : Bool) → n ≤ m → (x : Pending)
    → In x (if here then record { number = m; key = key } ∷ xs else xs)
    → In x xs ⊎ (n ≤ x.number)
put_one n m key xs false low x i = inl i
put_one n m key xs true low x (inl is) =
    inr (let same = ap (λ (y : Pending). y.number) is in omega (arith, low, same))
put_one n m key xs true low x (inr i) = inl i

keyed : (p : parts.State) (slot : ℕ) (keys : List Key)
    → IsLater (suc p.records.newest.number) p (parts_of p (inserted slot keys))
keyed p slot [] = record { roles = λ k. refl; pending = λ k x i. inl i; newest = refl }
keyed p slot (key ∷ keys) =
    let q = parts_of p (inserted slot keys) in
    let h = keyed p slot keys in
    let least : suc p.records.newest.number ≤ next_number q.records =
    let same = ap (λ (e : Entry). e.number) h.newest in
    let above = sealed_above q.records.stage q.records.newest.number in
    omega (arith, same, above) in
    subst (λ (s : parts.State). IsLater (suc p.records.newest.number) p s)
    (sym (parts_join p (inserted slot keys)
    (step (meta.Plain (event.AddKey key)) (parts_event.Insert slot key))))
    (record {
      roles = h.roles;
      pending = λ k x i. elim (put_one (suc p.records.newest.number) (next_number q.records) key
          (q.leaves k).pending (k == slot) least x i) [
            | inl old ↦ h.pending k x old
            | inr high ↦ inr high
          ];
      newest = h.newest;
    })

-- ---- acts

-- of a state of the core alone
record Needs (count part low : ℕ) (st : State) : Type 0 where
  none : (k : ℕ) → k % count ≡ part → (st.whole.parts.leaves k).role ≢ NoNode
      → AllFrom low (st.whole.parts.leaves k).pending
  next : low ≤ suc st.whole.parts.records.newest.number

later : (count part low : ℕ) (a b : State)
    → IsLater (suc a.whole.parts.records.newest.number) a.whole.parts b.whole.parts
    → Needs count part low a → Needs count part low b
later count part low a b h needs = record {
  none = λ k its some x i. elim (h.pending k x i) [
    | inl old ↦ needs.none k its (subst (λ (r : Role). r ≢ NoNode) (h.roles k) some) x old
    | inr high ↦ (let next = needs.next in omega (arith, high, next))
  ];
  next = let same = ap (λ (e : Entry). e.number) h.newest in let next = needs.next in
      omega (arith, same, next);
}

calm : (count part low : ℕ) (a b : State) → AreFrom a.whole.parts b.whole.parts
    → journal_share b ≡ journal_share a → Needs count part low a → Needs count part low b
calm count part low a b from same h = record {
  none = λ k its some. elim (from k some) [
    | inl none ↦ subst (λ xs. AllFrom low xs) (sym none) (λ x i. absurd i)
    | inr old ↦ subst (λ xs. AllFrom low xs) (sym old.1) (h.none k its old.0)
  ];
  next = let newest = ap (λ (x : JournalShare). x.entries.newest.number) same in
      let next = h.next in omega (arith, newest, next);
}

one : (count part low : ℕ) (w : Opening) (p : parts.State) → IsSound w p → (st : State) (i : ℕ)
    (act : Act) → At w p st → IsEnabled w st i act → Needs count part low st
    → Needs count part low (after w st i act)
one count part low w p sound st i (Keyed act slot keys) at on h =
    later count part low st (after w st i (Keyed act slot keys)) (keyed st.whole.parts slot keys) h
one count part low w p sound st i (Seal last_seq rest SameRoot chain) at on h =
    record { none = h.none; next = h.next }
one count part low w p sound st i (Seal last_seq rest (NewRoot r) chain) at on h =
    record { none = h.none; next = h.next }
one count part low w p sound st i MakeDurable at on h = record {
  none = h.none;
  next =
      let inv = (inv_at w p st.whole sound at.at).records in
      let some : st.whole.parts.records.stage ≢ Nothing =
      λ none. let same : Nothing ≡ Safe = sym none ∙ on.asks in absurd (cc) in
      let number = (inv.follows some).number in
      let next = h.next in omega (arith, number, next);
}
one count part low w p sound st i (BeginBucket b) at on h =
    record { none = h.none; next = h.next }
one count part low w p sound st i act at on h = calm count part low st (after w st i act)
    (one_act w st i act refl on) (journal_kept.one w st i act refl on) h

-- ---- events

kept : (count part low : ℕ) (w : Opening) (p : parts.State) → IsSound w p
    → IsKeptAt w p (λ act. Unit {0}) (λ a b. Needs count part low a → Needs count part low b)
kept count part low w p sound = record {
  same = λ a h. h;
  both = λ a b c x y h. y (x h);
  one = λ st i act at any on. one count part low w p sound st i act at on;
}

any_acts : (acts : List Act) → AllActs (λ act. Unit {0}) acts
any_acts [] = tt
any_acts (act ∷ acts) = (tt, any_acts acts)

pub law_lasts : LawLasts
law_lasts = record {
  come = λ x e low h o is course.
      (part_lasts x e 1 1 low (λ o is course. record {
        needs = λ k its. absurd (no_rest k its);
        next = h o is course;
      }) o is course).next;
  part = part_lasts;
}
  where
    no_rest : (k : ℕ) → k % 1 ≡ 1 → ⊥
    no_rest k is = omega (arith, is)

    part_lasts : (x : World) (e : Event)
        (count part low : ℕ) → FromEach x (PartNeedsFrom count part low)
        → FromEach (world_after x e) (PartNeedsFrom count part low)
    part_lasts x e count part low h o is course =
        let before = origin_before x e o is in
        let w = o.opening in
        let st = replay o x.log in
        let acts = acts_or_none (acts_of w.machine st.machine e.seat e.deed) in
        let was = h o before course.2 in
        let now = kept_at w.machine o.parts before.sound (λ act. Unit {0})
        (λ a b. Needs count part low a → Needs count part low b)
        (kept count part low w.machine o.parts before.sound) st.machine e.seat acts
        (at_course o before.sound x.log course.2) (any_acts acts)
        (in_order w st e (acts_of w.machine st.machine e.seat e.deed) course.0.enabled)
        (record { none = was.needs; next = was.next }) in
        record { needs = now.none; next = now.next }
