-- What no leaf waits for, none ever will: keys that come in are of entries to come.
use Rattle.std.proofs.Common.{◌≡◌, ◌≢◌, ◌⊎◌, inl, inr, ℕ, suc, ◌≤◌, Bool, true, false, List, [], ◌∷◌, refl, sym, ap, ◌∙◌, subst, arith}
use Rattle.std.specs.Prelude.{◌==◌, if◌then◌else◌}
use Rattle.bc_key.specs.declared.key.Key.{Key}
use Rattle.bc_leaves.specs.Parts.{Pending, Role, NoNode, AllFrom, next_number, sealed_number}
use Rattle.bc_leaves.specs.Parts as parts
use Rattle.bc_leaves.specs.Events as parts_event
use Rattle.bc_leaves.specs.Laws.{parts_of}
use Rattle.bc_meta.specs.Acts as meta
use Rattle.bc_meta.specs.Events as event
use Rattle.bc_meta.specs.Entries.{Entry}
use Rattle.bc_meta.specs.Facts.{In}
use Rattle.bc_meta.specs.Records.{Fixed, Nothing, Ready, Safe, Sent, Stage}
use Rattle.bc_whole.specs.State.{Opening, SameRoot, NewRoot}
use Rattle.bc_whole.specs.Together.{inserted, step}
use Rattle.bc_known.specs.Acts.{State, Act, Keyed, Seal, MakeDurable, BeginBucket, after}
use Rattle.bc_known.specs.Laws.{IsSound}
use Rattle.bc_known.specs.Run.{IsEnabled}
use Rattle.bc_known.proofs.Law.{At, inv_at}
use Rattle.bc_shares.specs.Shares.{JournalShare, journal_share}
use Rattle.bc_known.proofs.Keyed.{parts_join}
use Rattle.bc_events.specs.Acts.{acts_of}
use Rattle.bc_events.specs.Run.{acts_or_none, run, start}
use Rattle.bc_shares.proofs.Acts.{AllActs, journal_kept}
use Rattle.bc_shares.proofs.Law.{at_state, in_order}
use Rattle.bc_shares.proofs.Parts.{IsKeptAt, kept_at}
use Rattle.bc_needs.specs.Needs.{LawLasts}
use Rattle.bc_needs.proofs.Untouched.{AreFrom, Needs, from_old, one_act}

sealed_above : (g : Stage) (n : ℕ) → n ≤ sealed_number g n
sealed_above Nothing n = omega arith
sealed_above Fixed n = omega arith
sealed_above Ready n = omega arith
sealed_above Sent n = omega arith
sealed_above Safe n = omega arith

-- each leaf waits for what it did before, or for keys of later entries
pub record IsLater (n : ℕ) (a b : parts.State) : Type 0 where
  pub roles : (k : ℕ) → (b.leaves k).role ≡ (a.leaves k).role
  pub pending : (k : ℕ) (x : Pending) → In x (b.leaves k).pending
      → In x (a.leaves k).pending ⊎ (n ≤ x.number)
  pub newest : b.records.newest ≡ a.records.newest

put_one : (n m : ℕ) (key : Key) (xs : List Pending) (here : Bool) → n ≤ m → (x : Pending)
    → In x (if here then record { number = m; key = key } ∷ xs else xs)
    → In x xs ⊎ (n ≤ x.number)
put_one n m key xs false low x i = inl i
put_one n m key xs true low x (inl is) =
    inr (let same = ap (λ (y : Pending). y.number) is in omega (arith, low, same))
put_one n m key xs true low x (inr i) = inl i

keyed : (p : parts.State) (slot : ℕ) (keys : List Key)
    → IsLater (suc p.records.newest.number) p (parts_of p (inserted slot keys))
keyed p slot [] = record { roles = λ k. refl; pending = λ k x i. inl i; newest = refl }
keyed p slot (key ∷ keys) =
    let q = parts_of p (inserted slot keys) in
    let h = keyed p slot keys in
    let least : suc p.records.newest.number ≤ next_number q.records =
    let same = ap (λ (e : Entry). e.number) h.newest in
    let above = sealed_above q.records.stage q.records.newest.number in
    omega (arith, same, above) in
    subst (λ (s : parts.State). IsLater (suc p.records.newest.number) p s)
    (sym (parts_join p (inserted slot keys)
    (step (meta.Plain (event.AddKey key)) (parts_event.Insert slot key))))
    (record {
      roles = h.roles;
      pending = λ k x i. elim (put_one (suc p.records.newest.number) (next_number q.records) key
          (q.leaves k).pending (k == slot) least x i) [
            | inl old ↦ h.pending k x old
            | inr high ↦ inr high
          ];
      newest = h.newest;
    })

-- ---- acts

pub record NeedsLater (low : ℕ) (st : State) : Type 0 where
  pub needs : Needs low st
  pub next : low ≤ suc st.whole.parts.records.newest.number

later : (low : ℕ) (a b : State)
    → IsLater (suc a.whole.parts.records.newest.number) a.whole.parts b.whole.parts
    → NeedsLater low a → NeedsLater low b
later low a b h needs = record {
  needs = λ k some x i. elim (h.pending k x i) [
    | inl old ↦ needs.needs k (subst (λ (r : Role). r ≢ NoNode) (h.roles k) some) x old
    | inr high ↦ (let next = needs.next in omega (arith, high, next))
  ];
  next = let same = ap (λ (e : Entry). e.number) h.newest in let next = needs.next in
      omega (arith, same, next);
}

calm : (low : ℕ) (a b : State) → AreFrom a.whole.parts b.whole.parts
    → journal_share b ≡ journal_share a → NeedsLater low a → NeedsLater low b
calm low a b from same h = record {
  needs = from_old low a b from h.needs;
  next = let newest = ap (λ (x : JournalShare). x.entries.newest.number) same in
      let next = h.next in omega (arith, newest, next);
}

one_later : (w : Opening) (p : parts.State) → IsSound w p → (st : State) (i : ℕ) (act : Act)
    → At w p st → IsEnabled w st i act → (low : ℕ) → NeedsLater low st
    → NeedsLater low (after w st i act)
one_later w p sound st i (Keyed act slot keys) at on low h =
    later low st (after w st i (Keyed act slot keys)) (keyed st.whole.parts slot keys) h
one_later w p sound st i (Seal last_seq rest SameRoot chain) at on low h =
    record { needs = h.needs; next = h.next }
one_later w p sound st i (Seal last_seq rest (NewRoot r) chain) at on low h =
    record { needs = h.needs; next = h.next }
one_later w p sound st i MakeDurable at on low h = record {
  needs = h.needs;
  next =
      let inv = (inv_at w p st.whole sound at.at).records in
      let some : st.whole.parts.records.stage ≢ Nothing =
      λ none. let same : Nothing ≡ Safe = sym none ∙ on.asks in absurd (cc) in
      let number = (inv.follows some).number in
      let next = h.next in omega (arith, number, next);
}
one_later w p sound st i (BeginBucket b) at on low h =
    record { needs = h.needs; next = h.next }
one_later w p sound st i act at on low h = calm low st (after w st i act)
    (one_act w st i act refl on) (journal_kept.one w st i act refl on) h

-- ---- events

kept : (low : ℕ) (w : Opening) (p : parts.State) → IsSound w p
    → IsKeptAt w p (λ act. Unit {0}) (λ a b. NeedsLater low a → NeedsLater low b)
kept low w p sound = record {
  same = λ a h. h;
  both = λ a b c x y h. y (x h);
  one = λ st i act at any on. one_later w p sound st i act at on low;
}

any_acts : (acts : List Act) → AllActs (λ act. Unit {0}) acts
any_acts [] = tt
any_acts (act ∷ acts) = (tt, any_acts acts)

pub law_lasts : LawLasts
law_lasts w x next_seq es e h low was =
    let st = run w (start w x next_seq) es in
    let acts = acts_or_none (acts_of w.machine st.machine e.seat e.deed) in
    let now = kept_at w.machine x h.sound (λ act. Unit {0})
    (λ a b. NeedsLater low a → NeedsLater low b) (kept low w.machine x h.sound)
    st.machine e.seat acts (at_state w x next_seq es h.sound h.course) (any_acts acts)
    (in_order w st e (acts_of w.machine st.machine e.seat e.deed) h.enabled)
    (record { needs = was.needs; next = was.next }) in
    record { needs = now.needs; next = now.next }
