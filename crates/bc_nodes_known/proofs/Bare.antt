-- What comes with a change has no keys but those of its sets.
use Rattle.std.proofs.Common.{◌≡◌, ◌≢◌, ℕ, Bool, true, false, List, [], ◌∷◌, refl, sym, ap, ◌∙◌, subst, if◌then◌else◌}
use Rattle.std.specs.Prelude.{◌==◌}
use Rattle.bc_model.specs.Sector.{Value}
use Rattle.bc_key.specs.declared.key.Key.{Key}
use Rattle.bc_books.specs.Books.{Step}
use Rattle.bc_meta.specs.Acts as meta
use Rattle.bc_meta.specs.Events as event
use Rattle.bc_meta.specs.Facts.{In}
use Rattle.bc_meta.proofs.Lists.{by_test}
use Rattle.bc_leaves.specs.Parts.{Pending, Role, NoNode, Draft, Free, Leaving, Coming, next_number}
use Rattle.bc_leaves.specs.Parts as parts
use Rattle.bc_leaves.specs.Events as parts_event
use Rattle.bc_leaves.specs.After as parts_step
use Rattle.bc_leaves.specs.After.{has, changed, forgotten, installed}
use Rattle.bc_leaves.specs.Laws.{parts_of}
use Rattle.bc_leaves.proofs.Chains.{in_has}
use Rattle.bc_whole.specs.State.{Opening, Write, OfData, OfEntry, OfSet, OfParent, OfLeaf, OfInner, OfPriorities, Outside, Root, SameRoot, NewRoot, Chain}
use Rattle.bc_whole.specs.Together.{inserted, step}
use Rattle.bc_whole.proofs.Kept.{Inv}
use Rattle.bc_known.specs.Acts.{State, Act, Keyed, WriteCache, FailCache, Seal, BeginChange, Install, ForgetDrafts, Event, after}
use Rattle.bc_known.specs.Laws.{IsSound}
use Rattle.bc_known.specs.Run.{IsEnabled, IsRun, run}
use Rattle.bc_known.proofs.Keyed.{parts_join}
use Rattle.bc_known.proofs.Law.{At, inv_at, keep}
use Rattle.bc_shares.specs.Shares.{Shape}
use Rattle.bc_shares.proofs.Acts.{released_parts}
use Rattle.bc_shares.proofs.Parts.{keyed_parts}

abbrev pub ComesBare : parts.State → Type 0
ComesBare p = (k : ℕ) → (p.leaves k).role ≡ Coming → (p.leaves k).pending ≡ []

free_coming : (r : Role) → r ≡ Free → r ≡ Coming → ⊥
free_coming r free coming = let is : Free ≡ Coming = sym free ∙ coming in cc

draft_coming : (r : Role) → r ≡ Draft → r ≡ Coming → ⊥
draft_coming r draft coming = let is : Draft ≡ Coming = sym draft ∙ coming in cc

-- keys come into another leaf
others_keep : (p : parts.State) (slot : ℕ) (keys : List Key) (k : ℕ) → k ≢ slot
    → ((parts_of p (inserted slot keys)).leaves k).pending ≡ (p.leaves k).pending
others_keep p slot [] k apart = refl
others_keep p slot (key ∷ keys) k apart =
    let q = parts_of p (inserted slot keys) in
    ap (λ (s : parts.State). (s.leaves k).pending) (parts_join p (inserted slot keys)
    (step (meta.Plain (event.AddKey key)) (parts_event.Insert slot key)))
    ∙ by_test k slot (λ t. (if t then record { number = next_number q.records; key = key }
    ∷ (q.leaves k).pending else (q.leaves k).pending) ≡ (q.leaves k).pending)
    (λ same. absurd (apart same)) (λ _. refl)
    ∙ others_keep p slot keys k apart

keyed_bare : (p : parts.State) (slot : ℕ) (keys : List Key) → (p.leaves slot).role ≡ Free
    → ComesBare p → ComesBare (parts_of p (inserted slot keys))
keyed_bare p slot keys free h k coming =
    let was = sym (ap (λ (x : Shape). x.role) ((keyed_parts p slot keys).leaves k)) ∙ coming in
    others_keep p slot keys k (λ same. free_coming (p.leaves slot).role free
    (ap (λ i. (p.leaves i).role) (sym same) ∙ was)) ∙ h k was

changed_bare : (gone come : List ℕ) (k : ℕ) (r : Role) (xs : List Pending)
    → (In k come → xs ≡ []) → (r ≡ Coming → xs ≡ []) → changed gone come k r ≡ Coming → xs ≡ []
changed_bare gone come k r xs new old = cases (has gone k) (has come k) refl
  where
    cases : (a b : Bool) → has come k ≡ b
        → (if a then Leaving else (if b then Coming else r)) ≡ Coming → xs ≡ []
    cases true b is h = absurd (cc)
    cases false true is h = new (in_has come k is)
    cases false false is h = old h

forgotten_coming : (r : Role) → forgotten r ≡ Coming → r ≡ Coming
forgotten_coming NoNode h = absurd (cc)
forgotten_coming Draft h = absurd (cc)
forgotten_coming Free h = absurd (cc)
forgotten_coming Leaving h = absurd (cc)
forgotten_coming Coming h = refl

installed_coming : (r : Role) → installed r ≡ Coming → ⊥
installed_coming NoNode h = cc
installed_coming Draft h = cc
installed_coming Free h = cc
installed_coming Leaving h = cc
installed_coming Coming h = cc

module _ (w : Opening) (x : parts.State) (sound : IsSound w x) (st : State) (i : ℕ)
    (at : At w x st) (h : ComesBare st.whole.parts) where
  inv : Inv w st.whole
  inv = inv_at w x st.whole sound at.at

  abbrev Bare : Act → Type 0
  Bare act = ComesBare (after w st i act).whole.parts

  bare_write : (y : Write) (values : List Value) → IsEnabled w st i (WriteCache y values)
      → Bare (WriteCache y values)
  bare_write (OfLeaf j leaf set) values on = λ k. by_test k j
      (λ t. (if t then leaf else st.whole.parts.leaves k).role ≡ Coming
      → (if t then leaf else st.whole.parts.leaves k).pending ≡ [])
      (λ _ _. on.asks.2) (λ _. h k)
  bare_write (OfSet j set) values on = λ k coming. by_test k j
      (λ t. (if t then [] else (st.whole.parts.leaves k).pending) ≡ [])
      (λ _. refl) (λ _. h k coming)
  bare_write (OfInner j inner set) values on = h
  bare_write (OfParent j set) values on = h
  bare_write OfEntry values on = h
  bare_write (OfData q place) values on = h
  bare_write (OfPriorities q part set) values on = h
  bare_write (Outside place) values on = h

  bare_fault : (y : Write) (values : List Value) → Bare (FailCache y values)
  bare_fault (OfLeaf j leaf set) values = h
  bare_fault (OfSet j set) values = h
  bare_fault (OfInner j inner set) values = h
  bare_fault (OfParent j set) values = h
  bare_fault OfEntry values = h
  bare_fault (OfData q place) values = h
  bare_fault (OfPriorities q part set) values = h
  bare_fault (Outside place) values = h

  bare_seal : (last_seq : ℕ) (rest : List ℕ) (root : Root) (chain : Chain)
      → Bare (Seal last_seq rest root chain)
  bare_seal last_seq rest SameRoot chain = h
  bare_seal last_seq rest (NewRoot r) chain = h

  bare_one : (act : Act) → IsEnabled w st i act → Bare act
  bare_one (Keyed act slot keys) on = keyed_bare st.whole.parts slot keys on.asks.1 h
  bare_one (WriteCache y values) on = bare_write y values on
  bare_one (FailCache y values) on = bare_fault y values
  bare_one (Seal last_seq rest root chain) on = bare_seal last_seq rest root chain
  bare_one (BeginChange low high gone come old new un) on = λ k. changed_bare gone come k
      (st.whole.parts.leaves k).role (st.whole.parts.leaves k).pending
      (λ is. (inv.fits.leaves.drafts k (on.asks.0.come_leaf k is).0).none) (h k)
  bare_one (Install un steps) on =
      let p = parts_step.after st.whole.parts (parts_event.Install un) in
      subst ComesBare (sym (released_parts p steps))
      (λ k coming. absurd (installed_coming (st.whole.parts.leaves k).role coming))
  bare_one ForgetDrafts on = λ k coming. h k (forgotten_coming (st.whole.parts.leaves k).role coming)
  bare_one act on = h

pub bare_run : (w : Opening) (x : parts.State) → IsSound w x → (st : State) (es : List Event)
    → IsRun w st es → At w x st → ComesBare st.whole.parts → ComesBare (run w st es).whole.parts
bare_run w x sound st [] on at h = h
bare_run w x sound st (e ∷ es) on at h = bare_run w x sound (after w st e.seat e.act) es on.1
    (keep w x sound st e.seat at e.act on.0) (bare_one w x sound st e.seat at h e.act on.0)
