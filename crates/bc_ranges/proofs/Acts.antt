-- Each act of the machine keeps it.
use Rattle.std.proofs.Common.{◌≡◌, ℕ, Bool, List, [], ◌∷◌, ◌++◌, refl, sym, subst}
use Rattle.bc_key.specs.declared.key.Key.{Key}
use Rattle.bc_model.specs.Sector.{Value}
use Rattle.bc_books.specs.Books.{Step}
use Rattle.bc_books.specs.Books as book
use Rattle.bc_meta.specs.Events as event
use Rattle.bc_meta.specs.Acts as meta
use Rattle.bc_leaves.specs.Parts as parts
use Rattle.bc_leaves.specs.Events as parts_event
use Rattle.bc_leaves.specs.Enabled as parts_act
use Rattle.bc_leaves.specs.After as parts_step
use Rattle.bc_leaves.specs.Laws.{parts_of}
use Rattle.bc_leaves.specs.Laws as joint
use Rattle.bc_whole.specs.State.{Opening, Write, OfData, OfEntry, OfSet, OfParent, OfLeaf, OfInner, OfPriorities, Outside, Root, SameRoot, NewRoot}
use Rattle.bc_whole.specs.Together.{inserted, parts_fault, parts_seal, parts_write, prio_of, released, step}
use Rattle.bc_known.specs.Acts.{State, Act, Alone, Keyed, WriteCache, FailCache, CacheBarrier, Seal, MakeDurable, BeginBucket, Take, LetGo, ReadyChain, BeginChange, Install, ForgetDrafts, Event, after}
use Rattle.bc_known.specs.Run.{IsEnabled, IsRun, run, start}
use Rattle.bc_known.specs.Laws.{IsSound}
use Rattle.bc_known.proofs.Keyed.{parts_join}
use Rattle.bc_known.proofs.Writes.{write_enabled, fault_enabled}
use Rattle.bc_known.proofs.Others.{take_enabled}
use Rattle.bc_ranges.specs.Made.{AreWellMade, Frame, IsWellMade, IsWellWritten}
use Rattle.bc_ranges.proofs.Slots.{AreMade, Brings, keep_made}
use Rattle.bc_ranges.proofs.Steps.{At, inv, keep, order}

insert_one : (f : Frame) (st : parts.State) (slot : ℕ) (key : Key) → AreMade f st → AreMade f (parts_step.after st (parts_event.Insert slot key))
insert_one f st slot key m = record { leaves = m.leaves; inner_nodes = m.inner_nodes; newest = m.newest; entry = m.entry; end = m.end }

insert_made : (f : Frame) (st : parts.State) (slot : ℕ) (keys : List Key) → AreMade f st → AreMade f (parts_of st (inserted slot keys))
insert_made f st slot [] m = m
insert_made f st slot (key ∷ keys) m =
    subst (λ (p : parts.State). AreMade f p) (sym (parts_join st (inserted slot keys) (step (meta.Plain (event.AddKey key)) (parts_event.Insert slot key))))
    (insert_one f (parts_of st (inserted slot keys)) slot key (insert_made f st slot keys m))

release_same : (st : parts.State) (steps : List Step) → parts_of st (released steps) ≡ st
release_same st [] = refl
release_same st (book.MakeNode i b ∷ xs) = release_same st xs
release_same st (x ∷ xs) = release_same st xs

write_brings : (f : Frame) (w : Opening) (st : parts.State) (x : Write) (values : List Value) → IsWellWritten f st x → Brings f st (parts_write w.layout x values)
write_brings f w st (OfData q place) values b = tt
write_brings f w st OfEntry values b = tt
write_brings f w st (OfSet i set) values b = b
write_brings f w st (OfParent i set) values b = b
write_brings f w st (OfLeaf i leaf set) values b = b
write_brings f w st (OfInner i inner set) values b = b
write_brings f w st (OfPriorities q part set) values b = tt
write_brings f w st (Outside place) values b = tt

fault_brings : (f : Frame) (w : Opening) (st : parts.State) (x : Write) (values : List Value) → IsWellWritten f st x → Brings f st (parts_fault w.layout x values)
fault_brings f w st (OfData q place) values b = tt
fault_brings f w st OfEntry values b = tt
fault_brings f w st (OfSet i set) values b = b
fault_brings f w st (OfParent i set) values b = b
fault_brings f w st (OfLeaf i leaf set) values b = tt
fault_brings f w st (OfInner i inner set) values b = tt
fault_brings f w st (OfPriorities q part set) values b = tt
fault_brings f w st (Outside place) values b = tt

module _ (f : Frame) (w : Opening) (x : parts.State) (sound : IsSound w x) (st : State) (seat : ℕ) (h : At w x st) (m : AreMade f st.whole.parts) where
  seal_made : (last_seq prio : ℕ) (rest : List ℕ) (root : Root) → parts_act.IsEnabled st.whole.parts (parts_seal last_seq prio rest root)
      → Brings f st.whole.parts (parts_seal last_seq prio rest root) → AreMade f (parts_step.after st.whole.parts (parts_seal last_seq prio rest root))
  seal_made last_seq prio rest root on b = keep_made f st.whole.parts m (parts_seal last_seq prio rest root) on (inv w x sound st seat h).fits b

  pub made_act : (act : Act) → IsEnabled w st seat act → IsWellMade f st act → AreMade f (after w st seat act).whole.parts
  made_act (Alone act) on b = m
  made_act (Keyed act slot keys) on b = insert_made f st.whole.parts slot keys m
  made_act (WriteCache y values) on b =
      let k = inv w x sound st seat h in
      keep_made f st.whole.parts m (parts_write w.layout y values)
      (write_enabled w st seat (inv w x sound st seat h) h.known sound.laid (order w x sound st seat h) y values on).store.1.0
      k.fits (write_brings f w st.whole.parts y values b)
  made_act (FailCache y values) on b =
      let k = inv w x sound st seat h in
      keep_made f st.whole.parts m (parts_fault w.layout y values)
      (fault_enabled w st seat (inv w x sound st seat h) h.known sound.laid (order w x sound st seat h) y values on).store.1.0
      k.fits (fault_brings f w st.whole.parts y values b)
  made_act CacheBarrier on b = keep_made f st.whole.parts m parts_event.Barrier tt (inv w x sound st seat h).fits tt
  made_act (Seal last_seq rest SameRoot chain) on b = seal_made last_seq (prio_of st.whole.parts.records chain) rest SameRoot on.asks.0 b
  made_act (Seal last_seq rest (NewRoot r) chain) on b = seal_made last_seq (prio_of st.whole.parts.records chain) rest (NewRoot r) on.asks.0 b
  made_act MakeDurable on b = keep_made f st.whole.parts m parts_event.MakeDurable on.asks (inv w x sound st seat h).fits tt
  made_act (BeginBucket q) on b = keep_made f st.whole.parts m (parts_event.BeginBucket q) on.asks.0 (inv w x sound st seat h).fits tt
  made_act (Take p q) on b =
      keep_made f st.whole.parts m (parts_event.Reuse q)
      (take_enabled w st seat (inv w x sound st seat h) h.known sound.laid (order w x sound st seat h) p q on).store.1.0
      (inv w x sound st seat h).fits tt
  made_act (LetGo q room) on b = m
  made_act (ReadyChain room) on b = m
  made_act (BeginChange low high gone come old new unused) on b =
      keep_made f st.whole.parts m (parts_event.BeginChange low high gone come old new unused) on.asks.0 (inv w x sound st seat h).fits tt
  made_act (Install unused steps) on b =
      subst (λ (p : parts.State). AreMade f p) (sym (release_same (parts_step.after st.whole.parts (parts_event.Install unused)) steps))
      (keep_made f st.whole.parts m (parts_event.Install unused) on.asks.0 (inv w x sound st seat h).fits tt)
  made_act ForgetDrafts on b = keep_made f st.whole.parts m parts_event.ForgetDrafts tt (inv w x sound st seat h).fits tt

-- a state with all of it
pub record Stage (f : Frame) (w : Opening) (x : parts.State) (st : State) : Type 0 where
  pub at : At w x st
  pub made : AreMade f st.whole.parts

pub made_run : (f : Frame) (w : Opening) (x : parts.State) (sound : IsSound w x) (st : State) (es : List Event) → IsRun w st es → AreWellMade f w st es
    → Stage f w x st → Stage f w x (run w st es)
made_run f w x sound st [] on b h = h
made_run f w x sound st (e ∷ es) on b h =
    made_run f w x sound (after w st e.seat e.act) es on.1 b.1 (record {
      at = keep w x sound st e.seat h.at e.act on.0;
      made = made_act f w x sound st e.seat h.at h.made e.act on.0 b.0;
    })
