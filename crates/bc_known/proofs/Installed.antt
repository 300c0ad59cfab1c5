-- An install lets go the buckets of new nodes.
use Rattle.std.proofs.Common.{◌≡◌, ℕ, Bool, List, [], ◌∷◌, None, refl, subst, if◌then◌else◌}
use Rattle.bc_books.specs.Index.{put}
use Rattle.bc_books.specs.Shelves.{Tree, Shelf, Loose, Held}
use Rattle.bc_books.specs.Books.{Step, Regroup, MakeNode, DropNode}
use Rattle.bc_books.specs.Invariant.{IsInOrder}
use Rattle.bc_data.specs.Data as flow
use Rattle.bc_data.specs.After.{IsCourse, course}
use Rattle.bc_data.specs.After as flow_step
use Rattle.bc_meta.specs.Layout.{Layout}
use Rattle.bc_meta.specs.Events as event
use Rattle.bc_meta.specs.Acts.{StaysUnused}
use Rattle.bc_meta.specs.Acts as meta
use Rattle.bc_meta.proofs.Lists.{by_test}
use Rattle.bc_leaves.specs.Parts as parts
use Rattle.bc_leaves.specs.Events as parts_event
use Rattle.bc_leaves.specs.After as parts_step
use Rattle.bc_leaves.specs.Laws.{IsJoint, acts_of}
use Rattle.bc_whole.specs.State.{Opening}
use Rattle.bc_whole.specs.State as whole
use Rattle.bc_whole.specs.Together.{AreInstalled, released, shelved}
use Rattle.bc_whole.specs.Run.{by}
use Rattle.bc_whole.specs.Run as whole_run
use Rattle.bc_whole.proofs.Kept.{Inv}
use Rattle.bc_known.specs.Acts.{State, Install}
use Rattle.bc_known.specs.Asked.{AsksSteps}
use Rattle.bc_known.specs.Run.{IsEnabled}
use Rattle.bc_known.specs.Known.{IsKnown, AreLaid, HasHolder}
use Rattle.bc_known.proofs.Places as places
use Rattle.bc_known.proofs.Writes as writes

-- holds as both sides know them
pub record AgreeOnHolds (shelf : ℕ → Shelf) (m : meta.State) : Type 0 where
  pub holders : (q : ℕ) → HasHolder (shelf q) (m.holder q)
  pub unnamed : (q i : ℕ) → shelf q ≡ Held i Tree → m.chain_of q ≡ None

made : (shelf : ℕ → Shelf) (m : meta.State) (w : Layout) (i b : ℕ) → AgreeOnHolds shelf m
    → AgreeOnHolds (put shelf b Loose) (meta.after w m (meta.LetGo i b))
made shelf m w i b h = record {
  holders = λ q. by_test q b
      (λ t. HasHolder (if t then Loose else shelf q) (if t then None else m.holder q))
      (λ _. refl) (λ _. h.holders q);
  unnamed = λ q j. by_test q b
      (λ t. (if t then Loose else shelf q) ≡ Held j Tree → m.chain_of q ≡ None)
      (λ _ e. absurd (cc)) (λ _ e. h.unnamed q j e);
}

module _ (w : Opening) (seat : ℕ) where
  -- the buckets of new nodes are the seat's
  pub released_joint : (f : flow.State) (m : meta.State) (p : parts.State) (un : ℕ → Bool)
      (old : parts.State) (xs : List Step) → AsksSteps old seat un xs
      → IsCourse w.flow f (by seat (shelved xs)) → AgreeOnHolds f.books.shelf m
      → IsJoint w.layout m p (released xs)
  released_joint f m p un old [] ask on h = tt
  released_joint f m p un old (MakeNode i b ∷ xs) ask on h = (
    refl,
    tt,
    tt,
    (
      subst (λ (x : Shelf). HasHolder x (m.holder b)) on.0.steps.0 (h.holders b),
      h.unnamed b i on.0.steps.0,
    ),
    released_joint (flow_step.after w.flow f seat (flow.Shelve (MakeNode i b)))
        (meta.after w.layout m (meta.LetGo i b)) p un old xs ask.1 on.1
        (made f.books.shelf m w.layout i b h),
  )
  released_joint f m p un old (Regroup leaf changed counts last ∷ xs) ask on h =
      released_joint (flow_step.after w.flow f seat
      (flow.Shelve (Regroup leaf changed counts last))) m p un old xs ask.1 on.1 h
  released_joint f m p un old (DropNode b ∷ xs) ask on h =
      released_joint (flow_step.after w.flow f seat (flow.Shelve (DropNode b))) m p un old xs
      ask.1 on.1 h
  released_joint f m p un old (x ∷ xs) ask on h = absurd ask.0

  pub released_holds : (f : flow.State) (m : meta.State) (un : ℕ → Bool) (old : parts.State)
      (xs : List Step) → AsksSteps old seat un xs
      → AgreeOnHolds f.books.shelf m
      → AgreeOnHolds (course w.flow f (by seat (shelved xs))).books.shelf
      (meta.fold w.layout m (acts_of (released xs)))
  released_holds f m un old [] ask h = h
  released_holds f m un old (MakeNode i b ∷ xs) ask h =
      released_holds (flow_step.after w.flow f seat (flow.Shelve (MakeNode i b)))
      (meta.after w.layout m (meta.LetGo i b)) un old xs ask.1
      (made f.books.shelf m w.layout i b h)
  released_holds f m un old (Regroup leaf changed counts last ∷ xs) ask h =
      released_holds (flow_step.after w.flow f seat
      (flow.Shelve (Regroup leaf changed counts last))) m un old xs ask.1 h
  released_holds f m un old (DropNode b ∷ xs) ask h =
      released_holds (flow_step.after w.flow f seat (flow.Shelve (DropNode b))) m un old xs ask.1 h
  released_holds f m un old (x ∷ xs) ask h = absurd ask.0

  pub installed : (un : ℕ → Bool) (old : parts.State) (xs : List Step)
      → AsksSteps old seat un xs → AreInstalled un xs
  installed un old [] ask = tt
  installed un old (MakeNode i b ∷ xs) ask = (tt, installed un old xs ask.1)
  installed un old (Regroup leaf changed counts last ∷ xs) ask =
      (tt, installed un old xs ask.1)
  installed un old (DropNode b ∷ xs) ask = (ask.0.0, installed un old xs ask.1)
  installed un old (x ∷ xs) ask = absurd ask.0

module _ (w : Opening) (st : State) (seat : ℕ) (inv : Inv w st.whole) (z : IsKnown w st)
    (laid : AreLaid w) (f : IsInOrder w.flow.books st.whole.flow.books) where
  pub agree : AgreeOnHolds st.whole.flow.books.shelf st.whole.store
  agree = record {
    holders = z.holders;
    unnamed = λ q i e. places.no_store_chain w st inv z laid f q
        (places.no_chain w st inv z laid f q
        (λ h. subst places.IsChainShelf e h));
  }

  pub install_enabled : (un : ℕ → Bool) (steps : List Step)
      → IsEnabled w st seat (Install un steps)
      → whole_run.IsEnabled w st.whole seat (whole.Install un steps)
  install_enabled un steps on = record {
    together = (on.asks.1, installed w seat un st.whole.parts steps on.asks.2);
    flow = on.data_allows;
    store = (
      refl,
      (on.asks.0, tt),
      tt,
      (refl, λ q a. on.asks.1 q (writes.unused w st seat inv z laid f q a)),
      released_joint w seat st.whole.flow
          (meta.after w.layout st.whole.store (meta.Plain (event.GiveUp un)))
          (parts_step.fold st.whole.parts (parts_event.Install un ∷ [])) un st.whole.parts steps
          on.asks.2 on.data_allows (record { holders = agree.holders; unnamed = agree.unnamed }),
    );
  }
