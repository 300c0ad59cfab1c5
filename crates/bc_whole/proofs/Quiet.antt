-- What the metadata has no part in leaves all that it shares with the data.
use Rattle.std.proofs.Common.{◌≡◌, ◌⊎◌, inl, inr, ℕ, Bool, true, refl, sym, ◌∙◌, subst, if◌then◌else◌}
use Rattle.bc_meta.proofs.Lists.{by_test}
use Rattle.bc_books.specs.Index.{put}
use Rattle.bc_books.specs.Shelves.{Purpose, by_room, Priorities, Moving, Plain, Tree, Shelf, Loose, Listed, Raised, Open, Held}
use Rattle.bc_books.specs.Books.{Setup, Books, Step, Put, Regroup, Take, Shut, LetGo, Pin, Unpin, Keep, BeginNode, MakeNode, DropNode, Raise, MakeReady, ReadyChain, Seal, SealChain, Sealed, Begin, Walk, End, Drop}
use Rattle.bc_books.specs.Enabled.{CanStep}
use Rattle.bc_books.specs.After as books
use Rattle.bc_books.specs.Laws.{IsForNode}
use Rattle.bc_data.specs.Data as flow
use Rattle.bc_data.specs.Enabled.{IsEnabled}
use Rattle.bc_data.specs.After.{after, stage_at_step}
use Rattle.bc_whole.specs.Together.{is_quiet_step, is_quiet}
use Rattle.bc_whole.specs.Linked.{stage_of, Stored, HaveOneIndex, HaveOneChain, AreLinked}

pub record StillBooks (a b : Books) : Type 0 where
  pub index : b.index ≡ a.index
  pub journal : b.journal ≡ a.journal
  pub chains : b.chains ≡ a.chains
  pub durable : b.generations.durable ≡ a.generations.durable
  pub sealed : b.generations.sealed ≡ a.generations.sealed
  pub nodes : (q : ℕ) → IsForNode a q → IsForNode b q

pub record StillFlow (a b : flow.State) : Type 0 where
  pub cache : b.cache ≡ a.cache
  pub stage : b.stage ≡ a.stage
  pub books : StillBooks a.books b.books

pub link_still : (r : Stored) (a b : flow.State) → StillFlow a b → AreLinked r a → AreLinked r b
link_still r a b s l = record {
  device = s.cache ∙ l.device;
  stage = subst (λ g. stage_is g) (sym s.stage) l.stage;
  index = subst (λ x. HaveOneIndex r.stage r.waiting r.sealed r.index x b.books.journal)
      (sym s.books.index) (subst (λ j. HaveOneIndex r.stage r.waiting r.sealed r.index
      a.books.index j) (sym s.books.journal) l.index);
  chain = subst (λ x. HaveOneChain r.chain_of r.gens r.ready_chain r.durable_chain r.sealed_chain
      x b.books.generations.durable b.books.generations.sealed) (sym s.books.chains)
      (subst (λ g. HaveOneChain r.chain_of r.gens r.ready_chain r.durable_chain r.sealed_chain
      a.books.chains g b.books.generations.sealed) (sym s.books.durable)
      (subst (λ g. HaveOneChain r.chain_of r.gens r.ready_chain r.durable_chain r.sealed_chain
      a.books.chains a.books.generations.durable g) (sym s.books.sealed) l.chain));
  nodes = λ q e. s.books.nodes q (l.nodes q e);
}
  where
    stage_is : flow.Stage → Type 0
    stage_is g = stage_of g ≡ r.stage

-- a shelf that changes where no node is held
pub put_nodes : (node : ℕ → Bool) (shelf : ℕ → Shelf) (b : ℕ) (y : Shelf)
    → ((i : ℕ) → shelf b ≡ Held i Tree → ⊥) → (q : ℕ)
    → (node q ≡ true) ⊎ ((i : ℕ) × (shelf q ≡ Held i Tree))
    → (node q ≡ true) ⊎ ((i : ℕ) × (put shelf b y q ≡ Held i Tree))
put_nodes node shelf b y none q (inl h) = inl h
put_nodes node shelf b y none q (inr h) = inr (
  h.0,
  by_test q b
      (λ t. (if t then y else shelf q) ≡ Held h.0 Tree)
      (λ e. absurd (none h.0 (subst (λ x. shelf x ≡ Held h.0 Tree) e h.1))) (λ _. h.1),
)

begin_node : (node : ℕ → Bool) (shelf : ℕ → Shelf) (i b q : ℕ)
    → (node q ≡ true) ⊎ ((j : ℕ) × (shelf q ≡ Held j Tree))
    → (node q ≡ true) ⊎ ((j : ℕ) × (put shelf b (Held i Tree) q ≡ Held j Tree))
begin_node node shelf i b q (inl h) = inl h
begin_node node shelf i b q (inr h) = inr (by_test q b
    (λ t. (j : ℕ) × ((if t then Held i Tree else shelf q) ≡ Held j Tree))
    (λ _. (i, refl)) (λ _. h))

not_listed : (x : Shelf) (i : ℕ) → (p : Purpose) → x ≡ Listed p
    → x ≡ Held i Tree → ⊥
not_listed x i p a b = cc

not_open : (x : Shelf) (i : ℕ) → x ≡ Open → x ≡ Held i Tree → ⊥
not_open x i a b = cc

not_raised : (x : Shelf) (i : ℕ) → x ≡ Raised → x ≡ Held i Tree → ⊥
not_raised x i a b = cc

not_loose : (x : Shelf) (i : ℕ) → x ≡ Loose → x ≡ Held i Tree → ⊥
not_loose x i a b = cc

-- only shelves change, and the knowledge of nodes stays
shelved : (w : Setup) (k : Books) (x : Step) → books.index_after k.index x ≡ k.index
    → books.journal_after k.index.count k.journal x ≡ k.journal
    → books.chains_after k.chains x ≡ k.chains
    → (books.generations_after w k.round k.generations x).durable ≡ k.generations.durable
    → (books.generations_after w k.round k.generations x).sealed ≡ k.generations.sealed
    → ((q : ℕ) → IsForNode k q → IsForNode (books.after w k x) q)
    → StillBooks k (books.after w k x)
shelved w k x a b c d e f =
    record { index = a; journal = b; chains = c; durable = d; sealed = e; nodes = f }

pub quiet_step : (w : Setup) (k : Books) (x : Step) → is_quiet_step x ≡ true → CanStep w k x
    → StillBooks k (books.after w k x)
quiet_step w k (Put leaf keys) is can = absurd (cc)
quiet_step w k (Regroup leaf changed counts last) is can = absurd (cc)
quiet_step w k (Take i Plain b) is can = shelved w k (Take i Plain b) refl refl refl refl refl
    (put_nodes k.node k.shelf b Open (λ j. elim can [
      | inl e ↦ not_listed (k.shelf b) j Plain e
      | inr (inl e) ↦ not_listed (k.shelf b) j Plain e
      | inr (inr e) ↦ not_listed (k.shelf b) j Moving e.1
    ]))
quiet_step w k (Take i Priorities b) is can = absurd (cc)
quiet_step w k (Take i Moving b) is can = absurd (cc)
quiet_step w k (Take i Tree b) is can = absurd (cc)
quiet_step w k (Shut b) is can = shelved w k (Shut b) refl refl refl refl refl
    (put_nodes k.node k.shelf b Loose (λ j. not_open (k.shelf b) j can))
quiet_step w k (LetGo i b room) is can = absurd (cc)
quiet_step w k (Pin i place count) is can =
    shelved w k (Pin i place count) refl refl refl refl refl (λ q h. h)
quiet_step w k (Unpin place count) is can =
    shelved w k (Unpin place count) refl refl refl refl refl (λ q h. h)
quiet_step w k (Keep c place count) is can =
    shelved w k (Keep c place count) refl refl refl refl refl (λ q h. h)
quiet_step w k (BeginNode i b) is can =
    shelved w k (BeginNode i b) refl refl refl refl refl (begin_node k.node k.shelf i b)
quiet_step w k (MakeNode i b) is can = absurd (cc)
quiet_step w k (DropNode b) is can = absurd (cc)
quiet_step w k (Raise b) is can = shelved w k (Raise b) refl refl refl refl refl
    (put_nodes k.node k.shelf b Raised (λ j. not_loose (k.shelf b) j can.1))
quiet_step w k (MakeReady b room) is can = shelved w k (MakeReady b room) refl refl refl refl refl
    (put_nodes k.node k.shelf b (by_room room)
    (λ j. not_raised (k.shelf b) j can.0))
quiet_step w k (ReadyChain room) is can = absurd (cc)
quiet_step w k Seal is can = absurd (cc)
quiet_step w k (SealChain i versions chain) is can = absurd (cc)
quiet_step w k Sealed is can = absurd (cc)
quiet_step w k Begin is can = shelved w k Begin refl refl refl refl refl (λ q h. h)
quiet_step w k (Walk leaf) is can = shelved w k (Walk leaf) refl refl refl refl refl (λ q h. h)
quiet_step w k End is can = shelved w k End refl refl refl refl refl (λ q h. h)
quiet_step w k Drop is can = shelved w k Drop refl refl refl refl refl (λ q h. h)

quiet_stage : (g : flow.Stage) (x : Step) → is_quiet_step x ≡ true → stage_at_step g x ≡ g
quiet_stage g Seal is = absurd (cc)
quiet_stage g (SealChain i versions chain) is = absurd (cc)
quiet_stage g Sealed is = absurd (cc)
quiet_stage g x is = refl

still : (k : Books) → StillBooks k k
still k = record {
  index = refl;
  journal = refl;
  chains = refl;
  durable = refl;
  sealed = refl;
  nodes = λ q h. h;
}

pub quiet_act : (w : flow.Opening) (st : flow.State) (seat : ℕ) (act : flow.Act)
    → is_quiet act ≡ true → IsEnabled w st seat act → StillFlow st (after w st seat act)
quiet_act w st seat (flow.CacheWrite payload place values) is on = absurd (cc)
quiet_act w st seat flow.CacheBarrier is on = absurd (cc)
quiet_act w st seat (flow.InsertWrite line leaf keys first values) is on = absurd (cc)
quiet_act w st seat (flow.Insert form leaf keys) is on = absurd (cc)
quiet_act w st seat (flow.Settle number leaf keys) is on = absurd (cc)
quiet_act w st seat (flow.Shelve x) is on = record {
  cache = refl;
  stage = quiet_stage st.stage x is;
  books = quiet_step w.books st.books x is on.steps.0;
}
quiet_act w st seat (flow.Fail (flow.CacheFault payload place values)) is on = absurd (cc)
quiet_act w st seat (flow.Fail (flow.BackingFault route first values)) is on =
    record { cache = refl; stage = refl; books = still st.books }
quiet_act w st seat (flow.Fail flow.BarrierFault) is on =
    record { cache = refl; stage = refl; books = still st.books }
quiet_act w st seat (flow.Fail flow.ReadFault) is on =
    record { cache = refl; stage = refl; books = still st.books }
quiet_act w st seat (flow.NoteCandidate number first count place) is on = record {
  cache = refl;
  stage = refl;
  books = quiet_step w.books st.books (Keep number place count) refl on.steps.0;
}
quiet_act w st seat (flow.PinPlaces place count) is on = record {
  cache = refl;
  stage = refl;
  books = quiet_step w.books st.books (Pin seat place count) refl on.steps.0;
}
quiet_act w st seat (flow.UnpinPlaces place count) is on = record {
  cache = refl;
  stage = refl;
  books = quiet_step w.books st.books (Unpin place count) refl on.steps.0;
}
quiet_act w st seat (flow.UnpinDead number) is on = record {
  cache = refl;
  stage = refl;
  books = quiet_step w.books st.books
      (Unpin (st.candidates number).place (st.candidates number).count) refl on.steps.0;
}
quiet_act w st seat (flow.MakeClaim first count exclusive) is on =
    record { cache = refl; stage = refl; books = still st.books }
quiet_act w st seat flow.Release is on =
    record { cache = refl; stage = refl; books = still st.books }
quiet_act w st seat (flow.Learn note) is on =
    record { cache = refl; stage = refl; books = still st.books }
quiet_act w st seat (flow.BackingWrite route first values) is on =
    record { cache = refl; stage = refl; books = still st.books }
quiet_act w st seat flow.BackingBarrier is on =
    record { cache = refl; stage = refl; books = still st.books }
quiet_act w st seat (flow.Say speech) is on =
    record { cache = refl; stage = refl; books = still st.books }
