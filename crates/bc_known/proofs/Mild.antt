-- Steps of the books that take nothing from a list for a seat, let nothing go, and make or drop no
-- node: what they leave of holds, of nodes, and of buckets for chains.
use Rattle.std.proofs.Common.{◌≡◌, ◌⊎◌, inl, inr, ℕ, Bool, true, false, List, [], ◌∷◌, Option, Some, None, refl, sym, ap, ◌∙◌, subst, if◌then◌else◌}
use Rattle.bc_books.specs.Index.{put}
use Rattle.bc_books.specs.Shelves.{Purpose, Priorities, Moving, Tree, Plain, Shelf, Loose, Listed, Raised, Open, Held, by_room}
use Rattle.bc_books.specs.Books.{Setup, Books, Step, Put, Regroup, Take, Shut, LetGo, Pin, Unpin, Keep, BeginNode, MakeNode, DropNode, Raise, MakeReady, ReadyChain, Seal, SealChain, Sealed, Begin, Walk, End, Drop}
use Rattle.bc_books.specs.Enabled.{CanStep}
use Rattle.bc_books.specs.After.{after, IsRun, fold}
use Rattle.bc_books.specs.Invariant.{IsInOrder}
use Rattle.bc_books.specs.Laws.{IsForNode}
use Rattle.bc_books.proofs.Known as books
use Rattle.bc_collect.specs.Spare.{IsRoomy}
use Rattle.bc_collect.proofs.Reserve.{HasReserve, near_step, chains_step}
use Rattle.bc_data.specs.Data as flow
use Rattle.bc_data.specs.Seats.{Candidate}
use Rattle.bc_data.specs.Enabled.{steps_of}
use Rattle.bc_meta.specs.Facts.{In}
use Rattle.bc_meta.proofs.Lists.{by_test}
use Rattle.bc_whole.specs.Together.{is_quiet, is_quiet_step, step_of_seal}
use Rattle.bc_whole.specs.State.{Chain, SameChain, NewChain}
use Rattle.bc_known.specs.Acts.{is_for_chain}
use Rattle.bc_known.specs.Known.{HasHolder}

abbrev pub IsMild : Step → Type 0
IsMild (Take i Plain b) = Unit {0}
IsMild (Take i Priorities b) = ⊥
IsMild (Take i Moving b) = ⊥
IsMild (Take i Tree b) = ⊥
IsMild (LetGo i b room) = ⊥
IsMild (MakeNode i b) = ⊥
IsMild (DropNode b) = ⊥
IsMild (ReadyChain room) = ⊥
IsMild x = Unit {0}

abbrev pub AreMild : List Step → Type 0
AreMild [] = Unit {0}
AreMild (x ∷ xs) = IsMild x × AreMild xs

-- what holders, and the buckets that are kept for chains, are in these books
pub record Stands (w : Setup) (k : Books) (holder : ℕ → Option ℕ) (kept : List ℕ) : Type 0 where
  pub order : IsInOrder w k
  pub holders : (q : ℕ) → HasHolder (k.shelf q) (holder q)
  pub spare : (q : ℕ) → In q kept → is_for_chain (k.shelf q) ≡ true
  pub reserve : HasReserve w k

pub put_holders : (shelf : ℕ → Shelf) (holder : ℕ → Option ℕ) (b : ℕ) (y : Shelf)
    → ((q : ℕ) → HasHolder (shelf q) (holder q)) → HasHolder y (holder b)
    → (q : ℕ) → HasHolder (put shelf b y q) (holder q)
put_holders shelf holder b y all here q = by_test q b
    (λ t. HasHolder (if t then y else shelf q) (holder q))
    (λ e. subst (λ x. HasHolder y (holder x)) (sym e) here) (λ _. all q)

pub put_spare : (shelf : ℕ → Shelf) (spare : List ℕ) (b : ℕ) (y : Shelf)
    → ((q : ℕ) → In q spare → is_for_chain (shelf q) ≡ true)
    → (is_for_chain (shelf b) ≡ true → is_for_chain y ≡ true)
    → (q : ℕ) → In q spare → is_for_chain (put shelf b y q) ≡ true
put_spare shelf spare b y all here q i = by_test q b
    (λ t. is_for_chain (if t then y else shelf q) ≡ true)
    (λ e. here (subst (λ x. is_for_chain (shelf x) ≡ true) e (all q i))) (λ _. all q i)

pub put_nodes : (node : ℕ → Bool) (shelf : ℕ → Shelf) (b : ℕ) (y : Shelf)
    → ((i : ℕ) → shelf b ≡ Held i Tree → (j : ℕ) × (y ≡ Held j Tree)) → (q : ℕ)
    → (node q ≡ true) ⊎ ((i : ℕ) × (shelf q ≡ Held i Tree))
    → (node q ≡ true) ⊎ ((i : ℕ) × (put shelf b y q ≡ Held i Tree))
put_nodes node shelf b y here q (inl h) = inl h
put_nodes node shelf b y here q (inr h) = inr (by_test q b
    (λ t. (i : ℕ) × ((if t then y else shelf q) ≡ Held i Tree))
    (λ e. here h.0 (subst (λ x. shelf x ≡ Held h.0 Tree) e h.1)) (λ _. h))

mild_roomy : (w : Setup) (k : Books) (x : Step) → IsMild x → IsRoomy w k x
mild_roomy w k (LetGo i b room) m = absurd m
mild_roomy w k (ReadyChain room) m = absurd m
mild_roomy w k x m = tt

listed_none : (x : Shelf) (p : Purpose) (h : Option ℕ) → x ≡ Listed p → HasHolder x h → h ≡ None
listed_none x p h e has = subst (λ y. HasHolder y h) e has

open_none : (x : Shelf) (h : Option ℕ) → x ≡ Open → HasHolder x h → h ≡ None
open_none x h e has = subst (λ y. HasHolder y h) e has

loose_none : (x : Shelf) (h : Option ℕ) → x ≡ Loose → HasHolder x h → h ≡ None
loose_none x h e has = subst (λ y. HasHolder y h) e has

raised_none : (x : Shelf) (h : Option ℕ) → x ≡ Raised → HasHolder x h → h ≡ None
raised_none x h e has = subst (λ y. HasHolder y h) e has

room_none : (room : Option Purpose) (h : Option ℕ) → h ≡ None → HasHolder (by_room room) h
room_none None h e = e
room_none (Some p) h e = e

held_some : (x : Shelf) (i : ℕ) (p : Purpose) (h : Option ℕ) → x ≡ Held i p → HasHolder x h
    → h ≡ Some i
held_some x i p h e has = subst (λ y. HasHolder y h) e has

-- a shelf that isn't for chains
off_chain : (x y : Shelf) → x ≡ y → is_for_chain y ≡ false → is_for_chain x ≡ true → ⊥
off_chain x y e not h = let z : false ≡ true = sym not ∙ ap is_for_chain (sym e) ∙ h in absurd (cc)

-- and holds no node
off_tree : (x y : Shelf) (i : ℕ) → x ≡ y → ((j : ℕ) → y ≡ Held j Tree → ⊥) → x ≡ Held i Tree → ⊥
off_tree x y i e not h = not i (sym e ∙ h)

module _ (w : Setup) (k : Books) (holder : ℕ → Option ℕ) (spare : List ℕ)
    (s : Stands w k holder spare) where
  with_shelf : (x : Step) → IsMild x → CanStep w k x
      → ((q : ℕ) → HasHolder ((after w k x).shelf q) (holder q))
      → ((q : ℕ) → In q spare → is_for_chain ((after w k x).shelf q) ≡ true)
      → Stands w (after w k x) holder spare
  with_shelf x mild can a b = record {
    order = books.keep w k s.order x can;
    holders = a;
    spare = b;
    reserve = record {
      near = near_step w k s.order s.reserve x can (mild_roomy w k x mild);
      chains = chains_step w k s.order s.reserve x can;
    };
  }

  pub mild_step : (x : Step) → IsMild x → CanStep w k x → Stands w (after w k x) holder spare
  mild_step (Take i Plain b) mild can = with_shelf (Take i Plain b) mild can
      (put_holders k.shelf holder b Open s.holders (elim can [
        | inl e ↦ listed_none (k.shelf b) Plain (holder b) e (s.holders b)
        | inr (inl e) ↦ listed_none (k.shelf b) Plain (holder b) e (s.holders b)
        | inr (inr e) ↦ listed_none (k.shelf b) Moving (holder b) e.1 (s.holders b)
      ]))
      (put_spare k.shelf spare b Open s.spare (λ h. absurd (elim can [
        | inl e ↦ off_chain (k.shelf b) (Listed Plain) e refl h
        | inr (inl e) ↦ off_chain (k.shelf b) (Listed Plain) e refl h
        | inr (inr e) ↦ off_chain (k.shelf b) (Listed Moving) e.1 refl h
      ])))
  mild_step (Take i Priorities b) mild can = absurd mild
  mild_step (Take i Moving b) mild can = absurd mild
  mild_step (Take i Tree b) mild can = absurd mild
  mild_step (Shut b) mild can = with_shelf (Shut b) mild can
      (put_holders k.shelf holder b Loose s.holders
      (open_none (k.shelf b) (holder b) can (s.holders b)))
      (put_spare k.shelf spare b Loose s.spare
      (λ h. absurd (off_chain (k.shelf b) Open can refl h)))
  mild_step (BeginNode i b) mild can = with_shelf (BeginNode i b) mild can
      (put_holders k.shelf holder b (Held i Tree) s.holders (elim can.0 [
        | inl e ↦ held_some (k.shelf b) i Moving (holder b) e (s.holders b)
        | inr e ↦ held_some (k.shelf b) i Tree (holder b) e (s.holders b)
      ]))
      (put_spare k.shelf spare b (Held i Tree) s.spare (λ h. absurd (elim can.0 [
        | inl e ↦ off_chain (k.shelf b) (Held i Moving) e refl h
        | inr e ↦ off_chain (k.shelf b) (Held i Tree) e refl h
      ])))
  mild_step (Raise b) mild can = with_shelf (Raise b) mild can
      (put_holders k.shelf holder b Raised s.holders
      (loose_none (k.shelf b) (holder b) can.1 (s.holders b)))
      (put_spare k.shelf spare b Raised s.spare
      (λ h. absurd (off_chain (k.shelf b) Loose can.1 refl h)))
  mild_step (MakeReady b room) mild can = with_shelf (MakeReady b room) mild can
      (put_holders k.shelf holder b (by_room room) s.holders
      (room_none room (holder b) (raised_none (k.shelf b) (holder b) can.0 (s.holders b))))
      (put_spare k.shelf spare b (by_room room) s.spare
      (λ h. absurd (off_chain (k.shelf b) Raised can.0 refl h)))
  mild_step (LetGo i b room) mild can = absurd mild
  mild_step (MakeNode i b) mild can = absurd mild
  mild_step (DropNode b) mild can = absurd mild
  mild_step (ReadyChain room) mild can = absurd mild
  mild_step (Put leaf keys) mild can = with_shelf (Put leaf keys) mild can s.holders s.spare
  mild_step (Regroup leaf changed counts last) mild can =
      with_shelf (Regroup leaf changed counts last) mild can s.holders s.spare
  mild_step (Pin i place count) mild can =
      with_shelf (Pin i place count) mild can s.holders s.spare
  mild_step (Unpin place count) mild can =
      with_shelf (Unpin place count) mild can s.holders s.spare
  mild_step (Keep c place count) mild can =
      with_shelf (Keep c place count) mild can s.holders s.spare
  mild_step Seal mild can = with_shelf Seal mild can s.holders s.spare
  mild_step (SealChain i versions chain) mild can =
      with_shelf (SealChain i versions chain) mild can s.holders s.spare
  mild_step Sealed mild can = with_shelf Sealed mild can s.holders s.spare
  mild_step Begin mild can = with_shelf Begin mild can s.holders s.spare
  mild_step (Walk leaf) mild can = with_shelf (Walk leaf) mild can s.holders s.spare
  mild_step End mild can = with_shelf End mild can s.holders s.spare
  mild_step Drop mild can = with_shelf Drop mild can s.holders s.spare

-- nodes stay where they are
pub mild_node : (w : Setup) (k : Books) (x : Step) → IsMild x → CanStep w k x → (q : ℕ)
    → IsForNode k q → IsForNode (after w k x) q
mild_node w k (Take i Plain b) mild can = put_nodes k.node k.shelf b Open (λ j h. absurd (elim can [
  | inl e ↦ off_tree (k.shelf b) (Listed Plain) j e (λ n z. cc) h
  | inr (inl e) ↦ off_tree (k.shelf b) (Listed Plain) j e (λ n z. cc) h
  | inr (inr e) ↦ off_tree (k.shelf b) (Listed Moving) j e.1 (λ n z. cc) h
]))
mild_node w k (Take i Priorities b) mild can = absurd mild
mild_node w k (Take i Moving b) mild can = absurd mild
mild_node w k (Take i Tree b) mild can = absurd mild
mild_node w k (Shut b) mild can = put_nodes k.node k.shelf b Loose
    (λ j h. absurd (off_tree (k.shelf b) Open j can (λ n z. cc) h))
mild_node w k (BeginNode i b) mild can =
    put_nodes k.node k.shelf b (Held i Tree) (λ j h. (i, refl))
mild_node w k (Raise b) mild can = put_nodes k.node k.shelf b Raised
    (λ j h. absurd (off_tree (k.shelf b) Loose j can.1 (λ n z. cc) h))
mild_node w k (MakeReady b room) mild can = put_nodes k.node k.shelf b (by_room room)
    (λ j h. absurd (off_tree (k.shelf b) Raised j can.0 (λ n z. cc) h))
mild_node w k (LetGo i b room) mild can = absurd mild
mild_node w k (MakeNode i b) mild can = absurd mild
mild_node w k (DropNode b) mild can = absurd mild
mild_node w k (ReadyChain room) mild can = absurd mild
mild_node w k (Put leaf keys) mild can = λ q h. h
mild_node w k (Regroup leaf changed counts last) mild can = λ q h. h
mild_node w k (Pin i place count) mild can = λ q h. h
mild_node w k (Unpin place count) mild can = λ q h. h
mild_node w k (Keep c place count) mild can = λ q h. h
mild_node w k Seal mild can = λ q h. h
mild_node w k (SealChain i versions chain) mild can = λ q h. h
mild_node w k Sealed mild can = λ q h. h
mild_node w k Begin mild can = λ q h. h
mild_node w k (Walk leaf) mild can = λ q h. h
mild_node w k End mild can = λ q h. h
mild_node w k Drop mild can = λ q h. h

pub mild_fold : (w : Setup) (k : Books) (holder : ℕ → Option ℕ) (spare : List ℕ)
    (xs : List Step) → AreMild xs → IsRun w k xs → Stands w k holder spare
    → Stands w (fold w k xs) holder spare
mild_fold w k holder spare [] mild on s = s
mild_fold w k holder spare (x ∷ xs) mild on s =
    mild_fold w (after w k x) holder spare xs mild.1 on.1
    (mild_step w k holder spare s x mild.0 on.0)

pub mild_nodes : (w : Setup) (k : Books) (xs : List Step) → AreMild xs → IsRun w k xs → (q : ℕ)
    → IsForNode k q → IsForNode (fold w k xs) q
mild_nodes w k [] mild on q h = h
mild_nodes w k (x ∷ xs) mild on q h =
    mild_nodes w (after w k x) xs mild.1 on.1 q (mild_node w k x mild.0 on.0 q h)

-- ---- which acts are so

quiet_mild : (x : Step) → is_quiet_step x ≡ true → IsMild x
quiet_mild (Take i Plain b) e = tt
quiet_mild (Take i Priorities b) e = absurd (cc)
quiet_mild (Take i Moving b) e = absurd (cc)
quiet_mild (Take i Tree b) e = absurd (cc)
quiet_mild (LetGo i b room) e = absurd (cc)
quiet_mild (MakeNode i b) e = absurd (cc)
quiet_mild (DropNode b) e = absurd (cc)
quiet_mild (ReadyChain room) e = absurd (cc)
quiet_mild x e = tt

pub quiet_steps : (c : ℕ → Candidate) (seat : ℕ) (act : flow.Act) → is_quiet act ≡ true
    → AreMild (steps_of c seat act)
quiet_steps c seat (flow.InsertWrite line leaf keys first values) e = (tt, tt)
quiet_steps c seat (flow.Insert form leaf keys) e = (tt, tt)
quiet_steps c seat (flow.NoteCandidate number first count place) e = (tt, tt)
quiet_steps c seat (flow.Settle number leaf keys) e = (tt, (tt, tt))
quiet_steps c seat (flow.PinPlaces place count) e = (tt, tt)
quiet_steps c seat (flow.UnpinPlaces place count) e = (tt, tt)
quiet_steps c seat (flow.UnpinDead number) e = (tt, tt)
quiet_steps c seat (flow.Shelve x) e = (quiet_mild x e, tt)
quiet_steps c seat act e = tt

pub seal_mild : (before seat : ℕ) (chain : Chain) → IsMild (step_of_seal before seat chain)
seal_mild before seat SameChain = tt
seal_mild before seat (NewChain buckets gens) = tt
