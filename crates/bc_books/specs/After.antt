-- What a step leaves: for each component a short function, which leaves it alone but at the steps
-- that it names.
use Rattle.std.specs.Prelude.{ℕ, suc, Bool, true, false, Option, Some, None, List, [], ◌∷◌, if◌then◌else◌, ◌==◌}
use Rattle.bc_books.specs.Index.{Index, put, inserted, regrouped, dirties, touches}
use Rattle.bc_books.specs.Versions.{Generations}
use Rattle.bc_books.specs.Shelves.{Tree, Shelf, Loose, Raised, Held, Owner, Own, Kept, Spent, taken_to, put_back, by_room, put_run, fresh_in}
use Rattle.bc_books.specs.Marks.{Mark, Unmarked, Metadata, with_key, oldest, found_mark, settled, unless}
use Rattle.bc_books.specs.Chains.{Chains, is_chain, given_up, at_ready}
use Rattle.bc_books.specs.Round.{Round, started, ended, with_touched, with_walk, with_leaves}
use Rattle.bc_books.specs.Index.{names}
use Rattle.bc_books.specs.Enabled.{CanStep}
use Rattle.bc_books.specs.Books.{Setup, Journal, Books, Step, Put, Regroup, Take, Shut, LetGo, Pin, Unpin, Keep, BeginNode, MakeNode, DropNode, Raise, MakeReady, ReadyChain, Seal, SealChain, Sealed, Begin, Walk, End, Drop}

abbrev pub index_after : Index → Step → Index
index_after x (Put leaf keys) = inserted leaf keys x
index_after x (Regroup leaf changed counts last) = regrouped leaf changed x
index_after x step = x

abbrev pub journal_after : ℕ → Journal → Step → Journal
journal_after count x Seal = record x { sealed = count; waiting = true }
journal_after count x (SealChain i versions chain) = record x { sealed = count; waiting = true }
journal_after count x Sealed = record x { durable = x.sealed; waiting = false }
journal_after count x step = x

-- the oldest version by a round's walk, but for buckets that were touched
abbrev pub last_gc_at_end : Setup → Round → Generations → ℕ → ℕ
last_gc_at_end w round g b =
    unless (round.touched b) (g.last_gc b) (oldest w.bucket b (g.version b) round.seen w.size)

abbrev pub generations_after : Setup → Round → Generations → Step → Generations
generations_after w round g (Raise b) = record g { version = put g.version b (suc (g.version b)) }
generations_after w round g (SealChain i versions chain) = record g { sealed = versions }
generations_after w round g Sealed = record g { durable = g.sealed }
generations_after w round g End = record g { last_gc = last_gc_at_end w round g }
generations_after w round g step = g

-- the chain that was replaced is unmarked, the next one is marked
abbrev pub mark_at_ready : ℕ → Option ℕ → Mark → Mark
mark_at_ready ready None old = old
mark_at_ready ready (Some c) old =
    if c == ready then Unmarked else (if c == suc ready then Metadata else old)

abbrev pub mark_at_end : Setup → Round → (ℕ → Mark) → ℕ → Mark
mark_at_end w round mark b =
    unless (round.touched b) (mark b)
    (settled (mark b) (found_mark w.bucket b round.seen round.live w.size))

abbrev pub mark_after : Setup → Chains → Round → (ℕ → Mark) → Step → ℕ → Mark
mark_after w chains round mark (Put leaf keys) =
    λ b. with_key (dirties w.bucket keys b) (touches w.bucket keys b) (mark b)
mark_after w chains round mark (MakeNode i b) = put mark b Metadata
mark_after w chains round mark (DropNode b) = put mark b Unmarked
mark_after w chains round mark (MakeReady b room) = put mark b Unmarked
mark_after w chains round mark (ReadyChain room) =
    λ b. mark_at_ready chains.ready (chains.of b) (mark b)
mark_after w chains round mark End = mark_at_end w round mark
mark_after w chains round mark step = mark

abbrev pub shelf_after : Chains → (ℕ → Shelf) → Step → ℕ → Shelf
shelf_after chains shelf (Take i p b) = put shelf b (taken_to i p)
shelf_after chains shelf (Shut b) = put shelf b Loose
shelf_after chains shelf (LetGo i b room) = put shelf b (put_back room (shelf b))
shelf_after chains shelf (BeginNode i b) = put shelf b (Held i Tree)
shelf_after chains shelf (MakeNode i b) = put shelf b Loose
shelf_after chains shelf (Raise b) = put shelf b Raised
shelf_after chains shelf (MakeReady b room) = put shelf b (by_room room)
shelf_after chains shelf (ReadyChain room) =
    λ b. at_ready chains.ready (chains.of b) (room b) (shelf b)
shelf_after chains shelf step = shelf

abbrev pub owner_after : (ℕ → ℕ) → (ℕ → Owner) → Step → ℕ → Owner
owner_after bucket owner (Put leaf keys) = λ t. if names keys t then Spent else owner t
owner_after bucket owner (Pin i place count) = put_run owner place count (Own i)
owner_after bucket owner (Unpin place count) = put_run owner place count Spent
owner_after bucket owner (Keep c place count) = put_run owner place count (Kept c)
owner_after bucket owner (Raise b) = fresh_in bucket b owner
owner_after bucket owner step = owner

abbrev pub chains_after : Chains → Step → Chains
chains_after x (ReadyChain room) =
    record x { of = λ b. given_up x.ready (x.of b); ready = suc x.ready }
chains_after x (SealChain i versions chain) =
    record x { of = λ b. if chain b then Some (suc x.sealed) else x.of b; sealed = suc x.sealed }
chains_after x Sealed = record x { durable = x.sealed }
chains_after x step = x

abbrev pub node_after : (ℕ → Bool) → Step → ℕ → Bool
node_after node (MakeNode i b) = put node b true
node_after node (DropNode b) = put node b false
node_after node step = node

abbrev pub round_after : Setup → Index → (ℕ → ℕ) → Chains → Round → Step → Round
round_after w index version chains x (Put leaf keys) = with_touched (touches w.bucket keys) x
round_after w index version chains x (Regroup leaf changed counts last) =
    with_leaves w.bucket w.size index counts last x
round_after w index version chains x (MakeNode i b) = with_touched (λ c. c == b) x
round_after w index version chains x (ReadyChain room) =
    with_touched (λ b. is_chain (chains.of b) (suc chains.ready)) x
round_after w index version chains x Begin = started
round_after w index version chains x (Walk leaf) = with_walk w.bucket version index leaf x
round_after w index version chains x End = ended x
round_after w index version chains x Drop = ended x
round_after w index version chains x step = x

abbrev pub after : Setup → Books → Step → Books
after w k x = record {
  index = index_after k.index x;
  journal = journal_after k.index.count k.journal x;
  generations = generations_after w k.round k.generations x;
  mark = mark_after w k.chains k.round k.mark x;
  shelf = shelf_after k.chains k.shelf x;
  owner = owner_after w.bucket k.owner x;
  chains = chains_after k.chains x;
  node = node_after k.node x;
  round = round_after w k.index k.generations.version k.chains k.round x;
}

-- each step is enabled after those before it
abbrev pub IsRun : Setup → Books → List Step → Type 0
IsRun w k [] = Unit {0}
IsRun w k (x ∷ xs) = CanStep w k x × IsRun w (after w k x) xs

-- the state that the steps leave
abbrev pub fold : Setup → Books → List Step → Books
fold w k [] = k
fold w k (x ∷ xs) = fold w (after w k x) xs
