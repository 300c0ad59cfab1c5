-- The acts of the machine, as a seat knows them.
use Rattle.std.specs.Prelude.{ℕ, zero, suc, Bool, true, false, List, [], ◌∷◌, if◌then◌else◌}
use Rattle.bc_model.specs.Sector.{Value}
use Rattle.bc_key.specs.declared.key.Key.{Key}
use Rattle.bc_books.specs.Shelves.{Purpose, Priorities, Moving, Tree, Plain, Shelf, Loose, Listed, Raised, Open, Held}
use Rattle.bc_books.specs.Books.{Step}
use Rattle.bc_data.specs.Data as flow
use Rattle.bc_whole.specs.State.{Opening, Write, OfLeaf, OfInner, Root, Chain}
use Rattle.bc_whole.specs.State as whole
use Rattle.bc_whole.specs.Run as whole_run

pub record State : Type 0 where
  pub whole : whole.State
  -- the seq of the next new node
  pub next_seq : ℕ

pub data Act : Type 0 where
  Alone : (act : flow.Act) → Act
  Keyed : (act : flow.Act) → (slot : ℕ) → (keys : List Key) → Act
  WriteCache : (write : Write) → (values : List Value) → Act
  FailCache : (write : Write) → (values : List Value) → Act
  CacheBarrier : Act
  Seal : (last_seq : ℕ) → (rest : List ℕ) → (root : Root) → (chain : Chain) → Act
  MakeDurable : Act
  BeginBucket : (bucket : ℕ) → Act
  Take : (purpose : Purpose) → (bucket : ℕ) → Act
  LetGo : (bucket : ℕ) → (room : Bool) → Act
  ReadyChain : (room : ℕ → Bool) → Act
  BeginChange : (low high : ℕ) → (gone come old new : List ℕ) → (unused : ℕ → Bool) → Act
  Install : (unused : ℕ → Bool) → (steps : List Step) → Act
  ForgetDrafts : Act

pub record Event : Type 0 where
  pub seat : ℕ
  pub act : Act

-- ---- buckets for chains

-- on the list priorities, or held from it
abbrev pub is_for_chain : Shelf → Bool
is_for_chain Loose = false
is_for_chain (Listed Priorities) = true
is_for_chain (Listed Moving) = false
is_for_chain (Listed Tree) = false
is_for_chain (Listed Plain) = false
is_for_chain Raised = false
is_for_chain Open = false
is_for_chain (Held i Priorities) = true
is_for_chain (Held i Moving) = false
is_for_chain (Held i Tree) = false
is_for_chain (Held i Plain) = false

-- such buckets among the first so many, the last of them first
abbrev pub for_chain : (ℕ → Shelf) → ℕ → List ℕ
for_chain shelf zero = []
for_chain shelf (suc n) =
    if is_for_chain (shelf n) then n ∷ for_chain shelf n else for_chain shelf n

-- the first so many of a list
abbrev pub first : ℕ → List ℕ → List ℕ
first zero xs = []
first (suc n) [] = []
first (suc n) (x ∷ xs) = x ∷ first n xs

-- those that are kept for the next chain
abbrev pub kept : Opening → whole.State → List ℕ
kept w st = first w.layout.chain_sets (for_chain st.flow.books.shelf w.layout.buckets)

-- ---- the acts of the whole machine

abbrev pub settled : Opening → whole.State → ℕ → whole.State
settled w st seat = whole_run.after w st seat (whole.KeepSpare (kept w st))

abbrev pub after_whole : Opening → whole.State → ℕ → Act → whole.State
after_whole w st i (Alone act) = whole_run.after w st i (whole.Alone act)
after_whole w st i (Keyed act slot keys) = whole_run.after w st i (whole.Keyed act slot keys)
after_whole w st i (WriteCache x values) = whole_run.after w st i (whole.WriteCache x values)
after_whole w st i (FailCache x values) = whole_run.after w st i (whole.FailCache x values)
after_whole w st i CacheBarrier = whole_run.after w st i whole.CacheBarrier
after_whole w st i (Seal last_seq rest root chain) =
    whole_run.after w st i (whole.Seal last_seq rest root chain)
after_whole w st i MakeDurable = whole_run.after w st i whole.MakeDurable
after_whole w st i (BeginBucket b) = whole_run.after w st i (whole.BeginBucket b)
after_whole w st i (Take p b) = whole_run.after w st i (whole.Take p b)
-- the buckets that are kept for chains are those that are on their list, or held from it
after_whole w st i (LetGo b room) = settled w (whole_run.after w st i (whole.LetGo b room)) i
after_whole w st i (ReadyChain room) = settled w
    (whole_run.after w st i (whole.ReadyChain room (st.store.buckets st.store.ready_chain))) i
after_whole w st i (BeginChange low high gone come old new unused) =
    whole_run.after w st i (whole.BeginChange low high gone come old new unused)
after_whole w st i (Install unused steps) = whole_run.after w st i (whole.Install unused steps)
after_whole w st i ForgetDrafts = whole_run.after w st i whole.ForgetDrafts

abbrev pub seq_of_write : Write → ℕ → ℕ
seq_of_write (OfLeaf slot leaf set) n = suc n
seq_of_write (OfInner slot inner set) n = suc n
seq_of_write x n = n

abbrev pub seq_after : ℕ → Act → ℕ
seq_after n (WriteCache x values) = seq_of_write x n
seq_after n (FailCache x values) = seq_of_write x n
seq_after n act = n

abbrev pub after : Opening → State → ℕ → Act → State
after w st i act = record {
  whole = after_whole w st.whole i act;
  next_seq = seq_after st.next_seq act;
}
