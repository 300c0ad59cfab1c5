-- A trace round: a walk over the leaves one at a time while keys still come, at whose end marks
-- fall and the oldest versions are taken over.
use Rattle.std.specs.Prelude.{ℕ, Bool, true, false, Option, None, if◌then◌else◌, ◌==◌, ◌||◌, ◌&&◌, max}
use Rattle.bc_books.specs.Index.{Pointer, Index, latest}
use Rattle.bc_books.specs.Marks.{any, points_into, is_live}

pub record Round : Type 0 where
  pub going : Bool
  -- the buckets that a key, a new node or a new chain named since the round began
  pub touched : ℕ → Bool
  -- by sector: whether the leaf that it is in was walked, and where its last key pointed then
  pub walked : ℕ → Bool
  pub seen : ℕ → Option Pointer
  -- whether that was live then
  pub live : ℕ → Bool
  -- so many insertions hold the last one of each walked leaf
  pub upto : ℕ

-- as a round begins
abbrev pub started : Round
started = record {
  going = true;
  touched = λ b. false;
  walked = λ s. false;
  seen = λ s. None;
  live = λ s. false;
  upto = 0;
}

abbrev pub ended : Round → Round
ended x = record x { going = false }

-- with these buckets touched too
abbrev pub with_touched : (ℕ → Bool) → Round → Round
with_touched more x = record x { touched = λ b. more b || x.touched b }

-- with this leaf walked
abbrev pub with_walk : (ℕ → ℕ) → (ℕ → ℕ) → Index → ℕ → Round → Round
with_walk bucket version index leaf x = record x {
  walked = λ s. (index.leaf s == leaf) || x.walked s;
  seen = λ s. if index.leaf s == leaf then latest index s else x.seen s;
  live = λ s. if index.leaf s == leaf then is_live bucket version (latest index s) else x.live s;
  upto = max x.upto (index.changed leaf);
}

-- with the sectors of new leaves counted as walked, and the buckets of their keys touched
abbrev pub with_leaves : (ℕ → ℕ) → ℕ → Index → (ℕ → Bool) → ℕ → Round → Round
with_leaves bucket size index counts last x = record x {
  touched = λ b. any size (λ s. counts s && points_into bucket b (latest index s)) || x.touched b;
  walked = λ s. counts s || x.walked s;
  upto = max x.upto last;
}
