-- What an example of a run has to show, so that the laws speak of something.
use Rattle.std.specs.Prelude.{◌≡◌, ◌≢◌, ℕ, suc, Bool, List, [], length}
use Rattle.bc_meta.specs.Entries.{Entry}
use Rattle.bc_meta.specs.Tree.{Owner, NodeSets, IsNamed, Keeps, children_of}
use Rattle.bc_meta.specs.Records.{IsReadable, HasRoom, opened_records}
use Rattle.bc_leaves.specs.Parts.{State}
use Rattle.bc_leaves.specs.Events.{Event}
use Rattle.bc_leaves.specs.After.{fold}
use Rattle.bc_leaves.specs.Enabled.{IsRun}
use Rattle.bc_leaves.specs.Fits.{Fits}

-- parts of readable records fit
pub record IsStart (st : State) : Type 0 where
  pub owners : ℕ → Owner
  pub all : List Entry
  pub content : NodeSets
  pub newest : Entry
  pub older : List Entry
  pub ring : ℕ → List Entry
  pub bucket : ℕ
  pub unused : ℕ → Bool
  pub sound : IsReadable all content newest older
  pub room : HasRoom all newest older ring
  pub keeps : Keeps unused content newest.level newest.root
  pub named : IsNamed owners content newest.level newest.root newest.word
  pub records : st.records ≡ opened_records owners content newest older ring bucket unused
  pub fits : Fits st

abbrev pub root_of : State → ℕ
root_of st = st.records.newest.root

-- how many children the root has
abbrev pub children : State → ℕ
children st = length (children_of (st.records.nodes (root_of st)).sets)

-- how many sets the node in a bucket has
abbrev pub sets : State → ℕ → ℕ
sets st q = length (st.records.nodes q).sets

-- Runs one behind the other. The index gets a key, which an entry holds; the leaf is split, under a
-- new root; one of the new leaves gets a further set, after an entry that needs no older one; the
-- other is rewritten in the bucket that was given up, by a further set of the root; both are
-- merged; and there is a root above the root.
pub record IsExample (start : State) (commit split further rewrite merge grow : List Event) : Type 0 where
  pub opening : IsStart start
  pub commits : IsRun start commit
  pub splits : IsRun (fold start commit) split
  pub writes : IsRun (fold (fold start commit) split) further
  pub rewrites : IsRun (fold (fold (fold start commit) split) further) rewrite
  pub merges : IsRun (fold (fold (fold (fold start commit) split) further) rewrite) merge
  pub grows : IsRun (fold (fold (fold (fold (fold start commit) split) further) rewrite) merge) grow
  pub index : length (fold (fold (fold start commit) split) further).records.index
      ≡ suc (suc (length start.records.index))
  pub two : (root_of (fold (fold start commit) split) ≢ root_of start) × (children start ≡ 1)
      × (children (fold (fold start commit) split) ≡ 2)
  pub more : (q : ℕ) × (sets (fold (fold start commit) split) q ≡ 1)
      × (sets (fold (fold (fold start commit) split) further) q ≡ 2)
  pub none_older : (fold (fold (fold start commit) split) further).records.older ≡ []
  pub same_root : let st = fold (fold (fold (fold start commit) split) further) rewrite in
      (root_of st ≡ root_of (fold (fold start commit) split)) × (sets st (root_of st) ≡ 2)
  pub one : children (fold (fold (fold (fold (fold start commit) split) further) rewrite) merge) ≡ 1
  pub higher : let st = fold (fold (fold (fold (fold (fold start commit) split) further) rewrite) merge) grow in
      st.records.newest.level ≡ suc start.records.newest.level

abbrev pub HasExample : Type 0
HasExample =
    (start : State) × (commit : List Event) × (split : List Event) × (further : List Event)
    × (rewrite : List Event)
    × (merge : List Event) × ((grow : List Event)
    × IsExample start commit split further rewrite merge grow)
