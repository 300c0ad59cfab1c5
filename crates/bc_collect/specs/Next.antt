-- What a crash leaves is an opening again, so runs compose.
use Rattle.std.specs.Prelude.{◌≡◌, ◌≢◌, ℕ, Bool, true, false, Option, Some, if◌then◌else◌, ◌||◌}
use Rattle.bc_books.specs.Index.{Pointer}
use Rattle.bc_books.specs.Shelves.{Purpose, Priorities}
use Rattle.bc_books.specs.Marks.{Mark, Metadata, is_live, oldest, found_mark}
use Rattle.bc_books.specs.Chains.{Many, is_chain}
use Rattle.bc_books.specs.Books.{Setup, Books, IsSound}
use Rattle.bc_books.specs.Laws.{Snapshot, IsLive, MayLeave, IsForNode, Always}

-- superblock, journal, uuid table, a node, or the chain that was found
abbrev pub is_metadata : Setup → Books → Snapshot → (ℕ → Bool) → ℕ → Bool
is_metadata w k shot node b = w.fixed b || (node b || is_chain (k.chains.of b) shot.chain)

-- the mark by the keys that were found
abbrev pub opening_mark : Setup → Books → Snapshot → ℕ → Mark
opening_mark w k shot b =
    found_mark w.bucket b (k.index.at shot.count)
    (λ s. is_live w.bucket shot.version (k.index.at shot.count s)) w.size

-- the opening of what a crash left, with these nodes in its tree, and these buckets put on the
-- lists
abbrev pub reopened : Setup → Books → Snapshot → (node : ℕ → Bool) → (listed : ℕ → Option Purpose)
    → (leaf : ℕ → ℕ) → Setup
reopened w k shot node listed leaf = record w {
  index = k.index.at shot.count;
  leaf = leaf;
  version = shot.version;
  last_gc = λ b. oldest w.bucket b (shot.version b) (k.index.at shot.count) w.size;
  mark = λ b. if is_metadata w k shot node b then Metadata else opening_mark w k shot b;
  listed = listed;
  node = node;
  chain = λ b. is_chain (k.chains.of b) shot.chain;
}

-- it may go on a list at the opening
pub record IsSpareIn (w : Setup) (k : Books) (shot : Snapshot) (node : ℕ → Bool)
    (b : ℕ) : Type 0 where
  pub not_fixed : w.fixed b ≡ false
  pub no_node : node b ≡ false
  pub no_chain : k.chains.of b ≢ Some shot.chain
  pub no_key : (s : ℕ) (r : Pointer) → IsLive w k shot s r → w.bucket r.place ≢ b

-- only such buckets are on lists, and the list priorities has as many as a chain asks for
pub record AreListed (w : Setup) (k : Books) (shot : Snapshot) (node : ℕ → Bool)
    (listed : ℕ → Option Purpose) : Type 0 where
  pub spare : (b : ℕ) (p : Purpose) → listed b ≡ Some p → IsSpareIn w k shot node b
  pub next : Many w.sets (λ b. listed b ≡ Some Priorities)

-- whatever a crash leaves is a sound opening, however its lists are filled
abbrev pub LawNext : Type 0
LawNext = Always (λ w k. (shot : Snapshot) (node : ℕ → Bool) (listed : ℕ → Option Purpose)
    (leaf : ℕ → ℕ) → MayLeave k shot → ((b : ℕ) → node b ≡ true → IsForNode k b) → AreListed w k shot node listed
    → IsSound (reopened w k shot node listed leaf))

-- and they can be filled
abbrev pub LawListed : Type 0
LawListed = Always (λ w k. (shot : Snapshot) (node : ℕ → Bool) → MayLeave k shot
    → ((b : ℕ) → node b ≡ true → IsForNode k b)
    → (listed : ℕ → Option Purpose) × AreListed w k shot node listed)
