-- What makes it enough that a seat asks about what is in its hand: facts that tie holds, nodes,
-- buckets for chains and seqs together.
use Rattle.std.specs.Prelude.{◌≡◌, ◌≢◌, ◌⊎◌, ℕ, ◌+◌, ◌<◌, ◌≤◌, Bool, true, false, Option, Some, None}
use Rattle.bc_books.specs.Shelves.{Tree, Shelf, Loose, Listed, Raised, Open, Held}
use Rattle.bc_books.specs.Chains.{Many}
use Rattle.bc_collect.specs.Spare.{IsForChain}
use Rattle.bc_meta.specs.Facts.{In}
use Rattle.bc_meta.specs.Tree.{NodeSet}
use Rattle.bc_meta.specs.Places.{Wrote}
use Rattle.bc_leaves.specs.Parts.{NoNode}
use Rattle.bc_leaves.specs.Parts as parts
use Rattle.bc_whole.specs.State.{Opening}
use Rattle.bc_known.specs.Acts.{State, is_for_chain}

-- the seat that holds a bucket, by where it stands
abbrev pub HasHolder : Shelf → Option ℕ → Type 0
HasHolder Loose h = h ≡ None
HasHolder (Listed p) h = h ≡ None
HasHolder Raised h = h ≡ None
HasHolder Open h = h ≡ None
HasHolder (Held i p) h = h ≡ Some i

-- each node and each draft lies where the books know of one
pub record AreInBuckets (st : parts.State) (node : ℕ → Bool) (shelf : ℕ → Shelf) : Type 0 where
  pub leaves : (k : ℕ) → (st.leaves k).role ≢ NoNode → (node (st.leaves k).bucket ≡ true)
      ⊎ ((i : ℕ) × (shelf (st.leaves k).bucket ≡ Held i Tree))
  pub inner_nodes : (x : ℕ) → (st.inner_nodes x).role ≢ NoNode
      → (node (st.inner_nodes x).bucket ≡ true)
      ⊎ ((i : ℕ) × (shelf (st.inner_nodes x).bucket ≡ Held i Tree))

pub record IsKnown (w : Opening) (st : State) : Type 0 where
  pub holders : (q : ℕ) → HasHolder (st.whole.flow.books.shelf q) (st.whole.store.holder q)
  pub nodes : AreInBuckets st.whole.parts st.whole.flow.books.node st.whole.flow.books.shelf
  pub spare : (q : ℕ) → In q st.whole.store.spare
      → is_for_chain (st.whole.flow.books.shelf q) ≡ true
  -- as many buckets as a chain has are for chains, and each chain has its own
  pub reserve : Many w.flow.books.sets (λ b. IsForChain (st.whole.flow.books.shelf b))
  pub chains : (c : ℕ) → st.whole.flow.books.chains.ready ≤ c
      → c ≤ st.whole.flow.books.chains.sealed
      → Many w.flow.books.sets (λ b. st.whole.flow.books.chains.of b ≡ Some c)
  pub own : (q : ℕ) → st.whole.store.places.own q ≡ true
      → st.whole.store.places.seq q < st.next_seq
  pub seqs : (q at : ℕ) (e : NodeSet) → Wrote st.whole.store.places.log q at e
      → e.seq < st.next_seq

-- how the books' buckets lie on the device
pub record AreLaid (w : Opening) : Type 0 where
  -- what isn't fixed lies behind the journal
  pub area : (q : ℕ) → w.flow.books.fixed q ≡ false → (w.layout.journal ≤ q)
      × (q < w.layout.buckets)
  pub sector : (q t : ℕ) → q < w.layout.buckets → w.layout.first q ≤ t
      → t < w.layout.first q + w.layout.bucket_sectors → w.flow.books.bucket t ≡ q
  pub sets : w.flow.books.sets ≡ w.layout.chain_sets
