-- What an example has to show, so that the laws speak of pairs with keys.
use Rattle.std.specs.Prelude.{◌≡◌, ℕ, Some}
use Rattle.bc_books.specs.Index.{Dirty}
use Rattle.bc_meta.specs.Layout.{Layout}
use Rattle.bc_leaves.specs.Keys.{AnySpeaks}
use Rattle.bc_leaves.specs.Parts.{keys_of}
use Rattle.bc_leaves.specs.Parts as parts
use Rattle.bc_image.specs.Pair.{Pair}
use Rattle.bc_image.specs.Reading.{View}
use Rattle.bc_whole.specs.State.{Opening}
use Rattle.bc_opening.specs.Choices.{Choices}
use Rattle.bc_opening.specs.Opening.{IsOpenedAs}

-- A pair, byte by byte, with one key, which an entry has and no leaf: the data of sector 16 is on
-- the cache device alone. The machine knows where, in the version above the byte that the chain
-- has; and the leaf of the sector has got a key for it back.
pub record IsReplayed (p : Pair) (v : View) (layout : Layout) (c : Choices) (w : Opening)
    (x : parts.State) : Type 0 where
  pub opened : IsOpenedAs p v layout c w x
  pub index : w.flow.books.index 16 ≡ Some (record { kind = Dirty; place = 2048; version = 256 })
  pub slot : ℕ
  pub pending : AnySpeaks (keys_of (x.leaves slot).pending) 16

abbrev pub HasReplay : Type 0
HasReplay = (p : Pair) × (v : View) × (layout : Layout) × (c : Choices) × (w : Opening)
    × ((x : parts.State) × IsReplayed p v layout c w x)
