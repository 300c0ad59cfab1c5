-- What a crash leaves is an opened pair again, so that runs compose: what the next run takes for
-- its opening image is allowed to the one before.
use Rattle.std.specs.Prelude.{◌≡◌, ℕ, Bool, true, Option}
use Rattle.bc_model.specs.Sector.{Image}
use Rattle.bc_model.specs.History.{Allowed}
use Rattle.bc_disk.specs.Device.{MayLeave}
use Rattle.bc_books.specs.Shelves.{Purpose}
use Rattle.bc_books.specs.Laws.{Snapshot, IsForNode}
use Rattle.bc_collect.specs.Next.{reopened, AreListed}
use Rattle.bc_data.specs.Data.{Opening, State}
use Rattle.bc_data.specs.Laws.{shown, IsPair, Always}
use Rattle.bc_crash.specs.Laws.{Finds}

-- what an opening finds beside the devices: the nodes of its tree, and how it fills the lists
pub record Found : Type 0 where
  pub shot : Snapshot
  pub node : ℕ → Bool
  pub listed : ℕ → Option Purpose
  pub leaf : ℕ → ℕ

abbrev pub next_pair : Opening → State → Found → (cache backing : Image) → Opening
next_pair w st x cache backing = record {
  books = reopened w.books st.books x.shot x.node x.listed x.leaf;
  plain = w.plain;
  cache = cache;
  backing = backing;
  image = shown w.books.bucket (st.books.index.at x.shot.count) x.shot.version cache backing;
}

-- a crash may leave this
pub record MayOpen (w : Opening) (st : State) (x : Found) (cache backing : Image) : Type 0 where
  pub finds : Finds st x.shot
  pub left_cache : MayLeave st.cache cache
  pub left_backing : MayLeave st.backing backing
  pub nodes : (b : ℕ) → x.node b ≡ true → IsForNode st.books b
  pub lists : AreListed w.books st.books x.shot x.node x.listed

pub record IsNext (w : Opening) (st : State) (next : Opening) : Type 0 where
  pub sound : IsPair next
  pub allowed : (s : ℕ) → Allowed w.image st.history s (next.image s)

abbrev pub LawNext : Type 0
LawNext = Always (λ w st. (x : Found) (cache backing : Image) → MayOpen w st x cache backing
    → IsNext w st (next_pair w st x cache backing))
