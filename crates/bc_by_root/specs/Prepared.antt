-- What is in memory for a change of the tree before any of it is done.
use Rattle.std.specs.Prelude.{◌≡◌}
use Rattle.bc_by_root.specs.declared.prepare.Installing.{Installing}
use Rattle.bc_by_root.specs.declared.prepare.Prepared.{Prepared}
use Rattle.bc_install.specs.bc_change.Goes.{BringsRoot}
use Rattle.bc_disk.specs.declared.geometry.Geometry.{Geometry}
use Rattle.bc_events.specs.declared.event.Change.{Change}
use Rattle.bc_inner.specs.Inner.{Inner}
use Rattle.bc_install.specs.Ends.{AreEndsIn}
use Rattle.bc_install.specs.Numbered.{IsChangeIn, bucket_by}
use Rattle.bc_journal.specs.declared.heads.Heads.{Heads}
use Rattle.bc_key.specs.Key.{ptr_at}
use Rattle.bc_tree.specs.Spine.{Spine}
use Rattle.bc_tree.specs.declared.plan.Plan.{Plan}

-- An entry names this node as the root, and else what the one before names.
pub record NamesNode (old : Heads) (root : Inner) (new : Heads) : Type 0 where
  pub prio : new.prio ≡ old.prio
  pub uuid_bucket : new.uuid_bucket ≡ old.uuid_bucket
  pub ptr : ptr_at new.root 0 ≡ root.ptr
  pub end : new.root.end ≡ root.end
  pub level : new.level ≡ root.level

-- the same change, in memory of its own
pub record SameChange (a b : Change) : Type 0 where
  pub low : b.low ≡ a.low
  pub high : b.high ≡ a.high
  pub gone : b.gone.items ≡ a.gone.items
  pub come : b.come.items ≡ a.come.items
  pub old : b.old.items ≡ a.old.items
  pub new : b.new.items ≡ a.new.items

-- what an install of it takes: it again, and the buckets of its ends twice
pub record IsForInstall (g : Geometry) (spine : Spine) (plan : Plan) (c : Change)
    (s : Installing) : Type 0 where
  pub first : s.first ≡ g.first_bucket
  pub same : SameChange c s.change
  pub ends : AreEndsIn g spine plan s.come.items s.gone.items
  pub made : s.made.items ≡ s.come.items
  pub unmade : s.unmade.items ≡ s.gone.items

-- and what its entry takes
pub record IsPrepared (g : Geometry) (spine : Spine) (plan : Plan) (root : Inner) (old : Heads)
    (p : Prepared) : Type 0 where
  pub heads : NamesNode old root p.heads
  pub slot : p.slot ≡ bucket_by g root.ptr
  pub change : IsChangeIn g spine plan p.change
  pub later : IsForInstall g spine plan p.change p.later

abbrev pub AreRoot : Spine → Plan → Inner → Type 0
AreRoot spine plan root = (other : Inner) → BringsRoot spine plan other → root ≡ other
