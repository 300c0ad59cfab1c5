-- A pair that was made anew is an opening.
use Rattle.bc_disk.specs.declared.geometry.Geometry.{Geometry}
use Rattle.bc_super.specs.Super.{data_sectors}
use Rattle.bc_super.specs.declared.backing.BackingSuper.{BackingSuper}
use Rattle.bc_super.specs.declared.cache.CacheSuper.{CacheSuper}
use Rattle.bc_image.specs.Formatted.{IsFormatted}
use Rattle.bc_image.specs.Pair.{Pair}
use Rattle.bc_image.specs.Reading.{IsReading}
use Rattle.bc_image.specs.Sound.{HasSuperblocks}
use Rattle.bc_image.proofs.Formatted.{first_alone}
use Rattle.bc_image.proofs.Fresh.{fresh_is_view, fresh_pointers, fresh_reading, fresh_spare, fresh_uses}
use Rattle.bc_meta.specs.Layout.{Layout}
use Rattle.bc_facts.specs.Layout.{IsLayoutOf}
use Rattle.bc_remains.specs.Laws.{IsOpened, LawFormatted}
use Rattle.bc_remains.proofs.Open.{opened}

module _ (p : Pair) (b : BackingSuper) (c : CacheSuper) (g : Geometry) (w : Layout) (layout : IsLayoutOf g w) (f : IsFormatted p b c g) (supers : HasSuperblocks b c) where
  pub fresh_is_read : IsReading g p.cache (fresh_reading p b c g f)
  fresh_is_read = (fresh_is_view p b c g f supers.initialised.1).reading

  pub fresh_opened : IsOpened g w p.cache (fresh_reading p b c g f)
  fresh_opened =
      opened g w layout p.cache (fresh_reading p b c g f) fresh_is_read (data_sectors p.backing_sectors b)
      (fresh_pointers p b c g f (data_sectors p.backing_sectors b)) (fresh_uses p b c g f) (fresh_spare p b c g f)
      (λ d stands needed. first_alone g p.cache f.entry f.first_entry d stands)

pub law_formatted : LawFormatted
law_formatted p b c g w f supers layout = (fresh_reading p b c g f, fresh_is_read p b c g w layout f supers, fresh_opened p b c g w layout f supers)
