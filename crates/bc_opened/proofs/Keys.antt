-- The keys of an opening are those of its pair.
use Rattle.bc_super.specs.Super.{data_sectors}
use Rattle.bc_image.specs.Reading.{keys_of}
use Rattle.bc_image.specs.Sound.{IsDataKey}
use Rattle.bc_facts.proofs.Stood.{all_in}
use Rattle.bc_opened.specs.Laws.{LawOldKeys}

pub law_old_keys : LawOldKeys
law_old_keys p v w x on key was =
    all_in (IsDataKey v.geometry (data_sectors p.backing_sectors v.backing)) (keys_of v.reading) key on.parts.pointers.data_keys (on.keys key was)
