-- The pair that was made anew is opened.
use Rattle.std.proofs.Common.{inl, inr, subst, arith, lit≤}
use Rattle.bc_disk.specs.declared.geometry.Geometry.{Geometry}
use Rattle.bc_super.specs.Division.{IsPassThrough}
use Rattle.bc_super.specs.declared.backing.BackingSuper.{BackingSuper}
use Rattle.bc_super.specs.declared.cache.CacheSuper.{CacheSuper}
use Rattle.bc_image.specs.Formatted.{IsFormatted}
use Rattle.bc_image.specs.NewPair.{new_pair}
use Rattle.bc_image.specs.Pair.{Pair}
use Rattle.bc_image.specs.Reading.{IsView, View}
use Rattle.bc_image.specs.Sound.{HasSoundParts, HasSuperblocks}
use Rattle.bc_image.proofs.Examples.{geometry}
use Rattle.bc_image.proofs.Fresh.{fresh_is_sound}
use Rattle.bc_image.proofs.NewPair.{backing, cache, is_formatted, superblocks}
use Rattle.bc_image.proofs.Unique.{one_backing}
use Rattle.bc_facts.proofs.Made.{law_layout}
use Rattle.bc_opening.specs.Laws.{HasExample}
use Rattle.bc_opening.proofs.Chosen.{law_choices}
use Rattle.bc_opening.proofs.Whole.{law_opening}

sound_view : (p : Pair) (b : BackingSuper) (c : CacheSuper) (g : Geometry) → IsFormatted p b c g → HasSuperblocks b c → (v : View) × IsView p v × HasSoundParts p v
sound_view p b c g f supers = elim (fresh_is_sound p b c g f supers) [
  | inl alone ↦ absurd (not_alone (subst IsPassThrough (one_backing p alone.0 b alone.1 f.backing) alone.2))
  | inr k ↦ (k.0, k.1, k.2)
]
  where
    not_alone : IsPassThrough b → ⊥
    not_alone alone = let none = alone.1 in elim supers.state [ inl clean ↦ omega (arith, clean, none) | inr dirty ↦ omega (arith, dirty, none) ]

pub example : HasExample
example =
    let k = sound_view new_pair backing cache (geometry 8 (lit≤ tt)) is_formatted superblocks in
    let w = law_layout k.0.geometry in
    let c = law_choices new_pair k.0 k.1 k.2 in
    (k.0, w.0, c.0, k.1, c.1, law_opening new_pair k.0 w.0 c.0 k.1 k.2 w.1 c.1)
