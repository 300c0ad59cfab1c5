-- The verdict of a pair that was made anew.
use Rattle.std.proofs.Common.{◌≡◌, inl, inr, Bool, true, false, List, [], ◌++◌, None, refl, sym, subst, ap, ◌∙◌, lit≤}
use Rattle.bc_disk.specs.declared.geometry.Geometry.{Geometry}
use Rattle.bc_extent.specs.LastKey.{last_key}
use Rattle.bc_image.specs.Formatted.{IsFormatted}
use Rattle.bc_image.specs.NewPair.{new_pair}
use Rattle.bc_image.specs.Pair.{Pair}
use Rattle.bc_image.specs.Reading.{View, keys_of}
use Rattle.bc_image.specs.Sound.{HasSuperblocks}
use Rattle.bc_image.proofs.Examples.{geometry}
use Rattle.bc_image.proofs.Fresh.{fresh_reading, fresh_view, fresh_is_view, fresh_is_sound}
use Rattle.bc_image.proofs.NewPair.{backing, cache, is_formatted, superblocks}
use Rattle.bc_image.proofs.Unique.{one_view}
use Rattle.bc_key.specs.declared.key.Key.{Key}
use Rattle.bc_super.specs.declared.backing.BackingSuper.{BackingSuper}
use Rattle.bc_super.specs.declared.cache.CacheSuper.{CacheSuper}
use Rattle.bc_counts.specs.Counts.{IsCount}
use Rattle.bc_check.specs.Totals.{IsLiveAs}
use Rattle.bc_check.specs.Verdict.{IsVerdict}
use Rattle.bc_check.specs.declared.verdict.Verdict.TheVariants as verdicts
use Rattle.bc_check.proofs.Verdicts.{not_through, says_sound}

module _ (p : Pair) (b : BackingSuper) (c : CacheSuper) (g : Geometry) (f : IsFormatted p b c g) (supers : HasSuperblocks b c) where
  no_keys : keys_of (fresh_reading p b c g f) ≡ []
  no_keys = ap (λ (ks : List Key). ks ++ [] ++ [] ++ (f.entry.keys ++ [])) f.empty ∙ ap (λ (ks : List Key). ks ++ []) f.first_entry.keys

  none_live : (dirty : Bool) → IsCount (IsLiveAs g (fresh_reading p b c g f) dirty) 0
  none_live dirty = record { bound = 0; below = refl; behind = λ n most l. (absurd (let none : last_key (keys_of (fresh_reading p b c g f)) n ≡ None = ap (λ (ks : List Key). last_key ks n) no_keys in let some = l.last in cc)) }

  pub anew : IsVerdict p (verdicts.Sound 0 0)
  anew = elim (says_sound p (fresh_is_sound p b c g f supers)) [
    | inl alone ↦ absurd (not_through p b c f.backing supers alone)
    | inr sound ↦
        let o = sound.2 in
        let same = one_view p o.view (fresh_view p b c g f) o.is_view (fresh_is_view p b c g f supers.initialised.1) in
        let s = o.says in
        record { view = o.view; is_view = o.is_view; openable = o.openable; says = (s.0, s.1, s.2, (at same true (none_live true), at same false (none_live false))) }
  ]
    where
      at : {v : View} → v ≡ fresh_view p b c g f → (dirty : Bool) → IsCount (IsLiveAs g (fresh_reading p b c g f) dirty) 0 → IsCount (IsLiveAs v.geometry v.reading dirty) 0
      at {v} same dirty none = subst (λ (x : View). IsCount (IsLiveAs x.geometry x.reading dirty) 0) (sym same) none

pub example : IsVerdict new_pair (verdicts.Sound 0 0)
example = anew new_pair backing cache (geometry 8 (lit≤ tt)) is_formatted superblocks
