-- A pair in another state.
use Rattle.std.proofs.Common.{◌≡◌, ◌≢◌, ◌⊎◌, inl, inr, ℕ, Bool, ◌+◌, ◌≤◌, true, false, refl, sym, ap, ◌∙◌, subst, arith, if◌then◌else◌}
use Rattle.std.specs.Prelude.{◌==◌, ◌++◌, take, length, replicate}
use Rattle.std.proofs.Math.Seq.{take-append_seam}
use Rattle.bc_model.specs.Sector.{Value, Image}
use Rattle.std.proofs.lemmas.Bool.Decides.{eqb_tells}
use Rattle.bc_record.specs.Sectors.{bytes_in, sector_bytes}
use Rattle.bc_super.specs.Super.{IsBackingSuper, IsState, IsUsable, state_number}
use Rattle.bc_super.specs.Writing.{IsBackingSector}
use Rattle.bc_super.specs.declared.backing.BackingSuper.{BackingSuper}
use Rattle.bc_super.specs.declared.state.BackingState.{BackingState}
use Rattle.bc_super.specs.declared.state.BackingState.TheVariants as state
use Rattle.bc_super.proofs.Sectors.{written_again}
use Rattle.bc_image.specs.Pair.{Pair, super_bytes}
use Rattle.bc_image.specs.Reading.{View, IsView, key_of}
use Rattle.bc_image.specs.Shown.{shown_by, value_by}
use Rattle.bc_image.specs.Sound.{HasSoundParts}
use Rattle.bc_state.specs.State.{IsCached, super_in, with_sector, view_in}
use Rattle.bc_state.specs.Laws.{LawState}
use Rattle.bc_state.proofs.Flags.{number_again, law_usable}

states : (x : BackingState) (s : BackingSuper) → IsCached x
    → IsState (state_number (super_in x s).flags) state.Clean
    ⊎ IsState (state_number (super_in x s).flags) state.Dirty
states state.None s cached = absurd cached
states state.Clean s cached = inl (number_again 1 s.flags (omega arith))
states state.Dirty s cached = inr (number_again 2 s.flags (omega arith))
states state.Stale s cached = absurd cached

-- a whole sector's bytes
sector_whole : (v : Value) → length v ≡ 512 → sector_bytes v ≡ v
sector_whole v whole = subst (λ n. take n (v ++ replicate 512 0) ≡ v) whole
    (take-append_seam v (replicate 512 0))

front : (image : Image) (v : Value) → image 8 ≡ v → length v ≡ 512
    → take 512 (super_bytes image) ≡ v
unfolding bytes_in
front image v is whole =
    ap (λ x. take 512 (x ++ bytes_in image 9 4)) (ap sector_bytes is ∙ sector_whole v whole)
    ∙ subst (λ n. take n (v ++ bytes_in image 9 4) ≡ v) whole (take-append_seam v (bytes_in image 9 4))

by_test : (a b : ℕ) (P : Bool → Type 0) → (a ≡ b → P true) → (a ≢ b → P false) → P (a == b)
by_test a b P same other = go (eqb_tells a b)
  where
    go : (((a == b) ≡ true) × (a ≡ b)) ⊎ (((a == b) ≡ false) × (a ≢ b)) → P (a == b)
    go (inl t) = subst P (sym t.0) (same t.1)
    go (inr t) = subst P (sym t.0) (other t.1)

-- where the data begins it is as it was
behind : (offset s : ℕ) (bytes old : Value) → 16 ≤ offset
    → (if offset + s == 8 then bytes else old) ≡ old
behind offset s bytes old far = by_test (offset + s) 8 (λ b. (if b then bytes else old) ≡ old)
    (λ is. absurd (omega arith)) (λ no. refl)

module _ (p : Pair) (v : View) (state : BackingState) (bytes : Value) (cached : IsCached state)
    (is : IsView p v) (parts : HasSoundParts p v)
    (sector : IsBackingSector bytes (super_in state v.backing)) where
  usable : IsUsable p.backing_sectors (super_in state v.backing)
  usable = law_usable p.backing_sectors v.backing state cached is.backing.1.usable

  super : IsBackingSuper (super_bytes (with_sector p bytes).backing) p.backing_sectors
      (super_in state v.backing)
  super = written_again (super_bytes (with_sector p bytes).backing) p.backing_sectors
      (super_in state v.backing)
      (subst (λ xs. IsBackingSector xs (super_in state v.backing))
      (sym (front (with_sector p bytes).backing bytes refl sector.whole)) sector) usable

  data_same : (s : ℕ) → (with_sector p bytes).backing (v.backing.data_offset + s)
      ≡ p.backing (v.backing.data_offset + s)
  data_same s = behind v.backing.data_offset s bytes (p.backing (v.backing.data_offset + s))
      is.backing.1.usable.data_offset.0

  view : IsView (with_sector p bytes) (view_in state v)
  view = record {
    backing = (is.backing.0, super);
    cache = is.cache;
    geometry = is.geometry;
    reading = is.reading;
  }

  sound : HasSoundParts (with_sector p bytes) (view_in state v)
  sound = record {
    superblocks = record {
      initialised = parts.superblocks.initialised;
      same_set = parts.superblocks.same_set;
      state = states state v.backing cached;
    };
    backing = record {
      bucket = parts.backing.bucket;
      place = parts.backing.place;
      entries = parts.backing.entries;
      table = parts.backing.table;
      first = parts.backing.first;
    };
    ranges = parts.ranges;
    pointers = parts.pointers;
    uses = parts.uses;
    agrees = λ s key has live clean. parts.agrees s key has live clean ∙ sym (data_same s);
    window = parts.window;
    spare = parts.spare;
    no_stray = parts.no_stray;
  }

  shows : (s : ℕ) → shown_by (with_sector p bytes) (view_in state v) s ≡ shown_by p v s
  shows s = ap (λ x. value_by v.geometry v.reading.gens p.cache (key_of v.reading s) s x)
      (data_same s)

pub law_state : LawState
law_state p v state bytes cached is parts sector = record {
  view = view p v state bytes cached is parts sector;
  sound = sound p v state bytes cached is parts sector;
  shows = shows p v state bytes cached is parts sector;
}
