-- What a device holds, and what a crash leaves of it, that stands for a content over an image.
use Rattle.std.proofs.Common.{◌≡◌, ◌⊎◌, inl, inr, ℕ, List, [], ◌∷◌, Option, Some, None, sym, ap, ◌∙◌, if◌then◌else◌}
use Rattle.bc_disk.specs.Device.{Among, Content, besides, failed, instead, quiet, settled, written}
use Rattle.bc_disk.specs.Disk.{Allows, BothTold, IfTold, Torn}
use Rattle.bc_open.specs.bc_entered.Laws.{IsSameImage}
use Rattle.bc_started.specs.bc_machine.World.{image_of, is_some_image}
use Rattle.bc_model.specs.Sector.{Image, Value, at_run}

-- the content of the image that a device held, where it told that
abbrev pub over : Option Image → (Image → Content) → Option Content
over o f = if is_some_image o then Some (f (image_of o)) else None

-- ---- nothing else than the image

pub record IsOnly (f : Image → Content) : Type 0 where
  pub reads : (image : Image) (s : ℕ) (v : Value) → Among v ((f image).reads s) → v ≡ image s
  pub leaves : (image : Image) (s : ℕ) (v : Value) → Among v ((f image).leaves s) → v ≡ image s

pub only_stands : (f : Image → Content) → IsOnly f → (o n : Option Image) (left : Image → Type 0)
    → Allows (over o f) n left → BothTold IsSameImage o n
    × IfTold n (λ held. (image : Image) → left image → (s : ℕ) → image s ≡ held s)
only_stands f only None None left on = (tt, tt)
only_stands f only None (Some held) left on = absurd on
only_stands f only (Some image) None left on = absurd on
only_stands f only (Some image) (Some held) left on = (
  λ s. only.reads image s (held s) (on.0 s),
  λ later may s. only.leaves image s (later s) (on.1 later may s)
      ∙ sym (only.reads image s (held s) (on.0 s)),
)

pub one : (v x : Value) → Among v (x ∷ []) → v ≡ x
one v x (inl is) = is
one v x (inr none) = absurd none

pub quiet_only : IsOnly quiet
quiet_only = record {
  reads = λ image s v. one v (image s);
  leaves = λ image s v. one v (image s);
}

-- ---- values over it, or some of them

pub record IsPartial (at : ℕ) (values : List Value) (f : Image → Content) : Type 0 where
  pub reads : (image : Image) (s : ℕ) (v : Value) → Among v ((f image).reads s)
      → (v ≡ image s) ⊎ (at_run at values s ≡ Some v)
  pub leaves : (image : Image) (s : ℕ) (v : Value) → Among v ((f image).leaves s)
      → (v ≡ image s) ⊎ (at_run at values s ≡ Some v)

pub torn_stands : (at : ℕ) (values : List Value) (f : Image → Content) → IsPartial at values f
    → (o n : Option Image) (left : Image → Type 0) → Allows (over o f) n left
    → BothTold (Torn at values) o n
    × IfTold o (λ held. (image : Image) → left image → Torn at values held image)
torn_stands at values f some None None left on = (tt, tt)
torn_stands at values f some None (Some held) left on = absurd on
torn_stands at values f some (Some image) None left on = absurd on
torn_stands at values f some (Some image) (Some held) left on = (
  λ s. some.reads image s (held s) (on.0 s),
  λ later may s. some.leaves image s (later s) (on.1 later may s),
)

beside : (o : Option Value) (v x : Value) → Among v (besides o (x ∷ [])) → (v ≡ x) ⊎ (o ≡ Some v)
beside None v x (inl is) = inl is
beside None v x (inr none) = absurd none
beside (Some w) v x (inl is) = inr (ap Some (sym is))
beside (Some w) v x (inr (inl is)) = inl is
beside (Some w) v x (inr (inr none)) = absurd none

in_place : (o : Option Value) (v x : Value) → Among v (instead o (x ∷ []))
    → (v ≡ x) ⊎ (o ≡ Some v)
in_place None v x (inl is) = inl is
in_place None v x (inr none) = absurd none
in_place (Some w) v x (inl is) = inr (ap Some (sym is))
in_place (Some w) v x (inr none) = absurd none

module _ (at : ℕ) (values : List Value) where
  -- behind a barrier, a write and one that failed
  abbrev pub written_over : Image → Content
  written_over image = written at values (settled (quiet image))

  abbrev pub lost_over : Image → Content
  lost_over image = failed at values (settled (quiet image))

  pub written_partial : IsPartial at values written_over
  written_partial = record {
    reads = λ image s v. in_place (at_run at values s) v (image s);
    leaves = λ image s v. beside (at_run at values s) v (image s);
  }

  pub lost_partial : IsPartial at values lost_over
  lost_partial = record {
    reads = λ image s v. beside (at_run at values s) v (image s);
    leaves = λ image s v. beside (at_run at values s) v (image s);
  }
