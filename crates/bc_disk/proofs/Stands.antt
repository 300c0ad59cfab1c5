-- Any disk stands for the model of a device, told or not: what each call of it makes of the model.
use Rattle.std.proofs.Common.{◌≡◌, ◌⊎◌, inl, inr, ℕ, List, Option, Some, None, refl, sym, ap, ◌∙◌, subst}
use Rattle.std.specs.Prelude.{option_map, Result, Ok, Err, OnOk, OnErr}
use Rattle.bc_model.specs.Sector.{Value, Image, at_run, unless, Gives}
use Rattle.bc_disk.specs.Device.{Among, Content, MayLeave, DeviceModel, quiet, instead, besides, written, failed, settled, next_count, HasRisen, content_map, after_read, after_write, after_barrier, after_fault, after_failed_write}
use Rattle.bc_disk.specs.Disk.{DiskFacts, IfTold, BothTold, Overwritten, Torn, SameOutcomes, IsKept, IsWritten, IsFailedWrite, IsSettled, IsRead, IsCounted, Allows, StandsFor}
use Rattle.bc_disk.specs.Stands.{MayRead, settled_model}
use Rattle.bc_disk.proofs.Cases.{next_count_rises}
use Rattle.bc_disk.proofs.Amongs.{among_same, besides_old, besides_new}

-- the counts of a call that succeeded, and of one that failed
abbrev pub CountsGood : DiskFacts → DiskFacts → Type 0
CountsGood old new = (new.calls ≡ next_count old.calls) × (new.faults ≡ old.faults)

abbrev pub CountsFault : DiskFacts → DiskFacts → Type 0
CountsFault old new = (new.calls ≡ next_count old.calls) × (new.faults ≡ next_count old.faults)

-- what a sector reads after a good write of the model
instead_by : (o : Option Value) (old new : Value) (reads : List Value) → new ≡ unless o old → Among old reads → Among new (instead o reads)
instead_by None old new reads is a = among_same old new reads is a
instead_by (Some v) old new reads is a = inl is

-- told by both and allowed after the change, or told by neither
told : (change : Content → Content) (R : Image → Image → Type 0) (P : Image → Type 0) (old_leave new_leave : Image → Type 0)
    → ((c : Content) (old new : Image) → R old new → P new → ((s : ℕ) → Among (old s) (c.reads s)) → ((image : Image) → old_leave image → MayLeave c image)
    → ((s : ℕ) → Among (new s) ((change c).reads s)) × ((image : Image) → new_leave image → MayLeave (change c) image))
    → (content : Option Content) (old new : Option Image) → BothTold R old new → IfTold new P → Allows content old old_leave → Allows (content_map change content) new new_leave
told change R P old_leave new_leave step None None None both if_told allowed = tt
told change R P old_leave new_leave step None None (Some new) both if_told allowed = elim both [ ]
told change R P old_leave new_leave step None (Some old) new both if_told allowed = elim allowed [ ]
told change R P old_leave new_leave step (Some c) None new both if_told allowed = elim allowed [ ]
told change R P old_leave new_leave step (Some c) (Some old) None both if_told allowed = elim both [ ]
told change R P old_leave new_leave step (Some c) (Some old) (Some new) both if_told allowed = step c old new both if_told allowed.0 allowed.1

if_any : (h : Option Image) → IfTold h (λ _. Unit {0})
if_any None = tt
if_any (Some image) = tt

kept_allows : (content : Option Content) (old new : Option Image) (old_leave new_leave : Image → Type 0) → BothTold (λ (a b : Image). (s : ℕ) → b s ≡ a s) old new → SameOutcomes old_leave new_leave → Allows content old old_leave → Allows content new new_leave
kept_allows None None None old_leave new_leave both same allowed = tt
kept_allows None None (Some new) old_leave new_leave both same allowed = elim both [ ]
kept_allows None (Some old) new old_leave new_leave both same allowed = elim allowed [ ]
kept_allows (Some c) None new old_leave new_leave both same allowed = elim allowed [ ]
kept_allows (Some c) (Some old) None old_leave new_leave both same allowed = elim both [ ]
kept_allows (Some c) (Some old) (Some new) old_leave new_leave both same allowed =
    ((λ s. among_same (old s) (new s) (c.reads s) (both s) (allowed.0 s)), (λ image may. allowed.1 image ((same image).0 may)))

-- a torn image of one that might have been left is one of the choices with the new values besides
torn_leaves : (c : Content) (at : ℕ) (values : List Value) (before image : Image) → MayLeave c before → Torn at values before image → (s : ℕ) → Among (image s) (besides (at_run at values s) (c.leaves s))
torn_leaves c at values before image was torn s = go (torn s)
  where
    go : (image s ≡ before s) ⊎ (at_run at values s ≡ Some (image s)) → Among (image s) (besides (at_run at values s) (c.leaves s))
    go (inl e) = besides_old (at_run at values s) (image s) (c.leaves s) (among_same (before s) (image s) (c.leaves s) e (was s))
    go (inr given) = besides_new (at_run at values s) (image s) (c.leaves s) given

torn_reads : (c : Content) (at : ℕ) (values : List Value) (old new : Image) → ((s : ℕ) → Among (old s) (c.reads s)) → Torn at values old new → (s : ℕ) → Among (new s) (besides (at_run at values s) (c.reads s))
torn_reads c at values old new was torn s = go (torn s)
  where
    go : (new s ≡ old s) ⊎ (at_run at values s ≡ Some (new s)) → Among (new s) (besides (at_run at values s) (c.reads s))
    go (inl e) = besides_old (at_run at values s) (new s) (c.reads s) (among_same (old s) (new s) (c.reads s) e (was s))
    go (inr given) = besides_new (at_run at values s) (new s) (c.reads s) given

module _ (old new : DiskFacts) (model : DeviceModel) (stands : StandsFor old model) where
  -- a read that succeeded
  pub read_stands : IsKept old new → CountsGood old new → StandsFor new (after_read model)
  read_stands kept counts = record {
    sectors = kept.sectors ∙ stands.sectors;
    content = kept_allows model.content old.holds new.holds old.may_leave new.may_leave kept.holds kept.leaves stands.content;
    calls = counts.0 ∙ ap next_count stands.calls;
    faults = counts.1 ∙ stands.faults;
  }

  -- a read or a barrier that failed
  pub fault_stands : IsKept old new → CountsFault old new → StandsFor new (after_fault model)
  fault_stands kept counts = record {
    sectors = kept.sectors ∙ stands.sectors;
    content = kept_allows model.content old.holds new.holds old.may_leave new.may_leave kept.holds kept.leaves stands.content;
    calls = counts.0 ∙ ap next_count stands.calls;
    faults = counts.1 ∙ ap next_count stands.faults;
  }

  pub write_stands : (at : ℕ) (values : List Value) → IsWritten at values old new → CountsGood old new → StandsFor new (after_write at values model)
  write_stands at values is counts = record {
    sectors = is.sectors ∙ stands.sectors;
    content = told (written at values) (Overwritten at values) (λ _. Unit {0}) old.may_leave new.may_leave
        (λ c before after over _ reads leaves. (
          (λ s. instead_by (at_run at values s) (before s) (after s) (c.reads s) (over s) (reads s)),
          (λ image may. let from = (is.leaves image).0 may in torn_leaves c at values from.0 image (leaves from.0 from.1) from.2),
        ))
        model.content old.holds new.holds is.holds (if_any new.holds) stands.content;
    calls = counts.0 ∙ ap next_count stands.calls;
    faults = counts.1 ∙ stands.faults;
  }

  pub failed_write_stands : (at : ℕ) (values : List Value) → IsFailedWrite at values old new → CountsFault old new → StandsFor new (after_failed_write at values model)
  failed_write_stands at values is counts = record {
    sectors = is.sectors ∙ stands.sectors;
    content = told (failed at values) (Torn at values) (λ _. Unit {0}) old.may_leave new.may_leave
        (λ c before after torn _ reads leaves. (
          torn_reads c at values before after reads torn,
          (λ image may. let from = is.leaves.adds image may in torn_leaves c at values from.0 image (leaves from.0 from.1) from.2),
        ))
        model.content old.holds new.holds is.holds (if_any new.holds) stands.content;
    calls = counts.0 ∙ ap next_count stands.calls;
    faults = counts.1 ∙ ap next_count stands.faults;
  }

  pub barrier_stands : IsSettled old new → CountsGood old new → StandsFor new (after_barrier model)
  barrier_stands is counts = record {
    sectors = is.sectors ∙ stands.sectors;
    content = told settled (λ (a b : Image). (s : ℕ) → b s ≡ a s) (λ held. (image : Image) → new.may_leave image → (s : ℕ) → image s ≡ held s) old.may_leave new.may_leave
        (λ c before after same only reads leaves.
        let now : (s : ℕ) → Among (after s) (c.reads s) = λ s. among_same (before s) (after s) (c.reads s) (same s) (reads s) in
        (now, (λ image may s. among_same (after s) (image s) (c.reads s) (only image may s) (now s))))
        model.content old.holds new.holds is.holds is.leaves stands.content;
    calls = counts.0 ∙ ap next_count stands.calls;
    faults = counts.1 ∙ stands.faults;
  }

-- a value that is read is among the model's reads
pub read_may : (d : DiskFacts) (model : DeviceModel) (at : ℕ) (values : List Value) → StandsFor d model → IsRead at values d → MayRead at values model.content
read_may d model at values stands read = go model.content d.holds stands.content read
  where
    go : (content : Option Content) (holds : Option Image) → Allows content holds d.may_leave → IfTold holds (λ held. Gives at values (λ s v. v ≡ held s)) → MayRead at values content
    go None holds allowed is = tt
    go (Some c) None allowed is = elim allowed [ ]
    go (Some c) (Some held) allowed is = λ s v given. among_same (held s) v (c.reads s) (is s v given) (allowed.0 s)

-- a disk of which a crash leaves exactly what it holds stands for its quiet model
pub settled_stands : (d : DiskFacts) → IfTold d.holds (λ held. (image : Image) → d.may_leave image → (s : ℕ) → image s ≡ held s) → StandsFor d (settled_model d)
settled_stands d only = record { sectors = refl; content = go d.holds only; calls = refl; faults = refl }
  where
    go : (holds : Option Image) → IfTold holds (λ held. (image : Image) → d.may_leave image → (s : ℕ) → image s ≡ held s) → Allows (option_map quiet holds) holds d.may_leave
    go None is = tt
    go (Some held) is = ((λ s. inl refl), (λ image may s. inl (is image may s)))

-- what a call's clauses say of its counts, where it succeeded and where it failed
pub on_good : {E : Type 0} (r : Result (Unit {0}) E) (old new : DiskFacts) {P Q : Type 0} → OnOk r P → IsCounted r old new → (P → CountsGood old new → Q) → OnOk r Q
on_good (Ok u) old new is counted then = then is counted
on_good (Err e) old new is counted then = tt

pub on_fault : {E : Type 0} (r : Result (Unit {0}) E) (old new : DiskFacts) {P Q : Type 0} → OnErr r P → IsCounted r old new → (P → CountsFault old new → Q) → OnErr r Q
on_fault (Ok u) old new is counted then = tt
on_fault (Err e) old new is counted then = then is counted

-- where it holds both ways
pub on_either : {E : Type 0} (r : Result (Unit {0}) E) {P : Type 0} → P → OnOk r P × OnErr r P
on_either (Ok u) is = (is, tt)
on_either (Err e) is = (tt, is)

-- a call fails only where the count of faults rose in it
pub fault_rises : {E : Type 0} (r : Result (Unit {0}) E) (old new : DiskFacts) → IsCounted r old new → OnErr r (HasRisen old.faults new.faults)
fault_rises (Ok u) old new counted = tt
fault_rises (Err e) old new counted = subst (HasRisen old.faults) (sym counted.1) (next_count_rises old.faults)
