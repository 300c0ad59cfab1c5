-- The backing device behind each of its calls, of whose sectors the data are a part.
use Rattle.std.proofs.Common.{◌≡◌, inl, inr, ◌⊎◌, ℕ, suc, ◌+◌, ◌-◌, ◌<◌, ◌≤◌, Bool, true, false, List, [], ◌∷◌, Option, Some, None, refl, sym, ap, ◌∙◌, subst, arith}
use Rattle.std.specs.Prelude.{◌==◌, ◌&&◌, nat_lt, option_map, if◌then◌else◌}
use Rattle.std.proofs.lemmas.Bool.{cases_lt, lt-ltb, le-ltb}
use Rattle.bc_model.specs.Sector.{Value, Image, Gives, at_run}
use Rattle.bc_disk.specs.Device.{Content, quiet, Among, instead, besides, written, failed, settled, after_write, after_barrier, after_failed_write}
use Rattle.bc_disk.specs.Disk.{DiskFacts, IsRead, IsKept, IsSettled, IsWritten, IsFailedWrite, Allows, StandsFor}
use Rattle.bc_disk.specs.Stands.{MayRead, settled_model}
use Rattle.bc_disk.specs.declared.disk.Device.TheVariants as device
use Rattle.bc_disk.proofs.Sectors.{at_run-below}
use Rattle.bc_disk.proofs.Stands.{CountsGood, CountsFault, read_stands, fault_stands, write_stands, failed_write_stands, barrier_stands, read_may}
use Rattle.bc_events.specs.declared.event.LineNumber.{LineNumber}
use Rattle.bc_events.specs.declared.event.Failure.TheVariants as failure
use Rattle.bc_events.specs.declared.event.Deed.TheVariants as deed
use Rattle.bc_model.specs.declared.values.Values.{Values}
use Rattle.bc_hand.specs.bc_machine.declared.part.BackingPart.{BackingPart}
use Rattle.bc_hand.specs.bc_machine.Frame.{by_test}
use Rattle.bc_hand.specs.bc_machine.World.{Side, side_of, is_some_image, image_of, model, behind, counted, World, after, data_of, is_told, IsBackingOf}
use Rattle.bc_events.specs.Run.{Opening}
use Rattle.bc_hand.specs.Seats.{by}

-- ---- runs counted from elsewhere

at_shift : (n first : ℕ) (vs : List Value) (s : ℕ) → at_run (n + first) vs (n + s) ≡ at_run first vs s
at_shift n first [] s = refl
at_shift n first (v ∷ vs) s =
    let next : n + suc first ≡ suc (n + first) = omega arith in
    let rest : at_run (suc (n + first)) vs (n + s) ≡ at_run (suc first) vs s =
    ap (λ k. at_run k vs (n + s)) (sym next) ∙ at_shift n (suc first) vs s in
    by_test (n + first) (n + s) (λ b. (if b then Some v else at_run (suc (n + first)) vs (n + s))
    ≡ (if first == s then Some v else at_run (suc first) vs s))
    (λ e. by_test first s (λ b. Some v ≡ (if b then Some v else at_run (suc first) vs s)) (λ _. refl)
    (λ ne. absurd (ne (omega arith))))
    (λ ne. by_test first s (λ b. at_run (suc (n + first)) vs (n + s)
    ≡ (if b then Some v else at_run (suc first) vs s)) (λ e. absurd (ne (ap (λ k. n + k) e))) (λ _. rest))

not_lt : (a b : ℕ) → b ≤ a → nat_lt a b ≡ false
not_lt a b le = le-ltb a b le

-- of a sector of the data, and of one before them
ahead_of : (offset t : ℕ) (P : Bool → Type 0) → (t < offset → P true)
    → ((s : ℕ) → t ≡ offset + s → P false) → P (nat_lt t offset)
ahead_of offset t P low high = go (cases_lt t offset)
  where
    go : (t < offset) ⊎ (offset ≤ t) → P (nat_lt t offset)
    go (inl lt) = subst P (sym (lt-ltb t offset lt)) (low lt)
    go (inr ge) = subst P (sym (not_lt t offset ge)) (high (t - offset) (omega arith))

-- ---- contents

-- the same of each sector
record Alike (a b : Content) : Type 0 where
  reads : (t : ℕ) → b.reads t ≡ a.reads t
  leaves : (t : ℕ) → b.leaves t ≡ a.leaves t

alike_allows : (told : Bool) (a b : Content) (holds : Option Image) (may : Image → Type 0) → Alike a b
    → Allows (if told then Some a else None) holds may → Allows (if told then Some b else None) holds may
alike_allows false a b holds may alike h = h
alike_allows true a b None may alike h = absurd h
alike_allows true a b (Some held) may alike h = (
  (λ s. subst (Among (held s)) (sym (alike.reads s)) (h.0 s)),
  (λ image left s. subst (Among (image s)) (sym (alike.leaves s)) (h.1 image left s)),
)

alike_stands : (d : DiskFacts) (x : Side) (a b : Content) → Alike a b → StandsFor d (model x a)
    → StandsFor d (model x b)
alike_stands d x a b alike h = record {
  sectors = h.sectors;
  content = alike_allows x.told a b d.holds d.may_leave alike h.content;
  calls = h.calls;
  faults = h.faults;
}

-- ---- as a run begins

begins_alike : (offset : ℕ) (image : Image)
    → Alike (quiet image) (behind offset image (quiet (λ s. image (offset + s))))
begins_alike offset image = record { reads = each; leaves = each }
  where
    each : (t : ℕ) → (if nat_lt t offset then image t ∷ [] else image (offset + (t - offset)) ∷ [])
        ≡ image t ∷ []
    each t = ahead_of offset t
        (λ b. (if b then image t ∷ [] else image (offset + (t - offset)) ∷ []) ≡ image t ∷ [])
        (λ lt. refl) (λ s is. ap (λ n. image n ∷ []) (omega arith))

pub begins_stands : (d : DiskFacts) (offset : ℕ) → StandsFor d (settled_model d)
    → StandsFor d (model (side_of d)
    (behind offset (image_of d.holds) (quiet (λ s. image_of d.holds (offset + s)))))
begins_stands d offset h = alike_stands d (side_of d) (quiet (image_of d.holds)) _
    (begins_alike offset (image_of d.holds)) (record {
      sectors = refl;
      content = told d.holds h.content;
      calls = refl;
      faults = refl;
    })
  where
    told : (o : Option Image) → Allows (option_map quiet o) o d.may_leave
        → Allows (if is_some_image o then Some (quiet (image_of o)) else None) o d.may_leave
    told None on = on
    told (Some image) on = on

put_values : (f : Option Value → List Value → List Value) → ((old : List Value) → f None old ≡ old)
    → (offset first : ℕ) (values : List Value) (ahead : Image) (old : ℕ → List Value) (t : ℕ)
    → (if nat_lt t offset then ahead t ∷ [] else f (at_run first values (t - offset)) (old (t - offset)))
    ≡ f (at_run (offset + first) values t) (if nat_lt t offset then ahead t ∷ [] else old (t - offset))
put_values f none offset first values ahead old t = ahead_of offset t
    (λ b. (if b then ahead t ∷ [] else f (at_run first values (t - offset)) (old (t - offset)))
    ≡ f (at_run (offset + first) values t) (if b then ahead t ∷ [] else old (t - offset)))
    (λ lt. sym (none (ahead t ∷ []))
    ∙ ap (λ o. f o (ahead t ∷ [])) (sym (at_run-below (offset + first) values t (omega arith))))
    (λ s is. let back : t - offset ≡ s = omega arith in
    ap (λ o. f o (old (t - offset))) (ap (λ n. at_run first values n) back ∙ sym (at_shift offset first values s)
    ∙ ap (λ n. at_run (offset + first) values n) (sym is)))

behind_written : (offset first : ℕ) (values : List Value) (ahead : Image) (c : Content)
    → Alike (written (offset + first) values (behind offset ahead c)) (behind offset ahead (written first values c))
behind_written offset first values ahead c = record {
  reads = put_values instead (λ old. refl) offset first values ahead c.reads;
  leaves = put_values besides (λ old. refl) offset first values ahead c.leaves;
}

behind_failed : (offset first : ℕ) (values : List Value) (ahead : Image) (c : Content)
    → Alike (failed (offset + first) values (behind offset ahead c)) (behind offset ahead (failed first values c))
behind_failed offset first values ahead c = record {
  reads = put_values besides (λ old. refl) offset first values ahead c.reads;
  leaves = put_values besides (λ old. refl) offset first values ahead c.leaves;
}

-- ---- models

barrier_model : (x : Side) (c : Content) → after_barrier (model x c) ≡ model (counted false x) (settled c)
barrier_model x c = go x.told
  where
    go : (b : Bool) → after_barrier (model (record x { told = b }) c)
        ≡ model (counted false (record x { told = b })) (settled c)
    go true = refl
    go false = refl

write_model : (x : Side) (at : ℕ) (values : List Value) (c : Content)
    → after_write at values (model x c) ≡ model (counted false x) (written at values c)
write_model x at values c = go x.told
  where
    go : (b : Bool) → after_write at values (model (record x { told = b }) c)
        ≡ model (counted false (record x { told = b })) (written at values c)
    go true = refl
    go false = refl

failed_model : (x : Side) (at : ℕ) (values : List Value) (c : Content)
    → after_failed_write at values (model x c) ≡ model (counted true x) (failed at values c)
failed_model x at values c = go x.told
  where
    go : (b : Bool) → after_failed_write at values (model (record x { told = b }) c)
        ≡ model (counted true (record x { told = b })) (failed at values c)
    go true = refl
    go false = refl

-- ---- the part

module _ {C B : Type 0} (cache_facts : C → DiskFacts) (backing_facts : B → DiskFacts) (b new : BackingPart B)
    (x : World) (i : ℕ) (on : IsBackingOf {C = C} cache_facts backing_facts b x)
    (offset_is : new.offset ≡ b.offset) (size_is : new.size ≡ b.size) where
  abbrev old_facts : DiskFacts
  old_facts = backing_facts b.disk

  abbrev new_facts : DiskFacts
  new_facts = backing_facts new.disk

  abbrev content : Content
  content = behind x.offset x.ahead (data_of x).backing

  -- the rest of the part
  part_is : (y : World) → y.offset ≡ x.offset → y.opening ≡ x.opening → y.backing.sectors ≡ x.backing.sectors
      → StandsFor new_facts (model y.backing (behind y.offset y.ahead (data_of y).backing))
      → IsBackingOf {C = C} cache_facts backing_facts new y
  part_is y same_offset same_opening sectors stands = record {
    stands = stands;
    offset = offset_is ∙ on.offset ∙ sym same_offset;
    size = size_is ∙ on.size ∙ ap (λ (o : Opening). o.machine.flow.books.size) (sym same_opening);
    inside = subst (λ n. new.offset + new.size ≤ n) (sym sectors)
        (subst (λ n. n + new.size ≤ x.backing.sectors) (sym offset_is)
        (subst (λ n. b.offset + n ≤ x.backing.sectors) (sym size_is) on.inside));
  }

  pub behind_barrier : IsSettled old_facts new_facts → CountsGood old_facts new_facts
      → IsBackingOf {C = C} cache_facts backing_facts new (after x (by i deed.BackingBarrier))
  behind_barrier is counts = part_is (after x (by i deed.BackingBarrier)) refl refl refl
      (subst (StandsFor new_facts) (barrier_model x.backing content)
      (barrier_stands old_facts new_facts (model x.backing content) on.stands is counts))

  pub behind_failed_barrier : IsKept old_facts new_facts → CountsFault old_facts new_facts
      → IsBackingOf {C = C} cache_facts backing_facts new
      (after x (by i (deed.DeviceFault (failure.Barrier device.Backing))))
  behind_failed_barrier is counts =
      part_is (after x (by i (deed.DeviceFault (failure.Barrier device.Backing)))) refl refl refl
      (fault_stands old_facts new_facts (model x.backing content) on.stands is counts)

  pub behind_read : (first : ℕ) (values : Values) → IsKept old_facts new_facts → CountsGood old_facts new_facts
      → IsBackingOf {C = C} cache_facts backing_facts new (after x (by i (deed.BackingRead first values)))
  behind_read first values is counts = part_is (after x (by i (deed.BackingRead first values))) refl refl refl
      (read_stands old_facts new_facts (model x.backing content) on.stands is counts)

  pub behind_failed_read : IsKept old_facts new_facts → CountsFault old_facts new_facts
      → IsBackingOf {C = C} cache_facts backing_facts new
      (after x (by i (deed.DeviceFault (failure.Read device.Backing))))
  behind_failed_read is counts =
      part_is (after x (by i (deed.DeviceFault (failure.Read device.Backing)))) refl refl refl
      (fault_stands old_facts new_facts (model x.backing content) on.stands is counts)

  pub behind_write : (first : ℕ) (of : Option LineNumber) (values : Values)
      → IsWritten (b.offset + first) values old_facts new_facts → CountsGood old_facts new_facts
      → IsBackingOf {C = C} cache_facts backing_facts new (after x (by i (deed.BackingWrite first of values)))
  behind_write first of values is counts = part_is (after x (by i (deed.BackingWrite first of values))) refl refl refl
      (alike_stands new_facts (counted false x.backing) _ _
      (behind_written x.offset first values x.ahead (data_of x).backing)
      (subst (StandsFor new_facts) (write_model x.backing (x.offset + first) values content)
      (write_stands old_facts new_facts (model x.backing content) on.stands (x.offset + first) values
      (subst (λ n. IsWritten (n + first) values old_facts new_facts) on.offset is) counts)))

  pub behind_failed_write : (first : ℕ) (of : Option LineNumber) (values : Values)
      → IsFailedWrite (b.offset + first) values old_facts new_facts → CountsFault old_facts new_facts
      → IsBackingOf {C = C} cache_facts backing_facts new
      (after x (by i (deed.DeviceFault (failure.BackingWrite first of values))))
  behind_failed_write first of values is counts =
      part_is (after x (by i (deed.DeviceFault (failure.BackingWrite first of values)))) refl refl refl
      (alike_stands new_facts (counted true x.backing) _ _
      (behind_failed x.offset first values x.ahead (data_of x).backing)
      (subst (StandsFor new_facts) (failed_model x.backing (x.offset + first) values content)
      (failed_write_stands old_facts new_facts (model x.backing content) on.stands (x.offset + first) values
      (subst (λ n. IsFailedWrite (n + first) values old_facts new_facts) on.offset is) counts)))

  -- what was read, the state may give
  pub may_have_read : (first : ℕ) (values : List Value) → is_told x ≡ true
      → IsRead (b.offset + first) values old_facts
      → Gives first values (λ s v. Among v ((data_of x).backing.reads s))
  may_have_read first values told is = λ s v at. back s v
      (told_reads x.backing.told (and_right x.cache.told x.backing.told told)
      (subst (λ n. MayRead (n + first) values (model x.backing content).content) on.offset
      (read_may old_facts (model x.backing content) (b.offset + first) values on.stands is))
      (x.offset + s) v (at_shift x.offset first values s ∙ at))
    where
      and_right : (p q : Bool) → (p && q) ≡ true → q ≡ true
      and_right true q is = is
      and_right false q is = absurd (cc)

      told_reads : (t : Bool) → t ≡ true → MayRead (x.offset + first) values (if t then Some content else None)
          → Gives (x.offset + first) values (λ t v. Among v (content.reads t))
      told_reads true is h = h
      told_reads false is h = absurd (cc)

      back : (s : ℕ) (v : Value) → Among v (content.reads (x.offset + s)) → Among v ((data_of x).backing.reads s)
      back s v h = let minus : x.offset + s - x.offset ≡ s = omega arith in
          subst (λ n. Among v ((data_of x).backing.reads n)) minus
          (subst (λ (q : Bool). Among v (if q then x.ahead (x.offset + s) ∷ [] else (data_of x).backing.reads (x.offset + s - x.offset)))
          (not_lt (x.offset + s) x.offset (omega arith)) h)
