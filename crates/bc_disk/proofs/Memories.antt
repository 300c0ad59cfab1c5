-- Disks in memory, and what each call makes of them as disks.
use Rattle.std.proofs.Common.{◌≡◌, inl, ℕ, ◌+◌, ◌*◌, ◌/◌, ◌≤◌, Bool, true, false, List, [], ◌∷◌, ◌++◌, length, take, drop, Option, Some, None, if◌then◌else◌, nat_le, refl, sym, ap, ◌∙◌, subst, arith, length-append, length-take, length-drop}
use Rattle.std.specs.Prelude.{option_to_list}
use Rattle.std.proofs.lemmas.Bool.{leb-true}
use Rattle.std.proofs.lemmas.List.Elements.{All-append}
use Rattle.std.proofs.Math.Logic.{∥∥₁_map}
use Rattle.bc_model.specs.Sector.{Value, Image, at_run, unless, values_of, sectors}
use Rattle.bc_disk.specs.Device.{Among}
use Rattle.bc_disk.specs.Disk.{IsKept, IsWritten, IsFailedWrite, IsSettled, IsRead, SomeTornOutcomes, StandsFor}
use Rattle.bc_disk.specs.Bytes.{image_of, put}
use Rattle.bc_disk.specs.declared.log.Logged.{Logged}
use Rattle.bc_disk.specs.declared.crash.Pick.{Pick}
use Rattle.bc_disk.specs.Log.{logged, values_at, choices, IsWithin}
use Rattle.bc_disk.specs.Crash.{choice, picked}
use Rattle.bc_disk.specs.Tally.{Tally}
use Rattle.bc_disk.specs.Memory.{Memory, facts_of, has_room, noted, IsPossible, new_disk}
use Rattle.bc_disk.specs.Stands.{settled_model}
use Rattle.bc_disk.specs.Kept.{among_surely}
use Rattle.bc_disk.proofs.Amongs.{only_one, among_get_or, among_left, among_right}
use Rattle.bc_disk.proofs.Choices.{choice_le}
use Rattle.bc_disk.proofs.Stands.{settled_stands}
use Rattle.bc_disk.proofs.Outcomes.{grown_outcomes, some_grown_outcomes, same_outcomes}
use Rattle.bc_disk.proofs.Sectors.{image_of-put, image_of-run, values_at-append, values_at-logged}
use Rattle.bc_disk.proofs.Logs.{length-logged, logged_within}

pub same_memory : (b c s t : List ℕ) (w v : List Logged) (room : ℕ) (k l : Tally) → b ≡ c → s ≡ t → w ≡ v → k ≡ l
    → ◌≡◌ {A = Memory} record { bytes = b; stable = s; written = w; room = room; calls = k } record { bytes = c; stable = t; written = v; room = room; calls = l }
same_memory b c s t w v room k l e f g h = cc

pub length-put : (at : ℕ) (piece bytes : List ℕ) → 512 * at + length piece ≤ length bytes → length (put at piece bytes) ≡ length bytes
length-put at piece bytes fits = simp (length-append, length-take, length-drop) (omega arith)

-- as many sectors as the bytes have
pub whole_sectors : (n : ℕ) (bytes : List ℕ) → length bytes ≡ 512 * n → length bytes / 512 ≡ n
whole_sectors n bytes long = omega arith

pub memory_kept : (m : Memory) (t : Tally) → IsKept (facts_of m) (facts_of record m { calls = t })
memory_kept m t = record { sectors = refl; holds = λ s. refl; leaves = λ image. ((λ may. may), (λ may. may)) }

pub memory_settled : (m : Memory) (t : Tally) → IsSettled (facts_of m) (facts_of record m { stable = m.bytes; written = []; calls = t })
memory_settled m t = record { sectors = refl; holds = λ s. refl; leaves = λ image may s. only_one (image s) (image_of m.bytes s) (may s) }

pub memory_read : (m : Memory) (at n : ℕ) (piece : List ℕ) → length piece ≡ 512 * n → piece ≡ take (512 * n) (drop (512 * at) m.bytes) → IsRead at (values_of piece) (facts_of m)
memory_read m at n piece long is s v given =
    image_of-run at n m.bytes s v (ap (λ l. at_run at (sectors n l) s) (sym is) ∙ ap (λ k. at_run at (sectors k piece) s) (sym (whole_sectors n piece long)) ∙ given)

choices-noted : (m : Memory) (at : ℕ) (values : List Value) (s : ℕ) → choices m.stable (m.written ++ logged at values) s ≡ image_of m.stable s ∷ values_at s m.written ++ option_to_list (at_run at values s)
choices-noted m at values s = ap (λ l. image_of m.stable s ∷ l) (values_at-append s m.written (logged at values) ∙ ap (λ l. values_at s m.written ++ l) (values_at-logged at values s))

pub memory_written : (m : Memory) (at n : ℕ) (piece : List ℕ) (t : Tally) → length piece ≡ 512 * n → 512 * at + length piece ≤ length m.bytes
    → IsWritten at (values_of piece) (facts_of m) (facts_of record m { bytes = put at piece m.bytes; written = m.written ++ logged at (values_of piece); calls = t })
memory_written m at n piece t long fits = record {
  sectors = ap (λ k. k / 512) (length-put at piece m.bytes fits);
  holds = λ s. image_of-put at n piece m.bytes long fits s ∙ ap (λ k. unless (at_run at (sectors k piece) s) (image_of m.bytes s)) (sym (whole_sectors n piece long));
  leaves = grown_outcomes (image_of m.stable) (λ s. values_at s m.written) (λ s. choices m.stable (m.written ++ logged at (values_of piece)) s) at (values_of piece) (choices-noted m at (values_of piece));
}

pub memory_failed : (m : Memory) (at : ℕ) (values : List Value) (t : Tally) → IsFailedWrite at values (facts_of m) (facts_of record m { written = noted at values m; calls = t })
memory_failed m at values t = record { sectors = refl; holds = λ s. inl refl; leaves = leaves (has_room m (length values)) }
  where
    leaves : (b : Bool) → SomeTornOutcomes at values (IsPossible m) (IsPossible record m { written = if b then m.written ++ logged at values else m.written; calls = t })
    leaves true = some_grown_outcomes (image_of m.stable) (λ s. values_at s m.written) (λ s. choices m.stable (m.written ++ logged at values) s) at values (choices-noted m at values)
    leaves false = same_outcomes at values (IsPossible m)

-- what a crash picks is one of the choices
pub picked_among : (pick : Pick) (stable : List ℕ) (log : List Logged) (s : ℕ) → Among (picked pick stable log s) (choices stable log s)
picked_among pick stable log s = among_get_or (choice pick s (length (values_at s log))) (choices stable log s) (let low = choice_le pick s (length (values_at s log)) in omega arith)

-- a sector that wasn't written has its stable value
pub unwritten_stable : (stable seen : List ℕ) (log : List Logged) (s : ℕ) → ∥ Among (image_of seen s) (choices stable log s) ∥₁ → values_at s log ≡ [] → image_of stable s ≡ image_of seen s
unwritten_stable stable seen log s kept none =
    sym (only_one (image_of seen s) (image_of stable s) (subst (λ (vs : List Value). Among (image_of seen s) (image_of stable s ∷ vs)) none (among_surely (image_of seen s) (choices stable log s) kept)))

module _ (at : ℕ) (values : List Value) (log noted_log : List Logged) (noted_all : Bool) (is : noted_log ≡ (if noted_all then log ++ logged at values else log)) where
  -- what a note leaves: its length, its sectors, and a choice for what reads give
  pub note_fits : (room : ℕ) → length log ≤ room → noted_all ≡ nat_le (length log + length values) room → length noted_log ≤ room
  note_fits room low test = go noted_all is test
    where
      go : (b : Bool) → noted_log ≡ (if b then log ++ logged at values else log) → b ≡ nat_le (length log + length values) room → length noted_log ≤ room
      go true e t = omega (arith, leb-true (length log + length values) room (sym t), ap (length {A = Logged}) e, length-append log (logged at values), length-logged at values)
      go false e t = omega (arith, ap (length {A = Logged}) e)

  pub note_within : (bytes : ℕ) → IsWithin bytes log → 512 * (at + length values) ≤ bytes → IsWithin bytes noted_log
  note_within bytes all fits = go noted_all is
    where
      go : (b : Bool) → noted_log ≡ (if b then log ++ logged at values else log) → IsWithin bytes noted_log
      go true e = subst (IsWithin bytes) (sym e) (All-append (λ (w : Logged). 512 * w.sector + 512 ≤ bytes) log (logged at values) all (logged_within bytes at values fits))
      go false e = subst (IsWithin bytes) (sym e) all

  pub note_kept : (stable seen : List ℕ) → ((s : ℕ) → ∥ Among (image_of seen s) (choices stable log s) ∥₁) → (s : ℕ) → ∥ Among (image_of seen s) (choices stable noted_log s) ∥₁
  note_kept stable seen kept s = go noted_all is
    where
      more : Among (image_of seen s) (choices stable log s) → Among (image_of seen s) (choices stable (log ++ logged at values) s)
      more a = subst (λ (vs : List Value). Among (image_of seen s) (image_of stable s ∷ vs)) (sym (values_at-append s log (logged at values)))
          (among_left (image_of seen s) (choices stable log s) (values_at s (logged at values)) a)

      go : (b : Bool) → noted_log ≡ (if b then log ++ logged at values else log) → ∥ Among (image_of seen s) (choices stable noted_log s) ∥₁
      go true e = subst (λ (l : List Logged). ∥ Among (image_of seen s) (choices stable l s) ∥₁) (sym e) (∥∥₁_map (kept s) more)
      go false e = subst (λ (l : List Logged). ∥ Among (image_of seen s) (choices stable l s) ∥₁) (sym e) (kept s)

-- the values that were written are among the choices
pub put_kept : (at n : ℕ) (piece stable seen : List ℕ) (log : List Logged) → length piece ≡ 512 * n → 512 * at + length piece ≤ length seen
    → ((s : ℕ) → ∥ Among (image_of seen s) (choices stable log s) ∥₁) → (s : ℕ) → ∥ Among (image_of (put at piece seen) s) (choices stable (log ++ logged at (values_of piece)) s) ∥₁
put_kept at n piece stable seen log long fits kept s =
    subst (λ v. ∥ Among v (choices stable (log ++ logged at (values_of piece)) s) ∥₁) (sym now)
    (subst (λ (vs : List Value). ∥ Among (unless (at_run at (values_of piece) s) (image_of seen s)) (image_of stable s ∷ vs) ∥₁) (sym (values_at-append s log (logged at (values_of piece)) ∙ ap (λ l. values_at s log ++ l) (values_at-logged at (values_of piece) s)))
    (go (at_run at (values_of piece) s)))
  where
    now : image_of (put at piece seen) s ≡ unless (at_run at (values_of piece) s) (image_of seen s)
    now = image_of-put at n piece seen long fits s ∙ ap (λ k. unless (at_run at (sectors k piece) s) (image_of seen s)) (sym (whole_sectors n piece long))

    go : (o : Option Value) → ∥ Among (unless o (image_of seen s)) (choices stable log s ++ option_to_list o) ∥₁
    go None = ∥∥₁_map (kept s) (among_left (image_of seen s) (choices stable log s) [])
    go (Some v) = ∣ among_right v (choices stable log s) (v ∷ []) (inl refl) ∣₁

-- a new disk leaves its bytes alone
pub new_disk_settled : (bytes : List ℕ) (room : ℕ) (image : Image) → IsPossible (new_disk bytes room) image → (s : ℕ) → image s ≡ image_of bytes s
new_disk_settled bytes room image may s = only_one (image s) (image_of bytes s) (may s)

pub new_disk_stands : (bytes : List ℕ) (room : ℕ) → StandsFor (facts_of (new_disk bytes room)) (settled_model (facts_of (new_disk bytes room)))
new_disk_stands bytes room = settled_stands (facts_of (new_disk bytes room)) (new_disk_settled bytes room)
