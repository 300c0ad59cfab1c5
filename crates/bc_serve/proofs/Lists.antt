-- Deeds one behind the other.
use Rattle.std.proofs.Common.{◌≡◌, ℕ, Bool, true, false, ◌||◌, List, [], ◌∷◌, ◌++◌, append_assoc, refl, sym, ap, ◌∙◌}
use Rattle.std.specs.Prelude.{map, option_to_list}
use Rattle.bc_model.specs.declared.history.Entry.{Entry}
use Rattle.bc_events.specs.Columns.{call_by, entry_by, entries_of}
use Rattle.bc_events.specs.declared.event.Deed.{Deed}
use Rattle.bc_events.specs.declared.event.Event.{Event}
use Rattle.bc_plain_laws.specs.bc_hand.Seats.{by}
use Rattle.bc_script.specs.declared.answer.Answer.{Answer}
use Rattle.bc_script.specs.declared.answer.Answer.TheVariants.{Silent, Done, Runs, Refused}
use Rattle.bc_script.specs.declared.answer.Refusal.TheVariants as refusal
use Rattle.bc_serve.specs.Causes.{entries_by, has_failed, is_failed, CallsBacking, IsCaused}

pub entries_both : (xs ys : List Deed) → entries_by (xs ++ ys) ≡ entries_by xs ++ entries_by ys
entries_both [] ys = refl
entries_both (x ∷ xs) ys = ap (λ (l : List Entry). option_to_list (entry_by x) ++ l) (entries_both xs ys)
    ∙ sym (append_assoc (option_to_list (entry_by x)) (entries_by xs) (entries_by ys))

or_assoc : (a b c : Bool) → (a || (b || c)) ≡ ((a || b) || c)
or_assoc true b c = refl
or_assoc false b c = refl

pub failed_both : (xs ys : List Deed) → has_failed (xs ++ ys) ≡ (has_failed xs || has_failed ys)
failed_both [] ys = refl
failed_both (x ∷ xs) ys = ap (λ b. is_failed (call_by x) || b) (failed_both xs ys)
    ∙ or_assoc (is_failed (call_by x)) (has_failed xs) (has_failed ys)

pub failed_behind : (xs ys : List Deed) → has_failed xs ≡ false → has_failed (xs ++ ys) ≡ has_failed ys
failed_behind xs ys none = failed_both xs ys ∙ ap (λ b. b || has_failed ys) none

pub calls_both : (xs ys : List Deed) → CallsBacking xs → CallsBacking ys → CallsBacking (xs ++ ys)
calls_both [] ys a b = b
calls_both (x ∷ xs) ys a b = (a.0, calls_both xs ys a.1 b)

-- a cause stays one behind deeds of which none failed
pub caused_behind : (answer : Answer) (seen : List Event) (xs ys : List Deed) → has_failed xs ≡ false
    → IsCaused answer seen ys → IsCaused answer seen (xs ++ ys)
caused_behind Silent seen xs ys none is = failed_behind xs ys none ∙ is
caused_behind Done seen xs ys none is = failed_behind xs ys none ∙ is
caused_behind (Runs at values) seen xs ys none is = failed_behind xs ys none ∙ is
caused_behind (Refused refusal.OutOfRange) seen xs ys none is = failed_behind xs ys none ∙ is
caused_behind (Refused (refusal.Fault d)) seen xs ys none is = (is.0, failed_behind xs ys none ∙ is.1)
caused_behind (Refused (refusal.Halted d)) seen xs ys none is = (is.0, failed_behind xs ys none ∙ is.1)
caused_behind (Refused refusal.Memory) seen xs ys none is = failed_behind xs ys none ∙ is
caused_behind (Refused (refusal.NoBucket purpose none_len own_len)) seen xs ys none is = absurd is
caused_behind (Refused refusal.JournalEnd) seen xs ys none is = absurd is
caused_behind (Refused (refusal.Node bucket why)) seen xs ys none is = absurd is

-- the events of a seat's deeds have the entries of these
pub entries_map : (i : ℕ) (ds : List Deed) → entries_of (map (by i) ds) ≡ entries_by ds
entries_map i [] = refl
entries_map i (d ∷ ds) = ap (λ (l : List Entry). option_to_list (entry_by d) ++ l) (entries_map i ds)
