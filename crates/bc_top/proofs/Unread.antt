-- What the words come to that aren't read.
use Rattle.std.proofs.Common.{◌≡◌, ◌⊎◌, inl, inr, List, refl, subst, ◌∙◌}
use Rattle.std.specs.Prelude.{Result, Ok, Err, IfOk, IfErr, String, map, string_bytes}
use Rattle.std.specs.declared.alloc.Global.{Global}
use Rattle.bc_disk.specs.Stream.{StreamFacts}
use Rattle.bc_output.specs.Message.{message_text}
use Rattle.bc_words.specs.Reading.{IsCause}
use Rattle.bc_words.specs.declared.command.Command.{Command}
use Rattle.bc_words.specs.declared.error.WordsError.{WordsError}
use Rattle.bc_words.specs.declared.error.WordsError.TheVariants.{Usage, Memory}
use Rattle.bc_output.specs.declared.status.Status.{Status}
use Rattle.bc_output.specs.declared.status.Status.TheVariants as statuses
use Rattle.bc_top.specs.Ended.{IsPutOf}
use Rattle.bc_top.specs.Stops.{message_of, status_of, words_stop}
use Rattle.bc_top.specs.Top.{LacksMemory, Says}

pub found_is : (r : Result Command WordsError) (found command : Command) → r ≡ Ok found → IfOk r (λ x. x ≡ command) → found ≡ command
found_is (Ok x) found command is same = let first : found ≡ x = cc in first ∙ same
found_is (Err e) found command is same = cc

pub at_error : (P : WordsError → Type 0) (r : Result Command WordsError) (e : WordsError) → r ≡ Err e → IfErr r P → P e
at_error P (Ok x) e is h = cc
at_error P (Err x) e is h = let same : x ≡ e = cc in subst P same h

-- where the words spell a command, there was no memory for them
pub lacks : {C B : Type 0} {cache : C} {backing : B} (words : List (String Global)) (error : WordsError) (status : Status) (command : Command) {old new : StreamFacts}
    → IsCause (map string_bytes words) error → Says words command → status ≡ status_of (words_stop error) → IsPutOf (message_text (message_of (words_stop error))) old new
    → LacksMemory status cache cache backing backing old new
lacks words Usage status command why says is told = absurd (why command says.0 says.1)
lacks words Memory status command why says is told = record { status_is = is; cache_is = refl; backing_is = refl; told = told }

-- words that aren't read have no status but these
pub never_read : (error : WordsError) (status : Status) → status ≡ status_of (words_stop error)
    → (status ≡ statuses.Device) ⊎ (status ≡ statuses.Source) ⊎ (status ≡ statuses.Sink) → ⊥
never_read Usage status ends (inl is) = cc
never_read Usage status ends (inr (inl is)) = cc
never_read Usage status ends (inr (inr is)) = cc
never_read Memory status ends (inl is) = cc
never_read Memory status ends (inr (inl is)) = cc
never_read Memory status ends (inr (inr is)) = cc
