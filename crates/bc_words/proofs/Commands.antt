-- The commands that words spell.
use Rattle.std.proofs.Common.{◌≡◌, ◌∙◌, ℕ, ◌<◌, ◌^◌, List, get_or, refl, sym, ap, ap₂, subst, arith, codes, Bool, true, false, Option, Some, None}
use Rattle.std.proofs.lemmas.Fmt.{decimal_injective}
use Rattle.std.specs.Prelude.{Result, Ok, Err, IfOk}
use Rattle.std.proofs.lemmas.Option.{same_Some}
use Rattle.clap.specs.Words.{Row, Text, first_of, subcommand_of}
use Rattle.bc_words.specs.Program.{program}
use Rattle.bc_words.specs.Reading.{Reads, ReadsValues}
use Rattle.bc_words.specs.declared.error.WordsError.{WordsError}
use Rattle.bc_words.specs.Words.{AreOptions, IsFormat, IsInRange, IsModeIfGiven, IsModeOr, IsFlag, IsNumberOr, SaysFormat, SaysOptions, SaysValues, Spells, name_of}
use Rattle.bc_words.specs.declared.command.Command.{Command}
use Rattle.bc_words.specs.declared.command.Command.TheVariants.{Format, Adopt, Show, Check, Serve}
use Rattle.bc_words.specs.declared.command.Options.{Options}
use Rattle.bc_mode.specs.declared.mode.Mode.{Mode}
use Rattle.bc_mode.specs.declared.mode.Mode.TheVariants as modes
use Rattle.bc_mode.specs.Mode.{mode_text}
use Rattle.bc_words.proofs.Uuids.{uuid_injective}

-- one text says one number, one mode and one command
pub one_number : (default : ℕ) (word : Option Text) (a b : ℕ) → a < 2 ^ 64 → b < 2 ^ 64 → IsNumberOr default word a → IsNumberOr default word b → a ≡ b
one_number default None a b low high is is' = is ∙ sym is'
one_number default (Some word) a b low high is is' = decimal_injective a b low high (sym is ∙ is')

mode_injective : (a b : Mode) → mode_text a ≡ mode_text b → a ≡ b
mode_injective modes.Writethrough modes.Writethrough same = refl
mode_injective modes.Writethrough modes.Writeback same = cc
mode_injective modes.Writethrough modes.Writearound same = cc
mode_injective modes.Writethrough modes.None same = cc
mode_injective modes.Writeback modes.Writethrough same = cc
mode_injective modes.Writeback modes.Writeback same = refl
mode_injective modes.Writeback modes.Writearound same = cc
mode_injective modes.Writeback modes.None same = cc
mode_injective modes.Writearound modes.Writethrough same = cc
mode_injective modes.Writearound modes.Writeback same = cc
mode_injective modes.Writearound modes.Writearound same = refl
mode_injective modes.Writearound modes.None same = cc
mode_injective modes.None modes.Writethrough same = cc
mode_injective modes.None modes.Writeback same = cc
mode_injective modes.None modes.Writearound same = cc
mode_injective modes.None modes.None same = refl

mode_named : (default : Mode) (word : Option Text) (a b : Mode) → IsModeOr default word a → IsModeOr default word b → a ≡ b
mode_named default None a b is is' = is ∙ sym is'
mode_named default (Some word) a b is is' = mode_injective a b (sym is ∙ is')

one_mode : (word : Option Text) (a b : Option Mode) → IsModeIfGiven word a → IsModeIfGiven word b → a ≡ b
one_mode None None None is is' = refl
one_mode None None (Some b) is is' = absurd is'
one_mode None (Some a) b is is' = absurd is
one_mode (Some word) None b is is' = absurd is
one_mode (Some word) (Some a) None is is' = absurd is'
one_mode (Some word) (Some a) (Some b) is is' = ap Some (mode_injective a b (sym is ∙ is'))

apart : (a b : ℕ) → a ≡ 97 → b ≡ 115 → a ≡ b → ⊥
apart a b is_a is_b same = omega arith

-- the names of five letters
adopt_serve : codes "adopt" ≡ codes "serve" → ⊥
adopt_serve same = apart 97 115 refl refl (ap (λ (t : Text). get_or t 0 0) same)

adopt_check : codes "adopt" ≡ codes "check" → ⊥
adopt_check same = (let first : 97 ≡ 99 = ap (λ (t : Text). get_or t 0 0) same in absurd (omega (arith, first)))

check_serve : codes "check" ≡ codes "serve" → ⊥
check_serve same = (let first : 99 ≡ 115 = ap (λ (t : Text). get_or t 0 0) same in absurd (omega (arith, first)))

one_flag : (word : Option Text) (a b : Bool) → IsFlag word a → IsFlag word b → a ≡ b
one_flag None a b is is' = is ∙ sym is'
one_flag (Some word) true true is is' = refl
one_flag (Some word) true false is is' = absurd (let other = is'.1 (is.0 refl) in cc)
one_flag (Some word) false true is is' = absurd (let other = is.1 (is'.0 refl) in cc)
one_flag (Some word) false false is is' = refl

one_uuid : (found : Option Text) (a b : Text) → found ≡ Some a → found ≡ Some b → a ≡ b
one_uuid found a b is is' = cc

one_format : (rows : List Row) (s c u s' c' u' : List ℕ) (n k n' k' : ℕ) (m m' : Mode) (o o' : ℕ) → IsFormat s c u n k o → IsFormat s' c' u' n' k' o'
    → SaysFormat rows s c u n k m o → SaysFormat rows s' c' u' n' k' m' o' → Format s c u n k m o ≡ Format s' c' u' n' k' m' o'
one_format rows s c u s' c' u' n k n' k' m m' o o' p q said said' =
    let set : s ≡ s' = uuid_injective s s' p.is_set q.is_set (one_uuid _ _ _ said.says_set said'.says_set) in
    let cuuid : c ≡ c' = uuid_injective c c' p.is_cuuid q.is_cuuid (one_uuid _ _ _ said.says_cuuid said'.says_cuuid) in
    let buuid : u ≡ u' = uuid_injective u u' p.is_buuid q.is_buuid (one_uuid _ _ _ said.says_buuid said'.says_buuid) in
    let low = p.is_block.within.high in
    let low' = q.is_block.within.high in
    let high = p.is_bucket.within.high in
    let high' = q.is_bucket.within.high in
    let block : n ≡ n' = one_number 1 (first_of (codes "block") rows) n n' (omega arith) (omega arith) said.says_block said'.says_block in
    let bucket : k ≡ k' = one_number 1024 (first_of (codes "bucket") rows) k k' (omega arith) (omega arith) said.says_bucket said'.says_bucket in
    let mode : m ≡ m' = mode_named modes.Writethrough (first_of (codes "mode") rows) m m' said.says_mode said'.says_mode in
    let far = p.is_offset.high in
    let far' = q.is_offset.high in
    let offset : o ≡ o' = one_number 16 (first_of (codes "offset") rows) o o' (omega arith) (omega arith) said.says_offset said'.says_offset in
    cc

same_options : (a b : Options) → a.mode ≡ b.mode → a.cutoff ≡ b.cutoff → a.slots ≡ b.slots → a ≡ b
same_options a b mode cutoff slots =
    let P : (Option Mode) → ℕ → ℕ → Options = λ m c s. record { mode = m; cutoff = c; slots = s } in
    ap₂ (λ (m : Option Mode) (c : ℕ). P m c a.slots) mode cutoff ∙ ap (λ (s : ℕ). P b.mode b.cutoff s) slots

one_options : (rows : List Row) (a b : Options) → AreOptions a → AreOptions b → SaysOptions rows a → SaysOptions rows b → a ≡ b
one_options rows a b p q said said' =
    let mode = one_mode (first_of (codes "mode") rows) a.mode b.mode said.mode said'.mode in
    let cut = p.is_cutoff.high in
    let cut' = q.is_cutoff.high in
    let cutoff = one_number 8192 (first_of (codes "cutoff") rows) a.cutoff b.cutoff (omega arith) (omega arith) said.cutoff said'.cutoff in
    let slot = p.is_slots.high in
    let slot' = q.is_slots.high in
    let slots = one_number 1024 (first_of (codes "slots") rows) a.slots b.slots (omega arith) (omega arith) said.slots said'.slots in
    same_options a b mode cutoff slots

-- what one row of values says under one name
pub one_value : (rows : List Row) (a b : Command) → IsInRange a → IsInRange b → name_of a ≡ name_of b → SaysValues rows a → SaysValues rows b → a ≡ b
one_value rows (Format s c u n k m o) (Format s' c' u' n' k' m' o') p q same said said' = one_format rows s c u s' c' u' n k n' k' m m' o o' p q said said'
one_value rows (Format s c u n k m o) Adopt p q same said said' = cc
one_value rows (Format s c u n k m o) Show p q same said said' = cc
one_value rows (Format s c u n k m o) (Check l) p q same said said' = cc
one_value rows (Format s c u n k m o) (Serve given) p q same said said' = cc
one_value rows Adopt (Format s c u n k m o) p q same said said' = cc
one_value rows Adopt Adopt p q same said said' = refl
one_value rows Adopt Show p q same said said' = cc
one_value rows Adopt (Check l) p q same said said' = absurd (adopt_check same)
one_value rows Adopt (Serve o) p q same said said' = absurd (adopt_serve same)
one_value rows Show (Format s c u n k m o) p q same said said' = cc
one_value rows Show Adopt p q same said said' = cc
one_value rows Show Show p q same said said' = refl
one_value rows Show (Check l) p q same said said' = cc
one_value rows Show (Serve o) p q same said said' = cc
one_value rows (Check l) (Format s c u n k m o) p q same said said' = cc
one_value rows (Check l) Adopt p q same said said' = absurd (adopt_check (sym same))
one_value rows (Check l) Show p q same said said' = cc
one_value rows (Check l) (Check m) p q same said said' = ap Check (one_flag (first_of (codes "list") rows) l m said said')
one_value rows (Check l) (Serve o) p q same said said' = absurd (check_serve same)
one_value rows (Serve given) (Format s c u n k m o) p q same said said' = cc
one_value rows (Serve o) Adopt p q same said said' = absurd (adopt_serve (sym same))
one_value rows (Serve o) Show p q same said said' = cc
one_value rows (Serve o) (Check l) p q same said said' = absurd (check_serve (sym same))
one_value rows (Serve o) (Serve o') p q same said said' = ap Serve (one_options rows o o' p q said said')

-- one command at most is entered
module _ (name name' : Text) (rows rows' : List Row) where
  same_name : (found : Option (Text × List Row)) → found ≡ Some (name, rows) → found ≡ Some (name', rows') → name ≡ name'
  same_name found is is' = ap (λ (p : Text × List Row). p.0) (same_Some (name, rows) (name', rows') (sym is ∙ is'))

  same_rows : (found : Option (Text × List Row)) → found ≡ Some (name, rows) → found ≡ Some (name', rows') → rows ≡ rows'
  same_rows found is is' = ap (λ (p : Text × List Row). p.1) (same_Some (name, rows) (name', rows') (sym is ∙ is'))

pub one_command : (words : List Text) (a b : Command) → IsInRange a → IsInRange b → Spells words a → Spells words b → a ≡ b
one_command words a b p q (rows, parsed, said) (rows', parsed', said') =
    let name = same_name (name_of a) (name_of b) rows rows' (subcommand_of program words) parsed.entered parsed'.entered in
    let same = same_rows (name_of a) (name_of b) rows rows' (subcommand_of program words) parsed.entered parsed'.entered in
    let P : List Row → Type 0 = λ rs. SaysValues rs b in
    one_value rows a b p q name said (subst P (sym same) said')

-- what is spelled is read
pub read_again : (words : List Text) (r : Result Command WordsError) (command : Command) → Reads words r → IsInRange command → Spells words command → IfOk r (λ found. found ≡ command)
read_again words (Ok found) command reads range is = one_command words found command reads.0 range reads.1 is
read_again words (Err e) command reads range is = tt

-- behind `format` stand the values of no other command
pub no_format : (rows : List Row) → ((s c u : Text) (n k : ℕ) (m : Mode) (o : ℕ) → IsFormat s c u n k o → SaysFormat rows s c u n k m o → ⊥) → ReadsValues (codes "format") rows None
no_format rows none (Format s c u n k m o) range named said = none s c u n k m o range said
no_format rows none Adopt range named said = cc
no_format rows none Show range named said = cc
no_format rows none (Check l) range named said = cc
no_format rows none (Serve o) range named said = cc
