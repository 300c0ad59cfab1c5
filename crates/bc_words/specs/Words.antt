-- The words of a command line, each as the list of its bytes, and the command that they spell.
use Rattle.std.specs.Prelude.{◌≡◌, ◌↔◌, Bool, false, IsTrue, ◌≢◌, ℕ, ◌≤◌, ◌^◌, List, [], Option, Some, None, codes, replicate, length}
use Rattle.std.specs.Int.{IsPowerOfTwo}
use Rattle.std.specs.Fmt.{decimal}
use Rattle.hex.specs.Hex.{encode_lower, IsBytes}
use Rattle.clap.specs.Words.{Row, Text, fault_of, first_of, subcommand_of}
use Rattle.bc_words.specs.Program.{program}
use Rattle.bc_words.specs.declared.command.Command.{Command}
use Rattle.bc_words.specs.declared.command.Command.TheVariants.{Format, Adopt, Show, Check, Serve}
use Rattle.bc_words.specs.declared.command.Options.{Options}
use Rattle.bc_mode.specs.declared.mode.Mode.{Mode}
use Rattle.bc_mode.specs.declared.mode.Mode.TheVariants.{Writethrough}
use Rattle.bc_mode.specs.Mode.{mode_text}

-- ---- what clap makes of the words

-- clap takes the words, and finds in them this command with the values of these options
pub record AreParsed (words : List Text) (name : Text) (rows : List Row) : Type 0 where
  pub faultless : fault_of program words ≡ []
  pub entered : subcommand_of program words ≡ Some (name, rows)

-- ---- what the values say

-- a number is written in decimal digits, without a zero in front; where none is given it is this one
abbrev pub IsNumberOr : ℕ → Option Text → ℕ → Type 0
IsNumberOr default None number = number ≡ default
IsNumberOr default (Some word) number = word ≡ decimal number

abbrev pub IsModeOr : Mode → Option Text → Mode → Type 0
IsModeOr default None mode = mode ≡ default
IsModeOr default (Some word) mode = word ≡ mode_text mode

abbrev pub IsModeIfGiven : Option Text → Option Mode → Type 0
IsModeIfGiven None None = Unit {0}
IsModeIfGiven None (Some mode) = ⊥
IsModeIfGiven (Some word) None = ⊥
IsModeIfGiven (Some word) (Some mode) = word ≡ mode_text mode

-- a uuid is written as two lower-case hexadecimal digits for each byte
pub record SaysFormat (rows : List Row) (set cuuid buuid : List ℕ) (block bucket : ℕ) (mode : Mode) (offset : ℕ) : Type 0 where
  pub says_set : first_of (codes "set") rows ≡ Some (encode_lower set)
  pub says_cuuid : first_of (codes "cuuid") rows ≡ Some (encode_lower cuuid)
  pub says_buuid : first_of (codes "buuid") rows ≡ Some (encode_lower buuid)
  pub says_block : IsNumberOr 1 (first_of (codes "block") rows) block
  pub says_bucket : IsNumberOr 1024 (first_of (codes "bucket") rows) bucket
  pub says_mode : IsModeOr Writethrough (first_of (codes "mode") rows) mode
  pub says_offset : IsNumberOr 16 (first_of (codes "offset") rows) offset

pub record SaysOptions (rows : List Row) (options : Options) : Type 0 where
  pub mode : IsModeIfGiven (first_of (codes "mode") rows) options.mode
  pub cutoff : IsNumberOr 8192 (first_of (codes "cutoff") rows) options.cutoff
  pub slots : IsNumberOr 1024 (first_of (codes "slots") rows) options.slots

-- a flag is given where clap has it as true
abbrev pub IsFlag : Option Text → Bool → Type 0
IsFlag None given = given ≡ false
IsFlag (Some word) given = IsTrue given ↔ (word ≡ codes "true")

abbrev pub name_of : Command → Text
name_of (Format set cuuid buuid block bucket mode offset) = codes "format"
name_of Adopt = codes "adopt"
name_of Show = codes "show"
name_of (Check list) = codes "check"
name_of (Serve options) = codes "serve"

abbrev pub SaysValues : List Row → Command → Type 0
SaysValues rows (Format set cuuid buuid block bucket mode offset) = SaysFormat rows set cuuid buuid block bucket mode offset
SaysValues rows Adopt = Unit {0}
SaysValues rows Show = Unit {0}
SaysValues rows (Check list) = IsFlag (first_of (codes "list") rows) list
SaysValues rows (Serve options) = SaysOptions rows options

-- the words spell the command
abbrev pub Spells : List Text → Command → Type 0
Spells words command = (rows : List Row) × AreParsed words (name_of command) rows × SaysValues rows command

-- ---- what a command may be

-- 16 bytes
pub record IsUuid (uuid : List ℕ) : Type 0 where
  pub whole : length uuid ≡ 16
  pub bytes : IsBytes uuid

-- a number in this range
pub record IsWithin (least most number : ℕ) : Type 0 where
  pub low : least ≤ number
  pub high : number ≤ most

-- a power of two in this range
pub record IsSize (least most size : ℕ) : Type 0 where
  pub power : IsPowerOfTwo size
  pub within : IsWithin least most size

-- what `format` may be given: a set whose uuid isn't all zero, the sizes of a block and a bucket in sectors, and the
-- sector at which the data begins
pub record IsFormat (set cuuid buuid : List ℕ) (block bucket offset : ℕ) : Type 0 where
  pub is_set : IsUuid set
  pub not_zero : set ≢ replicate 16 0
  pub is_cuuid : IsUuid cuuid
  pub is_buuid : IsUuid buuid
  pub is_block : IsSize 1 8 block
  pub is_bucket : IsSize 64 32768 bucket
  pub is_offset : IsWithin 16 (2 ^ 40) offset

-- what `serve` may be given
pub record AreOptions (options : Options) : Type 0 where
  pub is_cutoff : IsWithin 0 (2 ^ 40) options.cutoff
  pub is_slots : IsWithin 1 1024 options.slots

abbrev pub IsInRange : Command → Type 0
IsInRange (Format set cuuid buuid block bucket mode offset) = IsFormat set cuuid buuid block bucket offset
IsInRange Adopt = Unit {0}
IsInRange Show = Unit {0}
IsInRange (Check list) = Unit {0}
IsInRange (Serve options) = AreOptions options
