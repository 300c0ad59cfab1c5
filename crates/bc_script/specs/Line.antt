-- What the text of one line of a trace says, without its newline: the first word from the left that doesn't fit refuses it.
use Rattle.std.specs.Prelude.{ℕ, ◌-◌, ◌^◌, ◌&&◌, Bool, true, false, List, [], ◌∷◌, length, take, filter, codes, ◌==◌, nat_le, nat_lt, Option, Some, None, Result, Ok, Err, if◌then◌else◌}
use Rattle.std.specs.List.{slice_split, list_all, position_or_len}
use Rattle.std.specs.Char.{is_ascii_digit}
use Rattle.std.specs.Str.{bytes_eq}
use Rattle.std.specs.Str.Parse.{digits_value}
use Rattle.bc_script.specs.declared.form.Form.{Form}
use Rattle.bc_script.specs.declared.form.Form.TheVariants.{Quiet, PhaseEnd, Asked}
use Rattle.bc_script.specs.declared.line.Action.{Action}
use Rattle.bc_script.specs.declared.line.Action.TheVariants.{Write, ForcedWrite, Read, Flush, Round}
use Rattle.bc_script.specs.declared.line.Rounds.TheVariants.{Writeback, Tracing, Moving}
use Rattle.bc_script.specs.declared.reason.Reason.{Reason}
use Rattle.bc_script.specs.declared.reason.Reason.TheVariants.{Length, Number, Worker, Word, Range}

-- ---- words

abbrev pub is_space : ℕ → Bool
is_space b = b == 32

abbrev pub is_word : List ℕ → Bool
is_word [] = false
is_word (b ∷ bs) = true

-- what stands between the spaces
abbrev pub words : List ℕ → List (List ℕ)
words text = filter is_word (slice_split is_space text)

-- the word in front, up to the first space
abbrev pub front : List ℕ → List ℕ
front text = take (position_or_len is_space text) text

-- one decimal digit or more, of a value below 2 ^ 64
unfoldable pub number_in : List ℕ → Option ℕ
number_in word = if is_word word && (list_all is_ascii_digit word && nat_lt (digits_value 10 word) (2 ^ 64)) then Some (digits_value 10 word) else None

-- ---- what is read of words: a value with the words behind it, or why the first that doesn't fit is refused

abbrev pub Reads : Type 0 → Type 0
Reads A = Result A Reason

infixl 10 ◌>>=◌
abbrev pub ◌>>=◌ : {A B : Type 0} → Reads A → (A → Reads B) → Reads B
(Err why) >>= f = Err why
(Ok x) >>= f = f x

-- a word that should be a number
abbrev pub number_of : Option ℕ → List (List ℕ) → Reads (ℕ × List (List ℕ))
number_of None rest = Err Number
number_of (Some n) rest = Ok (n, rest)

abbrev pub number_at : List (List ℕ) → Reads (ℕ × List (List ℕ))
number_at [] = Err Word
number_at (word ∷ rest) = number_of (number_in word) rest

-- a number in this range
unfoldable pub field_at : Reason → ℕ → ℕ → List (List ℕ) → Reads (ℕ × List (List ℕ))
field_at why least most said = number_at said >>= λ n. if nat_le least n.0 && nat_le n.0 most then Ok n else Err why

-- x where no further word stands
abbrev pub at_end : {A : Type 0} → List (List ℕ) → A → Reads A
at_end [] x = Ok x
at_end (word ∷ rest) x = Err Word

-- FIRST and COUNT, and the words behind them
unfoldable pub range_at : List (List ℕ) → Reads (ℕ × ℕ × List (List ℕ))
range_at said = field_at Range 0 (2 ^ 40) said >>= λ f. field_at Range 1 2048 f.1 >>= λ c. Ok (f.0, c.0, c.1)

-- FIRST, COUNT and STAMP
unfoldable pub stamped_in : List (List ℕ) → Reads (ℕ × ℕ × ℕ)
stamped_in said = range_at said >>= λ r. field_at Range 1 (2 ^ 64 - 1) r.2 >>= λ s. at_end s.1 (r.0, r.1, s.0)

unfoldable pub write_in : List (List ℕ) → Reads Action
write_in said = stamped_in said >>= λ w. Ok (Write w.0 w.1 w.2)

unfoldable pub forced_in : List (List ℕ) → Reads Action
forced_in said = stamped_in said >>= λ w. Ok (ForcedWrite w.0 w.1 w.2)

unfoldable pub read_in : List (List ℕ) → Reads Action
read_in said = range_at said >>= λ r. at_end r.2 (Read r.0 r.1)

-- what a letter asks for: w, W, r, f, b, c and m
unfoldable pub asked_by : ℕ → List (List ℕ) → Reads Action
asked_by letter rest =
    if letter == 119 then write_in rest else (if letter == 87 then forced_in rest else (if letter == 114 then read_in rest
    else (if letter == 102 then at_end rest Flush else (if letter == 98 then at_end rest (Round Writeback)
    else (if letter == 99 then at_end rest (Round Tracing) else (if letter == 109 then at_end rest (Round Moving) else Err Word))))))

-- a word of one letter, and what it asks for
abbrev pub action_in : List (List ℕ) → Reads Action
action_in [] = Err Word
action_in ([] ∷ rest) = Err Word
action_in ((letter ∷ []) ∷ rest) = asked_by letter rest
action_in ((b ∷ c ∷ bs) ∷ rest) = Err Word

unfoldable pub request_in : List (List ℕ) → Reads Form
request_in said = field_at Worker 1 16 said >>= λ w. action_in w.1 >>= λ a. Ok (Asked w.0 a)

-- ---- lines

-- the one word `-` ends a phase
abbrev pub is_phase_end : List (List ℕ) → Bool
is_phase_end [] = false
is_phase_end (word ∷ []) = bytes_eq word (codes "-")
is_phase_end (word ∷ other ∷ rest) = false

abbrev pub said_in : List (List ℕ) → Reads Form
said_in [] = Ok Quiet
said_in (word ∷ rest) = if is_phase_end (word ∷ rest) then Ok PhaseEnd else request_in (word ∷ rest)

-- `#` is the first byte
abbrev pub is_comment : List ℕ → Bool
is_comment [] = false
is_comment (b ∷ bs) = b == 35

-- the whole grammar of a line
unfoldable pub form_in : List ℕ → Reads Form
form_in text = if nat_le (length text) 80 then (if is_comment text then Ok Quiet else said_in (words text)) else Err Length
