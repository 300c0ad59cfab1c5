-- The stamps that answers show, and their sums.
use Rattle.std.proofs.Common.{◌≡◌, ℕ, ◌+◌, ◌%◌, ◌^◌, ◌<◌, List, [], ◌∷◌, ◌++◌, length, get_or, take, Some, refl, sym, ap, ◌∙◌, subst, arith}
use Rattle.std.specs.Prelude.{sum_by, slice_get}
use Rattle.std.proofs.lemmas.List.{take_more, length-take-le}
use Rattle.std.proofs.lemmas.List.Sums.{sum_by-append}
use Rattle.std.proofs.lemmas.Option.{get_or_from_slice_get}
use Rattle.bc_model.specs.Sector.{Value}
use Rattle.bc_script.specs.declared.answer.Answer.{Answer}
use Rattle.bc_script.specs.declared.seen.Seen.{Seen}
use Rattle.bc_script.specs.Runs.{AreSeen, IsSeen}
use Rattle.bc_script.specs.Summary.{AllSumTo, SumsTo, stamp_of}
use Rattle.bc_script.proofs.Printed.{seen_push}

-- the first so many sectors come to this
abbrev pub FrontSums : ℕ → List Value → ℕ → ℕ → Type 0
FrontSums first values place sum = (seen : List Seen) × AreSeen first (take place values) seen × (sum ≡ sum_by stamp_of seen % 2 ^ 64)

pub sector_more : (first place sum next stamp : ℕ) (values : List Value) (value : Value) (seen : Seen) → place < length values → Some value ≡ slice_get values place
    → IsSeen (first + place) value seen → stamp ≡ stamp_of seen → next ≡ (sum + stamp) % 2 ^ 64 → FrontSums first values place sum → FrontSums first values (place + 1) next
sector_more first place sum next stamp values value seen inside at is stamped added h =
    let long : length (take place values) ≡ place = length-take-le place values (omega arith) in
    let P : ℕ → Type 0 = λ n. IsSeen (first + n) value seen in
    let Q : List Value → Type 0 = λ vs. AreSeen first vs (h.0 ++ seen ∷ []) in
    let read : get_or values place value ≡ value = get_or_from_slice_get values place value value (sym at) in
    let more : take (place + 1) values ≡ take place values ++ value ∷ [] = take_more values place value inside ∙ ap (λ (v : Value). take place values ++ v ∷ []) read in
    let total = sum_by-append stamp_of h.0 (seen ∷ []) in
    let before = h.2 in
    (h.0 ++ seen ∷ [], subst Q (sym more) (seen_push first (take place values) h.0 value seen h.1 (subst P (sym long) is)), omega arith)

-- one answer more
all_more : (answers : List Answer) (answer : Answer) (n m : ℕ) → AllSumTo answers n → SumsTo answer m → AllSumTo (answers ++ answer ∷ []) (n + m)
all_more [] answer n m h one = (m, 0, one, refl, omega arith)
all_more (a ∷ answers) answer n m h one = (h.0, h.1 + m, h.2, all_more answers answer h.1 m h.3 one, (let e = h.4 in omega arith))

abbrev pub FrontAll : List Answer → ℕ → ℕ → Type 0
FrontAll answers i sum = (total : ℕ) × AllSumTo (take i answers) total × (sum ≡ total % 2 ^ 64)

pub answer_more : (answers : List Answer) (answer : Answer) (i sum here next : ℕ) → i < length answers → answer ≡ get_or answers i answer
    → FrontAll answers i sum → (total : ℕ) × SumsTo answer total × (here ≡ total % 2 ^ 64) → next ≡ (sum + here) % 2 ^ 64 → FrontAll answers (i + 1) next
answer_more answers answer i sum here next inside is h one added =
    let P : List Answer → Type 0 = λ as_. AllSumTo as_ (h.0 + one.0) in
    let before = h.2 in
    let more = one.2 in
    (h.0 + one.0, subst P (sym (take_more answers i answer inside ∙ ap (λ (a : Answer). take i answers ++ a ∷ []) (sym is))) (all_more (take i answers) answer h.0 one.0 h.1 one.1), omega arith)
