-- What serves no trace, by example.
use Rattle.std.proofs.Common.{◌≡◌, ◌≢◌, ◌⊎◌, inl, inr, ℕ, zero, suc, ◌+◌, ◌≤◌, List, [], ◌∷◌, ◌++◌, if◌then◌else◌, refl, sym, ap, ◌∙◌, subst, arith}
use Rattle.std.specs.List.{AllByRecursion}
use Rattle.bc_model.specs.Pieces.{Piece}
use Rattle.bc_model.specs.Values.{patterns}
use Rattle.bc_model.specs.declared.history.Entry.{Entry}
use Rattle.bc_model.specs.declared.history.Entry.TheVariants.{Write, Read, Durable, Tried}
use Rattle.bc_script.specs.Served.{Marked, entries_of, own, ServesEach, AreInOrder, AreBeside, IsOfLine, line_at, writes}
use Rattle.bc_script.specs.Example.{beside_lines, beside_answers, undurable_history, phase_lines, phase_answers, broken_history}
use Rattle.bc_script.proofs.Cases.{by_test}
use Rattle.bc_script.proofs.Marks.{own_is, own_other}

-- ---- entries of one kind

abbrev weight : Entry → ℕ
weight (Durable worker line first count) = 1
weight _ = 0

abbrev durables : List Entry → ℕ
durables [] = 0
durables (e ∷ es) = weight e + durables es

-- a line's own entries are some of all
own_few : (number : ℕ) (ms : List Marked) → durables (own number ms) ≤ durables (entries_of ms)
own_few number [] = omega arith
own_few number (m ∷ ms) =
    let more = own_few number ms in
    by_test m.number number (λ t. durables (if t then m.entry ∷ own number ms else own number ms) ≤ durables (entries_of (m ∷ ms))) (λ same. omega arith) (λ other. omega arith)

-- an acknowledgement is missing
pub undurable : (ms : List Marked) → entries_of ms ≡ undurable_history → ServesEach 64 1 beside_lines beside_answers ms → ⊥
undurable ms is serves =
    let few = own_few 2 ms in
    let all : durables (entries_of ms) ≡ 0 = ap (λ (es : List Entry). durables es) is in
    let one : durables (own 2 ms) ≡ 1 = ap (λ (es : List Entry). durables es) serves.1.0.1 in
    omega arith

-- ---- a phase

-- the line that comes first isn't that of the write, and so stands behind it or beside it
broken_order : (m n : Marked) → m.entry ≡ Read 2 3 0 (patterns 7 0 8) → own 1 (m ∷ n ∷ []) ≡ Write 1 1 0 (patterns 7 0 8) ∷ [] → (m.number ≢ 1) × (n.number ≡ 1)
broken_order m n reads owns = (first, second)
  where
    first : m.number ≢ 1
    first same = let e : m.entry ∷ own 1 (n ∷ []) ≡ Write 1 1 0 (patterns 7 0 8) ∷ [] = sym (own_is 1 m (n ∷ []) same) ∙ owns in absurd (cc)

    second : n.number ≡ 1
    second = by_test n.number 1 (λ t. n.number ≡ 1) (λ same. same) (λ other.
        let e : [] ≡ Write 1 1 0 (patterns 7 0 8) ∷ [] = sym (own_other 1 m (n ∷ []) first ∙ own_other 1 n [] other) ∙ owns in absurd (cc))

beside_first : (k : ℕ) → 1 ≤ k → k ≤ 3 → k ≢ 1 → AreBeside (line_at phase_lines k) (line_at phase_lines 1) → ⊥
beside_first zero low high other beside = omega arith
beside_first (suc zero) low high other beside = other refl
beside_first (suc (suc zero)) low high other beside = beside
beside_first (suc (suc (suc zero))) low high other beside = absurd (cc beside.1)
beside_first (suc (suc (suc (suc k)))) low high other beside = let over : suc (suc (suc (suc k))) ≤ 3 = high in omega arith

pub broken : (ms : List Marked) → entries_of ms ≡ broken_history → AllByRecursion (IsOfLine 3) ms → ServesEach 64 1 phase_lines phase_answers ms → AreInOrder phase_lines ms → ⊥
broken [] is known serves order = absurd (cc)
broken (m ∷ []) is known serves order = absurd (cc)
broken (m ∷ n ∷ []) is known serves order =
    let reads : m.entry ≡ Read 2 3 0 (patterns 7 0 8) = cc in
    let places = broken_order m n reads serves.0.1 in
    pick places.0 places.1 order.0.0
  where
    pick : m.number ≢ 1 → n.number ≡ 1 → (m.number ≤ n.number) ⊎ AreBeside (line_at phase_lines m.number) (line_at phase_lines n.number) → ⊥
    pick other one (inl le) = let low = known.0.0 in other (omega arith)
    pick other one (inr beside) =
        let P : ℕ → Type 0 = λ k. AreBeside (line_at phase_lines m.number) (line_at phase_lines k) in
        beside_first m.number known.0.0 known.0.1 other (subst P one beside)
broken (m ∷ n ∷ k ∷ ks) is known serves order = absurd (cc)

-- ---- a refused piece

abbrev pub first_piece : Piece
first_piece = record { first = 250; count = 6 }

abbrev pub second_piece : Piece
second_piece = record { first = 256; count = 10 }

-- nothing but the write of the first piece can stand in front, unless that piece is the refused one
pub missing : (served rest : List Piece) (refused : Piece) (tried : List Entry) → first_piece ∷ second_piece ∷ [] ≡ served ++ refused ∷ rest
    → (tried ≡ []) ⊎ (tried ≡ Tried refused.first (patterns 7 refused.first refused.count) ∷ [])
    → Tried 256 (patterns 7 256 10) ∷ [] ≡ writes 1 1 7 served ++ tried → ⊥
missing [] rest refused tried is (inl none) entries = absurd (cc)
missing [] rest refused tried is (inr one) entries =
    let at : first_piece ≡ refused = cc in
    let same : 250 ≡ refused.first = ap (λ (p : Piece). p.first) at in
    let e : Tried 256 (patterns 7 256 10) ≡ Tried refused.first (patterns 7 refused.first refused.count) = cc in
    let there : 256 ≡ refused.first = cc in
    omega arith
missing (p ∷ ps) rest refused tried is may entries = absurd (cc)
