use Rattle.std.proofs.Common.{◌∙◌, ap, sym, refl, drop, List, ℕ, Option}
use Rattle.std.specs.List.{position_or_len}
use Rattle.std.proofs.lemmas.Bool.{eqb-true, eqb-false}
use Rattle.std.proofs.lemmas.List.{nil_from_length}
use Rattle.bc_script.specs.Line.{is_space, number_at, number_of, words}
use Rattle.bc_script.proofs.Words.{front_word, nothing_behind, some_behind}
use Rattle.bc_script.proofs.parse.first_number.Goals as goal

pub front_number-requires : goal.front_number-requires
front_number-requires c = some_behind c.args.text.now _ _ c.blank_len.ensures.place c.split_at.ensures.back (eqb-false _ _ (sym c.is_empty.ensures ∙ c.if-is_empty.false))

pub returns-then-is_empty : goal.returns-then-is_empty
returns-then-is_empty c =
    let none = nil_from_length c.split_at.result.1.now (eqb-true _ _ (sym c.is_empty.ensures ∙ c.if-is_empty.true)) in
    ap (λ (ws : List (List ℕ)). number_at ws) (nothing_behind c.args.text.now _ _ c.blank_len.ensures.place c.split_at.ensures.back none)

pub returns-in-Some : goal.returns-in-Some
returns-in-Some c =
    let rest = c.split_at-in-Some.result.1.now in
    let some = some_behind c.args.text.now _ _ c.blank_len.ensures.place c.split_at.ensures.back (eqb-false _ _ (sym c.is_empty.ensures ∙ c.if-is_empty.false)) in
    ap (λ (ws : List (List ℕ)). number_at ws) (front_word c.args.text.now _ rest _ _ c.blank_len.ensures.place c.split_at.ensures.back some c.in-Some.ensures.1 c.split_at-in-Some.ensures.back)
    ∙ ap (λ (o : Option ℕ). number_of o (words rest)) c.in-Some.ensures.0

pub returns-in-None : goal.returns-in-None
returns-in-None c =
    let back = c.split_at.result.1.now in
    let rest = drop (position_or_len is_space back) back in
    let some = some_behind c.args.text.now _ _ c.blank_len.ensures.place c.split_at.ensures.back (eqb-false _ _ (sym c.is_empty.ensures ∙ c.if-is_empty.false)) in
    ap (λ (ws : List (List ℕ)). number_at ws) (front_word c.args.text.now back rest _ _ c.blank_len.ensures.place c.split_at.ensures.back some refl refl)
    ∙ ap (λ (o : Option ℕ). number_of o (words rest)) c.in-None.ensures
