use denote.Enum.Bare.{same_false, differs_true, differs_false}
use Rattle.std.proofs.Common.{◌≡◌, ◌≢◌, ◌<◌, ◌≤◌, ◌++◌, ◌∷◌, [], rules, length, subst, sym, ◌∙◌}
use Rattle.std.proofs.lemmas.List.{get_or_default}
use Rattle.bc_replay.specs.contracts.uses.Use.{the_type}
use Rattle.bc_replay.specs.Marks.{mark, AreMarked}
use Rattle.bc_replay.specs.declared.uses.Use.TheVariants as uses
use Rattle.bc_replay.proofs.Marks.{use_at, note_out, note_same, note_set, note_mixed}
use Rattle.bc_replay.proofs.uses.Table.note.Goals as goal

pub returns-then-bucket-len : goal.returns-then-bucket-len
returns-then-bucket-len c = λ g marks are.
    let table = c.args.self.now.uses.items in
    let bucket = c.args.bucket in
    let out : length table ≤ bucket = search rules in
    note_out g marks c.args.kind bucket c.requires table c.args.self.now.mixed out are

pub returns-then-eq : goal.returns-then-eq
returns-then-eq c = λ g marks are.
    let table = c.args.self.now.uses.items in
    let bucket = c.args.bucket in
    let within : bucket < length table = search rules in
    let free : use_at table bucket ≡ uses.None = search rules in
    note_set g marks c.args.kind bucket c.requires table within free c.args.self.now.mixed (search rules) are

pub returns-then-ne : goal.returns-then-ne
returns-then-ne c = λ g marks are.
    let table = c.args.self.now.uses.items in
    let bucket = c.args.bucket in
    let within : bucket < length table = search rules in
    let at : c.index.result.now ≡ use_at table bucket = c.index.ensures ∙ get_or_default table bucket c.index.result.now uses.None within in
    let used : use_at table bucket ≢ uses.None = λ none. same_false the_type c.index.result.now uses.None (sym c.if-eq.ensures) (at ∙ none) in
    let differs : use_at table bucket ≢ c.args.kind = λ same. differs_true the_type c.index.result.now c.args.kind (sym c.if-ne.ensures) (at ∙ same) in
    subst (AreMarked g (marks ++ mark c.args.kind bucket ∷ []) table) (sym c.lower_of-self.ensures.lower) (note_mixed g marks c.args.kind bucket c.requires table within used differs c.args.self.now.mixed are)

pub returns-else-ne : goal.returns-else-ne
returns-else-ne c = λ g marks are.
    let table = c.args.self.now.uses.items in
    let bucket = c.args.bucket in
    let within : bucket < length table = search rules in
    let at : c.index.result.now ≡ use_at table bucket = c.index.ensures ∙ get_or_default table bucket c.index.result.now uses.None within in
    let same : use_at table bucket ≡ c.args.kind = sym at ∙ differs_false the_type (search rules) c.index.result.now c.args.kind (sym c.if-ne.ensures) in
    note_same g marks c.args.kind bucket c.requires table c.args.self.now.mixed same are
